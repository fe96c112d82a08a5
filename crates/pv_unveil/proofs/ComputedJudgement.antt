-- The computed judgement is by the entry that governs.
use Rattle.std.proofs.Common.{List, ◌≡◌, ℕ, Bool, true, false, cond, inl, inr, Option, None, Some, ◌∙◌, sym, refl}
use Rattle.std.specs.Option.{option_or}
use Rattle.pv_model.proofs.GoverningEntries.{Governs-directory_rights, directory_rights-Governs}
use Rattle.pv_model.specs.declared.perms.Perms.{Perms}
use Rattle.pv_model.specs.declared.judgement.Judgement.TheVariants.{Allowed, Denied}
use Rattle.pv_model.specs.declared.place.Place.{Place}
use Rattle.pv_model.specs.declared.place.Place.TheVariants.{At, Node as Unnamed}
use Rattle.pv_model.specs.declared.target.Target.{Target}
use Rattle.pv_model.specs.declared.target.Target.TheVariants.{Directory, Name}
use Rattle.pv_model.specs.Machine.{covers, Tree, is_directory_at, Table, entry_for, permissions_at, target_of, directory_rights, governing_entry, judge_entry, judgement}
use Rattle.pv_unveil.specs.Judged.{GovernsTarget, IsJudged}

module _ (t : Tree) (table : Table) where
  -- the entry that governs a target, as the code computes it
  abbrev target_entry : Target → Option ℕ
  target_entry (Directory d) = directory_rights t table d
  target_entry (Name d name) = option_or (entry_for table (Name d name)) (directory_rights t table d)

  governing_entry-target : (place : Place) → governing_entry t table place ≡ target_entry (target_of t place)
  unfolding governing_entry
  governing_entry-target (Unnamed n) = refl
  governing_entry-target (At d name None) = refl
  governing_entry-target (At d name (Some n)) =
      elim (is_directory_at t n) as
      (λ b. cond b (directory_rights t table n) (option_or (entry_for table (Name d name)) (directory_rights t table d)) ≡ target_entry (cond b (Directory n) (Name d name))) [
        | true ↦ refl
        | false ↦ refl
      ]

  by_name : (d k : ℕ) (name : List ℕ) (own : Option ℕ) → entry_for table (Name d name) ≡ own → option_or own (directory_rights t table d) ≡ Some k → GovernsTarget t table (Name d name) k
  by_name d k name (Some j) found is = inl (found ∙ is)
  by_name d k name None found is = inr (found, Governs-directory_rights t table d k is)

  GovernsTarget-found : (target : Target) (k : ℕ) → target_entry target ≡ Some k → GovernsTarget t table target k
  GovernsTarget-found (Directory d) k is = Governs-directory_rights t table d k is
  GovernsTarget-found (Name d name) k is = by_name d k name (entry_for table (Name d name)) refl is

  found-GovernsTarget : (target : Target) (k : ℕ) → GovernsTarget t table target k → target_entry target ≡ Some k
  found-GovernsTarget (Directory d) k g = directory_rights-Governs t table d k g
  found-GovernsTarget (Name d name) k (inl own) = rw own refl
  found-GovernsTarget (Name d name) k (inr above) = let none = above.0 in rw none (directory_rights-Governs t table d k above.1)

  by_permissions : (place : Place) (needed : Perms) (k : ℕ) → GovernsTarget t table (target_of t place) k → (b : Bool) → covers (permissions_at table k) needed ≡ b
      → IsJudged t (Some table) place needed (cond b Allowed (Denied k))
  by_permissions place needed k g true is = (k, g, is)
  by_permissions place needed k g false is = (g, is)

  by_entry : (place : Place) (needed : Perms) (found : Option ℕ) → target_entry (target_of t place) ≡ found → IsJudged t (Some table) place needed (judge_entry table needed found)
  by_entry place needed None is = λ k g. let h = found-GovernsTarget (target_of t place) k g in cc
  by_entry place needed (Some k) is = by_permissions place needed k (GovernsTarget-found (target_of t place) k is) (covers (permissions_at table k) needed) refl

pub IsJudged-judgement : (t : Tree) (table : Option Table) (place : Place) (needed : Perms) → IsJudged t table place needed (judgement t table place needed)
unfolding judgement
IsJudged-judgement t None place needed = refl
IsJudged-judgement t (Some table) place needed = by_entry t table place needed (governing_entry t table place) (sym (governing_entry-target t table place))
