-- `judgement` computes the relation `Judges`.
use Rattle.std.proofs.Common.{◌≡◌, ◌↔◌, ℕ, Bool, true, false, if◌then◌else◌, Option, None, Some, refl, ap, subst, ◌∙◌}
use Rattle.std.specs.Option.{option_or}
use Rattle.pv_model.specs.declared.judgement.Judgement.{Judgement}
use Rattle.pv_model.specs.declared.judgement.Judgement.TheVariants.{Allowed, Denied}
use Rattle.pv_model.specs.declared.perms.Perms.{Perms}
use Rattle.pv_model.specs.declared.place.Place.{Place}
use Rattle.pv_model.specs.declared.place.Place.TheVariants.{At, Node as Unnamed}
use Rattle.pv_model.specs.declared.target.Target.TheVariants.{Name}
use Rattle.pv_model.specs.Machine.{Bytes, GovernsName, covers, Tree, is_directory_at, Table, entry_for, permissions_at, directory_rights, judge_entry, governing_entry, judgement}
use Rattle.pv_model.specs.Closed.{by_name, by_directory}
use Rattle.pv_model.proofs.GoverningEntries.{Governs-directory_rights, directory_rights-Governs}
use Rattle.pv_laws_access.specs.Tables.{GovernsPlace, unnamed, without_node, directory, named, Judges, no_table, none_governs, lacks_permission, has_permissions}

module _ (t : Tree) (table : Table) where
  abbrev rights_of : ℕ → Bytes → Option ℕ
  rights_of d name = option_or (entry_for table (Name d name)) (directory_rights t table d)

  name-found : (d : ℕ) (name : Bytes) (k : ℕ) → GovernsName t table d name k → rights_of d name ≡ Some k
  name-found d name _ (by_name k is) = ap (λ o. option_or o (directory_rights t table d)) is
  name-found d name _ (by_directory k is above) = ap (λ o. option_or o (directory_rights t table d)) is ∙ directory_rights-Governs t table d k above

  found-name : (d : ℕ) (name : Bytes) (k : ℕ) → rights_of d name ≡ Some k → GovernsName t table d name k
  found-name d name k is = by (entry_for table (Name d name)) refl is
    where
      by : (o : Option ℕ) → entry_for table (Name d name) ≡ o → option_or o (directory_rights t table d) ≡ Some k → GovernsName t table d name k
      by None none found = by_directory k none (Governs-directory_rights t table d k found)
      by (Some j) own found = by_name k (own ∙ found)

  governs-found : (place : Place) (k : ℕ) → GovernsPlace t table place k → governing_entry t table place ≡ Some k
  unfolding governing_entry
  governs-found _ _ (unnamed n k g) = directory_rights-Governs t table n k g
  governs-found _ _ (without_node d name k g) = name-found d name k g
  governs-found _ _ (directory d name n k dir g) = ap (λ b. if b then directory_rights t table n else rights_of d name) dir ∙ directory_rights-Governs t table n k g
  governs-found _ _ (named d name n k plain g) = ap (λ b. if b then directory_rights t table n else rights_of d name) plain ∙ name-found d name k g

  found-governs : (place : Place) (k : ℕ) → governing_entry t table place ≡ Some k → GovernsPlace t table place k
  unfolding governing_entry
  found-governs (Unnamed n) k is = unnamed n k (Governs-directory_rights t table n k is)
  found-governs (At d name None) k is = without_node d name k (found-name d name k is)
  found-governs (At d name (Some n)) k is = by (is_directory_at t n) refl is
    where
      by : (b : Bool) → is_directory_at t n ≡ b → (if b then directory_rights t table n else rights_of d name) ≡ Some k → GovernsPlace t table (At d name (Some n)) k
      by true dir found = directory d name n k dir (Governs-directory_rights t table n k found)
      by false plain found = named d name n k plain (found-name d name k found)

module _ (t : Tree) (place : Place) (needed : Perms) where
  judges-judgement : (o : Option Table) (found : Judgement) → Judges t place needed o found → judgement t o place needed ≡ found
  unfolding judgement
  judges-judgement _ _ no_table = refl
  judges-judgement _ _ (none_governs table none) = ap (judge_entry table needed) (by (governing_entry t table place) refl)
    where
      by : (o : Option ℕ) → governing_entry t table place ≡ o → governing_entry t table place ≡ None
      by None is = is
      by (Some k) is = absurd (none k (found-governs t table place k is))
  judges-judgement _ _ (lacks_permission table k g lacks) = ap (judge_entry table needed) (governs-found t table place k g) ∙ ap (λ b. if b then Allowed else Denied k) lacks
  judges-judgement _ _ (has_permissions table k g has) = ap (judge_entry table needed) (governs-found t table place k g) ∙ ap (λ b. if b then Allowed else Denied k) has

  judgement-judges : (o : Option Table) → Judges t place needed o (judgement t o place needed)
  unfolding judgement
  judgement-judges None = no_table
  judgement-judges (Some table) = by (governing_entry t table place) refl
    where
      passes : (k : ℕ) → GovernsPlace t table place k → (b : Bool) → covers (permissions_at table k) needed ≡ b → Judges t place needed (Some table) (if b then Allowed else Denied k)
      passes k g true is = has_permissions table k g is
      passes k g false is = lacks_permission table k g is

      by : (o : Option ℕ) → governing_entry t table place ≡ o → Judges t place needed (Some table) (judge_entry table needed o)
      by None none = none_governs table (λ k g. let both : None ≡ Some k = Rattle.std.proofs.Common.sym none ∙ governs-found t table place k g in cc both)
      by (Some k) is = passes k (found-governs t table place k is) (covers (permissions_at table k) needed) refl

pub judgement-as_said : (t : Tree) (table : Option Table) (place : Place) (needed : Perms) (found : Judgement) → Judges t place needed table found ↔ (judgement t table place needed ≡ found)
judgement-as_said t table place needed found =
    (judges-judgement t place needed table found, λ is. subst (Judges t place needed table) is (judgement-judges t place needed table))
