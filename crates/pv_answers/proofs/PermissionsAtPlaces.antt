-- The permissions of a process at a place, by its governing entry.
use Rattle.std.proofs.Common.{◌≡◌, ℕ, true, false, cond, ◌&&◌, ◌++◌, codes, Option, None, Some, refl, ap₂, sym, ◌∙◌}
use Rattle.pv_model.specs.declared.judgement.Judgement.TheVariants.{Allowed, Denied}
use Rattle.pv_model.specs.declared.perms.Perms.{Perms}
use Rattle.pv_model.specs.declared.place.Place.{Place}
use Rattle.pv_model.specs.declared.promise.Promise.TheVariants.{Rpath, Wpath, Cpath, Exec}
use Rattle.pv_model.specs.Machine.{permissions_in_places, is_allowed, Bytes, entries_of_table, covers, no_permissions, permission_r, permission_x, permission_c, Process, State, Tree, Table, governing_entry, judge_entry, judgement, permissions_at}
use Rattle.pv_model.specs.Answers.Reach.{governed_text, governor_text, reached_permissions, who}
use Rattle.pv_model.specs.Perms.{permission_w}
use Rattle.pv_model.specs.Promises.{holds}
use Rattle.pv_answers.specs.declared.reach.reacher.Reacher.{Reacher}
use Rattle.pv_answers.specs.Reaching.{given_by, governed_words, reacher_process, promised, reacher_state, reacher_table, who_by}
use Rattle.pv_calls_state.proofs.OfLawsTrees.UnveilTargets.{covers-r, covers-w, covers-x, covers-c}

-- ---- the decision

allowed-by : (table : Table) (needed : Perms) (entry : Option ℕ) → covers no_permissions needed ≡ false
    → is_allowed (judge_entry table needed entry) ≡ covers (given_by (Some table) entry) needed
allowed-by table needed None some = sym some
allowed-by table needed (Some k) some =
    elim (covers (permissions_at table k) needed) as (λ b. is_allowed (cond b Allowed (Denied k)) ≡ b) [
      | true ↦ refl
      | false ↦ refl
    ]

allowed-is : (t : Tree) (table : Option Table) (place : Place) (needed : Perms) → covers no_permissions needed ≡ false
    → is_allowed (judgement t table place needed) ≡ covers (given_by table (governing_entry t (entries_of_table table) place)) needed
unfolding judgement
allowed-is t None place needed some = refl
allowed-is t (Some table) place needed some = allowed-by table needed (governing_entry t table place) some

module _ (s : State) (p : Process) (place : Place) where
  abbrev governor : Option ℕ
  governor = governing_entry s.tree (entries_of_table p.table) place

  -- the four permissions are those of the governing entry whose promises are held
  pub letters-are : reached_permissions s p place ≡ promised p.promises (given_by p.table governor)
  unfolding reached_permissions
  letters-are =
      let given = given_by p.table governor in
      let r : is_allowed (judgement s.tree p.table place permission_r) ≡ given.r = allowed-is s.tree p.table place permission_r refl ∙ covers-r given in
      let w : is_allowed (judgement s.tree p.table place permission_w) ≡ given.w = allowed-is s.tree p.table place permission_w refl ∙ covers-w given in
      let x : is_allowed (judgement s.tree p.table place permission_x) ≡ given.x = allowed-is s.tree p.table place permission_x refl ∙ covers-x given in
      let c : is_allowed (judgement s.tree p.table place permission_c) ≡ given.c = allowed-is s.tree p.table place permission_c refl ∙ covers-c given in
      λ i. record {
        r = r i && holds p.promises Rpath;
        w = w i && holds p.promises Wpath;
        x = x i && holds p.promises Exec;
        c = c i && holds p.promises Cpath;
      }

  text-of : (table : Option Table) → who s p table place ≡ who_by table (governing_entry s.tree (entries_of_table table) place)
  text-of None = refl
  text-of (Some table) = by (governing_entry s.tree table place)
    where
      by : (entry : Option ℕ) → governor_text s p entry ≡ who_by (Some table) entry
      by None = refl
      by (Some k) = refl

  -- the governor of a place
  pub who-is : who s p p.table place ≡ who_by p.table governor
  who-is = text-of p.table

-- a place in words, by its governing entry
pub governed-is : (x : Reacher) (place : Place) (words : Bytes)
    → governed_words x (governing_entry (reacher_state x).tree (entries_of_table (reacher_table x)) place) words ≡ governed_text (reacher_state x) (reacher_process x) place words
governed-is x place words =
    ap₂ (λ (ps : Perms) (bs : Bytes). permissions_in_places ps ++ codes " " ++ words ++ codes ", " ++ bs)
    (sym (letters-are (reacher_state x) (reacher_process x) place)) (sym (who-is (reacher_state x) (reacher_process x) place))
