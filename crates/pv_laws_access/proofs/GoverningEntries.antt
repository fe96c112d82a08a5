-- If the names of a file and the entries for the directories above them stay, each entry of a table governs the same
-- names.
use Rattle.std.proofs.Common.{◌≡◌, ◌≢◌, ℕ, Bool, true, [], Option, None, Some, refl, ap, sym, subst, ◌∙◌}
use Rattle.std.specs.FinMap.Entries.{find}
use Rattle.pv_model.specs.declared.perms.Perms.{Perms}
use Rattle.pv_model.specs.Machine.{Bytes, GovernsName, Process, State, Tree, root, is_directory_at, entries_at, find_entry, parent, IsAtOrAbove, IsWellFormed, Table, Governs, own, from_above}
use Rattle.pv_model.specs.Closed.{by_name, by_directory, GivesName, GivesAbove}
use Rattle.pv_model.specs.Tree.{itself, above}
use Rattle.pv_laws_trees.proofs.TreeChanges.{has_entry-directory}
use Rattle.pv_laws_trees.proofs.DirectoryEntries.{by_name as name_order}
use Rattle.pv_laws_trees.proofs.Trees.{parent-entry, ordered, sound, entry-parent}

-- ---- ancestors

-- one more directory, at the top
over-top : (t : Tree) (e d up : ℕ) → IsAtOrAbove t e d → e ≢ root → parent t e ≡ Some up → IsAtOrAbove t up d
over-top t e _ up itself apart is = above e up apart is itself
over-top t e _ up (above d next other at rest) apart is = above d next other at (over-top t e next up rest apart is)

module _ (t t' : Tree) (w : IsWellFormed t) (w' : IsWellFormed t') (f : ℕ)
    (stays : (d : ℕ) (name : Bytes) → find_entry t d name ≡ Some f → find_entry t' d name ≡ Some f)
    (above_stays : (d : ℕ) (name : Bytes) (e : ℕ) → find_entry t d name ≡ Some f → IsAtOrAbove t e d → is_directory_at t e ≡ true
    → (up : ℕ) (word : Bytes) → find_entry t up word ≡ Some e → find_entry t' up word ≡ Some e)
    (was : (d : ℕ) (name : Bytes) → find_entry t' d name ≡ Some f → find_entry t d name ≡ Some f) where
  -- a directory of the file, or an ancestor of one
  record IsOver (e : ℕ) : Type 0 where
    directory : ℕ
    name : Bytes
    found : find_entry t directory name ≡ Some f
    over : IsAtOrAbove t e directory

  -- it has an entry that stays
  record Holds (e : ℕ) : Type 0 where
    word : Bytes
    node : ℕ
    found : find_entry t e word ≡ Some node
    left : find_entry t' e word ≡ Some node

  rank : Rattle.pv_laws_trees.proofs.Trees.IsOrdered t
  rank = ordered t (sound t w).each_node

  holds : (e d : ℕ) (name : Bytes) (x : ℕ) → find_entry t x name ≡ Some f → IsAtOrAbove t d x → IsAtOrAbove t e d → Holds d → Holds e
  holds e _ name x found over itself has = has
  holds e _ name x found over (above d up apart is rest) has =
      let entry = parent-entry t rank d up apart is in
      holds e up name x found (over-top t d x up over apart is) rest
      (record { word = entry.0; node = d; found = entry.1; left = above_stays x name d found over (has_entry-directory t d has.word has.node has.found) up entry.0 entry.1 })

  over-holds : (e : ℕ) → IsOver e → Holds e
  over-holds e o = holds e o.directory o.name o.directory o.found itself o.over (record { word = o.name; node = f; found = o.found; left = stays o.directory o.name o.found })

  -- its parent is the same
  record HasAbove (e : ℕ) : Type 0 where
    up : ℕ
    before : parent t e ≡ Some up
    following : parent t' e ≡ Some up
    over : IsOver up

  has-above : (e : ℕ) → IsOver e → e ≢ root → HasAbove e
  has-above e o apart = by (parent t e) refl
    where
      h : Holds e
      h = over-holds e o

      by : (u : Option ℕ) → parent t e ≡ u → HasAbove e
      by None none =
          let bare : entries_at t e ≡ [] = w.removed_are_empty e (has_entry-directory t e h.word h.node h.found) none in
          let no : None ≡ Some h.node = sym (ap (find name_order h.word) bare) ∙ h.found in cc no
      by (Some up) is =
          let entry = parent-entry t rank e up apart is in
          let left = above_stays o.directory o.name e o.found o.over (has_entry-directory t e h.word h.node h.found) up entry.0 entry.1 in
          record {
            up = up;
            before = is;
            following = entry-parent t' (sound t' w') e up entry.0 (has_entry-directory t' e h.word h.node h.left) left;
            over = record { directory = o.directory; name = o.name; found = o.found; over = over-top t e o.directory up o.over apart is };
          }

  same-above : (e : ℕ) (h : HasAbove e) (up : ℕ) → parent t' e ≡ Some up → h.up ≡ up
  same-above e h up is = let both : Some h.up ≡ Some up = sym h.following ∙ is in cc both

  -- an entry that governs it governed it before
  governed : (table : Table) (e k : ℕ) → IsOver e → Governs t' table e k → Governs t table e k
  governed table _ _ o (own e k is) = own e k is
  governed table _ _ o (from_above e up k apart none is rest) =
      let h = has-above e o apart in
      let same = same-above e h up is in
      from_above e up k apart none (h.before ∙ ap Some same) (governed table up k (subst IsOver same h.over) rest)

  -- an ancestor of it was an ancestor before
  was-over : (e d : ℕ) → IsOver d → IsAtOrAbove t' e d → IsAtOrAbove t e d × IsOver e
  was-over e _ o itself = (itself, o)
  was-over e _ o (above d up apart is rest) =
      let h = has-above d o apart in
      let same = same-above d h up is in
      let more = was-over e up (subst IsOver same h.over) rest in
      (above d up apart (h.before ∙ ap Some same) more.0, more.1)

  here : (d : ℕ) (name : Bytes) → find_entry t d name ≡ Some f → IsOver d
  here d name found = record { directory = d; name = name; found = found; over = itself }

  governed-name : (table : Table) (d : ℕ) (name : Bytes) (k : ℕ) → find_entry t d name ≡ Some f → GovernsName t' table d name k → GovernsName t table d name k
  governed-name table d name _ found (by_name k is) = by_name k is
  governed-name table d name _ found (by_directory k none over) = by_directory k none (governed table d k (here d name found) over)

  -- an entry that governs a name of the file governed it before
  pub gave-name : (s s' : State) (p q : Process) (table : Table) (test : Perms → Bool) (k : ℕ) → s.tree ≡ t → s'.tree ≡ t' → GivesName s' q f table test k → GivesName s p f table test k
  gave-name s s' p q table test k is is' gives =
      let found : find_entry t gives.0 gives.1 ≡ Some f = was gives.0 gives.1 (ap (λ (u : Tree). find_entry u gives.0 gives.1) (sym is') ∙ gives.2) in (
        gives.0,
        gives.1,
        ap (λ (u : Tree). find_entry u gives.0 gives.1) is ∙ found,
        subst (λ (u : Tree). GovernsName u table gives.0 gives.1 k) (sym is)
            (governed-name table gives.0 gives.1 k found (subst (λ (u : Tree). GovernsName u table gives.0 gives.1 k) is' gives.3)),
        gives.4,
      )

  pub gave-above : (s s' : State) (p q : Process) (table : Table) (k : ℕ) → s.tree ≡ t → s'.tree ≡ t' → GivesAbove s' q f table k → GivesAbove s p f table k
  gave-above s s' p q table k is is' gives =
      let d = gives.0 in
      let name = gives.1 in
      let e = gives.2 in
      let found : find_entry t d name ≡ Some f = was d name (ap (λ (u : Tree). find_entry u d name) (sym is') ∙ gives.3) in
      let over = was-over e d (here d name found) (subst (λ (u : Tree). IsAtOrAbove u e d) is' gives.4) in (
        d,
        name,
        e,
        ap (λ (u : Tree). find_entry u d name) is ∙ found,
        subst (λ (u : Tree). IsAtOrAbove u e d) (sym is) over.0,
        subst (λ (u : Tree). Governs u table e k) (sym is) (governed table e k over.1 (subst (λ (u : Tree). Governs u table e k) is' gives.5)),
        gives.6,
      )
