-- The entry that governs a place before and after a step: the same, unless an entry of a directory changed there or
-- above.
use Rattle.std.proofs.Common.{◌≡◌, ◌≢◌, ◌⊎◌, inl, inr, ⊎_elim, ℕ, suc, ◌<◌, Bool, true, false, if◌then◌else◌, ◌&&◌, ◌==◌, List, [], ◌++◌, length, slice_get, Option, None, Some, is_some, refl, ap, sym, subst, ◌∙◌}
use Rattle.std.specs.Prelude.{option_and_then}
use Rattle.std.specs.Option.{option_or}
use Rattle.std.proofs.lemmas.Bool.{ne_eqb, eqb-false, cases_eq, and_parts, and_from}
use Rattle.pv_model.specs.declared.call.Call.{Call}
use Rattle.pv_model.specs.declared.perms.Perms.{Perms}
use Rattle.pv_model.specs.declared.place.Place.{Place}
use Rattle.pv_model.specs.declared.place.Place.TheVariants.{At, Node as Unnamed}
use Rattle.pv_model.specs.declared.promise.Promise.{Promise}
use Rattle.pv_model.specs.declared.promise.Promise.TheVariants.{Rpath, Wpath, Cpath, Exec}
use Rattle.pv_model.specs.declared.target.Target.{Target}
use Rattle.pv_model.specs.declared.target.Target.TheVariants.{Directory, Name}
use Rattle.pv_model.specs.Machine.{at_next_line, update, is_allowed, Bytes, with_content_of, with_content, end_process, Reply, name_of, collect, needs, needs_cpath, covers, permission_r, permission_x, permission_c, next, Promises, missing_promise, Program, Process, State, process_at, step, Touches, Node, directory_node, file_node, link_node, Tree, root, node_at, is_directory, is_directory_at, find_entry, parent, IsAtOrAbove, with_node, without_entry, new_number, with_new_node, Table, entry_for, permissions_at, Governs, own, from_above, directory_rights, judge_entry, governing_entry, judgement}
use Rattle.pv_model.specs.Answers.Reach.{reached_permissions}
use Rattle.pv_model.specs.Perms.{permission_w}
use Rattle.pv_model.specs.Promises.{holds}
use Rattle.pv_model.specs.Touch.{change_entry}
use Rattle.pv_model.specs.Tree.{itself, above as is_above}
use Rattle.pv_model.specs.Unveil.{permissions_of, rights_above}
use Rattle.pv_model.proofs.GoverningEntries.{Governs-directory_rights, directory_rights-Governs}
use Rattle.pv_laws_trees.specs.Tree.{IsSoundTree}
use Rattle.pv_laws_trees.proofs.Ancestors.{entry-reached, IsBelow, at_root, one_below, reached-below}
use Rattle.pv_laws_trees.proofs.TreeChanges.{directory-below, node_at-same, node_at-other, has_entry-directory, still-there, directory_is_some}
use Rattle.pv_laws_trees.proofs.WellFormedChanges.{new_number-free}
use Rattle.pv_laws_trees.proofs.NumberedMaps.{at_number-below}
use Rattle.pv_laws_trees.proofs.Trees.{ordered, sound, parent-entry, parent-none_named, entry-parent}
use Rattle.pv_laws_trees.proofs.UnveilTargets.{covers-c}
use Rattle.pv_laws_states.specs.States.{is_call, EncodesPrograms, IsTree, IsFinePlace, IsValid}
use Rattle.pv_laws_states.proofs.ValidBySteps.{step-keeps_valid}
use Rattle.pv_laws_states.proofs.ValidByTree.{named-place}
use Rattle.pv_laws_states.proofs.ValidEnds.{tree-end}
use Rattle.pv_laws_states.proofs.GrownTrees.{carries-entries}
use Rattle.pv_laws_states.proofs.CallOutcomes.{at_call}
use Rattle.pv_laws_states.proofs.Processes.{process_at-same, tree-update}
use Rattle.pv_laws_states.proofs.ValidReplies.{valid-at_call}
use Rattle.pv_laws_access.specs.Growth.{GainsNone, HasNoMoreRights}
use Rattle.pv_laws_access.proofs.ChangedTrees.{new-within}
use Rattle.pv_laws_access.proofs.ProcessesAfterEnds.{valid-in_order}
use Rattle.pv_laws_access.proofs.CallEffects
use Rattle.pv_laws_access.proofs.ProgramImages.{grows-never}
use Rattle.pv_laws_access.proofs.JustifiedChanges.{entries-edited}
use Rattle.pv_laws_access.proofs.PromiseLimits.{equal-or_not}
use Rattle.pv_laws_access.proofs.TouchingCalls.{touched}
use Rattle.pv_laws_access.proofs.SealedSteps.{collect-there}
use Rattle.pv_laws_answers.specs.OverTime.{place_in, permissions_of_name, IsOwnStep, PermissionsOnlyDecrease, IsAtOrAbovePlace, there as at_name, above_before, above_after, GrantsNoC}
use Rattle.pv_laws_answers.proofs.SinglePermissions.{gives-covers, missing-first, need-has}
use Rattle.pv_laws_answers.proofs.RestraintLines.{permitted}
use Rattle.pv_laws_answers.specs.Wanted.{Permits}

-- ---- climbing, one step

option-same : (x y : Option ℕ) → ((k : ℕ) → x ≡ Some k → y ≡ Some k) → ((k : ℕ) → y ≡ Some k → x ≡ Some k) → x ≡ y
option-same None None to back = refl
option-same None (Some k) to back = back k refl
option-same (Some k) y to back = sym (to k refl)

module _ (t : Tree) (table : Table) where
  abbrev step_up : ℕ → Option ℕ
  step_up d = option_or (entry_for table (Directory d)) (rights_above t table (directory_rights t table) d)

  rights-step : (d : ℕ) → directory_rights t table d ≡ step_up d
  rights-step d = option-same (directory_rights t table d) (step_up d) (λ k is. to d k (Governs-directory_rights t table d k is)) (λ k is. back k (entry_for table (Directory d)) refl is)
    where
      to : (d k : ℕ) → Governs t table d k → step_up d ≡ Some k
      to _ _ (own d k is) = ap (λ o. option_or o (rights_above t table (directory_rights t table) d)) is
      to _ _ (from_above d above k other none up g) =
          ap (λ o. option_or o (rights_above t table (directory_rights t table) d)) none
          ∙ ap (λ b. if b then None else option_and_then (directory_rights t table) (parent t d)) (ne_eqb d root other)
          ∙ ap (option_and_then (directory_rights t table)) up ∙ directory_rights-Governs t table above k g

      by_parent : (k : ℕ) → entry_for table (Directory d) ≡ None → d ≢ root → (o : Option ℕ) → parent t d ≡ o → option_and_then (directory_rights t table) o ≡ Some k → directory_rights t table d ≡ Some k
      by_parent k none other None up is = cc is
      by_parent k none other (Some a) up is = directory_rights-Governs t table d k (from_above d a k other none up (Governs-directory_rights t table a k is))

      by_root : (k : ℕ) → entry_for table (Directory d) ≡ None → (b : Bool) → (d == root) ≡ b → (if b then None else option_and_then (directory_rights t table) (parent t d)) ≡ Some k → directory_rights t table d ≡ Some k
      by_root k none true top is = cc is
      by_root k none false other is = by_parent k none (eqb-false d root other) (parent t d) refl is

      back : (k : ℕ) → (o : Option ℕ) → entry_for table (Directory d) ≡ o → option_or o (rights_above t table (directory_rights t table) d) ≡ Some k → directory_rights t table d ≡ Some k
      back k (Some j) has is = directory_rights-Governs t table d k (own d k (has ∙ is))
      back k None none is = by_root k none (d == root) refl is

  rights-up : (d above : ℕ) → d ≢ root → parent t d ≡ Some above → directory_rights t table d ≡ option_or (entry_for table (Directory d)) (directory_rights t table above)
  rights-up d above other up =
      rights-step d ∙ ap (λ b. option_or (entry_for table (Directory d)) (if b then None else option_and_then (directory_rights t table) (parent t d))) (ne_eqb d root other)
      ∙ ap (λ o. option_or (entry_for table (Directory d)) (option_and_then (directory_rights t table) o)) up

  rights-removed : (d : ℕ) → d ≢ root → parent t d ≡ None → directory_rights t table d ≡ option_or (entry_for table (Directory d)) None
  rights-removed d other up =
      rights-step d ∙ ap (λ b. option_or (entry_for table (Directory d)) (if b then None else option_and_then (directory_rights t table) (parent t d))) (ne_eqb d root other)
      ∙ ap (λ o. option_or (entry_for table (Directory d)) (option_and_then (directory_rights t table) o)) up

-- ---- two trees

-- an entry for a directory at or above another one differs between two trees
record DiffersAbove (t u : Tree) (d : ℕ) : Type 0 where
  directory : ℕ
  entry : ℕ
  word : Bytes
  over : IsAtOrAbove t directory d
  differs : find_entry u entry word ≢ find_entry t entry word
  names : (find_entry t entry word ≡ Some directory) ⊎ (find_entry u entry word ≡ Some directory)

module _ (t u : Tree) (s : IsSoundTree t) (w : IsSoundTree u) (table : Table) where
  abbrev Same : ℕ → Type 0
  Same d = directory_rights u table d ≡ directory_rights t table d

  differs-at : (d entry : ℕ) (word : Bytes) → find_entry u entry word ≢ find_entry t entry word → (find_entry t entry word ≡ Some d) ⊎ (find_entry u entry word ≡ Some d) → DiffersAbove t u d
  differs-at d entry word differs names = record { directory = d; entry = entry; word = word; over = itself; differs = differs; names = names }

  differs-up : (d above : ℕ) → d ≢ root → parent t d ≡ Some above → DiffersAbove t u above → DiffersAbove t u d
  differs-up d above other up is = record { directory = is.directory; entry = is.entry; word = is.word; over = is_above d above other up is.over; differs = is.differs; names = is.names }

  -- an entry for a directory exists in one tree but not in the other
  gone-from : (d entry : ℕ) (word : Bytes) → find_entry t entry word ≡ Some d → find_entry u entry word ≢ Some d → DiffersAbove t u d
  gone-from d entry word found lost = differs-at d entry word (λ same. lost (same ∙ found)) (inl found)

  come-to : (d entry : ℕ) (word : Bytes) → find_entry u entry word ≡ Some d → find_entry t entry word ≢ Some d → DiffersAbove t u d
  come-to d entry word found new = differs-at d entry word (λ same. new (sym same ∙ found)) (inr found)

  -- a directory that is not removed has the same parent, or an entry for it differs
  parents : (d above : ℕ) → is_directory_at t d ≡ true → d ≢ root → parent t d ≡ Some above → (parent u d ≡ Some above) ⊎ DiffersAbove t u d
  parents d above dir other up =
      let entry = parent-entry t (ordered t s.each_node) d above other up in
      ⊎_elim (λ preserved. by entry.0 entry.1 preserved (parent u d) refl) (λ lost. inr (gone-from d above entry.0 entry.1 lost)) (equal-or_not (find_entry u above entry.0) (Some d))
    where
      by : (word : Bytes) → find_entry t above word ≡ Some d → find_entry u above word ≡ Some d → (o : Option ℕ) → parent u d ≡ o → (parent u d ≡ Some above) ⊎ DiffersAbove t u d
      by word found preserved None none = absurd ((parent-none_named u d none).1 above word preserved)
      by word found preserved (Some e) is =
          let new = parent-entry u (ordered u w.each_node) d e other is in
          ⊎_elim
          (λ was. let one = s.directories_once d dir above word e new.0 found was in inl (is ∙ ap Some (sym one.0)))
          (λ fresh. inr (come-to d e new.0 new.1 fresh))
          (equal-or_not (find_entry t e new.0) (Some d))

  same-below : (d k : ℕ) → IsBelow t d k → is_directory_at t d ≡ true → Same d ⊎ DiffersAbove t u d
  same-below _ _ at_root dir = inl (rights-step u table root ∙ sym (rights-step t table root))
  same-below _ _ (one_below d above k other up below) dir =
      ⊎_elim
      (λ preserved. ⊎_elim
      (λ same. inl (rights-up u table d above other preserved ∙ ap (option_or (entry_for table (Directory d))) same ∙ sym (rights-up t table d above other up)))
      (λ differs. inr (differs-up d above other up differs))
      (same-below above k below (let entry = parent-entry t (ordered t s.each_node) d above other up in has_entry-directory t above entry.0 d entry.1)))
      (λ differs. inr differs)
      (parents d above dir other up)

  same-removed : (d : ℕ) → d ≢ root → parent t d ≡ None → Same d ⊎ DiffersAbove t u d
  same-removed d other none = by (parent u d) refl
    where
      by : (o : Option ℕ) → parent u d ≡ o → Same d ⊎ DiffersAbove t u d
      by None too = inl (rights-removed u table d other too ∙ sym (rights-removed t table d other none))
      by (Some e) is =
          let new = parent-entry u (ordered u w.each_node) d e other is in
          inr (come-to d e new.0 new.1 ((parent-none_named t d none).1 e new.0))

  same-rights : (d : ℕ) → is_directory_at t d ≡ true → Same d ⊎ DiffersAbove t u d
  same-rights d dir =
      ⊎_elim
      (λ top. inl (subst (λ x. directory_rights u table x ≡ directory_rights t table x) (sym top) (rights-step u table root ∙ sym (rights-step t table root))))
      (λ other. by other (parent t d) refl)
      (cases_eq d root)
    where
      by : d ≢ root → (o : Option ℕ) → parent t d ≡ o → Same d ⊎ DiffersAbove t u d
      by other None none = same-removed d other none
      by other (Some above) up =
          let entry = parent-entry t (ordered t s.each_node) d above other up in
          let high = reached-below t s above (entry-reached t s above entry.0 d entry.1) (has_entry-directory t above entry.0 d entry.1) in
          same-below d (suc high.0) (one_below d above high.0 other up high.1) dir

  -- ---- places

  abbrev DiffersAt : ℕ → Bytes → Type 0
  DiffersAt d name = (find_entry u d name ≢ find_entry t d name) ⊎ DiffersAbove t u d

  same-governor : (d : ℕ) (name : Bytes) → is_directory_at t d ≡ true → ((n : ℕ) → find_entry t d name ≡ Some n → find_entry u d name ≡ Some n → is_directory_at u n ≡ is_directory_at t n)
      → (governing_entry u table (place_in u d name) ≡ governing_entry t table (place_in t d name)) ⊎ DiffersAt d name
  unfolding governing_entry
  same-governor d name dir kinds =
      ⊎_elim
      (λ same. ⊎_elim (λ rights. inl (of (find_entry t d name) refl same rights)) (λ differs. inr (inr differs)) (same-rights d dir))
      (λ differs. inr (inl differs))
      (equal-or_not (find_entry u d name) (find_entry t d name))
    where
      named : Same d → option_or (entry_for table (Name d name)) (directory_rights u table d) ≡ option_or (entry_for table (Name d name)) (directory_rights t table d)
      named rights = ap (option_or (entry_for table (Name d name))) rights

      -- the entry of the directory itself
      own-same : (n : ℕ) → find_entry t d name ≡ Some n → find_entry u d name ≡ Some n → is_directory_at t n ≡ true → Same d → directory_rights u table n ≡ directory_rights t table n
      own-same n found preserved is rights =
          let other : n ≢ root = s.root_is_unnamed d name n found in
          rights-up u table n d other (entry-parent u w n d name (kinds n found preserved ∙ is) preserved) ∙ ap (option_or (entry_for table (Directory n))) rights
          ∙ sym (rights-up t table n d other (entry-parent t s n d name is found))

      by_kind : (n : ℕ) → find_entry t d name ≡ Some n → find_entry u d name ≡ Some n → Same d → (b : Bool) → is_directory_at t n ≡ b
          → governing_entry u table (At d name (Some n)) ≡ governing_entry t table (At d name (Some n))
      by_kind n found preserved rights true is =
          ap (λ b. if b then directory_rights u table n else option_or (entry_for table (Name d name)) (directory_rights u table d)) (kinds n found preserved ∙ is)
          ∙ own-same n found preserved is rights
          ∙ sym (ap (λ b. if b then directory_rights t table n else option_or (entry_for table (Name d name)) (directory_rights t table d)) is)
      by_kind n found preserved rights false is =
          ap (λ b. if b then directory_rights u table n else option_or (entry_for table (Name d name)) (directory_rights u table d)) (kinds n found preserved ∙ is)
          ∙ named rights
          ∙ sym (ap (λ b. if b then directory_rights t table n else option_or (entry_for table (Name d name)) (directory_rights t table d)) is)

      of : (o : Option ℕ) → find_entry t d name ≡ o → find_entry u d name ≡ find_entry t d name → Same d
          → governing_entry u table (At d name (find_entry u d name)) ≡ governing_entry t table (At d name (find_entry t d name))
      of None none same rights =
          ap (λ o. governing_entry u table (At d name o)) (same ∙ none) ∙ named rights ∙ sym (ap (λ o. governing_entry t table (At d name o)) none)
      of (Some n) found same rights =
          ap (λ o. governing_entry u table (At d name o)) (same ∙ found) ∙ by_kind n found (same ∙ found) rights (is_directory_at t n) refl ∙ sym (ap (λ o. governing_entry t table (At d name o)) found)

-- ---- nodes keep their kinds

kind-content : (t : Tree) (f : ℕ) (bytes : Bytes) (n : ℕ) → is_directory_at (with_content t f bytes) n ≡ is_directory_at t n
kind-content t f bytes n = by (node_at t f) refl
  where
    by : (o : Option Node) → node_at t f ≡ o → is_directory_at (with_content_of t f o bytes) n ≡ is_directory_at t n
    by None at = refl
    by (Some (directory_node es)) at = refl
    by (Some (link_node text)) at = refl
    by (Some (file_node executable old)) at =
        let below = at_number-below t.nodes f (file_node executable old) at in
        ⊎_elim
        (λ same. ap (is_directory_at (with_node t f (file_node executable bytes))) same ∙ ap is_directory (node_at-same t f (file_node executable bytes) below) ∙ sym (ap (is_directory_at t) same ∙ ap is_directory at))
        (λ other. ap is_directory (node_at-other t f (file_node executable bytes) n below other))
        (cases_eq n f)

module _ (t : Tree) (n : ℕ) (old : is_some (node_at t n) ≡ true) where
  kind-new : (p : ℕ × Bytes) (node : Node) → is_directory_at t p.0 ≡ true → new_number t < length t.nodes → is_directory_at (with_new_node t p.0 p.1 node) n ≡ is_directory_at t n
  kind-new p node dir below =
      let apart : n ≢ new_number t = λ same. let bad : true ≡ false = sym old ∙ ap (λ k. is_some (node_at t k)) same ∙ ap is_some (new_number-free t) in cc bad in
      let beside : p.0 ≢ new_number t = λ same. let bad : true ≡ false = sym dir ∙ ap (is_directory_at t) same ∙ ap is_directory (new_number-free t) in cc bad in
      let preserved : node_at (with_node t (new_number t) node) n ≡ node_at t n = node_at-other t (new_number t) node n below apart in
      let holds_it : is_directory_at (with_node t (new_number t) node) p.0 ≡ true = ap is_directory (node_at-other t (new_number t) node p.0 below beside) ∙ dir in
      (carries-entries (with_node t (new_number t) node) p.0 _ holds_it).directory n (ap is_some preserved ∙ old) ∙ ap is_directory preserved

  kind-entries : (p : ℕ × Bytes) (es : List (Bytes × ℕ)) → is_directory_at t p.0 ≡ true → is_directory_at (with_node t p.0 (directory_node es)) n ≡ is_directory_at t n
  kind-entries p es dir = (carries-entries t p.0 es dir).directory n old

module _ (s : State) (pid : ℕ) (me : Process) (call : Call) (whole : IsValid s) (at : process_at s pid ≡ Some me) (is_good : is_call call ≡ true) (n : ℕ) (old : is_some (node_at s.tree n) ≡ true) where
  directory-of : (place : Place) (p : ℕ × Bytes) → CallEffects.MayChange s pid me call place p → is_directory_at s.tree p.0 ≡ true
  directory-of place p change = (named-place s.tree place p (change.fine whole at is_good) change.name).directory

  many : (u : Tree) → IsTree u → u.inodes ≡ s.tree.inodes → length u.nodes ≡ length s.tree.nodes
  many u tree same = tree.well_formed.numbers ∙ ap suc same ∙ sym whole.tree.well_formed.numbers

  kinds-by : (after : State) (r : Reply) → CallEffects.HasEffect s pid me call after r → IsTree after.tree → is_directory_at after.tree n ≡ is_directory_at s.tree n
  kinds-by _ _ (CallEffects.stays r waiting) tree = refl
  kinds-by _ _ (CallEffects.restrains q r no_more same parent table goes) tree = refl
  kinds-by _ _ (CallEffects.begins path program is) tree = refl
  kinds-by _ _ (CallEffects.closes k) tree = refl
  kinds-by _ _ (CallEffects.copies e x k is) tree = refl
  kinds-by _ _ (CallEffects.forks is) tree = refl
  kinds-by _ _ (CallEffects.reaps k r ended goes) tree = refl
  kinds-by _ _ (CallEffects.moves k was new r has node mode named goes) tree = refl
  kinds-by _ _ (CallEffects.cuts f bytes has) tree = kind-content s.tree f bytes n
  kinds-by _ _ (CallEffects.writes_bytes f bytes k was new m has found node mode named) tree = kind-content s.tree f bytes n
  kinds-by _ _ (CallEffects.makes place p node change free bare) tree =
      kind-new s.tree n old p node (directory-of place p change) (new-within s.tree p node (many (with_new_node s.tree p.0 p.1 node) tree refl))
  kinds-by _ _ (CallEffects.links place p from m change allowed is fine) tree = kind-entries s.tree n old p _ (directory-of place p change)
  kinds-by _ _ (CallEffects.unlinks place p change) tree = kind-entries s.tree n old p _ (directory-of place p change)
  kinds-by _ _ (CallEffects.renames place p next q m from into is) tree =
      let dir = directory-of place p from in
      let target = directory-of next q into in
      let first : is_directory_at (without_entry s.tree p.0 p.1) n ≡ is_directory_at s.tree n = kind-entries s.tree n old p _ dir in
      let holds_it : is_directory_at (without_entry s.tree p.0 p.1) q.0 ≡ true = kind-entries s.tree q.0 (directory_is_some (node_at s.tree q.0) target) p _ dir ∙ target in
      kind-entries (without_entry s.tree p.0 p.1) n (still-there s.tree p.0 _ (directory-below s.tree p.0 dir) n old) q _ holds_it ∙ first
  kinds-by _ _ (CallEffects.opens flags place m k flagged allowed is fine written) tree = by flags.truncate
    where
      by : (b : Bool) → is_directory_at (if b then with_content s.tree m [] else s.tree) n ≡ is_directory_at s.tree n
      by true = kind-content s.tree m [] n
      by false = refl
  kinds-by _ _ (CallEffects.creates flags place p k flagged allowed create named free fine) tree =
      kind-new s.tree n old p (file_node false []) (named-place s.tree place p (fine whole at is_good) named).directory
      (new-within s.tree p (file_node false []) (many (with_new_node s.tree p.0 p.1 (file_node false [])) tree refl))

same-or_not : (a b : Bool) → (a ≡ b) ⊎ (a ≢ b)
same-or_not true true = inl refl
same-or_not false false = inl refl
same-or_not true false = inr (λ is. cc is)
same-or_not false true = inr (λ is. cc is)

preserved-kind : (program_of : Bytes → Option Program) (s : State) (pid : ℕ) → IsValid s → (n : ℕ) → is_some (node_at s.tree n) ≡ true → is_some (node_at (step program_of s pid).after.tree n) ≡ true
    → is_directory_at (step program_of s pid).after.tree n ≡ is_directory_at s.tree n
preserved-kind program_of s pid whole n old left =
    ⊎_elim (λ same. same) (λ differs. absurd (by differs)) (same-or_not (is_directory_at (step program_of s pid).after.tree n) (is_directory_at s.tree n))
  where
    by : is_directory_at (step program_of s pid).after.tree n ≢ is_directory_at s.tree n → ⊥
    by differs =
        let t = touched program_of s pid whole (λ (y : State). (is_some (node_at y.tree n) ≡ true) × (is_directory_at y.tree n ≢ is_directory_at s.tree n))
        (λ both. both.1 refl)
        (λ p q at same both. both.1 refl)
        (λ y me status tree ascending others both.
        both.1 (ap is_directory (collect-there (end_process y pid me status) n both.0) ∙ ap (λ (u : Tree). is_directory_at u n) (tree-end y pid me status ∙ tree)))
        (left, differs) in
        let same : node_at (collect (update t.after pid t.reported)).tree n ≡ node_at t.after.tree n =
        collect-there (update t.after pid t.reported) n t.touch.0 ∙ ap (λ (u : Tree). node_at u n) (tree-update t.after pid t.reported) in
        t.touch.1 (ap is_directory same
        ∙ kinds-by (at_call s pid t.me) pid (at_next_line t.me) t.call (valid-at_call s pid t.me whole t.at) (process_at-same s pid (at_next_line t.me)) t.is n old t.after t.reply t.does t.tree)

-- ---- the laws

-- promises that are narrowed include no additional promise
holds-before : (before after : Option Promises) (a : Promise) → GainsNone before after → holds after a ≡ true → holds before a ≡ true
holds-before None after a gains is = refl
holds-before (Some set) None a gains is = absurd gains
holds-before (Some set) (Some preserved) a gains is = gains a is

place-is : (t : Tree) (place : Place) (e : ℕ) (word : Bytes) → IsFinePlace t place → name_of place ≡ Some (e, word) → place ≡ place_in t e word
place-is t (Unnamed n) e word fine named = cc named
place-is t (At d name o) e word fine named =
    let found = (named-place t (At d name o) (e, word) fine named).found in
    let pair : ◌≡◌ {A = ℕ × Bytes} (d, name) (e, word) = cc named in
    let number : d ≡ e = ap (λ (x : ℕ × Bytes). x.0) pair in
    let same : name ≡ word = ap (λ (x : ℕ × Bytes). x.1) pair in
    (λ i. At (number i) (same i) o) ∙ ap (At e word) (sym found)

-- the process had c at each entry that changed
pub changes-show : (program_of : Bytes → Option Program) (s : State) (pid : ℕ) (p : Process) (e : ℕ) (word : Bytes) → IsValid s → process_at s pid ≡ Some p → Touches program_of s pid (change_entry e word)
    → (permissions_of_name s p e word).c ≡ true
unfolding reached_permissions
changes-show program_of s pid p e word whole at touches =
    let by = entries-edited program_of s pid e word whole touches in
    let both : Some by.me ≡ Some p = sym by.at ∙ at in
    let one : by.me ≡ p = cc both in
    let here = place-is s.tree by.edited.place e word by.edited.fine by.edited.named in
    let allowed : is_allowed (judgement s.tree p.table (place_in s.tree e word) permission_c) ≡ true =
    ap is_allowed (sym (λ i. judgement s.tree (one i).table (here i) permission_c) ∙ by.edited.allowed.1) in
    let met : missing_promise p.promises (by.edited.asks.0 ++ needs_cpath) ≡ None =
    ap (missing_promise p.promises) (sym by.edited.asks.1) ∙ ap (λ (z : Process). missing_promise z.promises (needs by.call)) (sym one) ∙ by.held in
    and_from (is_allowed (judgement s.tree p.table (place_in s.tree e word) permission_c)) (holds p.promises Cpath) allowed
    (need-has p.promises true Cpath (missing-first p.promises by.edited.asks.0 needs_cpath met).1 refl)

module _ (program_of : Bytes → Option Program) (encodes : EncodesPrograms program_of) (s : State) (pid : ℕ) (p q : Process) (table : Table) (d : ℕ) (name : Bytes) (whole : IsValid s)
    (own_step : IsOwnStep program_of s pid p q table) (dir : is_directory_at s.tree d ≡ true) where
  abbrev t : Tree
  t = s.tree

  abbrev u : Tree
  u = (step program_of s pid).after.tree

  valid_after : IsValid (step program_of s pid).after
  valid_after = step-keeps_valid program_of encodes s pid whole

  no_more : HasNoMoreRights p q
  no_more = grows-never program_of s pid p q (valid-in_order s whole) own_step.at own_step.left own_step.in_image

  kinds : (n : ℕ) → find_entry t d name ≡ Some n → find_entry u d name ≡ Some n → is_directory_at u n ≡ is_directory_at t n
  kinds n found preserved = preserved-kind program_of s pid whole n (whole.tree.well_formed.entries_are_nodes d name n found) (valid_after.tree.well_formed.entries_are_nodes d name n preserved)

  -- if the same entry governs, no permission is added
  same-go : governing_entry u table (place_in u d name) ≡ governing_entry t table (place_in t d name) → PermissionsOnlyDecrease program_of s pid p q d name
  unfolding reached_permissions judgement
  same-go same =
      gives-covers (permissions_of_name s p d name) (permissions_of_name (step program_of s pid).after q d name) (record {
        r = λ is. letter permission_r Rpath is;
        w = λ is. letter permission_w Wpath is;
        x = λ is. letter permission_x Exec is;
        c = λ is. letter permission_c Cpath is;
      })
    where
      judged : (needed : Perms) → judgement u q.table (place_in u d name) needed ≡ judgement t p.table (place_in t d name) needed
      judged needed =
          ap (λ o. judgement u o (place_in u d name) needed) (no_more.closed own_step.locked ∙ own_step.in_force)
          ∙ ap (judge_entry table needed) same
          ∙ sym (ap (λ o. judgement t o (place_in t d name) needed) own_step.in_force)

      letter : (needed : Perms) (a : Promise) → (is_allowed (judgement u q.table (place_in u d name) needed) && holds q.promises a) ≡ true
          → (is_allowed (judgement t p.table (place_in t d name) needed) && holds p.promises a) ≡ true
      letter needed a is =
          let parts = and_parts (is_allowed (judgement u q.table (place_in u d name) needed)) (holds q.promises a) is in
          and_from (is_allowed (judgement t p.table (place_in t d name) needed)) (holds p.promises a) (ap is_allowed (sym (judged needed)) ∙ parts.0) (holds-before p.promises q.promises a no_more.promises parts.1)

  -- an entry changed there or above
  abbrev IsChanged : Type 0
  IsChanged = (e : ℕ) × (word : Bytes) × Touches program_of s pid (change_entry e word) × IsAtOrAbovePlace program_of s pid d name e word

  go-or_changed : PermissionsOnlyDecrease program_of s pid p q d name ⊎ IsChanged
  go-or_changed =
      ⊎_elim
      (λ same. inl (same-go same))
      (λ differs. inr (⊎_elim
      (λ here. (d, name, here, at_name))
      (λ over. ⊎_elim
      (λ before. (over.entry, over.word, over.differs, above_before over.directory over.entry over.word over.over before))
      (λ following. (over.entry, over.word, over.differs, above_after over.directory over.entry over.word over.over following)) over.names)
      differs))
      (same-governor t u (sound t whole.tree.well_formed) (sound u valid_after.tree.well_formed) table d name dir kinds)

  pub unchanged-go : ((e : ℕ) (word : Bytes) → ¬ Touches program_of s pid (change_entry e word)) → PermissionsOnlyDecrease program_of s pid p q d name
  unchanged-go none = ⊎_elim (λ go. go) (λ changed. absurd (none changed.0 changed.1 changed.2)) go-or_changed

  pub come-by_changes : covers (permissions_of_name s p d name) (permissions_of_name (step program_of s pid).after q d name) ≡ false → IsChanged
  come-by_changes comes = ⊎_elim (λ go. let bad : true ≡ false = sym go ∙ comes in cc bad) (λ changed. changed) go-or_changed

  -- if no entry grants c, or the promises lack cpath, no entry changes
  no-c : GrantsNoC table ⊎ (holds p.promises Cpath ≡ false) → (e : ℕ) (word : Bytes) → ¬ Touches program_of s pid (change_entry e word)
  unfolding reached_permissions
  no-c lacks e word touches =
      let appeared = changes-show program_of s pid p e word whole own_step.at touches in
      let parts = and_parts (is_allowed (judgement t p.table (place_in t e word) permission_c)) (holds p.promises Cpath) appeared in
      ⊎_elim (λ none. given none ((permitted t p.table (place_in t e word) permission_c).1 parts.0)) (λ without. let bad : true ≡ false = sym parts.1 ∙ without in cc bad) lacks
    where
      entry : GrantsNoC table → (k : ℕ) (o : Option (Target × Perms)) → slice_get table k ≡ o → (permissions_of o).c ≡ true → ⊥
      entry none k None is has = cc has
      entry none k (Some e) is has = let bad : true ≡ false = sym has ∙ none k e is in cc bad

      given : GrantsNoC table → Permits t p.table (place_in t e word) permission_c → ⊥
      given none permits =
          ⊎_elim
          (λ bare. let bad : None ≡ Some table = sym bare ∙ own_step.in_force in cc bad)
          (λ (some : (held : Table) × (k : ℕ) × (p.table ≡ Some held) × (governing_entry t held (place_in t e word) ≡ Some k) × (covers (permissions_at held k) permission_c ≡ true)).
          let both : Some some.0 ≡ Some table = sym some.2 ∙ own_step.in_force in
          let one : some.0 ≡ table = cc both in
          entry none some.1 (slice_get table some.1) refl (ap (λ (x : Table). (permissions_at x some.1).c) (sym one) ∙ sym (covers-c (permissions_at some.0 some.1)) ∙ some.4)) permits

  pub no-c_go : GrantsNoC table ⊎ (holds p.promises Cpath ≡ false) → PermissionsOnlyDecrease program_of s pid p q d name
  no-c_go lacks = unchanged-go (no-c lacks)
