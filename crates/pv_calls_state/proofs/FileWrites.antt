-- Writing of bytes through an open file.
use Rattle.std.proofs.Common.{◌≡◌, ℕ, ◌+◌, ◌-◌, ◌^◌, ◌<◌, ◌↔◌, true, [], ◌∷◌, length, None, Some, refl, ap, ap₂, sym, subst, ◌∙◌, ⊎_elim, arith, length-append, length-drop}
use Rattle.std.specs.Prelude.{slice_index, option_map, is_some}
use Rattle.std.proofs.lemmas.Bool.{cases_eq}
use Rattle.std.proofs.lemmas.List.{length-take, length-replicate}
use Rattle.pv_calls_state.specs.Counts.{state_of, IsCountedUp}
use Rattle.pv_files.specs.Counted.{Counted, IsCounted, counted_with_file as with_counted}
use Rattle.pv_procs.specs.OfTree.OfInodes.declared.space.Space.{Space}
use Rattle.pv_model.specs.Machine.{Bytes, with_content, with_content_of, bytes_of, overwrite, with_file, collect, at_number, with_number, is_file, OpenFile, Process, State, process_at, with_tree, file_node, Tree, node_at, with_node, IsWellFormed}
use Rattle.pv_procs.specs.declared.record.ProcessRecord.{ProcessRecord}
use Rattle.pv_procs.specs.Parts.{record_of}
use Rattle.pv_procs.specs.ProcessTable.{ProcessTable, process_in}
use Rattle.pv_procs.specs.OfTree.Changes.{overwritten}
use Rattle.pv_procs.specs.OfTree.Holding.{HeldTree, collected, held_with_tree as with_held}
use Rattle.pv_procs.specs.OfTree.Rooms.{room_error}
use Rattle.pv_procs.specs.OfTree.Present.{IsPresent}
use Rattle.pv_laws_trees.proofs.TreeChanges.{node_at-same}
use Rattle.pv_laws_trees.proofs.NumberedMaps.{at_number-below, length-with_number, with_number-same, with_number-other}
use Rattle.pv_laws_trees.proofs.NodeRoom.{length-within}
use Rattle.pv_calls_state.proofs.UncountedChanges.{counted-file, lent-is, some-at}
use Rattle.pv_calls_state.proofs.TreeChanges.{preserved-content, preserved-seen, ordered-seen}
use Rattle.pv_calls_state.proofs.CollectionByCounts.{collect-parts}

-- overwriting replaces the content by the content with the new bytes in it
pub overwritten-is : (t : Tree) (n at : ℕ) (bytes : Bytes) → 0 < length bytes → overwritten t n at bytes ≡ with_content t n (overwrite (bytes_of (node_at t n)) at bytes)
overwritten-is t n at [] some = absurd (omega arith)
overwritten-is t n at (b ∷ bytes) some = refl

-- the buffer in a live process's record is the buffer of the process
pub own-buffer : (h : HeldTree) (c : Counted) (ps : ProcessTable) (s : State) → state_of h c ps ≡ s → (pid : ℕ) (me : Process) (r : ProcessRecord) (buffer : Bytes) → process_at s pid ≡ Some me
    → option_map record_of (process_in ps pid) ≡ Some r → buffer ≡ r.context.buffer → buffer ≡ me.buffer
own-buffer h c ps s view pid me r buffer lives owned is =
    is ∙ ap (λ x. x.context.buffer) (lent-is (process_in ps pid) me r owned (ap (λ x. process_at x pid) view ∙ lives))

-- ---- open files

pub counted-slots : (c : Counted) (k : ℕ) (f g : OpenFile) → IsCounted c → at_number c.files k ≡ Some f → IsCounted (with_counted c k g)
counted-slots c k f g is at =
    let below = at_number-below c.files k f at in
    record {
      slots = length-with_number c.files k g below ∙ is.slots;
      counts = is.counts;
      used = λ j.
          subst (λ b. (b ≡ true) ↔ (0 < slice_index c.users j))
          (⊎_elim
          (λ here. ap (λ i. is_some (at_number c.files i)) here ∙ ap is_some at ∙ sym (ap is_some (with_number-same c.files k g below)) ∙ ap (λ i. is_some (at_number (with_number c.files k g) i)) (sym here))
          (λ other. sym (ap is_some (with_number-other c.files k g j below other))) (cases_eq j k))
          (is.used j);
    }

-- ---- states with another tree and another open file

module _ (h : HeldTree) (c : Counted) (ps : ProcessTable) (s : State) (view : state_of h c ps ≡ s) (up : IsCountedUp h c ps) (is : IsCounted c)
    (k : ℕ) (f g : OpenFile) (at : at_number c.files k ≡ Some f) (same : g.node ≡ f.node) (change : Tree → Tree) (preserved : collected (change s.tree) h.holds ≡ change s.tree) where
  seen : h.tree ≡ s.tree
  seen = ap (λ x. x.tree) view

  preserved-before : collected (change h.tree) h.holds ≡ change h.tree
  preserved-before = subst (λ t. collected (change t) h.holds ≡ change t) (sym seen) preserved

  collect-written : collect (with_file (with_tree s (change s.tree)) k g) ≡ state_of (with_held h (change h.tree)) (with_counted c k g) ps
  collect-written =
      ap (λ x. collect (with_file (with_tree x (change x.tree)) k g)) (sym view)
      ∙ collect-parts (with_file (with_tree (state_of h c ps) (change h.tree)) k g) (with_held h (change h.tree)) (with_counted c k g) ps
      (counted-file (with_held h (change h.tree)) c ps (record { users = up.users; holds = up.holds }) k f g at same)
      (counted-slots c k f g is at) (counted-slots c k f g is at).slots refl refl preserved-before (λ j more. refl)

  pub written-changed : (new : HeldTree) (files : Counted) → new ≡ with_held h (change h.tree) → files ≡ with_counted c k g
      → state_of new files ps ≡ collect (with_file (with_tree s (change s.tree)) k g)
  written-changed new files tree file = ap₂ (λ x y. state_of x y ps) tree file ∙ sym collect-written

  pub written-refused : (why : Space) → room_error (change h.tree) ≡ Some why → room_error (collect (with_file (with_tree s (change s.tree)) k g)).tree ≡ Some why
  written-refused why no_room = ap (λ x. room_error x.tree) collect-written ∙ no_room

-- ---- writing

module _ (h : HeldTree) (c : Counted) (ps : ProcessTable) (s : State) (view : state_of h c ps ≡ s) (up : IsCountedUp h c ps) (is : IsCounted c) (present : IsPresent h)
    (whole : IsWellFormed s.tree) (k n at : ℕ) (bytes : Bytes) (some : 0 < length bytes) (node : option_map (λ f. f.node) (at_number c.files k) ≡ Some n) where
  abbrev placed : OpenFile → OpenFile
  placed f = record f { offset = at + length bytes }

  abbrev content : OpenFile → Tree → Tree
  content f t = with_content t f.node (overwrite (bytes_of (node_at t f.node)) at bytes)

  here : (f : OpenFile) → at_number s.files k ≡ Some f → at_number c.files k ≡ Some f
  here f found = ap (λ x. at_number x.files k) view ∙ found

  content-is : (f : OpenFile) → at_number s.files k ≡ Some f → overwritten h.tree n at bytes ≡ content f h.tree
  content-is f found =
      let mine : option_map (λ f. f.node) (at_number c.files k) ≡ Some f.node = ap (option_map (λ f. f.node)) (here f found) in
      let number : n ≡ f.node = cc in
      overwritten-is h.tree n at bytes some ∙ ap (λ m. with_content h.tree m (overwrite (bytes_of (node_at h.tree m)) at bytes)) number

  preserved : (f : OpenFile) → collected (content f s.tree) h.holds ≡ content f s.tree
  preserved f = preserved-content s.tree h.holds (ordered-seen s.tree whole) (preserved-seen h c ps s view up is present) f.node (overwrite (bytes_of (node_at s.tree f.node)) at bytes)

  pub write-changed : (new : HeldTree) (files : Counted) → new ≡ with_held h (overwritten h.tree n at bytes)
      → option_map (λ f. with_counted c k (placed f)) (at_number c.files k) ≡ Some files → (f : OpenFile) → at_number s.files k ≡ Some f
      → state_of new files ps ≡ collect (with_file (with_tree s (content f s.tree)) k (placed f))
  write-changed new files tree file f found =
      let mine : option_map (λ f. with_counted c k (placed f)) (at_number c.files k) ≡ Some (with_counted c k (placed f)) = ap (option_map (λ f. with_counted c k (placed f))) (here f found) in
      let moved : files ≡ with_counted c k (placed f) = cc in
      written-changed h c ps s view up is k f (placed f) (here f found) refl (content f) (preserved f) new files (tree ∙ ap (with_held h) (content-is f found)) moved

  pub write-refused : (why : Space) → room_error (overwritten h.tree n at bytes) ≡ Some why → (f : OpenFile) → at_number s.files k ≡ Some f
      → room_error (collect (with_file (with_tree s (content f s.tree)) k (placed f))).tree ≡ Some why
  write-refused why no_room f found =
      written-refused h c ps s view up is k f (placed f) (here f found) refl (content f) (preserved f) why (ap room_error (sym (content-is f found)) ∙ no_room)
