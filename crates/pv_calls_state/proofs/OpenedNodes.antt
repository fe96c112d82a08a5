-- Opening of a node, with its descriptor.
use Rattle.std.proofs.Common.{◌≡◌, ◌≢◌, ℕ, zero, suc, ◌+◌, ◌-◌, ◌<◌, ◌≤◌, Bool, true, false, [], ◌++◌, length, take, replicate, Option, None, Some, is_some, refl, ap, sym, subst, ◌∙◌, ⊎_elim, arith}
use Rattle.std.specs.Prelude.{slice_index, IsSome, IsTrue, if◌then◌else◌}
use Rattle.std.proofs.lemmas.Bool.{cases_eq, cases_Bool}
use Rattle.std.proofs.lemmas.List.{get_or-set_same, get_or-set_other}
use Rattle.pv_files.specs.Counted.{Counted, IsCounted, with_opened}
use Rattle.pv_procs.specs.OfTree.OfInodes.declared.space.Space.TheVariants.{Full, TooBig}
use Rattle.pv_laws_states.specs.States.{IsTree, IsValid}
use Rattle.pv_laws_states.proofs.ValidByOpen.{held-more}
use Rattle.pv_laws_states.proofs.GrownTrees.{carries-content, there-wanted, new-below}
use Rattle.pv_laws_states.proofs.CollectedStates.{held_after, tree-collect}
use Rattle.pv_model.specs.declared.open_flags.OpenFlags.{OpenFlags}
use Rattle.pv_model.specs.Machine.{Bytes, new_open_file, with_content, with_content_of, with_open_file, bytes_of, resize, held_by_process, collect, least_free, is_file, fits, is_too_long, OpenFile, Process, State, process_at, Node, directory_node, file_node, link_node, Tree, node_at, is_directory_at, find_entry, with_node, new_number, with_new_node}
use Rattle.pv_procs.specs.ProcessTable.{ProcessTable, table_with_process, updated_table, state_with}
use Rattle.pv_procs.specs.OfTree.Changes.{resized_tree}
use Rattle.pv_procs.specs.OfTree.Holding.{HeldTree, holds_at, collected}
use Rattle.pv_procs.specs.OfTree.Rooms.{room_error}
use Rattle.pv_procs.specs.OfTree.Present.{IsPresent}
use Rattle.pv_laws_trees.specs.Room.{IsNoLonger, IsNoLarger}
use Rattle.pv_laws_trees.proofs.TreeChanges.{node_at-same, node_at-other}
use Rattle.pv_laws_trees.proofs.NumberedMaps.{at_number-below, least_free-free}
use Rattle.pv_laws_trees.specs.Preserved.{preserved}
use Rattle.pv_laws_trees.proofs.NewNodes.{there-new, new-same}
use Rattle.pv_laws_trees.proofs.NodeRoom.{smaller-fits, smaller-not_too_long, preserved-no_larger}
use Rattle.pv_calls_state.specs.Changes.{with_opened_descriptor, with_file_made}
use Rattle.pv_calls_state.specs.Counts.{state_of, times, open_nodes, IsCountedUp}
use Rattle.pv_calls_state.specs.Releasing.{files_on}
use Rattle.pv_calls_state.proofs.CollectionByCounts.{one_if}
use Rattle.pv_calls_state.proofs.ProcessChanges.{IsBefore, updated, few-holds, counted-changed, collected-changed}
use Rattle.pv_calls_state.proofs.ReferenceCounting.{one-apart, of_place, times-one, times-with_number}
use Rattle.pv_calls_state.proofs.Descriptors.{times-given}
use Rattle.pv_calls_state.proofs.TreeChanges.{ordered-seen, wanted-more, new-preserved}
use Rattle.pv_calls_state.proofs.RemovedUsers.{of_node}

-- ---- a truncated file

file-some : (o : Option Node) → is_file o ≡ true → is_some o ≡ true
file-some None is = cc
file-some (Some node) is = refl

-- a node that may be truncated exists in the tree that open leaves
pub cut-there : (t : Tree) → IsTree t → (n : ℕ) (cuts : Bool) → (IsTrue cuts → IsTrue (is_file (node_at t n))) → IsSome (node_at t n)
    → IsSome (node_at (if cuts then with_content t n [] else t) n)
cut-there t is n true file there = file-some (node_at (with_content t n []) n) ((carries-content t is n [] refl).file n there ∙ file refl)
cut-there t is n false file there = there

-- ---- a new node

-- the open file on it keeps every node
pub made-tree : (s : State) (pid : ℕ) (me : Process) → IsValid s → process_at s pid ≡ Some me → (f : OpenFlags) (d : ℕ) (name : Bytes) → is_directory_at s.tree d ≡ true → find_entry s.tree d name ≡ None
    → least_free s.files < 128 → least_free me.descriptors < 16 → (collect (with_file_made s pid me f d name)).tree ≡ with_new_node s.tree d name (file_node false [])
made-tree s pid me whole at f d name dir free room_file room_descriptor =
    let made : State = with_file_made s pid me f d name in
    let numbers : length s.tree.nodes ≡ s.tree.inodes + 1 = omega (arith, whole.tree.well_formed.numbers) in
    let more = held-more s pid me whole at f (new_number s.tree) (with_new_node s.tree d name (file_node false []))
    (omega (arith, room_file, whole.files.count)) (omega (arith, room_descriptor, (whole.processes.placed pid me at).descriptors)) in
    tree-collect made
    ∙ new-preserved s.tree (held_after made) (ordered-seen s.tree whole.tree.well_formed)
    (λ n is. wanted-more s.tree (held_after s) (held_after made) more n (there-wanted s whole n is)) numbers d name (file_node false []) dir free refl

-- ---- the opened node

module _ (t : HeldTree) (c : Counted) (ps : ProcessTable) (pid : ℕ) (me : Process) (is : IsBefore t c ps pid me) (node : ℕ) (flags : OpenFlags) (v : HeldTree) (same : v.holds ≡ t.holds) where
  pub open-few : holds_at v node < 65535
  open-few = omega (arith, few-holds t c ps pid me is node, ap (λ hs. slice_index hs node) same)

  module _ (u : HeldTree) (d : Counted) (qs : ProcessTable) (more : holds_at u node ≡ holds_at v node + 1) (others : (n : ℕ) → n ≢ node → holds_at u n ≡ holds_at v n)
      (room : least_free c.files < 128) (files : d ≡ with_opened c (least_free c.files) (new_open_file flags node))
      (put : qs ≡ updated_table ps pid (with_opened_descriptor (least_free c.files) flags.close_on_exec)) where
    unused : slice_index c.users (least_free c.files) ≡ 0
    unused = by (slice_index c.users (least_free c.files)) refl
      where
        by : (n : ℕ) → slice_index c.users (least_free c.files) ≡ n → slice_index c.users (least_free c.files) ≡ 0
        by zero none = none
        by (suc n) some =
            let there = (is.counted.used (least_free c.files)).1 (omega (arith, some)) in
            let none = least_free-free c.files in
            let invalid : is_some {T = OpenFile} None ≡ true = ap is_some (sym none) ∙ there in cc invalid

    one-user : (k : ℕ) → slice_index c.users k + one_if (least_free c.files) k ≡ slice_index d.users k
    one-user = one-apart (slice_index c.users) (slice_index d.users) (least_free c.files)
        (omega (arith, unused, ap (λ (x : Counted). slice_index x.users (least_free c.files)) files, get_or-set_same c.users (least_free c.files) 1 0 (omega (arith, is.counted.counts))))
        (λ k other. sym (ap (λ (x : Counted). slice_index x.users k) files ∙ get_or-set_other c.users (least_free c.files) k 1 0 other))

    users : (k : ℕ) → slice_index d.users k + times k (files_on me.descriptors)
        ≡ slice_index c.users k + times k (files_on (with_opened_descriptor (least_free c.files) flags.close_on_exec me).descriptors)
    users k = omega (arith, one-user k, times-given k me.descriptors (record { file = least_free c.files; close_on_exec = flags.close_on_exec }))

    opened-nodes : (n : ℕ) → times n (open_nodes d.files) ≡ times n (open_nodes c.files) + one_if node n
    opened-nodes n =
        omega (
          arith,
          ap (λ (x : Counted). times n (open_nodes x.files)) files,
          times-with_number of_node n c.files (least_free c.files) (new_open_file flags node),
          ap (λ o. times n (of_place of_node o)) (least_free-free c.files),
          times-one n node,
        )

    holds : (n : ℕ) → (holds_at u n + times n (held_by_process me)) + times n (open_nodes c.files)
        ≡ (holds_at t n + times n (held_by_process (with_opened_descriptor (least_free c.files) flags.close_on_exec me))) + times n (open_nodes d.files)
    holds n =
        omega (arith, opened-nodes n, one-apart (holds_at v) (holds_at u) node (sym more) (λ m other. sym (others m other)) n, ap (λ hs. slice_index hs n) same)

    put' : qs ≡ table_with_process ps pid (with_opened_descriptor (least_free c.files) flags.close_on_exec me)
    put' = put ∙ updated t c ps pid me is (with_opened_descriptor (least_free c.files) flags.close_on_exec)

    pub opened-up : IsCountedUp u d qs
    opened-up = counted-changed t c ps pid me is u d qs (with_opened_descriptor (least_free c.files) flags.close_on_exec me) put' users holds

    pub opened-state : (s : State) → state_of t c ps ≡ s → (tree : Tree) → u.tree ≡ tree → IsPresent u → IsCounted d
        → state_of u d qs ≡ collect (with_open_file s pid me flags node tree)
    opened-state s view tree nodes present counted =
        collected-changed t c ps pid me is u d qs (with_opened_descriptor (least_free c.files) flags.close_on_exec me) put' users holds tree d.files counted counted.slots
        (sym present.is_collected ∙ ap (λ x. collected x u.holds) nodes) (λ k used. refl)
        ∙ ap (λ fs. collect (state_with tree fs (table_with_process ps pid (with_opened_descriptor (least_free c.files) flags.close_on_exec me)))) (ap (λ (x : Counted). x.files) files)
        ∙ ap (λ x. collect (with_open_file x pid me flags node tree)) view
