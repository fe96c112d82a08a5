-- The origin of the names of nodes.
use Rattle.std.proofs.Common.{◌≡◌, ◌≢◌, ◌⊎◌, inl, inr, ⊎_elim, ℕ, ◌<◌, Bool, true, false, if◌then◌else◌, [], length, Option, None, Some, is_some, refl, ap, sym, subst, ◌∙◌}
use Rattle.std.specs.FinMap.Entries.{find}
use Rattle.pv_model.specs.declared.call.Call.{Call}
use Rattle.pv_model.specs.declared.place.Place.{Place}
use Rattle.pv_model.specs.Machine.{at_next_line, update, Bytes, with_content, end_process, Reply, node_of, collect, needs, permission_r, permission_c, calls_for, next, missing_promise, Program, Process, State, process_at, step, IsAllowed, Node, file_node, Tree, node_at, entries_of, is_directory_at, find_entry, with_node, with_entry, without_entry, new_number, with_new_node}
use Rattle.pv_laws_states.specs.States.{is_call, IsTree, IsValid}
use Rattle.pv_laws_states.proofs.ValidByTree.{named-place}
use Rattle.pv_laws_states.proofs.ValidEnds.{tree-end}
use Rattle.pv_laws_states.proofs.CallOutcomes.{at_call}
use Rattle.pv_laws_states.proofs.Processes.{process_at-same, tree-update}
use Rattle.pv_laws_states.proofs.ValidReplies.{valid-at_call}
use Rattle.pv_laws_states.proofs.ChangedStates.{IsFinePlace}
use Rattle.pv_laws_trees.proofs.TreeChanges.{node_at-other, found-with, found-without}
use Rattle.pv_laws_trees.proofs.WellFormedChanges.{new_number-free}
use Rattle.pv_laws_trees.proofs.DirectoryEntries.{by_name}
use Rattle.pv_laws_access.proofs.ChangedTrees.{cases_entry, entries-content, entry-with_other, entry-without_other, new-within, entry-new_other, entry-collect}
use Rattle.pv_laws_access.proofs.CallEffects
use Rattle.pv_laws_access.proofs.JustifiedChanges.{fine-name, many, between-directory}
use Rattle.pv_laws_access.proofs.TouchingCalls.{touched}

-- a valid place of the call at a node that is allowed for a link or a rename of it
pub record IsMoved (s : State) (me : Process) (call : Call) (n : ℕ) : Type 0 where
  pub place : Place
  pub allowed : IsAllowed s me call permission_r place ⊎ IsAllowed s me call permission_c place
  pub node : node_of place ≡ Some n
  pub fine : IsFinePlace s.tree place

found-new : (t : Tree) (p : ℕ × Bytes) (node : Node) → is_directory_at t p.0 ≡ true → new_number t < length t.nodes → find_entry (with_new_node t p.0 p.1 node) p.0 p.1 ≡ Some (new_number t)
found-new t p node dir below =
    let apart : p.0 ≢ new_number t = λ same. let isnt : is_directory_at t p.0 ≡ false = ap (is_directory_at t) same ∙ ap Rattle.pv_model.specs.Tree.is_directory (new_number-free t) in cc in
    let one : is_directory_at (with_node t (new_number t) node) p.0 ≡ true = ap Rattle.pv_model.specs.Tree.is_directory (node_at-other t (new_number t) node p.0 below apart) ∙ dir in
    found-with (with_node t (new_number t) node) p.0 p.1 one (new_number t)

module _ (s : State) (pid : ℕ) (me : Process) (call : Call) (whole : IsValid s) (at : process_at s pid ≡ Some me) (is_good : is_call call ≡ true)
    (n : ℕ) (there : is_some (node_at s.tree n) ≡ true) (d : ℕ) (name : Bytes) (new : find_entry s.tree d name ≢ Some n) where
  abbrev M : Type 0
  M = IsMoved s me call n

  abbrev Has : Tree → Type 0
  Has t = find_entry t d name ≡ Some n

  -- the entry is unchanged
  as_was : (t : Tree) → find_entry t d name ≡ find_entry s.tree d name → Has t → M
  as_was t same has = absurd (new (sym same ∙ has))

  -- the entry is at this place
  in_place : (t : Tree) (p : ℕ × Bytes) → (d ≡ p.0) → (name ≡ p.1) → Has t → find_entry t p.0 p.1 ≡ Some n
  in_place t p here same has = ap (λ x. find_entry t x p.1) (sym here) ∙ ap (find_entry t d) (sym same) ∙ has

  made : (p : ℕ × Bytes) (node : Node) (u : Tree) → u ≡ with_new_node s.tree p.0 p.1 node → IsTree u → is_directory_at s.tree p.0 ≡ true → entries_of (Some node) ≡ [] → Has u → M
  made p node u is tree dir bare has =
      let below = new-within s.tree p node (ap (λ (t : Tree). length t.nodes) (sym is) ∙ many s pid me call whole at is_good u tree (ap (λ (t : Tree). t.inodes) is)) in
      ⊎_elim
      (λ here.
      let both : Some (new_number s.tree) ≡ Some n = sym (found-new s.tree p node dir below) ∙ ap (λ (t : Tree). find_entry t p.0 p.1) (sym is) ∙ in_place u p here.0 here.1 has in
      let same : new_number s.tree ≡ n = cc both in
      let none : node_at s.tree n ≡ None = ap (node_at s.tree) (sym same) ∙ new_number-free s.tree in
      let no : is_some (node_at s.tree n) ≡ false = ap is_some none in cc)
      (λ other. as_was u (ap (λ (t : Tree). find_entry t d name) is ∙ entry-new_other s.tree p node dir bare below d name other) has) (cases_entry d p.0 name p.1)

  pub moved-by : (after : State) (r : Reply) → CallEffects.HasEffect s pid me call after r → IsTree after.tree → Has after.tree → M
  moved-by _ _ (CallEffects.stays r waiting) tree has = as_was s.tree refl has
  moved-by _ _ (CallEffects.restrains q r no_more same parent table goes) tree has = as_was s.tree refl has
  moved-by _ _ (CallEffects.begins path program is) tree has = as_was s.tree refl has
  moved-by _ _ (CallEffects.closes k) tree has = as_was s.tree refl has
  moved-by _ _ (CallEffects.copies e x k is) tree has = as_was s.tree refl has
  moved-by _ _ (CallEffects.forks is) tree has = as_was s.tree refl has
  moved-by _ _ (CallEffects.reaps k r ended goes) tree has = as_was s.tree refl has
  moved-by _ _ (CallEffects.moves k old other r was node mode named goes) tree has = as_was s.tree refl has
  moved-by _ _ (CallEffects.cuts f bytes own) tree has = as_was (with_content s.tree f bytes) (ap (find by_name name) (entries-content s.tree f bytes d)) has
  moved-by _ _ (CallEffects.writes_bytes f bytes k old other m own was node mode named) tree has = as_was (with_content s.tree f bytes) (ap (find by_name name) (entries-content s.tree f bytes d)) has
  moved-by _ _ (CallEffects.makes place p node change free bare) tree has = made p node (with_new_node s.tree p.0 p.1 node) refl tree (fine-name s pid me call whole at is_good place p change).directory bare has
  moved-by _ _ (CallEffects.links place p old m change allowed is fine) tree has =
      let dir = (fine-name s pid me call whole at is_good place p change).directory in
      ⊎_elim
      (λ here.
      let both : Some m ≡ Some n = sym (found-with s.tree p.0 p.1 dir m) ∙ in_place (with_entry s.tree p.0 p.1 m) p here.0 here.1 has in
      let same : m ≡ n = cc both in
      record { place = old; allowed = inl allowed; node = is ∙ ap Some same; fine = fine whole at is_good })
      (λ other. as_was (with_entry s.tree p.0 p.1 m) (entry-with_other s.tree p.0 p.1 m dir d name other) has) (cases_entry d p.0 name p.1)
  moved-by _ _ (CallEffects.unlinks place p change) tree has =
      let dir = (fine-name s pid me call whole at is_good place p change).directory in
      ⊎_elim
      (λ here. let both : None ≡ Some n = sym (found-without s.tree p.0 p.1 dir) ∙ in_place (without_entry s.tree p.0 p.1) p here.0 here.1 has in cc both)
      (λ other. as_was (without_entry s.tree p.0 p.1) (entry-without_other s.tree p.0 p.1 dir d name other) has) (cases_entry d p.0 name p.1)
  moved-by _ _ (CallEffects.renames place p next q m from into is) tree has =
      let dir = (fine-name s pid me call whole at is_good place p from).directory in
      let into_dir = between-directory s pid me call whole at is_good p dir q.0 (fine-name s pid me call whole at is_good next q into).directory in
      let less : Tree = without_entry s.tree p.0 p.1 in
      ⊎_elim
      (λ here.
      let both : Some m ≡ Some n = sym (found-with less q.0 q.1 into_dir m) ∙ in_place (with_entry less q.0 q.1 m) q here.0 here.1 has in
      let same : m ≡ n = cc both in
      record { place = place; allowed = inr from.allowed; node = is ∙ ap Some same; fine = from.fine whole at is_good })
      (λ apart.
      let beside : find_entry (with_entry less q.0 q.1 m) d name ≡ find_entry less d name = entry-with_other less q.0 q.1 m into_dir d name apart in
      ⊎_elim
      (λ here. let both : None ≡ Some n = sym (found-without s.tree p.0 p.1 dir) ∙ in_place less p here.0 here.1 (sym beside ∙ has) in cc both)
      (λ other. as_was (with_entry less q.0 q.1 m) (beside ∙ entry-without_other s.tree p.0 p.1 dir d name other) has) (cases_entry d p.0 name p.1))
      (cases_entry d q.0 name q.1)
  moved-by _ _ (CallEffects.opens flags place m k flagged allowed is fine written) tree has = as_was (if flags.truncate then with_content s.tree m [] else s.tree) (by flags.truncate) has
    where
      by : (b : Bool) → find_entry (if b then with_content s.tree m [] else s.tree) d name ≡ find_entry s.tree d name
      by true = ap (find by_name name) (entries-content s.tree m [] d)
      by false = refl
  moved-by _ _ (CallEffects.creates flags place p k flagged allowed create named free fine) tree has =
      made p (file_node false []) (with_new_node s.tree p.0 p.1 (file_node false [])) refl tree (named-place s.tree place p (fine whole at is_good) named).directory refl has

-- the call that links or renames a node, with its promises held
pub record IsMovedBy (s : State) (pid n : ℕ) : Type 0 where
  pub me : Process
  pub call : Call
  pub at : process_at s pid ≡ Some me
  pub next_is : next me ≡ calls_for call
  pub held : missing_promise me.promises (needs call) ≡ None
  pub moved : IsMoved s me call n

pub names-moved : (program_of : Bytes → Option Program) (s : State) (pid : ℕ) (d : ℕ) (name : Bytes) (n : ℕ) → IsValid s → is_some (node_at s.tree n) ≡ true
    → find_entry (step program_of s pid).after.tree d name ≡ Some n → find_entry s.tree d name ≢ Some n → IsMovedBy s pid n
names-moved program_of s pid d name n whole there has new =
    let T : State → Type 0 = λ y. find_entry y.tree d name ≡ Some n in
    let t = touched program_of s pid whole T
    new
    (λ p q at same. new)
    (λ y me status tree ascending others is.
    new (sym (entry-collect (end_process y pid me status) (subst IsTree (sym (tree-end y pid me status ∙ tree)) whole.tree) d name ∙ ap (λ (u : Tree). find_entry u d name) (tree-end y pid me status ∙ tree)) ∙ is))
    has in
    let same : find_entry (collect (update t.after pid t.reported)).tree d name ≡ find_entry t.after.tree d name =
    entry-collect (update t.after pid t.reported) (subst IsTree (sym (tree-update t.after pid t.reported)) t.tree) d name ∙ ap (λ (u : Tree). find_entry u d name) (tree-update t.after pid t.reported) in
    let by =
    moved-by (at_call s pid t.me) pid (at_next_line t.me) t.call (valid-at_call s pid t.me whole t.at) (process_at-same s pid (at_next_line t.me)) t.is n there d name new t.after t.reply t.does t.tree
    (sym same ∙ t.touch) in
    record { me = t.me; call = t.call; at = t.at; next_is = t.next_is; held = t.held; moved = record { place = by.place; allowed = by.allowed; node = by.node; fine = by.fine } }
