-- The files that are listed as unread.
use Rattle.std.proofs.Common.{◌≡◌, ◌≢◌, ◌∙◌, sym, ap, subst, ℕ, true, false, not, ◌==◌, [], map, codes, Contains, Option, None, Some, is_some, option_map, option_and_then, ◌⊎◌, inl, inr, refl, arith}
use Rattle.std.specs.List.{list_any}
use Rattle.std.proofs.lemmas.Bool.{and_parts, not-true}
use Rattle.std.proofs.lemmas.Bool.Decides.{nat_tests}
use Rattle.pv_model.specs.Machine.{Access, executes, accesses, Found, Move, move, moves_of, states_found, named_files, Observation, observed, observations, of_next, of_process, of_calls, Bytes, same_node, Next, Program, Process, State, first_state, process_at, step, boot, read_file, Touches, Node, directory_node, file_node, link_node, Tree, root, node_at, find_entry}
use Rattle.pv_model.specs.Answers.Access.{reads, file_read, files_read, is_unread, unread_files}
use Rattle.pv_model.specs.Answers.Observed.{observations_at}
use Rattle.pv_model.specs.Step.{init_program}
use Rattle.pv_laws_answers.specs.Search.{IsSearchable}
use Rattle.pv_laws_answers.specs.Unread.{IsNeverRead}
use Rattle.pv_laws_answers.proofs.UnreadRuns.{unread-files}
use Rattle.pv_laws_answers.proofs.Lists.{Among, each-from_among, any-among, among-flat, among-map, filter-among, among-filter_map}
use Rattle.pv_laws_states.specs.States.{EncodesPrograms, IsValid, is_program_in_bounds}
use Rattle.pv_laws_states.proofs.ValidBySteps.{first-valid}
use Rattle.pv_laws_schedules.specs.Access.{UnreadFilesAreReadByNone, UnreadFilesChangeNothing}
use Rattle.pv_laws_schedules.proofs.ReadAccess.{IsReadAccess, reads-accessed}
use Rattle.pv_laws_classes.proofs.ReducedProcesses.{themselves}
use Rattle.pv_laws_schedules.proofs.ReachedStates.{own-move}

module _ (program_of : Bytes → Option Program) (limit : ℕ) (s : State) (it : IsSearchable program_of limit s) where
  -- an access of a step from a visited state that reads a file
  read-listed : (g : Found) → Among g (states_found program_of limit s) → (pid f : ℕ) (p : Process) → process_at g.state pid ≡ Some p
      → (a : Access) → file_read a ≡ Some f → Among a (of_calls accesses g.state pid (step program_of g.state pid)) → Among f (files_read program_of limit s)
  read-listed g within pid f p live a is has =
      let m = move program_of g pid in
      let here = among-flat (λ (m : Move). map (observed m) (of_calls accesses g.state m.pid m.stepped)) m (observed m a) (moves_of program_of g) (own-move program_of limit s it g pid p live) (among-map (observed m) a (of_calls accesses g.state pid m.stepped) has) in
      let all = among-flat (observations_at (of_calls accesses) program_of) g (observed m a) (states_found program_of limit s) within here in
      among-filter_map (λ (o : Observation Access). file_read o.item) (observed m a) f (observations (of_calls accesses) program_of limit s) all is

  touched-listed : (g : Found) → Among g (states_found program_of limit s) → (pid f : ℕ) → Touches program_of g.state pid (read_file f) → Among f (files_read program_of limit s)
  touched-listed g within pid f touches = by read.has
    where
      read : IsReadAccess program_of g.state pid f
      read = reads-accessed program_of g.state pid f touches

      has-call : (a : Access) → Among a (accesses g.state pid read.process read.call (step program_of g.state pid)) → Among a (of_calls accesses g.state pid (step program_of g.state pid))
      has-call a has =
          subst (λ (o : Option Process). Among a (of_process accesses g.state pid (step program_of g.state pid) o)) (sym read.live)
          (subst (λ (n : Next). Among a (of_next accesses g.state pid (step program_of g.state pid) read.process n)) (sym read.calls) has)

      by : Among (reads f) (accesses g.state pid read.process read.call (step program_of g.state pid)) ⊎ Among (executes f) (accesses g.state pid read.process read.call (step program_of g.state pid)) → Among f (files_read program_of limit s)
      by (inl has) = read-listed g within pid f read.process read.live (reads f) refl (has-call (reads f) has)
      by (inr has) = read-listed g within pid f read.process read.live (executes f) refl (has-call (executes f) has)

  unlisted : (f : ℕ) → is_unread program_of limit s (files_read program_of limit s) f ≡ true → (same_node (find_entry s.tree root (codes "init")) f ≡ false) × (list_any (λ m. m == f) (files_read program_of limit s) ≡ false)
  unlisted f is =
      let parts = and_parts (not (same_node (find_entry s.tree root (codes "init")) f)) (not (list_any (λ m. m == f) (files_read program_of limit s))) is in
      (not-true (same_node (find_entry s.tree root (codes "init")) f) parts.0, not-true (list_any (λ m. m == f) (files_read program_of limit s)) parts.1)

  unread-parts : (f : ℕ) → Contains (unread_files program_of limit s) f → (same_node (find_entry s.tree root (codes "init")) f ≡ false) × (list_any (λ m. m == f) (files_read program_of limit s) ≡ false)
  unread-parts f has = unlisted f (filter-among (is_unread program_of limit s (files_read program_of limit s)) f (named_files s.tree) (themselves (unread_files program_of limit s) f has)).1

  none-reads : (f : ℕ) → Contains (unread_files program_of limit s) f → IsNeverRead program_of limit s f
  none-reads f has =
      each-from_among (λ g. (pid : ℕ) → is_some (process_at g.state pid) ≡ true → Touches program_of g.state pid (read_file f) → ⊥) (states_found program_of limit s)
      (λ g within pid live touches.
      let equal : (f == f) ≡ true = grind (arith, nat_tests) in
      let there = any-among (λ m. m == f) f (files_read program_of limit s) (touched-listed g within pid f touches) equal in
      let none = (unread-parts f has).1 in
      let bad : true ≡ false = sym there ∙ none in absurd (cc))

pub unread-read_by_none : UnreadFilesAreReadByNone
unread-read_by_none program_of limit s f it has = none-reads program_of limit s it f has

-- ---- images

other-node : (o : Option ℕ) (f : ℕ) → same_node o f ≡ false → o ≢ Some f
other-node None f is same = cc
other-node (Some n) f is same =
    let e : n ≡ f = cc same in
    let equal : (n == f) ≡ true = grind (arith, nat_tests) in
    let bad : true ≡ false = sym equal ∙ is in absurd (cc)

-- the state in which a tree boots
module _ (program_of : Bytes → Option Program) (encodes : EncodesPrograms program_of) (t : Tree) where
  abbrev init : Option Node
  init = option_and_then (node_at t) (find_entry t root (codes "init"))

  program-fits : (o : Option Node) (program : Program) → init_program program_of t o ≡ Some program → is_program_in_bounds program ≡ true
  program-fits None program is = let same : [] ≡ program = cc is in subst (λ p. is_program_in_bounds p ≡ true) same refl
  program-fits (Some (file_node true code)) program is = encodes.encodes code program is
  program-fits (Some (file_node false code)) program is = cc
  program-fits (Some (directory_node es)) program is = cc
  program-fits (Some (link_node text)) program is = cc

  booted : (s : State) → boot program_of t ≡ Some s → (program : Program) × (s ≡ first_state t program) × (is_program_in_bounds program ≡ true)
  booted s boots = by (init_program program_of t init) refl boots
    where
      by : (o : Option Program) → init_program program_of t init ≡ o → option_map (first_state t) o ≡ Some s → (program : Program) × (s ≡ first_state t program) × (is_program_in_bounds program ≡ true)
      by None none is = cc
      by (Some program) encoded is = let same : first_state t program ≡ s = cc is in (program, sym same, program-fits init program encoded)

pub unread-change_nothing : UnreadFilesChangeNothing
unread-change_nothing program_of limit t s f bytes encodes room first other long boots complete has =
    let by = booted program_of encodes t s boots in
    let it : IsSearchable program_of limit s = record { encodes = encodes; whole = subst IsValid (sym by.1) (first-valid t by.0 first by.2); room = room } in
    let apart = other-node (find_entry t root (codes "init")) f (ap (λ (u : State). same_node (find_entry u.tree root (codes "init")) f) (sym by.1) ∙ (unread-parts program_of limit s it f has).0) in
    unread-files program_of limit t s f bytes encodes room first other long apart boots complete (none-reads program_of limit s it f has)
