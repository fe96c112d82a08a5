-- The accesses that a call may have, known before it, each with the outcomes with which the call has it.
use Rattle.std.specs.Prelude.{ℕ, Bool, true, false, not, ◌==◌, if◌then◌else◌, List, [], ◌++◌, map, filter, filter_map, Option, is_none}
use Rattle.std.specs.List.{cons_option}
use Rattle.pv_model.specs.declared.call.Call.{Call}
use Rattle.pv_model.specs.declared.call.Call.TheVariants.{Execve, Open, OpenAt, Read, Write, Lseek, Fstat, Ftruncate, Getdents, Fchdir, Chdir, Stat, Lstat, Readlink, Mkdir, Symlink, Link, Unlink, Rmdir, Rename}
use Rattle.pv_model.specs.declared.errno.Errno.TheVariants.{ENOEXEC}
use Rattle.pv_model.specs.declared.open_flags.OpenFlags.{OpenFlags}
use Rattle.pv_model.specs.declared.outcome.Outcome.{Outcome}
use Rattle.pv_model.specs.declared.outcome.Outcome.TheVariants.{Value, Text, Failed}
use Rattle.pv_model.specs.declared.place.Place.{Place}
use Rattle.pv_model.specs.Machine.{Access, executes, changes_name, node_of_descriptor, node_of, name_of, Process, State, has_succeeded, walks_of}
use Rattle.pv_model.specs.Answers.Access.{reads, writes, reports}
use Rattle.pv_reduced.specs.OfCallsPath.Ends.{end_begun}
use Rattle.pv_access.specs.declared.condition.Condition.{Condition}
use Rattle.pv_access.specs.declared.condition.Condition.TheVariants.{NoProgram, AnyValue, SomeCount, SomeBytes, Success}

-- whether an outcome satisfies a condition
abbrev pub is_satisfied : Condition → Outcome → Bool
is_satisfied NoProgram (Failed ENOEXEC cause) = true
is_satisfied AnyValue (Value n) = true
is_satisfied SomeCount (Value n) = not (n == 0)
is_satisfied SomeBytes (Text taken) = not (taken.len == 0)
is_satisfied Success outcome = has_succeeded outcome
is_satisfied condition outcome = false

-- an access, with the condition on the outcome under which the call has it
abbrev pub Candidate : Type 0
Candidate = Condition × Access

abbrev pub candidates_by : {X : Type 0} → Condition → (X → Access) → List X → List Candidate
candidates_by condition access xs = map (λ x. (condition, access x)) xs

module _ (found : List Place) where
  abbrev pub node_candidates : Condition → (ℕ → Access) → List Candidate
  node_candidates condition access = candidates_by condition access (filter_map node_of found)

  -- the places whose names a call changes: all, or the absent ones only
  abbrev pub places_named : Bool → List Place
  places_named true = filter (λ place. is_none (node_of place)) found
  places_named false = found

  abbrev pub name_candidates : Bool → List Candidate
  name_candidates absent = candidates_by Success (λ name. changes_name name.0 name.1) (filter_map name_of (places_named absent))

  abbrev pub open_candidates : OpenFlags → List Candidate
  open_candidates flags = (if flags.truncate then node_candidates AnyValue writes else []) ++ name_candidates true

-- the candidates of a call, given the file of its descriptor and the places that its walks found
abbrev pub candidates_at : List ℕ → List Place → Call → List Candidate
candidates_at files found (Read d n) = candidates_by SomeBytes reads files
candidates_at files found (Write d n) = candidates_by SomeCount writes files
candidates_at files found (Ftruncate d n) = candidates_by AnyValue writes files
candidates_at files found (Lseek d by whence) = candidates_by Success reports files
candidates_at files found (Fstat d) = candidates_by Success reports files
candidates_at files found (Fchdir d) = candidates_by Success reports files
candidates_at files found (Getdents d) = candidates_by Success reports files
candidates_at files found (Execve path) = node_candidates found NoProgram reads ++ node_candidates found AnyValue executes
candidates_at files found (Open path flags) = open_candidates found flags
candidates_at files found (OpenAt start path flags) = open_candidates found flags
candidates_at files found (Stat path) = node_candidates found Success reports
candidates_at files found (Lstat path) = node_candidates found Success reports
candidates_at files found (Readlink path) = node_candidates found Success reports
candidates_at files found (Chdir path) = node_candidates found Success reports
candidates_at files found (Mkdir path) = name_candidates found true
candidates_at files found (Symlink text path) = name_candidates found true
candidates_at files found (Link path new) = name_candidates found true
candidates_at files found (Unlink path) = name_candidates found false
candidates_at files found (Rmdir path) = name_candidates found false
candidates_at files found (Rename path new) = name_candidates found false
candidates_at files found _ = []

module _ (s : State) (pid : ℕ) (p : Process) (call : Call) where
  -- the places at the ends of the walks that can begin
  abbrev pub places_begun : List Place
  places_begun = filter_map (end_begun s pid p) (walks_of call)

  abbrev pub candidates : List Candidate
  candidates = candidates_at (node_of_descriptor s p call) places_begun call

-- the accesses of the candidates whose condition an outcome satisfies
abbrev pub accesses_with : Outcome → List Candidate → List Access
accesses_with outcome cs = map (λ c. c.1) (filter (λ c. is_satisfied c.0 outcome) cs)

abbrev pub list_of_two : {X : Type 0} → Option X → Option X → List X
list_of_two first second = cons_option first (cons_option second [])
