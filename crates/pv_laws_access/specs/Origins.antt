-- Laws of provenance: where the restraints, descriptors and names after a step come from.
use Rattle.std.specs.Prelude.{◌≡◌, ◌≢◌, ◌⊎◌, ℕ, Bool, if◌then◌else◌, IsTrue, Option, None, Some, is_some}
use Rattle.pv_model.specs.declared.call.Call.{Call}
use Rattle.pv_model.specs.declared.open_flags.Mode.{Mode}
use Rattle.pv_model.specs.declared.place.Place.{Place}
use Rattle.pv_model.specs.Machine.{Bytes, node_of, needs, permission_r, permission_c, calls_for, next, missing_promise, Program, Process, State, process_at, step, gain_descriptor, IsAllowed, node_at, find_entry}
use Rattle.pv_model.specs.Closed.{HasOn}
use Rattle.pv_laws_states.specs.States.{IsValid}
use Rattle.pv_laws_access.specs.Growth.{HasNoMoreRights, HasExecuted}
use Rattle.pv_laws_access.specs.Justice.{IsExplained}

-- a live process makes a call, and its promises are held
pub record MakesCall (s : State) (pid : ℕ) (me : Process) (call : Call) : Type 0 where
  pub at : process_at s pid ≡ Some me
  pub next_is : next me ≡ calls_for call
  pub held : missing_promise me.promises (needs call) ≡ None

-- an existing node gets a new name: by a link of a place of it that is allowed for r, or by a rename of a place that is
-- allowed for c
pub record IsGivenNewName (s : State) (pid : ℕ) (n : ℕ) : Type 0 where
  pub me : Process
  pub call : Call
  pub made : MakesCall s pid me call
  pub place : Place
  pub node : node_of place ≡ Some n
  pub allowed : IsAllowed s me call permission_r place ⊎ IsAllowed s me call permission_c place

abbrev pub NamesHaveOrigins : Type 0
NamesHaveOrigins =
    (program_of : Bytes → Option Program) (s : State) (pid : ℕ) (d : ℕ) (name : Bytes) (n : ℕ) → IsValid s → IsTrue (is_some (node_at s.tree n))
    → find_entry (step program_of s pid).after.tree d name ≡ Some n → find_entry s.tree d name ≢ Some n → IsGivenNewName s pid n

-- the second process's restraints are those of the first, or stricter, or those that an execve of the first leaves; and
-- the step gains each descriptor that the first process did not have
pub record IsHeirOf (s after : State) (pid : ℕ) (p q : Process) : Type 0 where
  pub restraints : HasNoMoreRights p q ⊎ HasExecuted p q
  pub gains : (n : ℕ) (test : Mode → Bool) (d : ℕ) → HasOn after q n test d → ((e : ℕ) → ¬ HasOn s p n test e)
      → (mode : Mode) × IsTrue (test mode) × IsExplained s pid (gain_descriptor n mode)

-- the process that a process after a step comes from: itself if it was live before, and otherwise the process that made
-- the step
abbrev pub origin : State → ℕ → ℕ → ℕ
origin s pid k = if is_some (process_at s k) then k else pid

-- each process that is live after a step derives its rights from its origin, which was live
abbrev pub EachHasAnOrigin : Type 0
EachHasAnOrigin =
    (program_of : Bytes → Option Program) (s : State) (pid k : ℕ) (q : Process) → IsValid s → process_at (step program_of s pid).after k ≡ Some q
    → (p : Process) × (process_at s (origin s pid k) ≡ Some p) × IsHeirOf s (step program_of s pid).after pid p q
