-- Laws of the reasons that `audit --reasons` writes for a process that is not closed to a file.
use Rattle.std.specs.Prelude.{◌≡◌, ◌↔◌, ℕ, ◌≤◌, Contains}
use Rattle.pv_model.specs.declared.verdict.Why.{Why}
use Rattle.pv_model.specs.Machine.{leaks, Process, State, IsWellFormed}
use Rattle.pv_model.specs.Closed.{IsReason, sort_of, why_number}

-- a reason holds, and no reason of its kind has a lesser descriptor or entry
pub record IsLeastReason (s : State) (p : Process) (f : ℕ) (why : Why) : Type 0 where
  pub holds : IsReason s p f why
  pub least : (other : Why) → IsReason s p f other → sort_of other ≡ sort_of why → why_number why ≤ why_number other

-- the reasons that are written are those that hold and are the least of their kinds
abbrev pub LeaksAreLeastReasons : Type 0
LeaksAreLeastReasons = (s : State) (p : Process) (f : ℕ) (why : Why) → IsWellFormed s.tree → Contains (leaks s p f) why ↔ IsLeastReason s p f why
