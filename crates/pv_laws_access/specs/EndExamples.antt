-- A run in which a child ends, and then its parent. It shows that the laws of ends are not vacuous.
use Rattle.std.specs.Prelude.{◌≡◌, [], ◌∷◌, pos, None, Some}
use Rattle.std.specs.FinMap.Entries.{find}
use Rattle.std.specs.Ordering.{nat_cmp}
use Rattle.pv_model.specs.declared.instruction.Instruction.TheVariants.{Fork, Exit}
use Rattle.pv_model.specs.declared.instruction.Operand.TheVariants.{Number}
use Rattle.pv_model.specs.Machine.{Program, ended_record}
use Rattle.pv_laws_states.specs.ExampleStates.{state_after}

-- a process that forks and exits with code 3, as its child does
abbrev pub forking : Program
forking = Fork ∷ Exit (Number (pos 3)) ∷ []

-- the child's record is kept until its parent ends
pub record EndExamples : Type 0 where
  pub waiting : find nat_cmp 2 (state_after forking (1 ∷ 2 ∷ [])).processes ≡ Some (ended_record 1 768)
  pub forgotten : find nat_cmp 2 (state_after forking (1 ∷ 2 ∷ 1 ∷ [])).processes ≡ None
  pub over : find nat_cmp 1 (state_after forking (1 ∷ 2 ∷ 1 ∷ [])).processes ≡ None
