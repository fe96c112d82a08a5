-- A process that is confined to its table, and its child. They show that the law of descendants is not vacuous.
use Rattle.std.specs.Prelude.{◌≡◌, IsTrue, [], ◌∷◌, codes, None, Some, is_some}
use Rattle.pv_model.specs.declared.instruction.Instruction.TheVariants.{Unveil, Pledge, Fork}
use Rattle.pv_model.specs.Machine.{Program, Process, process_at, Table}
use Rattle.pv_laws_states.specs.ExampleStates.{no_programs, state_after}
use Rattle.pv_laws_access.specs.Descent.{Descends, IsHeldTo}

-- a process that confines itself to a table, promises not to unveil, and forks
abbrev pub confined : Program
confined = Unveil (Some (codes "/")) (Some (codes "r")) ∷ Unveil None None ∷ Pledge (Some (codes "stdio proc")) None ∷ Fork ∷ []

-- process 1 is confined to a table, and process 2 descends from it
pub record DescentExamples : Type 0 where
  pub table : Table
  pub parent : Process
  pub there : process_at (state_after confined (1 ∷ 1 ∷ 1 ∷ [])) 1 ≡ Some parent
  pub held : IsHeldTo table parent
  pub child : Descends no_programs 1 2 (1 ∷ []) (state_after confined (1 ∷ 1 ∷ 1 ∷ []))
  pub lives : IsTrue (is_some (process_at (state_after confined (1 ∷ 1 ∷ 1 ∷ 1 ∷ [])) 2))
