-- A run that fills every data block with a directory of eight entries: five times the blocks are enough, and four times
-- are not.
use Rattle.std.specs.Prelude.{◌≡◌, ℕ, [], ◌∷◌, replicate, codes}
use Rattle.pv_model.specs.declared.errno.Errno.TheVariants.{ENOSPC}
use Rattle.pv_model.specs.declared.instruction.Instruction.TheVariants.{Mkdir}
use Rattle.pv_model.specs.declared.outcome.Cause.TheVariants.{Plain}
use Rattle.pv_model.specs.declared.outcome.Outcome.TheVariants.{Value, Failed}
use Rattle.pv_model.specs.declared.version.Version.TheVariants.{V2}
use Rattle.pv_model.specs.Machine.{empty_tree, Program, State, first_state, step, run, Tree}
use Rattle.pv_laws_states.specs.ExampleStates.{no_programs}
use Rattle.pv_laws_steps.specs.Larger.{IsLarger, ReportsNoLimit}

-- eight directories in the root, which fill its block
abbrev pub eight : Program
eight =
    Mkdir (codes "/a")
    ∷ Mkdir (codes "/b")
    ∷ Mkdir (codes "/c")
    ∷ Mkdir (codes "/d")
    ∷ Mkdir (codes "/e")
    ∷ Mkdir (codes "/f")
    ∷ Mkdir (codes "/g")
    ∷ Mkdir (codes "/h")
    ∷ []

-- an image of version 1 with one data block
abbrev pub small : Tree
small = empty_tree 1 9

-- an image of version 2 with a number of data blocks
abbrev pub second : ℕ → Tree
second blocks = record small { blocks = blocks; version = V2 }

-- the state after a number of steps
abbrev pub past : Tree → ℕ → State
past t steps = (run no_programs (replicate steps 1) (first_state t eight)).final

pub record FiveIsLeast : Type 0 where
  -- the run reports no error, and the image with five data blocks is larger
  pub no_limit : ReportsNoLimit (run no_programs (replicate 8 1) (first_state small eight)).lines
  pub enough : IsLarger small (second 5)
  pub last : (step no_programs (past small 7) 1).outcome ≡ Value 0
  pub same : (step no_programs (past (second 5) 7) 1).outcome ≡ Value 0
  -- with four data blocks, there is no room for the eighth entry
  pub other : (step no_programs (past (second 4) 7) 1).outcome ≡ Failed ENOSPC Plain
