-- Runs with a refusal of each kind. They show that the laws of refusals are not vacuous.
use Rattle.std.specs.Prelude.{◌≡◌, ℕ, replicate, [], ◌∷◌, codes, None, Some}
use Rattle.pv_model.specs.declared.errno.Errno.TheVariants.{EPERM, ENOENT, EACCES, ENOSYS}
use Rattle.pv_model.specs.declared.instruction.Instruction.TheVariants.{Unveil, Pledge, Stat, Mkdir}
use Rattle.pv_model.specs.declared.outcome.Cause.TheVariants.{Promise as ByPromise, Unveil as ByUnveil, Locked}
use Rattle.pv_model.specs.declared.outcome.Outcome.{Outcome}
use Rattle.pv_model.specs.declared.outcome.Outcome.TheVariants.{Failed, Killed}
use Rattle.pv_model.specs.declared.promise.Promise.TheVariants.{Rpath, Wpath, Cpath}
use Rattle.pv_model.specs.Machine.{manifest_tree, Program, first_state, step, run}
use Rattle.pv_laws_states.specs.ExampleStates.{no_programs}

-- a table with one entry, for the name x in the root; the lock; and promises
abbrev pub refused_in_turn : Program
refused_in_turn =
    Unveil (Some (codes "/x")) (Some (codes "r"))
    ∷ Stat (codes "/y")
    ∷ Mkdir (codes "/x")
    ∷ Unveil (Some (codes "/x")) (Some (codes "rw"))
    ∷ Unveil None None
    ∷ Unveil (Some (codes "/y")) (Some (codes "r"))
    ∷ Pledge (Some (codes "stdio unveil")) (Some (codes "stdio"))
    ∷ Pledge (Some (codes "stdio cpath rpath")) None
    ∷ Pledge None (Some (codes "stdio wpath"))
    ∷ Mkdir (codes "/y")
    ∷ []

abbrev pub lenient : Program
lenient = Pledge (Some (codes "stdio error")) None ∷ Mkdir (codes "/y") ∷ []

-- the outcome of the next step after a number of steps
abbrev pub outcome_after : Program → ℕ → Outcome
outcome_after program steps = (step no_programs (run no_programs (replicate steps 1) (first_state (manifest_tree 14 16 []) program)).final 1).outcome

pub record RefusalExamples : Type 0 where
  pub none_governs : outcome_after refused_in_turn 1 ≡ Failed ENOENT (ByUnveil None)
  pub lacks_permission : outcome_after refused_in_turn 2 ≡ Failed EACCES (ByUnveil (Some 0))
  pub would_widen : outcome_after refused_in_turn 3 ≡ Failed EPERM (ByUnveil (Some 0))
  pub locked : outcome_after refused_in_turn 5 ≡ Failed EPERM Locked
  pub increase : outcome_after refused_in_turn 7 ≡ Failed EPERM (ByPromise Rpath)
  pub exec_increase : outcome_after refused_in_turn 8 ≡ Failed EPERM (ByPromise Wpath)
  pub kill : outcome_after refused_in_turn 9 ≡ Killed Cpath
  pub missing : outcome_after lenient 1 ≡ Failed ENOSYS (ByPromise Cpath)
