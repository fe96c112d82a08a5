-- Two states that agree in the part on which a step depends, and two that do not. They show that the law is not vacuous
-- and that its premise matters.
use Rattle.std.specs.Prelude.{◌≡◌, ◌≢◌, [], ◌∷◌}
use Rattle.pv_model.specs.declared.outcome.Outcome.TheVariants.{Value}
use Rattle.pv_model.specs.Machine.{State, process_at, step}
use Rattle.pv_laws_states.specs.ExampleStates.{no_programs, state_after}
use Rattle.pv_laws_steps.specs.CommuteExamples.{apart, sharing}
use Rattle.pv_laws_steps.specs.Seen.{seen, with_insides}

-- after a fork, and after the child's getpid
abbrev pub after_fork : State
after_fork = state_after apart (1 ∷ [])

abbrev pub after_getpid : State
after_getpid = state_after apart (1 ∷ 2 ∷ [])

-- after a fork of two processes that share an open file, and after the child's lseek in it
abbrev pub before_lseek : State
before_lseek = state_after sharing (1 ∷ 1 ∷ [])

abbrev pub after_lseek : State
after_lseek = state_after sharing (1 ∷ 1 ∷ 2 ∷ [])

pub record SeenExamples : Type 0 where
  -- the child's getpid changes the child, but nothing that the parent's step depends on; the parent's getpid is the
  -- same
  pub alike : seen 1 after_fork ≡ seen 1 after_getpid
  pub other : process_at after_fork 2 ≢ process_at after_getpid 2
  pub own : seen 2 after_fork ≢ seen 2 after_getpid
  pub before : (step no_programs after_fork 1).outcome ≡ Value 1
  pub following : (step no_programs after_getpid 1).outcome ≡ Value 1
  pub left : (step no_programs after_getpid 1).after ≡ with_insides 1 after_getpid (step no_programs after_fork 1).after
  -- the child's lseek changes the shared open file; the parent's lseek returns a different offset
  pub not_alike : seen 1 before_lseek ≢ seen 1 after_lseek
  pub first : (step no_programs before_lseek 1).outcome ≡ Value 1
  pub second : (step no_programs after_lseek 1).outcome ≡ Value 2
