-- Schedules of processes that count on a register, in normal form; and a read, which cannot be combined with the next
-- step.
use Rattle.std.specs.Prelude.{◌≡◌, ℕ, true, false, List, [], ◌∷◌, replicate, codes, pos, negsuc}
use Rattle.pv_model.specs.declared.instruction.Instruction.TheVariants.{Set, Add, Jump, JumpIfZero, JumpIfNotZero, Fork, GetPid, Exit, Open, Read, Write}
use Rattle.pv_model.specs.declared.instruction.Operand.TheVariants.{Number}
use Rattle.pv_model.specs.declared.open_flags.Mode.TheVariants.{Write as Writing, ReadWrite}
use Rattle.pv_model.specs.declared.outcome.Outcome.TheVariants.{Value, Text}
use Rattle.pv_model.specs.Machine.{Program, State, step, run}
use Rattle.pv_laws_states.specs.ExampleStates.{no_programs, state_after, flags}
use Rattle.pv_laws_steps.specs.Commuting.{Commute}
use Rattle.pv_laws_classes.specs.Together.{step_result, replies, NormalForm, together, steps_together, after_together}

-- ---- two loops that end

-- a process forks; then both processes count down from two on a register and call getpid
abbrev pub counting_down : Program
counting_down = Fork ∷ Set 1 (pos 2) ∷ Add 1 (negsuc 0) ∷ JumpIfNotZero 1 3 ∷ GetPid ∷ []

abbrev pub counting_forked : State
counting_forked = state_after counting_down (1 ∷ [])

-- a step of each process, six times
abbrev pub by_turns : List ℕ
by_turns = 1 ∷ 2 ∷ 1 ∷ 2 ∷ 1 ∷ 2 ∷ 1 ∷ 2 ∷ 1 ∷ 2 ∷ 1 ∷ 2 ∷ []

-- without the getpid of the child
abbrev pub cut_short : List ℕ
cut_short = 1 ∷ 2 ∷ 1 ∷ 2 ∷ 1 ∷ 2 ∷ 1 ∷ 2 ∷ 1 ∷ 2 ∷ 1 ∷ []

pub record LoopExamples : Type 0 where
  -- all steps of one process are before those of the other
  pub form : NormalForm no_programs counting_forked by_turns
  pub turns : form.turns ≡ (1, 5) ∷ (2, 5) ∷ []
  pub left : form.left ≡ []
  -- the child's steps are at the end, and six of the eleven steps reach the getpid
  pub cut_form : NormalForm no_programs counting_forked cut_short
  pub cut_turns : cut_form.turns ≡ (1, 5) ∷ []
  pub cut_left : cut_form.left ≡ replicate 5 2
  pub cut_replies : replies no_programs cut_short counting_forked ≡ step_result 1 (together no_programs 5 counting_forked 1).last ∷ []
  -- the combined step of six steps; with a lesser bound it is two combined steps of three
  pub whole : (together no_programs 5 counting_forked 1).count ≡ 6
  pub outcome : (together no_programs 5 counting_forked 1).last.outcome ≡ Value 1
  pub part : (together no_programs 2 counting_forked 1).count ≡ 3
  pub silent : (together no_programs 2 counting_forked 1).last.lines ≡ []
  pub two_parts : steps_together no_programs 2 (1 ∷ 1 ∷ []) counting_forked ≡ replicate 6 1
  pub final : after_together no_programs 2 (1 ∷ 1 ∷ []) counting_forked ≡ after_together no_programs 5 (1 ∷ []) counting_forked

-- ---- a loop that does not end

-- a process forks and loops on registers; the child calls getpid
abbrev pub looping : Program
looping = Fork ∷ JumpIfZero 0 4 ∷ Jump 3 ∷ GetPid ∷ []

abbrev pub loops : State
loops = state_after looping (1 ∷ [])

pub record EndlessExamples : Type 0 where
  -- a combined step in the loop has the greatest number of steps that the bound admits
  pub four : (together no_programs 3 loops 1).count ≡ 4
  pub six : (together no_programs 5 loops 1).count ≡ 6
  pub silent : (together no_programs 5 loops 1).last.lines ≡ []
  -- the schedule to the child's getpid does not need the loop
  pub form : NormalForm no_programs loops (1 ∷ 1 ∷ 2 ∷ 1 ∷ 2 ∷ [])
  pub turns : form.turns ≡ (2, 1) ∷ []
  pub left : form.left ≡ replicate 3 1
  pub steps : steps_together no_programs 3 (2 ∷ []) loops ≡ 2 ∷ 2 ∷ []

-- ---- a read is not a step on registers

-- a process creates and opens a file and forks; then it reads twice, and the child opens the file and writes five bytes
abbrev pub two_reads : Program
two_reads =
    Open (codes "/x") (flags ReadWrite true)
    ∷ Fork
    ∷ JumpIfZero 0 7
    ∷ Read (Number (pos 0)) (Number (pos 5))
    ∷ Read (Number (pos 0)) (Number (pos 4))
    ∷ Exit (Number (pos 0))
    ∷ Open (codes "/x") (flags Writing false)
    ∷ Write (Number (pos 1)) (Number (pos 5))
    ∷ []

-- before the reads and the write
abbrev pub ready : State
ready = state_after two_reads (1 ∷ 1 ∷ 1 ∷ 2 ∷ 2 ∷ [])

abbrev pub ReturnsBytes : ℕ → State → Type 0
ReturnsBytes n s = (step no_programs s 1).outcome ≡ Text (record { value = n; len = n })

pub record ReadExamples : Type 0 where
  -- the read and the write do not commute
  pub before : ReturnsBytes 0 ready
  pub later : ReturnsBytes 5 (run no_programs (2 ∷ []) ready).final
  pub differ : ¬ Commute no_programs ready 1 2
  -- the second read returns four bytes if the write is between the reads, and none if the reads are made together
  pub between : ReturnsBytes 4 (run no_programs (1 ∷ 2 ∷ []) ready).final
  pub not_before : ReturnsBytes 0 (run no_programs (1 ∷ []) ready).final
  pub not_later : ReturnsBytes 0 (run no_programs (2 ∷ 1 ∷ []) ready).final
