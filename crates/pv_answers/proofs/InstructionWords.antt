-- The next instruction of a process, in words.
use Rattle.std.proofs.Common.{◌≡◌, ◌-◌, ℕ, inl, inr, true, [], codes, Option, None, Some, slice_get, refl, ap, ◌∙◌}
use Rattle.pv_model.specs.declared.instruction.Instruction.{Instruction}
use Rattle.pv_model.specs.declared.instruction.Instruction.TheVariants.{Set, Add, Put, Peek, Jump, JumpIfZero, JumpIfNotZero, JumpIfNegative}
use Rattle.pv_model.specs.Answers.Observed.{CallObserver}
use Rattle.pv_model.specs.Answers.ProcessRecord.{next_text}
use Rattle.pv_model.specs.Machine.{inside, next, next_by, of_calls, of_next, of_process, perform, Process, process_at, State, Stepped}
use Rattle.pv_calls_state.specs.OfScript.Context.{is_some_on_registers}
use Rattle.pv_calls_state.specs.OfProcs.Turns.{NoCallNext, RegisterNext}
use Rattle.pv_answers.specs.Texts.{next_words}

pub gone-words : (lives : Option Process) → lives ≡ None → next_words lives ≡ []
gone-words lives is = ap next_words is

-- an instruction on registers is not a call
pub inside-next : (p : Process) (o : Option Instruction) → is_some_on_registers o ≡ true → (after : Process) × (next_by p o ≡ inside after)
unfolding perform
inside-next p None is = cc is
inside-next p (Some (Set r n)) is = (_, refl)
inside-next p (Some (Add r n)) is = (_, refl)
inside-next p (Some (Put bytes)) is = (_, refl)
inside-next p (Some (Peek r k)) is = (_, refl)
inside-next p (Some (Jump line)) is = (_, refl)
inside-next p (Some (JumpIfZero r line)) is = (_, refl)
inside-next p (Some (JumpIfNotZero r line)) is = (_, refl)
inside-next p (Some (JumpIfNegative r line)) is = (_, refl)
inside-next p (Some instruction) is = cc is

-- a process whose next step is on registers makes no call
pub register-next : (lives : Option Process) → RegisterNext lives → (me : Process) × (lives ≡ Some me) × (after : Process) × (next me ≡ inside after)
register-next lives (me, is, on_registers) = let it = inside-next me (slice_get me.program (me.line - 1)) on_registers in (me, is, it.0, it.1)

-- nothing is observed of a process without a next call
pub no-calls : {X : Type 0} (observe : CallObserver X) (s : State) (pid : ℕ) (now : Stepped) → NoCallNext (process_at s pid) → of_calls observe s pid now ≡ []
no-calls observe s pid now (inl gone) = ap (of_process observe s pid now) gone
no-calls observe s pid now (inr at) =
    let it = register-next (process_at s pid) at in
    ap (of_process observe s pid now) it.1 ∙ ap (of_next observe s pid now it.0) it.3

pub register-words : (lives : Option Process) → RegisterNext lives → next_words lives ≡ codes "registers"
register-words lives at = let it = register-next lives at in ap next_words it.1 ∙ ap next_text it.3
