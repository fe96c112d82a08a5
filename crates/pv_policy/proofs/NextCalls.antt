-- The next call of a process.
use Rattle.std.proofs.Common.{◌≡◌, ◌∙◌, ap, sym, inl, inr, Option, Some}
use Rattle.pv_model.specs.declared.call.Call.{Call}
use Rattle.pv_needs.proofs.OfAnswers.InstructionWords.{register-next}
use Rattle.pv_model.specs.Machine.{calls_for, inside, next, Process}
use Rattle.pv_procs.specs.Turns.{NoCallNext}

-- a process without a next call has no next call
pub no-call : (lives : Option Process) → NoCallNext lives → (me : Process) (call : Call) → lives ≡ Some me → next me ≡ calls_for call → ⊥
no-call lives (inl gone) me call is comes = cc (gone, is)
no-call lives (inr at) me call is comes =
    let it = register-next lives at in
    let same : it.0 ≡ me = cc (it.1, is) in
    let both : inside it.2 ≡ calls_for call = sym it.3 ∙ ap next same ∙ comes in
    cc both

-- a process has one next call
pub one-call : (lives : Option Process) (fetched : Call) (first : Process) → lives ≡ Some first → next first ≡ calls_for fetched
    → (me : Process) (call : Call) → lives ≡ Some me → next me ≡ calls_for call → fetched ≡ call
one-call lives fetched first at comes me call is next-is =
    let same : first ≡ me = cc (at, is) in
    let calls : calls_for fetched ≡ calls_for call = sym comes ∙ ap next same ∙ next-is in
    cc calls
