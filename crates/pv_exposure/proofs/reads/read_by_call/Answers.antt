use Rattle.std.proofs.Common.{◌≡◌, ◌∙◌, [], ℕ, List, Bool, if◌then◌else◌, ap, sym}
use Rattle.pv_model.specs.Answers.Access.{nodes_read}
use Rattle.pv_model.specs.Machine.{Answered, call_of, State, process_at, Stepped}
use Rattle.pv_reduced.specs.OfSession.Running.{stepped}
use Rattle.pv_reduced.proofs.OfSession.MachineSteps.{step-called}
use Rattle.pv_exposure.specs.Reading.{file_to_read}
use Rattle.pv_exposure.proofs.FilesOfReads.{read-called, reads-by}
use Rattle.pv_exposure.proofs.reads.read_by_call.Goals as goal

pub returns-then-has_read : goal.returns-then-has_read
returns-then-has_read c =
    let s = c.args.session.now in
    let pid = c.args.pid in
    let call = call_of c.args.call in
    let comes = c.requires in
    let me = comes.0 in
    let a : Answered = record { after = c.call.new.self; outcome = c.in_ok-answer.answer.outcome; walks = c.in_ok-answer.answer.walks } in
    let step_is = step-called s pid me call a comes.1 comes.2 c.in_ok-answer.ensures.answered in
    let read =
    read-called s pid (stepped s pid) me call comes.1 comes.2 ∙ ap (λ (w : Stepped). nodes_read s me call w.outcome) step_is ∙ reads-by s me call a.outcome in
    let same = c.parts.ensures.value in
    c.file_of-file.ensures me (ap (λ (x : State). process_at x pid) same ∙ comes.1) ∙ ap (λ (x : State). file_to_read x me call) same
    ∙ sym (read ∙ ap (λ (b : Bool). let ns : List ℕ = if b then file_to_read s me call else [] in ns) (sym c.has_read.ensures ∙ c.if-has_read.true))

pub returns-else-has_read : goal.returns-else-has_read
returns-else-has_read c =
    let s = c.args.session.now in
    let pid = c.args.pid in
    let call = call_of c.args.call in
    let comes = c.requires in
    let me = comes.0 in
    let a : Answered = record { after = c.call.new.self; outcome = c.in_ok-answer.answer.outcome; walks = c.in_ok-answer.answer.walks } in
    let step_is = step-called s pid me call a comes.1 comes.2 c.in_ok-answer.ensures.answered in
    let read =
    read-called s pid (stepped s pid) me call comes.1 comes.2 ∙ ap (λ (w : Stepped). nodes_read s me call w.outcome) step_is ∙ reads-by s me call a.outcome in
    sym (read ∙ ap (λ (b : Bool). let ns : List ℕ = if b then file_to_read s me call else [] in ns) (sym c.has_read.ensures ∙ c.if-has_read.false))
