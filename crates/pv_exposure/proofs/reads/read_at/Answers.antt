use Rattle.std.proofs.Common.{◌≡◌, ◌∙◌, ap, slice_get}
use Rattle.std.proofs.lemmas.Result.{IfOk-weaker}
use Rattle.pv_model.specs.Machine.{Found}
use Rattle.pv_model_questions.specs.Exposure.{read_observer}
use Rattle.pv_reduced.specs.OfSession.Running.{stepped}
use Rattle.pv_exposure.proofs.FilesOfReads.{none-found, same-found}
use Rattle.pv_exposure.proofs.reads.read_at.Goals as goal

pub returns-in-Some-clause-read : goal.returns-in-Some-clause-read
returns-in-Some-clause-read c =
    let slot = slice_get c.args.states.now.found c.args.number in
    IfOk-weaker c.read_from.result _ _
    (λ read e f there.
    let same = same-found c.in_ok-visited.field-0 c.in-Some.visited slot f c.in_ok-visited.ensures.at c.in-Some.is there in
    e ∙ ap (λ (x : Found). read_observer x.state c.args.pid (stepped x.state c.args.pid)) same)
    c.read_from.ensures.read

pub returns-in-None-clause-read : goal.returns-in-None-clause-read
returns-in-None-clause-read c f there =
    absurd (none-found c.in_ok-visited.field-0 (slice_get c.args.states.now.found c.args.number) f c.in_ok-visited.ensures.at c.in-None.is there)
