use Rattle.std.proofs.Common.{◌∙◌}
use Rattle.std.proofs.lemmas.Result.{err_from_is_err_and}
use Rattle.pv_streams.proofs.WriterContracts.{or_as, or_ok}
use Rattle.pv_streams.proofs.StoppedAnswers.{not_memory, unfinished, unwritten}
use Rattle.pv_named_files.specs.FirstPaths.{path_texts}
use Rattle.pv_exposure.proofs.SearchText.{search-text}
use Rattle.pv_exposure.proofs.exposure.write_exposure.Goals as goal

pub returns-in_err-lines-clause-written : goal.returns-in_err-lines-clause-written
returns-in_err-lines-clause-written g c =
    let failed = err_from_is_err_and c.from_residual-in_err-lines.result c.from_residual-in_err-lines.ensures.1 in
    unwritten g.W.Sink _ c.args.out.now c.from_residual-in_err-lines.result failed.0 failed.1 failed.2

pub returns-in_err-write_whole-clause-written : goal.returns-in_err-write_whole-clause-written
returns-in_err-write_whole-clause-written g c =
    let failed = err_from_is_err_and c.from_residual-in_err-write_whole.result c.from_residual-in_err-write_whole.ensures.1 in
    or_as
    (c.deref.ensures.value ∙ c.in_ok-lines.ensures.text
    ∙ search-text c.args.kind (path_texts c.args.files.now) c.args.states c.args.first_machine.now c.tree.result.now.tree c.in_ok-visits.visits c.tree.ensures c.in_ok-visits.ensures)
    (unfinished g.W.Sink _ c.args.out.now c.write_whole.new.sink c.from_residual-in_err-write_whole.result failed.0 _ failed.1 failed.2 c.in_err-write_whole.ensures)

pub returns-clause-written : goal.returns-clause-written
returns-clause-written g c =
    or_as
    (c.deref.ensures.value ∙ c.in_ok-lines.ensures.text
    ∙ search-text c.args.kind (path_texts c.args.files.now) c.args.states c.args.first_machine.now c.tree.result.now.tree c.in_ok-visits.visits c.tree.ensures c.in_ok-visits.ensures)
    (or_ok c.in_ok-write_whole.ensures)

pub returns-in_err-write_whole-clause-nothing : goal.returns-in_err-write_whole-clause-nothing
returns-in_err-write_whole-clause-nothing g c = λ is. absurd (not_memory c.from_residual-in_err-write_whole.result c.from_residual-in_err-write_whole.ensures.1 is)
