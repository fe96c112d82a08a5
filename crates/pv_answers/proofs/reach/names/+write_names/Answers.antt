use Rattle.std.proofs.Common.{ap, sym}
use Rattle.pv_answers.specs.Reaching.{linked_path_bytes}
use Rattle.pv_answers.proofs.ListedLines.{names-below}
use Rattle.pv_streams.proofs.WriterContracts.{writes_as, writes_both, writes_failed, writes_longer}
use Rattle.pv_answers.proofs.reach.names.+write_names.Goals as goal

pub returns-in_err-write_names-in-Below : goal.returns-in_err-write_names-in-Below
returns-in_err-write_names-in-Below g t c =
    let is = names-below c.args.path.now (linked_path_bytes c.in-Below.above.now) c.in-Below.name.now (ap linked_path_bytes c.in-Below.is) in
    writes_failed c.from_residual.ensures.0 (writes_as (sym is) (writes_longer _ c.in_err-write_names-in-Below.ensures))

pub returns-in_ok-write_names-in-Below : goal.returns-in_ok-write_names-in-Below
returns-in_ok-write_names-in-Below g t c =
    let is = names-below c.args.path.now (linked_path_bytes c.in-Below.above.now) c.in-Below.name.now (ap linked_path_bytes c.in-Below.is) in
    writes_as (sym is) (writes_both c.in_ok-write_names-in-Below.ensures c.write.ensures)
