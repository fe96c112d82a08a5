use Rattle.pv_answers.specs.Reaching.{linked_path_bytes}
use Rattle.pv_answers.proofs.ListedLines.{listed-by}
use Rattle.pv_streams.proofs.WriterContracts.{writes_as}
use Rattle.pv_answers.proofs.reach.names.write_name.Goals as goal

pub returns : goal.returns
returns g c =
    let is = listed-by c.args.reacher.now (linked_path_bytes c.args.path.now) c.args.place.now c.args.node c.governing-entry.result c.permitted.result
    c.permitted.ensures c.governing-entry.ensures.value in
    writes_as is c.write_may.ensures
