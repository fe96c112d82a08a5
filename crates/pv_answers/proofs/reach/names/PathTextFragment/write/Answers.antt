use Rattle.std.proofs.Common.{ap}
use Rattle.pv_answers.specs.Reaching.{linked_path_bytes}
use Rattle.pv_answers.proofs.ListedLines.{text-below}
use Rattle.pv_streams.proofs.WriterContracts.{writes_as}
use Rattle.pv_answers.proofs.reach.names.PathTextFragment.write.Goals as goal

pub returns-in-Below : goal.returns-in-Below
returns-in-Below g c =
    let is = text-below c.args.self.now.0.now (linked_path_bytes c.in-Below.above.now) c.in-Below.name.now (ap linked_path_bytes c.in-Below.is) in
    writes_as is c.write.ensures
