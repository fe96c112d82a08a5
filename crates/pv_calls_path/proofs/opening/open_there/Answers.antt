use Rattle.pv_model.specs.Machine.{process_at}
use Rattle.pv_calls_plain.proofs.OfCallsState.UncountedChanges.{some-at}
use Rattle.pv_calls_path.proofs.OpenCalls.{alike_opened}
use Rattle.pv_calls_path.proofs.opening.open_there.Goals as goal

pub returns-clause-found : goal.returns-clause-found
returns-clause-found c =
    let s = c.args.parts.now in
    let me = some-at (process_at s c.args.pid) c.requires.live in
    alike_opened s c.requires.whole c.args.pid me.0 c.args.flags c.args.node c.open-d.new.self (c.open-d.ensures.opened me.0 me.1)
