-- The directory of a new entry gets one more reference.
use Rattle.std.proofs.Common.{arith}
use Rattle.pv_calls_state.proofs.AddedTableEntries.{added-up, added-state}
use Rattle.pv_calls_state.proofs.ProcessChanges.{before, started, few-holds}
use Rattle.pv_calls_state.proofs.parts.Parts.unveil.Goals as goal

pub hold_if-requires-clause-few : goal.hold_if-requires-clause-few
hold_if-requires-clause-few c =
    let i = c.self.inside in
    let p = started c.args.self.now i.tree i.files i.processes c.args.pid c.self.view_is c.requires.whole c.self.invariant c.invariant.ensures c.invariant-2.ensures c.requires.live in
    omega (arith, few-holds i.tree i.files i.processes c.args.pid p.0 p.1 c.directory_of-directory.result)

pub invariant_of-self-2 : goal.invariant_of-self-2
invariant_of-self-2 c =
    let i = c.self.inside in
    let p = started c.args.self.now i.tree i.files i.processes c.args.pid c.self.view_is c.requires.whole c.self.invariant c.invariant.ensures c.invariant-2.ensures c.requires.live in
    added-up i.tree i.files i.processes c.args.pid p.0 p.1 c.args.target c.args.permissions _ _ (c.in_ok-is_new.ensures.added p.0 p.1.at) c.hold_if.new.tree
    c.directory_of-directory.result c.directory_of-directory.ensures c.hold_if.ensures.more

pub returns-clause-added : goal.returns-clause-added
returns-clause-added c me at =
    let i = c.self.inside in
    let is = before c.args.self.now i.tree i.files i.processes c.args.pid me c.self.view_is c.requires.whole c.self.invariant c.invariant.ensures c.invariant-2.ensures at in
    added-state i.tree i.files i.processes c.args.pid me is c.args.target c.args.permissions _ _ (c.in_ok-is_new.ensures.added me is.at) c.hold_if.new.tree
    c.args.self.now c.self.view_is c.hold_if.ensures.tree
