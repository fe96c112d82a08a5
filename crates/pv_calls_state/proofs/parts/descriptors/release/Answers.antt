-- With its last user, an open file releases its node.
use Rattle.std.proofs.Common.{◌≡◌, refl, ap, sym, ◌∙◌, arith}
use Rattle.pv_procs.specs.OfTree.Holding.{collected}
use Rattle.std.specs.Prelude.{slice_index}
use Rattle.pv_calls_state.proofs.RemovedUsers.{open-held, releases-closes}
use Rattle.pv_calls_state.proofs.parts.descriptors.release.Goals as goal

pub unreference-requires : goal.unreference-requires
unreference-requires c = open-held c.args.tree.now c.args.files.now c.args.file c.in-Some.node c.requires.held c.in-Some.ensures.node

pub returns-in-Some : goal.returns-in-Some
returns-in-Some c =
    let last : slice_index c.args.files.now.users c.args.file ≡ 1 = c.in-Some.ensures.last.0 refl in
    releases-closes c.args.file c.args.files.now c.release.new.self (omega (arith, last)) c.in-Some.ensures.users c.args.tree.now c.unreference.new.self
    c.in-Some.node c.in-Some.ensures.node last (c.in-Some.ensures.closed)
    (c.unreference.ensures.tree ∙ ap (λ hs. collected c.args.tree.now.tree hs) (sym c.unreference.ensures.holds)) c.unreference.ensures.less c.unreference.ensures.others
