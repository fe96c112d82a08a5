use Rattle.std.proofs.Common.{sym, arith}
use Rattle.pv_answers.proofs.NodePaths.{path-above, root-bytes, step-is}
use Rattle.pv_streams.proofs.WriterContracts.{writes_as, writes_both, writes_failed, writes_longer, writes_none}
use Rattle.pv_answers.proofs.nodes.+write_above.Goals as goal

pub returns-then-directory-eq-ROOT : goal.returns-then-directory-eq-ROOT
returns-then-directory-eq-ROOT g t c = writes_as (sym (root-bytes c.args.tree.now.tree c.args.depth c.args.directory c.if-directory-eq-ROOT.true c.requires.path)) writes_none

pub unreachable-requires : goal.unreachable-requires
unreachable-requires g t c = path-above c.args.tree.now.tree c.args.depth c.args.directory c.if-directory-eq-ROOT.false c.requires.path (sym c.in_default.ensures.value)

pub write_above-requires : goal.write_above-requires
write_above-requires g t c =
    let step = step-is c.args.tree.now.tree c.args.depth c.args.directory c.in-Some.above c.if-directory-eq-ROOT.false (sym c.in-Some.ensures.value) c.requires.path in
    λ κs sub. (omega (arith, c.decreases, step.deep), (sub, (c.in-Some.ensures.directory, step.above)))

pub returns-in_err-write_above : goal.returns-in_err-write_above
returns-in_err-write_above g t c =
    let step = step-is c.args.tree.now.tree c.args.depth c.args.directory c.in-Some.above c.if-directory-eq-ROOT.false (sym c.in-Some.ensures.value) c.requires.path in
    writes_failed c.from_residual.ensures.0 (writes_as (sym step.bytes) (writes_longer _ c.in_err-write_above.ensures))

pub returns : goal.returns
returns g t c =
    let step = step-is c.args.tree.now.tree c.args.depth c.args.directory c.in-Some.above c.if-directory-eq-ROOT.false (sym c.in-Some.ensures.value) c.requires.path in
    writes_as (sym step.bytes) (writes_both c.in_ok-write_above.ensures c.write_own_name.ensures)
