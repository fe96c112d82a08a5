use Rattle.std.proofs.Common.{◌∙◌, ap, arith, rules, sym}
use Rattle.pv_model.specs.Machine.{at_number, is_file, OpenFile, writes, node_at}
use Rattle.pv_calls_state.proofs.UncountedChanges.{some-at}
use Rattle.pv_calls_plain.proofs.FileCalls.{file-part, is-written}
use Rattle.pv_calls_plain.proofs.files.ftruncate.Goals as goal

pub resize-requires-clause-file : goal.resize-requires-clause-file
resize-requires-clause-file c =
    let s = c.args.parts.now in
    let k = c.in-Some.file in
    let file = some-at (at_number s.files k) c.in-Some.ensures.opened in
    let mode = file-part (λ (f : OpenFile). f.mode) c.files.result.now.files s.files k file.0 c.mode.result c.files.ensures c.mode.ensures file.1 in
    let node = file-part (λ (f : OpenFile). f.node) c.files-2.result.now.files s.files k file.0 c.node.result c.files-2.ensures c.node.ensures file.1 in
    ap (λ n. is_file (node_at s.tree n)) node
    ∙ is-written s c.requires.whole k file.0 file.1 (ap writes (sym mode) ∙ sym c.writes.ensures ∙ c.if-not-writes.false)

pub returns-in-Ok-resize : goal.returns-in-Ok-resize
returns-in-Ok-resize c = record {
  performed = record {
    as_defined = λ me at. search rules;
    unchanged = rw c.answer_of.ensures tt;
    small = rw c.answer_of.ensures (omega arith);
  };
}
