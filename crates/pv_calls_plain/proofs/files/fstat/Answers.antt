use Rattle.std.proofs.Common.{◌∙◌, ap, ap₂, sym, subst, w32}
use Rattle.std.proofs.lemmas.Int.{to_z-of_z}
use Rattle.pv_calls_plain.specs.Performed.{IsOn}
use Rattle.pv_model.specs.Machine.{answer_by_attempt, done, returns_bytes, status, OpenFile}
use Rattle.pv_calls_plain.proofs.FileCalls.{file-part, fstat-is, node-used}
use Rattle.pv_calls_plain.proofs.files.fstat.Goals as goal

pub status-bytes-requires : goal.status-bytes-requires
status-bytes-requires c =
    node-used c.args.parts.now c.requires.whole c.in-Some.file c.tree.result.now.tree c.files.result.now.files c.node.result c.tree.ensures c.files.ensures c.in-Some.ensures.opened c.node.ensures

pub returns : goal.returns
returns c = record {
  performed = λ before me at.
      let s = c.args.parts.now in
      let k = c.in-Some.file in
      let on : IsOn s me c.args.d k = subst (λ z. IsOn s me z k) (to_z-of_z w32 c.args.d c.ranges.d) (c.in-Some.ensures.file me at) in
      let node = file-part (λ (f : OpenFile). f.node) c.files.result.now.files s.files k on.file c.node.result c.files.ensures c.node.ensures on.there in
      let bytes = c.status-bytes.ensures ∙ ap₂ status c.tree.ensures node in
      ap (answer_by_attempt before s c.args.pid me) (fstat-is s c.args.pid me c.args.d k on.file on.opened ∙ ap (λ bs. done 0 (s, returns_bytes 0 bs)) (sym bytes))
      ∙ c.report_bytes.ensures before s s me c.invariant.ensures.collected;
}
