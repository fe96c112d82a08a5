use Rattle.std.proofs.Common.{◌+◌, ◌∙◌, ℕ, List, ap, drop, sym}
use Rattle.std.proofs.lemmas.List.{drop_all, drop_more}
use Rattle.pv_named_files.specs.Listed.{with_files}
use Rattle.pv_named_files.proofs.files.files_among.Goals as goal

pub loop-node-preserved : goal.loop-node-preserved
loop-node-preserved c =
    let t = c.args.tree.now.tree in
    let ns = c.args.nodes.now in
    let i = c.loop-node.node-index in
    record {
      files =
          ap (λ (fs : List ℕ). with_files t fs (drop (i + 1) ns)) c.in_ok-push_file.ensures.files
          ∙ sym (ap (with_files t c.loop-node.files.items) (drop_more ns i 0 c.loop-node-test.true)) ∙ c.loop-node.invariant.files;
      notes = c.in_ok-push_file.ensures.notes;
    }

pub returns : goal.returns
returns c =
    let t = c.args.tree.now.tree in
    sym (ap (with_files t c.loop-node.files.items) (drop_all c.loop-node.node-index c.args.nodes.now c.loop-node-test.false)) ∙ c.loop-node.invariant.files
