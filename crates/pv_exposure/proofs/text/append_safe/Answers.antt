use Rattle.std.proofs.Common.{◌∙◌, ◌++◌, ap}
use Rattle.pv_model.specs.Machine.{answer_line_bytes, Bytes}
use Rattle.pv_model_questions.specs.Exposure.{safe_line}
use Rattle.pv_exposure.proofs.ListTexts.{all-done, safe-flat}
use Rattle.pv_exposure.proofs.text.append_safe.Goals as goal

pub returns : goal.returns
returns c =
    let t = c.args.tree.now.tree in
    let old = c.args.out.now.bytes.items in
    all-done (λ n. answer_line_bytes (safe_line t n)) c.args.files.now old c.loop-node.node-index c.loop-node.out.bytes.items c.loop-node-test.false c.loop-node.invariant
    ∙ ap (λ (bs : Bytes). old ++ bs) (safe-flat t c.args.files.now)
