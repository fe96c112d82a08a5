use Rattle.std.proofs.Common.{◌≡◌, ◌++◌, flat_map, take}
use Rattle.pv_model.specs.Machine.{answer_line_bytes}
use Rattle.pv_model_questions.specs.Exposure.{safe_line}
use Rattle.pv_exposure.proofs.text.append_safe.Given as goal

abbrev pub invariant-loop-node : goal.invariant-loop-node
invariant-loop-node l = l.out.bytes.items ≡ l.fn.out.bytes.items ++ flat_map (λ n. answer_line_bytes (safe_line l.tree.tree n)) (take l.node-index l.files)
