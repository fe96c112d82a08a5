use Rattle.std.proofs.Common.{◌++◌, ◌∙◌, ap, codes, decimal}
use Rattle.std.proofs.lemmas.Result.{on_ok_weaker}
use Rattle.pv_model.specs.Machine.{answer_line, answer_line_bytes, Bytes}
use Rattle.pv_programs.proofs.FirstNames.{words-are}
use Rattle.pv_programs.proofs.line.append_program_line.Goals as goal

pub returns : goal.returns
returns c =
    on_ok_weaker c.append_named.result
    (λ added.
    added
    ∙ ap (λ (words : Bytes). c.args.out.now.bytes.items ++ answer_line_bytes (answer_line 0 (codes "PROG") (decimal c.args.number ++ codes ", " ++ words)))
    (words-are c.args.tree.now.tree c.args.program.now _ c.in_ok-path.ensures))
    c.append_named.ensures
