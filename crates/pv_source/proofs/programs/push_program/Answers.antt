use Rattle.std.proofs.Common.{◌∙◌, ap, sym, ◌++◌}
use Rattle.std.specs.Prelude.{map}
use Rattle.std.proofs.lemmas.List.{append-nil}
use Rattle.pv_model.specs.Machine.{ended, labelled_lines, program_line_of, program_lines, instructions_of}
use Rattle.pv_source.specs.ReadPrograms.{label_value}
use Rattle.pv_source.specs.Reading.{numbered_lines}
use Rattle.pv_source.proofs.programs.push_program.Goals as goal

pub returns : goal.returns
unfolding program_lines
returns c =
    let all = labelled_lines (numbered_lines c.args.body) in
    sym (append-nil c.loop-line.out.items)
    ∙ ap (λ ls. c.loop-line.out.items ++ ended (instructions_of (map (program_line_of (map label_value c.args.labels.now)) ls))) (sym c.in_default.ensures.line)
    ∙ c.loop-line.invariant.put ∙ ap (λ labels. c.args.out.now.items ++ ended (instructions_of (map (program_line_of labels) all))) c.requires.labels
