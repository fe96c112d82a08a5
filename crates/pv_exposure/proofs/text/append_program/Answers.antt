use Rattle.std.proofs.Common.{◌≡◌, ◌∙◌, ◌++◌, [], ℕ, List, ap, if◌then◌else◌, map, rules}
use Rattle.std.proofs.lemmas.Result.{on_ok_weaker}
use Rattle.pv_model.specs.Machine.{AnswerLine, answer_bytes, answer_line_bytes, program_of}
use Rattle.pv_model.specs.Answers.ProgramNames.{program_line}
use Rattle.pv_model_questions.specs.Accesses.{kept_files}
use Rattle.pv_model_questions.specs.Exposure.{safe_line}
use Rattle.pv_named_files.specs.FirstPaths.{files_given, first_tree}
use Rattle.pv_exposure.specs.Collected.{all_lines_recorded_of}
use Rattle.pv_exposure.proofs.ListTexts.{three}
use Rattle.pv_exposure.proofs.text.append_program.Goals as goal

pub returns : goal.returns
returns c =
    let files = files_given c.args.paths.now in
    let t = first_tree c.args.paths.now in
    let e = c.args.program.now in
    let line = answer_line_bytes (program_line program_of t c.args.number e.program) in
    let safe_lines : List ℕ → List AnswerLine = λ fs. if c.args.complete then map (safe_line t) (kept_files files t fs) else [] in
    let name : c.append_program_line.new.out.bytes.items ≡ c.args.out.now.bytes.items ++ line = search rules in
    let kinds : c.append_kinds.new.out.bytes.items ≡ c.append_program_line.new.out.bytes.items ++ answer_bytes (all_lines_recorded_of e) = search rules in
    on_ok_weaker c.append_safe_if.result
    (λ last.
    three c.args.out.now.bytes.items c.append_program_line.new.out.bytes.items c.append_kinds.new.out.bytes.items c.append_safe_if.new.out.bytes.items line (all_lines_recorded_of e) (safe_lines e.safe) name kinds
    (last ∙ ap (λ (fs : List ℕ). c.append_kinds.new.out.bytes.items ++ answer_bytes (safe_lines fs)) c.safe.ensures))
    c.append_safe_if.ensures
