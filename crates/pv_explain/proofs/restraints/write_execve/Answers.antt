use Rattle.std.proofs.Common.{◌∙◌, [], Bool, cond, ap, sym}
use Rattle.pv_model.specs.Machine.{answer_bytes, process_at}
use Rattle.pv_model_questions.specs.ExplainMore.{execve_line}
use Rattle.pv_streams.proofs.WriterContracts.{writes_as, writes_none}
use Rattle.pv_explain.specs.Added.{restraints_in}
use Rattle.pv_explain.proofs.restraints.write_execve.Goals as goal

pub returns-then-begins_program : goal.returns-then-begins_program
returns-then-begins_program g c =
    writes_as
    (ap (λ (b : Bool). answer_bytes (cond b (execve_line c.args.pid (restraints_in c.args.old.now) (process_at c.args.parts.now c.args.pid)) []))
    (sym c.if-begins_program.true ∙ c.begins_program.ensures))
    c.write_started.ensures

pub returns-else-begins_program : goal.returns-else-begins_program
returns-else-begins_program g c =
    writes_as
    (ap (λ (b : Bool). answer_bytes (cond b (execve_line c.args.pid (restraints_in c.args.old.now) (process_at c.args.parts.now c.args.pid)) []))
    (sym c.if-begins_program.false ∙ c.begins_program.ensures))
    writes_none
