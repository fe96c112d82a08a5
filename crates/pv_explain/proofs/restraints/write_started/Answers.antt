use Rattle.std.proofs.Common.{◌≡◌, ◌∙◌, Option, None, Some, option_map, refl, ap, sym}
use Rattle.std.specs.Prelude.{codes, option_copied}
use Rattle.std.proofs.lemmas.List.{append-nil}
use Rattle.pv_model.specs.Machine.{answer_bytes, answer_line, answer_line_bytes, Process, process_at}
use Rattle.pv_model_questions.specs.ExplainMore.{Restraints, execve_line, execve_text}
use Rattle.pv_procs.specs.Parts.{record_of}
use Rattle.pv_procs.specs.declared.record.ProcessRecord.{ProcessRecord}
use Rattle.pv_streams.proofs.WriterContracts.{writes_as}
use Rattle.pv_explain.specs.Added.{restraints_in}
use Rattle.pv_explain.proofs.restraints.write_started.Goals as goal

live-of : (o : Option Process) (r : ProcessRecord) → option_map record_of o ≡ Some r → (p : Process) × (o ≡ Some p) × (record_of p ≡ r)
live-of None r is = cc is
live-of (Some p) r is = (p, refl, cc is)

pub returns : goal.returns
returns g c =
    let old = restraints_in c.args.old.now in
    let it = live-of (process_at c.args.parts.now c.args.pid) c.in-Some.process.now (c.live_record.ensures ∙ ap option_copied c.in-Some.is) in
    writes_as
    (ap (λ (new : Restraints). answer_line_bytes (answer_line c.args.pid (codes "WHY") (execve_text old new))) (c.of.ensures it.0 it.2)
    ∙ sym (append-nil _)
    ∙ ap (λ (o : Option Process). answer_bytes (execve_line c.args.pid old o)) (sym it.1))
    c.write_change.ensures
