use Rattle.std.proofs.Common.{◌∙◌, ap, []}
use Rattle.pv_model.specs.Machine.{Process, first_process}
use Rattle.pv_script.specs.Context.{Context}
use Rattle.pv_procs.specs.declared.record.ProcessRecord.{ProcessRecord}
use Rattle.pv_procs.specs.Children.{child_slot}
use Rattle.pv_procs.proofs.slot.make_child.Goals as goal

-- the context of a process
abbrev context_of : Process → Context
context_of p = record { line = p.line; registers = p.registers; buffer = p.buffer }

pub returns : goal.returns
returns c =
    let reported = ap context_of (c.report.ensures [] (first_process [])) in
    let made = λ (r : ProcessRecord) (m : Context). record (child_slot c.args.number c.args.parent.now) { «record» = record r { context = m } } in
    ap (made c.copy_from.new.self) reported
    ∙ ap (λ (r : ProcessRecord). made r (record r.context { registers = Rattle.std.specs.Prelude.slice_set (Rattle.std.specs.Prelude.slice_set r.context.registers 0 (Rattle.std.specs.Prelude.pos 0)) 1 (Rattle.std.specs.Prelude.pos 0) })) (rw c.get.ensures at c.copy_from.ensures)
