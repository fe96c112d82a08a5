use Rattle.std.proofs.Common.{sym, ◌∙◌, arith}
use Rattle.pv_model.specs.Machine.{at_number}
use Rattle.pv_model.specs.Perms.{permission_w}
use Rattle.pv_audit.proofs.NodeDescriptors.{quiet-none, quiet-more, quiet-least, quiet-all, hit-file, hit-none}
use Rattle.pv_exposure.proofs.edit.least_writing.Goals as goal
use Rattle.pv_exposure.proofs.edit.least_writing.Goals.{in-Some+else-is_written, in_default}

pub loop-d-init : goal.loop-d-init
loop-d-init c = quiet-none c.args.files.now.files c.args.descriptors.now c.args.node permission_w

pub returns-then-is_written : goal.returns-then-is_written
returns-then-is_written c =
    let files = c.args.files.now.files in
    let ds = c.args.descriptors.now in
    sym (quiet-least files ds c.args.node permission_w c.loop-d.d c.loop-d.invariant
    (hit-file files ds c.args.node permission_w (at_number ds c.loop-d.d) c.in-Some.file (sym c.file_at.ensures ∙ c.in-Some.is) ∙ sym c.is_written.ensures ∙ c.if-is_written.true))

pub loop-d-preserved : goal.loop-d-preserved
loop-d-preserved c =
    let files = c.args.files.now.files in
    let ds = c.args.descriptors.now in
    quiet-more files ds c.args.node permission_w c.loop-d.d c.loop-d.invariant
    (elim c.match-file_at.branch [
      | in-Some+else-is_written w ↦
          hit-file files ds c.args.node permission_w (at_number ds c.loop-d.d) w.in-Some.file (sym c.file_at.ensures ∙ w.in-Some.is) ∙ sym w.is_written.ensures ∙ w.if-is_written.false
      | in_default w ↦ hit-none files ds c.args.node permission_w (at_number ds c.loop-d.d) (sym c.file_at.ensures ∙ w.in_default.is)
    ])

pub returns : goal.returns
returns c =
    sym (quiet-all c.args.files.now.files c.args.descriptors.now c.args.node permission_w c.loop-d.d (omega (arith, c.invariant.ensures, c.loop-d-test.false)) c.loop-d.invariant)
