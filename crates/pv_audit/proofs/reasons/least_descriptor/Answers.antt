use Rattle.std.proofs.Common.{sym, ◌∙◌, arith}
use Rattle.pv_model.specs.Machine.{at_number}
use Rattle.pv_audit.proofs.NodeDescriptors.{quiet-none, quiet-more, quiet-least, quiet-all, hit-file, hit-none}
use Rattle.pv_audit.proofs.reasons.least_descriptor.Goals as goal
use Rattle.pv_audit.proofs.reasons.least_descriptor.Goals.{in-Some+else-is_open_on, in_default}

pub loop-d-init : goal.loop-d-init
loop-d-init c = quiet-none c.args.files.now.files c.args.descriptors.now c.args.node c.args.needed

pub returns-then-is_open_on : goal.returns-then-is_open_on
returns-then-is_open_on c =
    let files = c.args.files.now.files in
    let ds = c.args.descriptors.now in
    sym (quiet-least files ds c.args.node c.args.needed c.loop-d.d c.loop-d.invariant
    (hit-file files ds c.args.node c.args.needed (at_number ds c.loop-d.d) c.in-Some.file (sym c.file_at.ensures ∙ c.in-Some.is) ∙ sym c.is_open_on.ensures ∙ c.if-is_open_on.true))

pub loop-d-preserved : goal.loop-d-preserved
loop-d-preserved c =
    let files = c.args.files.now.files in
    let ds = c.args.descriptors.now in
    quiet-more files ds c.args.node c.args.needed c.loop-d.d c.loop-d.invariant
    (elim c.match-file_at.branch [
      | in-Some+else-is_open_on w ↦
          hit-file files ds c.args.node c.args.needed (at_number ds c.loop-d.d) w.in-Some.file (sym c.file_at.ensures ∙ w.in-Some.is) ∙ sym w.is_open_on.ensures ∙ w.if-is_open_on.false
      | in_default w ↦ hit-none files ds c.args.node c.args.needed (at_number ds c.loop-d.d) (sym c.file_at.ensures ∙ w.in_default.is)
    ])

pub returns : goal.returns
returns c =
    sym (quiet-all c.args.files.now.files c.args.descriptors.now c.args.node c.args.needed c.loop-d.d (omega (arith, c.invariant.ensures, c.loop-d-test.false)) c.loop-d.invariant)
