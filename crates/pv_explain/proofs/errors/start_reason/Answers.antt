use Rattle.std.proofs.Common.{◌∙◌, Bool, ◌||◌, not, if◌then◌else◌, None, ap, ap₂, sym}
use Rattle.pv_model.specs.Machine.{call_of, is_absolute}
use Rattle.pv_explain.specs.Errors.{descriptor_reason, start_descriptor}
use Rattle.pv_explain.proofs.errors.start_reason.Goals as goal

pub returns-then-is_path_errno : goal.returns-then-is_path_errno
returns-then-is_path_errno c me at =
    let s = c.args.parts.now in
    let call = call_of c.args.call in
    let relative = ap is_absolute (sym c.as_slice.ensures.value) ∙ sym c.is_absolute.ensures ∙ c.if-is_absolute.false in
    let of_path = sym c.is_path_errno.ensures ∙ c.if-is_path_errno.true in
    c.relative_reason.ensures me at
    ∙ sym (ap₂ (λ (a b : Bool). descriptor_reason s me call c.args.errno (if a || not b then None else start_descriptor c.args.start)) relative of_path)
