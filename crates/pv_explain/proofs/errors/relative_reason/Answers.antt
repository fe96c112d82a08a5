use Rattle.std.proofs.Common.{rules, ◌≡◌, ◌∙◌, ℤ, ap, sym, w32, to_z, of_z}
use Rattle.pv_model.specs.Machine.{call_of, open_file}
use Rattle.pv_explain.specs.Errors.{descriptor_reason, file_reason, start_descriptor}
use Rattle.pv_explain.proofs.errors.relative_reason.Goals as goal

pub returns-in-Descriptor : goal.returns-in-Descriptor
returns-in-Descriptor c me at =
    let s = c.args.parts.now in
    let call = call_of c.args.call in
    let e = c.args.errno in
    let back : to_z w32 (of_z w32 c.in-Descriptor.d) ≡ c.in-Descriptor.d = search rules in
    c.file_reason.ensures me at
    ∙ ap (λ (z : ℤ). file_reason s me call e z (open_file s me z)) back
    ∙ sym (ap (λ start. descriptor_reason s me call e (start_descriptor start)) c.in-Descriptor.is)
