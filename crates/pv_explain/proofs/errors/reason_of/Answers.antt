use Rattle.std.proofs.Common.{◌∙◌, ap, sym, option_map}
use Rattle.std.specs.Prelude.{unwrap_or}
use Rattle.pv_model.specs.Machine.{call_of}
use Rattle.pv_explain.specs.ErrorParts.{reason_in}
use Rattle.pv_explain.specs.Errors.{descriptor_reason, descriptor_used, error_reason}
use Rattle.pv_explain.proofs.errors.reason_of.Goals as goal

pub returns-in-Some : goal.returns-in-Some
unfolding error_reason
returns-in-Some c me at =
    let call = call_of c.args.call in
    let argument = sym c.argument_reason.ensures ∙ ap (option_map reason_in) c.in-Some.is in
    sym (ap (λ o. unwrap_or o (descriptor_reason c.args.parts.now me call c.args.errno (descriptor_used call c.args.errno))) argument)

pub returns-in-None : goal.returns-in-None
unfolding error_reason
returns-in-None c me at =
    let call = call_of c.args.call in
    let argument = sym c.argument_reason.ensures ∙ ap (option_map reason_in) c.in-None.is in
    c.descriptor_reason.ensures me at
    ∙ sym (ap (λ o. unwrap_or o (descriptor_reason c.args.parts.now me call c.args.errno (descriptor_used call c.args.errno))) argument)
