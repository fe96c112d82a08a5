use Rattle.std.proofs.Common.{◌∙◌, ap, sym, [], option_map}
use Rattle.std.specs.Prelude.{unwrap_or}
use Rattle.pv_step_lines.specs.Origin.{settings_in}
use Rattle.pv_explain.proofs.ProcessOrigins.{found-of}
use Rattle.pv_explain.proofs.origins.find.Goals as goal

pub returns-in-Some-clause-value : goal.returns-in-Some-clause-value
returns-in-Some-clause-value c =
    ap settings_in c.as_slice.ensures.value
    ∙ sym (ap (λ o. unwrap_or o []) (found-of c.args.preserved.now c.args.pid ∙ ap (option_map (λ one. settings_in one.origins.items)) (sym c.in-Some.ensures)))

pub returns-in-None-clause-value : goal.returns-in-None-clause-value
returns-in-None-clause-value c =
    sym (ap (λ o. unwrap_or o []) (found-of c.args.preserved.now c.args.pid ∙ ap (option_map (λ one. settings_in one.origins.items)) (sym c.in-None.ensures)))
