use Rattle.std.proofs.Common.{◌<◌, ◌∙◌, ap, length, get_or, false, arith}
use Rattle.pv_step_lines.specs.declared.origin.Origin.{Origin}
use Rattle.pv_explain.specs.Keeping.{aged}
use Rattle.pv_explain.proofs.ProcessOrigins.{got-own}
use Rattle.pv_procs.proofs.ElementSteps.{mapped_further}
use Rattle.pv_explain.proofs.origins.age.Goals as goal

pub loop-k-preserved : goal.loop-k-preserved
loop-k-preserved c =
    let blank : Origin = record { line = 0; earlier = false } in
    let here : Origin = get_or c.loop-k.origins.items c.loop-k.k blank in
    let within : c.loop-k.k < length c.args.origins.now.items = omega (arith, ap length c.as_slice-count.ensures.value, c.loop-k-test.true) in
    c.replace.ensures
    ∙ mapped_further aged c.args.origins.now.items c.loop-k.origins.items c.loop-k.k here c.aged-origin.result within c.loop-k.invariant
    (got-own c.loop-k.origins.items c.loop-k.k blank)
    (c.aged-origin.ensures ∙ ap (λ xs. aged (get_or xs c.loop-k.k blank)) c.as_slice.ensures.value)
