use Rattle.std.proofs.Common.{◌≡◌, ◌∙◌, false, ap, bytes_eq, get_or, sym}
use Rattle.pv_model.specs.Machine.{Granted}
use Rattle.pv_policy.proofs.ListSteps.{permissions-next}
use Rattle.pv_policy.proofs.granted.permissions_at.Goals as goal

pub loop-row-preserved : goal.loop-row-preserved
loop-row-preserved c =
    let rows = c.args.rows.now in
    let words = c.args.words.now in
    let i = c.loop-row.row-index in
    let d = c.row-item.result in
    let other : bytes_eq (get_or rows i d).0 words ≡ false =
    ap (λ (g : Granted). bytes_eq g.0 words) (sym c.row-item.is ∙ sym c.row.view_is) ∙ ap (λ bs. bytes_eq bs words) (sym c.as_slice.ensures.value) ∙ sym c.if-eq.ensures in
    c.loop-row.invariant ∙ permissions-next words rows i d c.loop-row-test.true other
