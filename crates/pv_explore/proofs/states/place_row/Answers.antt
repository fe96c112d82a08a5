use Rattle.std.proofs.Common.{◌∙◌, ap, inr, refl, subst, ◌++◌, ◌∷◌, [], if◌then◌else◌, arith, ℕ}
use Rattle.pv_explore.specs.VisitedStates.{ArePushed}
use Rattle.pv_explore.proofs.VisitedStates.{other-row}
use Rattle.pv_explore.proofs.states.place_row.Goals as goal

pub returns-then-number-limit-clause-found : goal.returns-then-number-limit-clause-found
returns-then-number-limit-clause-found c =
    let other = other-row c.args.rows.now c.args.row.items c.deref.result.now c.find.result c.find.ensures c.deref.ensures.value c.in_default.is in
    (other, omega (arith, c.len-number.ensures, c.if-number-limit.true), refl)

pub returns-in_err-push_cells-clause-placed : goal.returns-in_err-push_cells-clause-placed
returns-in_err-push_cells-clause-placed c =
    let rows = c.args.rows.now in
    let other = other-row rows c.args.row.items c.deref.result.now c.find.result c.find.ensures c.deref.ensures.value c.in_default.is in
    inr (c.in_ok-add.ensures.added ∙ ap (λ b. if b then rows else rows ++ c.args.row.items ∷ []) other, subst (λ (n : ℕ). ArePushed n c.args.cells c.args.all.now.items c.push_cells.new.all.items) c.len-number.ensures c.push_cells.ensures)

pub returns-clause-found : goal.returns-clause-found
returns-clause-found c =
    let rows = c.args.rows.now in
    let other = other-row rows c.args.row.items c.deref.result.now c.find.result c.find.ensures c.deref.ensures.value c.in_default.is in
    (other, omega (arith, c.len-number.ensures, c.if-number-limit.false), c.in_ok-add.ensures.added ∙ ap (λ b. if b then rows else rows ++ c.args.row.items ∷ []) other)

pub returns-clause-placed : goal.returns-clause-placed
returns-clause-placed c =
    let rows = c.args.rows.now in
    let other = other-row rows c.args.row.items c.deref.result.now c.find.result c.find.ensures c.deref.ensures.value c.in_default.is in
    inr (c.in_ok-add.ensures.added ∙ ap (λ b. if b then rows else rows ++ c.args.row.items ∷ []) other, subst (λ (n : ℕ). ArePushed n c.args.cells c.args.all.now.items c.push_cells.new.all.items) c.len-number.ensures c.push_cells.ensures)
