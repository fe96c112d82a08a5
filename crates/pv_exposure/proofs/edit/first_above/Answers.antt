use Rattle.std.proofs.Common.{◌≡◌, ◌∙◌, ◌+◌, ◌∷◌, [], ℕ, List, Option, None, drop, sym, ap}
use Rattle.std.proofs.lemmas.List.{drop_all, drop_more}
use Rattle.pv_model.specs.declared.verdict.Why.{Why}
use Rattle.pv_exposure.specs.Editing.{above_among, above_of, above_or}
use Rattle.pv_exposure.proofs.edit.first_above.Goals as goal

pub returns-in-Some : goal.returns-in-Some
returns-in-Some c =
    let os : List (Option Why) = c.args.whys.now in
    let i = c.loop-why.why-index in
    sym
    (sym c.loop-why.invariant ∙ ap above_among (drop_more os i None c.loop-why-test.true)
    ∙ ap (λ (o : Option ℕ). above_or o (above_among (drop (i + 1) os))) (sym c.entry_above.ensures ∙ c.in-Some.is))

pub loop-why-preserved : goal.loop-why-preserved
loop-why-preserved c =
    let os : List (Option Why) = c.args.whys.now in
    let i = c.loop-why.why-index in
    sym
    (ap above_among (drop_more os i None c.loop-why-test.true)
    ∙ ap (λ (o : Option ℕ). above_or o (above_among (drop (i + 1) os))) (sym c.entry_above.ensures ∙ c.in_default.is))
    ∙ c.loop-why.invariant

pub returns : goal.returns
returns c =
    let os : List (Option Why) = c.args.whys.now in
    sym (sym c.loop-why.invariant ∙ ap above_among (drop_all c.loop-why.why-index os c.loop-why-test.false))
