use Rattle.std.proofs.Common.{sym, ◌∙◌}
use Rattle.pv_unveil.proofs.ClimbSteps.{height-smaller, climbed-directory, climbed-own, climbed-above, climbed-root}
use Rattle.pv_unveil.proofs.rights.directory_rights.Goals as goal

pub returns-in-Some-clause-value : goal.returns-in-Some-clause-value
returns-in-Some-clause-value c =
    sym (climbed-own c.args.tree.now.tree c.args.entries.now c.args.directory c.loop-at.at c.loop-at.invariant c.loop-at-test.true c.in-Some.k (sym c.for_directory.ensures.value ∙ c.in-Some.is))

pub loop-at-smaller : goal.loop-at-smaller
loop-at-smaller c =
    let t = c.args.tree.now.tree in
    let is = climbed-directory t c.args.entries.now c.args.directory c.loop-at.at c.loop-at.invariant c.loop-at-test.true in
    rw (c.unwrap_or-at.ensures, c.parent.ensures.value) (height-smaller t c.invariant.ensures.well_formed c.loop-at.at c.loop-at-test.true is)

pub loop-at-preserved : goal.loop-at-preserved
loop-at-preserved c =
    let above = climbed-above c.args.tree.now.tree c.args.entries.now c.args.directory c.loop-at.at c.loop-at.invariant c.invariant.ensures.well_formed c.loop-at-test.true (sym c.for_directory.ensures.value ∙ c.in_default.is) in
    rw (c.unwrap_or-at.ensures, c.parent.ensures.value) above

pub returns-then-at-eq-ROOT-clause-value : goal.returns-then-at-eq-ROOT-clause-value
returns-then-at-eq-ROOT-clause-value c =
    c.for_directory-then-at-eq-ROOT.ensures.value
    ∙ climbed-root c.args.tree.now.tree c.args.entries.now c.args.directory c.loop-at.at c.loop-at.invariant c.if-at-eq-ROOT.true
