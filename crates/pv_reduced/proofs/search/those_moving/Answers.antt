use Rattle.std.proofs.Common.{◌∙◌, ◌++◌, ◌∷◌, [], ℕ, List, ap, filter, get_or, sym, take}
use Rattle.std.proofs.lemmas.List.{take_all, take_more}
use Rattle.std.proofs.lemmas.List.Elements.{filter-append}
use Rattle.pv_laws_classes.specs.Reduced.{may_step}
use Rattle.pv_reduced.proofs.search.those_moving.Goals as goal

pub loop-pid-preserved : goal.loop-pid-preserved
loop-pid-preserved c =
    let pids = c.args.pids.now in
    let i = c.loop-pid.pid-index in
    let p = may_step c.args.bound in
    c.in_ok-push_moving.ensures
    ∙ ap (λ (ns : List ℕ). ns ++ filter p (get_or pids i 0 ∷ [])) c.loop-pid.invariant
    ∙ sym (ap (filter p) (take_more pids i 0 c.loop-pid-test.true) ∙ filter-append p (take i pids) (get_or pids i 0 ∷ []))

pub returns : goal.returns
returns c = c.loop-pid.invariant ∙ ap (filter (may_step c.args.bound)) (take_all c.loop-pid.pid-index c.args.pids.now c.loop-pid-test.false)
