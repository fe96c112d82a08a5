use Rattle.std.proofs.Common.{Ok, ap, sym, ◌∙◌}
use Rattle.std.proofs.lemmas.Result.{err_from_is_err_and}
use Rattle.pv_namei.specs.Onward.{stopped}
use Rattle.pv_namei.proofs.WalkSteps.{resolve-empty, resolve-long, resolve-remaining}
use Rattle.pv_namei.proofs.walk.resolve_ref.Goals as goal

pub returns-then-is_empty-clause-place : goal.returns-then-is_empty-clause-place
returns-then-is_empty-clause-place g c =
    sym (resolve-empty c.args.tree.now.tree c.args.follow c.args.start c.args.path.now (sym c.is_empty.ensures ∙ c.if-is_empty.true))

pub returns-then-path-gt-PATH-clause-place : goal.returns-then-path-gt-PATH-clause-place
returns-then-path-gt-PATH-clause-place g c =
    sym (resolve-long c.args.tree.now.tree c.args.follow c.args.start c.args.path.now (sym c.is_empty.ensures ∙ c.if-is_empty.false) c.if-path-gt-PATH.true)

pub returns-in_err-end-clause-place : goal.returns-in_err-end-clause-place
returns-in_err-end-clause-place g c =
    let p = err_from_is_err_and c.from_residual.result c.from_residual.ensures.1 in
    rw (p.1, p.2)
    (sym
    (resolve-remaining c.args.tree.now.tree c.args.follow c.args.start c.args.path.now (sym c.is_empty.ensures ∙ c.if-is_empty.false) c.if-path-gt-PATH.false c.new-walk.result c.new-rest.result c.new-walk.ensures
    c.new-rest.ensures
    ∙ c.in_err-end.ensures.onward))

pub returns-in-End-clause-place : goal.returns-in-End-clause-place
returns-in-End-clause-place g c =
    ap Ok c.place.ensures
    ∙ sym
    (resolve-remaining c.args.tree.now.tree c.args.follow c.args.start c.args.path.now (sym c.is_empty.ensures ∙ c.if-is_empty.false) c.if-path-gt-PATH.false c.new-walk.result c.new-rest.result c.new-walk.ensures
    c.new-rest.ensures
    ∙ c.in_ok-end.ensures.onward ∙ ap (stopped c.args.tree.now.tree c.go.new.self c.go.new.rest) c.in-End.is)

pub returns-in-Link-clause-place : goal.returns-in-Link-clause-place
returns-in-Link-clause-place g c =
    c.place_after.ensures.place
    ∙ sym
    (resolve-remaining c.args.tree.now.tree c.args.follow c.args.start c.args.path.now (sym c.is_empty.ensures ∙ c.if-is_empty.false) c.if-path-gt-PATH.false c.new-walk.result c.new-rest.result c.new-walk.ensures
    c.new-rest.ensures
    ∙ c.in_ok-end.ensures.onward ∙ ap (stopped c.args.tree.now.tree c.go.new.self c.go.new.rest) c.in-Link.is)
