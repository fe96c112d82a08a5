use Rattle.std.proofs.Common.{◌∙◌, ap, List, subst, ℕ}
use Rattle.std.specs.Global.{Vec}
use Rattle.pv_explore.specs.Rows.{parts_in}
use Rattle.pv_explore.specs.Witnesses.{longer}
use Rattle.pv_reduced.specs.declared.part_lists.Addition.{Addition}
use Rattle.pv_reduced.specs.Lists.{IsListAddedTo}
use Rattle.pv_reduced.specs.Searches.{reduced_visited_of}
use Rattle.pv_reduced.proofs.ReducedSearchSteps.{visit-full, visit-known, visit-new}
use Rattle.pv_reduced.proofs.search.ReducedSearch.visit.Goals as goal

pub returns-in-Known : goal.returns-in-Known
returns-in-Known g c =
    let old = reduced_visited_of c.args.self.now in
    let list = parts_in c.deref.result.now in
    let list_is = ap (λ (ps : List (Vec ℕ)). parts_in ps) c.deref.ensures.value ∙ c.in_ok-parts.ensures in
    let it = subst (λ (a : Addition). IsListAddedTo c.args.limit list a old.keys c.add.new.self) c.in-Known.is c.in_ok-addition.ensures in
    visit-known c.args.limit old c.args.bound (longer old.witnesses c.args.number c.args.pid) c.args.position.now list list_is c.add.new.self it.0 it.1

pub returns-in-Full : goal.returns-in-Full
returns-in-Full g c =
    let old = reduced_visited_of c.args.self.now in
    let list = parts_in c.deref.result.now in
    let list_is = ap (λ (ps : List (Vec ℕ)). parts_in ps) c.deref.ensures.value ∙ c.in_ok-parts.ensures in
    let it = subst (λ (a : Addition). IsListAddedTo c.args.limit list a old.keys c.add.new.self) c.in-Full.is c.in_ok-addition.ensures in
    visit-full c.args.limit old c.args.bound (longer old.witnesses c.args.number c.args.pid) c.args.position.now list list_is c.add.new.self it.0 it.1 it.2

pub returns : goal.returns
returns g c =
    let old = reduced_visited_of c.args.self.now in
    let list = parts_in c.deref.result.now in
    let list_is = ap (λ (ps : List (Vec ℕ)). parts_in ps) c.deref.ensures.value ∙ c.in_ok-parts.ensures in
    let it = subst (λ (a : Addition). IsListAddedTo c.args.limit list a old.keys c.add.new.self) c.in-New.is c.in_ok-addition.ensures in
    visit-new c.args.limit old c.args.bound (longer old.witnesses c.args.number c.args.pid) c.args.position.now list list_is c.add.new.self c.push_bound.new.bounds.items c.push.new.self c.add_ending.new.endings
    it.0 it.1 it.2 c.in_ok-push_bound-in-New.ensures c.in_ok-push-in-New.ensures.added c.in_ok-add_ending-in-New.ensures
