use Rattle.std.proofs.Common.{◌∙◌, ap, refl, Option, subst, sym}
use Rattle.pv_explore.specs.declared.states.Followed.{Followed}
use Rattle.pv_explore.specs.Plan.{state_at}
use Rattle.pv_explore.specs.Sides.{SideStates}
use Rattle.pv_explore.specs.VisitedStates.{HasNumber, MayFollow}
use Rattle.pv_explore.proofs.CachedFollowing.{valid-at}
use Rattle.pv_explore.proofs.SideStates.{numbered-by}
use Rattle.pv_model.specs.Machine.{program_of}
use Rattle.pv_step_lines.specs.OfSession.Running.{stepped}
use Rattle.pv_explore.proofs.side.Side.step.Goals as goal

pub follow-requires : goal.follow-requires
follow-requires g c =
    let s = c.self.inside.checkpoints in
    let witness = c.args.witness.now in (
      state_at program_of s witness,
      valid-at s witness c.self.invariant,
      subst (λ (x : SideStates). HasNumber x.keys c.args.number (state_at program_of x.first c.args.witness.now)) (sym c.self.view_is) c.requires.there,
    )

pub returns-clause-texts : goal.returns-clause-texts
returns-clause-texts g c =
    let s = c.self.inside.checkpoints in
    let witness = c.args.witness.now in
    let may = subst (λ (o : Option Followed). MayFollow g.O.Observer.observe c.args.limit c.self.inside.states c.follow.new.self c.args.number c.args.pid o) c.in-Some.is c.in_ok-followed.ensures in
    let it = may (state_at program_of s witness) (valid-at s witness c.self.invariant)
    (subst (λ (x : SideStates). HasNumber x.keys c.args.number (state_at program_of x.first c.args.witness.now)) (sym c.self.view_is) c.requires.there) in
    it.texts_are
    ∙ ap (λ (x : SideStates). g.O.Observer.observe (state_at program_of x.first c.args.witness.now) c.args.pid (stepped (state_at program_of x.first c.args.witness.now) c.args.pid)) c.self.view_is

pub returns-clause-number : goal.returns-clause-number
returns-clause-number g c =
    let s = c.self.inside.checkpoints in
    let witness = c.args.witness.now in
    let may = subst (λ (o : Option Followed). MayFollow g.O.Observer.observe c.args.limit c.self.inside.states c.follow.new.self c.args.number c.args.pid o) c.in-Some.is c.in_ok-followed.ensures in
    let it = may (state_at program_of s witness) (valid-at s witness c.self.invariant)
    (subst (λ (x : SideStates). HasNumber x.keys c.args.number (state_at program_of x.first c.args.witness.now)) (sym c.self.view_is) c.requires.there) in
    numbered-by c.args.limit c.self.inside.states c.args.self.now.keys c.follow.new.self (stepped (state_at program_of s witness) c.args.pid).after
    (stepped (state_at program_of c.args.self.now.first c.args.witness.now) c.args.pid).after c.in-Some.followed.found c.len-before.result c.number_of-number.result
    it.found_is (ap (λ (x : SideStates). x.keys) c.self.view_is)
    (ap (λ (x : SideStates). (stepped (state_at program_of x.first c.args.witness.now) c.args.pid).after) c.self.view_is) c.len-before.ensures c.number_of-number.ensures
