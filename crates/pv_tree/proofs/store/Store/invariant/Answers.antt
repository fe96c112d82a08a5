use Rattle.std.proofs.Common.{ap, sym, subst, ◌∙◌}
use Rattle.pv_tree.specs.Holding.{HeldTree, IsUnheld}
use Rattle.pv_tree.specs.Present.{IsAtRest}
use Rattle.pv_tree.proofs.CollectedNodes.{unheld-named}
use Rattle.pv_tree.proofs.store.Store.invariant.Goals as goal

pub returns : goal.returns
returns c =
    let h = c.deref.result.now in
    let unheld : IsUnheld h.holds = subst (λ (t : HeldTree). IsUnheld t.holds) (sym c.deref.ensures) c.self.invariant in
    let s = c.invariant.ensures in
    let rest : IsAtRest h.tree =
    record {
      well_formed = s.well_formed;
      few = s.few;
      allowed = s.allowed;
      fits = s.fits;
      short = s.short;
      bytes = s.bytes;
      named = unheld-named h.tree h.holds s.is_collected unheld;
    }
    in
    subst IsAtRest (ap (λ (t : HeldTree). t.tree) c.deref.ensures ∙ c.self.view_is) rest
