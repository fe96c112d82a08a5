use Rattle.std.proofs.Common.{◌<◌, length, subst, sym}
use Rattle.pv_model.specs.declared.limits.TheConstants.{UNVEILS}
use Rattle.pv_model.specs.Machine.{Table}
use Rattle.pv_unveil.proofs.EntryKeys.{keyed-push}
use Rattle.pv_unveil.proofs.entries.Entries.push.Goals as goal

pub invariant_of-self : goal.invariant_of-self
invariant_of-self c =
    let i = c.self.inside in
    let less = subst (λ (table : Table). length table < UNVEILS) (sym c.self.view_is) c.requires in
    rw (c.push.ensures.items, c.push_reserved.ensures.items, c.push_reserved.ensures.capacity, c.of-key.ensures)
    (keyed-push i.entries.items i.keys.items i.marks c.set.new.self _ c.args.target c.args.permissions c.self.invariant c.set.ensures.others c.set.ensures.own less)
