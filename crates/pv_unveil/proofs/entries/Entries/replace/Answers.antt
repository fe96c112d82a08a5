use Rattle.pv_unveil.proofs.EntryKeys.{keyed-set}
use Rattle.pv_unveil.proofs.entries.Entries.replace.Goals as goal

pub invariant_of-self : goal.invariant_of-self
invariant_of-self c =
    let i = c.self.inside in
    rw (c.replace_key.ensures, c.of-key.ensures)
    (keyed-set i.entries.items i.keys.items i.marks c.set.new.self _ c.args.target c.args.permissions c.self.invariant c.set.ensures.others c.set.ensures.own c.args.k)
