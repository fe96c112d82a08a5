use Rattle.std.proofs.lemmas.Bool.{eqb-true}
use Rattle.pv_procs.proofs.SlotLookups.{appeared-found}
use Rattle.pv_procs.proofs.slot.appears_at.Goals as goal

pub returns : goal.returns
returns c = λ is.
    let slot = c.index-slots-k.result in
    appeared-found c.args.slots.now c.args.pid c.args.k slot c.requires
    (record { within = c.if-k-slots.false; is = c.index-slots-k.is; number = eqb-true slot.number c.args.pid is })
