use Rattle.std.proofs.Common.{◌∙◌, ap, option_map}
use Rattle.pv_procs.specs.Parts.{record_of}
use Rattle.pv_procs.proofs.SlotLookups.{found-at, gone-in, living}
use Rattle.pv_procs.proofs.processes.Processes.live_record.Goals as goal

pub index_of_live-requires : goal.index_of_live-requires
index_of_live-requires c = rw c.deref.ensures.value c.self.invariant.0.ascending

pub returns-in-Some : goal.returns-in-Some
returns-in-Some c =
    let i = c.self.inside in
    let k = c.in-Some.k in
    let slot = c.index.result.now in
    let at = found-at i.slots.items c.args.pid k slot (rw c.deref.ensures.value at c.in-Some.ensures.slot) c.index.ensures in
    let none = ap (λ p. p.status) at.is ∙ (rw c.deref.ensures.value at c.in-Some.ensures.live) slot in
    rw c.get.ensures (ap (option_map record_of) (living i.slots.items i.programs.items i.last c.args.self.now c.self.view_is c.args.pid c.self.invariant.0.ascending k slot at none))

pub returns-in-None : goal.returns-in-None
returns-in-None c =
    let i = c.self.inside in
    let none = rw c.deref.ensures.value at (c.index_of_live.ensures.none c.in-None.is) in
    ap (option_map record_of) (gone-in i.slots.items i.programs.items i.last c.args.self.now c.self.view_is c.args.pid (none i.programs.items))
