use Rattle.std.proofs.Common.{◌∙◌, ◌&&◌, not, refl, sym, ap}
use Rattle.pv_procs.proofs.ReapedSlots.{ended_in, waits-tested}
use Rattle.pv_procs.proofs.processes.Processes.waits.Goals as goal

pub returns-then-has_child : goal.returns-then-has_child
returns-then-has_child c = λ t files me.
    let i = c.self.inside in
    let some = rw c.deref.ensures.value at c.has_child.ensures in
    let ended = rw c.deref-then-has_child.ensures.value at c.has_ended_child.ensures in
    waits-tested i.slots.items i.programs.items i.last c.args.pid t files me c.has_child.result c.has_ended_child.result (not c.has_ended_child.result) some ended
    (sym (ap (λ b. b && not c.has_ended_child.result) c.if-has_child.true)) c.args.self.now c.self.view_is

pub returns-else-has_child : goal.returns-else-has_child
returns-else-has_child c = λ t files me.
    let i = c.self.inside in
    let some = rw c.deref.ensures.value at c.has_child.ensures in
    waits-tested i.slots.items i.programs.items i.last c.args.pid t files me c.has_child.result _ c.has_child.result some refl
    (c.if-has_child.false ∙ sym (ap (λ b. b && not (ended_in i.programs.items c.args.pid i.slots.items)) c.if-has_child.false)) c.args.self.now c.self.view_is
