use Rattle.std.proofs.Common.{◌∙◌, List, sym, ap, subst, arith}
use Rattle.pv_model.specs.Machine.{wait}
use Rattle.pv_procs.specs.declared.slot.ProcessSlot.{ProcessSlot}
use Rattle.pv_procs.specs.declared.processes.Reap.TheVariants.{Child, Blocked}
use Rattle.pv_procs.specs.Slots.{AreConsistentSlots, process_table_of}
use Rattle.pv_procs.specs.ProcessTable.{ProcessTable, state_with}
use Rattle.pv_procs.specs.Reaping.{waited}
use Rattle.pv_procs.proofs.ReapedSlots.{childless, blocked, reaped, preserved-remove, ended-within, ended-status, status-is}
use Rattle.pv_procs.proofs.processes.Processes.reap.Goals as goal

pub returns-then-has_child-clause-waited : goal.returns-then-has_child-clause-waited
returns-then-has_child-clause-waited c = λ t files me.
    let i = c.self.inside in
    let none = rw c.deref.ensures.value at (sym c.ended_child_of.ensures ∙ c.in_default.is) in
    let some = rw c.deref-in_default.ensures.value at (sym c.has_child.ensures ∙ c.if-has_child.true) in
    ap (λ (v : ProcessTable). wait (state_with t files v) c.args.pid me) (sym c.self.view_is)
    ∙ blocked i.slots.items i.programs.items i.last c.args.pid t files me some none
    ∙ ap (λ (v : ProcessTable). waited Blocked (state_with t files v)) c.self.view_is

pub returns-in_default-clause-waited : goal.returns-in_default-clause-waited
returns-in_default-clause-waited c = λ t files me.
    let i = c.self.inside in
    let none = rw c.deref-in_default.ensures.value at (sym c.has_child.ensures ∙ c.if-has_child.false) in
    ap (λ (v : ProcessTable). wait (state_with t files v) c.args.pid me) (sym c.self.view_is) ∙ childless i.slots.items i.programs.items i.last c.args.pid t files me none

pub invariant_of-self : goal.invariant_of-self
invariant_of-self c =
    let i = c.self.inside in
    let slot = c.remove-slot.result in
    let found = rw c.deref.ensures.value at (sym c.ended_child_of.ensures ∙ c.in-Some.is) in
    let ended = status-is slot.status c.unwrap_or.result (ended-status c.args.pid i.slots.items c.in-Some.k slot found c.remove-slot.ensures.value) (sym c.unwrap_or.ensures) in
    let preserved = preserved-remove i.slots.items i.programs.items i.last c.self.invariant.0 c.in-Some.k slot c.unwrap_or.result (ended-within c.args.pid i.slots.items c.in-Some.k slot found) c.remove-slot.ensures.value ended in (
      subst (λ (ps : List ProcessSlot). AreConsistentSlots ps i.programs.items i.last) (sym c.remove-slot.ensures.items) preserved,
      record {
        full = omega (arith, c.self.invariant.1.full, c.push_reserved.ensures.len, c.remove-slot.ensures.len, c.push_reserved.new.self.ok.0, c.remove-slot.new.self.ok.0, i.slots.ok.0, i.spare.ok.0);
        room = omega (arith, c.self.invariant.1.room, c.remove-slot.ensures.capacity);
        spare_room = omega (arith, c.self.invariant.1.spare_room, c.push_reserved.ensures.capacity);
      },
      c.self.invariant.2,
    )

pub returns-clause-waited : goal.returns-clause-waited
returns-clause-waited c = λ t files me.
    let i = c.self.inside in
    let slot = c.remove-slot.result in
    let found = rw c.deref.ensures.value at (sym c.ended_child_of.ensures ∙ c.in-Some.is) in
    let ended = status-is slot.status c.unwrap_or.result (ended-status c.args.pid i.slots.items c.in-Some.k slot found c.remove-slot.ensures.value) (sym c.unwrap_or.ensures) in
    ap (λ (v : ProcessTable). wait (state_with t files v) c.args.pid me) (sym c.self.view_is)
    ∙ reaped i.slots.items i.programs.items i.last c.args.pid t files me c.self.invariant.0.ascending c.in-Some.k slot c.unwrap_or.result found c.remove-slot.ensures.value ended
    ∙ ap (λ (ps : List ProcessSlot). waited (Child slot.number c.unwrap_or.result) (state_with t files (process_table_of ps i.programs.items i.last))) (sym c.remove-slot.ensures.items)
