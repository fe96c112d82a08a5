use Rattle.std.proofs.Common.{◌≡◌, false, refl, subst, sym}
use Rattle.pv_model.specs.Machine.{Process, Program}
use Rattle.pv_script.specs.Context.{in_context, is_inside}
use Rattle.pv_script.specs.Passing.{Passes}
use Rattle.pv_procs.specs.Slots.{process_of, shared_program_at}
use Rattle.pv_procs.proofs.SlotInvariant.{preserved-set, roomy-set}
use Rattle.pv_procs.proofs.ContextSteps.{Appears, awaiting, passed, appears}
use Rattle.pv_procs.proofs.processes.Processes.pass.Goals as goal

-- the slot of the process
appeared : (c : goal.After-self-1) → Appears c.self.inside.slots.items c.self.inside.programs.items c.args.pid c.in-Some.k c.index_mut-slot.result.now c.index-shared.result.now
appeared c =
    let i = c.self.inside in
    appears i.slots.items i.programs.items i.last c.self.invariant.0 c.args.pid c.in-Some.k c.index_mut-slot.result.now c.index-shared.result.now
    (rw c.deref.ensures.value at c.in-Some.ensures.slot) (rw c.deref.ensures.value at c.in-Some.ensures.live) c.index_mut-slot.ensures.value c.index-shared.ensures

pub invariant_of-self : goal.invariant_of-self
invariant_of-self c =
    let i = c.self.inside in
    let at = (appeared c).at in
    (preserved-set i.slots.items i.programs.items i.last c.self.invariant.0 c.args.pid c.in-Some.k c.index_mut-slot.result.now at _ at.number refl refl, roomy-set i.slots.items i.spare.items c.in-Some.k _ _ _ c.self.invariant.1, c.self.invariant.2)

pub returns-clause-made : goal.returns-clause-made
returns-clause-made c =
    let i = c.self.inside in
    let slot = c.index_mut-slot.result.now in
    let context = c.pass.new.self in
    let me : Process = process_of (shared_program_at i.programs.items slot.program) slot in
    let made = rw c.get_mut.ensures.value at c.pass.ensures.made in
    let steps = subst (λ (instructions : Program). (p : Process) → Passes c.pass.result (in_context p instructions slot.record.context) (in_context p instructions context)) (sym (appeared c).program) made in
    rw c.get_mut.ensures.value
    (passed i.slots.items i.programs.items i.last c.args.self.now c.self.view_is c.args.pid c.self.invariant.0.ascending c.in-Some.k slot (appeared c).at (appeared c).live context c.pass.result (steps me))

pub returns-clause-whole : goal.returns-clause-whole
returns-clause-whole c = λ fewer.
    let i = c.self.inside in
    let call = subst (λ (instructions : Program). is_inside instructions c.pass.new.self ≡ false) (sym (appeared c).program) (c.pass.ensures.whole fewer) in
    rw c.get_mut.ensures.value
    (awaiting i.slots.items i.programs.items i.last c.args.self.now c.self.view_is c.args.pid c.self.invariant.0.ascending c.in-Some.k c.index_mut-slot.result.now (appeared c).at (appeared c).live c.pass.new.self call)
