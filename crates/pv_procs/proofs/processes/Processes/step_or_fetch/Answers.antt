use Rattle.std.proofs.Common.{◌≡◌, sym, subst, refl, slice_set}
use Rattle.pv_model.specs.Machine.{call_of, inside, calls_for, next, Program, Process}
use Rattle.pv_script.specs.Context.{in_context}
use Rattle.pv_procs.specs.declared.processes.Fetched.{Fetched}
use Rattle.pv_procs.specs.Slots.{process_of, shared_program_at, process_table_of}
use Rattle.pv_procs.specs.ProcessTable.{ProcessTable}
use Rattle.pv_procs.specs.Turns.{Registered}
use Rattle.pv_procs.proofs.SlotLookups.{found-at}
use Rattle.pv_procs.proofs.SlotInvariant.{preserved-set, roomy-set}
use Rattle.pv_procs.proofs.ContextSteps.{at-call, moved, appears}
use Rattle.pv_procs.proofs.processes.Processes.step_or_fetch.Goals as goal
use Rattle.pv_procs.proofs.processes.Processes.step_or_fetch.Goals.{in-Some-step_or_fetch, in-None}

pub index_of_live-requires : goal.index_of_live-requires
index_of_live-requires c = rw c.deref.ensures.value c.self.invariant.0.ascending

pub invariant_of-self : goal.invariant_of-self
invariant_of-self c =
    let i = c.self.inside in
    let slot = c.index_mut-slot.result.now in
    let found = rw c.deref.ensures.value at c.in-Some.ensures.slot in
    let at = found-at i.slots.items c.args.pid c.in-Some.k slot found c.index_mut-slot.ensures.value in
    (preserved-set i.slots.items i.programs.items i.last c.self.invariant.0 c.args.pid c.in-Some.k slot at _ at.number refl refl, roomy-set i.slots.items i.spare.items c.in-Some.k _ _ _ c.self.invariant.1, c.self.invariant.2)

pub returns : goal.returns
returns c =
    let i = c.self.inside in
    let k = c.in-Some.k in
    let slot = c.index_mut-slot.result.now in
    let appeared = appears i.slots.items i.programs.items i.last c.self.invariant.0 c.args.pid k slot c.index-shared.result.now
    (rw c.deref.ensures.value at c.in-Some.ensures.slot) (rw c.deref.ensures.value at c.in-Some.ensures.live) c.index_mut-slot.ensures.value c.index-shared.ensures in
    let me : Process = process_of (shared_program_at i.programs.items slot.program) slot in
    let context = c.step_or_fetch.new.self in
    let turned : ProcessTable = process_table_of (slice_set i.slots.items k (record slot { «record» = record slot.record { context = context } })) i.programs.items i.last in
    rw c.get_mut.ensures.value (elim c.match-step_or_fetch.branch [
      | in-Some-step_or_fetch w ↦
          let call = w.in-Some-step_or_fetch.call in
          let preserved = rw c.get_mut.ensures.value at w.in-Some-step_or_fetch.ensures.preserved in
          let comes = rw c.get_mut.ensures.value at w.in-Some-step_or_fetch.ensures.call in
          let next_is = subst (λ (instructions : Program). (p : Process) → next (in_context p instructions slot.record.context) ≡ calls_for (call_of call)) (sym appeared.program) comes in
          subst (λ (a : Fetched). Registered a c.args.pid c.args.self.now turned) (sym w.result-is)
          (at-call i.slots.items i.programs.items i.last c.args.self.now c.self.view_is c.args.pid c.self.invariant.0.ascending k slot appeared.at appeared.live context call preserved (next_is me))
      | in-None w ↦
          let made = rw c.get_mut.ensures.value at w.in-None.ensures.made in
          let step = subst (λ (instructions : Program). (p : Process) → next (in_context p instructions slot.record.context) ≡ inside (in_context p instructions context)) (sym appeared.program) made in
          subst (λ (a : Fetched). Registered a c.args.pid c.args.self.now turned) (sym w.result-is)
          (moved i.slots.items i.programs.items i.last c.args.self.now c.self.view_is c.args.pid c.self.invariant.0.ascending k slot appeared.at appeared.live context (λ p after. next p ≡ inside after) (step me))
    ])
