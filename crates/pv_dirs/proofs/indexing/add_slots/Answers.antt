use Rattle.std.proofs.Common.{◌≡◌, ◌+◌, ◌-◌, ◌≤◌, length, take, refl, ap, subst, ◌∙◌, arith}
use Rattle.std.specs.Prelude.{IfSome}
use Rattle.std.proofs.lemmas.Option.{IfSome_then}
use Rattle.pv_model.specs.Machine.{entry_length}
use Rattle.pv_dirs.specs.Dirs.{directory_bytes}
use Rattle.pv_dirs.specs.Index.{AreLedUpTo}
use Rattle.pv_dirs.specs.Slots.{slot_at, slot_count, name_in_slot}
use Rattle.pv_dirs.proofs.CallResults.{if_some_both}
use Rattle.pv_dirs.proofs.SlotRuns.{run_after, run_name}
use Rattle.pv_dirs.proofs.indexing.add_slots.Goals as goal
use Rattle.pv_dirs.proofs.indexing.add_slots.Goals.{After-name_in_run-name}

pub loop-k-init : goal.loop-k-init
loop-k-init c = record {
  run = refl;
  before = record { some = tt; last = tt };
  led = record {
    slots = λ k below. absurd (omega arith);
    ordered = λ is j k less below. absurd (omega arith);
  };
  leads = record { others = λ d k other leads. leads; known = λ d other. refl };
}

-- the name in the run, if it contains a complete one, is that of the slot
named : (c : After-name_in_run-name) → IfSome c.name_in_run-name.result (λ name. name.now ≡ name_in_slot (slot_at c.args.dir.now.inodes.now.version (directory_bytes c.args.dir.now) c.loop-k.k))
named c =
    let v = c.args.dir.now.inodes.now.version in
    let bytes = directory_bytes c.args.dir.now in
    let run = c.run_at-run.result.now in
    let whole = c.layout-length.ensures.slot_length ∙ ap entry_length c.version.ensures in
    if_some_both c.name_in_run-name.result (λ name. name.now ≡ name_in_slot (take c.layout-length.result.slot_length run)) (λ name. c.layout-length.result.slot_length ≤ length run)
    (λ name. name.now ≡ name_in_slot (slot_at v bytes c.loop-k.k)) c.name_in_run-name.ensures.value c.name_in_run-name.ensures.whole
    (λ name is fits. is ∙ run_name v bytes run c.loop-k.k c.layout-length.result.slot_length whole c.run_at-run.ensures fits)

pub add_slot-requires-clause-named : goal.add_slot-requires-clause-named
add_slot-requires-clause-named c = named (goal.at.add_slot-requires-clause-named c).After-name_in_run-name

pub loop-k-preserved : goal.loop-k-preserved
loop-k-preserved c =
    let v = c.args.dir.now.inodes.now.version in
    let bytes = directory_bytes c.args.dir.now in
    let whole = c.layout-length.ensures.slot_length ∙ ap entry_length c.version.ensures in
    let here : c.loop-k.k ≡ c.loop-k.k + 1 - 1 = omega arith in
    record {
      run = rw c.rest_of-left.ensures (run_after v bytes c.run_at-run.result.now c.loop-k.k c.layout-length.result.slot_length whole c.run_at-run.ensures);
      before = record {
        some = IfSome_then c.name_in_run-name.result (named (goal.at.loop-k-preserved c).After-name_in_run-name) (λ name is. omega arith);
        last = subst (λ k. IfSome c.name_in_run-name.result (λ name. name.now ≡ name_in_slot (slot_at v bytes k))) here (named (goal.at.loop-k-preserved c).After-name_in_run-name);
      };
      led = c.add_slot.ensures.led;
      leads = record {
        others = λ d k other leads. c.add_slot.ensures.leads.others d k other (c.loop-k.invariant.leads.others d k other leads);
        known = λ d other. c.add_slot.ensures.leads.known d other ∙ c.loop-k.invariant.leads.known d other;
      };
    }

pub returns-clause-led : goal.returns-clause-led
returns-clause-led c =
    let v = c.args.dir.now.inodes.now.version in
    let bytes = directory_bytes c.args.dir.now in
    let all : c.loop-k.k ≡ slot_count v bytes = omega (arith, c.count-k-end.ensures.value) in
    subst (AreLedUpTo c.loop-k.index v c.args.dir.now.directory bytes) all c.loop-k.invariant.led
