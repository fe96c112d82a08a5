use Rattle.std.proofs.Common.{◌∙◌, List, Option, Some, ap, sym, refl, subst}
use Rattle.pv_model.specs.Machine.{Found, ProcessRecord, live_process}
use Rattle.pv_programs.specs.OfProcs.ProcessTable.{ProcessTable, number_after}
use Rattle.pv_programs.proofs.OfAnswers.ProcessSequence.{Recorded, all-after, fewer-after, next-record, none-after, records_after}
use Rattle.pv_named_files.specs.FirstPaths.{files_given, first_tree}
use Rattle.pv_exposure.specs.Collected.{Exposed, exposed_after}
use Rattle.pv_exposure.specs.Stored.{located_if}
use Rattle.pv_exposure.specs.Seen.{IsSeenState, found_seen}
use Rattle.pv_reduced.specs.OfExplore.Visiting.{Visits}
use Rattle.pv_exposure.proofs.FindingAddition.{after-both, located-next, located_among}
use Rattle.pv_exposure.proofs.exposure.add_state.Goals as goal

pub loop-pid-init : goal.loop-pid-init
loop-pid-init c =
    let seen = c.args.seen.now in
    let s = seen.parts.now in
    let files = files_given seen.paths.now in
    let t = first_tree seen.paths.now in
    record {
      unchanged = refl;
      added = ap (λ (rs : List Recorded). exposed_after files t c.args.named.now c.args.records.now.items (located_among (found_seen seen) rs)) (all-after s.last_process s.processes c.invariant.ensures.processes.numbers);
    }

pub add_number-requires : goal.add_number-requires
add_number-requires c = subst (λ (v : Visits). IsSeenState v c.args.seen.now) (sym c.loop-pid.invariant.unchanged) c.requires

pub loop-pid-smaller : goal.loop-pid-smaller
loop-pid-smaller c =
    let s = c.args.seen.now.parts.now in
    let is = ap (λ (ps : ProcessTable). number_after c.loop-pid.last ps.processes) (sym c.processes.ensures) ∙ sym c.next_number.ensures ∙ c.in-Some.is in
    fewer-after c.loop-pid.last c.in-Some.pid s.processes (next-record c.loop-pid.last c.in-Some.pid s.processes c.invariant.ensures.processes.ascending is)

pub loop-pid-preserved : goal.loop-pid-preserved
loop-pid-preserved c =
    let seen = c.args.seen.now in
    let s = seen.parts.now in
    let files = files_given seen.paths.now in
    let t = first_tree seen.paths.now in
    let named = c.args.named.now in
    let f : Found = found_seen seen in
    let pid = c.in-Some.pid in
    let is = ap (λ (ps : ProcessTable). number_after c.loop-pid.last ps.processes) (sym c.processes.ensures) ∙ sym c.next_number.ensures ∙ c.in-Some.is in
    let next = next-record c.loop-pid.last pid s.processes c.invariant.ensures.processes.ascending is in
    let after = records_after pid s.processes in
    record {
      unchanged = c.in_ok-add_number.ensures.unchanged ∙ c.loop-pid.invariant.unchanged;
      added =
          ap (λ (es : List Exposed). exposed_after files t named es (located_among f after))
          (c.in_ok-add_number.ensures.added ∙ ap (λ (o : Option ProcessRecord). exposed_after files t named c.loop-pid.records.items (located_if f pid (live_process o))) next.found)
          ∙ sym (after-both files t named c.loop-pid.records.items (located_if f pid (live_process (Some next.entry))) (located_among f after))
          ∙ ap (exposed_after files t named c.loop-pid.records.items) (sym (located-next f pid next.entry after) ∙ ap (located_among f) (sym next.first))
          ∙ c.loop-pid.invariant.added;
    }

pub returns : goal.returns
returns c =
    let seen = c.args.seen.now in
    let s = seen.parts.now in
    let files = files_given seen.paths.now in
    let t = first_tree seen.paths.now in
    let is = ap (λ (ps : ProcessTable). number_after c.loop-pid.last ps.processes) (sym c.processes.ensures) ∙ sym c.next_number.ensures ∙ c.in_default.is in
    let none = none-after c.loop-pid.last s.processes is in
    record {
      unchanged = c.loop-pid.invariant.unchanged;
      added = sym (ap (λ (rs : List Recorded). exposed_after files t c.args.named.now c.loop-pid.records.items (located_among (found_seen seen) rs)) none) ∙ c.loop-pid.invariant.added;
    }
