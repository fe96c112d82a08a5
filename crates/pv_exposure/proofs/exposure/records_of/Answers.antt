use Rattle.std.proofs.Common.{◌∙◌, ◌<◌, ap, length, slice_get, arith}
use Rattle.pv_reduced.specs.OfExplore.Visiting.{Visits}
use Rattle.pv_named_files.specs.FirstPaths.{files_given, first_tree}
use Rattle.pv_exposure.proofs.VisitRecords.{visit-next}
use Rattle.pv_exposure.proofs.exposure.records_of.Goals as goal

pub loop-number-preserved : goal.loop-number-preserved
loop-number-preserved c =
    let found = c.args.states.now.found in
    let n = c.loop-number.number in
    let within : n < length found = omega (arith, c.loop-number-test.true, c.len-number-end.ensures) in
    record {
      unchanged = c.in_ok-add_at.ensures.unchanged ∙ c.loop-number.invariant.unchanged;
      records =
          visit-next (files_given c.args.paths.now) (first_tree c.args.paths.now) c.args.named.now found n c.loop-number.records.items c.add_at.new.records.items within c.loop-number.invariant.records
          (λ f at. c.in_ok-add_at.ensures.added f (ap (λ (v : Visits). slice_get v.found n) c.loop-number.invariant.unchanged ∙ at));
    }
