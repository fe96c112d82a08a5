use Rattle.std.proofs.Common.{List, Option, Some, refl, sym, ◌∙◌, arith, subst, ◌≡◌}
use Rattle.pv_model.specs.Machine.{Bytes}
use Rattle.pv_model.specs.Grammar.Manifests.{Taking}
use Rattle.pv_image_manifest.specs.declared.read_entry.ReadEntry.{ReadEntry}
use Rattle.pv_image_manifest.specs.Reading.{ParsesEntry}
use Rattle.pv_image_manifest.proofs.ListedEntries.{IsListedSoFar-following, IsListedSoFar-room, IsListedSoFar-step}
use Rattle.pv_image_manifest.proofs.reading.entries.Goals as goal

what_is_taken : (o : Option ReadEntry) (t : ReadEntry) (taking : Option Taking) (following : List Bytes) → o ≡ Some t → ParsesEntry o taking following → ParsesEntry (Some t) taking following
what_is_taken o t taking following is takes = subst (λ p. ParsesEntry p taking following) is takes

pub returns-then-ends_manifest-clause-end : goal.returns-then-ends_manifest-clause-end
returns-then-ends_manifest-clause-end c =
    IsListedSoFar-following c.args.in_bundle c.loop-line.entries.items c.loop-line.rest.now c.in-Some.line.now c.in-Some.following.now c.loop-line.line_number c.args.text.now c.in-Some.ensures.lines
    c.loop-line.invariant c.in-Some.ensures.bytes

pub overflow_add-next : goal.overflow_add-next
overflow_add-next c =
    let takes = what_is_taken c.in_ok-read_entry.field-0 c.in-Some-2.read_entry _ _ c.in-Some-2.is c.in_ok-read_entry.ensures in
    omega (
      arith,
      IsListedSoFar-room c.args.in_bundle c.loop-line.entries.items c.loop-line.rest.now c.in-Some.line.now c.in-Some.following.now c.loop-line.line_number c.args.text.now c.in-Some.ensures.lines
          c.loop-line.invariant c.in-Some-2.read_entry.lines c.requires takes.1,
    )

pub overflow_add-next-in-Some : goal.overflow_add-next-in-Some
overflow_add-next-in-Some c =
    let takes = what_is_taken c.in_ok-read_entry.field-0 c.in-Some-2.read_entry _ _ c.in-Some-2.is c.in_ok-read_entry.ensures in
    omega (
      arith,
      IsListedSoFar-room c.args.in_bundle c.loop-line.entries.items c.loop-line.rest.now c.in-Some.line.now c.in-Some.following.now c.loop-line.line_number c.args.text.now c.in-Some.ensures.lines
          c.loop-line.invariant c.in-Some-2.read_entry.lines c.requires takes.1,
    )

pub loop-line-preserved : goal.loop-line-preserved
loop-line-preserved c =
    let takes = what_is_taken c.in_ok-read_entry.field-0 c.in-Some-2.read_entry _ _ c.in-Some-2.is c.in_ok-read_entry.ensures in
    rw c.in_ok-push.ensures.items
    (IsListedSoFar-step c.args.in_bundle c.loop-line.entries.items c.loop-line.rest.now c.in-Some.line.now c.in-Some.following.now c.loop-line.line_number c.args.text.now c.in-Some.ensures.lines
    c.loop-line.invariant c.in-Some-2.read_entry c.after_lines-rest.result.now _ _ (sym c.ends_manifest.ensures ∙ c.if-ends_manifest.false) takes c.after_lines-rest.ensures.lines c.after_lines-rest.ensures.end
    c.in-Some.ensures.bytes refl refl)
