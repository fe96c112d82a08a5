use Rattle.std.proofs.Common.{Option, ◌≡◌, ◌<◌, take, refl, ap, sym, ◌∙◌, arith}
use Rattle.std.specs.Option.{option_copied}
use Rattle.std.proofs.lemmas.List.{take_all}
use Rattle.pv_model.specs.Machine.{Bytes, next_name, entry_length, Entries}
use Rattle.pv_dirs.specs.Dirs.{directory_bytes}
use Rattle.pv_dirs.specs.Listing.{better_of}
use Rattle.pv_dirs.specs.Slots.{slot_at, slot_count, name_in_slot, slot_entries, in_order}
use Rattle.pv_dirs.proofs.SlotScans.{lesser, lesser-None, next_name-slot, next_name-start}
use Rattle.pv_dirs.proofs.SlotRuns.{run_slot, run_after}
use Rattle.pv_dirs.proofs.SlotBytes.{length-slot_entries}
use Rattle.pv_dirs.proofs.dir.Dir.best_of_pass.Goals as goal
use Rattle.pv_dirs.proofs.dir.Dir.best_of_pass.Goals.{then-first-count, else-first-count, then-run-length, else-run-length}

pub loop-k-init : goal.loop-k-init
unfolding in_order
loop-k-init c = record {
  best = sym (lesser-None c.if-first-count.best);
  shared = elim c.if-first-count.branch [
    | then-first-count w ↦ rw (w.mark-is, w.best-is) w.improve_by_copy.ensures.shared
    | else-first-count w ↦ rw w.mark-is tt
  ];
  run = refl;
}

pub loop-k-preserved : goal.loop-k-preserved
loop-k-preserved c =
    let v = c.args.self.now.inodes.now.version in
    let bytes = directory_bytes c.args.self.now in
    let last = option_copied c.args.last in
    let less : c.loop-k.k < slot_count v bytes = omega (arith, c.count-count.ensures.value, c.loop-k-test.true) in
    let whole = c.layout-length.ensures.slot_length ∙ ap entry_length c.version.ensures in
    let next = next_name-slot v last bytes c.loop-k.k c.if-first-count.best c.loop-k.best c.requires.distinct less c.loop-k.invariant.best in
    record {
      best = elim c.if-run-length.branch [
        | then-run-length w ↦ w.best-is ∙ w.improve_by_copy-then-run-length.ensures.best ∙ next
        | else-run-length w ↦
            let name = ap name_in_slot w.split_at.ensures.front ∙ ap (λ n. name_in_slot (take n c.run_at-run.result.now)) whole
            ∙ ap name_in_slot (run_slot v bytes c.run_at-run.result.now c.loop-k.k c.run_at-run.ensures (omega (arith, whole, w.if-run-length.false))) in
            w.best-is ∙ w.improve.ensures.best ∙ ap (λ (n : Bytes). better_of last n c.loop-k.best) name ∙ next
      ];
      shared = elim c.if-run-length.branch [
        | then-run-length w ↦ rw (w.mark-is, w.best-is) w.improve_by_copy-then-run-length.ensures.shared
        | else-run-length w ↦ rw (w.mark-is, w.best-is) w.improve.ensures.shared
      ];
      run = elim c.if-run-length.branch [
        | then-run-length w ↦ rw w.left-is refl
        | else-run-length w ↦ rw (w.left-is, w.split_at.ensures.back) (run_after v bytes c.run_at-run.result.now c.loop-k.k c.layout-length.result.slot_length whole c.run_at-run.ensures)
      ];
    }

pub returns : goal.returns
returns c =
    let v = c.args.self.now.inodes.now.version in
    let bytes = directory_bytes c.args.self.now in
    let last = option_copied c.args.last in
    let all = take_all c.loop-k.k (slot_entries v bytes) (omega (arith, length-slot_entries v bytes, c.count-count.ensures.value, c.loop-k-test.false)) in
    let end : lesser c.if-first-count.best (next_name last (in_order (slot_entries v bytes))) ≡ next_name last (in_order (slot_entries v bytes)) = elim c.if-first-count.branch [
      | then-first-count w ↦
          let name = name_in_slot (slot_at v bytes c.args.first) in
          next_name-start v last bytes c.args.first c.if-first-count.best c.requires.distinct (omega (arith, w.if-first-count.true, c.count-count.ensures.value)) (w.best-is ∙ w.improve_by_copy.ensures.best ∙ ap (better_of last name) c.none-best.ensures)
      | else-first-count w ↦ ap (λ (b : Option Bytes). lesser b (next_name last (in_order (slot_entries v bytes)))) (w.best-is ∙ c.none-best.ensures)
    ] in
    c.into_name.ensures ∙ c.loop-k.invariant.best ∙ ap (λ (es : Entries). lesser c.if-first-count.best (next_name last (in_order es))) all ∙ end
