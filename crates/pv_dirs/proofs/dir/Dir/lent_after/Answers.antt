use Rattle.std.proofs.Common.{Option, Bor, ◌≡◌, ◌+◌, ◌<◌, cond, take, Some, None, refl, ap, sym, subst, ◌∙◌, arith}
use Rattle.std.specs.Prelude.{IfSome}
use Rattle.std.specs.Option.{option_copied}
use Rattle.std.proofs.lemmas.List.{take_all}
use Rattle.std.proofs.lemmas.Option.{IfSome_then}
use Rattle.pv_model.specs.Machine.{Bytes, next_name, entry_length, Entries}
use Rattle.pv_dirs.specs.Dirs.{directory_bytes}
use Rattle.pv_dirs.specs.Listing.{better_of}
use Rattle.pv_dirs.specs.Slots.{slot_at, slot_count, name_in_slot, slot_entries, in_order}
use Rattle.pv_dirs.proofs.SlotScans.{next_name-slot}
use Rattle.pv_dirs.proofs.SlotRuns.{run_name, run_after}
use Rattle.pv_dirs.proofs.SlotBytes.{find-slot_entries, length-slot_entries}
use Rattle.pv_dirs.proofs.dir.Dir.lent_after.Goals as goal
use Rattle.pv_dirs.proofs.dir.Dir.lent_after.Goals.{then-is_next, else-is_next}

pub loop-k-init : goal.loop-k-init
unfolding in_order
loop-k-init c = record { best = refl; place = tt; run = refl }

pub loop-k-preserved : goal.loop-k-preserved
loop-k-preserved c =
    let v = c.args.self.now.inodes.now.version in
    let bytes = directory_bytes c.args.self.now in
    let last = option_copied c.args.last in
    let k = c.loop-k.k in
    let run = c.run_at-run.result.now in
    let name = c.in_ok-name.name.now in
    let best = option_copied c.loop-k.best in
    let less : k < slot_count v bytes = omega (arith, c.count-k-end.ensures.value, c.loop-k-test.true) in
    let whole = c.layout-length.ensures.slot_length ∙ ap entry_length c.version.ensures in
    let name_is : name ≡ name_in_slot (slot_at v bytes k) = c.in_ok-name.ensures.value ∙ run_name v bytes run k c.layout-length.result.slot_length whole c.run_at-run.ensures c.in_ok-name.ensures.whole in
    let next : better_of last name best ≡ next_name last (in_order (take (k + 1) (slot_entries v bytes))) =
    ap (λ (n : Bytes). better_of last n best) name_is ∙ next_name-slot v last bytes k None best c.requires.distinct less c.loop-k.invariant.best in
    record {
      best = elim c.if-is_next.branch [
        | then-is_next w ↦ ap option_copied w.best-is ∙ sym (ap (λ b. cond b (Some name) best) (sym c.is_next.ensures ∙ w.if-is_next.true)) ∙ next
        | else-is_next w ↦ ap option_copied w.best-is ∙ sym (ap (λ b. cond b (Some name) best) (sym c.is_next.ensures ∙ w.if-is_next.false)) ∙ next
      ];
      place = elim c.if-is_next.branch [
        | then-is_next w ↦ rw (w.best-is, w.slot-is) (omega arith, sym name_is)
        | else-is_next w ↦
            rw (w.best-is, w.slot-is)
            (IfSome_then c.loop-k.best {P = λ (b : Bor Bytes). (c.loop-k.slot < k) × (name_in_slot (slot_at v bytes c.loop-k.slot) ≡ b.now)} {Q = λ (b : Bor Bytes). (c.loop-k.slot < k + 1) × (name_in_slot (slot_at v bytes c.loop-k.slot) ≡ b.now)}
            c.loop-k.invariant.place (λ b there. (omega (arith, there.0), there.1)))
      ];
      run = rw c.rest_of-left.ensures (run_after v bytes run k c.layout-length.result.slot_length whole c.run_at-run.ensures);
    }

pub returns : goal.returns
returns c =
    let v = c.args.self.now.inodes.now.version in
    let bytes = directory_bytes c.args.self.now in
    let last = option_copied c.args.last in
    let name = c.in_ok-name-2.name in
    let slot = c.loop-k.slot in
    let is : c.loop-k.best ≡ Some name = c.in_ok-name-2.was in
    let all = take_all c.loop-k.k (slot_entries v bytes) (omega (arith, length-slot_entries v bytes, c.count-k-end.ensures.value, c.loop-k-test.false)) in
    let place : (slot < c.loop-k.k) × (name_in_slot (slot_at v bytes slot) ≡ name.now) =
    subst (λ (best : Option (Bor Bytes)). IfSome best (λ b. (slot < c.loop-k.k) × (name_in_slot (slot_at v bytes slot) ≡ b.now))) is c.loop-k.invariant.place in
    let within : slot < slot_count v bytes = omega (arith, place.0, c.count-k-end.ensures.value) in
    record {
      name = ap (λ (es : Entries). next_name last (in_order es)) (sym all) ∙ sym c.loop-k.invariant.best ∙ ap option_copied is;
      node = find-slot_entries v bytes slot name.now c.requires.distinct within place.1 ∙ ap Some (sym c.number.ensures);
    }
