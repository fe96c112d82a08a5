use Rattle.std.proofs.Common.{◌≢◌, ap, sym, ◌∙◌, arith, inl, inr, ℕ}
use Rattle.std.proofs.lemmas.Bool.{cases_eq, false≢true}
use Rattle.pv_model.specs.Machine.{Bytes, entry_length}
use Rattle.pv_dirs.specs.Dirs.{directory_bytes}
use Rattle.pv_dirs.specs.Slots.{slot_at, name_in_slot, slot_entries}
use Rattle.pv_dirs.proofs.SortedEntries.{absent_from}
use Rattle.pv_dirs.proofs.SlotRuns.{run_after}
use Rattle.pv_dirs.proofs.SlotBytes.{length-slot_entries, get_or-slot_entries}
use Rattle.pv_dirs.proofs.dir.Dir.search.Goals as goal

pub loop-k-preserved : goal.loop-k-preserved
loop-k-preserved c =
    let v = c.args.self.now.inodes.now.version in
    let bytes = directory_bytes c.args.self.now in
    let whole = c.layout-length.ensures.slot_length ∙ ap entry_length c.version.ensures in
    let this : name_in_slot (slot_at v bytes c.loop-k.k) ≢ c.args.name.now = λ same. false≢true (sym c.if-has_name.false ∙ c.has_name.ensures.1 same) in
    record {
      others = λ j below. elim (cases_eq j c.loop-k.k) [
        | inl here ↦ λ same. this (ap (λ i. name_in_slot (slot_at v bytes i)) (sym here) ∙ same)
        | inr there ↦ c.loop-k.invariant.others j (omega arith)
      ];
      run = rw c.rest_of-left.ensures (run_after v bytes c.run_at-run.result.now c.loop-k.k c.layout-length.result.slot_length whole c.run_at-run.ensures);
    }

pub returns-clause-absent : goal.returns-clause-absent
returns-clause-absent c =
    let bytes = directory_bytes c.args.self.now in
    let all = length-slot_entries c.args.self.now.inodes.now.version bytes in
    absent_from c.args.name.now (slot_entries c.args.self.now.inodes.now.version bytes)
    (λ k d within same. c.loop-k.invariant.others k (omega (arith, c.count-k-end.ensures.value)) (ap (λ (e : Bytes × ℕ). e.0) (sym (get_or-slot_entries c.args.self.now.inodes.now.version bytes k d (omega arith))) ∙ same))
