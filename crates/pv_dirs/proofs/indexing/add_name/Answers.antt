use Rattle.std.proofs.Common.{sym, subst, arith, inl, inr}
use Rattle.std.proofs.lemmas.Bool.{cases_eq}
use Rattle.pv_dirs.specs.Dirs.{directory_bytes}
use Rattle.pv_dirs.specs.Index.{AscendTo}
use Rattle.pv_dirs.specs.Slots.{slot_at, name_in_slot}
use Rattle.pv_dirs.proofs.AscendingNames.{ascend_more}
use Rattle.pv_dirs.proofs.indexing.add_name.Goals as goal

pub returns-clause-led : goal.returns-clause-led
returns-clause-led c =
    let v = c.args.dir.now.inodes.now.version in
    let bytes = directory_bytes c.args.dir.now in
    record {
      slots = λ k below. elim (cases_eq k c.args.k) [
        | inl here ↦ rw (here, sym c.requires.named) c.add.ensures.this
        | inr other ↦ c.add.ensures.others c.args.dir.now.directory k (name_in_slot (slot_at v bytes k)) (c.requires.led.slots k (omega arith))
      ];
      ordered = λ is. ascend_more v bytes c.args.k (subst (AscendTo v bytes c.args.k) c.requires.named (c.ascends_past-ascends.ensures (c.add.ensures.ascends is)));
    }
