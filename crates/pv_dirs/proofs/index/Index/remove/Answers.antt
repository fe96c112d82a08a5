use Rattle.std.proofs.Common.{refl, arith}
use Rattle.pv_dirs.specs.declared.index.Bucket.TheVariants.{Empty, Slot}
use Rattle.pv_dirs.proofs.IndexedEntries.{bucket_at-at, leads-slot, leads-others, known-same}
use Rattle.pv_dirs.proofs.index.Index.remove.Goals as goal

pub returns-then-is_slot-clause-others : goal.returns-then-is_slot-clause-others
returns-then-is_slot-clause-others c = λ d k other apart leads.
    leads-others c.args.self.now _ c.place_of-at.result Empty (omega (arith, c.place_of-at.ensures.within)) refl refl d other k
    (λ same before.
    let here = bucket_at-at c.args.self.now d other c.place_of-at.result (Slot c.args.directory c.args.slot) same (c.is_slot.ensures.0 c.if-is_slot.true) in
    let both = leads-slot c.args.self.now d other k c.args.directory c.args.slot here before in absurd (apart both.0 both.1)) leads

pub returns-then-is_slot-clause-known : goal.returns-then-is_slot-clause-known
returns-then-is_slot-clause-known c = λ d. known-same c.args.self.now _ d refl refl
