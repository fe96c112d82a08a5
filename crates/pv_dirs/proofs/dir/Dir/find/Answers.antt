use Rattle.std.proofs.Common.{◌≡◌, ◌<◌, sym, ap, ◌∙◌, arith}
use Rattle.pv_dirs.specs.Dirs.{directory_bytes}
use Rattle.pv_dirs.specs.Slots.{slot_at, slot_count, name_in_slot}
use Rattle.pv_dirs.proofs.ChangedIndex.{absent_unled}
use Rattle.pv_dirs.proofs.IndexedEntries.{leads-empty, leads-slot}
use Rattle.pv_dirs.proofs.CallResults.{on_none}
use Rattle.pv_dirs.proofs.dir.Dir.find.Goals as goal

pub returns-in-Empty-clause-absent : goal.returns-in-Empty-clause-absent
returns-in-Empty-clause-absent c =
    absent_unled c.args.self.now.inodes.now.version (directory_bytes c.args.self.now) c.args.self.now.directory c.args.name.now c.args.index.now c.requires.led
    (λ k below named leads. leads-empty c.args.index.now c.args.self.now.directory c.args.name.now k (sym c.find.ensures ∙ c.in-Empty.is) leads)

pub returns-then-above-self-clause-absent : goal.returns-then-above-self-clause-absent
returns-then-above-self-clause-absent c =
    absent_unled c.args.self.now.inodes.now.version (directory_bytes c.args.self.now) c.args.self.now.directory c.args.name.now c.args.index.now c.requires.led
    (λ k below named leads.
    let both = leads-slot c.args.index.now c.args.self.now.directory c.args.name.now k c.in-Slot.above c.in-Slot.slot (sym c.find.ensures ∙ c.in-Slot.is) leads in
    c.if-above-self.true (sym both.0))

pub returns-else-above-self-clause-absent : goal.returns-else-above-self-clause-absent
returns-else-above-self-clause-absent c =
    let v = c.args.self.now.inodes.now.version in
    let bytes = directory_bytes c.args.self.now in
    on_none c.slot_with.result c.slot_with.ensures.other
    (λ not. absent_unled v bytes c.args.self.now.directory c.args.name.now c.args.index.now c.requires.led
    (λ k below named leads.
    let both = leads-slot c.args.index.now c.args.self.now.directory c.args.name.now k c.in-Slot.above c.in-Slot.slot (sym c.find.ensures ∙ c.in-Slot.is) leads in
    let here : c.from.result ≡ k = omega (arith, both.1, c.from.ensures) in
    let there : c.from.result < slot_count v bytes = omega arith in
    not there (ap (λ i. name_in_slot (slot_at v bytes i)) here ∙ named)))
