use Rattle.std.proofs.Common.{◌≡◌, ℕ, ◌+◌, ◌*◌, ◌<◌, ◌++◌, length, Some, sym, ap, subst, ◌∙◌, arith}
use Rattle.pv_model.specs.Machine.{Bytes, entry_length, entries_at, find_entry, node_at}
use Rattle.pv_image_write.specs.Encoding.{slot_of}
use Rattle.pv_image_write.proofs.EntryLists.{front-none, front-some, some-is, met, all-met, listing-start, listing-step, size_entries, slot-room, IsListing}
use Rattle.pv_image_write.proofs.content.put_slots.Goals as goal

pub unreachable-requires : goal.unreachable-requires
unreachable-requires c =
    let t = c.args.tree.now.tree in
    let e = met t c.args.directory c.invariant.ensures.well_formed c.args.version c.loop-entry.entry c.size-entry-end.result c.args.bytes.now.items c.loop-entry.bytes.items c.loop-entry.last c.requires.directory c.size-entry-end.ensures.value c.loop-entry-test.true c.loop-entry.invariant.listing in
    front-none _ e.0.0 c.in_default.is (c.next.ensures.name ∙ e.1.next)

pub put_slot-requires-clause-short : goal.put_slot-requires-clause-short
put_slot-requires-clause-short c =
    let t = c.args.tree.now.tree in
    let e = met t c.args.directory c.invariant.ensures.well_formed c.args.version c.loop-entry.entry c.size-entry-end.result c.args.bytes.now.items c.loop-entry.bytes.items c.loop-entry.last c.requires.directory c.size-entry-end.ensures.value c.loop-entry-test.true c.loop-entry.invariant.listing in
    let name = c.as_slice.ensures.value ∙ front-some _ c.in-Some.name e.0.0 c.in-Some.node c.in-Some.is (c.next.ensures.name ∙ e.1.next) in
    let short = e.1.short in
    omega (arith, ap length name, short, c.requires.names)

pub put_slot-requires-clause-room : goal.put_slot-requires-clause-room
put_slot-requires-clause-room c =
    let t = c.args.tree.now.tree in
    let many = size_entries (node_at t c.args.directory) c.size-entry-end.result c.requires.directory c.size-entry-end.ensures.value in
    let below : c.loop-entry.entry < length (entries_at t c.args.directory) = omega (arith, many, c.loop-entry-test.true) in
    omega (arith, slot-room c.args.version c.loop-entry.entry (length (entries_at t c.args.directory)) below, c.loop-entry.invariant.len, c.loop-entry.invariant.room, c.requires.room)

pub loop-entry-init : goal.loop-entry-init
loop-entry-init c = record {
  listing = listing-start c.args.version (entries_at c.args.tree.now.tree c.args.directory) c.args.bytes.now.items;
  len = omega arith;
  room = omega arith;
}

pub loop-entry-preserved : goal.loop-entry-preserved
loop-entry-preserved c =
    let t = c.args.tree.now.tree in
    let es = entries_at t c.args.directory in
    let e = met t c.args.directory c.invariant.ensures.well_formed c.args.version c.loop-entry.entry c.size-entry-end.result c.args.bytes.now.items c.loop-entry.bytes.items c.loop-entry.last c.requires.directory c.size-entry-end.ensures.value c.loop-entry-test.true c.loop-entry.invariant.listing in
    let name = front-some _ c.in-Some.name e.0.0 c.in-Some.node c.in-Some.is (c.next.ensures.name ∙ e.1.next) in
    let both : Some c.in-Some.node ≡ Some e.0.1 = sym c.in-Some.ensures.node ∙ ap (find_entry t c.args.directory) name ∙ e.1.found in
    let node = some-is c.in-Some.node e.0.1 both in
    let slot : (c.as_slice.result.now, c.in-Some.node) ≡ e.0 = λ i. ((c.as_slice.ensures.value ∙ name) i, node i) in
    record {
      listing =
          subst (λ (o : Bytes). IsListing c.args.version es (c.loop-entry.entry + 1) c.args.bytes.now.items c.put_slot.new.bytes.items (Some o)) (sym name)
          (listing-step c.args.version es c.loop-entry.entry c.args.bytes.now.items c.loop-entry.bytes.items c.loop-entry.last e.0 c.loop-entry.invariant.listing e.1.there c.put_slot.new.bytes.items
          (c.put_slot.ensures.items ∙ ap (λ (s : Bytes × ℕ). c.loop-entry.bytes.items ++ slot_of c.args.version s) slot));
      len = omega (arith, c.put_slot.ensures.len, c.loop-entry.invariant.len);
      room = omega (arith, c.put_slot.ensures.capacity, c.loop-entry.invariant.room);
    }

pub returns-clause-items : goal.returns-clause-items
returns-clause-items c =
    all-met c.args.tree.now.tree c.args.directory c.invariant.ensures.well_formed c.args.version c.loop-entry.entry c.size-entry-end.result c.args.bytes.now.items c.loop-entry.bytes.items c.loop-entry.last c.requires.directory c.size-entry-end.ensures.value c.loop-entry-test.false c.loop-entry.invariant.listing

pub returns-clause-len : goal.returns-clause-len
returns-clause-len c =
    let t = c.args.tree.now.tree in
    let many = size_entries (node_at t c.args.directory) c.size-entry-end.result c.requires.directory c.size-entry-end.ensures.value in
    let all : c.loop-entry.entry ≡ length (entries_at t c.args.directory) = omega (arith, many) in
    c.loop-entry.invariant.len ∙ ap (λ k. c.args.bytes.now.len + entry_length c.args.version * k) all
