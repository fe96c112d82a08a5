use Rattle.std.proofs.Common.{◌≡◌, ℕ, suc, ◌+◌, ◌-◌, ◌*◌, ◌≤◌, ◌++◌, replicate, sym, ap, subst, ◌∙◌, add-one, arith, rules}
use Rattle.std.proofs.lemmas.Result.{on_err_weaker, on_ok_weaker}
use Rattle.pv_model.specs.declared.version.Version.{Version}
use Rattle.pv_model.specs.Machine.{Bytes, inode_blocks, node_at, greatest_name}
use Rattle.pv_tree.specs.Holding.{HeldTree}
use Rattle.pv_tree.specs.Present.{IsPresent}
use Rattle.pv_streams.proofs.OutputTexts.{on_err}
use Rattle.pv_streams.specs.Sinks.{and_all, WritesPrefix}
use Rattle.pv_image_write.specs.Placed.{placed, written_at}
use Rattle.pv_image_write.specs.Encoding.{all_contents, padded}
use Rattle.pv_image_write.proofs.PlacedTrees.{node-placed}
use Rattle.pv_image_write.proofs.WindowWrites.{put-all, put-cut, put-on}
use Rattle.pv_image_write.proofs.ImageWrites.{blocks-left, cut-node, node-room, put-node, put-none, put-zeros, written-node, as_written-room, whole-image, zeros-room}
use Rattle.pv_image_write.proofs.image.write_contents.Goals as goal

-- the next node
next-node : (h : HeldTree) → IsPresent h → (v : Version) (blocks inodes : ℕ) → h.tree.inodes ≤ inodes → greatest_name h.tree.version ≤ greatest_name v → (n : ℕ)
    → written_at h.tree (n + 1) ≡ node_at (placed h.tree v blocks inodes) (suc n)
next-node h s v blocks inodes more longer n =
    let u = placed h.tree v blocks inodes in
    sym (node-placed h s v blocks inodes more longer (n + 1)) ∙ ap (node_at u) (add-one n)

pub table_blocks-next-requires : goal.table_blocks-next-requires
unfolding placed
table_blocks-next-requires g c = c.requires.image.writable.few

pub loop-slot-init : goal.loop-slot-init
unfolding placed
loop-slot-init g c = record {
  put =
      put-none (placed c.args.tree.now.tree c.args.version c.args.blocks c.args.inodes) c.requires.image.writable c.args.window.now.items (g.O.Sink.written c.args.image.now)
      (c.table_blocks-next.result + 1) (ap (λ k. k + 1) c.table_blocks-next.ensures);
  room = omega arith;
  quiet = λ _. g.O.Sink.failures c.args.image.now;
}

pub add_blocks-requires-clause-blocks : goal.add_blocks-requires-clause-blocks
unfolding placed
add_blocks-requires-clause-blocks g c =
    let n = c.loop-slot.slot in
    let u = placed c.args.tree.now.tree c.args.version c.args.blocks c.args.inodes in
    let is = next-node c.args.tree.now c.invariant.ensures c.args.version c.args.blocks c.args.inodes c.requires.image.inodes c.requires.image.names n in
    as_written-room u c.requires.image.writable n c.loop-slot.next (written_at c.args.tree.now.tree (n + 1)) c.loop-slot.invariant.put.as_written.block_after c.loop-slot-test.true is

pub add_blocks-requires-clause-room : goal.add_blocks-requires-clause-room
unfolding placed
add_blocks-requires-clause-room g c =
    let n = c.loop-slot.slot in
    let u = placed c.args.tree.now.tree c.args.version c.args.blocks c.args.inodes in
    let is = next-node c.args.tree.now c.invariant.ensures c.args.version c.args.blocks c.args.inodes c.requires.image.inodes c.requires.image.names n in
    let whole = whole-image c.args.blocks (inode_blocks c.args.version c.args.inodes) c.requires.image.sizes in
    let room =
    node-room u c.requires.image.writable n c.args.window.now.items (g.O.Sink.written c.args.image.now) (g.O.Sink.written c.loop-slot.image) c.loop-slot.window.items c.loop-slot.next c.args.blocks
    (written_at c.args.tree.now.tree (n + 1)) c.loop-slot.invariant.put c.loop-slot-test.true is c.requires.following whole in
    omega (arith, room, c.loop-slot.window.ok.0, c.loop-slot.invariant.room, c.requires.room)

pub overflow_cast-next : goal.overflow_cast-next
unfolding placed
overflow_cast-next g c =
    let n = c.loop-slot.slot in
    let u = placed c.args.tree.now.tree c.args.version c.args.blocks c.args.inodes in
    let is = next-node c.args.tree.now c.invariant.ensures c.args.version c.args.blocks c.args.inodes c.requires.image.inodes c.requires.image.names n in
    let room = as_written-room u c.requires.image.writable n c.loop-slot.next (written_at c.args.tree.now.tree (n + 1)) c.loop-slot.invariant.put.as_written.block_after c.loop-slot-test.true is in
    omega (arith, room, c.taken_blocks.ensures)

pub overflow_add-next-in-loop-slot : goal.overflow_add-next-in-loop-slot
unfolding placed
overflow_add-next-in-loop-slot g c =
    let n = c.loop-slot.slot in
    let u = placed c.args.tree.now.tree c.args.version c.args.blocks c.args.inodes in
    let is = next-node c.args.tree.now c.invariant.ensures c.args.version c.args.blocks c.args.inodes c.requires.image.inodes c.requires.image.names n in
    let room = as_written-room u c.requires.image.writable n c.loop-slot.next (written_at c.args.tree.now.tree (n + 1)) c.loop-slot.invariant.put.as_written.block_after c.loop-slot-test.true is in
    omega (arith, room, c.taken_blocks.ensures)

pub returns-in_err-write_full-clause-written : goal.returns-in_err-write_full-clause-written
unfolding placed
returns-in_err-write_full-clause-written g c =
    let n = c.loop-slot.slot in
    let u = placed c.args.tree.now.tree c.args.version c.args.blocks c.args.inodes in
    let had = c.args.window.now.items in
    let entry = g.O.Sink.written c.args.image.now in
    let mid = g.O.Sink.written c.loop-slot.image in
    let after = g.O.Sink.written c.write_full.new.image in
    let is = next-node c.args.tree.now c.invariant.ensures c.args.version c.args.blocks c.args.inodes c.requires.image.inodes c.requires.image.names n in
    let put =
    put-node u c.requires.image.writable n had entry mid c.loop-slot.window.items c.add_blocks.new.bytes.items c.loop-slot.next c.taken_blocks.result (written_at c.args.tree.now.tree (n + 1))
    c.loop-slot.invariant.put is c.add_blocks.ensures.items c.taken_blocks.ensures in
    record {
      whole = search rules;
      prefix = on_err c.from_residual.result (cut-node u c.requires.image.writable (n + 1) had entry mid after c.add_blocks.new.bytes.items (c.loop-slot.next + c.taken_blocks.result) (omega (arith, c.loop-slot-test.true)) put c.in_err-write_full.ensures.cut);
      failed = on_err c.from_residual.result (rw (← c.loop-slot.invariant.quiet) c.in_err-write_full.ensures.failed);
      quiet = search rules;
    }

pub loop-slot-preserved : goal.loop-slot-preserved
unfolding placed
loop-slot-preserved g c =
    let n = c.loop-slot.slot in
    let u = placed c.args.tree.now.tree c.args.version c.args.blocks c.args.inodes in
    let had = c.args.window.now.items in
    let entry = g.O.Sink.written c.args.image.now in
    let mid = g.O.Sink.written c.loop-slot.image in
    let after = g.O.Sink.written c.write_full.new.image in
    let is = next-node c.args.tree.now c.invariant.ensures c.args.version c.args.blocks c.args.inodes c.requires.image.inodes c.requires.image.names n in
    let put =
    put-node u c.requires.image.writable n had entry mid c.loop-slot.window.items c.add_blocks.new.bytes.items c.loop-slot.next c.taken_blocks.result (written_at c.args.tree.now.tree (n + 1))
    c.loop-slot.invariant.put is c.add_blocks.ensures.items c.taken_blocks.ensures in
    record {
      put = written-node u c.requires.image.writable (n + 1) had entry mid after c.add_blocks.new.bytes.items c.write_full.new.window.items (c.loop-slot.next + c.taken_blocks.result) put c.in_ok-write_full.ensures.put;
      room = omega (arith, c.loop-slot.invariant.room, c.add_blocks.ensures.capacity, c.write_full.ensures.capacity);
      quiet = c.in_ok-write_full.ensures.quiet ∙ c.loop-slot.invariant.quiet;
    }

pub overflow_sub-blocks : goal.overflow_sub-blocks
unfolding placed
overflow_sub-blocks g c =
    let u = placed c.args.tree.now.tree c.args.version c.args.blocks c.args.inodes in
    let all : c.loop-slot.slot ≡ c.args.inodes = omega arith in
    let whole = whole-image c.args.blocks (inode_blocks c.args.version c.args.inodes) c.requires.image.sizes in
    blocks-left u c.requires.image.writable c.loop-slot.slot c.loop-slot.next c.args.blocks all c.loop-slot.invariant.put.as_written.block_after whole

pub write_zeros-requires : goal.write_zeros-requires
unfolding placed
write_zeros-requires g c =
    let u = placed c.args.tree.now.tree c.args.version c.args.blocks c.args.inodes in
    let all : c.loop-slot.slot ≡ c.args.inodes = omega arith in
    let whole = whole-image c.args.blocks (inode_blocks c.args.version c.args.inodes) c.requires.image.sizes in
    let room =
    zeros-room u c.requires.image.writable c.loop-slot.slot c.args.window.now.items (g.O.Sink.written c.args.image.now) (g.O.Sink.written c.loop-slot.image) c.loop-slot.window.items c.loop-slot.next
    c.args.blocks c.loop-slot.invariant.put all c.requires.following whole in
    omega (arith, room, c.loop-slot.window.ok.0, c.loop-slot.invariant.room, c.requires.room)

pub returns-in_err-write_zeros-clause-written : goal.returns-in_err-write_zeros-clause-written
unfolding placed
returns-in_err-write_zeros-clause-written g c =
    let u = placed c.args.tree.now.tree c.args.version c.args.blocks c.args.inodes in
    let had = c.args.window.now.items in
    let entry = g.O.Sink.written c.args.image.now in
    let mid = g.O.Sink.written c.loop-slot.image in
    let after = g.O.Sink.written c.write_zeros.new.image in
    let all : c.loop-slot.slot ≡ c.args.inodes = omega arith in
    let whole = whole-image c.args.blocks (inode_blocks c.args.version c.args.inodes) c.requires.image.sizes in
    let put = put-zeros u c.requires.image.writable c.loop-slot.slot had entry mid c.loop-slot.window.items c.loop-slot.next c.args.blocks c.loop-slot.invariant.put all whole in
    record {
      whole = search rules;
      prefix = on_err c.from_residual-in_err-write_zeros.result (put-cut entry mid after (c.loop-slot.window.items ++ replicate (512 * (c.args.blocks - c.loop-slot.next)) 0) (had ++ padded (512 * u.blocks) (all_contents u u.inodes)) put
          c.in_err-write_zeros.ensures.cut);
      failed = on_err c.from_residual-in_err-write_zeros.result (rw (← c.loop-slot.invariant.quiet) c.in_err-write_zeros.ensures.failed);
      quiet = search rules;
    }

pub returns-clause-written : goal.returns-clause-written
unfolding placed
returns-clause-written g c =
    let u = placed c.args.tree.now.tree c.args.version c.args.blocks c.args.inodes in
    let had = c.args.window.now.items in
    let entry = g.O.Sink.written c.args.image.now in
    let mid = g.O.Sink.written c.loop-slot.image in
    let last = g.O.Sink.written c.write_zeros.new.image in
    let after = g.O.Sink.written c.write_through.new.sink in
    let image = had ++ padded (512 * u.blocks) (all_contents u u.inodes) in
    let all : c.loop-slot.slot ≡ c.args.inodes = omega arith in
    let whole = whole-image c.args.blocks (inode_blocks c.args.version c.args.inodes) c.requires.image.sizes in
    let put = put-zeros u c.requires.image.writable c.loop-slot.slot had entry mid c.loop-slot.window.items c.loop-slot.next c.args.blocks c.loop-slot.invariant.put all whole in
    let left = c.write_zeros.new.window.items in
    let zeros = c.loop-slot.window.items ++ replicate (512 * (c.args.blocks - c.loop-slot.next)) 0 in
    let now = put-on entry mid last zeros image left put c.in_ok-write_zeros.ensures.put in
    let quiet = c.in_ok-write_zeros.ensures.quiet ∙ c.loop-slot.invariant.quiet in
    record {
      whole = on_ok_weaker c.write_through.result (λ written. put-all entry last after left image now (written ∙ ap (and_all last) c.as_slice.ensures.value)) c.write_through.ensures.written.whole;
      prefix = on_err_weaker c.write_through.result
          (λ begun. put-cut entry last after left image now (subst (λ (xs : Bytes). WritesPrefix xs last after) c.as_slice.ensures.value begun)) c.write_through.ensures.written.prefix;
      failed = rw (← quiet) c.write_through.ensures.written.failed;
      quiet = on_ok_weaker c.write_through.result (λ same. same ∙ quiet) c.write_through.ensures.written.quiet;
    }
