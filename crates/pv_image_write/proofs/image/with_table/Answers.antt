use Rattle.std.proofs.Common.{◌≡◌, suc, ◌+◌, length, sym, ap, subst, ◌∙◌, add-one, arith}
use Rattle.pv_model.specs.Machine.{node_at, names_of}
use Rattle.pv_image_write.specs.Placed.{placed, written_at}
use Rattle.pv_image_write.specs.Encoding.{first_block, all_inodes}
use Rattle.pv_image_write.specs.Writable.{AreWritten}
use Rattle.pv_image_write.proofs.PlacedTrees.{node-placed, names-placed, placed-counted}
use Rattle.pv_image_write.proofs.ImageParts.{length-first_block}
use Rattle.pv_image_write.proofs.ImageWrites.{inode-room, inodes-start, inodes-step, table-is, table-room, as_written-room}
use Rattle.pv_image_write.proofs.image.with_table.Goals as goal

pub table_blocks-first_data-requires : goal.table_blocks-first_data-requires
unfolding placed
table_blocks-first_data-requires c = c.requires.writable.few

pub loop-slot-init : goal.loop-slot-init
unfolding placed
loop-slot-init c =
    let u = placed c.args.tree.now.tree c.args.version c.args.blocks c.args.inodes in
    let front = first_block c.args.version c.args.blocks c.args.inodes in
    record {
      as_written =
          subst (λ xs. AreWritten all_inodes u 0 front xs (c.table_blocks-first_data.result + 1)) (sym c.in_ok-bytes.ensures.items)
          (inodes-start u c.requires.writable front (c.table_blocks-first_data.result + 1) (ap (λ k. k + 1) c.table_blocks-first_data.ensures));
      room = c.in_ok-bytes.ensures.room;
    }

pub add_inode-requires-clause-counted : goal.add_inode-requires-clause-counted
add_inode-requires-clause-counted c =
    placed-counted c.args.tree.now c.invariant.ensures c.args.version c.args.blocks c.args.inodes c.requires.inodes c.requires.names (c.loop-slot.slot + 1)

pub add_inode-requires-clause-blocks : goal.add_inode-requires-clause-blocks
unfolding placed
add_inode-requires-clause-blocks c =
    let h = c.args.tree.now in
    let n = c.loop-slot.slot in
    let u = placed h.tree c.args.version c.args.blocks c.args.inodes in
    let is : written_at h.tree (n + 1) ≡ node_at u (suc n) = sym (node-placed h c.invariant.ensures c.args.version c.args.blocks c.args.inodes c.requires.inodes c.requires.names (n + 1)) ∙ ap (node_at u) (add-one n) in
    as_written-room u c.requires.writable n c.loop-slot.first (written_at h.tree (n + 1)) c.loop-slot.invariant.as_written.block_after c.loop-slot-test.true is

pub add_inode-requires-clause-room : goal.add_inode-requires-clause-room
unfolding placed
add_inode-requires-clause-room c =
    let u = placed c.args.tree.now.tree c.args.version c.args.blocks c.args.inodes in
    let room =
    inode-room u c.requires.writable c.loop-slot.slot (first_block c.args.version c.args.blocks c.args.inodes) c.loop-slot.bytes.items
    (length-first_block c.args.version c.args.blocks c.args.inodes) c.loop-slot-test.true c.loop-slot.invariant.as_written.so_far in
    omega (arith, room, c.loop-slot.bytes.ok.0, c.loop-slot.invariant.room, c.requires.sizes)

pub overflow_cast-first : goal.overflow_cast-first
unfolding placed
overflow_cast-first c =
    let h = c.args.tree.now in
    let n = c.loop-slot.slot in
    let u = placed h.tree c.args.version c.args.blocks c.args.inodes in
    let is : written_at h.tree (n + 1) ≡ node_at u (suc n) = sym (node-placed h c.invariant.ensures c.args.version c.args.blocks c.args.inodes c.requires.inodes c.requires.names (n + 1)) ∙ ap (node_at u) (add-one n) in
    let room = as_written-room u c.requires.writable n c.loop-slot.first (written_at h.tree (n + 1)) c.loop-slot.invariant.as_written.block_after c.loop-slot-test.true is in
    omega (arith, room, c.taken_blocks.ensures)

pub overflow_add-first : goal.overflow_add-first
unfolding placed
overflow_add-first c =
    let h = c.args.tree.now in
    let n = c.loop-slot.slot in
    let u = placed h.tree c.args.version c.args.blocks c.args.inodes in
    let is : written_at h.tree (n + 1) ≡ node_at u (suc n) = sym (node-placed h c.invariant.ensures c.args.version c.args.blocks c.args.inodes c.requires.inodes c.requires.names (n + 1)) ∙ ap (node_at u) (add-one n) in
    let room = as_written-room u c.requires.writable n c.loop-slot.first (written_at h.tree (n + 1)) c.loop-slot.invariant.as_written.block_after c.loop-slot-test.true is in
    omega (arith, room, c.taken_blocks.ensures)

pub loop-slot-preserved : goal.loop-slot-preserved
unfolding placed
loop-slot-preserved c =
    let h = c.args.tree.now in
    let n = c.loop-slot.slot in
    let u = placed h.tree c.args.version c.args.blocks c.args.inodes in
    let is : written_at h.tree (n + 1) ≡ node_at u (suc n) = sym (node-placed h c.invariant.ensures c.args.version c.args.blocks c.args.inodes c.requires.inodes c.requires.names (n + 1)) ∙ ap (node_at u) (add-one n) in
    let names : length (names_of h.tree (n + 1)) ≡ length (names_of u (suc n)) = sym (names-placed h c.invariant.ensures c.args.version c.args.blocks c.args.inodes c.requires.inodes c.requires.names (n + 1)) ∙ ap (λ k. length (names_of u k)) (add-one n) in
    record {
      as_written =
          inodes-step u c.requires.writable n (first_block c.args.version c.args.blocks c.args.inodes) c.loop-slot.bytes.items c.add_inode.new.bytes.items
          c.loop-slot.first (c.loop-slot.first + c.taken_blocks.result) (length (names_of h.tree (n + 1))) (written_at h.tree (n + 1))
          c.loop-slot.invariant.as_written names is c.add_inode.ensures.items (ap (λ k. c.loop-slot.first + k) c.taken_blocks.ensures);
      room = omega (arith, c.add_inode.ensures.capacity, c.loop-slot.invariant.room);
    }

pub fill-requires-clause-within : goal.fill-requires-clause-within
unfolding placed
fill-requires-clause-within c =
    let u = placed c.args.tree.now.tree c.args.version c.args.blocks c.args.inodes in
    let all : c.loop-slot.slot ≡ c.args.inodes = omega arith in
    let room =
    table-room u c.requires.writable c.loop-slot.slot c.table_blocks-first_data.result (first_block c.args.version c.args.blocks c.args.inodes) c.loop-slot.bytes.items
    (length-first_block c.args.version c.args.blocks c.args.inodes) all c.table_blocks-first_data.ensures c.loop-slot.invariant.as_written.so_far in
    omega (arith, room, c.loop-slot.bytes.ok.0)

pub fill-requires-clause-room : goal.fill-requires-clause-room
fill-requires-clause-room c = omega (arith, c.table_blocks-first_data.ensures, c.requires.sizes, c.loop-slot.invariant.room)

pub returns-clause-items : goal.returns-clause-items
unfolding placed
returns-clause-items c =
    let u = placed c.args.tree.now.tree c.args.version c.args.blocks c.args.inodes in
    let all : c.loop-slot.slot ≡ c.args.inodes = omega arith in
    table-is u c.requires.writable c.loop-slot.slot c.table_blocks-first_data.result (first_block c.args.version c.args.blocks c.args.inodes) c.loop-slot.bytes.items c.fill.new.bytes.items
    (length-first_block c.args.version c.args.blocks c.args.inodes) all c.table_blocks-first_data.ensures c.loop-slot.invariant.as_written.so_far c.fill.ensures.items
