use Rattle.std.proofs.Common.{◌≡◌, ◌≢◌, ◌-◌, ◌%◌, sym, ap, ◌∙◌, arith}
use Rattle.pv_inodes.specs.Layout.{pointer_at, pointer_of, after_index, position_of_block}
use Rattle.pv_inodes.proofs.InodeFields.{owned_at-direct, owned_at-entry}
use Rattle.pv_inodes.proofs.InodeLayouts.{pointer_of-few, pointer_of-first, pointer_of-past, after_index-first, after_index-past}
use Rattle.pv_inodes.proofs.table.content_block.Goals as goal
use Rattle.pv_inodes.proofs.table.content_block.Goals.{After-pointer-index}

pub returns-then-block-lt-DIRECT : goal.returns-then-block-lt-DIRECT
returns-then-block-lt-DIRECT c =
    c.pointer.ensures
    ∙ sym (owned_at-direct c.args.version c.args.blocks.now.blocks c.args.slot (position_of_block c.args.block) (after_index-first c.args.block c.if-block-lt-DIRECT.true)
    ∙ ap (pointer_at c.args.version c.args.blocks.now.blocks c.args.slot) (pointer_of-first c.args.block c.if-block-lt-DIRECT.true))

pub pointer-index-requires-clause-pointer : goal.pointer-index-requires-clause-pointer
pointer-index-requires-clause-pointer c =
    omega (arith, pointer_of-few c.args.version (position_of_block c.args.block) c.requires.owned, pointer_of-past c.args.block c.if-block-lt-DIRECT.false)

-- the index block is the one that points to the block
index_is : (c : After-pointer-index) → c.pointer-index.result ≡ pointer_at c.args.version c.args.blocks.now.blocks c.args.slot (pointer_of (position_of_block c.args.block))
index_is c = c.pointer-index.ensures ∙ ap (pointer_at c.args.version c.args.blocks.now.blocks c.args.slot) (sym (pointer_of-past c.args.block c.if-block-lt-DIRECT.false))

following : (c : After-pointer-index) → after_index (position_of_block c.args.block) ≢ 0
following c same = omega (arith, after_index-past c.args.block c.if-block-lt-DIRECT.false)

pub u16_at-requires-clause-block : goal.u16_at-requires-clause-block
u16_at-requires-clause-block c =
    let before = (goal.at.u16_at-requires-clause-block c).After-pointer-index in
    rw (index_is before) (c.requires.index (following before))

pub returns-else-block-lt-DIRECT : goal.returns-else-block-lt-DIRECT
returns-else-block-lt-DIRECT c =
    let before = (goal.at.returns-else-block-lt-DIRECT c).After-pointer-index in
    let entry : (c.args.block - 10) % 256 ≡ after_index (position_of_block c.args.block) - 1 = omega (arith, after_index-past c.args.block c.if-block-lt-DIRECT.false) in
    c.u16_at.ensures
    ∙ rw (index_is before, entry) (sym (owned_at-entry c.args.version c.args.blocks.now.blocks c.args.slot (position_of_block c.args.block) (following before)))
