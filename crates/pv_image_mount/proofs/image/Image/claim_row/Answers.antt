use Rattle.std.proofs.Common.{◌≡◌, ◌+◌, ◌∷◌, [], drop, sym, ap, ◌∙◌}
use Rattle.pv_blocks.specs.BlockSet.{is_member}
use Rattle.pv_model.specs.Machine.{is_data_block}
use Rattle.pv_image_mount.specs.Rows.{pointer_row}
use Rattle.pv_image_mount.proofs.PointerRows.{row_end, row_from}
use Rattle.pv_image_mount.proofs.InvalidBlocks.{left_less, left_refused, none_left, none_left-taken, one_claimed, one_more, one_taken, one_unusable}
use Rattle.pv_image_mount.proofs.image.Image.claim_row.Goals as goal
use Rattle.pv_image_mount.proofs.image.Image.claim_row.Goals.{then-not-is_data_block-via-then-not-is_data_block, then-not-is_data_block-via-else-not-is_data_block+then-contains}

pub returns-then-not-is_data_block-clause-refused : goal.returns-then-not-is_data_block-clause-refused
returns-then-not-is_data_block-clause-refused c =
    let may = is_data_block c.args.self.now.version c.args.self.now.bytes.now in
    let now = is_member c.loop-i.used in
    let i = c.loop-i.i in
    let k = c.u16_at-k.result in
    let row = pointer_row c.args.count c.args.bytes.now in
    let split : drop i row ≡ k ∷ drop (i + 1) row = row_from c.args.count i c.args.bytes.now c.loop-i-test.true ∙ ap (λ p. p ∷ drop (i + 1) row) (sym c.u16_at-k.ensures) in
    let refused = left_refused may (is_member c.args.used.now) row now (drop i row) (k ∷ []) (drop (i + 1) row) split c.loop-i.invariant in
    elim c.then-not-is_data_block.branch [
      | then-not-is_data_block-via-then-not-is_data_block w ↦
          sym (refused (one_unusable may now k (sym c.is_data_block.ensures ∙ w.if-not-is_data_block.true)))
      | then-not-is_data_block-via-else-not-is_data_block+then-contains w ↦
          sym (refused (one_taken may now k (sym w.contains.ensures ∙ w.if-contains.true)))
    ]

pub loop-i-preserved : goal.loop-i-preserved
loop-i-preserved c =
    let may = is_data_block c.args.self.now.version c.args.self.now.bytes.now in
    let now = is_member c.loop-i.used in
    let i = c.loop-i.i in
    let k = c.u16_at-k.result in
    let row = pointer_row c.args.count c.args.bytes.now in
    let split : drop i row ≡ k ∷ drop (i + 1) row = row_from c.args.count i c.args.bytes.now c.loop-i-test.true ∙ ap (λ p. p ∷ drop (i + 1) row) (sym c.u16_at-k.ensures) in
    left_less may (is_member c.args.used.now) row now (is_member c.insert.new.self) (drop i row) (k ∷ []) (drop (i + 1) row) split c.loop-i.invariant
    (one_claimed may now k (sym c.is_data_block.ensures ∙ c.if-not-is_data_block.false) (sym c.contains.ensures ∙ c.if-contains.false))
    (one_more now (is_member c.insert.new.self) k c.insert.ensures.after)

pub returns-clause-refused : goal.returns-clause-refused
returns-clause-refused c =
    let row = pointer_row c.args.count c.args.bytes.now in
    sym (none_left (is_data_block c.args.self.now.version c.args.self.now.bytes.now) (is_member c.args.used.now) row (is_member c.loop-i.used) (drop c.loop-i.i row)
    (row_end c.args.count c.loop-i.i c.args.bytes.now c.loop-i-test.false) c.loop-i.invariant)

pub returns-clause-after : goal.returns-clause-after
returns-clause-after c = λ fine.
    let row = pointer_row c.args.count c.args.bytes.now in
    none_left-taken (is_data_block c.args.self.now.version c.args.self.now.bytes.now) (is_member c.args.used.now) row (is_member c.loop-i.used) (drop c.loop-i.i row)
    (row_end c.args.count c.loop-i.i c.args.bytes.now c.loop-i-test.false) c.loop-i.invariant
