use Rattle.std.proofs.Common.{◌≡◌, ◌≤◌, ◌<◌, ◌+◌, ◌*◌, ◌-◌, ◌++◌, min, drop, ap, sym, subst, arith, ◌∙◌}
use Rattle.pv_blocks.specs.BlockSet.{is_member}
use Rattle.pv_model.specs.Machine.{block, field, block_number, is_data_block, rounded_up}
use Rattle.pv_image_mount.specs.Rows.{pointed_row, pointer_row}
use Rattle.pv_image_mount.proofs.PointerRows.{get_or-row, pointed_end, pointed_from}
use Rattle.pv_image_mount.proofs.InvalidBlocks.{left_less, left_refused, none_left, none_left-taken}
use Rattle.pv_image_mount.proofs.image.Image.claim_pointed.Goals as goal
use Rattle.pv_image_mount.proofs.image.Image.claim_pointed.Goals.{After-min}

-- the pointers of an index block, and those of the blocks after it
split : (c : After-min) → (let n = rounded_up c.args.count 256 in let row = pointer_row n c.args.index.now in c.loop-i.i < n
    → pointed_row (c.args.count - 256 * c.loop-i.i) c.args.self.now.bytes.now (drop c.loop-i.i row)
    ≡ pointer_row c.min.result c.block-block.result.now ++ pointed_row (c.args.count - 256 * (c.loop-i.i + 1)) c.args.self.now.bytes.now (drop (c.loop-i.i + 1) row))
split c less =
    let bytes = c.args.self.now.bytes.now in
    let count = c.args.count in
    let n = rounded_up count 256 in
    let i = c.loop-i.i in
    let here : pointer_row c.min.result c.block-block.result.now ≡ pointer_row (min (count - 256 * i) 256) (block bytes (field c.args.index.now (2 * i) 2)) =
    ap (λ m. pointer_row m c.block-block.result.now) (c.min.ensures ∙ ap (λ m. min m 256) c.saturating_sub-left.ensures)
    ∙ ap (pointer_row (min (count - 256 * i) 256)) (c.block-block.ensures.bytes ∙ ap (block bytes) c.u16_at.ensures) in
    pointed_from count bytes n i c.args.index.now less ∙ ap (λ l. l ++ pointed_row (count - 256 * (i + 1)) bytes (drop (i + 1) (pointer_row n c.args.index.now))) (sym here)

pub block-block-requires : goal.block-block-requires
block-block-requires c =
    let n = rounded_up c.args.count 256 in
    let less : c.loop-i.i < n = omega (arith, c.loop-i-test.true, c.div_ceil-i-end.ensures) in
    subst (λ k. k < block_number c.args.self.now.bytes.now) (get_or-row n c.loop-i.i c.args.index.now less ∙ sym c.u16_at.ensures) (c.requires.within c.loop-i.i less)

pub returns-then-claim_row-clause-refused : goal.returns-then-claim_row-clause-refused
returns-then-claim_row-clause-refused c =
    let bytes = c.args.self.now.bytes.now in
    let count = c.args.count in
    let n = rounded_up count 256 in
    let i = c.loop-i.i in
    let row = pointer_row n c.args.index.now in
    let less : i < n = omega (arith, c.loop-i-test.true, c.div_ceil-i-end.ensures) in
    let following = pointed_row (count - 256 * (i + 1)) bytes (drop (i + 1) row) in
    sym (left_refused (is_data_block c.args.self.now.version bytes) (is_member c.args.used.now) (pointed_row count bytes row) (is_member c.loop-i.used)
    (pointed_row (count - 256 * i) bytes (drop i row)) (pointer_row c.min.result c.block-block.result.now) following
    (split (goal.at.returns-then-claim_row-clause-refused c).After-min less) c.loop-i.invariant
    (sym c.claim_row.ensures.refused ∙ c.if-claim_row.true))

pub loop-i-preserved : goal.loop-i-preserved
loop-i-preserved c =
    let bytes = c.args.self.now.bytes.now in
    let count = c.args.count in
    let n = rounded_up count 256 in
    let i = c.loop-i.i in
    let row = pointer_row n c.args.index.now in
    let less : i < n = omega (arith, c.loop-i-test.true, c.div_ceil-i-end.ensures) in
    let following = pointed_row (count - 256 * (i + 1)) bytes (drop (i + 1) row) in
    left_less (is_data_block c.args.self.now.version bytes) (is_member c.args.used.now) (pointed_row count bytes row) (is_member c.loop-i.used) (is_member c.claim_row.new.used)
    (pointed_row (count - 256 * i) bytes (drop i row)) (pointer_row c.min.result c.block-block.result.now) following
    (split (goal.at.loop-i-preserved c).After-min less) c.loop-i.invariant
    (sym c.claim_row.ensures.refused ∙ c.if-claim_row.false) (c.claim_row.ensures.after c.if-claim_row.false)

pub returns-clause-refused : goal.returns-clause-refused
returns-clause-refused c =
    let bytes = c.args.self.now.bytes.now in
    let n = rounded_up c.args.count 256 in
    let row = pointer_row n c.args.index.now in
    let left = c.args.count - 256 * c.loop-i.i in
    let all : n ≤ c.loop-i.i = omega (arith, c.loop-i-test.false, c.div_ceil-i-end.ensures) in
    sym (none_left (is_data_block c.args.self.now.version bytes) (is_member c.args.used.now) (pointed_row c.args.count bytes row) (is_member c.loop-i.used)
    (pointed_row left bytes (drop c.loop-i.i row)) (pointed_end left bytes n c.loop-i.i c.args.index.now all) c.loop-i.invariant)

pub returns-clause-after : goal.returns-clause-after
returns-clause-after c = λ fine.
    let bytes = c.args.self.now.bytes.now in
    let n = rounded_up c.args.count 256 in
    let row = pointer_row n c.args.index.now in
    let left = c.args.count - 256 * c.loop-i.i in
    let all : n ≤ c.loop-i.i = omega (arith, c.loop-i-test.false, c.div_ceil-i-end.ensures) in
    none_left-taken (is_data_block c.args.self.now.version bytes) (is_member c.args.used.now) (pointed_row c.args.count bytes row) (is_member c.loop-i.used)
    (pointed_row left bytes (drop c.loop-i.i row)) (pointed_end left bytes n c.loop-i.i c.args.index.now all) c.loop-i.invariant
