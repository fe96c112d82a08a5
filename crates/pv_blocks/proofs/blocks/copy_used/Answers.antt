use Rattle.std.proofs.Common.{◌≡◌, ℕ, ◌+◌, ◌*◌, ◌/◌, ◌<◌, ◌≤◌, ◌∙◌, ap, cond, ltb, arith, false, length, sym, true}
use Rattle.std.proofs.lemmas.List.{length-set}
use Rattle.std.specs.Prelude.{slice_index_or}
use Rattle.pv_model.specs.Machine.{Bytes}
use Rattle.pv_blocks.specs.BlockStore.{BlockStore, block_of}
use Rattle.pv_blocks.proofs.BlockCopies.{copied_free, copied_used, used_or_old-skip}
use Rattle.pv_blocks.proofs.BlockStores.{count_seen, flag_absent, flag_seen}
use Rattle.pv_blocks.proofs.blocks.copy_used.Goals as goal

pub is_clear-requires : goal.is_clear-requires
is_clear-requires c = omega arith

pub overflow_mul-k : goal.overflow_mul-k
overflow_mul-k c = omega arith

pub overflow_cast-k : goal.overflow_cast-k
overflow_cast-k c = omega arith

pub overflow_cast-k-then-contains : goal.overflow_cast-k-then-contains
overflow_cast-k-then-contains c = omega arith

pub copy_block-requires-clause-to : goal.copy_block-requires-clause-to
copy_block-requires-clause-to c =
    let a = c.from.inside in
    omega (arith, c.loop-k.invariant.long, c.requires, count_seen a.bytes.items a.taken a.first a.count c.args.from.now c.from.view_is, c.loop-k-test.true)

pub copy_block-requires-clause-from : goal.copy_block-requires-clause-from
copy_block-requires-clause-from c =
    let a = c.from.inside in
    omega (arith, count_seen a.bytes.items a.taken a.first a.count c.args.from.now c.from.view_is, c.loop-k-test.true)

pub loop-k-smaller-then-is_clear : goal.loop-k-smaller-then-is_clear
loop-k-smaller-then-is_clear c =
    let a = c.from.inside in
    omega (arith, count_seen a.bytes.items a.taken a.first a.count c.args.from.now c.from.view_is, c.loop-k-test.true)

pub loop-k-preserved-then-is_clear : goal.loop-k-preserved-then-is_clear
loop-k-preserved-then-is_clear c =
    let a = c.from.inside in
    let from = c.args.from.now in
    let k = c.loop-k.k in
    let clear = c.is_clear.ensures c.if-is_clear.true in
    let free : (i : ℕ) → k ≤ i → i < 64 * (k / 64 + 1) → slice_index_or from.free i true ≡ true = λ i low high.
    flag_absent a.bytes.items a.taken a.first a.count from c.from.view_is i (λ _. clear i (omega arith) (omega arith)) in
    record {
      from = omega arith;
      free = c.loop-k.invariant.free;
      first = c.loop-k.invariant.first;
      long = c.loop-k.invariant.long;
      each = copied_free from c.args.to.now c.loop-k.to c.args.start k c.loop-k.invariant.each c.loop-k.invariant.from (64 * (k / 64 + 1)) (omega arith) free;
    }

pub loop-k-smaller-then-contains : goal.loop-k-smaller-then-contains
loop-k-smaller-then-contains c =
    let a = c.from.inside in
    omega (arith, count_seen a.bytes.items a.taken a.first a.count c.args.from.now c.from.view_is, c.loop-k-test.true)

pub loop-k-preserved-then-contains : goal.loop-k-preserved-then-contains
loop-k-preserved-then-contains c =
    let a = c.from.inside in
    let from = c.args.from.now in
    let to = c.loop-k.to in
    let k = c.loop-k.k in
    let within : k < length to.blocks = omega (arith, c.loop-k.invariant.long, c.requires, count_seen a.bytes.items a.taken a.first a.count from c.from.view_is, c.loop-k-test.true) in
    let used = flag_seen a.bytes.items a.taken a.first a.count from c.from.view_is k (omega arith) true (sym c.contains.ensures ∙ c.if-contains.true) in
    rw c.copy_block.ensures (record {
      from = omega arith;
      free = c.loop-k.invariant.free;
      first = c.loop-k.invariant.first;
      long = length-set to.blocks k (block_of from k) ∙ c.loop-k.invariant.long;
      each = copied_used from c.args.to.now to c.args.start k c.loop-k.invariant.each c.loop-k.invariant.from within used;
    })

pub loop-k-smaller : goal.loop-k-smaller
loop-k-smaller c =
    let a = c.from.inside in
    omega (arith, count_seen a.bytes.items a.taken a.first a.count c.args.from.now c.from.view_is, c.loop-k-test.true)

pub loop-k-preserved : goal.loop-k-preserved
loop-k-preserved c =
    let a = c.from.inside in
    let from = c.args.from.now in
    let k = c.loop-k.k in
    let free : (i : ℕ) → k ≤ i → i < k + 1 → slice_index_or from.free i true ≡ true = λ i low high.
    let here : i ≡ k = omega arith in
    rw here (flag_absent a.bytes.items a.taken a.first a.count from c.from.view_is k (λ _. sym c.contains.ensures ∙ c.if-contains.false)) in
    record {
      from = omega arith;
      free = c.loop-k.invariant.free;
      first = c.loop-k.invariant.first;
      long = c.loop-k.invariant.long;
      each = copied_free from c.args.to.now c.loop-k.to c.args.start k c.loop-k.invariant.each c.loop-k.invariant.from (k + 1) (omega arith) free;
    }

pub returns-clause-each : goal.returns-clause-each
returns-clause-each c =
    let a = c.from.inside in
    let from = c.args.from.now in
    let old = c.args.to.now in
    let counted = count_seen a.bytes.items a.taken a.first a.count from c.from.view_is in
    let up : length from.blocks ≤ c.loop-k.k = omega (arith, c.loop-k-test.false) in
    λ j.
    c.loop-k.invariant.each j
    ∙ ap (λ (bytes : Bytes). cond (ltb j c.args.start) (block_of old j) bytes)
    (used_or_old-skip from old (length from.blocks) c.loop-k.k j up (λ i low _.
    flag_absent a.bytes.items a.taken a.first a.count from c.from.view_is i (λ below. absurd (omega arith))))
