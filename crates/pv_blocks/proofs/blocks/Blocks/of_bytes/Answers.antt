use Rattle.std.proofs.Common.{◌≡◌, ◌/◌, count_by, sym, ap, ◌∙◌, arith}
use Rattle.std.proofs.lemmas.List.Sums.{count_by-le-length}
use Rattle.pv_blocks.specs.BlockStore.{free_from}
use Rattle.pv_blocks.proofs.BlockStores.{takes_none, takes_more_used, takes_more_free, free_outside_all, first_taken, length-free_from}
use Rattle.pv_blocks.proofs.blocks.Blocks.of_bytes.Goals as goal
use Rattle.pv_blocks.proofs.blocks.Blocks.of_bytes.Goals.{then-contains, else-contains}

pub loop-k-2-init : goal.loop-k-2-init
loop-k-2-init c =
    let at_first : c.loop-k.k ≡ c.args.first = omega arith in
    takes_none _ _ _ (rw at_first at c.loop-k.invariant)

pub overflow_add-free : goal.overflow_add-free
overflow_add-free c =
    let most = count_by-le-length (λ f. f) (free_from c.args.first c.args.used.now c.loop-k-2.k) in
    let long = length-free_from c.args.first c.args.used.now c.loop-k-2.k in
    omega (arith, c.loop-k-2.invariant.counted)

pub loop-k-2-preserved : goal.loop-k-2-preserved
loop-k-2-preserved c = elim c.if-contains.branch [
  | then-contains w ↦
      let in_use = sym c.contains.ensures ∙ w.if-contains.true in
      rw (w.taken-is, w.free-is) (takes_more_used _ _ _ _ _ c.loop-k-2.invariant (omega arith) _ in_use w.insert-then-contains.ensures.after)
  | else-contains w ↦
      let absent = sym c.contains.ensures ∙ w.if-contains.false in
      rw (w.taken-is, w.free-is) (takes_more_free _ _ _ _ _ c.loop-k-2.invariant (omega arith) absent)
]

pub invariant_of-result : goal.invariant_of-result
invariant_of-result c =
    let at_end : c.loop-k-2.k ≡ c.len.result / 512 = omega arith in
    let all = rw at_end at c.loop-k-2.invariant in
    record {
      whole = omega arith;
      first_within = omega arith;
      reserved = first_taken _ _ _ _ _ all (omega arith);
      counted = all.counted ∙ ap (count_by (λ f. f)) (sym (free_outside_all _ _ _ _ _ all (omega arith)));
      none_below = first_taken _ _ _ _ _ all (omega arith);
      written_within = c.written_below-written.ensures.within;
      unwritten = λ k low high. rw c.deref.ensures.value at (c.written_below-written.ensures.zero k low high);
    }

pub returns-clause-free : goal.returns-clause-free
returns-clause-free c =
    let at_end : c.loop-k-2.k ≡ c.len.result / 512 = omega arith in
    let all = rw at_end at c.loop-k-2.invariant in
    free_outside_all _ _ _ _ _ all (omega arith) ∙ ap (λ n. free_from c.args.first c.args.used.now (n / 512)) c.len.ensures
