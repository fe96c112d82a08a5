use Rattle.std.proofs.Common.{◌≡◌, ℕ, [], ◌∙◌, ◌≤◌, ◌<◌, ap, arith, length, max, replicate, sym, false, true}
use Rattle.std.specs.Prelude.{List, count_by, slice_index_or}
use Rattle.pv_model.specs.Machine.{Bytes, block}
use Rattle.pv_blocks.specs.BlockStore.{BlockStore, block_of, blocks_in_bytes, free_outside, used_or_old}
use Rattle.pv_blocks.specs.declared.blocks.Blocks.TheInside.{Inside}
use Rattle.pv_blocks.proofs.BlockCopies.{copied_all, copied_first}
use Rattle.pv_blocks.proofs.BlockStores.{bytes_seen, count_seen, flag_seen, free_outside-same, get_or-blocks_in_bytes, length-blocks_in_bytes}
use Rattle.pv_blocks.proofs.blocks.Blocks.copy_used_from.Goals as goal
use Rattle.pv_blocks.proofs.blocks.Blocks.copy_used_from.Goals.{After-copy_from, After-copy_used, then-self-other, else-self-other}

-- the blocks from `end` to the first that can be free are zero in both stores
abbrev IsEnd : Inside → Inside → ℕ → Type 0
IsEnd a b end = (end ≤ b.first) × ((k : ℕ) → end ≤ k → k < b.first → (block a.bytes.items k ≡ replicate 512 0) × (block b.bytes.items k ≡ replicate 512 0))

is_end : (c : After-copy_from) → IsEnd c.self.inside c.other.inside c.if-self-other.end
is_end c = elim c.if-self-other.branch [
  | then-self-other w ↦
      let greater = w.max-end.ensures in
      let same : c.self.inside.first ≡ c.other.inside.first = omega arith in
      rw w.end-is (omega arith, λ k low high. (c.self.invariant.unwritten k (omega arith) (omega arith), c.other.invariant.unwritten k (omega arith) high))
  | else-self-other w ↦ rw w.end-is (omega arith, λ k low high. absurd (omega arith))
]

pub copy_below-requires-clause-end : goal.copy_below-requires-clause-end
copy_below-requires-clause-end c =
    let b = c.other.inside in
    let counted = count_seen b.bytes.items b.taken b.first b.count c.args.other.now c.other.view_is in
    let end = (is_end (goal.at.copy_below-requires-clause-end c).After-copy_from).0 in
    omega (arith, c.other.invariant.first_within)

pub invariant_of-self : goal.invariant_of-self
invariant_of-self c =
    let a = c.self.inside in
    let b = c.other.inside in
    let mine = count_seen a.bytes.items a.taken a.first a.count c.args.self.now c.self.view_is in
    let other = count_seen b.bytes.items b.taken b.first b.count c.args.other.now c.other.view_is in
    let same = c.copy_from.ensures in
    record {
      whole = omega (arith, mine, other, c.requires, c.self.invariant.whole);
      first_within = c.other.invariant.first_within;
      reserved = λ k below. same k (omega (arith, c.other.invariant.first_within)) ∙ c.other.invariant.reserved k below;
      counted = c.other.invariant.counted ∙ ap (count_by (λ is_free. is_free)) (sym (free_outside-same b.taken c.copy_from.new.self b.count same));
      none_below = λ k below. same k (omega (arith, c.min-self-inside.ensures)) ∙ c.other.invariant.none_below k (omega (arith, c.min-self-inside.ensures));
      written_within = omega arith;
      unwritten = λ k low high. absurd (omega arith);
    }

-- the store after its set and its numbers were set to those of the other
abbrev front : (c : After-copy_used) → BlockStore
front c = record { blocks = blocks_in_bytes c.other.inside.count c.self.inside.bytes.items; free = free_outside c.copy_from.new.self c.other.inside.count; first = c.other.inside.first }

abbrev AreCopied : (from old new : BlockStore) → ℕ → Type 0
AreCopied from old new start = ((j : ℕ) → j < start → block_of new j ≡ block_of from j) × ((j : ℕ) → block_of new j ≡ used_or_old from old (length from.blocks) j)

are_copied : (c : After-copy_used) → IsEnd c.self.inside c.other.inside c.if-self-other.end → AreCopied c.args.other.now (front c) c.copy_used.new.to c.other.inside.first
are_copied c end =
    let a = c.self.inside in
    let b = c.other.inside in
    let from = c.args.other.now in
    let counted = count_seen b.bytes.items b.taken b.first b.count from c.other.view_is in
    let few : b.first ≤ length from.blocks = omega (arith, c.other.invariant.first_within) in
    let same : (j : ℕ) → c.if-self-other.end ≤ j → j < b.first → block_of (front c) j ≡ block_of from j = λ j low high.
    let zero = end.1 j low high in
    let below : j < b.count = omega (arith, c.other.invariant.first_within) in
    get_or-blocks_in_bytes b.count a.bytes.items j [] below ∙ zero.0 ∙ sym zero.1 ∙ sym (bytes_seen b.bytes.items b.taken b.first b.count from c.other.view_is j below) in
    let used : (j : ℕ) → j < b.first → slice_index_or from.free j true ≡ false = λ j before.
    flag_seen b.bytes.items b.taken b.first b.count from c.other.view_is j (omega (arith, c.other.invariant.first_within)) true (c.other.invariant.reserved j before) in (
      copied_first from (front c) c.copy_below.new.to c.copy_used.new.to b.first c.if-self-other.end end.0 few c.copy_below.ensures.each c.copy_used.ensures.each same,
      copied_all from (front c) c.copy_below.new.to c.copy_used.new.to b.first c.if-self-other.end end.0 few c.copy_below.ensures.each c.copy_used.ensures.each same used,
    )

pub invariant_of-self-2 : goal.invariant_of-self-2
invariant_of-self-2 c =
    let n = c.self-2.inside in
    let b = c.other.inside in
    let first : n.first ≡ b.first = ap (λ (s : BlockStore). s.first) c.self-2.view_is ∙ c.copy_used.ensures.first ∙ c.copy_below.ensures.first in
    let copied = are_copied (goal.at.invariant_of-self-2 c).After-copy_used (is_end (goal.at.invariant_of-self-2 c).After-copy_from) in
    record {
      whole = c.self-2.invariant.whole;
      first_within = c.self-2.invariant.first_within;
      reserved = c.self-2.invariant.reserved;
      counted = c.self-2.invariant.counted;
      none_below = c.self-2.invariant.none_below;
      written_within = omega (arith, c.other.invariant.written_within);
      unwritten = λ k low high.
          let before : k < b.first = omega arith in
          sym (bytes_seen n.bytes.items n.taken n.first n.count c.copy_used.new.to c.self-2.view_is k (omega (arith, c.self-2.invariant.first_within)))
          ∙ copied.0 k before
          ∙ bytes_seen b.bytes.items b.taken b.first b.count c.args.other.now c.other.view_is k (omega (arith, c.other.invariant.first_within))
          ∙ c.other.invariant.unwritten k low before;
    }

pub returns : goal.returns
returns c =
    let step = (goal.at.returns c).After-copy_used in
    let a = c.self.inside in
    let b = c.other.inside in
    let mine = count_seen a.bytes.items a.taken a.first a.count c.args.self.now c.self.view_is in
    let other = count_seen b.bytes.items b.taken b.first b.count c.args.other.now c.other.view_is in
    let counts : b.count ≡ a.count = omega (arith, mine, other, c.requires) in
    let blocks : blocks_in_bytes b.count a.bytes.items ≡ c.args.self.now.blocks = ap (λ n. blocks_in_bytes n a.bytes.items) counts ∙ ap (λ (s : BlockStore). s.blocks) c.self.view_is in
    let copied = are_copied step (is_end (goal.at.returns c).After-copy_from) in
    record {
      free = ap (λ (s : BlockStore). s.free) c.self-2.view_is ∙ c.copy_used.ensures.free ∙ c.copy_below.ensures.free ∙ free_outside-same b.taken c.copy_from.new.self b.count c.copy_from.ensures ∙ ap (λ (s : BlockStore). s.free) c.other.view_is;
      first = ap (λ (s : BlockStore). s.first) c.self-2.view_is ∙ c.copy_used.ensures.first ∙ c.copy_below.ensures.first ∙ ap (λ (s : BlockStore). s.first) c.other.view_is;
      long = ap (λ (s : BlockStore). length s.blocks) c.self-2.view_is ∙ c.copy_used.ensures.long ∙ c.copy_below.ensures.long ∙ length-blocks_in_bytes b.count a.bytes.items ∙ other;
      each = λ k.
          ap (λ (s : BlockStore). block_of s k) c.self-2.view_is
          ∙ copied.1 k
          ∙ ap (λ (bs : List Bytes). used_or_old c.args.other.now (record (front step) { blocks = bs }) (length c.args.other.now.blocks) k) blocks;
    }
