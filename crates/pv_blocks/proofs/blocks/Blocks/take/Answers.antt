use Rattle.std.proofs.Common.{refl, sym, ap, subst, ◌∙◌, inl, inr, arith}
use Rattle.std.proofs.lemmas.Bool.{cases_lt, true≢false}
use Rattle.pv_blocks.specs.BlockStore.{BlockStore, free_count, IsFree, take}
use Rattle.pv_blocks.proofs.BlockStores.{free_flag, some_free, count-all_taken}
use Rattle.pv_blocks.proofs.blocks.Blocks.take.Goals as goal

-- each block below `least` is in use, so if the search finds none, none is free
pub returns-in_err-k-clause-full : goal.returns-in_err-k-clause-full
returns-in_err-k-clause-full c =
    let found = c.in_err-k.ensures in
    let none = count-all_taken c.self.inside.taken c.self.inside.count (λ k from below. elim (cases_lt k c.self.inside.least) [
      | inl under ↦ c.self.invariant.none_below k under
      | inr over ↦ found.none k over below
    ]) in
    (λ _. sym (ap free_count c.self.view_is) ∙ none, λ _. rw c.from_residual.ensures refl)

pub invariant_of-self : goal.invariant_of-self
invariant_of-self c =
    let found = c.in_ok-k.ensures in
    record {
      whole = c.self.invariant.whole;
      first_within = c.self.invariant.first_within;
      written_within = c.self.invariant.written_within;
      unwritten = c.self.invariant.unwritten;
      reserved = c.self.invariant.reserved;
      counted = c.self.invariant.counted;
      none_below = λ j below. elim (cases_lt j c.self.inside.least) [
        | inl under ↦ c.self.invariant.none_below j under
        | inr over ↦ found.least j over below
      ];
    }

pub reserve-requires : goal.reserve-requires
reserve-requires c = free_flag c.self.inside.taken c.self.inside.count c.in_ok-k.k c.in_ok-k.ensures.end c.in_ok-k.ensures.absent

pub returns-clause-full : goal.returns-clause-full
returns-clause-full c =
    let some = some_free c.self.inside.taken c.self.inside.count c.in_ok-k.k c.in_ok-k.ensures.end c.in_ok-k.ensures.absent in
    (λ impossible. absurd (true≢false impossible), λ none. absurd (omega (arith, some, ap free_count c.self.view_is)))

pub returns-clause-free : goal.returns-clause-free
returns-clause-free c =
    subst (λ (s : BlockStore). IsFree s c.in_ok-k.k) c.self.view_is (free_flag c.self.inside.taken c.self.inside.count c.in_ok-k.k c.in_ok-k.ensures.end c.in_ok-k.ensures.absent)

pub returns-clause-after : goal.returns-clause-after
returns-clause-after c = c.reserve.ensures ∙ ap (λ (s : BlockStore). take s c.in_ok-k.k) c.self.view_is
