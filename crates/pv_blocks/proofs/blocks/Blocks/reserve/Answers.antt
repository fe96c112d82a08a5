use Rattle.std.proofs.Common.{◌≡◌, ℕ, List, Bool, true, sym, ap, subst, ◌∙◌, inl, inr, arith}
use Rattle.std.proofs.lemmas.Bool.{cases_eq}
use Rattle.pv_blocks.specs.BlockSet.{is_member}
use Rattle.pv_blocks.specs.BlockStore.{BlockStore, blocks_in_bytes, IsFree, take}
use Rattle.pv_blocks.proofs.BlockStores.{Takes, takes_free}
use Rattle.pv_blocks.proofs.blocks.Blocks.reserve.Goals as goal
use Rattle.pv_blocks.proofs.blocks.Blocks.reserve.Goals.{After-insert}

-- the block was free, and only its flag changes
taken : (c : After-insert) → Takes c.self.inside.taken c.insert.new.self c.self.inside.count c.args.k
taken c = takes_free _ _ _ _ (subst (λ (s : BlockStore). IsFree s c.args.k) (sym c.self.view_is) c.requires) c.insert.ensures.after

pub overflow_sub-self : goal.overflow_sub-self
overflow_sub-self c = omega (arith, (taken c).counted, c.self.invariant.counted)

pub invariant_of-self : goal.invariant_of-self
invariant_of-self c =
    let after = taken (goal.at.invariant_of-self c).After-insert in
    let keeps : (j : ℕ) → is_member c.self.inside.taken j ≡ true → is_member c.insert.new.self j ≡ true = λ j was. elim (cases_eq j c.args.k) [ inl here ↦ rw here after.here | inr there ↦ after.others j there ∙ was ] in
    record {
      whole = c.self.invariant.whole;
      first_within = c.self.invariant.first_within;
      written_within = c.self.invariant.written_within;
      unwritten = c.self.invariant.unwritten;
      reserved = λ j below. keeps j (c.self.invariant.reserved j below);
      counted = omega (arith, after.counted, c.self.invariant.counted);
      none_below = λ j below. keeps j (c.self.invariant.none_below j below);
    }

pub returns : goal.returns
returns c =
    let after = taken (goal.at.returns c).After-insert in
    ap (λ (flags : List Bool). record { blocks = blocks_in_bytes c.self.inside.count c.self.inside.bytes.items; free = flags; first = c.self.inside.first }) after.flags
    ∙ ap (λ (s : BlockStore). take s c.args.k) c.self.view_is
