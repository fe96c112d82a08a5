use Rattle.std.proofs.Common.{◌≡◌, ◌≢◌, List, Bool, sym, ap, subst, ◌∙◌, arith}
use Rattle.std.proofs.lemmas.List.Sums.{count_by-le-length}
use Rattle.pv_blocks.specs.BlockStore.{BlockStore, blocks_in_bytes, free_outside, IsTaken, give_back}
use Rattle.pv_blocks.proofs.BlockStores.{length-free_outside, GivesBack, gives_back}
use Rattle.pv_blocks.proofs.blocks.Blocks.give_back.Goals as goal
use Rattle.pv_blocks.proofs.blocks.Blocks.give_back.Goals.{After-remove}

-- the block was in use, and only its flag changes
given : (c : After-remove) → GivesBack c.self.inside.taken c.remove.new.self c.self.inside.count c.args.k
given c = gives_back _ _ _ _ (subst (λ (s : BlockStore). IsTaken s c.args.k) (sym c.self.view_is) c.requires.taken) c.remove.ensures.after

pub overflow_add-self : goal.overflow_add-self
overflow_add-self c =
    let after = given c in
    let most = count_by-le-length (λ f. f) (free_outside c.remove.new.self c.self.inside.count) in
    let long = length-free_outside c.remove.new.self c.self.inside.count in
    omega arith

pub invariant_of-self : goal.invariant_of-self
invariant_of-self c =
    let after = given (goal.at.invariant_of-self c).After-remove in
    let first : c.self.inside.first ≡ c.args.self.now.first = ap (λ (s : BlockStore). s.first) c.self.view_is in
    record {
      whole = c.self.invariant.whole;
      first_within = c.self.invariant.first_within;
      written_within = c.self.invariant.written_within;
      unwritten = c.self.invariant.unwritten;
      reserved = λ j below. let differs : j ≢ c.args.k = omega arith in after.others j differs ∙ c.self.invariant.reserved j below;
      counted = omega arith;
      none_below = λ j below. let differs : j ≢ c.args.k = omega arith in after.others j differs ∙ c.self.invariant.none_below j (omega arith);
    }

pub returns : goal.returns
returns c =
    let after = given (goal.at.returns c).After-remove in
    ap (λ (flags : List Bool). record { blocks = blocks_in_bytes c.self.inside.count c.self.inside.bytes.items; free = flags; first = c.self.inside.first }) after.flags
    ∙ ap (λ (s : BlockStore). give_back s c.args.k) c.self.view_is
