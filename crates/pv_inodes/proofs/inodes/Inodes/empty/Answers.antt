use Rattle.std.proofs.Common.{◌≡◌, suc, ◌+◌, ◌/◌, ap, ◌∙◌, arith}
use Rattle.pv_blocks.specs.BlockStore.{blocks_in_bytes, free_from}
use Rattle.pv_inodes.specs.Files.{Files, held}
use Rattle.pv_inodes.specs.Sound.{first_data}
use Rattle.pv_inodes.proofs.EmptyStore.{IsEmptyStore, sound_empty, files_of-empty}
use Rattle.pv_inodes.proofs.NumberMaps.{at_number-none}
use Rattle.pv_inodes.proofs.InodeLayouts.{first_data-is}
use Rattle.pv_inodes.proofs.inodes.Inodes.empty.Goals as goal
use Rattle.pv_inodes.proofs.inodes.Inodes.empty.Goals.{After-of_bytes}

-- the store consists of zeros
over_zeros : (c : After-of_bytes) → IsEmptyStore c.args.version c.of_bytes.result c.args.zeros.items c.new.result c.args.inodes c.args.blocks
over_zeros c =
    let count : c.args.zeros.len / 512 ≡ c.args.blocks = omega (arith, c.requires.whole) in
    let first : c.div_ceil.result + 1 ≡ first_data c.args.version c.args.inodes = omega (arith, rw c.layout.ensures.inode_length at c.div_ceil.ensures, first_data-is c.args.version c.args.inodes) in
    record {
      long = omega (arith, c.requires.whole);
      zeros = c.requires.zeros;
      none = c.new.ensures.empty;
      fits = omega (arith, c.requires.sizes.some_blocks, first_data-is c.args.version c.args.inodes);
      blocks = c.of_bytes.ensures.blocks ∙ ap (λ n. blocks_in_bytes n c.args.zeros.items) count;
      free = c.of_bytes.ensures.free ∙ ap (λ n. free_from (c.div_ceil.result + 1) c.new.result n) count ∙ ap (λ n. free_from n c.new.result c.args.blocks) first;
      first = c.of_bytes.ensures.first ∙ first;
    }

pub invariant_of-result : goal.invariant_of-result
invariant_of-result c = (sound_empty c.args.version _ _ _ _ _ (over_zeros c), λ s below. absurd (omega (arith, below)), λ s past. ap (λ (f : Files). held f (suc s)) (files_of-empty c.args.version _ _ _ _ _ (over_zeros c)) ∙ at_number-none c.args.inodes s)

pub returns-clause-version : goal.returns-clause-version
returns-clause-version c = ap (λ (f : Files). f.version) (files_of-empty c.args.version _ _ _ _ _ (over_zeros c))

pub returns-clause-nodes : goal.returns-clause-nodes
returns-clause-nodes c = ap (λ (f : Files). f.nodes) (files_of-empty c.args.version _ _ _ _ _ (over_zeros c))

pub returns-clause-blocks : goal.returns-clause-blocks
returns-clause-blocks c = omega (arith, ap (λ (f : Files). f.blocks) (files_of-empty c.args.version _ _ _ _ _ (over_zeros c)), c.requires.sizes.some_blocks, first_data-is c.args.version c.args.inodes)
