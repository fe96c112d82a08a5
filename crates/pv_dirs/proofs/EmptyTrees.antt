-- The tree of an image without nodes.
use Rattle.std.proofs.Common.{◌≡◌, ℕ, suc, ◌+◌, ◌-◌, ◌≤◌, ◌∷◌, length, map, replicate, Option, None, ap, sym, subst, ◌∙◌, arith}
use Rattle.std.specs.Prelude.{option_map}
use Rattle.std.specs.List.{sum_by}
use Rattle.std.proofs.lemmas.List.{length-replicate}
use Rattle.pv_model.specs.Machine.{inode_blocks, greatest_blocks, Numbered, at_number, present}
use Rattle.pv_inodes.specs.Files.{Contained, Files, room_of, total_room}
use Rattle.pv_dirs.specs.Trees.{node_of_contained, tree_of_files, IsHolding}
use Rattle.pv_dirs.proofs.MappedNumbers.{present-none, map-none}
use Rattle.pv_inodes.proofs.NumberMaps.{at_number-none}
use Rattle.pv_dirs.proofs.FileTrees.{nodes-tree_of_files, inodes-tree_of_files}

module _ (f : Files) (k : ℕ) (none : f.nodes ≡ None ∷ replicate k None) where
  pub holding-empty : (b all : ℕ) → b + total_room f ≡ f.blocks → f.blocks + inode_blocks f.version k + 1 ≡ all → all ≤ greatest_blocks f.version → IsHolding f b
  holding-empty b all left whole few =
      let no_room : total_room f ≡ 0 = ap (λ (xs : Numbered Contained). sum_by (room_of f.version) (present xs)) none ∙ ap (sum_by (room_of f.version)) (present-none (suc k)) in
      record {
        sized = omega arith;
        allowed =
            let long : length f.nodes - 1 ≡ k = omega (arith, ap length none, length-replicate {A = Option Contained} k None) in
            subst (λ j. inode_blocks f.version j + 1 + b ≤ greatest_blocks f.version) (sym long) (omega arith);
        slotted = λ n c there. let nothing = ap (λ (xs : Numbered Contained). at_number xs n) none ∙ at_number-none (suc k) n in absurd (cc);
      }

  pub nodes-empty : (tree_of_files f).nodes ≡ None ∷ replicate k None
  nodes-empty = nodes-tree_of_files f ∙ ap (map (option_map (node_of_contained f.version))) none ∙ map-none (node_of_contained f.version) (suc k)

  pub inodes-empty : (tree_of_files f).inodes ≡ k
  inodes-empty = inodes-tree_of_files f k (ap length none ∙ ap suc (length-replicate k None))
