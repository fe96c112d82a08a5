-- The tree in its new image.
use Rattle.std.proofs.Common.{◌≡◌, ℕ, suc, ◌+◌, ◌-◌, ◌≤◌, true, ◌&&◌, length, replicate, Option, None, nat_le, refl, ap, sym, ◌∙◌, arith}
use Rattle.std.proofs.lemmas.Bool.{and_parts, leb-true}
use Rattle.std.proofs.lemmas.List.{length-append, length-replicate}
use Rattle.pv_model.specs.declared.limits.TheConstants.{INODES, BLOCKS_V2}
use Rattle.pv_model.specs.declared.version.Version.TheVariants.{V2}
use Rattle.pv_model.specs.Machine.{inode_blocks, are_image_sizes, Node, Tree, node_at}
use Rattle.pv_laws_trees.proofs.NumberedMaps.{same_numbered}
use Rattle.pv_laws_trees.specs.Preserved.{EachIsNamed}
use Rattle.pv_laws_steps.proofs.PaddedMaps.{at-padded}
use Rattle.pv_image_write.specs.Placed.{placed, named_need}
use Rattle.pv_image.specs.Migrated.{data_blocks_v2, needed, has_room, enlarged, KeepsNodes}
use Rattle.pv_image.proofs.NamedTrees.{named_tree-all}

-- ---- room

pub record IsRoomy (t : Tree) (blocks inodes : ℕ) : Type 0 where
  pub sizes : are_image_sizes V2 blocks inodes ≡ true
  pub few_inodes : inodes ≤ INODES
  pub table : inode_blocks V2 inodes + 1 ≤ blocks
  pub few_blocks : blocks ≤ BLOCKS_V2
  pub as_many : t.inodes ≤ inodes
  pub enough : needed t ≤ data_blocks_v2 blocks inodes

pub roomy : (t : Tree) (blocks inodes : ℕ) → has_room t blocks inodes ≡ true → IsRoomy t blocks inodes
unfolding has_room
roomy t blocks inodes is =
    let all = and_parts (are_image_sizes V2 blocks inodes && nat_le t.inodes inodes) (nat_le (needed t) (data_blocks_v2 blocks inodes)) is in
    let front = and_parts (are_image_sizes V2 blocks inodes) (nat_le t.inodes inodes) all.0 in
    let first = and_parts (nat_le 1 inodes && nat_le inodes INODES && nat_le (inode_blocks V2 inodes + 1) blocks) (nat_le blocks BLOCKS_V2) front.0 in
    let second = and_parts (nat_le 1 inodes && nat_le inodes INODES) (nat_le (inode_blocks V2 inodes + 1) blocks) first.0 in
    let third = and_parts (nat_le 1 inodes) (nat_le inodes INODES) second.0 in
    record {
      sizes = front.0;
      few_inodes = leb-true inodes INODES third.1;
      table = leb-true (inode_blocks V2 inodes + 1) blocks second.1;
      few_blocks = leb-true blocks BLOCKS_V2 first.1;
      as_many = leb-true t.inodes inodes front.1;
      enough = leb-true (needed t) (data_blocks_v2 blocks inodes) all.1;
    }

-- ---- the same nodes

module _ (t : Tree) (blocks inodes : ℕ) where
  node-enlarged : (n : ℕ) → node_at (enlarged t blocks inodes) n ≡ node_at t n
  unfolding enlarged
  node-enlarged n = at-padded (suc inodes - length t.nodes) t.nodes n

  module _ (numbers : length t.nodes ≡ suc t.inodes) (more : t.inodes ≤ inodes) where
    length-enlarged : length (enlarged t blocks inodes).nodes ≡ suc inodes
    unfolding enlarged
    length-enlarged =
        let k = suc inodes - length t.nodes in
        length-append t.nodes (replicate k None) ∙ ap (λ n. length t.nodes + n) (length-replicate {A = Option Node} k None) ∙ omega (arith, numbers, more)

    pub enlarged-keeps : inode_blocks V2 inodes + 1 ≤ blocks → KeepsNodes t blocks inodes (enlarged t blocks inodes)
    unfolding enlarged
    enlarged-keeps table = record {
      same_nodes = node-enlarged;
      numbers = length-enlarged;
      all_blocks = omega (arith, table);
      all_inodes = refl;
      is_second = refl;
    }

    -- and no other tree has these nodes
    pub keeps-enlarged : (u : Tree) → KeepsNodes t blocks inodes u → u ≡ enlarged t blocks inodes
    unfolding enlarged
    keeps-enlarged u is =
        let nodes = same_numbered u.nodes (enlarged t blocks inodes).nodes (is.numbers ∙ sym length-enlarged) (λ n. is.same_nodes n ∙ sym (node-enlarged n)) in
        let all = is.all_blocks in
        let left : u.blocks ≡ data_blocks_v2 blocks inodes = omega (arith, all) in
        λ i. record { nodes = nodes i; blocks = left i; inodes = is.all_inodes i; version = is.is_second i }

-- ---- output, if each node has a name

pub placed-enlarged : (t : Tree) → EachIsNamed t → (blocks inodes : ℕ) → placed t V2 blocks inodes ≡ enlarged t blocks inodes
unfolding placed enlarged
placed-enlarged t named blocks inodes = ap (λ (u : Tree). enlarged u blocks inodes) (named_tree-all t named)

pub named_need-needed : (t : Tree) → EachIsNamed t → named_need t V2 ≡ needed t
unfolding named_need needed
named_need-needed t named = ap needed (named_tree-all t named)

-- the last test
pub room-is : (t : Tree) → EachIsNamed t → (blocks inodes blocks_needed table : ℕ) → are_image_sizes V2 blocks inodes ≡ true → nat_le t.inodes inodes ≡ true
    → blocks_needed ≡ named_need t V2 → table ≡ inode_blocks V2 inodes → nat_le blocks_needed (blocks - table - 1) ≡ has_room t blocks inodes
unfolding has_room
room-is t named blocks inodes blocks_needed table sizes more needs first =
    let following : blocks - table - 1 ≡ data_blocks_v2 blocks inodes = omega (arith, first) in
    ap (λ n. nat_le n (blocks - table - 1)) (needs ∙ named_need-needed t named) ∙ ap (nat_le (needed t)) following
    ∙ sym (ap (λ b. b && nat_le t.inodes inodes && nat_le (needed t) (data_blocks_v2 blocks inodes)) sizes ∙ ap (λ b. b && nat_le (needed t) (data_blocks_v2 blocks inodes)) more)
