use Rattle.std.proofs.Common.{◌≡◌, ℕ, ◌+◌, ◌≤◌, true, le_refl, sym, ap, subst, ◌∙◌, arith}
use Rattle.pv_model.specs.declared.version.Version.{Version}
use Rattle.pv_model.specs.Machine.{named_tree, inode_blocks, are_image_sizes, Tree, greatest_name}
use Rattle.pv_tree.specs.Holding.{HeldTree}
use Rattle.pv_tree.specs.Present.{IsPresent}
use Rattle.pv_image_write.specs.Placed.{placed, named_need}
use Rattle.pv_image_write.specs.Written.{WritesTree}
use Rattle.pv_image_write.proofs.PlacedTrees.{named-fits, own-sizes, placed-itself}
use Rattle.pv_image_write.proofs.image.write_tree.Goals as goal

-- sizes that are those of the tree itself
record AreOwn (t : Tree) (v : Version) (all n : ℕ) : Type 0 where
  version : v ≡ t.version
  blocks : all ≡ inode_blocks t.version t.inodes + 1 + t.blocks
  inodes : n ≡ t.inodes

own : (t : Tree) (v : Version) (table b n : ℕ) → v ≡ t.version → b ≡ t.blocks → n ≡ t.inodes → table ≡ inode_blocks v n → AreOwn t v (table + 1 + b) n
own t v table b n version blocks inodes first = record {
  version = version;
  blocks = ap (λ k. k + 1 + b) (first ∙ ap (λ x. inode_blocks x n) version ∙ ap (inode_blocks t.version) inodes) ∙ ap (λ k. inode_blocks t.version t.inodes + 1 + k) blocks;
  inodes = inodes;
}

allowed : (h : HeldTree) → IsPresent h → (v : Version) (all n : ℕ) → AreOwn h.tree v all n → are_image_sizes v all n ≡ true
allowed h s v all n o =
    ap (λ x. are_image_sizes x all n) o.version ∙ ap (λ k. are_image_sizes h.tree.version k n) o.blocks
    ∙ ap (are_image_sizes h.tree.version (inode_blocks h.tree.version h.tree.inodes + 1 + h.tree.blocks)) o.inodes ∙ own-sizes h s

roomy : (h : HeldTree) → IsPresent h → (v : Version) (all n : ℕ) → AreOwn h.tree v all n → inode_blocks v n + 1 + named_need h.tree v ≤ all
roomy h s v all n o =
    let t = h.tree in
    let needs = ap (named_need t) o.version in
    let table = ap (λ x. inode_blocks x n) o.version ∙ ap (inode_blocks t.version) o.inodes in
    omega (arith, needs, table, o.blocks, named-fits t s.fits)

itself : (h : HeldTree) → IsPresent h → (v : Version) (all n : ℕ) → AreOwn h.tree v all n → placed h.tree v all n ≡ named_tree h.tree
itself h s v all n o =
    let t = h.tree in
    ap (λ x. placed t x all n) o.version ∙ ap (λ k. placed t t.version k n) o.blocks
    ∙ ap (placed t t.version (inode_blocks t.version t.inodes + 1 + t.blocks)) o.inodes ∙ placed-itself t s.well_formed.numbers

pub write_as-requires : goal.write_as-requires
write_as-requires g c =
    let h = c.args.tree.now in
    let s = c.sizes-sizes.ensures.present in
    let v = c.sizes-sizes.result.version in
    let n = c.sizes-sizes.result.inodes in
    let o = own h.tree v c.table_blocks.result c.sizes-sizes.result.blocks n c.sizes-sizes.ensures.version c.sizes-sizes.ensures.blocks c.sizes-sizes.ensures.inodes c.table_blocks.ensures in
    let all = c.table_blocks.result + 1 + c.sizes-sizes.result.blocks in
    record {
      sizes = allowed h s v all n o;
      inodes = omega (arith, c.sizes-sizes.ensures.inodes);
      names = subst (λ x. greatest_name h.tree.version ≤ greatest_name x) (sym c.sizes-sizes.ensures.version) (le_refl (greatest_name h.tree.version));
      room = roomy h s v all n o;
    }

pub returns : goal.returns
returns g c =
    let h = c.args.tree.now in
    let s = c.sizes-sizes.ensures.present in
    let v = c.sizes-sizes.result.version in
    let n = c.sizes-sizes.result.inodes in
    let o = own h.tree v c.table_blocks.result c.sizes-sizes.result.blocks n c.sizes-sizes.ensures.version c.sizes-sizes.ensures.blocks c.sizes-sizes.ensures.inodes c.table_blocks.ensures in
    let all = c.table_blocks.result + 1 + c.sizes-sizes.result.blocks in
    subst (λ (u : Tree). WritesTree g.O.Sink u c.args.image.now c.write_as.new.image c.write_as.result) (itself h s v all n o) c.write_as.ensures
