use Rattle.std.proofs.Common.{◌≡◌, ℕ, ◌*◌, ◌≤◌, true, Some, length, le_refl, sym, ap, subst, ◌∙◌, arith}
use Rattle.std.specs.Prelude.{option_map}
use Rattle.pv_model.specs.declared.version.Version.{Version}
use Rattle.pv_model.specs.Machine.{size_of, entry_length, greatest_length, node_at, is_directory_at, greatest_name}
use Rattle.pv_tree.specs.Holding.{HeldTree}
use Rattle.pv_tree.specs.Present.{IsPresent}
use Rattle.pv_image_write.specs.Encoding.{content_of}
use Rattle.pv_image_write.proofs.PlacedTrees.{content-allowed, directory-length, other-length}
use Rattle.pv_image_write.proofs.content.content_length.Goals as goal
use Rattle.pv_laws_trees.proofs.NodeRoom.{greatest-low}

of_directory : (h : HeldTree) → IsPresent h → (v : Version) → greatest_name h.tree.version ≤ greatest_name v → (n size slot : ℕ) → slot ≡ entry_length v
    → is_directory_at h.tree n ≡ true → option_map size_of (node_at h.tree n) ≡ Some size → slot * size ≡ length (content_of v (node_at h.tree n))
of_directory h s v names n size slot entry is written = ap (λ k. k * size) entry ∙ sym (directory-length h s v 0 h.tree.inodes (le_refl h.tree.inodes) names n size is written)

short : (h : HeldTree) → IsPresent h → (v : Version) → greatest_name h.tree.version ≤ greatest_name v → (n : ℕ) → length (content_of v (node_at h.tree n)) ≤ greatest_length v
short h s v names n = content-allowed h s v 0 h.tree.inodes (le_refl h.tree.inodes) names n

pub overflow_mul-result : goal.overflow_mul-result
overflow_mul-result c =
    let h = c.args.tree.now in
    let s = c.invariant.ensures in
    let long = of_directory h s c.args.version c.requires.names c.args.node c.size-size.result c.layout.result.slot_length c.layout.ensures.slot_length (sym c.is_directory.ensures ∙ c.if-is_directory.true) c.size-size.ensures.value in
    let few = short h s c.args.version c.requires.names c.args.node in
    omega (arith, long, few, greatest-low c.args.version)

pub returns-then-is_directory : goal.returns-then-is_directory
returns-then-is_directory c =
    let h = c.args.tree.now in
    let s = c.invariant.ensures in
    let long = of_directory h s c.args.version c.requires.names c.args.node c.size-size.result c.layout.result.slot_length c.layout.ensures.slot_length (sym c.is_directory.ensures ∙ c.if-is_directory.true) c.size-size.ensures.value in
    record { value = long; allowed = subst (λ k. k ≤ greatest_length c.args.version) (sym long) (short h s c.args.version c.requires.names c.args.node) }

pub returns-else-is_directory : goal.returns-else-is_directory
returns-else-is_directory c =
    let h = c.args.tree.now in
    let s = c.invariant.ensures in
    let long : c.size-size.result ≡ length (content_of c.args.version (node_at h.tree c.args.node)) =
    sym (other-length h s c.args.version 0 h.tree.inodes (le_refl h.tree.inodes) c.requires.names c.args.node c.size-size.result (sym c.is_directory.ensures ∙ c.if-is_directory.false) c.size-size.ensures.value) in
    record { value = long; allowed = subst (λ k. k ≤ greatest_length c.args.version) (sym long) (short h s c.args.version c.requires.names c.args.node) }
