-- The image of bytes that pass the check.
use Rattle.std.proofs.Common.{◌≡◌, ◌∙◌, sym, subst, arith, ℕ, ◌+◌, ◌≤◌, length, Ok}
use Rattle.pv_model.specs.declared.version.Version.{Version}
use Rattle.pv_model.specs.Machine.{Bytes, IsImageOf, field, mounted, Tree}
use Rattle.pv_tree.specs.OfDirs.Images.{IsImage}
use Rattle.pv_laws_trees.proofs.TreeImages.{mounted-image}

-- the bytes are an image of a tree of this version
abbrev pub Holds : Bytes → Version → Type 0
Holds bytes version = (t : Tree) × (mounted bytes ≡ Ok t) × (t.version ≡ version)

-- they have a first block
pub long_enough : (bytes : Bytes) (version : Version) → Holds bytes version → 10 + 2 ≤ length bytes
long_enough bytes version held =
    let is = mounted-image bytes held.0 held.1 in
    omega (arith, is.all_blocks, is.blocks_allowed.0)

-- they are an image with the number of inodes in the first block
pub is_image : (bytes : Bytes) (version : Version) (inodes : ℕ) → Holds bytes version → inodes ≡ field bytes 10 2 → IsImage version inodes bytes
is_image bytes version inodes held read =
    let is = mounted-image bytes held.0 held.1 in
    record { tree = held.0; is_image = is; of_version = held.2; has_inodes = sym is.all_inodes ∙ sym read }

-- the only tree of the image is the one that is mounted
pub is_mounted : (bytes : Bytes) (version : Version) (store : Tree) → Holds bytes version → ((t : Tree) → IsImageOf bytes t → store ≡ t) → mounted bytes ≡ Ok store
is_mounted bytes version store held only = subst (λ (t : Tree). mounted bytes ≡ Ok t) (sym (only held.0 (mounted-image bytes held.0 held.1))) held.1
