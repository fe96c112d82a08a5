use Rattle.std.proofs.Common.{◌≡◌, ◌<◌, ℕ, length, get_or, sym, subst, ◌∙◌, List}
use Rattle.pv_model.specs.Machine.{used_index, block_number}
use Rattle.pv_image_mount.proofs.InodeBlocks.{size_fits}
use Rattle.pv_image_mount.proofs.InodeContents.{index_within}
use Rattle.pv_image_mount.proofs.image.Image.content_blocks.Goals as goal

pub used_index-requires-clause-size : goal.used_index-requires-clause-size
used_index-requires-clause-size c = size_fits c.args.self.now.version c.args.self.now.bytes.now c.args.n c.requires.inode c.requires.used

pub used_content-requires-clause-within : goal.used_content-requires-clause-within
used_content-requires-clause-within c =
    let v = c.args.self.now.version in
    let bytes = c.args.self.now.bytes.now in
    let listed : used_index v bytes c.args.n ≡ c.as_slice.result.now = sym (c.as_slice.ensures.value ∙ c.in_ok-index.ensures) in
    subst (λ (xs : List ℕ). (i : ℕ) → i < length xs → get_or xs i 0 < block_number bytes) listed (index_within v bytes c.args.n c.requires.inode c.requires.block c.requires.used)
