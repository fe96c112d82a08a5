use Rattle.std.proofs.Common.{◌≡◌, ◌<◌, ℕ, length, take, get_or, ap, sym, subst, ◌∙◌, List}
use Rattle.std.specs.Prelude.{flat_map}
use Rattle.pv_model.specs.Machine.{block, size, used_content, block_number}
use Rattle.pv_image_mount.proofs.InodeContents.{content_within}
use Rattle.pv_image_mount.proofs.image.Image.content.Goals as goal

pub gather-requires : goal.gather-requires
gather-requires c =
    let v = c.args.self.now.version in
    let bytes = c.args.self.now.bytes.now in
    let listed : used_content v bytes c.args.n ≡ c.as_slice.result.now = sym (c.as_slice.ensures.value ∙ c.in_ok-blocks.ensures) in
    subst (λ (xs : List ℕ). (i : ℕ) → i < length xs → get_or xs i 0 < block_number bytes) listed (content_within v bytes c.args.n c.requires.inode c.requires.block c.requires.used)

pub returns : goal.returns
returns c =
    let v = c.args.self.now.version in
    let bytes = c.args.self.now.bytes.now in
    let listed : c.as_slice.result.now ≡ used_content v bytes c.args.n = c.as_slice.ensures.value ∙ c.in_ok-blocks.ensures in
    c.truncate.ensures.items ∙ ap (λ m. take m c.in_ok-content.content.items) c.size.ensures ∙ ap (take (size v bytes c.args.n)) (c.in_ok-content.ensures ∙ ap (flat_map (block bytes)) listed)
