use Rattle.std.proofs.Common.{◌≡◌, ℕ, suc, ◌+◌, ◌-◌, length, subst, sym, ap, ◌∙◌, arith}
use Rattle.pv_model.specs.declared.version.Version.{Version}
use Rattle.pv_blocks.specs.BlockStore.{BlockStore}
use Rattle.pv_inodes.specs.Files.{Files, IsUsed, held}
use Rattle.pv_inodes.specs.Sound.{IsSound, first_data, files_of}
use Rattle.pv_inodes.proofs.StoreCopies.{copied_files, copied_sound}
use Rattle.pv_inodes.proofs.ChangedInode.{blocks-files_of, version-files_of}
use Rattle.pv_inodes.proofs.ReadResults.{length-files_of}
use Rattle.pv_inodes.proofs.inodes.Inodes.copy_from.Goals as goal

-- the files determine the number of all blocks
length-blocks : (version : Version) (st : BlockStore) (inodes : ℕ) (f : Files) → IsSound version st inodes → files_of version st inodes ≡ f
    → length st.blocks ≡ f.blocks + first_data f.version (length f.nodes - 1)
length-blocks version st inodes f sound view =
    let blocks = ap (λ (g : Files). g.blocks) (sym view) ∙ blocks-files_of version st inodes in
    let same_version = ap (λ (g : Files). g.version) (sym view) ∙ version-files_of version st inodes in
    let numbers : length f.nodes ≡ suc inodes = ap (λ (g : Files). length g.nodes) (sym view) ∙ length-files_of version st inodes in
    let count : length f.nodes - 1 ≡ inodes = omega (arith, numbers) in
    rw (same_version, count) (omega (arith, blocks, sound.shape.first, sound.shape.first_within))

-- both stores have the same number of blocks
same_lengths : (version other_version : Version) (a b : BlockStore) (inodes other_inodes : ℕ) (f g : Files) → IsSound version a inodes → files_of version a inodes ≡ f → IsSound other_version b other_inodes → files_of other_version b other_inodes ≡ g
    → f.version ≡ g.version → length f.nodes - 1 ≡ length g.nodes - 1 → f.blocks ≡ g.blocks → length a.blocks ≡ length b.blocks
same_lengths version other_version a b inodes other_inodes f g sound view other_sound other_view versions numbers blocks =
    length-blocks version a inodes f sound view
    ∙ rw (versions, numbers, blocks) (sym (length-blocks other_version b other_inodes g other_sound other_view))

pub copy_used_from-requires : goal.copy_used_from-requires
copy_used_from-requires c =
    same_lengths _ _ _ _ _ _ c.args.self.now c.args.other.now c.self.invariant.0 c.self.view_is c.other.invariant.0 c.other.view_is c.requires.version c.requires.inodes c.requires.blocks

pub invariant_of-self : goal.invariant_of-self
invariant_of-self c =
    let version = c.other.inside.version in
    let inodes = c.other.inside.inodes in
    let from = c.other.inside.blocks in
    let old = c.self.inside.blocks in
    let new = c.copy_used_from.new.self in
    let same = copied_files version inodes from old new c.copy_used_from.ensures c.other.invariant.0 in
    let long = same_lengths _ _ _ _ _ _ c.args.self.now c.args.other.now c.self.invariant.0 c.self.view_is c.other.invariant.0 c.other.view_is c.requires.version c.requires.inodes c.requires.blocks in (
      copied_sound version inodes from old new c.copy_used_from.ensures c.other.invariant.0 c.self.invariant.0.shape.whole long,
      λ s below. subst (λ (f : Files). IsUsed f (suc s)) (sym same) (c.other.invariant.1 s below),
      λ s past. ap (λ (f : Files). held f (suc s)) same ∙ c.other.invariant.2 s past,
    )

pub returns : goal.returns
returns c =
    copied_files c.other.inside.version c.other.inside.inodes c.other.inside.blocks c.self.inside.blocks c.copy_used_from.new.self c.copy_used_from.ensures c.other.invariant.0
    ∙ c.other.view_is
