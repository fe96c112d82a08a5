-- Equivalent forms of the results of migration.
use Rattle.std.proofs.Common.{◌≡◌, ℕ, ◌<◌, ◌≤◌, Bool, true, false, length, take, Option, Result, Ok, Err, bytes_eq, get_or, refl, ap, sym, subst, ◌∙◌, ◌⊎◌, inl, inr, ⊎_elim, arith}
use Rattle.std.specs.Prelude.{if◌then◌else◌, nat_lt}
use Rattle.std.proofs.lemmas.Bool.{le-ltb, lt-ltb}
use Rattle.std.proofs.lemmas.Slice.Eq.{bytes_eq-Decides}
use Rattle.pv_model.specs.declared.fault.ImageFault.{ImageFault}
use Rattle.pv_model.specs.declared.fault.ImageFault.TheVariants.{Short, Magic, Size, Inode, Block, Dir, Tree as NoTree, Memory as ImageMemory}
use Rattle.pv_model.specs.declared.limits.TheConstants.{BLOCK}
use Rattle.pv_model.specs.declared.store_fault.MigrateFault.{MigrateFault}
use Rattle.pv_model.specs.declared.store_fault.MigrateFault.TheVariants.{Image, Small, Memory}
use Rattle.pv_model.specs.declared.version.Version.{Version}
use Rattle.pv_model.specs.declared.version.Version.TheVariants.{V1, V2}
use Rattle.pv_model.specs.Machine.{Bytes, magic, IsWrittenImageOf, mounted, and_then, Tree}
use Rattle.pv_model.specs.RunFault.{of_image_migrated}
use Rattle.pv_laws_trees.proofs.MountedImages.{image-mounted}
use Rattle.pv_laws_trees.proofs.TreeImages.{mounted-image}
use Rattle.pv_laws_trees.specs.Preserved.{EachIsNamed}
use Rattle.pv_image_write.specs.Placed.{placed}
use Rattle.pv_image_write.specs.Written.{WritesImage, BeginsImage}
use Rattle.pv_image.specs.Migrated.{mounted_first, has_room, enlarged, enlarged_within, migrated, IsFirstImageOf, KeepsNodes, Migrates, LacksRoomToMigrate}
use Rattle.pv_image.specs.Written.{HoldsMigrated, WritesMigrated, BeginsMigrated}
use Rattle.pv_image.proofs.EnlargedTrees.{roomy, enlarged-keeps, keeps-enlarged, placed-enlarged}

-- ---- images of version 1

-- the choice between three results
abbrev chosen : Bool → Bool → Result Tree ImageFault → Result Tree ImageFault
chosen short first r = if short then Err Short else if first then r else Err Magic

of-chosen : (short first : Bool) (r : Result Tree ImageFault) (t : Tree) → chosen short first r ≡ Ok t → (first ≡ true) × (r ≡ Ok t)
of-chosen true first r t is = cc is
of-chosen false true r t is = (refl, is)
of-chosen false false r t is = cc is

-- no bytes start with the magic numbers of both versions
other-version : (v : Version) (front : Bytes) → front ≡ magic V1 → front ≡ magic v → v ≡ V1
other-version V1 front first is = refl
other-version V2 front first is = let no : 49 ≡ 50 = ap (λ (bs : Bytes). get_or bs 7 0) (sym first ∙ is) in absurd (omega (arith, no))

pub first-image : (bytes : Bytes) (t : Tree) → mounted_first bytes ≡ Ok t → IsFirstImageOf bytes t
unfolding mounted_first
first-image bytes t is =
    let parts = of-chosen (nat_lt (length bytes) BLOCK) (bytes_eq (take 8 bytes) (magic V1)) (mounted bytes) t is in
    let held = mounted-image bytes t parts.1 in
    record { is_image = held; is_first = other-version t.version (take 8 bytes) ((bytes_eq-Decides (take 8 bytes) (magic V1)).0 parts.0) held.has_magic }

pub first-short : (bytes : Bytes) → length bytes < BLOCK → mounted_first bytes ≡ Err Short
unfolding mounted_first
first-short bytes short = ap (λ b. chosen b (bytes_eq (take 8 bytes) (magic V1)) (mounted bytes)) (lt-ltb (length bytes) BLOCK short)

pub first-magic : (bytes : Bytes) → BLOCK ≤ length bytes → bytes_eq (take 8 bytes) (magic V1) ≡ false → mounted_first bytes ≡ Err Magic
unfolding mounted_first
first-magic bytes long other =
    ap (λ b. chosen b (bytes_eq (take 8 bytes) (magic V1)) (mounted bytes)) (le-ltb (length bytes) BLOCK long) ∙ ap (λ b. chosen false b (mounted bytes)) other

pub mounted-first : (bytes : Bytes) → BLOCK ≤ length bytes → take 8 bytes ≡ magic V1 → mounted_first bytes ≡ mounted bytes
unfolding mounted_first
mounted-first bytes long begins =
    ap (λ b. chosen b (bytes_eq (take 8 bytes) (magic V1)) (mounted bytes)) (le-ltb (length bytes) BLOCK long)
    ∙ ap (λ b. chosen false b (mounted bytes)) ((bytes_eq-Decides (take 8 bytes) (magic V1)).1 begins)

pub image-first : (bytes : Bytes) (t : Tree) → IsFirstImageOf bytes t → mounted_first bytes ≡ Ok t
image-first bytes t is =
    let held = is.is_image in
    let all = held.all_blocks in
    let some = held.blocks_allowed.0 in
    mounted-first bytes (omega (arith, all, some)) (held.has_magic ∙ ap magic is.is_first) ∙ image-mounted bytes t held

-- ---- the results

module _ (bytes : Bytes) (blocks inodes : ℕ) where
  abbrev after : Result Tree ImageFault → Result Tree MigrateFault
  after r = and_then Image r (λ t. enlarged_within t blocks inodes)

  pub migrated-of : (r : Result Tree ImageFault) → mounted_first bytes ≡ r → migrated bytes blocks inodes ≡ after r
  unfolding migrated
  migrated-of r is = ap after is

  pub migrated-room : (t : Tree) → mounted_first bytes ≡ Ok t → has_room t blocks inodes ≡ true → migrated bytes blocks inodes ≡ Ok (enlarged t blocks inodes)
  migrated-room t held room =
      migrated-of (Ok t) held ∙ ap (λ b. let r : Result Tree MigrateFault = if b then Ok (enlarged t blocks inodes) else Err Small in r) room

  pub migrated-small : (t : Tree) → mounted_first bytes ≡ Ok t → has_room t blocks inodes ≡ false → migrated bytes blocks inodes ≡ Err Small
  migrated-small t held cramped =
      migrated-of (Ok t) held ∙ ap (λ b. let r : Result Tree MigrateFault = if b then Ok (enlarged t blocks inodes) else Err Small in r) cramped

  -- ---- success

  keeps-of : (t : Tree) → IsFirstImageOf bytes t → has_room t blocks inodes ≡ true → KeepsNodes t blocks inodes (enlarged t blocks inodes)
  keeps-of t is room = let r = roomy t blocks inodes room in enlarged-keeps t blocks inodes is.is_image.well_formed.numbers r.as_many r.table

  ok-same : (new u : Tree) → let r : Result Tree MigrateFault = Ok u in r ≡ Ok new → u ≡ new
  ok-same new u is = cc is

  pub to-migrates : (new : Tree) → migrated bytes blocks inodes ≡ Ok new → Migrates bytes blocks inodes new
  to-migrates new is = by (mounted_first bytes) refl
    where
      room-of : (t : Tree) → mounted_first bytes ≡ Ok t → (b : Bool) → has_room t blocks inodes ≡ b → Migrates bytes blocks inodes new
      room-of t held true room =
          let image = first-image bytes t held in
          let same : enlarged t blocks inodes ≡ new = ok-same new (enlarged t blocks inodes) (sym (migrated-room t held room) ∙ is) in
          record { old = t; held = image; roomy = room; keeps = subst (KeepsNodes t blocks inodes) same (keeps-of t image room) }
      room-of t held false cramped = let no = sym (migrated-small t held cramped) ∙ is in cc no

      by : (r : Result Tree ImageFault) → mounted_first bytes ≡ r → Migrates bytes blocks inodes new
      by (Ok t) held = room-of t held (has_room t blocks inodes) refl
      by (Err fault) invalid = let no = sym (migrated-of (Err fault) invalid) ∙ is in cc no

  pub from-migrates : (new : Tree) → Migrates bytes blocks inodes new → migrated bytes blocks inodes ≡ Ok new
  from-migrates new m =
      let r = roomy m.old blocks inodes m.roomy in
      migrated-room m.old (image-first bytes m.old m.held) m.roomy
      ∙ ap (λ (u : Tree). let x : Result Tree MigrateFault = Ok u in x) (sym (keeps-enlarged m.old blocks inodes m.held.is_image.well_formed.numbers r.as_many new m.keeps))

  -- ---- lack of room

  pub to-lacks : migrated bytes blocks inodes ≡ Err Small → LacksRoomToMigrate bytes blocks inodes
  to-lacks is = by (mounted_first bytes) refl
    where
      room-of : (t : Tree) → mounted_first bytes ≡ Ok t → (b : Bool) → has_room t blocks inodes ≡ b → LacksRoomToMigrate bytes blocks inodes
      room-of t held true room = let no = sym (migrated-room t held room) ∙ is in cc no
      room-of t held false cramped = record { old = t; held = first-image bytes t held; cramped = cramped }

      by : (r : Result Tree ImageFault) → mounted_first bytes ≡ r → LacksRoomToMigrate bytes blocks inodes
      by (Ok t) held = room-of t held (has_room t blocks inodes) refl
      by (Err fault) invalid = let no = sym (migrated-of (Err fault) invalid) ∙ is in cc no

  pub from-lacks : LacksRoomToMigrate bytes blocks inodes → migrated bytes blocks inodes ≡ Err Small
  from-lacks l = migrated-small l.old (image-first bytes l.old l.held) l.cramped

  -- ---- errors of the image

  pub to-error : (fault : ImageFault) → migrated bytes blocks inodes ≡ Err (Image fault) → mounted_first bytes ≡ Err fault
  to-error fault is = by (mounted_first bytes) refl
    where
      room-of : (t : Tree) → mounted_first bytes ≡ Ok t → (b : Bool) → has_room t blocks inodes ≡ b → mounted_first bytes ≡ Err fault
      room-of t held true room = let no = sym (migrated-room t held room) ∙ is in cc no
      room-of t held false cramped = let no = sym (migrated-small t held cramped) ∙ is in cc no

      by : (r : Result Tree ImageFault) → mounted_first bytes ≡ r → mounted_first bytes ≡ Err fault
      by (Ok t) held = room-of t held (has_room t blocks inodes) refl
      by (Err other) invalid = let both = sym (migrated-of (Err other) invalid) ∙ is in let same : other ≡ fault = cc both in invalid ∙ ap (λ f. let x : Result Tree ImageFault = Err f in x) same

  pub from-error : (fault : ImageFault) → mounted_first bytes ≡ Err fault → migrated bytes blocks inodes ≡ Err (Image fault)
  from-error fault is = migrated-of (Err fault) is

-- ---- errors of mounting and writing

pub first-mounted : (bytes : Bytes) (t : Tree) → mounted_first bytes ≡ Ok t → mounted bytes ≡ Ok t
first-mounted bytes t is = image-mounted bytes t (first-image bytes t is).is_image

-- out of memory, or an error of the image
written-as : (f : ImageFault) → (of_image_migrated f ≡ Memory) ⊎ (of_image_migrated f ≡ Image f)
written-as Short = inr refl
written-as Magic = inr refl
written-as Size = inr refl
written-as (Inode n) = inr refl
written-as (Block n) = inr refl
written-as (Dir n) = inr refl
written-as (NoTree n) = inr refl
written-as ImageMemory = inl refl

module _ (bytes : Bytes) (blocks inodes : ℕ) where
  -- an image that is invalid
  pub refuses-image : (f : ImageFault) (e : MigrateFault) → e ≡ of_image_migrated f → (f ≡ ImageMemory) ⊎ (mounted_first bytes ≡ Err f)
      → (e ≡ Memory) ⊎ (migrated bytes blocks inodes ≡ Err e)
  refuses-image f e is why =
      ⊎_elim (λ same. inl (is ∙ ap of_image_migrated same))
      (λ refused. ⊎_elim (λ wanting. inl (is ∙ wanting))
      (λ image. inr (from-error bytes blocks inodes f refused ∙ ap (λ x. let r : Result Tree MigrateFault = Err x in r) (sym (is ∙ image))))
      (written-as f)) why

  module _ (old u : Tree) (held : mounted_first bytes ≡ Ok old) (same : u ≡ old) (named : EachIsNamed old) (room : has_room u blocks inodes ≡ true) where
    room-old : has_room old blocks inodes ≡ true
    room-old = ap (λ (t : Tree). has_room t blocks inodes) (sym same) ∙ room

    becomes : migrated bytes blocks inodes ≡ Ok (enlarged old blocks inodes)
    becomes = migrated-room bytes blocks inodes old held room-old

    -- the image that is written is one of the new tree
    as_written-enlarged : (image : Bytes) → IsWrittenImageOf image (placed u V2 blocks inodes) → IsWrittenImageOf image (enlarged old blocks inodes)
    as_written-enlarged image as_written =
        subst (IsWrittenImageOf image) (ap (λ (t : Tree). placed t V2 blocks inodes) same ∙ placed-enlarged old named blocks inodes) as_written

    holds-migrated : (image : Bytes) → IsWrittenImageOf image (placed u V2 blocks inodes) → HoldsMigrated bytes blocks inodes image
    holds-migrated image as_written = record {
      tree = enlarged old blocks inodes;
      is_new = becomes;
      holds = as_written-enlarged image as_written;
      preserved = record {
        old = old;
        new = enlarged old blocks inodes;
        held = first-mounted bytes old held;
        mounts = image-mounted image (enlarged old blocks inodes) (as_written-enlarged image as_written).is_image;
        keeps = keeps-of bytes blocks inodes old (first-image bytes old held) room-old;
      };
    }

    pub reports-migrated : (before after : Option Bytes) → WritesImage (placed u V2 blocks inodes) before after → WritesMigrated bytes blocks inodes before after
    reports-migrated before after written = record { image = written.image; holds = holds-migrated written.image written.holds; written = written.written }

    pub begins-migrated : (before after : Option Bytes) → BeginsImage (placed u V2 blocks inodes) before after → BeginsMigrated bytes blocks inodes before after
    begins-migrated before after begun = record { image = begun.image; holds = holds-migrated begun.image begun.holds; written = begun.written }
