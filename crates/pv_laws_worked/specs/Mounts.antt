-- The results of mounting: errors in their order, and an image of version 2.
use Rattle.std.specs.Prelude.{◌≡◌, ℕ, ◌-◌, List, [], ◌∷◌, ◌++◌, length, take, replicate, fold, slice_set, codes, Ok, Err, refl}
use Rattle.pv_model.specs.declared.fault.ImageFault.TheVariants.{Short, Magic, Size, Inode, Block, Dir, Tree as NoTree}
use Rattle.pv_model.specs.declared.version.Version.TheVariants.{V2}
use Rattle.pv_model.specs.Machine.{Bytes, little_endian, mounted}
use Rattle.pv_laws_worked.specs.Images.{images_on_literals, written_inode, slot_bytes, filled, example_program, example_tree}

-- two directories that contain each other and are not in the root
abbrev pub ring : Bytes
ring =
    filled (codes "PVIMAGE1" ++ 4 ∷ 0 ∷ 3 ∷ 0 ∷ [])
    ++ filled (written_inode 1 0 0 0 ++ written_inode 1 1 64 2 ++ written_inode 1 1 64 3)
    ++ filled (slot_bytes 3 (codes "a"))
    ++ filled (slot_bytes 2 (codes "a"))

-- the image with other bytes at some offsets
abbrev pub image_with_bytes : List (ℕ × ℕ) → Bytes
image_with_bytes places = fold (λ bytes place. slice_set bytes place.0 place.1) ring places

pub not_reached : mounted ring ≡ Err (NoTree 2)
unfolding images_on_literals
not_reached = refl

pub block_of_another : mounted (image_with_bytes ((584, 2) ∷ [])) ≡ Err (Block 3)
unfolding images_on_literals
block_of_another = refl

pub block_of_inodes : mounted (image_with_bytes ((552, 1) ∷ [])) ≡ Err (Block 2)
unfolding images_on_literals
block_of_inodes = refl

pub half_a_slot : mounted (image_with_bytes ((548, 65) ∷ [])) ≡ Err (Inode 2)
unfolding images_on_literals
half_a_slot = refl

-- an error of an inode comes before one of a block
pub inode_before_block : mounted (image_with_bytes ((548, 65) ∷ (584, 2) ∷ [])) ≡ Err (Inode 2)
unfolding images_on_literals
inode_before_block = refl

pub slot_of_no_inode : mounted (image_with_bytes ((1536, 4) ∷ [])) ≡ Err (Dir 3)
unfolding images_on_literals
slot_of_no_inode = refl

pub slot_without_name : mounted (image_with_bytes ((1538, 0) ∷ [])) ≡ Err (Dir 3)
unfolding images_on_literals
slot_without_name = refl

-- an error of a content comes before one of the tree, whatever the inode numbers
pub content_before_place : mounted (image_with_bytes ((546, 2) ∷ (1538, 0) ∷ [])) ≡ Err (Dir 3)
unfolding images_on_literals
content_before_place = refl

pub file_in_no_entry : mounted (image_with_bytes ((544, 2) ∷ (546, 0) ∷ (580, 0) ∷ [])) ≡ Err (NoTree 2)
unfolding images_on_literals
file_in_no_entry = refl

pub last_byte_missing : mounted (take 2047 ring) ≡ Err Size
unfolding images_on_literals
last_byte_missing = refl

pub more_blocks_than_bytes : mounted (image_with_bytes ((8, 5) ∷ [])) ≡ Err Size
unfolding images_on_literals
more_blocks_than_bytes = refl

pub no_inode : mounted (image_with_bytes ((10, 0) ∷ [])) ≡ Err Size
unfolding images_on_literals
no_inode = refl

pub other_magic : mounted (image_with_bytes ((7, 51) ∷ [])) ≡ Err Magic
unfolding images_on_literals
other_magic = refl

pub half_a_block : mounted (take 511 ring) ≡ Err Short
unfolding images_on_literals
half_a_block = refl

-- ---- version 2

-- an inode with at most two blocks
abbrev pub inode_bytes_2 : ℕ → ℕ → ℕ → ℕ → ℕ → Bytes
inode_bytes_2 kind count size first second =
    kind ∷ 0 ∷ 0 ∷ 0 ∷ little_endian 4 size ++ little_endian 2 first ++ little_endian 2 second ++ replicate 26 0 ++ little_endian 4 count ++ replicate 22 0

abbrev pub slot_bytes_2 : ℕ → Bytes → Bytes
slot_bytes_2 n name = little_endian 2 n ++ (length name ∷ 0 ∷ []) ++ name ++ replicate (256 - length name) 0

-- the image of the run that reads one file; the root's second slot crosses a block boundary
abbrev pub example_2 : Bytes
example_2 =
    filled (codes "PVIMAGE2" ++ 8 ∷ 0 ∷ 16 ∷ 0 ∷ [])
    ++ filled (inode_bytes_2 1 0 520 3 4 ++ inode_bytes_2 1 1 260 5 0 ++ inode_bytes_2 2 1 5 6 0 ++ inode_bytes_2 3 1 72 7 0)
    ++ replicate 512 0
    ++ slot_bytes_2 2 (codes "etc") ++ slot_bytes_2 4 (codes "init") ++ replicate 504 0
    ++ filled (slot_bytes_2 3 (codes "motd"))
    ++ filled (codes "hello")
    ++ filled example_program

pub version_2 : mounted example_2 ≡ Ok (record example_tree { blocks = 5; version = V2 })
unfolding images_on_literals
version_2 = refl
