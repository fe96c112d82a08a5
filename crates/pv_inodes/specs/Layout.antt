-- The layout of an image in blocks. Inodes are numbered from 0 here.
use Rattle.std.specs.Prelude.{ℕ, ◌+◌, ◌-◌, ◌*◌, ◌/◌, ◌%◌, min, if◌then◌else◌, ◌==◌, List, [], ◌∷◌, ◌++◌, map, length, take, drop, replicate, slice_index, slice_index_or, slice_set, Option, None, Some}
use Rattle.std.specs.List.{range_with_len}
use Rattle.byteorder.specs.Endian.{little_from, little_bytes}
use Rattle.pv_model.specs.declared.version.Version.{Version}
use Rattle.pv_model.specs.declared.limits.TheConstants.{BLOCK}
use Rattle.pv_model.specs.Machine.{Bytes, inode_length, index_pointers}
use Rattle.pv_inodes.specs.Files.{Contained, kind_of_number}

abbrev pub block_at : List Bytes → ℕ → Bytes
block_at bs k = slice_index_or bs k []

-- the little-endian number in `count` bytes at an offset of block k
unfoldable pub number : List Bytes → ℕ → ℕ → ℕ → ℕ
number bs k at count = little_from at count (block_at bs k)

-- the blocks with block k overwritten from an offset on
unfoldable pub splice : List Bytes → ℕ → ℕ → Bytes → List Bytes
splice bs k at new = slice_set bs k (take at (block_at bs k) ++ (new ++ drop (at + length new) (block_at bs k)))

-- the block that contains inode s
unfoldable pub home : Version → ℕ → ℕ
home version s = s / (BLOCK / inode_length version) + 1

-- the offset of inode s in its block
unfoldable pub offset : Version → ℕ → ℕ
offset version s = inode_length version * (s % (BLOCK / inode_length version))

-- the kind field of inode s; 0 is free
unfoldable pub kind_at : Version → List Bytes → ℕ → ℕ
kind_at version bs s = number bs (home version s) (offset version s) 1

-- the length of its contents
unfoldable pub size_at : Version → List Bytes → ℕ → ℕ
size_at version bs s = number bs (home version s) (offset version s + 4) 4

-- the number of pointers of an inode: ten to blocks of contents, then those to index blocks
abbrev pub pointer_count : Version → ℕ
pointer_count version = 10 + index_pointers version

unfoldable pub pointer_at : Version → List Bytes → ℕ → ℕ → ℕ
pointer_at version bs s p = number bs (home version s) (offset version s + 8 + 2 * p) 2

-- The blocks that an inode owns form one sequence: ten blocks of contents, then each index block before the 256 blocks
-- of contents to which it points.

-- the maximum length of the sequence
abbrev pub most_owned : Version → ℕ
most_owned version = 10 + 257 * index_pointers version

-- the distance of the i-th of them from its index block, or 0 if the inode itself points to it
abbrev pub after_index : ℕ → ℕ
after_index i = (i - 10) % 257

-- the number of the inode's pointer to the i-th of them, or to its index block
unfoldable pub pointer_of : ℕ → ℕ
pointer_of i = min i 10 + (i - 10) / 257

-- the i-th block that inode s owns
unfoldable pub owned_at : Version → List Bytes → ℕ → ℕ → ℕ
owned_at version bs s i =
    if after_index i == 0 then pointer_at version bs s (pointer_of i)
    else number bs (pointer_at version bs s (pointer_of i)) (2 * (after_index i - 1)) 2

-- the number of blocks that contents of length n own, including index blocks
unfoldable pub wanted : ℕ → ℕ
wanted n = let b = (n + 511) / 512 in b + (b + 245) / 256

-- the number of blocks that inode s owns
unfoldable pub owned_count : Version → List Bytes → ℕ → ℕ
owned_count version bs s = if kind_at version bs s == 0 then 0 else wanted (size_at version bs s)

-- the position of block j of the contents in the sequence: an index block precedes block 10, and every 256th block
-- after that
unfoldable pub position_of_block : ℕ → ℕ
position_of_block j = j + (j + 246) / 256

-- a byte of the contents of inode s
unfoldable pub content_byte : Version → List Bytes → ℕ → ℕ → ℕ
content_byte version bs s x = slice_index (block_at bs (owned_at version bs s (position_of_block (x / BLOCK)))) (x % BLOCK)

-- the contents of inode s
unfoldable pub content_at : Version → List Bytes → ℕ → Bytes
content_at version bs s = map (content_byte version bs s) (range_with_len 0 (size_at version bs s))

-- the kind and the contents of inode s, if it is not free
unfoldable pub contained_at : Version → List Bytes → ℕ → Option Contained
contained_at version bs s = if kind_at version bs s == 0 then None else Some (record { sort = kind_of_number (kind_at version bs s); bytes = content_at version bs s })

-- the inodes by their numbers, which start at 1
unfoldable pub nodes_in : Version → List Bytes → ℕ → List (Option Contained)
nodes_in version bs inodes = None ∷ map (contained_at version bs) (range_with_len 0 inodes)

unfoldable pub with_kind : Version → List Bytes → ℕ → ℕ → List Bytes
with_kind version bs s kind = splice bs (home version s) (offset version s) (kind ∷ [])

unfoldable pub with_size : Version → List Bytes → ℕ → ℕ → List Bytes
with_size version bs s size = splice bs (home version s) (offset version s + 4) (little_bytes 4 size)

unfoldable pub with_owned : Version → List Bytes → ℕ → ℕ → ℕ → List Bytes
with_owned version bs s i k =
    if after_index i == 0 then splice bs (home version s) (offset version s + 8 + 2 * pointer_of i) (little_bytes 2 k)
    else splice bs (pointer_at version bs s (pointer_of i)) (2 * (after_index i - 1)) (little_bytes 2 k)

unfoldable pub zeros : Bytes
zeros = replicate BLOCK 0
