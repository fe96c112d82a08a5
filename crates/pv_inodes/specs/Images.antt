-- The files in the bytes of an image. Inodes are numbered from 1 here, as in an image.
use Rattle.std.specs.Prelude.{ℕ, ◌+◌, ◌-◌, ◌/◌, ◌<◌, ◌≤◌, if◌then◌else◌, ◌==◌, List, ◌∷◌, map, length, flat_map, Option, None, Some}
use Rattle.std.specs.List.{AllByRecursion, IsDistinct, range_with_len}
use Rattle.pv_model.specs.declared.version.Version.{Version}
use Rattle.pv_model.specs.declared.limits.TheConstants.{BLOCK}
use Rattle.pv_model.specs.Machine.{Bytes, inode_blocks, size, content, kind, is_free, greatest_length}
use Rattle.pv_model.specs.Mount.{used_by}
use Rattle.pv_inodes.specs.Files.{Contained, Files, kind_of_number}

-- the blocks that the inodes use
abbrev pub all_used_blocks : Version → Bytes → ℕ → List ℕ
all_used_blocks v bytes inodes = flat_map (used_by v bytes) (range_with_len 1 inodes)

-- each inode has a kind, and a size that is valid for its kind; each block that an inode uses is a data block, and no
-- block is used twice
pub record AreInodes (v : Version) (bytes : Bytes) (inodes : ℕ) : Type 0 where
  pub kinds : (n : ℕ) → 1 ≤ n → n ≤ inodes → kind v bytes n ≤ 4
  pub sizes : (n : ℕ) → 1 ≤ n → n ≤ inodes → 0 < kind v bytes n → size v bytes n ≤ greatest_length v
  pub in_data : AllByRecursion (λ k. (inode_blocks v inodes < k) × (k < length bytes / BLOCK)) (all_used_blocks v bytes inodes)
  pub used_once : IsDistinct ◌==◌ (all_used_blocks v bytes inodes)

-- the kind and the contents of an inode, if it is not free
abbrev pub contained : Version → Bytes → ℕ → Option Contained
contained v bytes n = if is_free v bytes n then None else Some (record { sort = kind_of_number (kind v bytes n); bytes = content v bytes n })

-- the files of the inodes of an image
unfoldable pub files_in : Version → Bytes → ℕ → Files
files_in v bytes inodes = record {
  version = v;
  nodes = None ∷ map (contained v bytes) (range_with_len 1 inodes);
  blocks = length bytes / BLOCK - (inode_blocks v inodes + 1);
}
