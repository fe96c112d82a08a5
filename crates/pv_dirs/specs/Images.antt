-- Bytes that are an image.
use Rattle.std.specs.Prelude.{◌≡◌, ℕ}
use Rattle.pv_model.specs.declared.version.Version.{Version}
use Rattle.pv_model.specs.Machine.{Bytes, IsImageOf, Tree}

-- the bytes are an image of this version with this number of inodes
pub record IsImage (v : Version) (inodes : ℕ) (bytes : Bytes) : Type 0 where
  pub tree : Tree
  pub is_image : IsImageOf bytes tree
  pub of_version : tree.version ≡ v
  pub has_inodes : tree.inodes ≡ inodes
