-- The sizes of images.
use Rattle.std.specs.Prelude.{◌≡◌}
use Rattle.pv_model.specs.Machine.{Tree}

-- two trees have images of the same version, with equal numbers of data blocks and equal numbers of inodes
pub record HaveSameSizes (t u : Tree) : Type 0 where
  pub blocks : t.blocks ≡ u.blocks
  pub inodes : t.inodes ≡ u.inodes
  pub version : t.version ≡ u.version
