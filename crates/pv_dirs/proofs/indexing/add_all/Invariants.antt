use Rattle.std.proofs.Common.{◌≡◌, ℕ, ◌<◌, Some}
use Rattle.pv_model.specs.declared.kind.Kind.TheVariants.{Directory}
use Rattle.pv_inodes.specs.Files.{Contained, held}
use Rattle.pv_dirs.specs.Index.{AreLed}
use Rattle.pv_dirs.proofs.indexing.add_all.Given as goal

-- the index leads to the entries of the directories so far
abbrev pub invariant-loop-inode : goal.invariant-loop-inode
invariant-loop-inode l = (n : ℕ) (c : Contained) → n < l.inode → held l.inodes n ≡ Some c → c.sort ≡ Directory → AreLed l.index l.inodes.version n c.bytes
