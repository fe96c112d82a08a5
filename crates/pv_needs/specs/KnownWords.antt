-- Words for a target whose directory has a known path.
use Rattle.std.specs.Prelude.{◌≡◌, ℕ, ◌<◌, ◌++◌, codes, length, Some}
use Rattle.std.specs.Fmt.{decimal}
use Rattle.pv_model.specs.declared.target.Target.{Target}
use Rattle.pv_model.specs.declared.target.Target.TheVariants.{Directory, Name}
use Rattle.pv_model.specs.Machine.{node_path, Bytes, quote, Tree}

-- the directory of a target: the target itself, or the directory of its name
abbrev pub directory_in : Target → ℕ
directory_in (Directory n) = n
directory_in (Name d name) = d

-- this is the path of the target's directory, which is not the root
pub record IsKnown (t : Tree) (target : Target) (path : Bytes) : Type 0 where
  pub some : 0 < length path
  pub is_path : node_path t (directory_in target) ≡ Some path

abbrev pub known_words : Target → Bytes → Bytes
known_words (Directory n) path = codes "node " ++ decimal n ++ codes " " ++ quote path
known_words (Name d name) path = quote (path ++ codes "/" ++ name)
