-- An accepted image mounts, and a machine boots on its tree.
use Rattle.std.proofs.Common.{◌≡◌, Some, Result, Ok, Err, ap, sym, ◌∙◌}
use Rattle.std.specs.Result.{result_ok}
use Rattle.pv_model.specs.Machine.{Bytes, booted}
use Rattle.pv_model.specs.Start.{IsAccepted}
use Rattle.pv_laws_trees.proofs.MachineStarts.{starts}
use Rattle.pv_laws_trees.specs.Mounts.{Boots}
use Rattle.pv_laws_trees.proofs.MountedImages.{image-mounted}
use Rattle.pv_laws_trees.proofs.TreeImages.{mounted-image}

ok-some : {A E : Type 0} (r : Result A E) (a : A) → result_ok r ≡ Some a → r ≡ Ok a
ok-some (Ok b) a is = let same : b ≡ a = cc is in ap Ok same
ok-some (Err fault) a is = cc is

pub accepted-boots : (bytes : Bytes) → IsAccepted bytes → Boots bytes
accepted-boots bytes is = record {
  tree = is.tree;
  state = is.state;
  mounts = image-mounted bytes is.tree is.is_image;
  boots = ok-some (booted is.tree) is.state (starts is.tree ∙ is.boots);
}

pub boots-accepted : (bytes : Bytes) → Boots bytes → IsAccepted bytes
boots-accepted bytes is = record {
  tree = is.tree;
  state = is.state;
  is_image = mounted-image bytes is.tree is.mounts;
  boots = sym (starts is.tree) ∙ ap result_ok is.boots;
}
