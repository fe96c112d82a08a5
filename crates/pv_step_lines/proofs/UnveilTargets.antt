-- The unveil target of a path, from the end of its walk.
use Rattle.std.proofs.Common.{◌≡◌, ◌∙◌, ℕ, Option, Some, option_map, ap, sym}
use Rattle.pv_model.specs.declared.place.Place.{Place}
use Rattle.pv_model.specs.Machine.{Bytes, no_permissions, Process, State, target_of, Walk, unveil_walk}
use Rattle.pv_session.specs.OfCallsPath.Ends.{end_begun}
use Rattle.pv_step_lines.specs.Before.{target_at}

pub target-ends : (s : State) (pid : ℕ) (p : Process) (given : Option Bytes) (path : Bytes) (w : Walk) (o : Option Place) → given ≡ Some path
    → w ≡ unveil_walk path no_permissions → o ≡ end_begun s pid p w → target_at s p given ≡ option_map (target_of s.tree) o
target-ends s pid p given path w o is walks ends = ap (target_at s p) is ∙ sym (ap (option_map (target_of s.tree)) (ends ∙ ap (end_begun s pid p) walks))
