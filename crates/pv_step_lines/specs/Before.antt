-- The part of the state before a call that its explanation needs.
use Rattle.std.specs.Prelude.{◌≡◌, ℕ, zero, suc, Option, None, Some, option_map}
use Rattle.pv_model.specs.declared.call.Call.{Call}
use Rattle.pv_model.specs.declared.call.Call.TheVariants.{Unveil}
use Rattle.pv_model.specs.declared.place.Place.{Place}
use Rattle.pv_model.specs.declared.target.Target.{Target}
use Rattle.pv_model.specs.Machine.{Bytes, end_of, no_permissions, Process, State, place_found, target_of, unveil_walk, walk_number, walks_of}
use Rattle.pv_session.specs.OfCallsPath.Ends.{end_of_some}
use Rattle.pv_promises.specs.Pledge.{Pledged}
use Rattle.pv_step_lines.specs.Parts.{file_number}
use Rattle.pv_step_lines.specs.declared.before.Before.{Before}

-- the path argument of an unveil(2)
abbrev pub path_unveiled : Call → Option Bytes
path_unveiled (Unveil path permissions) = path
path_unveiled call = None

abbrev pub target_at : State → Process → Option Bytes → Option Target
target_at s p None = None
target_at s p (Some path) = option_map (target_of s.tree) (place_found (end_of s p (unveil_walk path no_permissions)))

-- the unveil target of the path of a call
abbrev pub target_before : State → Process → Call → Option Target
target_before s p call = target_at s p (path_unveiled call)

abbrev pub pledged_of : Process → Pledged
pledged_of p = record { promises = p.promises; execpromises = p.execpromises }

-- the place at which walk `number` ended
abbrev pub place_before : Before → ℕ → Option Place
place_before b (suc zero) = b.first
place_before b (suc (suc zero)) = b.second
place_before b walks = None

pub record IsBefore (s : State) (pid : ℕ) (p : Process) (call : Call) (b : Before) : Type 0 where
  pub line : b.line ≡ p.line
  pub pledge : b.pledge ≡ pledged_of p
  pub file : b.file ≡ file_number p call
  pub target : b.target ≡ target_before s p call
  pub place : (k : ℕ) → place_before b k ≡ end_of_some s pid p (walk_number (walks_of call) k)
