-- The demands of a call, computed before the call.
use Rattle.std.specs.Prelude.{◌≡◌, ℕ, if◌then◌else◌, nat_le, Bool, List, [], ◌∷◌, ◌++◌, flat_map, option_to_list, Option, None, Some}
use Rattle.std.specs.List.{list_any}
use Rattle.pv_model.specs.declared.call.Call.{Call}
use Rattle.pv_model.specs.declared.open_flags.OpenFlags.{OpenFlags}
use Rattle.pv_model.specs.declared.promise.Promise.{Promise}
use Rattle.pv_model.specs.declared.promise.Promise.TheVariants.{Rpath, Wpath}
use Rattle.pv_model.specs.Machine.{Asked, Judged, is_unveil, needs, Need, Process, State, Walk, walks_of}
use Rattle.pv_model.specs.Answers.Needs.{judged_at}
use Rattle.pv_model.specs.Answers.Policy.{same_need}
use Rattle.pv_model.specs.Needs.{needs_of_open}
use Rattle.pv_session.specs.OfCallsPath.Ends.{end_begun}
use Rattle.pv_needs.specs.declared.process_images.JudgedWalks.{JudgedWalks}
use Rattle.pv_needs.specs.ProcessImages.{RecordedImage, IsProcessMore}

abbrev pub has_need : Need → Call → Bool
has_need need call = list_any (same_need need) (needs call)

abbrev pub either_need : Need
either_need = Rpath ∷ Wpath ∷ []

-- the promises that a call needs, alone or not
abbrev pub promises_of : Call → List Promise
promises_of call = flat_map (λ need. need) (needs call)

abbrev pub promises_of_open : OpenFlags → List Promise
promises_of_open flags = flat_map (λ need. need) (needs_of_open flags)

module _ (s : State) (pid : ℕ) (me : Process) where
  -- the demand of a walk, if it is begun and ends at a place
  abbrev pub judged_begun : Walk → Option Judged
  judged_begun w = judged_at s w.needed (end_begun s pid me w)

  abbrev pub judged_if_begun : Bool → Walk → List Judged
  judged_if_begun is_begun w = if is_begun then option_to_list (judged_begun w) else []

  abbrev pub begun_walks : List Walk → ℕ → List Judged
  begun_walks [] n = []
  begun_walks (w ∷ []) n = judged_if_begun (nat_le 1 n) w
  begun_walks (w ∷ v ∷ rest) n = judged_if_begun (nat_le 1 n) w ++ judged_if_begun (nat_le 2 n) v

  -- the checked walks of a call of which the first n were begun
  abbrev pub walks_begun : Call → ℕ → List Judged
  walks_begun call n = if is_unveil call then [] else begun_walks (walks_of call) n

  abbrev pub ends_of : List Walk → JudgedWalks
  ends_of [] = record { first = None; second = None }
  ends_of (w ∷ []) = record { first = judged_begun w; second = None }
  ends_of (w ∷ v ∷ rest) = record { first = judged_begun w; second = judged_begun v }

  -- the checked walks of a call; the walk of an unveil(2) is not checked
  abbrev pub ends_before : Call → JudgedWalks
  ends_before call = if is_unveil call then record { first = None; second = None } else ends_of (walks_of call)

-- the records after a step with this demand, or with none
abbrev pub IsMoreBy : List (List RecordedImage) → ℕ → Option Asked → List (List RecordedImage) → Type 0
IsMoreBy old pid None new = new ≡ old
IsMoreBy old pid (Some now) new = IsProcessMore old pid now new
