-- The records of the demands of a run's calls, by process and process image.
use Rattle.std.specs.Prelude.{◌≡◌, ℕ, suc, ◌+◌, Bool, true, false, if◌then◌else◌, ◌==◌, min, nat_le, List, [], ◌∷◌, length, map, slice_get, position, option_map, unwrap_or, Option, None, Some}
use Rattle.std.specs.List.{cons_option, list_any}
use Rattle.pv_model.specs.declared.perms.Perms.{Perms}
use Rattle.pv_model.specs.declared.promise.Promise.{Promise}
use Rattle.pv_model.specs.Machine.{Judged, Asked, same_judged, same_promise, walks_judged, walks_to, join_permissions, all_promises}
use Rattle.pv_model.specs.Answers.Needs.{asked_by_one, last_of, needing, process_images, permissions_asked, targets_in}
use Rattle.pv_needs.specs.declared.process_images.TheConstants.{MANY}
use Rattle.pv_needs.specs.declared.process_images.JudgedWalks.{JudgedWalks}
use Rattle.pv_needs.specs.declared.process_images.RecordedTarget.{RecordedTarget}
use Rattle.pv_needs.specs.declared.process_images.Times.{Times}

-- the record of a process image: the count for each promise, the targets in the order of the first walk to each, and
-- whether its last call ended it
pub record RecordedImage : Type 0 where
  pub promises : List Times
  pub targets : List RecordedTarget
  pub ended : Bool

-- ---- walks of a call

-- the checked walks in order
abbrev pub judged_in : JudgedWalks → List Judged
judged_in walks = cons_option walks.first (cons_option walks.second [])

-- the first n walks
abbrev pub first_walks : JudgedWalks → ℕ → JudgedWalks
first_walks walks n = record { first = if nat_le 1 n then walks.first else None; second = if nat_le 2 n then walks.second else None }

-- ---- the expected records

-- a count with the line of the last call
abbrev pub times_of : List ℕ → Times
times_of lines = record { count = min (length lines) MANY; last = last_of 0 lines }

abbrev pub recorded_promise : List Asked → Promise → Times
recorded_promise process_image p = times_of (map (λ now. now.line) (needing p process_image))

abbrev pub recorded_target : List (ℕ × Judged) → Judged → RecordedTarget
recorded_target ws target =
    let there = walks_to target ws in
    record { judged = record target { permissions = permissions_asked there }; times = times_of (map (λ w. w.0) there) }

abbrev pub recorded_targets : List (ℕ × Judged) → List RecordedTarget
recorded_targets ws = map (recorded_target ws) (targets_in ws)

-- the last call of a process image ended it
abbrev pub is_ended : List Asked → Bool
is_ended [] = false
is_ended (now ∷ []) = now.ends_process_image
is_ended (now ∷ next ∷ rest) = is_ended (next ∷ rest)

abbrev pub recorded_image : List Asked → RecordedImage
recorded_image process_image = record {
  promises = map (recorded_promise process_image) all_promises;
  targets = recorded_targets (walks_judged process_image);
  ended = is_ended process_image;
}

-- ---- one more call

abbrev pub once_more : Times → ℕ → Times
once_more times line = record { count = min (times.count + 1) MANY; last = line }

abbrev pub times_with_need : Promise → Times → List Promise → ℕ → Times
times_with_need p times needed line = if list_any (same_promise p) needed then once_more times line else times

-- the counts after a call that needed promises
abbrev pub promises_more : List Promise → List Times → List Promise → ℕ → List Times
promises_more (p ∷ ps) (times ∷ rest) needed line = times_with_need p times needed line ∷ promises_more ps rest needed line
promises_more [] rest needed line = rest
promises_more (p ∷ ps) [] needed line = []

-- the target after another walk that needs permissions
abbrev pub target_with_walk : RecordedTarget → ℕ → Perms → RecordedTarget
target_with_walk target line permissions =
    record { judged = record target.judged { permissions = join_permissions target.judged.permissions permissions }; times = once_more target.times line }

abbrev pub first_recorded_walk : ℕ → Judged → RecordedTarget
first_recorded_walk line w = record { judged = w; times = record { count = 1; last = line } }

-- the targets after a walk to a known target or to a new one
abbrev pub walk_more : List RecordedTarget → ℕ → Judged → List RecordedTarget
walk_more [] line w = first_recorded_walk line w ∷ []
walk_more (target ∷ rest) line w = if same_judged target.judged w then target_with_walk target line w.permissions ∷ rest else target ∷ walk_more rest line w

-- the index of the target to which a walk leads
abbrev pub index_of : List RecordedTarget → Judged → Option ℕ
index_of targets w = position (λ target. same_judged target.judged w) targets

abbrev pub walks_more : List RecordedTarget → ℕ → List Judged → List RecordedTarget
walks_more targets line [] = targets
walks_more targets line (w ∷ ws) = walks_more (walk_more targets line w) line ws

-- the record of a process image before its first call
abbrev pub nothing_asked : RecordedImage
nothing_asked = recorded_image []

-- the record after another call
abbrev pub call_more : RecordedImage → Asked → RecordedImage
call_more process_image now = record {
  promises = promises_more all_promises process_image.promises now.promises now.line;
  targets = walks_more process_image.targets now.line now.walks;
  ended = now.ends_process_image;
}

abbrev pub unless_ended : RecordedImage → Asked → List RecordedImage
unless_ended process_image now = if process_image.ended then process_image ∷ call_more nothing_asked now ∷ [] else call_more process_image now ∷ []

-- the records of a process after another call, in the current process image or in a new one
abbrev pub process_more : List RecordedImage → Asked → List RecordedImage
process_more [] now = call_more nothing_asked now ∷ []
process_more (process_image ∷ []) now = unless_ended process_image now
process_more (process_image ∷ next ∷ rest) now = process_image ∷ process_more (next ∷ rest) now

abbrev pub index_unless : Bool → ℕ → Option ℕ
index_unless true k = None
index_unless false k = Some k

-- the index of the current process image: the last one, if it has not ended
abbrev pub current_image_index : List RecordedImage → Option ℕ
current_image_index [] = None
current_image_index (process_image ∷ []) = index_unless process_image.ended 0
current_image_index (process_image ∷ next ∷ rest) = option_map suc (current_image_index (next ∷ rest))

-- ---- all processes, by process number

abbrev pub process_images_at : List (List RecordedImage) → ℕ → List RecordedImage
process_images_at processes pid = unwrap_or (slice_get processes pid) []

-- the records are the expected ones for the calls so far
abbrev pub RecordsCalls : List (List RecordedImage) → List (ℕ × Asked) → Type 0
RecordsCalls processes all = (pid : ℕ) → process_images_at processes pid ≡ map recorded_image (process_images (asked_by_one all pid))

-- only one process has another call
abbrev pub IsProcessMore : List (List RecordedImage) → ℕ → Asked → List (List RecordedImage) → Type 0
IsProcessMore old pid now new =
    (other : ℕ) → process_images_at new other ≡ (if pid == other then process_more (process_images_at old other) now else process_images_at old other)
