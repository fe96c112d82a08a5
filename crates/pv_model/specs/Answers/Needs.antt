-- The text of `needs`: the demands of each program image of a run on its sandbox.
use Rattle.std.specs.Prelude.{ℕ, Bool, true, false, not, ◌&&◌, ◌==◌, if◌then◌else◌, List, [], ◌∷◌, ◌++◌, length, map, flat_map, filter, filter_map, take, codes, bytes_eq, Option, None, Some}
use Rattle.std.specs.Fmt.{decimal}
use Rattle.std.specs.List.{list_any, range_with_len}
use Rattle.pv_model.specs.declared.call.Call.{Call}
use Rattle.pv_model.specs.declared.call.Call.TheVariants.{Unveil, Execve}
use Rattle.pv_model.specs.declared.outcome.Cause.{Cause}
use Rattle.pv_model.specs.declared.outcome.Cause.TheVariants.{Plain}
use Rattle.pv_model.specs.declared.outcome.Outcome.{Outcome}
use Rattle.pv_model.specs.declared.outcome.Outcome.TheVariants.{Value, Failed, Killed}
use Rattle.pv_model.specs.declared.perms.Perms.{Perms}
use Rattle.pv_model.specs.declared.place.Place.{Place}
use Rattle.pv_model.specs.declared.promise.Promise.{Promise}
use Rattle.pv_model.specs.declared.target.Target.{Target}
use Rattle.pv_model.specs.Answer.{Answered, answer}
use Rattle.pv_model.specs.Answers.Lines.{AnswerLine, answer_line, permissions_in_places, counted_from}
use Rattle.pv_model.specs.Answers.Nodes.{first_of, target_words}
use Rattle.pv_model.specs.Bytes.{Bytes}
use Rattle.pv_model.specs.Effect.{end_of}
use Rattle.pv_model.specs.Needs.{needs}
use Rattle.pv_model.specs.Perms.{no_permissions, join_permissions}
use Rattle.pv_model.specs.Program.{Next, inside, calls_for, next}
use Rattle.pv_model.specs.Promise.{all_promises, promise_bit, promise_name}
use Rattle.pv_model.specs.State.{Program, Process, State, process_at}
use Rattle.pv_model.specs.Step.{step, run}
use Rattle.pv_model.specs.Touch.{place_found}
use Rattle.pv_model.specs.Unveil.{same_target, target_of}
use Rattle.pv_model.specs.Walks.{Walk, walks_of}

-- ---- refused calls

-- the reason is a promise or a table, and not an error of the call itself
abbrev pub is_of_sandbox : Cause → Bool
is_of_sandbox Plain = false
is_of_sandbox cause = true

-- a promise or a table refused the call
abbrev pub is_refused : Outcome → Bool
is_refused (Killed p) = true
is_refused (Failed errno cause) = is_of_sandbox cause
is_refused outcome = false

-- ---- the needs of a call

-- a walk that a table decides about: the target for its place, its words, and the permissions needed
pub record Judged : Type 0 where
  pub target : Target
  pub words : Bytes
  pub permissions : Perms

-- the needs of a call: its line, the promises, the walks that a table decides about, and whether it ended its program
-- image
pub record Asked : Type 0 where
  pub line : ℕ
  pub promises : List Promise
  pub walks : List Judged
  pub ends_process_image : Bool

-- the promises that a call needs; of two alternatives, the first
abbrev pub promises_needed : Call → List Promise
promises_needed call = filter_map first_of (needs call)

abbrev pub judged_at : State → Perms → Option Place → Option Judged
judged_at s permissions None = None
judged_at s permissions (Some place) =
    let target = target_of s.tree place in Some (record { target = target; words = target_words s.tree target; permissions = permissions })

-- a walk that ends at a place
abbrev pub judged : State → Process → Walk → Option Judged
judged s p w = judged_at s w.needed (place_found (end_of s p w))

-- a table decides about the walks of every call other than unveil
abbrev pub judged_walks : State → Process → Call → ℕ → List Judged
judged_walks s p (Unveil path permissions) walks = []
judged_walks s p call walks = filter_map (judged s p) (take walks (walks_of call))

-- whether a call started a new program
abbrev pub begins_program : Call → Outcome → Bool
begins_program (Execve path) (Value n) = true
begins_program call outcome = false

abbrev pub asked_by : State → Process → Call → Answered → Asked
asked_by s p call a = record {
  line = p.line;
  promises = promises_needed call;
  walks = judged_walks s p call a.walks;
  ends_process_image = begins_program call a.outcome;
}

module _ (program_of : Bytes → Option Program) where
  abbrev pub asked_next : State → ℕ → Process → Next → Option Asked
  asked_next s pid p (inside q) = None
  asked_next s pid p (calls_for call) = Some (asked_by s p call (answer program_of s pid call))

  abbrev pub asked_of : State → ℕ → Option Process → Option Asked
  asked_of s pid None = None
  asked_of s pid (Some p) = asked_next s pid p (next p)

  -- the needs of a step that is a call
  unfoldable pub asked : State → ℕ → Option Asked
  asked s pid = asked_of s pid (process_at s pid)

  abbrev pub and_asked : ℕ → Option Asked → List (ℕ × Asked) → List (ℕ × Asked)
  and_asked pid None rest = rest
  and_asked pid (Some now) rest = (pid, now) ∷ rest

  -- the needs of the calls of a run, each with its process
  abbrev pub asked_in : List ℕ → State → List (ℕ × Asked)
  asked_in [] s = []
  asked_in (pid ∷ pids) s = and_asked pid (asked s pid) (asked_in pids (step program_of s pid).after)

-- ---- program images

-- adds a call to the first program image, or to a new one if the call ended its image
abbrev pub onto_process_image : Asked → List (List Asked) → List (List Asked)
onto_process_image now [] = (now ∷ []) ∷ []
onto_process_image now (process_image ∷ rest) = if now.ends_process_image then (now ∷ []) ∷ process_image ∷ rest else (now ∷ process_image) ∷ rest

-- the calls of a process, grouped by program image
unfoldable pub process_images : List Asked → List (List Asked)
process_images [] = []
process_images (now ∷ rest) = onto_process_image now (process_images rest)

abbrev pub asked_by_one : List (ℕ × Asked) → ℕ → List Asked
asked_by_one all pid = map (λ a. a.1) (filter (λ a. a.0 == pid) all)

-- ---- the promises of a program image

abbrev pub same_promise : Promise → Promise → Bool
same_promise p q = promise_bit p == promise_bit q

-- the calls that needed a promise
abbrev pub needing : Promise → List Asked → List Asked
needing p process_image = filter (λ now. list_any (same_promise p) now.promises) process_image

abbrev pub last_of : ℕ → List ℕ → ℕ
last_of n [] = n
last_of n (m ∷ ms) = last_of m ms

-- the number of calls, and the line of the last one
abbrev pub times_text : Bytes → List ℕ → Bytes
times_text what lines = codes ", " ++ what ++ codes " " ++ decimal (length lines) ++ codes ", last line " ++ decimal (last_of 0 lines)

abbrev pub promise_texts_of : Promise → List Asked → List Bytes
promise_texts_of p [] = []
promise_texts_of p (now ∷ rest) = (promise_name p ++ times_text (codes "calls") (map (λ a. a.line) (now ∷ rest))) ∷ []

-- a text for each promise that a call of the program image needed
abbrev pub promise_texts : List Asked → List Bytes
promise_texts process_image = flat_map (λ p. promise_texts_of p (needing p process_image)) all_promises

-- ---- the targets of a program image

abbrev pub same_judged : Judged → Judged → Bool
same_judged a b = same_target a.target b.target && bytes_eq a.words b.words

-- the walks of a program image that a table decides about, each with the line of its call
abbrev pub walks_judged : List Asked → List (ℕ × Judged)
walks_judged process_image = flat_map (λ now. map (λ w. (now.line, w)) now.walks) process_image

-- the distinct targets, in the order of their first occurrence
abbrev pub targets_in : List (ℕ × Judged) → List Judged
targets_in [] = []
targets_in (w ∷ ws) = w.1 ∷ filter (λ other. not (same_judged w.1 other)) (targets_in ws)

abbrev pub walks_to : Judged → List (ℕ × Judged) → List (ℕ × Judged)
walks_to target ws = filter (λ w. same_judged target w.1) ws

abbrev pub permissions_asked : List (ℕ × Judged) → Perms
permissions_asked [] = no_permissions
permissions_asked (w ∷ ws) = join_permissions w.1.permissions (permissions_asked ws)

abbrev pub target_text : Judged → List (ℕ × Judged) → Bytes
target_text target ws = permissions_in_places (permissions_asked ws) ++ codes ", " ++ target.words ++ times_text (codes "walks") (map (λ w. w.0) ws)

-- a text for each target of a walk of the program image
abbrev pub target_texts : List Asked → List Bytes
target_texts process_image = let ws = walks_judged process_image in map (λ target. target_text target (walks_to target ws)) (targets_in ws)

-- ---- the lines

abbrev pub process_image_lines : ℕ → ℕ × List Asked → List AnswerLine
process_image_lines pid (k, process_image) =
    answer_line pid (codes "STNT") (decimal k)
    ∷ map (answer_line pid (codes "PLDG")) (promise_texts process_image)
    ++ map (answer_line pid (codes "UNVL")) (target_texts process_image)

abbrev pub needs_of_process : List (ℕ × Asked) → ℕ → List AnswerLine
needs_of_process all pid = flat_map (process_image_lines pid) (counted_from 1 (process_images (asked_by_one all pid)))

-- the lines of the processes with numbers up to the last one given
abbrev pub needs_of_all : List (ℕ × Asked) → ℕ → List AnswerLine
needs_of_all all last = flat_map (needs_of_process all) (range_with_len 1 last)

module _ (program_of : Bytes → Option Program) where
  -- the lines of all program images of a run
  unfoldable pub needs_lines : List ℕ → State → List AnswerLine
  needs_lines pids s = needs_of_all (asked_in program_of pids s) (run program_of pids s).final.last_process
