-- The counts and the last lines of `needs` are those of the calls of the run.
use Rattle.std.specs.Prelude.{◌≡◌, ◌⊎◌, ℕ, suc, Bool, if◌then◌else◌, IsTrue, IsFalse, List, [], ◌∷◌, ◌++◌, map, flat_map, codes, Contains, Option, Some}
use Rattle.std.specs.Fmt.{decimal}
use Rattle.std.specs.List.{AllByRecursion, list_any, range_with_len}
use Rattle.pv_model.specs.declared.call.Call.{Call}
use Rattle.pv_model.specs.declared.promise.Promise.{Promise}
use Rattle.pv_model.specs.Machine.{AnswerLine, answer_line, counted_from, permissions_in_places, Judged, promises_needed, same_judged, same_promise, walks_judged, walks_to, Bytes, calls_for, next, all_promises, promise_name, Process, Program, State, process_at, run}
use Rattle.pv_model.specs.Answers.Needs.{needing, needs_lines, promise_texts_of, target_text}
use Rattle.pv_laws_answers.specs.ProcessImages.{IsCallOf, Moment, permissions_listed, moments, process_images_of, targets_listed, demands_of_moments}

-- the number of elements that pass a test
abbrev pub number_that_passes : {X : Type 0} → (X → Bool) → List X → ℕ
number_that_passes test [] = 0
number_that_passes test (x ∷ xs) = if test x then suc (number_that_passes test xs) else number_that_passes test xs

-- no element passes a test
abbrev pub NoElementPasses : {X : Type 0} → (X → Bool) → List X → Type 0
NoElementPasses test xs = AllByRecursion (λ x. IsFalse (test x)) xs

-- the last element that passes a test
pub record IsLastThatPasses {X : Type 0} (test : X → Bool) (xs : List X) (x : X) : Type 0 where
  pub before : List X
  pub after : List X
  pub parts : xs ≡ before ++ x ∷ after
  pub passes : IsTrue (test x)
  pub last : NoElementPasses test after

-- a number of times, and the line of the last
abbrev pub counted_line : Bytes → ℕ → ℕ → Bytes
counted_line what count line = what ++ decimal count ++ codes ", last line " ++ decimal line

-- ---- calls

-- the needs of a call of the run are those of the call that the process makes then, at its line
pub record IsAskedAt (m : Moment) (pid : ℕ) : Type 0 where
  pub process : Process
  pub call : Call
  pub lives : process_at m.state pid ≡ Some process
  pub makes : next process ≡ calls_for call
  pub line : m.asked.line ≡ process.line
  pub promises : m.asked.promises ≡ promises_needed call

abbrev pub CallsAreAsked : Type 0
CallsAreAsked =
    (program_of : Bytes → Option Program) (pids : List ℕ) (s : State) (pid : ℕ) (process_image : List Moment) (m : Moment) → IsCallOf program_of pids s pid process_image m → IsAskedAt m pid

-- ---- promises

-- a call needed a promise
abbrev pub needed_promise : Promise → Moment → Bool
needed_promise a m = list_any (same_promise a) m.asked.promises

-- the texts of a promise: none if no call needed it; otherwise one, with the number of the calls that needed it, and the
-- line of the last of them
abbrev pub IsPromiseCounted : Promise → List Moment → List Bytes → Type 0
IsPromiseCounted a process_image texts =
    (NoElementPasses (needed_promise a) process_image × (texts ≡ []))
    ⊎ ((m : Moment) × IsLastThatPasses (needed_promise a) process_image m
    × (texts ≡ (promise_name a ++ counted_line (codes ", calls ") (number_that_passes (needed_promise a) process_image) m.asked.line) ∷ []))

abbrev pub promise_texts_in : List Moment → Promise → List Bytes
promise_texts_in process_image a = promise_texts_of a (needing a (demands_of_moments process_image))

abbrev pub PromisesAreCounted : Type 0
PromisesAreCounted = (process_image : List Moment) (a : Promise) → IsPromiseCounted a process_image (promise_texts_in process_image a)

-- ---- targets

-- the walks of a program image that a table decides about, each with its call
abbrev pub walks_of_calls : List Moment → List (Moment × Judged)
walks_of_calls process_image = flat_map (λ m. map (λ w. (m, w)) m.asked.walks) process_image

abbrev pub leads_to_target : Judged → Moment × Judged → Bool
leads_to_target target w = same_judged target w.1

-- the text of a target: the number of the walks to it, and the line of the call of the last of them
pub record IsTargetCounted (target : Judged) (process_image : List Moment) (text : Bytes) : Type 0 where
  pub walk : Moment × Judged
  pub last : IsLastThatPasses (leads_to_target target) (walks_of_calls process_image) walk
  pub is :
      text ≡ permissions_in_places (permissions_listed process_image target) ++ codes ", " ++ target.words
      ++ counted_line (codes ", walks ") (number_that_passes (leads_to_target target) (walks_of_calls process_image)) walk.0.asked.line

abbrev pub target_text_in : List Moment → Judged → Bytes
target_text_in process_image target = target_text target (walks_to target (walks_judged (demands_of_moments process_image)))

abbrev pub TargetsAreCounted : Type 0
TargetsAreCounted =
    (process_image : List Moment) (target : Judged) → Contains (targets_listed process_image) target → IsTargetCounted target process_image (target_text_in process_image target)

-- ---- the lines

-- the lines of a program image: its number, its promises in order, and its targets in the order of their first walks
abbrev pub lines_of_calls : ℕ → ℕ × List Moment → List AnswerLine
lines_of_calls pid (k, process_image) =
    answer_line pid (codes "STNT") (decimal k)
    ∷ map (answer_line pid (codes "PLDG")) (flat_map (promise_texts_in process_image) all_promises)
    ++ map (answer_line pid (codes "UNVL")) (map (target_text_in process_image) (targets_listed process_image))

-- the lines are those of all program images of all processes, in order
abbrev pub NeedsAreOfCalls : Type 0
NeedsAreOfCalls =
    (program_of : Bytes → Option Program) (pids : List ℕ) (s : State)
    → needs_lines program_of pids s
    ≡ flat_map (λ pid. flat_map (lines_of_calls pid) (counted_from 1 (process_images_of (moments program_of pid pids s)))) (range_with_len 1 (run program_of pids s).final.last_process)
