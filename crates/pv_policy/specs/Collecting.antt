-- The calls of the visited states, as they are recorded.
use Rattle.std.specs.Prelude.{ℕ, Bool, ◌&&◌, if◌then◌else◌, List, [], ◌++◌, length, map, flat_map, Option, None, Some}
use Rattle.pv_reduced.specs.OfExplore.Visiting.{Visits}
use Rattle.pv_model.specs.Machine.{Answered, Found, Move, move, answer_line_bytes, counted_from, is_refused, observed, of_calls, Bytes, program_of, live_processes, Tree}
use Rattle.pv_model.specs.Answers.Policy.{calls_counted, request}
use Rattle.pv_reduced.specs.declared.kind.SearchKind.{SearchKind}
use Rattle.pv_reduced.specs.Kinds.{count_line}
use Rattle.pv_policy.specs.Usage.{Noted, and_calls, noted, usage_bytes}

-- of all calls, or of the granted ones alone
module _ (granted : Bool) where
  -- the number of walks that a call began, if the call counts
  abbrev pub walks_counted : Answered → Option ℕ
  walks_counted a = if granted && is_refused a.outcome then None else Some a.walks

  -- the next call of a process in a visited state, if its next step is a call that counts
  abbrev pub calls_of_process : Found → ℕ → List Noted
  calls_of_process f pid =
      let m : Move = move program_of f pid in map noted (calls_counted granted (map (observed m) (of_calls (request program_of) f.state pid m.stepped)))

  -- the next calls of all processes
  abbrev pub calls_of : Found → List Noted
  calls_of f = flat_map (calls_of_process f) (map (λ p. p.0) (live_processes f.state.processes))

  abbrev pub calls_at : Option Found → List Noted
  calls_at None = []
  calls_at (Some f) = calls_of f

  -- the lines of a search
  abbrev pub visited_bytes : SearchKind → Tree → Visits → Bytes
  visited_bytes kind t visits =
      flat_map (usage_bytes t visits.complete) (counted_from 1 (and_calls [] (flat_map calls_of visits.found)))
      ++ answer_line_bytes (count_line kind (length visits.found) visits.complete)
