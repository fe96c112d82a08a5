-- The text of `policy`: the needs of each program under any schedule, and the promises and permissions that it holds
-- and never uses.
use Rattle.std.specs.Prelude.{ℕ, Bool, true, false, not, ◌&&◌, if◌then◌else◌, List, [], ◌∷◌, ◌++◌, map, flat_map, filter, fold, codes, bytes_eq, Option, None, Some, is_some, slice_get}
use Rattle.std.specs.Fmt.{decimal}
use Rattle.std.specs.List.{list_any}
use Rattle.pv_model.specs.declared.call.Call.{Call}
use Rattle.pv_model.specs.declared.perms.Perms.{Perms}
use Rattle.pv_model.specs.declared.place.Place.{Place}
use Rattle.pv_model.specs.declared.place.Place.TheVariants.{At, Node as Unnamed}
use Rattle.pv_model.specs.declared.promise.Promise.{Promise}
use Rattle.pv_model.specs.declared.promise.Promise.TheVariants.{Stdio, Rpath, Wpath, Cpath, Proc, Exec, Unveil}
use Rattle.pv_model.specs.declared.target.Target.{Target}
use Rattle.pv_model.specs.declared.target.Target.TheVariants.{Directory, Name}
use Rattle.pv_model.specs.Answer.{answer}
use Rattle.pv_model.specs.Answers.Explain.{need_text, permissions_lacked}
use Rattle.pv_model.specs.Answers.Explore.{is_complete, done_line, by_line}
use Rattle.pv_model.specs.Answers.Lines.{AnswerLine, answer_line, permissions_in_places, counted_from}
use Rattle.pv_model.specs.Answers.Needs.{Judged, Asked, asked_by, is_refused, same_promise}
use Rattle.pv_model.specs.Answers.Nodes.{first_of, target_words}
use Rattle.pv_model.specs.Answers.Numbers.{Numbers}
use Rattle.pv_model.specs.Answers.Observed.{Observation, observed, of_calls, observations, groups, is_pledge, is_unveil}
use Rattle.pv_model.specs.Answers.ProgramNames.{program_numbers, program_line}
use Rattle.pv_model.specs.Answers.Reach.{is_allowed}
use Rattle.pv_model.specs.Bytes.{Bytes}
use Rattle.pv_model.specs.Calls.Restraints.{entries_of_table}
use Rattle.pv_model.specs.Needs.{needs}
use Rattle.pv_model.specs.Perms.{no_permissions, join_permissions, covers}
use Rattle.pv_model.specs.Promise.{promise_bit, promise_name}
use Rattle.pv_model.specs.Promises.{Promises, Need, contains}
use Rattle.pv_model.specs.State.{Program, Process, State}
use Rattle.pv_model.specs.Step.{Stepped}
use Rattle.pv_model.specs.Unveil.{governing_entry, judgement}

-- ---- the calls of a program

-- a call in a search: the state and the process before it, the call, and its demands
pub record Request : Type 0 where
  pub before : State
  pub process : Process
  pub call : Call
  pub asked : Asked

abbrev pub Requests : Type 0
Requests = List (Observation Request)

abbrev pub request_program_key : Observation Request → Numbers
request_program_key r = program_numbers r.item.process.program

module _ (program_of : Bytes → Option Program) where
  abbrev pub request : State → ℕ → Process → Call → Stepped → List Request
  request s pid p call now = record { before = s; process = p; call = call; asked = asked_by s p call (answer program_of s pid call) } ∷ []

  -- the calls of a search
  abbrev pub requests : ℕ → State → Requests
  requests limit s = observations (of_calls request) program_of limit s

-- the calls that neither a promise nor a table refused
abbrev pub granted_calls : Requests → Requests
granted_calls rs = filter (λ r. not (is_refused r.move.stepped.outcome)) rs

-- all calls, or the granted ones alone
abbrev pub calls_counted : Bool → Requests → Requests
calls_counted false rs = rs
calls_counted true rs = granted_calls rs

-- ---- promises

abbrev pub same_need : Need → Need → Bool
same_need need other = bytes_eq (map promise_bit need) (map promise_bit other)

-- the needs that a line reports in the place of a promise: the promise, or else alternatives that begin with it
abbrev pub needs_with : Promise → List Need
needs_with Rpath = (Rpath ∷ []) ∷ (Rpath ∷ Wpath ∷ []) ∷ []
needs_with p = (p ∷ []) ∷ []

-- the promises that some call needs
abbrev pub promises_in_use : List Promise
promises_in_use = Stdio ∷ Rpath ∷ Wpath ∷ Cpath ∷ Proc ∷ Exec ∷ Unveil ∷ []

module _ (rs : Requests) where
  -- the calls that have a need
  abbrev pub with_need : Need → Requests
  with_need need = filter (λ r. list_any (same_need need) (needs r.item.call)) rs

  abbrev pub need_lines : Need → Option (Observation Request) → List AnswerLine
  need_lines need None = []
  need_lines need (Some r) =
      by_line r.move ∷ answer_line r.move.pid (codes "PLDG") (need_text need ++ codes ", line " ++ decimal r.item.asked.line) ∷ []

  abbrev pub first_need : List Need → List AnswerLine
  first_need [] = []
  first_need (need ∷ others) = if is_some (first_of (with_need need)) then need_lines need (first_of (with_need need)) else first_need others

  -- each promise that a call needs, with the first call that does
  abbrev pub promise_lines : List AnswerLine
  promise_lines = flat_map (λ p. first_need (needs_with p)) promises_in_use

  abbrev pub needs_promise : Promise → Bool
  needs_promise p = list_any (λ r. list_any (list_any (same_promise p)) (needs r.item.call)) rs

-- ---- targets

abbrev pub is_none_of : Perms → Bool
is_none_of permissions = covers no_permissions permissions

-- the walks of calls that were checked, each with its step
abbrev pub walks_asked : Requests → List (Observation Judged)
walks_asked rs = flat_map (λ r. map (observed r.move) r.item.asked.walks) rs

abbrev pub granted_text : Perms → Bytes → Bytes
granted_text permissions words = permissions_in_places permissions ++ codes ", " ++ words

abbrev pub new_permissions_lines : Perms → Observation Judged → List AnswerLine
new_permissions_lines new w = if is_none_of new then [] else by_line w.move ∷ answer_line w.move.pid (codes "UNVL") (granted_text new w.item.words) ∷ []

-- the walks that asked for permissions that no earlier one had asked for
abbrev pub new_permissions : Perms → List (Observation Judged) → List AnswerLine
new_permissions had [] = []
new_permissions had (w ∷ ws) =
    new_permissions_lines (permissions_lacked had w.item.permissions) w ++ new_permissions (join_permissions had w.item.permissions) ws

-- the permissions asked at each target in words
abbrev pub target_lines : Requests → List AnswerLine
target_lines rs = flat_map (λ g. new_permissions no_permissions g.1) (groups (λ w. w.item.words) (walks_asked rs))

-- ---- idle promises

-- a call other than pledge, by a process that is pledged
abbrev pub is_pledged_call : Request → Bool
is_pledged_call r = is_some r.process.promises && not (is_pledge r.call)

abbrev pub is_promised : Promise → Option Promises → Bool
is_promised p None = false
is_promised p (Some held) = contains held p

-- whether a program holds a promise at a call, and never needs it
abbrev pub is_idle : Requests → Promise → Bool
is_idle rs p = list_any (λ r. is_pledged_call r.item && is_promised p r.item.process.promises) rs && not (needs_promise rs p)

abbrev pub idle_line : Bytes → AnswerLine
idle_line text = answer_line 0 (codes "IDLE") text

abbrev pub idle_promise_lines : Requests → List AnswerLine
idle_promise_lines rs = map (λ p. idle_line (promise_name p)) (filter (is_idle rs) promises_in_use)

-- ---- idle permissions

-- a call other than unveil, by a process with a table
abbrev pub is_restricted_call : Request → Bool
is_restricted_call r = is_some r.process.table && not (is_unveil r.call)

abbrev pub restricted : Requests → List Request
restricted rs = filter is_restricted_call (map (λ r. r.item) rs)

-- a place whose target is the given one
abbrev pub place_of_target : Target → Place
place_of_target (Directory n) = Unnamed n
place_of_target (Name d name) = At d name None

-- permissions at a target in words
abbrev pub Granted : Type 0
Granted = Bytes × Perms

-- the permissions of each entry of the table
abbrev pub entries_held : Request → List Granted
entries_held r = map (λ e. (target_words r.before.tree e.0, e.1)) (entries_of_table r.process.table)

abbrev pub used_at_entry : Request → Option (Target × Perms) → Perms → List Granted
used_at_entry r None permissions = []
used_at_entry r (Some e) permissions = (target_words r.before.tree e.0, permissions) ∷ []

abbrev pub at_governor : Request → Option ℕ → Perms → List Granted
at_governor r None permissions = []
at_governor r (Some k) permissions = used_at_entry r (slice_get (entries_of_table r.process.table) k) permissions

-- the permissions that an allowed walk used, at the entry that governs its place
abbrev pub permissions_used : Request → Judged → List Granted
permissions_used r w =
    if is_allowed (judgement r.before.tree r.process.table (place_of_target w.target) w.permissions)
    then at_governor r (governing_entry r.before.tree (entries_of_table r.process.table) (place_of_target w.target)) w.permissions
    else []

abbrev pub all_used : List Request → List Granted
all_used rs = flat_map (λ r. flat_map (permissions_used r) r.asked.walks) rs

abbrev pub union_of_granted : List Granted → Perms
union_of_granted gs = fold join_permissions no_permissions (map (λ g. g.1) gs)

abbrev pub idle_permission_line : Perms → Bytes → List AnswerLine
idle_permission_line left words = if is_none_of left then [] else idle_line (granted_text left words) ∷ []

-- the permissions that the entries with the same words give, without those used
abbrev pub idle_at : List Granted → Granted × List Granted → List AnswerLine
idle_at used ((words, permissions), gs) = idle_permission_line (permissions_lacked (union_of_granted (filter (λ g. bytes_eq g.0 words) used)) (union_of_granted gs)) words

abbrev pub idle_permission_lines : List Request → List AnswerLine
idle_permission_lines rs = flat_map (idle_at (all_used rs)) (groups (λ g. g.0) (flat_map entries_held rs))

-- ---- the lines

module _ (program_of : Bytes → Option Program) (limit : ℕ) (s : State) where
  abbrev pub idle_lines : Requests → List AnswerLine
  idle_lines rs = if is_complete program_of limit s then idle_promise_lines rs ++ idle_permission_lines (restricted rs) else []

  -- a program: its number, and its calls
  abbrev pub policy_of_program : ℕ × (Observation Request × Requests) → List AnswerLine
  policy_of_program (k, (first, rs)) =
      program_line program_of s.tree k first.item.process.program ∷ promise_lines rs ++ target_lines rs ++ idle_lines rs

  abbrev pub lines_of_requests : Requests → List AnswerLine
  lines_of_requests rs =
      flat_map policy_of_program (counted_from 1 (groups request_program_key rs))
      ++ done_line program_of limit s ∷ []

  -- the lines of all calls
  unfoldable pub policy_lines : List AnswerLine
  policy_lines = lines_of_requests (requests program_of limit s)

  -- the lines of the granted calls alone
  unfoldable pub granted_policy_lines : List AnswerLine
  granted_policy_lines = lines_of_requests (granted_calls (requests program_of limit s))
