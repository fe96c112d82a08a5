-- The use of a sandbox by a program, collected call by call.
use Rattle.std.specs.Prelude.{ℕ, ◌==◌, Bool, true, false, not, ◌&&◌, ◌||◌, if◌then◌else◌, List, [], ◌∷◌, ◌++◌, map, flat_map, find, codes, bytes_eq, Option, None, Some, is_some}
use Rattle.std.specs.Fmt.{decimal}
use Rattle.std.specs.List.{list_any}
use Rattle.pv_model.specs.declared.call.Call.{Call}
use Rattle.pv_model.specs.declared.perms.Perms.{Perms}
use Rattle.pv_model.specs.declared.promise.Promise.{Promise}
use Rattle.pv_model.specs.Machine.{permissions_lacked, AnswerLine, answer_line, answer_line_bytes, answer_bytes, answer, Judged, asked_by, same_promise, Numbers, Observation, Granted, Request, program_numbers, Bytes, needs, join_permissions, no_permissions, promise_name, Promises, program_of, Process, Program, State, Tree}
use Rattle.pv_model.specs.Answers.Explain.{need_text}
use Rattle.pv_model.specs.Answers.Explore.{by_line}
use Rattle.pv_model.specs.Answers.Observed.{is_pledge}
use Rattle.pv_model.specs.Answers.Policy.{entries_held, idle_line, idle_permission_line, is_none_of, is_promised, is_restricted_call, granted_text, permissions_used, promises_in_use}
use Rattle.pv_model.specs.Answers.ProgramNames.{program_line}
use Rattle.pv_model.specs.Promise.{promise_bit}
use Rattle.pv_needs.specs.Asking.{either_need, has_need, promises_of}
use Rattle.pv_policy.specs.Groups

-- ---- a call

-- a call as it is recorded: the bytes of its line BY, its process and program, and its demands; held and used are the
-- permissions at the entries of a table in force
pub record Noted : Type 0 where
  pub by : Bytes
  pub pid : ℕ
  pub program : Program
  pub call : Call
  pub line : ℕ
  pub pledged : Option Promises
  pub walks : List Judged
  pub held : List Granted
  pub used : List Granted

abbrev pub if_restricted : (Request → List Granted) → Request → List Granted
if_restricted permissions r = if is_restricted_call r then permissions r else []

abbrev pub all_used_by : Request → List Granted
all_used_by r = flat_map (permissions_used r) r.asked.walks

abbrev pub noted_by : Bytes → ℕ → Request → Noted
noted_by by pid r = record {
  by = by;
  pid = pid;
  program = r.process.program;
  call = r.call;
  line = r.asked.line;
  pledged = r.process.promises;
  walks = r.asked.walks;
  held = if_restricted entries_held r;
  used = if_restricted all_used_by r;
}

abbrev pub noted : Observation Request → Noted
noted r = noted_by (answer_line_bytes (by_line r.move)) r.move.pid r.item

-- a call of a process in a state
abbrev pub request_of : State → ℕ → Process → Call → Request
request_of s pid p call = record { before = s; process = p; call = call; asked = asked_by s p call (answer program_of s pid call) }

-- ---- promises

-- the use of a promise: the lines of the first call that needs it, and of the first that needs either of rpath and
-- wpath, which only the record of rpath has; whether a call needs it, and whether a call is made while it is held
pub record UsedPromise : Type 0 where
  pub promise : Promise
  pub alone : Option Bytes
  pub either : Option Bytes
  pub needed : Bool
  pub held : Bool

abbrev pub has_promise : Promise → Call → Bool
has_promise p call = list_any (list_any (same_promise p)) (needs call)

abbrev pub is_rpath : Promise → Bool
is_rpath p = promise_bit p == 1

-- the lines of a call with a need, given the bytes of its line BY
abbrev pub need_bytes : Bytes → ℕ → Bytes → ℕ → Bytes
need_bytes by pid need line = by ++ answer_line_bytes (answer_line pid (codes "PLDG") (need ++ codes ", line " ++ decimal line))

abbrev pub first_bytes : Option Bytes → Bool → Bytes → Option Bytes
first_bytes (Some had) is bytes = Some had
first_bytes None true bytes = Some bytes
first_bytes None false bytes = None

-- whether a call is made while a promise is held
abbrev pub is_held : Option Promises → Call → Promise → Bool
is_held pledged call p = (is_some pledged && not (is_pledge call)) && is_promised p pledged

-- the use of a promise after a call, by its promises and whether it needs either of rpath and wpath
abbrev pub promise_by : List Promise → Bool → Noted → UsedPromise → UsedPromise
promise_by needed either n u = record u {
  alone = first_bytes u.alone (list_any (same_promise u.promise) needed && not either) (need_bytes n.by n.pid (promise_name u.promise) n.line);
  either = first_bytes u.either (is_rpath u.promise && either) (need_bytes n.by n.pid (need_text either_need) n.line);
  needed = u.needed || list_any (same_promise u.promise) needed;
  held = u.held || is_held n.pledged n.call u.promise;
}

abbrev pub used_promise_with : Noted → UsedPromise → UsedPromise
used_promise_with n u = promise_by (promises_of n.call) (has_need either_need n.call) n u

abbrev pub unused_promise : Promise → UsedPromise
unused_promise p = record { promise = p; alone = None; either = None; needed = false; held = false }

abbrev pub bytes_or_none : Option Bytes → Option Bytes → Bytes
bytes_or_none (Some bytes) other = bytes
bytes_or_none None (Some bytes) = bytes
bytes_or_none None None = []

abbrev pub promise_bytes : UsedPromise → Bytes
promise_bytes u = bytes_or_none u.alone u.either

abbrev pub idle_promise : UsedPromise → List AnswerLine
idle_promise u = if u.held && not u.needed then idle_line (promise_name u.promise) ∷ [] else []

-- ---- targets

-- a walk of a call, with the bytes of its line BY
pub record RecordedWalk : Type 0 where
  pub by : Bytes
  pub pid : ℕ
  pub walk : Judged

abbrev pub walked : Bytes → ℕ → Judged → RecordedWalk
walked by pid w = record { by = by; pid = pid; walk = w }

-- the permissions asked at a target in words, and the lines of the walks that asked for new ones
pub record UsedTarget : Type 0 where
  pub words : Bytes
  pub permissions : Perms
  pub lines : Bytes

abbrev pub new_permission_bytes : Bytes → ℕ → Perms → Bytes → Bytes
new_permission_bytes by pid new words = if is_none_of new then [] else by ++ answer_line_bytes (answer_line pid (codes "UNVL") (granted_text new words))

abbrev pub walked_words : RecordedWalk → Numbers
walked_words w = w.walk.words

abbrev pub used_target_words : UsedTarget → Numbers
used_target_words t = t.words

abbrev pub unused_target : RecordedWalk → UsedTarget
unused_target w = record { words = w.walk.words; permissions = no_permissions; lines = [] }

abbrev pub used_target_with : UsedTarget → RecordedWalk → UsedTarget
used_target_with t w = record {
  words = t.words;
  permissions = join_permissions t.permissions w.walk.permissions;
  lines = t.lines ++ new_permission_bytes w.by w.pid (permissions_lacked t.permissions w.walk.permissions) t.words;
}

abbrev pub and_walk : List UsedTarget → RecordedWalk → List UsedTarget
and_walk ts w = Groups.and_element walked_words used_target_words unused_target used_target_with ts w

abbrev pub and_walks : List UsedTarget → List RecordedWalk → List UsedTarget
and_walks ts ws = Groups.and_more walked_words used_target_words unused_target used_target_with ts ws

-- ---- permissions

abbrev pub granted_words : Granted → Numbers
granted_words g = g.0

abbrev pub nothing_at : Granted → Granted
nothing_at g = (g.0, no_permissions)

abbrev pub granted_more : Granted → Granted → Granted
granted_more had g = (had.0, join_permissions had.1 g.1)

abbrev pub and_granted : List Granted → Granted → List Granted
and_granted gs g = Groups.and_element granted_words granted_words nothing_at granted_more gs g

abbrev pub and_all_granted : List Granted → List Granted → List Granted
and_all_granted gs more = Groups.and_more granted_words granted_words nothing_at granted_more gs more

abbrev pub permissions_in : Option Granted → Perms
permissions_in None = no_permissions
permissions_in (Some g) = g.1

-- the permissions at words
abbrev pub permissions_granted_at : List Granted → Bytes → Perms
permissions_granted_at gs words = permissions_in (find (λ g. bytes_eq g.0 words) gs)

abbrev pub idle_granted : List Granted → Granted → List AnswerLine
idle_granted used g = idle_permission_line (permissions_lacked (permissions_granted_at used g.0) g.1) g.0

-- ---- a program

pub record Usage : Type 0 where
  pub program : Program
  pub promises : List UsedPromise
  pub targets : List UsedTarget
  pub granted : List Granted
  pub used : List Granted

abbrev pub noted_key : Noted → Numbers
noted_key n = program_numbers n.program

abbrev pub usage_key : Usage → Numbers
usage_key u = program_numbers u.program

abbrev pub unused : Program → Usage
unused program = record { program = program; promises = map unused_promise promises_in_use; targets = []; granted = []; used = [] }

abbrev pub unused_by : Noted → Usage
unused_by n = unused n.program

abbrev pub usage_more : Usage → Noted → Usage
usage_more u n = record {
  program = u.program;
  promises = map (used_promise_with n) u.promises;
  targets = and_walks u.targets (map (walked n.by n.pid) n.walks);
  granted = and_all_granted u.granted n.held;
  used = and_all_granted u.used n.used;
}

abbrev pub and_call : List Usage → Noted → List Usage
and_call us n = Groups.and_element noted_key usage_key unused_by usage_more us n

abbrev pub and_calls : List Usage → List Noted → List Usage
and_calls us ns = Groups.and_more noted_key usage_key unused_by usage_more us ns

abbrev pub idle_of : Bool → Usage → List AnswerLine
idle_of complete u = if complete then flat_map idle_promise u.promises ++ flat_map (idle_granted u.used) u.granted else []

-- the lines of a program after its first one
abbrev pub use_bytes : Bool → Usage → Bytes
use_bytes complete u = flat_map promise_bytes u.promises ++ flat_map (λ target. target.lines) u.targets ++ answer_bytes (idle_of complete u)

module _ (t : Tree) (complete : Bool) where
  -- the lines of a program, with its number
  abbrev pub usage_bytes : ℕ × Usage → Bytes
  usage_bytes (k, u) = answer_line_bytes (program_line program_of t k u.program) ++ use_bytes complete u
