-- Laws of `policy`: the promises and permissions that each program needs.
use Rattle.std.specs.Prelude.{◌≡◌, ℕ, Bool, IsTrue, IsFalse, List, [], ◌∷◌, ◌++◌, flat_map, filter, filter_map, codes, bytes_eq, Contains, Option, None, Some}
use Rattle.std.specs.Fmt.{decimal}
use Rattle.std.specs.List.{list_any}
use Rattle.pv_model.specs.declared.call.Call.{Call}
use Rattle.pv_model.specs.declared.errno.Errno.TheVariants.{EACCES}
use Rattle.pv_model.specs.declared.outcome.Cause.TheVariants.{Unveil as ByUnveil}
use Rattle.pv_model.specs.declared.outcome.Outcome.TheVariants.{Failed}
use Rattle.pv_model.specs.declared.perms.Perms.{Perms}
use Rattle.pv_model.specs.declared.target.Target.{Target}
use Rattle.pv_model.specs.Machine.{answer, permissions_lacked, is_complete, AnswerLine, answer_line, Judged, first_of, target_words, Observation, groups, is_unveil, Request, Requests, Bytes, no_permissions, join_permissions, covers, calls_for, next, Promises, Need, is_met, Program, Process, State, process_at, step, run, Tree, Table, same_target, permissions_at}
use Rattle.pv_model.specs.Answers.Explain.{need_text}
use Rattle.pv_model.specs.Answers.Explore.{by_line}
use Rattle.pv_model.specs.Answers.Policy.{request_program_key, requests, needs_with, promises_in_use, with_need, promise_lines, walks_asked, new_permissions_lines, target_lines}
use Rattle.pv_laws_answers.specs.ProcessImages.{with_promises, with_own_table, governing_target, GrantsAt}
use Rattle.pv_laws_answers.specs.Search.{IsSearchable}
use Rattle.pv_laws_answers.specs.Wanted.{reports_need, reports_of_table}
use Rattle.pv_laws_answers.specs.Witnesses.{AreSteps}

-- ---- the listed promises

-- a listed need, with the first call that has it
abbrev pub ListedNeed : Type 0
ListedNeed = Need × Observation Request

-- the first of some needs that a call has
abbrev pub listed_or : Option ListedNeed → Need → Option (Observation Request) → Option ListedNeed
listed_or rest need None = rest
listed_or rest need (Some r) = Some (need, r)

abbrev pub first_listed : Requests → List Need → Option ListedNeed
first_listed rs [] = None
first_listed rs (need ∷ others) = listed_or (first_listed rs others) need (first_of (with_need rs need))

-- the listed needs of a program: for each promise the promise itself if a call needs it, or else the alternatives that
-- begin with it if a call needs these
abbrev pub needs_listed : Requests → List ListedNeed
needs_listed rs = filter_map (λ p. first_listed rs (needs_with p)) promises_in_use

abbrev pub lines_of_need : ListedNeed → List AnswerLine
lines_of_need (need, r) =
    by_line r.move ∷ answer_line r.move.pid (codes "PLDG") (need_text need ++ codes ", line " ++ decimal r.item.asked.line) ∷ []

-- the lines PLDG of a program are those of its listed needs
abbrev pub PromiseLinesAreOfNeeds : Type 0
PromiseLinesAreOfNeeds = (rs : Requests) → promise_lines rs ≡ flat_map lines_of_need (needs_listed rs)

-- the promises meet all listed needs
abbrev pub MeetsAll : Promises → Requests → Type 0
MeetsAll set rs = (l : ListedNeed) → Contains (needs_listed rs) l → IsTrue (is_met (Some set) l.0)

-- the programs, each with its calls
abbrev pub calling_programs : (Bytes → Option Program) → ℕ → State → List (Observation Request × Requests)
calling_programs program_of limit s = groups request_program_key (requests program_of limit s)

-- ---- the laws

-- if the search is complete, each program that makes a call in some schedule is listed
abbrev pub CallingProgramsAreListed : Type 0
CallingProgramsAreListed =
    (program_of : Bytes → Option Program) (limit : ℕ) (s : State) (pids : List ℕ) (pid : ℕ) (p : Process) (call : Call) → IsSearchable program_of limit s → IsTrue (is_complete program_of limit s)
    → process_at (run program_of pids s).final pid ≡ Some p → next p ≡ calls_for call
    → (group : Observation Request × Requests) × Contains (calling_programs program_of limit s) group × (group.0.item.process.program ≡ p.program)

-- if the search is complete, no step of a program in any schedule lacks a promise, if it is made with promises that meet
-- all needs that are listed for the program
abbrev pub PolicyPromisesAreEnough : Type 0
PolicyPromisesAreEnough =
    (program_of : Bytes → Option Program) (limit : ℕ) (s : State) (group : Observation Request × Requests) (pids : List ℕ) (pid : ℕ) (p : Process) (set : Promises) → IsSearchable program_of limit s
    → IsTrue (is_complete program_of limit s) → Contains (calling_programs program_of limit s) group → process_at (run program_of pids s).final pid ≡ Some p → p.program ≡ group.0.item.process.program
    → MeetsAll set group.1 → IsFalse (reports_need (step program_of (with_promises (run program_of pids s).final pid set) pid).lines)

-- a step at the end of its witness lacks a promise if it is made with these promises
pub record IsRefusedWith (program_of : Bytes → Option Program) (s : State) (set : Promises) (r : Observation Request) : Type 0 where
  pub before : List ℕ
  pub witness : r.move.witness ≡ before ++ r.move.pid ∷ []
  pub steps : AreSteps program_of r.move.witness s
  pub refused : IsTrue (reports_need (step program_of (with_promises (run program_of before s).final r.move.pid set) r.move.pid).lines)

-- with promises that do not meet a listed need, the last step of its witness lacks a promise, whether the search is
-- complete or not
abbrev pub PolicyPromisesAreNeeded : Type 0
PolicyPromisesAreNeeded =
    (program_of : Bytes → Option Program) (limit : ℕ) (s : State) (group : Observation Request × Requests) (l : ListedNeed) (set : Promises) → IsSearchable program_of limit s
    → Contains (calling_programs program_of limit s) group → Contains (needs_listed group.1) l → IsFalse (is_met (Some set) l.0) → IsRefusedWith program_of s set l.1

-- ---- the listed permissions

abbrev pub joined_permissions : List (Observation Judged) → Perms
joined_permissions [] = no_permissions
joined_permissions (w ∷ ws) = join_permissions w.item.permissions (joined_permissions ws)

-- the permissions that the calls of a program ask at targets with these words
abbrev pub permissions_at_words : Requests → Bytes → Perms
permissions_at_words rs words = joined_permissions (filter (λ w. bytes_eq w.item.words words) (walks_asked rs))

-- some call of a program asks at targets with these words
abbrev pub asks_at_words : Requests → Bytes → Bool
asks_at_words rs words = list_any (λ w. bytes_eq w.item.words words) (walks_asked rs)

-- a table gives at a target all permissions that the program asks at targets with its words
abbrev pub GrantsDemands : Requests → Tree → Table → Target → Type 0
GrantsDemands rs t table target = IsTrue (asks_at_words rs (target_words t target)) → GrantsAt t table target (permissions_at_words rs (target_words t target))

-- if the search is complete, no call of a program in any schedule has an UNVL line of a check, if it is made with a
-- table that gives the permissions that the program asks for; except for a second walk whose call was refused at the
-- first in that state
abbrev pub ListedPermissionsAreEnough : Type 0
ListedPermissionsAreEnough =
    (program_of : Bytes → Option Program) (limit : ℕ) (s : State) (group : Observation Request × Requests) (pids : List ℕ) (pid : ℕ) (p : Process) (call : Call) (table : Table)
    → IsSearchable program_of limit s → IsTrue (is_complete program_of limit s) → Contains (calling_programs program_of limit s) group
    → process_at (run program_of pids s).final pid ≡ Some p → p.program ≡ group.0.item.process.program → next p ≡ calls_for call → IsFalse (is_unveil call)
    → ((target : Target) → GrantsDemands group.1 (run program_of pids s).final.tree table target)
    → IsTrue (reports_of_table (step program_of (with_own_table (run program_of pids s).final pid table) pid).lines)
    → ((answer program_of (with_own_table (run program_of pids s).final pid table) pid call).walks ≡ 2) × ((answer program_of (run program_of pids s).final pid call).walks ≡ 1)
    × IsTrue (reports_of_table (step program_of (run program_of pids s).final pid).lines)

-- a table gives the permissions that the program asks for, except at one target, where the entry that governs it lacks
-- a permission
pub record GrantsDemandsExcept (rs : Requests) (t : Tree) (table : Table) (target : Target) (permission : Perms) (k : ℕ) : Type 0 where
  pub governs : governing_target t table target ≡ Some k
  pub lacks : IsFalse (covers (permissions_at table k) permission)
  pub others : (other : Target) → IsFalse (same_target other target) → GrantsDemands rs t table other

-- that entry then refuses each call of the search that asked for the permission there
abbrev pub ListedPermissionsAreNeeded : Type 0
ListedPermissionsAreNeeded =
    (program_of : Bytes → Option Program) (limit : ℕ) (s : State) (group : Observation Request × Requests) (r : Observation Request) (w : Judged) (table : Table) (permission : Perms) (k : ℕ)
    → IsSearchable program_of limit s → Contains (calling_programs program_of limit s) group → Contains group.1 r → Contains r.item.asked.walks w → IsTrue (covers w.permissions permission)
    → GrantsDemandsExcept group.1 r.item.before.tree table w.target permission k
    → (answer program_of (with_own_table r.item.before r.move.pid table) r.move.pid r.item.call).outcome ≡ Failed EACCES (ByUnveil (Some k))

-- the permissions that walks ask and no earlier one of them asked, each with its walk
abbrev pub newly_asked : Perms → List (Observation Judged) → List (Perms × Observation Judged)
newly_asked had [] = []
newly_asked had (w ∷ ws) = (permissions_lacked had w.item.permissions, w) ∷ newly_asked (join_permissions had w.item.permissions) ws

abbrev pub joined_new : List (Perms × Observation Judged) → Perms
joined_new [] = no_permissions
joined_new (l ∷ ls) = join_permissions l.0 (joined_new ls)

-- the walks to targets with the same words
abbrev pub walks_by_words : Requests → List (Observation Judged × List (Observation Judged))
walks_by_words rs = groups (λ w. w.item.words) (walks_asked rs)

-- the lines UNVL of a program are those of the permissions that are newly asked at each target in words, which are
-- together all permissions that are asked there
pub record TargetLinesOf (rs : Requests) : Type 0 where
  pub lines : target_lines rs ≡ flat_map (λ g. flat_map (λ l. new_permissions_lines l.0 l.1) (newly_asked no_permissions g.1)) (walks_by_words rs)
  pub all : (g : Observation Judged × List (Observation Judged)) → Contains (walks_by_words rs) g → joined_new (newly_asked no_permissions g.1) ≡ permissions_at_words rs g.0.item.words

abbrev pub TargetLinesAreOfPermissions : Type 0
TargetLinesAreOfPermissions = (rs : Requests) → TargetLinesOf rs
