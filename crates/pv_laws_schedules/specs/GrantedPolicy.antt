-- Laws of `policy --granted`: the promises and permissions that the granted calls of each program need.
use Rattle.std.specs.Prelude.{◌≡◌, ℕ, IsTrue, IsFalse, List, [], ◌∷◌, ◌++◌, Contains, Option, Some}
use Rattle.std.specs.List.{list_any}
use Rattle.pv_model.specs.declared.call.Call.{Call}
use Rattle.pv_model.specs.declared.errno.Errno.TheVariants.{EACCES}
use Rattle.pv_model.specs.declared.outcome.Cause.TheVariants.{Unveil as ByUnveil}
use Rattle.pv_model.specs.declared.outcome.Outcome.TheVariants.{Failed}
use Rattle.pv_model.specs.declared.perms.Perms.{Perms}
use Rattle.pv_model.specs.declared.target.Target.{Target}
use Rattle.pv_model.specs.Machine.{answer, is_complete, Judged, is_refused, Observation, of_calls, groups, is_unveil, Request, Requests, Bytes, needs, covers, calls_for, next, Promises, is_met, Program, Process, State, process_at, step, run, Table}
use Rattle.pv_model.specs.Answers.Policy.{granted_calls, request_program_key, request, requests, same_need, walks_asked}
use Rattle.pv_laws_answers.specs.ProcessImages.{with_promises, with_own_table}
use Rattle.pv_laws_answers.specs.Search.{IsSearchable}
use Rattle.pv_laws_answers.specs.Wanted.{reports_need, reports_of_table}
use Rattle.pv_laws_answers.specs.Witnesses.{AreSteps}
use Rattle.pv_laws_classes.specs.Reduced.{is_reduced_complete}
use Rattle.pv_laws_classes.specs.ReducedAnswers.{reduced_requests}
use Rattle.pv_laws_schedules.specs.Policy.{ListedNeed, MeetsAll, needs_listed, IsRefusedWith, GrantsDemands, GrantsDemandsExcept}

-- a program, with its calls
abbrev pub Calling : Type 0
Calling = Observation Request × Requests

-- the programs of a search, each with its granted calls
abbrev pub granted_programs : Requests → List Calling
granted_programs rs = groups request_program_key (granted_calls rs)

-- ---- granted calls ask for the listed needs

module _ (program_of : Bytes → Option Program) (s : State) where
  -- a call is the last step of its witness, and neither a promise nor a table refused it
  pub record IsGranted (r : Observation Request) : Type 0 where
    pub before : List ℕ
    pub witness : r.move.witness ≡ before ++ r.move.pid ∷ []
    pub steps : AreSteps program_of r.move.witness s
    pub item : Contains (of_calls (request program_of) (run program_of before s).final r.move.pid (step program_of (run program_of before s).final r.move.pid)) r.item
    pub granted : IsFalse (is_refused (step program_of (run program_of before s).final r.move.pid).outcome)

  -- a walk is one of a call
  pub record IsWalkOf (rs : Requests) (w : Observation Judged) : Type 0 where
    pub call : Observation Request
    pub within : Contains rs call
    pub walk : Contains call.item.asked.walks w.item
    pub move : w.move ≡ call.move

  -- the calls of a program are granted; each listed need and each walk with listed permissions is of one of them, which is
  -- refused with less
  pub record IsOfGranted (group : Calling) : Type 0 where
    pub calls : (r : Observation Request) → Contains group.1 r → IsGranted r
    pub needs_of : (l : ListedNeed) → Contains (needs_listed group.1) l → Contains group.1 l.1 × IsTrue (list_any (same_need l.0) (needs l.1.item.call))
    pub walks_of : (w : Observation Judged) → Contains (walks_asked group.1) w → IsWalkOf group.1 w
    pub less_promises : (l : ListedNeed) (set : Promises) → Contains (needs_listed group.1) l → IsFalse (is_met (Some set) l.0) → IsRefusedWith program_of s set l.1
    pub less_permissions :
        (r : Observation Request) (w : Judged) (table : Table) (permission : Perms) (k : ℕ) → Contains group.1 r → Contains r.item.asked.walks w
        → IsTrue (covers w.permissions permission) → GrantsDemandsExcept group.1 r.item.before.tree table w.target permission k
        → (answer program_of (with_own_table r.item.before r.move.pid table) r.move.pid r.item.call).outcome ≡ Failed EACCES (ByUnveil (Some k))

-- this holds for each listed program, whether the search is complete or not
abbrev pub ListedNeedsAreGranted : Type 0
ListedNeedsAreGranted =
    (program_of : Bytes → Option Program) (limit : ℕ) (s : State) (group : Calling) → IsSearchable program_of limit s
    → Contains (granted_programs (requests program_of limit s)) group → IsOfGranted program_of s group

-- and by the reduced search
abbrev pub ListedNeedsAreGrantedReduced : Type 0
ListedNeedsAreGrantedReduced =
    (program_of : Bytes → Option Program) (limit : ℕ) (s : State) (group : Calling) → IsSearchable program_of limit s
    → Contains (granted_programs (reduced_requests program_of limit s)) group → IsOfGranted program_of s group

-- ---- granted calls need no more

module _ (program_of : Bytes → Option Program) (u : State) (pid : ℕ) where
  -- the next step of a process is a call, and neither a promise nor a table refuses it
  pub record CallsGranted (p : Process) (call : Call) : Type 0 where
    pub live : process_at u pid ≡ Some p
    pub calls : next p ≡ calls_for call
    pub granted : IsFalse (is_refused (step program_of u pid).outcome)

  -- the step lacks no promise if it is made with promises that meet all listed needs, and has no UNVL line of a check if
  -- it is made with a table that gives all listed permissions
  pub record IsEnoughFor (call : Call) (group : Calling) : Type 0 where
    pub promises : (set : Promises) → MeetsAll set group.1 → IsFalse (reports_need (step program_of (with_promises u pid set) pid).lines)
    pub permissions :
        (table : Table) → IsFalse (is_unveil call) → ((target : Target) → GrantsDemands group.1 u.tree table target)
        → IsFalse (reports_of_table (step program_of (with_own_table u pid table) pid).lines)

  -- the program is listed, and its listed needs are enough for the step
  pub record NeedsNoMore (p : Process) (call : Call) (rs : Requests) : Type 0 where
    pub listed : (group : Calling) × Contains (granted_programs rs) group × (group.0.item.process.program ≡ p.program)
    pub enough : (group : Calling) → Contains (granted_programs rs) group → p.program ≡ group.0.item.process.program → IsEnoughFor call group

-- this holds for each granted call in any schedule, if the search is complete
abbrev pub GrantedCallsNeedNoMore : Type 0
GrantedCallsNeedNoMore =
    (program_of : Bytes → Option Program) (limit : ℕ) (s : State) (pids : List ℕ) (pid : ℕ) (p : Process) (call : Call) → IsSearchable program_of limit s → IsTrue (is_complete program_of limit s)
    → CallsGranted program_of (run program_of pids s).final pid p call → NeedsNoMore program_of (run program_of pids s).final pid p call (requests program_of limit s)

-- and by the reduced search
abbrev pub GrantedCallsNeedNoMoreReduced : Type 0
GrantedCallsNeedNoMoreReduced =
    (program_of : Bytes → Option Program) (limit : ℕ) (s : State) (pids : List ℕ) (pid : ℕ) (p : Process) (call : Call) → IsSearchable program_of limit s → IsTrue (is_reduced_complete program_of s limit)
    → AreSteps program_of pids s → CallsGranted program_of (run program_of pids s).final pid p call
    → NeedsNoMore program_of (run program_of pids s).final pid p call (reduced_requests program_of limit s)
