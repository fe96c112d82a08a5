-- The calls of one program image of a process, and their outcomes with other promises or another table.
use Rattle.std.specs.Prelude.{◌≡◌, ◌≢◌, ℕ, Bool, false, if◌then◌else◌, ◌==◌, IsTrue, IsFalse, List, [], ◌∷◌, ◌++◌, map, Contains, Option, None, Some}
use Rattle.std.specs.List.{list_any}
use Rattle.std.specs.Option.{option_or}
use Rattle.pv_model.specs.declared.call.Call.{Call}
use Rattle.pv_model.specs.declared.errno.Errno.TheVariants.{EACCES}
use Rattle.pv_model.specs.declared.outcome.Cause.TheVariants.{Unveil as ByUnveil}
use Rattle.pv_model.specs.declared.outcome.Outcome.TheVariants.{Failed}
use Rattle.pv_model.specs.declared.perms.Perms.{Perms}
use Rattle.pv_model.specs.declared.promise.Promise.{Promise}
use Rattle.pv_model.specs.declared.target.Target.{Target}
use Rattle.pv_model.specs.declared.target.Target.TheVariants.{Directory, Name}
use Rattle.pv_model.specs.Machine.{answer, update, Judged, Asked, asked, same_promise, walks_judged, walks_to, Bytes, needs, covers, calls_for, next, Promises, contains, Need, is_met, Program, Process, State, process_at, step, run, Tree, Table, same_target, entry_for, permissions_at, directory_rights, is_unveil}
use Rattle.pv_model.specs.Answers.Needs.{asked_in, asked_by_one, process_images, needing, targets_in, permissions_asked}
use Rattle.pv_laws_answers.specs.Wanted.{reports_need, reports_of_table}

-- ---- the calls of a program image

-- a call of a run: the state in which it is made, and its needs
pub record Moment : Type 0 where
  pub state : State
  pub asked : Asked

abbrev pub and_moment : State → Option Asked → List Moment → List Moment
and_moment s None rest = rest
and_moment s (Some now) rest = record { state = s; asked = now } ∷ rest

-- the calls of a process in a run
abbrev pub moments : (Bytes → Option Program) → ℕ → List ℕ → State → List Moment
moments program_of pid [] s = []
moments program_of pid (k ∷ ks) s =
    let rest = moments program_of pid ks (step program_of s k).after in if k == pid then and_moment s (asked program_of s k) rest else rest

abbrev pub onto_moments : Moment → List (List Moment) → List (List Moment)
onto_moments now [] = (now ∷ []) ∷ []
onto_moments now (process_image ∷ rest) = if now.asked.ends_process_image then (now ∷ []) ∷ process_image ∷ rest else (now ∷ process_image) ∷ rest

-- the calls grouped by program image
abbrev pub process_images_of : List Moment → List (List Moment)
process_images_of [] = []
process_images_of (now ∷ rest) = onto_moments now (process_images_of rest)

abbrev pub demands_of_moments : List Moment → List Asked
demands_of_moments process_image = map (λ m. m.asked) process_image

-- the program images that the text lists consist of these calls
abbrev pub ProcessImagesAreOfCalls : Type 0
ProcessImagesAreOfCalls =
    (program_of : Bytes → Option Program) (pids : List ℕ) (s : State) (pid : ℕ)
    → map demands_of_moments (process_images_of (moments program_of pid pids s)) ≡ process_images (asked_by_one (asked_in program_of pids s) pid)

-- a call of a program image of a process in a run
pub record IsCallOf (program_of : Bytes → Option Program) (pids : List ℕ) (s : State) (pid : ℕ) (process_image : List Moment) (m : Moment) : Type 0 where
  pub of_run : Contains (process_images_of (moments program_of pid pids s)) process_image
  pub of_process_image : Contains process_image m

-- the call is made in a state of the run
pub record IsMadeIn (program_of : Bytes → Option Program) (pids : List ℕ) (s : State) (pid : ℕ) (m : Moment) : Type 0 where
  pub before : List ℕ
  pub after : List ℕ
  pub parts : pids ≡ before ++ pid ∷ after
  pub state : m.state ≡ (run program_of before s).final
  pub asks : asked program_of m.state pid ≡ Some m.asked

abbrev pub ProcessImagesAreOfTheRun : Type 0
ProcessImagesAreOfTheRun =
    (program_of : Bytes → Option Program) (pids : List ℕ) (s : State) (pid : ℕ) (process_image : List Moment) (m : Moment) → IsCallOf program_of pids s pid process_image m → IsMadeIn program_of pids s pid m

-- ---- other promises

-- the state with the promises of a process replaced
abbrev pub with_promises : State → ℕ → Promises → State
with_promises s pid set = update s pid (λ p. record p { promises = Some set })

-- a promise is listed for a program image, that is, one of its calls needed it
abbrev pub IsPromiseListed : Promise → List Moment → Type 0
IsPromiseListed a process_image = needing a (demands_of_moments process_image) ≢ []

-- if the process has all listed promises throughout, no promise kills it or refuses a call of the program image
abbrev pub ListedPromisesAreEnough : Type 0
ListedPromisesAreEnough =
    (program_of : Bytes → Option Program) (pids : List ℕ) (s : State) (pid : ℕ) (process_image : List Moment) (m : Moment) (set : Promises) → IsCallOf program_of pids s pid process_image m
    → ((a : Promise) → IsPromiseListed a process_image → IsTrue (contains set a)) → IsFalse (reports_need (step program_of (with_promises m.state pid set) pid).lines)

-- a need is counted for its first promise
abbrev pub is_counted_for : Promise → Need → Bool
is_counted_for a [] = false
is_counted_for a (b ∷ others) = same_promise a b

-- the promises meet no need of the call that is counted for the promise; for rpath, wpath may be an alternative
abbrev pub IsUnmet : Promises → Call → Promise → Type 0
IsUnmet set call a = (need : Need) → Contains (needs call) need → IsTrue (is_counted_for a need) → IsFalse (is_met (Some set) need)

-- if the process lacks a listed promise, each call that needed it is killed or refused
abbrev pub ListedPromisesAreNeeded : Type 0
ListedPromisesAreNeeded =
    (program_of : Bytes → Option Program) (pids : List ℕ) (s : State) (pid : ℕ) (process_image : List Moment) (m : Moment) (set : Promises) (a : Promise) (p : Process) (call : Call)
    → IsCallOf program_of pids s pid process_image m → process_at m.state pid ≡ Some p → next p ≡ calls_for call → IsTrue (list_any (same_promise a) m.asked.promises) → IsUnmet set call a
    → IsTrue (reports_need (step program_of (with_promises m.state pid set) pid).lines)

-- ---- another table

-- the state with the table of a process replaced
abbrev pub with_own_table : State → ℕ → Table → State
with_own_table s pid table = update s pid (λ p. record p { table = Some table })

-- the entry that governs a target
abbrev pub governing_target : Tree → Table → Target → Option ℕ
governing_target t table (Directory n) = directory_rights t table n
governing_target t table (Name d name) = option_or (entry_for table (Name d name)) (directory_rights t table d)

-- the entry that governs a target grants the permissions
abbrev pub GrantsAt : Tree → Table → Target → Perms → Type 0
GrantsAt t table target asked = (k : ℕ) × (governing_target t table target ≡ Some k) × IsTrue (covers (permissions_at table k) asked)

-- the targets listed for a program image, and the permissions listed for a target
abbrev pub targets_listed : List Moment → List Judged
targets_listed process_image = targets_in (walks_judged (demands_of_moments process_image))

abbrev pub permissions_listed : List Moment → Judged → Perms
permissions_listed process_image target = permissions_asked (walks_to target (walks_judged (demands_of_moments process_image)))

-- a table grants all listed permissions at each listed target
abbrev pub GrantsListed : List Moment → Table → State → Type 0
GrantsListed process_image table s = (target : Judged) → Contains (targets_listed process_image) target → GrantsAt s.tree table target.target (permissions_listed process_image target)

-- with such a table in place of the process's own, no call has an UNVL line, except for a second walk whose call was
-- refused at the first walk in the run
abbrev pub ImagePermissionsAreEnough : Type 0
ImagePermissionsAreEnough =
    (program_of : Bytes → Option Program) (pids : List ℕ) (s : State) (pid : ℕ) (process_image : List Moment) (m : Moment) (table : Table) (p : Process) (call : Call)
    → IsCallOf program_of pids s pid process_image m → process_at m.state pid ≡ Some p → next p ≡ calls_for call → IsFalse (is_unveil call) → GrantsListed process_image table m.state
    → IsTrue (reports_of_table (step program_of (with_own_table m.state pid table) pid).lines)
    → ((answer program_of (with_own_table m.state pid table) pid call).walks ≡ 2) × ((answer program_of m.state pid call).walks ≡ 1)
    × IsTrue (reports_of_table (step program_of m.state pid).lines)

-- a table grants all of them, except at one target, where the entry that governs it lacks a permission
pub record GrantsListedExcept (process_image : List Moment) (table : Table) (s : State) (target : Target) (letter : Perms) (k : ℕ) : Type 0 where
  pub governs : governing_target s.tree table target ≡ Some k
  pub lacks : IsFalse (covers (permissions_at table k) letter)
  pub others : (other : Judged) → Contains (targets_listed process_image) other → IsFalse (same_target other.target target) → GrantsAt s.tree table other.target (permissions_listed process_image other)

-- that entry then refuses each call that needed the permission there
abbrev pub ImagePermissionsAreNeeded : Type 0
ImagePermissionsAreNeeded =
    (program_of : Bytes → Option Program) (pids : List ℕ) (s : State) (pid : ℕ) (process_image : List Moment) (m : Moment) (table : Table) (p : Process) (call : Call) (judged : Judged) (letter : Perms) (k : ℕ)
    → IsCallOf program_of pids s pid process_image m → process_at m.state pid ≡ Some p → next p ≡ calls_for call → GrantsListedExcept process_image table m.state judged.target letter k
    → Contains m.asked.walks judged → IsTrue (covers judged.permissions letter)
    → (answer program_of (with_own_table m.state pid table) pid call).outcome ≡ Failed EACCES (ByUnveil (Some k))
