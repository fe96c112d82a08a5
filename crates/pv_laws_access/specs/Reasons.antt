-- Laws of the results of an audit: they agree with the conditions of closed and frozen, and the reported reason is the
-- first.
use Rattle.std.specs.Prelude.{◌≡◌, ◌≢◌, ◌↔◌, ℕ, IsTrue, IsFalse, List, [], ◌∷◌, ◌++◌, None, Some}
use Rattle.std.specs.List.{list_all}
use Rattle.pv_model.specs.declared.verdict.Leak.{Leak}
use Rattle.pv_model.specs.declared.verdict.Verdict.TheVariants.{Sealed, Frozen, Exposed}
use Rattle.pv_model.specs.declared.verdict.Why.{Why}
use Rattle.pv_model.specs.Machine.{is_empty, live_processes, leaks, Process, State, names_of, IsWellFormed}
use Rattle.pv_model.specs.Closed.{IsClosed, IsFrozenTo, IsReason, IsNoLater}
use Rattle.pv_model.specs.Sealed.{is_frozen_to, first_leak, is_sealed, is_frozen, verdict}

-- the list of leaks is empty if and only if the process is closed to the file
abbrev pub LeaksNothingIfClosed : Type 0
LeaksNothingIfClosed = (s : State) (p : Process) (f : ℕ) → IsWellFormed s.tree → (leaks s p f ≡ []) ↔ IsClosed s p f

-- the test for frozen agrees with the conditions
abbrev pub FrozenToIsTested : Type 0
FrozenToIsTested = (s : State) (p : Process) (f : ℕ) → IsWellFormed s.tree → IsTrue (is_frozen_to s p f) ↔ IsFrozenTo s p f

-- the first leak is a reason, and no reason comes before it
pub record IsFirstReason (s : State) (p : Process) (f : ℕ) (why : Why) : Type 0 where
  pub holds : IsReason s p f why
  pub first : (other : Why) → IsReason s p f other → IsNoLater why other

abbrev pub FirstLeakIsFirstReason : Type 0
FirstLeakIsFirstReason =
    (s : State) (p : Process) (f : ℕ) (why : Why) (whys : List Why) → IsWellFormed s.tree → leaks s p f ≡ why ∷ whys → IsFirstReason s p f why

-- the first of the live processes that leaks the file, with its first reason
pub record IsFirstLeak (s : State) (f : ℕ) (live : List (ℕ × Process)) (pid : ℕ) (why : Why) : Type 0 where
  pub process : Process
  pub before : List (ℕ × Process)
  pub following : List (ℕ × Process)
  pub appears : live ≡ before ++ (pid, process) ∷ following
  pub quiet : IsTrue (list_all (λ p. is_empty (leaks s p.1 f)) before)
  pub whys : List Why
  pub leaks : leaks s process f ≡ why ∷ whys

-- the reported leak is that of the first live process that leaks the file, with its first reason
abbrev pub FirstLeakIsOfFirstProcess : Type 0
FirstLeakIsOfFirstProcess =
    (s : State) (f pid : ℕ) (why : Why) → (first_leak s f (live_processes s.processes) ≡ Some (pid, why)) ↔ IsFirstLeak s f (live_processes s.processes) pid why

-- a verdict is exact, and exists if and only if the file has a name
pub record IsExact (s : State) (f : ℕ) : Type 0 where
  pub none : (verdict s f ≡ None) ↔ (names_of s.tree f ≡ [])
  pub sealed : (verdict s f ≡ Some Sealed) ↔ (IsTrue (is_sealed s f) × IsFalse (is_frozen s f))
  pub frozen : (verdict s f ≡ Some Frozen) ↔ IsTrue (is_frozen s f)
  pub exposed : (leak : Leak) → (verdict s f ≡ Some (Exposed leak)) ↔ ((names_of s.tree f ≢ []) × (first_leak s f (live_processes s.processes) ≡ Some (leak.pid, leak.why)))

abbrev pub VerdictsAreExact : Type 0
VerdictsAreExact = (s : State) (f : ℕ) → IsExact s f
