-- Steps that execute a program, before and after a step of another process.
use Rattle.std.proofs.Common.{◌≡◌, ◌≢◌, ℕ, pos, Option, None, Some, refl, ap, sym, subst}
use Rattle.pv_model.specs.declared.call.Call.{Call}
use Rattle.pv_model.specs.declared.call.Call.TheVariants as TheCall
use Rattle.pv_model.specs.declared.outcome.Outcome.TheVariants.{Killed}
use Rattle.pv_model.specs.declared.promise.Promise.{Promise}
use Rattle.pv_model.specs.Machine.{at_next_line, effect, Attempt, done, ◌>>=◌, ◌>>◌, Bytes, with_result, with_program, Effect, returns, needs, calls_for, next, missing_promise, Program, Process, State, process_at, with_process, with_tree, step}
use Rattle.pv_laws_states.specs.States.{EncodesPrograms, IsValid}
use Rattle.pv_laws_states.proofs.ValidByProcess.{preserved_descriptor}
use Rattle.pv_laws_steps.specs.Beside.{become}
use Rattle.pv_laws_steps.specs.Commuting.{Commute}
use Rattle.pv_laws_steps.specs.Holding.{LeavesOpenFiles, LeavesTree}
use Rattle.pv_laws_steps.proofs.ChangedProcess.{KeepsParent}
use Rattle.pv_laws_steps.proofs.OtherReferences.{UsesNoMore}
use Rattle.pv_laws_steps.proofs.IndependentSteps.{commute-where}
use Rattle.pv_laws_steps.proofs.ParentIndependence.{orphan}
use Rattle.pv_laws_steps.proofs.OwnSteps.{Becomes, becomes-bind, becomes-then, becomes-there, become-commute, own-commute}
use Rattle.pv_laws_steps.proofs.ExchangedSteps.{after_k, heir}

-- ---- the effect of the call

-- the process with a new program
abbrev Begins : State → ℕ → Process → Process → Type 0
Begins s j now q = (program : Program) × (q ≡ with_program s j now program)

module _ (s t : State) (j n : ℕ) (now : Process) (tree : t.tree ≡ s.tree) where
  abbrev x : State
  x = with_process s j now

  abbrev y : State
  y = with_process t j (orphan n now)

  abbrev y' : State
  y' = with_tree y s.tree

  abbrev E : Attempt Effect → Attempt Effect → Type 0
  E = Becomes s t j n now (Begins s j now)

  begins-bind : {B : Type 0} (a : Attempt B) (g h : B → Attempt Effect) → ((v : B) → E (g v) (h v)) → E (a >>= g) (a >>= h)
  begins-bind = becomes-bind s t j n now (Begins s j now)

  begins-then : {B : Type 0} (a : Attempt B) (g h : Attempt Effect) → E g h → E (a >> g) (a >> h)
  begins-then = becomes-then s t j n now (Begins s j now)

  begins : (program : Program) → E (done 0 (with_process x j (with_program x j now program), returns 0)) (done 0 (with_process y' j (with_program y' j (orphan n now) program), returns 0))
  begins program = becomes-there s t j n now (Begins s j now) tree (with_program s j now program) (program, refl)

  ruleset parts = (begins-bind, begins-then, begins)

  execve-by : (program_of : Bytes → Option Program) (path : Bytes) → E (effect program_of x j now (TheCall.Execve path)) (effect program_of y' j (orphan n now) (TheCall.Execve path))
  unfolding effect
  execve-by program_of path = search parts depth 20

  pub execve-becomes : (program_of : Bytes → Option Program) (path : Bytes) → E (effect program_of x j now (TheCall.Execve path)) (effect program_of y j (orphan n now) (TheCall.Execve path))
  execve-becomes program_of path = subst (λ u. E (effect program_of x j now (TheCall.Execve path)) (effect program_of (with_tree y u) j (orphan n now) (TheCall.Execve path))) (sym tree) (execve-by program_of path)

-- ---- the step

module _ (program_of : Bytes → Option Program) (encodes : EncodesPrograms program_of) (s : State) (j k : ℕ) (p : Process) (path : Bytes) (whole : IsValid s) (apart : j ≢ k) (at : process_at s j ≡ Some p)
    (comes : next p ≡ calls_for (TheCall.Execve path)) (leaves : LeavesTree program_of s j) (files : LeavesOpenFiles program_of s j) (way : LeavesTree program_of s k) where
  abbrev t : State
  t = after_k program_of encodes s j k p whole apart at

  abbrev n : ℕ
  n = heir program_of encodes s j k p whole apart at

  abbrev call : Call
  call = TheCall.Execve path

  abbrev now : Process
  now = at_next_line p

  -- the process after the call, whatever it was
  abbrev f : Program → Process → Process
  f program = become (with_result (with_program s j now program) (pos 0) 0)

  keeps : (program : Program) → KeepsParent (f program)
  keeps program = record { same = λ r. refl; whoever = λ r m. refl }

  fewer : (program : Program) → UsesNoMore p.descriptors (f program p).descriptors
  fewer program i v has = (i, v, preserved_descriptor p.descriptors i v has, refl)

  execve-commutes : missing_promise p.promises (needs (TheCall.Execve path)) ≡ None → Commute program_of s j k
  execve-commutes held =
      become-commute program_of encodes s j k p whole apart at call comes held (Begins s j now) (execve-becomes s t j n now way program_of path)
      (λ w q such one two.
      own-commute program_of encodes s j k p whole apart at call comes held (f such.0) (keeps such.0) (fewer such.0) w 0 q (ap (λ r. with_result r (pos 0) 0) (sym such.1)) one two leaves files)

  pub execves-commute : ((a : Promise) → (step program_of s j).outcome ≢ Killed a) → Commute program_of s j k
  execves-commute alive = commute-where program_of encodes s j k p call whole apart at comes alive execve-commutes
