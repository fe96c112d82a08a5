-- The data of a step can be written: the place of a refused walk is in a directory, and bytes have their size.
use Rattle.std.proofs.Common.{◌≡◌, ◌⊎◌, inl, inr, ◌∙◌, ℕ, zero, suc, true, [], length, take, Option, None, Some, Result, Ok, Err, refl, ap, sym, subst, arith}
use Rattle.std.proofs.lemmas.List.{length-take-le}
use Rattle.pv_model.specs.declared.call.Call.{Call}
use Rattle.pv_model.specs.declared.call.Call.TheVariants.{Wait, Stat, Lstat, Fstat, Write}
use Rattle.pv_model.specs.declared.errno.Errno.{Errno}
use Rattle.pv_model.specs.declared.limits.TheConstants.{BUFFER}
use Rattle.pv_model.specs.declared.outcome.Cause.{Cause}
use Rattle.pv_model.specs.declared.outcome.Outcome.{Outcome}
use Rattle.pv_model.specs.declared.outcome.Outcome.TheVariants.{Value, Text, Failed, Killed, Exited, Blocked, Gone}
use Rattle.pv_model.specs.declared.outcome.Taken.{Taken}
use Rattle.pv_model.specs.declared.place.Place.{Place}
use Rattle.pv_model.specs.Machine.{Answered, answer, Attempt, done, refused, Bytes, call_of, check_start, end_of, start_directory, program_of, Process, State, process_at, place_found, buffer_of, unveil_words, Tree, is_directory_at, resolve, Walk, walk_number, walks_of}
use Rattle.pv_laws_states.specs.Calls.{IsUnharmed}
use Rattle.pv_laws_states.specs.States.{IsValid}
use Rattle.pv_laws_states.proofs.AttemptValues.{Leads}
use Rattle.pv_laws_states.proofs.CallOutcomes.{refused-unharmed}
use Rattle.pv_laws_states.proofs.WalkStarts.{StartsWell, leads-start}
use Rattle.pv_session.specs.OfCallsPath.Ends.{end_begun, end_of_some, if_given}
use Rattle.pv_trace.specs.Steps.{moved_by}
use Rattle.pv_answers.specs.OfUnveil.Up.{directory_of_place}
use Rattle.pv_answers.proofs.OfUnveil.ClimbSteps.{resolve-directory}
use Rattle.pv_step_lines.specs.declared.making.MadeCall.{MadeCall}
use Rattle.pv_step_lines.specs.declared.making.MadeStep.{MadeStep}
use Rattle.pv_step_lines.specs.declared.making.MadeStep.TheVariants.{Gone as GoneStep, Register, Call as CallMade}
use Rattle.pv_step_lines.specs.Before.{place_before}
use Rattle.pv_step_lines.specs.Made.{IsMadeCall, IsMade, IsInDirectory, AreEmptyOrSized, IsFitCall, IsFit}
use Rattle.pv_step_lines.specs.Moved.{IsEmptyOrSized}
use Rattle.pv_step_lines.proofs.ReturnedSizes.{wait-takes, stat-takes, lstat-takes, fstat-takes}

-- ---- bytes

abbrev HasLength : Call → ℕ → Type 0
HasLength Wait n = n ≡ 4
HasLength (Stat path) n = (n ≡ 0) ⊎ (n ≡ 8)
HasLength (Lstat path) n = (n ≡ 0) ⊎ (n ≡ 8)
HasLength (Fstat d) n = (n ≡ 0) ⊎ (n ≡ 8)
HasLength call n = Unit {0}

-- a full buffer, or nothing
abbrev IsFront : Bytes → Type 0
IsFront front = (front ≡ []) ⊎ (length front ≡ BUFFER)

front-of : (n k : ℕ) (front : Bytes) → n ≡ k → k ≡ 4 ⊎ k ≡ 8 → IsFront front → (take n front ≡ []) ⊎ (length (take n front) ≡ k)
front-of n k front is small (inl none) = inl (ap (take n) none ∙ nothing n)
  where
    nothing : (m : ℕ) → take {A = ℕ} m [] ≡ []
    nothing zero = refl
    nothing (suc m) = refl
front-of n k front is (inl four) (inr full) = inr (length-take-le n front (omega (arith, is, four, full)) ∙ is)
front-of n k front is (inr eight) (inr full) = inr (length-take-le n front (omega (arith, is, eight, full)) ∙ is)

status-of : (n : ℕ) (front : Bytes) → (n ≡ 0) ⊎ (n ≡ 8) → IsFront front → (take n front ≡ []) ⊎ (length (take n front) ≡ 8)
status-of n front (inl none) is = inl (ap (λ m. take m front) none)
status-of n front (inr eight) is = front-of n 8 front eight (inr refl) is

taken-fit : (call : Call) (n : ℕ) (front : Bytes) → HasLength call n → IsFront front → IsEmptyOrSized call (take n front)
taken-fit Wait n front long is = front-of n 4 front long (inl refl) is
taken-fit (Stat path) n front long is = status-of n front long is
taken-fit (Lstat path) n front long is = status-of n front long is
taken-fit (Fstat d) n front long is = status-of n front long is
taken-fit call n front long is = inr tt

moved-fit : (call : Call) (o : Outcome) (front : Bytes) → ((taken : Taken) → o ≡ Text taken → HasLength call taken.len) → IsFront front → AreEmptyOrSized call (moved_by front call o)
moved-fit call (Text taken) front long is = taken-fit call taken.len front (long taken refl) is
moved-fit (Write d n) (Value count) front long is = inr tt
moved-fit call o front long is = tt

long-answer : (s : State) (pid : ℕ) (call : Call) (taken : Taken) → (answer program_of s pid call).outcome ≡ Text taken → HasLength call taken.len
long-answer s pid Wait taken is = wait-takes program_of s pid taken is
long-answer s pid (Stat path) taken is = stat-takes program_of s pid path taken is
long-answer s pid (Lstat path) taken is = lstat-takes program_of s pid path taken is
long-answer s pid (Fstat d) taken is = fstat-takes program_of s pid d taken is
long-answer s pid call taken is = tt

front-whole : (s : State) (pid : ℕ) → IsValid s → IsFront (buffer_of (process_at s pid))
front-whole s pid whole = by (process_at s pid) refl
  where
    by : (o : Option Process) → process_at s pid ≡ o → IsFront (buffer_of o)
    by None is = inl refl
    by (Some p) is = inr (whole.processes.running pid p is).buffer.0

-- ---- places

module _ (s : State) (pid : ℕ) (me : Process) (whole : IsValid s) (lives : process_at s pid ≡ Some me) where
  found-directory : (t : Tree) (w : Walk) (start : ℕ) → is_directory_at s.tree start ≡ true → (place : Place) → place_found (resolve s.tree w.follow start w.path) ≡ Some place
      → is_directory_at s.tree (directory_of_place place) ≡ true
  found-directory t w start appears place found = by (resolve s.tree w.follow start w.path) refl found
    where
      by : (r : Result Place Errno) → resolve s.tree w.follow start w.path ≡ r → place_found r ≡ Some place → is_directory_at s.tree (directory_of_place place) ≡ true
      by (Err e) is none = cc none
      by (Ok there) is some =
          let same : there ≡ place = cc some in
          resolve-directory s.tree whole.tree.well_formed w.follow start w.path place appears (is ∙ ap Ok same)

  end-directory : (w : Walk) (place : Place) → end_begun s pid me w ≡ Some place → is_directory_at s.tree (directory_of_place place) ≡ true
  end-directory w place = by (check_start s pid me w.start w.path) (leads-start s pid me w.start w.path)
    where
      by : (a : Attempt (Unit {0})) → Leads (λ _. StartsWell s pid me (start_directory s me w.start w.path)) a → if_given a (place_found (end_of s me w)) ≡ Some place → is_directory_at s.tree (directory_of_place place) ≡ true
      by (done walks given) well found = found-directory s.tree w (start_directory s me w.start w.path) (well (whole.processes.placed pid me lives).directory) place found
      by (refused walks e cause) well none = cc none

  some-directory : (o : Option Walk) → IsInDirectory s.tree (end_of_some s pid me o)
  some-directory None = tt
  some-directory (Some w) = by (end_begun s pid me w) refl
    where
      by : (o : Option Place) → end_begun s pid me w ≡ o → IsInDirectory s.tree o
      by None is = tt
      by (Some place) is = end-directory w place is

-- ---- the step

module _ (s : State) (pid : ℕ) (m : MadeCall) (after : State) (before : IsValid s) (whole : IsValid after) (is : IsMadeCall s pid m after) where
  refused-place : (e : Errno) (cause : Cause) → m.answer.outcome ≡ Failed e cause → IsInDirectory after.tree (place_before m.before m.answer.walks)
  refused-place e cause fails =
      let c : Call = call_of m.call in
      let reported : (answer program_of s pid c).outcome ≡ Failed e cause = ap (λ (x : Answered). x.outcome) is.answered ∙ fails in
      let left : IsUnharmed s pid after = subst (λ (x : State). IsUnharmed s pid x) (ap (λ (x : Answered). x.after) is.answered) (refused-unharmed program_of s pid c e cause reported) in
      subst (λ (t : Tree). IsInDirectory t (place_before m.before m.answer.walks)) (sym left.tree)
      (subst (λ (o : Option Place). IsInDirectory s.tree o) (sym (is.before.place m.answer.walks)) (some-directory s pid is.me before is.lives (walk_number (walks_of c) m.answer.walks)))

  place-fit : (o : Outcome) → m.answer.outcome ≡ o → (unveil_words (call_of m.call) m.answer.walks o ≡ [] → ⊥) → IsInDirectory after.tree (place_before m.before m.answer.walks)
  place-fit (Failed e cause) fails some = refused-place e cause fails
  place-fit (Value n) reported some = absurd (some refl)
  place-fit (Text taken) reported some = absurd (some refl)
  place-fit (Killed p) reported some = absurd (some refl)
  place-fit Exited reported some = absurd (some refl)
  place-fit Blocked reported some = absurd (some refl)
  place-fit Gone reported some = absurd (some refl)

  pub call-fits : IsFitCall pid m after
  call-fits = record {
    place = place-fit m.answer.outcome refl;
    bytes =
        moved-fit (call_of m.call) m.answer.outcome (buffer_of (process_at after pid))
        (λ taken reported. long-answer s pid (call_of m.call) taken (ap (λ (x : Answered). x.outcome) is.answered ∙ reported)) (front-whole after pid whole);
  }

pub made-fits : (s : State) (pid : ℕ) (made : MadeStep) (after : State) → IsValid s → IsValid after → IsMade s pid made after → IsFit pid made after
made-fits s pid GoneStep after before whole is = tt
made-fits s pid (Register n) after before whole is = tt
made-fits s pid (CallMade m) after before whole is = call-fits s pid m after before whole is
