-- Schedules in which each process makes its steps on registers directly before its next step.
use Rattle.std.proofs.Common.{◌≡◌, ◌≤◌, ℕ, zero, suc, true, false, if◌then◌else◌, ◌==◌, List, [], ◌∷◌, ◌++◌, length, replicate, Option, is_some, refl, ap, sym, subst, ◌∙◌, arith, append_assoc, length-append}
use Rattle.std.proofs.lemmas.Bool.{eq-eqb, or_right}
use Rattle.pv_model.specs.Machine.{has_ended, Bytes, Program, State, process_at, Stepped, step, run}
use Rattle.pv_laws_states.specs.States.{EncodesPrograms, IsValid}
use Rattle.pv_laws_answers.specs.Witnesses.{AreSteps}
use Rattle.pv_laws_classes.specs.Reduced.{bound_by, may_step, bound_after, AreReducedFrom, AreReduced, EndsReduced, ReducedSchedulesReachEach, HasReducedForm, ReducedSchedulesReachEndings}
use Rattle.pv_laws_classes.specs.Together.{is_step_on_registers, StepResult, step_result, CombinedTurn, steps_of_turns, replies, IsTurn, AreTurns}
use Rattle.pv_laws_classes.proofs.CombinedSteps.{replicate-last}
use Rattle.pv_laws_classes.proofs.RegisterSteps.{on-lives, final-append, none-left}
use Rattle.pv_laws_classes.proofs.CombinedTurns.{replies-append, replies-off, replies-turn, normal-form}

-- ---- bounds

pub may-itself : (pid : ℕ) → may_step pid pid ≡ true
may-itself pid = or_right (pid == 0) (pid == pid) (eq-eqb pid pid refl)

-- after a step on registers, its process may make the next step
pub may-again : (s : State) (pid : ℕ) → is_step_on_registers s pid ≡ true → may_step (bound_by s pid) pid ≡ true
may-again s pid on = ap (λ b. may_step (if b then pid else 0) pid) on ∙ may-itself pid

pub bound-off : (s : State) (pid : ℕ) → is_step_on_registers s pid ≡ false → bound_by s pid ≡ 0
bound-off s pid off = ap (λ b. if b then pid else 0) off

module _ (program_of : Bytes → Option Program) where
  -- `bound_after` for a schedule whose first step only process `bound` may make, or each process if `bound` is 0
  abbrev pub bound_from : ℕ → List ℕ → State → ℕ
  bound_from bound [] s = bound
  bound_from bound (pid ∷ pids) s = bound_from (bound_by s pid) pids (step program_of s pid).after

  bound-first : (bound pid : ℕ) (pids : List ℕ) (s : State) → bound_from bound (pid ∷ pids) s ≡ bound_after program_of s (pid ∷ pids)
  bound-first bound pid [] s = refl
  bound-first bound pid (other ∷ pids) s = bound-first (bound_by s pid) other pids (step program_of s pid).after

  pub bound-from : (pids : List ℕ) (s : State) → bound_from 0 pids s ≡ bound_after program_of s pids
  bound-from [] s = refl
  bound-from (pid ∷ pids) s = bound-first 0 pid pids s

  pub bound-from-last : (bound pid : ℕ) (pids : List ℕ) (s : State) → bound_from bound (pids ++ pid ∷ []) s ≡ bound_by (run program_of pids s).final pid
  bound-from-last bound pid [] s = refl
  bound-from-last bound pid (other ∷ pids) s = bound-from-last (bound_by s other) pid pids (step program_of s other).after

  -- only the last step bounds the next one
  pub bound-last : (pids : List ℕ) (pid : ℕ) (s : State) → bound_after program_of s (pids ++ pid ∷ []) ≡ bound_by (run program_of pids s).final pid
  bound-last pids pid s = sym (bound-from (pids ++ pid ∷ []) s) ∙ bound-from-last 0 pid pids s

  -- ---- parts of reduced schedules

  pub reduced-before : (bound : ℕ) (one two : List ℕ) (s : State) → AreReducedFrom program_of bound (one ++ two) s → AreReducedFrom program_of bound one s
  reduced-before bound [] two s are = tt
  reduced-before bound (pid ∷ one) two s are = (are.0, are.1, reduced-before (bound_by s pid) one two (step program_of s pid).after are.2)

  pub reduced-after : (bound : ℕ) (one two : List ℕ) (s : State) → AreReducedFrom program_of bound (one ++ two) s
      → AreReducedFrom program_of (bound_from bound one s) two (run program_of one s).final
  reduced-after bound [] two s are = are
  reduced-after bound (pid ∷ one) two s are = reduced-after (bound_by s pid) one two (step program_of s pid).after are.2

  pub reduced-both : (bound : ℕ) (one two : List ℕ) (s : State) → AreReducedFrom program_of bound one s
      → AreReducedFrom program_of (bound_from bound one s) two (run program_of one s).final → AreReducedFrom program_of bound (one ++ two) s
  reduced-both bound [] two s first second = second
  reduced-both bound (pid ∷ one) two s first second = (first.0, first.1, reduced-both (bound_by s pid) one two (step program_of s pid).after first.2 second)

  -- the steps before the last one, and the last one
  pub reduced-split : (bound pid : ℕ) (pids : List ℕ) (s : State) → AreReducedFrom program_of bound (pids ++ pid ∷ []) s
      → AreReducedFrom program_of bound pids s × (may_step (bound_from bound pids s) pid ≡ true) × (is_some (process_at (run program_of pids s).final pid) ≡ true)
  reduced-split bound pid pids s are =
      let last = reduced-after bound pids (pid ∷ []) s are in (reduced-before bound pids (pid ∷ []) s are, last.0, last.1)

  pub reduced-join : (bound pid : ℕ) (pids : List ℕ) (s : State) → AreReducedFrom program_of bound pids s → may_step (bound_from bound pids s) pid ≡ true
      → is_some (process_at (run program_of pids s).final pid) ≡ true → AreReducedFrom program_of bound (pids ++ pid ∷ []) s
  reduced-join bound pid pids s are may lives = reduced-both bound pids (pid ∷ []) s are (may, lives, tt)

  -- the same for a schedule from its start
  pub reduced-parts : (pids : List ℕ) (pid : ℕ) (s : State) → AreReduced program_of (pids ++ pid ∷ []) s
      → AreReduced program_of pids s × (may_step (bound_after program_of s pids) pid ≡ true) × (is_some (process_at (run program_of pids s).final pid) ≡ true)
  reduced-parts pids pid s are =
      let parts = reduced-split 0 pid pids s are in (parts.0, subst (λ bound. may_step bound pid ≡ true) (bound-from pids s) parts.1, parts.2)

  pub reduced-more : (pids : List ℕ) (pid : ℕ) (s : State) → AreReduced program_of pids s → may_step (bound_after program_of s pids) pid ≡ true
      → is_some (process_at (run program_of pids s).final pid) ≡ true → AreReduced program_of (pids ++ pid ∷ []) s
  reduced-more pids pid s are may lives = reduced-join 0 pid pids s are (subst (λ bound. may_step bound pid ≡ true) (sym (bound-from pids s)) may) lives

  -- ---- turns

  -- a turn is reduced, and does not bound the next step
  pub turn-reduced : (bound pid count : ℕ) (rest : List ℕ) (s : State) → may_step bound pid ≡ true → IsTurn program_of pid count s
      → AreReducedFrom program_of 0 rest (run program_of (replicate (suc count) pid) s).final → AreReducedFrom program_of bound (replicate (suc count) pid ++ rest) s
  turn-reduced bound pid zero rest s may turn are =
      (may, turn.0, subst (λ other. AreReducedFrom program_of other rest (step program_of s pid).after) (sym (bound-off s pid turn.1)) are)
  turn-reduced bound pid (suc count) rest s may turn are =
      (may, on-lives s pid turn.0, turn-reduced (bound_by s pid) pid count rest (step program_of s pid).after (may-again s pid turn.0) turn.1 are)

  pub turns-reduced : (turns : List CombinedTurn) (s : State) → AreTurns program_of turns s → AreReduced program_of (steps_of_turns turns) s
  turns-reduced [] s are = tt
  turns-reduced ((k, n) ∷ turns) s are =
      turn-reduced 0 k n (steps_of_turns turns) s refl are.0 (turns-reduced turns (run program_of (replicate (suc n) k) s).final are.1)

  -- ---- endings

  ends-reduced : EncodesPrograms program_of → (s : State) (pids : List ℕ) → IsValid s → AreSteps program_of pids s → has_ended (run program_of pids s).final ≡ true → HasReducedForm program_of s pids
  ends-reduced encodes s pids whole steps ended =
      let form = normal-form program_of encodes s pids whole steps in
      let final : (run program_of form.left (run program_of (steps_of_turns form.turns) s).final).final ≡ (run program_of pids s).final =
      sym (final-append program_of (steps_of_turns form.turns) form.left s) ∙ form.final
      in
      let none : form.left ≡ [] = none-left program_of form.left (run program_of (steps_of_turns form.turns) s).final form.at_end (ap has_ended final ∙ ended) in
      record {
        form = steps_of_turns form.turns;
        reduced = turns-reduced form.turns s form.joined;
        count = omega (arith, length-append (steps_of_turns form.turns) form.left, ap length none, form.count);
        final = ap (λ left. (run program_of left (run program_of (steps_of_turns form.turns) s).final).final) (sym none) ∙ final;
      }

  -- ---- a reduced schedule to each reply of turns

  record Ends (s : State) (r : StepResult) (turns : List CombinedTurn) : Type 0 where
    before : List ℕ
    reduced : AreReduced program_of (before ++ r.pid ∷ []) s
    alike : step_result r.pid (step program_of (run program_of before s).final r.pid) ≡ r
    no_longer : length (before ++ r.pid ∷ []) ≤ length (steps_of_turns turns)

  abbrev last_step : ℕ → ℕ → State → Stepped
  last_step n k s = step program_of (run program_of (replicate n k) s).final k

  ends-here : (k n : ℕ) (turns : List CombinedTurn) (s : State) → IsTurn program_of k n s → Ends s (step_result k (last_step n k s)) ((k, n) ∷ turns)
  ends-here k n turns s turn =
      let last = replicate-last n k [] in
      record {
        before = replicate n k;
        reduced = subst (λ pids. AreReduced program_of pids s) (sym last) (turn-reduced 0 k n [] s refl turn tt);
        alike = refl;
        no_longer = omega (arith, ap length last, length-append (replicate (suc n) k) [], length-append (replicate (suc n) k) (steps_of_turns turns));
      }

  ends-past : (k n : ℕ) (turns : List CombinedTurn) (s : State) (r : StepResult) → IsTurn program_of k n s → Ends (run program_of (replicate (suc n) k) s).final r turns → Ends s r ((k, n) ∷ turns)
  ends-past k n turns s r turn rest =
      let joined = append_assoc (replicate (suc n) k) rest.before (r.pid ∷ []) in
      record {
        before = replicate (suc n) k ++ rest.before;
        reduced = subst (λ pids. AreReduced program_of pids s) (sym joined) (turn-reduced 0 k n (rest.before ++ r.pid ∷ []) s refl turn rest.reduced);
        alike = ap (λ x. step_result r.pid (step program_of x r.pid)) (final-append program_of (replicate (suc n) k) rest.before s) ∙ rest.alike;
        no_longer =
            omega (
              arith,
              rest.no_longer,
              ap length joined,
              length-append (replicate (suc n) k) (rest.before ++ r.pid ∷ []),
              length-append (replicate (suc n) k) (steps_of_turns turns),
            );
      }

  ends : (turns : List CombinedTurn) (s : State) → AreTurns program_of turns s → (rs : List StepResult) (r : StepResult) → replies program_of (steps_of_turns turns) s ≡ rs ++ r ∷ [] → Ends s r turns
  ends [] s are [] r is = cc is
  ends [] s are (other ∷ rs) r is = cc is
  ends ((k, n) ∷ turns) s are [] r is =
      let first : step_result k (last_step n k s) ∷ replies program_of (steps_of_turns turns) (run program_of (replicate (suc n) k) s).final ≡ r ∷ [] = sym (replies-turn program_of k n (steps_of_turns turns) s are.0) ∙ is in
      let same : step_result k (last_step n k s) ≡ r = cc first in
      subst (λ (x : StepResult). Ends s x ((k, n) ∷ turns)) same (ends-here k n turns s are.0)
  ends ((k, n) ∷ turns) s are (other ∷ rs) r is =
      let first : step_result k (last_step n k s) ∷ replies program_of (steps_of_turns turns) (run program_of (replicate (suc n) k) s).final ≡ other ∷ (rs ++ r ∷ []) =
      sym (replies-turn program_of k n (steps_of_turns turns) s are.0) ∙ is
      in
      let later : replies program_of (steps_of_turns turns) (run program_of (replicate (suc n) k) s).final ≡ rs ++ r ∷ [] = cc first in
      ends-past k n turns s r are.0 (ends turns (run program_of (replicate (suc n) k) s).final are.1 rs r later)

  ends-each : EncodesPrograms program_of → (s : State) (pids : List ℕ) (pid : ℕ) → IsValid s → AreSteps program_of (pids ++ pid ∷ []) s → is_step_on_registers (run program_of pids s).final pid ≡ false → EndsReduced program_of s pids pid
  ends-each encodes s pids pid whole steps off =
      let form = normal-form program_of encodes s (pids ++ pid ∷ []) whole steps in
      let is =
      ends form.turns s form.joined (replies program_of pids s) (step_result pid (step program_of (run program_of pids s).final pid))
      (form.replies ∙ replies-append program_of pids (pid ∷ []) s ∙ ap (λ (rs : List StepResult). replies program_of pids s ++ rs) (replies-off program_of pid [] (run program_of pids s).final off))
      in
      record {
        before = is.before;
        reduced = is.reduced;
        outcome = ap (λ (r : StepResult). r.outcome) is.alike;
        lines = ap (λ (r : StepResult). r.lines) is.alike;
        no_longer = omega (arith, is.no_longer, form.count, length-append (steps_of_turns form.turns) form.left);
      }

-- ---- the laws

pub reaches-each : ReducedSchedulesReachEach
reaches-each program_of s pids pid encodes whole steps off = ends-each program_of encodes s pids pid whole steps off

pub reaches-endings : ReducedSchedulesReachEndings
reaches-endings program_of s pids encodes whole steps ended = ends-reduced program_of encodes s pids whole steps ended
