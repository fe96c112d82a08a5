-- A reduced schedule after which a process shows the same as after a schedule.
use Rattle.std.proofs.Common.{◌≡◌, ◌≢◌, ⊎_elim, ◌∙◌, sym, ap, subst, ℕ, zero, suc, ◌≤◌, true, List, [], ◌∷◌, ◌++◌, length, replicate, Option, None, Some, is_some, refl, arith, append_assoc, length-append}
use Rattle.std.specs.Prelude.{option_map}
use Rattle.std.proofs.lemmas.Bool.{cases_eq}
use Rattle.std.proofs.lemmas.List.{length-replicate}
use Rattle.pv_model.specs.Machine.{Bytes, Program, Process, State, process_at, step, run}
use Rattle.pv_laws_states.specs.States.{EncodesPrograms, IsValid}
use Rattle.pv_laws_states.proofs.ValidBySteps.{step-keeps_valid, run-keeps_valid}
use Rattle.pv_laws_answers.specs.Witnesses.{AreSteps}
use Rattle.pv_laws_classes.specs.Reduced.{representative, bound_by, may_step, AreReducedFrom, AreReduced}
use Rattle.pv_laws_classes.specs.Shown.{Shown, shown_process, shown_in}
use Rattle.pv_laws_classes.specs.Together.{is_step_on_registers, CombinedTurn, steps_of_turns, AreOnRegisters, AreTurns}
use Rattle.pv_laws_classes.proofs.ReducedSchedules.{may-again, turn-reduced}
use Rattle.pv_laws_classes.proofs.RegisterSteps.{on-lives, final-append, passes}
use Rattle.pv_laws_classes.proofs.CombinedTurns.{normal-form}

-- the `Shown` record of a process is the same in states with one representative, and after a step of another process
-- on registers
pub record IsInvariant (program_of : Bytes → Option Program) : Type 0 where
  pub identified : (s t : State) (pid : ℕ) → IsValid s → IsValid t → representative s ≡ representative t → shown_in program_of t pid ≡ shown_in program_of s pid
  pub others : (s : State) (pid other : ℕ) → IsValid s → pid ≢ other → is_step_on_registers s other ≡ true
      → shown_in program_of (step program_of s other).after pid ≡ shown_in program_of s pid

module _ (program_of : Bytes → Option Program) where
  -- a process is live in both of two states in which it shows the same, or in neither
  pub lives-shown : (s t : State) (pid : ℕ) → shown_in program_of s pid ≡ shown_in program_of t pid → is_some (process_at s pid) ≡ is_some (process_at t pid)
  lives-shown s t pid same = sym (some s (process_at s pid)) ∙ ap (λ (x : Shown). is_some x.process) same ∙ some t (process_at t pid)
    where
      some : (u : State) (o : Option Process) → is_some (option_map (shown_process u) o) ≡ is_some o
      some u None = refl
      some u (Some p) = refl

  -- ---- reduced schedules

  -- steps after turns
  turns-then : (turns : List CombinedTurn) (rest : List ℕ) (s : State) → AreTurns program_of turns s
      → AreReducedFrom program_of 0 rest (run program_of (steps_of_turns turns) s).final → AreReduced program_of (steps_of_turns turns ++ rest) s
  turns-then [] rest s are more = more
  turns-then ((k, n) ∷ turns) rest s are more =
      subst (λ pids. AreReduced program_of pids s) (sym (append_assoc (replicate (suc n) k) (steps_of_turns turns) rest))
      (turn-reduced program_of 0 k n (steps_of_turns turns ++ rest) s refl are.0
      (turns-then turns rest (run program_of (replicate (suc n) k) s).final are.1
      (subst (AreReducedFrom program_of 0 rest) (final-append program_of (replicate (suc n) k) (steps_of_turns turns) s) more)))

  -- steps of one process on registers, and one more step of it
  own-reduced : (bound pid count : ℕ) (s : State) → may_step bound pid ≡ true → AreOnRegisters program_of (replicate count pid) s
      → is_some (process_at (run program_of (replicate count pid) s).final pid) ≡ true → AreReducedFrom program_of bound (replicate count pid ++ pid ∷ []) s
  own-reduced bound pid zero s may own lives = (may, lives, tt)
  own-reduced bound pid (suc count) s may own lives =
      (may, on-lives s pid own.0, own-reduced (bound_by s pid) pid count (step program_of s pid).after (may-again s pid own.0) own.1 lives)

  module _ (encodes : EncodesPrograms program_of) where
    -- ---- steps of a process on registers, before a step of another process on registers

    record PassesOwn (pid k count : ℕ) (s : State) : Type 0 where
      own : AreOnRegisters program_of (replicate count pid) s
      on : is_step_on_registers (run program_of (replicate count pid) s).final k ≡ true
      after : (step program_of (run program_of (replicate count pid) s).final k).after ≡ (run program_of (replicate count pid) (step program_of s k).after).final

    passes-own : (pid k : ℕ) → pid ≢ k → (count : ℕ) (s : State) → IsValid s → is_step_on_registers s k ≡ true
        → AreOnRegisters program_of (replicate count pid) (step program_of s k).after → PassesOwn pid k count s
    passes-own pid k apart zero s whole on own = record { own = tt; on = on; after = refl }
    passes-own pid k apart (suc count) s whole on own =
        let one = passes program_of encodes pid k apart s whole on in
        let rest =
        passes-own pid k apart count (step program_of s pid).after (step-keeps_valid program_of encodes s pid whole) one.on
        (subst (AreOnRegisters program_of (replicate count pid)) (sym one.after) own.1)
        in
        record { own = (sym one.same ∙ own.0, rest.own); on = rest.on; after = rest.after ∙ ap (λ x. (run program_of (replicate count pid) x).final) one.after }

    module _ (invariant : IsInvariant program_of) (pid : ℕ) where
      -- of steps on registers, those of one process lead to its shown data after all of them
      record OwnSteps (left : List ℕ) (s : State) : Type 0 where
        count : ℕ
        own : AreOnRegisters program_of (replicate count pid) s
        same : shown_in program_of (run program_of (replicate count pid) s).final pid ≡ shown_in program_of (run program_of left s).final pid
        fewer : count ≤ length left

      own-steps : (left : List ℕ) (s : State) → IsValid s → AreOnRegisters program_of left s → OwnSteps left s
      own-steps [] s whole on = record { count = 0; own = tt; same = refl; fewer = omega arith }
      own-steps (k ∷ left) s whole on =
          let rest = own-steps left (step program_of s k).after (step-keeps_valid program_of encodes s k whole) on.1 in ⊎_elim (here rest) (past rest) (cases_eq k pid)
        where
          here : OwnSteps left (step program_of s k).after → k ≡ pid → OwnSteps (k ∷ left) s
          here rest same = record {
            count = suc rest.count;
            own = (
              subst (λ other. is_step_on_registers s other ≡ true) same on.0,
              subst (λ other. AreOnRegisters program_of (replicate rest.count pid) (step program_of s other).after) same rest.own,
            );
            same = ap (λ other. shown_in program_of (run program_of (replicate rest.count pid) (step program_of s other).after).final pid) (sym same) ∙ rest.same;
            fewer = omega (arith, rest.fewer);
          }

          past : OwnSteps left (step program_of s k).after → k ≢ pid → OwnSteps (k ∷ left) s
          past rest differ =
              let apart : pid ≢ k = λ same. differ (sym same) in
              let own = passes-own pid k apart rest.count s whole on.0 rest.own in
              let before = (run program_of (replicate rest.count pid) s).final in
              record {
                count = rest.count;
                own = own.own;
                same =
                    sym (invariant.others before pid k (run-keeps_valid program_of encodes (replicate rest.count pid) s whole) apart own.on)
                    ∙ ap (λ x. shown_in program_of x pid) own.after
                    ∙ rest.same;
                fewer = omega (arith, rest.fewer);
              }

    -- a reduced schedule that is no longer, after which a live process shows the same and may make the next step
    pub record IsShownAfter (s : State) (pids : List ℕ) (pid : ℕ) : Type 0 where
      pub before : List ℕ
      pub reduced : AreReduced program_of (before ++ pid ∷ []) s
      pub same : shown_in program_of (run program_of before s).final pid ≡ shown_in program_of (run program_of pids s).final pid
      pub no_longer : length before ≤ length pids

    pub shown-after : IsInvariant program_of → (s : State) (pids : List ℕ) (pid : ℕ) → IsValid s → AreSteps program_of pids s
        → is_some (process_at (run program_of pids s).final pid) ≡ true → IsShownAfter s pids pid
    shown-after invariant s pids pid whole steps lives =
        let form = normal-form program_of encodes s pids whole steps in
        let turns = steps_of_turns form.turns in
        let after = (run program_of turns s).final in
        let own = own-steps invariant pid form.left after (run-keeps_valid program_of encodes turns s whole) form.at_end in
        let final : (run program_of form.left after).final ≡ (run program_of pids s).final = sym (final-append program_of turns form.left s) ∙ form.final in
        let own_after = (run program_of (replicate own.count pid) after).final in
        let same : shown_in program_of own_after pid ≡ shown_in program_of (run program_of pids s).final pid = own.same ∙ ap (λ x. shown_in program_of x pid) final in
        let lives_after = lives-shown own_after (run program_of pids s).final pid same ∙ lives in
        record {
          before = turns ++ replicate own.count pid;
          reduced = subst (λ pids. AreReduced program_of pids s) (sym (append_assoc turns (replicate own.count pid) (pid ∷ [])))
              (turns-then form.turns (replicate own.count pid ++ pid ∷ []) s form.joined
              (own-reduced 0 pid own.count after refl own.own lives_after));
          same = ap (λ x. shown_in program_of x pid) (final-append program_of turns (replicate own.count pid) s) ∙ same;
          no_longer =
              omega (
                arith,
                own.fewer,
                form.count,
                length-append turns form.left,
                length-append turns (replicate own.count pid),
                length-replicate own.count pid,
              );
        }
