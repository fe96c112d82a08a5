-- Steps on registers, and steps of another process that they pass.
use Rattle.std.proofs.Common.{◌≡◌, ◌≢◌, ◌↔◌, ℕ, zero, suc, true, List, [], ◌∷◌, ◌++◌, replicate, Option, None, Some, is_some, refl, ap, sym, subst, ◌∙◌}
use Rattle.pv_model.specs.Machine.{has_ended, Bytes, is_empty, live_processes, Next, inside, calls_for, next, Program, Process, State, process_at, with_process, Stepped, Run, step, step_of, step_by, run, Line, call_lines}
use Rattle.pv_model.proofs.RunComposition.{run-append}
use Rattle.pv_laws_states.specs.States.{EncodesPrograms, IsValid}
use Rattle.pv_laws_states.proofs.ValidBySteps.{step-keeps_valid}
use Rattle.pv_laws_states.proofs.Processes.{process_at-same, process_at-other}
use Rattle.pv_laws_answers.proofs.OfLawsAccess.ProcessesAfterEnds.{step-is}
use Rattle.pv_laws_answers.proofs.Lists.{Among}
use Rattle.pv_laws_answers.proofs.LiveProcesses.{live-listed}
use Rattle.pv_laws_steps.specs.Commuting.{Commute, IsOwnStepAlone}
use Rattle.pv_laws_steps.proofs.IndependentSteps.{lone-commute}
use Rattle.pv_laws_classes.specs.Together.{is_next_inside, is_inside_next, is_step_on_registers, step_result, AreOnRegisters, IsTurn}

-- ---- steps on registers

-- the next step of a live process is on registers
pub record IsOn (s : State) (pid : ℕ) : Type 0 where
  pub before : Process
  pub following : Process
  pub at : process_at s pid ≡ Some before
  pub goes : next before ≡ inside following

pub on-is : (s : State) (pid : ℕ) → is_step_on_registers s pid ≡ true → IsOn s pid
on-is s pid on = by (process_at s pid) refl on
  where
    of : (p : Process) → process_at s pid ≡ Some p → (n : Next) → next p ≡ n → is_next_inside n ≡ true → IsOn s pid
    of p at (inside q) is on = record { before = p; following = q; at = at; goes = is }
    of p at (calls_for call) is on = cc on

    by : (o : Option Process) → process_at s pid ≡ o → is_inside_next o ≡ true → IsOn s pid
    by None at on = cc on
    by (Some p) at on = of p at (next p) refl on

pub on-lives : (s : State) (pid : ℕ) → is_step_on_registers s pid ≡ true → is_some (process_at s pid) ≡ true
on-lives s pid on = ap is_some (on-is s pid on).at

empty-among : {X : Type 0} (x : X) (xs : List X) → is_empty xs ≡ true → Among x xs → ⊥
empty-among x [] empty within = within
empty-among x (y ∷ xs) empty within = cc empty

nobody-live : (s : State) (k : ℕ) → has_ended s ≡ true → is_some (process_at s k) ≡ true → ⊥
nobody-live s k ended = by (process_at s k) refl
  where
    by : (o : Option Process) → process_at s k ≡ o → is_some o ≡ true → ⊥
    by None at lives = cc lives
    by (Some p) at lives = empty-among (k, p) (live_processes s.processes) ended (live-listed s k p at)

module _ (program_of : Bytes → Option Program) where
  pub on-after : (s : State) (pid : ℕ) (on : IsOn s pid) → (step program_of s pid).after ≡ with_process s pid on.following
  on-after s pid on = ap (λ (w : Stepped). w.after) (step-is program_of s pid on.before on.at) ∙ ap (λ n. (step_by program_of s pid on.before n).after) on.goes

  -- the process is live after it
  pub lives-on : (s : State) (pid : ℕ) → is_step_on_registers s pid ≡ true → is_some (process_at (step program_of s pid).after pid) ≡ true
  lives-on s pid on =
      let is = on-is s pid on in ap (λ x. is_some (process_at x pid)) (on-after s pid is) ∙ ap is_some (process_at-same s pid is.following)

  -- a step has no lines if and only if it is on registers
  pub silent : (s : State) (pid : ℕ) → is_step_on_registers s pid ≡ is_empty (step program_of s pid).lines
  unfolding step call_lines
  silent s pid = by (process_at s pid)
    where
      of : (p : Process) (n : Next) → is_next_inside n ≡ is_empty (step_by program_of s pid p n).lines
      of p (inside q) = refl
      of p (calls_for call) = refl

      by : (o : Option Process) → is_inside_next o ≡ is_empty (step_of program_of s pid o).lines
      by None = refl
      by (Some p) = of p (next p)

  pub no-lines : (s : State) (pid : ℕ) → is_step_on_registers s pid ≡ true → (step program_of s pid).lines ≡ []
  no-lines s pid on = by (step program_of s pid).lines (sym (silent s pid) ∙ on)
    where
      by : (ls : List Line) → is_empty ls ≡ true → ls ≡ []
      by [] empty = refl
      by (l ∷ ls) empty = cc empty

  pub registers-silent : (s : State) (pid : ℕ) → (is_step_on_registers s pid ≡ true) ↔ ((step program_of s pid).lines ≡ [])
  registers-silent s pid = (no-lines s pid, λ none. silent s pid ∙ ap is_empty none)

  pub final-append : (before after : List ℕ) (s : State) → (run program_of (before ++ after) s).final ≡ (run program_of after (run program_of before s).final).final
  final-append before after s = ap (λ (r : Run). r.final) (run-append program_of before after s)

  -- a process is live after such steps
  on-someone : (pid : ℕ) (pids : List ℕ) (s : State) → AreOnRegisters program_of (pid ∷ pids) s → (k : ℕ) × (is_some (process_at (run program_of (pid ∷ pids) s).final k) ≡ true)
  on-someone pid [] s on = (pid, lives-on s pid on.0)
  on-someone pid (other ∷ pids) s on = on-someone other pids (step program_of s pid).after on.1

  -- so if no process is live after such steps, there are none
  pub none-left : (left : List ℕ) (s : State) → AreOnRegisters program_of left s → has_ended (run program_of left s).final ≡ true → left ≡ []
  none-left [] s on ended = refl
  none-left (pid ∷ left) s on ended = let one = on-someone pid left s on in absurd (nobody-live (run program_of (pid ∷ left) s).final one.0 ended one.1)

  -- ---- a step of process k before and after a step of process a on registers

  module _ (encodes : EncodesPrograms program_of) (k a : ℕ) (apart : k ≢ a) where
    pub record Passes (s : State) : Type 0 where
      pub on : is_step_on_registers (step program_of s k).after a ≡ true
      pub after : (step program_of (step program_of s k).after a).after ≡ (step program_of (step program_of s a).after k).after
      pub same : is_step_on_registers (step program_of s a).after k ≡ is_step_on_registers s k
      pub lives : is_some (process_at (step program_of s a).after k) ≡ is_some (process_at s k)
      pub reply : step_result k (step program_of s k) ≡ step_result k (step program_of (step program_of s a).after k)

    pub passes : (s : State) → IsValid s → is_step_on_registers s a ≡ true → Passes s
    passes s whole on =
        let is = on-is s a on in
        let commute : Commute program_of s k a = lone-commute program_of encodes s k a is.before whole apart is.at (subst (IsOwnStepAlone is.before) (sym is.goes) tt) in
        record {
          on = silent (step program_of s k).after a ∙ ap is_empty commute.second.lines ∙ sym (silent s a) ∙ on;
          after = sym commute.after;
          same = silent (step program_of s a).after k ∙ ap is_empty commute.first.lines ∙ sym (silent s k);
          lives = ap (λ x. is_some (process_at x k)) (on-after s a is) ∙ ap is_some (process_at-other s a is.following k apart);
          reply = λ i. record { pid = k; outcome = sym commute.first.outcome i; lines = sym commute.first.lines i };
        }

    -- a turn of process k
    pub record PassesTurn (s : State) (count : ℕ) : Type 0 where
      pub turn : IsTurn program_of k count s
      pub on : is_step_on_registers (run program_of (replicate (suc count) k) s).final a ≡ true
      pub after : (step program_of (run program_of (replicate (suc count) k) s).final a).after ≡ (run program_of (replicate (suc count) k) (step program_of s a).after).final
      pub reply : step_result k (step program_of (run program_of (replicate count k) s).final k) ≡ step_result k (step program_of (run program_of (replicate count k) (step program_of s a).after).final k)

    pub passes-turn : (count : ℕ) (s : State) → IsValid s → is_step_on_registers s a ≡ true → IsTurn program_of k count (step program_of s a).after → PassesTurn s count
    passes-turn zero s whole on turn =
        let one = passes s whole on in
        record { turn = (sym one.lives ∙ turn.0, sym one.same ∙ turn.1); on = one.on; after = one.after; reply = one.reply }
    passes-turn (suc count) s whole on turn =
        let one = passes s whole on in
        let rest = passes-turn count (step program_of s k).after (step-keeps_valid program_of encodes s k whole) one.on (subst (IsTurn program_of k count) (sym one.after) turn.1) in
        record {
          turn = (sym one.same ∙ turn.0, rest.turn);
          on = rest.on;
          after = rest.after ∙ ap (λ x. (run program_of (replicate (suc count) k) x).final) one.after;
          reply = rest.reply ∙ ap (λ x. step_result k (step program_of (run program_of (replicate count k) x).final k)) one.after;
        }
