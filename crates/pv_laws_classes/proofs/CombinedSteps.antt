-- Schedules of combined steps.
use Rattle.std.proofs.Common.{◌≡◌, ◌≢◌, ◌↔◌, ◌⊎◌, ⊎_elim, inl, inr, ℕ, zero, suc, ◌<◌, ◌≤◌, Bool, true, false, if◌then◌else◌, List, [], ◌∷◌, ◌++◌, length, replicate, Option, is_some, refl, ap, ap₂, sym, subst, ◌∙◌, arith, append_assoc, length-append}
use Rattle.pv_model.specs.Machine.{has_ended, Bytes, Program, State, process_at, Stepped, step, run, trace_bytes}
use Rattle.pv_laws_states.specs.States.{EncodesPrograms, IsValid}
use Rattle.pv_laws_answers.specs.Witnesses.{AreSteps}
use Rattle.pv_laws_classes.specs.Together.{is_step_on_registers, StepResult, step_result, CombinedTurn, steps_of_turns, count_of_process, replies, AreOnRegisters, IsTurn, AreTurns, Combined, one_more, together, steps_together, after_together, AreCombined, IsCombined, AreTheirSteps, EndsInSameStep, CombinedForm, EndsTogether, HasSchedule, HasCombined, IsLeast}
use Rattle.pv_laws_classes.proofs.RegisterSteps.{on-lives, lives-on, no-lines, final-append, none-left}
use Rattle.pv_laws_classes.proofs.CombinedTurns.{count-none, count-append, replies-append, replies-off, replies-turn, normal-form}

pub replicate-last : (n k : ℕ) (rest : List ℕ) → replicate n k ++ k ∷ rest ≡ replicate (suc n) k ++ rest
replicate-last zero k rest = refl
replicate-last (suc n) k rest = ap (λ (ks : List ℕ). k ∷ ks) (replicate-last n k rest)

module _ (program_of : Bytes → Option Program) where
  final-last : (n k : ℕ) (s : State) → (run program_of (replicate (suc n) k) s).final ≡ (step program_of (run program_of (replicate n k) s).final k).after
  final-last zero k s = refl
  final-last (suc n) k s = final-last n k (step program_of s k).after

  -- ---- one combined step

  together-on : (most : ℕ) (s : State) (pid : ℕ) → is_step_on_registers s pid ≡ true → together program_of (suc most) s pid ≡ one_more (together program_of most (step program_of s pid).after pid)
  together-on most s pid on = ap (λ b. if b then one_more (together program_of most (step program_of s pid).after pid) else record { count = 1; last = step program_of s pid }) on

  together-off : (most : ℕ) (s : State) (pid : ℕ) → is_step_on_registers s pid ≡ false → together program_of (suc most) s pid ≡ record { count = 1; last = step program_of s pid }
  together-off most s pid off = ap (λ b. if b then one_more (together program_of most (step program_of s pid).after pid) else record { count = 1; last = step program_of s pid }) off

  pub is-combined : (most : ℕ) (s : State) (pid : ℕ) → IsCombined program_of most s pid
  is-combined zero s pid = record { before = 0; count = refl; bound = omega arith; first = tt; last = refl; other = λ less. absurd (omega (arith, less)) }
  is-combined (suc most) s pid = by (is-combined most (step program_of s pid).after pid) (is_step_on_registers s pid) refl
    where
      by : IsCombined program_of most (step program_of s pid).after pid → (b : Bool) → is_step_on_registers s pid ≡ b → IsCombined program_of (suc most) s pid
      by rest true on = record {
        before = suc rest.before;
        count = ap (λ (c : Combined). c.count) (together-on most s pid on) ∙ ap suc rest.count;
        bound = omega (arith, rest.bound);
        first = (on, rest.first);
        last = ap (λ (c : Combined). c.last) (together-on most s pid on) ∙ rest.last;
        other = λ less. rest.other (omega (arith, less));
      }
      by rest false off = record {
        before = 0;
        count = ap (λ (c : Combined). c.count) (together-off most s pid off);
        bound = omega arith;
        first = tt;
        last = ap (λ (c : Combined). c.last) (together-off most s pid off);
        other = λ less. off;
      }

  -- its steps lead to its final state
  final-together : (most : ℕ) (s : State) (pid : ℕ) → (run program_of (replicate (together program_of most s pid).count pid) s).final ≡ (together program_of most s pid).last.after
  final-together most s pid =
      let is = is-combined most s pid in
      ap (λ n. (run program_of (replicate n pid) s).final) is.count ∙ final-last is.before pid s ∙ ap (λ (w : Stepped). w.after) (sym is.last)

  on-live : (n pid : ℕ) (rest : List ℕ) (s : State) → is_some (process_at s pid) ≡ true → AreOnRegisters program_of (replicate n pid) s → AreSteps program_of rest (run program_of (replicate (suc n) pid) s).final
      → AreSteps program_of (replicate (suc n) pid ++ rest) s
  on-live zero pid rest s lives on steps = (lives, steps)
  on-live (suc n) pid rest s lives on steps = (lives, on-live n pid rest (step program_of s pid).after (lives-on program_of s pid on.0) on.1 steps)

  module _ (most : ℕ) where
    abbrev combined : State → ℕ → Combined
    combined s pid = together program_of most s pid

    abbrev all_steps : List ℕ → State → List ℕ
    all_steps pids s = steps_together program_of most pids s

    abbrev state_after : List ℕ → State → State
    state_after pids s = after_together program_of most pids s

    -- ---- their steps

    their-final : (pids : List ℕ) (s : State) → (run program_of (all_steps pids s) s).final ≡ state_after pids s
    their-final [] s = refl
    their-final (pid ∷ pids) s =
        final-append program_of (replicate (combined s pid).count pid) (all_steps pids (combined s pid).last.after) s
        ∙ ap (λ x. (run program_of (all_steps pids (combined s pid).last.after) x).final) (final-together most s pid)
        ∙ their-final pids (combined s pid).last.after

    their-lives : (pids : List ℕ) (s : State) → AreCombined program_of most pids s → AreSteps program_of (all_steps pids s) s
    their-lives [] s are = tt
    their-lives (pid ∷ pids) s are =
        let is = is-combined most s pid in
        subst (λ n. AreSteps program_of (replicate n pid ++ all_steps pids (combined s pid).last.after) s) (sym is.count)
        (on-live is.before pid (all_steps pids (combined s pid).last.after) s are.0 is.first
        (subst (AreSteps program_of (all_steps pids (combined s pid).last.after)) (sym (ap (λ n. (run program_of (replicate n pid) s).final) (sym is.count) ∙ final-together most s pid))
        (their-lives pids (combined s pid).last.after are.1)))

    pub their-steps : (pids : List ℕ) (s : State) → AreCombined program_of most pids s → AreTheirSteps program_of most pids s
    their-steps pids s are = record { steps = their-lives pids s are; final = their-final pids s }

    -- ---- a turn as combined steps

    abbrev last_step : ℕ → ℕ → State → Stepped
    last_step n k s = step program_of (run program_of (replicate n k) s).final k

    -- a combined step that is a turn
    record IsAll (n k : ℕ) (s : State) : Type 0 where
      count : (combined s k).count ≡ suc n
      last : (combined s k).last ≡ last_step n k s

    -- a turn as a combined step and another turn
    record IsPart (n k : ℕ) (s : State) : Type 0 where
      more : ℕ
      fewer : more < n
      turn : IsTurn program_of k more (combined s k).last.after
      steps : (rest : List ℕ) → replicate (combined s k).count k ++ (replicate (suc more) k ++ rest) ≡ replicate (suc n) k ++ rest
      last : last_step more k (combined s k).last.after ≡ last_step n k s

  begins : (most n k : ℕ) (s : State) → IsTurn program_of k n s → IsAll most n k s ⊎ IsPart most n k s
  begins zero zero k s turn = inl (record { count = refl; last = refl })
  begins zero (suc n) k s turn = inr (record { more = n; fewer = omega arith; turn = turn.1; steps = λ rest. refl; last = refl })
  begins (suc most) zero k s turn =
      inl (record { count = ap (λ (c : Combined). c.count) (together-off most s k turn.1); last = ap (λ (c : Combined). c.last) (together-off most s k turn.1) })
  begins (suc most) (suc n) k s turn =
      let same = together-on most s k turn.0 in
      ⊎_elim
      (λ (all : IsAll most n k (step program_of s k).after).
      inl (record { count = ap (λ (c : Combined). c.count) same ∙ ap suc all.count; last = ap (λ (c : Combined). c.last) same ∙ all.last }))
      (λ (part : IsPart most n k (step program_of s k).after).
      inr (record {
        more = part.more;
        fewer = omega (arith, part.fewer);
        turn = subst (λ (c : Combined). IsTurn program_of k part.more c.last.after) (sym same) part.turn;
        steps = λ rest. ap (λ (c : Combined). replicate c.count k ++ (replicate (suc part.more) k ++ rest)) same ∙ ap (λ (ks : List ℕ). k ∷ ks) (part.steps rest);
        last = ap (λ (c : Combined). step program_of (run program_of (replicate part.more k) c.last.after).final k) same ∙ part.last;
      }))
      (begins most n k (step program_of s k).after turn.1)

  turn-live : (n k : ℕ) (s : State) → IsTurn program_of k n s → is_some (process_at s k) ≡ true
  turn-live zero k s turn = turn.0
  turn-live (suc n) k s turn = on-lives s k turn.0

  module _ (most : ℕ) where
    -- combined steps that are a turn
    record Cut (n k : ℕ) (s : State) : Type 0 where
      before : ℕ
      live : (rest : List ℕ) → AreCombined program_of most rest (last_step most n k s).after → AreCombined program_of most (replicate (suc before) k ++ rest) s
      steps : (rest : List ℕ) → all_steps most (replicate (suc before) k ++ rest) s ≡ replicate (suc n) k ++ all_steps most rest (last_step most n k s).after
      after : (rest : List ℕ) → state_after most (replicate (suc before) k ++ rest) s ≡ state_after most rest (last_step most n k s).after
      last : (combined most (state_after most (replicate before k) s) k).last ≡ last_step most n k s

    cut-all : (n k : ℕ) (s : State) → is_some (process_at s k) ≡ true → IsAll most n k s → Cut n k s
    cut-all n k s lives all =
        let after = ap (λ (w : Stepped). w.after) all.last in
        record {
          before = 0;
          live = λ rest are. (lives, subst (AreCombined program_of most rest) (sym after) are);
          steps = λ rest. ap₂ (λ c x. replicate c k ++ all_steps most rest x) all.count after;
          after = λ rest. ap (state_after most rest) after;
          last = all.last;
        }

    cut-part : (n k : ℕ) (s : State) → is_some (process_at s k) ≡ true → (part : IsPart most n k s) → Cut part.more k (combined most s k).last.after → Cut n k s
    cut-part n k s lives part more =
        let after = ap (λ (w : Stepped). w.after) part.last in
        record {
          before = suc more.before;
          live = λ rest are. (lives, more.live rest (subst (AreCombined program_of most rest) (sym after) are));
          steps = λ rest.
              ap (λ (ks : List ℕ). replicate (combined most s k).count k ++ ks) (more.steps rest)
              ∙ part.steps (all_steps most rest (last_step most part.more k (combined most s k).last.after).after)
              ∙ ap (λ x. replicate (suc n) k ++ all_steps most rest x) after;
          after = λ rest. more.after rest ∙ ap (state_after most rest) after;
          last = more.last ∙ part.last;
        }

    cut : (fuel n k : ℕ) (s : State) → n < fuel → IsTurn program_of k n s → Cut n k s
    cut zero n k s less turn = absurd (omega (arith, less))
    cut (suc fuel) n k s less turn =
        ⊎_elim (cut-all n k s (turn-live n k s turn))
        (λ (part : IsPart most n k s). cut-part n k s (turn-live n k s turn) part (cut fuel part.more k (combined most s k).last.after (omega (arith, less, part.fewer)) part.turn))
        (begins most n k s turn)

    -- ---- turns as combined steps

    record All (s : State) (turns : List CombinedTurn) : Type 0 where
      moves : List ℕ
      live : AreCombined program_of most moves s
      steps : all_steps most moves s ≡ steps_of_turns turns
      after : state_after most moves s ≡ (run program_of (steps_of_turns turns) s).final

    all-turns : (turns : List CombinedTurn) (s : State) → AreTurns program_of turns s → All s turns
    all-turns [] s are = record { moves = []; live = tt; steps = refl; after = refl }
    all-turns ((k, n) ∷ turns) s are =
        let cuts = cut (suc n) n k s (omega arith) are.0 in
        let same : (run program_of (replicate (suc n) k) s).final ≡ (last_step most n k s).after = final-last n k s in
        let rest : All (last_step most n k s).after turns = subst (λ x. All x turns) same (all-turns turns (run program_of (replicate (suc n) k) s).final are.1) in
        record {
          moves = replicate (suc cuts.before) k ++ rest.moves;
          live = cuts.live rest.moves rest.live;
          steps = cuts.steps rest.moves ∙ ap (λ (ks : List ℕ). replicate (suc n) k ++ ks) rest.steps;
          after =
              cuts.after rest.moves
              ∙ rest.after
              ∙ ap (λ x. (run program_of (steps_of_turns turns) x).final) (sym same)
              ∙ sym (final-append program_of (replicate (suc n) k) (steps_of_turns turns) s);
        }

    pub combined-form : EncodesPrograms program_of → (s : State) (pids : List ℕ) → IsValid s → AreSteps program_of pids s → CombinedForm program_of most s pids
    combined-form encodes s pids whole steps =
        let form = normal-form program_of encodes s pids whole steps in
        let all = all-turns form.turns s form.joined in
        record {
          combined = all.moves;
          left = form.left;
          live = all.live;
          at_end = subst (AreOnRegisters program_of form.left) (sym all.after) form.at_end;
          count = ap (λ (ks : List ℕ). length (ks ++ form.left)) all.steps ∙ form.count;
          each = λ m. ap (λ (ks : List ℕ). count_of_process m (ks ++ form.left)) all.steps ∙ form.each m;
          replies = ap (λ ks. replies program_of ks s) all.steps ∙ form.replies;
          lines = ap (λ ks. (run program_of ks s).lines) all.steps ∙ form.lines;
          final = ap (λ x. (run program_of form.left x).final) all.after ∙ sym (final-append program_of (steps_of_turns form.turns) form.left s) ∙ form.final;
        }

    -- ---- endings

    pub ends-together : EncodesPrograms program_of → (s : State) (pids : List ℕ) → IsValid s → AreSteps program_of pids s → has_ended (run program_of pids s).final ≡ true → EndsTogether program_of most s pids
    ends-together encodes s pids whole steps ended = of (combined-form encodes s pids whole steps)
      where
        of : CombinedForm program_of most s pids → EndsTogether program_of most s pids
        of form =
            let none : form.left ≡ [] = none-left program_of form.left (state_after most form.combined s) form.at_end (ap has_ended form.final ∙ ended) in
            record {
              combined = form.combined;
              live = form.live;
              count = omega (arith, length-append (all_steps most form.combined s) form.left, ap length none, form.count);
              each = λ m. omega (arith, count-append m (all_steps most form.combined s) form.left, ap (count_of_process m) none, count-none m, form.each m);
              lines = form.lines;
              final = ap (λ left. (run program_of left (state_after most form.combined s)).final) (sym none) ∙ form.final;
            }

    -- ---- combined steps to each reply of turns

    record Ends (s : State) (r : StepResult) (turns : List CombinedTurn) : Type 0 where
      before : List ℕ
      live : AreCombined program_of most (before ++ r.pid ∷ []) s
      alike : step_result r.pid (combined most (state_after most before s) r.pid).last ≡ r
      no_longer : length (all_steps most (before ++ r.pid ∷ []) s) ≤ length (steps_of_turns turns)

    ends-here : (k n : ℕ) (turns : List CombinedTurn) (s : State) → Cut n k s → Ends s (step_result k (last_step most n k s)) ((k, n) ∷ turns)
    ends-here k n turns s cuts =
        let last = replicate-last cuts.before k [] in
        record {
          before = replicate cuts.before k;
          live = subst (λ pids. AreCombined program_of most pids s) (sym last) (cuts.live [] tt);
          alike = ap (step_result k) cuts.last;
          no_longer =
              omega (arith, ap (λ pids. length (all_steps most pids s)) last, ap length (cuts.steps []), length-append (replicate (suc n) k) [], length-append (replicate (suc n) k) (steps_of_turns turns));
        }

    ends-past : (k n : ℕ) (turns : List CombinedTurn) (s : State) (r : StepResult) → Cut n k s → Ends (last_step most n k s).after r turns → Ends s r ((k, n) ∷ turns)
    ends-past k n turns s r cuts rest =
        let joined = append_assoc (replicate (suc cuts.before) k) rest.before (r.pid ∷ []) in
        record {
          before = replicate (suc cuts.before) k ++ rest.before;
          live = subst (λ pids. AreCombined program_of most pids s) (sym joined) (cuts.live (rest.before ++ r.pid ∷ []) rest.live);
          alike = ap (λ x. step_result r.pid (combined most x r.pid).last) (cuts.after rest.before) ∙ rest.alike;
          no_longer =
              omega (
                arith,
                rest.no_longer,
                ap (λ pids. length (all_steps most pids s)) joined,
                ap length (cuts.steps (rest.before ++ r.pid ∷ [])),
                length-append (replicate (suc n) k) (all_steps most (rest.before ++ r.pid ∷ []) (last_step most n k s).after),
                length-append (replicate (suc n) k) (steps_of_turns turns),
              );
        }

    ends : (turns : List CombinedTurn) (s : State) → AreTurns program_of turns s → (rs : List StepResult) (r : StepResult) → replies program_of (steps_of_turns turns) s ≡ rs ++ r ∷ [] → Ends s r turns
    ends [] s are [] r is = cc is
    ends [] s are (other ∷ rs) r is = cc is
    ends ((k, n) ∷ turns) s are [] r is =
        let first : step_result k (last_step most n k s) ∷ replies program_of (steps_of_turns turns) (run program_of (replicate (suc n) k) s).final ≡ r ∷ [] = sym (replies-turn program_of k n (steps_of_turns turns) s are.0) ∙ is in
        let same : step_result k (last_step most n k s) ≡ r = cc first in
        subst (λ (x : StepResult). Ends s x ((k, n) ∷ turns)) same (ends-here k n turns s (cut (suc n) n k s (omega arith) are.0))
    ends ((k, n) ∷ turns) s are (other ∷ rs) r is =
        let first : step_result k (last_step most n k s) ∷ replies program_of (steps_of_turns turns) (run program_of (replicate (suc n) k) s).final ≡ other ∷ (rs ++ r ∷ []) =
        sym (replies-turn program_of k n (steps_of_turns turns) s are.0) ∙ is
        in
        let later : replies program_of (steps_of_turns turns) (run program_of (replicate (suc n) k) s).final ≡ rs ++ r ∷ [] = cc first in
        ends-past k n turns s r (cut (suc n) n k s (omega arith) are.0)
        (subst (λ x. Ends x r turns) (final-last n k s) (ends turns (run program_of (replicate (suc n) k) s).final are.1 rs r later))

    module _ (encodes : EncodesPrograms program_of) (s : State) (whole : IsValid s) where
      pub ends-alike : (pids : List ℕ) (pid : ℕ) → AreSteps program_of (pids ++ pid ∷ []) s → is_step_on_registers (run program_of pids s).final pid ≡ false → EndsInSameStep program_of most s pids pid
      ends-alike pids pid steps off =
          let form = normal-form program_of encodes s (pids ++ pid ∷ []) whole steps in
          let is =
          ends form.turns s form.joined (replies program_of pids s) (step_result pid (step program_of (run program_of pids s).final pid))
          (form.replies ∙ replies-append program_of pids (pid ∷ []) s ∙ ap (λ (rs : List StepResult). replies program_of pids s ++ rs) (replies-off program_of pid [] (run program_of pids s).final off))
          in
          record {
            before = is.before;
            combined = is.live;
            outcome = ap (λ (r : StepResult). r.outcome) is.alike;
            lines = ap (λ (r : StepResult). r.lines) is.alike;
            no_longer = omega (arith, is.no_longer, form.count, length-append (steps_of_turns form.turns) form.left);
          }

    -- ---- the least length of a schedule

    steps-append : (one two : List ℕ) (s : State) → all_steps most (one ++ two) s ≡ all_steps most one s ++ all_steps most two (state_after most one s)
    steps-append [] two s = refl
    steps-append (pid ∷ one) two s =
        let now = combined most s pid in
        ap (λ (ks : List ℕ). replicate now.count pid ++ ks) (steps-append one two now.last.after)
        ∙ sym (append_assoc (replicate now.count pid) (all_steps most one now.last.after) (all_steps most two (state_after most one now.last.after)))

    schedule-of : (s : State) (bytes : Bytes) (n : ℕ) → HasCombined program_of most s bytes n → HasSchedule program_of s bytes n
    schedule-of s bytes n had =
        let x = state_after most had.pids s in
        let is = is-combined most x had.pid in
        let firsts = all_steps most had.pids s in
        let same : (firsts ++ replicate is.before had.pid) ++ had.pid ∷ [] ≡ all_steps most (had.pids ++ had.pid ∷ []) s =
        append_assoc firsts (replicate is.before had.pid) (had.pid ∷ [])
        ∙ ap (λ (ks : List ℕ). firsts ++ ks) (replicate-last is.before had.pid [] ∙ ap (λ c. replicate c had.pid ++ []) (sym is.count))
        ∙ sym (steps-append had.pids (had.pid ∷ []) s)
        in
        let last : step program_of (run program_of (firsts ++ replicate is.before had.pid) s).final had.pid ≡ (combined most x had.pid).last =
        ap (λ y. step program_of y had.pid)
        (final-append program_of firsts (replicate is.before had.pid) s ∙ ap (λ y. (run program_of (replicate is.before had.pid) y).final) (their-final most had.pids s))
        ∙ sym is.last
        in
        record {
          pids = firsts ++ replicate is.before had.pid;
          pid = had.pid;
          steps = subst (λ ks. AreSteps program_of ks s) (sym same) (their-lives most (had.pids ++ had.pid ∷ []) s had.combined);
          text = ap (λ (w : Stepped). trace_bytes w.lines) last ∙ had.text;
          count = ap length same ∙ had.count;
        }

    record NoLonger (s : State) (bytes : Bytes) (n : ℕ) : Type 0 where
      few : ℕ
      fewer : few ≤ n
      had : HasCombined program_of most s bytes few

    module _ (encodes : EncodesPrograms program_of) (s : State) (whole : IsValid s) (bytes : Bytes) (some : bytes ≢ []) where
      combined-of : (n : ℕ) → HasSchedule program_of s bytes n → NoLonger s bytes n
      combined-of n had = by (is_step_on_registers t had.pid) refl
        where
          t : State
          t = (run program_of had.pids s).final

          by : (b : Bool) → is_step_on_registers t had.pid ≡ b → NoLonger s bytes n
          by true on = absurd (some (sym had.text ∙ ap trace_bytes (no-lines program_of t had.pid on)))
          by false off =
              let is = ends-alike encodes s whole had.pids had.pid had.steps off in
              record {
                few = length (all_steps most (is.before ++ had.pid ∷ []) s);
                fewer = omega (arith, is.no_longer, had.count);
                had = record { pids = is.before; pid = had.pid; combined = is.combined; text = ap trace_bytes is.lines ∙ had.text; count = refl };
              }

      pub least-equal : (n : ℕ) → IsLeast (HasSchedule program_of s bytes) n ↔ IsLeast (HasCombined program_of most s bytes) n
      least-equal n = (
        λ least.
            let few = combined-of n least.0 in
            let same : few.few ≡ n = omega (arith, few.fewer, least.1 few.few (schedule-of s bytes few.few few.had)) in
            (subst (HasCombined program_of most s bytes) same few.had, λ m had. least.1 m (schedule-of s bytes m had)),
        λ least. (
          schedule-of s bytes n least.0,
          λ m had. let few = combined-of m had in omega (arith, few.fewer, least.1 few.few few.had),
        ),
      )
