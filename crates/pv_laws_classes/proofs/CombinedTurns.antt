-- Schedules whose steps on registers are joined to other steps.
use Rattle.std.proofs.Common.{◌≡◌, ◌≢◌, ⊎_elim, ℕ, zero, suc, ◌+◌, Bool, true, false, if◌then◌else◌, ◌==◌, List, [], ◌∷◌, ◌++◌, length, replicate, Option, refl, ap, ap₂, sym, subst, ◌∙◌, arith, append_assoc, length-append}
use Rattle.std.proofs.lemmas.Bool.{cases_eq}
use Rattle.pv_model.specs.Machine.{Bytes, Program, State, step, run, Line}
use Rattle.pv_laws_states.specs.States.{EncodesPrograms, IsValid}
use Rattle.pv_laws_states.proofs.ValidBySteps.{step-keeps_valid}
use Rattle.pv_laws_answers.specs.Witnesses.{AreSteps}
use Rattle.pv_laws_classes.specs.Together.{is_step_on_registers, StepResult, step_result, CombinedTurn, steps_of_turns, count_of_process, replies, AreOnRegisters, IsTurn, AreTurns, NormalForm}
use Rattle.pv_laws_classes.proofs.RegisterSteps.{on-lives, no-lines, final-append, PassesTurn, passes-turn}

-- ---- the number of steps of a process

pub count-none : (k : ℕ) → count_of_process k [] ≡ 0
unfolding count_of_process
count-none k = refl

pub count-first : (k pid : ℕ) (pids : List ℕ) → count_of_process k (pid ∷ pids) ≡ count_of_process k (pid ∷ []) + count_of_process k pids
unfolding count_of_process
count-first k pid pids = by (pid == k)
  where
    by : (b : Bool) → (if b then suc (count_of_process k pids) else count_of_process k pids) ≡ (if b then suc 0 else 0) + count_of_process k pids
    by true = omega arith
    by false = omega arith

pub count-append : (k : ℕ) (before after : List ℕ) → count_of_process k (before ++ after) ≡ count_of_process k before + count_of_process k after
count-append k [] after = omega (arith, count-none k)
count-append k (pid ∷ before) after = omega (arith, count-first k pid (before ++ after), count-first k pid before, count-append k before after)

module _ (program_of : Bytes → Option Program) where
  -- ---- replies

  replies-on : (pid : ℕ) (pids : List ℕ) (s : State) → is_step_on_registers s pid ≡ true → replies program_of (pid ∷ pids) s ≡ replies program_of pids (step program_of s pid).after
  replies-on pid pids s on = ap (λ b. if b then replies program_of pids (step program_of s pid).after else step_result pid (step program_of s pid) ∷ replies program_of pids (step program_of s pid).after) on

  pub replies-off : (pid : ℕ) (pids : List ℕ) (s : State) → is_step_on_registers s pid ≡ false
      → replies program_of (pid ∷ pids) s ≡ step_result pid (step program_of s pid) ∷ replies program_of pids (step program_of s pid).after
  replies-off pid pids s off = ap (λ b. if b then replies program_of pids (step program_of s pid).after else step_result pid (step program_of s pid) ∷ replies program_of pids (step program_of s pid).after) off

  pub replies-append : (before after : List ℕ) (s : State) → replies program_of (before ++ after) s ≡ replies program_of before s ++ replies program_of after (run program_of before s).final
  replies-append [] after s = refl
  replies-append (pid ∷ before) after s =
      by (is_step_on_registers s pid) (replies program_of (before ++ after) (step program_of s pid).after) (replies program_of before (step program_of s pid).after)
      (replies program_of after (run program_of (pid ∷ before) s).final) (replies-append before after (step program_of s pid).after)
    where
      now : StepResult
      now = step_result pid (step program_of s pid)

      by : (b : Bool) (xs ys zs : List StepResult) → xs ≡ ys ++ zs → (if b then xs else now ∷ xs) ≡ (if b then ys else now ∷ ys) ++ zs
      by true xs ys zs is = is
      by false xs ys zs is = ap (λ (rs : List StepResult). now ∷ rs) is

  -- the lines of a run are those of the steps that are not on registers
  abbrev pub lines_of : List StepResult → List Line
  lines_of [] = []
  lines_of (r ∷ rs) = r.lines ++ lines_of rs

  pub lines-replies : (pids : List ℕ) (s : State) → (run program_of pids s).lines ≡ lines_of (replies program_of pids s)
  lines-replies [] s = refl
  lines-replies (pid ∷ pids) s = by (lines-replies pids (step program_of s pid).after) (is_step_on_registers s pid) refl
    where
      by : (run program_of pids (step program_of s pid).after).lines ≡ lines_of (replies program_of pids (step program_of s pid).after) → (b : Bool) → is_step_on_registers s pid ≡ b
          → (run program_of (pid ∷ pids) s).lines ≡ lines_of (replies program_of (pid ∷ pids) s)
      by rest true on = ap₂ (λ (ls ms : List Line). ls ++ ms) (no-lines program_of s pid on) rest ∙ sym (ap lines_of (replies-on pid pids s on))
      by rest false off = ap (λ (ms : List Line). (step program_of s pid).lines ++ ms) rest ∙ sym (ap lines_of (replies-off pid pids s off))

  -- a turn has one
  pub replies-turn : (pid count : ℕ) (pids : List ℕ) (s : State) → IsTurn program_of pid count s
      → replies program_of (replicate (suc count) pid ++ pids) s
      ≡ step_result pid (step program_of (run program_of (replicate count pid) s).final pid) ∷ replies program_of pids (run program_of (replicate (suc count) pid) s).final
  replies-turn pid zero pids s turn = replies-off pid pids s turn.1
  replies-turn pid (suc count) pids s turn = replies-on pid (replicate (suc count) pid ++ pids) s turn.0 ∙ replies-turn pid count pids (step program_of s pid).after turn.1

  -- ---- live processes

  turn-lives : (pid count : ℕ) (pids : List ℕ) (s : State) → IsTurn program_of pid count s → AreSteps program_of pids (run program_of (replicate (suc count) pid) s).final
      → AreSteps program_of (replicate (suc count) pid ++ pids) s
  turn-lives pid zero pids s turn rest = (turn.0, rest)
  turn-lives pid (suc count) pids s turn rest = (on-lives s pid turn.0, turn-lives pid count pids (step program_of s pid).after turn.1 rest)

  left-lives : (left : List ℕ) (s : State) → AreOnRegisters program_of left s → AreSteps program_of left s
  left-lives [] s on = tt
  left-lives (pid ∷ left) s on = (on-lives s pid on.0, left-lives left (step program_of s pid).after on.1)

  turns-live : (turns : List CombinedTurn) (left : List ℕ) (s : State) → AreTurns program_of turns s → AreOnRegisters program_of left (run program_of (steps_of_turns turns) s).final
      → AreSteps program_of (steps_of_turns turns ++ left) s
  turns-live [] left s are on = left-lives left s on
  turns-live (turn ∷ turns) left s are on =
      subst (λ pids. AreSteps program_of pids s) (sym (append_assoc (replicate (suc turn.1) turn.0) (steps_of_turns turns) left))
      (turn-lives turn.0 turn.1 (steps_of_turns turns ++ left) s are.0
      (turns-live turns left (run program_of (replicate (suc turn.1) turn.0) s).final are.1
      (subst (AreOnRegisters program_of left) (final-append program_of (replicate (suc turn.1) turn.0) (steps_of_turns turns) s) on)))

  module _ (encodes : EncodesPrograms program_of) where
    -- ---- one more step on registers, before turns

    record Inserted (s : State) (a : ℕ) (others : List CombinedTurn) : Type 0 where
      turns : List CombinedTurn
      left : List ℕ
      joined : AreTurns program_of turns s
      at_end : AreOnRegisters program_of left (run program_of (steps_of_turns turns) s).final
      count : length (steps_of_turns turns) + length left ≡ suc (length (steps_of_turns others))
      each : (m : ℕ) → count_of_process m (steps_of_turns turns) + count_of_process m left ≡ count_of_process m (a ∷ steps_of_turns others)
      answers : replies program_of (steps_of_turns turns) s ≡ replies program_of (steps_of_turns others) (step program_of s a).after
      final : (run program_of left (run program_of (steps_of_turns turns) s).final).final ≡ (run program_of (steps_of_turns others) (step program_of s a).after).final

    keeps-valid : (pid count : ℕ) (s : State) → IsValid s → IsValid (run program_of (replicate count pid) s).final
    keeps-valid pid zero s whole = whole
    keeps-valid pid (suc count) s whole = keeps-valid pid count (step program_of s pid).after (step-keeps_valid program_of encodes s pid whole)

    -- before a turn of the same process
    inserted-here : (n : ℕ) (others : List CombinedTurn) (s : State) (k a : ℕ) → k ≡ a → is_step_on_registers s a ≡ true → AreTurns program_of ((k, n) ∷ others) (step program_of s a).after
        → Inserted s a ((k, n) ∷ others)
    inserted-here n others s k a same on are =
        let turn : IsTurn program_of a n (step program_of s a).after = subst (λ pid. IsTurn program_of pid n (step program_of s a).after) same are.0 in
        let rest : AreTurns program_of others (run program_of (replicate (suc n) a) (step program_of s a).after).final =
        subst (λ pid. AreTurns program_of others (run program_of (replicate (suc n) pid) (step program_of s a).after).final) same are.1
        in
        record {
          turns = (a, suc n) ∷ others;
          left = [];
          joined = ((on, turn), rest);
          at_end = tt;
          count = ap (λ pid. suc (length (steps_of_turns ((pid, n) ∷ others))) + 0) (sym same) ∙ omega arith;
          each = λ m. omega (arith, count-none m, ap (λ pid. count_of_process m (a ∷ steps_of_turns ((pid, n) ∷ others))) same);
          answers =
              replies-on a (steps_of_turns ((a, n) ∷ others)) s on
              ∙ ap (λ pid. replies program_of (steps_of_turns ((pid, n) ∷ others)) (step program_of s a).after) (sym same);
          final = ap (λ pid. (run program_of (steps_of_turns ((pid, n) ∷ others)) (step program_of s a).after).final) (sym same);
        }

    -- past a turn of another process
    inserted-past : (n : ℕ) (others : List CombinedTurn) (s : State) (k a : ℕ) (differ : k ≢ a) → AreTurns program_of ((k, n) ∷ others) (step program_of s a).after → PassesTurn program_of encodes k a differ s n
        → Inserted (run program_of (replicate (suc n) k) s).final a others → Inserted s a ((k, n) ∷ others)
    inserted-past n others s k a differ are past rest = record {
      turns = (k, n) ∷ rest.turns;
      left = rest.left;
      joined = (past.turn, rest.joined);
      at_end = subst (AreOnRegisters program_of rest.left) (sym (final-append program_of (replicate (suc n) k) (steps_of_turns rest.turns) s)) rest.at_end;
      count = omega (arith, rest.count, length-append (replicate (suc n) k) (steps_of_turns rest.turns), length-append (replicate (suc n) k) (steps_of_turns others));
      each = λ m.
          omega (
            arith,
            rest.each m,
            count-append m (replicate (suc n) k) (steps_of_turns rest.turns),
            count-append m (replicate (suc n) k) (steps_of_turns others),
            count-first m a (steps_of_turns others),
            count-first m a (replicate (suc n) k ++ steps_of_turns others),
          );
      answers =
          replies-turn k n (steps_of_turns rest.turns) s past.turn
          ∙ ap₂ (λ r (rs : List StepResult). r ∷ rs) past.reply (rest.answers ∙ ap (replies program_of (steps_of_turns others)) past.after)
          ∙ sym (replies-turn k n (steps_of_turns others) (step program_of s a).after are.0);
      final =
          ap (λ x. (run program_of rest.left x).final) (final-append program_of (replicate (suc n) k) (steps_of_turns rest.turns) s)
          ∙ rest.final
          ∙ ap (λ x. (run program_of (steps_of_turns others) x).final) past.after
          ∙ sym (final-append program_of (replicate (suc n) k) (steps_of_turns others) (step program_of s a).after);
    }

    insert : (others : List CombinedTurn) (s : State) (a : ℕ) → IsValid s → is_step_on_registers s a ≡ true → AreTurns program_of others (step program_of s a).after → Inserted s a others
    insert [] s a whole on are =
        record { turns = []; left = a ∷ []; joined = tt; at_end = (on, tt); count = refl; each = λ m. omega (arith, count-none m); answers = refl; final = refl }
    insert ((k, n) ∷ others) s a whole on are =
        ⊎_elim (λ same. inserted-here n others s k a same on are)
        (λ differ.
        let past = passes-turn program_of encodes k a differ n s whole on are.0 in
        inserted-past n others s k a differ are past
        (insert others (run program_of (replicate (suc n) k) s).final a (keeps-valid k (suc n) s whole) past.on (subst (AreTurns program_of others) (sym past.after) are.1)))
        (cases_eq k a)

    -- ---- the normal form

    record Joined (s : State) (pids : List ℕ) : Type 0 where
      turns : List CombinedTurn
      left : List ℕ
      joined : AreTurns program_of turns s
      at_end : AreOnRegisters program_of left (run program_of (steps_of_turns turns) s).final
      count : length (steps_of_turns turns) + length left ≡ length pids
      each : (m : ℕ) → count_of_process m (steps_of_turns turns) + count_of_process m left ≡ count_of_process m pids
      answers : replies program_of (steps_of_turns turns) s ≡ replies program_of pids s
      final : (run program_of left (run program_of (steps_of_turns turns) s).final).final ≡ (run program_of pids s).final

    both-on : (one two : List ℕ) (s : State) → AreOnRegisters program_of one s → AreOnRegisters program_of two (run program_of one s).final → AreOnRegisters program_of (one ++ two) s
    both-on [] two s first second = second
    both-on (pid ∷ one) two s first second = (first.0, both-on one two (step program_of s pid).after first.1 second)

    join : (pids : List ℕ) (s : State) → IsValid s → AreSteps program_of pids s → Joined s pids
    join [] s whole steps =
        record { turns = []; left = []; joined = tt; at_end = tt; count = refl; each = λ m. omega (arith, count-none m); answers = refl; final = refl }
    join (pid ∷ pids) s whole steps = by (join pids (step program_of s pid).after (step-keeps_valid program_of encodes s pid whole) steps.1) (is_step_on_registers s pid) refl
      where
        by : Joined (step program_of s pid).after pids → (b : Bool) → is_step_on_registers s pid ≡ b → Joined s (pid ∷ pids)
        by rest false off = record {
          turns = (pid, 0) ∷ rest.turns;
          left = rest.left;
          joined = ((steps.0, off), rest.joined);
          at_end = rest.at_end;
          count = omega (arith, rest.count);
          each = λ m. omega (arith, rest.each m, count-first m pid (steps_of_turns rest.turns), count-first m pid pids);
          answers =
              replies-off pid (steps_of_turns rest.turns) s off
              ∙ ap (λ (rs : List StepResult). step_result pid (step program_of s pid) ∷ rs) rest.answers
              ∙ sym (replies-off pid pids s off);
          final = rest.final;
        }
        by rest true on =
            let more : Inserted s pid rest.turns = insert rest.turns s pid whole on rest.joined in
            record {
              turns = more.turns;
              left = more.left ++ rest.left;
              joined = more.joined;
              at_end =
                  both-on more.left rest.left (run program_of (steps_of_turns more.turns) s).final more.at_end
                  (subst (AreOnRegisters program_of rest.left) (sym more.final) rest.at_end);
              count = omega (arith, more.count, rest.count, length-append more.left rest.left);
              each = λ m.
                  omega (arith, more.each m, rest.each m, count-append m more.left rest.left, count-first m pid (steps_of_turns rest.turns), count-first m pid pids);
              answers = more.answers ∙ rest.answers ∙ sym (replies-on pid pids s on);
              final =
                  final-append program_of more.left rest.left (run program_of (steps_of_turns more.turns) s).final
                  ∙ ap (λ x. (run program_of rest.left x).final) more.final
                  ∙ rest.final;
            }

    pub normal-form : (s : State) (pids : List ℕ) → IsValid s → AreSteps program_of pids s → NormalForm program_of s pids
    normal-form s pids whole steps =
        let is = join pids s whole steps in
        record {
          turns = is.turns;
          left = is.left;
          joined = is.joined;
          at_end = is.at_end;
          steps = turns-live is.turns is.left s is.joined is.at_end;
          count = length-append (steps_of_turns is.turns) is.left ∙ is.count;
          each = λ m. count-append m (steps_of_turns is.turns) is.left ∙ is.each m;
          replies = is.answers;
          lines = lines-replies (steps_of_turns is.turns) s ∙ ap lines_of is.answers ∙ sym (lines-replies pids s);
          final = final-append program_of (steps_of_turns is.turns) is.left s ∙ is.final;
        }
