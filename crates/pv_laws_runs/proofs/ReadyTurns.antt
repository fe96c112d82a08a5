-- The steps of a fair schedule are of ready processes.
use Rattle.std.proofs.Common.{◌≡◌, ◌∙◌, ℕ, zero, suc, ◌+◌, ◌-◌, ◌<◌, ◌≤◌, Bool, true, false, cond, List, [], ◌∷◌, ◌++◌, length, length-append, Option, None, Some, refl, sym, ap, subst, min, arith}
use Rattle.std.specs.Prelude.{IsSome, replicate}
use Rattle.pv_model.specs.Machine.{continues, next_turn, turns, Bytes, Process, Program, State, process_at, Run, run, step, step_of, steps_of}
use Rattle.pv_model.specs.Answers.Turns.{Turn, one_step_more, turn, turn_then, turns_within}
use Rattle.pv_model.proofs.RunComposition.{run-append}
use Rattle.pv_laws_runs.specs.Turns.{AllReady, IsReady}
use Rattle.pv_laws_runs.proofs.TurnSteps.{next-goes, turn-few, turn-some}

module _ (program_of : Bytes → Option Program) where
  -- a step that can be made is of a ready process
  ready : (s : State) (pid : ℕ) → continues (step program_of s pid).outcome ≡ true → IsReady program_of s pid
  unfolding step
  ready s pid is = record { live = there (process_at s pid) refl; free = λ blocked. let on = ap continues blocked in cc (on, is) }
    where
      there : (o : Option Process) → process_at s pid ≡ o → IsSome o
      there None none = let gone = ap (λ (p : Option Process). continues (step_of program_of s pid p).outcome) none in cc (gone, is)
      there (Some p) some = refl

  all-append : (xs ys : List ℕ) (s : State) → AllReady program_of xs s → AllReady program_of ys (run program_of xs s).final → AllReady program_of (xs ++ ys) s
  all-append [] ys s first then = then
  all-append (x ∷ xs) ys s first then = (first.0, all-append xs ys (step program_of s x).after first.1 then)

  -- a turn, as steps of its process
  pub record IsTurn (pid : ℕ) (s : State) (now : Turn) : Type 0 where
    pub ready : AllReady program_of (replicate now.count pid) s
    pub after : (run program_of (replicate now.count pid) s).final ≡ now.after

  pub turn-is : (n pid : ℕ) (s : State) → IsTurn pid s (turn program_of n pid s)
  unfolding turn
  turn-is zero pid s = record { ready = tt; after = refl }
  turn-is (suc n) pid s = by (continues (step program_of s pid).outcome) refl (turn-is n pid (step program_of s pid).after)
    where
      by : (b : Bool) → continues (step program_of s pid).outcome ≡ b → IsTurn pid (step program_of s pid).after (turn program_of n pid (step program_of s pid).after)
          → IsTurn pid s (cond b (one_step_more (turn program_of n pid (step program_of s pid).after)) (let it : Turn = record { count = 0; after = s } in it))
      by true is rest = record { ready = (ready s pid is, rest.ready); after = rest.after }
      by false is rest = record { ready = tt; after = refl }

  length-replicate : (n pid : ℕ) → length (replicate n pid) ≡ n
  length-replicate zero pid = refl
  length-replicate (suc n) pid = ap suc (length-replicate n pid)

  module _ (slice : ℕ) where
    -- each step is of a ready process
    pub within-ready : (turns steps pid : ℕ) (s : State) → AllReady program_of (steps_of (turns_within program_of slice turns steps pid s)) s
    within-ready zero steps pid s = tt
    within-ready (suc turns) zero pid s = tt
    within-ready (suc turns) (suc n) pid s =
        by (next_turn program_of pid s)
        (λ q. within-ready turns (suc n - (turn program_of (min slice (suc n)) q s).count) q (turn program_of (min slice (suc n)) q s).after)
      where
        by : (o : Option ℕ) → ((q : ℕ) → let now = turn program_of (min slice (suc n)) q s in AllReady program_of (steps_of (turns_within program_of slice turns (suc n - now.count) q now.after)) now.after)
            → AllReady program_of (steps_of (turn_then program_of slice (turns_within program_of slice turns) (suc n) s o)) s
        by None rest = tt
        by (Some q) rest =
            let now = turn program_of (min slice (suc n)) q s in
            let is = turn-is (min slice (suc n)) q s in
            all-append (replicate now.count q) (steps_of (turns_within program_of slice turns (suc n - now.count) q now.after)) s is.ready
            (subst (λ (t : State). AllReady program_of (steps_of (turns_within program_of slice turns (suc n - now.count) q now.after)) t) (sym is.after) (rest q))

    -- there are at most the steps asked
    pub within-few : (turns steps pid : ℕ) (s : State) → length (steps_of (turns_within program_of slice turns steps pid s)) ≤ steps
    within-few zero steps pid s = omega arith
    within-few (suc turns) zero pid s = omega arith
    within-few (suc turns) (suc n) pid s =
        by (next_turn program_of pid s)
        (λ q. within-few turns (suc n - (turn program_of (min slice (suc n)) q s).count) q (turn program_of (min slice (suc n)) q s).after)
      where
        by : (o : Option ℕ) → ((q : ℕ) → let now = turn program_of (min slice (suc n)) q s in length (steps_of (turns_within program_of slice turns (suc n - now.count) q now.after)) ≤ suc n - now.count)
            → length (steps_of (turn_then program_of slice (turns_within program_of slice turns) (suc n) s o)) ≤ suc n
        by None rest = omega arith
        by (Some q) rest =
            let now = turn program_of (min slice (suc n)) q s in
            let others = steps_of (turns_within program_of slice turns (suc n - now.count) q now.after) in
            let most : now.count ≤ min slice (suc n) = turn-few program_of (min slice (suc n)) q s in
            let few : length others ≤ suc n - now.count = rest q in
            let both : length (replicate now.count q ++ others) ≡ now.count + length others =
            length-append (replicate now.count q) others ∙ ap (λ k. k + length others) (length-replicate now.count q) in
            subst (λ k. k ≤ suc n) (sym both) (omega (arith, most, few))

    -- if fewer steps are made, no process can make a step after them
    abbrev pub EndsIdle : List ℕ → State → Type 0
    EndsIdle pids s = (last : ℕ) × (next_turn program_of last (run program_of pids s).final ≡ None)

    idle-after : (pid count : ℕ) (rest : List ℕ) (s after : State) → (run program_of (replicate count pid) s).final ≡ after → EndsIdle rest after → EndsIdle (replicate count pid ++ rest) s
    idle-after pid count rest s after at idle = (
      idle.0,
      ap (λ (r : Run). next_turn program_of idle.0 r.final) (run-append program_of (replicate count pid) rest s)
          ∙ ap (λ (t : State). next_turn program_of idle.0 (run program_of rest t).final) at ∙ idle.1,
    )

    pub within-end : 1 ≤ slice → (turns steps pid : ℕ) (s : State) → steps ≤ turns → length (steps_of (turns_within program_of slice turns steps pid s)) < steps
        → EndsIdle (steps_of (turns_within program_of slice turns steps pid s)) s
    within-end whole zero steps pid s enough fewer = absurd (omega arith)
    within-end whole (suc turns) zero pid s enough fewer = absurd (omega arith)
    within-end whole (suc turns) (suc n) pid s enough fewer =
        by (next_turn program_of pid s) refl fewer
        (λ q low fits. within-end whole turns (suc n - (turn program_of (min slice (suc n)) q s).count) q (turn program_of (min slice (suc n)) q s).after low fits)
      where
        made : ℕ → Turn
        made q = turn program_of (min slice (suc n)) q s

        rest-of : ℕ → List ℕ
        rest-of q = steps_of (turns_within program_of slice turns (suc n - (made q).count) q (made q).after)

        by : (o : Option ℕ) → next_turn program_of pid s ≡ o
            → length (steps_of (turn_then program_of slice (turns_within program_of slice turns) (suc n) s o)) < suc n
            → ((q : ℕ) → suc n - (made q).count ≤ turns → length (rest-of q) < suc n - (made q).count → EndsIdle (rest-of q) (made q).after)
            → EndsIdle (steps_of (turn_then program_of slice (turns_within program_of slice turns) (suc n) s o)) s
        by None is fewer later = (pid, is)
        by (Some q) is fewer later =
            let most : (made q).count ≤ min slice (suc n) = turn-few program_of (min slice (suc n)) q s in
            let some : 1 ≤ (made q).count = turn-some program_of (min slice (suc n)) q s (omega arith) (next-goes program_of pid s q is) in
            let both : length (replicate (made q).count q ++ rest-of q) ≡ (made q).count + length (rest-of q) =
            length-append (replicate (made q).count q) (rest-of q) ∙ ap (λ k. k + length (rest-of q)) (length-replicate (made q).count q) in
            let fits : (made q).count + length (rest-of q) < suc n = subst (λ k. k < suc n) both fewer in
            idle-after q (made q).count (rest-of q) s (made q).after (turn-is (min slice (suc n)) q s).after (later q (omega arith) (omega arith))
