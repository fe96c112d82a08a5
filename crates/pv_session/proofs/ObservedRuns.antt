-- Runs with an observer, by the steps that it makes.
use Rattle.std.proofs.Common.{◌≡◌, ◌<◌, ◌≤◌, ◌+◌, ◌-◌, ◌*◌, ◌^◌, ◌∙◌, ◌⊎◌, ℕ, suc, List, [], ◌∷◌, ◌++◌, length, length-append, drop, drop-cons, get_or, append_assoc, append-nil, add-one, arith, refl, ap, sym, subst, inl, inr}
use Rattle.std.specs.Prelude.{replicate}
use Rattle.std.proofs.lemmas.List.{drop_all, length-replicate, replicate-append-replicate}
use Rattle.pv_model.specs.Machine.{program_of, run, Schedule, steps_of}
use Rattle.pv_session.specs.Observing.{Observed, AreMade, AreStopped}
use Rattle.pv_session.specs.Running.{stepped}

module _ {O W : Type 0} (makes : ℕ → Observed O W → Observed O W → Type 0) where
  -- all steps but the rest were made
  pub record AreMadeBut (rest all : List ℕ) (x now : Observed O W) : Type 0 where
    pub done : List ℕ
    pub whole : done ++ rest ≡ all
    pub made : AreMade makes done x now

  -- some steps, followed by others
  made-append : (pids others : List ℕ) (x y z : Observed O W) → AreMade makes pids x y → AreMade makes others y z → AreMade makes (pids ++ others) x z
  made-append [] others x y z same more = subst (λ (t : Observed O W). AreMade makes others t z) same more
  made-append (pid ∷ pids) others x y z made more = (made.0, made.1, made-append pids others made.0 y z made.2 more)

  stopped-after : (stops : ℕ → Observed O W → Observed O W → Type 0) (pids others : List ℕ) (x y z : Observed O W) → AreMade makes pids x y → AreStopped makes stops others y z
      → AreStopped makes stops (pids ++ others) x z
  stopped-after stops [] others x y z same stop = subst (λ (t : Observed O W). AreStopped makes stops others t z) same stop
  stopped-after stops (pid ∷ pids) others x y z made stop = inr (made.0, made.1, stopped-after stops pids others made.0 y z made.2 stop)

-- the state after steps, if each step leaves the state that the machine's step leaves
pub state-after : {O W : Type 0} (makes : ℕ → Observed O W → Observed O W → Type 0) → ((pid : ℕ) (x y : Observed O W) → makes pid x y → y.state ≡ (stepped x.state pid).after)
    → (pids : List ℕ) (x z : Observed O W) → AreMade makes pids x z → z.state ≡ (run program_of pids x.state).final
state-after makes each [] x z same = ap (λ t. t.state) same
state-after makes each (pid ∷ pids) x z made = state-after makes each pids made.0 z made.2 ∙ ap (λ s. (run program_of pids s).final) (each pid x made.0 made.1)

-- the steps from a turn on: those of the turn, and those after it
from-turn : (schedule : Schedule) (i : ℕ) → i < length schedule
    → steps_of (drop i schedule) ≡ replicate (get_or schedule i (0, 0)).1 (get_or schedule i (0, 0)).0 ++ steps_of (drop (i + 1) schedule)
from-turn schedule i within =
    ap steps_of (drop-cons schedule i (0, 0) within) ∙ ap (λ k. replicate (get_or schedule i (0, 0)).1 (get_or schedule i (0, 0)).0 ++ steps_of (drop k schedule)) (sym (add-one i))

-- each turn has fewer than 2^32 steps
pub few-none : (schedule : Schedule) → length (steps_of schedule) ≤ 2 ^ 32 * 0 + length (steps_of (drop 0 schedule))
few-none schedule = omega arith

pub few-more : (schedule : Schedule) (i : ℕ) → i < length schedule → (get_or schedule i (0, 0)).1 < 2 ^ 32 → length (steps_of schedule) ≤ 2 ^ 32 * i + length (steps_of (drop i schedule))
    → length (steps_of schedule) ≤ 2 ^ 32 * (i + 1) + length (steps_of (drop (i + 1) schedule))
few-more schedule i within count few =
    let turn = get_or schedule i (0, 0) in
    let both : length (steps_of (drop i schedule)) ≡ turn.1 + length (steps_of (drop (i + 1) schedule)) =
    ap length (from-turn schedule i within) ∙ length-append (replicate turn.1 turn.0) (steps_of (drop (i + 1) schedule))
    ∙ ap (λ n. n + length (steps_of (drop (i + 1) schedule))) (length-replicate turn.1 turn.0) in
    omega (arith, both, count, few)

pub few-all : (schedule : Schedule) (i : ℕ) → length schedule ≤ i → i ≤ length schedule → length (steps_of schedule) ≤ 2 ^ 32 * i + length (steps_of (drop i schedule))
    → length (steps_of schedule) ≤ 2 ^ 32 * length schedule
few-all schedule i past end few = omega (arith, ap (λ turns. length (steps_of turns)) (drop_all i schedule past), past, end, few)

module _ {O W : Type 0} {makes : ℕ → Observed O W → Observed O W → Type 0} where
  -- before the first step
  pub but-all : (all : List ℕ) (x : Observed O W) → AreMadeBut makes all all x x
  but-all all x = record { done = []; whole = refl; made = refl }

  module _ {all : List ℕ} {x y : Observed O W} where
    but-as : (rest left : List ℕ) → rest ≡ left → AreMadeBut makes rest all x y → AreMadeBut makes left all x y
    but-as rest left same but = subst (λ (pids : List ℕ). AreMadeBut makes pids all x y) same but

    -- before the steps of a turn
    pub but-turn : (schedule : Schedule) (i : ℕ) → i < length schedule → AreMadeBut makes (steps_of (drop i schedule)) all x y
        → AreMadeBut makes (replicate (get_or schedule i (0, 0)).1 (get_or schedule i (0, 0)).0 ++ steps_of (drop (i + 1) schedule)) all x y
    but-turn schedule i within but = but-as _ _ (from-turn schedule i within) but

    -- after the last step of a turn
    pub but-after : (left pid : ℕ) (rest : List ℕ) → left ≤ 0 → AreMadeBut makes (replicate left pid ++ rest) all x y → AreMadeBut makes rest all x y
    but-after left pid rest none but = let zero : left ≡ 0 = omega arith in but-as (replicate left pid ++ rest) rest (ap (λ k. replicate k pid ++ rest) zero) but

    -- after the last turn
    pub but-none : (schedule : Schedule) (i : ℕ) → length schedule ≤ i → AreMadeBut makes (steps_of (drop i schedule)) all x y → AreMade makes all x y
    but-none schedule i past but =
        let ends : steps_of (drop i schedule) ≡ [] = ap steps_of (drop_all i schedule past) in
        subst (λ (pids : List ℕ). AreMade makes pids x y) (sym (append-nil but.done) ∙ ap (λ pids. but.done ++ pids) (sym ends) ∙ but.whole) but.made

    -- after more steps of a turn
    pub but-fewer : (z : Observed O W) (n left pid : ℕ) (rest : List ℕ) → n ≤ left → AreMadeBut makes (replicate left pid ++ rest) all x y → AreMade makes (replicate n pid) y z
        → AreMadeBut makes (replicate (left - n) pid ++ rest) all x z
    but-fewer z n left pid rest within but made = record {
      done = but.done ++ replicate n pid;
      whole =
          let parts : n + (left - n) ≡ left = omega arith in
          append_assoc but.done (replicate n pid) (replicate (left - n) pid ++ rest)
          ∙ ap (λ pids. but.done ++ pids)
          (sym (append_assoc (replicate n pid) (replicate (left - n) pid) rest) ∙ ap (λ pids. pids ++ rest) (replicate-append-replicate n (left - n) pid ∙ ap (λ k. replicate k pid) parts))
          ∙ but.whole;
      made = made-append makes but.done (replicate n pid) x y z but.made made;
    }

    -- the next step of a turn stops the run
    pub but-stopped : (stops : ℕ → Observed O W → Observed O W → Type 0) (z : Observed O W) (left pid : ℕ) (rest : List ℕ) → 0 < left
        → AreMadeBut makes (replicate left pid ++ rest) all x y → stops pid y z → AreStopped makes stops all x z
    but-stopped stops z left pid rest some but stop =
        let first : left ≡ suc (left - 1) = omega arith in
        subst (λ (pids : List ℕ). AreStopped makes stops pids x z) but.whole
        (stopped-after makes stops but.done (replicate left pid ++ rest) x y z but.made
        (subst (λ (k : ℕ). AreStopped makes stops (replicate k pid ++ rest) y z) (sym first) (inl stop)))
