-- The live process with the greatest number does not wait for a live child.
use Rattle.std.proofs.Common.{◌≡◌, ◌≢◌, ◌∙◌, sym, ap, subst, ℕ, ◌<◌, ◌≤◌, Bool, true, false, cond, ◌==◌, nat_le, List, [], ◌∷◌, filter, Option, Some, refl, inl, inr, arith}
use Rattle.std.proofs.lemmas.Bool.{eqb-true, leb-true}
use Rattle.std.proofs.lemmas.Bool.Decides.{nat_tests}
use Rattle.pv_model.specs.declared.call.Call.{Call}
use Rattle.pv_model.specs.declared.call.Call.TheVariants.{Wait}
use Rattle.pv_model.specs.declared.errno.Errno.TheVariants.{ECHILD}
use Rattle.pv_model.specs.declared.outcome.Outcome.TheVariants.{Blocked}
use Rattle.pv_model.specs.Machine.{answer, answer_by_attempt, at_next_line, effect, Attempt, done, refused, ◌>>◌, refuse_if, Bytes, is_empty, parent_of, statuses, children, reap, wait, Effect, Reply, returns, returns_bytes, ends, waits, live_processes, Next, inside, calls_for, next, Program, Process, ProcessRecord, live, ended_record, State, process_at, Stepped, step, step_by, run}
use Rattle.pv_laws_states.specs.States.{EncodesPrograms, IsValid}
use Rattle.pv_laws_states.proofs.AttemptValues.{Leads}
use Rattle.pv_laws_states.proofs.ValidBySteps.{step-keeps_valid}
use Rattle.pv_laws_states.proofs.CallOutcomes.{at_call, by_answer}
use Rattle.pv_laws_states.proofs.Processes.{process_at-other}
use Rattle.pv_laws_states.proofs.ValidReplies.{valid-at_call}
use Rattle.pv_laws_access.proofs.EffectByCall.{does-effect}
use Rattle.pv_laws_access.proofs.ProcessesAfterEnds.{step-is}
use Rattle.pv_laws_access.proofs.CallEffects.{HasEffect, stays, restrains, begins, closes, copies, forks, reaps, moves, cuts, writes_bytes, makes, links, unlinks, renames, opens, creates, Did, continues}
use Rattle.pv_laws_answers.specs.Waits.{ParentsHaveLesserNumbers, HasUnblockedProcess}
use Rattle.pv_laws_answers.proofs.Lists.{Among}
use Rattle.pv_laws_answers.proofs.LiveProcesses.{listed-live, live-listed}
use Rattle.pv_laws_answers.proofs.ParentNumbers.{older-at, older-called, older-step}

-- ---- only wait waits

waits-effect : (s : State) (pid : ℕ) (me : Process) (call : Call) (after : State) (r : Reply) → HasEffect s pid me call after r → r ≡ waits → call ≡ Wait
waits-effect s pid me call _ _ (stays r waiting) is = waiting is
waits-effect s pid me call _ _ (restrains q r no_more same parent table goes) is = let on = ap continues is in cc
waits-effect s pid me call _ _ (begins path program new) is = cc
waits-effect s pid me call _ _ (closes d) is = cc
waits-effect s pid me call _ _ (copies d x n found) is = cc
waits-effect s pid me call _ _ (forks new) is = cc
waits-effect s pid me call _ _ (reaps k r ended goes) is = let on = ap continues is in cc
waits-effect s pid me call _ _ (moves k old new r there node mode named goes) is = let on = ap continues is in cc
waits-effect s pid me call _ _ (cuts f bytes has) is = cc
waits-effect s pid me call _ _ (writes_bytes f bytes k old new n has there node mode named) is = cc
waits-effect s pid me call _ _ (makes place p node change none bare) is = cc
waits-effect s pid me call _ _ (links place p old n change from_old node fine) is = cc
waits-effect s pid me call _ _ (unlinks place p change) is = cc
waits-effect s pid me call _ _ (renames place p there q n from into node) is = cc
waits-effect s pid me call _ _ (opens flags place n m flagged allowed found fine written) is = cc
waits-effect s pid me call _ _ (creates flags place p m flagged allowed create named none fine) is = cc

-- an attempt that blocks
blocks-done : (before x : State) (pid : ℕ) (me : Process) (a : Attempt Effect) (P : Effect → Type 0) → Leads P a → (answer_by_attempt before x pid me a).outcome ≡ Blocked
    → (after : State) × P (after, waits)
blocks-done before x pid me (done walks (after, returns n)) P leads is = cc
blocks-done before x pid me (done walks (after, returns_bytes n bytes)) P leads is = cc
blocks-done before x pid me (done walks (after, ends status)) P leads is = cc
blocks-done before x pid me (done walks (after, waits)) P leads is = (after, leads)
blocks-done before x pid me (refused walks errno cause) P leads is = cc

effect-wait : (program_of : Bytes → Option Program) (x : State) (pid : ℕ) (me : Process) → effect program_of x pid me Wait ≡ wait x pid me
unfolding effect
effect-wait program_of x pid me = refl

-- ---- a wait that blocks has a live child

record HasLiveChild (test : ℕ × ProcessRecord → Bool) (rs : List (ℕ × ProcessRecord)) : Type 0 where
  pub pid : ℕ
  pub process : Process
  pub within : Among (pid, process) (live_processes rs)
  pub passes : test (pid, live process) ≡ true

live-child : (test : ℕ × ProcessRecord → Bool) (rs : List (ℕ × ProcessRecord)) → is_empty (filter test rs) ≡ false → statuses (filter test rs) ≡ [] → HasLiveChild test rs
live-child test [] some none = cc
live-child test ((k, live q) ∷ rs) some none = by (live-child test rs) (test (k, live q)) refl some none
  where
    more : HasLiveChild test rs → HasLiveChild test ((k, live q) ∷ rs)
    more it = record { pid = it.pid; process = it.process; within = inr it.within; passes = it.passes }

    by : (is_empty (filter test rs) ≡ false → statuses (filter test rs) ≡ [] → HasLiveChild test rs) → (b : Bool) → test (k, live q) ≡ b
        → is_empty (cond b ((k, live q) ∷ filter test rs) (filter test rs)) ≡ false → statuses (cond b ((k, live q) ∷ filter test rs) (filter test rs)) ≡ [] → HasLiveChild test ((k, live q) ∷ rs)
    by rest true is some none = record { pid = k; process = q; within = inl refl; passes = is }
    by rest false is some none = more (rest some none)
live-child test ((k, ended_record parent status) ∷ rs) some none = by (live-child test rs) (test (k, ended_record parent status)) some none
  where
    more : HasLiveChild test rs → HasLiveChild test ((k, ended_record parent status) ∷ rs)
    more it = record { pid = it.pid; process = it.process; within = it.within; passes = it.passes }

    by : (is_empty (filter test rs) ≡ false → statuses (filter test rs) ≡ [] → HasLiveChild test rs) → (b : Bool)
        → is_empty (cond b ((k, ended_record parent status) ∷ filter test rs) (filter test rs)) ≡ false → statuses (cond b ((k, ended_record parent status) ∷ filter test rs) (filter test rs)) ≡ []
        → HasLiveChild test ((k, ended_record parent status) ∷ rs)
    by rest true some none = cc none
    by rest false some none = more (rest some none)

blocked-wait : (before x : State) (pid : ℕ) (me : Process) → (answer_by_attempt before x pid me (wait x pid me)).outcome ≡ Blocked
    → HasLiveChild (λ r. parent_of r.1 == pid) x.processes
blocked-wait before x pid me = by (is_empty (children x pid me)) refl (statuses (children x pid me)) refl
  where
    by : (b : Bool) → is_empty (children x pid me) ≡ b → (ss : List (ℕ × ℕ)) → statuses (children x pid me) ≡ ss
        → (answer_by_attempt before x pid me (refuse_if ECHILD b >> reap x pid me ss)).outcome ≡ Blocked → HasLiveChild (λ r. parent_of r.1 == pid) x.processes
    by true none ss is blocks = cc blocks
    by false some [] is blocks = live-child (λ r. parent_of r.1 == pid) x.processes some is
    by false some ((k, status) ∷ rs) is blocks = cc blocks

-- ---- a process whose step blocks has a live child with a greater number

module _ (program_of : Bytes → Option Program) (s : State) (whole : IsValid s) (all : ParentsHaveLesserNumbers s) where
  child-after : (pid : ℕ) (me : Process) → process_at s pid ≡ Some me → HasLiveChild (λ r. parent_of r.1 == pid) (at_call s pid me).processes
      → (k : ℕ) × (q : Process) × (process_at s k ≡ Some q) × (pid < k)
  child-after pid me at it =
      let x : State = at_call s pid me in
      let x_all : ParentsHaveLesserNumbers x = older-called s pid me all at in
      let there : process_at x it.pid ≡ Some it.process = listed-live x it.pid it.process (valid-at_call s pid me whole at).processes.ascending it.within in
      let older : it.process.parent < it.pid = older-at x it.pid it.process x_all there in
      let parent : it.process.parent ≡ pid = eqb-true it.process.parent pid it.passes in
      let other : it.pid ≢ pid = λ same. absurd (omega arith) in
      (it.pid, it.process, sym (process_at-other s pid (at_next_line me) it.pid other) ∙ there, omega arith)

  blocked-call : (pid : ℕ) (call : Call) → (answer program_of s pid call).outcome ≡ Blocked → (k : ℕ) × (q : Process) × (process_at s k ≡ Some q) × (pid < k)
  blocked-call pid call =
      by_answer (λ a. a.outcome ≡ Blocked → (k : ℕ) × (q : Process) × (process_at s k ≡ Some q) × (pid < k)) program_of s pid call
      (λ none is. cc)
      (λ me at missing is. does me at is)
      (λ me p at missing lenient is. cc)
      (λ me p at missing lenient is. cc)
    where
      does : (me : Process) → process_at s pid ≡ Some me
          → (answer_by_attempt s (at_call s pid me) pid (at_next_line me) (effect program_of (at_call s pid me) pid (at_next_line me) call)).outcome ≡ Blocked
          → (k : ℕ) × (q : Process) × (process_at s k ≡ Some q) × (pid < k)
      does me at is =
          let x : State = at_call s pid me in
          let done' = blocks-done s x pid (at_next_line me) (effect program_of x pid (at_next_line me) call) (Did x pid (at_next_line me) call) (does-effect program_of x pid (at_next_line me) call) is in
          let wait_is : call ≡ Wait = waits-effect x pid (at_next_line me) call done'.0 waits done'.1 refl in
          child-after pid me at
          (blocked-wait s x pid (at_next_line me)
          (subst (λ (a : Attempt Effect). (answer_by_attempt s x pid (at_next_line me) a).outcome ≡ Blocked) (ap (effect program_of x pid (at_next_line me)) wait_is ∙ effect-wait program_of x pid (at_next_line me)) is))

  blocked-step : (pid : ℕ) (p : Process) → process_at s pid ≡ Some p → (step program_of s pid).outcome ≡ Blocked → (k : ℕ) × (q : Process) × (process_at s k ≡ Some q) × (pid < k)
  blocked-step pid p at is = by (next p) (ap (λ (w : Stepped). w.outcome) (sym (step-is program_of s pid p at)) ∙ is)
    where
      by : (n : Next) → (step_by program_of s pid p n).outcome ≡ Blocked → (k : ℕ) × (q : Process) × (process_at s k ≡ Some q) × (pid < k)
      by (inside q) is = cc is
      by (calls_for call) is = blocked-call pid call is

  greatest : (p : ℕ × Process) (ps : List (ℕ × Process)) → (g : ℕ × Process) × Among g (p ∷ ps) × ((q : ℕ × Process) → Among q (p ∷ ps) → q.0 ≤ g.0)
  greatest p [] = (p, inl refl, λ q h. only q h)
    where
      only : (q : ℕ × Process) → Among q (p ∷ []) → q.0 ≤ p.0
      only q (inl e) = let same : q.0 ≡ p.0 = ap (λ (r : ℕ × Process). r.0) e in omega arith
      only q (inr none) = absurd none
  greatest p (r ∷ rs) = by (greatest r rs)
    where
      first : (g : ℕ × Process) → ((q : ℕ × Process) → Among q (r ∷ rs) → q.0 ≤ g.0) → g.0 ≤ p.0 → (q : ℕ × Process) → Among q (p ∷ r ∷ rs) → q.0 ≤ p.0
      first g rest low q (inl e) = let same : q.0 ≡ p.0 = ap (λ (r : ℕ × Process). r.0) e in omega arith
      first g rest low q (inr h) = let below = rest q h in omega arith

      later : (g : ℕ × Process) → ((q : ℕ × Process) → Among q (r ∷ rs) → q.0 ≤ g.0) → p.0 ≤ g.0 → (q : ℕ × Process) → Among q (p ∷ r ∷ rs) → q.0 ≤ g.0
      later g rest low q (inl e) = let same : q.0 ≡ p.0 = ap (λ (r : ℕ × Process). r.0) e in omega arith
      later g rest low q (inr h) = rest q h

      by : (g : ℕ × Process) × Among g (r ∷ rs) × ((q : ℕ × Process) → Among q (r ∷ rs) → q.0 ≤ g.0)
          → (g : ℕ × Process) × Among g (p ∷ r ∷ rs) × ((q : ℕ × Process) → Among q (p ∷ r ∷ rs) → q.0 ≤ g.0)
      by g = elim (nat_le g.0.0 p.0) as (λ b. nat_le g.0.0 p.0 ≡ b → (g : ℕ × Process) × Among g (p ∷ r ∷ rs) × ((q : ℕ × Process) → Among q (p ∷ r ∷ rs) → q.0 ≤ g.0)) [
        | true ↦ λ is. (p, inl refl, first g.0 g.2 (leb-true g.0.0 p.0 is))
        | false ↦ λ is. (g.0, inr g.1, later g.0 g.2 (grind (arith, nat_tests, is)))
      ] refl

  -- the step of the greatest does not block
  pub some-continues : (pid : ℕ) (p : Process) → process_at s pid ≡ Some p → HasUnblockedProcess program_of s
  some-continues pid p at = by (live_processes s.processes) refl (live-listed s pid p at)
    where
      of : (g : ℕ × Process) → Among g (live_processes s.processes) → ((q : ℕ × Process) → Among q (live_processes s.processes) → q.0 ≤ g.0) → HasUnblockedProcess program_of s
      of g within below =
          let lives : process_at s g.0 ≡ Some g.1 = listed-live s g.0 g.1 whole.processes.ascending within in
          record {
            pid = g.0;
            process = g.1;
            lives = lives;
            goes = λ blocks.
                let child = blocked-step g.0 g.1 lives blocks in
                let low = below (child.0, child.1) (live-listed s child.0 child.1 child.2) in
                absurd (omega (arith, low, child.3));
          }

      by : (ps : List (ℕ × Process)) → live_processes s.processes ≡ ps → Among (pid, p) ps → HasUnblockedProcess program_of s
      by [] is within = absurd within
      by (r ∷ rs) is within =
          let g = greatest r rs in
          of g.0 (subst (Among g.0) (sym is) g.1) (λ q h. g.2 q (subst (Among q) is h))

-- ---- along a run

pub run-older : (program_of : Bytes → Option Program) → EncodesPrograms program_of → (pids : List ℕ) (s : State) → IsValid s → ParentsHaveLesserNumbers s → ParentsHaveLesserNumbers (run program_of pids s).final
run-older program_of encodes [] s whole all = all
run-older program_of encodes (pid ∷ pids) s whole all =
    run-older program_of encodes pids (step program_of s pid).after (step-keeps_valid program_of encodes s pid whole) (older-step program_of s pid whole all)
