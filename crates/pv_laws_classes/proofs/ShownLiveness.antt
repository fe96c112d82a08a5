-- The shown data of a process depend neither on dead variables, nor on steps of other processes on registers.
use Rattle.std.proofs.Common.{◌≡◌, ◌≢◌, ◌∙◌, sym, ap, subst, ℕ, ℤ, true, List, [], ◌∷◌, map, take, Option, None, Some, option_map, refl}
use Rattle.pv_model.specs.declared.call.Call.{Call}
use Rattle.pv_model.specs.Machine.{Answered, answer, promises_needed, of_next, of_process, Bytes, Next, inside, calls_for, next, Program, Process, ProcessRecord, State, process_at, Stepped, step, step_by, walks_of}
use Rattle.pv_model.specs.Answers.Access
use Rattle.pv_model.specs.Answers.Needs.{begins_program}
use Rattle.pv_model.specs.Answers.Policy.{request}
use Rattle.pv_model.specs.Step.{step_by_call}
use Rattle.pv_model_questions.specs.Accesses.{lines_of_accesses}
use Rattle.pv_laws_states.specs.States.{EncodesPrograms, IsValid}
use Rattle.pv_laws_states.proofs.Processes.{process_at-other}
use Rattle.pv_laws_answers.proofs.OfLawsAccess.ProcessesAfterEnds.{step-is}
use Rattle.pv_laws_classes.specs.Liveness.{is_live_below, by_test, with_values, AgreeOnLive, EqualUpToDead, cleared}
use Rattle.pv_laws_classes.specs.Shown.{Shown, shown_call, shown_process, shown_in}
use Rattle.pv_laws_classes.specs.Together.{is_step_on_registers, StepResult}
use Rattle.pv_laws_classes.proofs.WalksInLines.{begun-same}
use Rattle.pv_laws_classes.proofs.ClearedVariables.{cleared-represent}
use Rattle.pv_laws_classes.proofs.LiveLists.{AreLive, live-same}
use Rattle.pv_laws_classes.proofs.NextLiveSteps.{NextAgrees, next-agrees}
use Rattle.pv_laws_classes.proofs.LiveSteps.{steps-ignore-dead}
use Rattle.pv_laws_classes.proofs.LiveTables.{computed-is-closed}
use Rattle.pv_laws_classes.proofs.SimilarProcesses.{LooksAlike, AreAlike, by-fields, call_in, call_next, walks-same, process-same, accesses-same, access-lines-same}
use Rattle.pv_laws_classes.proofs.RegisterSteps.{on-is, on-after, passes}

-- ---- the shown data

module _ (program_of : Bytes → Option Program) where
  abbrev shown_next : State → ℕ → Stepped → Process → Next → Shown
  shown_next s pid now p n = record {
    outcome = now.outcome;
    accesses = of_next Access.accesses s pid now p n;
    access_lines = λ files first. of_next (lines_of_accesses files first) s pid now p n;
    calls = map shown_call (of_next (request program_of) s pid now p n);
    process = Some (shown_process s p);
  }

  abbrev shown_at : State → ℕ → Stepped → Option Process → Shown
  shown_at s pid now o = record {
    outcome = now.outcome;
    accesses = of_process Access.accesses s pid now o;
    access_lines = λ files first. of_process (lines_of_accesses files first) s pid now o;
    calls = map shown_call (of_process (request program_of) s pid now o);
    process = option_map (shown_process s) o;
  }

  step-by-call : (s : State) (pid : ℕ) (p : Process) (call : Call) → process_at s pid ≡ Some p → next p ≡ calls_for call
      → step program_of s pid ≡ step_by_call program_of pid p call (answer program_of s pid call)
  step-by-call s pid p call at comes = step-is program_of s pid p at ∙ ap (step_by program_of s pid p) comes

  module _ (s : State) (ps : List (ℕ × ProcessRecord)) (last : ℕ) (pid : ℕ) where
    abbrev u : State
    u = record s { processes = ps; last_process = last }

    abbrev one : Stepped
    one = step program_of s pid

    abbrev two : Stepped
    two = step program_of u pid

    module _ (outcome : two.outcome ≡ one.outcome) (lines : two.lines ≡ one.lines) (after : LooksAlike pid one.after two.after) where
      module _ (p : Process) (at : process_at s pid ≡ Some p) (rs : List ℤ) (bs : Bytes) (there_at : process_at u pid ≡ Some (with_values rs bs p)) where
        abbrev q : Process
        q = with_values rs bs p

        call-same : (call : Call) → next p ≡ calls_for call → next q ≡ calls_for call → shown_next u pid two q (calls_for call) ≡ shown_next s pid one p (calls_for call)
        call-same call comes goes =
            let here = step-by-call s pid p call at comes in
            let away = step-by-call u pid q call there_at goes in
            let a : Answered = answer program_of s pid call in
            let b : Answered = answer program_of u pid call in
            let results : b.outcome ≡ a.outcome = sym (ap (λ (w : Stepped). w.outcome) away) ∙ outcome ∙ ap (λ (w : Stepped). w.outcome) here in
            let begun : take b.walks (walks_of call) ≡ take a.walks (walks_of call) =
            begun-same pid p q call a b (sym (ap (λ (w : Stepped). w.lines) away) ∙ lines ∙ ap (λ (w : Stepped). w.lines) here) in
            λ i. record {
              outcome = outcome i;
              accesses = accesses-same s ps last pid p rs bs one two outcome after call i;
              access_lines = λ files first. access-lines-same s ps last pid p rs bs one two outcome after call files first i;
              calls = record {
                tree = s.tree;
                program = p.program;
                promises = p.promises;
                table = p.table;
                call = call;
                asked = record {
                  line = p.line;
                  promises = promises_needed call;
                  walks = walks-same s ps last p rs bs call b.walks a.walks begun i;
                  ends_process_image = begins_program call (results i);
                };
              } ∷ [];
              process = Some (process-same s ps last p rs bs i);
            }

        next-same : (n m : Next) → next p ≡ n → next q ≡ m → call_in m ≡ call_in n → shown_next u pid two q m ≡ shown_next s pid one p n
        next-same (inside r) (inside v) comes goes same =
            λ i. record { outcome = outcome i; accesses = []; access_lines = λ files first. []; calls = []; process = Some (process-same s ps last p rs bs i) }
        next-same (inside r) (calls_for call) comes goes same = cc same
        next-same (calls_for call) (inside v) comes goes same = cc same
        next-same (calls_for call) (calls_for more) comes goes same =
            let is : more ≡ call = cc same in
            subst (λ c. shown_next u pid two q (calls_for c) ≡ shown_next s pid one p (calls_for call)) (sym is) (call-same call comes (goes ∙ ap calls_for is))

      shown-at : (a b : Option Process) → process_at s pid ≡ a → process_at u pid ≡ b → AreAlike a b → call_next b ≡ call_next a
          → shown_at u pid two b ≡ shown_at s pid one a
      shown-at None b at away is same =
          ap (shown_at u pid two) is ∙ (λ i. record { outcome = outcome i; accesses = []; access_lines = λ files first. []; calls = []; process = None })
      shown-at (Some p) b at away is same =
          ap (shown_at u pid two) is.2
          ∙ next-same p at is.0 is.1 (away ∙ is.2) (next p) (next (with_values is.0 is.1 p)) refl refl (sym (ap call_next is.2) ∙ same)

  -- a process shows the same in two states where it looks the same and makes the same call, if it looks the same after
  -- its step, with the same outcome and lines
  pub shown-same : (s t : State) (pid : ℕ) → LooksAlike pid s t → call_next (process_at t pid) ≡ call_next (process_at s pid)
      → (step program_of t pid).outcome ≡ (step program_of s pid).outcome → (step program_of t pid).lines ≡ (step program_of s pid).lines
      → LooksAlike pid (step program_of s pid).after (step program_of t pid).after → shown_in program_of t pid ≡ shown_in program_of s pid
  shown-same s t pid is =
      by-fields (λ z. AreAlike (process_at s pid) (process_at z pid) → call_next (process_at z pid) ≡ call_next (process_at s pid)
      → (step program_of z pid).outcome ≡ (step program_of s pid).outcome → (step program_of z pid).lines ≡ (step program_of s pid).lines
      → LooksAlike pid (step program_of s pid).after (step program_of z pid).after → shown_in program_of z pid ≡ shown_in program_of s pid) s t is.tree is.files
      (λ alike same outcome lines after. shown-at s t.processes t.last_process pid outcome lines after (process_at s pid) (process_at t pid) refl refl alike same)
      is.process

-- ---- dead variables

abbrev zeroed : State → State
zeroed s = cleared is_live_below s

abbrev AreDeadAlike : State → State → Type 0
AreDeadAlike = EqualUpToDead (by_test is_live_below)

abbrev AreLiveAlike : ℕ → Option Process → Option Process → Type 0
AreLiveAlike = AreLive (λ n. AgreeOnLive (by_test is_live_below))

alive-alike : (pid : ℕ) (s t : State) → AreDeadAlike s t → AreLiveAlike pid (process_at s pid) (process_at t pid)
alive-alike pid s t is = live-same (λ n. AgreeOnLive (by_test is_live_below)) pid s.processes t.processes is.processes

looks-dead : (pid : ℕ) (s t : State) → AreDeadAlike s t → LooksAlike pid s t
looks-dead pid s t is = record { tree = is.tree; files = is.files; process = by (process_at s pid) (process_at t pid) (alive-alike pid s t is) }
  where
    by : (a b : Option Process) → AreLiveAlike pid a b → AreAlike a b
    by None b is = is
    by (Some p) b is = (is.0, is.1, is.2)

calls-dead : (pid : ℕ) (s t : State) → AreDeadAlike s t → call_next (process_at t pid) ≡ call_next (process_at s pid)
calls-dead pid s t is = by (process_at s pid) (process_at t pid) (alive-alike pid s t is)
  where
    of : (p : Process) (rs : List ℤ) (bs : Bytes) (agree : AgreeOnLive (by_test is_live_below) p rs bs) (n m : Next)
        → NextAgrees (by_test is_live_below) computed-is-closed.1 p rs bs agree n m → call_in m ≡ call_in n
    of p rs bs agree (inside q) m is = ap call_in is.2
    of p rs bs agree (calls_for call) m is = ap call_in is.0

    by : (a b : Option Process) → AreLiveAlike pid a b → call_next b ≡ call_next a
    by None b is = ap call_next is
    by (Some p) b is =
        ap call_next is.2
        ∙ of p is.0 is.1 is.3 (next p) (next (with_values is.0 is.1 p)) (next-agrees (by_test is_live_below) computed-is-closed.1 p is.0 is.1 is.3)

pub dead-shown : (program_of : Bytes → Option Program) → EncodesPrograms program_of → (s : State) (pid : ℕ) → IsValid s
    → shown_in program_of (cleared is_live_below s) pid ≡ shown_in program_of s pid
dead-shown program_of encodes s pid whole =
    let alike : AreDeadAlike s (zeroed s) = (cleared-represent is_live_below).alike s in
    let both = steps-ignore-dead (by_test is_live_below) computed-is-closed.1 program_of s (zeroed s) pid whole alike in
    shown-same program_of s (zeroed s) pid (looks-dead pid s (zeroed s) alike) (calls-dead pid s (zeroed s) alike) both.outcome both.lines
    (looks-dead pid (step program_of s pid).after (step program_of (zeroed s) pid).after both.after)

-- ---- steps of other processes on registers

module _ (program_of : Bytes → Option Program) (pid other : ℕ) (apart : pid ≢ other) where
  process-stayed : (s : State) → is_step_on_registers s other ≡ true → process_at (step program_of s other).after pid ≡ process_at s pid
  process-stayed s on = let is = on-is s other on in ap (λ x. process_at x pid) (on-after program_of s other is) ∙ process_at-other s other is.following pid apart

  looks-stayed : (s : State) → is_step_on_registers s other ≡ true → LooksAlike pid s (step program_of s other).after
  looks-stayed s on =
      let is = on-is s other on in
      record {
        tree = ap (λ (x : State). x.tree) (on-after program_of s other is);
        files = ap (λ (x : State). x.files) (on-after program_of s other is);
        process = subst (AreAlike (process_at s pid)) (sym (process-stayed s on)) (itself (process_at s pid));
      }
    where
      itself : (o : Option Process) → AreAlike o o
      itself None = refl
      itself (Some p) = (p.registers, p.buffer, refl)

pub others-shown : (program_of : Bytes → Option Program) → EncodesPrograms program_of → (s : State) (pid other : ℕ) → IsValid s → pid ≢ other
    → is_step_on_registers s other ≡ true → shown_in program_of (step program_of s other).after pid ≡ shown_in program_of s pid
others-shown program_of encodes s pid other whole apart on =
    let passed = passes program_of encodes pid other apart s whole on in
    shown-same program_of s (step program_of s other).after pid (looks-stayed program_of pid other apart s on) (ap call_next (process-stayed program_of pid other apart s on))
    (sym (ap (λ (r : StepResult). r.outcome) passed.reply)) (sym (ap (λ (r : StepResult). r.lines) passed.reply))
    (subst (LooksAlike pid (step program_of s pid).after) passed.after (looks-stayed program_of pid other apart (step program_of s pid).after passed.on))
