-- Classes of states that are equal up to the numbers of open files and for dead variables.
use Rattle.std.proofs.Common.{◌≡◌, ℕ, suc, ℤ, pos, Bool, true, false, if◌then◌else◌, ◌&&◌, List, [], ◌∷◌, map, Option, Some, is_some, refl, ap, sym, subst, ◌∙◌, arith}
use Rattle.std.specs.List.{list_all}
use Rattle.std.proofs.lemmas.Bool.{and_parts, and_from}
use Rattle.pv_model.specs.Machine.{Bytes, is_empty, parent_of, live_processes, Program, Process, ProcessRecord, live, ended_record, State, process_at, step}
use Rattle.pv_laws_states.specs.States.{is_word, is_byte, EncodesPrograms, IsRunning, IsPlaced, is_process_number, AreProcesses, IsValid}
use Rattle.pv_laws_states.specs.ExampleStates.{no_programs}
use Rattle.pv_laws_states.proofs.ValidBySteps.{step-keeps_valid}
use Rattle.pv_laws_states.proofs.ValidEnds.{sorted-mapped, found-mapped}
use Rattle.pv_laws_states.proofs.ReferenceMembers.{live-found, found-live}
use Rattle.pv_laws_classes.specs.Canonical.{canonical}
use Rattle.pv_laws_classes.specs.Liveness.{Variable, register_variable, byte_variable, is_live_below, by_test, with_values, AgreeOnLive, EqualUpToDead, cleared_from, cleared_registers, cleared_buffer, cleared_record, cleared, StepsAreEqualUpToDead}
use Rattle.pv_laws_classes.specs.Reduced.{representative}
use Rattle.pv_laws_classes.specs.Renumbering.{renumbered_process, renumbered_processes, Renumbered}
use Rattle.pv_laws_classes.specs.Together.{is_step_on_registers}
use Rattle.pv_laws_classes.proofs.ClassFunctions.{AreStepsAlike, AreClasses, canonical-states}
use Rattle.pv_laws_classes.proofs.CanonicalForms.{unique}
use Rattle.pv_laws_classes.proofs.ClearedVariables.{cleared-length, cleared-represent}
use Rattle.pv_laws_classes.proofs.LiveLists.{length-same, used-same, held-same, lives-same}
use Rattle.pv_laws_classes.proofs.LiveStates.{collect-with}
use Rattle.pv_laws_classes.proofs.LiveSteps.{steps-ignore-dead}
use Rattle.pv_laws_classes.proofs.LiveTables.{computed-is-closed}
use Rattle.pv_laws_classes.proofs.RegisterSteps.{silent}
use Rattle.pv_laws_classes.proofs.RenumberedSteps.{renumbered-steps}

-- ---- a state with zero in dead variables is valid

-- if zero passes a check, each value passes it after clearing
cleared-passes : {X : Type 0} (check : X → Bool) (test : ℕ → Bool) (nothing : X) → check nothing ≡ true → (k : ℕ) (xs : List X) → list_all check xs ≡ true
    → list_all check (cleared_from test nothing k xs) ≡ true
cleared-passes check test nothing zero_passes k [] all = refl
cleared-passes check test nothing zero_passes k (x ∷ xs) all =
    let parts = and_parts (check x) (list_all check xs) all in
    and_from _ _ (by parts.0 (test k)) (cleared-passes check test nothing zero_passes (suc k) xs parts.1)
  where
    by : check x ≡ true → (b : Bool) → check (if b then x else nothing) ≡ true
    by here true = here
    by here false = zero_passes

module _ (test : Program → ℕ → Variable → Bool) where
  abbrev Agree : ℕ → Process → List ℤ → Bytes → Type 0
  Agree number = AgreeOnLive (by_test test)

  abbrev cleared_process : Process → Process
  cleared_process p = with_values (cleared_registers test p.program p.line p.registers) (cleared_buffer test p.program p.line p.buffer) p

  abbrev cleared_all : List (ℕ × ProcessRecord) → List (ℕ × ProcessRecord)
  cleared_all es = map (λ r. (r.0, cleared_record test r.1)) es

  alike : (s : State) → EqualUpToDead (by_test test) s (cleared test s)
  alike s = (cleared-represent test).alike s

  running-cleared : (p : Process) → IsRunning p → IsRunning (cleared_process p)
  running-cleared p is = record {
    program = is.program;
    line = is.line;
    registers = (
      cleared-length (λ r. test p.program p.line (register_variable r)) (pos 0) 0 p.registers ∙ is.registers.0,
      cleared-passes is_word (λ r. test p.program p.line (register_variable r)) (pos 0) refl 0 p.registers is.registers.1,
    );
    buffer = (
      cleared-length (λ k. test p.program p.line (byte_variable k)) 0 0 p.buffer ∙ is.buffer.0,
      cleared-passes is_byte (λ k. test p.program p.line (byte_variable k)) 0 refl 0 p.buffer is.buffer.1,
    );
  }

  was-live : (r : ProcessRecord) (q : Process) → cleared_record test r ≡ live q → (p : Process) × (r ≡ live p) × (cleared_process p ≡ q)
  was-live (live p) q is = let same : cleared_process p ≡ q = cc is in (p, refl, same)
  was-live (ended_record parent status) q is = cc is

  was-ended : (r : ProcessRecord) (parent status : ℕ) → cleared_record test r ≡ ended_record parent status → r ≡ ended_record parent status
  was-ended (live p) parent status is = cc is
  was-ended (ended_record above code) parent status is = is

  parent-cleared : (r : ProcessRecord) → parent_of (cleared_record test r) ≡ parent_of r
  parent-cleared (live p) = refl
  parent-cleared (ended_record parent status) = refl

  numbers-cleared : (last : ℕ) (es : List (ℕ × ProcessRecord)) → list_all (λ r. is_process_number last r.0) (cleared_all es) ≡ list_all (λ r. is_process_number last r.0) es
  numbers-cleared last [] = refl
  numbers-cleared last (e ∷ es) = ap (λ b. is_process_number last e.0 && b) (numbers-cleared last es)

  process-was : (s : State) (k : ℕ) (q : Process) → process_at (cleared test s) k ≡ Some q → (p : Process) × (process_at s k ≡ Some p) × (cleared_process p ≡ q)
  process-was s k q found =
      let was = found-mapped (cleared_record test) k s.processes (live q) (live-found (cleared test s) k q found) in
      let old = was-live was.0 q was.2 in
      (old.0, found-live s k old.0 (was.1 ∙ ap Some old.1), old.2)

  pub lives-cleared : (s : State) (k : ℕ) → is_some (process_at (cleared test s) k) ≡ is_some (process_at s k)
  lives-cleared s k = lives-same Agree k s.processes (cleared_all s.processes) (alike s).processes

  processes-cleared : (s : State) → AreProcesses s → AreProcesses (cleared test s)
  processes-cleared s is = record {
    ascending = sorted-mapped (cleared_record test) s.processes ∙ is.ascending;
    numbers = numbers-cleared s.last_process s.processes ∙ is.numbers;
    count = omega (arith, length-same Agree s.processes (cleared_all s.processes) (alike s).processes, is.count);
    last = is.last;
    running = λ k q found. let old = process-was s k q found in subst IsRunning old.2 (running-cleared old.0 (is.running k old.0 old.1));
    placed = λ k q found.
        let old = process-was s k q found in
        let there = is.placed k old.0 old.1 in
        subst (IsPlaced s.tree s.files) old.2 (record { directory = there.directory; descriptors = there.descriptors; opens = there.opens; table = there.table });
    first = λ q found. let old = process-was s 1 q found in ap (λ (x : Process). x.parent) (sym old.2) ∙ is.first old.0 old.1;
    parents = λ k r found has.
        let was = found-mapped (cleared_record test) k s.processes r found in
        let up : parent_of r ≡ parent_of was.0 = sym (ap parent_of was.2) ∙ parent-cleared was.0 in
        ap (λ n. is_some (process_at (cleared test s) n)) up ∙ lives-cleared s (parent_of was.0) ∙ is.parents k was.0 was.1 (λ none. has (up ∙ none));
    ended = λ k parent status found.
        let was = found-mapped (cleared_record test) k s.processes (ended_record parent status) found in
        is.ended k parent status (was.1 ∙ ap Some (was-ended was.0 parent status was.2));
  }

  pub cleared-valid : (s : State) → IsValid s → IsValid (cleared test s)
  cleared-valid s whole = record {
    tree = whole.tree;
    files = whole.files;
    processes = processes-cleared s whole.processes;
    collected =
        collect-with Agree s (cleared_all s.processes) (used-same Agree s.processes (cleared_all s.processes) (alike s).processes)
        (held-same Agree s.processes (cleared_all s.processes) (alike s).processes)
        ∙ ap (λ (x : State). record x { processes = cleared_all s.processes }) whole.collected;
    fits = whole.fits;
    not_too_long = whole.not_too_long;
  }

  -- ---- states that are equal up to a renumbering

  all-renumbered : (f : ℕ → ℕ) (es : List (ℕ × ProcessRecord)) → cleared_all (renumbered_processes f es) ≡ renumbered_processes f (cleared_all es)
  all-renumbered f [] = refl
  all-renumbered f ((k, live p) ∷ es) = ap (λ (rs : List (ℕ × ProcessRecord)). (k, live (renumbered_process f (cleared_process p))) ∷ rs) (all-renumbered f es)
  all-renumbered f ((k, ended_record parent status) ∷ es) = ap (λ (rs : List (ℕ × ProcessRecord)). (k, ended_record parent status) ∷ rs) (all-renumbered f es)

  -- they are equal after clearing, under the same numbering
  pub cleared-renumbered : (f : ℕ → ℕ) (s t : State) → Renumbered f s t → Renumbered f (cleared test s) (cleared test t)
  cleared-renumbered f s t is = record {
    tree = is.tree;
    last_process = is.last_process;
    processes = ap cleared_all is.processes ∙ all-renumbered f s.processes;
    injective = is.injective;
    files = is.files;
    no_others = is.no_others;
  }

  forms-same : (f : ℕ → ℕ) (s t : State) → IsValid s → IsValid t → Renumbered f s t → canonical (cleared test s) ≡ canonical (cleared test t)
  forms-same f s t whole_s whole_t is = (unique (cleared test s) (cleared test t) (cleared-valid s whole_s) (cleared-valid t whole_t)).1 (f, cleared-renumbered f s t is)

  -- ---- endings

  pub ended-cleared : (es : List (ℕ × ProcessRecord)) → is_empty (live_processes (cleared_all es)) ≡ is_empty (live_processes es)
  ended-cleared [] = refl
  ended-cleared ((k, live p) ∷ es) = refl
  ended-cleared ((k, ended_record parent status) ∷ es) = ended-cleared es

-- ---- representatives

abbrev zeroed : State → State
zeroed s = cleared is_live_below s

module _ (program_of : Bytes → Option Program) (encodes : EncodesPrograms program_of) where
  -- the steps from a state, and from the state with zero in dead variables
  zeroed-steps : (s : State) (pid : ℕ) → IsValid s → StepsAreEqualUpToDead (by_test is_live_below) (step program_of s pid) (step program_of (zeroed s) pid)
  zeroed-steps s pid whole = steps-ignore-dead (by_test is_live_below) computed-is-closed.1 program_of s (zeroed s) pid whole (alike is_live_below s)

  zeroed-after : (s : State) (pid : ℕ) → IsValid s → zeroed (step program_of (zeroed s) pid).after ≡ zeroed (step program_of s pid).after
  zeroed-after s pid whole = (cleared-represent is_live_below).same (step program_of s pid).after (step program_of (zeroed s) pid).after (zeroed-steps s pid whole).after

  valid-after : (s : State) (pid : ℕ) → IsValid s → IsValid (step program_of (zeroed s) pid).after
  valid-after s pid whole = step-keeps_valid program_of encodes (zeroed s) pid (cleared-valid is_live_below s whole)

  steps-alike : (s t : State) (pid : ℕ) → IsValid s → IsValid t → canonical (zeroed s) ≡ canonical (zeroed t) → AreStepsAlike (λ u. canonical (zeroed u)) program_of s t pid
  steps-alike s t pid whole_s whole_t same =
      let zeroed_s = cleared-valid is_live_below s whole_s in
      let zeroed_t = cleared-valid is_live_below t whole_t in
      let between = (canonical-states program_of encodes).steps (zeroed s) (zeroed t) pid zeroed_s zeroed_t same in
      let numbering = (unique (zeroed s) (zeroed t) zeroed_s zeroed_t).0 same in
      let both = renumbered-steps program_of numbering.0 (zeroed s) (zeroed t) pid zeroed_s zeroed_t numbering.1 in
      record {
        lives = sym (lives-cleared is_live_below t pid) ∙ between.lives ∙ lives-cleared is_live_below s pid;
        lines = sym (zeroed-steps t pid whole_t).lines ∙ between.lines ∙ (zeroed-steps s pid whole_s).lines;
        after =
            ap canonical (sym (zeroed-after s pid whole_s))
            ∙ forms-same is_live_below both.renumbering (step program_of (zeroed s) pid).after (step program_of (zeroed t) pid).after (valid-after s pid whole_s) (valid-after t pid whole_t) both.after
            ∙ ap canonical (zeroed-after t pid whole_t);
      }

pub representative-states : (program_of : Bytes → Option Program) → EncodesPrograms program_of → AreClasses representative program_of
unfolding representative
representative-states program_of encodes =
    let forms = canonical-states program_of encodes in
    record {
      steps = steps-alike program_of encodes;
      tree = λ s t same. forms.tree (zeroed s) (zeroed t) same;
      ended = λ s t same. sym (ended-cleared is_live_below s.processes) ∙ forms.ended (zeroed s) (zeroed t) same ∙ ended-cleared is_live_below t.processes;
    }

-- ---- steps on registers

no-programs-encoded : EncodesPrograms no_programs
no-programs-encoded = record { encodes = λ bytes program is. cc is }

-- the next step of a process is on registers in both of two states of one class, or in neither
pub representative-on_registers : (s t : State) (pid : ℕ) → IsValid s → IsValid t → representative s ≡ representative t → is_step_on_registers s pid ≡ is_step_on_registers t pid
representative-on_registers s t pid whole_s whole_t same =
    let both = (representative-states no_programs no-programs-encoded).steps s t pid whole_s whole_t same in
    silent no_programs s pid ∙ ap is_empty (sym both.lines) ∙ sym (silent no_programs t pid)
