-- The first state of the machine, and the states after an instruction and after a call.
use Rattle.std.proofs.Common.{◌≡◌, ◌∙◌, ◌<◌, ◌≤◌, arith, ap, sym, subst, refl, ℕ, zero, suc, true, false, ◌⊎◌, inl, inr, [], ◌∷◌, Option, None, Some, Result, Ok, Err}
use Rattle.std.specs.Prelude.{is_some, IfOk, OnErr}
use Rattle.pv_model.specs.declared.fault.ParseFault.{ParseFault}
use Rattle.pv_model.specs.declared.fault.ParseFault.TheVariants.{Line, Memory as ParseMemory}
use Rattle.pv_model.specs.declared.kernel_fault.BootFault.{BootFault}
use Rattle.pv_model.specs.declared.kernel_fault.BootFault.TheVariants.{Memory}
use Rattle.pv_model.specs.declared.kernel_fault.StepFault.{StepFault}
use Rattle.pv_calls_path.specs.OfCallsPlain.declared.answer.Answer.{Answer}
use Rattle.pv_calls_path.specs.OfCallsPlain.Performed.{answered}
use Rattle.pv_model.specs.declared.call.Call.{Call}
use Rattle.pv_model.specs.Machine.{Answered, answer, program_of, read_program, inside, calls_for, next, and_then, booted, Program, Process, State, first_state, process_at, Tree, Node, directory_node, file_node, link_node}
use Rattle.pv_model.specs.RunFault.{of_init}
use Rattle.pv_model.specs.Start.{program_in, init_of}
use Rattle.pv_audit.specs.OfCallsState.Changes.{IsRegistered, MovesInside, PassesInside, StepsInside}
use Rattle.pv_audit.specs.OfCallsState.Counts.{processes_of}
use Rattle.pv_audit.proofs.OfCallsState.UncountedChanges.{passes-same, some-at}
use Rattle.pv_audit.specs.OfProcs.declared.processes.Fetched.{Fetched}
use Rattle.pv_audit.specs.OfProcs.declared.processes.Fetched.TheVariants.{Gone, Register, Call as AtCall}
use Rattle.pv_audit.specs.OfProcs.ProcessTable.{ProcessTable, process_in}
use Rattle.pv_audit.specs.OfProcs.Turns.{AwaitsCall, RegisterNext, context_of}
use Rattle.pv_audit.specs.OfScript.Context.{is_inside}
use Rattle.pv_laws_states.specs.States.{IsFirstTree, IsRunning, IsValid, is_program_in_bounds, is_call}
use Rattle.pv_laws_states.proofs.ValidBySteps.{IsGoodNext, good-next, call-keeps_valid, first-valid}
use Rattle.pv_laws_states.proofs.ProcessInsides.{SameHolds, valid-inside}
use Rattle.pv_audit.specs.OfScript.Passing.{Passes}
use Rattle.pv_laws_runs.proofs.ProgramRanges.{program_of-encodes}
use Rattle.std.specs.Result.{result_ok}

-- in a valid state, the next call of a process is well-formed
pub callable : (s : State) (pid : ℕ) (me : Process) (call : Call) → IsValid s → process_at s pid ≡ Some me → next me ≡ calls_for call → is_call call ≡ true
callable s pid me call whole at is = subst (IsGoodNext me) is (good-next me (whole.processes.running pid me at))

-- an instruction inside a process keeps its ranges, its open files and its references
stays-running : (p q : Process) → IsRunning p → next p ≡ inside q → IsRunning q × SameHolds p q
stays-running p q running is = subst (IsGoodNext p) is (good-next p running)

-- the same for several instructions
all-running : (n : ℕ) (p q : Process) → IsRunning p → Passes n p q → IsRunning q × SameHolds p q
all-running n p q running made = (ran n p q running made, passes-same n p q made)
  where
    ran : (n : ℕ) (p q : Process) → IsRunning p → Passes n p q → IsRunning q
    ran zero p q running same = subst IsRunning (sym same) running
    ran (suc n) p q running made = (stays-running made.0 q (ran n p made.0 running made.1) made.2).0

-- the live process, as the process tables have it
pub live-in : (s : State) (ps qs : ProcessTable) (pid : ℕ) → ps ≡ processes_of s → qs ≡ processes_of s → true ≡ is_some (process_in ps pid)
    → (me : Process) × (process_at s pid ≡ Some me) × (process_in qs pid ≡ Some me)
live-in s ps qs pid one two live =
    let found = some-at (process_at s pid) (ap (λ x. is_some (process_in x pid)) (sym one) ∙ sym live) in
    (found.0, found.1, ap (λ x. process_in x pid) two ∙ found.1)

-- ---- a process that changes by its instructions

module _ (s t : State) (pid : ℕ) where
  -- the state stays valid, and the tree unchanged
  moved-valid : (by : Process → Process → Type 0) → ((p q : Process) → IsRunning p → by p q → IsRunning q × SameHolds p q) → IsValid s → MovesInside by s pid t → IsValid t
  moved-valid by stays whole made =
      let good = stays made.me made.after (whole.processes.running pid made.me made.lives) made.step in
      subst IsValid (sym made.only) (valid-inside s pid made.me made.after whole made.lives good.1 good.0)

  moved-tree : (by : Process → Process → Type 0) → MovesInside by s pid t → t.tree ≡ s.tree
  moved-tree by made = ap (λ (x : State). x.tree) made.only

  -- the next instruction was carried out
  pub registered-valid : (step_or_fetch : Fetched) → IsValid s → IsRegistered step_or_fetch pid s t → IsValid t
  registered-valid Gone whole same = subst IsValid (sym same.1) whole
  registered-valid Register whole made = moved-valid (λ me after. next me ≡ inside after) stays-running whole made
  registered-valid (AtCall call) whole same = subst IsValid (sym same.1) whole

  pub registered-tree : (step_or_fetch : Fetched) → IsRegistered step_or_fetch pid s t → t.tree ≡ s.tree
  registered-tree Gone same = ap (λ (x : State). x.tree) same.1
  registered-tree Register made = moved-tree (λ me after. next me ≡ inside after) made
  registered-tree (AtCall call) same = ap (λ (x : State). x.tree) same.1

  -- several instructions were carried out in sequence
  pub passed-valid : (n : ℕ) → IsValid s → PassesInside n pid s t → IsValid t
  passed-valid zero whole same = subst IsValid (sym same) whole
  passed-valid (suc n) whole made = moved-valid (Passes (suc n)) (all-running (suc n)) whole made

  pub passed-tree : (n : ℕ) → PassesInside n pid s t → t.tree ≡ s.tree
  passed-tree zero same = ap (λ (x : State). x.tree) same
  passed-tree (suc n) made = moved-tree (Passes (suc n)) made

-- a call that was answered leaves a valid state
pub answered-valid : (s new : State) (pid : ℕ) (call : Call) (a : Answer) → is_call call ≡ true → IsValid s → answer program_of s pid call ≡ answered new a → IsValid new
answered-valid s new pid call a good whole is = subst IsValid (ap (λ (x : Answered). x.after) is) (call-keeps_valid program_of program_of-encodes s pid call good whole)

-- so does one that was answered or not made
pub called-valid : (s new : State) (pid : ℕ) (call : Call) (r : Result Answer StepFault) → is_call call ≡ true → IsValid s
    → IfOk r (λ a. answer program_of s pid call ≡ answered new a) → OnErr r (new ≡ s) → IsValid new
called-valid s new pid call (Ok a) good whole is same = answered-valid s new pid call a good whole is
called-valid s new pid call (Err fault) good whole is same = subst IsValid (sym same) whole

-- at most one instruction was carried out, and at least one because one was next: so exactly one
pub registered-one : (s t : State) (pid n : ℕ) → RegisterNext (process_at s pid) → n ≤ 1 → PassesInside n pid s t → (n < 1 → AwaitsCall (process_at t pid)) → StepsInside s pid t
registered-one s t pid zero at few same whole =
    let call : is_inside at.0.program (context_of at.0) ≡ false = whole (omega arith) at.0 (ap (λ x. process_at x pid) same ∙ at.1) in
    let comes = at.2 in
    absurd cc
registered-one s t pid (suc zero) at few made whole =
    record { me = made.me; lives = made.lives; after = made.after; step = sym (ap next made.step.1) ∙ made.step.2; only = made.only }
registered-one s t pid (suc (suc n)) at few made whole = absurd (omega arith)

-- ---- the first state

pub boot-refused : (t u : Tree) (fault : BootFault) → u ≡ t → (fault ≡ Memory) ⊎ (program_in (init_of u) ≡ Err fault) → (fault ≡ Memory) ⊎ (booted t ≡ Err fault)
unfolding booted
boot-refused t u fault same (inl memory) = inl memory
boot-refused t u fault same (inr is) = inr (ap (λ r. and_then (λ f. f) r (λ program. Ok (first_state t program))) (ap (λ x. program_in (init_of x)) (sym same) ∙ is))

pub boot-made : (t u : Tree) (program : Program) → u ≡ t → program_in (init_of u) ≡ Ok program → booted t ≡ Ok (first_state t program)
unfolding booted
boot-made t u program same is = ap (λ r. and_then (λ f. f) r (λ program. Ok (first_state t program))) (ap (λ x. program_in (init_of x)) (sym same) ∙ is)

encoded : (r : Result Program ParseFault) (program : Program) → and_then of_init r (λ p. Ok p) ≡ Ok program → result_ok r ≡ Some program
encoded (Ok p) program is = ap (λ x. result_ok (forget x)) is
  where
    forget : Result Program BootFault → Result Program ParseFault
    forget (Ok q) = Ok q
    forget (Err f) = Err ParseMemory
encoded (Err (Line n what)) program is = absurd cc
encoded (Err ParseMemory) program is = absurd cc

-- the first program is within its ranges
first-good : (node : Option Node) (program : Program) → program_in node ≡ Ok program → is_program_in_bounds program ≡ true
first-good None [] is = refl
first-good None (i ∷ is) e = absurd cc
first-good (Some (file_node true bytes)) program is = program_of-encodes.encodes bytes program (encoded (read_program bytes) program is)
first-good (Some (file_node false bytes)) program is = absurd cc
first-good (Some (directory_node es)) program is = absurd cc
first-good (Some (link_node text)) program is = absurd cc

pub boot-valid : (t u : Tree) (program : Program) → IsFirstTree t → u ≡ t → program_in (init_of u) ≡ Ok program → IsValid (first_state t program)
boot-valid t u program first same is = first-valid t program first (first-good (init_of u) program is)
