-- Turns as the code makes them, step by step and process by process.
use Rattle.std.proofs.Common.{◌≡◌, ◌∙◌, ℕ, suc, ◌+◌, ◌-◌, ◌<◌, ◌≤◌, Bool, true, false, cond, if◌then◌else◌, nat_le, length, Option, None, Some, refl, sym, ap, subst, arith}
use Rattle.std.specs.Prelude.{IsSome}
use Rattle.std.specs.FinMap.Entries.{is_sorted}
use Rattle.std.specs.Ordering.{nat_cmp}
use Rattle.std.proofs.lemmas.Bool.{le-leb, lt-leb}
use Rattle.pv_model.specs.declared.call.Call.{Call}
use Rattle.pv_model.specs.declared.limits.TheConstants.{LAST_PROCESS}
use Rattle.pv_model.specs.declared.outcome.Outcome.{Outcome}
use Rattle.pv_model.specs.declared.outcome.Outcome.TheVariants.{Blocked, Gone}
use Rattle.pv_model.specs.Machine.{answer, first_of, continues, next_turn, program_of, Next, calls_for, inside, next, Process, State, process_at, step, step_by, step_of}
use Rattle.pv_model.specs.Answers.Turns.{Turn, turn}
use Rattle.pv_procs.specs.ProcessTable.{ProcessTable, number_after}
use Rattle.pv_answers.proofs.ProcessSequence.{fewer-after, next-record, records_after}
use Rattle.pv_laws_states.specs.States.{AreProcesses}
use Rattle.pv_laws_states.proofs.CallOutcomes.{blocked-leaves, gone-leaves}
use Rattle.pv_laws_runs.proofs.TurnSteps.{turn-goes, turn-some}
use Rattle.pv_needs.specs.Turning.{IsTurnMade, IsTurnTaken, first_between}
use Rattle.pv_needs.proofs.TurnOrder.{chosen, next-none, next-one, next-turn, or_else}
use Rattle.pv_needs.proofs.FairTurns.{turn-none, turn-stops}

-- ---- steps that a turn does not make

-- the outcome of a blocked wait or of a process that is not live
abbrev Stays : Outcome → Type 0
Stays Blocked = Unit {0}
Stays Gone = Unit {0}
Stays _ = ⊥

stopping : (o : Outcome) → continues o ≡ false → Stays o
stopping Blocked is = tt
stopping Gone is = tt
stopping o is = absurd (cc)

-- a step with such an outcome keeps the state
pub stays : (s : State) (pid : ℕ) → continues (step program_of s pid).outcome ≡ false → (step program_of s pid).after ≡ s
unfolding step
stays s pid is = at (process_at s pid) is
  where
    left : (call : Call) (o : Outcome) → (answer program_of s pid call).outcome ≡ o → Stays o → (answer program_of s pid call).after ≡ s
    left call Blocked same stop = blocked-leaves program_of s pid call same
    left call Gone same stop = (gone-leaves program_of s pid call same).leaves
    left call o same stop = absurd stop

    by : (p : Process) (n : Next) → continues (step_by program_of s pid p n).outcome ≡ false → (step_by program_of s pid p n).after ≡ s
    by p (inside q) not = cc not
    by p (calls_for call) not = left call (answer program_of s pid call).outcome refl (stopping (answer program_of s pid call).outcome not)

    at : (o : Option Process) → continues (step_of program_of s pid o).outcome ≡ false → (step_of program_of s pid o).after ≡ s
    at None not = refl
    at (Some p) not = by p (next p) not

-- ---- a turn, step by step

abbrev and_more : ℕ → Turn → Turn
and_more k t = record { count = k + t.count; after = t.after }

-- this many steps of a turn were made
pub record IsSoFar (most pid : ℕ) (s : State) (made : ℕ) (now : State) : Type 0 where
  pub fits : made ≤ most
  pub is : turn program_of most pid s ≡ and_more made (turn program_of (most - made) pid now)

pub so-far-none : (most pid : ℕ) (s : State) → IsSoFar most pid s 0 s
so-far-none most pid s =
    let all : most ≡ most - 0 = omega arith in
    let counts : (turn program_of (most - 0) pid s).count ≡ 0 + (turn program_of (most - 0) pid s).count = omega arith in
    record {
      fits = omega arith;
      is = ap (λ n. turn program_of n pid s) all ∙ ap (λ n. let it : Turn = record { count = n; after = (turn program_of (most - 0) pid s).after } in it) counts;
    }

pub so-far-more : (most pid : ℕ) (s : State) (made : ℕ) (now : State) → made < most → IsSoFar most pid s made now → continues (step program_of now pid).outcome ≡ true
    → IsSoFar most pid s (made + 1) (step program_of now pid).after
so-far-more most pid s made now more so goes =
    let after = (step program_of now pid).after in
    let left : most - made ≡ suc (most - (made + 1)) = omega (arith, more) in
    let rest = turn program_of (most - (made + 1)) pid after in
    let counts : made + suc rest.count ≡ (made + 1) + rest.count = omega arith in
    record {
      fits = omega (arith, more);
      is = so.is ∙ ap (λ n. and_more made (turn program_of n pid now)) left ∙ ap (and_more made) (turn-goes program_of (most - (made + 1)) pid now goes)
          ∙ ap (λ n. let it : Turn = record { count = n; after = rest.after } in it) counts;
    }

count-plain : (n : ℕ) (s : State) → and_more n (record { count = 0; after = s }) ≡ record { count = n; after = s }
count-plain n s = let same : n + 0 ≡ n = omega arith in ap (λ k. let it : Turn = record { count = k; after = s } in it) same

pub so-far-stops : (most pid : ℕ) (s : State) (made : ℕ) (now : State) → IsSoFar most pid s made now → continues (step program_of now pid).outcome ≡ false
    → IsTurnMade most pid s made (step program_of now pid).after
so-far-stops most pid s made now so stops =
    so.is ∙ ap (and_more made) (turn-stops program_of (most - made) pid now stops) ∙ count-plain made now
    ∙ ap (λ (t : State). let it : Turn = record { count = made; after = t } in it) (sym (stays now pid stops))

pub so-far-all : (most pid : ℕ) (s : State) (now : State) → IsSoFar most pid s most now → IsTurnMade most pid s most now
so-far-all most pid s now so =
    let none : most - most ≡ 0 = omega arith in
    so.is ∙ ap (λ n. and_more most (turn program_of n pid now)) none ∙ ap (and_more most) (turn-none program_of pid now) ∙ count-plain most now

-- ---- turns without a step and with steps

pub made-none : (most pid : ℕ) (s after : State) → 1 ≤ most → IsTurnMade most pid s 0 after → continues (step program_of s pid).outcome ≡ false
made-none most pid s after some made = by (continues (step program_of s pid).outcome) refl
  where
    by : (b : Bool) → continues (step program_of s pid).outcome ≡ b → continues (step program_of s pid).outcome ≡ false
    by true goes = let few = turn-some program_of most pid s some goes in let count = ap (λ (t : Turn). t.count) made in absurd (omega (arith, few, count))
    by false stops = stops

pub made-leaves : (most pid : ℕ) (s after : State) → 1 ≤ most → IsTurnMade most pid s 0 after → after ≡ s
made-leaves most pid s after some made =
    ap (λ (t : Turn). t.after) (sym made ∙ turn-stops program_of most pid s (made-none most pid s after some made))

pub made-some : (most pid : ℕ) (s after : State) (count : ℕ) → 0 < count → IsTurnMade most pid s count after → continues (step program_of s pid).outcome ≡ true
made-some most pid s after count some made = by (continues (step program_of s pid).outcome) refl
  where
    by : (b : Bool) → continues (step program_of s pid).outcome ≡ b → continues (step program_of s pid).outcome ≡ true
    by true goes = goes
    by false stops = let none = ap (λ (t : Turn). t.count) (sym made ∙ turn-stops program_of most pid s stops) in absurd (omega (arith, none, some))

-- ---- process by process

module _ (s : State) (sorted : is_sorted nat_cmp s.processes ≡ true) (last up_to : ℕ) where
  goes : ℕ → Bool
  goes k = continues (step program_of s k).outcome

  module _ (pid : ℕ) (is : number_after last s.processes ≡ Some pid) where
    one : first_between program_of s last up_to ≡ (if nat_le pid up_to then chosen (λ k. continues (step program_of s k).outcome) up_to (continues (step program_of s pid).outcome) pid (first_between program_of s pid up_to) else None)
    one = next-one (λ k. continues (step program_of s k).outcome) up_to last pid s.processes sorted is

    pub beyond : up_to < pid → first_between program_of s last up_to ≡ None
    beyond past = one ∙ ap (λ (b : Bool). cond b (chosen (λ k. continues (step program_of s k).outcome) up_to (continues (step program_of s pid).outcome) pid (first_between program_of s pid up_to)) None) (lt-leb pid up_to past)

    within : pid ≤ up_to → first_between program_of s last up_to ≡ chosen (λ k. continues (step program_of s k).outcome) up_to (continues (step program_of s pid).outcome) pid (first_between program_of s pid up_to)
    within low = one ∙ ap (λ (b : Bool). cond b (chosen (λ k. continues (step program_of s k).outcome) up_to (continues (step program_of s pid).outcome) pid (first_between program_of s pid up_to)) None) (le-leb pid up_to low)

    pub here : pid ≤ up_to → continues (step program_of s pid).outcome ≡ true → first_between program_of s last up_to ≡ Some pid
    here low goes = within low ∙ ap (λ (b : Bool). cond b (Some pid) (first_between program_of s pid up_to)) goes

    pub later : pid ≤ up_to → continues (step program_of s pid).outcome ≡ false → first_between program_of s last up_to ≡ first_between program_of s pid up_to
    later low stops = within low ∙ ap (λ (b : Bool). cond b (Some pid) (first_between program_of s pid up_to)) stops

  pub nobody : number_after last s.processes ≡ None → first_between program_of s last up_to ≡ None
  nobody is = ap first_of (next-none (λ k. continues (step program_of s k).outcome) up_to last s.processes is)

-- ---- the turn that is taken

module _ (most : ℕ) (s : State) where
  pub taken-none : (o : Option ℕ) (made : Option (ℕ × ℕ)) (after : State) → o ≡ None → made ≡ None → after ≡ s → IsTurnTaken most s o made after
  taken-none o made after none nothing same = subst (λ (x : Option ℕ). IsTurnTaken most s x made after) (sym none) (nothing, same)

  pub taken-one : (o : Option ℕ) (made : Option (ℕ × ℕ)) (after : State) (pid count : ℕ) → o ≡ Some pid → made ≡ Some (pid, count) → IsTurnMade most pid s count after
      → IsTurnTaken most s o made after
  taken-one o made after pid count one is turn-made = subst (λ (x : Option ℕ). IsTurnTaken most s x made after) (sym one) (count, is, turn-made)

  -- a process with a greater number has the turn, or otherwise the first that can make a step
  pub taken-above : (o other : Option ℕ) (made : Option (ℕ × ℕ)) (after : State) → IsSome made → IsTurnTaken most s o made after → IsTurnTaken most s (or_else o other) made after
  taken-above None other made after some taken = let none = taken.0 in cc (none, some)
  taken-above (Some pid) other made after some taken = taken

  pub none-above : (o : Option ℕ) (made : Option (ℕ × ℕ)) (after : State) → made ≡ None → IsTurnTaken most s o made after → (o ≡ None) × (after ≡ s)
  none-above None made after none taken = (refl, taken.1)
  none-above (Some pid) made after none (count, some, is) = cc (none, some)

pub taken-as : (n m : ℕ) (s after : State) (o : Option ℕ) (made same : Option (ℕ × ℕ)) → n ≡ m → made ≡ same → IsTurnTaken n s o made after → IsTurnTaken m s o same after
taken-as n m s after o made same most is taken =
    subst (λ (k : ℕ). IsTurnTaken k s o same after) most (subst (λ (x : Option (ℕ × ℕ)). IsTurnTaken n s o x after) is taken)

-- ---- from one process to the next

-- the table of processes is that of the state
pub numbered : (last : ℕ) (o : Option ℕ) (table : ProcessTable) (mid now : State) → o ≡ number_after last table.processes
    → table ≡ record { processes = mid.processes; last_process = mid.last_process } → mid ≡ now → number_after last now.processes ≡ o
numbered last o table mid now is copies same =
    sym (is ∙ ap (λ (t : ProcessTable). number_after last t.processes) copies ∙ ap (λ (s : State). number_after last s.processes) same)

-- no process up to a number can make a step; those after it remain
pub record IsLeft (s : State) (after up_to last : ℕ) (now : State) : Type 0 where
  pub same : now ≡ s
  pub left : first_between program_of s after up_to ≡ first_between program_of s last up_to

pub left-all : (s : State) (after up_to : ℕ) → IsLeft s after up_to after s
left-all s after up_to = record { same = refl; left = refl }

module _ (most : ℕ) (s : State) (sorted : is_sorted nat_cmp s.processes ≡ true) (after up_to last : ℕ) (now : State) (is : IsLeft s after up_to last now) where
  pub left-nobody : number_after last now.processes ≡ None → IsTurnTaken most s (first_between program_of s after up_to) None now
  left-nobody none =
      taken-none most s (first_between program_of s after up_to) None now
      (is.left ∙ nobody s sorted last up_to (ap (λ (t : State). number_after last t.processes) (sym is.same) ∙ none)) refl is.same

  module _ (pid : ℕ) (next : number_after last now.processes ≡ Some pid) where
    comes : number_after last s.processes ≡ Some pid
    comes = ap (λ (t : State). number_after last t.processes) (sym is.same) ∙ next

    pub left-beyond : up_to < pid → IsTurnTaken most s (first_between program_of s after up_to) None now
    left-beyond past = taken-none most s (first_between program_of s after up_to) None now (is.left ∙ beyond s sorted last up_to pid comes past) refl is.same

    pub left-here : pid ≤ up_to → (count : ℕ) (new : State) → 0 < count → IsTurnMade most pid now count new
        → IsTurnTaken most s (first_between program_of s after up_to) (Some (pid, count)) new
    left-here low count new some made =
        let made-here = subst (λ (t : State). IsTurnMade most pid t count new) is.same made in
        taken-one most s (first_between program_of s after up_to) (Some (pid, count)) new pid count
        (is.left ∙ here s sorted last up_to pid comes low (made-some most pid s new count some made-here)) refl made-here

    pub left-later : pid ≤ up_to → (count : ℕ) (new : State) → count ≤ 0 → 1 ≤ most → IsTurnMade most pid now count new → IsLeft s after up_to pid new
    left-later low count new none some made =
        let zero-count : count ≡ 0 = omega (arith, none) in
        let made-here = subst (λ (n : ℕ). IsTurnMade most pid s n new) zero-count (subst (λ (t : State). IsTurnMade most pid t count new) is.same made) in
        record {
          same = made-leaves most pid s new some made-here;
          left = is.left ∙ later s sorted last up_to pid comes low (made-none most pid s new some made-here);
        }

    -- fewer processes remain
    pub left-fewer : (new : State) → new ≡ s → length (records_after pid new.processes) < length (records_after last now.processes)
    left-fewer new same =
        let fewer = fewer-after last pid s.processes (next-record last pid s.processes sorted comes) in
        subst (λ (t : State). length (records_after pid t.processes) < length (records_after last now.processes)) (sym same)
        (subst (λ (t : State). length (records_after pid s.processes) < length (records_after last t.processes)) (sym is.same) fewer)

-- the processes after one, none of which can make a step
pub taken-next : (most : ℕ) (s : State) → AreProcesses s → (last : ℕ) (made : Option (ℕ × ℕ)) (after : State) → IsSome made
    → IsTurnTaken most s (first_between program_of s last LAST_PROCESS) made after → IsTurnTaken most s (next_turn program_of last s) made after
taken-next most s processes last made after some taken =
    subst (λ (o : Option ℕ). IsTurnTaken most s o made after) (sym (next-turn program_of s processes last))
    (taken-above most s (first_between program_of s last LAST_PROCESS) (first_between program_of s 0 last) made after some taken)

pub taken-first : (most : ℕ) (s now : State) → AreProcesses s → (last : ℕ) (made : Option (ℕ × ℕ)) (after : State) (none : Option (ℕ × ℕ)) → none ≡ None
    → IsTurnTaken most s (first_between program_of s last LAST_PROCESS) none now → IsTurnTaken most now (first_between program_of now 0 last) made after
    → IsTurnTaken most s (next_turn program_of last s) made after
taken-first most s now processes last made after none is above taken =
    let nothing = none-above most s (first_between program_of s last LAST_PROCESS) none now is above in
    let here = subst (λ (t : State). IsTurnTaken most t (first_between program_of t 0 last) made after) nothing.1 taken in
    subst (λ (o : Option ℕ). IsTurnTaken most s o made after)
    (sym (next-turn program_of s processes last ∙ ap (λ (o : Option ℕ). or_else o (first_between program_of s 0 last)) nothing.0)) here
