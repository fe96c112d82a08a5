-- Processes after an answer, after the end of another process, and after an instruction on registers.
use Rattle.std.proofs.Common.{◌≡◌, ◌≢◌, ℕ, suc, Bool, true, false, not, nat_le, List, filter, Option, None, Some, refl, ap, sym, subst, ◌∙◌, arith}
use Rattle.std.specs.FinMap.Entries.{find, put, is_sorted}
use Rattle.std.specs.Ordering.{nat_cmp}
use Rattle.std.proofs.lemmas.Bool.{and_parts, leb-true}
use Rattle.pv_model.specs.declared.instruction.Instruction.{Instruction}
use Rattle.pv_model.specs.declared.instruction.Instruction.TheVariants as Line
use Rattle.pv_model.specs.declared.outcome.Outcome.TheVariants.{Killed}
use Rattle.pv_model.specs.declared.promise.Promise.{Promise}
use Rattle.pv_model.specs.Machine.{answer_by_attempt, at_next_line, update_live, update, Attempt, done, refused, Bytes, is_unclaimed, adopter, end_process, Effect, returns, returns_bytes, ends, waits, collect, jump_if, Next, inside, calls_for, perform, next_by, next, Program, Process, ProcessRecord, live, ended_record, State, process_at, live_process, step, step_of, step_by}
use Rattle.pv_laws_states.specs.States.{is_process_number, IsValid}
use Rattle.pv_laws_states.proofs.ValidEnds.{mapped, sorted-mapped, found-mapped, mapped-found, found-filtered, filtered-found, adopted, map-adopt, adopted-live, live-adopted}
use Rattle.pv_laws_states.proofs.ReferenceMembers.{find_number-list_all, live-found}
use Rattle.pv_laws_states.proofs.CallOutcomes.{at_call}
use Rattle.pv_laws_states.proofs.Processes.{find-put_same, find-put_other, process_at-same, process_at-other, update-is}
use Rattle.pv_laws_states.proofs.CollectedStates.{processes-collect}
use Rattle.pv_laws_states.proofs.ValidStates.{sorted-put_number}
use Rattle.pv_laws_access.specs.Growth.{HasSameRights, IsInOrder, IsUnchangedExceptParent}

pub alone-itself : (p : Process) → IsUnchangedExceptParent p p
alone-itself p = record { all = refl }

-- the same restraints and descriptors
pub alone-same : (p q : Process) → IsUnchangedExceptParent p q → HasSameRights p q
alone-same p q is = subst (HasSameRights p) (sym is.all) (record { promises = refl; execpromises = refl; table = refl; locked = refl; descriptors = refl })

-- ---- after a change of one process

pub process_at-collect : (s : State) (k : ℕ) → process_at (collect s) k ≡ process_at s k
process_at-collect s k = ap (λ ps. live_process (find nat_cmp k ps)) (processes-collect s)

pub update-live : (s : State) (pid : ℕ) (f : Process → Process) (p : Process) → process_at s pid ≡ Some p → process_at (update s pid f) pid ≡ Some (f p)
update-live s pid f p at = ap (λ x. process_at x pid) (update-is s pid f p at) ∙ process_at-same s pid (f p)

pub update-other : (s : State) (pid : ℕ) (f : Process → Process) (k : ℕ) → k ≢ pid → process_at (update s pid f) k ≡ process_at s k
update-other s pid f k other = by (process_at s pid)
  where
    by : (o : Option Process) → process_at (update_live s pid f o) k ≡ process_at s k
    by None = refl
    by (Some p) = process_at-other s pid (f p) k other

-- ---- in order

pub valid-in_order : (s : State) → IsValid s → IsInOrder s
valid-in_order s whole = record { ascending = whole.processes.ascending; next_is_free = by (find nat_cmp (suc s.last_process) s.processes) refl }
  where
    by : (o : Option ProcessRecord) → find nat_cmp (suc s.last_process) s.processes ≡ o → o ≡ None
    by None none = refl
    by (Some r) found =
        let number = find_number-list_all (is_process_number s.last_process) (suc s.last_process) r s.processes whole.processes.numbers found in
        absurd (omega (arith, leb-true (suc s.last_process) s.last_process (and_parts (nat_le 1 (suc s.last_process)) _ number).1))

-- the number of a live process is not the next process number
pub not_next : (s : State) → IsInOrder s → (pid : ℕ) (p : Process) → process_at s pid ≡ Some p → pid ≢ suc s.last_process
not_next s order pid p at same =
    let found = live-found s pid p at in
    let free : find nat_cmp pid s.processes ≡ None = ap (λ k. find nat_cmp k s.processes) same ∙ order.next_is_free in cc

pub in_order-call : (s : State) (pid : ℕ) (me : Process) → IsInOrder s → process_at s pid ≡ Some me → IsInOrder (at_call s pid me)
in_order-call s pid me order at = record {
  ascending = sorted-put_number pid (live (at_next_line me)) s.processes order.ascending;
  next_is_free = find-put_other (suc s.last_process) pid (live (at_next_line me)) s.processes (λ same. not_next s order pid me at (sym same)) ∙ order.next_is_free;
}

-- ---- the end of a process

module _ (s : State) (pid : ℕ) (me : Process) (status : ℕ) where
  abbrev pub put_away : List (ℕ × ProcessRecord)
  put_away = put nat_cmp pid (ended_record me.parent status) s.processes

  abbrev pub heir : ℕ
  heir = adopter (record s { processes = put_away })

  abbrev pub claimed : ℕ × ProcessRecord → Bool
  claimed r = not (is_unclaimed r.1)

  -- the ended process is not live
  pub ended-not_live : is_sorted nat_cmp s.processes ≡ true → (q : Process) → process_at (end_process s pid me status) pid ≡ Some q → ⊥
  unfolding end_process
  ended-not_live ascending q at =
      let found = subst (λ es. find nat_cmp pid (filter claimed es) ≡ Some (live q)) (map-adopt pid heir put_away) (live-found (end_process s pid me status) pid q at) in
      let in_order : is_sorted nat_cmp (mapped (adopted pid heir) put_away) ≡ true = sorted-mapped (adopted pid heir) put_away ∙ sorted-put_number pid (ended_record me.parent status) s.processes ascending in
      let preserved = found-filtered claimed (mapped (adopted pid heir) put_away) in_order pid (live q) found in
      let was = found-mapped (adopted pid heir) pid put_away (live q) preserved.0 in
      let lives = live-adopted pid heir was.0 q was.2 in
      let gone = find-put_same pid (ended_record me.parent status) s.processes in
      let same : Some (ended_record me.parent status) ≡ Some (live lives.0) = sym gone ∙ was.1 ∙ ap Some lives.1 in
      cc same

  -- each other live process changes at most its parent
  pub ended-others : (k : ℕ) (p : Process) → k ≢ pid → process_at s k ≡ Some p → (q : Process) × (process_at (end_process s pid me status) k ≡ Some q) × IsUnchangedExceptParent p q
  unfolding end_process
  ended-others k p other at =
      let there : find nat_cmp k put_away ≡ Some (live p) = find-put_other k pid (ended_record me.parent status) s.processes other ∙ live-found s k p at in
      let adoptee = adopted-live pid heir p in
      let moved : find nat_cmp k (mapped (adopted pid heir) put_away) ≡ Some (live adoptee.0) = mapped-found (adopted pid heir) k put_away (live p) there ∙ ap Some adoptee.1 in
      let preserved = filtered-found claimed (mapped (adopted pid heir) put_away) k (live adoptee.0) moved refl in
      let old = live-adopted pid heir (live p) adoptee.0 adoptee.1 in
      let same : p ≡ old.0 = cc (old.1) in
      let is : adoptee.0 ≡ record p { parent = adoptee.0.parent } = old.2 ∙ ap (λ (x : Process). record x { parent = adoptee.0.parent }) (sym same) in (
        adoptee.0,
        ap live_process (ap (λ es. find nat_cmp k (filter claimed es)) (map-adopt pid heir put_away) ∙ preserved),
        record { all = is },
      )

-- ---- instructions on registers

-- an instruction on registers leaves the restraints and the descriptors unchanged
abbrev pub IsSameNext : Process → Next → Type 0
IsSameNext p (inside q) = HasSameRights p q × (q.directory ≡ p.directory)
IsSameNext p (calls_for call) = Unit {0}

alike : (p q : Process) → q.promises ≡ p.promises → q.execpromises ≡ p.execpromises → q.table ≡ p.table → q.locked ≡ p.locked → q.descriptors ≡ p.descriptors → q.directory ≡ p.directory → IsSameNext p (inside q)
alike p q promises execpromises table locked descriptors directory =
    (record { promises = promises; execpromises = execpromises; table = table; locked = locked; descriptors = descriptors }, directory)

same-jump : (b : Bool) (p : Process) (line : ℕ) → IsSameNext p (inside (jump_if b p line))
same-jump true p line = alike p _ refl refl refl refl refl refl
same-jump false p line = alike p _ refl refl refl refl refl refl

same-perform : (p : Process) (i : Instruction) → IsSameNext p (perform p i)
unfolding perform
same-perform p (Line.Set r n) = alike p _ refl refl refl refl refl refl
same-perform p (Line.Add r n) = alike p _ refl refl refl refl refl refl
same-perform p (Line.Put bytes) = alike p _ refl refl refl refl refl refl
same-perform p (Line.Peek r k) = alike p _ refl refl refl refl refl refl
same-perform p (Line.Jump line) = alike p _ refl refl refl refl refl refl
same-perform p (Line.JumpIfZero r line) = same-jump _ p line
same-perform p (Line.JumpIfNotZero r line) = same-jump _ p line
same-perform p (Line.JumpIfNegative r line) = same-jump _ p line
same-perform p i = tt

pub same-next : (p : Process) → IsSameNext p (next p)
same-next p = by (Rattle.std.specs.Prelude.slice_get p.program _)
  where
    by : (o : Option Instruction) → IsSameNext p (next_by p o)
    by None = tt
    by (Some i) = same-perform p i

-- a step of a live process is its next instruction or call
pub step-is : (program_of : Bytes → Option Program) (s : State) (pid : ℕ) (p : Process) → process_at s pid ≡ Some p → step program_of s pid ≡ step_by program_of s pid p (next p)
unfolding step
step-is program_of s pid p at = ap (step_of program_of s pid) at

pub step-gone : (program_of : Bytes → Option Program) (s : State) (pid : ℕ) → process_at s pid ≡ None → step program_of s pid ≡ step_of program_of s pid None
unfolding step
step-gone program_of s pid none = ap (step_of program_of s pid) none

-- the answer for an attempt is not a kill
pub not-killed : (before x : State) (pid : ℕ) (me : Process) (attempt : Attempt Effect) (a : Promise) → (answer_by_attempt before x pid me attempt).outcome ≡ Killed a → ⊥
not-killed before x pid me (done walks (after, returns n)) a is = cc is
not-killed before x pid me (done walks (after, returns_bytes n bytes)) a is = cc is
not-killed before x pid me (done walks (after, ends status)) a is = cc is
not-killed before x pid me (done walks (after, waits)) a is = cc is
not-killed before x pid me (refused walks errno cause) a is = cc is
