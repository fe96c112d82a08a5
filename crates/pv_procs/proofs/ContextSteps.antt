-- The context of a live process advances, on the slots.
use Rattle.std.proofs.Common.{◌≡◌, ℕ, zero, suc, ◌<◌, ◌==◌, cond, position, true, false, List, [], ◌∷◌, length, Option, None, Some, IsSome, is_some, option_map, refl, sym, subst, ap, ◌∙◌, arith}
use Rattle.std.proofs.Math.ListN.{get_or, set}
use Rattle.std.proofs.lemmas.Cmp.{nat_cmp_total}
use Rattle.std.proofs.lemmas.List.{set-get_or}
use Rattle.std.proofs.lemmas.Option.{same_Some}
use Rattle.std.specs.Cmp.{tied_itself}
use Rattle.std.specs.FinMap.Entries.{find, find-put}
use Rattle.std.specs.List.{HoldsAt}
use Rattle.std.specs.Ordering.{is_eq, nat_cmp}
use Rattle.pv_model.specs.declared.call_ref.CallRef.{CallRef}
use Rattle.pv_model.specs.Machine.{call_of, calls_for, next, Process, Program, live, live_process}
use Rattle.pv_script.specs.Context.{Context, in_context, is_inside}
use Rattle.pv_script.specs.Passing.{Passes}
use Rattle.pv_procs.specs.declared.slot.ProcessSlot.{ProcessSlot}
use Rattle.pv_procs.specs.declared.record.ProcessRecord.{ProcessRecord}
use Rattle.pv_procs.specs.declared.shared.Shared.{Shared}
use Rattle.pv_procs.specs.Slots.{AreConsistentSlots, process_of, ascends, shared_program_at, process_table_of}
use Rattle.pv_procs.specs.ProcessTable.{ProcessTable, process_in, table_with_process, updated_table, updated_live}
use Rattle.pv_procs.specs.Parts.{record_of}
use Rattle.pv_procs.specs.Turns.{AwaitsCall, CallsNext, Moves, PassesIn, RegisterNext, context_of}
use Rattle.pv_procs.proofs.SlotLookups.{IsAt, found-at, living, status-at, process-at, changed-at}
use Rattle.pv_procs.proofs.EndedSlots.{program-within}

pub program-read : (programs : List Shared) (k : ℕ) (s : Shared) → k < length programs → s ≡ get_or programs k s → shared_program_at programs k ≡ s.program
program-read [] k s within is = absurd (omega arith)
program-read (t ∷ ts) zero s within is = ap (λ (u : Shared). u.program) (sym is)
program-read (t ∷ ts) (suc k) s within is = program-read ts k s (omega arith) is

module _ (slots : List ProcessSlot) (programs : List Shared) (last : ℕ) (ps : ProcessTable) (seen : process_table_of slots programs last ≡ ps) (pid : ℕ) (asc : ascends slots ≡ true)
    (k : ℕ) (slot : ProcessSlot) (at : IsAt slots pid k slot) (there : IsSome (process_in ps pid)) where
  abbrev own : Process
  own = process_of (shared_program_at programs slot.program) slot

  abbrev turned : Context → ProcessSlot
  turned m = record slot { «record» = record slot.record { context = m } }

  pub context-changed : (m : Context) (f : Process → Process) → in_context own own.program m ≡ f (in_context own own.program slot.record.context) → process_table_of (set slots k (turned m)) programs last ≡ updated_table ps pid f
  context-changed m f is =
      changed-at slots programs last ps seen pid asc k slot at there (turned m) f at.number (status-at slots programs last ps seen pid asc k slot at there) is

  pub context-put : (m : Context) → process_table_of (set slots k (turned m)) programs last ≡ table_with_process ps pid (in_context own own.program m)
  context-put m =
      context-changed m (λ p. in_context own own.program m) refl ∙ ap (updated_live ps pid (λ p. in_context own own.program m)) (process-at slots programs last ps seen pid asc k slot at there)

-- the slot of a live process, and the program that it shares
pub record Appears (slots : List ProcessSlot) (programs : List Shared) (pid k : ℕ) (slot : ProcessSlot) (shared : Shared) : Type 0 where
  pub at : IsAt slots pid k slot
  pub live : slot.status ≡ None
  pub program : shared_program_at programs slot.program ≡ shared.program

pub appears : (slots : List ProcessSlot) (programs : List Shared) (last : ℕ) → AreConsistentSlots slots programs last → (pid k : ℕ) (slot : ProcessSlot) (shared : Shared)
    → position (λ (p : ProcessSlot). p.number == pid) slots ≡ Some k → HoldsAt (λ (p : ProcessSlot). p.status ≡ None) slots k → slot ≡ get_or slots k slot
    → shared ≡ get_or programs slot.program shared → Appears slots programs pid k slot shared
appears slots programs last preserved pid k slot shared found lives is same =
    let at = found-at slots pid k slot found is in
    let none = ap (λ (p : ProcessSlot). p.status) is ∙ lives slot in
    let below = program-within slots programs last preserved pid k slot at none in
    let table = preserved.table in
    record { at = at; live = none; program = program-read programs slot.program shared (omega (arith, below, table)) same }

-- the process after a change of only it
put-there : (ps : ProcessTable) (pid : ℕ) (p : Process) → process_in (table_with_process ps pid p) pid ≡ Some p
put-there ps pid p =
    ap live_process (find-put nat_cmp nat_cmp_total pid pid (live p) ps.processes ∙ ap (λ o. cond (is_eq o) (Some (live p)) (find nat_cmp pid ps.processes)) (tied_itself nat_cmp_total pid))

module _ (slots : List ProcessSlot) (programs : List Shared) (last : ℕ) (ps : ProcessTable) (seen : process_table_of slots programs last ≡ ps) (pid : ℕ) (asc : ascends slots ≡ true)
    (k : ℕ) (slot : ProcessSlot) (at : IsAt slots pid k slot) (none : slot.status ≡ None) (m : Context) where
  abbrev me : Process
  me = process_of (shared_program_at programs slot.program) slot

  lives : process_in ps pid ≡ Some me
  lives = living slots programs last ps seen pid asc k slot at none

  -- the context changed as its process does
  pub moved : (by : Process → Process → Type 0) → by me (in_context me me.program m) → Moves by pid ps (process_table_of (set slots k (record slot { «record» = record slot.record { context = m } })) programs last)
  moved by step = record {
    me = me;
    lives = lives;
    after = in_context me me.program m;
    step = step;
    only = context-put slots programs last ps seen pid asc k slot at (ap is_some lives) m;
  }

  -- it stopped before a call
  pub awaiting : is_inside me.program m ≡ false → AwaitsCall (process_in (process_table_of (set slots k (record slot { «record» = record slot.record { context = m } })) programs last) pid)
  awaiting call = λ found is.
      let there = ap (λ t. process_in t pid) (context-put slots programs last ps seen pid asc k slot at (ap is_some lives) m) ∙ put-there ps pid (in_context me me.program m) in
      let same : in_context me me.program m ≡ found = cc in
      subst (λ (p : Process). is_inside p.program (context_of p) ≡ false) same call

  -- it did not change
  unchanged : m ≡ slot.record.context → process_table_of (set slots k (record slot { «record» = record slot.record { context = m } })) programs last ≡ ps
  unchanged same =
      ap (λ n. process_table_of (set slots k (record slot { «record» = record slot.record { context = n } })) programs last) same
      ∙ ap (λ p. process_table_of (set slots k p) programs last) at.is ∙ ap (λ xs. process_table_of xs programs last) (set-get_or slots k slot) ∙ seen

  -- the next step is a call
  pub at-call : (call : CallRef) → m ≡ slot.record.context → next me ≡ calls_for (call_of call)
      → CallsNext call (process_in ps pid) × (process_table_of (set slots k (record slot { «record» = record slot.record { context = m } })) programs last ≡ ps)
  at-call call same comes = ((me, lives, comes), unchanged same)

  -- it executed n instructions
  pub passed : (n : ℕ) → Passes n me (in_context me me.program m) → PassesIn n pid ps (process_table_of (set slots k (record slot { «record» = record slot.record { context = m } })) programs last)
  passed zero same = unchanged (ap context_of same)
  passed (suc n) steps = moved (Passes (suc n)) steps

-- ---- the next step, from the record of a process and its program

pub gone-by : (o : Option Process) → option_map record_of o ≡ None → o ≡ None
gone-by None is = refl
gone-by (Some me) is = absurd cc

pub lives-by : (o : Option Process) (r : ProcessRecord) → option_map record_of o ≡ Some r → IsSome o
lives-by None r is = absurd cc
lives-by (Some p) r is = refl

module _ (r : ProcessRecord) (program : Program) where
  pub fetched-call : (o : Option Process) → option_map record_of o ≡ Some r → option_map (λ (me : Process). me.program) o ≡ Some program → (call : CallRef)
      → ((p : Process) → next (in_context p program r.context) ≡ calls_for (call_of call)) → CallsNext call o
  fetched-call None is own call comes = absurd cc
  fetched-call (Some me) is own call comes =
      let context : context_of me ≡ r.context = ap (λ (x : ProcessRecord). x.context) (same_Some _ _ is) in
      let instructions : me.program ≡ program = same_Some _ _ own in (
        me,
        refl,
        subst (λ (i : Program). next (in_context me i (context_of me)) ≡ calls_for (call_of call)) (sym instructions)
            (subst (λ (m : Context). next (in_context me program m) ≡ calls_for (call_of call)) (sym context) (comes me)),
      )

  pub fetched-register : (o : Option Process) → option_map record_of o ≡ Some r → option_map (λ (me : Process). me.program) o ≡ Some program
      → is_inside program r.context ≡ true → RegisterNext o
  fetched-register None is own comes = absurd cc
  fetched-register (Some me) is own comes =
      let context : context_of me ≡ r.context = ap (λ (x : ProcessRecord). x.context) (same_Some _ _ is) in
      let instructions : me.program ≡ program = same_Some _ _ own in
      (me, refl, subst (λ (i : Program). is_inside i (context_of me) ≡ true) (sym instructions) (subst (λ (m : Context). is_inside program m ≡ true) (sym context) comes))
