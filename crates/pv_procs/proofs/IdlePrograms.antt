-- No program from a place on has users.
use Rattle.std.proofs.Common.{◌≡◌, ◌≢◌, ℕ, zero, suc, ◌+◌, ◌<◌, ◌≤◌, true, List, [], ◌∷◌, length, max, count_by, Option, None, Some, slice_get, take, slice_set, replicate, refl, sym, ap, ap₂, ◌∙◌, inl, inr, arith}
use Rattle.std.proofs.lemmas.Bool.{cases_eq, cases_lt, eq-eqb}
use Rattle.pv_model.specs.Machine.{Program, ProcessRecord}
use Rattle.pv_procs.specs.declared.slot.ProcessSlot.{ProcessSlot}
use Rattle.pv_procs.specs.declared.shared.Shared.{Shared}
use Rattle.pv_procs.specs.Slots.{AreConsistentSlots, IsIdleFrom, process_table_of, record_by_slot, shared_program, shared_program_at, slot_record, slot_records, user_count, users_at, uses}
use Rattle.pv_procs.proofs.LoadedPrograms.{slice_get-set_other}
use Rattle.pv_procs.proofs.SlotInvariant.{bit, count_by-cons}

module _ (programs other : List Shared) (k most : ℕ) (idle : IsIdleFrom programs most) (rest : (j : ℕ) → j ≢ k → users_at other j ≡ users_at programs j) where
  -- a program lost a user
  pub idle-fewer : users_at other k + 1 ≡ users_at programs k → IsIdleFrom other most
  idle-fewer fewer = record {
    few = idle.few;
    idle = λ j past. elim (cases_eq j k) [
      | inl same ↦ let none : users_at programs k ≡ 0 = ap (users_at programs) (sym same) ∙ idle.idle j past in absurd (omega (arith, fewer, none))
      | inr different ↦ rest j different ∙ idle.idle j past
    ];
  }

  -- a program with users has one more
  pub idle-more : 0 < users_at programs k → IsIdleFrom other most
  idle-more some = record {
    few = idle.few;
    idle = λ j past.
        let different : j ≢ k = λ same. let none : users_at programs k ≡ 0 = ap (users_at programs) (sym same) ∙ idle.idle j past in omega (arith, some, none) in
        rest j different ∙ idle.idle j past;
  }

-- another program was put in a place
pub idle-set : (programs : List Shared) (free most : ℕ) (new : Shared) → IsIdleFrom programs most → free < 32 → IsIdleFrom (slice_set programs free new) (max most (free + 1))
idle-set programs free most new idle within = record {
  few = omega (arith, idle.few, within);
  idle = λ j past.
      let other : j ≢ free = λ same. omega (arith, past, same) in
      ap user_count (slice_get-set_other programs free j new other) ∙ idle.idle j (omega (arith, past));
}

-- the first program alone has a user
none-used : (n k : ℕ) → users_at (replicate n (record { program = []; users = 0 })) k ≡ 0
none-used zero k = refl
none-used (suc n) zero = refl
none-used (suc n) (suc k) = none-used n k

pub idle-first : (program : Program) → IsIdleFrom ((record { program = program; users = 1 }) ∷ replicate 31 (record { program = []; users = 0 })) 1
idle-first program = record { few = omega arith; idle = idle }
  where
    idle : (k : ℕ) → 1 ≤ k → users_at ((record { program = program; users = 1 }) ∷ replicate 31 (record { program = []; users = 0 })) k ≡ 0
    idle zero past = absurd (omega (arith, past))
    idle (suc k) past = none-used 31 k

-- ---- the programs that may have users were copied

module _ (slots : List ProcessSlot) (from new : List Shared) (last most : ℕ) (preserved : AreConsistentSlots slots from last) (idle : IsIdleFrom from most) (long : length new ≡ length from) (put : (k : ℕ) → k < most → slice_get new k ≡ slice_get from k) (rest : (k : ℕ) → most ≤ k → users_at new k ≡ 0) where
  users-copied : (k : ℕ) → users_at new k ≡ users_at from k
  users-copied k = elim (cases_lt k most) [
    | inl below ↦ ap user_count (put k below)
    | inr past ↦ rest k past ∙ sym (idle.idle k past)
  ]

  pub preserved-copied : AreConsistentSlots slots new last
  preserved-copied = record {
    ascending = preserved.ascending;
    numbers = preserved.numbers;
    last = preserved.last;
    table = long ∙ preserved.table;
    within = preserved.within;
    users = λ k. users-copied k ∙ preserved.users k;
  }

  pub idle-copied : IsIdleFrom new most
  idle-copied = record { few = idle.few; idle = rest }

  -- a program with users is one of them
  used-below : (k : ℕ) → 0 < count_by (uses k) slots → k < most
  used-below k some = elim (cases_lt k most) [
    | inl below ↦ below
    | inr past ↦ absurd (omega (arith, some, preserved.users k, idle.idle k past))
  ]

  record-same : (p : ProcessSlot) → ((k : ℕ) → uses k p ≡ true → k < most) → slot_record new p ≡ slot_record from p
  record-same p used = by p.status refl
    where
      by : (status : Option ℕ) → p.status ≡ status → slot_record new p ≡ slot_record from p
      by None none =
          let live : uses p.program p ≡ true = rw (none, eq-eqb p.program p.program refl) refl in
          ap (λ program. record_by_slot p program p.status) (ap shared_program (put p.program (used p.program live)))
      by (Some n) some = ap (record_by_slot p (shared_program_at new p.program)) some ∙ sym (ap (record_by_slot p (shared_program_at from p.program)) some)

  records-same : (ps : List ProcessSlot) → ((k : ℕ) → 0 < count_by (uses k) ps → k < most) → slot_records new ps ≡ slot_records from ps
  records-same [] used = refl
  records-same (p ∷ ps) used =
      ap₂ (λ r (es : List (ℕ × ProcessRecord)). (p.number, r) ∷ es)
      (record-same p (λ k is. let one : bit (uses k p) ≡ 1 = ap bit is in used k (omega (arith, count_by-cons (uses k) p ps, one))))
      (records-same ps (λ k some. used k (omega (arith, count_by-cons (uses k) p ps, some))))

  pub table-copied : process_table_of slots new last ≡ process_table_of slots from last
  table-copied = ap (λ (es : List (ℕ × ProcessRecord)). record { processes = es; last_process = last }) (records-same slots used-below)

-- a place in the front of a list
pub slice_get-take : {X : Type 0} (xs : List X) (n k : ℕ) → k < n → slice_get (take n xs) k ≡ slice_get xs k
slice_get-take xs zero k below = absurd (omega arith)
slice_get-take [] (suc n) k below = refl
slice_get-take (x ∷ xs) (suc n) zero below = refl
slice_get-take (x ∷ xs) (suc n) (suc k) below = slice_get-take xs n k (omega arith)
