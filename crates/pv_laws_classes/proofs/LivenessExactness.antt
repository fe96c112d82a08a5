-- In a valid program, a variable that the iteration finds live is read before it is set.
use Rattle.std.proofs.Common.{◌≡◌, ℕ, zero, suc, ◌+◌, ◌-◌, ◌≤◌, Bool, true, false, not, ◌&&◌, ◌==◌, nat_le, List, [], ◌∷◌, length, min, slice_get, Some, refl, ap, sym, ◌∙◌, ⊎_elim, arith}
use Rattle.std.specs.List.{list_any, list_all}
use Rattle.std.proofs.lemmas.Bool.{and_parts, or_cases, or_left, or_right, eqb-true, eq-eqb, leb-true, not-true}
use Rattle.pv_model.specs.declared.instruction.Instruction.{Instruction}
use Rattle.pv_model.specs.declared.instruction.Instruction.TheVariants as Line
use Rattle.pv_model.specs.Machine.{Program}
use Rattle.pv_laws_states.specs.States.{is_target_line, is_instruction, is_program_in_bounds}
use Rattle.pv_laws_classes.specs.Liveness.{Variable, reads_variable, sets_variable, line_after, targets, may_continue, IsRead, here, later, has_line, is_needed, next_table, rounds, ComputedIsRead}
use Rattle.pv_laws_classes.proofs.LiveTables.{at, none-at}

-- ---- lines

any-of : (P : ℕ → Bool) (ns : List ℕ) → list_any P ns ≡ true → (n : ℕ) × (P n ≡ true) × (list_any (λ target. target == n) ns ≡ true)
any-of P [] is = cc is
any-of P (n ∷ ns) is =
    ⊎_elim (λ first. (n, first, or_left (n == n) _ (eq-eqb n n refl))) (λ rest. let found = any-of P ns rest in (found.0, found.1, or_right (n == found.0) _ found.2)) (or_cases (P n) (list_any P ns) is)

all-of : (P : Instruction → Bool) (is : List Instruction) (k : ℕ) (i : Instruction) → list_all P is ≡ true → slice_get is k ≡ Some i → P i ≡ true
all-of P [] k i all got = cc got
all-of P (j ∷ rest) zero i all got = let same : j ≡ i = cc got in ap P (sym same) ∙ (and_parts (P j) (list_all P rest) all).0
all-of P (j ∷ rest) (suc k) i all got = all-of P rest k i (and_parts (P j) (list_all P rest) all).1 got

-- a target of a valid instruction is a line
module _ (program : Program) (line : ℕ) where
  after-line : (n : ℕ) → list_any (λ target. target == n) (line_after program line ∷ []) ≡ true → 1 ≤ n
  after-line n is =
      ⊎_elim (λ same. let eq : min (suc line) (suc (length program)) ≡ n = eqb-true (line_after program line) n same in omega arith) (λ none. let absent : false ≡ true = none in cc absent)
      (or_cases (line_after program line == n) false is)

  jump-line : (target n : ℕ) → is_target_line (length program) target ≡ true → list_any (λ t. t == n) (target ∷ []) ≡ true → 1 ≤ n
  jump-line target n valid is =
      let least : 1 ≤ target = leb-true 1 target (and_parts (nat_le 1 target) (nat_le target (length program)) valid).0 in
      ⊎_elim (λ same. let eq : target ≡ n = eqb-true target n same in omega arith) (λ none. let absent : false ≡ true = none in cc absent) (or_cases (target == n) false is)

  branch-line : (r target n : ℕ) (known : Bool) → (known && is_target_line (length program) target) ≡ true → list_any (λ t. t == n) (target ∷ line_after program line ∷ []) ≡ true → 1 ≤ n
  branch-line r target n known valid is =
      let both = and_parts known (is_target_line (length program) target) valid in
      ⊎_elim (λ same. jump-line target n both.1 (or_left (target == n) false same)) (λ other. after-line n other) (or_cases (target == n) (list_any (λ t. t == n) (line_after program line ∷ [])) is)

  target-line : (i : Instruction) → is_instruction (length program) i ≡ true → (n : ℕ) → may_continue program line i n ≡ true → 1 ≤ n
  target-line (Line.Jump target) valid n is = jump-line target n valid is
  target-line (Line.JumpIfZero r target) valid n is = branch-line r target n _ valid is
  target-line (Line.JumpIfNotZero r target) valid n is = branch-line r target n _ valid is
  target-line (Line.JumpIfNegative r target) valid n is = branch-line r target n _ valid is
  target-line (Line.Exit code) valid n is = cc is
  target-line i valid n is = after-line n is

-- ---- rounds

module _ (program : Program) (valid : is_program_in_bounds program ≡ true) (v : Variable) where
  -- the instruction of a line in a table
  entry : (xs : List Bool) (line : ℕ) (is : List Instruction) (k : ℕ) → at (next_table program v xs line is) k ≡ true → (i : Instruction) × (slice_get is k ≡ Some i) × (is_needed program v xs (k + line) i ≡ true)
  entry xs line [] k live = cc live
  entry xs line (i ∷ rest) zero live = let same : line ≡ 0 + line = omega arith in (i, refl, ap (λ n. is_needed program v xs n i) (sym same) ∙ live)
  entry xs line (i ∷ rest) (suc k) live =
      let found = entry xs (suc line) rest k live in
      let same : suc k + line ≡ k + suc line = omega arith in
      (found.0, found.1, ap (λ n. is_needed program v xs n found.0) same ∙ found.2)

  -- one round more
  one-round : (n : ℕ) → ((m : ℕ) → at (rounds program v n) m ≡ true → IsRead program (suc m) v) → (k : ℕ) → at (rounds program v (suc n)) k ≡ true → IsRead program (suc k) v
  one-round n before k live =
      let found = entry (rounds program v n) 1 program k live in
      let number : suc k ≡ k + 1 = omega arith in
      let place : k ≡ suc k - 1 = omega arith in
      let there : slice_get program (suc k - 1) ≡ Some found.0 = ap (slice_get program) (sym place) ∙ found.1 in
      by found.0 there found.1 (ap (λ m. is_needed program v (rounds program v n) m found.0) number ∙ found.2)
    where
      of : (i : Instruction) → slice_get program (suc k - 1) ≡ Some i → is_instruction (length program) i ≡ true → sets_variable i v ≡ false → (next : ℕ) → has_line (rounds program v n) next ≡ true
          → may_continue program (suc k) i next ≡ true → IsRead program (suc k) v
      of i there good stays zero live may = let least : 1 ≤ 0 = target-line program (suc k) i good 0 may in absurd (omega arith)
      of i there good stays (suc m) live may = later (suc k) (suc m) i v there may stays (before m live)

      by : (i : Instruction) → slice_get program (suc k - 1) ≡ Some i → slice_get program k ≡ Some i → is_needed program v (rounds program v n) (suc k) i ≡ true → IsRead program (suc k) v
      by i there got needed =
          ⊎_elim (λ reads_it. here (suc k) i v there reads_it)
          (λ needed_later.
          let parts = and_parts (not (sets_variable i v)) (list_any (has_line (rounds program v n)) (targets program (suc k) i)) needed_later in
          let found = any-of (has_line (rounds program v n)) (targets program (suc k) i) parts.1 in
          of i there (all-of (is_instruction (length program)) program k i (and_parts (nat_le (length program) 256) (list_all (is_instruction (length program)) program) valid).1 got)
          (not-true (sets_variable i v) parts.0) found.0 found.1 found.2)
          (or_cases (reads_variable i v) (not (sets_variable i v) && list_any (has_line (rounds program v n)) (targets program (suc k) i)) needed)

  read-in : (n k : ℕ) → at (rounds program v n) k ≡ true → IsRead program (suc k) v
  read-in zero k live = let absent = none-at program k live in cc absent
  read-in (suc n) k live = one-round n (λ m is. read-in n m is) k live

pub computed-is-read : ComputedIsRead
computed-is-read program valid zero v least live = absurd (omega arith)
computed-is-read program valid (suc k) v least live = read-in program valid v (length program) k live
