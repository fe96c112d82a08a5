-- The table of live lines is closed after n rounds, if the program has n lines.
use Rattle.std.proofs.Common.{◌≡◌, ◌⊎◌, inl, inr, ℕ, zero, suc, ◌+◌, ◌-◌, ◌<◌, ◌≤◌, max, nat_lt, if◌then◌else◌, Bool, true, false, not, ◌&&◌, ◌||◌, ◌==◌, List, [], ◌∷◌, map, length, get_or, slice_get, Some, refl, ap, sym, subst, ◌∙◌, ⊎_elim, arith}
use Rattle.std.specs.List.{list_any}
use Rattle.std.proofs.lemmas.Bool.{eqb-true, eq-eqb, ltb-true, ltb-false, lt-ltb, le-ltb, cases_lt, and_parts, and_from, or_cases, or_left, or_right, not_from_false}
use Rattle.std.proofs.lemmas.List.{length-map}
use Rattle.pv_model.specs.declared.instruction.Instruction.{Instruction}
use Rattle.pv_model.specs.declared.instruction.Instruction.TheVariants as Line
use Rattle.pv_model.specs.declared.instruction.Operand.{Operand}
use Rattle.pv_model.specs.declared.instruction.Operand.TheVariants.{Number, Register}
use Rattle.pv_model.specs.declared.instruction.Origin.{Origin}
use Rattle.pv_model.specs.declared.instruction.Origin.TheVariants.{WorkingDirectory, Descriptor}
use Rattle.pv_model.specs.Machine.{Program}
use Rattle.pv_laws_classes.specs.Liveness.{Variable, register_variable, byte_variable, operand_reads, origin_reads, bytes_taken, reads_variable, sets_variable, read_bound, bound_if, greatest_bound, live_bytes, is_live_below, targets, may_continue, IsClosedTest, by_test, has_line, is_needed, next_table, rounds, is_live_at, ComputedIsClosed}

-- ---- tables

abbrev pub at : List Bool → ℕ → Bool
at xs k = get_or xs k false

-- each line of the first table is in the second
abbrev IsWithin : List Bool → List Bool → Type 0
IsWithin xs ys = (k : ℕ) → at xs k ≡ true → at ys k ≡ true

-- the number of lines in a table
abbrev count : List Bool → ℕ
count [] = 0
count (true ∷ xs) = suc (count xs)
count (false ∷ xs) = count xs

count-most : (xs : List Bool) → count xs ≤ length xs
count-most [] = omega arith
count-most (true ∷ xs) = omega (arith, count-most xs)
count-most (false ∷ xs) = omega (arith, count-most xs)

-- a table within another is the same, or has fewer lines
same-or-fewer : (xs ys : List Bool) → length xs ≡ length ys → IsWithin xs ys → (xs ≡ ys) ⊎ (suc (count xs) ≤ count ys)
same-or-fewer [] [] same within = inl refl
same-or-fewer [] (y ∷ ys) same within = cc same
same-or-fewer (x ∷ xs) [] same within = cc same
same-or-fewer (true ∷ xs) (true ∷ ys) same within =
    ⊎_elim (λ eq. inl (ap (λ (zs : List Bool). true ∷ zs) eq)) (λ less. inr (omega (arith, less))) (same-or-fewer xs ys (cc same) (λ k is. within (suc k) is))
same-or-fewer (true ∷ xs) (false ∷ ys) same within = let no : false ≡ true = within 0 refl in cc no
same-or-fewer (false ∷ xs) (false ∷ ys) same within =
    ⊎_elim (λ eq. inl (ap (λ (zs : List Bool). false ∷ zs) eq)) (λ less. inr less) (same-or-fewer xs ys (cc same) (λ k is. within (suc k) is))
same-or-fewer (false ∷ xs) (true ∷ ys) same within =
    ⊎_elim (λ eq. let counts : count xs ≡ count ys = ap count eq in inr (omega (arith, counts))) (λ less. inr (omega (arith, less))) (same-or-fewer xs ys (cc same) (λ k is. within (suc k) is))

-- ---- rounds

pub none-at : (is : List Instruction) (k : ℕ) → at (map (λ i. false) is) k ≡ true → false ≡ true
none-at [] k is = is
none-at (i ∷ rest) zero is = is
none-at (i ∷ rest) (suc k) is = none-at rest k is

any-within : (P Q : ℕ → Bool) → ((n : ℕ) → P n ≡ true → Q n ≡ true) → (ns : List ℕ) → list_any P ns ≡ true → list_any Q ns ≡ true
any-within P Q weaker [] is = cc is
any-within P Q weaker (n ∷ ns) is = ⊎_elim (λ here. or_left (Q n) (list_any Q ns) (weaker n here)) (λ there. or_right (Q n) (list_any Q ns) (any-within P Q weaker ns there)) (or_cases (P n) (list_any P ns) is)

module _ (program : Program) (v : Variable) where
  has-within : (xs ys : List Bool) → IsWithin xs ys → (n : ℕ) → has_line xs n ≡ true → has_line ys n ≡ true
  has-within xs ys within zero is = refl
  has-within xs ys within (suc k) is = within k is

  needed-within : (xs ys : List Bool) → IsWithin xs ys → (line : ℕ) (i : Instruction) → is_needed program v xs line i ≡ true → is_needed program v ys line i ≡ true
  needed-within xs ys within line i is =
      ⊎_elim (λ here. or_left (reads_variable i v) _ here)
      (λ there.
      let parts = and_parts (not (sets_variable i v)) (list_any (has_line xs) (targets program line i)) there in
      or_right (reads_variable i v) _ (and_from (not (sets_variable i v)) (list_any (has_line ys) (targets program line i)) parts.0 (any-within (has_line xs) (has_line ys) (has-within xs ys within) (targets program line i) parts.1)))
      (or_cases (reads_variable i v) (not (sets_variable i v) && list_any (has_line xs) (targets program line i)) is)

  next-within : (xs ys : List Bool) → IsWithin xs ys → (line : ℕ) (is : List Instruction) → IsWithin (next_table program v xs line is) (next_table program v ys line is)
  next-within xs ys within line [] k here = here
  next-within xs ys within line (i ∷ rest) zero here = needed-within xs ys within line i here
  next-within xs ys within line (i ∷ rest) (suc k) here = next-within xs ys within (suc line) rest k here

  next-length : (xs : List Bool) (line : ℕ) (is : List Instruction) → length (next_table program v xs line is) ≡ length is
  next-length xs line [] = refl
  next-length xs line (i ∷ rest) = ap suc (next-length xs (suc line) rest)

  rounds-length : (n : ℕ) → length (rounds program v n) ≡ length program
  rounds-length zero = length-map program (λ i. false)
  rounds-length (suc n) = next-length (rounds program v n) 1 program

  rounds-within : (n : ℕ) → IsWithin (rounds program v n) (rounds program v (suc n))
  rounds-within zero k is = let no = none-at program k is in cc no
  rounds-within (suc n) k is = next-within (rounds program v n) (rounds program v (suc n)) (rounds-within n) 1 program k is

  -- a round changes nothing, or the lines are more than the rounds
  changes : (n : ℕ) → (rounds program v n ≡ rounds program v (suc n)) ⊎ (suc n ≤ count (rounds program v (suc n)))
  changes zero = ⊎_elim (λ same. inl same) (λ less. inr (omega (arith, less))) (same-or-fewer (rounds program v 0) (rounds program v 1) (rounds-length 0 ∙ sym (rounds-length 1)) (rounds-within 0))
  changes (suc n) =
      ⊎_elim (λ same. inl (ap (λ xs. next_table program v xs 1 program) same))
      (λ many.
      ⊎_elim (λ same. inl same) (λ less. inr (omega (arith, many, less)))
      (same-or-fewer (rounds program v (suc n)) (rounds program v (suc (suc n))) (rounds-length (suc n) ∙ sym (rounds-length (suc (suc n)))) (rounds-within (suc n))))
      (changes n)

  abbrev table : List Bool
  table = rounds program v (length program)

  stable : table ≡ next_table program v table 1 program
  stable =
      ⊎_elim (λ same. same)
      (λ many.
      let most = count-most (rounds program v (suc (length program))) in
      let lines = rounds-length (suc (length program)) in
      absurd (omega (arith, many, most, lines))) (changes (length program))

  -- the entry of a line
  next-at : (xs : List Bool) (line : ℕ) (is : List Instruction) (k : ℕ) (i : Instruction) → slice_get is k ≡ Some i → at (next_table program v xs line is) k ≡ is_needed program v xs (k + line) i
  next-at xs line [] k i is = cc is
  next-at xs line (j ∷ rest) zero i is = let same : j ≡ i = cc is in ap (is_needed program v xs line) same ∙ ap (λ n. is_needed program v xs n i) (omega arith)
  next-at xs line (j ∷ rest) (suc k) i is = next-at xs (suc line) rest k i is ∙ ap (λ n. is_needed program v xs n i) (omega arith)

  -- the variables that a line needs are live there
  needs : (line : ℕ) (i : Instruction) → slice_get program (line - 1) ≡ Some i → is_needed program v table line i ≡ true → has_line table line ≡ true
  needs zero i is need = refl
  needs (suc k) i is need =
      let here : slice_get program k ≡ Some i = subst (λ n. slice_get program n ≡ Some i) (omega arith) is in
      let number : k + 1 ≡ suc k = omega arith in
      ap (λ xs. at xs k) stable ∙ next-at table 1 program k i here ∙ ap (λ n. is_needed program v table n i) number ∙ need

target-live : (P : ℕ → Bool) (next : ℕ) → P next ≡ true → (ns : List ℕ) → list_any (λ target. target == next) ns ≡ true → list_any P ns ≡ true
target-live P next live [] is = cc is
target-live P next live (n ∷ ns) is =
    ⊎_elim (λ here. or_left (P n) (list_any P ns) (ap P (eqb-true n next here) ∙ live)) (λ there. or_right (P n) (list_any P ns) (target-live P next live ns there))
    (or_cases (n == next) (list_any (λ target. target == next) ns) is)

table-is-closed : IsClosedTest (by_test is_live_at)
table-is-closed = record {
  of_line = λ program line i v at is. needs program v line i at (or_left (reads_variable i v) _ is);
  of_next = λ program line next i v at may stays live.
      needs program v line i at
      (or_right (reads_variable i v) _ (and_from (not (sets_variable i v)) (list_any (has_line (rounds program v (length program))) (targets program line i)) (not_from_false (sets_variable i v) stays)
      (target-live (has_line (rounds program v (length program))) next live (targets program line i) may)));
}

-- ---- a bound of bytes

no-operand : (d : Operand) (k : ℕ) → operand_reads d (byte_variable k) ≡ true → false ≡ true
no-operand (Number n) k is = is
no-operand (Register r) k is = is

no-operands : (d e : Operand) (k : ℕ) → (operand_reads d (byte_variable k) || operand_reads e (byte_variable k)) ≡ true → false ≡ true
no-operands d e k is = ⊎_elim (no-operand d k) (no-operand e k) (or_cases (operand_reads d (byte_variable k)) (operand_reads e (byte_variable k)) is)

no-origin : (o : Origin) (k : ℕ) → origin_reads o (byte_variable k) ≡ true → false ≡ true
no-origin WorkingDirectory k is = is
no-origin (Descriptor d) k is = no-operand d k is

-- an instruction that reads a byte also reads the last byte below its bound
abbrev ReadsLast : Instruction → ℕ → Type 0
ReadsLast i k = (m : ℕ) × (k ≤ m) × (read_bound i ≡ suc m) × (reads_variable i (byte_variable m) ≡ true)

none-last : (i : Instruction) (k : ℕ) → false ≡ true → ReadsLast i k
none-last i k absent = cc absent

read-last : (i : Instruction) (k : ℕ) → reads_variable i (byte_variable k) ≡ true → ReadsLast i k
read-last (Line.Peek r j) k is = let same : k ≡ j = eqb-true k j is in (j, omega arith, refl, eq-eqb j j refl)
read-last (Line.Write d n) k is =
    ⊎_elim (λ by_operand. none-last (Line.Write d n) k (no-operands d n k by_operand)) (λ below. by (bytes_taken n) refl (ltb-true k (bytes_taken n) below))
    (or_cases (operand_reads d (byte_variable k) || operand_reads n (byte_variable k)) (nat_lt k (bytes_taken n)) is)
  where
    by : (b : ℕ) → bytes_taken n ≡ b → k < b → ReadsLast (Line.Write d n) k
    by zero count less = absurd (omega arith)
    by (suc m) count less =
        let last : m < bytes_taken n = omega arith in
        (m, omega arith, count, or_right (operand_reads d (byte_variable m) || operand_reads n (byte_variable m)) _ (lt-ltb m (bytes_taken n) last))
read-last (Line.Exit code) k is = none-last (Line.Exit code) k (no-operand code k is)
read-last (Line.Close d) k is = none-last (Line.Close d) k (no-operand d k is)
read-last (Line.Dup d) k is = none-last (Line.Dup d) k (no-operand d k is)
read-last (Line.Fstat d) k is = none-last (Line.Fstat d) k (no-operand d k is)
read-last (Line.Getdents d) k is = none-last (Line.Getdents d) k (no-operand d k is)
read-last (Line.Fchdir d) k is = none-last (Line.Fchdir d) k (no-operand d k is)
read-last (Line.Dup2 d e) k is = none-last (Line.Dup2 d e) k (no-operands d e k is)
read-last (Line.Read d n) k is = none-last (Line.Read d n) k (no-operands d n k is)
read-last (Line.Ftruncate d n) k is = none-last (Line.Ftruncate d n) k (no-operands d n k is)
read-last (Line.Lseek d by whence) k is = none-last (Line.Lseek d by whence) k (no-operands d by k is)
read-last (Line.OpenAt origin path flags) k is = none-last (Line.OpenAt origin path flags) k (no-origin origin k is)
read-last i k is = none-last i k is

-- an instruction that does not set a byte sets no later byte
sets-more : (i : Instruction) (k m : ℕ) → k ≤ m → sets_variable i (byte_variable k) ≡ false → sets_variable i (byte_variable m) ≡ false
sets-more (Line.Put bytes) k m more stays = let least : length bytes ≤ k = ltb-false k (length bytes) stays in le-ltb m (length bytes) (omega arith)
sets-more i k m more stays = refl

max-cases : (k a b : ℕ) → k < max a b → (k < a) ⊎ (k < b)
max-cases k a b below = ⊎_elim (λ here. inl here) (λ above. inr (omega arith)) (cases_lt k a)

module _ (test : ℕ → Bool) where
  bound-above : (is : List Instruction) (j : ℕ) (i : Instruction) (k : ℕ) → slice_get is j ≡ Some i → read_bound i ≡ suc k → test k ≡ true → k < greatest_bound test is
  bound-above [] j i k at last live = cc at
  bound-above (h ∷ rest) zero i k at last live =
      let same : h ≡ i = cc at in
      let here : bound_if test (read_bound h) ≡ suc k = ap (λ x. bound_if test (read_bound x)) same ∙ ap (bound_if test) last ∙ ap (λ b. if b then suc k else 0) live in
      omega (arith, here)
  bound-above (h ∷ rest) (suc j) i k at last live = omega (arith, bound-above rest j i k at last live)

  -- an instruction whose last byte passes the test, and is not before byte k
  abbrev IsBound : List Instruction → ℕ → Type 0
  IsBound is k = (m : ℕ) × (k ≤ m) × (test m ≡ true) × (j : ℕ) × (i : Instruction) × (slice_get is j ≡ Some i) × (read_bound i ≡ suc m)

  bound-is : (is : List Instruction) (k : ℕ) → k < greatest_bound test is → IsBound is k
  bound-is [] k below = absurd (omega arith)
  bound-is (i ∷ rest) k below =
      ⊎_elim (λ here. of (read_bound i) refl here) (λ there. let found = bound-is rest k there in (found.0, found.1, found.2, suc found.3, found.4, found.5, found.6))
      (max-cases k (bound_if test (read_bound i)) (greatest_bound test rest) below)
    where
      of : (b : ℕ) → read_bound i ≡ b → k < bound_if test b → IsBound (i ∷ rest) k
      of zero last less = absurd (omega arith)
      of (suc m) last less = by (test m) refl less
        where
          by : (c : Bool) → test m ≡ c → k < (if c then suc m else 0) → IsBound (i ∷ rest) k
          by true passes less = (m, omega arith, passes, 0, i, refl, last)
          by false fails less = absurd (omega arith)

bound-is-closed : IsClosedTest (by_test is_live_below)
bound-is-closed = record { of_line = read; of_next = unset }
  where
    read : (program : Program) (line : ℕ) (i : Instruction) (v : Variable) → slice_get program (line - 1) ≡ Some i → reads_variable i v ≡ true → is_live_below program line v ≡ true
    read program line i (register_variable r) at is = table-is-closed.of_line program line i (register_variable r) at is
    read program line i (byte_variable k) at is =
        let last = read-last i k is in
        let above : last.0 < live_bytes program line = bound-above (λ m. is_live_at program line (byte_variable m)) program (line - 1) i last.0 at last.2 (table-is-closed.of_line program line i (byte_variable last.0) at last.3) in
        lt-ltb k (live_bytes program line) (omega (arith, above, last.1))

    unset : (program : Program) (line next : ℕ) (i : Instruction) (v : Variable) → slice_get program (line - 1) ≡ Some i → may_continue program line i next ≡ true → sets_variable i v ≡ false
        → is_live_below program next v ≡ true → is_live_below program line v ≡ true
    unset program line next i (register_variable r) at may stays live = table-is-closed.of_next program line next i (register_variable r) at may stays live
    unset program line next i (byte_variable k) at may stays live =
        let found = bound-is (λ m. is_live_at program next (byte_variable m)) program k (ltb-true k (live_bytes program next) live) in
        let there = table-is-closed.of_next program line next i (byte_variable found.0) at may (sets-more i k found.0 found.1 stays) found.2 in
        let above : found.0 < live_bytes program line = bound-above (λ m. is_live_at program line (byte_variable m)) program found.3 found.4 found.0 found.5 found.6 there in
        lt-ltb k (live_bytes program line) (omega (arith, above, found.1))

pub computed-is-closed : ComputedIsClosed
computed-is-closed = (table-is-closed, bound-is-closed)
