-- States with zero in dead variables.
use Rattle.std.proofs.Common.{◌≡◌, ℕ, zero, suc, ◌+◌, ℤ, pos, Bool, true, false, if◌then◌else◌, List, [], ◌∷◌, map, length, get_or, refl, ap, ap₂, sym, subst, ◌∙◌, arith}
use Rattle.pv_model.specs.Machine.{Bytes, Program, Process, ProcessRecord, live, ended_record, State}
use Rattle.pv_laws_classes.specs.Liveness.{Variable, register_variable, byte_variable, value_in, by_test, with_values, AgreeOnLive, SameExceptValues, none, both_live, both_ended, EqualUpToDead, cleared_from, cleared_registers, cleared_buffer, cleared_record, cleared, ClearedRepresents, ClearedStatesRepresent}
use Rattle.pv_laws_classes.proofs.LiveClasses.{equivalence}

-- ---- lists

module _ {X : Type 0} (test : ℕ → Bool) (nothing : X) where
  pub cleared-length : (k : ℕ) (xs : List X) → length (cleared_from test nothing k xs) ≡ length xs
  cleared-length k [] = refl
  cleared-length k (x ∷ xs) = ap suc (cleared-length (suc k) xs)

  -- a value that passes the test stays
  cleared-at : (k : ℕ) (xs : List X) (j : ℕ) → test (j + k) ≡ true → get_or (cleared_from test nothing k xs) j nothing ≡ get_or xs j nothing
  cleared-at k [] j passes = refl
  cleared-at k (x ∷ xs) zero passes = let here : 0 + k ≡ k = omega arith in ap (λ b. if b then x else nothing) (ap test (sym here) ∙ passes)
  cleared-at k (x ∷ xs) (suc j) passes = let same : j + suc k ≡ suc j + k = omega arith in cleared-at (suc k) xs j (ap test same ∙ passes)

  -- lists that agree in these values are cleared to the same list
  cleared-same : (k : ℕ) (xs ys : List X) → length ys ≡ length xs → ((j : ℕ) → test (j + k) ≡ true → get_or ys j nothing ≡ get_or xs j nothing) → cleared_from test nothing k ys ≡ cleared_from test nothing k xs
  cleared-same k [] [] same agree = refl
  cleared-same k [] (y ∷ ys) same agree = cc same
  cleared-same k (x ∷ xs) [] same agree = cc same
  cleared-same k (x ∷ xs) (y ∷ ys) same agree =
      ap₂ (λ z (zs : List X). z ∷ zs) (by (test k) refl) (cleared-same (suc k) xs ys (cc same) (λ j passes. let more : suc j + k ≡ j + suc k = omega arith in agree (suc j) (ap test more ∙ passes)))
    where
      by : (b : Bool) → test k ≡ b → (if b then y else nothing) ≡ (if b then x else nothing)
      by true passes = let here : 0 + k ≡ k = omega arith in agree 0 (ap test here ∙ passes)
      by false fails = refl

-- ---- states

module _ (test : Program → ℕ → Variable → Bool) where
  abbrev Same : List (ℕ × ProcessRecord) → List (ℕ × ProcessRecord) → Type 0
  Same = SameExceptValues (λ number. AgreeOnLive (by_test test))

  abbrev cleared_all : List (ℕ × ProcessRecord) → List (ℕ × ProcessRecord)
  cleared_all rs = map (λ r. (r.0, cleared_record test r.1)) rs

  after-zero : (n : ℕ) → n + 0 ≡ n
  after-zero n = omega arith

  process-agrees : (p : Process) → AgreeOnLive (by_test test) p (cleared_registers test p.program p.line p.registers) (cleared_buffer test p.program p.line p.buffer)
  process-agrees p = record {
    registers_count = cleared-length (λ r. test p.program p.line (register_variable r)) (pos 0) 0 p.registers;
    buffer_length = cleared-length (λ k. test p.program p.line (byte_variable k)) 0 0 p.buffer;
    values = by;
  }
    where
      by : (v : Variable) → test p.program p.line v ≡ true → value_in (cleared_registers test p.program p.line p.registers) (cleared_buffer test p.program p.line p.buffer) v ≡ value_in p.registers p.buffer v
      by (register_variable r) lives =
          cleared-at (λ r. test p.program p.line (register_variable r)) (pos 0) 0 p.registers r (ap (λ n. test p.program p.line (register_variable n)) (after-zero r) ∙ lives)
      by (byte_variable k) lives =
          ap pos (cleared-at (λ k. test p.program p.line (byte_variable k)) 0 0 p.buffer k (ap (λ n. test p.program p.line (byte_variable n)) (after-zero k) ∙ lives))

  all-agree : (rs : List (ℕ × ProcessRecord)) → Same rs (cleared_all rs)
  all-agree [] = none
  all-agree ((n, live p) ∷ rs) = both_live n p _ _ rs (cleared_all rs) (process-agrees p) (all-agree rs)
  all-agree ((n, ended_record parent status) ∷ rs) = both_ended n parent status rs (cleared_all rs) (all-agree rs)

  process-same : (p : Process) (registers : List ℤ) (buffer : Bytes) → AgreeOnLive (by_test test) p registers buffer → cleared_record test (live (with_values registers buffer p)) ≡ cleared_record test (live p)
  process-same p registers buffer is =
      ap₂ (λ rs bs. live (with_values rs bs p))
      (cleared-same (λ r. test p.program p.line (register_variable r)) (pos 0) 0 p.registers registers is.registers_count
      (λ r lives. is.values (register_variable r) (ap (λ n. test p.program p.line (register_variable n)) (sym (after-zero r)) ∙ lives)))
      (cleared-same (λ k. test p.program p.line (byte_variable k)) 0 0 p.buffer buffer is.buffer_length
      (λ k lives. of k (is.values (byte_variable k) (ap (λ n. test p.program p.line (byte_variable n)) (sym (after-zero k)) ∙ lives))))
    where
      of : (k : ℕ) → value_in registers buffer (byte_variable k) ≡ value_in p.registers p.buffer (byte_variable k) → get_or buffer k 0 ≡ get_or p.buffer k 0
      of k both = cc both

  all-same : (rs ts : List (ℕ × ProcessRecord)) → Same rs ts → cleared_all ts ≡ cleared_all rs
  all-same rs ts none = refl
  all-same rs ts (both_live n p registers buffer qs us is rest) = ap₂ (λ r (xs : List (ℕ × ProcessRecord)). (n, r) ∷ xs) (process-same p registers buffer is) (all-same qs us rest)
  all-same rs ts (both_ended n parent status qs us rest) = ap (λ (xs : List (ℕ × ProcessRecord)). (n, ended_record parent status) ∷ xs) (all-same qs us rest)

  alike : (s : State) → EqualUpToDead (by_test test) s (cleared test s)
  alike s = record { tree = refl; files = refl; last_process = refl; processes = all-agree s.processes }

  represents : ClearedRepresents test
  represents = record {
    alike = alike;
    same = λ s t is. λ i. record { tree = is.tree i; files = is.files i; processes = all-same s.processes t.processes is.processes i; last_process = is.last_process i };
    only = λ s t is.
        let classes = equivalence (by_test test) in
        classes.transitive s (cleared test s) t (alike s)
        (subst (λ u. EqualUpToDead (by_test test) u t) is (classes.symmetric t (cleared test t) (alike t)));
  }

pub cleared-represent : ClearedStatesRepresent
cleared-represent test = represents test
