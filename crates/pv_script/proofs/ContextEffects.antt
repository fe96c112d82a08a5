-- The effect of an instruction on registers, or a jump, on a context.
use Rattle.std.proofs.Common.{◌≡◌, ◌∙◌, ◌+◌, ap, sym, subst, add-one, ℕ, zero, suc, ◌-◌, ◌<◌, ◌≤◌, ℤ, pos, negsuc, ◌+ℤ◌, Bool, true, false, not, ltb, inl, inr, arith}
use Rattle.std.specs.Prelude.{slice_get, slice_index}
use Rattle.std.specs.Int.{w32, saturate_signed}
use Rattle.std.proofs.lemmas.Bool.{cases_lt, lt-ltb, le-ltb}
use Rattle.pv_model.specs.declared.instruction.Instruction.{Instruction}
use Rattle.pv_model.specs.declared.instruction.Instruction.TheVariants.{Set, Add, Put, Peek, JumpIfZero, JumpIfNotZero, JumpIfNegative}
use Rattle.pv_model.specs.Machine.{at_next_line, with_front, Bytes, jump_if, inside, perform, next, Program, Process}
use Rattle.pv_model.specs.Program.{clamp, is_zero, is_negative, register, with_register}
use Rattle.pv_script.specs.Context.{Context, in_context, Changes, is_some_on_registers, is_inside}
use Rattle.pv_script.specs.Passing.{Passes}

-- a sum saturated to 32 bits
pub clamped : (z : ℤ) → saturate_signed w32 z ≡ clamp z
clamped (pos n) =
    elim (cases_lt 2147483647 n) [
      | inl above ↦ let t : ltb 2147483647 n ≡ true = lt-ltb 2147483647 n above in rw t (ap pos (omega arith))
      | inr within ↦ let t : ltb 2147483647 n ≡ false = le-ltb 2147483647 n within in rw t (ap pos (omega arith))
    ]
clamped (negsuc n) =
    elim (cases_lt 2147483647 n) [
      | inl above ↦ let t : ltb 2147483647 n ≡ true = lt-ltb 2147483647 n above in rw t (ap negsuc (omega arith))
      | inr within ↦ let t : ltb 2147483647 n ≡ false = le-ltb 2147483647 n within in rw t (ap negsuc (omega arith))
    ]

module _ (program : Program) (old new : Context) (i : Instruction) where
  assigned : (r : ℕ) (value : ℤ) → Changes (λ p. at_next_line (with_register p r value)) program old new → (v : ℤ) → value ≡ v
      → (p : Process) → inside (at_next_line (with_register (in_context p program old) r v)) ≡ inside (in_context p program new)
  assigned r value made v same p = ap inside (sym (made p ∙ ap (λ n. at_next_line (with_register (in_context p program old) r n)) same))

  pub set_made : (r : ℕ) (n value : ℤ) → i ≡ Set r n → value ≡ n → Changes (λ p. at_next_line (with_register p r value)) program old new
      → (p : Process) → perform (in_context p program old) i ≡ inside (in_context p program new)
  unfolding perform
  set_made r n value is same made p = rw is (assigned r value made n same p)

  pub add_made : (r : ℕ) (n value : ℤ) → i ≡ Add r n → ((p : Process) → value ≡ clamp (register (in_context p program old) r +ℤ n)) → Changes (λ p. at_next_line (with_register p r value)) program old new
      → (p : Process) → perform (in_context p program old) i ≡ inside (in_context p program new)
  unfolding perform
  add_made r n value is same made p = rw is (assigned r value made (clamp (register (in_context p program old) r +ℤ n)) (same p) p)

  pub peek_made : (r k : ℕ) (value : ℤ) → i ≡ Peek r k → value ≡ pos (slice_index old.buffer k) → Changes (λ p. at_next_line (with_register p r value)) program old new
      → (p : Process) → perform (in_context p program old) i ≡ inside (in_context p program new)
  unfolding perform
  peek_made r k value is same made p = rw is (assigned r value made (pos (slice_index old.buffer k)) same p)

  pub put_made : (mid : Context) (bytes text : Bytes) → i ≡ Put text → bytes ≡ text → Changes (with_front bytes) program old mid → Changes at_next_line program mid new
      → (p : Process) → perform (in_context p program old) i ≡ inside (in_context p program new)
  unfolding perform
  put_made mid bytes text is same made next p =
      rw is (ap inside (sym (next p ∙ ap at_next_line (made p ∙ ap (λ b. with_front b (in_context p program old)) same))))

  jumped : (holds : Bool) (line : ℕ) → Changes (λ p. jump_if holds p line) program old new → (t : Bool) → holds ≡ t → (p : Process)
      → inside (jump_if t (in_context p program old) line) ≡ inside (in_context p program new)
  jumped holds line made t same p = ap inside (sym (made p ∙ ap (λ b. jump_if b (in_context p program old) line) same))

  pub jump_if_zero_made : (r line : ℕ) (holds : Bool) → i ≡ JumpIfZero r line → ((p : Process) → holds ≡ is_zero (register (in_context p program old) r)) → Changes (λ p. jump_if holds p line) program old new
      → (p : Process) → perform (in_context p program old) i ≡ inside (in_context p program new)
  unfolding perform
  jump_if_zero_made r line holds is same made p = rw is (jumped holds line made (is_zero (register (in_context p program old) r)) (same p) p)

  pub jump_if_not_zero_made : (r line : ℕ) (holds : Bool) → i ≡ JumpIfNotZero r line → ((p : Process) → holds ≡ not (is_zero (register (in_context p program old) r)))
      → Changes (λ p. jump_if holds p line) program old new → (p : Process) → perform (in_context p program old) i ≡ inside (in_context p program new)
  unfolding perform
  jump_if_not_zero_made r line holds is same made p = rw is (jumped holds line made (not (is_zero (register (in_context p program old) r))) (same p) p)

  pub jump_if_negative_made : (r line : ℕ) (holds : Bool) → i ≡ JumpIfNegative r line → ((p : Process) → holds ≡ is_negative (register (in_context p program old) r))
      → Changes (λ p. jump_if holds p line) program old new → (p : Process) → perform (in_context p program old) i ≡ inside (in_context p program new)
  unfolding perform
  jump_if_negative_made r line holds is same made p = rw is (jumped holds line made (is_negative (register (in_context p program old) r)) (same p) p)

-- one more instruction on registers or jump in each process with this program
pub pass-more : (program : Program) (old mid new : Context) (n : ℕ) → ((p : Process) → Passes n (in_context p program old) (in_context p program mid))
    → ((p : Process) → next (in_context p program mid) ≡ inside (in_context p program new)) → (p : Process) → Passes (n + 1) (in_context p program old) (in_context p program new)
pass-more program old mid new n passed step p =
    subst (λ k. Passes k (in_context p program old) (in_context p program new)) (sym (add-one n)) (in_context p program mid, passed p, step p)

-- a count that is at most one, and not zero if such an instruction comes next, is one
pub one_passed : (program : Program) (old new : Context) (n : ℕ) → n ≤ 1 → ((p : Process) → Passes n (in_context p program old) (in_context p program new)) → (n < 1 → is_inside program new ≡ false)
    → is_inside program old ≡ true → (p : Process) → next (in_context p program old) ≡ inside (in_context p program new)
one_passed program old new zero few passed whole comes p =
    let same : is_inside program new ≡ is_inside program old = ap (λ (q : Process). is_some_on_registers (slice_get program (q.line - 1))) (passed p) in
    let none : is_inside program new ≡ false = whole (omega arith) in
    cc
one_passed program old new (suc zero) few passed whole comes p = sym (ap next (passed p).1) ∙ (passed p).2
one_passed program old new (suc (suc n)) few passed whole comes p = absurd (omega arith)
