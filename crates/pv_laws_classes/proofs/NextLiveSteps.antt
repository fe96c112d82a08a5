-- The next step of two processes that agree in live variables.
use Rattle.std.specs.Prelude.{◌+ℤ◌}
use Rattle.std.proofs.Common.{◌≡◌, ℕ, ◌-◌, ◌<◌, ◌≤◌, ℤ, pos, negsuc, List, ◌++◌, length, drop, Bool, true, false, not, ◌||◌, ◌==◌, get_or, set, take, slice_get, Option, None, Some, refl, ap, ap₂, sym, subst, ◌∙◌, arith}
use Rattle.std.proofs.lemmas.Bool.{eq-eqb, lt-ltb, or_left, or_right, ne_eqb}
use Rattle.pv_model.specs.declared.call.Call.{Call}
use Rattle.pv_model.specs.declared.call.Call.TheVariants as TheCall
use Rattle.pv_model.specs.declared.call.Start.TheVariants as TheStart
use Rattle.pv_model.specs.declared.instruction.Instruction.{Instruction}
use Rattle.pv_model.specs.declared.instruction.Instruction.TheVariants as Line
use Rattle.pv_model.specs.declared.instruction.Operand.{Operand}
use Rattle.pv_model.specs.declared.instruction.Operand.TheVariants.{Number, Register}
use Rattle.pv_model.specs.declared.instruction.Origin.{Origin}
use Rattle.pv_model.specs.declared.instruction.Origin.TheVariants.{WorkingDirectory, Descriptor}
use Rattle.pv_model.specs.declared.limits.TheConstants.{BUFFER}
use Rattle.pv_model.specs.Machine.{at_next_line, Bytes, Next, inside, calls_for, jump_if, perform, next_by, next, Process}
use Rattle.pv_model.specs.Program.{is_zero, is_negative, clamp, register, with_register, operand, at_line, start_of_origin}
use Rattle.pv_laws_classes.specs.Liveness.{Variable, register_variable, byte_variable, value_in, is_register, is_byte_below, is_result, operand_reads, origin_reads, bytes_taken, reads_variable, sets_variable, line_after, may_continue, Live, IsClosedTest, with_values, AgreeOnLive}
use Rattle.pv_laws_classes.proofs.LiveValues.{set-agree, set-count, front-agree, front-length, take-agree, AwaitResult}

module _ (is_live : Live) (closed : IsClosedTest is_live) (p : Process) (rs : List ℤ) (bs : Bytes) (agree : AgreeOnLive is_live p rs bs) where
  abbrev you : Process
  you = with_values rs bs p

  -- the premise on the caller of a call: agreement at the next line except for the result; for a write, also in the
  -- bytes that it writes; nothing for an exit
  abbrev pub IsReady : Call → Type 0
  IsReady (TheCall.Exit code) = Unit {0}
  IsReady (TheCall.Write d n) = AwaitResult is_live (at_next_line p) rs bs × ((k : ℕ) → n ≡ pos k → k ≤ BUFFER → take k bs ≡ take k p.buffer)
  IsReady call = AwaitResult is_live (at_next_line p) rs bs

  -- the next step of the other process
  abbrev pub NextAgrees : Next → Next → Type 0
  NextAgrees (inside q) n = (registers : List ℤ) × (buffer : Bytes) × (n ≡ inside (with_values registers buffer q)) × AgreeOnLive is_live q registers buffer
  NextAgrees (calls_for call) n = (n ≡ calls_for call) × IsReady call

  module _ (i : Instruction) (at : slice_get p.program (p.line - 1) ≡ Some i) where
    abbrev Same : Variable → Type 0
    Same v = value_in rs bs v ≡ value_in p.registers p.buffer v

    unset : (after : ℕ) → may_continue p.program p.line i after ≡ true → (v : Variable) → sets_variable i v ≡ false → is_live p.program after v → Same v
    unset after may v stays live = agree.values v (closed.of_next p.program p.line after i v at may stays live)

    read : (v : Variable) → reads_variable i v ≡ true → Same v
    read v is = agree.values v (closed.of_line p.program p.line i v at is)

    -- a jump to a line
    moved : (line : ℕ) → may_continue p.program p.line i line ≡ true → ((v : Variable) → sets_variable i v ≡ false) → AgreeOnLive is_live (at_line p line) rs bs
    moved line may none = record { registers_count = agree.registers_count; buffer_length = agree.buffer_length; values = λ v live. unset line may v (none v) live }

    waits : may_continue p.program p.line i (line_after p.program p.line) ≡ true → ((v : Variable) → sets_variable i v ≡ is_result v) → AwaitResult is_live (at_next_line p) rs bs
    waits may result = record {
      registers_count = agree.registers_count;
      buffer_length = agree.buffer_length;
      values = λ v live not_result. unset (line_after p.program p.line) may v (result v ∙ not_result) live;
    }

    -- a register is set to the same value in both
    stored : (r : ℕ) (x : ℤ) → may_continue p.program p.line i (line_after p.program p.line) ≡ true → ((v : Variable) → sets_variable i v ≡ is_register r v)
        → AgreeOnLive is_live (at_next_line (with_register p r x)) (set rs r x) bs
    stored r x may result = record { registers_count = set-count rs p.registers r x x agree.registers_count; buffer_length = agree.buffer_length; values = by }
      where
        by : (v : Variable) → is_live p.program (line_after p.program p.line) v → value_in (set rs r x) bs v ≡ value_in (set p.registers r x) p.buffer v
        by (register_variable q) live =
            set-agree rs p.registers r q x agree.registers_count (λ other. unset (line_after p.program p.line) may (register_variable q) (result (register_variable q) ∙ ne_eqb q r other) live)
        by (byte_variable k) live = unset (line_after p.program p.line) may (byte_variable k) (result (byte_variable k)) live

  operand-same : (d : Operand) → ((v : Variable) → operand_reads d v ≡ true → value_in rs bs v ≡ value_in p.registers p.buffer v) → operand you d ≡ operand p d
  operand-same (Number n) same = refl
  operand-same (Register r) same = same (register_variable r) (eq-eqb r r refl)

  origin-same : (o : Origin) → ((v : Variable) → origin_reads o v ≡ true → value_in rs bs v ≡ value_in p.registers p.buffer v) → start_of_origin you o ≡ start_of_origin p o
  origin-same WorkingDirectory same = refl
  origin-same (Descriptor d) same = ap TheStart.Descriptor (operand-same d same)

  written-same : (n : Operand) → ((v : Variable) → is_byte_below (bytes_taken n) v ≡ true → value_in rs bs v ≡ value_in p.registers p.buffer v)
      → (k : ℕ) → operand p n ≡ pos k → k ≤ BUFFER → take k bs ≡ take k p.buffer
  written-same n same k count most = take-agree bs p.buffer k agree.buffer_length (λ j less. of j (by n count j less same))
    where
      of : (j : ℕ) → value_in rs bs (byte_variable j) ≡ value_in p.registers p.buffer (byte_variable j) → get_or bs j 0 ≡ get_or p.buffer j 0
      of j both = cc both

      by : (n : Operand) → operand p n ≡ pos k → (j : ℕ) → j < k → ((v : Variable) → is_byte_below (bytes_taken n) v ≡ true → value_in rs bs v ≡ value_in p.registers p.buffer v)
          → value_in rs bs (byte_variable j) ≡ value_in p.registers p.buffer (byte_variable j)
      by (Number (pos m)) count j less same = let is : m ≡ k = cc count in let more : j < m = omega arith in same (byte_variable j) (lt-ltb j m more)
      by (Number (negsuc m)) count j less same = cc count
      by (Register r) count j less same = let more : j < BUFFER = omega arith in same (byte_variable j) (lt-ltb j BUFFER more)

  jumps : (b : Bool) (line : ℕ) → AgreeOnLive is_live (at_line p line) rs bs → AgreeOnLive is_live (at_next_line p) rs bs → NextAgrees (inside (jump_if b p line)) (inside (jump_if b you line))
  jumps true line there here = (rs, bs, refl, there)
  jumps false line there here = (rs, bs, refl, here)

  jumps-same : (a b : Bool) (line : ℕ) → a ≡ b → AgreeOnLive is_live (at_line p line) rs bs → AgreeOnLive is_live (at_next_line p) rs bs → NextAgrees (inside (jump_if b p line)) (inside (jump_if a you line))
  jumps-same a b line same there here = subst (λ c. NextAgrees (inside (jump_if b p line)) (inside (jump_if c you line))) (sym same) (jumps b line there here)

  -- a conditional jump
  jumps-by : (test : ℤ → Bool) (r line : ℕ) (i : Instruction) → slice_get p.program (p.line - 1) ≡ Some i → ((v : Variable) → reads_variable i v ≡ is_register r v) → ((v : Variable) → sets_variable i v ≡ false)
      → may_continue p.program p.line i line ≡ true → may_continue p.program p.line i (line_after p.program p.line) ≡ true
      → NextAgrees (inside (jump_if (test (register p r)) p line)) (inside (jump_if (test (register you r)) you line))
  jumps-by test r line i at reads_it none there here =
      jumps-same (test (register you r)) (test (register p r)) line (ap test (read i at (register_variable r) (reads_it (register_variable r) ∙ eq-eqb r r refl))) (moved i at line there none) (moved i at (line_after p.program p.line) here none)

  next_line : ((line_after p.program p.line == line_after p.program p.line) || false) ≡ true
  next_line = or_left (line_after p.program p.line == line_after p.program p.line) false (eq-eqb (line_after p.program p.line) (line_after p.program p.line) refl)

  -- a call of an operand
  by-operand : (make : ℤ → Call) (d : Operand) (i : Instruction) → ((v : Variable) → operand_reads d v ≡ true → value_in rs bs v ≡ value_in p.registers p.buffer v)
      → ((x : ℤ) → IsReady (make x)) → NextAgrees (calls_for (make (operand p d))) (calls_for (make (operand you d)))
  by-operand make d i same ready = (ap (λ x. calls_for (make x)) (operand-same d same), ready (operand p d))

  -- a call of two operands
  by-operands : (make : ℤ → ℤ → Call) (d e : Operand) → ((v : Variable) → operand_reads d v ≡ true → value_in rs bs v ≡ value_in p.registers p.buffer v)
      → ((v : Variable) → operand_reads e v ≡ true → value_in rs bs v ≡ value_in p.registers p.buffer v)
      → IsReady (make (operand p d) (operand p e)) → NextAgrees (calls_for (make (operand p d) (operand p e))) (calls_for (make (operand you d) (operand you e)))
  by-operands make d e same more ready = (ap₂ (λ x y. calls_for (make x y)) (operand-same d same) (operand-same e more), ready)

  perform-agrees : (i : Instruction) → slice_get p.program (p.line - 1) ≡ Some i → NextAgrees (perform p i) (perform you i)
  unfolding perform
  perform-agrees (Line.Set r n) at = (set rs r n, bs, refl, stored (Line.Set r n) at r n next_line (λ v. refl))
  perform-agrees (Line.Add r n) at =
      let same : register you r ≡ register p r = read (Line.Add r n) at (register_variable r) (eq-eqb r r refl) in
      (set rs r (clamp (register p r +ℤ n)), bs, ap (λ x. inside (at_next_line (with_register you r (clamp (x +ℤ n))))) same, stored (Line.Add r n) at r (clamp (register p r +ℤ n)) next_line (λ v. refl))
  perform-agrees (Line.Put bytes) at = (
    rs,
    bytes ++ drop (length bytes) bs,
    refl,
    record {
      registers_count = agree.registers_count;
      buffer_length = front-length bytes bs p.buffer agree.buffer_length;
      values = by;
    },
  )
    where
      of : (k : ℕ) → value_in rs bs (byte_variable k) ≡ value_in p.registers p.buffer (byte_variable k) → get_or bs k 0 ≡ get_or p.buffer k 0
      of k both = cc both

      by : (v : Variable) → is_live p.program (line_after p.program p.line) v → value_in rs (bytes ++ drop (length bytes) bs) v ≡ value_in p.registers (bytes ++ drop (length bytes) p.buffer) v
      by (register_variable q) live = unset (Line.Put bytes) at (line_after p.program p.line) next_line (register_variable q) refl live
      by (byte_variable k) live = ap pos (front-agree bytes bs p.buffer k (λ above. of k (unset (Line.Put bytes) at (line_after p.program p.line) next_line (byte_variable k) above live)))
  perform-agrees (Line.Peek r k) at =
      let same : get_or bs k 0 ≡ get_or p.buffer k 0 = let both = read (Line.Peek r k) at (byte_variable k) (eq-eqb k k refl) in cc both in
      (set rs r (pos (get_or p.buffer k 0)), bs, ap (λ x. inside (at_next_line (with_register you r (pos x)))) same, stored (Line.Peek r k) at r (pos (get_or p.buffer k 0)) next_line (λ v. refl))
  perform-agrees (Line.Jump line) at = (rs, bs, refl, moved (Line.Jump line) at line (or_left (line == line) false (eq-eqb line line refl)) (λ v. refl))
  perform-agrees (Line.JumpIfZero r line) at =
      jumps-by is_zero r line (Line.JumpIfZero r line) at (λ v. refl) (λ v. refl) (or_left (line == line) _ (eq-eqb line line refl)) (or_right (line == line_after p.program p.line) _ next_line)
  perform-agrees (Line.JumpIfNotZero r line) at =
      jumps-by (λ n. not (is_zero n)) r line (Line.JumpIfNotZero r line) at (λ v. refl) (λ v. refl) (or_left (line == line) _ (eq-eqb line line refl)) (or_right (line == line_after p.program p.line) _ next_line)
  perform-agrees (Line.JumpIfNegative r line) at =
      jumps-by is_negative r line (Line.JumpIfNegative r line) at (λ v. refl) (λ v. refl) (or_left (line == line) _ (eq-eqb line line refl)) (or_right (line == line_after p.program p.line) _ next_line)
  perform-agrees (Line.Exit code) at = by-operand TheCall.Exit code (Line.Exit code) (λ v is. read (Line.Exit code) at v is) (λ x. tt)
  perform-agrees (Line.Close d) at = by-operand TheCall.Close d (Line.Close d) (λ v is. read (Line.Close d) at v is) (λ x. waits (Line.Close d) at next_line (λ v. refl))
  perform-agrees (Line.Dup d) at = by-operand TheCall.Dup d (Line.Dup d) (λ v is. read (Line.Dup d) at v is) (λ x. waits (Line.Dup d) at next_line (λ v. refl))
  perform-agrees (Line.Fstat d) at = by-operand TheCall.Fstat d (Line.Fstat d) (λ v is. read (Line.Fstat d) at v is) (λ x. waits (Line.Fstat d) at next_line (λ v. refl))
  perform-agrees (Line.Getdents d) at = by-operand TheCall.Getdents d (Line.Getdents d) (λ v is. read (Line.Getdents d) at v is) (λ x. waits (Line.Getdents d) at next_line (λ v. refl))
  perform-agrees (Line.Fchdir d) at = by-operand TheCall.Fchdir d (Line.Fchdir d) (λ v is. read (Line.Fchdir d) at v is) (λ x. waits (Line.Fchdir d) at next_line (λ v. refl))
  perform-agrees (Line.Dup2 d e) at =
      by-operands TheCall.Dup2 d e (λ v is. read (Line.Dup2 d e) at v (or_left (operand_reads d v) _ is)) (λ v is. read (Line.Dup2 d e) at v (or_right (operand_reads d v) _ is)) (waits (Line.Dup2 d e) at next_line (λ v. refl))
  perform-agrees (Line.Read d n) at =
      by-operands TheCall.Read d n (λ v is. read (Line.Read d n) at v (or_left (operand_reads d v) _ is)) (λ v is. read (Line.Read d n) at v (or_right (operand_reads d v) _ is)) (waits (Line.Read d n) at next_line (λ v. refl))
  perform-agrees (Line.Write d n) at =
      by-operands TheCall.Write d n (λ v is. read (Line.Write d n) at v (or_left (operand_reads d v || operand_reads n v) _ (or_left (operand_reads d v) _ is)))
      (λ v is. read (Line.Write d n) at v (or_left (operand_reads d v || operand_reads n v) _ (or_right (operand_reads d v) _ is)))
      (waits (Line.Write d n) at next_line (λ v. refl), written-same n (λ v is. read (Line.Write d n) at v (or_right (operand_reads d v || operand_reads n v) _ is)))
  perform-agrees (Line.Ftruncate d n) at =
      by-operands TheCall.Ftruncate d n (λ v is. read (Line.Ftruncate d n) at v (or_left (operand_reads d v) _ is)) (λ v is. read (Line.Ftruncate d n) at v (or_right (operand_reads d v) _ is))
      (waits (Line.Ftruncate d n) at next_line (λ v. refl))
  perform-agrees (Line.Lseek d by whence) at =
      by-operands (λ x y. TheCall.Lseek x y whence) d by (λ v is. read (Line.Lseek d by whence) at v (or_left (operand_reads d v) _ is)) (λ v is. read (Line.Lseek d by whence) at v (or_right (operand_reads d v) _ is))
      (waits (Line.Lseek d by whence) at next_line (λ v. refl))
  perform-agrees (Line.OpenAt origin path flags) at =
      (ap (λ start. calls_for (TheCall.OpenAt start path flags)) (origin-same origin (λ v is. read (Line.OpenAt origin path flags) at v is)), waits (Line.OpenAt origin path flags) at next_line (λ v. refl))
  perform-agrees i at = (refl, waits i at next_line (λ v. refl))

  pub next-agrees : NextAgrees (next p) (next you)
  next-agrees = by (slice_get p.program (p.line - 1)) refl
    where
      by : (o : Option Instruction) → slice_get p.program (p.line - 1) ≡ o → NextAgrees (next_by p o) (next_by you o)
      by None at = (refl, tt)
      by (Some i) at = perform-agrees i at
