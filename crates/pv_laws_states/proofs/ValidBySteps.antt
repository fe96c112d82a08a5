-- Each call, step and run preserves validity, and the first state is valid.
use Rattle.std.proofs.Common.{◌≡◌, ℕ, zero, suc, ◌-◌, ℤ, pos, negsuc, ◌+ℤ◌, Bool, true, false, cond, not, ◌==◌, nat_le, nat_lt, List, [], ◌∷◌, length, replicate, slice_get, slice_index, slice_index_or, Option, None, Some, refl, ap, ap₂, sym, subst, ◌∙◌, arith}
use Rattle.std.specs.List.{list_all}
use Rattle.std.specs.Ordering.{nat_cmp}
use Rattle.std.specs.FinMap.Entries.{find}
use Rattle.std.proofs.Math.ListN.{length-set}
use Rattle.std.proofs.lemmas.List.{length-replicate}
use Rattle.std.proofs.lemmas.Bool.{and_parts, and_from, le-leb, leb-true, ltb-false, ltb-true}
use Rattle.pv_model.specs.declared.call.Call.{Call}
use Rattle.pv_model.specs.declared.call.Call.TheVariants.{Exit, GetPid, GetPpid, Fork, Wait, Pledge, Unveil, Execve, Open, OpenAt, Close, Dup, Dup2, Read, Write, Lseek, Fstat, Ftruncate, Getdents, Fchdir, Chdir, Stat, Lstat, Readlink, Mkdir, Symlink, Link, Unlink, Rmdir, Rename}
use Rattle.pv_model.specs.declared.follow.Follow.TheVariants.{Last, Keep}
use Rattle.pv_model.specs.declared.instruction.Instruction.{Instruction}
use Rattle.pv_model.specs.declared.instruction.Instruction.TheVariants as Line
use Rattle.pv_model.specs.declared.instruction.Operand.{Operand}
use Rattle.pv_model.specs.declared.instruction.Operand.TheVariants.{Number, Register}
use Rattle.pv_model.specs.declared.instruction.Origin.{Origin}
use Rattle.pv_model.specs.declared.instruction.Origin.TheVariants.{WorkingDirectory as HereOrigin, Descriptor as OfDescriptor}
use Rattle.pv_model.specs.Machine.{answer, effect, at_next_line, with_front, Bytes, among, collect, at_number, keep, jump_if, Next, inside, calls_for, perform, next_by, next, OpenFile, Program, Process, ProcessRecord, live, ended_record, State, first_process, first_state, process_at, step, step_of, step_by, run, Tree}
use Rattle.pv_model.specs.Program.{register, with_register, operand, clamp, start_of_origin, at_line}
use Rattle.pv_laws_states.specs.Held.{used}
use Rattle.pv_laws_states.specs.States.{is_word, is_byte, are_bytes, is_text, is_text_byte, is_text_or_none, is_operand, is_origin, is_target_line, is_instruction, is_program_in_bounds, EncodesPrograms, is_start, is_call, IsRunning, IsPlaced, IsValid, IsFirstTree}
use Rattle.pv_laws_states.proofs.AttemptValues.{Leads}
use Rattle.pv_laws_states.proofs.ValidByFile.{good-lseek, good-read, good-getdents}
use Rattle.pv_laws_states.proofs.ValidByOpen.{good-open, good-open_at}
use Rattle.pv_laws_states.proofs.ValidByProcess.{good-exit, good-getpid, good-getppid, good-pledge, good-unveil, good-execve, good-chdir, good-stat, good-readlink, good-fstat, good-fchdir, good-close, good-dup, good-dup2}
use Rattle.pv_laws_states.proofs.ValidByTable.{good-fork, good-wait}
use Rattle.pv_laws_states.proofs.ValidByTree.{good-mkdir, good-symlink, good-link, good-unlink, good-rmdir, good-rename, good-write, good-ftruncate}
use Rattle.pv_laws_states.proofs.ReferenceMembers.{find_number_cases, live-found}
use Rattle.pv_laws_trees.proofs.NumberedMaps.{keep-all}
use Rattle.pv_laws_trees.proofs.WalkPlaces.{list_all-weaker}
use Rattle.pv_laws_states.proofs.ValidReplies.{IsEffect, valid-answer}
use Rattle.pv_laws_states.proofs.ProcessInsides.{running-front, running-next, list_all-set, list_all-replicate, SameHolds, valid-inside}
use Rattle.pv_laws_states.proofs.ChangedStates.{text-bytes}
use Rattle.pv_laws_trees.proofs.Collection.{preserved_all}
use Rattle.pv_laws_states.proofs.CollectedStates.{held_after}

-- ---- calls

module _ (program_of : Bytes → Option Program) (encodes : EncodesPrograms program_of) where
  pub good-effect : (s : State) (pid : ℕ) (me : Process) (call : Call) → IsValid s → process_at s pid ≡ Some me → is_call call ≡ true → Leads (IsEffect s) (effect program_of s pid me call)
  unfolding effect
  good-effect s pid me (Exit code) whole at is = good-exit s pid me whole at code
  good-effect s pid me GetPid whole at is = good-getpid s pid me whole at
  good-effect s pid me GetPpid whole at is = good-getppid s pid me whole at
  good-effect s pid me Fork whole at is = good-fork s pid me whole at
  good-effect s pid me Wait whole at is = good-wait s pid me whole at
  good-effect s pid me (Pledge promises execpromises) whole at is = good-pledge s pid me whole at promises execpromises
  good-effect s pid me (Unveil path permissions) whole at is = good-unveil s pid me whole at path permissions (and_parts (is_text_or_none path) (is_text_or_none permissions) is).0
  good-effect s pid me (Execve path) whole at is = good-execve s pid me whole at program_of encodes path
  good-effect s pid me (Open path flags) whole at is = good-open s pid me whole at path flags is
  good-effect s pid me (OpenAt start path flags) whole at is = good-open_at s pid me whole at start path flags (and_parts (is_start start) (is_text path) is).1
  good-effect s pid me (Close d) whole at is = good-close s pid me whole at d
  good-effect s pid me (Dup d) whole at is = good-dup s pid me whole at d
  good-effect s pid me (Dup2 d e) whole at is = good-dup2 s pid me whole at d e
  good-effect s pid me (Read d n) whole at is = good-read s pid me whole d n
  good-effect s pid me (Write d n) whole at is = good-write s pid me whole at d n
  good-effect s pid me (Lseek d by whence) whole at is = good-lseek s pid me whole d by whence
  good-effect s pid me (Fstat d) whole at is = good-fstat s pid me whole at d
  good-effect s pid me (Ftruncate d n) whole at is = good-ftruncate s pid me whole at d n
  good-effect s pid me (Getdents d) whole at is = good-getdents s pid me whole d
  good-effect s pid me (Fchdir d) whole at is = good-fchdir s pid me whole at d
  good-effect s pid me (Chdir path) whole at is = good-chdir s pid me whole at path
  good-effect s pid me (Stat path) whole at is = good-stat s pid me whole at Last path
  good-effect s pid me (Lstat path) whole at is = good-stat s pid me whole at Keep path
  good-effect s pid me (Readlink path) whole at is = good-readlink s pid me whole at path
  good-effect s pid me (Mkdir path) whole at is = good-mkdir s pid me whole at path is
  good-effect s pid me (Symlink text path) whole at is = let both = and_parts (is_text text) (is_text path) is in good-symlink s pid me whole at text path both.0 both.1
  good-effect s pid me (Link path new) whole at is = let both = and_parts (is_text path) (is_text new) is in good-link s pid me whole at path new both.0 both.1
  good-effect s pid me (Unlink path) whole at is = good-unlink s pid me whole at path is
  good-effect s pid me (Rmdir path) whole at is = good-rmdir s pid me whole at path is
  good-effect s pid me (Rename path new) whole at is = let both = and_parts (is_text path) (is_text new) is in good-rename s pid me whole at path new both.0 both.1

pub call-keeps_valid : (program_of : Bytes → Option Program) → EncodesPrograms program_of → (s : State) (pid : ℕ) (call : Call) → is_call call ≡ true → IsValid s → IsValid (answer program_of s pid call).after
call-keeps_valid program_of encodes s pid call is whole =
    valid-answer program_of s pid call whole (λ x me w at. good-effect program_of encodes x pid me call w at is)

-- ---- instructions

-- the next step of a valid process is valid
abbrev pub IsGoodNext : Process → Next → Type 0
IsGoodNext p (inside q) = IsRunning q × SameHolds p q
IsGoodNext p (calls_for call) = is_call call ≡ true

word_at : (xs : List ℤ) (r : ℕ) → list_all is_word xs ≡ true → is_word (slice_index_or xs r (pos 0)) ≡ true
word_at [] r all = refl
word_at (x ∷ xs) zero all = (and_parts (is_word x) _ all).0
word_at (x ∷ xs) (suc r) all = word_at xs r (and_parts (is_word x) (list_all is_word xs) all).1

byte_at : (xs : Bytes) (k : ℕ) → are_bytes xs ≡ true → is_word (pos (slice_index xs k)) ≡ true
byte_at [] k all = refl
byte_at (x ∷ xs) zero all = le-leb x 2147483647 (omega (arith, ltb-true x 256 (and_parts (is_byte x) _ all).0))
byte_at (x ∷ xs) (suc k) all = byte_at xs k (and_parts (is_byte x) (are_bytes xs) all).1

pub word-operand : (p : Process) → IsRunning p → (o : Operand) → is_operand o ≡ true → is_word (operand p o) ≡ true
word-operand p is (Number n) good = good
word-operand p is (Register r) good = word_at p.registers r is.registers.1

pub word-clamp : (n : ℤ) → is_word (clamp n) ≡ true
word-clamp (pos n) =
    elim (nat_lt 2147483647 n) as (λ b. nat_lt 2147483647 n ≡ b → is_word (cond b (pos 2147483647) (pos n)) ≡ true) [
      | true ↦ λ far. refl
      | false ↦ λ near. le-leb n 2147483647 (ltb-false 2147483647 n near)
    ] refl
word-clamp (negsuc n) =
    elim (nat_lt 2147483647 n) as (λ b. nat_lt 2147483647 n ≡ b → is_word (cond b (negsuc 2147483647) (negsuc n)) ≡ true) [
      | true ↦ λ far. refl
      | false ↦ λ near. le-leb n 2147483647 (ltb-false 2147483647 n near)
    ] refl

same_inside : (p q : Process) → q.directory ≡ p.directory → q.table ≡ p.table → q.descriptors ≡ p.descriptors → q.parent ≡ p.parent → SameHolds p q
same_inside p q directory table descriptors parent = record { directory = directory; table = table; descriptors = descriptors; parent = parent }

running-register : (p : Process) (r : ℕ) (n : ℤ) → is_word n ≡ true → IsRunning p → IsRunning (with_register p r n)
running-register p r n good is = record {
  program = is.program;
  line = is.line;
  registers = (length-set p.registers r n ∙ is.registers.0, list_all-set is_word p.registers r n good is.registers.1);
  buffer = is.buffer;
}

running-line : (p : Process) (line : ℕ) → is_target_line (length p.program) line ≡ true → IsRunning p → IsRunning (at_line p line)
running-line p line good is =
    let parts = and_parts (nat_le 1 line) (nat_le line (length p.program)) good in
    record {
      program = is.program;
      line = (leb-true 1 line parts.0, omega (arith, leb-true line (length p.program) parts.1));
      registers = is.registers;
      buffer = is.buffer;
    }

good-jump : (b : Bool) (p : Process) (line : ℕ) → is_target_line (length p.program) line ≡ true → IsRunning p → IsRunning (jump_if b p line) × SameHolds p (jump_if b p line)
good-jump true p line good is = (running-line p line good is, same_inside p (at_line p line) refl refl refl refl)
good-jump false p line good is = (running-next p is, same_inside p (at_next_line p) refl refl refl refl)

good-register : (p : Process) (r : ℕ) (n : ℤ) → is_word n ≡ true → IsRunning p → IsRunning (at_next_line (with_register p r n)) × SameHolds p (at_next_line (with_register p r n))
good-register p r n good is = (running-next (with_register p r n) (running-register p r n good is), same_inside p (at_next_line (with_register p r n)) refl refl refl refl)

good-start : (p : Process) → IsRunning p → (o : Origin) → is_origin o ≡ true → is_start (start_of_origin p o) ≡ true
good-start p is HereOrigin good = refl
good-start p is (OfDescriptor d) good = word-operand p is d good

good-perform : (p : Process) → IsRunning p → (i : Instruction) → is_instruction (length p.program) i ≡ true → IsGoodNext p (perform p i)
unfolding perform
good-perform p is (Line.Set r n) good = good-register p r n (and_parts (nat_lt r 8) (is_word n) good).1 is
good-perform p is (Line.Add r n) good = good-register p r (clamp (register p r +ℤ n)) (word-clamp (register p r +ℤ n)) is
good-perform p is (Line.Put bytes) good = (
  running-next (with_front bytes p)
      (running-front p bytes (omega (arith, leb-true (length bytes) 1100 (and_parts (nat_le (length bytes) 1100) _ good).0))
      (list_all-weaker is_text_byte is_byte (λ b g. (and_parts (not (b == 0)) (is_byte b) g).1) bytes (text-bytes bytes good)) is),
  same_inside p (at_next_line (with_front bytes p)) refl refl refl refl,
)
good-perform p is (Line.Peek r k) good = good-register p r (pos (slice_index p.buffer k)) (byte_at p.buffer k is.buffer.1) is
good-perform p is (Line.Jump line) good = (running-line p line good is, same_inside p (at_line p line) refl refl refl refl)
good-perform p is (Line.JumpIfZero r line) good = good-jump _ p line (and_parts (nat_lt r 8) (is_target_line (length p.program) line) good).1 is
good-perform p is (Line.JumpIfNotZero r line) good = good-jump _ p line (and_parts (nat_lt r 8) (is_target_line (length p.program) line) good).1 is
good-perform p is (Line.JumpIfNegative r line) good = good-jump _ p line (and_parts (nat_lt r 8) (is_target_line (length p.program) line) good).1 is
good-perform p is Line.Fork good = refl
good-perform p is Line.Wait good = refl
good-perform p is Line.GetPid good = refl
good-perform p is Line.GetPpid good = refl
good-perform p is (Line.Exit code) good = word-operand p is code good
good-perform p is (Line.Close d) good = word-operand p is d good
good-perform p is (Line.Dup d) good = word-operand p is d good
good-perform p is (Line.Fstat d) good = word-operand p is d good
good-perform p is (Line.Getdents d) good = word-operand p is d good
good-perform p is (Line.Fchdir d) good = word-operand p is d good
good-perform p is (Line.Dup2 d e) good = let g = and_parts (is_operand d) (is_operand e) good in and_from _ _ (word-operand p is d g.0) (word-operand p is e g.1)
good-perform p is (Line.Read d n) good = let g = and_parts (is_operand d) (is_operand n) good in and_from _ _ (word-operand p is d g.0) (word-operand p is n g.1)
good-perform p is (Line.Write d n) good = let g = and_parts (is_operand d) (is_operand n) good in and_from _ _ (word-operand p is d g.0) (word-operand p is n g.1)
good-perform p is (Line.Ftruncate d n) good = let g = and_parts (is_operand d) (is_operand n) good in and_from _ _ (word-operand p is d g.0) (word-operand p is n g.1)
good-perform p is (Line.Lseek d by whence) good = let g = and_parts (is_operand d) (is_operand by) good in and_from _ _ (word-operand p is d g.0) (word-operand p is by g.1)
good-perform p is (Line.Pledge promises execpromises) good = good
good-perform p is (Line.Unveil path permissions) good = good
good-perform p is (Line.Execve path) good = good
good-perform p is (Line.Chdir path) good = good
good-perform p is (Line.Stat path) good = good
good-perform p is (Line.Lstat path) good = good
good-perform p is (Line.Readlink path) good = good
good-perform p is (Line.Unlink path) good = good
good-perform p is (Line.Mkdir path) good = good
good-perform p is (Line.Rmdir path) good = good
good-perform p is (Line.Open path flags) good = good
good-perform p is (Line.OpenAt origin path flags) good = let g = and_parts (is_origin origin) (is_text path) good in and_from _ _ (good-start p is origin g.0) g.1
good-perform p is (Line.Rename path new) good = good
good-perform p is (Line.Link path new) good = good
good-perform p is (Line.Symlink text path) good = good

line_at : (test : Instruction → Bool) (ls : Program) (k : ℕ) (i : Instruction) → list_all test ls ≡ true → slice_get ls k ≡ Some i → test i ≡ true
line_at test [] k i all is = cc
line_at test (x ∷ xs) zero i all is = let same : x ≡ i = cc is in ap test (sym same) ∙ (and_parts (test x) _ all).0
line_at test (x ∷ xs) (suc k) i all is = line_at test xs k i (and_parts (test x) (list_all test xs) all).1 is

pub good-next : (p : Process) → IsRunning p → IsGoodNext p (next p)
good-next p is = by (slice_get p.program (p.line - 1)) refl
  where
    by : (o : Option Instruction) → slice_get p.program (p.line - 1) ≡ o → IsGoodNext p (next_by p o)
    by None none = refl
    by (Some i) there =
        good-perform p is i (line_at (is_instruction (length p.program)) p.program (p.line - 1) i (and_parts (nat_le (length p.program) 256) _ is.program).1 there)

-- ---- steps and runs

pub step-keeps_valid : (program_of : Bytes → Option Program) → EncodesPrograms program_of → (s : State) (pid : ℕ) → IsValid s → IsValid (step program_of s pid).after
unfolding step
step-keeps_valid program_of encodes s pid whole = at_process (process_at s pid) refl
  where
    by : (p : Process) → process_at s pid ≡ Some p → (n : Next) → IsGoodNext p n → IsValid (step_by program_of s pid p n).after
    by p at (inside q) good = valid-inside s pid p q whole at good.1 good.0
    by p at (calls_for call) good = call-keeps_valid program_of encodes s pid call good whole

    at_process : (o : Option Process) → process_at s pid ≡ o → IsValid (step_of program_of s pid o).after
    at_process None none = whole
    at_process (Some p) at = by p at (next p) (good-next p (whole.processes.running pid p at))

pub run-keeps_valid : (program_of : Bytes → Option Program) → EncodesPrograms program_of → (pids : List ℕ) (s : State) → IsValid s → IsValid (run program_of pids s).final
run-keeps_valid program_of encodes [] s whole = whole
run-keeps_valid program_of encodes (pid ∷ pids) s whole = run-keeps_valid program_of encodes pids (step program_of s pid).after (step-keeps_valid program_of encodes s pid whole)

-- ---- the first state

nothing_at : {X : Type 0} (n k : ℕ) → at_number {X = X} (replicate n None) k ≡ None
nothing_at zero k = refl
nothing_at (suc n) zero = refl
nothing_at (suc n) (suc k) = nothing_at n k

first_at : (t : Tree) (program : Program) (k : ℕ) (r : ProcessRecord) → find nat_cmp k (first_state t program).processes ≡ Some r → (k ≡ 1) × (r ≡ live (first_process program))
first_at t program k r is = find_number_cases ((k ≡ 1) × (r ≡ live (first_process program))) k r (1, live (first_process program)) [] is (λ same value. (same, sym value)) (λ none. cc)

first_process_at : (t : Tree) (program : Program) (k : ℕ) (p : Process) → process_at (first_state t program) k ≡ Some p → p ≡ first_process program
first_process_at t program k p is = let found = first_at t program k (live p) (live-found (first_state t program) k p is) in cc (found.1)

pub first-valid : (t : Tree) (program : Program) → IsFirstTree t → is_program_in_bounds program ≡ true → IsValid (first_state t program)
unfolding collect
first-valid t program first good =
    let s : State = first_state t program in
    let none : (k : ℕ) → at_number s.files k ≡ None = nothing_at 128 in
    let running : IsRunning (first_process program) = record {
      program = good;
      line = (omega arith, omega arith);
      registers = (refl, refl);
      buffer = (length-replicate {A = ℕ} 4096 0, list_all-replicate is_byte 4096 0 refl);
    } in
    let placed : IsPlaced t s.files (first_process program) = record {
      directory = first.tree.well_formed.root_is_directory;
      descriptors = refl;
      opens = λ d x is. let nothing : at_number (first_process program).descriptors d ≡ None = nothing_at 16 d in cc;
      table = refl;
    } in
    let files : keep (among (used s)) s.files ≡ s.files = keep-all (among (used s)) s.files (λ k x is. let empty = none k in cc) in
    record {
      tree = first.tree;
      files = record { count = length-replicate {A = Option OpenFile} 128 None; each = λ k f is. let empty = none k in cc };
      processes = record {
        ascending = refl;
        numbers = refl;
        count = omega arith;
        last = (omega arith, omega arith);
        running = λ k p is. subst IsRunning (sym (first_process_at t program k p is)) running;
        placed = λ k p is. subst (IsPlaced t s.files) (sym (first_process_at t program k p is)) placed;
        first = λ p is. ap (λ (x : Process). x.parent) (first_process_at t program 1 p is);
        parents = λ k r is has. absurd (has (ap Rattle.pv_model.specs.Calls.Processes.parent_of (first_at t program k r is).1));
        ended = λ k parent status is. cc ((first_at t program k (ended_record parent status) is).1);
      };
      collected = ap₂ (λ u fs. record s { tree = u; files = fs }) (preserved_all t (held_after s) first.named) files;
      fits = first.fits;
      not_too_long = first.not_too_long;
    }
