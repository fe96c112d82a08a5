-- The data that the text of a step shows: whether the process is live, and whether its call is one of pledge or unveil.
use Rattle.std.proofs.Common.{◌≡◌, ◌∙◌, ap, ℕ, zero, suc, Bool, true, not, ◌||◌, ◌==◌, take, drop, codes, bytes_eq, [], ◌∷◌, ◌++◌, length, append_assoc, slice_get, Option, None, Some, is_some, refl}
use Rattle.std.specs.Fmt.{decimal}
use Rattle.std.proofs.Math.Seq.{drop-append_seam}
use Rattle.pv_model.specs.declared.call.Call.{Call}
use Rattle.pv_model.specs.declared.call.Call.TheVariants.{Exit, GetPid, GetPpid, Fork, Wait, Pledge, Unveil, Execve, Open, OpenAt, Close, Dup, Dup2, Read, Write, Lseek, Fstat, Ftruncate, Getdents, Fchdir, Chdir, Stat, Lstat, Readlink, Mkdir, Symlink, Link, Unlink, Rmdir, Rename}
use Rattle.pv_model.specs.Answers.Compare.{is_restraint, restrains}
use Rattle.pv_model.specs.Machine.{is_unveil, Bytes, Next, inside, calls_for, next, Program, Process, State, process_at, step, step_of, step_by, call_lines, text_line, trace_bytes}
use Rattle.pv_model.specs.Answers.Observed.{is_pledge}
use Rattle.pv_model.specs.Trace.{pad_left, pad_right, call_text, call_line}
use Rattle.pv_laws_answers.specs.Search.{text_of_step}

-- the rest of a step's text after the process number
abbrev pub after_number : ℕ → Bytes → Bytes
after_number pid text = drop (length (pad_left 5 (decimal pid))) text

abbrev pub is_not_gone : Option ℕ → Bool
is_not_gone None = true
is_not_gone (Some code) = not (code == 71)

-- whether a text is not that of a process that is not live
abbrev pub shows_live : Bytes → Bool
shows_live text = is_not_gone (slice_get text 1)

-- whether a text begins with a call of pledge or unveil
abbrev pub shows_restraint : Bytes → Bool
shows_restraint text = bytes_eq (take 7 (drop 7 text)) (codes "pledge(") || bytes_eq (take 7 (drop 7 text)) (codes "unveil(")

-- a line after its process number, with further bytes
abbrev after_words : Bytes → Bytes → Bytes → Bytes
after_words word text rest = codes " " ++ (pad_right 4 word ++ (codes "  " ++ (text ++ 10 ∷ rest)))

call-shown : (call : Call) (rest : Bytes) → shows_restraint (after_words (codes "CALL") (call_line call) rest) ≡ (is_pledge call || is_unveil call)
unfolding call_text
call-shown (Exit code) rest = refl
call-shown GetPid rest = refl
call-shown GetPpid rest = refl
call-shown Fork rest = refl
call-shown Wait rest = refl
call-shown (Pledge promises execpromises) rest = refl
call-shown (Unveil path permissions) rest = refl
call-shown (Execve path) rest = refl
call-shown (Open path flags) rest = refl
call-shown (OpenAt start path flags) rest = refl
call-shown (Close d) rest = refl
call-shown (Dup d) rest = refl
call-shown (Dup2 d e) rest = refl
call-shown (Read d n) rest = refl
call-shown (Write d n) rest = refl
call-shown (Lseek d by whence) rest = refl
call-shown (Fstat d) rest = refl
call-shown (Ftruncate d n) rest = refl
call-shown (Getdents d) rest = refl
call-shown (Fchdir d) rest = refl
call-shown (Chdir path) rest = refl
call-shown (Stat path) rest = refl
call-shown (Lstat path) rest = refl
call-shown (Readlink path) rest = refl
call-shown (Mkdir path) rest = refl
call-shown (Symlink text path) rest = refl
call-shown (Link path new) rest = refl
call-shown (Unlink path) rest = refl
call-shown (Rmdir path) rest = refl
call-shown (Rename path new) rest = refl

drop-none : (n : ℕ) → ◌≡◌ {A = Bytes} (drop n []) []
drop-none zero = refl
drop-none (suc n) = refl

parts : (pre a b c d e rest : Bytes) → (pre ++ a ++ b ++ c ++ d ++ e) ++ rest ≡ pre ++ (a ++ (b ++ (c ++ (d ++ (e ++ rest)))))
parts pre a b c d e rest = simp append_assoc refl

line-shown : (pid : ℕ) (word text rest : Bytes) → after_number pid (text_line pid word text ++ rest) ≡ after_words word text rest
unfolding text_line
line-shown pid word text rest =
    ap (after_number pid) (parts (pad_left 5 (decimal pid)) (codes " ") (pad_right 4 word) (codes "  ") text (10 ∷ []) rest)
    ∙ drop-append_seam (pad_left 5 (decimal pid)) (after_words word text rest)

module _ (program_of : Bytes → Option Program) (s : State) (pid : ℕ) where
  pub record Shows (o : Option Process) (text : Bytes) : Type 0 where
    pub live : shows_live (after_number pid text) ≡ is_some o
    pub restraint : shows_restraint (after_number pid text) ≡ is_restraint o

  -- the text of a step, after the process number
  from : (o : Option Process) (text tail : Bytes) → after_number pid text ≡ tail → shows_live tail ≡ is_some o → shows_restraint tail ≡ is_restraint o → Shows o text
  from o text tail is live restraint = record { live = ap shows_live is ∙ live; restraint = ap shows_restraint is ∙ restraint }

  of-next : (p : Process) (n : Next) → restrains n ≡ is_restraint (Some p) → Shows (Some p) (trace_bytes (step_by program_of s pid p n).lines)
  unfolding call_lines
  of-next p (inside q) same = from (Some p) [] [] (drop-none (length (pad_left 5 (decimal pid)))) refl same
  of-next p (calls_for call) same = from (Some p) _ _ (line-shown pid (codes "CALL") (call_line call) _) refl (call-shown call _ ∙ same)

  of-process : (o : Option Process) → Shows o (trace_bytes (step_of program_of s pid o).lines)
  of-process None = from None _ _ (line-shown pid (codes "GONE") (codes "no such process") []) refl refl
  of-process (Some p) = of-next p (next p) refl

  pub step-shows : Shows (process_at s pid) (text_of_step program_of s pid)
  unfolding step
  step-shows = of-process (process_at s pid)
