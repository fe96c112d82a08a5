-- The state after a system call: its process stays live, and names stay if no path is walked.
use Rattle.std.proofs.Common.{rules, ◌≤◌, w32, to_z, of_z, ◌≡◌, ◌∙◌, ℕ, zero, suc, ℤ, pos, negsuc, ◌+ℤ◌, true, false, not, ◌||◌, if◌then◌else◌, nat_le, nat_lt, ◌+◌, length, take, drop, List, [], ◌∷◌, Option, None, Some, Result, Ok, Err, refl, ap, sym, subst}
use Rattle.std.specs.Prelude.{IsSome, OnErr}
use Rattle.std.proofs.lemmas.Bool.{leb-true}
use Rattle.std.proofs.lemmas.Int.{to_z-of_z}
use Rattle.pv_calls_path.specs.OfCallsPlain.declared.answer.Answer.{Answer}
use Rattle.pv_calls_path.specs.OfCallsPlain.declared.answer.Done.{Done}
use Rattle.pv_calls_path.specs.OfCallsPlain.declared.answer.Refused.{Refused}
use Rattle.pv_audit.specs.OfCallsState.Attempts.{collected_attempt}
use Rattle.pv_calls_path.specs.OfCallsPlain.Performed.{IsAnswered, IsPerformed, attempt_of, answered}
use Rattle.pv_audit.proofs.OfCallsState.UncountedChanges.{some-at}
use Rattle.pv_calls_path.proofs.OfCallsPlain.WaitAnswers.{value_of}
use Rattle.pv_calls.proofs.CallAnswers.{find-collect}
use Rattle.pv_calls_path.proofs.OfCallsPlain.ReportedCollections.{process_at-collect}
use Rattle.pv_laws_states.specs.States.{IsValid, is_word}
use Rattle.pv_laws_states.proofs.AttemptValues.{Leads, leads-bind, leads-then, leads-demand, leads-room, leads-any}
use Rattle.pv_laws_states.proofs.ValidEnds.{tree-end}
use Rattle.pv_laws_states.proofs.Processes.{process_at-same, tree-update}
use Rattle.pv_laws_states.proofs.ValidStates.{still-live}
use Rattle.pv_model.specs.declared.call.Call.TheVariants.{Exit}
use Rattle.pv_model.specs.declared.call.Whence.{Whence}
use Rattle.pv_model.specs.declared.errno.Errno.TheVariants.{EAGAIN, EBADF, ECHILD, EFBIG, EINVAL, EISDIR, EMFILE}
use Rattle.pv_model.specs.declared.limits.TheConstants.{BUFFER, DESCRIPTORS, LAST_PROCESS, OFFSET, PROCESSES}
use Rattle.pv_model.specs.declared.outcome.Outcome.TheVariants.{Exited}
use Rattle.pv_model.specs.Machine.{Answered, answer_by_attempt, effect, update, with_front, Attempt, done, refused, ◌>>=◌, ◌>>◌, refuse_if, demand, Bytes, is_empty, close, directory_of, dup, dup2, fchdir, fstat, ftruncate, getdents, list_name, lseek, next_name, open_file_for, read, seek_base, write, after_write, is_number, is_past_greatest, natural, with_content, with_descriptor, within, without_descriptor, write_end, write_place, child, children, end_process, fork, reap, statuses, wait, with_result, asked_promises, pledge, unless_refused, Effect, returns, returns_bytes, ends, waits, answers, answers_bytes, bytes_of, descriptor_at, open_file, overwrite, resize, status, with_file, with_room, errno_number, program_of, collect, least_free, with_number, Promises, is_lenient, narrow_promises, Descriptor, OpenFile, Process, State, process_at, reads, with_process, with_tree, writes, IsWellFormed, entries_at, find_entry, is_directory_at, node_at}
use Rattle.pv_model.specs.Calls.Descriptors.{with_duplicate}
use Rattle.pv_model.specs.Calls.Processes.{exit_status}
use Rattle.pv_laws_trees.proofs.WellFormedChanges.{stays-content}
use Rattle.pv_laws_trees.proofs.LookupsAfterChanges.{alike-content}
use Rattle.pv_laws_trees.specs.Found.{AreEqualLookups}

-- ---- reports

-- the process stays live after an effect that answers a number
abbrev pub LivesOn : ℕ → Effect → Type 0
LivesOn pid (after, returns n) = IsSome (process_at after pid)
LivesOn pid (after, returns_bytes n bytes) = Unit {0}
LivesOn pid (after, ends status) = Unit {0}
LivesOn pid (after, waits) = Unit {0}

pub lives-on : (pid : ℕ) (e : Effect) → IsSome (process_at e.0 pid) → LivesOn pid e
lives-on pid (after, returns n) live = live
lives-on pid (after, returns_bytes n bytes) live = tt
lives-on pid (after, ends status) live = tt
lives-on pid (after, waits) live = tt

-- if the effect of the definitions keeps the process live, the code keeps it live
pub performed-live : (s new : State) (pid : ℕ) (performed : Result Done Refused) (a : Attempt Effect) → collected_attempt a ≡ attempt_of new performed → OnErr performed (new ≡ s) → IsSome (process_at s pid)
    → Leads (LivesOn pid) a → IsSome (process_at new pid)
performed-live s new pid (Ok d) (done walks (after, returns n)) is same live lives =
    let left : collect after ≡ new = ap (λ (x : Effect). x.0) (value_of walks d.walks (collect after, returns n) (new, returns d.value) is) in
    subst (λ x. IsSome (process_at x pid)) left (subst IsSome (sym (process_at-collect after pid)) lives)
performed-live s new pid (Ok d) (done walks (after, returns_bytes n bytes)) is same live lives =
    let reply : returns_bytes n bytes ≡ returns d.value = ap (λ (x : Effect). x.1) (value_of walks d.walks (collect after, returns_bytes n bytes) (new, returns d.value) is) in absurd cc
performed-live s new pid (Ok d) (done walks (after, ends status)) is same live lives =
    let reply : ends status ≡ returns d.value = ap (λ (x : Effect). x.1) (value_of walks d.walks (collect after, ends status) (new, returns d.value) is) in absurd cc
performed-live s new pid (Ok d) (done walks (after, waits)) is same live lives =
    let reply : waits ≡ returns d.value = ap (λ (x : Effect). x.1) (value_of walks d.walks (collect after, waits) (new, returns d.value) is) in absurd cc
performed-live s new pid (Ok d) (refused walks errno cause) is same live lives = cc
performed-live s new pid (Err r) a is same live lives = subst (λ x. IsSome (process_at x pid)) (sym same) live

-- so its result can be reported
pub reported-live : (f : State → Process → Attempt Effect) (s new : State) (pid : ℕ) (performed : Result Done Refused) → IsPerformed f s pid new performed → IsSome (process_at s pid)
    → ((me : Process) → process_at s pid ≡ Some me → Leads (LivesOn pid) (f s me)) → IsSome (process_at new pid)
reported-live f s new pid performed is live lives =
    let mine = some-at (process_at s pid) live in
    performed-live s new pid performed (f s mine.0) (is.as_defined mine.0 mine.1) is.unchanged live (lives mine.0 mine.1)

-- the end of a process
pub exited : (s new : State) (pid : ℕ) (code : ℤ) (n : ℕ) → n ≡ exit_status code → ((me : Process) → process_at s pid ≡ Some me → new ≡ collect (end_process s pid me n))
    → (before : State) (me : Process) → process_at s pid ≡ Some me → answer_by_attempt before s pid me (effect program_of s pid me (Exit code)) ≡ answered new (record { outcome = Exited; walks = 0 })
unfolding effect
exited s new pid code n is left before me at =
    ap (λ x. let a : Answered = record { after = collect (end_process s pid me x); outcome = Exited; walks = 0 } in a) (sym is)
    ∙ ap (λ x. let a : Answered = record { after = x; outcome = Exited; walks = 0 } in a) (sym (left me at))

-- a register word survives the conversion to bits and back
pub word-back : (z : ℤ) → is_word z ≡ true → to_z w32 (of_z w32 z) ≡ z
word-back (pos n) is = let low : n ≤ 2147483647 = leb-true n 2147483647 is in to_z-of_z w32 (pos n) (search rules)
word-back (negsuc n) is = let low : n ≤ 2147483647 = leb-true n 2147483647 is in to_z-of_z w32 (negsuc n) (search rules)

-- ---- names

-- an effect keeps every name
abbrev pub IsQuiet : State → Effect → Type 0
IsQuiet s e = IsWellFormed e.0.tree × AreEqualLookups (find_entry s.tree) (find_entry e.0.tree)

left-alike : (s x after new : State) → x.tree ≡ after.tree → IsWellFormed after.tree → AreEqualLookups (find_entry s.tree) (find_entry after.tree) → collect x ≡ new
    → AreEqualLookups (find_entry s.tree) (find_entry new.tree)
left-alike s x after new tree well alike is d name =
    ap (λ y. find_entry y.tree d name) (sym is) ∙ find-collect x (subst IsWellFormed (sym tree) well) d name ∙ ap (λ t. find_entry t d name) tree ∙ alike d name

quiet-answer : (s new : State) (pid : ℕ) (me : Process) (answer : Answer) (a : Attempt Effect) → Leads (IsQuiet s) a
    → answer_by_attempt s s pid me a ≡ answered new answer → AreEqualLookups (find_entry s.tree) (find_entry new.tree)
quiet-answer s new pid me answer (done walks (after, returns n)) quiet is =
    let f : Process → Process = λ p. with_result p (pos n) 0 in
    left-alike s (update after pid f) after new (tree-update after pid f) quiet.0 quiet.1 (ap (λ (x : Answered). x.after) is)
quiet-answer s new pid me answer (done walks (after, returns_bytes n bytes)) quiet is =
    let f : Process → Process = λ p. with_front bytes (with_result p (pos n) 0) in
    left-alike s (update after pid f) after new (tree-update after pid f) quiet.0 quiet.1 (ap (λ (x : Answered). x.after) is)
quiet-answer s new pid me answer (done walks (after, ends status)) quiet is =
    left-alike s (end_process after pid me status) after new (tree-end after pid me status) quiet.0 quiet.1 (ap (λ (x : Answered). x.after) is)
quiet-answer s new pid me answer (done walks (after, waits)) quiet is = λ d name. ap (λ (x : Answered). find_entry x.after.tree d name) (sym is)
quiet-answer s new pid me answer (refused walks errno cause) quiet is =
    λ d name. ap (λ (x : Answered). find_entry x.after.tree d name) (sym is) ∙ ap (λ t. find_entry t d name) (tree-update s pid (λ p. with_result p (negsuc 0) (errno_number errno)))

pub leads-weaker : {A : Type 0} (P Q : A → Type 0) (a : Attempt A) → ((x : A) → P x → Q x) → Leads P a → Leads Q a
leads-weaker P Q (done walks value) weaker is = weaker value is
leads-weaker P Q (refused walks errno cause) weaker is = tt

-- every name is kept, and the process stays live
abbrev pub Stays : State → ℕ → Effect → Type 0
Stays s pid e = IsQuiet s e × IsSome (process_at e.0 pid)

-- a performed or answered call keeps names if its effect does
module _ (f : State → Process → Attempt Effect) (s new : State) (pid : ℕ) (live : IsSome (process_at s pid)) where
  pub names-performed : (performed : Result Done Refused) → IsPerformed f s pid new performed → ((me : Process) → process_at s pid ≡ Some me → Leads (Stays s pid) (f s me))
      → AreEqualLookups (find_entry s.tree) (find_entry new.tree)
  names-performed performed is stays =
      let mine = some-at (process_at s pid) live in
      performed-quiet s new (f s mine.0) performed (is.as_defined mine.0 mine.1) is.unchanged (stays mine.0 mine.1)
    where
      performed-quiet : (s new : State) (a : Attempt Effect) (performed : Result Done Refused) → collected_attempt a ≡ attempt_of new performed → OnErr performed (new ≡ s) → Leads (Stays s pid) a
          → AreEqualLookups (find_entry s.tree) (find_entry new.tree)
      performed-quiet s new (done walks (after, reply)) (Ok d) is same stays =
          left-alike s after after new refl stays.0.0 stays.0.1 (ap (λ (x : Effect). x.0) (value_of walks d.walks (collect after, reply) (new, returns d.value) is))
      performed-quiet s new (refused walks errno cause) (Ok d) is same stays = cc
      performed-quiet s new a (Err r) is same stays = λ d name. ap (λ x. find_entry x.tree d name) same

  pub names-answered : (answer : Answer) → IsAnswered f s pid new answer → ((me : Process) → process_at s pid ≡ Some me → Leads (IsQuiet s) (f s me)) → AreEqualLookups (find_entry s.tree) (find_entry new.tree)
  names-answered answer is quiet =
      let mine = some-at (process_at s pid) live in
      quiet-answer s new pid mine.0 answer (f s mine.0) (quiet mine.0 mine.1) (is s mine.0 mine.1)

-- ---- calls without a path

module _ (s : State) (pid : ℕ) (me : Process) (whole : IsValid s) (at : process_at s pid ≡ Some me) where
  pub quiet : IsWellFormed s.tree × AreEqualLookups (find_entry s.tree) (find_entry s.tree)
  quiet = (whole.tree.well_formed, λ d name. refl)

  lives : IsSome (process_at s pid)
  lives = subst IsSome (sym at) refl

  here : (IsWellFormed s.tree × AreEqualLookups (find_entry s.tree) (find_entry s.tree)) × IsSome (process_at s pid)
  here = (quiet, lives)

  inside : (q : Process) → (IsWellFormed s.tree × AreEqualLookups (find_entry s.tree) (find_entry s.tree)) × IsSome (process_at (with_process s pid q) pid)
  inside q = (quiet, subst IsSome (sym (process_at-same s pid q)) refl)

  filled : (f : ℕ) (bytes : Bytes) → (IsWellFormed (with_content s.tree f bytes) × AreEqualLookups (find_entry s.tree) (find_entry (with_content s.tree f bytes))) × IsSome (process_at s pid)
  filled f bytes = ((stays-content s.tree whole.tree.well_formed f bytes, alike-content s.tree f bytes), lives)

  pub stays-fork : Leads (Stays s pid) (fork s pid me)
  stays-fork =
      leads-then (Stays s pid) (refuse_if EAGAIN (nat_le PROCESSES (length s.processes) || nat_lt LAST_PROCESS (suc s.last_process)))
      (answers (record (with_process s (suc s.last_process) (child s pid me)) { last_process = suc s.last_process }) (suc s.last_process))
      (quiet, still-live s (suc s.last_process) (child s pid me) pid lives)

  quiet-reap : (ss : List (ℕ × ℕ)) → Leads (IsQuiet s) (reap s pid me ss)
  quiet-reap [] = quiet
  quiet-reap ((number, status) ∷ rs) = quiet

  pub quiet-wait : Leads (IsQuiet s) (wait s pid me)
  quiet-wait = leads-then (IsQuiet s) (refuse_if ECHILD (is_empty (children s pid me))) (reap s pid me (statuses (children s pid me))) (quiet-reap (statuses (children s pid me)))

  module _ (promises execpromises : Option Bytes) where
    abbrev pledge_3 : Option Promises → Option Promises → Attempt Effect
    pledge_3 exec_asked preserved =
        unless_refused (narrow_promises (is_lenient me.promises) me.execpromises exec_asked)
        >>= (λ exec_preserved. answers (with_process s pid (record me { promises = preserved; execpromises = exec_preserved })) 0)

    abbrev pledge_2 : Option Promises → Option Promises → Attempt Effect
    pledge_2 asked exec_asked = unless_refused (narrow_promises (is_lenient me.promises) me.promises asked) >>= pledge_3 exec_asked

    abbrev pledge_1 : Option Promises → Attempt Effect
    pledge_1 asked = asked_promises execpromises >>= pledge_2 asked

    pub stays-pledge : Leads (Stays s pid) (pledge s pid me promises execpromises)
    stays-pledge =
        leads-bind (Stays s pid) (λ _. Unit {0}) (asked_promises promises) pledge_1 (leads-any (asked_promises promises)) (λ asked _.
        leads-bind (Stays s pid) (λ _. Unit {0}) (asked_promises execpromises) (pledge_2 asked) (leads-any (asked_promises execpromises)) (λ exec_asked _.
        leads-bind (Stays s pid) (λ _. Unit {0}) (unless_refused (narrow_promises (is_lenient me.promises) me.promises asked)) (pledge_3 exec_asked)
        (leads-any (unless_refused (narrow_promises (is_lenient me.promises) me.promises asked))) (λ preserved _.
        leads-bind (Stays s pid) (λ _. Unit {0}) (unless_refused (narrow_promises (is_lenient me.promises) me.execpromises exec_asked))
        (λ exec_preserved. answers (with_process s pid (record me { promises = preserved; execpromises = exec_preserved })) 0)
        (leads-any (unless_refused (narrow_promises (is_lenient me.promises) me.execpromises exec_asked))) (λ exec_preserved _. inside (record me { promises = preserved; execpromises = exec_preserved })))))

  pub stays-close : (d : ℤ) → Leads (Stays s pid) (close s pid me d)
  stays-close d =
      leads-then (Stays s pid) (demand EBADF (descriptor_at me d)) (answers (with_process s pid (record me { descriptors = without_descriptor me.descriptors d })) 0)
      (inside (record me { descriptors = without_descriptor me.descriptors d }))

  abbrev dup_1 : Descriptor → Attempt Effect
  dup_1 x = refuse_if EMFILE (nat_le DESCRIPTORS (least_free me.descriptors)) >> answers (with_descriptor s pid me s x.file false) (least_free me.descriptors)

  pub stays-dup : (d : ℤ) → Leads (Stays s pid) (dup s pid me d)
  stays-dup d =
      leads-demand (Stays s pid) EBADF (descriptor_at me d) dup_1 (λ x is.
      leads-then (Stays s pid) (refuse_if EMFILE (nat_le DESCRIPTORS (least_free me.descriptors))) (answers (with_descriptor s pid me s x.file false) (least_free me.descriptors))
      (inside (record me { descriptors = with_number me.descriptors (least_free me.descriptors) (record { file = x.file; close_on_exec = false }) })))

  abbrev dup2_2 : ℤ → Descriptor → ℕ → Attempt Effect
  dup2_2 d x number = answers (with_duplicate s pid me d number x) number

  abbrev dup2_1 : ℤ → ℤ → Descriptor → Attempt Effect
  dup2_1 d e x = demand EBADF (within 15 e) >>= dup2_2 d x

  pub stays-dup2 : (d e : ℤ) → Leads (Stays s pid) (dup2 s pid me d e)
  stays-dup2 d e =
      leads-demand (Stays s pid) EBADF (descriptor_at me d) (dup2_1 d e) (λ x is.
      leads-demand (Stays s pid) EBADF (within 15 e) (dup2_2 d x) (λ number low.
      let q : Process = record me { descriptors = with_number me.descriptors number (record x { close_on_exec = false }) } in
      elim (is_number d number) as (λ b. (Stays s pid) (if b then s else with_process s pid q, returns number)) [ true ↦ here | false ↦ inside q ]))

  abbrev lseek_3 : ℕ → OpenFile → ℕ → Attempt Effect
  lseek_3 k file offset = answers (with_file s k (record file { offset = offset })) offset

  abbrev lseek_2 : ℤ → Whence → ℕ → OpenFile → Attempt Effect
  lseek_2 by whence k file = demand EINVAL (within OFFSET (pos (seek_base s pid me file whence) +ℤ by)) >>= lseek_3 k file

  abbrev lseek_1 : ℤ → Whence → (ℕ × OpenFile) → Attempt Effect
  lseek_1 by whence (k, file) = refuse_if EINVAL (is_directory_at s.tree file.node) >> lseek_2 by whence k file

  pub stays-lseek : (d by : ℤ) (whence : Whence) → Leads (Stays s pid) (lseek s pid me d by whence)
  stays-lseek d by whence =
      leads-demand (Stays s pid) EBADF (open_file s me d) (lseek_1 by whence) (λ (k, file) is.
      leads-then (Stays s pid) (refuse_if EINVAL (is_directory_at s.tree file.node)) (lseek_2 by whence k file)
      (leads-demand (Stays s pid) EINVAL (within OFFSET (pos (seek_base s pid me file whence) +ℤ by)) (lseek_3 k file) (λ offset low. here)))

  abbrev read_bytes : ℕ → OpenFile → Bytes
  read_bytes count file = take count (drop file.offset (bytes_of (node_at s.tree file.node)))

  abbrev read_3 : ℕ → OpenFile → ℕ → Attempt Effect
  read_3 k file count = answers_bytes (with_file s k (record file { offset = file.offset + length (read_bytes count file) })) (length (read_bytes count file)) (read_bytes count file)

  abbrev read_2 : ℕ → OpenFile → ℕ → Attempt Effect
  read_2 k file count = refuse_if EISDIR (is_directory_at s.tree file.node) >> read_3 k file count

  abbrev read_1 : ℤ → (ℕ × OpenFile) → Attempt Effect
  read_1 n (k, file) = demand EINVAL (within BUFFER n) >>= read_2 k file

  pub stays-read : (d n : ℤ) → Leads (Stays s pid) (read s pid me d n)
  stays-read d n =
      leads-demand (Stays s pid) EBADF (open_file_for s pid me reads d) (read_1 n) (λ (k, file) is.
      leads-demand (Stays s pid) EINVAL (within BUFFER n) (read_2 k file) (λ count low.
      leads-then (Stays s pid) (refuse_if EISDIR (is_directory_at s.tree file.node)) (read_3 k file count) here))

  stays-list_name : (k : ℕ) (file : OpenFile) (o : Option Bytes) → Leads (Stays s pid) (list_name s pid me k file o)
  stays-list_name k file None = here
  stays-list_name k file (Some name) = here

  abbrev getdents_2 : ℕ → OpenFile → Attempt Effect
  getdents_2 k file = list_name s pid me k file (next_name file.listed (entries_at s.tree file.node))

  abbrev getdents_1 : (ℕ × OpenFile) → Attempt Effect
  getdents_1 (k, file) = refuse_if EINVAL (not (is_directory_at s.tree file.node)) >> getdents_2 k file

  pub stays-getdents : (d : ℤ) → Leads (Stays s pid) (getdents s pid me d)
  stays-getdents d =
      leads-demand (Stays s pid) EBADF (open_file s me d) getdents_1 (λ (k, file) is.
      leads-then (Stays s pid) (refuse_if EINVAL (not (is_directory_at s.tree file.node))) (getdents_2 k file) (stays-list_name k file (next_name file.listed (entries_at s.tree file.node))))

  pub stays-fstat : (d : ℤ) → Leads (Stays s pid) (fstat s pid me d)
  stays-fstat d = leads-demand (Stays s pid) EBADF (open_file s me d) (λ (k, file). answers_bytes s 0 (status s.tree file.node)) (λ f is. here)

  pub stays-fchdir : (d : ℤ) → Leads (Stays s pid) (fchdir s pid me d)
  stays-fchdir d =
      leads-bind (Stays s pid) (λ _. Unit {0}) (directory_of s pid me d) (λ directory. answers (with_process s pid (record me { directory = directory })) 0) (leads-any (directory_of s pid me d))
      (λ directory _. inside (record me { directory = directory }))

  abbrev write_3 : ℕ → OpenFile → ℕ → Attempt Effect
  write_3 k file count = with_room (after_write s pid me k file count) >>= (λ roomy. answers roomy count)

  abbrev write_2 : ℕ → OpenFile → ℕ → Attempt Effect
  write_2 k file count = refuse_if EFBIG (is_past_greatest s.tree (write_end s pid me file count)) >> write_3 k file count

  abbrev write_1 : ℤ → (ℕ × OpenFile) → Attempt Effect
  write_1 n (k, file) = demand EINVAL (within BUFFER n) >>= write_2 k file

  written : (k : ℕ) (file : OpenFile) (count : ℕ) → (Stays s pid) (after_write s pid me k file count, returns count)
  written k file zero = here
  written k file (suc n) = filled file.node (overwrite (bytes_of (node_at s.tree file.node)) (write_place s pid me file) (take (suc n) me.buffer))

  pub stays-write : (d n : ℤ) → Leads (Stays s pid) (write s pid me d n)
  stays-write d n =
      leads-demand (Stays s pid) EBADF (open_file_for s pid me writes d) (write_1 n) (λ (k, file) is.
      leads-demand (Stays s pid) EINVAL (within BUFFER n) (write_2 k file) (λ count low.
      leads-then (Stays s pid) (refuse_if EFBIG (is_past_greatest s.tree (write_end s pid me file count))) (write_3 k file count)
      (leads-room (Stays s pid) (after_write s pid me k file count) (λ roomy. answers roomy count) (λ short fit. written k file count))))

  abbrev resized : OpenFile → ℕ → State
  resized file size = with_tree s (with_content s.tree file.node (resize (bytes_of (node_at s.tree file.node)) size))

  abbrev ftruncate_4 : OpenFile → ℕ → Attempt Effect
  ftruncate_4 file size = with_room (resized file size) >>= (λ roomy. answers roomy 0)

  abbrev ftruncate_3 : OpenFile → ℕ → Attempt Effect
  ftruncate_3 file size = refuse_if EFBIG (is_past_greatest s.tree size) >> ftruncate_4 file size

  abbrev ftruncate_2 : ℤ → OpenFile → Attempt Effect
  ftruncate_2 n file = demand EINVAL (natural n) >>= ftruncate_3 file

  abbrev ftruncate_1 : ℤ → (ℕ × OpenFile) → Attempt Effect
  ftruncate_1 n (k, file) = refuse_if EINVAL (not (writes file.mode)) >> ftruncate_2 n file

  pub stays-ftruncate : (d n : ℤ) → Leads (Stays s pid) (ftruncate s pid me d n)
  stays-ftruncate d n =
      leads-demand (Stays s pid) EBADF (open_file s me d) (ftruncate_1 n) (λ (k, file) is.
      leads-then (Stays s pid) (refuse_if EINVAL (not (writes file.mode))) (ftruncate_2 n file)
      (leads-demand (Stays s pid) EINVAL (natural n) (ftruncate_3 file) (λ size natural_size.
      leads-then (Stays s pid) (refuse_if EFBIG (is_past_greatest s.tree size)) (ftruncate_4 file size)
      (leads-room (Stays s pid) (resized file size) (λ roomy. answers roomy 0) (λ short fit. filled file.node (resize (bytes_of (node_at s.tree file.node)) size))))))

  pub still : (a : Attempt Effect) → Leads (Stays s pid) a → Leads (IsQuiet s) a
  still a = leads-weaker (Stays s pid) (IsQuiet s) a (λ e both. both.0)
