-- Steps of processes with other promises.
use Rattle.std.proofs.Common.{◌≡◌, ◌≢◌, ◌⊎◌, inl, inr, ⊎_elim, ℕ, suc, ◌-◌, ◌^◌, pos, negsuc, Bool, true, false, cond, if◌then◌else◌, not, ◌||◌, ◌==◌, bit_and, List, [], ◌∷◌, ◌++◌, map, filter, length, slice_get, Option, None, Some, option_map, is_some, refl, ap, ap₂, sym, subst, ◌∙◌}
use Rattle.std.specs.Prelude.{flat_map, take, Contains}
use Rattle.std.specs.List.{list_any, AllByRecursion}
use Rattle.std.specs.FinMap.Entries.{by_order, find, put, where_key}
use Rattle.std.specs.Ordering.{nat_cmp, eq_by_cmp}
use Rattle.std.specs.declared.cmp.Ordering.{Ordering}
use Rattle.std.specs.declared.cmp.Ordering.TheVariants.{Less, Equal, Greater}
use Rattle.std.proofs.lemmas.Bool.{eqb-true, or_cases, or_left, or_right}
use Rattle.pv_model.specs.declared.call.Call.{Call}
use Rattle.pv_model.specs.declared.call.Call.TheVariants as TheCall
use Rattle.pv_model.specs.declared.call.Start.TheVariants.{Descriptor as AtDescriptor}
use Rattle.pv_model.specs.declared.errno.Errno.{Errno}
use Rattle.pv_model.specs.declared.errno.Errno.TheVariants.{EFBIG, ENOSPC}
use Rattle.pv_model.specs.declared.instruction.Instruction.{Instruction}
use Rattle.pv_model.specs.declared.instruction.Instruction.TheVariants as Line
use Rattle.pv_model.specs.declared.instruction.Operand.{Operand}
use Rattle.pv_model.specs.declared.instruction.Operand.TheVariants.{Number, Register}
use Rattle.pv_model.specs.declared.instruction.Origin.{Origin}
use Rattle.pv_model.specs.declared.instruction.Origin.TheVariants.{WorkingDirectory, Descriptor}
use Rattle.pv_model.specs.declared.open_flags.Mode.{Mode}
use Rattle.pv_model.specs.declared.open_flags.Mode.TheVariants.{Read, Write, ReadWrite}
use Rattle.pv_model.specs.declared.outcome.Cause.{Cause}
use Rattle.pv_model.specs.declared.outcome.Outcome.{Outcome}
use Rattle.pv_model.specs.declared.outcome.Outcome.TheVariants.{Value, Text}
use Rattle.pv_model.specs.declared.promise.Promise.{Promise}
use Rattle.pv_model.specs.declared.promise.Promise.TheVariants.{Rpath, Wpath}
use Rattle.pv_model.specs.Machine.{Answered, answer, answer_by_attempt, at_next_line, with_front, update_live, update, effect, Asked, asked, asked_by, same_promise, promises_needed, Attempt, done, refused, after_walks, ◌>>=◌, ◌>>◌, give, refuse_if, Bytes, is_empty, with_result, parent_of, adopt, is_unclaimed, adopter, end_process, statuses, child, Effect, Reply, returns, returns_bytes, ends, waits, answers, with_room, errno_number, among, live_processes, used_files, held_by_process, collect, needs, needs_of_mode, needs_cpath, Numbered, present, keep, Next, inside, calls_for, jump_if, perform, next_by, next, Promises, contains, Need, is_met, missing_promise, is_too_long, fits, OpenFile, Program, Process, ProcessRecord, live, ended_record, State, live_process, process_at, with_process, Stepped, step, step_of, step_by, run, Line, call_lines, moved_words, buffer_of, line, call_word, nami_word, gio_word, gave, Word, walked_paths, promise_words, unveil_words, end_words, Tree, execve, pledge}
use Rattle.pv_model.specs.Answer.{answer_by_reply}
use Rattle.pv_model.specs.Answers.Needs.{asked_of, asked_next, asked_in, and_asked}
use Rattle.pv_model.specs.Calls.Processes.{with_parent, adopt_orphans}
use Rattle.pv_model.specs.Program.{operand, start_of_origin}
use Rattle.pv_model.specs.Promise.{promise_bit}
use Rattle.pv_laws_trees.specs.Preserved.{preserved}
use Rattle.pv_laws_states.proofs.CallOutcomes.{at_call}
use Rattle.pv_laws_access.proofs.ProcessesAfterEnds.{step-is, step-gone}
use Rattle.pv_laws_answers.specs.Begun.{record_begun, begun_with, is_plain_call, RunsPlainly, is_listed_in}
use Rattle.pv_laws_answers.specs.ProcessImages.{is_counted_for}
use Rattle.pv_laws_answers.specs.Wanted.{is_missing_promise_line, reports_need}
use Rattle.pv_laws_answers.proofs.AskingCalls.{met-answer}
use Rattle.pv_laws_answers.proofs.ListedNeeds.{all-in}
use Rattle.pv_laws_answers.proofs.OtherRestraints.{next-call, needed-by, firsts-held, met-in}
use Rattle.pv_laws_answers.proofs.RestraintLines.{unpledged, has-all, any-append, want-reported}
use Rattle.pv_laws_states.proofs.RelatedCalls.{RespectsOwn, call-both}
use Rattle.pv_laws_states.proofs.RespectedParts.{OthersRespect, unveil-both, others-own, others-respect}

module _ (held : Option Promises) where
  abbrev pub f : Process → Process
  f p = record p { promises = held }

  abbrev pub g : ProcessRecord → ProcessRecord
  g r = record_begun held r

  abbrev entry : ℕ × ProcessRecord → ℕ × ProcessRecord
  entry r = (r.0, g r.1)

  abbrev changed : List (ℕ × ProcessRecord) → List (ℕ × ProcessRecord)
  changed es = map entry es

  abbrev pub change : State → State
  change s = begun_with held s

  -- ---- lists of processes

  find-changed : (j : ℕ) (es : List (ℕ × ProcessRecord)) → find nat_cmp j (changed es) ≡ option_map g (find nat_cmp j es)
  find-changed j [] = refl
  find-changed j (e ∷ es) = by (eq_by_cmp nat_cmp j e.0) (find-changed j es)
    where
      by : (b : Bool) → find nat_cmp j (changed es) ≡ option_map g (find nat_cmp j es) → cond b (Some (g e.1)) (find nat_cmp j (changed es)) ≡ option_map g (cond b (Some e.1) (find nat_cmp j es))
      by true rest = refl
      by false rest = rest

  put-changed : (j : ℕ) (r : ProcessRecord) (es : List (ℕ × ProcessRecord)) → put nat_cmp j (g r) (changed es) ≡ changed (put nat_cmp j r es)
  put-changed j r [] = refl
  put-changed j r (e ∷ es) = by (nat_cmp j e.0) (put-changed j r es)
    where
      by : (o : Ordering) → put nat_cmp j (g r) (changed es) ≡ changed (put nat_cmp j r es)
          → by_order o ((j, g r) ∷ entry e ∷ changed es) ((e.0, g r) ∷ changed es) (entry e ∷ put nat_cmp j (g r) (changed es)) ≡ changed (by_order o ((j, r) ∷ e ∷ es) ((e.0, r) ∷ es) (e ∷ put nat_cmp j r es))
      by Less rest = refl
      by Equal rest = refl
      by Greater rest = ap (λ xs. entry e ∷ xs) rest

  length-changed : (es : List (ℕ × ProcessRecord)) → length (changed es) ≡ length es
  length-changed [] = refl
  length-changed (e ∷ es) = ap suc (length-changed es)

  where-changed : (test : ℕ → Bool) (es : List (ℕ × ProcessRecord)) → where_key nat_cmp test (changed es) ≡ changed (where_key nat_cmp test es)
  where-changed test [] = refl
  where-changed test (e ∷ es) = by (test e.0) (where-changed test es)
    where
      by : (b : Bool) → where_key nat_cmp test (changed es) ≡ changed (where_key nat_cmp test es)
          → cond b (entry e ∷ where_key nat_cmp test (changed es)) (where_key nat_cmp test (changed es)) ≡ changed (cond b (e ∷ where_key nat_cmp test es) (where_key nat_cmp test es))
      by true rest = ap (λ xs. entry e ∷ xs) rest
      by false rest = rest

  parent-same : (r : ProcessRecord) → parent_of (g r) ≡ parent_of r
  parent-same (live p) = refl
  parent-same (ended_record parent status) = refl

  parent-with : (r : ProcessRecord) (n : ℕ) → with_parent (g r) n ≡ g (with_parent r n)
  parent-with (live p) n = refl
  parent-with (ended_record parent status) n = refl

  unclaimed-same : (r : ProcessRecord) → is_unclaimed (g r) ≡ is_unclaimed r
  unclaimed-same (live p) = refl
  unclaimed-same (ended_record parent status) = refl

  lives-same : (o : Option ProcessRecord) → is_some (live_process (option_map g o)) ≡ is_some (live_process o)
  lives-same None = refl
  lives-same (Some (live p)) = refl
  lives-same (Some (ended_record parent status)) = refl

  abbrev claimed : List (ℕ × ProcessRecord) → List (ℕ × ProcessRecord)
  claimed es = filter (λ r. not (is_unclaimed r.1)) es

  adopt-changed : (old new : ℕ) (e : ℕ × ProcessRecord) → adopt old new (entry e) ≡ entry (adopt old new e)
  adopt-changed old new e = ap (λ n. cond (n == old) (e.0, with_parent (g e.1) new) (entry e)) (parent-same e.1) ∙ by (parent_of e.1 == old)
    where
      by : (b : Bool) → cond b (e.0, with_parent (g e.1) new) (entry e) ≡ entry (cond b (e.0, with_parent e.1 new) e)
      by true = ap (λ r. (e.0, r)) (parent-with e.1 new)
      by false = refl

  adopted-changed : (old new : ℕ) (es : List (ℕ × ProcessRecord)) → claimed (map (adopt old new) (changed es)) ≡ changed (claimed (map (adopt old new) es))
  adopted-changed old new [] = refl
  adopted-changed old new (e ∷ es) =
      ap (λ (x : ℕ × ProcessRecord). cond (not (is_unclaimed x.1)) (x ∷ claimed (map (adopt old new) (changed es))) (claimed (map (adopt old new) (changed es)))) (adopt-changed old new e)
      ∙ ap (λ b. cond (not b) (entry (adopt old new e) ∷ claimed (map (adopt old new) (changed es))) (claimed (map (adopt old new) (changed es)))) (unclaimed-same (adopt old new e).1)
      ∙ by (not (is_unclaimed (adopt old new e).1)) (adopted-changed old new es)
    where
      by : (b : Bool) → claimed (map (adopt old new) (changed es)) ≡ changed (claimed (map (adopt old new) es))
          → cond b (entry (adopt old new e) ∷ claimed (map (adopt old new) (changed es))) (claimed (map (adopt old new) (changed es)))
          ≡ changed (cond b (adopt old new e ∷ claimed (map (adopt old new) es)) (claimed (map (adopt old new) es)))
      by true rest = ap (λ xs. entry (adopt old new e) ∷ xs) rest
      by false rest = rest

  abbrev of_parent : ℕ → List (ℕ × ProcessRecord) → List (ℕ × ProcessRecord)
  of_parent n es = filter (λ r. parent_of r.1 == n) es

  of-parent-changed : (n : ℕ) (es : List (ℕ × ProcessRecord)) → of_parent n (changed es) ≡ changed (of_parent n es)
  of-parent-changed n [] = refl
  of-parent-changed n (e ∷ es) =
      ap (λ m. cond (m == n) (entry e ∷ of_parent n (changed es)) (of_parent n (changed es))) (parent-same e.1) ∙ by (parent_of e.1 == n) (of-parent-changed n es)
    where
      by : (b : Bool) → of_parent n (changed es) ≡ changed (of_parent n es)
          → cond b (entry e ∷ of_parent n (changed es)) (of_parent n (changed es)) ≡ changed (cond b (e ∷ of_parent n es) (of_parent n es))
      by true rest = ap (λ xs. entry e ∷ xs) rest
      by false rest = rest

  statuses-changed : (es : List (ℕ × ProcessRecord)) → statuses (changed es) ≡ statuses es
  statuses-changed [] = refl
  statuses-changed ((j, live p) ∷ es) = statuses-changed es
  statuses-changed ((j, ended_record parent status) ∷ es) = ap (λ xs. (j, status) ∷ xs) (statuses-changed es)

  empty-changed : (es : List (ℕ × ProcessRecord)) → is_empty (changed es) ≡ is_empty es
  empty-changed [] = refl
  empty-changed (e ∷ es) = refl

  -- the references are the same
  all-changed : (h : Process → List ℕ) → ((p : Process) → h (f p) ≡ h p) → (es : List (ℕ × ProcessRecord)) → flat_map (λ p. h p.1) (live_processes (changed es)) ≡ flat_map (λ p. h p.1) (live_processes es)
  all-changed h same [] = refl
  all-changed h same ((j, live p) ∷ es) = ap₂ (λ (a b : List ℕ). a ++ b) (same p) (all-changed h same es)
  all-changed h same ((j, ended_record parent status) ∷ es) = all-changed h same es

  -- ---- states

  pub collect-changed : (s : State) → collect (change s) ≡ change (collect s)
  unfolding collect
  collect-changed s =
      ap₂ (λ (hs us : List ℕ). record s { tree = preserved s.tree (hs ++ map (λ x. x.node) (present (keep (among us) s.files))); files = keep (among us) s.files; processes = changed s.processes })
      (all-changed held_by_process (λ p. refl) s.processes) (all-changed used_files (λ p. refl) s.processes)

  pub process-changed : (s : State) (k : ℕ) → process_at (change s) k ≡ option_map f (process_at s k)
  process-changed s k = ap live_process (find-changed k s.processes) ∙ by (find nat_cmp k s.processes)
    where
      by : (o : Option ProcessRecord) → live_process (option_map g o) ≡ option_map f (live_process o)
      by None = refl
      by (Some (live p)) = refl
      by (Some (ended_record parent status)) = refl

  pub with-changed : (s : State) (k : ℕ) (p : Process) → with_process (change s) k (f p) ≡ change (with_process s k p)
  with-changed s k p = ap (λ ps. record s { processes = ps }) (put-changed k (live p) s.processes)

  update-changed : (s : State) (k : ℕ) (h : Process → Process) → ((p : Process) → h (f p) ≡ f (h p)) → update (change s) k h ≡ change (update s k h)
  update-changed s k h apart = ap (update_live (change s) k h) (process-changed s k) ∙ by (process_at s k)
    where
      by : (o : Option Process) → update_live (change s) k h (option_map f o) ≡ change (update_live s k h o)
      by None = refl
      by (Some p) = ap (with_process (change s) k) (apart p) ∙ with-changed s k (h p)

  pub end-changed : (s : State) (k : ℕ) (me : Process) (status : ℕ) → end_process (change s) k (f me) status ≡ change (end_process s k me status)
  unfolding end_process
  end-changed s k me status =
      ap (λ ps. adopt_orphans (record s { processes = ps }) k) (put-changed k (ended_record me.parent status) s.processes)
      ∙ (λ i. record s { processes = claimed (map (adopt k (if lives i then 1 else 0)) (changed away)) })
      ∙ ap (λ ps. record s { processes = ps }) (adopted-changed k (adopter (record s { processes = away })) away)
    where
      away : List (ℕ × ProcessRecord)
      away = put nat_cmp k (ended_record me.parent status) s.processes

      lives : is_some (live_process (find nat_cmp 1 (changed away))) ≡ is_some (live_process (find nat_cmp 1 away))
      lives = ap (λ o. is_some (live_process o)) (find-changed 1 away) ∙ lives-same (find nat_cmp 1 away)

  -- ---- attempts in both states

  record HasOtherPromises (x y : State) : Type 0 where
    same : y ≡ change x

  abbrev pub moved : Attempt Effect → Attempt Effect
  moved (done walks (x, r)) = done walks (change x, r)
  moved (refused walks errno cause) = refused walks errno cause

  pub record WithOtherPromises (a b : Attempt Effect) : Type 0 where
    pub same : b ≡ moved a

  pub moved-after : (n : ℕ) (a : Attempt Effect) → after_walks n (moved a) ≡ moved (after_walks n a)
  moved-after n (done walks (x, r)) = refl
  moved-after n (refused walks errno cause) = refl

  after-other_promises : (n : ℕ) (a b : Attempt Effect) → WithOtherPromises a b → WithOtherPromises (after_walks n a) (after_walks n b)
  after-other_promises n a b is = record { same = ap (after_walks n) is.same ∙ moved-after n a }

  done-other_promises : (n : ℕ) (r : Reply) (x y : State) → HasOtherPromises x y → WithOtherPromises (done n (x, r)) (done n (y, r))
  done-other_promises n r x y is = record { same = ap (λ z. done n (z, r)) is.same }

  refused-other_promises : (n : ℕ) (e : Errno) (c : Cause) → WithOtherPromises (refused n e c) (refused n e c)
  refused-other_promises n e c = record { same = refl }

  room-other_promises : (x y : State) (n : ℕ) → HasOtherPromises x y → WithOtherPromises (with_room x >>= (λ roomy. answers roomy n)) (with_room y >>= (λ roomy. answers roomy n))
  room-other_promises x y n is =
      subst (λ z. WithOtherPromises (with_room x >>= (λ roomy. answers roomy n)) (with_room z >>= (λ roomy. answers roomy n))) (sym is.same)
      (subst (λ t. WithOtherPromises (with_room x >>= (λ roomy. answers roomy n)) ((refuse_if EFBIG (is_too_long t) >> (refuse_if ENOSPC (not (fits t)) >> give (change x))) >>= (λ roomy. answers roomy n)))
      (sym (ap (λ (z : State). z.tree) (collect-changed x))) (by (is_too_long (collect x).tree) (fits (collect x).tree)))
    where
      by : (long fit : Bool) → WithOtherPromises ((refuse_if EFBIG long >> (refuse_if ENOSPC (not fit) >> give x)) >>= (λ roomy. answers roomy n))
          ((refuse_if EFBIG long >> (refuse_if ENOSPC (not fit) >> give (change x))) >>= (λ roomy. answers roomy n))
      by true fit = record { same = refl }
      by false true = record { same = refl }
      by false false = record { same = refl }

  -- ---- calls

  module _ (s : State) (pid : ℕ) (me : Process) where
    abbrev u : State
    u = change s

    own-other_promises : (t : Tree) (fs : Numbered OpenFile) (q : Process) → HasOtherPromises (with_process (record s { tree = t; files = fs }) pid q) (with_process (record u { tree = t; files = fs }) pid (f q))
    own-other_promises t fs q = record { same = ap (λ ps. record s { tree = t; files = fs; processes = ps }) (put-changed pid (live q) s.processes) }

    respects : OthersRespect WithOtherPromises HasOtherPromises s (changed s.processes) pid me (f me)
    respects =
        let kids = of-parent-changed pid s.processes in
        record {
          all = record { after = after-other_promises; refuses = refused-other_promises };
          does = done-other_promises;
          same = record { directory = refl; descriptors = refl; table = refl; locked = refl; parent = refl };
          left = λ t fs. record { same = refl };
          count = length-changed s.processes;
          forks = record { same = ap (λ ps. record s { processes = ps; last_process = suc s.last_process }) (put-changed (suc s.last_process) (live (child s pid me)) s.processes) };
          childless = ap is_empty kids ∙ empty-changed (of_parent pid s.processes);
          statuses = ap statuses kids ∙ statuses-changed (of_parent pid s.processes);
          reaps = λ test. record { same = ap (λ ps. record s { processes = ps }) (where-changed test s.processes) };
          enters = λ n. own-other_promises s.tree s.files (record me { directory = n });
          holds = λ t fs ds. own-other_promises t fs (record me { descriptors = ds });
        }

    own-done : (q : Process) → WithOtherPromises (answers (with_process s pid q) 0) (answers (with_process u pid (f q)) 0)
    own-done q = done-other_promises 0 (returns 0) _ _ (own-other_promises s.tree s.files q)

    module _ (program_of : Bytes → Option Program) (call : Call) (plain : is_plain_call call ≡ true) where
      no-pledge : (promises execpromises : Option Bytes) → call ≡ TheCall.Pledge promises execpromises → WithOtherPromises (pledge s pid me promises execpromises) (pledge u pid (f me) promises execpromises)
      no-pledge promises execpromises is = let bad : false ≡ true = ap is_plain_call (sym is) ∙ plain in cc bad

      no-execve : (path : Bytes) → call ≡ TheCall.Execve path → WithOtherPromises (execve s pid me program_of path) (execve u pid (f me) program_of path)
      no-execve path is = let bad : false ≡ true = ap is_plain_call (sym is) ∙ plain in cc bad

      own : RespectsOwn (λ ws. WithOtherPromises) program_of s u pid me (f me) call
      own =
          others-own WithOtherPromises HasOtherPromises s (changed s.processes) pid me (f me) respects program_of call no-pledge
          (λ path permissions is. unveil-both WithOtherPromises respects.all s u pid me (f me) refl refl (λ path. refl) (λ place. refl) (own-done (record me { locked = true })) (λ table. own-done (record me { table = Some table })) path permissions)
          no-execve

      pub rows : WithOtherPromises (effect program_of s pid me call) (effect program_of u pid (f me) call)
      rows =
          call-both (λ ws. WithOtherPromises) program_of s u pid me (f me) call
          (others-respect WithOtherPromises HasOtherPromises s (changed s.processes) pid me (f me) respects program_of call room-other_promises own (λ d n is count few. refl))

  -- ---- answers

  pub record BothAnswer (a b : Answered) : Type 0 where
    pub after : b.after ≡ change a.after
    pub outcome : b.outcome ≡ a.outcome
    pub walks : b.walks ≡ a.walks

  collected-update : (x : State) (pid : ℕ) (h : Process → Process) → ((p : Process) → h (f p) ≡ f (h p)) → collect (update (change x) pid h) ≡ change (collect (update x pid h))
  collected-update x pid h apart = ap collect (update-changed x pid h apart) ∙ collect-changed (update x pid h)

  reply-both : (before s : State) (pid : ℕ) (me : Process) (walks : ℕ) (r : Reply) (x : State)
      → BothAnswer (answer_by_reply before s pid me walks r x) (answer_by_reply (change before) (change s) pid (f me) walks r (change x))
  reply-both before s pid me walks (returns n) x = record { after = collected-update x pid (λ p. with_result p (pos n) 0) (λ p. refl); outcome = refl; walks = refl }
  reply-both before s pid me walks (returns_bytes n bytes) x = record { after = collected-update x pid (λ p. with_front bytes (with_result p (pos n) 0)) (λ p. refl); outcome = refl; walks = refl }
  reply-both before s pid me walks (ends status) x = record { after = ap collect (end-changed x pid me status) ∙ collect-changed (end_process x pid me status); outcome = refl; walks = refl }
  reply-both before s pid me walks waits x = record { after = refl; outcome = refl; walks = refl }

  pub attempt-both : (before s : State) (pid : ℕ) (me : Process) (a : Attempt Effect) → BothAnswer (answer_by_attempt before s pid me a) (answer_by_attempt (change before) (change s) pid (f me) (moved a))
  attempt-both before s pid me (done walks (x, r)) = reply-both before s pid me walks r x
  attempt-both before s pid me (refused walks e c) = record { after = update-changed s pid (λ p. with_result p (negsuc 0) (errno_number e)) (λ p. refl); outcome = refl; walks = refl }

  module _ (program_of : Bytes → Option Program) (s : State) (pid : ℕ) (p : Process) (at : process_at s pid ≡ Some p) where
    at-changed : process_at (change s) pid ≡ Some (f p)
    at-changed = process-changed s pid ∙ ap (option_map f) at

    module _ (call : Call) (plain : is_plain_call call ≡ true) (met : missing_promise p.promises (needs call) ≡ None) (also : missing_promise held (needs call) ≡ None) where
      abbrev a : Answered
      a = answer program_of s pid call

      abbrev b : Answered
      b = answer program_of (change s) pid call

      answers-both : BothAnswer a b
      answers-both =
          let x = at_call s pid p in
          let one = met-answer program_of s pid p call at met in
          let two = met-answer program_of (change s) pid (f p) call at-changed also in
          let row = rows (at_call s pid p) pid (at_next_line p) program_of call plain in
          subst (λ y. BothAnswer y b) (sym one)
          (subst (λ y. BothAnswer (answer_by_attempt s (at_call s pid p) pid (at_next_line p) (effect program_of (at_call s pid p) pid (at_next_line p) call)) y) (sym two)
          (subst (λ z. BothAnswer (answer_by_attempt s (at_call s pid p) pid (at_next_line p) (effect program_of (at_call s pid p) pid (at_next_line p) call))
          (answer_by_attempt (change s) z pid (f (at_next_line p)) (effect program_of z pid (f (at_next_line p)) call))) (sym (with-changed s pid (at_next_line p)))
          (subst (λ e. BothAnswer (answer_by_attempt s (at_call s pid p) pid (at_next_line p) (effect program_of (at_call s pid p) pid (at_next_line p) call))
          (answer_by_attempt (change s) (change (at_call s pid p)) pid (f (at_next_line p)) e)) (sym row.same)
          (attempt-both s (at_call s pid p) pid (at_next_line p) (effect program_of (at_call s pid p) pid (at_next_line p) call)))))

      -- the reported bytes are the same
      buffers : buffer_of (process_at b.after pid) ≡ buffer_of (process_at a.after pid)
      buffers = ap (λ (y : State). buffer_of (process_at y pid)) answers-both.after ∙ ap buffer_of (process-changed a.after pid) ∙ by (process_at a.after pid)
        where
          by : (o : Option Process) → buffer_of (option_map f o) ≡ buffer_of o
          by None = refl
          by (Some q) = refl

      abbrev lines_by : Outcome → ℕ → List Word → List Line
      lines_by o walks moves =
          line pid (call_word call)
          ∷ map (λ path. line pid (nami_word path)) (take walks (walked_paths call))
          ++ map (line pid) (promise_words call o)
          ++ map (line pid) (unveil_words call walks o)
          ++ map (line pid) moves
          ++ map (line pid) (end_words call o)

      moves-same : (c : Call) (o : Outcome) → moved_words b.after pid (f p) c o ≡ moved_words a.after pid p c o
      moves-same c (Text taken) = ap (λ bs. gio_word gave (take taken.len bs) ∷ []) buffers
      moves-same (TheCall.Write d n) (Value count) = refl
      moves-same c o = refl

      pub lines-both : call_lines pid (f p) call b ≡ call_lines pid p call a
      unfolding call_lines
      lines-both =
          ap₂ (λ o walks. lines_by o walks (moved_words b.after pid (f p) call o)) answers-both.outcome answers-both.walks
          ∙ ap (lines_by a.outcome a.walks) (moves-same call a.outcome)

  -- ---- steps

  record BothStep (a b : Stepped) : Type 0 where
    after : b.after ≡ change a.after
    lines : b.lines ≡ a.lines

  abbrev pub pledged_next : Next → Next
  pledged_next (inside q) = inside (f q)
  pledged_next (calls_for call) = calls_for call

  jump-pledged : (b : Bool) (p : Process) (line : ℕ) → inside (jump_if b (f p) line) ≡ pledged_next (inside (jump_if b p line))
  jump-pledged true p line = refl
  jump-pledged false p line = refl

  perform-pledged : (p : Process) (i : Instruction) → perform (f p) i ≡ pledged_next (perform p i)
  unfolding perform
  perform-pledged p (Line.JumpIfZero r line) = jump-pledged _ p line
  perform-pledged p (Line.JumpIfNotZero r line) = jump-pledged _ p line
  perform-pledged p (Line.JumpIfNegative r line) = jump-pledged _ p line
  perform-pledged p (Line.OpenAt origin path flags) = ap (λ o. calls_for (TheCall.OpenAt o path flags)) (start origin)
    where
      start : (o : Origin) → start_of_origin (f p) o ≡ start_of_origin p o
      start WorkingDirectory = refl
      start (Descriptor d) = ap AtDescriptor (same d)
        where
          same : (o : Operand) → operand (f p) o ≡ operand p o
          same (Number m) = refl
          same (Register r) = refl
  perform-pledged p i = refl

  pub next-pledged : (p : Process) → next (f p) ≡ pledged_next (next p)
  next-pledged p = by (slice_get p.program (p.line - 1))
    where
      by : (o : Option Instruction) → next_by (f p) o ≡ pledged_next (next_by p o)
      by None = refl
      by (Some i) = perform-pledged p i

  module _ (program_of : Bytes → Option Program) (s : State) (pid : ℕ)
      (held_all : (p : Process) (call : Call) → process_at s pid ≡ Some p → next p ≡ calls_for call
      → (is_plain_call call ≡ true) × (missing_promise p.promises (needs call) ≡ None) × (missing_promise held (needs call) ≡ None)) where
    both-by : (p : Process) → process_at s pid ≡ Some p → (n : Next) → next p ≡ n → BothStep (step_by program_of s pid p n) (step_by program_of (change s) pid (f p) (pledged_next n))
    both-by p at (inside q) is = record { after = with-changed s pid q; lines = refl }
    both-by p at (calls_for call) is =
        let all = held_all p call at is in
        record { after = (answers-both program_of s pid p at call all.0 all.1 all.2).after; lines = lines-both program_of s pid p at call all.0 all.1 all.2 }

    step-both : BothStep (step program_of s pid) (step program_of (change s) pid)
    step-both = by (process_at s pid) refl
      where
        by : (o : Option Process) → process_at s pid ≡ o → BothStep (step program_of s pid) (step program_of (change s) pid)
        by None gone =
            let too : process_at (change s) pid ≡ None = process-changed s pid ∙ ap (option_map f) gone in
            subst (λ y. BothStep y (step program_of (change s) pid)) (sym (step-gone program_of s pid gone))
            (subst (BothStep (step_of program_of s pid None)) (sym (step-gone program_of (change s) pid too)) (record { after = refl; lines = refl }))
        by (Some p) at =
            subst (λ y. BothStep y (step program_of (change s) pid)) (sym (step-is program_of s pid p at))
            (subst (BothStep (step_by program_of s pid p (next p)))
            (sym (step-is program_of (change s) pid (f p) (at-changed program_of s pid p at) ∙ ap (step_by program_of (change s) pid (f p)) (next-pledged p)))
            (both-by p at (next p) refl))

-- ---- without promises

-- no live process has promises
abbrev IsBare : State → Type 0
IsBare v = begun_with None v ≡ v

begun-again : (held : Option Promises) (s : State) → begun_with held (begun_with None s) ≡ begun_with held s
begun-again held s = ap (λ ps. record s { processes = ps }) (by s.processes)
  where
    of : (r : ProcessRecord) → record_begun held (record_begun None r) ≡ record_begun held r
    of (live p) = refl
    of (ended_record parent status) = refl

    by : (es : List (ℕ × ProcessRecord)) → map (entry held) (map (entry None) es) ≡ map (entry held) es
    by [] = refl
    by (e ∷ es) = ap₂ (λ (r : ProcessRecord) (rest : List (ℕ × ProcessRecord)). (e.0, r) ∷ rest) (of e.1) (by es)

-- a need is one promise, or rpath or wpath
abbrev IsShape : Need → Type 0
IsShape [] = ⊥
IsShape (b ∷ others) = (others ≡ []) ⊎ ((b ≡ Rpath) × (others ≡ Wpath ∷ []))

mode-shapes : (mode : Mode) (create : Bool) → AllByRecursion IsShape (needs_of_mode mode ++ (if create then needs_cpath else []))
mode-shapes Read true = (inl refl, (inl refl, tt))
mode-shapes Read false = (inl refl, tt)
mode-shapes Write true = (inl refl, (inl refl, tt))
mode-shapes Write false = (inl refl, tt)
mode-shapes ReadWrite true = (inl refl, (inl refl, (inl refl, tt)))
mode-shapes ReadWrite false = (inl refl, (inl refl, tt))

shapes : (call : Call) → AllByRecursion IsShape (needs call)
unfolding needs
shapes (TheCall.Exit code) = tt
shapes (TheCall.Pledge promises execpromises) = tt
shapes (TheCall.Open path flags) = mode-shapes flags.mode flags.create
shapes (TheCall.OpenAt start path flags) = mode-shapes flags.mode flags.create
shapes (TheCall.Stat path) = (inr (refl, refl), tt)
shapes (TheCall.Lstat path) = (inr (refl, refl), tt)
shapes (TheCall.Readlink path) = (inr (refl, refl), tt)
shapes call = (inl refl, tt)

is-rpath : (a : Promise) → same_promise a Rpath ≡ true → a ≡ Rpath
is-rpath Rpath is = refl
is-rpath a is = cc is

module _ (program_of : Bytes → Option Program) where
  bare-promises : (v : State) → IsBare v → (pid : ℕ) (p : Process) → process_at v pid ≡ Some p → p.promises ≡ None
  bare-promises v bare pid p at =
      let both : Some p ≡ Some (record p { promises = None }) = sym at ∙ ap (λ y. process_at y pid) (sym bare) ∙ process-changed None v pid ∙ ap (option_map (f None)) at in
      let same : p ≡ record p { promises = None } = cc both in ap (λ (q : Process). q.promises) same

  abbrev IsPlainStep : State → ℕ → Type 0
  IsPlainStep v pid = (p : Process) (call : Call) → process_at v pid ≡ Some p → next p ≡ calls_for call → is_plain_call call ≡ true

  bare-met : (v : State) → IsBare v → (pid : ℕ) (p : Process) (ns : List Need) → process_at v pid ≡ Some p → missing_promise p.promises ns ≡ None
  bare-met v bare pid p ns at = ap (λ o. missing_promise o ns) (bare-promises v bare pid p at) ∙ unpledged ns

  -- a step without promises leaves no promises
  bare-step : (v : State) (pid : ℕ) → IsBare v → IsPlainStep v pid → IsBare (step program_of v pid).after
  bare-step v pid bare plain =
      let both = step-both None program_of v pid (λ p call at is. (plain p call at is, bare-met v bare pid p (needs call) at, unpledged (needs call))) in
      sym (sym (ap (λ y. (step program_of y pid).after) bare) ∙ both.after)

  -- a step without promises reports no missing promise
  bare-quiet : (v : State) (pid : ℕ) → IsBare v → reports_need (step program_of v pid).lines ≡ false
  bare-quiet v pid bare = by (process_at v pid) refl
    where
      of : (p : Process) → process_at v pid ≡ Some p → (n : Next) → next p ≡ n → reports_need (step program_of v pid).lines ≡ false
      of p at (inside q) is = ap (λ (y : Stepped). reports_need y.lines) (step-is program_of v pid p at ∙ ap (step_by program_of v pid p) is)
      of p at (calls_for call) is = (want-reported program_of v pid p call at is).1 (inl (bare-promises v bare pid p at))

      by : (o : Option Process) → process_at v pid ≡ o → reports_need (step program_of v pid).lines ≡ false
      by None gone = ap (λ (y : Stepped). reports_need y.lines) (step-gone program_of v pid gone)
      by (Some p) at = of p at (next p) refl

  want-append : (ls ms : List Line) → reports_need (ls ++ ms) ≡ (reports_need ls || reports_need ms)
  want-append ls ms = any-append (λ l. is_missing_promise_line l.word) ls ms

  bare-run : (pids : List ℕ) (v : State) → IsBare v → RunsPlainly program_of pids v → reports_need (run program_of pids v).lines ≡ false
  bare-run [] v bare plain = refl
  bare-run (pid ∷ pids) v bare plain =
      want-append (step program_of v pid).lines (run program_of pids (step program_of v pid).after).lines
      ∙ ap (λ b. b || reports_need (run program_of pids (step program_of v pid).after).lines) (bare-quiet v pid bare)
      ∙ bare-run pids (step program_of v pid).after (bare-step v pid bare plain.0) plain.1

  -- ---- with promises

  -- a promise listed for the rest of a run is listed for the run
  listed-later : (a : Promise) (pid : ℕ) (o : Option Asked) (rest : List (ℕ × Asked)) → is_listed_in a rest ≡ true → is_listed_in a (and_asked program_of pid o rest) ≡ true
  listed-later a pid None rest is = is
  listed-later a pid (Some now) rest is = or_right (list_any (same_promise a) now.promises) (is_listed_in a rest) is

  asked-call : (v : State) (pid : ℕ) (p : Process) (call : Call) → process_at v pid ≡ Some p → next p ≡ calls_for call → asked program_of v pid ≡ Some (asked_by v p call (answer program_of v pid call))
  unfolding asked
  asked-call v pid p call at is = ap (asked_of program_of v pid) at ∙ ap (asked_next program_of v pid p) is

  module _ (set : Promises) where
    abbrev with_set : State → State
    with_set v = begun_with (Some set) v

    same-run : (pids : List ℕ) (v : State) → IsBare v → RunsPlainly program_of pids v → ((a : Promise) → is_listed_in a (asked_in program_of pids v) ≡ true → contains set a ≡ true)
        → (run program_of pids (with_set v)).lines ≡ (run program_of pids v).lines
    same-run [] v bare plain listed = refl
    same-run (pid ∷ pids) v bare plain listed =
        let after = (step program_of v pid).after in
        let both = step-both (Some set) program_of v pid (λ p call at is. (
          plain.0 p call at is,
          bare-met v bare pid p (needs call) at,
          firsts-held set (needs call) (λ a needs'. listed a
              (ap (λ o. is_listed_in a (and_asked program_of pid o (asked_in program_of pids (step program_of v pid).after))) (asked-call v pid p call at is)
              ∙ or_left (list_any (same_promise a) (promises_needed call)) (is_listed_in a (asked_in program_of pids (step program_of v pid).after)) needs')),
        )) in
        ap₂ (λ (ls ms : List Line). ls ++ ms) both.lines
        (ap (λ y. (run program_of pids y).lines) both.after
        ∙ same-run pids (step program_of v pid).after (bare-step v pid bare plain.0) plain.1
        (λ a is. listed a (listed-later a pid (asked program_of v pid) (asked_in program_of pids (step program_of v pid).after) is)))

    module _ (a : Promise) (lacks : contains set a ≡ false) (wpath : a ≡ Rpath → contains set Wpath ≡ false) where
      -- a need for which the promise is listed is not met
      unmet : (call : Call) → list_any (same_promise a) (promises_needed call) ≡ true → missing_promise (Some set) (needs call) ≡ None → ⊥
      unmet call needs' none =
          let h = needed-by (needs call) a needs' in
          let shape = all-in IsShape (needs call) h.need (shapes call) h.needed in
          by h.need h.needed h.counted shape none
        where
          same : (b : Promise) → same_promise a b ≡ true → contains set b ≡ false
          same b is = ap (λ n. bit_and set (2 ^ n) == 2 ^ n) (sym (eqb-true (promise_bit a) (promise_bit b) is)) ∙ lacks

          by : (need : Need) → Contains (needs call) need → is_counted_for a need ≡ true → IsShape need → missing_promise (Some set) (needs call) ≡ None → ⊥
          by [] has counted shape none = cc counted
          by (b ∷ others) has counted shape none =
              let met = met-in (Some set) (needs call) a b others none has in
              ⊎_elim
              (λ (one : others ≡ []).
              let bad : true ≡ false = sym met ∙ ap (λ os. is_met (Some set) (b ∷ os)) one ∙ ap (λ x. x || false) (same b counted) in cc bad)
              (λ (two : (b ≡ Rpath) × (others ≡ Wpath ∷ [])).
              let rpath : a ≡ Rpath = is-rpath a (ap (same_promise a) (sym two.0) ∙ counted) in
              let bad : true ≡ false = sym met ∙ ap (λ os. is_met (Some set) (b ∷ os)) two.1 ∙ ap (λ x. x || (contains set Wpath || false)) (same b counted) ∙ ap (λ x. x || false) (wpath rpath) in cc bad)
              shape

      reported-run : (pids : List ℕ) (v : State) → IsBare v → RunsPlainly program_of pids v → is_listed_in a (asked_in program_of pids v) ≡ true → reports_need (run program_of pids (with_set v)).lines ≡ true
      unfolding asked
      reported-run [] v bare plain listed = cc listed
      reported-run (pid ∷ pids) v bare plain listed = by (process_at v pid) refl (reported-run pids (step program_of v pid).after (bare-step v pid bare plain.0) plain.1)
        where
          reported-now : reports_need (step program_of (with_set v) pid).lines ≡ true → reports_need (run program_of (pid ∷ pids) (with_set v)).lines ≡ true
          reported-now is =
              want-append (step program_of (with_set v) pid).lines (run program_of pids (step program_of (with_set v) pid).after).lines
              ∙ or_left (reports_need (step program_of (with_set v) pid).lines) (reports_need (run program_of pids (step program_of (with_set v) pid).after).lines) is

          reported-later : ((p : Process) (call : Call) → process_at v pid ≡ Some p → next p ≡ calls_for call
              → (is_plain_call call ≡ true) × (missing_promise p.promises (needs call) ≡ None) × (missing_promise (Some set) (needs call) ≡ None))
              → reports_need (run program_of pids (with_set (step program_of v pid).after)).lines ≡ true → reports_need (run program_of (pid ∷ pids) (with_set v)).lines ≡ true
          reported-later held_all is =
              want-append (step program_of (with_set v) pid).lines (run program_of pids (step program_of (with_set v) pid).after).lines
              ∙ or_right (reports_need (step program_of (with_set v) pid).lines) (reports_need (run program_of pids (step program_of (with_set v) pid).after).lines)
              (ap (λ y. reports_need (run program_of pids y).lines) (step-both (Some set) program_of v pid held_all).after ∙ is)

          -- a step that makes no call
          no-call : asked program_of v pid ≡ None → ((p : Process) (call : Call) → process_at v pid ≡ Some p → next p ≡ calls_for call → ⊥)
              → (is_listed_in a (asked_in program_of pids (step program_of v pid).after) ≡ true → reports_need (run program_of pids (with_set (step program_of v pid).after)).lines ≡ true)
              → reports_need (run program_of (pid ∷ pids) (with_set v)).lines ≡ true
          no-call none never more =
              reported-later (λ p call at is. absurd (never p call at is))
              (more (sym (ap (λ o. is_listed_in a (and_asked program_of pid o (asked_in program_of pids (step program_of v pid).after))) none) ∙ listed))

          of-call : (p : Process) (call : Call) → process_at v pid ≡ Some p → next p ≡ calls_for call → (o : Option Promise) → missing_promise (Some set) (needs call) ≡ o
              → (is_listed_in a (asked_in program_of pids (step program_of v pid).after) ≡ true → reports_need (run program_of pids (with_set (step program_of v pid).after)).lines ≡ true)
              → reports_need (run program_of (pid ∷ pids) (with_set v)).lines ≡ true
          of-call p call at is (Some b) lack more = reported-now (reported (reports_need (step program_of (with_set v) pid).lines) refl)
            where
              reported : (x : Bool) → reports_need (step program_of (with_set v) pid).lines ≡ x → reports_need (step program_of (with_set v) pid).lines ≡ true
              reported true yes' = yes'
              reported false quiet =
                  let has = (want-reported program_of (with_set v) pid (f (Some set) p) call (process-changed (Some set) v pid ∙ ap (option_map (f (Some set))) at) (next-call p (Some set) p.table call is)).0 quiet in
                  let bad : None ≡ Some b = sym ((has-all (Some set) call).1 has) ∙ lack in cc bad
          of-call p call at is None met more =
              reported-later (λ q c there next_is.
              let both : Some p ≡ Some q = sym at ∙ there in
              let one : p ≡ q = cc both in
              let calls : calls_for call ≡ calls_for c = sym is ∙ ap next one ∙ next_is in
              let same : call ≡ c = cc calls in
              (plain.0 q c there next_is, bare-met v bare pid q (needs c) there, subst (λ k. missing_promise (Some set) (needs k) ≡ None) same met))
              (⊎_elim (λ here. absurd (unmet call here met)) more
              (or_cases (list_any (same_promise a) (promises_needed call)) (is_listed_in a (asked_in program_of pids (step program_of v pid).after))
              (sym (ap (λ o. is_listed_in a (and_asked program_of pid o (asked_in program_of pids (step program_of v pid).after))) (asked-call v pid p call at is)) ∙ listed)))

          no-asked : process_at v pid ≡ None → asked program_of v pid ≡ None
          no-asked gone = ap (asked_of program_of v pid) gone

          inside-asked : (p q : Process) → process_at v pid ≡ Some p → next p ≡ inside q → asked program_of v pid ≡ None
          inside-asked p q at is = ap (asked_of program_of v pid) at ∙ ap (asked_next program_of v pid p) is

          by-next : (p : Process) → process_at v pid ≡ Some p → (n : Next) → next p ≡ n
              → (is_listed_in a (asked_in program_of pids (step program_of v pid).after) ≡ true → reports_need (run program_of pids (with_set (step program_of v pid).after)).lines ≡ true)
              → reports_need (run program_of (pid ∷ pids) (with_set v)).lines ≡ true
          by-next p at (inside q) is more =
              no-call (inside-asked p q at is) (λ r call there next_is.
              let both : Some p ≡ Some r = sym at ∙ there in
              let one : p ≡ r = cc both in
              let bad : inside q ≡ calls_for call = sym is ∙ ap next one ∙ next_is in cc bad) more
          by-next p at (calls_for call) is more = of-call p call at is (missing_promise (Some set) (needs call)) refl more

          by : (o : Option Process) → process_at v pid ≡ o
              → (is_listed_in a (asked_in program_of pids (step program_of v pid).after) ≡ true → reports_need (run program_of pids (with_set (step program_of v pid).after)).lines ≡ true)
              → reports_need (run program_of (pid ∷ pids) (with_set v)).lines ≡ true
          by None gone more = no-call (no-asked gone) (λ p call at is. let bad : None ≡ Some p = sym gone ∙ at in cc bad) more
          by (Some p) at more = by-next p at (next p) refl more

  pub listed-keep : (pids : List ℕ) (s : State) (set : Promises) → RunsPlainly program_of pids (begun_with None s)
      → ((a : Promise) → is_listed_in a (asked_in program_of pids (begun_with None s)) ≡ true → contains set a ≡ true)
      → (run program_of pids (begun_with (Some set) s)).lines ≡ (run program_of pids (begun_with None s)).lines
  listed-keep pids s set plain listed =
      ap (λ y. (run program_of pids y).lines) (sym (begun-again (Some set) s)) ∙ same-run set pids (begun_with None s) (begun-again None s) plain listed

  pub less-changes : (pids : List ℕ) (s : State) (set : Promises) (a : Promise) → RunsPlainly program_of pids (begun_with None s)
      → is_listed_in a (asked_in program_of pids (begun_with None s)) ≡ true → contains set a ≡ false → (a ≡ Rpath → contains set Wpath ≡ false)
      → (run program_of pids (begun_with (Some set) s)).lines ≢ (run program_of pids (begun_with None s)).lines
  less-changes pids s set a plain listed lacks wpath same =
      let reported = reported-run set a lacks wpath pids (begun_with None s) (begun-again None s) plain listed in
      let bad : true ≡ false =
      sym reported ∙ ap (λ y. reports_need (run program_of pids y).lines) (begun-again (Some set) s) ∙ ap reports_need same ∙ bare-run pids (begun_with None s) (begun-again None s) plain in
      cc bad
