-- The lines of a step do not depend on the registers and the buffer of another process.
use Rattle.std.proofs.Common.{◌≡◌, ℕ, suc, pos, true, false, cond, ◌==◌, if◌then◌else◌, List, [], ◌∷◌, ◌++◌, map, filter, Option, None, Some, refl, ap, sym, subst, ◌∙◌, take, option_map, ap₂}
use Rattle.pv_model.specs.Machine.{Attempt, refused, Bytes, is_empty, Effect, returns, returns_bytes, ends, waits, status, collect, is_lenient, OpenFile, Program, Process, State, process_at, with_process, Tree, Answered, answer, answer_of, answer_where, answer_by_attempt, at_next_line, with_front, update_live, update, effect, done, with_result, end_process, parent_of, statuses, child, Reply, needs, Next, inside, calls_for, next, missing_promise, ProcessRecord, live, ended_record, live_process, step, step_of, step_by, Word, call_word, nami_word, gio_word, gave, Line, line, walked_paths, promise_words, unveil_words, end_words, moved_words, call_lines, buffer_of, Numbered}
use Rattle.std.specs.Ordering.{nat_cmp}
use Rattle.pv_model.specs.declared.call.Call.{Call}
use Rattle.pv_model.specs.declared.call.Call.TheVariants as TheCall
use Rattle.pv_model.specs.declared.errno.Errno.TheVariants.{ENOSYS}
use Rattle.pv_model.specs.declared.outcome.Outcome.{Outcome}
use Rattle.pv_model.specs.declared.outcome.Outcome.TheVariants as TheOutcome
use Rattle.pv_model.specs.declared.outcome.Cause.TheVariants.{Promise as ByPromise}
use Rattle.pv_model.specs.declared.promise.Promise.{Promise}
use Rattle.pv_model.specs.Answer.{answer_by_reply}
use Rattle.std.specs.FinMap.Entries.{put, where_key}
use Rattle.pv_laws_states.specs.Steps.{IsSameOutside, AreSameExceptInsides}
use Rattle.pv_laws_states.proofs.OtherInsides.{alike-find, alike-length, alike-put, alike-parent, AreSimilar, alike-where, similar-tree, similar-process}
use Rattle.pv_laws_states.proofs.CallOutcomes.{at_call}
use Rattle.pv_laws_states.proofs.Processes.{process_at-same}
use Rattle.pv_laws_states.proofs.RelatedAttempts.{AreBoth, both-kept, both-done, both-room}
use Rattle.pv_laws_states.proofs.RelatedCalls.{call-both}
use Rattle.pv_laws_states.proofs.RespectedParts.{OthersRespect, others-respect, same-own}

-- the children of a process, in similar lists
alike-children : (pid n : ℕ) (xs ys : List (ℕ × ProcessRecord)) → AreSameExceptInsides pid xs ys
    → (statuses (filter (λ r. parent_of r.1 == n) xs) ≡ statuses (filter (λ r. parent_of r.1 == n) ys)) × (is_empty (filter (λ r. parent_of r.1 == n) xs) ≡ is_empty (filter (λ r. parent_of r.1 == n) ys))
alike-children pid n [] [] is = (refl, refl)
alike-children pid n [] (y ∷ ys) is = absurd is
alike-children pid n (x ∷ xs) [] is = absurd is
alike-children pid n ((k, r) ∷ xs) ((j, q) ∷ ys) is =
    let rest = alike-children pid n xs ys is.3 in
    let as1 = filter (λ r. parent_of r.1 == n) xs in
    let bs1 = filter (λ r. parent_of r.1 == n) ys in
    subst (λ m. (statuses (cond (m == n) ((k, r) ∷ as1) as1) ≡ statuses (cond (parent_of q == n) ((j, q) ∷ bs1) bs1)) × (is_empty (cond (m == n) ((k, r) ∷ as1) as1) ≡ is_empty (cond (parent_of q == n) ((j, q) ∷ bs1) bs1)))
    (sym (alike-parent pid r q is.1))
    (elim (parent_of q == n) as (λ b. (statuses (cond b ((k, r) ∷ as1) as1) ≡ statuses (cond b ((j, q) ∷ bs1) bs1)) × (is_empty (cond b ((k, r) ∷ as1) as1) ≡ is_empty (cond b ((j, q) ∷ bs1) bs1))) [
      | true ↦ (head r q is.1 as1 bs1 rest.0, refl)
      | false ↦ rest
    ])
  where
    head : (r q : ProcessRecord) → IsSameOutside r q → (as1 bs1 : List (ℕ × ProcessRecord)) → statuses as1 ≡ statuses bs1 → statuses ((k, r) ∷ as1) ≡ statuses ((j, q) ∷ bs1)
    head (live p) (live o) same as1 bs1 rest = rest
    head (live p) (ended_record above status) same as1 bs1 rest = absurd same
    head (ended_record above status) (live o) same as1 bs1 rest = absurd same
    head (ended_record above status) (ended_record parent code) same as1 bs1 rest = λ i. (is.0 i, same.1 i) ∷ rest i

module _ (s : State) (pid : ℕ) (me : Process) (qs : List (ℕ × ProcessRecord)) (alike : AreSameExceptInsides pid qs s.processes) where
  abbrev other : State
  other = record s { processes = qs }

  abbrev R : State → State → Type 0
  R = AreSimilar pid

  put-similar : (t : Tree) (fs : Numbered OpenFile) (q : Process) → R (with_process (record s { tree = t; files = fs }) pid q) (with_process (record other { tree = t; files = fs }) pid q)
  put-similar t fs q = record { processes = put nat_cmp pid (live q) qs; same = refl; alike = alike-put pid pid (live q) qs s.processes alike }

  respects : OthersRespect (AreBoth R) R s qs pid me me
  respects =
      let kids = alike-children pid pid qs s.processes alike in
      record {
        all = both-kept R;
        does = both-done R;
        same = record { directory = refl; descriptors = refl; table = refl; locked = refl; parent = refl };
        left = λ t fs. record { processes = qs; same = refl; alike = alike };
        count = alike-length pid qs s.processes alike;
        forks = record { processes = put nat_cmp (suc s.last_process) (live (child s pid me)) qs; same = refl; alike = alike-put pid (suc s.last_process) (live (child s pid me)) qs s.processes alike };
        childless = kids.1;
        statuses = kids.0;
        reaps = λ test. record { processes = where_key nat_cmp test qs; same = refl; alike = alike-where pid test qs s.processes alike };
        enters = λ n. put-similar s.tree s.files (record me { directory = n });
        holds = λ t fs ds. put-similar t fs (record me { descriptors = ds });
      }

  same-effect : (program_of : Bytes → Option Program) (call : Call) → AreBoth R (effect program_of s pid me call) (effect program_of other pid me call)
  same-effect program_of call =
      call-both (λ ws. AreBoth R) program_of s other pid me me call
      (others-respect (AreBoth R) R s qs pid me me respects program_of call (both-room R (similar-tree pid)) (same-own (AreBoth R) R s qs pid me respects (put-similar s.tree s.files) program_of call) (λ d n is count few. refl))

-- ---- the lines of a step

pub record IsReportedAlike (pid : ℕ) (a b : Answered) : Type 0 where
  pub outcome : a.outcome ≡ b.outcome
  pub walks : a.walks ≡ b.walks
  pub buffer : (n len : ℕ) → b.outcome ≡ TheOutcome.Text (record { value = n; len = len }) → process_at a.after pid ≡ process_at b.after pid

update-same : (x y : State) (pid : ℕ) (f : Process → Process) → process_at x pid ≡ process_at y pid → process_at (update x pid f) pid ≡ process_at (update y pid f) pid
update-same x y pid f same = changed x ∙ ap (Rattle.std.specs.Prelude.option_map f) same ∙ sym (changed y)
  where
    changed : (z : State) → process_at (update z pid f) pid ≡ Rattle.std.specs.Prelude.option_map f (process_at z pid)
    changed z = by (process_at z pid) refl
      where
        by : (o : Option Process) → process_at z pid ≡ o → process_at (update_live z pid f o) pid ≡ Rattle.std.specs.Prelude.option_map f o
        by None none = none
        by (Some p) there = process_at-same z pid (f p)

reported-done : (b c x y s t : State) (pid : ℕ) (me : Process) (w : ℕ) (r : Reply) → process_at x pid ≡ process_at y pid
    → IsReportedAlike pid (answer_by_reply b s pid me w r x) (answer_by_reply c t pid me w r y)
unfolding collect
reported-done b c x y s t pid me w (returns n) same = record { outcome = refl; walks = refl; buffer = λ m len is. cc }
reported-done b c x y s t pid me w (returns_bytes n bytes) same = record { outcome = refl; walks = refl; buffer = λ m len is. update-same x y pid (λ p. with_front bytes (with_result p (pos n) 0)) same }
reported-done b c x y s t pid me w (ends status) same = record { outcome = refl; walks = refl; buffer = λ m len is. cc }
reported-done b c x y s t pid me w waits same = record { outcome = refl; walks = refl; buffer = λ m len is. cc }

reported-alike : (b c s t : State) (pid : ℕ) (me : Process) (a d : Attempt Effect) → AreBoth (AreSimilar pid) d a → IsReportedAlike pid (answer_by_attempt b s pid me a) (answer_by_attempt c t pid me d)
reported-alike b c s t pid me a (done w (y, r)) is =
    subst (λ z. IsReportedAlike pid (answer_by_attempt b s pid me z) (answer_by_reply c t pid me w r y)) (sym is.by.1) (reported-done b c is.by.0 y s t pid me w r (similar-process pid y is.by.0 is.by.2))
reported-alike b c s t pid me a (refused w e g) is =
    subst (λ z. IsReportedAlike pid (answer_by_attempt b s pid me z) (answer_by_attempt c t pid me (refused w e g))) (sym is.by) (record { outcome = refl; walks = refl; buffer = λ m len said. cc })

moved-alike : (x y : State) (pid : ℕ) (p : Process) (call : Call) (o : Outcome) → ((n len : ℕ) → o ≡ TheOutcome.Text (record { value = n; len = len }) → process_at x pid ≡ process_at y pid)
    → moved_words x pid p call o ≡ moved_words y pid p call o
moved-alike x y pid p call (TheOutcome.Text taken) same = ap (λ (q : Option Process). gio_word gave (Rattle.std.specs.Prelude.take taken.len (buffer_of q)) ∷ []) (same taken.value taken.len refl)
moved-alike x y pid p (TheCall.Write d n) (TheOutcome.Value count) same = refl
moved-alike x y pid p call o same = refl

-- the lines of a call, given those that report bytes
abbrev lines_with : ℕ → Process → Call → ℕ → Outcome → List Word → List Line
lines_with pid p call walks o moved =
    line pid (call_word call)
    ∷ map (λ path. line pid (nami_word path)) (take walks (walked_paths call))
    ++ map (line pid) (promise_words call o)
    ++ map (line pid) (unveil_words call walks o)
    ++ map (line pid) moved
    ++ map (line pid) (end_words call o)

pub lines-alike : (pid : ℕ) (p : Process) (call : Call) (a b : Answered) → IsReportedAlike pid a b → call_lines pid p call a ≡ call_lines pid p call b
unfolding call_lines
lines-alike pid p call a b is =
    ap₂ (λ o w. call_lines pid p call (record { after = a.after; outcome = o; walks = w })) is.outcome is.walks
    ∙ ap (lines_with pid p call b.walks b.outcome) (moved-alike a.after b.after pid p call b.outcome is.buffer)

module _ (program_of : Bytes → Option Program) (s : State) (pid : ℕ) (others : List (ℕ × ProcessRecord)) (alike : AreSameExceptInsides pid others s.processes) where
  abbrev changed : State
  changed = record s { processes = others }

  reported-where : (p : Process) (call : Call) (o : Option Promise)
      → IsReportedAlike pid (answer_where program_of changed (at_call changed pid p) pid (at_next_line p) call o) (answer_where program_of s (at_call s pid p) pid (at_next_line p) call o)
  reported-where p call None =
      reported-alike changed s (at_call changed pid p) (at_call s pid p) pid (at_next_line p) (effect program_of (at_call changed pid p) pid (at_next_line p) call) (effect program_of (at_call s pid p) pid (at_next_line p) call)
      (same-effect (at_call s pid p) pid (at_next_line p) (put nat_cmp pid (live (at_next_line p)) others) (alike-put pid pid (live (at_next_line p)) others s.processes alike) program_of call)
  reported-where p call (Some q) =
      elim (is_lenient p.promises) as (λ b. IsReportedAlike pid
      (if b then answer_by_attempt changed (at_call changed pid p) pid (at_next_line p) (refused 0 ENOSYS (ByPromise q)) else record { after = collect (end_process changed pid (at_next_line p) 6); outcome = TheOutcome.Killed q; walks = 0 })
      (if b then answer_by_attempt s (at_call s pid p) pid (at_next_line p) (refused 0 ENOSYS (ByPromise q)) else record { after = collect (end_process s pid (at_next_line p) 6); outcome = TheOutcome.Killed q; walks = 0 })) [
        | true ↦ record { outcome = refl; walks = refl; buffer = λ m len said. cc }
        | false ↦ record { outcome = refl; walks = refl; buffer = λ m len said. cc }
      ]

  reported-answer : (p : Process) (call : Call) → process_at s pid ≡ Some p → IsReportedAlike pid (answer program_of changed pid call) (answer program_of s pid call)
  unfolding answer
  reported-answer p call at =
      subst (λ o. IsReportedAlike pid (answer_of program_of changed pid call o) (answer_of program_of s pid call (process_at s pid))) (sym (ap live_process (alike-find pid others s.processes alike) ∙ at))
      (subst (λ o. IsReportedAlike pid (answer_of program_of changed pid call (Some p)) (answer_of program_of s pid call o)) (sym at)
      (reported-where p call (missing_promise p.promises (needs call))))

  next-alike : (p : Process) → process_at s pid ≡ Some p → (n : Next) → (step_by program_of changed pid p n).lines ≡ (step_by program_of s pid p n).lines
  next-alike p at (inside q) = refl
  next-alike p at (calls_for call) = lines-alike pid p call (answer program_of changed pid call) (answer program_of s pid call) (reported-answer p call at)

  step-alike : (o : Option Process) → process_at s pid ≡ o → (step_of program_of changed pid o).lines ≡ (step_of program_of s pid o).lines
  step-alike None at = refl
  step-alike (Some p) at = next-alike p at (next p)

pub ignores-others : (program_of : Bytes → Option Program) (s : State) (pid : ℕ) (others : List (ℕ × ProcessRecord)) → AreSameExceptInsides pid others s.processes
    → (step program_of (record s { processes = others }) pid).lines ≡ (step program_of s pid).lines
unfolding step
ignores-others program_of s pid others alike =
    ap (λ (o : Option Process). (step_of program_of (record s { processes = others }) pid o).lines) (ap live_process (alike-find pid others s.processes alike))
    ∙ step-alike program_of s pid others alike (process_at s pid) refl
