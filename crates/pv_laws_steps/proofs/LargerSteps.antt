-- Steps and runs in a larger image.
use Rattle.std.proofs.Common.{◌≡◌, ℕ, pos, negsuc, Bool, true, false, not, List, ◌∷◌, ◌++◌, map, take, Option, None, Some, refl, ap, sym, subst, ◌∙◌, inr, ⊎_elim}
use Rattle.std.specs.List.{list_all}
use Rattle.std.proofs.lemmas.Bool.{and_parts, not-true}
use Rattle.std.proofs.lemmas.List.Folds.{list_all-append}
use Rattle.pv_model.specs.declared.call.Call.{Call}
use Rattle.pv_model.specs.declared.errno.Errno.{Errno}
use Rattle.pv_model.specs.declared.errno.Errno.TheVariants.{ENOSYS}
use Rattle.pv_model.specs.declared.outcome.Cause.{Cause}
use Rattle.pv_model.specs.declared.outcome.Cause.TheVariants.{Promise as ByPromise}
use Rattle.pv_model.specs.declared.outcome.Outcome.TheVariants.{Failed}
use Rattle.pv_model.specs.Machine.{Answered, answer, answer_of, answer_where, answer_by_attempt, at_next_line, with_front, update, effect, Attempt, done, refused, Bytes, with_result, end_process, Effect, returns, returns_bytes, ends, waits, errno_number, collect, needs, Next, inside, calls_for, next, missing_promise, Program, Process, State, process_at, step, step_of, step_by, Line, Word, line, call_word, nami_word, walked_paths, promise_words, unveil_words, moved_words, end_words, call_lines}
use Rattle.pv_laws_states.specs.States.{EncodesPrograms, IsValid}
use Rattle.pv_laws_states.proofs.AttemptValues.{Leads}
use Rattle.pv_laws_states.proofs.ValidBySteps.{good-effect, IsGoodNext, good-next}
use Rattle.pv_laws_states.proofs.ValidEnds.{tree-end}
use Rattle.pv_laws_states.proofs.CallOutcomes.{at_call, by_answer}
use Rattle.pv_laws_states.proofs.Processes.{process_at-same, tree-update}
use Rattle.pv_laws_states.proofs.ValidReplies.{IsEffect, valid-at_call}
use Rattle.pv_laws_steps.proofs.ChangedPairs.{moved, FitsCollect, ByChange, SteppedPair, IsApartTo, step-in_both_to}
use Rattle.pv_laws_steps.specs.Larger.{is_limit, is_limit_word, ReportsNoLimit}
use Rattle.pv_laws_steps.proofs.LargerCalls.{effect-follows}
use Rattle.pv_laws_steps.proofs.LargerAttempts.{enlarge, IsWithin, Follows, collect-within, collect-enlarge}

-- ---- lines with errors

abbrev quiet : Line → Bool
quiet l = not (is_limit_word l.word)

last-part : (xs ys : List Line) → list_all quiet (xs ++ ys) ≡ true → list_all quiet ys ≡ true
last-part xs ys all = (and_parts (list_all quiet xs) (list_all quiet ys) (sym (list_all-append quiet xs ys) ∙ all)).1

-- the last line of a call reports its error
call-reported : (pid : ℕ) (p : Process) (call : Call) (a : Answered) (errno : Errno) (cause : Cause) → list_all quiet (call_lines pid p call a) ≡ true → a.outcome ≡ Failed errno cause → is_limit errno ≡ false
unfolding call_lines
call-reported pid p call a errno cause all is =
    let report : Word → Line = line pid in
    let paths : List Line = map (λ path. line pid (nami_word path)) (take a.walks (walked_paths call)) in
    let ends : List Line = map report (end_words call a.outcome) in
    let moves : List Line = map report (moved_words a.after pid p call a.outcome) in
    let unveils : List Line = map report (unveil_words call a.walks a.outcome) in
    let promises : List Line = map report (promise_words call a.outcome) in
    let words = last-part (line pid (call_word call) ∷ paths ++ promises ++ unveils ++ moves) ends all in
    let reported : list_all quiet (map report (end_words call (Failed errno cause))) ≡ true = ap (λ o. list_all quiet (map report (end_words call o))) (sym is) ∙ words in
    not-true (is_limit errno) (and_parts (not (is_limit errno)) true reported).0

-- ---- the sizes of images

module _ (blocks inodes : ℕ) where
  abbrev Within : State → Type 0
  Within x = IsWithin blocks inodes x.tree

  within-update : (x : State) (pid : ℕ) (f : Process → Process) → Within x → Within (update x pid f)
  within-update x pid f is = subst (IsWithin blocks inodes) (sym (tree-update x pid f)) is

  within-end : (x : State) (pid : ℕ) (me : Process) (status : ℕ) → Within x → Within (collect (end_process x pid me status))
  within-end x pid me status is = collect-within blocks inodes (end_process x pid me status) (subst (IsWithin blocks inodes) (sym (tree-end x pid me status)) is)

  within-attempt : (s x : State) (pid : ℕ) (me : Process) (a b : Attempt Effect) → Within s → Within x → Follows blocks inodes a b → Within (answer_by_attempt s x pid me a).after
  within-attempt s x pid me (done walks (y, returns n)) b is now follows =
      collect-within blocks inodes (update y pid (λ p. with_result p (pos n) 0)) (within-update y pid (λ p. with_result p (pos n) 0) follows.0)
  within-attempt s x pid me (done walks (y, returns_bytes n bytes)) b is now follows =
      collect-within blocks inodes (update y pid (λ p. with_front bytes (with_result p (pos n) 0))) (within-update y pid (λ p. with_front bytes (with_result p (pos n) 0)) follows.0)
  within-attempt s x pid me (done walks (y, ends status)) b is now follows = within-end y pid me status follows.0
  within-attempt s x pid me (done walks (y, waits)) b is now follows = is
  within-attempt s x pid me (refused walks errno cause) b is now follows = within-update x pid (λ p. with_result p (negsuc 0) (errno_number errno)) now

  module _ (program_of : Bytes → Option Program) (encodes : EncodesPrograms program_of) (s : State) (pid : ℕ) (whole : IsValid s) (sized : Within s) where
    abbrev u : State
    u = enlarge blocks inodes s

    -- the call of a process at its next line
    abbrev now : Process → State
    now p = at_call s pid p

    abbrev tried : Process → Call → Attempt Effect
    tried p call = effect program_of (now p) pid (at_next_line p) call

    follows : (p : Process) (call : Call) → Follows blocks inodes (tried p call) (effect program_of (enlarge blocks inodes (now p)) pid (at_next_line p) call)
    follows p call = effect-follows blocks inodes (now p) whole.tree.well_formed sized pid (at_next_line p) program_of call

    within-answer : (call : Call) → Within (answer program_of s pid call).after
    within-answer call =
        by_answer (λ a. Within a.after) program_of s pid call
        (λ none. sized)
        (λ p at held. within-attempt s (now p) pid (at_next_line p) (tried p call) (effect program_of (enlarge blocks inodes (now p)) pid (at_next_line p) call) sized sized (follows p call))
        (λ p a at missing lenient. within-attempt s (now p) pid (at_next_line p) (refused 0 ENOSYS (ByPromise a)) (refused 0 ENOSYS (ByPromise a)) sized sized (inr refl))
        (λ p a at missing lenient. within-end s pid (at_next_line p) 6 sized)

    pub within-step : Within (step program_of s pid).after
    unfolding step
    within-step = by (process_at s pid)
      where
        by_next : (p : Process) (n : Next) → Within (step_by program_of s pid p n).after
        by_next p (inside q) = sized
        by_next p (calls_for call) = within-answer call

        by : (o : Option Process) → Within (step_of program_of s pid o).after
        by None = sized
        by (Some p) = by_next p (next p)

    -- ---- a step that reaches no limit

    -- the lines of a step report its refusal
    step-reported : (p : Process) (call : Call) (walks : ℕ) (errno : Errno) (cause : Cause) → process_at s pid ≡ Some p → next p ≡ calls_for call → missing_promise p.promises (needs call) ≡ None
        → ReportsNoLimit (step program_of s pid).lines → tried p call ≡ refused walks errno cause → is_limit errno ≡ false
    unfolding step answer
    step-reported p call walks errno cause at comes held quiet_step is =
        let outcome : (answer program_of s pid call).outcome ≡ Failed errno cause =
        ap (λ o. (answer_of program_of s pid call o).outcome) at
        ∙ ap (λ o. (answer_where program_of s (now p) pid (at_next_line p) call o).outcome) held
        ∙ ap (λ a. (answer_by_attempt s (now p) pid (at_next_line p) a).outcome) is in
        let lines : (step program_of s pid).lines ≡ call_lines pid p call (answer program_of s pid call) =
        ap (λ o. (step_of program_of s pid o).lines) at ∙ ap (λ n. (step_by program_of s pid p n).lines) comes in
        call-reported pid p call (answer program_of s pid call) errno cause (ap (list_all quiet) (sym lines) ∙ quiet_step) outcome

    end-enlarged : (x : State) (me : Process) (status : ℕ) → end_process (enlarge blocks inodes x) pid me status ≡ enlarge blocks inodes (end_process x pid me status)
    unfolding end_process
    end-enlarged x me status = refl

    abbrev Any : State → Type 0
    Any x = Unit {0}

    any-collect : (a : Attempt Effect) → FitsCollect Any a
    any-collect (done walks (x, returns n)) = tt
    any-collect (done walks (x, returns_bytes n bytes)) = tt
    any-collect (done walks (x, ends status)) = tt
    any-collect (done walks (x, waits)) = tt
    any-collect (refused walks errno cause) = tt

    -- an attempt that reaches no limit is the same
    moved-alike : (x : State) (a b : Attempt Effect) → Follows blocks inodes a b → Leads (IsEffect x) a → ((walks : ℕ) (errno : Errno) (cause : Cause) → a ≡ refused walks errno cause → is_limit errno ≡ false)
        → b ≡ moved (enlarge blocks inodes) Any a
    moved-alike x (done walks (y, returns n)) b is good none = is.1 good.0.solid.tree.well_formed.numbers
    moved-alike x (done walks (y, returns_bytes n bytes)) b is good none = is.1 tt
    moved-alike x (done walks (y, ends status)) b is good none = is.1 tt
    moved-alike x (done walks (y, waits)) b is good none = is.1 tt
    moved-alike x (refused walks errno cause) b is good none = ⊎_elim (λ limit. let isnt = none walks errno cause refl in cc) (λ same. same) is

    apart : (last : State) → IsApartTo (enlarge blocks inodes) Any pid last (ByChange (enlarge blocks inodes))
    apart last = record {
      there = λ x. refl;
      put = λ x p. refl;
      fit_put = λ x p fit. tt;
      ended = end-enlarged;
      fit_ended = λ x me status fit. tt;
      collects = λ x fit is. collect-enlarge blocks inodes x;
      changes = λ x. refl;
      seen = λ x y is. ap (λ z. process_at z pid) is;
    }

    pub step-alike : ReportsNoLimit (step program_of s pid).lines → SteppedPair (enlarge blocks inodes) (step program_of s pid) (step program_of u pid)
    step-alike none =
        let last : State = (step program_of s pid).after in
        step-in_both_to (enlarge blocks inodes) Any pid last (ByChange (enlarge blocks inodes)) (apart last) program_of s tt
        (λ p call at comes held.
        let good = good-effect program_of encodes (now p) pid (at_next_line p) call (valid-at_call s pid p whole at) (process_at-same s pid (at_next_line p)) (subst (IsGoodNext p) comes (good-next p (whole.processes.running pid p at))) in
        (moved-alike (now p) (tried p call) (effect program_of (enlarge blocks inodes (now p)) pid (at_next_line p) call) (follows p call) good (λ walks errno cause is. step-reported p call walks errno cause at comes held none is), any-collect (tried p call)))
        refl
