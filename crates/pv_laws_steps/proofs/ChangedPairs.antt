-- Attempts, answers and steps in a state and in a changed one, for any kind of change.
use Rattle.std.proofs.Common.{◌≡◌, ℕ, pos, negsuc, Bool, true, false, cond, not, if◌then◌else◌, Option, None, Some, refl, ap, sym, subst, ◌∙◌}
use Rattle.pv_model.specs.declared.call.Call.{Call}
use Rattle.pv_model.specs.declared.errno.Errno.{Errno}
use Rattle.pv_model.specs.declared.errno.Errno.TheVariants.{EFBIG, ENOSPC, ENOSYS}
use Rattle.pv_model.specs.declared.outcome.Cause.{Cause}
use Rattle.pv_model.specs.declared.outcome.Cause.TheVariants.{Promise as ByPromise}
use Rattle.pv_model.specs.declared.outcome.Outcome.TheVariants.{Killed}
use Rattle.pv_model.specs.declared.promise.Promise.{Promise}
use Rattle.pv_model.specs.Machine.{Answered, answer, answer_of, answer_where, answer_by_attempt, at_next_line, with_front, update_live, update, effect, Attempt, done, refused, after_walks, ◌>>=◌, ◌>>◌, give, refuse_if, Bytes, with_result, end_process, Effect, Reply, returns, returns_bytes, ends, waits, answers, with_room, errno_number, collect, needs, Next, inside, calls_for, next, missing_promise, is_lenient, is_too_long, fits, Program, Process, State, process_at, with_process, Stepped, step, step_of, step_by, Tree}
use Rattle.pv_model.specs.Answer.{answer_by_reply, answer_without_promise}
use Rattle.pv_laws_states.proofs.OtherInsidesCalls.{IsReportedAlike, lines-alike}
use Rattle.pv_laws_states.proofs.CallOutcomes.{at_call}

-- ---- attempts

-- two trees have room, or neither has
pub record HaveRoomAlike (t u : Tree) : Type 0 where
  pub long : is_too_long u ≡ is_too_long t
  pub fit : fits u ≡ fits t

pub same-room : (t u : Tree) → u ≡ t → HaveRoomAlike t u
same-room t u is = record { long = ap is_too_long is; fit = ap fits is }

-- states are changed by `change` if they satisfy `Fit`
module _ (change : State → State) (Fit : State → Type 0) where
  -- a state and its changed state
  pub record AreChangedPair (x y : State) : Type 0 where
    pub same : y ≡ change x
    pub fit : Fit x

  abbrev pub moved : Attempt Effect → Attempt Effect
  moved (done walks (x, r)) = done walks (change x, r)
  moved (refused walks errno cause) = refused walks errno cause

  abbrev pub FitsIn : Attempt Effect → Type 0
  FitsIn (done walks (x, r)) = Fit x
  FitsIn (refused walks errno cause) = Unit {0}

  -- an attempt and the same attempt in the changed state
  pub record ChangedPair (a b : Attempt Effect) : Type 0 where
    pub same : b ≡ moved a
    pub fit : FitsIn a

  moved-after : (n : ℕ) (a : Attempt Effect) → after_walks n (moved a) ≡ moved (after_walks n a)
  moved-after n (done walks (x, r)) = refl
  moved-after n (refused walks errno cause) = refl

  fits-after : (n : ℕ) (a : Attempt Effect) → FitsIn a → FitsIn (after_walks n a)
  fits-after n (done walks (x, r)) is = is
  fits-after n (refused walks errno cause) is = tt

  pub after-in_both : (n : ℕ) (a b : Attempt Effect) → ChangedPair a b → ChangedPair (after_walks n a) (after_walks n b)
  after-in_both n a b is = record { same = ap (after_walks n) is.same ∙ moved-after n a; fit = fits-after n a is.fit }

  pub bind-in_both : {B : Type 0} (a : Attempt B) (g h : B → Attempt Effect) → ((v : B) → ChangedPair (g v) (h v)) → ChangedPair (a >>= g) (a >>= h)
  bind-in_both (done walks v) g h is = after-in_both walks (g v) (h v) (is v)
  bind-in_both (refused walks errno cause) g h is = record { same = refl; fit = tt }

  pub then-in_both : {B : Type 0} (a : Attempt B) (g h : Attempt Effect) → ChangedPair g h → ChangedPair (a >> g) (a >> h)
  then-in_both (done walks v) g h is = after-in_both walks g h is
  then-in_both (refused walks errno cause) g h is = record { same = refl; fit = tt }

  pub cond-in_both : (b : Bool) (x y v w : Attempt Effect) → ChangedPair x v → ChangedPair y w → ChangedPair (cond b x y) (cond b v w)
  cond-in_both true x y v w is other = is
  cond-in_both false x y v w is other = other

  pub done-in_both : (n : ℕ) (r : Reply) (x y : State) → AreChangedPair x y → ChangedPair (done n (x, r)) (done n (y, r))
  done-in_both n r x y is = record { same = ap (λ z. done n (z, r)) is.same; fit = is.fit }

  pub refused-in_both : (n : ℕ) (e : Errno) (c : Cause) → ChangedPair (refused n e c) (refused n e c)
  refused-in_both n e c = record { same = refl; fit = tt }

  pub cond-state : (b : Bool) (x y v w : State) → AreChangedPair x v → AreChangedPair y w → AreChangedPair (cond b x y) (cond b v w)
  cond-state true x y v w is more = is
  cond-state false x y v w is more = more

  -- a check for room that has the same result in both states
  pub room-in_both : (x y : State) (n : ℕ) → AreChangedPair x y → HaveRoomAlike (collect x).tree (collect (change x)).tree → ChangedPair (with_room x >>= (λ roomy. answers roomy n)) (with_room y >>= (λ roomy. answers roomy n))
  room-in_both x y n is alike =
      subst (λ z. ChangedPair (with_room x >>= (λ roomy. answers roomy n)) (with_room z >>= (λ roomy. answers roomy n))) (sym is.same)
      (subst (λ l. ChangedPair (with_room x >>= (λ roomy. answers roomy n)) ((refuse_if EFBIG l >> (refuse_if ENOSPC (not (fits (collect (change x)).tree)) >> give (change x))) >>= (λ roomy. answers roomy n))) (sym alike.long)
      (subst (λ m. ChangedPair (with_room x >>= (λ roomy. answers roomy n)) ((refuse_if EFBIG (is_too_long (collect x).tree) >> (refuse_if ENOSPC (not m) >> give (change x))) >>= (λ roomy. answers roomy n))) (sym alike.fit)
      (by (is_too_long (collect x).tree) (fits (collect x).tree))))
    where
      by : (long fit : Bool) → ChangedPair ((refuse_if EFBIG long >> (refuse_if ENOSPC (not fit) >> give x)) >>= (λ roomy. answers roomy n))
          ((refuse_if EFBIG long >> (refuse_if ENOSPC (not fit) >> give (change x))) >>= (λ roomy. answers roomy n))
      by true fit = record { same = refl; fit = tt }
      by false true = record { same = refl; fit = is.fit }
      by false false = record { same = refl; fit = tt }

-- ---- answers and steps

-- two answers are the same, and the next states are related
pub record AnsweredTo (After : State → State → Type 0) (a b : Answered) : Type 0 where
  pub after : After a.after b.after
  pub outcome : b.outcome ≡ a.outcome
  pub walks : b.walks ≡ a.walks

-- two steps are the same, and the next states are related
pub record SteppedTo (After : State → State → Type 0) (a b : Stepped) : Type 0 where
  pub outcome : b.outcome ≡ a.outcome
  pub lines : b.lines ≡ a.lines
  pub after : After a.after b.after

-- the next states differ by the change
abbrev pub ByChange : (State → State) → State → State → Type 0
ByChange change x y = y ≡ change x

abbrev pub AnsweredPair : (State → State) → Answered → Answered → Type 0
AnsweredPair change = AnsweredTo (ByChange change)

abbrev pub SteppedPair : (State → State) → Stepped → Stepped → Type 0
SteppedPair change = SteppedTo (ByChange change)

-- a change that leaves process `pid` and its operations unchanged, up to collection in the final state
pub record IsApartTo (change : State → State) (Fit : State → Type 0) (pid : ℕ) (last : State) (After : State → State → Type 0) : Type 0 where
  pub there : (x : State) → process_at (change x) pid ≡ process_at x pid
  pub put : (x : State) (p : Process) → with_process (change x) pid p ≡ change (with_process x pid p)
  pub fit_put : (x : State) (p : Process) → Fit x → Fit (with_process x pid p)
  pub ended : (x : State) (me : Process) (status : ℕ) → end_process (change x) pid me status ≡ change (end_process x pid me status)
  pub fit_ended : (x : State) (me : Process) (status : ℕ) → Fit x → Fit (end_process x pid me status)
  pub collects : (x : State) → Fit x → collect x ≡ last → After (collect x) (collect (change x))
  pub changes : (x : State) → After x (change x)
  pub seen : (x y : State) → After x y → process_at y pid ≡ process_at x pid

-- a change that leaves process `pid` and its operations unchanged
pub record IsApart (change : State → State) (Fit : State → Type 0) (pid : ℕ) : Type 0 where
  pub there : (x : State) → process_at (change x) pid ≡ process_at x pid
  pub put : (x : State) (p : Process) → with_process (change x) pid p ≡ change (with_process x pid p)
  pub fit_put : (x : State) (p : Process) → Fit x → Fit (with_process x pid p)
  pub ended : (x : State) (me : Process) (status : ℕ) → end_process (change x) pid me status ≡ change (end_process x pid me status)
  pub fit_ended : (x : State) (me : Process) (status : ℕ) → Fit x → Fit (end_process x pid me status)
  pub collects : (x : State) → Fit x → collect (change x) ≡ change (collect x)

apart-to : (change : State → State) (Fit : State → Type 0) (pid : ℕ) (last : State) → IsApart change Fit pid → IsApartTo change Fit pid last (ByChange change)
apart-to change Fit pid last apart = record {
  there = apart.there;
  put = apart.put;
  fit_put = apart.fit_put;
  ended = apart.ended;
  fit_ended = apart.fit_ended;
  collects = λ x fit is. apart.collects x fit;
  changes = λ x. refl;
  seen = λ x y is. ap (λ z. process_at z pid) is ∙ apart.there x;
}

-- the collected state after an attempt satisfies `Fit`
abbrev pub FitsReply : (State → Type 0) → Reply → State → Type 0
FitsReply Fit (returns n) x = Fit x
FitsReply Fit (returns_bytes n bytes) x = Fit x
FitsReply Fit (ends status) x = Fit x
FitsReply Fit waits x = Unit {0}

abbrev pub FitsCollect : (State → Type 0) → Attempt Effect → Type 0
FitsCollect Fit (done walks (x, r)) = FitsReply Fit r x
FitsCollect Fit (refused walks e c) = Unit {0}

fits-collect : (change : State → State) (Fit : State → Type 0) (a : Attempt Effect) → FitsIn change Fit a → FitsCollect Fit a
fits-collect change Fit (done walks (x, returns n)) fit = fit
fits-collect change Fit (done walks (x, returns_bytes n bytes)) fit = fit
fits-collect change Fit (done walks (x, ends status)) fit = fit
fits-collect change Fit (done walks (x, waits)) fit = tt
fits-collect change Fit (refused walks e c) fit = tt

module _ (change : State → State) (Fit : State → Type 0) (pid : ℕ) (last : State) (After : State → State → Type 0) (apart : IsApartTo change Fit pid last After) where
  abbrev To : Answered → Answered → Type 0
  To = AnsweredTo After

  updated : (x : State) (g : Process → Process) → update (change x) pid g ≡ change (update x pid g)
  updated x g = ap (update_live (change x) pid g) (apart.there x) ∙ by (process_at x pid)
    where
      by : (o : Option Process) → update_live (change x) pid g o ≡ change (update_live x pid g o)
      by None = refl
      by (Some p) = apart.put x (g p)

  fit-updated : (x : State) (g : Process → Process) → Fit x → Fit (update x pid g)
  fit-updated x g fit = by (process_at x pid)
    where
      by : (o : Option Process) → Fit (update_live x pid g o)
      by None = fit
      by (Some p) = apart.fit_put x (g p) fit

  collected-to : (x : State) (g : Process → Process) → Fit x → collect (update x pid g) ≡ last → After (collect (update x pid g)) (collect (update (change x) pid g))
  collected-to x g fit is = subst (λ z. After (collect (update x pid g)) (collect z)) (sym (updated x g)) (apart.collects (update x pid g) (fit-updated x g fit) is)

  collected-end : (x : State) (me : Process) (status : ℕ) → Fit x → collect (end_process x pid me status) ≡ last → After (collect (end_process x pid me status)) (collect (end_process (change x) pid me status))
  collected-end x me status fit is =
      subst (λ z. After (collect (end_process x pid me status)) (collect z)) (sym (apart.ended x me status)) (apart.collects (end_process x pid me status) (apart.fit_ended x me status fit) is)

  left-by : (x y : State) → y ≡ change x → After x y
  left-by x y is = subst (After x) (sym is) (apart.changes x)

  reply-in_both : (before s : State) (me : Process) (walks : ℕ) (r : Reply) (x : State) → FitsReply Fit r x → (answer_by_reply before s pid me walks r x).after ≡ last
      → To (answer_by_reply before s pid me walks r x) (answer_by_reply (change before) (change s) pid me walks r (change x))
  reply-in_both before s me walks (returns n) x fit is = record { after = collected-to x (λ p. with_result p (pos n) 0) fit is; outcome = refl; walks = refl }
  reply-in_both before s me walks (returns_bytes n bytes) x fit is = record { after = collected-to x (λ p. with_front bytes (with_result p (pos n) 0)) fit is; outcome = refl; walks = refl }
  reply-in_both before s me walks (ends status) x fit is = record { after = collected-end x me status fit is; outcome = refl; walks = refl }
  reply-in_both before s me walks waits x fit is = record { after = apart.changes before; outcome = refl; walks = refl }

  attempt-in_both : (before s : State) (me : Process) (a : Attempt Effect) → FitsCollect Fit a → (answer_by_attempt before s pid me a).after ≡ last
      → To (answer_by_attempt before s pid me a) (answer_by_attempt (change before) (change s) pid me (moved change Fit a))
  attempt-in_both before s me (done walks (x, r)) fit is = reply-in_both before s me walks r x fit is
  attempt-in_both before s me (refused walks e c) fit is =
      let g : Process → Process = λ p. with_result p (negsuc 0) (errno_number e) in record { after = left-by (update s pid g) (update (change s) pid g) (updated s g); outcome = refl; walks = refl }

  -- if the call of a step follows the change, the step follows it too
  module _ (program_of : Bytes → Option Program) (s : State) (fit : Fit s)
      (rows : (p : Process) (call : Call) → process_at s pid ≡ Some p → next p ≡ calls_for call → missing_promise p.promises (needs call) ≡ None
      → (effect program_of (change (at_call s pid p)) pid (at_next_line p) call ≡ moved change Fit (effect program_of (at_call s pid p) pid (at_next_line p) call))
      × FitsCollect Fit (effect program_of (at_call s pid p) pid (at_next_line p) call)) where
    abbrev u : State
    u = change s

    module _ (p : Process) (call : Call) (at : process_at s pid ≡ Some p) (comes : next p ≡ calls_for call) where
      abbrev x : State
      x = at_call s pid p

      abbrev now : Process
      now = at_next_line p

      does-in_both : missing_promise p.promises (needs call) ≡ None → (answer_by_attempt s x pid now (effect program_of x pid now call)).after ≡ last
          → To (answer_by_attempt s x pid now (effect program_of x pid now call)) (answer_by_attempt u (at_call u pid p) pid now (effect program_of (at_call u pid p) pid now call))
      does-in_both held is =
          let both = rows p call at comes held in
          subst (λ y. To (answer_by_attempt s x pid now (effect program_of x pid now call)) (answer_by_attempt u y pid now (effect program_of y pid now call))) (sym (apart.put s now))
          (subst (λ a. To (answer_by_attempt s x pid now (effect program_of x pid now call)) (answer_by_attempt u (change x) pid now a)) (sym both.0)
          (attempt-in_both s x now (effect program_of x pid now call) both.1 is))

      missing-in_both : (a : Promise) → (answer_without_promise s x pid now a).after ≡ last → To (answer_without_promise s x pid now a) (answer_without_promise u (at_call u pid p) pid now a)
      missing-in_both a = by (is_lenient p.promises)
        where
          reported : (y : State) → y ≡ change x → (answer_by_attempt s x pid now (refused 0 ENOSYS (ByPromise a))).after ≡ last
              → To (answer_by_attempt s x pid now (refused 0 ENOSYS (ByPromise a))) (answer_by_attempt u y pid now (refused 0 ENOSYS (ByPromise a)))
          reported y same is =
              subst (λ z. To (answer_by_attempt s x pid now (refused 0 ENOSYS (ByPromise a))) (answer_by_attempt u z pid now (refused 0 ENOSYS (ByPromise a)))) (sym same)
              (attempt-in_both s x now (refused 0 ENOSYS (ByPromise a)) tt is)

          by : (b : Bool) → (if b then answer_by_attempt s x pid now (refused 0 ENOSYS (ByPromise a)) else record { after = collect (end_process s pid now 6); outcome = Killed a; walks = 0 }).after ≡ last
              → To (if b then answer_by_attempt s x pid now (refused 0 ENOSYS (ByPromise a)) else record { after = collect (end_process s pid now 6); outcome = Killed a; walks = 0 })
              (if b then answer_by_attempt u (at_call u pid p) pid now (refused 0 ENOSYS (ByPromise a)) else record { after = collect (end_process u pid now 6); outcome = Killed a; walks = 0 })
          by true is = reported (at_call u pid p) (apart.put s now) is
          by false is = record { after = collected-end s now 6 fit is; outcome = refl; walks = refl }

      where-in_both : (o : Option Promise) → missing_promise p.promises (needs call) ≡ o → (answer_where program_of s x pid now call o).after ≡ last → To (answer_where program_of s x pid now call o) (answer_where program_of u (at_call u pid p) pid now call o)
      where-in_both None held is = does-in_both held is
      where-in_both (Some a) missing is = missing-in_both a is

      answer-in_both : (answer program_of s pid call).after ≡ last → To (answer program_of s pid call) (answer program_of u pid call)
      unfolding answer
      answer-in_both is =
          subst (λ o. To (answer_of program_of s pid call o) (answer program_of u pid call)) (sym at)
          (subst (λ o. To (answer_of program_of s pid call (Some p)) (answer_of program_of u pid call o)) (sym (apart.there s ∙ at))
          (where-in_both (missing_promise p.promises (needs call)) refl (sym (ap (λ o. (answer_of program_of s pid call o).after) at) ∙ is)))

      reported-alike : (answer program_of s pid call).after ≡ last → IsReportedAlike pid (answer program_of u pid call) (answer program_of s pid call)
      reported-alike is =
          let both = answer-in_both is in
          record {
            outcome = both.outcome;
            walks = both.walks;
            buffer = λ n len reported. apart.seen (answer program_of s pid call).after (answer program_of u pid call).after both.after;
          }

    by-next : (p : Process) → process_at s pid ≡ Some p → (n : Next) → next p ≡ n → (step_by program_of s pid p n).after ≡ last → SteppedTo After (step_by program_of s pid p n) (step_by program_of u pid p n)
    by-next p at (inside q) comes is = record { outcome = refl; lines = refl; after = left-by (with_process s pid q) (with_process u pid q) (apart.put s q) }
    by-next p at (calls_for call) comes is =
        let both = answer-in_both p call at comes is in
        record { outcome = both.outcome; lines = lines-alike pid p call (answer program_of u pid call) (answer program_of s pid call) (reported-alike p call at comes is); after = both.after }

    pub step-in_both_to : (step program_of s pid).after ≡ last → SteppedTo After (step program_of s pid) (step program_of u pid)
    unfolding step
    step-in_both_to is = subst (λ o. SteppedTo After (step_of program_of s pid (process_at s pid)) (step_of program_of u pid o)) (sym (apart.there s)) (by (process_at s pid) refl is)
      where
        by : (o : Option Process) → process_at s pid ≡ o → (step_of program_of s pid o).after ≡ last → SteppedTo After (step_of program_of s pid o) (step_of program_of u pid o)
        by None gone is = record { outcome = refl; lines = refl; after = apart.changes s }
        by (Some p) at is = by-next p at (next p) refl is

module _ (change : State → State) (Fit : State → Type 0) (pid : ℕ) (apart : IsApart change Fit pid) where
  pub collected-update : (x : State) (g : Process → Process) → Fit x → collect (update (change x) pid g) ≡ change (collect (update x pid g))
  collected-update x g fit = let last : State = collect (update x pid g) in collected-to change Fit pid last (ByChange change) (apart-to change Fit pid last apart) x g fit refl

  pub step-in_both : (program_of : Bytes → Option Program) (s : State) → Fit s
      → ((p : Process) (call : Call) → process_at s pid ≡ Some p → next p ≡ calls_for call
      → ChangedPair change Fit (effect program_of (at_call s pid p) pid (at_next_line p) call) (effect program_of (change (at_call s pid p)) pid (at_next_line p) call))
      → SteppedPair change (step program_of s pid) (step program_of (change s) pid)
  step-in_both program_of s fit rows =
      let last : State = (step program_of s pid).after in
      step-in_both_to change Fit pid last (ByChange change) (apart-to change Fit pid last apart) program_of s fit
      (λ p call at comes held. let both = rows p call at comes in (both.same, fits-collect change Fit (effect program_of (at_call s pid p) pid (at_next_line p) call) both.fit)) refl
