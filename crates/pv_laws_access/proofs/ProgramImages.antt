-- Steps and runs in one program image, forks and execves.
use Rattle.std.proofs.Common.{◌≡◌, ◌≢◌, ℕ, suc, pos, Bool, true, false, ◌&&◌, ◌||◌, if◌then◌else◌, nat_le, nat_lt, List, [], ◌∷◌, length, Option, None, Some, is_some, refl, ap, sym, subst, ◌∙◌, ⊎_elim}
use Rattle.std.proofs.lemmas.Bool.{cases_eq}
use Rattle.pv_model.specs.declared.call.Call.{Call}
use Rattle.pv_model.specs.declared.call.Call.TheVariants.{Execve, Fork}
use Rattle.pv_model.specs.declared.errno.Errno.TheVariants.{EAGAIN, ENOENT, EACCES, ENOEXEC}
use Rattle.pv_model.specs.declared.follow.Follow.TheVariants.{Last}
use Rattle.pv_model.specs.declared.outcome.Outcome.TheVariants.{Value}
use Rattle.pv_model.specs.Machine.{Answered, answer, answer_by_attempt, at_next_line, update, effect, Attempt, done, refused, ◌>>◌, refuse_if, Bytes, with_result, child, fork, with_program, executable_bytes, execve, Effect, returns, returns_bytes, ends, waits, answers, node_of, collect, permission_x, Next, inside, calls_for, next, Program, Process, State, process_at, with_process, Stepped, step, step_by, run, node_at, is_unveil}
use Rattle.pv_laws_states.specs.States.{EncodesPrograms, IsValid}
use Rattle.pv_laws_states.proofs.AttemptValues.{Leads, leads-demand, leads-place}
use Rattle.pv_laws_states.proofs.ValidBySteps.{step-keeps_valid}
use Rattle.pv_laws_states.proofs.CallOutcomes.{at_call, by_answer}
use Rattle.pv_laws_states.proofs.Processes.{process_at-same, process_at-other}
use Rattle.pv_laws_states.proofs.CallRemainders
use Rattle.pv_laws_access.specs.Growth.{HasNoMoreRights, HasSameRights, IsInOrder, IsUnchangedExceptParent, begins_image, HasExecuted, StaysInImage}
use Rattle.pv_laws_access.proofs.ImageGrowth.{preserved, other-preserved}
use Rattle.pv_laws_access.proofs.ProcessesAfterEnds.{alone-itself, alone-same, process_at-collect, update-live, update-other, valid-in_order, IsSameNext, same-next, step-is, step-gone}
use Rattle.pv_laws_access.proofs.NarrowedRestraints.{no_more-along, no_more-same, no_more-of_same}

-- ---- steps

pub grows-never : (program_of : Bytes → Option Program) (s : State) (pid : ℕ) (p q : Process) → IsInOrder s → process_at s pid ≡ Some p → process_at (step program_of s pid).after pid ≡ Some q
    → begins_image (next p) (step program_of s pid).outcome ≡ false → HasNoMoreRights p q
grows-never program_of s pid p q order at there quiet =
    let is = step-is program_of s pid p at in
    by (next p) (same-next p) (subst (λ (w : Stepped). process_at w.after pid ≡ Some q) is there) (subst (λ (w : Stepped). begins_image (next p) w.outcome ≡ false) is quiet)
  where
    by : (n : Next) → IsSameNext p n → process_at (step_by program_of s pid p n).after pid ≡ Some q → begins_image n (step_by program_of s pid p n).outcome ≡ false → HasNoMoreRights p q
    by (inside r) same left none = let now : Some r ≡ Some q = sym (process_at-same s pid r) ∙ left in let eq : r ≡ q = cc now in subst (HasNoMoreRights p) eq (no_more-of_same p r same.0)
    by (calls_for call) same left none = (preserved program_of s pid order p at call q left none).0

-- a call other than unveil leaves the table and the lock unchanged
pub tables-stay : (program_of : Bytes → Option Program) (s : State) (pid : ℕ) (p q : Process) → IsInOrder s → process_at s pid ≡ Some p → process_at (step program_of s pid).after pid ≡ Some q
    → begins_image (next p) (step program_of s pid).outcome ≡ false → ((call : Call) → next p ≡ calls_for call → is_unveil call ≡ false) → (q.table ≡ p.table) × (q.locked ≡ p.locked)
tables-stay program_of s pid p q order at there quiet others =
    let is = step-is program_of s pid p at in
    by (next p) refl (same-next p) (subst (λ (w : Stepped). process_at w.after pid ≡ Some q) is there) (subst (λ (w : Stepped). begins_image (next p) w.outcome ≡ false) is quiet)
  where
    by : (n : Next) → next p ≡ n → IsSameNext p n → process_at (step_by program_of s pid p n).after pid ≡ Some q → begins_image n (step_by program_of s pid p n).outcome ≡ false
        → (q.table ≡ p.table) × (q.locked ≡ p.locked)
    by (inside r) which same left none =
        let now : Some r ≡ Some q = sym (process_at-same s pid r) ∙ left in let eq : r ≡ q = cc now in subst (λ (x : Process). (x.table ≡ p.table) × (x.locked ≡ p.locked)) eq (same.0.table, same.0.locked)
    by (calls_for call) which same left none = (preserved program_of s pid order p at call q left none).1 (others call which)

pub others-keep : (program_of : Bytes → Option Program) (s : State) (pid other : ℕ) (p : Process) → IsInOrder s → other ≢ pid → process_at s other ≡ Some p
    → (q : Process) × (process_at (step program_of s pid).after other ≡ Some q) × IsUnchangedExceptParent p q
others-keep program_of s pid other p order apart there = of (process_at s pid) refl
  where
    by : (me : Process) → process_at s pid ≡ Some me → (n : Next) → (q : Process) × (process_at (step_by program_of s pid me n).after other ≡ Some q) × IsUnchangedExceptParent p q
    by me at (inside r) = (p, process_at-other s pid r other apart ∙ there, alone-itself p)
    by me at (calls_for call) = other-preserved program_of s pid order me at call other p apart there

    of : (o : Option Process) → process_at s pid ≡ o → (q : Process) × (process_at (step program_of s pid).after other ≡ Some q) × IsUnchangedExceptParent p q
    of None none = (p, ap (λ (w : Stepped). process_at w.after other) (step-gone program_of s pid none) ∙ there, alone-itself p)
    of (Some me) at = subst (λ (w : Stepped). (q : Process) × (process_at w.after other ≡ Some q) × IsUnchangedExceptParent p q) (sym (step-is program_of s pid me at)) (by me at (next me))

-- a step that makes a call
step-calls : (program_of : Bytes → Option Program) (s : State) (pid : ℕ) (p : Process) (call : Call) → process_at s pid ≡ Some p → next p ≡ calls_for call
    → step program_of s pid ≡ step_by program_of s pid p (calls_for call)
step-calls program_of s pid p call at is = step-is program_of s pid p at ∙ ap (step_by program_of s pid p) is

-- ---- fork

module _ (before x : State) (pid : ℕ) (now : Process) where
  abbrev number : ℕ
  number = suc x.last_process

  abbrev forked : State
  forked = record (with_process x number (child x pid now)) { last_process = number }

  -- the child is live under its number, even if that is the parent's own
  abbrev HasChild : ℕ → Answered → Type 0
  HasChild n a = a.outcome ≡ Value n → (c : Process) × (process_at a.after n ≡ Some c) × HasSameRights now c

  born : (f : Process → Process) → ((p : Process) → HasSameRights p (f p)) → (c : Process) × (process_at (collect (update forked pid f)) number ≡ Some c) × HasSameRights now c
  born f same =
      let there : process_at forked number ≡ Some (child x pid now) = process_at-same x number (child x pid now) in
      ⊎_elim
      (λ own. (
        f (child x pid now),
        process_at-collect (update forked pid f) number ∙ ap (process_at (update forked pid f)) own ∙ update-live forked pid f (child x pid now) (ap (process_at forked) (sym own) ∙ there),
        let reported = same (child x pid now) in
            record { promises = reported.promises; execpromises = reported.execpromises; table = reported.table; locked = reported.locked; descriptors = reported.descriptors },
      ))
      (λ other. (
        child x pid now,
        process_at-collect (update forked pid f) number ∙ update-other forked pid f number other ∙ there,
        record { promises = refl; execpromises = refl; table = refl; locked = refl; descriptors = refl },
      ))
      (cases_eq number pid)

  has_child : (n : ℕ) → HasChild n (answer_by_attempt before x pid now (fork x pid now))
  has_child n = by (nat_le 32 (length x.processes) || nat_lt 99999 number)
    where
      by : (b : Bool) → HasChild n (answer_by_attempt before x pid now (refuse_if EAGAIN b >> answers forked number))
      by true is = cc
      by false is =
          let same : number ≡ n = cc is in
          let c = born (λ p. with_result p (pos number) 0) (λ p. record { promises = refl; execpromises = refl; table = refl; locked = refl; descriptors = refl }) in
          (c.0, ap (process_at (collect (update forked pid (λ p. with_result p (pos number) 0)))) (sym same) ∙ c.1, c.2)

pub child-same : (program_of : Bytes → Option Program) (s : State) (pid n : ℕ) (p : Process) → process_at s pid ≡ Some p → next p ≡ calls_for Fork → (step program_of s pid).outcome ≡ Value n
    → (c : Process) × (process_at (step program_of s pid).after n ≡ Some c) × HasSameRights p c
unfolding effect
child-same program_of s pid n p at is answered =
    let by_call = step-calls program_of s pid p Fork at is in
    subst (λ (w : Stepped). (c : Process) × (process_at w.after n ≡ Some c) × HasSameRights p c) (sym by_call) (forks (subst (λ (w : Stepped). w.outcome ≡ Value n) by_call answered))
  where
    since : (me c : Process) → me ≡ p → HasSameRights (at_next_line me) c → HasSameRights p c
    since me c same has = subst (λ (y : Process). HasSameRights y c) same (record { promises = has.promises; execpromises = has.execpromises; table = has.table; locked = has.locked; descriptors = has.descriptors })

    forks : (answer program_of s pid Fork).outcome ≡ Value n → (c : Process) × (process_at (answer program_of s pid Fork).after n ≡ Some c) × HasSameRights p c
    forks =
        by_answer (λ a. a.outcome ≡ Value n → (c : Process) × (process_at a.after n ≡ Some c) × HasSameRights p c) program_of s pid Fork
        (λ none. cc)
        (λ me found missing reported. let c = has_child s (at_call s pid me) pid (at_next_line me) n reported in (c.0, c.1, since me c.0 (cc) c.2))
        (λ me lacks found missing lenient reported. cc)
        (λ me lacks found missing lenient reported. cc)

-- ---- execve

-- the program after an execve
abbrev pub Executes : State → ℕ → Process → Effect → Type 0
Executes s pid me (after, r) = (program : Program) × (after ≡ with_process s pid (with_program s pid me program)) × (r ≡ returns 0)

pub executes : (program_of : Bytes → Option Program) (s : State) (pid : ℕ) (me : Process) (path : Bytes) → Leads (Executes s pid me) (execve s pid me program_of path)
executes program_of s pid me path =
    leads-place (Executes s pid me) s me me.directory Last path permission_x (CallRemainders.execve_1 s pid me program_of) (λ place found.
    leads-demand (Executes s pid me) ENOENT (node_of place) (CallRemainders.execve_2 s pid me program_of) (λ n is.
    leads-demand (Executes s pid me) EACCES (executable_bytes (node_at s.tree n)) (CallRemainders.execve_3 s pid me program_of) (λ bytes file.
    leads-demand (Executes s pid me) ENOEXEC (program_of bytes) (CallRemainders.execve_4 s pid me) (λ program encoded. (program, refl, refl)))))

-- the restraints after an execve
executed : (s : State) (pid : ℕ) (me q : Process) (program : Program) → HasSameRights (with_program s pid me program) q → HasExecuted me q
executed s pid me q program same = record {
  promises = same.promises;
  execpromises = same.execpromises;
  stays = λ set is. (
    same.table ∙ ap (λ o. if is_some o then me.table else None) is,
    same.locked ∙ ap (λ o. is_some o && me.locked) is,
  );
  goes = λ is. (
    same.table ∙ ap (λ o. if is_some o then me.table else None) is,
    same.locked ∙ ap (λ o. is_some o && me.locked) is,
  );
}

abbrev Executed : Process → ℕ → ℕ → Answered → Type 0
Executed p pid n a = a.outcome ≡ Value n → (n ≡ 0) × ((q : Process) × (process_at a.after pid ≡ Some q) × HasExecuted p q)

executed-attempt : (s x : State) (pid n : ℕ) (me now : Process) → HasSameRights me now → (a : Attempt Effect) → Leads (Executes x pid now) a → Executed me pid n (answer_by_attempt s x pid now a)
executed-attempt s x pid n me now same (done walks (after, returns m)) does reported =
    let value : m ≡ n = cc reported in
    let zero_reply : returns m ≡ returns 0 = does.2 in
    let zero : m ≡ 0 = cc zero_reply in
    let new : Process = with_program x pid now does.0 in
    let f : Process → Process = λ p. with_result p (pos m) 0 in
    let at : process_at after pid ≡ Some new = ap (λ y. process_at y pid) does.1 ∙ process_at-same x pid new in (
      sym value ∙ zero,
      (
        f new,
        process_at-collect (update after pid f) pid ∙ update-live after pid f new at,
        let is = executed x pid now (f new) does.0 (record { promises = refl; execpromises = refl; table = refl; locked = refl; descriptors = refl }) in
            record {
              promises = is.promises ∙ same.execpromises;
              execpromises = is.execpromises ∙ same.execpromises;
              stays = λ set has. let both = is.stays set (same.execpromises ∙ has) in (both.0 ∙ same.table, both.1 ∙ same.locked);
              goes = λ none. is.goes (same.execpromises ∙ none);
            },
      ),
    )
executed-attempt s x pid n me now same (done walks (after, returns_bytes m bytes)) does reported = cc
executed-attempt s x pid n me now same (done walks (after, ends status)) does reported = cc
executed-attempt s x pid n me now same (done walks (after, waits)) does reported = cc
executed-attempt s x pid n me now same (refused walks errno cause) does reported = cc

pub execve-leaves : (program_of : Bytes → Option Program) (s : State) (pid n : ℕ) (p : Process) (path : Bytes) → process_at s pid ≡ Some p → next p ≡ calls_for (Execve path)
    → (step program_of s pid).outcome ≡ Value n → (n ≡ 0) × ((q : Process) × (process_at (step program_of s pid).after pid ≡ Some q) × HasExecuted p q)
unfolding effect
execve-leaves program_of s pid n p path at is answered =
    let by_call = step-calls program_of s pid p (Execve path) at is in
    subst (λ (w : Stepped). (n ≡ 0) × ((q : Process) × (process_at w.after pid ≡ Some q) × HasExecuted p q)) (sym by_call) (execs (subst (λ (w : Stepped). w.outcome ≡ Value n) by_call answered))
  where
    execs : Executed p pid n (answer program_of s pid (Execve path))
    execs =
        by_answer (Executed p pid n) program_of s pid (Execve path)
        (λ none. cc)
        (λ me found missing. let same : me ≡ p = cc in subst (λ (y : Process). Executed y pid n (answer_by_attempt s (at_call s pid me) pid (at_next_line me) (execve (at_call s pid me) pid (at_next_line me) program_of path))) same
        (executed-attempt s (at_call s pid me) pid n me (at_next_line me) (record { promises = refl; execpromises = refl; table = refl; locked = refl; descriptors = refl })
        (execve (at_call s pid me) pid (at_next_line me) program_of path) (executes program_of (at_call s pid me) pid (at_next_line me) path)))
        (λ me lacks found missing lenient reported. cc)
        (λ me lacks found missing lenient reported. cc)

-- ---- runs

pub runs-without : (program_of : Bytes → Option Program) → EncodesPrograms program_of → (s : State) (pid : ℕ) (pids : List ℕ) (p q : Process) → IsValid s → process_at s pid ≡ Some p
    → StaysInImage program_of pid pids s → process_at (run program_of pids s).final pid ≡ Some q → HasNoMoreRights p q
runs-without program_of encodes s pid [] p q whole at stays there = let is : Some p ≡ Some q = sym at ∙ there in let same : p ≡ q = cc is in subst (HasNoMoreRights p) same (no_more-same p p refl refl refl refl)
runs-without program_of encodes s pid (k ∷ ks) p q whole at stays there =
    let live = lives (process_at (step program_of s k).after pid) refl stays.1 in
    no_more-along p live.0 q (first live.0 live.1)
    (runs-without program_of encodes (step program_of s k).after pid ks live.0 q (step-keeps_valid program_of encodes s k whole) live.1 stays.2 there)
  where
    lives : (o : Option Process) → process_at (step program_of s k).after pid ≡ o → is_some o ≡ true → (r : Process) × (process_at (step program_of s k).after pid ≡ Some r)
    lives None none is = cc
    lives (Some r) found is = (r, found)

    first : (r : Process) → process_at (step program_of s k).after pid ≡ Some r → HasNoMoreRights p r
    first r found =
        ⊎_elim
        (λ same. grows-never program_of s pid p r (valid-in_order s whole) at (ap (λ j. process_at (step program_of s j).after pid) (sym same) ∙ found) (stays.0 same p at))
        (λ other.
        let preserved = others-keep program_of s k pid p (valid-in_order s whole) (λ same. other (sym same)) at in
        let is : Some preserved.0 ≡ Some r = sym preserved.1 ∙ found in
        let same : preserved.0 ≡ r = cc is in subst (HasNoMoreRights p) same (no_more-of_same p preserved.0 (alone-same p preserved.0 preserved.2)))
        (cases_eq k pid)
