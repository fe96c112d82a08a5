-- A touch that only the effect of a call can make is made by a call.
use Rattle.std.proofs.Common.{◌≡◌, ◌≢◌, ℕ, pos, negsuc, true, Option, None, Some, refl, ap, sym, subst, ◌∙◌}
use Rattle.std.specs.FinMap.Entries.{is_sorted}
use Rattle.std.specs.Ordering.{nat_cmp}
use Rattle.pv_model.specs.declared.call.Call.{Call}
use Rattle.pv_model.specs.declared.call.Call.TheVariants.{Execve}
use Rattle.pv_model.specs.declared.errno.Errno.{Errno}
use Rattle.pv_model.specs.declared.errno.Errno.TheVariants.{ENOSYS}
use Rattle.pv_model.specs.Machine.{answer, answer_by_attempt, at_next_line, with_front, update, effect, Attempt, done, refused, Bytes, with_result, end_process, Effect, Reply, returns, returns_bytes, ends, waits, errno_number, collect, needs, Next, inside, calls_for, next, missing_promise, Program, Process, live, State, process_at, with_process, Stepped, step, step_by, IsAllowed, Justifies, read_by_descriptor, read_by_execve}
use Rattle.pv_model.specs.Touch.{Touch, change_by_descriptor, change_by_open, entry_by_place, report_by_descriptor, report_by_place, gain_by_open}
use Rattle.pv_model.specs.declared.perms.Perms.{Perms}
use Rattle.pv_model.specs.declared.place.Place.{Place}
use Rattle.pv_laws_states.specs.States.{is_call, EncodesPrograms, IsTree, IsValid}
use Rattle.pv_laws_states.proofs.AttemptValues.{Leads}
use Rattle.pv_laws_states.proofs.ValidBySteps.{IsGoodNext, good-effect, good-next}
use Rattle.pv_laws_states.proofs.CallOutcomes.{at_call, by_answer}
use Rattle.pv_laws_states.proofs.Processes.{process_at-same, process_at-other, update-with}
use Rattle.pv_laws_states.proofs.ValidReplies.{IsEffect, valid-at_call}
use Rattle.pv_laws_states.proofs.ValidStates.{sorted-put_number}
use Rattle.pv_laws_access.proofs.CallEffects.{continues, HasEffect, Did, ends-stays}
use Rattle.pv_laws_access.proofs.EffectByCall.{does-effect}
use Rattle.pv_laws_access.proofs.ProcessesAfterEnds.{IsSameNext, same-next, step-is, step-gone}
use Rattle.pv_laws_access.proofs.ProgramImages.{executes}

-- ---- the tree after a call is well-formed

pub leads-weaker : {A : Type 0} (P Q : A → Type 0) (a : Attempt A) → ((value : A) → P value → Q value) → Leads P a → Leads Q a
leads-weaker P Q (done walks value) weaker is = weaker value is
leads-weaker P Q (refused walks errno cause) weaker is = tt

abbrev LeavesTree : Effect → Type 0
LeavesTree (after, r) = continues r ≡ true → IsTree after.tree

ready-leaves : (s : State) (e : Effect) → IsEffect s e → LeavesTree e
ready-leaves s (after, returns n) good goes = good.0.solid.tree
ready-leaves s (after, returns_bytes n bytes) good goes = good.0.solid.tree
ready-leaves s (after, ends status) good goes = cc
ready-leaves s (after, waits) good goes = cc

nothing_encoded : EncodesPrograms (λ (bytes : Bytes). None)
nothing_encoded = record { encodes = λ bytes program is. cc }

leaves-tree : (program_of : Bytes → Option Program) (s : State) (pid : ℕ) (me : Process) (call : Call) → IsValid s → process_at s pid ≡ Some me → is_call call ≡ true → Leads LeavesTree (effect program_of s pid me call)
unfolding effect
leaves-tree program_of s pid me (Execve path) whole at is =
    leads-weaker _ LeavesTree (effect program_of s pid me (Execve path)) (λ (after, r) leaves goes. subst IsTree (sym (ap (λ (x : State). x.tree) leaves.1)) whole.tree) (executes program_of s pid me path)
leaves-tree program_of s pid me call whole at is =
    leads-weaker (IsEffect s) LeavesTree (effect (λ bytes. None) s pid me call) (ready-leaves s) (good-effect (λ bytes. None) nothing_encoded s pid me call whole at is)

-- ---- steps

-- the state in which the effect of a call makes the touch
pub record IsTouched (s : State) (pid : ℕ) (T : State → Type 0) : Type 0 where
  pub me : Process
  pub call : Call
  pub at : process_at s pid ≡ Some me
  pub next_is : next me ≡ calls_for call
  pub held : missing_promise me.promises (needs call) ≡ None
  pub is : is_call call ≡ true
  pub after : State
  pub reply : Reply
  pub reported : Process → Process
  pub same : (p : Process) → (reported p).descriptors ≡ p.descriptors
  pub does : HasEffect (at_call s pid me) pid (at_next_line me) call after reply
  pub tree : IsTree after.tree
  pub touch : T (collect (update after pid reported))

module _ (program_of : Bytes → Option Program) (s : State) (pid : ℕ) (whole : IsValid s) (T : State → Type 0)
    (none : T s → ⊥)
    (own : (p q : Process) → process_at s pid ≡ Some p → q.descriptors ≡ p.descriptors → T (with_process s pid q) → ⊥)
    (over : (y : State) (me : Process) (status : ℕ) → y.tree ≡ s.tree → is_sorted nat_cmp y.processes ≡ true
    → ((j : ℕ) → j ≢ pid → process_at y j ≡ process_at s j) → T (collect (end_process y pid me status)) → ⊥) where
  module _ (me : Process) (at : process_at s pid ≡ Some me) (call : Call) (next_is : next me ≡ calls_for call) where
    abbrev x : State
    x = at_call s pid me

    abbrev now : Process
    now = at_next_line me

    good_call : is_call call ≡ true
    good_call = subst (IsGoodNext me) next_is (good-next me (whole.processes.running pid me at))

    ascending : is_sorted nat_cmp x.processes ≡ true
    ascending = sorted-put_number pid (live now) s.processes whole.processes.ascending

    refusal : (errno : Errno) → T (update x pid (λ p. with_result p (negsuc 0) (errno_number errno))) → ⊥
    refusal errno touch =
        own me (with_result now (negsuc 0) (errno_number errno)) at refl (subst T (update-with s pid (λ p. with_result p (negsuc 0) (errno_number errno)) now) touch)

    ending : (after : State) (status : ℕ) → HasEffect x pid now call after (ends status) → T (collect (end_process after pid now status)) → ⊥
    ending after status does touch =
        over x now status refl ascending (λ j other. process_at-other s pid now j other) (subst (λ (y : State). T (collect (end_process y pid now status))) (ends-stays x pid now call after (ends status) status does refl) touch)

    by_attempt : missing_promise me.promises (needs call) ≡ None → (a : Attempt Effect) → Leads (Did x pid now call) a → Leads LeavesTree a → T (answer_by_attempt s x pid now a).after → IsTouched s pid T
    by_attempt held (done walks (after, returns n)) does tree touch = record {
      me = me;
      call = call;
      at = at;
      next_is = next_is;
      held = held;
      is = good_call;
      after = after;
      reply = returns n;
      reported = λ p. with_result p (pos n) 0;
      same = λ p. refl;
      does = does;
      tree = tree refl;
      touch = touch;
    }
    by_attempt held (done walks (after, returns_bytes n bytes)) does tree touch = record {
      me = me;
      call = call;
      at = at;
      next_is = next_is;
      held = held;
      is = good_call;
      after = after;
      reply = returns_bytes n bytes;
      reported = λ p. with_front bytes (with_result p (pos n) 0);
      same = λ p. refl;
      does = does;
      tree = tree refl;
      touch = touch;
    }
    by_attempt held (done walks (after, ends status)) does tree touch = absurd (ending after status does touch)
    by_attempt held (done walks (after, waits)) does tree touch = absurd (none touch)
    by_attempt held (refused walks errno cause) does tree touch = absurd (refusal errno touch)

    by_call : T (answer program_of s pid call).after → IsTouched s pid T
    by_call =
        by_answer (λ a. T a.after → IsTouched s pid T) program_of s pid call
        (λ gone. cc)
        (λ p found missing.
        let same : p ≡ me = cc in
        subst (λ (y : Process). T (answer_by_attempt s (at_call s pid y) pid (at_next_line y) (effect program_of (at_call s pid y) pid (at_next_line y) call)).after → IsTouched s pid T) (sym same)
        (by_attempt (ap (λ (y : Process). missing_promise y.promises (needs call)) (sym same) ∙ missing) (effect program_of x pid now call) (does-effect program_of x pid now call)
        (leaves-tree program_of x pid now call (valid-at_call s pid me whole at) (process_at-same s pid now) good_call)))
        (λ p lacks found missing lenient touch.
        let same : p ≡ me = cc in
        absurd (refusal ENOSYS (subst (λ (y : Process). T (update (at_call s pid y) pid (λ q. with_result q (negsuc 0) (errno_number ENOSYS)))) same touch)))
        (λ p lacks found missing lenient touch. absurd (over s (at_next_line p) 6 refl whole.processes.ascending (λ j other. refl) touch))

  by_next : (me : Process) → process_at s pid ≡ Some me → (n : Next) → next me ≡ n → IsSameNext me n → T (step_by program_of s pid me n).after → IsTouched s pid T
  by_next me at (inside q) is same touch = absurd (own me q at same.0.descriptors touch)
  by_next me at (calls_for call) is same touch = by_call me at call is touch

  pub touched : T (step program_of s pid).after → IsTouched s pid T
  touched touch = by (process_at s pid) refl
    where
      by : (o : Option Process) → process_at s pid ≡ o → IsTouched s pid T
      by None gone = absurd (none (subst (λ (w : Stepped). T w.after) (step-gone program_of s pid gone) touch))
      by (Some me) at = by_next me at (next me) refl (same-next me) (subst (λ (w : Stepped). T w.after) (step-is program_of s pid me at) touch)

-- ---- a justification at the call is one before it

module _ (s : State) (pid : ℕ) (me : Process) (call : Call) where
  abbrev x' : State
  x' = at_call s pid me

  abbrev now' : Process
  now' = at_next_line me

  pub allowed-back : (needed : Perms) (place : Place) → IsAllowed x' now' call needed place → IsAllowed s me call needed place
  allowed-back needed place is = is

  pub back : (touch : Touch) → Justifies x' now' call touch → Justifies s me call touch
  back _ (read_by_descriptor f has) = read_by_descriptor f has
  back _ (read_by_execve path place f is allowed node) = read_by_execve path place f is (allowed-back _ place allowed) node
  back _ (change_by_descriptor f has) = change_by_descriptor f has
  back _ (change_by_open flags place f flagged cut allowed node) = change_by_open flags place f flagged cut (allowed-back _ place allowed) node
  back _ (entry_by_place place d name allowed named) = entry_by_place place d name (allowed-back _ place allowed) named
  back _ (report_by_descriptor n has) = report_by_descriptor n has
  back _ (report_by_place place n allowed node) = report_by_place place n (allowed-back _ place allowed) node
  back _ (gain_by_open flags place n mode flagged is allowed node) = gain_by_open flags place n mode flagged is (allowed-back _ place allowed) node
