-- Steps that change the descriptors of their process, before and after a step of another process.
use Rattle.std.proofs.Common.{◌≡◌, ◌≢◌, ℕ, ◌≤◌, ℤ, pos, negsuc, Bool, true, false, ◌==◌, if◌then◌else◌, nat_le, length, Option, None, Some, refl, ap, sym, ◌∙◌, ◌⊎◌, inl, inr, ⊎_elim, arith, subst}
use Rattle.std.proofs.lemmas.Bool.{cases_eq, leb-true}
use Rattle.pv_model.specs.declared.call.Call.{Call}
use Rattle.pv_model.specs.declared.call.Call.TheVariants as TheCall
use Rattle.pv_model.specs.declared.errno.Errno.{Errno}
use Rattle.pv_model.specs.declared.errno.Errno.TheVariants.{EBADF, EMFILE, ENOSYS}
use Rattle.pv_model.specs.declared.outcome.Cause.{Cause}
use Rattle.pv_model.specs.declared.outcome.Cause.TheVariants.{Plain, Promise as ByPromise}
use Rattle.pv_model.specs.declared.outcome.Outcome.TheVariants.{Killed}
use Rattle.pv_model.specs.declared.promise.Promise.{Promise}
use Rattle.pv_model.specs.Machine.{Answered, at_next_line, effect, answer, answer_by_attempt, Attempt, done, refused, ◌>>=◌, ◌>>◌, refuse_if, demand, Bytes, with_result, Effect, returns, answers, errno_number, collect, among, needs, Numbered, at_number, with_number, without_number, least_free, calls_for, next, missing_promise, Descriptor, Program, Process, State, process_at, with_process, OpenFile, Stepped, step, step_by}
use Rattle.pv_model.specs.Calls.Descriptors.{with_duplicate}
use Rattle.pv_laws_trees.proofs.NumberedMaps.{with_number-same_within, with_number-other_within, without_number-same, without_number-other, least_free-within, least_free-free, keep-some, keep-all}
use Rattle.pv_laws_states.specs.Held.{used}
use Rattle.pv_laws_states.specs.States.{EncodesPrograms, IsValid}
use Rattle.pv_laws_states.proofs.ReferenceMembers.{among-used, used-among}
use Rattle.pv_laws_states.proofs.CallOutcomes.{at_call}
use Rattle.pv_laws_states.proofs.Processes.{with_process-twice, process_at-same, files-update}
use Rattle.pv_laws_states.proofs.CollectedStates.{files-collect}
use Rattle.pv_laws_runs.proofs.OfLawsAccess.ProcessesAfterEnds.{step-is}
use Rattle.pv_laws_steps.specs.Beside.{with_change}
use Rattle.pv_laws_steps.specs.Commuting.{Commute}
use Rattle.pv_laws_steps.specs.Holding.{changes_descriptors, closes_number, HasOtherDescriptor, LeavesOpenFiles, LeavesTree}
use Rattle.pv_laws_steps.proofs.ChangedProcess.{KeepsParent, process-changed}
use Rattle.pv_laws_steps.proofs.ReferenceSteps.{gives, refused-commute}
use Rattle.pv_laws_steps.proofs.OtherReferences.{UsesNoMore, KeepsNodes, SameUse, collect-use, use-left, found-same, change-is}
use Rattle.pv_laws_steps.proofs.IndependentSteps.{by-promise, commute-where}
use Rattle.pv_laws_steps.proofs.ParentIndependence.{orphan}
use Rattle.pv_laws_steps.proofs.OwnSteps.{after_s, own-commute}
use Rattle.pv_laws_steps.proofs.ExchangedSteps.{answer-held, answer-lacking, after_k, heir}

-- ---- descriptors

fewer-itself : (ds : Numbered Descriptor) → UsesNoMore ds ds
fewer-itself ds d v has = (d, v, has, refl)

fewer-without : (ds : Numbered Descriptor) (n : ℕ) → UsesNoMore ds (without_number ds n)
fewer-without ds n d v has =
    ⊎_elim
    (λ here. let none : None ≡ Some v = sym (without_number-same ds n) ∙ ap (at_number (without_number ds n)) (sym here) ∙ has in cc none)
    (λ other. (d, v, sym (without_number-other ds n d other) ∙ has, refl))
    (cases_eq d n)

fewer-with : (ds : Numbered Descriptor) (n : ℕ) (new : Descriptor) → n ≤ length ds → (e : ℕ) (y : Descriptor) → at_number ds e ≡ Some y → y.file ≡ new.file → UsesNoMore ds (with_number ds n new)
fewer-with ds n new within' e y has file d v is =
    ⊎_elim
    (λ here.
    let both : Some v ≡ Some new = sym is ∙ ap (at_number (with_number ds n new)) here ∙ with_number-same_within ds n new within' in
    let same : v ≡ new = cc both in
    (e, y, has, file ∙ ap (λ (x : Descriptor). x.file) (sym same)))
    (λ other. (d, v, sym (with_number-other_within ds n new d within' other) ∙ is, refl))
    (cases_eq d n)

-- all descriptors stay, except perhaps one
abbrev pub KeepsBut : Option ℕ → Numbered Descriptor → Numbered Descriptor → Type 0
KeepsBut closed old new = (d : ℕ) (v : Descriptor) → at_number old d ≡ Some v → (at_number new d ≡ Some v) ⊎ (closed ≡ Some d)

keeps-without : (ds : Numbered Descriptor) (n : ℕ) → KeepsBut (Some n) ds (without_number ds n)
keeps-without ds n d v has = ⊎_elim (λ here. inr (ap (λ i. Some i) (sym here))) (λ other. inl (without_number-other ds n d other ∙ has)) (cases_eq d n)

keeps-with : (ds : Numbered Descriptor) (n : ℕ) (new : Descriptor) → n ≤ length ds → KeepsBut (Some n) ds (with_number ds n new)
keeps-with ds n new within' d v has = ⊎_elim (λ here. inr (ap (λ i. Some i) (sym here))) (λ other. inl (with_number-other_within ds n new d within' other ∙ has)) (cases_eq d n)

keeps-new : (ds : Numbered Descriptor) (new : Descriptor) → KeepsBut None ds (with_number ds (least_free ds) new)
keeps-new ds new d v has =
    ⊎_elim (λ here. let none : None ≡ Some v = sym (least_free-free ds) ∙ ap (at_number ds) (sym here) ∙ has in cc none)
    (λ other. inl (with_number-other_within ds (least_free ds) new d (least_free-within ds) other ∙ has)) (cases_eq d (least_free ds))

-- ---- the effect of such a call

module _ (s t : State) (j n : ℕ) (now : Process) where
  abbrev x : State
  x = with_process s j now

  abbrev y : State
  y = with_process t j (orphan n now)

  -- both calls are refused
  pub record Refuses (a b : Attempt Effect) : Type 0 where
    pub errno : Errno
    pub cause : Cause
    pub one : a ≡ refused 0 errno cause
    pub other : b ≡ refused 0 errno cause

  -- both calls give the process the same descriptors
  pub record Holds (closed : Option ℕ) (a b : Attempt Effect) : Type 0 where
    pub descriptors : Numbered Descriptor
    pub value : ℕ
    pub fewer : UsesNoMore now.descriptors descriptors
    pub preserved : KeepsBut closed now.descriptors descriptors
    pub one : a ≡ done 0 (with_process s j (record now { descriptors = descriptors }), returns value)
    pub other : b ≡ done 0 (with_process t j (record (orphan n now) { descriptors = descriptors }), returns value)

  abbrev pub EffectsAlike : Option ℕ → Attempt Effect → Attempt Effect → Type 0
  EffectsAlike closed a b = Refuses a b ⊎ Holds closed a b

  refuses : (closed : Option ℕ) (e : Errno) → EffectsAlike closed (refused 0 e Plain) (refused 0 e Plain)
  refuses closed e = inl (record { errno = e; cause = Plain; one = refl; other = refl })

  holds : (closed : Option ℕ) (ds : Numbered Descriptor) (v : ℕ) → UsesNoMore now.descriptors ds → KeepsBut closed now.descriptors ds → EffectsAlike closed (done 0 (with_process x j (record now { descriptors = ds }), returns v)) (done 0 (with_process y j (record (orphan n now) { descriptors = ds }), returns v))
  holds closed ds v fewer preserved =
      inr
      (record {
        descriptors = ds;
        value = v;
        fewer = fewer;
        preserved = preserved;
        one = ap (λ z. done 0 (z, returns v)) (with_process-twice s j now (record now { descriptors = ds }));
        other = ap (λ z. done 0 (z, returns v)) (with_process-twice t j (orphan n now) (record (orphan n now) { descriptors = ds }));
      })

  holds-same : (v : ℕ) → EffectsAlike None (done 0 (x, returns v)) (done 0 (y, returns v))
  holds-same v = inr (record { descriptors = now.descriptors; value = v; fewer = fewer-itself now.descriptors; preserved = λ d w has. inl has; one = refl; other = refl })

  abbrev Call_does : (Bytes → Option Program) → Call → Type 0
  Call_does program_of call = EffectsAlike (closes_number call) (effect program_of x j now call) (effect program_of y j (orphan n now) call)

  close-does : (program_of : Bytes → Option Program) (d : ℤ) → Call_does program_of (TheCall.Close d)
  unfolding effect
  close-does program_of (negsuc d) = refuses None EBADF
  close-does program_of (pos d) = by (at_number now.descriptors d)
    where
      by : (o : Option Descriptor) → EffectsAlike (Some d) (demand EBADF o >> answers (with_process x j (record now { descriptors = without_number now.descriptors d })) 0) (demand EBADF o >> answers (with_process y j (record (orphan n now) { descriptors = without_number now.descriptors d })) 0)
      by None = refuses (Some d) EBADF
      by (Some v) = holds (Some d) (without_number now.descriptors d) 0 (fewer-without now.descriptors d) (keeps-without now.descriptors d)

  -- a process with a new descriptor for an open file that it already uses
  abbrev with_new : ℕ → Process → Descriptor → Process
  with_new e me v = record me { descriptors = with_number now.descriptors e (record { file = v.file; close_on_exec = false }) }

  dup-does : (program_of : Bytes → Option Program) (d : ℤ) → Call_does program_of (TheCall.Dup d)
  unfolding effect
  dup-does program_of (negsuc d) = refuses None EBADF
  dup-does program_of (pos d) = by (at_number now.descriptors d) refl (nat_le 16 (least_free now.descriptors))
    where
      by : (o : Option Descriptor) → at_number now.descriptors d ≡ o → (b : Bool)
          → EffectsAlike None (demand EBADF o >>= (λ v. refuse_if EMFILE b >> answers (with_process x j (with_new (least_free now.descriptors) now v)) (least_free now.descriptors)))
          (demand EBADF o >>= (λ v. refuse_if EMFILE b >> answers (with_process y j (with_new (least_free now.descriptors) (orphan n now) v)) (least_free now.descriptors)))
      by None has b = refuses None EBADF
      by (Some v) has true = refuses None EMFILE
      by (Some v) has false =
          holds None (with_number now.descriptors (least_free now.descriptors) (record { file = v.file; close_on_exec = false })) (least_free now.descriptors)
          (fewer-with now.descriptors (least_free now.descriptors) (record { file = v.file; close_on_exec = false }) (least_free-within now.descriptors) d v has refl)
          (keeps-new now.descriptors (record { file = v.file; close_on_exec = false }))

  dup2-does : length now.descriptors ≡ 16 → (program_of : Bytes → Option Program) (d e : ℤ) → Call_does program_of (TheCall.Dup2 d e)
  unfolding effect
  dup2-does count program_of (negsuc d) e = refuses None EBADF
  dup2-does count program_of (pos d) (negsuc e) = by (at_number now.descriptors d)
    where
      by : (o : Option Descriptor)
          → EffectsAlike None (demand EBADF o >>= (λ v. refused 0 EBADF Plain)) (demand EBADF o >>= (λ v. refused 0 EBADF Plain))
      by None = refuses None EBADF
      by (Some v) = refuses None EBADF
  dup2-does count program_of (pos d) (pos e) = by (at_number now.descriptors d) refl (nat_le e 15) refl
    where
      of : (v : Descriptor) → at_number now.descriptors d ≡ Some v → e ≤ 15 → (b : Bool)
          → EffectsAlike (if b then None else Some e) (done 0 ((if b then x else with_process x j (with_new e now v)), returns e)) (done 0 ((if b then y else with_process y j (with_new e (orphan n now) v)), returns e))
      of v has low true = holds-same e
      of v has low false = holds (Some e) (with_number now.descriptors e (record v { close_on_exec = false })) e (fewer-with now.descriptors e (record v { close_on_exec = false }) (omega (arith, low, count)) d v has refl)
          (keeps-with now.descriptors e (record v { close_on_exec = false }) (omega (arith, low, count)))

      by : (o : Option Descriptor) → at_number now.descriptors d ≡ o → (b : Bool) → nat_le e 15 ≡ b
          → EffectsAlike (if d == e then None else Some e) (demand EBADF o >>= (λ v. demand EBADF (if b then Some e else None) >>= (λ m. answers (with_duplicate x j now (pos d) m v) m)))
          (demand EBADF o >>= (λ v. demand EBADF (if b then Some e else None) >>= (λ m. answers (with_duplicate y j (orphan n now) (pos d) m v) m)))
      by None has b low = refuses (if d == e then None else Some e) EBADF
      by (Some v) has false low = refuses (if d == e then None else Some e) EBADF
      by (Some v) has true low = of v has (leb-true e 15 low) (d == e)

  pub call-does : length now.descriptors ≡ 16 → (program_of : Bytes → Option Program) (call : Call) → changes_descriptors call ≡ true → Call_does program_of call
  call-does count program_of (TheCall.Close d) is = close-does program_of d
  call-does count program_of (TheCall.Dup d) is = dup-does program_of d
  call-does count program_of (TheCall.Dup2 d e) is = dup2-does count program_of d e
  call-does count program_of call is = cc is

-- ---- the step

-- the process after such a call, with any parent, in a state that has its directory and its table
abbrev pub given : Process → Numbered Descriptor → ℕ → Process → Process
given now ds v r = record (with_result (record now { descriptors = ds }) (pos v) 0) { parent = r.parent; directory = r.directory; table = r.table }

given-keeps : (now : Process) (ds : Numbered Descriptor) (v : ℕ) → KeepsParent (given now ds v)
given-keeps now ds v = record { same = λ r. refl; whoever = λ r n. refl }

given-nodes : (now : Process) (ds : Numbered Descriptor) (v : ℕ) → KeepsNodes (given now ds v)
given-nodes now ds v = record { held = λ r. refl }

module _ (program_of : Bytes → Option Program) (encodes : EncodesPrograms program_of) (s : State) (j k : ℕ) (p : Process) (whole : IsValid s) (apart : j ≢ k) (at : process_at s j ≡ Some p)
    (call : Call) (comes : next p ≡ calls_for call) (held : missing_promise p.promises (needs call) ≡ None) where
  abbrev t : State
  t = after_k program_of encodes s j k p whole apart at

  abbrev n : ℕ
  n = heir program_of encodes s j k p whole apart at

  abbrev now : Process
  now = at_next_line p

  abbrev one : Attempt Effect
  one = effect program_of (at_call s j p) j now call

  abbrev other : Attempt Effect
  other = effect program_of (at_call t j (orphan n p)) j (orphan n now) call

  module _ (left : LeavesOpenFiles program_of s j) (does : Holds s t j n now (closes_number call) one other) where
    abbrev f : Process → Process
    f = given now does.descriptors does.value

    abbrev keeps : KeepsParent f
    keeps = given-keeps now does.descriptors does.value

    abbrev q : Process
    q = record now { descriptors = does.descriptors }

    after : (step program_of s j).after ≡ collect (with_change s j f)
    after = after_s program_of encodes s j k p whole apart at call comes held f keeps does.fewer 0 does.value q refl does.one does.other

    -- the same open files are used, so the same nodes are referenced
    uses : SameUse j f s
    uses =
        use-left j f s whole.processes.ascending p at (λ i r d x at_i has. (whole.processes.placed i r at_i).opens d x has) does.fewer
        (ap (λ (z : State). z.files) (sym after) ∙ left)

    tree-left : LeavesTree program_of s j
    tree-left = ap (λ (z : State). z.tree) (after ∙ collect-use j f (given-nodes now does.descriptors does.value) s uses) ∙ ap (λ (z : State). z.tree) whole.collected

    held-commute : Commute program_of s j k
    held-commute = own-commute program_of encodes s j k p whole apart at call comes held f keeps does.fewer 0 does.value q refl does.one does.other tree-left left

  pub descriptors-commute_held : changes_descriptors call ≡ true → LeavesOpenFiles program_of s j → Commute program_of s j k
  descriptors-commute_held changes left =
      ⊎_elim
      (λ is. refused-commute program_of encodes s j k p whole apart at call comes held 0 is.errno is.cause is.one is.other)
      (λ is. held-commute left is)
      (call-does s t j n now (whole.processes.placed j p at).descriptors program_of call changes)

pub descriptors-commute : (program_of : Bytes → Option Program) → EncodesPrograms program_of → (s : State) (j k : ℕ) (p : Process) (call : Call) → IsValid s → j ≢ k → process_at s j ≡ Some p → next p ≡ calls_for call
    → changes_descriptors call ≡ true → ((a : Promise) → (step program_of s j).outcome ≢ Killed a) → LeavesOpenFiles program_of s j → Commute program_of s j k
descriptors-commute program_of encodes s j k p call whole apart at comes changes alive left =
    commute-where program_of encodes s j k p call whole apart at comes alive (λ held. descriptors-commute_held program_of encodes s j k p whole apart at call comes held changes left)

-- ---- the open files that stay

module _ (program_of : Bytes → Option Program) (s : State) (j : ℕ) (p : Process) (call : Call) (whole : IsValid s) (at : process_at s j ≡ Some p) (comes : next p ≡ calls_for call) where
  abbrev mine : Process
  mine = at_next_line p

  abbrev done_call : Attempt Effect
  done_call = effect program_of (at_call s j p) j mine call

  calls : step program_of s j ≡ step_by program_of s j p (calls_for call)
  calls = step-is program_of s j p at ∙ ap (step_by program_of s j p) comes

  -- a refused call leaves them unchanged
  refused-leaves : (e : Errno) (c : Cause) → answer program_of s j call ≡ answer_by_attempt s (at_call s j p) j mine (refused 0 e c) → LeavesOpenFiles program_of s j
  refused-leaves e c is =
      ap (λ (w : Stepped). w.after.files) calls ∙ ap (λ (a : Answered). a.after.files) is ∙ files-update (at_call s j p) j (λ q. with_result q (negsuc 0) (errno_number e))

  module _ (held : missing_promise p.promises (needs call) ≡ None) (others : (n : ℕ) (v : Descriptor) → closes_number call ≡ Some n → at_number p.descriptors n ≡ Some v → HasOtherDescriptor s j n v.file)
      (does : Holds s s j p.parent mine (closes_number call) done_call (effect program_of (at_call s j (orphan p.parent p)) j (orphan p.parent mine) call)) where
    abbrev g : Process → Process
    g = given mine does.descriptors does.value

    abbrev u : State
    u = with_change s j g

    at_u : process_at u j ≡ Some (g p)
    at_u = ap (λ z. process_at z j) (sym (change-is j g s whole.processes.ascending p at)) ∙ process_at-same s j (g p)

    after_u : (step program_of s j).after ≡ collect u
    after_u =
        let is = gives program_of s whole j p at call comes held g 0 does.value (record mine { descriptors = does.descriptors }) refl does.one in
        ap (λ (w : Stepped). w.after) is.calls ∙ ap (λ (a : Answered). a.after) is.answered

    abbrev Uses : ℕ → Type 0
    Uses m = among (used u) m ≡ true

    -- the descriptors that the process keeps stay in use
    own-preserved : (e : ℕ) (v : Descriptor) → at_number does.descriptors e ≡ Some v → Uses v.file
    own-preserved e v has = among-used u j (g p) e v at_u has

    other-preserved : (i : ℕ) (r : Process) (e : ℕ) (v : Descriptor) → i ≢ j → process_at s i ≡ Some r → at_number r.descriptors e ≡ Some v → Uses v.file
    other-preserved i r e v apart at_i has = among-used u i r e v (process-changed j g s i apart ∙ at_i) has

    own-other : (n : ℕ) (v : Descriptor) → closes_number call ≡ Some n → (is : HasOtherDescriptor s j n v.file) → is.user ≡ j → Uses v.file
    own-other c v closed is here =
        let same : is.process ≡ p = found-same s is.user j is.process p here is.there at in
        let has : at_number p.descriptors is.number ≡ Some is.descriptor = ap (λ (q : Process). at_number q.descriptors is.number) (sym same) ∙ is.own in
        ⊎_elim (λ stays. subst Uses is.same (own-preserved is.number is.descriptor stays))
        (λ goes. let both : Some is.number ≡ Some c = sym goes ∙ closed in absurd (is.another here (cc both)))
        (does.preserved is.number is.descriptor has)

    closed-preserved : (n : ℕ) (v : Descriptor) → closes_number call ≡ Some n → at_number p.descriptors n ≡ Some v → Uses v.file
    closed-preserved c v closed has =
        let is = others c v closed has in
        ⊎_elim (own-other c v closed is) (λ apart. subst Uses is.same (other-preserved is.user is.process is.number is.descriptor apart is.there is.own)) (cases_eq is.user j)

    preserved : (i : ℕ) (r : Process) (e : ℕ) (v : Descriptor) → process_at s i ≡ Some r → at_number r.descriptors e ≡ Some v → Uses v.file
    preserved i r e v at_i has =
        ⊎_elim
        (λ here.
        let mine_has : at_number p.descriptors e ≡ Some v = ap (λ (q : Process). at_number q.descriptors e) (sym (found-same s i j r p here at_i at)) ∙ has in
        ⊎_elim (own-preserved e v) (λ closed. closed-preserved e v closed mine_has) (does.preserved e v mine_has))
        (λ apart. other-preserved i r e v apart at_i has)
        (cases_eq i j)

    used-preserved : (m : ℕ) (file : OpenFile) → at_number s.files m ≡ Some file → Uses m
    used-preserved m file there =
        let in_use = (keep-some (among (used s)) s.files m file (ap (λ fs. at_number fs m) (sym (files-collect s) ∙ ap (λ (z : State). z.files) whole.collected) ∙ there)).0 in
        let found = used-among s whole.processes.ascending m in_use in
        subst Uses found.6 (preserved found.0 found.1 found.2 found.3 found.4 found.5)

    held-leaves : LeavesOpenFiles program_of s j
    held-leaves = ap (λ (z : State). z.files) after_u ∙ files-collect u ∙ keep-all (among (used u)) s.files used-preserved

  pub descriptors-leave : changes_descriptors call ≡ true → ((a : Promise) → (step program_of s j).outcome ≢ Killed a)
      → ((n : ℕ) (v : Descriptor) → closes_number call ≡ Some n → at_number p.descriptors n ≡ Some v → HasOtherDescriptor s j n v.file) → LeavesOpenFiles program_of s j
  descriptors-leave changes alive others =
      by-promise (LeavesOpenFiles program_of s j) program_of s j p call at comes alive
      (λ a missing lenient. refused-leaves ENOSYS (ByPromise a) (answer-lacking program_of s j p call a at missing lenient))
      (λ held.
      ⊎_elim (λ is. refused-leaves is.errno is.cause (answer-held program_of s j p call at held ∙ ap (answer_by_attempt s (at_call s j p) j mine) is.one)) (λ is. held-leaves held others is)
      (call-does s s j p.parent mine (whole.processes.placed j p at).descriptors program_of call changes))
