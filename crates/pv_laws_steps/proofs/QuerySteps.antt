-- Steps that query the tree, before and after a step of another process that leaves it unchanged.
use Rattle.std.proofs.Common.{◌≡◌, ◌≢◌, ℕ, ℤ, true, Option, None, Some, refl, ap, sym, subst, ◌∙◌}
use Rattle.pv_model.specs.declared.call.Call.{Call}
use Rattle.pv_model.specs.declared.call.Call.TheVariants as TheCall
use Rattle.pv_model.specs.declared.errno.Errno.TheVariants.{EBADF}
use Rattle.pv_model.specs.declared.outcome.Cause.TheVariants.{Plain}
use Rattle.pv_model.specs.declared.outcome.Outcome.TheVariants.{Killed}
use Rattle.pv_model.specs.declared.promise.Promise.{Promise}
use Rattle.pv_model.specs.Machine.{at_next_line, effect, Attempt, done, ◌>>=◌, demand, Bytes, Effect, returns, returns_bytes, answers_bytes, open_file, status, needs, calls_for, next, missing_promise, OpenFile, Program, Process, State, process_at, with_process, with_tree, step, node_at}
use Rattle.pv_model.specs.Effect.{status_of}
use Rattle.pv_laws_states.specs.States.{EncodesPrograms, IsValid}
use Rattle.pv_laws_steps.specs.Asking.{queries_tree, LeavesNode}
use Rattle.pv_laws_steps.specs.Commuting.{Commute}
use Rattle.pv_laws_steps.proofs.KeptOpenFiles.{OpenAlike, alike-open}
use Rattle.pv_laws_steps.proofs.IndependentSteps.{no_act, alone-passes, commute-where}
use Rattle.pv_laws_steps.proofs.ParentIndependence.{orphan}
use Rattle.pv_laws_steps.proofs.ExchangedSteps.{Two, two-bind, two-then, two-refused, after_k, at-following, heir, commute-steps, call-twice}

module _ (program_of : Bytes → Option Program) (encodes : EncodesPrograms program_of) (s : State) (j k : ℕ) (p : Process) (whole : IsValid s) (apart : j ≢ k) (at : process_at s j ≡ Some p) where
  abbrev following : State
  following = after_k program_of encodes s j k p whole apart at

  abbrev parent : ℕ
  parent = heir program_of encodes s j k p whole apart at

  abbrev me : Process
  me = at_next_line p

  abbrev here : State
  here = with_process s j me

  abbrev there : State
  there = with_process following j (orphan parent me)

  abbrev Alike : Attempt Effect → Attempt Effect → Type 0
  Alike = Two ⊥ no_act s following j parent me

  reported-both : (m : ℕ) (bytes : Bytes) → Alike (done 0 (here, returns_bytes m bytes)) (done 0 (there, returns_bytes m bytes))
  reported-both m bytes = record { both = (refl, refl, tt, (None, me, record { directory = refl; table = refl; descriptors = refl; parent = refl }, refl, refl)) }

  -- the status of the node of a descriptor
  abbrev reports : State → Option (ℕ × OpenFile) → Attempt Effect
  reports z o = demand EBADF o >>= (λ v. answers_bytes z 0 (status z.tree v.1.node))

  node-reported : (a b : Option (ℕ × OpenFile)) → OpenAlike a b → ((m : ℕ) (file : OpenFile) → a ≡ Some (m, file) → node_at following.tree file.node ≡ node_at s.tree file.node) → Alike (reports here a) (reports there b)
  node-reported None None alike leaves = two-refused ⊥ no_act s following j parent me EBADF Plain
  node-reported None (Some v) alike leaves = absurd alike
  node-reported (Some v) None alike leaves = absurd alike
  node-reported (Some (m, file)) (Some (n, left)) alike leaves =
      let same : status following.tree left.node ≡ status s.tree file.node = ap (status following.tree) alike.1.node ∙ ap (status_of file.node) (leaves m file refl) in
      subst (λ bytes. Alike (reports here (Some (m, file))) (answers_bytes there 0 bytes)) (sym same) (reported-both 0 (status s.tree file.node))

  fstat-two : (d : ℤ) → LeavesNode program_of s p d k → Alike (effect program_of here j me (TheCall.Fstat d)) (effect program_of there j (orphan parent me) (TheCall.Fstat d))
  unfolding effect
  fstat-two d leaves = node-reported (open_file s p d) (open_file following p d) (alike-open program_of s j k p whole apart at d) leaves

  getppid-two : process_at following j ≡ Some p → Alike (effect program_of here j me TheCall.GetPpid) (effect program_of there j (orphan parent me) TheCall.GetPpid)
  unfolding effect
  getppid-two stays =
      let both : Some (orphan parent p) ≡ Some p = sym (at-following program_of encodes s j k p whole apart at) ∙ stays in
      let same : orphan parent p ≡ p = cc both in
      subst (λ n. Alike (done 0 (here, returns p.parent)) (done 0 (there, returns n))) (sym (ap (λ (q : Process). q.parent) same))
      (record { both = (refl, refl, tt, (None, me, record { directory = refl; table = refl; descriptors = refl; parent = refl }, refl, refl)) })

  reported-commutes : (call : Call) → next p ≡ calls_for call → Alike (effect program_of here j me call) (effect program_of there j (orphan parent me) call) → missing_promise p.promises (needs call) ≡ None → Commute program_of s j k
  reported-commutes call comes two held =
      commute-steps program_of encodes s j k p whole apart at ⊥ no_act
      (call-twice program_of encodes s j k p whole apart at ⊥ no_act (λ a z. absurd a) (λ a q h same. absurd a) (λ a q h same. absurd a) call comes held two) (alone-passes program_of encodes s j k p whole apart at)

  pub fstat-commutes : (d : ℤ) → next p ≡ calls_for (TheCall.Fstat d) → ((a : Promise) → (step program_of s j).outcome ≢ Killed a) → LeavesNode program_of s p d k → Commute program_of s j k
  fstat-commutes d comes alive leaves = commute-where program_of encodes s j k p (TheCall.Fstat d) whole apart at comes alive (reported-commutes (TheCall.Fstat d) comes (fstat-two d leaves))

  pub getppid-commutes : next p ≡ calls_for TheCall.GetPpid → ((a : Promise) → (step program_of s j).outcome ≢ Killed a) → process_at following j ≡ Some p → Commute program_of s j k
  getppid-commutes comes alive stays = commute-where program_of encodes s j k p TheCall.GetPpid whole apart at comes alive (reported-commutes TheCall.GetPpid comes (getppid-two stays))

-- ---- steps that query the tree, which is unchanged

module _ (program_of : Bytes → Option Program) (encodes : EncodesPrograms program_of) (s : State) (j k : ℕ) (p : Process) (whole : IsValid s) (apart : j ≢ k) (at : process_at s j ≡ Some p)
    (tree : (step program_of s k).after.tree ≡ s.tree) where
  abbrev u : State
  u = after_k program_of encodes s j k p whole apart at

  abbrev n : ℕ
  n = heir program_of encodes s j k p whole apart at

  abbrev now : Process
  now = at_next_line p

  abbrev x : State
  x = with_process s j now

  abbrev y : State
  y = with_process u j (orphan n now)

  -- the same state with the old tree
  abbrev y' : State
  y' = with_tree y s.tree

  abbrev T : Attempt Effect → Attempt Effect → Type 0
  T = Two ⊥ no_act s u j n now

  reported : (m : ℕ) (bytes : Bytes) → T (done 0 (x, returns_bytes m bytes)) (done 0 (y', returns_bytes m bytes))
  reported m bytes = record { both = (refl, refl, tt, (None, now, record { directory = refl; table = refl; descriptors = refl; parent = refl }, refl, ap (with_tree y) (sym tree))) }

  same-bind : {B : Type 0} (a : Attempt B) (g h : B → Attempt Effect) → ((v : B) → T (g v) (h v)) → T (a >>= g) (a >>= h)
  same-bind a g h is = two-bind ⊥ no_act s u j n now a g h is

  ruleset parts = (same-bind, two-then, reported)

  asks-two : (call : Call) → queries_tree call ≡ true → T (effect program_of x j now call) (effect program_of y' j (orphan n now) call)
  unfolding effect
  asks-two (TheCall.Stat path) is = search parts depth 20
  asks-two (TheCall.Lstat path) is = search parts depth 20
  asks-two (TheCall.Readlink path) is = search parts depth 20
  asks-two (TheCall.Fstat d) is =
      subst (λ z. T (effect program_of x j now (TheCall.Fstat d)) (effect program_of (with_tree y z) j (orphan n now) (TheCall.Fstat d))) tree
      (fstat-two program_of encodes s j k p whole apart at d (λ m file own. ap (λ z. node_at z file.node) tree))
  asks-two call is = cc is

  pub asking-commutes : (call : Call) → next p ≡ calls_for call → queries_tree call ≡ true → missing_promise p.promises (needs call) ≡ None → Commute program_of s j k
  asking-commutes call comes asks held =
      commute-steps program_of encodes s j k p whole apart at ⊥ no_act
      (call-twice program_of encodes s j k p whole apart at ⊥ no_act (λ a z. absurd a) (λ a q h same. absurd a) (λ a q h same. absurd a) call comes held
      (subst (λ t. T (effect program_of x j now call) (effect program_of (with_tree y t) j (orphan n now) call)) (sym tree) (asks-two call asks)))
      (alone-passes program_of encodes s j k p whole apart at)

pub asks-commute : (program_of : Bytes → Option Program) → EncodesPrograms program_of → (s : State) (j k : ℕ) (p : Process) (call : Call) → IsValid s → j ≢ k → process_at s j ≡ Some p → next p ≡ calls_for call
    → queries_tree call ≡ true → ((a : Promise) → (step program_of s j).outcome ≢ Killed a) → (step program_of s k).after.tree ≡ s.tree → Commute program_of s j k
asks-commute program_of encodes s j k p call whole apart at comes asks alive tree =
    commute-where program_of encodes s j k p call whole apart at comes alive (asking-commutes program_of encodes s j k p whole apart at tree call comes asks)

pub fstats-commute : (program_of : Bytes → Option Program) → EncodesPrograms program_of → (s : State) (j k : ℕ) (p : Process) (d : ℤ) → IsValid s → j ≢ k → process_at s j ≡ Some p → next p ≡ calls_for (TheCall.Fstat d)
    → ((a : Promise) → (step program_of s j).outcome ≢ Killed a) → LeavesNode program_of s p d k → Commute program_of s j k
fstats-commute program_of encodes s j k p d whole apart at comes alive leaves = fstat-commutes program_of encodes s j k p whole apart at d comes alive leaves

pub getppids-commute : (program_of : Bytes → Option Program) → EncodesPrograms program_of → (s : State) (j k : ℕ) (p : Process) → IsValid s → j ≢ k → process_at s j ≡ Some p → next p ≡ calls_for TheCall.GetPpid
    → ((a : Promise) → (step program_of s j).outcome ≢ Killed a) → process_at (step program_of s k).after j ≡ Some p → Commute program_of s j k
getppids-commute program_of encodes s j k p whole apart at comes alive stays = getppid-commutes program_of encodes s j k p whole apart at comes alive stays
