-- Steps that change the directory of their process, before and after a step of another process.
use Rattle.std.proofs.Common.{◌≡◌, ◌≢◌, ℕ, ℤ, pos, negsuc, true, false, not, Option, None, Some, is_some, option_map, refl, ap, sym, subst, ◌∙◌}
use Rattle.pv_model.specs.declared.call.Call.{Call}
use Rattle.pv_model.specs.declared.call.Call.TheVariants as TheCall
use Rattle.pv_model.specs.declared.errno.Errno.TheVariants.{EBADF, ENOTDIR}
use Rattle.pv_model.specs.declared.outcome.Outcome.TheVariants.{Killed}
use Rattle.pv_model.specs.declared.promise.Promise.{Promise}
use Rattle.pv_model.specs.Machine.{at_next_line, effect, Attempt, done, after_walks, ◌>>=◌, ◌>>◌, give, refuse_if, demand, Bytes, directory_of, with_result, Effect, returns, answers, open_file_of, open_file, needs, at_number, calls_for, next, missing_promise, OpenFile, Descriptor, Program, Process, State, process_at, with_process, with_tree, step, Tree, is_directory_at}
use Rattle.pv_laws_states.specs.States.{EncodesPrograms, IsValid}
use Rattle.pv_laws_states.proofs.CallOutcomes.{at_call}
use Rattle.pv_laws_runs.proofs.OfLawsAccess.ProcessesAfterEnds.{valid-in_order}
use Rattle.pv_laws_runs.proofs.OfLawsAccess.OtherOpenFiles.{others-files}
use Rattle.pv_laws_steps.specs.Commuting.{Commute}
use Rattle.pv_laws_steps.specs.Holding.{changes_directory, LeavesTree, LeavesDestination}
use Rattle.pv_laws_steps.proofs.ChangedProcess.{KeepsParent}
use Rattle.pv_laws_steps.proofs.OtherReferences.{UsesNoMore}
use Rattle.pv_laws_steps.proofs.IndependentSteps.{commute-where}
use Rattle.pv_laws_steps.proofs.ParentIndependence.{orphan}
use Rattle.pv_laws_steps.proofs.OwnSteps.{Becomes, becomes-bind, becomes-then, becomes, becomes-there, become-commute, used-same, files-stay, own-commute}
use Rattle.pv_laws_steps.proofs.ExchangedSteps.{after_k, heir}

-- ---- the effect of such a call

-- the process with another directory
abbrev HasOther : Process → Process → Type 0
HasOther now q = (d : ℕ) × (q ≡ record now { directory = d })

module _ (s t : State) (j n : ℕ) (now : Process) where
  abbrev x : State
  x = with_process s j now

  abbrev y : State
  y = with_process t j (orphan n now)

  abbrev Enters : Attempt Effect → Attempt Effect → Type 0
  Enters = Becomes s t j n now (HasOther now)

  enters-bind : {B : Type 0} (a : Attempt B) (g h : B → Attempt Effect) → ((v : B) → Enters (g v) (h v)) → Enters (a >>= g) (a >>= h)
  enters-bind = becomes-bind s t j n now (HasOther now)

  enters-then : {B : Type 0} (a : Attempt B) (g h : Attempt Effect) → Enters g h → Enters (a >> g) (a >> h)
  enters-then = becomes-then s t j n now (HasOther now)

  enters : (d : ℕ) → Enters (done 0 (with_process x j (record now { directory = d }), returns 0)) (done 0 (with_process y j (record (orphan n now) { directory = d }), returns 0))
  enters d = becomes s t j n now (HasOther now) (record now { directory = d }) (d, refl)

  -- chdir(2), with the tree unchanged
  module _ (tree : t.tree ≡ s.tree) where
    abbrev y' : State
    y' = with_tree y s.tree

    enters-there : (d : ℕ) → Enters (done 0 (with_process x j (record now { directory = d }), returns 0)) (done 0 (with_process y' j (record (orphan n now) { directory = d }), returns 0))
    enters-there d = becomes-there s t j n now (HasOther now) tree (record now { directory = d }) (d, refl)

    ruleset parts = (enters-bind, enters-then, enters-there)

    chdir-by : (program_of : Bytes → Option Program) (path : Bytes) → Enters (effect program_of x j now (TheCall.Chdir path)) (effect program_of y' j (orphan n now) (TheCall.Chdir path))
    unfolding effect
    chdir-by program_of path = search parts depth 20

    pub chdir-enters : (program_of : Bytes → Option Program) (path : Bytes) → Enters (effect program_of x j now (TheCall.Chdir path)) (effect program_of y j (orphan n now) (TheCall.Chdir path))
    chdir-enters program_of path = subst (λ u. Enters (effect program_of x j now (TheCall.Chdir path)) (effect program_of (with_tree y u) j (orphan n now) (TheCall.Chdir path))) (sym tree) (chdir-by program_of path)

  -- fchdir(2), if the descriptor's directory is the same
  pub fchdir-enters : (program_of : Bytes → Option Program) (d : ℤ) → directory_of y j (orphan n now) d ≡ directory_of x j now d
      → Enters (effect program_of x j now (TheCall.Fchdir d)) (effect program_of y j (orphan n now) (TheCall.Fchdir d))
  unfolding effect
  fchdir-enters program_of d same =
      subst (λ a. Enters (effect program_of x j now (TheCall.Fchdir d)) (a >>= (λ m. answers (with_process y j (record (orphan n now) { directory = m })) 0))) (sym same)
      (enters-bind (directory_of x j now d) (λ m. answers (with_process x j (record now { directory = m })) 0) (λ m. answers (with_process y j (record (orphan n now) { directory = m })) 0) enters)

-- ---- the step

module _ (program_of : Bytes → Option Program) (encodes : EncodesPrograms program_of) (s : State) (j k : ℕ) (p : Process) (whole : IsValid s) (apart : j ≢ k) (at : process_at s j ≡ Some p) where
  abbrev t : State
  t = after_k program_of encodes s j k p whole apart at

  abbrev n : ℕ
  n = heir program_of encodes s j k p whole apart at

  abbrev now : Process
  now = at_next_line p

  -- the directory of a descriptor is the same after the step of k
  abbrev by_file : Tree → Option (ℕ × OpenFile) → Attempt ℕ
  by_file u o = demand EBADF o >>= (λ v. refuse_if ENOTDIR (not (is_directory_at u v.1.node)) >> give v.1.node)

  directory-same : (d : ℤ) → LeavesDestination program_of s p (TheCall.Fchdir d) k → by_file t.tree (open_file t p d) ≡ by_file s.tree (open_file s p d)
  directory-same (negsuc e) way = refl
  directory-same (pos e) way = by (at_number p.descriptors e) refl
    where
      found : (v : Descriptor) → at_number p.descriptors e ≡ Some v → (o : Option OpenFile) → at_number s.files v.file ≡ o → by_file t.tree (open_file t p (pos e)) ≡ by_file s.tree (open_file s p (pos e))
      found v is None none = let some : is_some (at_number s.files v.file) ≡ true = (whole.processes.placed j p at).opens e v is in let no : is_some (at_number s.files v.file) ≡ false = ap is_some none in cc
      found v is (Some file) there =
          let own : open_file s p (pos e) ≡ Some (v.file, file) = ap (open_file_of s) is ∙ ap (option_map (λ (o : OpenFile). (v.file, o))) there in
          let left = others-files program_of s k (valid-in_order s whole) j p e v file apart at is there in
          let own_t : open_file t p (pos e) ≡ Some (v.file, left.0) = ap (open_file_of t) is ∙ ap (option_map (λ (o : OpenFile). (v.file, o))) left.1 in
          ap (by_file t.tree) own_t
          ∙ ap (λ m. after_walks 0 (refuse_if ENOTDIR (not (is_directory_at t.tree m)) >> give m)) left.2.node
          ∙ ap (λ b. after_walks 0 (refuse_if ENOTDIR (not b) >> give file.node)) (way v.file file own)
          ∙ sym (ap (by_file s.tree) own)

      by : (o : Option Descriptor) → at_number p.descriptors e ≡ o → by_file t.tree (open_file t p (pos e)) ≡ by_file s.tree (open_file s p (pos e))
      by None is = ap (λ o. by_file t.tree (open_file_of t o)) is ∙ sym (ap (λ o. by_file s.tree (open_file_of s o)) is)
      by (Some v) is = found v is (at_number s.files v.file) refl

  call-enters : (call : Call) → changes_directory call ≡ true → LeavesDestination program_of s p call k → Enters s t j n now (effect program_of (at_call s j p) j now call) (effect program_of (at_call t j (orphan n p)) j (orphan n now) call)
  call-enters (TheCall.Fchdir d) is way = fchdir-enters s t j n now program_of d (directory-same d way)
  call-enters (TheCall.Chdir path) is way = chdir-enters s t j n now way program_of path
  call-enters call is way = cc is

  -- the process after the call, with any parent and descriptors
  abbrev f : ℕ → Process → Process
  f d r = record (with_result (record now { directory = d }) (pos 0) 0) { parent = r.parent; descriptors = r.descriptors }

  keeps : (d : ℕ) → KeepsParent (f d)
  keeps d = record { same = λ r. refl; whoever = λ r m. refl }

  fewer : (d : ℕ) → UsesNoMore p.descriptors (f d p).descriptors
  fewer d i v has = (i, v, has, refl)

  directory-commutes : (call : Call) → next p ≡ calls_for call → changes_directory call ≡ true → LeavesTree program_of s j → LeavesDestination program_of s p call k → missing_promise p.promises (needs call) ≡ None
      → Commute program_of s j k
  directory-commutes call comes changes leaves way held =
      become-commute program_of encodes s j k p whole apart at call comes held (HasOther now) (call-enters call changes way)
      (λ w q such one two.
      let d : ℕ = such.0 in
      let is_given : f d p ≡ with_result q (pos 0) 0 = ap (λ r. with_result r (pos 0) 0) (sym such.1) in
      own-commute program_of encodes s j k p whole apart at call comes held (f d) (keeps d) (fewer d) w 0 q is_given one two leaves
      (files-stay program_of encodes s j k p whole apart at call comes held (f d) (keeps d) (fewer d) w 0 q is_given one two (used-same j (f d) (λ r. refl) s)))

pub directories-commute : (program_of : Bytes → Option Program) → EncodesPrograms program_of → (s : State) (j k : ℕ) (p : Process) (call : Call) → IsValid s → j ≢ k → process_at s j ≡ Some p → next p ≡ calls_for call
    → changes_directory call ≡ true → ((a : Promise) → (step program_of s j).outcome ≢ Killed a) → LeavesTree program_of s j → LeavesDestination program_of s p call k → Commute program_of s j k
directories-commute program_of encodes s j k p call whole apart at comes changes alive leaves way =
    commute-where program_of encodes s j k p call whole apart at comes alive (directory-commutes program_of encodes s j k p whole apart at call comes changes leaves way)
