-- Calls on descriptors, and the counts after them.
use Rattle.std.proofs.Common.{◌≡◌, ◌≢◌, ℕ, zero, suc, ◌+◌, ◌<◌, ◌≤◌, ℤ, pos, negsuc, Bool, true, false, cond, ◌==◌, nat_le, List, [], ◌∷◌, Option, None, Some, Result, Ok, Err, refl, ap, ap₂, sym, subst, ◌∙◌, arith}
use Rattle.std.specs.Prelude.{slice_index, option_map, ok_or, IsSome, IfSome}
use Rattle.std.proofs.lemmas.Bool.{ne_eqb, lt-leb}
use Rattle.pv_files.specs.Counted.{Counted, IsCounted}
use Rattle.pv_files.specs.Descriptors.{descriptor_under}
use Rattle.pv_model.specs.declared.errno.Errno.{Errno}
use Rattle.pv_model.specs.declared.errno.Errno.TheVariants.{EBADF, EMFILE}
use Rattle.pv_model.specs.declared.limits.TheConstants.{DESCRIPTORS}
use Rattle.pv_model.specs.declared.outcome.Cause.TheVariants.{Plain}
use Rattle.pv_model.specs.Machine.{done, refused, after_walks, demand, refuse_if, ◌>>=◌, ◌>>◌, close, dup, dup2, within, is_number, without_descriptor, with_descriptor, answers, returns, descriptor_at, held_by_process, collect, Numbered, at_number, with_number, least_free, Descriptor, Process, State, with_process as state_with_process}
use Rattle.pv_model.specs.Calls.Descriptors.{with_duplicate}
use Rattle.pv_procs.specs.ProcessTable.{ProcessTable, table_with_process}
use Rattle.pv_procs.specs.OfTree.Holding.{HeldTree, holds_at, collected}
use Rattle.pv_laws_trees.proofs.NumberedMaps.{least_free-free}
use Rattle.pv_calls_state.specs.Attempts.{collected_attempt}
use Rattle.pv_calls_state.specs.Changes.{with_descriptors}
use Rattle.pv_calls_state.specs.Counts.{state_of, times, open_nodes, IsCountedUp}
use Rattle.pv_calls_state.specs.Releasing.{files_on, at_most_one}
use Rattle.pv_calls_state.proofs.CollectionByCounts.{one_if}
use Rattle.pv_calls_state.proofs.ReferenceCounting.{of_place, times-one, times-with_number, times-without_number}
use Rattle.pv_calls_state.proofs.RemovedUsers.{of_file}
use Rattle.pv_calls_state.proofs.ProcessChanges.{IsBefore, placed, state-put, counted-changed, collected-changed}

-- ---- lookups

pub ok-descriptor : (o : Option Descriptor) (file : ℕ) → ok_or (option_map (λ e. e.file) o) EBADF ≡ Ok file → (x : Descriptor) × (o ≡ Some x) × (x.file ≡ file)
ok-descriptor None file is = cc
ok-descriptor (Some x) file is = (x, refl, cc is)

pub under-at : (me : Process) (d : ℤ) → descriptor_at me d ≡ descriptor_under me.descriptors d
under-at me (pos n) = refl
under-at me (negsuc n) = refl

pub times-closed : (k : ℕ) (ds : Numbered Descriptor) (d : ℤ) (x : Descriptor) → descriptor_under ds d ≡ Some x
    → times k (files_on (without_descriptor ds d)) + one_if x.file k ≡ times k (files_on ds)
times-closed k ds (pos n) x is =
    omega (arith, times-without_number of_file k ds n, ap (λ o. times k (of_place of_file o)) is, times-one k x.file)
times-closed k ds (negsuc n) x is = cc

-- a descriptor under the least free number
pub times-given : (k : ℕ) (ds : Numbered Descriptor) (x : Descriptor) → times k (files_on (with_number ds (least_free ds) x)) ≡ times k (files_on ds) + one_if x.file k
times-given k ds x =
    omega (arith, times-with_number of_file k ds (least_free ds) x, ap (λ o. times k (of_place of_file o)) (least_free-free ds), times-one k x.file)

at_most_one-place : (k : ℕ) (o : Option Descriptor) → times k (at_most_one (option_map (λ e. e.file) o)) ≡ times k (of_place of_file o)
at_most_one-place k None = refl
at_most_one-place k (Some x) = refl

-- a descriptor in place of an earlier one
pub times-set : (k : ℕ) (ds : Numbered Descriptor) (n : ℕ) (x : Descriptor) (left : Option ℕ) → left ≡ option_map (λ e. e.file) (at_number ds n)
    → times k (files_on (with_number ds n x)) + times k (at_most_one left) ≡ times k (files_on ds) + one_if x.file k
times-set k ds n x left is =
    omega (arith, times-with_number of_file k ds n x, ap (λ o. times k (at_most_one o)) is, at_most_one-place k (at_number ds n), times-one k x.file)

module _ (t : HeldTree) (c : Counted) (ps : ProcessTable) (pid : ℕ) (me : Process) (is : IsBefore t c ps pid me) where
  -- each descriptor refers to an open file
  pub under-opened : (d : ℤ) (x : Descriptor) → descriptor_under me.descriptors d ≡ Some x → IsSome (at_number c.files x.file)
  under-opened (pos n) x at = (placed t c ps pid me is).opens n x at
  under-opened (negsuc n) x at = cc

  pub left-opened : (d : Counted) (n : ℕ) (left : Option ℕ) → left ≡ option_map (λ e. e.file) (at_number me.descriptors n) → d.files ≡ c.files
      → IfSome left (λ k. IsSome (at_number d.files k))
  left-opened d n left same files =
      subst (λ o. IfSome o (λ k. IsSome (at_number d.files k))) (sym same) (by (at_number me.descriptors n) (λ x at. subst (λ fs. IsSome (at_number fs x.file)) (sym files) ((placed t c ps pid me is).opens n x at)))
    where
      by : (o : Option Descriptor) → ((x : Descriptor) → o ≡ Some x → IsSome (at_number d.files x.file)) → IfSome (option_map (λ e. e.file) o) (λ k. IsSome (at_number d.files k))
      by None there = search Rattle.std.proofs.Common.rules
      by (Some x) there = there x refl

  -- a process with other descriptors, and the users of its open files
  module _ (u : HeldTree) (d : Counted) (qs : ProcessTable) (ds : Numbered Descriptor) (put : qs ≡ table_with_process ps pid (with_descriptors ds me))
      (users : (k : ℕ) → slice_index d.users k + times k (files_on me.descriptors) ≡ slice_index c.users k + times k (files_on ds))
      (holds : (n : ℕ) → holds_at u n + times n (open_nodes c.files) ≡ holds_at t n + times n (open_nodes d.files)) where
    both : (n : ℕ) → (holds_at u n + times n (held_by_process me)) + times n (open_nodes c.files)
        ≡ (holds_at t n + times n (held_by_process (with_descriptors ds me))) + times n (open_nodes d.files)
    both n = omega (arith, holds n)

    pub exchanged-up : IsCountedUp u d qs
    exchanged-up = counted-changed t c ps pid me is u d qs (with_descriptors ds me) put users both

    pub exchanged-state : (s : State) → state_of t c ps ≡ s → IsCounted d → u.tree ≡ collected t.tree u.holds
        → ((k : ℕ) → 0 < slice_index d.users k → at_number d.files k ≡ at_number c.files k) → state_of u d qs ≡ collect (state_with_process s pid (with_descriptors ds me))
    exchanged-state s view counted nodes files =
        collected-changed t c ps pid me is u d qs (with_descriptors ds me) put users both t.tree c.files counted is.counted.slots nodes files
        ∙ ap collect (state-put t c ps pid me is s (with_descriptors ds me) view)

-- ---- system calls

-- closing a descriptor that is not open is refused
pub close-refused : (s : State) (pid : ℕ) (me : Process) (d : ℤ) (e : Errno) → Err e ≡ ok_or (option_map (λ x. x.file) (descriptor_under me.descriptors d)) EBADF
    → collected_attempt (close s pid me d) ≡ refused 0 e Plain
close-refused s pid me d e is = by (descriptor_under me.descriptors d) refl is
  where
    by : (o : Option Descriptor) → descriptor_under me.descriptors d ≡ o → Err e ≡ ok_or (option_map (λ x. x.file) o) EBADF → collected_attempt (close s pid me d) ≡ refused 0 e Plain
    by (Some x) at is = cc is
    by None at is =
        let same : e ≡ EBADF = cc is in
        ap (λ o. collected_attempt (demand EBADF o >> answers (state_with_process s pid (with_descriptors (without_descriptor me.descriptors d) me)) 0)) (under-at me d ∙ at)
        ∙ ap (λ x. refused 0 x Plain) (sym same)

module _ (s : State) (pid : ℕ) (me : Process) (d : ℤ) (x : Descriptor) (at : descriptor_under me.descriptors d ≡ Some x) (after : State) where
  pub close-performed : after ≡ collect (state_with_process s pid (with_descriptors (without_descriptor me.descriptors d) me)) → collected_attempt (close s pid me d) ≡ done 0 (after, returns 0)
  close-performed is =
      ap (λ o. collected_attempt (demand EBADF o >> answers (state_with_process s pid (with_descriptors (without_descriptor me.descriptors d) me)) 0)) (under-at me d ∙ at)
      ∙ ap (λ w. done 0 (w, returns 0)) (sym is)

  pub dup-performed : (number value : ℕ) → number ≡ least_free me.descriptors → number < 16 → value ≡ number
      → after ≡ collect (state_with_process s pid (with_descriptors (with_number me.descriptors (least_free me.descriptors) (record { file = x.file; close_on_exec = false })) me))
      → collected_attempt (dup s pid me d) ≡ done 0 (after, returns value)
  dup-performed number value least few same is =
      let roomy : nat_le DESCRIPTORS (least_free me.descriptors) ≡ false = lt-leb 16 (least_free me.descriptors) (omega (arith, least, few)) in
      ap (λ o. collected_attempt (demand EBADF o >>= (λ (y : Descriptor). refuse_if EMFILE (nat_le DESCRIPTORS (least_free me.descriptors)) >> answers (with_descriptor s pid me s y.file false) (least_free me.descriptors))))
      (under-at me d ∙ at)
      ∙ ap (λ b. collected_attempt (after_walks 0 (refuse_if EMFILE b >> answers (with_descriptor s pid me s x.file false) (least_free me.descriptors)))) roomy
      ∙ ap₂ (λ w v. done 0 (w, returns v)) (sym is) (sym least ∙ sym same)

  pub dup2-performed : (e : ℤ) (number value : ℕ) → Some number ≡ within 15 e → is_number d number ≡ false → value ≡ number
      → after ≡ collect (state_with_process s pid (with_descriptors (with_number me.descriptors number (record { file = x.file; close_on_exec = false })) me))
      → collected_attempt (dup2 s pid me d e) ≡ done 0 (after, returns value)
  dup2-performed e number value there other same is =
      ap (λ o. collected_attempt (demand EBADF o >>= (λ (y : Descriptor). demand EBADF (within 15 e) >>= (λ (n : ℕ). answers (with_duplicate s pid me d n y) n)))) (under-at me d ∙ at)
      ∙ ap (λ o. collected_attempt (after_walks 0 (demand EBADF o >>= (λ (n : ℕ). answers (with_duplicate s pid me d n x) n)))) (sym there)
      ∙ ap (λ b. done 0 (collect (cond b s (state_with_process s pid (with_descriptors (with_number me.descriptors number (record { file = x.file; close_on_exec = false })) me))), returns number)) other
      ∙ ap₂ (λ w v. done 0 (w, returns v)) (sym is) (sym same)

-- a number other than the given one
pub other-number : (d e : ℤ) (number : ℕ) → Some number ≡ within 15 e → d ≢ e → is_number d number ≡ false
other-number (negsuc j) e number there other = refl
other-number (pos j) (negsuc m) number there other = cc
other-number (pos j) (pos m) number there other =
    ne_eqb j number (λ same. other (ap pos (same ∙ by (nat_le m 15) there)))
  where
    by : (b : Bool) → Some number ≡ cond b (Some m) None → number ≡ m
    by true is = cc is
    by false is = cc is
