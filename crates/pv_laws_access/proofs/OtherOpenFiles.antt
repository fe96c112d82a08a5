-- The open files of other processes after a step.
use Rattle.std.proofs.Common.{◌≡◌, ◌≢◌, ◌⊎◌, inl, inr, ℕ, ℤ, pos, negsuc, Option, None, Some, refl, ap, sym, subst, ◌∙◌, ⊎_elim}
use Rattle.std.proofs.lemmas.Bool.{cases_eq}
use Rattle.pv_model.specs.declared.call.Call.{Call}
use Rattle.pv_model.specs.declared.errno.Errno.TheVariants.{ENOSYS}
use Rattle.pv_model.specs.declared.outcome.Cause.TheVariants.{Promise as ByPromise}
use Rattle.pv_model.specs.Machine.{answer, answer_by_attempt, at_next_line, with_front, update, effect, Attempt, done, refused, Bytes, with_result, end_process, Effect, Reply, returns, returns_bytes, ends, waits, open_file, errno_number, among, collect, Numbered, at_number, with_number, least_free, Next, inside, calls_for, next, OpenFile, Descriptor, Program, Process, State, process_at, Stepped, step, step_by, descriptor_of}
use Rattle.pv_laws_trees.proofs.NumberedMaps.{at_number-below, with_number-same, with_number-other, with_number-other_within, least_free-free, least_free-within, keep-passes}
use Rattle.pv_laws_states.specs.Held.{used}
use Rattle.pv_laws_states.proofs.AttemptValues.{Leads}
use Rattle.pv_laws_states.proofs.ReferenceMembers.{among-used}
use Rattle.pv_laws_states.proofs.CallOutcomes.{at_call, by_answer}
use Rattle.pv_laws_states.proofs.Processes.{process_at-same, process_at-other, files-update}
use Rattle.pv_laws_states.proofs.CollectedStates.{files-collect}
use Rattle.pv_laws_access.specs.Growth.{IsInOrder, IsSameFile, IsNamedBy}
use Rattle.pv_laws_access.proofs.ImageGrowth.{other}
use Rattle.pv_laws_access.proofs.CallEffects.{HasEffect, stays, restrains, begins, closes, copies, forks, reaps, moves, cuts, writes_bytes, makes, links, unlinks, renames, opens, creates, Did}
use Rattle.pv_laws_access.proofs.EffectByCall.{does-effect}
use Rattle.pv_laws_access.proofs.ProcessesAfterEnds.{update-other, in_order-call, ended-others, step-is, step-gone}

-- an open file stays under its number
abbrev IsLeft : Type 0 → Numbered OpenFile → ℕ → OpenFile → Type 0
IsLeft Named files k file = (left : OpenFile) × (at_number files k ≡ Some left) × IsSameFile file left × ((left ≡ file) ⊎ Named)

module _ (Named : Type 0) where
  left-as_was : (files : Numbered OpenFile) (k : ℕ) (file : OpenFile) → at_number files k ≡ Some file → IsLeft Named files k file
  left-as_was files k file there = (file, there, record { node = refl; mode = refl }, inl refl)

  -- another open file under a number, with the same node and mode
  left-moved : (files : Numbered OpenFile) (j : ℕ) (old new : OpenFile) (k : ℕ) (file : OpenFile) → at_number files j ≡ Some old → new.node ≡ old.node → new.mode ≡ old.mode → at_number files k ≡ Some file
      → ((k ≡ j) → Named) → IsLeft Named (with_number files j new) k file
  left-moved files j old new k file is node mode there named =
      let below = at_number-below files j old is in
      ⊎_elim
      (λ here.
      let both : Some old ≡ Some file = sym is ∙ ap (at_number files) (sym here) ∙ there in
      let same : old ≡ file = cc both in (
        new,
        ap (at_number (with_number files j new)) here ∙ with_number-same files j new below,
        record { node = node ∙ ap (λ (f : OpenFile). f.node) same; mode = mode ∙ ap (λ (f : OpenFile). f.mode) same },
        inr (named here),
      ))
      (λ away. left-as_was (with_number files j new) k file (with_number-other files j new k below away ∙ there))
      (cases_eq k j)

  -- a new open file under the least free number
  left-other : (files : Numbered OpenFile) (new : OpenFile) (k : ℕ) (file : OpenFile) → at_number files k ≡ Some file → IsLeft Named (with_number files (least_free files) new) k file
  left-other files new k file there =
      left-as_was (with_number files (least_free files) new) k file
      (with_number-other_within files (least_free files) new k (least_free-within files) (λ same. let none = ap (at_number files) same ∙ least_free-free files in cc) ∙ there)

-- the call's own descriptor refers to the open file
abbrev IsOwn : State → Process → Call → ℕ → Type 0
IsOwn s me call k = (d : ℤ) × (file : OpenFile) × (descriptor_of call ≡ Some d) × (open_file s me d ≡ Some (k, file))

own-file : (s : State) (pid : ℕ) (me : Process) (call : Call) (k j : ℕ) (old : OpenFile) → Rattle.pv_laws_access.proofs.CallEffects.IsOwnFile s pid me call j old → k ≡ j → IsOwn s me call k
own-file s pid me call k j old named here = (named.0, old, named.1, named.2 ∙ ap (λ n. Some (n, old)) (sym here))

module _ (s : State) (pid : ℕ) (me : Process) (call : Call) (k : ℕ) (file : OpenFile) (there : at_number s.files k ≡ Some file) where
  abbrev Own : Type 0
  Own = IsOwn s me call k

  as_it_is : IsLeft Own s.files k file
  as_it_is = left-as_was Own s.files k file there

  -- the open files after a call
  left-does : (after : State) (r : Reply) → HasEffect s pid me call after r → IsLeft Own after.files k file
  left-does _ _ (stays r waiting) = as_it_is
  left-does _ _ (restrains q r no_more same parent table goes) = as_it_is
  left-does _ _ (begins path program is) = as_it_is
  left-does _ _ (closes d) = as_it_is
  left-does _ _ (copies d x n is) = as_it_is
  left-does _ _ (forks is) = as_it_is
  left-does _ _ (reaps j r ended goes) = as_it_is
  left-does _ _ (moves j old new r is node mode named goes) = left-moved Own s.files j old new k file is node mode there (own-file s pid me call k j old named)
  left-does _ _ (cuts f bytes has) = as_it_is
  left-does _ _ (writes_bytes f bytes j old new n has is node mode named) = left-moved Own s.files j old new k file is node mode there (own-file s pid me call k j old named)
  left-does _ _ (makes place q node change none bare) = as_it_is
  left-does _ _ (links place q old n change from_old is fine) = as_it_is
  left-does _ _ (unlinks place q change) = as_it_is
  left-does _ _ (renames place q next r n from into is) = as_it_is
  left-does _ _ (opens flags place n m flagged allowed is fine written) = left-other Own s.files _ k file there
  left-does _ _ (creates flags place q m flagged allowed create named none fine) = left-other Own s.files _ k file there

-- an open file that a live process uses is not collected
left-collect : (Named : Type 0) (s : State) (pid : ℕ) (p : Process) (d : ℕ) (x : Descriptor) (file : OpenFile) → process_at s pid ≡ Some p → at_number p.descriptors d ≡ Some x → IsLeft Named s.files x.file file
    → IsLeft Named (collect s).files x.file file
left-collect Named s pid p d x file at has is =
    (is.0, ap (λ (fs : Numbered OpenFile). at_number fs x.file) (files-collect s) ∙ keep-passes (among (used s)) s.files x.file (among-used s pid p d x at has) ∙ is.1, is.2, is.3)

left-named : (N M : Type 0) (files : Numbered OpenFile) (k : ℕ) (file : OpenFile) → (N → M) → IsLeft N files k file → IsLeft M files k file
left-named N M files k file to is = (is.0, is.1, is.2, ⊎_elim (λ same. inl same) (λ named. inr (to named)) is.3)

files-ended : (s : State) (pid : ℕ) (me : Process) (status : ℕ) → (end_process s pid me status).files ≡ s.files
unfolding end_process
files-ended s pid me status = refl

module _ (program_of : Bytes → Option Program) (s : State) (pid : ℕ) (order : IsInOrder s) (k : ℕ) (p : Process) (d : ℕ) (x : Descriptor) (file : OpenFile)
    (apart : k ≢ pid) (live : process_at s k ≡ Some p) (has : at_number p.descriptors d ≡ Some x) (there : at_number s.files x.file ≡ Some file) where
  abbrev Leaves : State → Type 0
  Leaves after = IsLeft (IsNamedBy s pid x.file) after.files x.file file

  as-was : Leaves s
  as-was = left-as_was (IsNamedBy s pid x.file) s.files x.file file there

  left-ended : (y : State) (me : Process) (status : ℕ) → y.files ≡ s.files → process_at y k ≡ Some p → Leaves (collect (end_process y pid me status))
  left-ended y me status same at =
      let left = ended-others y pid me status k p apart at in
      left-collect (IsNamedBy s pid x.file) (end_process y pid me status) k left.0 d x file left.1
      (ap (λ (q : Process). at_number q.descriptors d) left.2.all ∙ has)
      (subst (λ (fs : Numbered OpenFile). IsLeft (IsNamedBy s pid x.file) fs x.file file) (sym (files-ended y pid me status ∙ same)) as-was)

  module _ (call : Call) (me : Process) (at : process_at s pid ≡ Some me) (made : next me ≡ calls_for call) where
    abbrev y : State
    y = at_call s pid me

    abbrev now : Process
    now = at_next_line me

    -- an open file that the call names is one that it named before the step
    own-before : IsOwn y now call x.file → IsNamedBy s pid x.file
    own-before own = record { p = me; call = call; d = own.0; file = own.1; at = at; next_is = made; own = own.2; opened = own.3 }

    y_live : process_at y k ≡ Some p
    y_live = process_at-other s pid now k apart ∙ live

    left-reported : (after : State) (r : Reply) (f : Process → Process) → HasEffect y pid now call after r → Leaves (collect (update after pid f))
    left-reported after r f does =
        left-collect (IsNamedBy s pid x.file) (update after pid f) k p d x file
        (update-other after pid f k apart ∙ other y pid now call (in_order-call s pid me order at) (process_at-same s pid now) k p apart y_live after r does) has
        (subst (λ (fs : Numbered OpenFile). IsLeft (IsNamedBy s pid x.file) fs x.file file) (sym (files-update after pid f))
        (left-named (IsOwn y now call x.file) (IsNamedBy s pid x.file) after.files x.file file own-before (left-does y pid now call x.file file there after r does)))

    left-attempt : (a : Attempt Effect) → Leads (Did y pid now call) a → Leaves (answer_by_attempt s y pid now a).after
    left-attempt (done walks (after, returns n)) does = left-reported after (returns n) (λ q. with_result q (pos n) 0) does
    left-attempt (done walks (after, returns_bytes n bytes)) does = left-reported after (returns_bytes n bytes) (λ q. with_front bytes (with_result q (pos n) 0)) does
    left-attempt (done walks (after, ends status)) does =
        subst (λ (z : State). Leaves (collect (end_process z pid now status))) (sym (Rattle.pv_laws_access.proofs.CallEffects.ends-stays y pid now call after (ends status) status does refl)) (left-ended y now status refl y_live)
    left-attempt (done walks (after, waits)) does = as-was
    left-attempt (refused walks errno cause) does =
        subst (λ (fs : Numbered OpenFile). IsLeft (IsNamedBy s pid x.file) fs x.file file) (sym (files-update y pid (λ q. with_result q (negsuc 0) (errno_number errno)))) as-was

  -- a step of a process that makes a call
  made-one : (call : Call) (me you : Process) → process_at s pid ≡ Some me → next me ≡ calls_for call → process_at s pid ≡ Some you → next you ≡ calls_for call
  made-one call me you at made found = let both : Some you ≡ Some me = sym found ∙ at in let same : you ≡ me = cc both in ap next same ∙ made

  left-answer : (call : Call) (me : Process) → process_at s pid ≡ Some me → next me ≡ calls_for call → Leaves (answer program_of s pid call).after
  left-answer call mine here made =
      by_answer (λ a. Leaves a.after) program_of s pid call
      (λ none. as-was)
      (λ me at missing. left-attempt call me at (made-one call mine me here made at) (effect program_of (at_call s pid me) pid (at_next_line me) call) (does-effect program_of (at_call s pid me) pid (at_next_line me) call))
      (λ me lacks at missing lenient. left-attempt call me at (made-one call mine me here made at) (refused 0 ENOSYS (ByPromise lacks)) tt)
      (λ me lacks at missing lenient. left-ended s (at_next_line me) 6 refl live)

  by-next : (me : Process) → process_at s pid ≡ Some me → (n : Next) → next me ≡ n → Leaves (step_by program_of s pid me n).after
  by-next me at (inside q) is = as-was
  by-next me at (calls_for call) is = left-answer call me at is

  pub others-files : Leaves (step program_of s pid).after
  others-files = of (process_at s pid) refl
    where
      of : (o : Option Process) → process_at s pid ≡ o → Leaves (step program_of s pid).after
      of None gone = subst (λ (w : Stepped). Leaves w.after) (sym (step-gone program_of s pid gone)) as-was
      of (Some me) at = subst (λ (w : Stepped). Leaves w.after) (sym (step-is program_of s pid me at)) (by-next me at (next me) refl)
