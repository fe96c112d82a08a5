-- The open files after a step.
use Rattle.std.proofs.Common.{◌≡◌, ◌≢◌, ℕ, pos, negsuc, false, Option, None, Some, refl, ap, sym, ◌∙◌, ⊎_elim}
use Rattle.std.proofs.lemmas.Bool.{cases_eq}
use Rattle.pv_model.specs.declared.call.Call.{Call}
use Rattle.pv_model.specs.declared.errno.Errno.TheVariants.{ENOSYS}
use Rattle.pv_model.specs.declared.open_flags.OpenFlags.{OpenFlags}
use Rattle.pv_model.specs.declared.outcome.Cause.TheVariants.{Promise as ByPromise}
use Rattle.pv_model.specs.Machine.{answer, answer_by_attempt, at_next_line, with_front, update, effect, Attempt, done, refused, Bytes, new_open_file, with_result, end_process, Effect, Reply, returns, returns_bytes, ends, waits, errno_number, among, collect, Numbered, at_number, with_number, least_free, Next, inside, calls_for, next, OpenFile, Descriptor, Program, Process, State, process_at, Stepped, step, step_by, flags_of}
use Rattle.pv_laws_states.specs.Held.{used}
use Rattle.pv_laws_states.proofs.AttemptValues.{Leads}
use Rattle.pv_laws_states.proofs.CallOutcomes.{at_call, by_answer}
use Rattle.pv_laws_states.proofs.Processes.{process_at-same, process_at-other, files-update}
use Rattle.pv_laws_states.proofs.CollectedStates.{files-collect}
use Rattle.pv_laws_trees.proofs.NumberedMaps.{at_number-below, with_number-same, with_number-other, with_number-same_within, with_number-other_within, least_free-within, keep-some}
use Rattle.pv_laws_access.specs.Growth.{IsInOrder}
use Rattle.pv_laws_access.proofs.CallEffects
use Rattle.pv_laws_access.proofs.EffectByCall.{does-effect}
use Rattle.pv_laws_access.proofs.ImageGrowth.{other}
use Rattle.pv_laws_access.proofs.ProcessesAfterEnds.{process_at-collect, update-other, in_order-call, step-is, step-gone}
use Rattle.pv_laws_access.proofs.OtherOpenFiles.{others-files}
use Rattle.pv_laws_access.specs.Frame.{HasOrigin, as_it_was, moved, opened, is_end}

-- an open file that remains after collection existed before
collected : (y : State) (k : ℕ) (left : OpenFile) → at_number (collect y).files k ≡ Some left → at_number y.files k ≡ Some left
collected y k left is = (keep-some (among (used y)) y.files k left (ap (λ (fs : Numbered OpenFile). at_number fs k) (sym (files-collect y)) ∙ is)).1

files-end : (y : State) (pid : ℕ) (me : Process) (status : ℕ) → (end_process y pid me status).files ≡ y.files
unfolding end_process
files-end y pid me status = refl

module _ (s : State) (pid k : ℕ) (left : OpenFile) where
  abbrev Came : Type 0
  Came = HasOrigin s pid k left

  module _ (me : Process) (call : Call) (at : process_at s pid ≡ Some me) (made : next me ≡ calls_for call) where
    abbrev y : State
    y = at_call s pid me

    abbrev now : Process
    now = at_next_line me

    -- an open file at another position
    by-move : (j : ℕ) (old new : OpenFile) → at_number s.files j ≡ Some old → new.node ≡ old.node → new.mode ≡ old.mode → CallEffects.IsOwnFile y pid now call j old → at_number (with_number s.files j new) k ≡ Some left → Came
    by-move j old new was node mode own is =
        let below = at_number-below s.files j old was in
        ⊎_elim
        (λ here.
        let both : Some new ≡ Some left = sym (with_number-same s.files j new below) ∙ ap (at_number (with_number s.files j new)) (sym here) ∙ is in
        let same : new ≡ left = cc both in
        moved old left (ap (at_number s.files) here ∙ was) (record { node = ap (λ (f : OpenFile). f.node) (sym same) ∙ node; mode = ap (λ (f : OpenFile). f.mode) (sym same) ∙ mode })
        (record { p = me; call = call; d = own.0; file = old; at = at; next_is = made; own = own.1; opened = own.2 ∙ ap (λ n. Some (n, old)) (sym here) }))
        (λ away. as_it_was left (sym (with_number-other s.files j new k below away) ∙ is))
        (cases_eq k j)

    -- a new open file
    by-open : (flags : OpenFlags) (n : ℕ) → flags_of call ≡ Some flags → at_number (with_number s.files (least_free s.files) (new_open_file flags n)) k ≡ Some left → Came
    by-open flags n flagged is =
        let within = least_free-within s.files in
        ⊎_elim
        (λ here.
        let both : Some (new_open_file flags n) ≡ Some left = sym (with_number-same_within s.files (least_free s.files) (new_open_file flags n) within) ∙ ap (at_number (with_number s.files (least_free s.files) (new_open_file flags n))) (sym here) ∙ is in
        let same : new_open_file flags n ≡ left = cc both in
        opened me call flags left at made flagged (ap (λ (f : OpenFile). f.mode) (sym same)) here)
        (λ away. as_it_was left (sym (with_number-other_within s.files (least_free s.files) (new_open_file flags n) k within away) ∙ is))
        (cases_eq k (least_free s.files))

    came-does : (after : State) (r : Reply) → CallEffects.HasEffect y pid now call after r → at_number after.files k ≡ Some left → Came
    came-does _ _ (CallEffects.stays r waiting) is = as_it_was left is
    came-does _ _ (CallEffects.restrains q r no_more same parent table goes) is = as_it_was left is
    came-does _ _ (CallEffects.begins path program new) is = as_it_was left is
    came-does _ _ (CallEffects.closes d) is = as_it_was left is
    came-does _ _ (CallEffects.copies d x n found) is = as_it_was left is
    came-does _ _ (CallEffects.forks new) is = as_it_was left is
    came-does _ _ (CallEffects.reaps j r ended goes) is = as_it_was left is
    came-does _ _ (CallEffects.moves j old new r was node mode own goes) is = by-move j old new was node mode own is
    came-does _ _ (CallEffects.cuts f bytes has) is = as_it_was left is
    came-does _ _ (CallEffects.writes_bytes f bytes j old new n has was node mode own) is = by-move j old new was node mode own is
    came-does _ _ (CallEffects.makes place q node change none bare) is = as_it_was left is
    came-does _ _ (CallEffects.links place q old n change from_old node fine) is = as_it_was left is
    came-does _ _ (CallEffects.unlinks place q change) is = as_it_was left is
    came-does _ _ (CallEffects.renames place q next' r n from into node) is = as_it_was left is
    came-does _ _ (CallEffects.opens flags place n m flagged allowed node fine written) is = by-open flags n flagged is
    came-does _ _ (CallEffects.creates flags place q m flagged allowed create named none fine) is = by-open flags _ flagged is

    came-attempt : (a : Attempt Effect) → Leads (CallEffects.Did y pid now call) a → at_number (answer_by_attempt s y pid now a).after.files k ≡ Some left → Came
    came-attempt (done walks (after, returns n)) does is =
        came-does after (returns n) does (ap (λ (fs : Numbered OpenFile). at_number fs k) (sym (files-update after pid (λ p. with_result p (pos n) 0))) ∙ collected (update after pid (λ p. with_result p (pos n) 0)) k left is)
    came-attempt (done walks (after, returns_bytes n bytes)) does is =
        came-does after (returns_bytes n bytes) does
        (ap (λ (fs : Numbered OpenFile). at_number fs k) (sym (files-update after pid (λ p. with_front bytes (with_result p (pos n) 0)))) ∙ collected (update after pid (λ p. with_front bytes (with_result p (pos n) 0))) k left is)
    came-attempt (done walks (after, ends status)) does is =
        came-does after (ends status) does (ap (λ (fs : Numbered OpenFile). at_number fs k) (sym (files-end after pid now status)) ∙ collected (end_process after pid now status) k left is)
    came-attempt (done walks (after, waits)) does is = as_it_was left is
    came-attempt (refused walks e c) does is = as_it_was left (ap (λ (fs : Numbered OpenFile). at_number fs k) (sym (files-update y pid (λ p. with_result p (negsuc 0) (errno_number e)))) ∙ is)

  module _ (program_of : Bytes → Option Program) where
    came-answer : (me : Process) (call : Call) → process_at s pid ≡ Some me → next me ≡ calls_for call → at_number (answer program_of s pid call).after.files k ≡ Some left → Came
    came-answer me call at made =
        by_answer (λ a. at_number a.after.files k ≡ Some left → Came) program_of s pid call
        (λ none is. as_it_was left is)
        (λ p found met. came-attempt p call found (same-next p found) (effect program_of (at_call s pid p) pid (at_next_line p) call) (does-effect program_of (at_call s pid p) pid (at_next_line p) call))
        (λ p a found missing lenient. came-attempt p call found (same-next p found) (refused 0 ENOSYS (ByPromise a)) tt)
        (λ p a found missing strict is. as_it_was left (ap (λ (fs : Numbered OpenFile). at_number fs k) (sym (files-end s pid (at_next_line p) 6)) ∙ collected (end_process s pid (at_next_line p) 6) k left is))
      where
        same-next : (p : Process) → process_at s pid ≡ Some p → next p ≡ calls_for call
        same-next p found = let both : Some p ≡ Some me = sym found ∙ at in let same : p ≡ me = cc both in ap next same ∙ made

    by-next : (me : Process) → process_at s pid ≡ Some me → (n : Next) → next me ≡ n → at_number (step_by program_of s pid me n).after.files k ≡ Some left → Came
    by-next me at (inside q) made is = as_it_was left is
    by-next me at (calls_for call) made is = came-answer me call at made is

    pub files-come : at_number (step program_of s pid).after.files k ≡ Some left → Came
    files-come is = of (process_at s pid) refl
      where
        of : (o : Option Process) → process_at s pid ≡ o → Came
        of None gone = as_it_was left (ap (λ (w : Stepped). at_number w.after.files k) (sym (step-gone program_of s pid gone)) ∙ is)
        of (Some me) at = by-next me at (next me) refl (ap (λ (w : Stepped). at_number w.after.files k) (sym (step-is program_of s pid me at)) ∙ is)

pub own-files-go : (program_of : Bytes → Option Program) (s : State) (pid k : ℕ) (file : OpenFile) → IsInOrder s → at_number s.files k ≡ Some file → at_number (step program_of s pid).after.files k ≡ None
    → (other : ℕ) (p : Process) (d : ℕ) (x : Descriptor) → other ≢ pid → process_at s other ≡ Some p → at_number p.descriptors d ≡ Some x → x.file ≢ k
own-files-go program_of s pid k file order there gone other p d x apart live has same =
    let stays = others-files program_of s pid order other p d x file apart live has (ap (at_number s.files) same ∙ there) in
    let both : Some stays.0 ≡ None = sym stays.1 ∙ ap (at_number (step program_of s pid).after.files) same ∙ gone in cc both

-- ---- other processes

module _ (program_of : Bytes → Option Program) (s : State) (pid k : ℕ) (p : Process) (order : IsInOrder s) (apart : k ≢ pid) (live : process_at s k ≡ Some p) where
  module _ (me : Process) (call : Call) (at : process_at s pid ≡ Some me) where
    abbrev x : State
    x = at_call s pid me

    abbrev now' : Process
    now' = at_next_line me

    x_live : process_at x k ≡ Some p
    x_live = process_at-other s pid now' k apart ∙ live

    preserved-reported : (after : State) (r : Reply) (f : Process → Process) → CallEffects.HasEffect x pid now' call after r → process_at (collect (update after pid f)) k ≡ Some p
    preserved-reported after r f does =
        process_at-collect (update after pid f) k ∙ update-other after pid f k apart ∙ other x pid now' call (in_order-call s pid me order at) (process_at-same s pid now') k p apart x_live after r does

    preserved-attempt : (a : Attempt Effect) → Leads (CallEffects.Did x pid now' call) a → is_end (answer_by_attempt s x pid now' a).outcome ≡ false → process_at (answer_by_attempt s x pid now' a).after k ≡ Some p
    preserved-attempt (done walks (after, returns n)) does goes = preserved-reported after (returns n) (λ q. with_result q (pos n) 0) does
    preserved-attempt (done walks (after, returns_bytes n bytes)) does goes = preserved-reported after (returns_bytes n bytes) (λ q. with_front bytes (with_result q (pos n) 0)) does
    preserved-attempt (done walks (after, ends status)) does goes = cc goes
    preserved-attempt (done walks (after, waits)) does goes = live
    preserved-attempt (refused walks e c) does goes = update-other x pid (λ q. with_result q (negsuc 0) (errno_number e)) k apart ∙ x_live

  preserved-answer : (call : Call) → is_end (answer program_of s pid call).outcome ≡ false → process_at (answer program_of s pid call).after k ≡ Some p
  preserved-answer call =
      by_answer (λ a. is_end a.outcome ≡ false → process_at a.after k ≡ Some p) program_of s pid call
      (λ none goes. live)
      (λ me found met. preserved-attempt me call found (effect program_of (at_call s pid me) pid (at_next_line me) call) (does-effect program_of (at_call s pid me) pid (at_next_line me) call))
      (λ me a found missing lenient. preserved-attempt me call found (refused 0 ENOSYS (ByPromise a)) tt)
      (λ me a found missing strict goes. cc goes)

  preserved-next : (me : Process) (n : Next) → is_end (step_by program_of s pid me n).outcome ≡ false → process_at (step_by program_of s pid me n).after k ≡ Some p
  preserved-next me (inside q) goes = process_at-other s pid q k apart ∙ live
  preserved-next me (calls_for call) goes = preserved-answer call goes

  pub others-keep_all : is_end (step program_of s pid).outcome ≡ false → process_at (step program_of s pid).after k ≡ Some p
  others-keep_all goes = of (process_at s pid) refl
    where
      of : (o : Option Process) → process_at s pid ≡ o → process_at (step program_of s pid).after k ≡ Some p
      of None gone = ap (λ (w : Stepped). process_at w.after k) (step-gone program_of s pid gone) ∙ live
      of (Some me) at =
          let same = step-is program_of s pid me at in
          ap (λ (w : Stepped). process_at w.after k) same ∙ preserved-next me (next me) (ap (λ (w : Stepped). is_end w.outcome) (sym same) ∙ goes)
