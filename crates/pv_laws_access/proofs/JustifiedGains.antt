-- The justification of new descriptors.
use Rattle.std.proofs.Common.{◌≡◌, ℕ, zero, suc, ℤ, pos, negsuc, true, false, not, ◌==◌, [], ◌∷◌, Option, None, Some, option_map, refl, ap, sym, subst, ◌∙◌, ⊎_elim, ◌⊎◌, inl, inr}
use Rattle.std.proofs.lemmas.Bool.{cases_eq}
use Rattle.std.specs.FinMap.Entries.{where_key}
use Rattle.std.specs.Ordering.{nat_cmp}
use Rattle.pv_model.specs.declared.call.Call.{Call}
use Rattle.pv_model.specs.declared.open_flags.Mode.{Mode}
use Rattle.pv_model.specs.declared.open_flags.OpenFlags.{OpenFlags}
use Rattle.pv_model.specs.declared.place.Place.{Place}
use Rattle.pv_model.specs.Machine.{at_next_line, update, Bytes, new_open_file, child, end_process, Reply, node_of, descriptor_at, open_file, open_file_of, among, collect, needs, permissions_of_open, Numbered, at_number, with_number, without_number, least_free, calls_for, next, missing_promise, OpenFile, Descriptor, Program, Process, State, process_at, with_process, gain_descriptor, flags_of, Touches, IsAllowed, Justifies, new_number}
use Rattle.pv_model.specs.Touch.{HasOpen, gain_by_open}
use Rattle.pv_laws_states.specs.Held.{used}
use Rattle.pv_laws_states.specs.States.{is_call, IsValid}
use Rattle.pv_laws_states.proofs.ValidByProcess.{preserved_descriptor}
use Rattle.pv_laws_trees.proofs.NumberedMaps.{at_number-below, with_number-same, with_number-other, without_number-same, without_number-other, least_free-free, keep-some}
use Rattle.pv_laws_states.proofs.CallOutcomes.{at_call}
use Rattle.pv_laws_states.proofs.Processes.{process_at-same, process_at-other, files-update}
use Rattle.pv_laws_states.proofs.CollectedStates.{files-collect}
use Rattle.pv_laws_access.specs.Growth.{IsInOrder}
use Rattle.pv_laws_access.specs.Justice.{IsExplained}
use Rattle.pv_laws_access.proofs.ImageGrowth.{spared, caller}
use Rattle.pv_laws_access.proofs.CallEffects
use Rattle.pv_laws_access.proofs.ProcessesAfterEnds.{process_at-collect, update-live, valid-in_order, not_next, in_order-call, ended-not_live}
use Rattle.pv_laws_access.proofs.TouchingCalls.{touched, back}

-- ---- open files

-- a descriptor for an open file on a node, with a mode
pub record Opens (files : Numbered OpenFile) (ds : Numbered Descriptor) (n : ℕ) (mode : Mode) : Type 0 where
  pub number : ℕ
  pub descriptor : Descriptor
  pub file : OpenFile
  pub there : at_number ds number ≡ Some descriptor
  pub opened : at_number files descriptor.file ≡ Some file
  pub node : file.node ≡ n
  pub mode_is : file.mode ≡ mode

open-opens : (s : State) (p : Process) (n : ℕ) (mode : Mode) (d : ℤ) (k : ℕ) (file : OpenFile) → open_file s p d ≡ Some (k, file) → file.node ≡ n → file.mode ≡ mode → Opens s.files p.descriptors n mode
open-opens s p n mode (negsuc d) k file is node mode_is = cc
open-opens s p n mode (pos d) k file is node mode_is = by (at_number p.descriptors d) refl is
  where
    of : (x : Descriptor) → at_number p.descriptors d ≡ Some x → (o : Option OpenFile) → at_number s.files x.file ≡ o → option_map {U = ℕ × OpenFile} (λ f. (x.file, f)) o ≡ Some (k, file) → Opens s.files p.descriptors n mode
    of x there None opened is = cc
    of x there (Some g) opened is =
        let pair : ◌≡◌ {A = ℕ × OpenFile} (x.file, g) (k, file) = cc is in
        let same : g ≡ file = ap (λ (q : ℕ × OpenFile). q.1) pair in
        record { number = d; descriptor = x; file = g; there = there; opened = opened; node = ap (λ (f : OpenFile). f.node) same ∙ node; mode_is = ap (λ (f : OpenFile). f.mode) same ∙ mode_is }

    by : (o : Option Descriptor) → at_number p.descriptors d ≡ o → open_file_of s o ≡ Some (k, file) → Opens s.files p.descriptors n mode
    by None there is = cc
    by (Some x) there is = of x there (at_number s.files x.file) refl is

pub has-opens : (s : State) (pid n : ℕ) (mode : Mode) → HasOpen s pid n mode → (p : Process) → process_at s pid ≡ Some p → Opens s.files p.descriptors n mode
has-opens s pid n mode has p at =
    let is : Some has.0 ≡ Some p = sym has.4 ∙ at in
    let same : has.0 ≡ p = cc is in
    subst (λ (q : Process). Opens s.files q.descriptors n mode) same (open-opens s has.0 n mode has.1 has.2 has.3 has.5 has.6 has.7)

pub opens-has : (s : State) (pid n : ℕ) (mode : Mode) (p : Process) → process_at s pid ≡ Some p → Opens s.files p.descriptors n mode → HasOpen s pid n mode
opens-has s pid n mode p at is =
    (p, pos is.number, is.descriptor.file, is.file, at, ap (open_file_of s) is.there ∙ ap (option_map {U = ℕ × OpenFile} (λ f. (is.descriptor.file, f))) is.opened, is.node, is.mode_is)

-- a value after a change existed before, or is the new value
with_number-was : {X : Type 0} (xs : Numbered X) (n : ℕ) (v : X) (m : ℕ) (y : X) → at_number (with_number xs n v) m ≡ Some y → (v ≡ y) ⊎ (at_number xs m ≡ Some y)
with_number-was [] n v zero y is = inl (cc is)
with_number-was [] n v (suc m) y is = cc
with_number-was (x ∷ xs) zero v zero y is = inl (cc is)
with_number-was (x ∷ xs) zero v (suc m) y is = inr is
with_number-was (x ∷ xs) (suc n) v zero y is = inr is
with_number-was (x ∷ xs) (suc n) v (suc m) y is = with_number-was xs n v m y is

-- an open with a mode at a valid place that is allowed for its permissions
pub record IsOpened (s : State) (pid : ℕ) (me : Process) (call : Call) (n : ℕ) (mode : Mode) : Type 0 where
  pub flags : OpenFlags
  pub place : Place
  pub flagged : flags_of call ≡ Some flags
  pub moded : flags.mode ≡ mode
  pub allowed : IsAllowed s me call (permissions_of_open flags) place
  pub which : (node_of place ≡ Some n) ⊎ ((node_of place ≡ None) × (n ≡ new_number s.tree))
  pub fine : CallEffects.IsFine s pid me call place

opened-justifies : (s : State) (pid : ℕ) (me : Process) (call : Call) (n : ℕ) (mode : Mode) → IsOpened s pid me call n mode → Justifies s me call (gain_descriptor n mode)
opened-justifies s pid me call n mode is = gain_by_open is.flags is.place n mode is.flagged is.moded is.allowed is.which

module _ (s : State) (pid : ℕ) (me : Process) (call : Call) (order : IsInOrder s) (at : process_at s pid ≡ Some me) (n : ℕ) (mode : Mode)
    (not_open : Opens s.files me.descriptors n mode → ⊥) where
  abbrev J : Type 0
  J = IsOpened s pid me call n mode

  abbrev NowOpens : Numbered OpenFile → Numbered Descriptor → Type 0
  NowOpens files ds = Opens files ds n mode

  unchanged : (x : State) (q : Process) → process_at x pid ≡ Some me → process_at x pid ≡ Some q → NowOpens s.files q.descriptors → J
  unchanged x q still there opens = let is : Some q ≡ Some me = sym there ∙ still in let same : q ≡ me = cc is in absurd (not_open (subst (λ (p : Process). NowOpens s.files p.descriptors) same opens))

  by_same : (q : Process) → process_at s pid ≡ Some q → NowOpens s.files q.descriptors → J
  by_same q there opens = unchanged s q at there opens

  -- the process is the changed one
  by_change : (x : State) (p q : Process) → process_at (with_process x pid p) pid ≡ Some q → (files : Numbered OpenFile) → NowOpens files q.descriptors → NowOpens files p.descriptors
  by_change x p q there files opens =
      let is : Some q ≡ Some p = sym there ∙ process_at-same x pid p in let same : q ≡ p = cc is in subst (λ (y : Process). NowOpens files y.descriptors) same opens

  descriptor_of-at : (d : ℤ) (x : Descriptor) → descriptor_at me d ≡ Some x → (file : OpenFile) → at_number s.files x.file ≡ Some file → file.node ≡ n → file.mode ≡ mode → ⊥
  descriptor_of-at (negsuc d) x is file opened node mode_is = cc
  descriptor_of-at (pos d) x is file opened node mode_is = not_open (record { number = d; descriptor = x; file = file; there = is; opened = opened; node = node; mode_is = mode_is })

  -- an open file at another position has the same node and mode
  moved : (k : ℕ) (old new : OpenFile) → at_number s.files k ≡ Some old → new.node ≡ old.node → new.mode ≡ old.mode → NowOpens (with_number s.files k new) me.descriptors → ⊥
  moved k old new there node mode_is opens =
      let below = at_number-below s.files k old there in
      ⊎_elim
      (λ here.
      let is : Some new ≡ Some opens.file = sym (with_number-same s.files k new below) ∙ ap (at_number (with_number s.files k new)) (sym here) ∙ opens.opened in
      let same : new ≡ opens.file = cc is in
      not_open (record {
        number = opens.number;
        descriptor = opens.descriptor;
        file = old;
        there = opens.there;
        opened = ap (at_number s.files) here ∙ there;
        node = sym node ∙ ap (λ (f : OpenFile). f.node) same ∙ opens.node;
        mode_is = sym mode_is ∙ ap (λ (f : OpenFile). f.mode) same ∙ opens.mode_is;
      }))
      (λ other. not_open (record {
        number = opens.number;
        descriptor = opens.descriptor;
        file = opens.file;
        there = opens.there;
        opened = sym (with_number-other s.files k new opens.descriptor.file below other) ∙ opens.opened;
        node = opens.node;
        mode_is = opens.mode_is;
      }))
      (cases_eq opens.descriptor.file k)

  -- the new open file is justified, and no other is new
  newly : (flags : OpenFlags) (place : Place) (m : ℕ) → flags_of call ≡ Some flags → IsAllowed s me call (permissions_of_open flags) place → CallEffects.IsFine s pid me call place
      → ((node_of place ≡ Some m) ⊎ ((node_of place ≡ None) × (m ≡ new_number s.tree)))
      → NowOpens (with_number s.files (least_free s.files) (new_open_file flags m))
      (with_number me.descriptors (least_free me.descriptors) (record { file = least_free s.files; close_on_exec = flags.close_on_exec })) → J
  newly flags place m flagged allowed fine which opens =
      let new : Descriptor = record { file = least_free s.files; close_on_exec = flags.close_on_exec } in
      ⊎_elim
      (λ is.
      subst (λ k. IsOpened s pid me call k mode) (ap (λ (f : OpenFile). f.node) is ∙ opens.node)
      (record { flags = flags; place = place; flagged = flagged; moded = ap (λ (f : OpenFile). f.mode) is ∙ opens.mode_is; allowed = allowed; which = which; fine = fine }))
      (λ old. ⊎_elim
      (λ is. let none : at_number s.files opens.descriptor.file ≡ None = ap (λ (d : Descriptor). at_number s.files d.file) (sym is) ∙ least_free-free s.files in absurd (cc))
      (λ there. absurd (not_open (record { number = opens.number; descriptor = opens.descriptor; file = opens.file; there = there; opened = old; node = opens.node; mode_is = opens.mode_is })))
      (with_number-was me.descriptors (least_free me.descriptors) new opens.number opens.descriptor opens.there))
      (with_number-was s.files (least_free s.files) (new_open_file flags m) opens.descriptor.file opens.file opens.opened)

  pub gains-by : (after : State) (r : Reply) → CallEffects.HasEffect s pid me call after r → (q : Process) → process_at after pid ≡ Some q → NowOpens after.files q.descriptors → J
  gains-by _ _ (CallEffects.stays r waiting) q there opens = by_same q there opens
  gains-by _ _ (CallEffects.restrains p r no_more same parent table goes) q there opens = absurd (not_open (subst (NowOpens s.files) same (by_change s p q there s.files opens)))
  gains-by _ _ (CallEffects.begins path program is) q there opens =
      let now = by_change s _ q there s.files opens in
      absurd (not_open (record { number = now.number; descriptor = now.descriptor; file = now.file; there = preserved_descriptor me.descriptors now.number now.descriptor now.there; opened = now.opened; node = now.node; mode_is = now.mode_is }))
  gains-by _ _ (CallEffects.closes d) q there opens =
      let now = by_change s _ q there s.files opens in
      ⊎_elim
      (λ same. let none : at_number (without_number me.descriptors d) now.number ≡ None = ap (at_number (without_number me.descriptors d)) same ∙ without_number-same me.descriptors d in absurd (let is = now.there in cc))
      (λ other. absurd (not_open (record { number = now.number; descriptor = now.descriptor; file = now.file; there = sym (without_number-other me.descriptors d now.number other) ∙ now.there; opened = now.opened; node = now.node; mode_is = now.mode_is })))
      (cases_eq now.number d)
  gains-by _ _ (CallEffects.copies d x m is) q there opens =
      let now = by_change s _ q there s.files opens in
      ⊎_elim
      (λ same. absurd (descriptor_of-at d x is now.file (ap (λ (y : Descriptor). at_number s.files y.file) same ∙ now.opened) now.node now.mode_is))
      (λ old. absurd (not_open (record { number = now.number; descriptor = now.descriptor; file = now.file; there = old; opened = now.opened; node = now.node; mode_is = now.mode_is })))
      (with_number-was me.descriptors m (record { file = x.file; close_on_exec = false }) now.number now.descriptor now.there)
  gains-by _ _ (CallEffects.forks is) q there opens =
      unchanged (with_process s (suc s.last_process) (child s pid me)) q (process_at-other s (suc s.last_process) (child s pid me) pid (not_next s order pid me at) ∙ at) there opens
  gains-by _ _ (CallEffects.reaps k r ended goes) q there opens =
      unchanged (record s { processes = where_key nat_cmp (λ other. not (other == k)) s.processes }) q (spared s pid me call order at pid me at k (ended order.ascending)) there opens
  gains-by _ _ (CallEffects.moves k old new r was node mode_is named goes) q there opens =
      let is : Some q ≡ Some me = sym there ∙ at in let same : q ≡ me = cc is in absurd (moved k old new was node mode_is (subst (λ (p : Process). NowOpens (with_number s.files k new) p.descriptors) same opens))
  gains-by _ _ (CallEffects.cuts f bytes has) q there opens = by_same q there opens
  gains-by _ _ (CallEffects.writes_bytes f bytes k old new m has was node mode_is named) q there opens =
      let is : Some q ≡ Some me = sym there ∙ at in let same : q ≡ me = cc is in absurd (moved k old new was node mode_is (subst (λ (p : Process). NowOpens (with_number s.files k new) p.descriptors) same opens))
  gains-by _ _ (CallEffects.makes place p node change free bare) q there opens = by_same q there opens
  gains-by _ _ (CallEffects.links place p old m change from_old is fine) q there opens = by_same q there opens
  gains-by _ _ (CallEffects.unlinks place p change) q there opens = by_same q there opens
  gains-by _ _ (CallEffects.renames place p next r m from into is) q there opens = by_same q there opens
  gains-by _ _ (CallEffects.opens flags place m k flagged allowed is fine written) q there opens = newly flags place m flagged allowed fine (inl is) (by_change s _ q there _ opens)
  gains-by _ _ (CallEffects.creates flags place p k flagged allowed create named free fine) q there opens = newly flags place (new_number s.tree) flagged allowed fine (inr (free, refl)) (by_change s _ q there _ opens)

-- the call that opens, with its promises held
pub record IsOpenedBy (s : State) (pid n : ℕ) (mode : Mode) : Type 0 where
  pub me : Process
  pub call : Call
  pub at : process_at s pid ≡ Some me
  pub next_is : next me ≡ calls_for call
  pub held : missing_promise me.promises (needs call) ≡ None
  pub is : is_call call ≡ true
  pub opened : IsOpened (at_call s pid me) pid (at_next_line me) call n mode

pub gains-opened : (program_of : Bytes → Option Program) (s : State) (pid n : ℕ) (mode : Mode) → IsValid s → Touches program_of s pid (gain_descriptor n mode) → IsOpenedBy s pid n mode
gains-opened program_of s pid n mode whole gains =
    let T : State → Type 0 = λ y. HasOpen y pid n mode × (HasOpen s pid n mode → ⊥) in
    let t = touched program_of s pid whole T
    (λ both. both.1 both.0)
    (λ p q at same both. both.1 (opens-has s pid n mode p at (subst (λ ds. Opens s.files ds n mode) same (has-opens (with_process s pid q) pid n mode both.0 q (process_at-same s pid q)))))
    (λ y me status tree ascending others both.
    ended-not_live y pid me status ascending both.0.0 (sym (process_at-collect (end_process y pid me status) pid) ∙ both.0.4))
    gains in
    let x : State = at_call s pid t.me in
    let now : Process = at_next_line t.me in
    let order = in_order-call s pid t.me (valid-in_order s whole) t.at in
    let x_at = process_at-same s pid now in
    let left = caller x pid now t.call order x_at t.after t.reply t.does in
    let z : State = update t.after pid t.reported in
    let there : process_at (collect z) pid ≡ Some (t.reported left.0) = process_at-collect z pid ∙ update-live t.after pid t.reported left.0 left.1 in
    let opens = has-opens (collect z) pid n mode t.touch.0 (t.reported left.0) there in
    let preserved = keep-some (among (used z)) z.files opens.descriptor.file opens.file (ap (λ fs. at_number fs opens.descriptor.file) (sym (files-collect z)) ∙ opens.opened) in
    let was : Opens t.after.files left.0.descriptors n mode = record {
      number = opens.number;
      descriptor = opens.descriptor;
      file = opens.file;
      there = ap (λ ds. at_number ds opens.number) (sym (t.same left.0)) ∙ opens.there;
      opened = ap (λ fs. at_number fs opens.descriptor.file) (sym (files-update t.after pid t.reported)) ∙ preserved.1;
      node = opens.node;
      mode_is = opens.mode_is;
    } in
    record {
      me = t.me;
      call = t.call;
      at = t.at;
      next_is = t.next_is;
      held = t.held;
      is = t.is;
      opened = gains-by x pid now t.call order x_at n mode (λ old. t.touch.1 (opens-has s pid n mode t.me t.at old)) t.after t.reply t.does left.0 left.1 was;
    }

pub gains-justified : (program_of : Bytes → Option Program) (s : State) (pid n : ℕ) (mode : Mode) → IsValid s → Touches program_of s pid (gain_descriptor n mode) → IsExplained s pid (gain_descriptor n mode)
gains-justified program_of s pid n mode whole gains =
    let e = gains-opened program_of s pid n mode whole gains in (
      e.me,
      e.call,
      e.at,
      e.next_is,
      e.held,
      back s pid e.me e.call (gain_descriptor n mode) (opened-justifies (at_call s pid e.me) pid (at_next_line e.me) e.call n mode e.opened),
    )
