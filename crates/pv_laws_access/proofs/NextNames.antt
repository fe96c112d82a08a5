-- The next name of a directory, and the step that returns it.
use Rattle.std.proofs.Common.{◌≡◌, ◌⊎◌, inl, inr, ℕ, ℤ, pos, negsuc, Bool, true, false, cond, not, [], ◌∷◌, length, Option, None, Some, option_map, refl, ap, sym, ◌∙◌}
use Rattle.std.proofs.lemmas.Bool.{and_parts}
use Rattle.std.specs.FinMap.Entries.{find, is_sorted, below_all}
use Rattle.std.specs.Ordering.{is_lt, eq_by_cmp}
use Rattle.pv_model.specs.declared.call.Call.{Call}
use Rattle.pv_model.specs.declared.call.Call.TheVariants as TheCall
use Rattle.pv_model.specs.declared.errno.Errno.TheVariants.{EBADF, EINVAL}
use Rattle.pv_model.specs.Machine.{Answered, answer, answer_of, answer_where, answer_by_attempt, at_next_line, with_front, update, effect, ◌>>=◌, ◌>>◌, refuse_if, demand, after_walks, Bytes, is_past, next_name, list_name, getdents, with_result, open_file_of, open_file, with_file, among, collect, needs, at_number, calls_for, missing_promise, OpenFile, Descriptor, Program, Process, State, process_at, Stepped, step, step_by, Entries, entries_at, is_directory_at}
use Rattle.pv_laws_trees.proofs.TreeChanges.{entries-good}
use Rattle.pv_laws_trees.proofs.DirectoryEntries.{by_name, tied-same, tied_itself, find_after}
use Rattle.pv_laws_trees.proofs.NumberedMaps.{at_number-below, with_number-same, keep-passes}
use Rattle.pv_laws_trees.proofs.NameOrder.{less_from}
use Rattle.pv_laws_states.specs.Held.{used}
use Rattle.pv_laws_states.specs.States.{IsValid}
use Rattle.pv_laws_states.proofs.ValidByFile.{open_file-at}
use Rattle.pv_laws_states.proofs.ReferenceMembers.{among-used}
use Rattle.pv_laws_states.proofs.CallOutcomes.{at_call}
use Rattle.pv_laws_states.proofs.Processes.{process_at-same, files-update}
use Rattle.pv_laws_states.proofs.CallRemainders
use Rattle.pv_laws_states.proofs.CollectedStates.{files-collect}
use Rattle.pv_laws_access.proofs.ProcessesAfterEnds.{step-is, process_at-collect, update-live}
use Rattle.pv_laws_access.specs.Origins.{MakesCall}
use Rattle.pv_laws_access.specs.Order.{IsSmallerName, IsAfterName, IsReported, ReportsTheNext, a_name, none_left}

-- ---- the next name

past-is_past : (last : Option Bytes) (name : Bytes) → IsAfterName last name → is_past last name ≡ true
past-is_past None name past = refl
past-is_past (Some l) name past = ap is_lt past

is_past-past : (last : Option Bytes) (name : Bytes) → is_past last name ≡ true → IsAfterName last name
is_past-past None name is = tt
is_past-past (Some l) name is = less_from (by_name l name) is

abbrev pub Among : Entries → Bytes → Type 0
Among es name = (n : ℕ) × (find by_name name es ≡ Some n)

-- a name is that of the first entry, or of a later one
among-cases : (P : Type 0) (e : Bytes × ℕ) (es : Entries) (name : Bytes) → Among (e ∷ es) name → (name ≡ e.0 → P) → (Among es name → P) → P
among-cases P e es name (n, is) here there =
    elim (eq_by_cmp by_name name e.0) as (λ b. eq_by_cmp by_name name e.0 ≡ b → cond b (Some e.1) (find by_name name es) ≡ Some n → P) [
      | true ↦ λ tied _. here (tied-same name e.0 tied)
      | false ↦ λ _ found. there (n, found)
    ] refl is

first-among : (e : Bytes × ℕ) (es : Entries) → Among (e ∷ es) e.0
first-among e es = (e.1, ap (λ b. cond b (Some e.1) (find by_name e.0 es)) (tied_itself e.0))

later-among : (e : Bytes × ℕ) (es : Entries) (name : Bytes) → is_sorted by_name (e ∷ es) ≡ true → Among es name → Among (e ∷ es) name
later-among e es name sorted (n, is) = (n, (find_after name n e es sorted is).1)

-- a name among entries above another name is greater
above-less : (q : Bytes) (es : Entries) (name : Bytes) → below_all by_name q es ≡ true → Among es name → IsSmallerName q name
above-less q [] name below (n, is) = cc is
above-less q (e ∷ es) name below has =
    let parts = and_parts (is_lt (by_name q e.0)) (below_all by_name q es) below in
    let first : IsSmallerName q e.0 = less_from (by_name q e.0) parts.0 in
    among-cases (IsSmallerName q name) e es name has (λ same. ap (by_name q) same ∙ first) (λ there. above-less q es name parts.1 there)

pub record IsLeastAmong (es : Entries) (last : Option Bytes) (name : Bytes) : Type 0 where
  pub among_them : Among es name
  pub past : IsAfterName last name
  pub least : (other : Bytes) → Among es other → IsAfterName last other → (other ≡ name) ⊎ IsSmallerName name other

abbrev pub NextAmong : Entries → Option Bytes → Option Bytes → Type 0
NextAmong es last None = (name : Bytes) → Among es name → ¬ IsAfterName last name
NextAmong es last (Some name) = IsLeastAmong es last name

not-both : (b : Bool) → b ≡ false → b ≡ true → ⊥
not-both true is other = cc is
not-both false is other = cc other

module _ (last : Option Bytes) (e : Bytes × ℕ) (es : Entries) (sorted : is_sorted by_name (e ∷ es) ≡ true) where
  first-next : is_past last e.0 ≡ true → IsLeastAmong (e ∷ es) last e.0
  first-next is = record {
    among_them = first-among e es;
    past = is_past-past last e.0 is;
    least = λ other has _. among-cases _ e es other has inl (λ there. inr (above-less e.0 es other (and_parts (below_all by_name e.0 es) _ sorted).0 there));
  }

  later-next : (o : Option Bytes) → is_past last e.0 ≡ false → NextAmong es last o → NextAmong (e ∷ es) last o
  later-next None not_after none = λ name has past.
      among-cases ⊥ e es name has (λ same. not-both (is_past last e.0) not_after (ap (is_past last) (sym same) ∙ past-is_past last name past)) (λ there. none name there past)
  later-next (Some name) not_after next = record {
    among_them = later-among e es name sorted next.among_them;
    past = next.past;
    least = λ other has past.
        among-cases _ e es other has (λ same. absurd (not-both (is_past last e.0) not_after (ap (is_past last) (sym same) ∙ past-is_past last other past))) (λ there. next.least other there past);
  }

pub next-among : (last : Option Bytes) (es : Entries) → is_sorted by_name es ≡ true → NextAmong es last (next_name last es)
next-among last [] sorted = λ name (n, is) past. cc is
next-among last (e ∷ es) sorted =
    elim (is_past last e.0) as (λ b. is_past last e.0 ≡ b → NextAmong (e ∷ es) last (cond b (Some e.0) (next_name last es))) [
      | true ↦ λ is. first-next last e es sorted is
      | false ↦ λ is. later-next last e es sorted (next_name last es) is (next-among last es (and_parts (below_all by_name e.0 es) _ sorted).1)
    ] refl

-- ---- the step

-- the effect of a call whose promises are held
pub answer-does : (program_of : Bytes → Option Program) (s : State) (pid : ℕ) (me : Process) (call : Call) → process_at s pid ≡ Some me → missing_promise me.promises (needs call) ≡ None
    → answer program_of s pid call ≡ answer_by_attempt s (at_call s pid me) pid (at_next_line me) (effect program_of (at_call s pid me) pid (at_next_line me) call)
unfolding answer
answer-does program_of s pid me call at held =
    ap (answer_of program_of s pid call) at ∙ ap (answer_where program_of s (at_call s pid me) pid (at_next_line me) call) held

record IsOpened (s : State) (me : Process) (k : ℕ) : Type 0 where
  number : ℕ
  descriptor : Descriptor
  there : at_number me.descriptors number ≡ Some descriptor
  file : descriptor.file ≡ k

opened : (s : State) (me : Process) (d : ℤ) (k : ℕ) (file : OpenFile) → open_file s me d ≡ Some (k, file) → IsOpened s me k
opened s me (negsuc d) k file is = cc is
opened s me (pos d) k file is = by (at_number me.descriptors d) refl is
  where
    of : (x : Descriptor) → at_number me.descriptors d ≡ Some x → (o : Option OpenFile) → option_map {U = ℕ × OpenFile} (λ f. (x.file, f)) o ≡ Some (k, file) → IsOpened s me k
    of x there None is = cc is
    of x there (Some f) is =
        let pair : ◌≡◌ {A = ℕ × OpenFile} (x.file, f) (k, file) = cc is in
        record { number = d; descriptor = x; there = there; file = ap (λ (p : ℕ × OpenFile). p.0) pair }

    by : (o : Option Descriptor) → at_number me.descriptors d ≡ o → open_file_of s o ≡ Some (k, file) → IsOpened s me k
    by None there is = cc is
    by (Some x) there is = of x there (at_number s.files x.file) is

same-open : (s : State) (pid : ℕ) (me : Process) (d : ℤ) → open_file (at_call s pid me) (at_next_line me) d ≡ open_file s me d
same-open s pid me (pos d) = refl
same-open s pid me (negsuc d) = refl

module _ (program_of : Bytes → Option Program) (s : State) (pid : ℕ) (me : Process) (d : ℤ) (k : ℕ) (file : OpenFile) (made : MakesCall s pid me (TheCall.Getdents d))
    (open_is : open_file s me d ≡ Some (k, file)) (directory : is_directory_at s.tree file.node ≡ true) where
  abbrev x : State
  x = at_call s pid me

  abbrev now : Process
  now = at_next_line me

  listed-by : getdents x pid now d ≡ after_walks 0 (after_walks 0 (list_name x pid now k file (next_name file.listed (entries_at s.tree file.node))))
  listed-by =
      ap (λ o. demand EBADF o >>= CallRemainders.getdents_1 x pid now) (same-open s pid me d ∙ open_is)
      ∙ ap (λ b. after_walks 0 (refuse_if EINVAL (not b) >> CallRemainders.getdents_2 x pid now k file)) directory

  stepped : step program_of s pid ≡ step_by program_of s pid me (calls_for (TheCall.Getdents d))
  stepped = step-is program_of s pid me made.at ∙ ap (step_by program_of s pid me) made.next_is

  -- the answer for the next name, if there is one
  abbrev reported-of : Option Bytes → Answered
  reported-of o = answer_by_attempt s x pid now (after_walks 0 (after_walks 0 (list_name x pid now k file o)))

  answered : answer program_of s pid (TheCall.Getdents d) ≡ reported-of (next_name file.listed (entries_at s.tree file.node))
  unfolding effect
  answered = answer-does program_of s pid me (TheCall.Getdents d) made.at made.held ∙ ap (answer_by_attempt s x pid now) listed-by

  -- the open file stays, because its descriptor does
  file-stays : (y : State) (f : Process → Process) → process_at y pid ≡ Some now → ((p : Process) → (f p).descriptors ≡ p.descriptors) → at_number (collect (update y pid f)).files k ≡ at_number y.files k
  file-stays y f at same =
      let mine = opened s me d k file open_is in
      let has = among-used (update y pid f) pid (f now) mine.number mine.descriptor (update-live y pid f now at) (ap (λ ds. at_number ds mine.number) (same now) ∙ mine.there) in
      ap (λ fs. at_number fs k) (files-collect (update y pid f))
      ∙ keep-passes (among (used (update y pid f))) (update y pid f).files k (ap (among (used (update y pid f))) (sym mine.file) ∙ has)
      ∙ ap (λ fs. at_number fs k) (files-update y pid f)

  file-there : at_number s.files k ≡ Some file
  file-there = open_file-at s me d k file open_is

  -- the process after the reply
  abbrev report : Bytes → Process → Process
  report bytes p = with_front bytes (with_result p (pos (length bytes)) 0)

  module _ (o : Option Bytes) (is : next_name file.listed (entries_at s.tree file.node) ≡ o) where
    is-answer : answer program_of s pid (TheCall.Getdents d) ≡ reported-of o
    is-answer = answered ∙ ap reported-of is

    at-step : {X : Type 0} (part : Answered → X) (of_step : Stepped → X) → of_step (step_by program_of s pid me (calls_for (TheCall.Getdents d))) ≡ part (answer program_of s pid (TheCall.Getdents d))
        → of_step (step program_of s pid) ≡ part (reported-of o)
    at-step part of_step same = ap of_step stepped ∙ same ∙ ap part is-answer

  -- the answer without a next name, and with one
  reported-none : next_name file.listed (entries_at s.tree file.node) ≡ None → IsReported program_of s pid me []
  reported-none is = record {
    outcome = at-step None is (λ a. a.outcome) (λ w. w.outcome) refl;
    reported = report [] now;
    live = at-step None is (λ a. process_at a.after pid) (λ w. process_at w.after pid) refl ∙ process_at-collect (update x pid (report [])) pid ∙ update-live x pid (report []) now (process_at-same s pid now);
    buffer = refl;
  }

  abbrev listing_name : Bytes → State
  listing_name name = with_file x k (record file { listed = Some name })

  listing_at : (name : Bytes) → process_at (listing_name name) pid ≡ Some now
  listing_at name = process_at-same s pid now

  pub reported-name : (name : Bytes) → next_name file.listed (entries_at s.tree file.node) ≡ Some name → IsReported program_of s pid me name
  reported-name name is = record {
    outcome = at-step (Some name) is (λ a. a.outcome) (λ w. w.outcome) refl;
    reported = report name now;
    live = at-step (Some name) is (λ a. process_at a.after pid) (λ w. process_at w.after pid) refl ∙ process_at-collect (update (listing_name name) pid (report name)) pid ∙ update-live (listing_name name) pid (report name) now (listing_at name);
    buffer = refl;
  }

  reports : (o : Option Bytes) → next_name file.listed (entries_at s.tree file.node) ≡ o → NextAmong (entries_at s.tree file.node) file.listed o → ReportsTheNext program_of s pid me k file
  reports None is next =
      none_left next (reported-none is)
      (at-step None is (λ a. at_number a.after.files k) (λ w. at_number w.after.files k) refl ∙ file-stays x (report []) (process_at-same s pid now) (λ p. refl) ∙ file-there)
  reports (Some name) is next =
      a_name name (record { entry = next.among_them; past = next.past; least = next.least }) (reported-name name is)
      (at-step (Some name) is (λ a. at_number a.after.files k) (λ w. at_number w.after.files k) refl ∙ file-stays (listing_name name) (report name) (listing_at name) (λ p. refl)
      ∙ with_number-same s.files k (record file { listed = Some name }) (at_number-below s.files k file file-there))

  pub reports-next : IsValid s → ReportsTheNext program_of s pid me k file
  reports-next whole =
      reports (next_name file.listed (entries_at s.tree file.node)) refl
      (next-among file.listed (entries_at s.tree file.node) (entries-good s.tree file.node whole.tree.well_formed.each_node).0)
