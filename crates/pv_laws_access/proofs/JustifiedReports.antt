-- The justification of reports of nodes.
use Rattle.std.proofs.Common.{◌≡◌, ℕ, zero, suc, ◌<◌, ℤ, Bool, true, false, not, [], ◌∷◌, Option, None, Some, Ok, refl, ap, sym, subst, ◌∙◌, ⊎_elim, arith}
use Rattle.std.specs.List.{cons_option}
use Rattle.std.specs.Prelude.{Contains, filter_map, slice_index_or}
use Rattle.std.proofs.lemmas.Bool.{not-false}
use Rattle.pv_model.specs.declared.call.Call.{Call}
use Rattle.pv_model.specs.declared.call.Call.TheVariants.{Lseek, Fstat, Getdents, Fchdir, Chdir, Stat, Lstat, Readlink}
use Rattle.pv_model.specs.declared.errno.Errno.TheVariants.{EBADF, EINVAL}
use Rattle.pv_model.specs.declared.follow.Follow.{Follow}
use Rattle.pv_model.specs.declared.follow.Follow.TheVariants.{Last, Keep}
use Rattle.pv_model.specs.declared.judgement.Judgement.TheVariants.{Allowed}
use Rattle.pv_model.specs.declared.open_flags.Mode.{Mode}
use Rattle.pv_model.specs.declared.open_flags.Mode.TheVariants.{Read as ReadMode, Write as WriteMode, ReadWrite}
use Rattle.pv_model.specs.declared.place.Place.{Place}
use Rattle.pv_model.specs.Machine.{answer, answer_by_attempt, at_next_line, effect, Attempt, done, refused, ◌>>=◌, ◌>>◌, Bytes, getdents, chdir, stat_at, readlink, Effect, walk_from, judge_for, open_file, end_of, needs, permission_r, calls_for, next, missing_promise, OpenFile, Program, Process, State, reads, writes, process_at, Stepped, step, step_by, place_found, places, has_succeeded, report_node, Touches, Justifies, is_directory_at, judgement, resolve, Walk, from_here}
use Rattle.pv_model.specs.Touch.{reports_of_place, reports_of_descriptor, IsNodeOfPlace, IsNodeOfDescriptor, report_by_descriptor, report_by_place}
use Rattle.pv_laws_states.specs.States.{IsValid}
use Rattle.pv_laws_states.proofs.AttemptValues.{Leads, leads-demand, leads-refuse_if}
use Rattle.pv_laws_states.proofs.ValidByFile.{open_file-at}
use Rattle.pv_laws_states.proofs.CallOutcomes.{at_call, by_answer}
use Rattle.pv_laws_states.proofs.CallRemainders
use Rattle.pv_laws_access.specs.Justice.{IsExplained}
use Rattle.pv_laws_access.proofs.CallEffects.{leads-judged}
use Rattle.pv_laws_access.proofs.ProcessesAfterEnds.{step-is}

-- ---- an attempt that succeeds

abbrev is_done : Attempt Effect → Bool
is_done (done walks value) = true
is_done (refused walks errno cause) = false

known : (K : Type 0) (a : Attempt Effect) → is_done a ≡ true → Leads (λ e. K) a → K
known K (done walks value) is leads = leads
known K (refused walks errno cause) is leads = cc

leads-known : (K : Type 0) (a : Attempt Effect) → K → Leads (λ e. K) a
leads-known K (done walks value) is = is
leads-known K (refused walks errno cause) is = tt

-- a call that returns a value has its promises and succeeds
module _ (program_of : Bytes → Option Program) (s : State) (pid : ℕ) (me : Process) (at : process_at s pid ≡ Some me) (call : Call) where
  abbrev IsAnswered : Type 0
  IsAnswered = (missing_promise me.promises (needs call) ≡ None) × (is_done (effect program_of (at_call s pid me) pid (at_next_line me) call) ≡ true)

  succeeded-done : (p : Process) (a : Attempt Effect) → has_succeeded (answer_by_attempt s (at_call s pid p) pid (at_next_line p) a).outcome ≡ true → is_done a ≡ true
  succeeded-done p (done walks (after, r)) is = refl
  succeeded-done p (refused walks errno cause) is = cc

  succeeded : has_succeeded (answer program_of s pid call).outcome ≡ true → IsAnswered
  succeeded =
      by_answer (λ a. has_succeeded a.outcome ≡ true → IsAnswered) program_of s pid call
      (λ none. cc)
      (λ p found missing is.
      let same : p ≡ me = cc in
      subst (λ (y : Process). (missing_promise y.promises (needs call) ≡ None) × (is_done (effect program_of (at_call s pid y) pid (at_next_line y) call) ≡ true)) same
      (missing, succeeded-done p (effect program_of (at_call s pid p) pid (at_next_line p) call) is))
      (λ p lacks found missing lenient is. cc)
      (λ p lacks found missing lenient is. cc)

-- ---- by a place

-- the only place of one walk
only-place : (g : Walk → Option Place) (w : Walk) (place found : Place) → Contains (filter_map g (w ∷ [])) place → g w ≡ Some found → found ≡ place
only-place g w place found among is = by (subst (λ o. Contains (cons_option o []) place) is among)
  where
    at : (k : ℕ) → k < 1 → slice_index_or (found ∷ []) k place ≡ place → found ≡ place
    at zero low there = there
    at (suc k) low there = absurd (omega arith)

    by : Contains (found ∷ []) place → found ≡ place
    by has = at has.0 has.1 has.2

module _ (s : State) (me : Process) where
  abbrev IsFound : Follow → Bytes → Type 0
  IsFound follow path = (place : Place) × (resolve s.tree follow me.directory path ≡ Ok place) × (judgement s.tree me.table place permission_r ≡ Allowed)

  looked : (follow : Follow) (path : Bytes) (next : Place → Attempt Effect) → Leads (λ e. IsFound follow path) (walk_from s me.directory follow path >>= (λ place. judge_for s me place permission_r >> next place))
  looked follow path next = leads-judged (λ e. IsFound follow path) s me me.directory follow path permission_r next (λ place found allowed. leads-known (IsFound follow path) (next place) (place, found, allowed))

  -- the place that the call reports is the one that its walk found
  reported_place : (call : Call) (follow : Follow) (path : Bytes) (n : ℕ) → IsFound follow path
      → ((place : Place) → Contains (places s me call) place → Contains (filter_map (λ (w : Walk). place_found (end_of s me w)) (from_here follow path permission_r ∷ [])) place)
      → IsNodeOfPlace s me call n → Justifies s me call (report_node n)
  reported_place call follow path n found among is =
      let same = only-place (λ (w : Walk). place_found (end_of s me w)) (from_here follow path permission_r) is.0 found.0 (among is.0 is.1) (ap place_found found.1) in
      report_by_place is.0 n (is.1, ap (λ place. judgement s.tree me.table place permission_r) (sym same) ∙ found.2) is.2

module _ (program_of : Bytes → Option Program) (s : State) (pid : ℕ) (me : Process) where
  abbrev x : State
  x = at_call s pid me

  abbrev now : Process
  now = at_next_line me

  pub by_place : (call : Call) (n : ℕ) → reports_of_place call ≡ true → IsNodeOfPlace s me call n → is_done (effect program_of x pid now call) ≡ true → Justifies s me call (report_node n)
  unfolding effect
  by_place (Stat path) n reports is did = reported_place s me (Stat path) Last path n (known (IsFound x now Last path) (stat_at x pid now (from_here Last path permission_r)) did (looked x now Last path (CallRemainders.stat_1 x pid now))) (λ place among. among) is
  by_place (Lstat path) n reports is did = reported_place s me (Lstat path) Keep path n (known (IsFound x now Keep path) (stat_at x pid now (from_here Keep path permission_r)) did (looked x now Keep path (CallRemainders.stat_1 x pid now))) (λ place among. among) is
  by_place (Readlink path) n reports is did = reported_place s me (Readlink path) Keep path n (known (IsFound x now Keep path) (readlink x pid now path) did (looked x now Keep path (CallRemainders.readlink_1 x pid now))) (λ place among. among) is
  by_place (Chdir path) n reports is did = reported_place s me (Chdir path) Last path n (known (IsFound x now Last path) (chdir x pid now path) did (looked x now Last path (CallRemainders.chdir_1 x pid now))) (λ place among. among) is
  by_place call n reports is did = cc

  -- ---- by a descriptor

  abbrev IsListed : ℤ → Type 0
  IsListed d = (f : ℕ × OpenFile) × (open_file x now d ≡ Some f) × (is_directory_at x.tree f.1.node ≡ true)

  listed : (d : ℤ) → Leads (λ e. IsListed d) (getdents x pid now d)
  listed d =
      leads-demand (λ e. IsListed d) EBADF (open_file x now d) (CallRemainders.getdents_1 x pid now) (λ (f : ℕ × OpenFile) is.
      leads-refuse_if (λ e. IsListed d) EINVAL (not (is_directory_at x.tree f.1.node)) (CallRemainders.getdents_2 x pid now f.0 f.1) (λ dir.
      leads-known (IsListed d) (CallRemainders.getdents_2 x pid now f.0 f.1) (f, is, not-false (is_directory_at x.tree f.1.node) dir)))

  read_only : (m : Mode) → writes m ≡ false → reads m ≡ true
  read_only ReadMode is = refl
  read_only WriteMode is = cc
  read_only ReadWrite is = cc

  pub by_descriptor : IsValid s → (call : Call) (n : ℕ) → reports_of_descriptor call ≡ true → IsNodeOfDescriptor s me call n → is_done (effect program_of x pid now call) ≡ true → Justifies s me call (report_node n)
  unfolding effect
  by_descriptor whole (Fstat d) n reports is did = report_by_descriptor n (is.0, is.1, is.2, is.3, is.4, is.5, refl)
  by_descriptor whole (Lseek d by whence) n reports is did = report_by_descriptor n (is.0, is.1, is.2, is.3, is.4, is.5, refl)
  by_descriptor whole (Fchdir d) n reports is did = report_by_descriptor n (is.0, is.1, is.2, is.3, is.4, is.5, refl)
  by_descriptor whole (Getdents d) n reports is did =
      let list = known (IsListed d) (getdents x pid now d) did (listed d) in
      let number : is.0 ≡ d = cc (is.3) in
      let found : open_file s me is.0 ≡ Some list.0 = ap (open_file s me) number ∙ list.1 in
      let pair : Some (is.1, is.2) ≡ Some list.0 = sym is.4 ∙ found in
      let same : ◌≡◌ {A = ℕ × OpenFile} (is.1, is.2) list.0 = cc pair in
      let dir : is_directory_at s.tree is.2.node ≡ true = ap (λ (f : ℕ × OpenFile). is_directory_at s.tree f.1.node) same ∙ list.2 in
      report_by_descriptor n (is.0, is.1, is.2, is.3, is.4, is.5, read_only is.2.mode ((whole.files.each is.1 is.2 (open_file-at s me is.0 is.1 is.2 is.4)).directory dir))
  by_descriptor whole call n reports is did = cc

pub reporting-justified : (program_of : Bytes → Option Program) (s : State) (pid n : ℕ) → IsValid s → Touches program_of s pid (report_node n) → IsExplained s pid (report_node n)
reporting-justified program_of s pid n whole reports =
    let me = reports.0 in
    let call = reports.1 in
    let at = reports.2 in
    let by_call : step program_of s pid ≡ step_by program_of s pid me (calls_for call) = step-is program_of s pid me at ∙ ap (step_by program_of s pid me) reports.3 in
    let both = succeeded program_of s pid me at call (ap (λ (w : Stepped). has_succeeded w.outcome) (sym by_call) ∙ reports.4) in (
      me,
      call,
      at,
      reports.3,
      both.0,
      ⊎_elim (λ place. by_place program_of s pid me call n place.0 place.1 both.1) (λ descriptor. by_descriptor program_of s pid me whole call n descriptor.0 descriptor.1 both.1) reports.5,
    )
