-- The names returned through one open file ascend.
use Rattle.std.proofs.Common.{◌≡◌, ◌⊎◌, inl, inr, ⊎_elim, ℕ, zero, suc, ℤ, pos, negsuc, true, not, List, [], ◌∷◌, ◌++◌, take, drop, length, ◌+ℤ◌, Option, None, Some, is_some, refl, ap, sym, subst, ◌∙◌}
use Rattle.std.proofs.Math.Seq.{take-append_seam}
use Rattle.std.proofs.lemmas.Bool.{cases_eq}
use Rattle.std.proofs.lemmas.Cmp.{nat_list_cmp_total}
use Rattle.pv_model.specs.declared.call.Call.{Call}
use Rattle.pv_model.specs.declared.call.Call.TheVariants as TheCall
use Rattle.pv_model.specs.declared.call.Whence.{Whence}
use Rattle.pv_model.specs.declared.errno.Errno.TheVariants.{EBADF, EFBIG, EISDIR, EINVAL, ENOSYS}
use Rattle.pv_model.specs.declared.outcome.Cause.TheVariants.{Promise as ByPromise}
use Rattle.pv_model.specs.declared.outcome.Outcome.{Outcome}
use Rattle.pv_model.specs.declared.outcome.Outcome.TheVariants.{Text}
use Rattle.pv_model.specs.Machine.{answer, answer_by_attempt, at_next_line, with_front, update, effect, Attempt, done, refused, Bytes, within, next_name, open_file_for, seek_base, list_name, natural, is_past_greatest, write_end, after_write, read, write, lseek, fstat, ftruncate, getdents, fchdir, directory_of, with_result, end_process, Effect, Reply, returns, returns_bytes, ends, waits, answers, answers_bytes, open_file, status, errno_number, among, collect, Numbered, at_number, with_number, least_free, Next, inside, calls_for, next, OpenFile, Program, Process, State, reads, writes, process_at, with_process, Stepped, step, step_by, run, descriptor_of, entries_at, is_directory_at}
use Rattle.pv_laws_trees.proofs.TreeChanges.{entries-good}
use Rattle.pv_laws_trees.proofs.DirectoryEntries.{by_name}
use Rattle.pv_laws_trees.proofs.NumberedMaps.{at_number-below, with_number-same, with_number-other, with_number-other_within, least_free-free, least_free-within, keep-some}
use Rattle.pv_laws_states.specs.Held.{used}
use Rattle.pv_laws_states.specs.States.{EncodesPrograms, IsValid}
use Rattle.pv_laws_states.proofs.AttemptValues.{Leads, leads-demand, leads-refuse_if, leads-bind, leads-room, leads-any}
use Rattle.pv_laws_states.proofs.ValidByFile.{open_file-at, open_file_for-at}
use Rattle.pv_laws_states.proofs.ValidBySteps.{step-keeps_valid}
use Rattle.pv_laws_states.proofs.CallOutcomes.{at_call, by_answer}
use Rattle.pv_laws_states.proofs.Processes.{files-update}
use Rattle.pv_laws_states.proofs.ValidReplies.{valid-at_call}
use Rattle.pv_laws_states.proofs.CallRemainders
use Rattle.pv_laws_states.proofs.CollectedStates.{files-collect}
use Rattle.pv_laws_access.proofs.CallEffects.{HasEffect, stays, restrains, begins, closes, copies, forks, reaps, moves, cuts, writes_bytes, makes, links, unlinks, renames, opens, creates, Did}
use Rattle.pv_laws_access.proofs.EffectByCall.{does-effect}
use Rattle.pv_laws_access.proofs.ProcessesAfterEnds.{step-is, step-gone}
use Rattle.pv_laws_access.proofs.TouchingCalls.{leads-weaker}
use Rattle.pv_laws_access.proofs.NextNames.{NextAmong, next-among, reports-next}
use Rattle.pv_laws_access.specs.Order.{IsSmallerName, IsAfterName, IsReported, ReportsTheNext, a_name, none_left, ReportsBy, StaysOpen}

-- ---- open files whose last name stays or ascends

abbrev Later : OpenFile → OpenFile → Type 0
Later f g = (g.listed ≡ f.listed) ⊎ ((name : Bytes) × (g.listed ≡ Some name) × IsAfterName f.listed name)

abbrev Ascends : ℕ → Numbered OpenFile → Numbered OpenFile → Type 0
Ascends k old new = (f g : OpenFile) → at_number old k ≡ Some f → at_number new k ≡ Some g → Later f g

later-same : (f g h : OpenFile) → ◌≡◌ {A = Option OpenFile} (Some f) (Some g) → ◌≡◌ {A = Option OpenFile} (Some f) (Some h) → Later g h
later-same f g h a b = let one : f ≡ g = cc a in let other : f ≡ h = cc b in inl (ap (λ (x : OpenFile). x.listed) (sym other ∙ one))

module _ (k : ℕ) (files : Numbered OpenFile) where
  same-files : Ascends k files files
  same-files f g before following = later-same f f g refl (sym before ∙ following)

  moved-file : (j : ℕ) (old new : OpenFile) → at_number files j ≡ Some old → Later old new → Ascends k files (with_number files j new)
  moved-file j old new is later f g before following =
      ⊎_elim
      (λ here.
      let first : ◌≡◌ {A = Option OpenFile} (Some old) (Some f) = sym is ∙ ap (at_number files) (sym here) ∙ before in
      let last : ◌≡◌ {A = Option OpenFile} (Some new) (Some g) = sym (with_number-same files j new (at_number-below files j old is)) ∙ ap (at_number (with_number files j new)) (sym here) ∙ following in
      let one : old ≡ f = cc first in
      let other : new ≡ g = cc last in
      subst (Later f) other (subst (λ (x : OpenFile). Later x new) one later))
      (λ away. same-files f g before (sym (with_number-other files j new k (at_number-below files j old is) away) ∙ following))
      (cases_eq k j)

  new-file : (new : OpenFile) → Ascends k files (with_number files (least_free files) new)
  new-file new f g before following =
      ⊎_elim
      (λ here. let none : Some f ≡ None = sym before ∙ ap (at_number files) here ∙ least_free-free files in cc none)
      (λ away. same-files f g before (sym (with_number-other_within files (least_free files) new k (least_free-within files) away) ∙ following))
      (cases_eq k (least_free files))

collected-files : (k : ℕ) (files : Numbered OpenFile) (y : State) → Ascends k files y.files → Ascends k files (collect y).files
collected-files k files y is f g before following =
    is f g before (keep-some (among (used y)) y.files k g (ap (λ fs. at_number fs k) (sym (files-collect y)) ∙ following)).1

-- ---- the open files after each call

module _ (s : State) (pid : ℕ) (me : Process) (k : ℕ) where
  abbrev D : Effect → Type 0
  D e = Ascends k s.files e.0.files

  -- a call without a descriptor
  by-does : (call : Call) → descriptor_of call ≡ None → (after : State) (r : Reply) → HasEffect s pid me call after r → Ascends k s.files after.files
  by-does call none _ _ (stays r waiting) = same-files k s.files
  by-does call none _ _ (restrains q r no_more same parent table goes) = same-files k s.files
  by-does call none _ _ (begins path program is) = same-files k s.files
  by-does call none _ _ (closes d) = same-files k s.files
  by-does call none _ _ (copies d x n is) = same-files k s.files
  by-does call none _ _ (forks is) = same-files k s.files
  by-does call none _ _ (reaps j r ended goes) = same-files k s.files
  by-does call none _ _ (moves j old new r is node mode named goes) = let bad : Some named.0 ≡ None = sym named.1 ∙ none in cc bad
  by-does call none _ _ (cuts f bytes has) = same-files k s.files
  by-does call none _ _ (writes_bytes f bytes j old new n has is node mode named) = let bad : Some named.0 ≡ None = sym named.1 ∙ none in cc bad
  by-does call none _ _ (makes place q node change free bare) = same-files k s.files
  by-does call none _ _ (links place q old n change from_old is fine) = same-files k s.files
  by-does call none _ _ (unlinks place q change) = same-files k s.files
  by-does call none _ _ (renames place q next r n from into is) = same-files k s.files
  by-does call none _ _ (opens flags place n m flagged allowed is fine written) = new-file k s.files _
  by-does call none _ _ (creates flags place q m flagged allowed create named free fine) = new-file k s.files _

  other-call : (program_of : Bytes → Option Program) (call : Call) → descriptor_of call ≡ None → Leads D (effect program_of s pid me call)
  other-call program_of call none =
      leads-weaker (Did s pid me call) D (effect program_of s pid me call) (λ e does. by-does call none e.0 e.1 does) (does-effect program_of s pid me call)

  call-read : (d n : ℤ) → Leads D (read s pid me d n)
  call-read d n =
      leads-demand D EBADF (open_file_for s pid me reads d) (CallRemainders.read_1 s pid me n) (λ f is.
      leads-demand D EINVAL (within 4096 n) (CallRemainders.read_2 s pid me f.0 f.1) (λ count low.
      leads-refuse_if D EISDIR (is_directory_at s.tree f.1.node) (CallRemainders.read_3 s pid me f.0 f.1 count) (λ plain.
      moved-file k s.files f.0 f.1 _ (open_file_for-at s pid me reads d f.0 f.1 is).0 (inl refl))))

  call-lseek : (d by : ℤ) (whence : Whence) → Leads D (lseek s pid me d by whence)
  call-lseek d by whence =
      leads-demand D EBADF (open_file s me d) (CallRemainders.lseek_1 s pid me by whence) (λ f is.
      leads-refuse_if D EINVAL (is_directory_at s.tree f.1.node) (CallRemainders.lseek_2 s pid me by whence f.0 f.1) (λ plain.
      leads-demand D EINVAL (within 2147483647 (pos (seek_base s pid me f.1 whence) +ℤ by)) (CallRemainders.lseek_3 s pid me f.0 f.1) (λ offset low.
      moved-file k s.files f.0 f.1 _ (open_file-at s me d f.0 f.1 is) (inl refl))))

  written : (f : ℕ × OpenFile) → at_number s.files f.0 ≡ Some f.1 → (count : ℕ) → Ascends k s.files (after_write s pid me f.0 f.1 count).files
  written f is zero = same-files k s.files
  written f is (suc n) = moved-file k s.files f.0 f.1 _ is (inl refl)

  call-write : (d n : ℤ) → Leads D (write s pid me d n)
  call-write d n =
      leads-demand D EBADF (open_file_for s pid me writes d) (CallRemainders.write_1 s pid me n) (λ f is.
      leads-demand D EINVAL (within 4096 n) (CallRemainders.write_2 s pid me f.0 f.1) (λ count low.
      leads-refuse_if D EFBIG (is_past_greatest s.tree (write_end s pid me f.1 count)) (CallRemainders.write_3 s pid me f.0 f.1 count) (λ fine.
      leads-room D (after_write s pid me f.0 f.1 count) (λ after. answers after count) (λ long fits.
      written f (open_file_for-at s pid me writes d f.0 f.1 is).0 count))))

  call-fstat : (d : ℤ) → Leads D (fstat s pid me d)
  call-fstat d = leads-demand D EBADF (open_file s me d) (λ f. answers_bytes s 0 (status s.tree f.1.node)) (λ f is. same-files k s.files)

  call-ftruncate : (d n : ℤ) → Leads D (ftruncate s pid me d n)
  call-ftruncate d n =
      leads-demand D EBADF (open_file s me d) (CallRemainders.ftruncate_1 s pid me n) (λ f is.
      leads-refuse_if D EINVAL (not (writes f.1.mode)) (CallRemainders.ftruncate_2 s pid me n f.1) (λ open_for.
      leads-demand D EINVAL (natural n) (CallRemainders.ftruncate_3 s pid me f.1) (λ size low.
      leads-refuse_if D EFBIG (is_past_greatest s.tree size) (CallRemainders.ftruncate_4 s pid me f.1 size) (λ fine.
      leads-room D (CallRemainders.resized s pid me f.1 size) (λ after. answers after 0) (λ long fits. same-files k s.files)))))

  call-fchdir : (d : ℤ) → Leads D (fchdir s pid me d)
  call-fchdir d =
      leads-bind D (λ _. Unit {0}) (directory_of s pid me d) (λ directory. answers (with_process s pid (record me { directory = directory })) 0) (leads-any (directory_of s pid me d)) (λ n _. same-files k s.files)

  module _ (whole : IsValid s) where
    call-getdents : (d : ℤ) → Leads D (getdents s pid me d)
    call-getdents d =
        leads-demand D EBADF (open_file s me d) (CallRemainders.getdents_1 s pid me) (λ f is.
        leads-refuse_if D EINVAL (not (is_directory_at s.tree f.1.node)) (CallRemainders.getdents_2 s pid me f.0 f.1) (λ dir.
        listed f (open_file-at s me d f.0 f.1 is) (next_name f.1.listed (entries_at s.tree f.1.node)) (next-among f.1.listed (entries_at s.tree f.1.node) (entries-good s.tree f.1.node whole.tree.well_formed.each_node).0)))
      where
        listed : (f : ℕ × OpenFile) → at_number s.files f.0 ≡ Some f.1 → (o : Option Bytes) → NextAmong (entries_at s.tree f.1.node) f.1.listed o → Leads D (list_name s pid me f.0 f.1 o)
        listed f is None next = same-files k s.files
        listed f is (Some name) next = moved-file k s.files f.0 f.1 _ is (inr (name, refl, next.past))

    each-call : (program_of : Bytes → Option Program) (call : Call) → Leads D (effect program_of s pid me call)
    unfolding effect
    each-call program_of (TheCall.Read d n) = call-read d n
    each-call program_of (TheCall.Write d n) = call-write d n
    each-call program_of (TheCall.Lseek d by whence) = call-lseek d by whence
    each-call program_of (TheCall.Fstat d) = call-fstat d
    each-call program_of (TheCall.Ftruncate d n) = call-ftruncate d n
    each-call program_of (TheCall.Getdents d) = call-getdents d
    each-call program_of (TheCall.Fchdir d) = call-fchdir d
    each-call program_of call = other-call program_of call refl

-- ---- a step

module _ (program_of : Bytes → Option Program) (s : State) (pid k : ℕ) (whole : IsValid s) where
  abbrev Preserved : State → Type 0
  Preserved after = Ascends k s.files after.files

  updated : (y : State) (f : Process → Process) → Preserved y → Preserved (update y pid f)
  updated y f is = subst (Ascends k s.files) (sym (files-update y pid f)) is

  ended : (y : State) (me : Process) (status : ℕ) → Preserved y → Preserved (collect (end_process y pid me status))
  unfolding end_process
  ended y me status is = collected-files k s.files (end_process y pid me status) is

  by-attempt : (me : Process) (a : Attempt Effect) → Leads (λ e. Preserved e.0) a → Preserved (answer_by_attempt s (at_call s pid me) pid (at_next_line me) a).after
  by-attempt me (done walks (after, returns n)) is = collected-files k s.files _ (updated after (λ p. with_result p (pos n) 0) is)
  by-attempt me (done walks (after, returns_bytes n bytes)) is = collected-files k s.files _ (updated after (λ p. with_front bytes (with_result p (pos n) 0)) is)
  by-attempt me (done walks (after, ends status)) is = ended after (at_next_line me) status is
  by-attempt me (done walks (after, waits)) is = same-files k s.files
  by-attempt me (refused walks errno cause) is = updated (at_call s pid me) (λ p. with_result p (negsuc 0) (errno_number errno)) (same-files k s.files)

  by-call : (call : Call) → Preserved (answer program_of s pid call).after
  by-call call =
      by_answer (λ a. Preserved a.after) program_of s pid call
      (λ none. same-files k s.files)
      (λ me at held. by-attempt me (effect program_of (at_call s pid me) pid (at_next_line me) call)
      (each-call (at_call s pid me) pid (at_next_line me) k (valid-at_call s pid me whole at) program_of call))
      (λ me p at missing lenient. by-attempt me (refused 0 ENOSYS (ByPromise p)) tt)
      (λ me p at missing strict. ended s (at_next_line me) 6 (same-files k s.files))

  by-next : (me : Process) (n : Next) → Preserved (step_by program_of s pid me n).after
  by-next me (inside q) = same-files k s.files
  by-next me (calls_for call) = by-call call

  pub step-ascends : Ascends k s.files (step program_of s pid).after.files
  step-ascends = of (process_at s pid) refl
    where
      of : (o : Option Process) → process_at s pid ≡ o → Preserved (step program_of s pid).after
      of None gone = subst (λ (w : Stepped). Preserved w.after) (sym (step-gone program_of s pid gone)) (same-files k s.files)
      of (Some me) at = subst (λ (w : Stepped). Preserved w.after) (sym (step-is program_of s pid me at)) (by-next me (next me))

-- ---- a step returns one string of bytes

abbrev text-value : ℕ → Outcome → ℕ
text-value other (Text taken) = taken.value
text-value other o = other

-- a step returns at most one string of bytes
reported-once : (program_of : Bytes → Option Program) (s : State) (pid : ℕ) (me : Process) (bytes others : Bytes) → IsReported program_of s pid me bytes → IsReported program_of s pid me others → bytes ≡ others
reported-once program_of s pid me bytes others a b =
    let long : length bytes ≡ length others = ap (text-value 0) (sym a.outcome ∙ b.outcome) in
    let both : Some a.reported ≡ Some b.reported = sym a.live ∙ b.live in
    let same : a.reported ≡ b.reported = cc both in
    let buffers : bytes ++ drop (length bytes) me.buffer ≡ others ++ drop (length others) me.buffer = sym a.buffer ∙ ap (λ (p : Process). p.buffer) same ∙ b.buffer in
    sym (take-append_seam bytes (drop (length bytes) me.buffer)) ∙ ap (take (length bytes)) buffers ∙ ap (λ n. take n (others ++ drop (length others) me.buffer)) long ∙ take-append_seam others (drop (length others) me.buffer)

-- a name, or a greater one
abbrev AtOrPast : Bytes → Bytes → Type 0
AtOrPast name other = (other ≡ name) ⊎ IsSmallerName name other

at-or-past : (name middle other : Bytes) → AtOrPast name middle → IsSmallerName middle other → IsSmallerName name other
at-or-past name middle other (inl same) less = ap (λ (n : Bytes). by_name n other) (sym same) ∙ less
at-or-past name middle other (inr past) less = nat_list_cmp_total.trans name middle other past less

module _ (program_of : Bytes → Option Program) (k : ℕ) (name : Bytes) where
  -- the last name of the open file is this name or a greater one
  record IsTo (s : State) : Type 0 where
    file : OpenFile
    last : Bytes
    there : at_number s.files k ≡ Some file
    listed : file.listed ≡ Some last
    reached : AtOrPast name last

  goes-on : (s t : State) → Ascends k s.files t.files → is_some (at_number t.files k) ≡ true → IsTo s → IsTo t
  goes-on s t ascends open_still to = by (at_number t.files k) refl open_still
    where
      of : (g : OpenFile) → at_number t.files k ≡ Some g → Later to.file g → IsTo t
      of g there (inl same) = record { file = g; last = to.last; there = there; listed = same ∙ to.listed; reached = to.reached }
      of g there (inr (next, listed, past)) = record {
        file = g;
        last = next;
        there = there;
        listed = listed;
        reached = inr (at-or-past name to.last next to.reached (subst (λ o. IsAfterName o next) to.listed past));
      }

      by : (o : Option OpenFile) → at_number t.files k ≡ o → is_some o ≡ true → IsTo t
      by None there is = cc is
      by (Some g) there is = of g there (ascends to.file g to.there there)

  stays-first : (pids : List ℕ) (s : State) → StaysOpen program_of k pids s → is_some (at_number s.files k) ≡ true
  stays-first [] s remains = remains
  stays-first (pid ∷ pids) s remains = remains.0

  along : EncodesPrograms program_of → (pids : List ℕ) (s : State) → IsValid s → StaysOpen program_of k pids s → IsTo s → IsValid (run program_of pids s).final × IsTo (run program_of pids s).final
  along encodes [] s whole remains to = (whole, to)
  along encodes (pid ∷ pids) s whole remains to =
      let after = (step program_of s pid).after in
      along encodes pids after (step-keeps_valid program_of encodes s pid whole) remains.1 (goes-on s after (step-ascends program_of s pid k whole) (stays-first pids after remains.1) to)

  -- after the step that returns the name
  begins-to : (s : State) (pid : ℕ) → IsValid s → ReportsBy program_of s pid k name → IsTo (step program_of s pid).after
  begins-to s pid whole reports = by (reports-next program_of s pid reports.me reports.d k reports.file reports.made reports.opened reports.directory whole)
    where
      by : ReportsTheNext program_of s pid reports.me k reports.file → IsTo (step program_of s pid).after
      by (a_name other least reported preserved) = record {
        file = record reports.file { listed = Some other };
        last = other;
        there = preserved;
        listed = refl;
        reached = inl (reported-once program_of s pid reports.me other name reported reports.reported);
      }
      by (none_left none reported preserved) = absurd (reports.some (reported-once program_of s pid reports.me name [] reports.reported reported))

  -- a later step that returns a name through the open file
  then-past : (s : State) (pid : ℕ) (other : Bytes) → IsValid s → IsTo s → ReportsBy program_of s pid k other → IsSmallerName name other
  then-past s pid other whole to reports = by (reports-next program_of s pid reports.me reports.d k reports.file reports.made reports.opened reports.directory whole)
    where
      same : to.file ≡ reports.file
      same = let both : Some to.file ≡ Some reports.file = sym to.there ∙ open_file-at s reports.me reports.d k reports.file reports.opened in cc both

      by : ReportsTheNext program_of s pid reports.me k reports.file → IsSmallerName name other
      by (a_name next least reported preserved) =
          let past : IsSmallerName to.last next = subst (λ o. IsAfterName o next) (ap (λ (f : OpenFile). f.listed) (sym same) ∙ to.listed) least.past in
          subst (IsSmallerName name) (reported-once program_of s pid reports.me next other reported reports.reported) (at-or-past name to.last next to.reached past)
      by (none_left none reported preserved) = absurd (reports.some (reported-once program_of s pid reports.me other [] reports.reported reported))

pub names-ascend : (program_of : Bytes → Option Program) → EncodesPrograms program_of → (s : State) (pid k : ℕ) (name : Bytes) (pids : List ℕ) (last : ℕ) (other : Bytes) → IsValid s
    → ReportsBy program_of s pid k name → StaysOpen program_of k pids (step program_of s pid).after → ReportsBy program_of (run program_of pids (step program_of s pid).after).final last k other → IsSmallerName name other
names-ascend program_of encodes s pid k name pids last other whole reports remains later =
    let after = (step program_of s pid).after in
    let end = along program_of k name encodes pids after (step-keeps_valid program_of encodes s pid whole) remains (begins-to program_of k name s pid whole reports) in
    then-past program_of k name (run program_of pids after).final last other end.0 end.1 later
