-- Steps that move the position of an open file, before and after a step of another process.
use Rattle.std.proofs.Common.{◌≡◌, ◌≢◌, ℕ, ◌+◌, ℤ, pos, negsuc, ◌+ℤ◌, Bool, true, false, not, [], length, take, drop, Option, None, Some, is_some, option_map, refl, ap, sym, subst, ◌∙◌}
use Rattle.pv_model.specs.declared.call.Call.{Call}
use Rattle.pv_model.specs.declared.call.Call.TheVariants as TheCall
use Rattle.pv_model.specs.declared.call.Whence.{Whence}
use Rattle.pv_model.specs.declared.call.Whence.TheVariants.{Set, Current, End}
use Rattle.pv_model.specs.declared.errno.Errno.TheVariants.{EBADF, EINVAL, EISDIR}
use Rattle.pv_model.specs.declared.open_flags.Mode.{Mode}
use Rattle.pv_model.specs.declared.outcome.Outcome.TheVariants.{Killed}
use Rattle.pv_model.specs.declared.promise.Promise.{Promise}
use Rattle.pv_model.specs.Machine.{at_next_line, update, effect, Attempt, ◌>>=◌, ◌>>◌, refuse_if, demand, Bytes, within, seek_base, next_name, list_name, Effect, answers, answers_bytes, open_file_of, open_file, with_file, bytes_of, collect, needs, at_number, calls_for, next, missing_promise, OpenFile, Descriptor, Program, Process, State, reads, process_at, with_process, step, Node, node_at, is_directory, entries_of}
use Rattle.pv_model.specs.Calls.Descriptors.{if_mode}
use Rattle.pv_laws_states.specs.States.{EncodesPrograms, IsValid}
use Rattle.pv_laws_states.proofs.ValidByFile.{open_file-at}
use Rattle.pv_laws_states.proofs.Processes.{update-with}
use Rattle.pv_laws_states.proofs.CallRemainders
use Rattle.pv_laws_states.proofs.ProcessInsides.{SameHolds}
use Rattle.pv_laws_runs.specs.OfLawsAccess.Growth.{IsSameFile}
use Rattle.pv_laws_runs.proofs.OfLawsAccess.CallEffects.{open_file_for-is}
use Rattle.pv_laws_runs.proofs.OfLawsAccess.ProcessesAfterEnds.{valid-in_order}
use Rattle.pv_laws_runs.proofs.OfLawsAccess.OtherOpenFiles.{others-files}
use Rattle.pv_laws_steps.specs.Beside.{with_change, become}
use Rattle.pv_laws_steps.specs.Commuting.{Commute}
use Rattle.pv_laws_steps.specs.Offsets.{with_file_change, DependsOnOffset, moves_offset, LeavesOpenFile}
use Rattle.pv_laws_steps.proofs.ChangedPairs.{SteppedPair, collected-update}
use Rattle.pv_laws_steps.proofs.ChangedProcess.{process-changed}
use Rattle.pv_laws_steps.proofs.IndependentSteps.{commute-where}
use Rattle.pv_laws_steps.proofs.ParentIndependence.{orphan}
use Rattle.pv_laws_steps.proofs.OffsetCalls.{shifts, HasFile, step-shifted}
use Rattle.pv_laws_steps.proofs.ChangedOffsets.{shifted-itself, shift-apart, change-nothing, put-is_change}
use Rattle.pv_laws_steps.proofs.ExchangedSteps.{acts, Two, two-bind, two-then, two-demand, after_k, heir, quiet, quiet-following, passes-by, commute-steps, call-twice}

-- ---- a step and an open file that it does not use

module _ (program_of : Bytes → Option Program) (s : State) (k : ℕ) where
  abbrev t : State
  t = (step program_of s k).after

  stays-where : (m : ℕ) (file : OpenFile) → at_number s.files m ≡ Some file → ¬ DependsOnOffset s k m → (left : OpenFile) → at_number t.files m ≡ Some left → IsSameFile file left → left ≡ file
  stays-where m file at away left there same =
      let g : OpenFile → OpenFile = λ f. record f { append = file.append; offset = file.offset; listed = file.listed } in
      let beside = step-shifted m g (λ f. record { node = refl; mode = refl }) program_of s k (ap is_some at) away in
      let unchanged : with_file_change s m g ≡ s = ap (λ fs. record s { files = fs }) (change-nothing g m s.files file at refl) in
      let again : t ≡ with_file_change t m g = ap (λ x. (step program_of x k).after) (sym unchanged) ∙ beside.after in
      let both : Some left ≡ Some (g left) = sym there ∙ ap (λ (x : State). at_number x.files m) again ∙ shifted-itself g m t.files ∙ ap (option_map g) there in
      let is : left ≡ g left = cc both in
      is ∙ (λ i. record { node = same.node i; mode = same.mode i; append = file.append; offset = file.offset; listed = file.listed })

  module _ (j : ℕ) (p : Process) (whole : IsValid s) (apart : j ≢ k) (at : process_at s j ≡ Some p) (d : ℤ) (away : (m : ℕ) (file : OpenFile) → open_file s p d ≡ Some (m, file) → ¬ DependsOnOffset s k m) where
    -- the open file of another process's descriptor
    pub same-open : open_file t p d ≡ open_file s p d
    same-open = of d away
      where
        of : (d : ℤ) → ((m : ℕ) (file : OpenFile) → open_file s p d ≡ Some (m, file) → ¬ DependsOnOffset s k m) → open_file t p d ≡ open_file s p d
        of (negsuc e) away = refl
        of (pos e) away = by (at_number p.descriptors e) refl
          where
            found : (x : Descriptor) → at_number p.descriptors e ≡ Some x → (o : Option OpenFile) → at_number s.files x.file ≡ o → open_file t p (pos e) ≡ open_file s p (pos e)
            found x is None none = let some : is_some (at_number s.files x.file) ≡ true = (whole.processes.placed j p at).opens e x is in let no : is_some (at_number s.files x.file) ≡ false = ap is_some none in cc
            found x is (Some file) there =
                let own : open_file s p (pos e) ≡ Some (x.file, file) = ap (open_file_of s) is ∙ ap (option_map (λ (f : OpenFile). (x.file, f))) there in
                let left = others-files program_of s k (valid-in_order s whole) j p e x file apart at is there in
                let same : left.0 ≡ file = stays-where x.file file there (away x.file file own) left.0 left.1 left.2 in
                ap (open_file_of t) is ∙ ap (option_map (λ (f : OpenFile). (x.file, f))) (left.1 ∙ ap Some same) ∙ sym own

            by : (o : Option Descriptor) → at_number p.descriptors e ≡ o → open_file t p (pos e) ≡ open_file s p (pos e)
            by None is = ap (open_file_of t) is ∙ sym (ap (open_file_of s) is)
            by (Some x) is = found x is (at_number s.files x.file) refl

-- ---- the changes

abbrev pub appear : ℕ → Option Bytes → OpenFile → OpenFile
appear offset listed file = record file { offset = offset; listed = listed }

-- an open file of both states gets another position, and process k does not use it
pub record Shift (s t : State) (k : ℕ) : Type 0 where
  pub number : ℕ
  pub offset : ℕ
  pub listed : Option Bytes
  pub there : HasFile number s
  pub following : HasFile number t
  pub away : ¬ DependsOnOffset s k number

abbrev pub shift : (s t : State) (k : ℕ) → Shift s t k → State → State
shift s t k a x = with_file_change x a.number (appear a.offset a.listed)

pub keeps-file : (offset : ℕ) (listed : Option Bytes) (f : OpenFile) → IsSameFile f (appear offset listed f)
keeps-file offset listed f = record { node = refl; mode = refl }

-- after the change, another process uses the same open files
pub goes-as_before : (s : State) (j k m : ℕ) (f : Process → Process) → j ≢ k → DependsOnOffset (with_change s j f) k m → DependsOnOffset s k m
goes-as_before s j k m f apart goes = record {
  named = record {
    p = goes.named.p;
    call = goes.named.call;
    d = goes.named.d;
    file = goes.named.file;
    at = sym (process-changed j f s k (λ same. apart (sym same))) ∙ goes.named.at;
    next_is = goes.named.next_is;
    own = goes.named.own;
    opened = goes.named.opened;
  };
  by = goes.by;
}

module _ (program_of : Bytes → Option Program) (encodes : EncodesPrograms program_of) (s : State) (j k : ℕ) (p : Process) (whole : IsValid s) (apart : j ≢ k) (at : process_at s j ≡ Some p) where
  abbrev u : State
  u = after_k program_of encodes s j k p whole apart at

  abbrev n : ℕ
  n = heir program_of encodes s j k p whole apart at

  abbrev now : Process
  now = at_next_line p

  abbrev x : State
  x = with_process s j now

  abbrev y : State
  y = with_process u j (orphan n now)

  abbrev A : Type 0
  A = Shift s u k

  abbrev T : Attempt Effect → Attempt Effect → Type 0
  T = Two A (shift s u k) s u j n now

  itself : SameHolds now now
  itself = record { directory = refl; table = refl; descriptors = refl; parent = refl }

  -- nothing is moved
  two-still : (m : ℕ) (bytes : Bytes) → T (answers_bytes x m bytes) (answers_bytes y m bytes)
  two-still m bytes = record { both = (refl, refl, tt, (None, now, itself, refl, refl)) }

  module _ (m : ℕ) (file : OpenFile) (there : at_number s.files m ≡ Some file) (following : at_number u.files m ≡ Some file) (away : ¬ DependsOnOffset s k m) (same : node_at u.tree file.node ≡ node_at s.tree file.node) where
    act-of : (offset : ℕ) (listed : Option Bytes) → A
    act-of offset listed = record { number = m; offset = offset; listed = listed; there = ap is_some there; following = ap is_some following; away = away }

    put-s : (offset : ℕ) (listed : Option Bytes) → with_file x m (appear offset listed file) ≡ shift s u k (act-of offset listed) x
    unfolding act-of
    put-s offset listed = ap (λ fs. record x { files = fs }) (put-is_change (appear offset listed) m s.files file (appear offset listed file) there refl)

    put-u : (offset : ℕ) (listed : Option Bytes) → with_file y m (appear offset listed file) ≡ shift s u k (act-of offset listed) y
    unfolding act-of
    put-u offset listed = ap (λ fs. record y { files = fs }) (put-is_change (appear offset listed) m u.files file (appear offset listed file) following refl)

    two-value : (offset : ℕ) (listed : Option Bytes) (v : ℕ) → T (answers (with_file x m (appear offset listed file)) v) (answers (with_file y m (appear offset listed file)) v)
    two-value offset listed v = record { both = (refl, refl, tt, (Some (act-of offset listed), now, itself, put-s offset listed, put-u offset listed)) }

    two-bytes : (offset : ℕ) (listed : Option Bytes) (v : ℕ) (bytes : Bytes) → T (answers_bytes (with_file x m (appear offset listed file)) v bytes) (answers_bytes (with_file y m (appear offset listed file)) v bytes)
    two-bytes offset listed v bytes = record { both = (refl, refl, tt, (Some (act-of offset listed), now, itself, put-s offset listed, put-u offset listed)) }

    -- read(2)
    abbrev taken : Option Node → ℕ → Bytes
    taken w count = take count (drop file.offset (bytes_of w))

    abbrev read_by : Option Node → State → ℕ → Attempt Effect
    read_by w z count = refuse_if EISDIR (is_directory w) >> answers_bytes (with_file z m (record file { offset = file.offset + length (taken w count) })) (length (taken w count)) (taken w count)

    read-counted : (count : ℕ) → T (CallRemainders.read_2 x j now m file count) (CallRemainders.read_2 y j (orphan n now) m file count)
    read-counted count =
        subst (λ w. T (read_by (node_at s.tree file.node) x count) (read_by w y count)) (sym same)
        (two-then A (shift s u k) s u j n now (refuse_if EISDIR (is_directory (node_at s.tree file.node))) _ _
        (two-bytes (file.offset + length (taken (node_at s.tree file.node) count)) file.listed (length (taken (node_at s.tree file.node) count)) (taken (node_at s.tree file.node) count)))

    read-rest : (c : ℤ) → T (CallRemainders.read_1 x j now c (m, file)) (CallRemainders.read_1 y j (orphan n now) c (m, file))
    read-rest c = two-bind A (shift s u k) s u j n now (demand EINVAL (within 4096 c)) (CallRemainders.read_2 x j now m file) (CallRemainders.read_2 y j (orphan n now) m file) read-counted

    -- lseek(2)
    abbrev seek_by : Bool → ℕ → State → ℤ → Attempt Effect
    seek_by dir base z by = refuse_if EINVAL dir >> (demand EINVAL (within 2147483647 (pos base +ℤ by)) >>= (λ offset. answers (with_file z m (record file { offset = offset })) offset))

    base-same : (whence : Whence) → seek_base y j (orphan n now) file whence ≡ seek_base x j now file whence
    base-same Set = refl
    base-same Current = refl
    base-same End = ap (λ w. length (bytes_of w)) same

    lseek-rest : (by : ℤ) (whence : Whence) → T (CallRemainders.lseek_1 x j now by whence (m, file)) (CallRemainders.lseek_1 y j (orphan n now) by whence (m, file))
    lseek-rest by whence =
        let dir : Bool = is_directory (node_at s.tree file.node) in
        let base : ℕ = seek_base x j now file whence in
        subst (λ w. T (seek_by dir base x by) (seek_by (is_directory w) (seek_base y j (orphan n now) file whence) y by)) (sym same)
        (subst (λ b. T (seek_by dir base x by) (seek_by dir b y by)) (sym (base-same whence))
        (two-then A (shift s u k) s u j n now (refuse_if EINVAL dir) _ _
        (two-bind A (shift s u k) s u j n now (demand EINVAL (within 2147483647 (pos base +ℤ by))) _ _ (λ offset. two-value offset file.listed offset))))

    -- getdents(2)
    listed-two : (o : Option Bytes) → T (list_name x j now m file o) (list_name y j (orphan n now) m file o)
    listed-two None = two-still 0 []
    listed-two (Some name) = two-bytes file.offset (Some name) (length name) name

    abbrev list_by : Option Node → State → Process → Attempt Effect
    list_by w z me = refuse_if EINVAL (not (is_directory w)) >> list_name z j me m file (next_name file.listed (entries_of w))

    getdents-rest : T (CallRemainders.getdents_1 x j now (m, file)) (CallRemainders.getdents_1 y j (orphan n now) (m, file))
    getdents-rest =
        subst (λ w. T (list_by (node_at s.tree file.node) x now) (list_by w y (orphan n now))) (sym same)
        (two-then A (shift s u k) s u j n now (refuse_if EINVAL (not (is_directory (node_at s.tree file.node)))) _ _ (listed-two (next_name file.listed (entries_of (node_at s.tree file.node)))))

  module _ (d : ℤ) (leaves : (m : ℕ) (file : OpenFile) → open_file s p d ≡ Some (m, file) → (¬ DependsOnOffset s k m) × (node_at u.tree file.node ≡ node_at s.tree file.node)) where
    opened : open_file u p d ≡ open_file s p d
    opened = same-open program_of s k j p whole apart at d (λ m file is. (leaves m file is).0)

    past-at : (m : ℕ) (file : OpenFile) → open_file s p d ≡ Some (m, file) → at_number u.files m ≡ Some file
    past-at m file is = open_file-at u p d m file (opened ∙ is)

    -- a call that continues with its open file
    abbrev GoesOn : (ℕ × OpenFile → Attempt Effect) → (ℕ × OpenFile → Attempt Effect) → Type 0
    GoesOn G H =
        (m : ℕ) (file : OpenFile) → at_number s.files m ≡ Some file → at_number u.files m ≡ Some file → ¬ DependsOnOffset s k m → node_at u.tree file.node ≡ node_at s.tree file.node → T (G (m, file)) (H (m, file))

    goes-on : (G H : ℕ × OpenFile → Attempt Effect) → GoesOn G H → (m : ℕ) (file : OpenFile) → open_file s p d ≡ Some (m, file) → T (G (m, file)) (H (m, file))
    goes-on G H is m file own = let left = leaves m file own in is m file (open_file-at s p d m file own) (past-at m file own) left.0 left.1

    -- if its mode passes a test
    by-file : (test : Mode → Bool) (G H : ℕ × OpenFile → Attempt Effect) → GoesOn G H → T (demand EBADF (if_mode test (open_file s p d)) >>= G) (demand EBADF (if_mode test (open_file u p d)) >>= H)
    by-file test G H is =
        subst (λ o. T (demand EBADF (if_mode test (open_file s p d)) >>= G) (demand EBADF (if_mode test o) >>= H)) (sym opened)
        (two-demand A (shift s u k) s u j n now EBADF (if_mode test (open_file s p d)) G H (λ v own. goes-on G H is v.0 v.1 (open_file_for-is s j p test d v.0 v.1 own).0))

    any-file : (G H : ℕ × OpenFile → Attempt Effect) → GoesOn G H → T (demand EBADF (open_file s p d) >>= G) (demand EBADF (open_file u p d) >>= H)
    any-file G H is =
        subst (λ o. T (demand EBADF (open_file s p d) >>= G) (demand EBADF o >>= H)) (sym opened)
        (two-demand A (shift s u k) s u j n now EBADF (open_file s p d) G H (λ v own. goes-on G H is v.0 v.1 own))

  moves-two : (call : Call) → moves_offset call ≡ true → LeavesOpenFile program_of s p call k → T (effect program_of x j now call) (effect program_of y j (orphan n now) call)
  unfolding effect
  moves-two (TheCall.Read d c) moves leaves = by-file d (λ m file own. leaves d m file refl own) reads (CallRemainders.read_1 x j now c) (CallRemainders.read_1 y j (orphan n now) c) (λ m file there following away same. read-rest m file there following away same c)
  moves-two (TheCall.Lseek d by whence) moves leaves =
      any-file d (λ m file own. leaves d m file refl own) (CallRemainders.lseek_1 x j now by whence) (CallRemainders.lseek_1 y j (orphan n now) by whence) (λ m file there following away same. lseek-rest m file there following away same by whence)
  moves-two (TheCall.Getdents d) moves leaves = any-file d (λ m file own. leaves d m file refl own) (CallRemainders.getdents_1 x j now) (CallRemainders.getdents_1 y j (orphan n now)) (λ m file there following away same. getdents-rest m file there following away same)
  moves-two call moves leaves = cc moves

  -- ---- the state after the change

  settles : (a : A) (q : Process) (h : Process → Process) → SameHolds p (h q) → collect (update (shift s u k a (with_process s j q)) j h) ≡ shift s u k a (with_process s j (h q))
  settles a q h same =
      let g : OpenFile → OpenFile = appear a.offset a.listed in
      collected-update (shifts a.number g) (HasFile a.number) j (shift-apart g (keeps-file a.offset a.listed) a.number j) (with_process s j q) h a.there
      ∙ ap (shifts a.number g) (ap collect (update-with s j h q) ∙ quiet program_of encodes s j k p whole apart at (h q) same)

  settles_u : (a : A) (q : Process) (h : Process → Process) → SameHolds (orphan n p) (h q) → collect (update (shift s u k a (with_process u j q)) j h) ≡ shift s u k a (with_process u j (h q))
  settles_u a q h same =
      let g : OpenFile → OpenFile = appear a.offset a.listed in
      collected-update (shifts a.number g) (HasFile a.number) j (shift-apart g (keeps-file a.offset a.listed) a.number j) (with_process u j q) h a.following
      ∙ ap (shifts a.number g) (ap collect (update-with u j h q) ∙ quiet-following program_of encodes s j k p whole apart at (h q) same)

  passes : (o : Option A) (q : Process) → SameHolds p q
      → SteppedPair (λ x. acts (shift s u k) o (with_change x j (become q))) (step program_of s k) (step program_of (acts (shift s u k) o (with_change s j (become q))) k)
  passes None q same = passes-by program_of encodes s j k p whole apart at q same
  passes (Some a) q same =
      let inside = passes-by program_of encodes s j k p whole apart at q same in
      let beside =
      step-shifted a.number (appear a.offset a.listed) (keeps-file a.offset a.listed) program_of (with_change s j (become q)) k a.there (λ goes. a.away (goes-as_before s j k a.number (become q) apart goes)) in
      record { outcome = beside.outcome ∙ inside.outcome; lines = beside.lines ∙ inside.lines; after = beside.after ∙ ap (shift s u k a) inside.after }

  pub offset-commutes : (call : Call) → next p ≡ calls_for call → moves_offset call ≡ true → LeavesOpenFile program_of s p call k → missing_promise p.promises (needs call) ≡ None → Commute program_of s j k
  offset-commutes call comes moves leaves held =
      commute-steps program_of encodes s j k p whole apart at A (shift s u k)
      (call-twice program_of encodes s j k p whole apart at A (shift s u k) (λ a z. refl) settles settles_u call comes held (moves-two call moves leaves)) passes

pub offsets-commute : (program_of : Bytes → Option Program) → EncodesPrograms program_of → (s : State) (j k : ℕ) (p : Process) (call : Call) → IsValid s → j ≢ k → process_at s j ≡ Some p → next p ≡ calls_for call
    → moves_offset call ≡ true → ((a : Promise) → (step program_of s j).outcome ≢ Killed a) → LeavesOpenFile program_of s p call k → Commute program_of s j k
offsets-commute program_of encodes s j k p call whole apart at comes moves alive leaves =
    commute-where program_of encodes s j k p call whole apart at comes alive (offset-commutes program_of encodes s j k p whole apart at call comes moves leaves)
