-- A truncation that keeps the number of blocks of its file, before and after a step of another process.
use Rattle.std.proofs.Common.{◌≡◌, ◌≢◌, ℕ, ◌-◌, ℤ, Bool, true, false, not, length, take, replicate, Option, None, Some, refl, ap, sym, subst, ◌∙◌}
use Rattle.pv_model.specs.declared.call.Call.TheVariants as TheCall
use Rattle.pv_model.specs.declared.errno.Errno.TheVariants.{EBADF, EINVAL, EFBIG}
use Rattle.pv_model.specs.declared.open_flags.Mode.{Mode}
use Rattle.pv_model.specs.declared.outcome.Cause.TheVariants.{Plain}
use Rattle.pv_model.specs.declared.outcome.Outcome.TheVariants.{Killed}
use Rattle.pv_model.specs.declared.promise.Promise.{Promise}
use Rattle.pv_model.specs.Machine.{at_next_line, update_live, update, effect, Attempt, after_walks, ◌>>=◌, ◌>>◌, refuse_if, demand, Bytes, natural, is_past_greatest, with_content, Effect, answers, with_room, open_file, bytes_of, resize, collect, needs, at_number, calls_for, next, missing_promise, is_too_long, fits, is_file, OpenFile, Program, Process, State, writes, process_at, with_process, with_tree, step, file_bytes, node_at}
use Rattle.pv_laws_states.specs.States.{is_byte, EncodesPrograms, IsValid}
use Rattle.pv_laws_states.proofs.ValidByFile.{open_file-at, file-bytes}
use Rattle.pv_laws_states.proofs.Processes.{update-with}
use Rattle.pv_laws_states.proofs.ProcessInsides.{SameHolds, list_all-take, list_all-replicate, list_all-both}
use Rattle.pv_laws_runs.specs.OfLawsAccess.Growth.{IsSameFile}
use Rattle.pv_laws_runs.proofs.OfLawsAccess.SimilarTrees.{blocks, blocks-fine}
use Rattle.pv_laws_runs.proofs.OfLawsAccess.SimilarCalls.{size-length}
use Rattle.pv_laws_steps.specs.Beside.{with_change, become}
use Rattle.pv_laws_steps.specs.Commuting.{Commute}
use Rattle.pv_laws_steps.specs.Growing.{KeepsBlocks, LeavesCut}
use Rattle.pv_laws_steps.proofs.ChangedPairs.{SteppedPair}
use Rattle.pv_laws_steps.proofs.ContentSteps.{Content, put_content, settled-content, settled-content_u, short-content, short-content_u, fit-content, fit-content_u, passes-content}
use Rattle.pv_laws_steps.proofs.KeptOpenFiles.{OpenAlike, alike-open}
use Rattle.pv_laws_steps.proofs.IndependentSteps.{commute-where}
use Rattle.pv_laws_steps.proofs.ParentIndependence.{orphan}
use Rattle.pv_laws_steps.proofs.OtherBytes.{bytes-left, not_by-length, may-be_long}
use Rattle.pv_laws_steps.proofs.ExchangedSteps.{acts, Two, two-after, two-refused, two-demand, after_k, valid-following, heir, quiet, quiet-following, passes-by, commute-steps, call-twice}
use Rattle.pv_laws_steps.proofs.WriteSteps.{roomy, written-file}

module _ (program_of : Bytes → Option Program) (encodes : EncodesPrograms program_of) (s : State) (j k : ℕ) (p : Process) (whole : IsValid s) (apart : j ≢ k) (at : process_at s j ≡ Some p) where
  abbrev u : State
  u = after_k program_of encodes s j k p whole apart at

  abbrev n : ℕ
  n = heir program_of encodes s j k p whole apart at

  whole_u : IsValid u
  whole_u = valid-following program_of encodes s j k p whole apart at

  abbrev now : Process
  now = at_next_line p

  abbrev x : State
  x = with_process s j now

  abbrev y : State
  y = with_process u j (orphan n now)

  abbrev A : Type 0
  A = Content blocks blocks-fine s u k

  abbrev act : A → State → State
  act a z = put_content blocks blocks-fine s u k a z

  abbrev T : Attempt Effect → Attempt Effect → Type 0
  T = Two A act s u j n now

  now-holds : SameHolds now now
  now-holds = record { directory = refl; table = refl; descriptors = refl; parent = refl }

  next-holds : (q : Process) → SameHolds q (at_next_line q)
  next-holds q = record { directory = refl; table = refl; descriptors = refl; parent = refl }

  settled-x : collect x ≡ x
  settled-x = quiet program_of encodes s j k p whole apart at now (next-holds p)

  settled-y : collect y ≡ y
  settled-y = quiet-following program_of encodes s j k p whole apart at (orphan n now) (next-holds (orphan n p))

  -- ---- the state after the change

  pushes : (a : A) (z : State) (h : Process → Process) → update (act a z) j h ≡ act a (update z j h)
  pushes a z h = by (process_at z j)
    where
      by : (o : Option Process) → update_live (act a z) j h o ≡ act a (update_live z j h o)
      by None = refl
      by (Some q) = refl

  settles : (a : A) (q : Process) (h : Process → Process) → SameHolds p (h q) → collect (update (act a (with_process s j q)) j h) ≡ act a (with_process s j (h q))
  settles a q h same =
      ap collect (pushes a (with_process s j q) h ∙ ap (act a) (update-with s j h q))
      ∙ settled-content blocks blocks-fine s u k a (with_process s j (h q)) refl (quiet program_of encodes s j k p whole apart at (h q) same)

  settles_u : (a : A) (q : Process) (h : Process → Process) → SameHolds (orphan n p) (h q) → collect (update (act a (with_process u j q)) j h) ≡ act a (with_process u j (h q))
  settles_u a q h same =
      ap collect (pushes a (with_process u j q) h ∙ ap (act a) (update-with u j h q))
      ∙ settled-content_u blocks blocks-fine s u k a (with_process u j (h q)) refl (quiet-following program_of encodes s j k p whole apart at (h q) same)

  passes : (o : Option A) (q : Process) → SameHolds p q → SteppedPair (λ z. acts act o (with_change z j (become q))) (step program_of s k) (step program_of (acts act o (with_change s j (become q))) k)
  passes None q same = passes-by program_of encodes s j k p whole apart at q same
  passes (Some a) q same = passes-content blocks blocks-fine program_of encodes s j k p whole apart at a q same

  -- ---- the system call

  module _ (d c : ℤ) (keeps : KeepsBlocks s p d c) (leaves : LeavesCut s p d k) where
    abbrev cut_by : State → ℕ → ℕ → Attempt Effect
    cut_by z f size = refuse_if EFBIG (is_past_greatest z.tree size) >> (with_room (with_tree z (with_content z.tree f (resize (bytes_of (node_at z.tree f)) size))) >>= (λ room. answers room 0))

    abbrev by_file : State → Mode → ℕ → Attempt Effect
    by_file z mode f = refuse_if EINVAL (not (writes mode)) >> (demand EINVAL (natural c) >>= cut_by z f)

    -- a truncation within the limits and with room
    does : (z z' : State) (f size : ℕ) → is_past_greatest z.tree size ≡ false → with_tree z (with_content z.tree f (resize (bytes_of (node_at z.tree f)) size)) ≡ z' → is_too_long (collect z').tree ≡ false → fits (collect z').tree ≡ true
        → cut_by z f size ≡ answers z' 0
    does z z' f size near is short fit =
        ap (λ b. refuse_if EFBIG b >> (with_room (with_tree z (with_content z.tree f (resize (bytes_of (node_at z.tree f)) size))) >>= (λ room. answers room 0))) near
        ∙ ap (λ w. after_walks 0 (with_room w >>= (λ room. answers room 0))) is ∙ ap (after_walks 0) (roomy z' 0 short fit)

    module _ (m : ℕ) (file left : OpenFile) (own : open_file s p d ≡ Some (m, file)) (following : at_number u.files m ≡ Some left) (alike : IsSameFile file left) (may_write : writes file.mode ≡ true) where
      f : ℕ
      f = file.node

      abbrev old : Bytes
      old = file_bytes s file.node

      is : is_file (node_at s.tree file.node) ≡ true
      is = written-file s m file whole (open_file-at s p d m file own) may_write

      is_u : is_file (node_at u.tree file.node) ≡ true
      is_u = ap (λ i. is_file (node_at u.tree i)) (sym alike.node) ∙ written-file u m left whole_u following (ap writes alike.mode ∙ may_write)

      same-bytes : file_bytes u file.node ≡ old
      same-bytes = bytes-left program_of k file.node s whole is is_u (leaves m file own).0.1

      module _ (size : ℕ) (some : natural c ≡ Some size) where
        act-of : A
        act-of = record {
          node = file.node;
          bytes = resize old size;
          file = is;
          following = is_u;
          long = ap blocks (size-length old size) ∙ keeps m file size own some;
          same = same-bytes;
          good = list_all-both is_byte (take size old) (replicate (size - length old) 0) (list_all-take is_byte size old (file-bytes s whole file.node).1) (list_all-replicate is_byte (size - length old) 0 refl);
          leaves = (leaves m file own).0;
          exact = λ by. absurd (not_by-length s k file.node (leaves m file own) by);
        }

        put-s : with_tree x (with_content x.tree file.node (resize (bytes_of (node_at x.tree file.node)) size)) ≡ act act-of x
        unfolding act-of
        put-s = refl

        put-u : with_tree y (with_content y.tree file.node (resize (bytes_of (node_at y.tree file.node)) size)) ≡ act act-of y
        unfolding act-of
        put-u = ap (λ b. with_tree y (with_content y.tree file.node (resize b size))) same-bytes

        cut : T (cut_by x file.node size) (cut_by y file.node size)
        cut =
            let a : A = act-of in
            let one : collect (act a x) ≡ act a x = settled-content blocks blocks-fine s u k a x refl settled-x in
            let two : collect (act a y) ≡ act a y = settled-content_u blocks blocks-fine s u k a y refl settled-y in
            let preserved = keeps m file size own some in
            subst (λ b. T b (cut_by y file.node size))
            (sym (does x (act a x) file.node size (may-be_long blocks blocks-fine s file.node size whole preserved) put-s
            (ap (λ (z : State). is_too_long z.tree) one ∙ short-content blocks blocks-fine s u k a ∙ whole.not_too_long) (ap (λ (z : State). fits z.tree) one ∙ fit-content blocks blocks-fine s u k a ∙ whole.fits)))
            (subst (λ b. T (answers (act a x) 0) b)
            (sym (does y (act a y) file.node size (may-be_long blocks blocks-fine u file.node size whole_u (preserved ∙ ap (λ b. blocks (length b)) (sym same-bytes))) put-u
            (ap (λ (z : State). is_too_long z.tree) two ∙ short-content_u blocks blocks-fine s u k a ∙ whole_u.not_too_long) (ap (λ (z : State). fits z.tree) two ∙ fit-content_u blocks blocks-fine s u k a ∙ whole_u.fits)))
            (record { both = (refl, refl, tt, (Some a, now, now-holds, refl, refl)) }))

    by-mode : (m : ℕ) (file left : OpenFile) → open_file s p d ≡ Some (m, file) → at_number u.files m ≡ Some left → IsSameFile file left → (b : Bool) → writes file.mode ≡ b
        → T (by_file x file.mode file.node) (by_file y file.mode file.node)
    by-mode m file left own following alike true may_write =
        subst (λ b. T (refuse_if EINVAL (not b) >> (demand EINVAL (natural c) >>= cut_by x file.node)) (refuse_if EINVAL (not b) >> (demand EINVAL (natural c) >>= cut_by y file.node))) (sym may_write)
        (two-after A act s u j n now 0 (demand EINVAL (natural c) >>= cut_by x file.node) (demand EINVAL (natural c) >>= cut_by y file.node)
        (two-demand A act s u j n now EINVAL (natural c) (cut_by x file.node) (cut_by y file.node) (λ size some. cut m file left own following alike may_write size some)))
    by-mode m file left own following alike false may_write =
        subst (λ b. T (refuse_if EINVAL (not b) >> (demand EINVAL (natural c) >>= cut_by x file.node)) (refuse_if EINVAL (not b) >> (demand EINVAL (natural c) >>= cut_by y file.node))) (sym may_write)
        (two-refused A act s u j n now EINVAL Plain)

    rest : (m : ℕ) (file left : OpenFile) → open_file s p d ≡ Some (m, file) → at_number u.files m ≡ Some left → IsSameFile file left → T (by_file x file.mode file.node) (by_file y left.mode left.node)
    rest m file left own following alike =
        subst (λ mode. T (by_file x file.mode file.node) (by_file y mode left.node)) (sym alike.mode)
        (subst (λ f. T (by_file x file.mode file.node) (by_file y file.mode f)) (sym alike.node) (by-mode m file left own following alike (writes file.mode) refl))

    abbrev cuts : State → Option (ℕ × OpenFile) → Attempt Effect
    cuts z o = demand EBADF o >>= (λ v. by_file z v.1.mode v.1.node)

    performed-by : (a b : Option (ℕ × OpenFile)) → open_file s p d ≡ a → open_file u p d ≡ b → OpenAlike a b → T (cuts x a) (cuts y b)
    performed-by None None own left alike = two-refused A act s u j n now EBADF Plain
    performed-by None (Some v) own left alike = absurd alike
    performed-by (Some v) None own left alike = absurd alike
    performed-by (Some (m, file)) (Some (i, f)) own left alike =
        two-after A act s u j n now 0 (by_file x file.mode file.node) (by_file y f.mode f.node)
        (rest m file f own (ap (at_number u.files) (sym alike.0) ∙ open_file-at u p d i f left) alike.1)

    effect-two : T (effect program_of x j now (TheCall.Ftruncate d c)) (effect program_of y j (orphan n now) (TheCall.Ftruncate d c))
    unfolding effect
    effect-two = performed-by (open_file s p d) (open_file u p d) refl refl (alike-open program_of s j k p whole apart at d)

    pub cut-commutes : next p ≡ calls_for (TheCall.Ftruncate d c) → missing_promise p.promises (needs (TheCall.Ftruncate d c)) ≡ None → Commute program_of s j k
    cut-commutes comes held =
        commute-steps program_of encodes s j k p whole apart at A act (call-twice program_of encodes s j k p whole apart at A act (λ a z. refl) settles settles_u (TheCall.Ftruncate d c) comes held effect-two) passes

pub cuts-commute : (program_of : Bytes → Option Program) → EncodesPrograms program_of → (s : State) (j k : ℕ) (p : Process) (d c : ℤ) → IsValid s → j ≢ k → process_at s j ≡ Some p
    → next p ≡ calls_for (TheCall.Ftruncate d c) → ((a : Promise) → (step program_of s j).outcome ≢ Killed a) → KeepsBlocks s p d c → LeavesCut s p d k → Commute program_of s j k
cuts-commute program_of encodes s j k p d c whole apart at comes alive keeps leaves =
    commute-where program_of encodes s j k p (TheCall.Ftruncate d c) whole apart at comes alive (cut-commutes program_of encodes s j k p whole apart at d c keeps leaves comes)
