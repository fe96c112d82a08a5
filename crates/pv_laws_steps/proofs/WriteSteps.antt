-- A write that keeps the length of its file similar, before and after a step of another process.
use Rattle.std.proofs.Common.{◌≡◌, ◌≢◌, ℕ, zero, suc, ◌+◌, ◌-◌, ◌*◌, ◌≤◌, nat_lt, ℤ, Bool, true, false, not, ◌||◌, if◌then◌else◌, min, max, length, take, Option, None, Some, is_some, refl, ap, ap₂, sym, subst, ◌∙◌, arith}
use Rattle.std.proofs.Math.ListN.{length-append, length-take, length-drop, length-replicate}
use Rattle.std.proofs.lemmas.Bool.{ltb-false, le-ltb}
use Rattle.pv_model.specs.declared.call.Call.TheVariants as TheCall
use Rattle.pv_model.specs.declared.errno.Errno.TheVariants.{EFBIG, ENOSPC, EBADF, EINVAL}
use Rattle.pv_model.specs.declared.outcome.Outcome.TheVariants.{Killed}
use Rattle.pv_model.specs.declared.promise.Promise.{Promise}
use Rattle.pv_model.specs.Machine.{at_next_line, update_live, update, effect, Attempt, after_walks, ◌>>=◌, ◌>>◌, give, refuse_if, demand, Bytes, within, is_past_greatest, with_content, write_end, after_write, write, Effect, answers, with_room, open_file, with_file, overwrite, collect, needs, at_number, calls_for, next, missing_promise, rounded_up, greatest_length, is_too_long, fits, is_file, OpenFile, Program, Process, State, writes, process_at, with_process, with_tree, step, file_bytes, with_bytes, node_at, is_directory_at}
use Rattle.pv_model.specs.Calls.Descriptors.{if_mode}
use Rattle.pv_laws_states.specs.States.{is_byte, EncodesPrograms, IsOpenFile, IsValid}
use Rattle.pv_laws_states.proofs.ValidByFile.{open_file-at, file-bytes}
use Rattle.pv_laws_states.proofs.ValidByProcess.{within-limit}
use Rattle.pv_laws_states.proofs.ValidByTree.{all-overwrite}
use Rattle.pv_laws_states.proofs.Processes.{update-with}
use Rattle.pv_laws_states.proofs.CallRemainders
use Rattle.pv_laws_states.proofs.ProcessInsides.{SameHolds, list_all-take}
use Rattle.pv_laws_states.proofs.ChangedStates.{my-running}
use Rattle.pv_laws_runs.specs.OfLawsAccess.Growth.{IsSameFile}
use Rattle.pv_laws_runs.specs.OfLawsAccess.Justice.{HasEffectNext}
use Rattle.pv_laws_runs.proofs.OfLawsAccess.CallEffects.{open_file_for-is}
use Rattle.pv_laws_runs.proofs.OfLawsAccess.SimilarTrees.{GoesByLength, IsExact, IsFine, as_is, as_is-fine, blocks, blocks-fine}
use Rattle.pv_laws_steps.specs.Beside.{with_change, become}
use Rattle.pv_laws_steps.specs.Commuting.{Commute}
use Rattle.pv_laws_steps.specs.Offsets.{with_file_change, DependsOnOffset}
use Rattle.pv_laws_steps.specs.Growing.{EndsInBlocks, LeavesGrowing}
use Rattle.pv_laws_steps.specs.Writes.{LeavesWrite, StaysWithin}
use Rattle.pv_laws_steps.proofs.ChangedPairs.{SteppedPair}
use Rattle.pv_laws_steps.proofs.ContentSteps.{Content, put_content, settled-content, settled-content_u, short-content, short-content_u, fit-content, fit-content_u, passes-content}
use Rattle.pv_laws_steps.proofs.IndependentSteps.{commute-where}
use Rattle.pv_laws_steps.proofs.OffsetSteps.{same-open, goes-as_before}
use Rattle.pv_laws_steps.proofs.ParentIndependence.{orphan}
use Rattle.pv_laws_steps.proofs.OtherBytes.{bytes-left, not_by-length, may-be_long}
use Rattle.pv_laws_steps.proofs.OffsetCalls.{HasFile, step-shifted}
use Rattle.pv_laws_steps.proofs.ChangedOffsets.{put-is_change, collect-shifted}
use Rattle.pv_laws_steps.proofs.ExchangedSteps.{acts, Two, two-demand, after_k, valid-following, heir, quiet, quiet-following, passes-by, commute-steps, call-twice}

-- ---- overwritten bytes

-- the result ends at the farther of both ends
over-end : (old : Bytes) (at count : ℕ) (buffer : Bytes) → count ≤ length buffer → 1 ≤ count → length (overwrite old at (take count buffer)) ≡ max (length old) (at + count)
over-end old at count buffer low some =
    let new : Bytes = take count buffer in
    let taken : length new ≡ min count (length buffer) = length-take count buffer in
    let long : length (overwrite old at new) ≡ min at (length old + (at - length old)) + length new + (length old - (at + length new)) = simp (length-append, length-take, length-drop, length-replicate) in
    long ∙ omega (arith, taken, low, some)

-- an attempt with room
pub roomy : (z : State) (v : ℕ) → is_too_long (collect z).tree ≡ false → fits (collect z).tree ≡ true → (with_room z >>= (λ room. answers room v)) ≡ answers z v
roomy z v short fit = ap₂ (λ l m. (refuse_if EFBIG l >> (refuse_if ENOSPC (not m) >> give z)) >>= (λ room. answers room v)) short fit

-- ---- the changes

abbrev at_offset : ℕ → OpenFile → OpenFile
at_offset offset file = record file { offset = offset }

-- bytes are stored in a file, and the offset of an open file, which process k does not use, moves past them
record Writing (size : ℕ → ℕ) (fine : IsFine size) (s t : State) (k : ℕ) : Type 0 where
  content : Content size fine s t k
  number : ℕ
  offset : ℕ
  there : HasFile number s
  away : ¬ DependsOnOffset s k number

abbrev writing : (size : ℕ → ℕ) (fine : IsFine size) (s t : State) (k : ℕ) → Writing size fine s t k → State → State
writing size fine s t k a x = with_file_change (put_content size fine s t k a.content x) a.number (at_offset a.offset)

keeps-file : (offset : ℕ) (f : OpenFile) → IsSameFile f (at_offset offset f)
keeps-file offset f = record { node = refl; mode = refl }

goes-as_it_did : (s : State) (f : ℕ) (b : Bytes) (k m : ℕ) → DependsOnOffset (with_bytes s f b) k m → DependsOnOffset s k m
goes-as_it_did s f b k m goes = record {
  named = record {
    p = goes.named.p;
    call = goes.named.call;
    d = goes.named.d;
    file = goes.named.file;
    at = goes.named.at;
    next_is = goes.named.next_is;
    own = goes.named.own;
    opened = goes.named.opened;
  };
  by = goes.by;
}

-- an open file for writing is on a file
pub written-file : (z : State) (m : ℕ) (file : OpenFile) → IsValid z → at_number z.files m ≡ Some file → writes file.mode ≡ true → is_file (node_at z.tree file.node) ≡ true
written-file z m file whole at may_write = by (is_file (node_at z.tree file.node)) refl (is_directory_at z.tree file.node) refl
  where
    each : IsOpenFile z.tree file
    each = whole.files.each m file at

    by : (b : Bool) → is_file (node_at z.tree file.node) ≡ b → (c : Bool) → is_directory_at z.tree file.node ≡ c → is_file (node_at z.tree file.node) ≡ true
    by true is c dir = is
    by false is true dir = let no : writes file.mode ≡ false = each.directory dir in cc
    by false is false dir = let some : (false || false) ≡ true = sym (ap₂ (λ a b. a || b) is dir) ∙ each.node in cc some

module _ (size : ℕ → ℕ) (fine : IsFine size) (program_of : Bytes → Option Program) (encodes : EncodesPrograms program_of) (s : State) (j k : ℕ) (p : Process) (whole : IsValid s) (apart : j ≢ k) (at : process_at s j ≡ Some p) where
  abbrev u : State
  u = after_k program_of encodes s j k p whole apart at

  abbrev n : ℕ
  n = heir program_of encodes s j k p whole apart at

  whole_u : IsValid u
  whole_u = valid-following program_of encodes s j k p whole apart at

  abbrev now : Process
  now = at_next_line p

  abbrev x : State
  x = with_process s j now

  abbrev y : State
  y = with_process u j (orphan n now)

  abbrev A : Type 0
  A = Writing size fine s u k

  abbrev T : Attempt Effect → Attempt Effect → Type 0
  T = Two A (writing size fine s u k) s u j n now

  itself : (q : Process) → SameHolds q q
  itself q = record { directory = refl; table = refl; descriptors = refl; parent = refl }

  next-holds : (q : Process) → SameHolds q (at_next_line q)
  next-holds q = record { directory = refl; table = refl; descriptors = refl; parent = refl }

  -- ---- the state after the change

  settled-act : (a : A) (z : State) → z.tree ≡ s.tree → collect z ≡ z → collect (writing size fine s u k a z) ≡ writing size fine s u k a z
  settled-act a z tree collected =
      collect-shifted (at_offset a.offset) (keeps-file a.offset) (put_content size fine s u k a.content z) a.number
      ∙ ap (λ w. with_file_change w a.number (at_offset a.offset)) (settled-content size fine s u k a.content z tree collected)

  settled-act_u : (a : A) (z : State) → z.tree ≡ u.tree → collect z ≡ z → collect (writing size fine s u k a z) ≡ writing size fine s u k a z
  settled-act_u a z tree collected =
      collect-shifted (at_offset a.offset) (keeps-file a.offset) (put_content size fine s u k a.content z) a.number
      ∙ ap (λ w. with_file_change w a.number (at_offset a.offset)) (settled-content_u size fine s u k a.content z tree collected)

  pushes : (a : A) (z : State) (h : Process → Process) → update (writing size fine s u k a z) j h ≡ writing size fine s u k a (update z j h)
  pushes a z h = by (process_at z j)
    where
      by : (o : Option Process) → update_live (writing size fine s u k a z) j h o ≡ writing size fine s u k a (update_live z j h o)
      by None = refl
      by (Some q) = refl

  settles : (a : A) (q : Process) (h : Process → Process) → SameHolds p (h q) → collect (update (writing size fine s u k a (with_process s j q)) j h) ≡ writing size fine s u k a (with_process s j (h q))
  settles a q h same =
      ap collect (pushes a (with_process s j q) h ∙ ap (writing size fine s u k a) (update-with s j h q))
      ∙ settled-act a (with_process s j (h q)) refl (quiet program_of encodes s j k p whole apart at (h q) same)

  settles_u : (a : A) (q : Process) (h : Process → Process) → SameHolds (orphan n p) (h q) → collect (update (writing size fine s u k a (with_process u j q)) j h) ≡ writing size fine s u k a (with_process u j (h q))
  settles_u a q h same =
      ap collect (pushes a (with_process u j q) h ∙ ap (writing size fine s u k a) (update-with u j h q))
      ∙ settled-act_u a (with_process u j (h q)) refl (quiet-following program_of encodes s j k p whole apart at (h q) same)

  -- ---- the step of k follows the change

  passes : (o : Option A) (q : Process) → SameHolds p q
      → SteppedPair (λ z. acts (writing size fine s u k) o (with_change z j (become q))) (step program_of s k) (step program_of (acts (writing size fine s u k) o (with_change s j (become q))) k)
  passes None q same = passes-by program_of encodes s j k p whole apart at q same
  passes (Some a) q same =
      let c = a.content in
      let beneath = passes-content size fine program_of encodes s j k p whole apart at c q same in
      let beside =
      step-shifted a.number (at_offset a.offset) (keeps-file a.offset) program_of (with_change (with_bytes s c.node c.bytes) j (become q)) k a.there
      (λ goes. a.away (goes-as_it_did s c.node c.bytes k a.number (goes-as_before (with_bytes s c.node c.bytes) j k a.number (become q) apart goes))) in
      record {
        outcome = beside.outcome ∙ beneath.outcome;
        lines = beside.lines ∙ beneath.lines;
        after = beside.after ∙ ap (λ z. with_file_change z a.number (at_offset a.offset)) beneath.after;
      }

  -- ---- the system call

  -- a write of c bytes by descriptor d keeps the length of its file similar
  abbrev pub KeepsSize : ℤ → ℤ → Type 0
  KeepsSize d c =
      (m : ℕ) (file : OpenFile) (count : ℕ) → open_file s p d ≡ Some (m, file) → within 4096 c ≡ Some count
      → size (max (length (file_bytes s file.node)) (write_end s j p file count)) ≡ size (length (file_bytes s file.node))

  module _ (d c : ℤ) (stays : KeepsSize d c) (leaves : LeavesWrite s p d k) (exact : (m : ℕ) (file : OpenFile) → open_file s p d ≡ Some (m, file) → HasEffectNext GoesByLength s k file.node → IsExact size) where
    opened : open_file u p d ≡ open_file s p d
    opened = same-open program_of s k j p whole apart at d (λ m file is. (leaves m file is).0)

    module _ (m : ℕ) (file : OpenFile) (own : open_file s p d ≡ Some (m, file)) (may_write : writes file.mode ≡ true) where
      f : ℕ
      f = file.node

      there : at_number s.files m ≡ Some file
      there = open_file-at s p d m file own

      following : at_number u.files m ≡ Some file
      following = open_file-at u p d m file (opened ∙ own)

      is : is_file (node_at s.tree file.node) ≡ true
      is = written-file s m file whole there may_write

      is_u : is_file (node_at u.tree file.node) ≡ true
      is_u = written-file u m file whole_u following may_write

      same-bytes : file_bytes u file.node ≡ file_bytes s file.node
      same-bytes = bytes-left program_of k file.node s whole is is_u (leaves m file own).1.1

      abbrev place : Bytes → ℕ
      place old = if file.append then length old else file.offset

      abbrev over : Bytes → ℕ → Bytes
      over old count = overwrite old (place old) (take count p.buffer)

      abbrev written : State → Bytes → ℕ → State
      written z old count = with_file (with_tree z (with_content z.tree file.node (over old count))) m (at_offset (place old + length (take count p.buffer)) file)

      abbrev old : Bytes
      old = file_bytes s file.node

      -- the end of the write, if the lengths are similar
      abbrev Ends : ℕ → Type 0
      Ends count = (count ≤ 4096) × (size (max (length old) (write_end s j p file count)) ≡ size (length old))

      act-of : (i : ℕ) → Ends (suc i) → A
      act-of i ends = record {
        content = record {
          node = file.node;
          bytes = over old (suc i);
          file = is;
          following = is_u;
          long = ap size (over-end old (place old) (suc i) p.buffer (omega (arith, ends.0, (my-running s j p whole at).buffer.0)) (omega arith)) ∙ ends.1;
          same = same-bytes;
          good = all-overwrite s j p whole at old (place old) (take (suc i) p.buffer) (file-bytes s whole file.node).1 (list_all-take is_byte (suc i) p.buffer (my-running s j p whole at).buffer.1);
          leaves = (leaves m file own).1;
          exact = exact m file own;
        };
        number = m;
        offset = place old + length (take (suc i) p.buffer);
        there = ap is_some there;
        away = (leaves m file own).0;
      }

      put-s : (i : ℕ) (ends : Ends (suc i)) → written x old (suc i) ≡ writing size fine s u k (act-of i ends) x
      unfolding act-of
      put-s i ends =
          let count : ℕ = suc i in
          ap (λ fs. record x { tree = with_content s.tree file.node (over old count); files = fs })
          (put-is_change (at_offset (place old + length (take count p.buffer))) m s.files file (at_offset (place old + length (take count p.buffer)) file) there refl)

      put-u : (i : ℕ) (ends : Ends (suc i)) → written y (file_bytes u file.node) (suc i) ≡ writing size fine s u k (act-of i ends) y
      unfolding act-of
      put-u i ends =
          let count : ℕ = suc i in
          ap (λ b. written y b count) same-bytes
          ∙ ap (λ fs. record y { tree = with_content u.tree file.node (over old count); files = fs })
          (put-is_change (at_offset (place old + length (take count p.buffer))) m u.files file (at_offset (place old + length (take count p.buffer)) file) following refl)

      -- a write with room that ends within the limits
      does : (z : State) (me : Process) (count : ℕ) → is_past_greatest z.tree (write_end z j me file count) ≡ false → is_too_long (collect (after_write z j me m file count)).tree ≡ false
          → fits (collect (after_write z j me m file count)).tree ≡ true → CallRemainders.write_2 z j me m file count ≡ answers (after_write z j me m file count) count
      does z me count near short fit =
          ap (λ b. refuse_if EFBIG b >> CallRemainders.write_3 z j me m file count) near ∙ ap (after_walks 0) (roomy (after_write z j me m file count) count short fit)

      end-same : (count : ℕ) → write_end u j p file count ≡ write_end s j p file count
      end-same zero = refl
      end-same (suc i) = ap (λ b. place b + suc i) same-bytes

      -- the write ends within the limits
      low : (z : State) → IsValid z → file_bytes z file.node ≡ old → (count : ℕ) → write_end z j p file count ≡ write_end s j p file count → Ends count → is_past_greatest z.tree (write_end z j p file count) ≡ false
      low z whole_z same count end ends =
          let greatest : ℕ = greatest_length z.tree.version in
          let farther : ℕ = max (length old) (write_end s j p file count) in
          let near_end : nat_lt greatest farther ≡ false = may-be_long size fine z file.node farther whole_z (ends.1 ∙ ap (λ b. size (length b)) (sym same)) in
          le-ltb greatest (write_end z j p file count) (omega (arith, end, ltb-false greatest farther near_end))

      low-s : (count : ℕ) → Ends count → is_past_greatest s.tree (write_end s j p file count) ≡ false
      low-s count ends = low s whole refl count refl ends

      low-u : (count : ℕ) → Ends count → is_past_greatest u.tree (write_end u j p file count) ≡ false
      low-u count ends = low u whole_u same-bytes count (end-same count) ends

      settled-x : collect x ≡ x
      settled-x = quiet program_of encodes s j k p whole apart at now (next-holds p)

      settled-y : collect y ≡ y
      settled-y = quiet-following program_of encodes s j k p whole apart at (orphan n now) (next-holds (orphan n p))

      counted : (count : ℕ) → Ends count → T (CallRemainders.write_2 x j now m file count) (CallRemainders.write_2 y j (orphan n now) m file count)
      counted zero ends =
          subst (λ a. T a (CallRemainders.write_2 y j (orphan n now) m file 0)) (sym (does x now 0 (low-s 0 ends) (ap (λ (z : State). is_too_long z.tree) settled-x ∙ whole.not_too_long) (ap (λ (z : State). fits z.tree) settled-x ∙ whole.fits)))
          (subst (λ b. T (answers x 0) b) (sym (does y (orphan n now) 0 (low-u 0 ends) (ap (λ (z : State). is_too_long z.tree) settled-y ∙ whole_u.not_too_long) (ap (λ (z : State). fits z.tree) settled-y ∙ whole_u.fits)))
          (record { both = (refl, refl, tt, (None, now, itself now, refl, refl)) }))
      counted (suc i) ends =
          let a : A = act-of i ends in
          let one : collect (written x old (suc i)) ≡ writing size fine s u k a x = ap collect (put-s i ends) ∙ settled-act a x refl settled-x in
          let two : collect (written y (file_bytes u file.node) (suc i)) ≡ writing size fine s u k a y = ap collect (put-u i ends) ∙ settled-act_u a y refl settled-y in
          subst (λ b. T b (CallRemainders.write_2 y j (orphan n now) m file (suc i)))
          (sym (does x now (suc i) (low-s (suc i) ends) (ap (λ (z : State). is_too_long z.tree) one ∙ short-content size fine s u k a.content ∙ whole.not_too_long) (ap (λ (z : State). fits z.tree) one ∙ fit-content size fine s u k a.content ∙ whole.fits)))
          (subst (λ b. T (answers (written x old (suc i)) (suc i)) b)
          (sym (does y (orphan n now) (suc i) (low-u (suc i) ends) (ap (λ (z : State). is_too_long z.tree) two ∙ short-content_u size fine s u k a.content ∙ whole_u.not_too_long) (ap (λ (z : State). fits z.tree) two ∙ fit-content_u size fine s u k a.content ∙ whole_u.fits)))
          (record { both = (refl, refl, tt, (Some a, now, itself now, put-s i ends, put-u i ends)) }))

      rest : T (CallRemainders.write_1 x j now c (m, file)) (CallRemainders.write_1 y j (orphan n now) c (m, file))
      rest =
          two-demand A (writing size fine s u k) s u j n now EINVAL (within 4096 c) (CallRemainders.write_2 x j now m file) (CallRemainders.write_2 y j (orphan n now) m file) (λ count some.
          counted count (within-limit 4096 c count some, stays m file count own some))

    performed : T (write x j now d c) (write y j (orphan n now) d c)
    performed =
        subst (λ o. T (demand EBADF (if_mode writes (open_file s p d)) >>= CallRemainders.write_1 x j now c) (demand EBADF (if_mode writes o) >>= CallRemainders.write_1 y j (orphan n now) c)) (sym opened)
        (two-demand A (writing size fine s u k) s u j n now EBADF (if_mode writes (open_file s p d)) (CallRemainders.write_1 x j now c) (CallRemainders.write_1 y j (orphan n now) c) (λ v own.
        let both = open_file_for-is s j p writes d v.0 v.1 own in
        rest v.0 v.1 both.0 both.1))

    effect-two : T (effect program_of x j now (TheCall.Write d c)) (effect program_of y j (orphan n now) (TheCall.Write d c))
    unfolding effect
    effect-two = performed

    pub write-commutes : next p ≡ calls_for (TheCall.Write d c) → missing_promise p.promises (needs (TheCall.Write d c)) ≡ None → Commute program_of s j k
    write-commutes comes held =
        commute-steps program_of encodes s j k p whole apart at A (writing size fine s u k)
        (call-twice program_of encodes s j k p whole apart at A (writing size fine s u k) (λ a z. refl) settles settles_u (TheCall.Write d c) comes held effect-two) passes

pub writes-commute : (program_of : Bytes → Option Program) → EncodesPrograms program_of → (s : State) (j k : ℕ) (p : Process) (d c : ℤ) → IsValid s → j ≢ k → process_at s j ≡ Some p → next p ≡ calls_for (TheCall.Write d c)
    → ((a : Promise) → (step program_of s j).outcome ≢ Killed a) → StaysWithin s j p d c → LeavesWrite s p d k → Commute program_of s j k
writes-commute program_of encodes s j k p d c whole apart at comes alive stays leaves =
    commute-where program_of encodes s j k p (TheCall.Write d c) whole apart at comes alive
    (write-commutes as_is as_is-fine program_of encodes s j k p whole apart at d c
    (λ m file count own some. let low : write_end s j p file count ≤ length (file_bytes s file.node) = stays m file count own some in omega (arith, low)) leaves (λ m file own by a b same. same) comes)

-- a write that ends within the blocks of its file keeps their number
in_blocks : (old end : ℕ) → end ≤ 512 * rounded_up old 512 → rounded_up (max old end) 512 ≡ rounded_up old 512
in_blocks old end low = omega (arith, low)

pub growing-writes-commute : (program_of : Bytes → Option Program) → EncodesPrograms program_of → (s : State) (j k : ℕ) (p : Process) (d c : ℤ) → IsValid s → j ≢ k → process_at s j ≡ Some p
    → next p ≡ calls_for (TheCall.Write d c) → ((a : Promise) → (step program_of s j).outcome ≢ Killed a) → EndsInBlocks s j p d c → LeavesGrowing s p d k → Commute program_of s j k
growing-writes-commute program_of encodes s j k p d c whole apart at comes alive ends leaves =
    commute-where program_of encodes s j k p (TheCall.Write d c) whole apart at comes alive
    (write-commutes blocks blocks-fine program_of encodes s j k p whole apart at d c
    (λ m file count own some. in_blocks (length (file_bytes s file.node)) (write_end s j p file count) (ends m file count own some))
    (λ m file own. let is = leaves m file own in (is.0, is.1.0)) (λ m file own by. absurd (not_by-length s k file.node (leaves m file own).1 by)) comes)
