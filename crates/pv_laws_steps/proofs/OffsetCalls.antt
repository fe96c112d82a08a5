-- Each call, in two states that differ in an open file that the call does not use.
use Rattle.std.proofs.Common.{◌≡◌, ◌≢◌, ℕ, zero, suc, ℤ, true, false, nat_le, List, Option, None, Some, is_some, option_map, refl, ap, sym, subst, ◌∙◌, ⊎_elim, inl, Ok}
use Rattle.std.proofs.lemmas.Bool.{cases_eq}
use Rattle.pv_model.specs.declared.call.Call.{Call}
use Rattle.pv_model.specs.declared.call.Call.TheVariants as TheCall
use Rattle.pv_model.specs.declared.open_flags.OpenFlags.{OpenFlags}
use Rattle.pv_model.specs.Machine.{at_next_line, effect, Attempt, ◌>>=◌, ◌>>◌, Bytes, after_write, list_name, with_open_file, with_descriptor, new_open_file, Effect, answers, answers_bytes, status, with_file, with_room, open_file_of, open_file, descriptor_at, collect, at_number, with_number, least_free, calls_for, next, OpenFile, Descriptor, Program, Process, ProcessRecord, State, reads, writes, process_at, with_process, with_tree, step, descriptor_of, Tree, done, walk, judge, end_of, judgement, Walk, Reply, returns, resolve}
use Rattle.pv_laws_trees.proofs.NumberedMaps.{least_free-free}
use Rattle.pv_laws_states.proofs.CallOutcomes.{at_call}
use Rattle.pv_laws_states.proofs.CallRemainders
use Rattle.pv_laws_runs.specs.OfLawsAccess.Growth.{IsSameFile}
use Rattle.pv_laws_steps.specs.Offsets.{change_number, with_file_change, depends_on_offset, DependsOnOffset, StepsWithOtherFile}
use Rattle.pv_laws_steps.proofs.ChangedPairs.{AreChangedPair, ChangedPair, after-in_both, done-in_both, refused-in_both, same-room, room-in_both, SteppedPair, step-in_both}
use Rattle.pv_laws_steps.proofs.ChangedOffsets.{shifted-itself, shifted-other, put-shifted, there-put, least-shifted, collect-shifted, shift-apart}
use Rattle.pv_laws_states.proofs.RelatedAttempts.{KeptByAll, kept-by-checks, all-bind, all-then}
use Rattle.pv_laws_states.proofs.RelatedCalls.{BothHave, AreOnSame, both-have, Opened, opened-same, RespectsFiles, Respects, call-both}
use Rattle.pv_laws_states.proofs.RespectedParts.{walked-alike, twice-alike, starts-alike, pledge-both, unveil-both, execve-both}
use Rattle.pv_model.specs.declared.place.Place.{Place}
use Rattle.pv_model.specs.declared.judgement.Judgement.TheVariants.{Allowed}

-- the change of an open file, and the states that contain it
abbrev pub shifts : ℕ → (OpenFile → OpenFile) → State → State
shifts m g x = with_file_change x m g

abbrev pub HasFile : ℕ → State → Type 0
HasFile m x = is_some (at_number x.files m) ≡ true

module _ (m : ℕ) (g : OpenFile → OpenFile) (same : (f : OpenFile) → IsSameFile f (g f)) (s : State) (pid : ℕ) (me : Process) (there : HasFile m s) where
  abbrev u : State
  u = with_file_change s m g

  abbrev B : Attempt Effect → Attempt Effect → Type 0
  B = ChangedPair (shifts m g) (HasFile m)

  abbrev At : State → State → Type 0
  At = AreChangedPair (shifts m g) (HasFile m)

  room-shifted : (x y : State) (n : ℕ) → At x y → B (with_room x >>= (λ roomy. answers roomy n)) (with_room y >>= (λ roomy. answers roomy n))
  room-shifted x y n is = room-in_both (shifts m g) (HasFile m) x y n is (same-room (collect x).tree (collect (with_file_change x m g)).tree (ap (λ (z : State). z.tree) (collect-shifted g same x m)))

  -- operations that leave the open files unchanged
  files-left : (t : Tree) (ps : List (ℕ × ProcessRecord)) (last : ℕ) → At (record s { tree = t; processes = ps; last_process = last }) (record u { tree = t; processes = ps; last_process = last })
  files-left t ps last = record { same = refl; fit = there }

  -- operations that store another open file
  file-put : (t : Tree) (ps : List (ℕ × ProcessRecord)) (n : ℕ) (f : OpenFile) → n ≢ m
      → At (record s { tree = t; processes = ps; files = with_number s.files n f }) (record u { tree = t; processes = ps; files = with_number (change_number m g s.files) n f })
  file-put t ps n f other = record { same = ap (λ fs. record s { tree = t; processes = ps; files = fs }) (put-shifted g m s.files n f there other); fit = there-put g m s.files n f there other }

  free-other : least_free s.files ≢ m
  free-other here = let none : is_some (at_number s.files m) ≡ false = ap (λ n. is_some (at_number s.files n)) (sym here) ∙ ap is_some (least_free-free s.files) in cc

  all : KeptByAll B
  all = record { after = after-in_both (shifts m g) (HasFile m); refuses = refused-in_both (shifts m g) (HasFile m) }

  done-shifted : (n : ℕ) (x y : State) → At x y → B (answers x n) (answers y n)
  done-shifted n x y is = done-in_both (shifts m g) (HasFile m) 0 (returns n) x y is

  -- ---- the open file of a descriptor

  -- the open file of a descriptor has the same node and mode
  opens : (d : ℤ) → BothHave AreOnSame (open_file s me d) (open_file u me d)
  opens d = by (descriptor_at me d)
    where
      of : (k : ℕ) (o : Option OpenFile) → BothHave AreOnSame (option_map {U = ℕ × OpenFile} (λ f. (k, f)) o) (option_map {U = ℕ × OpenFile} (λ f. (k, f)) (option_map g o))
      of k None = tt
      of k (Some f) = record { node = (same f).node; mode = (same f).mode }

      by : (o : Option Descriptor) → BothHave AreOnSame (open_file_of s o) (open_file_of u o)
      by None = tt
      by (Some x) =
          ⊎_elim
          (λ here.
          subst (λ (n : ℕ). BothHave AreOnSame (option_map {U = ℕ × OpenFile} (λ f. (x.file, f)) (at_number s.files n)) (option_map {U = ℕ × OpenFile} (λ f. (x.file, f)) (at_number (change_number m g s.files) n))) (sym here)
          (subst (λ o. BothHave AreOnSame (option_map {U = ℕ × OpenFile} (λ f. (x.file, f)) (at_number s.files m)) (option_map {U = ℕ × OpenFile} (λ f. (x.file, f)) o)) (sym (shifted-itself g m s.files)) (of x.file (at_number s.files m))))
          (λ away.
          subst (λ o. BothHave AreOnSame (option_map {U = ℕ × OpenFile} (λ f. (x.file, f)) (at_number s.files x.file)) (option_map {U = ℕ × OpenFile} (λ f. (x.file, f)) o)) (sym (shifted-other g m s.files x.file away))
          (both-have AreOnSame _ (λ v is. record { node = refl; mode = refl })))
          (cases_eq x.file m)

  -- the call's open file is another one
  abbrev IsOther : ℤ → Type 0
  IsOther d = (k : ℕ) (f : OpenFile) → open_file s me d ≡ Some (k, f) → k ≢ m

  other-same : (d : ℤ) → IsOther d → open_file u me d ≡ open_file s me d
  other-same d other = by (descriptor_at me d) other
    where
      of : (k : ℕ) (o : Option OpenFile) → at_number s.files k ≡ o → ((f : OpenFile) → ◌≡◌ {A = Option (ℕ × OpenFile)} (option_map (λ f. (k, f)) (at_number s.files k)) (Some (k, f)) → k ≢ m)
          → at_number (change_number m g s.files) k ≡ at_number s.files k
      of k (Some f) is away = shifted-other g m s.files k (away f (ap (option_map (λ (f : OpenFile). (k, f))) is))
      of k None is away =
          ⊎_elim
          (λ here. let none : is_some (at_number s.files m) ≡ false = ap (λ n. is_some (at_number s.files n)) (sym here) ∙ ap is_some is in let some = there in cc)
          (λ apart. shifted-other g m s.files k apart)
          (cases_eq k m)

      by : (o : Option Descriptor) → ((k : ℕ) (f : OpenFile) → open_file_of s o ≡ Some (k, f) → k ≢ m) → open_file_of u o ≡ open_file_of s o
      by None away = refl
      by (Some x) away = ap (option_map (λ (f : OpenFile). (x.file, f))) (of x.file (at_number s.files x.file) refl (λ f is. away x.file f is))

  -- ---- system calls by descriptors

  module _ (k : ℕ) (other : k ≢ m) where
    put-here : (t : Tree) (f : OpenFile) → At (record s { tree = t; files = with_number s.files k f }) (record u { tree = t; files = with_number (change_number m g s.files) k f })
    put-here t f = file-put t s.processes k f other

    listed : (file : OpenFile) (o : Option Bytes) → B (list_name s pid me k file o) (list_name u pid me k file o)
    listed file None = done-in_both (shifts m g) (HasFile m) 0 _ _ _ (files-left s.tree s.processes s.last_process)
    listed file (Some name) = done-in_both (shifts m g) (HasFile m) 0 _ _ _ (put-here s.tree _)

    written : (file : OpenFile) (count : ℕ) → At (after_write s pid me k file count) (after_write u pid me k file count)
    written file zero = files-left s.tree s.processes s.last_process
    written file (suc n) = put-here _ _

  -- ---- opens

  put-new : (t : Tree) (ps : List (ℕ × ProcessRecord)) (f : OpenFile)
      → At (record s { tree = t; processes = ps; files = with_number s.files (least_free s.files) f }) (record u { tree = t; processes = ps; files = with_number (change_number m g s.files) (least_free s.files) f })
  put-new t ps f = file-put t ps (least_free s.files) f free-other

  opened : (flags : OpenFlags) (n : ℕ) (t : Tree) → At (with_open_file s pid me flags n t) (with_open_file u pid me flags n t)
  opened flags n t =
      subst (λ k. At (made s (least_free s.files)) (made u k)) (sym (least-shifted g m s.files)) (put-new t _ _)
    where
      made : State → ℕ → State
      made z k =
          with_descriptor z pid me (with_file (with_tree z t) k (new_open_file flags n)) k flags.close_on_exec

  made : (flags : OpenFlags) (n : ℕ) (t : Tree) → B (CallRemainders.open_7 s pid me (with_open_file s pid me flags n t)) (CallRemainders.open_7 u pid me (with_open_file u pid me flags n t))
  made flags n t = room-shifted _ _ (least_free me.descriptors) (opened flags n t)

  -- ---- the parts of a call

  -- the open file that the call uses is another one
  abbrev GoesByOther : Call → Type 0
  GoesByOther call = depends_on_offset call ≡ true → (d : ℤ) → descriptor_of call ≡ Some d → IsOther d

  module _ (program_of : Bytes → Option Program) (call : Call) (by : GoesByOther call) where
    abbrev C : List Walk → Attempt Effect → Attempt Effect → Type 0
    C ws = B

    -- a call by an offset uses another open file
    with-other : (P : ℕ × OpenFile → ℕ × OpenFile → Type 0) (c : Call) → call ≡ c → depends_on_offset c ≡ true → (d : ℤ) → descriptor_of c ≡ Some d → (v w : ℕ × OpenFile) → Opened C program_of s u pid me me call d v w
        → (v.0 ≢ m → P v v) → P v w
    with-other P c is goes d names v w it holds =
        let other : IsOther d = subst GoesByOther is by goes d names in
        opened-same C program_of s u pid me me call P d v w (other-same d other) it (holds (other v.0 v.1 it.here))

    left : (r : Reply) → B (done 0 (s, r)) (done 0 (u, r))
    left r = done-in_both (shifts m g) (HasFile m) 0 r s u (files-left s.tree s.processes s.last_process)

    own : (n : ℕ) (q : Process) → B (answers (with_process s pid q) n) (answers (with_process u pid q) n)
    own n q = done-shifted n _ _ (files-left s.tree _ s.last_process)

    walked : (w : Walk) (g h : Place → Attempt Effect) → ((place : Place) → end_of s me w ≡ Ok place → judgement s.tree me.table place w.needed ≡ Allowed → B (g place) (h place))
        → B (walk s me w >>= (λ place. judge s me w place >> g place)) (walk u me w >>= (λ place. judge u me w place >> h place))
    walked w = walked-alike B all s u pid me me (λ place needed. refl) w (ap (λ n. resolve s.tree w.follow n w.path) (starts-alike s u me me refl opens w.start w.path))

    files : RespectsFiles C program_of s u pid me me call
    files = record {
      opened = opens;
      full = ap (nat_le 128) (least-shifted g m s.files);
      reads = λ d n is v w it may count. with-other (λ v w. B (CallRemainders.read_2 s pid me v.0 v.1 count) (CallRemainders.read_2 u pid me w.0 w.1 count)) (TheCall.Read d n) is refl d refl v w it (λ other.
          all-then B all _ _ refl (CallRemainders.read_3 s pid me v.0 v.1 count) (CallRemainders.read_3 u pid me v.0 v.1 count) (done-in_both (shifts m g) (HasFile m) 0 _ _ _ (put-here v.0 other s.tree _)));
      writes = λ d n is v w it may count few. with-other (λ v w. B (CallRemainders.write_2 s pid me v.0 v.1 count) (CallRemainders.write_2 u pid me w.0 w.1 count)) (TheCall.Write d n) is refl d refl v w it (λ other.
          all-then B all _ _ refl (CallRemainders.write_3 s pid me v.0 v.1 count) (CallRemainders.write_3 u pid me v.0 v.1 count) (room-shifted _ _ count (written v.0 other v.1 count)));
      seeks = λ d by whence is v w it. with-other (λ v w. B (CallRemainders.lseek_2 s pid me by whence v.0 v.1) (CallRemainders.lseek_2 u pid me by whence w.0 w.1)) (TheCall.Lseek d by whence) is refl d refl v w it (λ other.
          all-bind B all _ _ refl (CallRemainders.lseek_3 s pid me v.0 v.1) (CallRemainders.lseek_3 u pid me v.0 v.1) (λ offset. done-in_both (shifts m g) (HasFile m) 0 _ _ _ (put-here v.0 other s.tree _)));
      reports = λ d is v w it. subst (λ n. B (answers_bytes s 0 (status s.tree v.1.node)) (answers_bytes u 0 (status u.tree n))) (sym it.same.node) (left _);
      cuts = λ d n is v w it size. subst (λ n. B (CallRemainders.ftruncate_3 s pid me v.1 size) (CallRemainders.ftruncate_3 u pid me (record v.1 { node = n }) size)) (sym it.same.node)
          (all-then B all _ _ refl (CallRemainders.ftruncate_4 s pid me v.1 size) (CallRemainders.ftruncate_4 u pid me v.1 size) (room-shifted _ _ 0 (files-left _ s.processes s.last_process)));
      lists = λ d is v w it. with-other (λ v w. B (CallRemainders.getdents_2 s pid me v.0 v.1) (CallRemainders.getdents_2 u pid me w.0 w.1)) (TheCall.Getdents d) is refl d refl v w it (λ other. listed v.0 other v.1 _);
    }

    respects : Respects C program_of s u pid me me call
    respects = record {
      checks = kept-by-checks B all;
      processes = record {
        left = left;
        parent = refl;
        count = refl;
        last = refl;
        forks = done-in_both (shifts m g) (HasFile m) 0 _ _ _ (files-left s.tree _ (suc s.last_process));
        childless = refl;
        statuses = refl;
        reaps = λ n bytes. done-in_both (shifts m g) (HasFile m) 0 _ _ _ (files-left s.tree _ s.last_process);
      };
      own = record {
        enters = λ n. own 0 _;
        closes = λ d. own 0 _;
        free = refl;
        duplicates = λ d. both-have (λ v w. (n : ℕ) → B (answers (with_process s pid (record me { descriptors = with_number me.descriptors n (record { file = v.file; close_on_exec = false }) })) n)
            (answers (with_process u pid (record me { descriptors = with_number me.descriptors n (record { file = w.file; close_on_exec = false }) })) n)) (descriptor_at me d) (λ v is n. own n _);
        pledges = λ promises execpromises is. pledge-both B all s u pid me me refl refl (λ a b. own 0 _) promises execpromises;
        unveils = λ path permissions is. unveil-both B all s u pid me me refl refl (λ path. refl) (λ place. refl) (own 0 _) (λ table. own 0 _) path permissions;
        executes = λ path is. execve-both B all s u pid me me program_of walked (λ n. refl) (λ program. own 0 _) path;
      };
      files = files;
      tree = record {
        nodes = λ n. inl refl;
        contains = λ n d. refl;
        walked = walked;
        walked_twice = twice-alike B s u pid me me walked;
        stats = λ path is place found allowed n there. left _;
        lstats = λ path is place found allowed n there. left _;
        unlinks = λ p. done-shifted 0 _ _ (files-left _ s.processes s.last_process);
      };
      room = record {
        makes = λ w node walks here bare place found free p named. room-shifted _ _ 0 (files-left _ s.processes s.last_process);
        links = λ path new is place found free n p named. room-shifted _ _ 0 (files-left _ s.processes s.last_process);
        moves = λ path new is old_place new_place old_found found n p q there old_named named other. room-shifted _ _ 0 (files-left _ s.processes s.last_process);
        opens = λ start path flags place it n is. made flags n _;
        creates = λ start path flags place it p named is. made flags _ _;
      };
    }

    pub calls-shifted : B (effect program_of s pid me call) (effect program_of u pid me call)
    calls-shifted = call-both C program_of s u pid me me call respects

-- ---- steps

module _ (m : ℕ) (g : OpenFile → OpenFile) (same : (f : OpenFile) → IsSameFile f (g f)) (program_of : Bytes → Option Program) (s : State) (pid : ℕ) (there : HasFile m s) (apart : ¬ DependsOnOffset s pid m) where
  -- a call that uses an open file names it
  another : (p : Process) (call : Call) → process_at s pid ≡ Some p → next p ≡ calls_for call → GoesByOther m g same (at_call s pid p) pid (at_next_line p) there call
  another p call at comes by d own k f is here =
      apart (record {
        named = record { p = p; call = call; d = d; file = f; at = at; next_is = comes; own = own; opened = is ∙ ap (λ n. Some (n, f)) here };
        by = by;
      })

  pub step-shifted : SteppedPair (shifts m g) (step program_of s pid) (step program_of (with_file_change s m g) pid)
  step-shifted =
      step-in_both (shifts m g) (HasFile m) pid (shift-apart g same m pid) program_of s there (λ p call at comes.
      calls-shifted m g same (at_call s pid p) pid (at_next_line p) there program_of call (another p call at comes))

pub offsets-alter-nothing : (program_of : Bytes → Option Program) (s : State) (pid k : ℕ) (g : OpenFile → OpenFile) → ((f : OpenFile) → IsSameFile f (g f)) → is_some (at_number s.files k) ≡ true → ¬ DependsOnOffset s pid k
    → StepsWithOtherFile k g (step program_of s pid) (step program_of (with_file_change s k g) pid)
offsets-alter-nothing program_of s pid k g same there apart =
    let beside = step-shifted k g same program_of s pid there apart in
    record { outcome = beside.outcome; lines = beside.lines; after = beside.after }
