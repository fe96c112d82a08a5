-- How parts of a call respect a relation of attempts, if all checks respect it.
use Rattle.std.proofs.Common.{◌≡◌, ℕ, zero, suc, ℤ, pos, negsuc, Bool, true, false, not, ◌==◌, if◌then◌else◌, List, length, take, Option, None, Some, Ok, Err, refl, ap, sym, subst, inl}
use Rattle.std.specs.FinMap.Entries.{where_key}
use Rattle.std.specs.Ordering.{nat_cmp}
use Rattle.pv_model.specs.declared.call.Call.{Call}
use Rattle.pv_model.specs.declared.call.Call.TheVariants as TheCall
use Rattle.pv_model.specs.declared.call.Start.{Start}
use Rattle.pv_model.specs.declared.call.Start.TheVariants.{WorkingDirectory, Descriptor as AtDescriptor}
use Rattle.pv_model.specs.declared.errno.Errno.TheVariants.{EINVAL, ENOENT, EACCES, ENOEXEC}
use Rattle.pv_model.specs.declared.follow.Follow.TheVariants.{Last}
use Rattle.pv_model.specs.declared.judgement.Judgement.{Judgement}
use Rattle.pv_model.specs.declared.judgement.Judgement.TheVariants.{Allowed, Hidden, Denied}
use Rattle.pv_model.specs.declared.open_flags.OpenFlags.{OpenFlags}
use Rattle.pv_model.specs.declared.outcome.Cause.TheVariants.{Plain, Unveil as ByUnveil}
use Rattle.pv_model.specs.declared.perms.Perms.{Perms}
use Rattle.pv_model.specs.declared.place.Place.{Place}
use Rattle.pv_model.specs.Machine.{Attempt, done, ◌>>=◌, ◌>>◌, demand, Bytes, is_empty, without_descriptor, within, write_place, after_write, list_name, with_open_file, new_open_file, child, children, statuses, execve, with_program, executable_bytes, asked_promises, unless_refused, add_target, refuse_if_locked, pledge, unveil, Effect, Reply, returns, answers, answers_bytes, status, with_room, place_or_refusal, walk, judgement_or_refusal, judge, end_of, node_of, descriptor_at, open_file_of, open_file, start_directory, Numbered, at_number, with_number, least_free, read_permissions, Promises, narrow_promises, is_lenient, OpenFile, Descriptor, Program, Process, ProcessRecord, State, writes, with_process, node_at, Tree, Table, target_of, judgement, Walked, begins_walk, resolve, is_absolute, Walk, execve_walk}
use Rattle.pv_model.specs.Calls.Descriptors.{with_bytes_written}
use Rattle.pv_laws_states.proofs.CallRemainders
use Rattle.pv_laws_states.proofs.RelatedAttempts.{KeptByAll, kept-by-checks, all-bind, all-then}
use Rattle.pv_laws_states.proofs.RelatedCalls.{BothHave, both-have, AreOnSame, RespectsProcesses, RespectsOwn, RespectsFiles, RespectsTree, RespectsRoom, Respects, directory-alike, opened-same}

module _ (A : Attempt Effect → Attempt Effect → Type 0) (all : KeptByAll A) (s u : State) (pid : ℕ) (me you : Process) where
  -- ---- walks

  -- a walk that ends at the same place, with the same decision
  pub walked-alike : ((place : Place) (needed : Perms) → judgement u.tree you.table place needed ≡ judgement s.tree me.table place needed) → (w : Walk) → end_of u you w ≡ end_of s me w
      → (g h : Place → Attempt Effect) → ((place : Place) → end_of s me w ≡ Ok place → judgement s.tree me.table place w.needed ≡ Allowed → A (g place) (h place))
      → A (walk s me w >>= (λ place. judge s me w place >> g place)) (walk u you w >>= (λ place. judge u you w place >> h place))
  walked-alike judges w same g h is =
      let n : ℕ = if begins_walk w.path then 1 else 0 in
      subst (λ c. A (walk s me w >>= (λ place. judge s me w place >> g place)) (place_or_refusal n c >>= (λ place. judge u you w place >> h place))) (sym same) (by n (end_of s me w) refl)
    where
      judged : (place : Place) → end_of s me w ≡ Ok place → (j : Judgement) → judgement s.tree me.table place w.needed ≡ j → A (judgement_or_refusal j >> g place) (judgement_or_refusal j >> h place)
      judged place found Allowed allows = all.after 0 (g place) (h place) (is place found allows)
      judged place found Hidden hides = all.refuses 0 ENOENT (ByUnveil None)
      judged place found (Denied k) denies = all.refuses 0 EACCES (ByUnveil (Some k))

      by : (n : ℕ) (c : Walked) → end_of s me w ≡ c → A (place_or_refusal n c >>= (λ place. judge s me w place >> g place)) (place_or_refusal n c >>= (λ place. judge u you w place >> h place))
      by n (Ok place) found =
          all.after n (judge s me w place >> g place) (judge u you w place >> h place)
          (subst (λ j. A (judge s me w place >> g place) (judgement_or_refusal j >> h place)) (sym (judges place w.needed)) (judged place found (judgement s.tree me.table place w.needed) refl))
      by n (Err e) found = all.refuses n e Plain

  -- ---- restraints

  pub pledge-both : you.promises ≡ me.promises → you.execpromises ≡ me.execpromises
      → ((a b : Option Promises) → A (answers (with_process s pid (record me { promises = a; execpromises = b })) 0) (answers (with_process u pid (record you { promises = a; execpromises = b })) 0))
      → (promises execpromises : Option Bytes) → A (pledge s pid me promises execpromises) (pledge u pid you promises execpromises)
  pledge-both same exec_same gives promises execpromises =
      all-bind A all (asked_promises promises) (asked_promises promises) refl (CallRemainders.pledge_1 s pid me execpromises) (CallRemainders.pledge_1 u pid you execpromises) (λ asked.
      all-bind A all (asked_promises execpromises) (asked_promises execpromises) refl (CallRemainders.pledge_2 s pid me asked) (CallRemainders.pledge_2 u pid you asked) (λ exec_asked.
      all-bind A all (unless_refused (narrow_promises (is_lenient me.promises) me.promises asked)) (unless_refused (narrow_promises (is_lenient you.promises) you.promises asked))
      (ap (λ o. unless_refused (narrow_promises (is_lenient o) o asked)) same) (CallRemainders.pledge_3 s pid me exec_asked) (CallRemainders.pledge_3 u pid you exec_asked) (λ preserved.
      all-bind A all (unless_refused (narrow_promises (is_lenient me.promises) me.execpromises exec_asked)) (unless_refused (narrow_promises (is_lenient you.promises) you.execpromises exec_asked))
      (λ i. unless_refused (narrow_promises (is_lenient (same i)) (exec_same i) exec_asked))
      (λ exec_preserved. answers (with_process s pid (record me { promises = preserved; execpromises = exec_preserved })) 0)
      (λ exec_preserved. answers (with_process u pid (record you { promises = preserved; execpromises = exec_preserved })) 0) (λ exec_preserved. gives preserved exec_preserved))))

  pub unveil-both : you.locked ≡ me.locked → you.table ≡ me.table → ((path : Bytes) → resolve u.tree Last you.directory path ≡ resolve s.tree Last me.directory path) → ((place : Place) → target_of u.tree place ≡ target_of s.tree place)
      → A (answers (with_process s pid (record me { locked = true })) 0) (answers (with_process u pid (record you { locked = true })) 0)
      → ((table : Table) → A (answers (with_process s pid (record me { table = Some table })) 0) (answers (with_process u pid (record you { table = Some table })) 0))
      → (path permissions : Option Bytes) → A (unveil s pid me path permissions) (unveil u pid you path permissions)
  unveil-both lock_same table_same ends targets locks gives None None = locks
  unveil-both lock_same table_same ends targets locks gives None (Some text) = all.refuses 0 EINVAL Plain
  unveil-both lock_same table_same ends targets locks gives (Some path) None = all.refuses 0 EINVAL Plain
  unveil-both lock_same table_same ends targets locks gives (Some path) (Some text) =
      let n : ℕ = if begins_walk path then 1 else 0 in
      all-bind A all (demand EINVAL (read_permissions text)) (demand EINVAL (read_permissions text)) refl (CallRemainders.unveil_1 s pid me path) (CallRemainders.unveil_1 u pid you path) (λ permissions.
      all-then A all (refuse_if_locked me.locked) (refuse_if_locked you.locked) (ap refuse_if_locked lock_same)
      (place_or_refusal n (resolve s.tree Last me.directory path) >>= CallRemainders.unveil_2 s pid me permissions) (place_or_refusal n (resolve u.tree Last you.directory path) >>= CallRemainders.unveil_2 u pid you permissions)
      (all-bind A all (place_or_refusal n (resolve s.tree Last me.directory path)) (place_or_refusal n (resolve u.tree Last you.directory path)) (ap (place_or_refusal n) (ends path))
      (CallRemainders.unveil_2 s pid me permissions) (CallRemainders.unveil_2 u pid you permissions) (λ place.
      all-bind A all (add_target s pid me (target_of s.tree place) permissions) (add_target u pid you (target_of u.tree place) permissions)
      (λ i. add_target s pid (record me { table = table_same i }) (targets place i) permissions) (CallRemainders.unveil_3 s pid me) (CallRemainders.unveil_3 u pid you) gives)))

  -- the programs of files are the same
  pub execve-both : (program_of : Bytes → Option Program)
      → ((w : Walk) (g h : Place → Attempt Effect) → ((place : Place) → end_of s me w ≡ Ok place → judgement s.tree me.table place w.needed ≡ Allowed → A (g place) (h place))
      → A (walk s me w >>= (λ place. judge s me w place >> g place)) (walk u you w >>= (λ place. judge u you w place >> h place)))
      → ((n : ℕ) → executable_bytes (node_at u.tree n) ≡ executable_bytes (node_at s.tree n))
      → ((program : Program) → A (answers (with_process s pid (with_program s pid me program)) 0) (answers (with_process u pid (with_program u pid you program)) 0))
      → (path : Bytes) → A (execve s pid me program_of path) (execve u pid you program_of path)
  execve-both program_of walked bytes begins path =
      walked (execve_walk path) (CallRemainders.execve_1 s pid me program_of) (CallRemainders.execve_1 u pid you program_of) (λ place found allowed.
      all-bind A all (demand ENOENT (node_of place)) (demand ENOENT (node_of place)) refl (CallRemainders.execve_2 s pid me program_of) (CallRemainders.execve_2 u pid you program_of) (λ n.
      all-bind A all (demand EACCES (executable_bytes (node_at s.tree n))) (demand EACCES (executable_bytes (node_at u.tree n))) (ap (demand EACCES) (bytes n))
      (CallRemainders.execve_3 s pid me program_of) (CallRemainders.execve_3 u pid you program_of) (λ text.
      all-bind A all (demand ENOEXEC (program_of text)) (demand ENOEXEC (program_of text)) refl (CallRemainders.execve_4 s pid me) (CallRemainders.execve_4 u pid you) begins)))

-- two walks in sequence
pub twice-alike : (A : Attempt Effect → Attempt Effect → Type 0) (s u : State) (pid : ℕ) (me you : Process)
    → ((w : Walk) (g h : Place → Attempt Effect) → ((place : Place) → end_of s me w ≡ Ok place → judgement s.tree me.table place w.needed ≡ Allowed → A (g place) (h place))
    → A (walk s me w >>= (λ place. judge s me w place >> g place)) (walk u you w >>= (λ place. judge u you w place >> h place)))
    → (v w : Walk) (g h : Place → Place → Attempt Effect) → ((p q : Place) → end_of s me v ≡ Ok p → end_of s me w ≡ Ok q → A (g p q) (h p q))
    → A (walk s me v >>= (λ p. judge s me v p >> (walk s me w >>= (λ q. judge s me w q >> g p q)))) (walk u you v >>= (λ p. judge u you v p >> (walk u you w >>= (λ q. judge u you w q >> h p q))))
twice-alike A s u pid me you walked v w g h is =
    walked v (λ p. walk s me w >>= (λ q. judge s me w q >> g p q)) (λ p. walk u you w >>= (λ q. judge u you w q >> h p q)) (λ p found allowed.
    walked w (g p) (h p) (λ q later may. is p q found later))

-- walks start in the same directories if open files are on the same nodes
pub starts-alike : (s u : State) (me you : Process) → you.directory ≡ me.directory → ((d : ℤ) → BothHave AreOnSame (open_file s me d) (open_file u you d)) → (start : Start) (path : Bytes) → start_directory u you start path ≡ start_directory s me start path
starts-alike s u me you same opens WorkingDirectory path = same
starts-alike s u me you same opens (AtDescriptor d) path = λ i. if is_absolute path then same i else directory-alike me you same (open_file s me d) (open_file u you d) (opens d) i

-- ---- other processes, in the same tree with the same open files

-- the caller is the same except for its promises, its program, its registers and its buffer
pub record SameOutside (me you : Process) : Type 0 where
  pub directory : you.directory ≡ me.directory
  pub descriptors : you.descriptors ≡ me.descriptors
  pub table : you.table ≡ me.table
  pub locked : you.locked ≡ me.locked
  pub parent : you.parent ≡ me.parent

module _ (A : Attempt Effect → Attempt Effect → Type 0) (R : State → State → Type 0) (s : State) (ps : List (ℕ × ProcessRecord)) (pid : ℕ) (me you : Process) where
  abbrev pub other : State
  other = record s { processes = ps }

  -- calls leave related states
  pub record OthersRespect : Type 0 where
    pub all : KeptByAll A
    pub does : (n : ℕ) (r : Reply) (x y : State) → R x y → A (done n (x, r)) (done n (y, r))
    pub same : SameOutside me you
    pub left : (t : Tree) (fs : Numbered OpenFile) → R (record s { tree = t; files = fs }) (record other { tree = t; files = fs })
    pub count : length ps ≡ length s.processes
    pub forks : R (record (with_process s (suc s.last_process) (child s pid me)) { last_process = suc s.last_process }) (record (with_process other (suc s.last_process) (child other pid you)) { last_process = suc s.last_process })
    pub childless : is_empty (children other pid you) ≡ is_empty (children s pid me)
    pub statuses : statuses (children other pid you) ≡ statuses (children s pid me)
    pub reaps : (test : ℕ → Bool) → R (record s { processes = where_key nat_cmp test s.processes }) (record s { processes = where_key nat_cmp test ps })
    pub enters : (n : ℕ) → R (with_process s pid (record me { directory = n })) (with_process other pid (record you { directory = n }))
    pub holds : (t : Tree) (fs : Numbered OpenFile) (ds : Numbered Descriptor)
        → R (with_process (record s { tree = t; files = fs }) pid (record me { descriptors = ds })) (with_process (record other { tree = t; files = fs }) pid (record you { descriptors = ds }))

  module _ (o : OthersRespect) where
    abbrev B : List Walk → Attempt Effect → Attempt Effect → Type 0
    B ws = A

    -- the descriptors, and so the open files, are the same
    descriptor-same : (d : ℤ) → descriptor_at you d ≡ descriptor_at me d
    descriptor-same (pos d) = ap (λ ds. at_number ds d) o.same.descriptors
    descriptor-same (negsuc d) = refl

    file-same : (d : ℤ) → open_file other you d ≡ open_file s me d
    file-same d = ap (open_file_of s) (descriptor-same d)

    opens-same : (d : ℤ) → BothHave AreOnSame (open_file s me d) (open_file other you d)
    opens-same d = subst (BothHave AreOnSame (open_file s me d)) (sym (file-same d)) (both-have AreOnSame (open_file s me d) (λ v is. record { node = refl; mode = refl }))

    -- walks end at the same places, with the same decisions
    pub walked-same : (w : Walk) (g h : Place → Attempt Effect) → ((place : Place) → end_of s me w ≡ Ok place → judgement s.tree me.table place w.needed ≡ Allowed → A (g place) (h place))
        → A (walk s me w >>= (λ place. judge s me w place >> g place)) (walk other you w >>= (λ place. judge other you w place >> h place))
    walked-same w =
        walked-alike A o.all s other pid me you (λ place needed. ap (λ (t : Option Table). judgement s.tree t place needed) o.same.table) w
        (ap (λ n. resolve s.tree w.follow n w.path) (starts-alike s other me you o.same.directory opens-same w.start w.path))

    module _ (program_of : Bytes → Option Program) (call : Call) where
      pub others-processes : RespectsProcesses B program_of s other pid me you call
      others-processes = record {
        left = λ r. o.does 0 r s other (o.left s.tree s.files);
        parent = o.same.parent;
        count = o.count;
        last = refl;
        forks = o.does 0 _ _ _ o.forks;
        childless = o.childless;
        statuses = o.statuses;
        reaps = λ n bytes. o.does 0 _ _ _ (o.reaps (λ j. not (j == n)));
      }

      -- the descriptors are replaced
      held-both : (n : ℕ) (change : Numbered Descriptor → Numbered Descriptor) → A (answers (with_process s pid (record me { descriptors = change me.descriptors })) n) (answers (with_process other pid (record you { descriptors = change you.descriptors })) n)
      held-both n change =
          subst (λ ds. A (answers (with_process s pid (record me { descriptors = change me.descriptors })) n) (answers (with_process other pid (record you { descriptors = change ds })) n)) (sym o.same.descriptors)
          (o.does 0 (returns n) _ _ (o.holds s.tree s.files (change me.descriptors)))

      abbrev Doubles : Descriptor → Descriptor → Type 0
      Doubles v w =
          (n : ℕ) → A (answers (with_process s pid (record me { descriptors = with_number me.descriptors n (record { file = v.file; close_on_exec = false }) })) n)
          (answers (with_process other pid (record you { descriptors = with_number you.descriptors n (record { file = w.file; close_on_exec = false }) })) n)

      pub others-own : ((promises execpromises : Option Bytes) → call ≡ TheCall.Pledge promises execpromises → A (pledge s pid me promises execpromises) (pledge other pid you promises execpromises))
          → ((path permissions : Option Bytes) → call ≡ TheCall.Unveil path permissions → A (unveil s pid me path permissions) (unveil other pid you path permissions))
          → ((path : Bytes) → call ≡ TheCall.Execve path → A (execve s pid me program_of path) (execve other pid you program_of path)) → RespectsOwn B program_of s other pid me you call
      others-own pledges unveils executes = record {
        enters = λ n. o.does 0 (returns 0) _ _ (o.enters n);
        closes = λ d. held-both 0 (λ ds. without_descriptor ds d);
        free = ap least_free o.same.descriptors;
        duplicates = λ d. subst (BothHave Doubles (descriptor_at me d)) (sym (descriptor-same d)) (both-have Doubles (descriptor_at me d) (λ v is n. held-both n (λ ds. with_number ds n (record { file = v.file; close_on_exec = false }))));
        pledges = pledges;
        unveils = unveils;
        executes = executes;
      }

      pub others-tree : RespectsTree B program_of s other pid me you call
      others-tree = record {
        nodes = λ n. inl refl;
        contains = λ n d. refl;
        walked = walked-same;
        walked_twice = twice-alike A s other pid me you walked-same;
        stats = λ path is place found allowed n there. o.does 0 _ _ _ (o.left s.tree s.files);
        lstats = λ path is place found allowed n there. o.does 0 _ _ _ (o.left s.tree s.files);
        unlinks = λ p. o.does 0 _ _ _ (o.left _ s.files);
      }

      listed : (k : ℕ) (file : OpenFile) (name : Option Bytes) → A (list_name s pid me k file name) (list_name other pid you k file name)
      listed k file None = o.does 0 _ _ _ (o.left s.tree s.files)
      listed k file (Some name) = o.does 0 _ _ _ (o.left s.tree _)

      pub others-files : ((d n : ℤ) → call ≡ TheCall.Write d n → (k : ℕ) (file : OpenFile) → open_file s me d ≡ Some (k, file) → writes file.mode ≡ true → (count : ℕ) → within 4096 n ≡ Some count
          → A (CallRemainders.write_2 s pid me k file count) (CallRemainders.write_2 other pid you k file count))
          → ((d n : ℤ) → call ≡ TheCall.Ftruncate d n → (k : ℕ) (file : OpenFile) → open_file s me d ≡ Some (k, file) → (size : ℕ) → A (CallRemainders.ftruncate_3 s pid me file size) (CallRemainders.ftruncate_3 other pid you file size))
          → RespectsFiles B program_of s other pid me you call
      others-files written cut = record {
        opened = opens-same;
        full = refl;
        reads = λ d n is v w opened may count. opened-same B program_of s other pid me you call (λ v x. A (CallRemainders.read_2 s pid me v.0 v.1 count) (CallRemainders.read_2 other pid you x.0 x.1 count)) d v w (file-same d) opened
            (all-then A o.all _ _ refl (CallRemainders.read_3 s pid me v.0 v.1 count) (CallRemainders.read_3 other pid you v.0 v.1 count) (o.does 0 _ _ _ (o.left s.tree _)));
        writes = λ d n is v w opened may count few. opened-same B program_of s other pid me you call (λ v x. A (CallRemainders.write_2 s pid me v.0 v.1 count) (CallRemainders.write_2 other pid you x.0 x.1 count)) d v w (file-same d) opened
            (written d n is v.0 v.1 opened.here may count few);
        seeks = λ d by whence is v w opened. opened-same B program_of s other pid me you call (λ v x. A (CallRemainders.lseek_2 s pid me by whence v.0 v.1) (CallRemainders.lseek_2 other pid you by whence x.0 x.1)) d v w (file-same d) opened
            (all-bind A o.all _ _ refl (CallRemainders.lseek_3 s pid me v.0 v.1) (CallRemainders.lseek_3 other pid you v.0 v.1) (λ offset. o.does 0 _ _ _ (o.left s.tree _)));
        reports = λ d is v w opened. opened-same B program_of s other pid me you call (λ v x. A (answers_bytes s 0 (status s.tree v.1.node)) (answers_bytes other 0 (status s.tree x.1.node))) d v w (file-same d) opened (o.does 0 _ _ _ (o.left s.tree s.files));
        cuts = λ d n is v w opened size. opened-same B program_of s other pid me you call (λ v x. A (CallRemainders.ftruncate_3 s pid me v.1 size) (CallRemainders.ftruncate_3 other pid you x.1 size)) d v w (file-same d) opened (cut d n is v.0 v.1 opened.here size);
        lists = λ d is v w opened. opened-same B program_of s other pid me you call (λ v x. A (CallRemainders.getdents_2 s pid me v.0 v.1) (CallRemainders.getdents_2 other pid you x.0 x.1)) d v w (file-same d) opened (listed v.0 v.1 _);
      }

      -- ---- checks for room that have the same result in related states

      module _ (roomy : (x y : State) (n : ℕ) → R x y → A (with_room x >>= (λ z. answers z n)) (with_room y >>= (λ z. answers z n))) where
        opened-both : (f : OpenFlags) (n : ℕ) (t : Tree) → A (CallRemainders.open_7 s pid me (with_open_file s pid me f n t)) (CallRemainders.open_7 other pid you (with_open_file other pid you f n t))
        opened-both f n t =
            let fs : Numbered OpenFile = with_number s.files (least_free s.files) (new_open_file f n) in
            let more : Numbered Descriptor → Numbered Descriptor = λ ds. with_number ds (least_free ds) (record { file = least_free s.files; close_on_exec = f.close_on_exec }) in
            subst (λ ds. A (CallRemainders.open_7 s pid me (with_open_file s pid me f n t)) (with_room (with_process (record other { tree = t; files = fs }) pid (record you { descriptors = more ds })) >>= (λ z. answers z (least_free ds))))
            (sym o.same.descriptors) (roomy _ _ (least_free me.descriptors) (o.holds t fs (more me.descriptors)))

        pub others-room : RespectsRoom B program_of s other pid me you call
        others-room = record {
          makes = λ w node walks here bare place found free p named. roomy _ _ 0 (o.left _ s.files);
          links = λ path new is place found free n p named. roomy _ _ 0 (o.left _ s.files);
          moves = λ path new is old_place new_place old_found found n p q there old_named named other. roomy _ _ 0 (o.left _ s.files);
          opens = λ start path f place opens n is. opened-both f n _;
          creates = λ start path f place opens p named is. opened-both f _ _;
        }

        written-both : (k : ℕ) (file : OpenFile) (count : ℕ) → take count you.buffer ≡ take count me.buffer → R (after_write s pid me k file count) (after_write other pid you k file count)
        written-both k file zero same = o.left s.tree s.files
        written-both k file (suc n) same =
            subst (λ (xs : Bytes). R (after_write s pid me k file (suc n)) (with_bytes_written other pid you k file (write_place other pid you file) xs)) (sym same) (o.left _ _)

        -- a write has the same bytes
        pub others-files_roomy : ((d n : ℤ) → call ≡ TheCall.Write d n → (count : ℕ) → within 4096 n ≡ Some count → take count you.buffer ≡ take count me.buffer) → RespectsFiles B program_of s other pid me you call
        others-files_roomy takes =
            others-files
            (λ d n is k file here may count few.
            all-then A o.all _ _ refl (CallRemainders.write_3 s pid me k file count) (CallRemainders.write_3 other pid you k file count) (roomy _ _ count (written-both k file count (takes d n is count few))))
            (λ d n is k file here size. all-then A o.all _ _ refl (CallRemainders.ftruncate_4 s pid me file size) (CallRemainders.ftruncate_4 other pid you file size) (roomy _ _ 0 (o.left _ s.files)))

        -- all parts of the call respect the relation, if pledge, unveil and execve do
        pub others-respect : RespectsOwn B program_of s other pid me you call
            → ((d n : ℤ) → call ≡ TheCall.Write d n → (count : ℕ) → within 4096 n ≡ Some count → take count you.buffer ≡ take count me.buffer) → Respects B program_of s other pid me you call
        others-respect own takes = record { checks = kept-by-checks A o.all; processes = others-processes; own = own; files = others-files_roomy takes; tree = others-tree; room = others-room }

-- ---- the same caller

module _ (A : Attempt Effect → Attempt Effect → Type 0) (R : State → State → Type 0) (s : State) (ps : List (ℕ × ProcessRecord)) (pid : ℕ) (me : Process) (o : OthersRespect A R s ps pid me me)
    (puts : (q : Process) → R (with_process s pid q) (with_process (record s { processes = ps }) pid q)) (program_of : Bytes → Option Program) (call : Call) where
  put-both : (q : Process) → A (answers (with_process s pid q) 0) (answers (with_process (record s { processes = ps }) pid q) 0)
  put-both q = o.does 0 (returns 0) _ _ (puts q)

  pub same-own : RespectsOwn (λ ws. A) program_of s (record s { processes = ps }) pid me me call
  same-own =
      others-own A R s ps pid me me o program_of call
      (λ promises execpromises is. pledge-both A o.all s (record s { processes = ps }) pid me me refl refl (λ a b. put-both _) promises execpromises)
      (λ path permissions is. unveil-both A o.all s (record s { processes = ps }) pid me me refl refl (λ path. refl) (λ place. refl) (put-both _) (λ table. put-both _) path permissions)
      (λ path is. execve-both A o.all s (record s { processes = ps }) pid me me program_of (walked-same A R s ps pid me me o) (λ n. refl) (λ program. put-both _) path)
