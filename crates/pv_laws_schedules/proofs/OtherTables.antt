-- A step with another table that references the same directories, and decides the same about the walks that are made, has the
-- same lines.
use Rattle.std.proofs.Common.{◌≡◌, ◌∙◌, sym, ap, ap₂, subst, refl, ℕ, suc, ◌+◌, ◌≤◌, ℤ, pos, negsuc, Bool, true, false, ◌||◌, not, ◌==◌, if◌then◌else◌, cond, nat_le, nat_lt, List, [], ◌∷◌, length, drop, take, Option, None, Some, is_some, Ok, Err, arith}
use Rattle.std.specs.FinMap.Entries.{put, where_key}
use Rattle.std.proofs.Math.Seq.{take-nil}
use Rattle.std.proofs.lemmas.List.{take_at}
use Rattle.std.specs.Ordering.{nat_cmp}
use Rattle.pv_model.specs.declared.call.Call.{Call}
use Rattle.pv_model.specs.declared.call.Call.TheVariants as TheCall
use Rattle.pv_model.specs.declared.call.Start.{Start}
use Rattle.pv_model.specs.declared.call.Start.TheVariants.{WorkingDirectory, Descriptor as AtDescriptor}
use Rattle.pv_model.specs.declared.errno.Errno.{Errno}
use Rattle.pv_model.specs.declared.errno.Errno.TheVariants.{EAGAIN, ECHILD, EFBIG, EINVAL, EMFILE, ENAMETOOLONG, ENFILE, ENOENT, ENOSPC, ENOSYS}
use Rattle.pv_model.specs.declared.judgement.Judgement.{Judgement}
use Rattle.pv_model.specs.declared.judgement.Judgement.TheVariants.{Allowed, Hidden, Denied}
use Rattle.pv_model.specs.declared.open_flags.OpenFlags.{OpenFlags}
use Rattle.pv_model.specs.declared.outcome.Cause.{Cause}
use Rattle.pv_model.specs.declared.outcome.Cause.TheVariants.{Promise as ByPromise}
use Rattle.pv_model.specs.declared.outcome.Outcome.{Outcome}
use Rattle.pv_model.specs.declared.outcome.Outcome.TheVariants.{Value, Text, Killed}
use Rattle.pv_model.specs.declared.place.Place.{Place}
use Rattle.pv_model.specs.declared.promise.Promise.{Promise}
use Rattle.pv_model.specs.Answer.{answer_by_reply, answer_without_promise}
use Rattle.pv_model.specs.Calls.Paths.{make}
use Rattle.pv_model.specs.Machine.{Answered, answer, answer_of, answer_where, answer_by_attempt, at_next_line, effect, with_front, update_live, update, Attempt, done, refused, after_walks, ◌>>=◌, ◌>>◌, give, refuse_if, Bytes, is_empty, check_start, contradicts, open_at, open_node, ends_in_dot, link, rename, symlink, child, fork, children, statuses, reap, wait, pledge, with_result, end_process, Effect, Reply, returns, returns_bytes, ends, waits, answers, with_room, place_or_refusal, walk, judgement_or_refusal, judge, open_file_of, open_file, directory_of_file, start_directory, end_of, is_absolute, resolve, at_number, Descriptor, collect, is_too_long, fits, held_by_table, needs, least_free, Next, inside, calls_for, next, is_lenient, missing_promise, Numbered, OpenFile, Program, Process, ProcessRecord, live, State, process_at, with_process, Stepped, step, step_by, call_lines, moved_words, gave, gio_word, buffer_of, Node, directory_node, link_node, Tree, Table, judgement, Walked, begins_walk, Walk, open_walk, execve_walk, rename_walk, walks_of, walk_number, is_unveil}
use Rattle.pv_model.specs.Walks.{chdir_walk, stat_walk, lstat_walk, readlink_walk, mkdir_walk, symlink_walk, linked_walk, new_link_walk, unlink_walk, rmdir_walk}
use Rattle.pv_laws_states.specs.States.{IsValid}
use Rattle.pv_laws_states.proofs.CallRemainders
use Rattle.pv_laws_states.proofs.CallWalks.{begins-found}
use Rattle.pv_laws_states.proofs.ReferenceMembers.{found-live, live-found}
use Rattle.pv_laws_states.proofs.CallOutcomes.{at_call}
use Rattle.pv_laws_states.proofs.Processes.{process_at-same}
use Rattle.pv_laws_access.proofs.WalkDecisions.{walks_in}
use Rattle.pv_laws_access.proofs.ProcessesAfterEnds.{step-is}
use Rattle.pv_laws_steps.specs.Beside.{with_change, HasSameReferences}
use Rattle.pv_laws_steps.specs.Tableless.{is_by_descriptor, relabel}
use Rattle.pv_laws_steps.proofs.StepsOfOthers.{fits-found}
use Rattle.pv_laws_steps.proofs.ChangedProcess.{KeepsParent, changed, Fits, put-itself, length-changed, where-changed, lives-changed, children-changed, collect-changed, fits-put}
use Rattle.pv_laws_steps.proofs.CommutingSteps.{put-changes}
use Rattle.pv_laws_steps.proofs.ReportedParts.{lines_of}
use Rattle.pv_laws_steps.proofs.CallsWithOtherTables.{descriptors-ask-no_table}
use Rattle.pv_laws_answers.proofs.AskingCalls.{met-answer, walks-reported}
use Rattle.pv_laws_answers.proofs.OtherRestraints.{next-call}

-- ---- attempts with the same replies

module _ (k : ℕ) where
  -- for a reply with bytes the process is live in both states, or in neither
  abbrev Gives : Reply → State → State → Type 0
  Gives (returns_bytes n bytes) x y = is_some (process_at y k) ≡ is_some (process_at x k)
  Gives reply x y = Unit {0}

  abbrev LikeBy : Attempt Effect → Attempt Effect → Type 0
  LikeBy (done w (x, r)) b = (y : State) × (b ≡ done w (y, r)) × Gives r x y
  LikeBy (refused w e c) b = b ≡ refused w e c

  record Like (a b : Attempt Effect) : Type 0 where
    by : LikeBy a b

  like-after : (n : ℕ) (a b : Attempt Effect) → Like a b → Like (after_walks n a) (after_walks n b)
  like-after n (done w (x, r)) b is = record { by = (is.by.0, ap (after_walks n) is.by.1, is.by.2) }
  like-after n (refused w e c) b is = record { by = ap (after_walks n) is.by }

  like-bind : {B : Type 0} (a : Attempt B) (g h : B → Attempt Effect) → ((v : B) → Like (g v) (h v)) → Like (a >>= g) (a >>= h)
  like-bind (done w v) g h is = like-after w (g v) (h v) (is v)
  like-bind (refused w e c) g h is = record { by = refl }

  like-then : {B : Type 0} (a : Attempt B) (g h : Attempt Effect) → Like g h → Like (a >> g) (a >> h)
  like-then (done w v) g h is = like-after w g h is
  like-then (refused w e c) g h is = record { by = refl }

  like-cond : (b : Bool) (x y v w : Attempt Effect) → Like x v → Like y w → Like (cond b x y) (cond b v w)
  like-cond true x y v w is other = is
  like-cond false x y v w is other = other

  like-refused : (n : ℕ) (e : Errno) (c : Cause) → Like (refused n e c) (refused n e c)
  like-refused n e c = record { by = refl }

  like-returns : (n m : ℕ) (x y : State) → Like (done n (x, returns m)) (done n (y, returns m))
  like-returns n m x y = record { by = (y, refl, tt) }

  like-ends : (n m : ℕ) (x y : State) → Like (done n (x, ends m)) (done n (y, ends m))
  like-ends n m x y = record { by = (y, refl, tt) }

  like-waits : (n : ℕ) (x y : State) → Like (done n (x, waits)) (done n (y, waits))
  like-waits n x y = record { by = (y, refl, tt) }

  like-bytes : (n m : ℕ) (bytes : Bytes) (x y : State) → is_some (process_at y k) ≡ is_some (process_at x k) → Like (done n (x, returns_bytes m bytes)) (done n (y, returns_bytes m bytes))
  like-bytes n m bytes x y lives = record { by = (y, refl, lives) }

  -- states with the same tree after collection
  record HaveRoomAlike (x y : State) : Type 0 where
    same : (collect y).tree ≡ (collect x).tree

  abbrev if_room : Tree → State → ℕ → Attempt Effect
  if_room t x n = (refuse_if EFBIG (is_too_long t) >> (refuse_if ENOSPC (not (fits t)) >> give x)) >>= (λ roomy. answers roomy n)

  like-room : (x y : State) (n : ℕ) → HaveRoomAlike x y → Like (with_room x >>= (λ roomy. answers roomy n)) (with_room y >>= (λ roomy. answers roomy n))
  like-room x y n alike = subst (λ (t : Tree). Like (if_room (collect x).tree x n) (if_room t y n)) (sym alike.same) (by (is_too_long (collect x).tree) (fits (collect x).tree))
    where
      by : (long fit : Bool) → Like ((refuse_if EFBIG long >> (refuse_if ENOSPC (not fit) >> give x)) >>= (λ roomy. answers roomy n))
          ((refuse_if EFBIG long >> (refuse_if ENOSPC (not fit) >> give y)) >>= (λ roomy. answers roomy n))
      by true fit = record { by = refl }
      by false true = record { by = (y, refl, tt) }
      by false false = record { by = refl }

  -- ---- attempts that are equal if tables decide the same about the walks that are made

  -- J is assumed if a walk is made, and K if a second one is
  abbrev LikeIf : Type 0 → Type 0 → Attempt Effect → Attempt Effect → Type 0
  LikeIf J K a b = (1 ≤ walks_in a → J) → (2 ≤ walks_in a → K) → Like a b

  more-walks : (n : ℕ) (a : Attempt Effect) → walks_in (after_walks n a) ≡ n + walks_in a
  more-walks n (done w v) = refl
  more-walks n (refused w e c) = refl

  if-then : (J K : Type 0) {B : Type 0} (a : Attempt B) (g h : Attempt Effect) → LikeIf J K g h → LikeIf J K (a >> g) (a >> h)
  if-then J K (done w v) g h is j m = like-after w g h (is (λ le. j (omega (arith, more-walks w g, le))) (λ le. m (omega (arith, more-walks w g, le))))
  if-then J K (refused w e c) g h is j m = record { by = refl }

-- ---- calls

module _ (k : ℕ) (set : Table) (locked : Bool) where
  abbrev f : Process → Process
  f = relabel (Some set) locked

  keeps : KeepsParent f
  keeps = record { same = λ p. refl; whoever = λ p n. refl }

  module _ (s : State) (me : Process) (fit : Fits k f s.processes) (same : held_by_table (Some set) ≡ held_by_table me.table) where
    abbrev u : State
    u = with_change s k f

    abbrev you : Process
    you = f me

    abbrev B : Attempt Effect → Attempt Effect → Type 0
    B = Like k

    tree-room : (t : Tree) (fs : Numbered OpenFile) → HaveRoomAlike k (record s { tree = t; files = fs }) (record u { tree = t; files = fs })
    tree-room t fs = record { same = ap (λ (z : State). z.tree) (collect-changed k f (record s { tree = t; files = fs }) fit) }

    own-room : (t : Tree) (fs : Numbered OpenFile) (q : Process) → q.table ≡ me.table
        → HaveRoomAlike k (record s { tree = t; files = fs; processes = put nat_cmp k (live q) s.processes })
        (record u { tree = t; files = fs; processes = put nat_cmp k (live (f q)) (changed k f s.processes) })
    own-room t fs q mine = record {
      same =
          ap (λ (ps : List (ℕ × ProcessRecord)). (collect (record s { tree = t; files = fs; processes = ps })).tree) (put-itself k f q s.processes)
          ∙ ap (λ (z : State). z.tree)
          (collect-changed k f (record s { tree = t; files = fs; processes = put nat_cmp k (live q) s.processes })
          (fits-put k f k (live q) s.processes
          (λ p is here. let eq : q ≡ p = cc is in subst (λ (x : Process). HasSameReferences x (f x)) eq (record { directory = refl; descriptors = refl; held = same ∙ ap held_by_table (sym mine) })) fit));
    }

    lives : is_some (process_at u k) ≡ is_some (process_at s k)
    lives = lives-changed k f k s.processes

    stays : (n m : ℕ) (bytes : Bytes) → B (done n (s, returns_bytes m bytes)) (done n (u, returns_bytes m bytes))
    stays n m bytes = like-bytes k n m bytes s u lives

    ruleset parts = (like-bind, like-then, like-cond, like-returns, like-ends, like-waits, like-refused, like-room, tree-room, stays, refl)

    -- ---- calls without walks

    abbrev number : ℕ
    number = suc s.last_process

    fork-like : B (fork s k me) (fork u k you)
    fork-like =
        subst (λ n. B (fork s k me) (refuse_if EAGAIN (nat_le 32 n || nat_lt 99999 number) >> answers (record (with_process u number (child u k you)) { last_process = number }) number)) (sym (length-changed k f s.processes))
        (like-then k (refuse_if EAGAIN (nat_le 32 (length s.processes) || nat_lt 99999 number)) _ _ (like-returns k 0 number _ _))

    reap-like : (ss : List (ℕ × ℕ)) → B (reap s k me ss) (reap u k you ss)
    reap-like [] = like-waits k 0 s u
    reap-like ((n, status) ∷ rest) =
        like-bytes k 0 n _ _ _
        (ap (λ (ps : List (ℕ × ProcessRecord)). is_some (process_at (record s { processes = ps }) k)) (where-changed k f (λ j. not (j == n)) s.processes)
        ∙ lives-changed k f k (where_key nat_cmp (λ j. not (j == n)) s.processes))

    wait-like : B (wait s k me) (wait u k you)
    wait-like =
        let both = children-changed k f keeps k s.processes in
        subst (λ b. B (wait s k me) (refuse_if ECHILD b >> reap u k you (statuses (children u k you)))) (sym both.1)
        (like-then k (refuse_if ECHILD (is_empty (children s k me))) (reap s k me (statuses (children s k me))) (reap u k you (statuses (children u k you)))
        (subst (λ ss. B (reap s k me (statuses (children s k me))) (reap u k you ss)) (sym both.0) (reap-like (statuses (children s k me)))))

    pledge-like : (promises execpromises : Option Bytes) → B (pledge s k me promises execpromises) (pledge u k you promises execpromises)
    pledge-like promises execpromises = search parts depth 20

    -- ---- walks

    -- the tables decide the same about the place where a walk ends
    abbrev DecideAlike : Walk → Type 0
    DecideAlike w = (place : Place) → end_of s me w ≡ Ok place → judgement s.tree (Some set) place w.needed ≡ judgement s.tree me.table place w.needed

    opened-of : (o : Option Descriptor) → open_file_of u o ≡ open_file_of s o
    opened-of None = refl
    opened-of (Some d) = refl

    opened-same : (d : ℤ) → open_file u you d ≡ open_file s me d
    opened-same (pos d) = opened-of (at_number me.descriptors d)
    opened-same (negsuc d) = refl

    directory-same : (o : Option (ℕ × OpenFile)) → directory_of_file you o ≡ directory_of_file me o
    directory-same None = refl
    directory-same (Some file) = refl

    start-same : (start : Start) (path : Bytes) → start_directory u you start path ≡ start_directory s me start path
    start-same WorkingDirectory path = refl
    start-same (AtDescriptor d) path = ap (λ n. if is_absolute path then me.directory else n) (directory-same (open_file u you d) ∙ ap (directory_of_file me) (opened-same d))

    end-same : (w : Walk) → end_of u you w ≡ end_of s me w
    end-same w = ap (λ n. resolve s.tree w.follow n w.path) (start-same w.start w.path)

    module _ (w : Walk) (K : Type 0) (g h : Place → Attempt Effect) (rest : (place : Place) → LikeIf k K (Unit {0}) (g place) (h place)) where
      abbrev here : Walked → Attempt Effect
      here r = place_or_refusal (if begins_walk w.path then 1 else 0) r >>= (λ place. judge s me w place >> g place)

      abbrev there : Walked → Attempt Effect
      there r = place_or_refusal (if begins_walk w.path then 1 else 0) r >>= (λ place. judge u you w place >> h place)

      abbrev begun : Judgement → Attempt Effect → Attempt Effect
      begun j a = after_walks 1 (judgement_or_refusal j >> a)

      judged : (place : Place) (i j : Judgement) → i ≡ j → (2 ≤ walks_in (begun j (g place)) → K) → B (begun j (g place)) (begun i (h place))
      judged place i Allowed same m =
          subst (λ (x : Judgement). B (begun Allowed (g place)) (begun x (h place))) (sym same)
          (like-after k 1 _ _ (like-after k 0 _ _
          (rest place (λ le. m (omega (arith, more-walks k 1 (after_walks 0 (g place)), more-walks k 0 (g place), le))) (λ le. tt))))
      judged place i Hidden same m = record { by = ap (λ (x : Judgement). begun x (h place)) same }
      judged place i (Denied n) same m = record { by = ap (λ (x : Judgement). begun x (h place)) same }

      one-more : (a : Attempt Effect) → 1 ≤ walks_in (after_walks 1 a)
      one-more a = omega (arith, more-walks k 1 a)

      by-end : (r : Walked) → end_of s me w ≡ r → LikeIf k (DecideAlike w) K (here r) (there r)
      by-end (Err e) led = λ j m. record { by = refl }
      by-end (Ok place) led =
          subst (λ (b : Bool). LikeIf k (DecideAlike w) K (after_walks (if b then 1 else 0) (judgement_or_refusal (judgement s.tree me.table place w.needed) >> g place))
          (after_walks (if b then 1 else 0) (judgement_or_refusal (judgement s.tree (Some set) place w.needed) >> h place))) (sym (begins-found s.tree w.follow _ w.path place led))
          (λ j m. judged place (judgement s.tree (Some set) place w.needed) (judgement s.tree me.table place w.needed)
          (j (one-more (judgement_or_refusal (judgement s.tree me.table place w.needed) >> g place)) place led) m)

      walk-like : LikeIf k (DecideAlike w) K (walk s me w >>= (λ place. judge s me w place >> g place)) (walk u you w >>= (λ place. judge u you w place >> h place))
      walk-like = subst (λ (r : Walked). LikeIf k (DecideAlike w) K (here (end_of s me w)) (there r)) (sym (end-same w)) (by-end (end_of s me w) refl)

    -- a call with one walk
    one-like : (w : Walk) (K : Type 0) (g h : Place → Attempt Effect) → ((place : Place) → B (g place) (h place))
        → LikeIf k (DecideAlike w) K (walk s me w >>= (λ place. judge s me w place >> g place)) (walk u you w >>= (λ place. judge u you w place >> h place))
    one-like w K g h rest = walk-like w K g h (λ place j m. rest place)

    -- ---- calls with walks

    opened : (flags : OpenFlags) (name : Option (ℕ × Bytes)) (node : Option ℕ) (n : ℕ)
        → B (open_node s k me flags name node >>= (λ after. with_room after >>= (λ roomy. answers roomy n))) (open_node u k you flags name node >>= (λ after. with_room after >>= (λ roomy. answers roomy n)))
    opened flags name (Some m) n = like-after k 0 _ _ (like-room k _ _ n (own-room _ _ _ refl))
    opened flags (Some (d, name)) None n = like-after k 0 _ _ (like-room k _ _ n (own-room _ _ _ refl))
    opened flags None None n = like-refused k 0 _ _

    open-rest : (flags : OpenFlags) (place : Place) → B (CallRemainders.open_1 s k me flags place) (CallRemainders.open_1 u k you flags place)
    open-rest flags place = search (like-then, opened) depth 40

    open-like : (start : Start) (path : Bytes) (flags : OpenFlags) → LikeIf k (DecideAlike (open_walk start path flags)) (Unit {0}) (open_at s k me start path flags) (open_at u k you start path flags)
    open-like start path flags =
        let J = DecideAlike (open_walk start path flags) in
        if-then k J (Unit {0}) (refuse_if EINVAL (contradicts flags)) _ _
        (if-then k J (Unit {0}) (check_start s k me start path) _ _
        (if-then k J (Unit {0}) (refuse_if EMFILE (nat_le 16 (least_free me.descriptors))) _ _
        (if-then k J (Unit {0}) (refuse_if ENFILE (nat_le 128 (least_free s.files))) _ _
        (one-like (open_walk start path flags) (Unit {0}) (CallRemainders.open_1 s k me flags) (CallRemainders.open_1 u k you flags) (open-rest flags)))))

    make-rest : (node : Node) (place : Place) → B (CallRemainders.make_1 s k me node place) (CallRemainders.make_1 u k you node place)
    make-rest node place = search parts depth 20

    make-like : (w : Walk) (node : Node) → LikeIf k (DecideAlike w) (Unit {0}) (make s k me w node) (make u k you w node)
    make-like w node = one-like w (Unit {0}) (CallRemainders.make_1 s k me node) (CallRemainders.make_1 u k you node) (make-rest node)

    symlink-like : (text path : Bytes) → LikeIf k (DecideAlike (symlink_walk path)) (Unit {0}) (symlink s k me text path) (symlink u k you text path)
    symlink-like text path =
        let J = DecideAlike (symlink_walk path) in
        if-then k J (Unit {0}) (refuse_if ENOENT (is_empty text)) _ _
        (if-then k J (Unit {0}) (refuse_if ENAMETOOLONG (nat_lt 1023 (length text))) _ _
        (make-like (symlink_walk path) (link_node text)))

    execve-rest : (program_of : Bytes → Option Program) (place : Place) → B (CallRemainders.execve_1 s k me program_of place) (CallRemainders.execve_1 u k you program_of place)
    execve-rest program_of place = search (like-bind, like-returns) depth 20

    chdir-rest : (place : Place) → B (CallRemainders.chdir_1 s k me place) (CallRemainders.chdir_1 u k you place)
    chdir-rest place = search (like-bind, like-then, like-returns) depth 20

    stat-rest : (place : Place) → B (CallRemainders.stat_1 s k me place) (CallRemainders.stat_1 u k you place)
    stat-rest place = search (like-bind, stays) depth 20

    readlink-rest : (place : Place) → B (CallRemainders.readlink_1 s k me place) (CallRemainders.readlink_1 u k you place)
    readlink-rest place = search (like-bind, stays) depth 20

    unlink-rest : (place : Place) → B (CallRemainders.unlink_1 s k me place) (CallRemainders.unlink_1 u k you place)
    unlink-rest place = search (like-bind, like-then, like-returns) depth 20

    rmdir-rest : (place : Place) → B (CallRemainders.rmdir_1 s k me place) (CallRemainders.rmdir_1 u k you place)
    rmdir-rest place = search (like-bind, like-then, like-returns) depth 20

    link-rest : (old new : Place) → B (CallRemainders.link_2 s k me old new) (CallRemainders.link_2 u k you old new)
    link-rest old new = search parts depth 30

    rename-rest : (old new : Place) → B (CallRemainders.rename_2 s k me old new) (CallRemainders.rename_2 u k you old new)
    rename-rest old new = search parts depth 40

    link-like : (path new : Bytes) → LikeIf k (DecideAlike (linked_walk path)) (DecideAlike (new_link_walk new)) (link s k me path new) (link u k you path new)
    link-like path new =
        walk-like (linked_walk path) (DecideAlike (new_link_walk new)) (CallRemainders.link_1 s k me new) (CallRemainders.link_1 u k you new)
        (λ place. one-like (new_link_walk new) (Unit {0}) (CallRemainders.link_2 s k me place) (CallRemainders.link_2 u k you place) (link-rest place))

    rename-like : (path new : Bytes) → LikeIf k (DecideAlike (rename_walk path)) (DecideAlike (rename_walk new)) (rename s k me path new) (rename u k you path new)
    rename-like path new =
        if-then k (DecideAlike (rename_walk path)) (DecideAlike (rename_walk new)) (refuse_if EINVAL (ends_in_dot path || ends_in_dot new)) _ _
        (walk-like (rename_walk path) (DecideAlike (rename_walk new)) (CallRemainders.rename_1 s k me new) (CallRemainders.rename_1 u k you new)
        (λ place. one-like (rename_walk new) (Unit {0}) (CallRemainders.rename_2 s k me place) (CallRemainders.rename_2 u k you place) (rename-rest place)))

    -- ---- all calls that use no descriptor, other than unveil

    abbrev DecideAt : Call → ℕ → Type 0
    DecideAt call n = (w : Walk) → walk_number (walks_of call) n ≡ Some w → DecideAlike w

    abbrev CallIsLike : (Bytes → Option Program) → Call → Type 0
    CallIsLike program_of call = LikeIf k (DecideAt call 1) (DecideAt call 2) (effect program_of s k me call) (effect program_of u k you call)

    calls-like : (program_of : Bytes → Option Program) (call : Call) → is_unveil call ≡ false → is_by_descriptor call ≡ false → CallIsLike program_of call
    unfolding effect
    calls-like program_of (TheCall.Exit code) plain other j m = like-ends k 0 _ s u
    calls-like program_of TheCall.GetPid plain other j m = like-returns k 0 _ s u
    calls-like program_of TheCall.GetPpid plain other j m = like-returns k 0 _ s u
    calls-like program_of TheCall.Fork plain other j m = fork-like
    calls-like program_of TheCall.Wait plain other j m = wait-like
    calls-like program_of (TheCall.Pledge promises execpromises) plain other j m = pledge-like promises execpromises
    calls-like program_of (TheCall.Unveil path permissions) plain other j m = cc plain
    calls-like program_of (TheCall.Execve path) plain other j m =
        one-like (execve_walk path) (Unit {0}) (CallRemainders.execve_1 s k me program_of) (CallRemainders.execve_1 u k you program_of) (execve-rest program_of) (λ le. j le (execve_walk path) refl) (λ le. tt)
    calls-like program_of (TheCall.Open path flags) plain other j m = open-like WorkingDirectory path flags (λ le. j le (open_walk WorkingDirectory path flags) refl) (λ le. tt)
    calls-like program_of (TheCall.OpenAt start path flags) plain other j m = open-like start path flags (λ le. j le (open_walk start path flags) refl) (λ le. tt)
    calls-like program_of (TheCall.Chdir path) plain other j m =
        one-like (chdir_walk path) (Unit {0}) (CallRemainders.chdir_1 s k me) (CallRemainders.chdir_1 u k you) chdir-rest (λ le. j le (chdir_walk path) refl) (λ le. tt)
    calls-like program_of (TheCall.Stat path) plain other j m =
        one-like (stat_walk path) (Unit {0}) (CallRemainders.stat_1 s k me) (CallRemainders.stat_1 u k you) stat-rest (λ le. j le (stat_walk path) refl) (λ le. tt)
    calls-like program_of (TheCall.Lstat path) plain other j m =
        one-like (lstat_walk path) (Unit {0}) (CallRemainders.stat_1 s k me) (CallRemainders.stat_1 u k you) stat-rest (λ le. j le (lstat_walk path) refl) (λ le. tt)
    calls-like program_of (TheCall.Readlink path) plain other j m =
        one-like (readlink_walk path) (Unit {0}) (CallRemainders.readlink_1 s k me) (CallRemainders.readlink_1 u k you) readlink-rest (λ le. j le (readlink_walk path) refl) (λ le. tt)
    calls-like program_of (TheCall.Mkdir path) plain other j m = make-like (mkdir_walk path) (directory_node []) (λ le. j le (mkdir_walk path) refl) (λ le. tt)
    calls-like program_of (TheCall.Symlink text path) plain other j m = symlink-like text path (λ le. j le (symlink_walk path) refl) (λ le. tt)
    calls-like program_of (TheCall.Link path new) plain other j m = link-like path new (λ le. j le (linked_walk path) refl) (λ le. m le (new_link_walk new) refl)
    calls-like program_of (TheCall.Unlink path) plain other j m =
        one-like (unlink_walk path) (Unit {0}) (CallRemainders.unlink_1 s k me) (CallRemainders.unlink_1 u k you) unlink-rest (λ le. j le (unlink_walk path) refl) (λ le. tt)
    calls-like program_of (TheCall.Rmdir path) plain other j m =
        if-then k (DecideAlike (rmdir_walk path)) (Unit {0}) (refuse_if EINVAL (ends_in_dot path)) _ _
        (one-like (rmdir_walk path) (Unit {0}) (CallRemainders.rmdir_1 s k me) (CallRemainders.rmdir_1 u k you) rmdir-rest)
        (λ le. j le (rmdir_walk path) refl) (λ le. tt)
    calls-like program_of (TheCall.Rename path new) plain other j m = rename-like path new (λ le. j le (rename_walk path) refl) (λ le. m le (rename_walk new) refl)
    calls-like program_of call plain other j m = cc other

-- ---- answers

module _ (k : ℕ) where
  -- the bytes that an outcome reports are the same
  abbrev GivenAlike : Outcome → State → State → Type 0
  GivenAlike (Text taken) x y = take taken.len (buffer_of (process_at y k)) ≡ take taken.len (buffer_of (process_at x k))
  GivenAlike outcome x y = Unit {0}

  record ReportAlike (a b : Answered) : Type 0 where
    outcome : b.outcome ≡ a.outcome
    walks : b.walks ≡ a.walks
    given : GivenAlike a.outcome a.after b.after

  module _ (n : ℕ) (bytes : Bytes) where
    abbrev g : Process → Process
    g p = with_front bytes (with_result p (pos n) 0)

    collected : (z : State) → process_at (collect z) k ≡ process_at z k
    unfolding collect
    collected z = refl

    front : (z : State) (o : Option Process) → process_at z k ≡ o → take (length bytes) (buffer_of (process_at (update_live z k g o) k)) ≡ (if is_some o then bytes else [])
    front z None at = ap (λ o. take (length bytes) (buffer_of o)) at ∙ take-nil {A = ℕ} (length bytes)
    front z (Some p) at = ap (λ o. take (length bytes) (buffer_of o)) (process_at-same z k (g p)) ∙ take_at bytes (drop (length bytes) p.buffer) (length bytes) refl

    given-same : (x y : State) → is_some (process_at y k) ≡ is_some (process_at x k)
        → take (length bytes) (buffer_of (process_at (collect (update y k g)) k)) ≡ take (length bytes) (buffer_of (process_at (collect (update x k g)) k))
    given-same x y lives =
        ap (λ o. take (length bytes) (buffer_of o)) (collected (update y k g)) ∙ front y (process_at y k) refl
        ∙ ap (λ (b : Bool). if b then bytes else []) lives
        ∙ sym (ap (λ o. take (length bytes) (buffer_of o)) (collected (update x k g)) ∙ front x (process_at x k) refl)

  module _ (before before' s s' : State) (me me' : Process) where
    reply-alike : (walks : ℕ) (r : Reply) (x y : State) → Gives k r x y → ReportAlike (answer_by_reply before s k me walks r x) (answer_by_reply before' s' k me' walks r y)
    reply-alike walks (returns n) x y given = record { outcome = refl; walks = refl; given = tt }
    reply-alike walks (returns_bytes n bytes) x y given = record { outcome = refl; walks = refl; given = given-same n bytes x y given }
    reply-alike walks (ends status) x y given = record { outcome = refl; walks = refl; given = tt }
    reply-alike walks waits x y given = record { outcome = refl; walks = refl; given = tt }

    attempt-alike : (a b : Attempt Effect) → Like k a b → ReportAlike (answer_by_attempt before s k me a) (answer_by_attempt before' s' k me' b)
    attempt-alike (done w (x, r)) b is =
        subst (λ (c : Attempt Effect). ReportAlike (answer_by_attempt before s k me (done w (x, r))) (answer_by_attempt before' s' k me' c)) (sym is.by.1) (reply-alike w r x is.by.0 is.by.2)
    attempt-alike (refused w e c) b is =
        subst (λ (d : Attempt Effect). ReportAlike (answer_by_attempt before s k me (refused w e c)) (answer_by_attempt before' s' k me' d)) (sym is.by) (record { outcome = refl; walks = refl; given = tt })

-- ---- steps

module _ (program_of : Bytes → Option Program) (s : State) (pid : ℕ) (p : Process) (set : Table) (at : process_at s pid ≡ Some p) (whole : IsValid s)
    (same : held_by_table (Some set) ≡ held_by_table p.table) where
  abbrev change : Process → Process
  change = relabel (Some set) p.locked

  abbrev q : Process
  q = record p { table = Some set }

  abbrev other : State
  other = with_process s pid q

  abbrev v : State
  v = with_change s pid change

  is-changed : other ≡ v
  is-changed = ap (λ (ps : List (ℕ × ProcessRecord)). record s { processes = ps }) (put-changes pid change s.processes p whole.processes.ascending (live-found s pid p at))

  at-v : process_at v pid ≡ Some q
  at-v = ap (λ (z : State). process_at z pid) (sym is-changed) ∙ process_at-same s pid q

  appears : HasSameReferences p (change p)
  appears = record { directory = refl; descriptors = refl; held = same }

  fit : Fits pid change s.processes
  fit =
      fits-found pid change s.processes whole.processes.ascending (λ y found.
      let both : Some y ≡ Some p = sym (found-live s pid y found) ∙ at in
      let eq : y ≡ p = cc both in
      subst (λ (z : Process). HasSameReferences z (change z)) (sym eq) appears)

  abbrev x : State
  x = at_call s pid p

  abbrev now : Process
  now = at_next_line p

  fit-x : Fits pid change x.processes
  fit-x =
      fits-put pid change pid (live now) s.processes
      (λ r is here. let eq : now ≡ r = cc is in subst (λ (z : Process). HasSameReferences z (change z)) eq (record { directory = refl; descriptors = refl; held = same })) fit

  abbrev y : State
  y = at_call v pid q

  y-is : y ≡ with_change x pid change
  y-is = ap (λ (ps : List (ℕ × ProcessRecord)). record s { processes = ps }) (put-itself pid change now s.processes)

  -- the tables decide the same about a walk that the call makes
  abbrev DecidesAlike : Call → Type 0
  DecidesAlike call =
      (n : ℕ) (w : Walk) (place : Place) → n ≤ (answer program_of s pid call).walks → walk_number (walks_of call) n ≡ Some w → end_of s p w ≡ Ok place
      → judgement s.tree (Some set) place w.needed ≡ judgement s.tree p.table place w.needed

  module _ (call : Call) where
    answer-lacks : (z : State) (r : Process) (a : Promise) → process_at z pid ≡ Some r → missing_promise r.promises (needs call) ≡ Some a
        → answer program_of z pid call ≡ answer_without_promise z (at_call z pid r) pid (at_next_line r) a
    unfolding answer
    answer-lacks z r a there lacks = ap (answer_of program_of z pid call) there ∙ ap (answer_where program_of z (at_call z pid r) pid (at_next_line r) call) lacks

    lacks-alike : (a : Promise) → ReportAlike pid (answer_without_promise s x pid now a) (answer_without_promise v y pid (at_next_line q) a)
    lacks-alike a = by (is_lenient p.promises)
      where
        by : (b : Bool)
            → ReportAlike pid (if b then answer_by_attempt s x pid now (refused 0 ENOSYS (ByPromise a)) else record { after = collect (end_process s pid now 6); outcome = Killed a; walks = 0 })
            (if b then answer_by_attempt v y pid (at_next_line q) (refused 0 ENOSYS (ByPromise a)) else record { after = collect (end_process v pid (at_next_line q) 6); outcome = Killed a; walks = 0 })
        by true = record { outcome = refl; walks = refl; given = tt }
        by false = record { outcome = refl; walks = refl; given = tt }

    module _ (plain : is_unveil call ≡ false) (by_walks : is_by_descriptor call ≡ false) (decide : DecidesAlike call) where
      effects-alike : missing_promise p.promises (needs call) ≡ None → Like pid (effect program_of x pid now call) (effect program_of y pid (at_next_line q) call)
      effects-alike met =
          subst (λ (z : State). Like pid (effect program_of x pid now call) (effect program_of z pid (at_next_line q) call)) (sym y-is)
          (calls-like pid set p.locked x now fit-x same program_of call plain by_walks (λ le w found place end. decide 1 w place (made le) found end) (λ le w found place end. decide 2 w place (made le) found end))
        where
          made : {n : ℕ} → n ≤ walks_in (effect program_of x pid now call) → n ≤ (answer program_of s pid call).walks
          made le = omega (arith, le, ap (λ (a : Answered). a.walks) (met-answer program_of s pid p call at met), walks-reported s x pid now (effect program_of x pid now call))

      answers-alike : ReportAlike pid (answer program_of s pid call) (answer program_of v pid call)
      answers-alike = by (missing_promise p.promises (needs call)) refl
        where
          by : (o : Option Promise) → missing_promise p.promises (needs call) ≡ o → ReportAlike pid (answer program_of s pid call) (answer program_of v pid call)
          by None met =
              subst (λ (a : Answered). ReportAlike pid a (answer program_of v pid call)) (sym (met-answer program_of s pid p call at met))
              (subst (ReportAlike pid (answer_by_attempt s x pid now (effect program_of x pid now call))) (sym (met-answer program_of v pid q call at-v met))
              (attempt-alike pid s v x y now (at_next_line q) (effect program_of x pid now call) (effect program_of y pid (at_next_line q) call) (effects-alike met)))
          by (Some a) lacks =
              subst (λ (b : Answered). ReportAlike pid b (answer program_of v pid call)) (sym (answer-lacks s p a at lacks))
              (subst (ReportAlike pid (answer_without_promise s x pid now a)) (sym (answer-lacks v q a at-v lacks)) (lacks-alike a))

    -- ---- lines

    moves-same : (a b : State) (o : Outcome) → GivenAlike pid o a b → moved_words b pid q call o ≡ moved_words a pid p call o
    moves-same a b o given = by call o given
      where
        by : (c : Call) (o : Outcome) → GivenAlike pid o a b → moved_words b pid q c o ≡ moved_words a pid p c o
        by c (Text taken) given = ap (λ (bs : Bytes). gio_word gave bs ∷ []) given
        by (TheCall.Write d n) (Value count) given = refl
        by c o given = refl

    lines-alike : (a b : Answered) → ReportAlike pid a b → call_lines pid q call b ≡ call_lines pid p call a
    unfolding call_lines
    lines-alike a b is =
        ap₂ (λ (o : Outcome) (walks : ℕ). lines_of pid call walks o (moved_words b.after pid q call o)) is.outcome is.walks
        ∙ ap (lines_of pid call a.walks a.outcome) (moves-same a.after b.after a.outcome is.given)

  -- ---- steps

  abbrev SameLines : Stepped → Stepped → Type 0
  SameLines a b = b.lines ≡ a.lines

  call-lines : (call : Call) → next p ≡ calls_for call → is_unveil call ≡ false → DecidesAlike call → SameLines (step program_of s pid) (step program_of v pid)
  call-lines call is plain decide = by (is_by_descriptor call) refl
    where
      by : (b : Bool) → is_by_descriptor call ≡ b → SameLines (step program_of s pid) (step program_of v pid)
      by true descriptor = (descriptors-ask-no_table pid (Some set) p.locked program_of s p call whole at is descriptor same).lines
      by false other =
          ap (λ (w : Stepped). w.lines) (step-is program_of v pid q at-v ∙ ap (step_by program_of v pid q) (next-call p p.promises (Some set) call is))
          ∙ lines-alike call (answer program_of s pid call) (answer program_of v pid call) (answers-alike call plain other decide)
          ∙ sym (ap (λ (w : Stepped). w.lines) (step-is program_of s pid p at ∙ ap (step_by program_of s pid p) is))

  steps-same : ((call : Call) → next p ≡ calls_for call → (is_unveil call ≡ false) × DecidesAlike call) → SameLines (step program_of s pid) (step program_of v pid)
  steps-same each = by (next p) refl (next q) refl
    where
      by : (n : Next) → next p ≡ n → (m : Next) → next q ≡ m → SameLines (step program_of s pid) (step program_of v pid)
      by (calls_for call) is m is' = let own = each call is in call-lines call is own.0 own.1
      by (inside r) is (calls_for call) is' =
          let back : next p ≡ calls_for call = next-call q p.promises p.table call is' in
          let no : inside r ≡ calls_for call = sym is ∙ back in cc no
      by (inside r) is (inside r') is' =
          ap (λ (w : Stepped). w.lines) (step-is program_of v pid q at-v ∙ ap (step_by program_of v pid q) is')
          ∙ sym (ap (λ (w : Stepped). w.lines) (step-is program_of s pid p at ∙ ap (step_by program_of s pid p) is))

  pub other-table_lines : ((call : Call) → next p ≡ calls_for call → (is_unveil call ≡ false) × DecidesAlike call)
      → (step program_of (with_process s pid q) pid).lines ≡ (step program_of s pid).lines
  other-table_lines each = ap (λ (z : State). (step program_of z pid).lines) is-changed ∙ steps-same each
