-- Each call makes its walks, and the table refuses it only at one of them.
use Rattle.std.proofs.Common.{◌≡◌, ℕ, zero, suc, ◌+◌, pos, Bool, true, false, not, ◌&&◌, if◌then◌else◌, nat_le, nat_lt, List, [], ◌∷◌, ◌++◌, length, ◌+ℤ◌, Option, None, Some, Result, Ok, Err, IsFalse, refl, ap, sym, subst, ◌∙◌, ◌⊎◌, inl, inr, ⊎_elim, arith}
use Rattle.std.proofs.lemmas.Bool.{ltb-false, le-leb}
use Rattle.pv_model.specs.declared.call.Call.{Call}
use Rattle.pv_model.specs.declared.call.Call.TheVariants as TheCall
use Rattle.pv_model.specs.declared.errno.Errno.{Errno}
use Rattle.pv_model.specs.declared.errno.Errno.TheVariants.{EPERM, ENOENT, EACCES, EISDIR, EINVAL, EFBIG, ENOSPC, ENAMETOOLONG, ENOEXEC, E2BIG}
use Rattle.pv_model.specs.declared.follow.Follow.{Follow}
use Rattle.pv_model.specs.declared.follow.Follow.TheVariants.{Last}
use Rattle.pv_model.specs.declared.judgement.Judgement.{Judgement}
use Rattle.pv_model.specs.declared.judgement.Judgement.TheVariants.{Allowed, Hidden, Denied}
use Rattle.pv_model.specs.declared.outcome.Cause.TheVariants.{Unveil as ByUnveil, Locked}
use Rattle.pv_model.specs.declared.outcome.Outcome.TheVariants.{Failed}
use Rattle.pv_model.specs.declared.perms.Perms.{Perms}
use Rattle.pv_model.specs.declared.place.Place.{Place}
use Rattle.pv_model.specs.declared.promise.Promise.{Promise}
use Rattle.pv_model.specs.Machine.{answer, answer_by_attempt, at_next_line, effect, Attempt, done, refused, after_walks, ◌>>=◌, ◌>>◌, give, refuse, refuse_if, demand, Bytes, is_empty, within, next_name, seek_base, list_name, is_past_greatest, write_end, read, executable_bytes, statuses, asked_promises, unless_refused, entries_of_table, refuse_if_locked, pledge, Effect, answers, place_or_refusal, walk, judgement_or_refusal, judge, end_of, with_room, node_of, descriptor_at, open_file, status, collect, needs, least_free, covers, read_permissions, Promises, narrow_promises, is_lenient, missing_promise, is_too_long, fits, OpenFile, Program, Process, State, reads, writes, process_at, with_process, Tree, root, node_at, entries_at, is_directory_at, Table, entry_for, permissions_at, with_permissions, target_of, judgement, Walked, components, is_absolute, begins_walk, follows_last, end_mark, resolve, Walk, execve_walk, unveil_walk, walks_of, walk_number, is_unveil, unveil, with_number}
use Rattle.pv_model.specs.Calls.Restraints.{add_table_entry}
use Rattle.pv_model.specs.Promises.{read_promises}
use Rattle.pv_model.specs.Walks.{permissions_or_none}
use Rattle.pv_laws_states.specs.Courses.{walks_in_sequence, IsAfter, IsStoppedEarly, IsOnCourse, IsRefusedAt, IsStoppedByTable, IsStoppedByLock}
use Rattle.pv_laws_states.proofs.CallOutcomes.{at_call, by_answer}
use Rattle.pv_laws_states.proofs.CallRemainders
use Rattle.pv_model.specs.declared.target.Target.{Target}
use Rattle.pv_laws_states.proofs.RelatedCalls.{AreOnSame, Respects, both-have, call-both}

-- ---- attempts that the table does not refuse

following-after : {A : Type 0} (m n : ℕ) (a : Attempt A) → IsAfter n a → IsAfter (m + n) (after_walks m a)
following-after m n (done walks value) is = ap (λ k. m + k) is
following-after m n (refused walks errno cause) is = (ap (λ k. m + k) is.0, is.1)

following-zero : {A : Type 0} (m : ℕ) (a : Attempt A) → m ≡ 0 → IsAfter 0 a → IsAfter 0 (after_walks m a)
following-zero m (done walks value) none is = omega (arith, none, is)
following-zero m (refused walks errno cause) none is = (omega (arith, none, is.0), is.1)

following-bind : {A B : Type 0} (a : Attempt B) (next : B → Attempt A) → IsAfter 0 a → ((value : B) → IsAfter 0 (next value)) → IsAfter 0 (a >>= next)
following-bind (done walks value) next is go = following-zero walks (next value) is (go value)
following-bind (refused walks errno cause) next is go = is

following-then : {A B : Type 0} (a : Attempt B) (next : Attempt A) → IsAfter 0 a → IsAfter 0 next → IsAfter 0 (a >> next)
following-then (done walks value) next is go = following-zero walks next is go
following-then (refused walks errno cause) next is go = is

following-if : (e : Errno) (b : Bool) → IsAfter 0 (refuse_if e b)
following-if e true = (refl, refl)
following-if e false = refl

following-demand : {B : Type 0} (e : Errno) (o : Option B) → IsAfter 0 (demand e o)
following-demand e None = (refl, refl)
following-demand e (Some value) = refl

-- after a check
tested : {A : Type 0} (e : Errno) (b : Bool) (next : Attempt A) → IsAfter 0 next → IsAfter 0 (refuse_if e b >> next)
tested e b next = following-then (refuse_if e b) next (following-if e b)

demanded : {A B : Type 0} (e : Errno) (o : Option B) (next : B → Attempt A) → ((value : B) → IsAfter 0 (next value)) → IsAfter 0 (demand e o >>= next)
demanded e o next = following-bind (demand e o) next (following-demand e o)

roomy : (s : State) (n : ℕ) → IsAfter 0 (with_room s >>= (λ after. answers after n))
roomy s n = following-bind (with_room s) (λ after. answers after n) (by (is_too_long (collect s).tree) (fits (collect s).tree)) (λ after. refl)
  where
    by : (long fit : Bool) → IsAfter 0 (refuse_if EFBIG long >> (refuse_if ENOSPC (not fit) >> give s))
    by long fit = tested EFBIG long (refuse_if ENOSPC (not fit) >> give s) (tested ENOSPC (not fit) (give s) refl)

following-asked : (text : Option Bytes) → IsAfter 0 (asked_promises text)
following-asked None = refl
following-asked (Some text) = demanded EINVAL (read_promises text) (λ set. give (Some set)) (λ set. refl)

following-narrowed : (r : Result (Option Promises) Promise) → IsAfter 0 (unless_refused r)
following-narrowed (Ok value) = refl
following-narrowed (Err p) = (refl, refl)

-- ---- attempts that make walks

abbrev Goes : Attempt (Unit {0}) → Attempt Effect → Type 0
Goes course a = IsStoppedEarly a ⊎ IsOnCourse course a

along-after : (n : ℕ) (course : Attempt (Unit {0})) (a : Attempt Effect) → IsOnCourse course a → IsOnCourse (after_walks n course) (after_walks n a)
along-after n (done walks value) a is = following-after n walks a is
along-after n (refused walks errno cause) a is = ap (after_walks n) is

goes-zero : (course : Attempt (Unit {0})) (m : ℕ) (a : Attempt Effect) → m ≡ 0 → Goes course a → Goes course (after_walks m a)
goes-zero course m (done walks value) none is = ⊎_elim (λ stopped. absurd stopped) (λ goes. inr (go course goes)) is
  where
    go : (c : Attempt (Unit {0})) → IsOnCourse c (done walks value) → IsOnCourse c (done (m + walks) value)
    go (done k v) is = omega (arith, none, is)
    go (refused k errno cause) is = cc is
goes-zero course m (refused walks errno cause) none is =
    ⊎_elim (λ stopped. inl (omega (arith, none, stopped.0), stopped.1)) (λ goes. inr (go course goes)) is
  where
    go : (c : Attempt (Unit {0})) → IsOnCourse c (refused walks errno cause) → IsOnCourse c (refused (m + walks) errno cause)
    go (done k v) is = (omega (arith, none, is.0), is.1)
    go (refused k e other) is = ap (λ n. refused n errno cause) (omega (arith, none)) ∙ is

module _ (s : State) (me : Process) where
  -- a walk whose place is checked, and the attempt after it
  walked_where : (w : Walk) (ws : List Walk) (next : Place → Attempt Effect)
      → ((place : Place) → end_of s me w ≡ Ok place → judgement s.tree me.table place w.needed ≡ Allowed → IsOnCourse (walks_in_sequence s me ws) (next place))
      → IsOnCourse (walks_in_sequence s me (w ∷ ws)) (walk s me w >>= (λ place. judge s me w place >> next place))
  walked_where w ws next is = by (end_of s me w) refl
    where
      judged : (place : Place) → end_of s me w ≡ Ok place → (j : Judgement) → judgement s.tree me.table place w.needed ≡ j → IsOnCourse (judgement_or_refusal j >> walks_in_sequence s me ws) (judgement_or_refusal j >> next place)
      judged place found Allowed may = along-after 0 (walks_in_sequence s me ws) (next place) (is place found may)
      judged place found Hidden may = refl
      judged place found (Denied k) may = refl

      by : (r : Walked) → end_of s me w ≡ r → IsOnCourse (place_or_refusal (if begins_walk w.path then 1 else 0) r >>= (λ place. judge s me w place >> walks_in_sequence s me ws))
          (place_or_refusal (if begins_walk w.path then 1 else 0) r >>= (λ place. judge s me w place >> next place))
      by (Ok place) found = along-after (if begins_walk w.path then 1 else 0) (judge s me w place >> walks_in_sequence s me ws) (judge s me w place >> next place) (judged place found (judgement s.tree me.table place w.needed) refl)
      by (Err e) found = refl

-- ---- each call

module _ (s : State) (pid : ℕ) (me : Process) where
  -- the attempt goes along the walks
  abbrev Along : List Walk → Attempt Effect → Attempt Effect → Type 0
  Along ws a b = Goes (walks_in_sequence s me ws) a

  settled : (a : Attempt Effect) → Goes (give tt) a → IsAfter 0 a
  settled (done walks value) is = ⊎_elim (λ stopped. absurd stopped) (λ still. still) is
  settled (refused walks errno cause) is = ⊎_elim (λ stopped. stopped) (λ still. still) is

  still-pledge : (promises execpromises : Option Bytes) → IsAfter 0 (pledge s pid me promises execpromises)
  still-pledge promises execpromises =
      following-bind (asked_promises promises) (CallRemainders.pledge_1 s pid me execpromises) (following-asked promises) (λ asked.
      following-bind (asked_promises execpromises) (CallRemainders.pledge_2 s pid me asked) (following-asked execpromises) (λ exec_asked.
      following-bind (unless_refused (narrow_promises (is_lenient me.promises) me.promises asked)) (CallRemainders.pledge_3 s pid me exec_asked) (following-narrowed _) (λ preserved.
      following-bind (unless_refused (narrow_promises (is_lenient me.promises) me.execpromises exec_asked))
      (λ exec_preserved. answers (with_process s pid (record me { promises = preserved; execpromises = exec_preserved })) 0) (following-narrowed _) (λ exec_preserved. refl))))

  still-execve : (program_of : Bytes → Option Program) (place : Place) → IsAfter 0 (CallRemainders.execve_1 s pid me program_of place)
  still-execve program_of place =
      demanded ENOENT (node_of place) (CallRemainders.execve_2 s pid me program_of) (λ n.
      demanded EACCES (executable_bytes (node_at s.tree n)) (CallRemainders.execve_3 s pid me program_of) (λ bytes.
      demanded ENOEXEC (program_of bytes) (CallRemainders.execve_4 s pid me) (λ program. refl)))

  still-listed : (k : ℕ) (file : OpenFile) (o : Option Bytes) → IsAfter 0 (list_name s pid me k file o)
  still-listed k file None = refl
  still-listed k file (Some name) = refl

  module _ (program_of : Bytes → Option Program) (call : Call) (other : IsFalse (is_unveil call)) where
    no_unveil : (path permissions : Option Bytes) → call ≡ TheCall.Unveil path permissions → Along (walks_of (TheCall.Unveil path permissions)) (unveil s pid me path permissions) (unveil s pid me path permissions)
    no_unveil path permissions is = let bad : true ≡ false = ap is_unveil (sym is) ∙ other in cc bad

    along : Respects Along program_of s s pid me me call
    along = record {
      checks = record { after = λ ws a b is. goes-zero (walks_in_sequence s me ws) 0 a refl is; refuses = λ ws e c plain. inl (refl, plain) };
      processes = record { left = λ r. inr refl; parent = refl; count = refl; last = refl; forks = inr refl; childless = refl; statuses = refl; reaps = λ n bytes. inr refl };
      own = record {
        enters = λ n. inr refl;
        closes = λ d. inr refl;
        free = refl;
        duplicates = λ d. both-have (λ v w. (n : ℕ) → Along [] (answers (with_process s pid (record me { descriptors = with_number me.descriptors n (record { file = v.file; close_on_exec = false }) })) n)
            (answers (with_process s pid (record me { descriptors = with_number me.descriptors n (record { file = w.file; close_on_exec = false }) })) n)) (descriptor_at me d) (λ v is n. inr refl);
        pledges = λ promises execpromises is. inr (still-pledge promises execpromises);
        unveils = no_unveil;
        executes = λ path is. inr (walked_where s me (execve_walk path) [] (CallRemainders.execve_1 s pid me program_of) (λ place found allowed. still-execve program_of place));
      };
      files = record {
        opened = λ d. both-have AreOnSame (open_file s me d) (λ v is. record { node = refl; mode = refl });
        full = refl;
        reads = λ d n is v w opened may count. inr (tested EISDIR (is_directory_at s.tree v.1.node) (CallRemainders.read_3 s pid me v.0 v.1 count) refl);
        writes = λ d n is v w opened may count few. inr (tested EFBIG (is_past_greatest s.tree (write_end s pid me v.1 count)) (CallRemainders.write_3 s pid me v.0 v.1 count) (roomy _ count));
        seeks = λ d by whence is v w opened. inr (demanded EINVAL (within 2147483647 (pos (seek_base s pid me v.1 whence) +ℤ by)) (CallRemainders.lseek_3 s pid me v.0 v.1) (λ offset. refl));
        reports = λ d is v w opened. inr refl;
        cuts = λ d n is v w opened size. inr (tested EFBIG (is_past_greatest s.tree size) (CallRemainders.ftruncate_4 s pid me v.1 size) (roomy _ 0));
        lists = λ d is v w opened. inr (still-listed v.0 v.1 (next_name v.1.listed (entries_at s.tree v.1.node)));
      };
      tree = record {
        nodes = λ n. inl refl;
        contains = λ n d. refl;
        walked = λ w g h is. inr (walked_where s me w [] g (λ place found allowed. settled (g place) (is place found allowed)));
        walked_twice = λ v w g h is. inr (walked_where s me v (w ∷ []) (λ p. walk s me w >>= (λ q. judge s me w q >> g p q)) (λ p found allowed.
            walked_where s me w [] (g p) (λ q later may. settled (g p q) (is p q found later))));
        stats = λ path is place found allowed n there. inr refl;
        lstats = λ path is place found allowed n there. inr refl;
        unlinks = λ p. inr refl;
      };
      room = record {
        makes = λ w node walks here bare place found free p named. inr (roomy _ 0);
        links = λ path new is place found free n p named. inr (roomy _ 0);
        moves = λ path new is old_place new_place old_found found n p q there old_named named apart. inr (roomy _ 0);
        opens = λ start path f place opens n is. inr (roomy _ (least_free me.descriptors));
        creates = λ start path f place opens p named is. inr (roomy _ (least_free me.descriptors));
      };
    }

pub calls-along : (program_of : Bytes → Option Program) (s : State) (pid : ℕ) (me : Process) (call : Call) → IsFalse (is_unveil call)
    → IsStoppedEarly (effect program_of s pid me call) ⊎ IsOnCourse (walks_in_sequence s me (walks_of call)) (effect program_of s pid me call)
calls-along program_of s pid me call other = call-both (Along s pid me) program_of s s pid me me call (along s pid me program_of call other)

-- ---- the place where a call is refused

pub begins-found : (t : Tree) (follow : Follow) (start : ℕ) (path : Bytes) (place : Place) → resolve t follow start path ≡ Ok place → begins_walk path ≡ true
unfolding resolve
begins-found t follow start path place is =
    by (Rattle.pv_model.specs.Walk.walk_with_links t (follows_last follow) 32 (components path) (end_mark follow path) (if is_absolute path then root else start)) (is_empty path) refl (nat_lt 1023 (length path)) refl is
  where
    by : (r : Walked) (a : Bool) → is_empty path ≡ a → (b : Bool) → nat_lt 1023 (length path) ≡ b → (if a then Err ENOENT else if b then Err ENAMETOOLONG else r) ≡ Ok place → begins_walk path ≡ true
    by r true empty b long is = cc is
    by r false some true long is = cc is
    by r false some false long is = ap (λ b. not b && nat_le (length path) 1023) some ∙ le-leb (length path) 1023 (ltb-false 1023 (length path) long)

module _ (s : State) (me : Process) where
  -- the walk where the table refuses
  abbrev StopsAt : List Walk → ℕ → Option ℕ → Type 0
  StopsAt ws walks entry = (w : Walk) × (place : Place) × (walk_number ws walks ≡ Some w) × (end_of s me w ≡ Ok place) × IsRefusedAt s me place w.needed entry

  later : (w : Walk) (ws : List Walk) (walks : ℕ) (entry : Option ℕ) → StopsAt ws walks entry → StopsAt (w ∷ ws) (suc walks) entry
  later w ws zero entry at = cc (at.2)
  later w ws (suc k) entry at = at

  abbrev Past : List Walk → Option ℕ → Type 0
  Past ws entry = (k : ℕ) (e : Errno) → walks_in_sequence s me ws ≡ refused k e (ByUnveil entry) → StopsAt ws k entry

  pub stops : (ws : List Walk) (walks : ℕ) (errno : Errno) (entry : Option ℕ) → walks_in_sequence s me ws ≡ refused walks errno (ByUnveil entry) → StopsAt ws walks entry
  stops [] walks errno entry is = cc is
  stops (w ∷ ws) walks errno entry is = by (λ k e refusal. stops ws k e entry refusal) (end_of s me w) refl is
    where
      judged : Past ws entry → (place : Place) → end_of s me w ≡ Ok place → (j : Judgement) → judgement s.tree me.table place w.needed ≡ j
          → after_walks 1 (judgement_or_refusal j >> walks_in_sequence s me ws) ≡ refused walks errno (ByUnveil entry) → StopsAt (w ∷ ws) walks entry
      judged following place found Allowed says is = on (walks_in_sequence s me ws) refl is
        where
          on : (a : Attempt (Unit {0})) → walks_in_sequence s me ws ≡ a → after_walks 1 (after_walks 0 a) ≡ refused walks errno (ByUnveil entry) → StopsAt (w ∷ ws) walks entry
          on (done k v) same is = cc is
          on (refused k e c) same is =
              let cause : c ≡ ByUnveil entry = cc is in
              let count : 1 + (0 + k) ≡ walks = cc is in
              let there = following k e (same ∙ ap (λ x. refused k e x) cause) in
              let number : suc k ≡ walks = omega (arith, count) in
              subst (λ n. StopsAt (w ∷ ws) n entry) number (later w ws k entry there)
      judged following place found Hidden says is =
          let count : 1 + 0 ≡ walks = cc is in
          let none : None ≡ entry = cc is in
          subst (λ o. StopsAt (w ∷ ws) walks o) none (subst (λ n. StopsAt (w ∷ ws) n None) count (w, place, refl, found, says))
      judged following place found (Denied k) says is =
          let count : 1 + 0 ≡ walks = cc is in
          let some : Some k ≡ entry = cc is in
          subst (λ o. StopsAt (w ∷ ws) walks o) some (subst (λ n. StopsAt (w ∷ ws) n (Some k)) count (w, place, refl, found, says))

      by : Past ws entry → (r : Walked) → end_of s me w ≡ r
          → (place_or_refusal (if begins_walk w.path then 1 else 0) r >>= (λ place. judge s me w place >> walks_in_sequence s me ws)) ≡ refused walks errno (ByUnveil entry) → StopsAt (w ∷ ws) walks entry
      by following (Err e) found is = cc is
      by following (Ok place) found is =
          judged following place found (judgement s.tree me.table place w.needed) refl
          (ap (λ b. after_walks (if b then 1 else 0) (judge s me w place >> walks_in_sequence s me ws)) (sym (begins-found s.tree w.follow _ w.path place found)) ∙ is)

module _ (s : State) (pid : ℕ) (me : Process) (call : Call) (entry : Option ℕ) where
  abbrev Stopped : ℕ → Type 0
  Stopped walks = IsStoppedByTable s me call walks entry

  stopped : (walks : ℕ) → StopsAt s me (walks_of call) walks entry → Stopped walks
  unfolding Rattle.pv_model.specs.Trace.asked_permissions
  stopped walks at = record {
    walk = at.0;
    place = at.1;
    last = at.2;
    end = at.3;
    decided = inl at.4;
    reported = ap Rattle.pv_model.specs.Trace.needed_by at.2;
  }

  -- each call other than unveil
  by_course : (a : Attempt Effect) (walks : ℕ) (errno : Errno) → a ≡ refused walks errno (ByUnveil entry)
      → IsStoppedEarly a ⊎ IsOnCourse (walks_in_sequence s me (walks_of call)) a → Stopped walks
  by_course a walks errno is goes =
      ⊎_elim (λ early. of_table (subst IsStoppedEarly is early).1) (λ way. on (walks_in_sequence s me (walks_of call)) refl (subst (IsOnCourse (walks_in_sequence s me (walks_of call))) is way)) goes
    where
      of_table : true ≡ false → Stopped walks
      of_table bad = cc bad

      on : (c : Attempt (Unit {0})) → walks_in_sequence s me (walks_of call) ≡ c → IsOnCourse c (refused walks errno (ByUnveil entry)) → Stopped walks
      on (done k v) same way = of_table way.1
      on (refused k e cause) same way =
          let count : walks ≡ k = cc way in
          let named : ByUnveil entry ≡ cause = cc way in
          subst Stopped (sym count) (stopped k (stops s me (walks_of call) k e entry (same ∙ ap (refused k e) (sym named))))

-- an unveil that would widen an entry
module _ (s : State) (pid : ℕ) (me : Process) (path text : Bytes) (entry : Option ℕ) (walks : ℕ) (errno : Errno) where
  abbrev IsRefusal : Attempt Effect → Type 0
  IsRefusal a = a ≡ refused walks errno (ByUnveil entry)

  abbrev Widens : Type 0
  Widens = IsStoppedByTable s me (TheCall.Unveil (Some path) (Some text)) walks entry

  abbrev entries : Table
  entries = entries_of_table me.table

  at_entry : (place : Place) → resolve s.tree Last me.directory path ≡ Ok place → (permissions : Perms) → read_permissions text ≡ Some permissions
      → (o : Option ℕ) → entry_for entries (target_of s.tree place) ≡ o
      → IsRefusal (after_walks 0 (after_walks 0 (after_walks 1 (add_table_entry entries (target_of s.tree place) permissions o >>= CallRemainders.unveil_3 s pid me)))) → Widens
  unfolding Rattle.pv_model.specs.Trace.asked_permissions
  at_entry place found permissions read None new is = by (nat_le 64 (length entries)) is
    where
      by : (b : Bool) → IsRefusal (after_walks 0 (after_walks 0 (after_walks 1 ((if b then refuse E2BIG else give (entries ++ (target_of s.tree place, permissions) ∷ [])) >>= CallRemainders.unveil_3 s pid me)))) → Widens
      by true is = cc is
      by false is = cc is
  at_entry place found permissions read (Some k) own is = by (covers (permissions_at entries k) permissions) refl is
    where
      by : (b : Bool) → covers (permissions_at entries k) permissions ≡ b
          → IsRefusal (after_walks 0 (after_walks 0 (after_walks 1 ((if b then give (with_permissions entries k (target_of s.tree place) permissions) else refused 0 EPERM (ByUnveil (Some k))) >>= CallRemainders.unveil_3 s pid me)))) → Widens
      by true lacks is = cc is
      by false lacks is =
          let count : 1 ≡ walks = cc is in
          let named : Some k ≡ entry = cc is in
          subst (λ o. IsStoppedByTable s me (TheCall.Unveil (Some path) (Some text)) walks o) named
          (subst (λ n. IsStoppedByTable s me (TheCall.Unveil (Some path) (Some text)) n (Some k)) count (record {
            walk = unveil_walk path (permissions_or_none (read_permissions text));
            place = place;
            last = refl;
            end = found;
            decided = inr (refl, own, ap (λ o. covers (permissions_at entries k) (permissions_or_none o)) read ∙ lacks);
            reported = refl;
          }))

  at_place : (permissions : Perms) → read_permissions text ≡ Some permissions → (r : Walked) → resolve s.tree Last me.directory path ≡ r
      → IsRefusal (after_walks 0 (after_walks 0 (place_or_refusal (if begins_walk path then 1 else 0) r >>= CallRemainders.unveil_2 s pid me permissions))) → Widens
  at_place permissions read (Err e) found is = cc is
  at_place permissions read (Ok place) found is =
      at_entry place found permissions read (entry_for entries (target_of s.tree place)) refl
      (ap (λ b. after_walks 0 (after_walks 0 (after_walks (if b then 1 else 0) (CallRemainders.unveil_2 s pid me permissions place)))) (sym (begins-found s.tree Last me.directory path place found)) ∙ is)

  at_lock : (permissions : Perms) → read_permissions text ≡ Some permissions → (locked : Bool)
      → IsRefusal (after_walks 0 (refuse_if_locked locked >> (walk s me (unveil_walk path permissions) >>= CallRemainders.unveil_2 s pid me permissions))) → Widens
  at_lock permissions read true is = cc is
  at_lock permissions read false is = at_place permissions read (resolve s.tree Last me.directory path) refl is

  widened : (o : Option Perms) → read_permissions text ≡ o → IsRefusal (demand EINVAL o >>= CallRemainders.unveil_1 s pid me path) → Widens
  widened None read is = cc is
  widened (Some permissions) read is = at_lock permissions read me.locked is

module _ (program_of : Bytes → Option Program) (s : State) (pid : ℕ) (entry : Option ℕ) where
  by_call : (me : Process) (call : Call) (walks : ℕ) (errno : Errno) → effect program_of s pid me call ≡ refused walks errno (ByUnveil entry) → IsStoppedByTable s me call walks entry
  unfolding effect
  by_call me (TheCall.Unveil None None) walks errno is = cc is
  by_call me (TheCall.Unveil None (Some text)) walks errno is = cc is
  by_call me (TheCall.Unveil (Some path) None) walks errno is = cc is
  by_call me (TheCall.Unveil (Some path) (Some text)) walks errno is = widened s pid me path text entry walks errno (read_permissions text) refl is
  by_call me call walks errno is = by_course s pid me call entry (effect program_of s pid me call) walks errno is (calls-along program_of s pid me call refl)

-- the process was at an earlier line before the call
before : (s : State) (pid : ℕ) (me : Process) (call : Call) (walks : ℕ) (entry : Option ℕ) → IsStoppedByTable (at_call s pid me) (at_next_line me) call walks entry → IsStoppedByTable s me call walks entry
before s pid me call walks entry is = record { walk = is.walk; place = is.place; last = is.last; end = is.end; decided = is.decided; reported = is.reported }

by_attempt : (s t : State) (pid : ℕ) (me p : Process) (call : Call) (errno : Errno) (entry : Option ℕ) (a : Attempt Effect)
    → ((walks : ℕ) (e : Errno) → a ≡ refused walks e (ByUnveil entry) → IsStoppedByTable s p call walks entry)
    → (answer_by_attempt s t pid me a).outcome ≡ Failed errno (ByUnveil entry) → IsStoppedByTable s p call (answer_by_attempt s t pid me a).walks entry
by_attempt s t pid me p call errno entry (done walks (after, Rattle.pv_model.specs.Effect.returns n)) stops is = cc is
by_attempt s t pid me p call errno entry (done walks (after, Rattle.pv_model.specs.Effect.returns_bytes n bytes)) stops is = cc is
by_attempt s t pid me p call errno entry (done walks (after, Rattle.pv_model.specs.Effect.ends status)) stops is = cc is
by_attempt s t pid me p call errno entry (done walks (after, Rattle.pv_model.specs.Effect.waits)) stops is = cc is
by_attempt s t pid me p call errno entry (refused walks e c) stops is = let cause : c ≡ ByUnveil entry = cc is in stops walks e (ap (refused walks e) cause)

pub refusals-named : (program_of : Bytes → Option Program) (s : State) (pid : ℕ) (me : Process) (call : Call) (errno : Errno) (entry : Option ℕ)
    → process_at s pid ≡ Some me → (answer program_of s pid call).outcome ≡ Failed errno (ByUnveil entry)
    → IsStoppedByTable s me call (answer program_of s pid call).walks entry
refusals-named program_of s pid me call errno entry at =
    by_answer (λ a. a.outcome ≡ Failed errno (ByUnveil entry) → IsStoppedByTable s me call a.walks entry) program_of s pid call
    (λ none is. cc)
    (λ p found missing is.
    let same : p ≡ me = cc in
    let a : Attempt Effect = effect program_of (at_call s pid p) pid (at_next_line p) call in
    subst (λ (y : Process). IsStoppedByTable s y call (answer_by_attempt s (at_call s pid p) pid (at_next_line p) a).walks entry) same
    (by_attempt s (at_call s pid p) pid (at_next_line p) p call errno entry a
    (λ walks e is. before s pid p call walks entry (by_call program_of (at_call s pid p) pid entry (at_next_line p) call walks e is)) is))
    (λ p lacks found missing lenient is. cc)
    (λ p lacks found missing lenient is. cc)

-- ---- the lock

module _ (s : State) (me : Process) where
  -- the lock refuses no walk
  pub along-free : (ws : List Walk) (walks : ℕ) (errno : Errno) → walks_in_sequence s me ws ≡ refused walks errno Locked → ⊥
  along-free [] walks errno is = cc is
  along-free (w ∷ ws) walks errno is = by (λ k e refusal. along-free ws k e refusal) (end_of s me w) is
    where
      judged : ((k : ℕ) (e : Errno) → walks_in_sequence s me ws ≡ refused k e Locked → ⊥) → (j : Judgement) (n : ℕ) → after_walks n (judgement_or_refusal j >> walks_in_sequence s me ws) ≡ refused walks errno Locked → ⊥
      judged following Allowed n is = on (walks_in_sequence s me ws) refl is
        where
          on : (a : Attempt (Unit {0})) → walks_in_sequence s me ws ≡ a → after_walks n (after_walks 0 a) ≡ refused walks errno Locked → ⊥
          on (done k v) same is = cc is
          on (refused k e c) same is = let cause : c ≡ Locked = cc is in following k e (same ∙ ap (refused k e) cause)
      judged following Hidden n is = cc is
      judged following (Denied k) n is = cc is

      by : ((k : ℕ) (e : Errno) → walks_in_sequence s me ws ≡ refused k e Locked → ⊥) → (r : Walked)
          → (place_or_refusal (if begins_walk w.path then 1 else 0) r >>= (λ place. judge s me w place >> walks_in_sequence s me ws)) ≡ refused walks errno Locked → ⊥
      by following (Err e) is = cc is
      by following (Ok place) is = judged following (judgement s.tree me.table place w.needed) (if begins_walk w.path then 1 else 0) is

module _ (s : State) (pid : ℕ) (me : Process) (path text : Bytes) (walks : ℕ) (errno : Errno) where
  abbrev IsLocked : Attempt Effect → Type 0
  IsLocked a = a ≡ refused walks errno Locked

  abbrev ByLock : Type 0
  ByLock = IsStoppedByLock me (TheCall.Unveil (Some path) (Some text)) errno

  free-entry : (n : ℕ) (table : Table) (target : Target) (permissions : Perms) (o : Option ℕ)
      → IsLocked (after_walks 0 (after_walks 0 (after_walks n (add_table_entry table target permissions o >>= CallRemainders.unveil_3 s pid me)))) → ByLock
  free-entry n table target permissions None is = by (nat_le 64 (length table)) is
    where
      by : (b : Bool) → IsLocked (after_walks 0 (after_walks 0 (after_walks n ((if b then refuse E2BIG else give (table ++ (target, permissions) ∷ [])) >>= CallRemainders.unveil_3 s pid me)))) → ByLock
      by true is = cc is
      by false is = cc is
  free-entry n table target permissions (Some k) is = by (covers (permissions_at table k) permissions) is
    where
      by : (b : Bool) → IsLocked (after_walks 0 (after_walks 0 (after_walks n ((if b then give (with_permissions table k target permissions) else refused 0 EPERM (ByUnveil (Some k))) >>= CallRemainders.unveil_3 s pid me)))) → ByLock
      by true is = cc is
      by false is = cc is

  free-place : (permissions : Perms) (r : Walked) → IsLocked (after_walks 0 (after_walks 0 (place_or_refusal (if begins_walk path then 1 else 0) r >>= CallRemainders.unveil_2 s pid me permissions))) → ByLock
  free-place permissions (Err e) is = cc is
  free-place permissions (Ok place) is =
      free-entry (if begins_walk path then 1 else 0) (entries_of_table me.table) (target_of s.tree place) permissions (entry_for (entries_of_table me.table) (target_of s.tree place)) is

  under-lock : (permissions : Perms) (locked : Bool) → me.locked ≡ locked → IsLocked (after_walks 0 (refuse_if_locked locked >> (walk s me (unveil_walk path permissions) >>= CallRemainders.unveil_2 s pid me permissions))) → ByLock
  under-lock permissions true lock is = let error : EPERM ≡ errno = cc is in record { locked = lock; unveils = refl; error = sym error }
  under-lock permissions false lock is = free-place permissions (resolve s.tree Last me.directory path) is

  locked-by : (o : Option Perms) → IsLocked (demand EINVAL o >>= CallRemainders.unveil_1 s pid me path) → ByLock
  locked-by None is = cc is
  locked-by (Some permissions) is = under-lock permissions me.locked refl is

module _ (program_of : Bytes → Option Program) (s : State) (pid : ℕ) where
  lock-course : (me : Process) (call : Call) (a : Attempt Effect) (walks : ℕ) (errno : Errno) → a ≡ refused walks errno Locked
      → IsStoppedEarly a ⊎ IsOnCourse (walks_in_sequence s me (walks_of call)) a → IsStoppedByLock me call errno
  lock-course me call a walks errno is goes =
      ⊎_elim (λ early. bad (subst IsStoppedEarly is early).1) (λ way. on (walks_in_sequence s me (walks_of call)) refl (subst (IsOnCourse (walks_in_sequence s me (walks_of call))) is way)) goes
    where
      bad : true ≡ false → IsStoppedByLock me call errno
      bad differ = cc differ

      on : (c : Attempt (Unit {0})) → walks_in_sequence s me (walks_of call) ≡ c → IsOnCourse c (refused walks errno Locked) → IsStoppedByLock me call errno
      on (done k v) same way = bad way.1
      on (refused k e cause) same way =
          let named : Locked ≡ cause = cc way in absurd (along-free s me (walks_of call) k e (same ∙ ap (refused k e) (sym named)))

  lock-call : (me : Process) (call : Call) (walks : ℕ) (errno : Errno) → effect program_of s pid me call ≡ refused walks errno Locked → IsStoppedByLock me call errno
  unfolding effect
  lock-call me (TheCall.Unveil None None) walks errno is = cc is
  lock-call me (TheCall.Unveil None (Some text)) walks errno is = cc is
  lock-call me (TheCall.Unveil (Some path) None) walks errno is = cc is
  lock-call me (TheCall.Unveil (Some path) (Some text)) walks errno is = locked-by s pid me path text walks errno (read_permissions text) is
  lock-call me call walks errno is = lock-course me call (effect program_of s pid me call) walks errno is (calls-along program_of s pid me call refl)

lock-attempt : (s t : State) (pid : ℕ) (me p : Process) (call : Call) (errno : Errno) (a : Attempt Effect)
    → ((walks : ℕ) → a ≡ refused walks errno Locked → IsStoppedByLock p call errno)
    → (answer_by_attempt s t pid me a).outcome ≡ Failed errno Locked → IsStoppedByLock p call errno
lock-attempt s t pid me p call errno (done walks (after, Rattle.pv_model.specs.Effect.returns n)) stops is = cc is
lock-attempt s t pid me p call errno (done walks (after, Rattle.pv_model.specs.Effect.returns_bytes n bytes)) stops is = cc is
lock-attempt s t pid me p call errno (done walks (after, Rattle.pv_model.specs.Effect.ends status)) stops is = cc is
lock-attempt s t pid me p call errno (done walks (after, Rattle.pv_model.specs.Effect.waits)) stops is = cc is
lock-attempt s t pid me p call errno (refused walks e c) stops is =
    let cause : c ≡ Locked = cc is in
    let error : e ≡ errno = cc is in
    stops walks (λ i. refused walks (error i) (cause i))

pub locks-named : (program_of : Bytes → Option Program) (s : State) (pid : ℕ) (me : Process) (call : Call) (errno : Errno)
    → process_at s pid ≡ Some me → (answer program_of s pid call).outcome ≡ Failed errno Locked → IsStoppedByLock me call errno
locks-named program_of s pid me call errno at =
    by_answer (λ a. a.outcome ≡ Failed errno Locked → IsStoppedByLock me call errno) program_of s pid call
    (λ none is. cc)
    (λ p found missing is.
    let same : p ≡ me = cc in
    subst (λ (y : Process). IsStoppedByLock y call errno) same
    (lock-attempt s (at_call s pid p) pid (at_next_line p) p call errno (effect program_of (at_call s pid p) pid (at_next_line p) call)
    (λ walks is. before-lock p call errno (lock-call program_of (at_call s pid p) pid (at_next_line p) call walks errno is)) is))
    (λ p lacks found missing lenient is. cc)
    (λ p lacks found missing lenient is. cc)
  where
    before-lock : (p : Process) (c : Call) (e : Errno) → IsStoppedByLock (at_next_line p) c e → IsStoppedByLock p c e
    before-lock p c e is = record { locked = is.locked; unveils = is.unveils; error = is.error }

pub lock-refuses : (program_of : Bytes → Option Program) (s : State) (pid : ℕ) (me : Process) (path text : Bytes) (permissions : Perms)
    → process_at s pid ≡ Some me → missing_promise me.promises (needs (TheCall.Unveil (Some path) (Some text))) ≡ None
    → me.locked ≡ true → read_permissions text ≡ Some permissions
    → (answer program_of s pid (TheCall.Unveil (Some path) (Some text))).outcome ≡ Failed EPERM Locked
unfolding answer effect
lock-refuses program_of s pid me path text permissions at held locked read = rw (at, held, read, locked) refl
