-- The effects of a call in two states, for any relation of attempts that the parts of the call respect.
use Rattle.std.proofs.Common.{◌≡◌, ℕ, suc, ℤ, Bool, true, false, not, ◌&&◌, ◌||◌, ◌==◌, if◌then◌else◌, nat_le, nat_lt, List, [], ◌∷◌, length, Option, None, Some, is_some, is_none, option_and_then, Ok, IsFalse, refl, ap, ap₂, sym, subst, ◌∙◌, ◌⊎◌, ⊎_elim, arith}
use Rattle.std.specs.FinMap.Entries.{where_key}
use Rattle.std.specs.Ordering.{nat_cmp}
use Rattle.pv_model.specs.declared.call.Call.{Call}
use Rattle.pv_model.specs.declared.call.Call.TheVariants as TheCall
use Rattle.pv_model.specs.declared.call.Start.{Start}
use Rattle.pv_model.specs.declared.call.Start.TheVariants.{WorkingDirectory, Descriptor as AtDescriptor}
use Rattle.pv_model.specs.declared.call.Whence.{Whence}
use Rattle.pv_model.specs.declared.errno.Errno.{Errno}
use Rattle.pv_model.specs.declared.errno.Errno.TheVariants.{EPERM, ENOENT, EBADF, ENOTDIR, EINVAL, EMFILE, EISDIR, EBUSY, EEXIST, ENAMETOOLONG, ENOTEMPTY, ENFILE, ELOOP, EAGAIN, ECHILD}
use Rattle.pv_model.specs.declared.judgement.Judgement.TheVariants.{Allowed}
use Rattle.pv_model.specs.declared.open_flags.Mode.{Mode}
use Rattle.pv_model.specs.declared.open_flags.OpenFlags.{OpenFlags}
use Rattle.pv_model.specs.declared.outcome.Cause.TheVariants.{Plain}
use Rattle.pv_model.specs.declared.place.Place.{Place}
use Rattle.pv_model.specs.Machine.{effect, Attempt, done, refused, after_walks, ◌>>=◌, ◌>>◌, give, refuse_if, demand, Bytes, is_empty, without_descriptor, is_number, within, close, dup, dup2, fstat, fchdir, directory_of, open_file_for, read, lseek, getdents, natural, with_content, write, ftruncate, is_link, contradicts, with_open_file, open_node, open_at, check_start, link_text, chdir, stat_at, readlink, same_node, contains_directory, is_directory_there, entries_there, ends_in_dot, symlink, link, unlink, rmdir, move_entry, rename, statuses, children, child, fork, reap, wait, execve, pledge, unveil, Effect, Reply, returns, returns_bytes, waits, answers, answers_bytes, walk, judge, end_of, node_of, name_of, descriptor_at, open_file, directory_of_file, status, permission_r, OpenFile, Descriptor, Program, Process, State, reads, writes, with_process, with_number, least_free, Entries, Node, directory_node, file_node, link_node, node_at, entries_of, entries_at, is_directory, is_directory_at, new_number, with_new_node, judgement, is_absolute, Walk, open_walk, walks_of}
use Rattle.pv_model.specs.Bytes.{little_endian}
use Rattle.pv_model.specs.Calls.Descriptors.{if_mode}
use Rattle.pv_model.specs.Calls.Paths.{make}
use Rattle.pv_model.specs.Walks.{chdir_walk, stat_walk, lstat_walk, readlink_walk, mkdir_walk, symlink_walk, linked_walk, new_link_walk, unlink_walk, rmdir_walk, rename_walk}
use Rattle.pv_laws_states.specs.Courses.{IsAfter}
use Rattle.pv_laws_states.proofs.CallRemainders
use Rattle.pv_laws_states.proofs.RelatedAttempts.{KeptByChecks, bound, following, tested, demanded}

-- ---- nodes and open files in two states

-- both are present and related, or both are absent
abbrev pub BothHave : {A : Type 0} → (A → A → Type 0) → Option A → Option A → Type 0
BothHave R None None = Unit {0}
BothHave R None (Some w) = ⊥
BothHave R (Some v) None = ⊥
BothHave R (Some v) (Some w) = R v w

pub both-have : {A : Type 0} (R : A → A → Type 0) (o : Option A) → ((v : A) → o ≡ Some v → R v v) → BothHave R o o
both-have R None is = tt
both-have R (Some v) is = is v refl

-- two nodes are the same, or files that differ only in their bytes
abbrev pub AreNodesAlike : Option Node → Option Node → Type 0
AreNodesAlike o q = (q ≡ o) ⊎ ((executable : Bool) × (old : Bytes) × (new : Bytes) × (o ≡ Some (file_node executable old)) × (q ≡ Some (file_node executable new)))

-- a view of a node that ignores the bytes of a file is the same
pub view-alike : {V : Type 0} (view : Option Node → V) → ((executable : Bool) (old new : Bytes) → view (Some (file_node executable new)) ≡ view (Some (file_node executable old)))
    → (o q : Option Node) → AreNodesAlike o q → view q ≡ view o
view-alike view blind o q alike = ⊎_elim (λ same. ap view same) (λ files. ap view files.4 ∙ blind files.0 files.1 files.2 ∙ sym (ap view files.3)) alike

-- two open files are on the same node, in the same mode
pub record AreOnSame (v w : ℕ × OpenFile) : Type 0 where
  pub node : w.1.node ≡ v.1.node
  pub mode : w.1.mode ≡ v.1.mode

pub directory-alike : (me you : Process) → you.directory ≡ me.directory → (o q : Option (ℕ × OpenFile)) → BothHave AreOnSame o q → directory_of_file you q ≡ directory_of_file me o
directory-alike me you same None None both = same
directory-alike me you same None (Some w) both = absurd both
directory-alike me you same (Some v) None both = absurd both
directory-alike me you same (Some v) (Some w) both = both.node

-- ---- checks that begin no walk

pub still-directory_of : (s : State) (pid : ℕ) (me : Process) (d : ℤ) → IsAfter 0 (directory_of s pid me d)
still-directory_of s pid me d = by (open_file s me d)
  where
    of : (b : Bool) (n : ℕ) → IsAfter 0 (after_walks 0 (refuse_if ENOTDIR b >> give n))
    of true n = (refl, refl)
    of false n = refl

    by : (o : Option (ℕ × OpenFile)) → IsAfter 0 (demand EBADF o >>= CallRemainders.directory_of_1 s pid me)
    by None = (refl, refl)
    by (Some v) = of (not (is_directory_at s.tree v.1.node)) v.1.node

pub still-start : (s : State) (pid : ℕ) (me : Process) (start : Start) (path : Bytes) → IsAfter 0 (check_start s pid me start path)
still-start s pid me WorkingDirectory path = refl
still-start s pid me (AtDescriptor d) path = by (is_absolute path)
  where
    of : (a : Attempt ℕ) → IsAfter 0 a → IsAfter 0 (a >> give (tt {0}))
    of (done w v) still = omega (arith, still)
    of (refused w e c) still = still

    by : (b : Bool) → IsAfter 0 (if b then give (tt {0}) else directory_of s pid me d >> give (tt {0}))
    by true = refl
    by false = of (directory_of s pid me d) (still-directory_of s pid me d)

-- ---- the conditions on the parts of a call

module _ (B : List Walk → Attempt Effect → Attempt Effect → Type 0) (program_of : Bytes → Option Program) (s u : State) (pid : ℕ) (me you : Process) (call : Call) where
  -- the same reply in two states
  abbrev pub Leaves : State → State → Reply → Type 0
  Leaves x y r = B [] (done 0 (x, r)) (done 0 (y, r))

  -- an open whose walk ends at a place, with a free number for the open file
  pub record OpensAt (start : Start) (path : Bytes) (f : OpenFlags) (place : Place) : Type 0 where
    pub walks : walks_of call ≡ open_walk start path f ∷ []
    pub begun : check_start s pid me start path ≡ done 0 tt
    pub found : end_of s me (open_walk start path f) ≡ Ok place
    pub free : IsFalse (nat_le 128 (least_free s.files))

  -- an open file of the caller, in both states
  pub record Opened (d : ℤ) (v w : ℕ × OpenFile) : Type 0 where
    pub here : open_file s me d ≡ Some v
    pub there : open_file u you d ≡ Some w
    pub same : AreOnSame v w

  -- an open file that is the same in both states
  pub opened-same : (P : ℕ × OpenFile → ℕ × OpenFile → Type 0) (d : ℤ) (v w : ℕ × OpenFile) → open_file u you d ≡ open_file s me d → Opened d v w → P v v → P v w
  opened-same P d v w same opened is = let both : Some v ≡ Some w = sym (same ∙ opened.here) ∙ opened.there in let one : v ≡ w = cc both in subst (P v) one is

  pub record RespectsProcesses : Type 0 where
    pub left : (r : Reply) → Leaves s u r
    pub parent : you.parent ≡ me.parent
    pub count : length u.processes ≡ length s.processes
    pub last : u.last_process ≡ s.last_process
    pub forks : Leaves (record (with_process s (suc s.last_process) (child s pid me)) { last_process = suc s.last_process }) (record (with_process u (suc s.last_process) (child u pid you)) { last_process = suc s.last_process })
        (returns (suc s.last_process))
    pub childless : is_empty (children u pid you) ≡ is_empty (children s pid me)
    pub statuses : statuses (children u pid you) ≡ statuses (children s pid me)
    pub reaps : (n : ℕ) (bytes : Bytes) → Leaves (record s { processes = where_key nat_cmp (λ other. not (other == n)) s.processes }) (record u { processes = where_key nat_cmp (λ other. not (other == n)) u.processes }) (returns_bytes n bytes)

  pub record RespectsOwn : Type 0 where
    pub enters : (n : ℕ) → Leaves (with_process s pid (record me { directory = n })) (with_process u pid (record you { directory = n })) (returns 0)
    pub closes : (d : ℤ) → Leaves (with_process s pid (record me { descriptors = without_descriptor me.descriptors d })) (with_process u pid (record you { descriptors = without_descriptor you.descriptors d })) (returns 0)
    pub free : least_free you.descriptors ≡ least_free me.descriptors
    pub duplicates : (d : ℤ)
        → BothHave (λ v w. (n : ℕ) → Leaves (with_process s pid (record me { descriptors = with_number me.descriptors n (record { file = v.file; close_on_exec = false }) }))
        (with_process u pid (record you { descriptors = with_number you.descriptors n (record { file = w.file; close_on_exec = false }) })) (returns n))
        (descriptor_at me d) (descriptor_at you d)
    pub pledges : (promises execpromises : Option Bytes) → call ≡ TheCall.Pledge promises execpromises → B [] (pledge s pid me promises execpromises) (pledge u pid you promises execpromises)
    pub unveils : (path permissions : Option Bytes) → call ≡ TheCall.Unveil path permissions → B (walks_of (TheCall.Unveil path permissions)) (unveil s pid me path permissions) (unveil u pid you path permissions)
    pub executes : (path : Bytes) → call ≡ TheCall.Execve path → B (walks_of (TheCall.Execve path)) (execve s pid me program_of path) (execve u pid you program_of path)

  pub record RespectsFiles : Type 0 where
    pub opened : (d : ℤ) → BothHave AreOnSame (open_file s me d) (open_file u you d)
    pub full : nat_le 128 (least_free u.files) ≡ nat_le 128 (least_free s.files)
    pub reads : (d n : ℤ) → call ≡ TheCall.Read d n → (v w : ℕ × OpenFile) → Opened d v w → reads v.1.mode ≡ true → (count : ℕ) → B [] (CallRemainders.read_2 s pid me v.0 v.1 count) (CallRemainders.read_2 u pid you w.0 w.1 count)
    pub writes : (d n : ℤ) → call ≡ TheCall.Write d n → (v w : ℕ × OpenFile) → Opened d v w → writes v.1.mode ≡ true → (count : ℕ) → within 4096 n ≡ Some count
        → B [] (CallRemainders.write_2 s pid me v.0 v.1 count) (CallRemainders.write_2 u pid you w.0 w.1 count)
    pub seeks : (d by : ℤ) (whence : Whence) → call ≡ TheCall.Lseek d by whence → (v w : ℕ × OpenFile) → Opened d v w → B [] (CallRemainders.lseek_2 s pid me by whence v.0 v.1) (CallRemainders.lseek_2 u pid you by whence w.0 w.1)
    pub reports : (d : ℤ) → call ≡ TheCall.Fstat d → (v w : ℕ × OpenFile) → Opened d v w → B [] (answers_bytes s 0 (status s.tree v.1.node)) (answers_bytes u 0 (status u.tree w.1.node))
    pub cuts : (d n : ℤ) → call ≡ TheCall.Ftruncate d n → (v w : ℕ × OpenFile) → Opened d v w → (size : ℕ) → B [] (CallRemainders.ftruncate_3 s pid me v.1 size) (CallRemainders.ftruncate_3 u pid you w.1 size)
    pub lists : (d : ℤ) → call ≡ TheCall.Getdents d → (v w : ℕ × OpenFile) → Opened d v w → B [] (CallRemainders.getdents_2 s pid me v.0 v.1) (CallRemainders.getdents_2 u pid you w.0 w.1)

  pub record RespectsTree : Type 0 where
    pub nodes : (n : ℕ) → AreNodesAlike (node_at s.tree n) (node_at u.tree n)
    pub contains : (n d : ℕ) → contains_directory u.tree n d ≡ contains_directory s.tree n d
    pub walked : (w : Walk) (g h : Place → Attempt Effect) → ((place : Place) → end_of s me w ≡ Ok place → judgement s.tree me.table place w.needed ≡ Allowed → B [] (g place) (h place))
        → B (w ∷ []) (walk s me w >>= (λ place. judge s me w place >> g place)) (walk u you w >>= (λ place. judge u you w place >> h place))
    pub walked_twice : (v w : Walk) (g h : Place → Place → Attempt Effect) → ((p q : Place) → end_of s me v ≡ Ok p → end_of s me w ≡ Ok q → B [] (g p q) (h p q))
        → B (v ∷ w ∷ []) (walk s me v >>= (λ p. judge s me v p >> (walk s me w >>= (λ q. judge s me w q >> g p q)))) (walk u you v >>= (λ p. judge u you v p >> (walk u you w >>= (λ q. judge u you w q >> h p q))))
    pub stats : (path : Bytes) → call ≡ TheCall.Stat path → (place : Place) → end_of s me (stat_walk path) ≡ Ok place → judgement s.tree me.table place permission_r ≡ Allowed → (n : ℕ) → node_of place ≡ Some n
        → B [] (answers_bytes s 0 (status s.tree n)) (answers_bytes u 0 (status u.tree n))
    pub lstats : (path : Bytes) → call ≡ TheCall.Lstat path → (place : Place) → end_of s me (lstat_walk path) ≡ Ok place → judgement s.tree me.table place permission_r ≡ Allowed → (n : ℕ) → node_of place ≡ Some n
        → B [] (answers_bytes s 0 (status s.tree n)) (answers_bytes u 0 (status u.tree n))
    pub unlinks : (p : ℕ × Bytes) → B [] (CallRemainders.less_3 s pid me p) (CallRemainders.less_3 u pid you p)

  pub record RespectsRoom : Type 0 where
    pub makes : (w : Walk) (node : Node) → walks_of call ≡ w ∷ [] → w.start ≡ WorkingDirectory → entries_of (Some node) ≡ [] → (place : Place) → end_of s me w ≡ Ok place → IsFalse (is_some (node_of place))
        → (p : ℕ × Bytes) → name_of place ≡ Some p → B [] (CallRemainders.make_3 s pid me node p) (CallRemainders.make_3 u pid you node p)
    pub links : (path new : Bytes) → call ≡ TheCall.Link path new → (place : Place) → end_of s me (new_link_walk new) ≡ Ok place → IsFalse (is_some (node_of place))
        → (n : ℕ) (p : ℕ × Bytes) → name_of place ≡ Some p → B [] (CallRemainders.link_6 s pid me n p) (CallRemainders.link_6 u pid you n p)
    pub moves : (path new : Bytes) → call ≡ TheCall.Rename path new → (old_place new_place : Place) → end_of s me (rename_walk path) ≡ Ok old_place → end_of s me (rename_walk new) ≡ Ok new_place
        → (n : ℕ) (p q : ℕ × Bytes) → node_of old_place ≡ Some n → name_of old_place ≡ Some p → name_of new_place ≡ Some q → IsFalse (same_node (node_of new_place) n)
        → B [] (CallRemainders.move_5 s pid me n p.0 p.1 q.0 q.1) (CallRemainders.move_5 u pid you n p.0 p.1 q.0 q.1)
    pub opens : (start : Start) (path : Bytes) (f : OpenFlags) (place : Place) → OpensAt start path f place → (n : ℕ) → node_of place ≡ Some n
        → B [] (CallRemainders.open_7 s pid me (with_open_file s pid me f n (if f.truncate then with_content s.tree n [] else s.tree)))
        (CallRemainders.open_7 u pid you (with_open_file u pid you f n (if f.truncate then with_content u.tree n [] else u.tree)))
    pub creates : (start : Start) (path : Bytes) (f : OpenFlags) (place : Place) → OpensAt start path f place → (p : ℕ × Bytes) → name_of place ≡ Some p → node_of place ≡ None
        → B [] (CallRemainders.open_7 s pid me (with_open_file s pid me f (new_number s.tree) (with_new_node s.tree p.0 p.1 (file_node false []))))
        (CallRemainders.open_7 u pid you (with_open_file u pid you f (new_number u.tree) (with_new_node u.tree p.0 p.1 (file_node false []))))

  pub record Respects : Type 0 where
    pub checks : KeptByChecks B
    pub processes : RespectsProcesses
    pub own : RespectsOwn
    pub files : RespectsFiles
    pub tree : RespectsTree
    pub room : RespectsRoom

  -- ---- the call

  module _ (r : Respects) where
    abbrev E : Attempt Effect → Attempt Effect → Type 0
    E = B []

    -- checks of the same conditions
    if-same : (ws : List Walk) (e : Errno) (b : Bool) (g h : Attempt Effect) → (IsFalse b → B ws g h) → B ws (refuse_if e b >> g) (refuse_if e b >> h)
    if-same ws e b g h is = tested B r.checks ws e b b refl g h is

    if-other : (e : Errno) (b c : Bool) → c ≡ b → (g h : Attempt Effect) → E g h → E (refuse_if e b >> g) (refuse_if e c >> h)
    if-other e b c same g h is = tested B r.checks [] e b c same g h (λ no. is)

    value-same : {A : Type 0} (e : Errno) (o : Option A) (g h : A → Attempt Effect) → ((v : A) → o ≡ Some v → E (g v) (h v)) → E (demand e o >>= g) (demand e o >>= h)
    value-same e o g h is = demanded B r.checks [] e o o refl g h is

    -- nodes
    view : {V : Type 0} (look : Option Node → V) → ((executable : Bool) (old new : Bytes) → look (Some (file_node executable new)) ≡ look (Some (file_node executable old))) → (n : ℕ) → look (node_at u.tree n) ≡ look (node_at s.tree n)
    view look blind n = view-alike look blind (node_at s.tree n) (node_at u.tree n) (r.tree.nodes n)

    dir : (n : ℕ) → is_directory_at u.tree n ≡ is_directory_at s.tree n
    dir n = view is_directory (λ executable old new. refl) n

    entries : (n : ℕ) → entries_at u.tree n ≡ entries_at s.tree n
    entries n = view entries_of (λ executable old new. refl) n

    dir-there : (o : Option ℕ) → is_directory_there u.tree o ≡ is_directory_there s.tree o
    dir-there None = refl
    dir-there (Some n) = dir n

    entries-there : (o : Option ℕ) → entries_there u.tree o ≡ entries_there s.tree o
    entries-there None = refl
    entries-there (Some n) = entries n

    view-there : {V : Type 0} (look : Option Node → V) → ((executable : Bool) (old new : Bytes) → look (Some (file_node executable new)) ≡ look (Some (file_node executable old)))
        → (o : Option ℕ) → look (option_and_then (node_at u.tree) o) ≡ look (option_and_then (node_at s.tree) o)
    view-there look blind None = refl
    view-there look blind (Some n) = view look blind n

    -- ---- descriptors

    by-file : (d : ℤ) (g h : ℕ × OpenFile → Attempt Effect) → ((v w : ℕ × OpenFile) → Opened d v w → E (g v) (h w)) → E (demand EBADF (open_file s me d) >>= g) (demand EBADF (open_file u you d) >>= h)
    by-file d g h is = by (open_file s me d) refl (open_file u you d) refl (r.files.opened d)
      where
        by : (o : Option (ℕ × OpenFile)) → open_file s me d ≡ o → (q : Option (ℕ × OpenFile)) → open_file u you d ≡ q → BothHave AreOnSame o q → E (demand EBADF o >>= g) (demand EBADF q >>= h)
        by None here None there same = r.checks.refuses [] EBADF Plain refl
        by None here (Some w) there same = absurd same
        by (Some v) here None there same = absurd same
        by (Some v) here (Some w) there same = r.checks.after [] (g v) (h w) (is v w (record { here = here; there = there; same = same }))

    by-mode : (test : Mode → Bool) (d : ℤ) (g h : ℕ × OpenFile → Attempt Effect) → ((v w : ℕ × OpenFile) → Opened d v w → test v.1.mode ≡ true → E (g v) (h w))
        → E (demand EBADF (open_file_for s pid me test d) >>= g) (demand EBADF (open_file_for u pid you test d) >>= h)
    by-mode test d g h is = by (open_file s me d) refl (open_file u you d) refl (r.files.opened d)
      where
        by : (o : Option (ℕ × OpenFile)) → open_file s me d ≡ o → (q : Option (ℕ × OpenFile)) → open_file u you d ≡ q → BothHave AreOnSame o q → E (demand EBADF (if_mode test o) >>= g) (demand EBADF (if_mode test q) >>= h)
        by None here None there same = r.checks.refuses [] EBADF Plain refl
        by None here (Some w) there same = absurd same
        by (Some v) here None there same = absurd same
        by (Some (k, f)) here (Some (j, o)) there same =
            subst (λ m. E (demand EBADF (if test f.mode then Some (k, f) else None) >>= g) (demand EBADF (if test m then Some (j, o) else None) >>= h)) (sym same.mode) (on (test f.mode) refl)
          where
            on : (b : Bool) → test f.mode ≡ b → E (demand EBADF (if b then Some (k, f) else None) >>= g) (demand EBADF (if b then Some (j, o) else None) >>= h)
            on true passes = r.checks.after [] (g (k, f)) (h (j, o)) (is (k, f) (j, o) (record { here = here; there = there; same = same }) passes)
            on false fails = r.checks.refuses [] EBADF Plain refl

    directory-same : (d : ℤ) → directory_of u pid you d ≡ directory_of s pid me d
    directory-same d = by (open_file s me d) (open_file u you d) (r.files.opened d)
      where
        by : (o q : Option (ℕ × OpenFile)) → BothHave AreOnSame o q → (demand EBADF q >>= CallRemainders.directory_of_1 u pid you) ≡ (demand EBADF o >>= CallRemainders.directory_of_1 s pid me)
        by None None same = refl
        by None (Some w) same = absurd same
        by (Some v) None same = absurd same
        by (Some v) (Some w) same =
            ap (λ n. after_walks 0 (refuse_if ENOTDIR (not (is_directory_at u.tree n)) >> give n)) same.node
            ∙ ap (λ b. after_walks 0 (refuse_if ENOTDIR (not b) >> give v.1.node)) (dir v.1.node)

    start-same : (start : Start) (path : Bytes) → check_start u pid you start path ≡ check_start s pid me start path
    start-same WorkingDirectory path = refl
    start-same (AtDescriptor d) path = ap (λ (a : Attempt ℕ). if is_absolute path then give (tt {0}) else a >> give (tt {0})) (directory-same d)

    close-both : (d : ℤ) → E (close s pid me d) (close u pid you d)
    close-both d = by (descriptor_at me d) (descriptor_at you d) (r.own.duplicates d)
      where
        here : Attempt Effect
        here = answers (with_process s pid (record me { descriptors = without_descriptor me.descriptors d })) 0

        there : Attempt Effect
        there = answers (with_process u pid (record you { descriptors = without_descriptor you.descriptors d })) 0

        by : (o q : Option Descriptor)
            → BothHave (λ v w. (n : ℕ) → Leaves (with_process s pid (record me { descriptors = with_number me.descriptors n (record { file = v.file; close_on_exec = false }) }))
            (with_process u pid (record you { descriptors = with_number you.descriptors n (record { file = w.file; close_on_exec = false }) })) (returns n)) o q
            → E (demand EBADF o >> here) (demand EBADF q >> there)
        by None None same = r.checks.refuses [] EBADF Plain refl
        by None (Some w) same = absurd same
        by (Some v) None same = absurd same
        by (Some v) (Some w) same = r.checks.after [] here there (r.own.closes d)

    -- a call that continues with the descriptor
    by-descriptor : (d : ℤ) (g h : Descriptor → Attempt Effect)
        → ((v w : Descriptor)
        → ((n : ℕ) → Leaves (with_process s pid (record me { descriptors = with_number me.descriptors n (record { file = v.file; close_on_exec = false }) }))
        (with_process u pid (record you { descriptors = with_number you.descriptors n (record { file = w.file; close_on_exec = false }) })) (returns n))
        → E (g v) (h w))
        → E (demand EBADF (descriptor_at me d) >>= g) (demand EBADF (descriptor_at you d) >>= h)
    by-descriptor d g h is = by (descriptor_at me d) (descriptor_at you d) (r.own.duplicates d)
      where
        by : (o q : Option Descriptor)
            → BothHave (λ v w. (n : ℕ) → Leaves (with_process s pid (record me { descriptors = with_number me.descriptors n (record { file = v.file; close_on_exec = false }) }))
            (with_process u pid (record you { descriptors = with_number you.descriptors n (record { file = w.file; close_on_exec = false }) })) (returns n)) o q
            → E (demand EBADF o >>= g) (demand EBADF q >>= h)
        by None None same = r.checks.refuses [] EBADF Plain refl
        by None (Some w) same = absurd same
        by (Some v) None same = absurd same
        by (Some v) (Some w) same = r.checks.after [] (g v) (h w) (is v w same)

    dup-both : (d : ℤ) → E (dup s pid me d) (dup u pid you d)
    dup-both d =
        by-descriptor d (CallRemainders.dup_1 s pid me) (CallRemainders.dup_1 u pid you) (λ v w same.
        subst (λ n. E (CallRemainders.dup_1 s pid me v) (refuse_if EMFILE (nat_le 16 n) >> answers (with_process u pid (record you { descriptors = with_number you.descriptors n (record { file = w.file; close_on_exec = false }) })) n)) (sym r.own.free)
        (if-same [] EMFILE (nat_le 16 (least_free me.descriptors)) _ _ (λ no. same (least_free me.descriptors))))

    dup2-both : (d e : ℤ) → E (dup2 s pid me d e) (dup2 u pid you d e)
    dup2-both d e =
        by-descriptor d (CallRemainders.dup2_1 s pid me d e) (CallRemainders.dup2_1 u pid you d e) (λ v w same.
        value-same EBADF (within 15 e) (CallRemainders.dup2_2 s pid me d v) (CallRemainders.dup2_2 u pid you d w) (λ n is. by v w same n (is_number d n)))
      where
        by : (v w : Descriptor) → ((n : ℕ) → Leaves (with_process s pid (record me { descriptors = with_number me.descriptors n (record { file = v.file; close_on_exec = false }) }))
            (with_process u pid (record you { descriptors = with_number you.descriptors n (record { file = w.file; close_on_exec = false }) })) (returns n))
            → (n : ℕ) (b : Bool)
            → E (answers (if b then s else with_process s pid (record me { descriptors = with_number me.descriptors n (record v { close_on_exec = false }) })) n)
            (answers (if b then u else with_process u pid (record you { descriptors = with_number you.descriptors n (record w { close_on_exec = false }) })) n)
        by v w same n true = r.processes.left (returns n)
        by v w same n false = same n

    fchdir-both : (d : ℤ) → E (fchdir s pid me d) (fchdir u pid you d)
    fchdir-both d =
        bound B r.checks [] (directory_of s pid me d) (directory_of u pid you d) (directory-same d) (still-directory_of s pid me d)
        (λ n. answers (with_process s pid (record me { directory = n })) 0) (λ n. answers (with_process u pid (record you { directory = n })) 0) (λ n is. r.own.enters n)

    fstat-both : (d : ℤ) → call ≡ TheCall.Fstat d → E (fstat s pid me d) (fstat u pid you d)
    fstat-both d is = by-file d (λ v. answers_bytes s 0 (status s.tree v.1.node)) (λ v. answers_bytes u 0 (status u.tree v.1.node)) (r.files.reports d is)

    read-both : (d n : ℤ) → call ≡ TheCall.Read d n → E (read s pid me d n) (read u pid you d n)
    read-both d n is =
        by-mode reads d (CallRemainders.read_1 s pid me n) (CallRemainders.read_1 u pid you n) (λ v w opened may.
        value-same EINVAL (within 4096 n) (CallRemainders.read_2 s pid me v.0 v.1) (CallRemainders.read_2 u pid you w.0 w.1) (λ count few. r.files.reads d n is v w opened may count))

    write-both : (d n : ℤ) → call ≡ TheCall.Write d n → E (write s pid me d n) (write u pid you d n)
    write-both d n is =
        by-mode writes d (CallRemainders.write_1 s pid me n) (CallRemainders.write_1 u pid you n) (λ v w opened may.
        value-same EINVAL (within 4096 n) (CallRemainders.write_2 s pid me v.0 v.1) (CallRemainders.write_2 u pid you w.0 w.1) (λ count few. r.files.writes d n is v w opened may count few))

    lseek-both : (d by : ℤ) (whence : Whence) → call ≡ TheCall.Lseek d by whence → E (lseek s pid me d by whence) (lseek u pid you d by whence)
    lseek-both d by whence is =
        by-file d (CallRemainders.lseek_1 s pid me by whence) (CallRemainders.lseek_1 u pid you by whence) (λ v w opened.
        if-other EINVAL (is_directory_at s.tree v.1.node) (is_directory_at u.tree w.1.node) (ap (is_directory_at u.tree) opened.same.node ∙ dir v.1.node)
        (CallRemainders.lseek_2 s pid me by whence v.0 v.1) (CallRemainders.lseek_2 u pid you by whence w.0 w.1) (r.files.seeks d by whence is v w opened))

    ftruncate-both : (d n : ℤ) → call ≡ TheCall.Ftruncate d n → E (ftruncate s pid me d n) (ftruncate u pid you d n)
    ftruncate-both d n is =
        by-file d (CallRemainders.ftruncate_1 s pid me n) (CallRemainders.ftruncate_1 u pid you n) (λ v w opened.
        if-other EINVAL (not (writes v.1.mode)) (not (writes w.1.mode)) (ap (λ m. not (writes m)) opened.same.mode) (CallRemainders.ftruncate_2 s pid me n v.1) (CallRemainders.ftruncate_2 u pid you n w.1)
        (value-same EINVAL (natural n) (CallRemainders.ftruncate_3 s pid me v.1) (CallRemainders.ftruncate_3 u pid you w.1) (λ size low. r.files.cuts d n is v w opened size)))

    getdents-both : (d : ℤ) → call ≡ TheCall.Getdents d → E (getdents s pid me d) (getdents u pid you d)
    getdents-both d is =
        by-file d (CallRemainders.getdents_1 s pid me) (CallRemainders.getdents_1 u pid you) (λ v w opened.
        if-other EINVAL (not (is_directory_at s.tree v.1.node)) (not (is_directory_at u.tree w.1.node)) (ap (λ n. not (is_directory_at u.tree n)) opened.same.node ∙ ap not (dir v.1.node))
        (CallRemainders.getdents_2 s pid me v.0 v.1) (CallRemainders.getdents_2 u pid you w.0 w.1) (r.files.lists d is v w opened))

    -- ---- processes

    fork-both : E (fork s pid me) (fork u pid you)
    fork-both =
        let number : ℕ → ℕ = λ last. suc last in
        let rest : ℕ → ℕ → Attempt Effect = λ many last. refuse_if EAGAIN (nat_le 32 many || nat_lt 99999 (suc last)) >> answers (record (with_process u (suc last) (child u pid you)) { last_process = suc last }) (suc last) in
        subst (λ many. E (fork s pid me) (rest many u.last_process)) (sym r.processes.count)
        (subst (λ last. E (fork s pid me) (rest (length s.processes) last)) (sym r.processes.last)
        (if-same [] EAGAIN (nat_le 32 (length s.processes) || nat_lt 99999 (suc s.last_process)) _ _ (λ no. r.processes.forks)))

    reap-both : (ss : List (ℕ × ℕ)) → E (reap s pid me ss) (reap u pid you ss)
    reap-both [] = r.processes.left waits
    reap-both ((n, status) ∷ rs) = r.processes.reaps n (little_endian 4 status)

    wait-both : E (wait s pid me) (wait u pid you)
    wait-both =
        if-other ECHILD (is_empty (children s pid me)) (is_empty (children u pid you)) r.processes.childless (reap s pid me (statuses (children s pid me))) (reap u pid you (statuses (children u pid you)))
        (subst (λ ss. E (reap s pid me (statuses (children s pid me))) (reap u pid you ss)) (sym r.processes.statuses) (reap-both (statuses (children s pid me))))

    getppid-both : E (answers s me.parent) (answers u you.parent)
    getppid-both = subst (λ n. E (answers s me.parent) (answers u n)) (sym r.processes.parent) (r.processes.left (returns me.parent))

    -- ---- paths

    chdir-both : (path : Bytes) → B (chdir_walk path ∷ []) (chdir s pid me path) (chdir u pid you path)
    chdir-both path =
        r.tree.walked (chdir_walk path) (CallRemainders.chdir_1 s pid me) (CallRemainders.chdir_1 u pid you) (λ place found allowed.
        value-same ENOENT (node_of place) (CallRemainders.chdir_2 s pid me) (CallRemainders.chdir_2 u pid you) (λ n is.
        if-other ENOTDIR (not (is_directory_at s.tree n)) (not (is_directory_at u.tree n)) (ap not (dir n)) (answers (with_process s pid (record me { directory = n })) 0) (answers (with_process u pid (record you { directory = n })) 0) (r.own.enters n)))

    stat-both : (w : Walk)
        → ((place : Place) → end_of s me w ≡ Ok place → judgement s.tree me.table place w.needed ≡ Allowed → (n : ℕ) → node_of place ≡ Some n → E (answers_bytes s 0 (status s.tree n)) (answers_bytes u 0 (status u.tree n)))
        → B (w ∷ []) (stat_at s pid me w) (stat_at u pid you w)
    stat-both w reports =
        r.tree.walked w (CallRemainders.stat_1 s pid me) (CallRemainders.stat_1 u pid you) (λ place found allowed.
        value-same ENOENT (node_of place) (λ n. answers_bytes s 0 (status s.tree n)) (λ n. answers_bytes u 0 (status u.tree n)) (reports place found allowed))

    readlink-both : (path : Bytes) → B (readlink_walk path ∷ []) (readlink s pid me path) (readlink u pid you path)
    readlink-both path =
        r.tree.walked (readlink_walk path) (CallRemainders.readlink_1 s pid me) (CallRemainders.readlink_1 u pid you) (λ place found allowed.
        value-same ENOENT (node_of place) (CallRemainders.readlink_2 s pid me) (CallRemainders.readlink_2 u pid you) (λ n is.
        demanded B r.checks [] EINVAL (link_text (node_at s.tree n)) (link_text (node_at u.tree n)) (view link_text (λ executable old new. refl) n)
        (λ text. answers_bytes s (length text) text) (λ text. answers_bytes u (length text) text) (λ text has. r.processes.left (returns_bytes (length text) text))))

    make-both : (w : Walk) (node : Node) → walks_of call ≡ w ∷ [] → w.start ≡ WorkingDirectory → entries_of (Some node) ≡ [] → B (w ∷ []) (make s pid me w node) (make u pid you w node)
    make-both w node walks here bare =
        r.tree.walked w (CallRemainders.make_1 s pid me node) (CallRemainders.make_1 u pid you node) (λ place found allowed.
        if-same [] EEXIST (is_some (node_of place)) (CallRemainders.make_2 s pid me node place) (CallRemainders.make_2 u pid you node place) (λ free.
        value-same EEXIST (name_of place) (CallRemainders.make_3 s pid me node) (CallRemainders.make_3 u pid you node) (λ p named. r.room.makes w node walks here bare place found free p named)))

    symlink-both : (text path : Bytes) → walks_of call ≡ symlink_walk path ∷ [] → B (symlink_walk path ∷ []) (symlink s pid me text path) (symlink u pid you text path)
    symlink-both text path walks =
        let one : Attempt Effect = make s pid me (symlink_walk path) (link_node text) in
        let two : Attempt Effect = make u pid you (symlink_walk path) (link_node text) in
        if-same (symlink_walk path ∷ []) ENOENT (is_empty text) (refuse_if ENAMETOOLONG (nat_lt 1023 (length text)) >> one) (refuse_if ENAMETOOLONG (nat_lt 1023 (length text)) >> two) (λ some.
        if-same (symlink_walk path ∷ []) ENAMETOOLONG (nat_lt 1023 (length text)) one two (λ short. make-both (symlink_walk path) (link_node text) walks refl refl))

    link-both : (path new : Bytes) → call ≡ TheCall.Link path new → B (linked_walk path ∷ new_link_walk new ∷ []) (link s pid me path new) (link u pid you path new)
    link-both path new is =
        r.tree.walked_twice (linked_walk path) (new_link_walk new) (CallRemainders.link_2 s pid me) (CallRemainders.link_2 u pid you) (λ old_place new_place old_found found.
        value-same ENOENT (node_of old_place) (CallRemainders.link_3 s pid me new_place) (CallRemainders.link_3 u pid you new_place) (λ n there.
        if-other EPERM (is_directory_at s.tree n) (is_directory_at u.tree n) (dir n) (CallRemainders.link_4 s pid me new_place n) (CallRemainders.link_4 u pid you new_place n)
        (if-same [] EEXIST (is_some (node_of new_place)) (CallRemainders.link_5 s pid me new_place n) (CallRemainders.link_5 u pid you new_place n) (λ free.
        value-same EEXIST (name_of new_place) (CallRemainders.link_6 s pid me n) (CallRemainders.link_6 u pid you n) (λ p named. r.room.links path new is new_place found free n p named)))))

    unlink-both : (path : Bytes) → B (unlink_walk path ∷ []) (unlink s pid me path) (unlink u pid you path)
    unlink-both path =
        r.tree.walked (unlink_walk path) (CallRemainders.unlink_1 s pid me) (CallRemainders.unlink_1 u pid you) (λ place found allowed.
        value-same ENOENT (node_of place) (CallRemainders.unlink_2 s pid me place) (CallRemainders.unlink_2 u pid you place) (λ n is.
        if-other EPERM (is_directory_at s.tree n) (is_directory_at u.tree n) (dir n) (CallRemainders.unlink_3 s pid me place) (CallRemainders.unlink_3 u pid you place)
        (value-same EPERM (name_of place) (CallRemainders.less_3 s pid me) (CallRemainders.less_3 u pid you) (λ p named. r.tree.unlinks p))))

    rmdir-both : (path : Bytes) → B (rmdir_walk path ∷ []) (rmdir s pid me path) (rmdir u pid you path)
    rmdir-both path =
        let w : Walk = rmdir_walk path in
        if-same (w ∷ []) EINVAL (ends_in_dot path) (walk s me w >>= (λ place. judge s me w place >> CallRemainders.rmdir_1 s pid me place)) (walk u you w >>= (λ place. judge u you w place >> CallRemainders.rmdir_1 u pid you place)) (λ no.
        r.tree.walked w (CallRemainders.rmdir_1 s pid me) (CallRemainders.rmdir_1 u pid you) (λ place found allowed.
        value-same ENOENT (node_of place) (CallRemainders.rmdir_2 s pid me place) (CallRemainders.rmdir_2 u pid you place) (λ n is.
        if-other ENOTDIR (not (is_directory_at s.tree n)) (not (is_directory_at u.tree n)) (ap not (dir n)) (CallRemainders.rmdir_3 s pid me place n) (CallRemainders.rmdir_3 u pid you place n)
        (value-same EBUSY (name_of place) (CallRemainders.rmdir_4 s pid me n) (CallRemainders.rmdir_4 u pid you n) (λ p named.
        if-other ENOTEMPTY (not (is_empty (entries_at s.tree n))) (not (is_empty (entries_at u.tree n))) (ap (λ (es : Entries). not (is_empty es)) (entries n)) (CallRemainders.less_3 s pid me p) (CallRemainders.less_3 u pid you p) (r.tree.unlinks p))))))

    move-both : (n : ℕ) (p q : ℕ × Bytes) (there : Option ℕ) → E (CallRemainders.move_5 s pid me n p.0 p.1 q.0 q.1) (CallRemainders.move_5 u pid you n p.0 p.1 q.0 q.1)
        → E (move_entry s pid me n p.0 p.1 q.0 q.1 there) (move_entry u pid you n p.0 p.1 q.0 q.1 there)
    move-both n p q there moved =
        if-other EINVAL (contains_directory s.tree n q.0) (contains_directory u.tree n q.0) (r.tree.contains n q.0) (CallRemainders.move_2 s pid me n p.0 p.1 q.0 q.1 there) (CallRemainders.move_2 u pid you n p.0 p.1 q.0 q.1 there)
        (if-other EISDIR (is_directory_there s.tree there && not (is_directory_at s.tree n)) (is_directory_there u.tree there && not (is_directory_at u.tree n)) (ap₂ (λ a b. a && not b) (dir-there there) (dir n))
        (CallRemainders.move_3 s pid me n p.0 p.1 q.0 q.1 there) (CallRemainders.move_3 u pid you n p.0 p.1 q.0 q.1 there)
        (if-other ENOTDIR (is_directory_at s.tree n && is_some there && not (is_directory_there s.tree there)) (is_directory_at u.tree n && is_some there && not (is_directory_there u.tree there))
        (ap₂ (λ a b. a && is_some there && not b) (dir n) (dir-there there)) (CallRemainders.move_4 s pid me n p.0 p.1 q.0 q.1 there) (CallRemainders.move_4 u pid you n p.0 p.1 q.0 q.1 there)
        (if-other ENOTEMPTY (not (is_empty (entries_there s.tree there))) (not (is_empty (entries_there u.tree there))) (ap (λ (es : Entries). not (is_empty es)) (entries-there there))
        (CallRemainders.move_5 s pid me n p.0 p.1 q.0 q.1) (CallRemainders.move_5 u pid you n p.0 p.1 q.0 q.1) moved)))

    rename-both : (path new : Bytes) → call ≡ TheCall.Rename path new → B (rename_walk path ∷ rename_walk new ∷ []) (rename s pid me path new) (rename u pid you path new)
    rename-both path new is =
        let w : Walk = rename_walk path in
        if-same (w ∷ rename_walk new ∷ []) EINVAL (ends_in_dot path || ends_in_dot new)
        (walk s me w >>= (λ place. judge s me w place >> CallRemainders.rename_1 s pid me new place)) (walk u you w >>= (λ place. judge u you w place >> CallRemainders.rename_1 u pid you new place)) (λ no.
        r.tree.walked_twice w (rename_walk new) (CallRemainders.rename_2 s pid me) (CallRemainders.rename_2 u pid you) (λ old_place new_place old_found found.
        value-same ENOENT (node_of old_place) (CallRemainders.rename_3 s pid me old_place new_place) (CallRemainders.rename_3 u pid you old_place new_place) (λ n there.
        value-same EBUSY (name_of old_place) (CallRemainders.rename_4 s pid me new_place n) (CallRemainders.rename_4 u pid you new_place n) (λ p old_named.
        value-same EBUSY (name_of new_place) (CallRemainders.rename_5 s pid me new_place n p) (CallRemainders.rename_5 u pid you new_place n p) (λ q named.
        by n p q (node_of new_place) (same_node (node_of new_place) n) (λ other. r.room.moves path new is old_place new_place old_found found n p q there old_named named other))))))
      where
        by : (n : ℕ) (p q : ℕ × Bytes) (there : Option ℕ) (b : Bool) → (IsFalse b → E (CallRemainders.move_5 s pid me n p.0 p.1 q.0 q.1) (CallRemainders.move_5 u pid you n p.0 p.1 q.0 q.1))
            → E (if b then answers s 0 else move_entry s pid me n p.0 p.1 q.0 q.1 there) (if b then answers u 0 else move_entry u pid you n p.0 p.1 q.0 q.1 there)
        by n p q there true moved = r.processes.left (returns 0)
        by n p q there false moved = move-both n p q there (moved refl)

    -- ---- open

    node-both : (start : Start) (path : Bytes) (f : OpenFlags) (place : Place) → OpensAt start path f place → (name : Option (ℕ × Bytes)) (node : Option ℕ) → name_of place ≡ name → node_of place ≡ node
        → E (open_node s pid me f name node >>= CallRemainders.open_7 s pid me) (open_node u pid you f name node >>= CallRemainders.open_7 u pid you)
    node-both start path f place opens name (Some n) named is = r.checks.after [] _ _ (r.room.opens start path f place opens n is)
    node-both start path f place opens (Some p) None named is = r.checks.after [] _ _ (r.room.creates start path f place opens p named is)
    node-both start path f place opens None None named is = r.checks.refuses [] ENOENT Plain refl

    abbrev at_s : Place → Option Node
    at_s place = CallRemainders.node_there s pid me place

    abbrev at_u : Place → Option Node
    at_u place = CallRemainders.node_there u pid you place

    found-both : (start : Start) (path : Bytes) (f : OpenFlags) (place : Place) → OpensAt start path f place → E (CallRemainders.open_1 s pid me f place) (CallRemainders.open_1 u pid you f place)
    found-both start path f place opens =
        let n : Option ℕ = node_of place in
        if-other EEXIST (f.create && f.exclusive && is_some (at_s place)) (f.create && f.exclusive && is_some (at_u place)) (ap (λ b. f.create && f.exclusive && b) (view-there is_some (λ executable old new. refl) n))
        (CallRemainders.open_2 s pid me f place) (CallRemainders.open_2 u pid you f place)
        (if-other ENOENT (is_none (at_s place) && not f.create) (is_none (at_u place) && not f.create) (ap (λ b. b && not f.create) (view-there is_none (λ executable old new. refl) n))
        (CallRemainders.open_3 s pid me f place) (CallRemainders.open_3 u pid you f place)
        (if-other ELOOP (is_link (at_s place)) (is_link (at_u place)) (view-there is_link (λ executable old new. refl) n) (CallRemainders.open_4 s pid me f place) (CallRemainders.open_4 u pid you f place)
        (if-other ENOTDIR (f.directory && not (is_directory (at_s place))) (f.directory && not (is_directory (at_u place))) (ap (λ b. f.directory && not b) (view-there is_directory (λ executable old new. refl) n))
        (CallRemainders.open_5 s pid me f place) (CallRemainders.open_5 u pid you f place)
        (if-other EISDIR (is_directory (at_s place) && writes f.mode) (is_directory (at_u place) && writes f.mode) (ap (λ b. b && writes f.mode) (view-there is_directory (λ executable old new. refl) n))
        (CallRemainders.open_6 s pid me f place) (CallRemainders.open_6 u pid you f place) (node-both start path f place opens (name_of place) (node_of place) refl refl)))))

    open-both : (start : Start) (path : Bytes) (f : OpenFlags) → walks_of call ≡ open_walk start path f ∷ [] → B (open_walk start path f ∷ []) (open_at s pid me start path f) (open_at u pid you start path f)
    open-both start path f walks =
        let w : Walk = open_walk start path f in
        let ws : List Walk = w ∷ [] in
        let one_c : Attempt Effect = walk s me w >>= (λ place. judge s me w place >> CallRemainders.open_1 s pid me f place) in
        let two_c : Attempt Effect = walk u you w >>= (λ place. judge u you w place >> CallRemainders.open_1 u pid you f place) in
        let one_b : Attempt Effect = refuse_if ENFILE (nat_le 128 (least_free s.files)) >> one_c in
        let two_b : Attempt Effect = refuse_if ENFILE (nat_le 128 (least_free u.files)) >> two_c in
        let one_a : Attempt Effect = refuse_if EMFILE (nat_le 16 (least_free me.descriptors)) >> one_b in
        let two_a : Attempt Effect = refuse_if EMFILE (nat_le 16 (least_free you.descriptors)) >> two_b in
        if-same ws EINVAL (contradicts f) (check_start s pid me start path >> one_a) (check_start u pid you start path >> two_a) (λ sound.
        following B r.checks ws (check_start s pid me start path) (check_start u pid you start path) (start-same start path) (still-start s pid me start path) one_a two_a (λ v begun.
        tested B r.checks ws EMFILE (nat_le 16 (least_free me.descriptors)) (nat_le 16 (least_free you.descriptors)) (ap (nat_le 16) r.own.free) one_b two_b (λ few.
        tested B r.checks ws ENFILE (nat_le 128 (least_free s.files)) (nat_le 128 (least_free u.files)) r.files.full one_c two_c (λ free.
        r.tree.walked w (CallRemainders.open_1 s pid me f) (CallRemainders.open_1 u pid you f) (λ place found allowed. found-both start path f place (record { walks = walks; begun = begun; found = found; free = free }))))))

    -- ---- each call

    by-call : (c : Call) → call ≡ c → B (walks_of c) (effect program_of s pid me c) (effect program_of u pid you c)
    unfolding effect
    by-call (TheCall.Exit code) is = r.processes.left _
    by-call TheCall.GetPid is = r.processes.left (returns pid)
    by-call TheCall.GetPpid is = getppid-both
    by-call TheCall.Fork is = fork-both
    by-call TheCall.Wait is = wait-both
    by-call (TheCall.Pledge promises execpromises) is = r.own.pledges promises execpromises is
    by-call (TheCall.Unveil path permissions) is = r.own.unveils path permissions is
    by-call (TheCall.Execve path) is = r.own.executes path is
    by-call (TheCall.Open path flags) is = open-both WorkingDirectory path flags (ap walks_of is)
    by-call (TheCall.OpenAt start path flags) is = open-both start path flags (ap walks_of is)
    by-call (TheCall.Close d) is = close-both d
    by-call (TheCall.Dup d) is = dup-both d
    by-call (TheCall.Dup2 d e) is = dup2-both d e
    by-call (TheCall.Read d n) is = read-both d n is
    by-call (TheCall.Write d n) is = write-both d n is
    by-call (TheCall.Lseek d by whence) is = lseek-both d by whence is
    by-call (TheCall.Fstat d) is = fstat-both d is
    by-call (TheCall.Ftruncate d n) is = ftruncate-both d n is
    by-call (TheCall.Getdents d) is = getdents-both d is
    by-call (TheCall.Fchdir d) is = fchdir-both d
    by-call (TheCall.Chdir path) is = chdir-both path
    by-call (TheCall.Stat path) is = stat-both (stat_walk path) (r.tree.stats path is)
    by-call (TheCall.Lstat path) is = stat-both (lstat_walk path) (r.tree.lstats path is)
    by-call (TheCall.Readlink path) is = readlink-both path
    by-call (TheCall.Mkdir path) is = make-both (mkdir_walk path) (directory_node []) (ap walks_of is) refl refl
    by-call (TheCall.Symlink text path) is = symlink-both text path (ap walks_of is)
    by-call (TheCall.Link path new) is = link-both path new is
    by-call (TheCall.Unlink path) is = unlink-both path
    by-call (TheCall.Rmdir path) is = rmdir-both path
    by-call (TheCall.Rename path new) is = rename-both path new is

    -- a call whose parts respect the relation respects it
    pub call-both : B (walks_of call) (effect program_of s pid me call) (effect program_of u pid you call)
    call-both = by-call call refl
