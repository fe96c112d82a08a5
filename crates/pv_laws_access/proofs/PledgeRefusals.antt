-- Only a pledge is refused because of a promise that it requests.
use Rattle.std.proofs.Common.{◌≡◌, ℕ, ℤ, Bool, true, false, cond, not, nat_le, List, [], ◌∷◌, ◌++◌, length, Option, None, Some, Ok, Err, refl, ap, sym, ◌∙◌}
use Rattle.pv_model.specs.declared.call.Call.{Call}
use Rattle.pv_model.specs.declared.call.Call.TheVariants as TheCall
use Rattle.pv_model.specs.declared.call.Start.{Start}
use Rattle.pv_model.specs.declared.call.Start.TheVariants.{WorkingDirectory, Descriptor as AtDescriptor}
use Rattle.pv_model.specs.declared.errno.Errno.{Errno}
use Rattle.pv_model.specs.declared.errno.Errno.TheVariants.{EFBIG, ENOSPC, EPERM, E2BIG}
use Rattle.pv_model.specs.declared.judgement.Judgement.{Judgement}
use Rattle.pv_model.specs.declared.judgement.Judgement.TheVariants.{Allowed, Hidden, Denied}
use Rattle.pv_model.specs.declared.open_flags.OpenFlags.{OpenFlags}
use Rattle.pv_model.specs.declared.outcome.Cause.{Cause}
use Rattle.pv_model.specs.declared.outcome.Cause.TheVariants.{Promise as ByPromise, Unveil as ByUnveil}
use Rattle.pv_model.specs.declared.outcome.Outcome.TheVariants.{Failed}
use Rattle.pv_model.specs.declared.perms.Perms.{Perms}
use Rattle.pv_model.specs.declared.place.Place.{Place}
use Rattle.pv_model.specs.declared.promise.Promise.{Promise}
use Rattle.pv_model.specs.declared.target.Target.{Target}
use Rattle.pv_model.specs.Machine.{answer_by_attempt, effect, Attempt, done, refused, after_walks, ◌>>=◌, ◌>>◌, give, refuse, refuse_if, demand, Bytes, check_start, open_node, open_at, write, list_name, reap, entries_of_table, add_target, refuse_if_locked, unveil, Effect, returns, returns_bytes, ends, waits, place_or_refusal, walk, judgement_or_refusal, judge, with_room, end_of, collect, covers, is_too_long, fits, OpenFile, Program, Process, State, Node, directory_node, Table, entry_for, permissions_at, with_permissions, judgement, Walked, Walk}
use Rattle.pv_model.specs.Calls.Paths.{make}
use Rattle.pv_model.specs.Calls.Restraints.{add_table_entry}
use Rattle.pv_model.specs.declared.limits.TheConstants.{UNVEILS}
use Rattle.pv_model.specs.Walks.{mkdir_walk}

abbrev pub is_of_promise : Cause → Bool
is_of_promise (ByPromise p) = true
is_of_promise cause = false

abbrev pub is_pledge : Call → Bool
is_pledge (TheCall.Pledge promises execpromises) = true
is_pledge call = false

abbrev Spares : {A : Type 0} → Attempt A → Type 0
Spares (done walks value) = Unit {0}
Spares (refused walks errno cause) = is_of_promise cause ≡ false

-- done, or refused for another reason
record Spared {A : Type 0} (a : Attempt A) : Type 0 where
  spares : Spares a

after-spared : {A : Type 0} (n : ℕ) (a : Attempt A) → Spares a → Spares (after_walks n a)
after-spared n (done walks value) is = tt
after-spared n (refused walks errno cause) is = is

bind-spared : {A B : Type 0} (a : Attempt B) (next : B → Attempt A) → Spared a → ((value : B) → Spared (next value)) → Spared (a >>= next)
bind-spared (done walks value) next is go = record { spares = after-spared walks (next value) (go value).spares }
bind-spared (refused walks errno cause) next is go = record { spares = is.spares }

then-spared : {A B : Type 0} (a : Attempt B) (next : Attempt A) → Spared a → Spared next → Spared (a >> next)
then-spared (done walks value) next is go = record { spares = after-spared walks next go.spares }
then-spared (refused walks errno cause) next is go = record { spares = is.spares }

done-spared : {A : Type 0} (n : ℕ) (value : A) → Spared (done n value)
done-spared n value = record { spares = tt }

if-spared : (e : Errno) (b : Bool) → Spared (refuse_if e b)
if-spared e true = record { spares = refl }
if-spared e false = record { spares = tt }

demand-spared : {B : Type 0} (e : Errno) (o : Option B) → Spared (demand e o)
demand-spared e None = record { spares = refl }
demand-spared e (Some value) = record { spares = tt }

walk-spared : (s : State) (me : Process) (w : Walk) → Spared (walk s me w)
walk-spared s me w = by _ (end_of s me w)
  where
    by : (n : ℕ) (r : Walked) → Spared (place_or_refusal n r)
    by n (Ok place) = record { spares = tt }
    by n (Err e) = record { spares = refl }

judge-spared : (s : State) (me : Process) (w : Walk) (place : Place) → Spared (judge s me w place)
judge-spared s me w place = by (judgement s.tree me.table place w.needed)
  where
    by : (j : Judgement) → Spared (judgement_or_refusal j)
    by Allowed = record { spares = tt }
    by Hidden = record { spares = refl }
    by (Denied k) = record { spares = refl }

room-spared : (s : State) → Spared (with_room s)
room-spared s = by (is_too_long (collect s).tree) (fits (collect s).tree)
  where
    by : (long fit : Bool) → Spared (refuse_if EFBIG long >> (refuse_if ENOSPC (not fit) >> give s))
    by true fit = record { spares = refl }
    by false true = record { spares = tt }
    by false false = record { spares = refl }

cond-spared : {A : Type 0} (b : Bool) (x y : Attempt A) → Spared x → Spared y → Spared (cond b x y)
cond-spared true x y is other = is
cond-spared false x y is other = other

ruleset parts = (bind-spared, then-spared, done-spared, if-spared, demand-spared, walk-spared, judge-spared, room-spared, cond-spared)

module _ (s : State) (pid : ℕ) (me : Process) where
  spared-reap : (ss : List (ℕ × ℕ)) → Spared (reap s pid me ss)
  spared-reap [] = done-spared _ _
  spared-reap ((k, status) ∷ rs) = done-spared _ _

  spared-listed : (k : ℕ) (file : OpenFile) (o : Option Bytes) → Spared (list_name s pid me k file o)
  spared-listed k file None = done-spared _ _
  spared-listed k file (Some name) = done-spared _ _

  spared-start : (start : Start) (path : Bytes) → Spared (check_start s pid me start path)
  spared-start WorkingDirectory path = done-spared _ _
  spared-start (AtDescriptor d) path = search parts depth 20

  spared-node : (f : OpenFlags) (name : Option (ℕ × Bytes)) (node : Option ℕ) → Spared (open_node s pid me f name node)
  spared-node f name (Some n) = done-spared _ _
  spared-node f (Some (d, name)) None = done-spared _ _
  spared-node f None None = record { spares = refl }

  spared-open : (start : Start) (path : Bytes) (f : OpenFlags) → Spared (open_at s pid me start path f)
  spared-open start path f = search (parts, spared-start, spared-node) depth 40

  spared-make : (w : Walk) (node : Node) → Spared (make s pid me w node)
  spared-make w node = search parts depth 20

  spared-unveil : (path permissions : Option Bytes) → Spared (unveil s pid me path permissions)
  spared-unveil None None = done-spared _ _
  spared-unveil None (Some text) = record { spares = refl }
  spared-unveil (Some path) None = record { spares = refl }
  spared-unveil (Some path) (Some text) = search (parts, locked, added) depth 20
    where
      locked : (b : Bool) → Spared (refuse_if_locked b)
      locked true = record { spares = refl }
      locked false = record { spares = tt }

      added : (target : Target) (permissions : Perms) → Spared (add_target s pid me target permissions)
      added target permissions = by (entries_of_table me.table) (entry_for (entries_of_table me.table) target)
        where
          by : (table : Table) (o : Option ℕ) → Spared (add_table_entry table target permissions o)
          by table None = cond-spared (nat_le UNVEILS (length table)) (refuse E2BIG) (give (table ++ (target, permissions) ∷ [])) (record { spares = refl }) (done-spared _ _)
          by table (Some k) = cond-spared (covers (permissions_at table k) permissions) (give (with_permissions table k target permissions)) (refused 0 EPERM (ByUnveil (Some k))) (done-spared _ _) (record { spares = refl })

  spared-write : (d n : ℤ) → Spared (write s pid me d n)
  spared-write d n = search parts depth 20

  spared : (program_of : Bytes → Option Program) (call : Call) → is_pledge call ≡ false → Spared (effect program_of s pid me call)
  unfolding effect
  spared program_of (TheCall.Exit code) plain = done-spared _ _
  spared program_of TheCall.GetPid plain = done-spared _ _
  spared program_of TheCall.GetPpid plain = done-spared _ _
  spared program_of TheCall.Fork plain = search parts depth 20
  spared program_of TheCall.Wait plain = search (parts, spared-reap) depth 20
  spared program_of (TheCall.Pledge promises execpromises) plain = cc plain
  spared program_of (TheCall.Unveil path permissions) plain = spared-unveil path permissions
  spared program_of (TheCall.Execve path) plain = search parts depth 20
  spared program_of (TheCall.Open path flags) plain = spared-open WorkingDirectory path flags
  spared program_of (TheCall.OpenAt start path flags) plain = spared-open start path flags
  spared program_of (TheCall.Close d) plain = search parts depth 20
  spared program_of (TheCall.Dup d) plain = search parts depth 20
  spared program_of (TheCall.Dup2 d e) plain = search parts depth 20
  spared program_of (TheCall.Read d n) plain = search parts depth 20
  spared program_of (TheCall.Write d n) plain = spared-write d n
  spared program_of (TheCall.Lseek d by whence) plain = search parts depth 20
  spared program_of (TheCall.Fstat d) plain = search parts depth 20
  spared program_of (TheCall.Ftruncate d n) plain = search parts depth 20
  spared program_of (TheCall.Getdents d) plain = search (parts, spared-listed) depth 20
  spared program_of (TheCall.Fchdir d) plain = search parts depth 20
  spared program_of (TheCall.Chdir path) plain = search parts depth 20
  spared program_of (TheCall.Stat path) plain = search parts depth 20
  spared program_of (TheCall.Lstat path) plain = search parts depth 20
  spared program_of (TheCall.Readlink path) plain = search parts depth 20
  spared program_of (TheCall.Mkdir path) plain = spared-make (mkdir_walk path) (directory_node [])
  spared program_of (TheCall.Symlink text path) plain = search (parts, spared-make) depth 20
  spared program_of (TheCall.Link path new) plain = search parts depth 30
  spared program_of (TheCall.Unlink path) plain = search parts depth 20
  spared program_of (TheCall.Rmdir path) plain = search parts depth 20
  spared program_of (TheCall.Rename path new) plain = search parts depth 40

pub not-by-promise : (program_of : Bytes → Option Program) (s t : State) (pid : ℕ) (me : Process) (call : Call) (errno : Errno) (a : Promise) → is_pledge call ≡ false
    → (answer_by_attempt t s pid me (effect program_of s pid me call)).outcome ≡ Failed errno (ByPromise a) → ⊥
not-by-promise program_of s t pid me call errno a plain named = by (effect program_of s pid me call) (spared s pid me program_of call plain).spares named
  where
    by : (attempt : Attempt Effect) → Spares attempt → (answer_by_attempt t s pid me attempt).outcome ≡ Failed errno (ByPromise a) → ⊥
    by (done walks (after, returns n)) spares is = cc is
    by (done walks (after, returns_bytes n bytes)) spares is = cc is
    by (done walks (after, ends status)) spares is = cc is
    by (done walks (after, waits)) spares is = cc is
    by (refused walks e c) spares is = let cause : c ≡ ByPromise a = cc is in let bad : true ≡ false = ap is_of_promise (sym cause) ∙ spares in cc bad
