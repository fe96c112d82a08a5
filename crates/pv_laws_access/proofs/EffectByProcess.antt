-- The effects of the calls that leave the tree unchanged.
use Rattle.std.proofs.Common.{◌≡◌, ℕ, suc, ◌+◌, ℤ, pos, negsuc, ◌+ℤ◌, Bool, true, false, not, ◌||◌, ◌==◌, if◌then◌else◌, nat_le, nat_lt, List, [], ◌∷◌, length, Option, None, Some, refl}
use Rattle.std.specs.Prelude.{Ok}
use Rattle.pv_model.specs.declared.call.Call.{Call}
use Rattle.pv_model.specs.declared.call.Call.TheVariants as TheCall
use Rattle.pv_model.specs.declared.call.Whence.{Whence}
use Rattle.pv_model.specs.declared.errno.Errno.TheVariants.{EAGAIN, ECHILD, ENOENT, ENOEXEC, EBADF, EACCES, ENOTDIR, EINVAL, EISDIR, EMFILE}
use Rattle.pv_model.specs.declared.follow.Follow.{Follow}
use Rattle.pv_model.specs.declared.follow.Follow.TheVariants.{Last, Keep}
use Rattle.pv_model.specs.Machine.{Attempt, ◌>>=◌, ◌>>◌, refuse_if, demand, Bytes, is_empty, little_endian, with_descriptor, is_number, within, close, dup, dup2, fstat, fchdir, directory_of, read, seek_base, lseek, next_name, list_name, getdents, open_file_for, link_text, chdir, stat_at, readlink, parent_of, statuses, child, fork, children, reap, wait, executable_bytes, execve, asked_promises, unless_refused, entries_of_table, add_target, refuse_if_locked, pledge, unveil, Effect, returns, returns_bytes, waits, answers, answers_bytes, walk_from, node_of, descriptor_at, open_file, status, with_number, least_free, permission_r, permission_x, read_permissions, narrow_promises, is_lenient, OpenFile, Program, Process, ProcessRecord, State, reads, with_process, node_at, entries_at, is_directory_at, Table, entry_for, target_of, from_here}
use Rattle.pv_laws_states.proofs.AttemptValues.{Leads, leads-after_walks, leads-bind, leads-then, leads-demand, leads-walk, leads-place, leads-any}
use Rattle.pv_laws_states.proofs.ValidByFile.{open_file-at, open_file_for-at}
use Rattle.pv_laws_states.proofs.ValidByTable.{first-ended}
use Rattle.pv_laws_states.proofs.CallRemainders
use Rattle.pv_laws_access.specs.Growth.{HasNoMoreRights, KeepsEntries}
use Rattle.pv_laws_access.proofs.NarrowedRestraints.{narrows, leads-unless_refused, leads-add_table_entry, table-itself, gains-self, keeps-of_table, no_more-same}
use Rattle.pv_laws_access.proofs.CallEffects.{HasEffect, stays, restrains, begins, closes, copies, forks, reaps, moves, Did, open_file_for-is}

-- an attempt after the check for a lock
leads-unlocked : {A : Type 0} (P : A → Type 0) (b : Bool) (next : Attempt A) → (b ≡ false → Leads P next) → Leads P (refuse_if_locked b >> next)
leads-unlocked P true next is = tt
leads-unlocked P false next is = leads-after_walks P 0 next (is refl)

module _ (s : State) (pid : ℕ) (me : Process) where
  abbrev D : Call → Effect → Type 0
  D call = Did s pid me call

  -- processes

  pub does-fork : Leads (D TheCall.Fork) (fork s pid me)
  does-fork =
      leads-then (D TheCall.Fork) (refuse_if EAGAIN (nat_le 32 (length s.processes) || nat_lt 99999 (suc s.last_process)))
      (answers (record (with_process s (suc s.last_process) (child s pid me)) { last_process = suc s.last_process }) (suc s.last_process)) (forks refl)

  does-reap : (ss : List (ℕ × ℕ)) → statuses (children s pid me) ≡ ss → Leads (D TheCall.Wait) (reap s pid me ss)
  does-reap [] is = stays waits (λ waiting. refl)
  does-reap ((k, status) ∷ rs) is =
      reaps k (returns_bytes k (little_endian 4 status))
      (λ sorted. let ended = first-ended s.processes (λ (r : ℕ × ProcessRecord). parent_of r.1 == pid) sorted k status rs is in (ended.0, status, ended.1)) refl

  pub does-wait : Leads (D TheCall.Wait) (wait s pid me)
  does-wait = leads-then (D TheCall.Wait) (refuse_if ECHILD (is_empty (children s pid me))) (reap s pid me (statuses (children s pid me))) (does-reap (statuses (children s pid me)) refl)

  -- restraints

  module _ (promises execpromises : Option Bytes) where
    abbrev L : Call
    L = TheCall.Pledge promises execpromises

    pub does-pledge : Leads (D L) (pledge s pid me promises execpromises)
    does-pledge =
        leads-bind (D L) (λ _. Unit {0}) (asked_promises promises) (CallRemainders.pledge_1 s pid me execpromises) (leads-any (asked_promises promises)) (λ asked _.
        leads-bind (D L) (λ _. Unit {0}) (asked_promises execpromises) (CallRemainders.pledge_2 s pid me asked) (leads-any (asked_promises execpromises)) (λ exec_asked _.
        leads-bind (D L) (λ preserved. narrow_promises (is_lenient me.promises) me.promises asked ≡ Ok preserved) (unless_refused (narrow_promises (is_lenient me.promises) me.promises asked)) (CallRemainders.pledge_3 s pid me exec_asked)
        (leads-unless_refused (narrow_promises (is_lenient me.promises) me.promises asked)) (λ preserved narrowed.
        leads-bind (D L) (λ preserved. narrow_promises (is_lenient me.promises) me.execpromises exec_asked ≡ Ok preserved) (unless_refused (narrow_promises (is_lenient me.promises) me.execpromises exec_asked))
        (λ exec_preserved. answers (with_process s pid (record me { promises = preserved; execpromises = exec_preserved })) 0)
        (leads-unless_refused (narrow_promises (is_lenient me.promises) me.execpromises exec_asked)) (λ exec_preserved exec_narrowed.
        restrains (record me { promises = preserved; execpromises = exec_preserved }) (returns 0)
        (record {
          promises = narrows (is_lenient me.promises) me.promises asked preserved narrowed;
          execpromises = narrows (is_lenient me.promises) me.execpromises exec_asked exec_preserved exec_narrowed;
          table = table-itself me.table;
          lock = λ is. is;
          closed = λ is. refl;
        }) refl refl (λ no. (refl, refl)) refl))))

  with_table : (table : Table) → me.locked ≡ false → KeepsEntries (entries_of_table me.table) table → HasNoMoreRights me (record me { table = Some table })
  with_table table unlocked keeps = record {
    promises = gains-self me.promises;
    execpromises = gains-self me.execpromises;
    table = keeps-of_table me.table table keeps;
    lock = λ is. is;
    closed = λ is. cc;
  }

  pub does-unveil : (path permissions : Option Bytes) → Leads (D (TheCall.Unveil path permissions)) (unveil s pid me path permissions)
  does-unveil None None =
      restrains (record me { locked = true }) (returns 0)
      (record { promises = gains-self me.promises; execpromises = gains-self me.execpromises; table = table-itself me.table; lock = λ is. refl; closed = λ is. refl }) refl refl (λ no. cc no) refl
  does-unveil None (Some permissions) = tt
  does-unveil (Some path) None = tt
  does-unveil (Some path) (Some text) =
      let C : Call = TheCall.Unveil (Some path) (Some text) in
      leads-demand (D C) EINVAL (read_permissions text) (CallRemainders.unveil_1 s pid me path) (λ permissions read.
      leads-unlocked (D C) me.locked (walk_from s me.directory Last path >>= CallRemainders.unveil_2 s pid me permissions) (λ unlocked.
      leads-walk (D C) s me.directory Last path (CallRemainders.unveil_2 s pid me permissions) (λ place found.
      leads-bind (D C) (KeepsEntries (entries_of_table me.table)) (add_target s pid me (target_of s.tree place) permissions) (CallRemainders.unveil_3 s pid me)
      (leads-add_table_entry (entries_of_table me.table) (target_of s.tree place) permissions (entry_for (entries_of_table me.table) (target_of s.tree place)) refl) (λ table keeps.
      restrains (record me { table = Some table }) (returns 0) (with_table table unlocked keeps) refl refl (λ no. cc no) refl))))

  pub does-execve : (program_of : Bytes → Option Program) (path : Bytes) → Leads (D (TheCall.Execve path)) (execve s pid me program_of path)
  does-execve program_of path =
      let C : Call = TheCall.Execve path in
      leads-place (D C) s me me.directory Last path permission_x (CallRemainders.execve_1 s pid me program_of) (λ place found.
      leads-demand (D C) ENOENT (node_of place) (CallRemainders.execve_2 s pid me program_of) (λ n is.
      leads-demand (D C) EACCES (executable_bytes (node_at s.tree n)) (CallRemainders.execve_3 s pid me program_of) (λ bytes file.
      leads-demand (D C) ENOEXEC (program_of bytes) (CallRemainders.execve_4 s pid me) (λ program encoded. begins path program refl))))

  -- paths

  goes : (call : Call) (n : ℕ) → HasEffect s pid me call (with_process s pid (record me { directory = n })) (returns 0)
  goes call n = restrains (record me { directory = n }) (returns 0) (no_more-same me (record me { directory = n }) refl refl refl refl) refl refl (λ no. (refl, refl)) refl

  pub does-chdir : (path : Bytes) → Leads (D (TheCall.Chdir path)) (chdir s pid me path)
  does-chdir path =
      let C : Call = TheCall.Chdir path in
      leads-place (D C) s me me.directory Last path permission_r (CallRemainders.chdir_1 s pid me) (λ place found.
      leads-demand (D C) ENOENT (node_of place) (CallRemainders.chdir_2 s pid me) (λ n is.
      leads-then (D C) (refuse_if ENOTDIR (not (is_directory_at s.tree n))) (answers (with_process s pid (record me { directory = n })) 0) (goes C n)))

  pub does-stat : (call : Call) (follow : Follow) (path : Bytes) → Leads (D call) (stat_at s pid me (from_here follow path permission_r))
  does-stat call follow path =
      leads-place (D call) s me me.directory follow path permission_r (CallRemainders.stat_1 s pid me) (λ place found.
      leads-demand (D call) ENOENT (node_of place) (λ n. answers_bytes s 0 (status s.tree n)) (λ n is. stays (returns_bytes 0 (status s.tree n)) (λ no. cc no)))

  pub does-readlink : (path : Bytes) → Leads (D (TheCall.Readlink path)) (readlink s pid me path)
  does-readlink path =
      let C : Call = TheCall.Readlink path in
      leads-place (D C) s me me.directory Keep path permission_r (CallRemainders.readlink_1 s pid me) (λ place found.
      leads-demand (D C) ENOENT (node_of place) (CallRemainders.readlink_2 s pid me) (λ n is.
      leads-demand (D C) EINVAL (link_text (node_at s.tree n)) (λ text. answers_bytes s (length text) text) (λ text link. stays (returns_bytes (length text) text) (λ no. cc no))))

  -- descriptors

  pub does-fstat : (d : ℤ) → Leads (D (TheCall.Fstat d)) (fstat s pid me d)
  does-fstat d = leads-demand (D (TheCall.Fstat d)) EBADF (open_file s me d) (λ (k, file). answers_bytes s 0 (status s.tree file.node)) (λ f is. stays (returns_bytes 0 (status s.tree f.1.node)) (λ no. cc no))

  pub does-fchdir : (d : ℤ) → Leads (D (TheCall.Fchdir d)) (fchdir s pid me d)
  does-fchdir d =
      leads-bind (D (TheCall.Fchdir d)) (λ _. Unit {0}) (directory_of s pid me d) (λ directory. answers (with_process s pid (record me { directory = directory })) 0) (leads-any (directory_of s pid me d))
      (λ n _. goes (TheCall.Fchdir d) n)

  pub does-close : (d : ℤ) → Leads (D (TheCall.Close d)) (close s pid me d)
  does-close (negsuc d) = tt
  does-close (pos d) =
      leads-then (D (TheCall.Close (pos d))) (demand EBADF (descriptor_at me (pos d)))
      (answers (with_process s pid (record me { descriptors = Rattle.pv_model.specs.Numbered.without_number me.descriptors d })) 0) (closes d)

  pub does-dup : (d : ℤ) → Leads (D (TheCall.Dup d)) (dup s pid me d)
  does-dup d =
      let C : Call = TheCall.Dup d in
      leads-demand (D C) EBADF (descriptor_at me d) (CallRemainders.dup_1 s pid me) (λ x is.
      leads-then (D C) (refuse_if EMFILE (nat_le 16 (least_free me.descriptors))) (answers (with_descriptor s pid me s x.file false) (least_free me.descriptors)) (copies d x (least_free me.descriptors) is))

  pub does-dup2 : (d e : ℤ) → Leads (D (TheCall.Dup2 d e)) (dup2 s pid me d e)
  does-dup2 d e =
      let C : Call = TheCall.Dup2 d e in
      leads-demand (D C) EBADF (descriptor_at me d) (CallRemainders.dup2_1 s pid me d e) (λ x is.
      leads-demand (D C) EBADF (within 15 e) (CallRemainders.dup2_2 s pid me d x) (λ number low.
      elim (is_number d number) as (λ b. HasEffect s pid me C (if b then s else with_process s pid (record me { descriptors = with_number me.descriptors number (record x { close_on_exec = false }) })) (returns number)) [
        | true ↦ stays (returns number) (λ no. cc no)
        | false ↦ copies d x number is
      ]))

  -- open files

  pub does-lseek : (d by : ℤ) (whence : Whence) → Leads (D (TheCall.Lseek d by whence)) (lseek s pid me d by whence)
  does-lseek d by whence =
      let C : Call = TheCall.Lseek d by whence in
      leads-demand (D C) EBADF (open_file s me d) (CallRemainders.lseek_1 s pid me by whence) (λ (k, file) is.
      leads-then (D C) (refuse_if EINVAL (is_directory_at s.tree file.node)) (CallRemainders.lseek_2 s pid me by whence k file) (
      leads-demand (D C) EINVAL (within 2147483647 (pos (seek_base s pid me file whence) +ℤ by)) (CallRemainders.lseek_3 s pid me k file) (λ offset low.
      moves k file (record file { offset = offset }) (returns offset) (open_file-at s me d k file is) refl refl (d, refl, is) refl)))

  pub does-read : (d n : ℤ) → Leads (D (TheCall.Read d n)) (read s pid me d n)
  does-read d n =
      let C : Call = TheCall.Read d n in
      leads-demand (D C) EBADF (open_file_for s pid me reads d) (CallRemainders.read_1 s pid me n) (λ (k, file) is.
      leads-demand (D C) EINVAL (within 4096 n) (CallRemainders.read_2 s pid me k file) (λ count low.
      leads-then (D C) (refuse_if EISDIR (is_directory_at s.tree file.node)) (CallRemainders.read_3 s pid me k file count)
      (moves k file (record file { offset = file.offset + length (CallRemainders.read_bytes s pid me count file) })
      (returns_bytes (length (CallRemainders.read_bytes s pid me count file)) (CallRemainders.read_bytes s pid me count file)) (open_file_for-at s pid me reads d k file is).0 refl refl (d, refl, (open_file_for-is s pid me reads d k file is).0) refl)))

  pub does-getdents : (d : ℤ) → Leads (D (TheCall.Getdents d)) (getdents s pid me d)
  does-getdents d =
      let C : Call = TheCall.Getdents d in
      leads-demand (D C) EBADF (open_file s me d) (CallRemainders.getdents_1 s pid me) (λ (k, file) is.
      leads-then (D C) (refuse_if EINVAL (not (is_directory_at s.tree file.node))) (CallRemainders.getdents_2 s pid me k file)
      (listed k file is (open_file-at s me d k file is) (next_name file.listed (entries_at s.tree file.node))))
    where
      listed : (k : ℕ) (file : OpenFile) → open_file s me d ≡ Some (k, file) → Rattle.pv_model.specs.Numbered.at_number s.files k ≡ Some file → (o : Option Bytes) → Leads (D (TheCall.Getdents d)) (list_name s pid me k file o)
      listed k file is there None = stays (returns_bytes 0 []) (λ no. cc no)
      listed k file is there (Some name) = moves k file (record file { listed = Some name }) (returns_bytes (length name) name) there refl refl (d, refl, is) refl
