-- A process stays live after a call that answers a number.
use Rattle.std.proofs.Common.{◌≡◌, ℕ, List, ◌∷◌, Bool, true, false, cond, Option, None, Some, refl, subst, sym}
use Rattle.std.specs.Prelude.{IsSome, if◌then◌else◌, []}
use Rattle.pv_model.specs.declared.call.Call.{Call}
use Rattle.pv_model.specs.declared.call.Call.TheVariants.{Exit, GetPid, GetPpid, Fork, Wait, Pledge, Unveil, Execve, Open, OpenAt, Close, Dup, Dup2, Read, Write, Lseek, Fstat, Ftruncate, Getdents, Fchdir, Chdir, Stat, Lstat, Readlink, Mkdir, Symlink, Link, Unlink, Rmdir, Rename}
use Rattle.pv_model.specs.declared.call.Start.{Start}
use Rattle.pv_model.specs.declared.call.Start.TheVariants.{WorkingDirectory}
use Rattle.pv_model.specs.declared.errno.Errno.TheVariants.{ECHILD, EPERM, ENOENT, EBUSY, EEXIST, ENOTDIR, EISDIR, EINVAL, ENAMETOOLONG, ENOTEMPTY, EMFILE, ENFILE, ELOOP, EACCES, ENOEXEC}
use Rattle.pv_model.specs.declared.open_flags.OpenFlags.{OpenFlags}
use Rattle.pv_model.specs.Machine.{effect, Attempt, refuse_if, ◌>>=◌, Bytes, is_empty, close, dup, dup2, fchdir, fstat, ftruncate, getdents, lseek, read, write, open_at, open_node, with_open_file, with_content, new_open_file, check_start, chdir, link_text, readlink, stat_at, symlink, link, unlink, rmdir, rename, move_entry, same_node, children, execve, executable_bytes, fork, reap, statuses, with_program, pledge, unveil, add_target, refuse_if_locked, Effect, answers, node_of, name_of, start_directory, with_file, with_room, program_of, read_permissions, Process, State, process_at, with_process, with_tree, least_free, with_number, Node, file_node, Tree, new_number, node_at, with_new_node, target_of, Walk, execve_walk, open_walk, rename_walk, unveil_walk}
use Rattle.pv_model.specs.Calls.Paths.{mkdir, make}
use Rattle.pv_model.specs.Walks.{chdir_walk, stat_walk, lstat_walk, readlink_walk, mkdir_walk, symlink_walk, linked_walk, new_link_walk, unlink_walk, rmdir_walk}
use Rattle.pv_laws_states.proofs.AttemptValues.{Leads, leads-bind, leads-then, leads-refuse_if, leads-demand, leads-walk, leads-place, leads-room, leads-any}
use Rattle.pv_laws_states.proofs.Processes.{process_at-same}
use Rattle.pv_laws_states.specs.States.{IsValid}
use Rattle.pv_calls.proofs.StatesAfterCalls.{LivesOn, Stays, lives-on, leads-weaker, stays-fork, stays-pledge, stays-close, stays-dup, stays-dup2, stays-read, stays-write, stays-lseek, stays-fstat, stays-ftruncate, stays-getdents, stays-fchdir}

abbrev Lives : ℕ → Effect → Type 0
Lives pid e = IsSome (process_at e.0 pid)

module _ (s : State) (pid : ℕ) (me : Process) (at : process_at s pid ≡ Some me) where
  live : IsSome (process_at s pid)
  live = subst IsSome (sym at) refl

  with-it : (x : State) (q : Process) → IsSome (process_at (with_process x pid q) pid)
  with-it x q = subst IsSome (sym (process_at-same x pid q)) refl

  room : (t : Tree) → Leads (Lives pid) (with_room (with_tree s t) >>= (λ after. answers after 0))
  room t = leads-room (Lives pid) (with_tree s t) (λ after. answers after 0) (λ long fit. live)

  lives-chdir : (path : Bytes) → Leads (Lives pid) (chdir s pid me path)
  lives-chdir path =
      leads-place (Lives pid) s me me.directory (chdir_walk path).follow path (chdir_walk path).needed _ (λ place found.
      leads-demand (Lives pid) ENOENT (node_of place) _ (λ n is.
      leads-refuse_if (Lives pid) ENOTDIR _ _ (λ directory. with-it s (record me { directory = n }))))

  lives-make : (w : Walk) (node : Node) → Leads (Lives pid) (make s pid me w node)
  lives-make w node =
      leads-place (Lives pid) s me (start_directory s me w.start w.path) w.follow w.path w.needed _ (λ place found.
      leads-refuse_if (Lives pid) EEXIST _ _ (λ absent.
      leads-demand (Lives pid) EEXIST (name_of place) _ (λ p is. room _)))

  lives-symlink : (text path : Bytes) → Leads (Lives pid) (symlink s pid me text path)
  lives-symlink text path = leads-refuse_if (Lives pid) ENOENT _ _ (λ some. leads-refuse_if (Lives pid) ENAMETOOLONG _ _ (λ short. lives-make (symlink_walk path) _))

  lives-link : (path new : Bytes) → Leads (Lives pid) (link s pid me path new)
  lives-link path new =
      leads-place (Lives pid) s me me.directory (linked_walk path).follow path (linked_walk path).needed _ (λ old found.
      leads-place (Lives pid) s me me.directory (new_link_walk new).follow new (new_link_walk new).needed _ (λ place reached.
      leads-demand (Lives pid) ENOENT (node_of old) _ (λ n is.
      leads-refuse_if (Lives pid) EPERM _ _ (λ file.
      leads-refuse_if (Lives pid) EEXIST _ _ (λ absent.
      leads-demand (Lives pid) EEXIST (name_of place) _ (λ p named. room _))))))

  lives-unlink : (path : Bytes) → Leads (Lives pid) (unlink s pid me path)
  lives-unlink path =
      leads-place (Lives pid) s me me.directory (unlink_walk path).follow path (unlink_walk path).needed _ (λ place found.
      leads-demand (Lives pid) ENOENT (node_of place) _ (λ n is.
      leads-refuse_if (Lives pid) EPERM _ _ (λ file.
      leads-demand (Lives pid) EPERM (name_of place) _ (λ p named. live))))

  lives-rmdir : (path : Bytes) → Leads (Lives pid) (rmdir s pid me path)
  lives-rmdir path =
      leads-refuse_if (Lives pid) EINVAL _ _ (λ plain.
      leads-place (Lives pid) s me me.directory (rmdir_walk path).follow path (rmdir_walk path).needed _ (λ place found.
      leads-demand (Lives pid) ENOENT (node_of place) _ (λ n is.
      leads-refuse_if (Lives pid) ENOTDIR _ _ (λ directory.
      leads-demand (Lives pid) EBUSY (name_of place) _ (λ p named.
      leads-refuse_if (Lives pid) ENOTEMPTY _ _ (λ empty. live))))))

  lives-move : (n d : ℕ) (name : Bytes) (e : ℕ) (new : Bytes) (there : Option ℕ) → Leads (Lives pid) (move_entry s pid me n d name e new there)
  lives-move n d name e new there =
      leads-refuse_if (Lives pid) EINVAL _ _ (λ a.
      leads-refuse_if (Lives pid) EISDIR _ _ (λ b.
      leads-refuse_if (Lives pid) ENOTDIR _ _ (λ c.
      leads-refuse_if (Lives pid) ENOTEMPTY _ _ (λ f. room _))))

  either : (b : Bool) (x y : Attempt Effect) → Leads (Lives pid) x → Leads (Lives pid) y → Leads (Lives pid) (cond b x y)
  either true x y px py = px
  either false x y px py = py

  lives-rename : (path new : Bytes) → Leads (Lives pid) (rename s pid me path new)
  lives-rename path new =
      leads-refuse_if (Lives pid) EINVAL _ _ (λ plain.
      leads-place (Lives pid) s me me.directory (rename_walk path).follow path (rename_walk path).needed _ (λ old found.
      leads-place (Lives pid) s me me.directory (rename_walk new).follow new (rename_walk new).needed _ (λ place reached.
      leads-demand (Lives pid) ENOENT (node_of old) _ (λ n is.
      leads-demand (Lives pid) EBUSY (name_of old) _ (λ p named.
      leads-demand (Lives pid) EBUSY (name_of place) _ (λ q other.
      either (same_node (node_of place) n) (answers s 0) (move_entry s pid me n p.0 p.1 q.0 q.1 (node_of place)) live (lives-move n p.0 p.1 q.0 q.1 (node_of place))))))))

  opened-it : (f : OpenFlags) (n : ℕ) (t : Tree) → IsSome (process_at (with_open_file s pid me f n t) pid)
  opened-it f n t =
      with-it (with_file (with_tree s t) (least_free s.files) (new_open_file f n)) (record me {
        descriptors = with_number me.descriptors (least_free me.descriptors) (record { file = least_free s.files; close_on_exec = f.close_on_exec });
      })

  opened : (f : OpenFlags) (name : Option (ℕ × Bytes)) (node : Option ℕ) → Leads (λ (x : State). IsSome (process_at x pid)) (open_node s pid me f name node)
  opened f name (Some n) = opened-it f n (if f.truncate then with_content s.tree n [] else s.tree)
  opened f (Some p) None = opened-it f (new_number s.tree) (with_new_node s.tree p.0 p.1 (file_node false []))
  opened f None None = tt

  lives-open : (start : Start) (path : Bytes) (f : OpenFlags) → Leads (Lives pid) (open_at s pid me start path f)
  lives-open start path f =
      let w = open_walk start path f in
      leads-refuse_if (Lives pid) EINVAL _ _ (λ a.
      leads-then (Lives pid) (check_start s pid me start path) _ (
      leads-refuse_if (Lives pid) EMFILE _ _ (λ b.
      leads-refuse_if (Lives pid) ENFILE _ _ (λ c.
      leads-place (Lives pid) s me (start_directory s me w.start w.path) w.follow w.path w.needed _ (λ place found.
      leads-refuse_if (Lives pid) EEXIST _ _ (λ d.
      leads-refuse_if (Lives pid) ENOENT _ _ (λ e.
      leads-refuse_if (Lives pid) ELOOP _ _ (λ g.
      leads-refuse_if (Lives pid) ENOTDIR _ _ (λ h.
      leads-refuse_if (Lives pid) EISDIR _ _ (λ i.
      leads-bind (Lives pid) (λ (x : State). IsSome (process_at x pid)) (open_node s pid me f (name_of place) (node_of place)) _ (opened f (name_of place) (node_of place)) (λ after lives.
      leads-room (Lives pid) after _ (λ long fit. lives))))))))))))

  lives-unveil : (path permissions : Option Bytes) → Leads (Lives pid) (unveil s pid me path permissions)
  lives-unveil None None = with-it s (record me { locked = true })
  lives-unveil (Some path) (Some text) =
      leads-demand (Lives pid) EINVAL (read_permissions text) _ (λ permissions read.
      leads-then (Lives pid) (refuse_if_locked me.locked) _ (
      leads-walk (Lives pid) s me.directory (unveil_walk path permissions).follow path _ (λ place found.
      leads-bind (Lives pid) (λ _. Unit {0}) (add_target s pid me (target_of s.tree place) permissions) _ (leads-any (add_target s pid me (target_of s.tree place) permissions)) (λ table known.
      with-it s (record me { table = Some table })))))
  lives-unveil None (Some text) = tt
  lives-unveil (Some path) None = tt

  lives-execve : (path : Bytes) → Leads (Lives pid) (execve s pid me program_of path)
  lives-execve path =
      leads-place (Lives pid) s me me.directory (execve_walk path).follow path (execve_walk path).needed _ (λ place found.
      leads-demand (Lives pid) ENOENT (node_of place) _ (λ n is.
      leads-demand (Lives pid) EACCES (executable_bytes (node_at s.tree n)) _ (λ bytes has.
      leads-demand (Lives pid) ENOEXEC (program_of bytes) _ (λ program encoded. with-it s (with_program s pid me program)))))

  reports-stat : (w : Walk) → Leads (LivesOn pid) (stat_at s pid me w)
  reports-stat w =
      leads-place (LivesOn pid) s me (start_directory s me w.start w.path) w.follow w.path w.needed _ (λ place found.
      leads-demand (LivesOn pid) ENOENT (node_of place) _ (λ n is. tt))

  reports-readlink : (path : Bytes) → Leads (LivesOn pid) (readlink s pid me path)
  reports-readlink path =
      leads-place (LivesOn pid) s me me.directory (readlink_walk path).follow path (readlink_walk path).needed _ (λ place found.
      leads-demand (LivesOn pid) ENOENT (node_of place) _ (λ n is.
      leads-demand (LivesOn pid) EINVAL (link_text (node_at s.tree n)) _ (λ text has. tt)))

  reports-reap : (ss : List (ℕ × ℕ)) → Leads (LivesOn pid) (reap s pid me ss)
  reports-reap [] = tt
  reports-reap ((number, status) ∷ ss) = tt

  on : (a : Attempt Effect) → Leads (Lives pid) a → Leads (LivesOn pid) a
  on a = leads-weaker (Lives pid) (LivesOn pid) a (lives-on pid)

  module _ (whole : IsValid s) where
    stays : (a : Attempt Effect) → Leads (Stays s pid) a → Leads (LivesOn pid) a
    stays a = leads-weaker (Stays s pid) (LivesOn pid) a (λ e both. lives-on pid e both.1)

    -- the process of a call that answers a number stays live
    pub lives : (call : Call) → Leads (LivesOn pid) (effect program_of s pid me call)
    unfolding effect
    lives (Exit code) = tt
    lives GetPid = live
    lives GetPpid = live
    lives Fork = stays (fork s pid me) (stays-fork s pid me whole at)
    lives Wait = leads-then (LivesOn pid) (refuse_if ECHILD (is_empty (children s pid me))) (reap s pid me (statuses (children s pid me))) (reports-reap (statuses (children s pid me)))
    lives (Pledge promises execpromises) = stays (pledge s pid me promises execpromises) (stays-pledge s pid me whole at promises execpromises)
    lives (Unveil path permissions) = on (unveil s pid me path permissions) (lives-unveil path permissions)
    lives (Execve path) = on (execve s pid me program_of path) (lives-execve path)
    lives (Open path flags) = on (open_at s pid me WorkingDirectory path flags) (lives-open WorkingDirectory path flags)
    lives (OpenAt start path flags) = on (open_at s pid me start path flags) (lives-open start path flags)
    lives (Close d) = stays (close s pid me d) (stays-close s pid me whole at d)
    lives (Dup d) = stays (dup s pid me d) (stays-dup s pid me whole at d)
    lives (Dup2 d e) = stays (dup2 s pid me d e) (stays-dup2 s pid me whole at d e)
    lives (Read d n) = stays (read s pid me d n) (stays-read s pid me whole at d n)
    lives (Write d n) = stays (write s pid me d n) (stays-write s pid me whole at d n)
    lives (Lseek d by whence) = stays (lseek s pid me d by whence) (stays-lseek s pid me whole at d by whence)
    lives (Fstat d) = stays (fstat s pid me d) (stays-fstat s pid me whole at d)
    lives (Ftruncate d n) = stays (ftruncate s pid me d n) (stays-ftruncate s pid me whole at d n)
    lives (Getdents d) = stays (getdents s pid me d) (stays-getdents s pid me whole at d)
    lives (Fchdir d) = stays (fchdir s pid me d) (stays-fchdir s pid me whole at d)
    lives (Chdir path) = on (chdir s pid me path) (lives-chdir path)
    lives (Stat path) = reports-stat (stat_walk path)
    lives (Lstat path) = reports-stat (lstat_walk path)
    lives (Readlink path) = reports-readlink path
    lives (Mkdir path) = on (mkdir s pid me path) (lives-make (mkdir_walk path) _)
    lives (Symlink text path) = on (symlink s pid me text path) (lives-symlink text path)
    lives (Link path new) = on (link s pid me path new) (lives-link path new)
    lives (Unlink path) = on (unlink s pid me path) (lives-unlink path)
    lives (Rmdir path) = on (rmdir s pid me path) (lives-rmdir path)
    lives (Rename path new) = on (rename s pid me path new) (lives-rename path new)
