-- The effect of each call.
use Rattle.std.proofs.Common.{ℕ, Option}
use Rattle.pv_model.specs.declared.call.Call.{Call}
use Rattle.pv_model.specs.declared.call.Call.TheVariants.{Exit, GetPid, GetPpid, Fork, Wait, Pledge, Unveil, Execve, Open, OpenAt, Close, Dup, Dup2, Read, Write, Lseek, Fstat, Ftruncate, Getdents, Fchdir, Chdir, Stat, Lstat, Readlink, Mkdir, Symlink, Link, Unlink, Rmdir, Rename}
use Rattle.pv_model.specs.declared.follow.Follow.TheVariants.{Last, Keep}
use Rattle.pv_model.specs.Machine.{effect, Bytes, returns, ends, Program, Process, State}
use Rattle.pv_model.specs.Calls.Processes.{exit_status}
use Rattle.pv_laws_states.proofs.AttemptValues.{Leads}
use Rattle.pv_laws_access.proofs.CallEffects.{stays, Did}
use Rattle.pv_laws_access.proofs.EffectByOpen.{does-open, does-open_at}
use Rattle.pv_laws_access.proofs.EffectByProcess.{does-fork, does-wait, does-pledge, does-unveil, does-execve, does-chdir, does-stat, does-readlink, does-fstat, does-fchdir, does-close, does-dup, does-dup2, does-lseek, does-read, does-getdents}
use Rattle.pv_laws_access.proofs.EffectByTree.{does-mkdir, does-symlink, does-link, does-unlink, does-rmdir, does-rename, does-write, does-ftruncate}

pub does-effect : (program_of : Bytes → Option Program) (s : State) (pid : ℕ) (me : Process) (call : Call) → Leads (Did s pid me call) (effect program_of s pid me call)
unfolding effect
does-effect program_of s pid me (Exit code) = stays (ends (exit_status code)) (λ no. cc no)
does-effect program_of s pid me GetPid = stays (returns pid) (λ no. cc no)
does-effect program_of s pid me GetPpid = stays (returns me.parent) (λ no. cc no)
does-effect program_of s pid me Fork = does-fork s pid me
does-effect program_of s pid me Wait = does-wait s pid me
does-effect program_of s pid me (Pledge promises execpromises) = does-pledge s pid me promises execpromises
does-effect program_of s pid me (Unveil path permissions) = does-unveil s pid me path permissions
does-effect program_of s pid me (Execve path) = does-execve s pid me program_of path
does-effect program_of s pid me (Open path flags) = does-open s pid me path flags
does-effect program_of s pid me (OpenAt start path flags) = does-open_at s pid me path flags start
does-effect program_of s pid me (Close d) = does-close s pid me d
does-effect program_of s pid me (Dup d) = does-dup s pid me d
does-effect program_of s pid me (Dup2 d e) = does-dup2 s pid me d e
does-effect program_of s pid me (Read d n) = does-read s pid me d n
does-effect program_of s pid me (Write d n) = does-write s pid me d n
does-effect program_of s pid me (Lseek d by whence) = does-lseek s pid me d by whence
does-effect program_of s pid me (Fstat d) = does-fstat s pid me d
does-effect program_of s pid me (Ftruncate d n) = does-ftruncate s pid me d n
does-effect program_of s pid me (Getdents d) = does-getdents s pid me d
does-effect program_of s pid me (Fchdir d) = does-fchdir s pid me d
does-effect program_of s pid me (Chdir path) = does-chdir s pid me path
does-effect program_of s pid me (Stat path) = does-stat s pid me (Stat path) Last path
does-effect program_of s pid me (Lstat path) = does-stat s pid me (Lstat path) Keep path
does-effect program_of s pid me (Readlink path) = does-readlink s pid me path
does-effect program_of s pid me (Mkdir path) = does-mkdir s pid me path
does-effect program_of s pid me (Symlink text path) = does-symlink s pid me text path
does-effect program_of s pid me (Link path new) = does-link s pid me path new
does-effect program_of s pid me (Unlink path) = does-unlink s pid me path
does-effect program_of s pid me (Rmdir path) = does-rmdir s pid me path
does-effect program_of s pid me (Rename path new) = does-rename s pid me path new
