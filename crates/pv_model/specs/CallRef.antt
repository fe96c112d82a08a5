-- Calls and walks that borrow their texts.
use Rattle.std.specs.Prelude.{List, [], ◌∷◌, option_copied}
use Rattle.pv_model.specs.declared.call.Call.{Call}
use Rattle.pv_model.specs.declared.call.Call.TheVariants.{Exit, GetPid, GetPpid, Fork, Wait, Pledge, Unveil, Execve, Open, OpenAt, Close, Dup, Dup2, Read, Write, Lseek, Fstat, Ftruncate, Getdents, Fchdir, Chdir, Stat, Lstat, Readlink, Mkdir, Symlink, Link, Unlink, Rmdir, Rename}
use Rattle.pv_model.specs.declared.call_ref.CallRef.{CallRef}
use Rattle.pv_model.specs.declared.call_ref.CallRef.TheVariants.{Exit as ExitRef, GetPid as GetPidRef, GetPpid as GetPpidRef, Fork as ForkRef, Wait as WaitRef, Pledge as PledgeRef, Unveil as UnveilRef, Execve as ExecveRef, Open as OpenRef, OpenAt as OpenAtRef, Close as CloseRef, Dup as DupRef, Dup2 as Dup2Ref, Read as ReadRef, Write as WriteRef, Lseek as LseekRef, Fstat as FstatRef, Ftruncate as FtruncateRef, Getdents as GetdentsRef, Fchdir as FchdirRef, Chdir as ChdirRef, Stat as StatRef, Lstat as LstatRef, Readlink as ReadlinkRef, Mkdir as MkdirRef, Symlink as SymlinkRef, Link as LinkRef, Unlink as UnlinkRef, Rmdir as RmdirRef, Rename as RenameRef}
use Rattle.pv_model.specs.declared.walk.Walk.{Walk as WalkRef}
use Rattle.pv_model.specs.declared.walk.Walks.{Walks}
use Rattle.pv_model.specs.declared.walk.Walks.TheVariants.{Zero, One, Two}
use Rattle.pv_model.specs.Walks.{Walk}

abbrev pub call_of : CallRef → Call
call_of (ExitRef n) = Exit n
call_of GetPidRef = GetPid
call_of GetPpidRef = GetPpid
call_of ForkRef = Fork
call_of WaitRef = Wait
call_of (PledgeRef promises execpromises) = Pledge (option_copied promises) (option_copied execpromises)
call_of (UnveilRef path permissions) = Unveil (option_copied path) (option_copied permissions)
call_of (ExecveRef path) = Execve path.now
call_of (OpenRef path flags) = Open path.now flags
call_of (OpenAtRef start path flags) = OpenAt start path.now flags
call_of (CloseRef d) = Close d
call_of (DupRef d) = Dup d
call_of (Dup2Ref d e) = Dup2 d e
call_of (ReadRef d n) = Read d n
call_of (WriteRef d n) = Write d n
call_of (LseekRef d by whence) = Lseek d by whence
call_of (FstatRef d) = Fstat d
call_of (FtruncateRef d n) = Ftruncate d n
call_of (GetdentsRef d) = Getdents d
call_of (FchdirRef d) = Fchdir d
call_of (ChdirRef path) = Chdir path.now
call_of (StatRef path) = Stat path.now
call_of (LstatRef path) = Lstat path.now
call_of (ReadlinkRef path) = Readlink path.now
call_of (MkdirRef path) = Mkdir path.now
call_of (SymlinkRef text path) = Symlink text.now path.now
call_of (LinkRef path new) = Link path.now new.now
call_of (UnlinkRef path) = Unlink path.now
call_of (RmdirRef path) = Rmdir path.now
call_of (RenameRef path new) = Rename path.now new.now

abbrev pub walk_of : WalkRef → Walk
walk_of w = record { start = w.start; follow = w.follow; path = w.path.now; needed = w.needed }

abbrev pub walks_in : Walks → List Walk
walks_in Zero = []
walks_in (One w) = walk_of w ∷ []
walks_in (Two w v) = walk_of w ∷ walk_of v ∷ []
