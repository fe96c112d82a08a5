-- Runs with execve.
use Rattle.std.specs.Prelude.{◌≡◌, [], ◌∷◌, codes, Some, refl}
use Rattle.pv_laws_worked.specs.Bundles.{bundles_on_literals, shown_of}

-- the errors of execve
pub execve_refusals : shown_of (
    codes "image 64 64" ∷
    codes "bytes \"/t\" \"x\"" ∷
    codes "exec \"/q\" 1" ∷
    codes "frok" ∷
    codes "exec \"/init\" 3" ∷
    codes "execve \"/t\"" ∷
    codes "execve \"/q\"" ∷
    codes "execve \"/no\"" ∷
    codes "schedule" ∷
    codes "1 3" ∷ []) ≡ Some (
    codes "RET   execve -1 errno 13 EACCES" ∷
    codes "RET   execve -1 errno 8 ENOEXEC" ∷
    codes "RET   execve -1 errno 2 ENOENT" ∷ [])
unfolding bundles_on_literals
execve_refusals = refl

-- execve with execpromises keeps the table
pub execve_under_execpromises : shown_of (
    codes "image 64 64" ∷
    codes "dir \"/etc\"" ∷
    codes "bytes \"/etc/motd\" \"hello\"" ∷
    codes "dir \"/bin\"" ∷
    codes "exec \"/bin/p\" 2" ∷
    codes "open \"/etc/motd\" r" ∷
    codes "mkdir \"/x\"" ∷
    codes "exec \"/init\" 3" ∷
    codes "unveil \"/bin\" \"rx\"" ∷
    codes "pledge null \"stdio rpath\"" ∷
    codes "execve \"/bin/p\"" ∷
    codes "schedule" ∷
    codes "1 5" ∷ []) ≡ Some (
    codes "RET   unveil 0" ∷
    codes "RET   pledge 0" ∷
    codes "RET   execve 0" ∷
    codes "UNVL  none, needs r" ∷
    codes "RET   open -1 errno 2 ENOENT" ∷
    codes "PLDG  mkdir, \"cpath\", killed" ∷
    codes "PSIG  SIGABRT" ∷ [])
unfolding bundles_on_literals
execve_under_execpromises = refl

-- execve with execpromises keeps the lock
pub execve_keeps_lock : shown_of (
    codes "image 64 64" ∷
    codes "dir \"/pub\"" ∷
    codes "dir \"/etc\"" ∷
    codes "bytes \"/etc/motd\" \"hello\"" ∷
    codes "dir \"/bin\"" ∷
    codes "exec \"/bin/p\" 2" ∷
    codes "unveil \"/etc\" \"r\"" ∷
    codes "open \"/etc/motd\" r" ∷
    codes "exec \"/init\" 5" ∷
    codes "unveil \"/pub\" \"r\"" ∷
    codes "unveil \"/bin\" \"x\"" ∷
    codes "unveil null null" ∷
    codes "pledge null \"stdio rpath unveil\"" ∷
    codes "execve \"/bin/p\"" ∷
    codes "schedule" ∷
    codes "1 7" ∷ []) ≡ Some (
    codes "RET   unveil 0" ∷
    codes "RET   unveil 0" ∷
    codes "RET   unveil 0" ∷
    codes "RET   pledge 0" ∷
    codes "RET   execve 0" ∷
    codes "UNVL  locked" ∷
    codes "RET   unveil -1 errno 1 EPERM" ∷
    codes "UNVL  none, needs r" ∷
    codes "RET   open -1 errno 2 ENOENT" ∷ [])
unfolding bundles_on_literals
execve_keeps_lock = refl

-- execve without execpromises drops promises and table
pub execve_without_execpromises : shown_of (
    codes "image 64 64" ∷
    codes "dir \"/etc\"" ∷
    codes "bytes \"/etc/motd\" \"hello\"" ∷
    codes "dir \"/bin\"" ∷
    codes "exec \"/bin/p\" 2" ∷
    codes "open \"/etc/motd\" r" ∷
    codes "mkdir \"/x\"" ∷
    codes "exec \"/init\" 3" ∷
    codes "unveil \"/bin\" \"rx\"" ∷
    codes "pledge \"exec\" null" ∷
    codes "execve \"/bin/p\"" ∷
    codes "schedule" ∷
    codes "1 5" ∷ []) ≡ Some (
    codes "RET   unveil 0" ∷
    codes "RET   pledge 0" ∷
    codes "RET   execve 0" ∷
    codes "RET   open 0" ∷
    codes "RET   mkdir 0" ∷ [])
unfolding bundles_on_literals
execve_without_execpromises = refl

-- execve closes the descriptors that are marked close-on-exec
pub close_on_exec : shown_of (
    codes "image 64 64" ∷
    codes "bytes \"/f\" \"abcdef\"" ∷
    codes "exec \"/p\" 2" ∷
    codes "read 1 1" ∷
    codes "read 0 1" ∷
    codes "exec \"/init\" 3" ∷
    codes "open \"/f\" r+cloexec" ∷
    codes "dup 0" ∷
    codes "execve \"/p\"" ∷
    codes "schedule" ∷
    codes "1 5" ∷ []) ≡ Some (
    codes "RET   open 0" ∷
    codes "RET   dup 1" ∷
    codes "RET   execve 0" ∷
    codes "GIO   read 1 61" ∷
    codes "RET   read 1" ∷
    codes "RET   read -1 errno 9 EBADF" ∷ [])
unfolding bundles_on_literals
close_on_exec = refl
