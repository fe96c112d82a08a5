-- Runs with several processes.
use Rattle.std.specs.Prelude.{◌≡◌, [], ◌∷◌, codes, Some, refl}
use Rattle.pv_laws_worked.specs.Bundles.{bundles_on_literals, shown_of}

-- a process ends: its children get another parent, a wait blocks, and process 1 leaves parent 0
pub ends : shown_of (
    codes "image 64 64" ∷
    codes "exec \"/init\" 15" ∷
    codes "fork" ∷
    codes "jz r0 7" ∷
    codes "fork" ∷
    codes "jz r0 12" ∷
    codes "wait" ∷
    codes "exit 0" ∷
    codes "fork" ∷
    codes "jz r0 12" ∷
    codes "pledge \"\" null" ∷
    codes "getpid" ∷
    codes "exit 0" ∷
    codes "getppid" ∷
    codes "getppid" ∷
    codes "getppid" ∷
    codes "exit 0" ∷
    codes "schedule" ∷
    codes "1 3" ∷
    codes "2 3" ∷
    codes "1" ∷
    codes "3" ∷
    codes "4" ∷
    codes "3" ∷
    codes "4" ∷
    codes "1" ∷
    codes "2 2" ∷
    codes "4" ∷
    codes "1 2" ∷
    codes "3" ∷
    codes "3" ∷
    codes "3" ∷
    codes "3" ∷
    codes "4" ∷
    codes "4" ∷
    codes "4" ∷
    codes "1" ∷ []) ≡ Some (
    codes "RET   fork 2" ∷
    codes "RET   fork 3" ∷
    codes "2 RET   fork 4" ∷
    codes "3 RET   getppid 1" ∷
    codes "4 RET   getppid 2" ∷
    codes "WAIT  blocked" ∷
    codes "2 RET   pledge 0" ∷
    codes "2 PLDG  getpid, \"stdio\", killed" ∷
    codes "2 PSIG  SIGABRT" ∷
    codes "4 RET   getppid 1" ∷
    codes "GIO   read 4 06000000" ∷
    codes "RET   wait 2" ∷
    codes "3 RET   getppid 0" ∷
    codes "3 RET   getppid 0" ∷
    codes "3 GONE  no such process" ∷
    codes "4 RET   getppid 0" ∷
    codes "4 GONE  no such process" ∷
    codes "GONE  no such process" ∷ [])
unfolding bundles_on_literals
ends = refl

-- wait returns the ended child with the least number
pub least_is_waited_for : shown_of (
    codes "image 64 64" ∷
    codes "exec \"/init\" 7" ∷
    codes "fork" ∷
    codes "jz r0 7" ∷
    codes "fork" ∷
    codes "jz r0 7" ∷
    codes "wait" ∷
    codes "wait" ∷
    codes "exit 1" ∷
    codes "schedule" ∷
    codes "1 4" ∷
    codes "3 2" ∷
    codes "2 2" ∷
    codes "1 2" ∷ []) ≡ Some (
    codes "RET   fork 2" ∷
    codes "RET   fork 3" ∷
    codes "GIO   read 4 00010000" ∷
    codes "RET   wait 2" ∷
    codes "GIO   read 4 00010000" ∷
    codes "RET   wait 3" ∷ [])
unfolding bundles_on_literals
least_is_waited_for = refl

-- a child keeps its promises when its parent ends
pub promises_outlast_parent : shown_of (
    codes "image 64 64" ∷
    codes "bytes \"/f\" \"x\"" ∷
    codes "exec \"/init\" 7" ∷
    codes "pledge \"stdio rpath proc\" null" ∷
    codes "fork" ∷
    codes "jz r0 5" ∷
    codes "exit 0" ∷
    codes "getppid" ∷
    codes "open \"/f\" r" ∷
    codes "mkdir \"/d\"" ∷
    codes "schedule" ∷
    codes "1 4" ∷
    codes "2 4" ∷ []) ≡ Some (
    codes "RET   pledge 0" ∷
    codes "RET   fork 2" ∷
    codes "2 RET   getppid 0" ∷
    codes "2 RET   open 0" ∷
    codes "2 PLDG  mkdir, \"cpath\", killed" ∷
    codes "2 PSIG  SIGABRT" ∷ [])
unfolding bundles_on_literals
promises_outlast_parent = refl

-- the parent of process 1
pub first_has_no_parent : shown_of (
    codes "image 64 64" ∷
    codes "exec \"/init\" 2" ∷
    codes "getppid" ∷
    codes "getpid" ∷
    codes "schedule" ∷
    codes "1 2" ∷ []) ≡ Some (
    codes "RET   getppid 0" ∷
    codes "RET   getpid 1" ∷ [])
unfolding bundles_on_literals
first_has_no_parent = refl
