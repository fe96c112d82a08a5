-- Runs with promises.
use Rattle.std.specs.Prelude.{◌≡◌, [], ◌∷◌, codes, Some, refl}
use Rattle.pv_laws_worked.specs.Bundles.{bundles_on_literals, shown_of}

-- under `error`, a missing promise is an error, until `error` is given up
pub error_promise : shown_of (
    codes "image 64 64" ∷
    codes "dir \"/etc\"" ∷
    codes "bytes \"/etc/motd\" \"hello\"" ∷
    codes "exec \"/init\" 4" ∷
    codes "pledge \"stdio error\" null" ∷
    codes "open \"/etc/motd\" r" ∷
    codes "pledge \"stdio rpath\" null" ∷
    codes "open \"/etc/motd\" r" ∷
    codes "schedule" ∷
    codes "1 4" ∷ []) ≡ Some (
    codes "RET   pledge 0" ∷
    codes "PLDG  open, \"rpath\", refused" ∷
    codes "RET   open -1 errno 78 ENOSYS" ∷
    codes "RET   pledge 0" ∷
    codes "PLDG  open, \"rpath\", killed" ∷
    codes "PSIG  SIGABRT" ∷ [])
unfolding bundles_on_literals
error_promise = refl

-- the syntax of promises
pub promise_texts_parse : shown_of (
    codes "image 64 64" ∷
    codes "exec \"/init\" 6" ∷
    codes "pledge \"  stdio  stdio \" null" ∷
    codes "pledge \"stdio foo\" null" ∷
    codes "pledge \"stdio\\x09rpath\" null" ∷
    codes "pledge \"stdio rpath\" null" ∷
    codes "pledge \"\" null" ∷
    codes "getpid" ∷
    codes "schedule" ∷
    codes "1 6" ∷ []) ≡ Some (
    codes "RET   pledge 0" ∷
    codes "RET   pledge -1 errno 22 EINVAL" ∷
    codes "RET   pledge -1 errno 22 EINVAL" ∷
    codes "PLDG  pledge, \"rpath\", increase" ∷
    codes "RET   pledge -1 errno 1 EPERM" ∷
    codes "RET   pledge 0" ∷
    codes "PLDG  getpid, \"stdio\", killed" ∷
    codes "PSIG  SIGABRT" ∷ [])
unfolding bundles_on_literals
promise_texts_parse = refl

-- a process that violates its promises is killed, and its parent waits for it
pub killed_and_waited : shown_of (
    codes "image 64 64" ∷
    codes "dir \"/etc\"" ∷
    codes "bytes \"/etc/motd\" \"hello\"" ∷
    codes "exec \"/init\" 8" ∷
    codes "fork" ∷
    codes "jz r0 5" ∷
    codes "wait" ∷
    codes "exit 0" ∷
    codes "open \"/etc/motd\" r" ∷
    codes "pledge \"stdio\" null" ∷
    codes "read 0 5" ∷
    codes "open \"/etc/motd\" r" ∷
    codes "schedule" ∷
    codes "1 3" ∷
    codes "2 5" ∷
    codes "1 2" ∷
    codes "2" ∷ []) ≡ Some (
    codes "RET   fork 2" ∷
    codes "WAIT  blocked" ∷
    codes "2 RET   open 0" ∷
    codes "2 RET   pledge 0" ∷
    codes "2 GIO   read 5 68656c6c6f" ∷
    codes "2 RET   read 5" ∷
    codes "2 PLDG  open, \"rpath\", killed" ∷
    codes "2 PSIG  SIGABRT" ∷
    codes "GIO   read 4 06000000" ∷
    codes "RET   wait 2" ∷
    codes "2 GONE  no such process" ∷ [])
unfolding bundles_on_literals
killed_and_waited = refl

-- rename needs cpath
pub rename_without_promise : shown_of (
    codes "image 64 64" ∷
    codes "bytes \"/a\" \"\"" ∷
    codes "exec \"/init\" 2" ∷
    codes "pledge \"stdio\" null" ∷
    codes "rename \"/a\" \"/b\"" ∷
    codes "schedule" ∷
    codes "1 2" ∷ []) ≡ Some (
    codes "RET   pledge 0" ∷
    codes "PLDG  rename, \"cpath\", killed" ∷
    codes "PSIG  SIGABRT" ∷ [])
unfolding bundles_on_literals
rename_without_promise = refl

-- an open that may create needs cpath
pub create_without_promise : shown_of (
    codes "image 64 64" ∷
    codes "exec \"/init\" 2" ∷
    codes "pledge \"stdio wpath\" null" ∷
    codes "open \"/a\" w+create" ∷
    codes "schedule" ∷
    codes "1 2" ∷ []) ≡ Some (
    codes "RET   pledge 0" ∷
    codes "PLDG  open, \"cpath\", killed" ∷
    codes "PSIG  SIGABRT" ∷ [])
unfolding bundles_on_literals
create_without_promise = refl
