-- Runs with openat.
use Rattle.std.specs.Prelude.{◌≡◌, [], ◌∷◌, codes, Some, refl}
use Rattle.pv_laws_worked.specs.Bundles.{bundles_on_literals, shown_of}

-- a relative path of openat starts at the descriptor's directory
pub openat_paths : shown_of (
    codes "image 64 64" ∷
    codes "dir \"/d\"" ∷
    codes "bytes \"/d/f\" \"hi\"" ∷
    codes "exec \"/init\" 7" ∷
    codes "open \"/d\" r+dir" ∷
    codes "openat r0 \"f\" r" ∷
    codes "openat cwd \"d/f\" r" ∷
    codes "openat 9 \"f\" r" ∷
    codes "openat 1 \"f\" r" ∷
    codes "openat 9 \"/d/f\" r" ∷
    codes "openat 0 \"../d/f\" r" ∷
    codes "schedule" ∷
    codes "1 7" ∷ []) ≡ Some (
    codes "RET   open 0" ∷
    codes "RET   openat 1" ∷
    codes "RET   openat 2" ∷
    codes "RET   openat -1 errno 9 EBADF" ∷
    codes "RET   openat -1 errno 20 ENOTDIR" ∷
    codes "RET   openat 3" ∷
    codes "RET   openat 4" ∷ [])
unfolding bundles_on_literals
openat_paths = refl

-- the table decides about openat as about open
pub openat_judged : shown_of (
    codes "image 64 64" ∷
    codes "dir \"/d\"" ∷
    codes "bytes \"/d/f\" \"hi\"" ∷
    codes "exec \"/init\" 4" ∷
    codes "open \"/d\" r" ∷
    codes "unveil \"/d\" \"\"" ∷
    codes "unveil null null" ∷
    codes "openat 0 \"f\" r" ∷
    codes "schedule" ∷
    codes "1 4" ∷ []) ≡ Some (
    codes "RET   open 0" ∷
    codes "RET   unveil 0" ∷
    codes "RET   unveil 0" ∷
    codes "UNVL  entry 0, needs r" ∷
    codes "RET   openat -1 errno 13 EACCES" ∷ [])
unfolding bundles_on_literals
openat_judged = refl

-- openat from a removed directory
pub openat_removed : shown_of (
    codes "image 64 64" ∷
    codes "exec \"/init\" 5" ∷
    codes "mkdir \"/e\"" ∷
    codes "open \"/e\" r" ∷
    codes "rmdir \"/e\"" ∷
    codes "openat 0 \".\" r" ∷
    codes "openat 0 \"x\" r" ∷
    codes "schedule" ∷
    codes "1 5" ∷ []) ≡ Some (
    codes "RET   mkdir 0" ∷
    codes "RET   open 0" ∷
    codes "RET   rmdir 0" ∷
    codes "RET   openat 1" ∷
    codes "RET   openat -1 errno 2 ENOENT" ∷ [])
unfolding bundles_on_literals
openat_removed = refl
