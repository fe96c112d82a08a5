-- Runs on files and directories.
use Rattle.std.specs.Prelude.{◌≡◌, [], ◌∷◌, codes, Some, refl}
use Rattle.pv_laws_worked.specs.Bundles.{bundles_on_literals, shown_of}

-- descriptors that a fork copies share their offset
pub shared_offset : shown_of (
    codes "image 64 64" ∷
    codes "bytes \"/f\" \"abcdef\"" ∷
    codes "exec \"/init\" 3" ∷
    codes "open \"/f\" r" ∷
    codes "fork" ∷
    codes "read 0 3" ∷
    codes "schedule" ∷
    codes "1 2" ∷
    codes "2" ∷
    codes "1" ∷ []) ≡ Some (
    codes "RET   open 0" ∷
    codes "RET   fork 2" ∷
    codes "2 GIO   read 3 616263" ∷
    codes "2 RET   read 3" ∷
    codes "GIO   read 3 646566" ∷
    codes "RET   read 3" ∷ [])
unfolding bundles_on_literals
shared_offset = refl

-- the same in the opposite order
pub shared_offset_in_turn : shown_of (
    codes "image 64 64" ∷
    codes "bytes \"/f\" \"abcdef\"" ∷
    codes "exec \"/init\" 3" ∷
    codes "open \"/f\" r" ∷
    codes "fork" ∷
    codes "read 0 3" ∷
    codes "schedule" ∷
    codes "1 3" ∷
    codes "2" ∷ []) ≡ Some (
    codes "RET   open 0" ∷
    codes "RET   fork 2" ∷
    codes "GIO   read 3 616263" ∷
    codes "RET   read 3" ∷
    codes "2 GIO   read 3 646566" ∷
    codes "2 RET   read 3" ∷ [])
unfolding bundles_on_literals
shared_offset_in_turn = refl

-- names are listed in order, even while they are removed
pub getdents_lists : shown_of (
    codes "image 64 64" ∷
    codes "dir \"/d\"" ∷
    codes "bytes \"/d/b\" \"\"" ∷
    codes "bytes \"/d/a\" \"\"" ∷
    codes "exec \"/init\" 5" ∷
    codes "open \"/d\" r" ∷
    codes "getdents 0" ∷
    codes "unlink \"/d/a\"" ∷
    codes "getdents 0" ∷
    codes "getdents 0" ∷
    codes "schedule" ∷
    codes "1 5" ∷ []) ≡ Some (
    codes "RET   open 0" ∷
    codes "GIO   read 1 61" ∷
    codes "RET   getdents 1" ∷
    codes "RET   unlink 0" ∷
    codes "GIO   read 1 62" ∷
    codes "RET   getdents 1" ∷
    codes "GIO   read 0" ∷
    codes "RET   getdents 0" ∷ [])
unfolding bundles_on_literals
getdents_lists = refl

-- a name that is created, looked up, and moved
pub moved_directory : shown_of (
    codes "image 64 64" ∷
    codes "exec \"/init\" 6" ∷
    codes "stat \"/a\"" ∷
    codes "mkdir \"/a\"" ∷
    codes "stat \"/a\"" ∷
    codes "rename \"/a\" \"/b\"" ∷
    codes "stat \"/a\"" ∷
    codes "stat \"/b\"" ∷
    codes "schedule" ∷
    codes "1 6" ∷ []) ≡ Some (
    codes "RET   stat -1 errno 2 ENOENT" ∷
    codes "RET   mkdir 0" ∷
    codes "GIO   read 8 0100030000000000" ∷
    codes "RET   stat 0" ∷
    codes "RET   rename 0" ∷
    codes "RET   stat -1 errno 2 ENOENT" ∷
    codes "GIO   read 8 0100030000000000" ∷
    codes "RET   stat 0" ∷ [])
unfolding bundles_on_literals
moved_directory = refl

-- a removed directory has no entries and no parent
pub removed_directory : shown_of (
    codes "image 64 64" ∷
    codes "exec \"/init\" 6" ∷
    codes "mkdir \"/d\"" ∷
    codes "chdir \"/d\"" ∷
    codes "rmdir \"/d\"" ∷
    codes "stat \".\"" ∷
    codes "stat \"..\"" ∷
    codes "open \"x\" w+create" ∷
    codes "schedule" ∷
    codes "1 6" ∷ []) ≡ Some (
    codes "RET   mkdir 0" ∷
    codes "RET   chdir 0" ∷
    codes "RET   rmdir 0" ∷
    codes "GIO   read 8 0100030000000000" ∷
    codes "RET   stat 0" ∷
    codes "RET   stat -1 errno 2 ENOENT" ∷
    codes "RET   open -1 errno 2 ENOENT" ∷ [])
unfolding bundles_on_literals
removed_directory = refl

-- the errors of rename and rmdir
pub rename_refusals : shown_of (
    codes "image 64 64" ∷
    codes "dir \"/a\"" ∷
    codes "dir \"/a/b\"" ∷
    codes "exec \"/init\" 5" ∷
    codes "rename \"/a\" \"/a/b/c\"" ∷
    codes "rename \"/a/b\" \"/a/.\"" ∷
    codes "rmdir \"/\"" ∷
    codes "rmdir \"/a\"" ∷
    codes "wait" ∷
    codes "schedule" ∷
    codes "1 5" ∷ []) ≡ Some (
    codes "RET   rename -1 errno 22 EINVAL" ∷
    codes "RET   rename -1 errno 22 EINVAL" ∷
    codes "RET   rmdir -1 errno 16 EBUSY" ∷
    codes "RET   rmdir -1 errno 66 ENOTEMPTY" ∷
    codes "RET   wait -1 errno 10 ECHILD" ∷ [])
unfolding bundles_on_literals
rename_refusals = refl

-- a far offset needs no room, but a write there and a great length are refused
pub far_end : shown_of (
    codes "image 64 64" ∷
    codes "exec \"/init\" 9" ∷
    codes "open \"/f\" rw+create" ∷
    codes "lseek 0 2147483647 set" ∷
    codes "write 0 1" ∷
    codes "lseek 0 1 cur" ∷
    codes "ftruncate 0 2147483647" ∷
    codes "ftruncate 0 -1" ∷
    codes "write 0 0" ∷
    codes "write 0 4097" ∷
    codes "read 0 4096" ∷
    codes "schedule" ∷
    codes "1 9" ∷ []) ≡ Some (
    codes "RET   open 0" ∷
    codes "RET   lseek 2147483647" ∷
    codes "RET   write -1 errno 27 EFBIG" ∷
    codes "RET   lseek -1 errno 22 EINVAL" ∷
    codes "RET   ftruncate -1 errno 27 EFBIG" ∷
    codes "RET   ftruncate -1 errno 22 EINVAL" ∷
    codes "GIO   wrote 0" ∷
    codes "RET   write 0" ∷
    codes "RET   write -1 errno 22 EINVAL" ∷
    codes "GIO   read 0" ∷
    codes "RET   read 0" ∷ [])
unfolding bundles_on_literals
far_end = refl

-- the greatest length of a file, and the blocks of a removed file that is open
pub room_of_long_files : shown_of (
    codes "image 310 16" ∷
    codes "exec \"/init\" 12" ∷
    codes "open \"/f\" w+create" ∷
    codes "lseek 0 136191 set" ∷
    codes "write 0 1" ∷
    codes "write 0 1" ∷
    codes "open \"/g\" w+create" ∷
    codes "lseek 1 19455 set" ∷
    codes "write 1 1" ∷
    codes "write 1 1" ∷
    codes "unlink \"/f\"" ∷
    codes "write 1 1" ∷
    codes "close 0" ∷
    codes "write 1 1" ∷
    codes "schedule" ∷
    codes "1 12" ∷ []) ≡ Some (
    codes "RET   open 0" ∷
    codes "RET   lseek 136191" ∷
    codes "GIO   wrote 1 00" ∷
    codes "RET   write 1" ∷
    codes "RET   write -1 errno 27 EFBIG" ∷
    codes "RET   open 1" ∷
    codes "RET   lseek 19455" ∷
    codes "GIO   wrote 1 00" ∷
    codes "RET   write 1" ∷
    codes "RET   write -1 errno 28 ENOSPC" ∷
    codes "RET   unlink 0" ∷
    codes "RET   write -1 errno 28 ENOSPC" ∷
    codes "RET   close 0" ∷
    codes "GIO   wrote 1 00" ∷
    codes "RET   write 1" ∷ [])
unfolding bundles_on_literals
room_of_long_files = refl

-- names that begin with a dot are listed
pub listing_of_dot_name : shown_of (
    codes "image 64 64" ∷
    codes "dir \"/d\"" ∷
    codes "bytes \"/d/b\" \"\"" ∷
    codes "bytes \"/d/.a\" \"\"" ∷
    codes "bytes \"/d/..c\" \"\"" ∷
    codes "exec \"/init\" 5" ∷
    codes "open \"/d\" r" ∷
    codes "getdents 0" ∷
    codes "getdents 0" ∷
    codes "getdents 0" ∷
    codes "getdents 0" ∷
    codes "schedule" ∷
    codes "1 5" ∷ []) ≡ Some (
    codes "RET   open 0" ∷
    codes "GIO   read 3 2e2e63" ∷
    codes "RET   getdents 3" ∷
    codes "GIO   read 2 2e61" ∷
    codes "RET   getdents 2" ∷
    codes "GIO   read 1 62" ∷
    codes "RET   getdents 1" ∷
    codes "GIO   read 0" ∷
    codes "RET   getdents 0" ∷ [])
unfolding bundles_on_literals
listing_of_dot_name = refl
