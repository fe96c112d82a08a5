-- Runs with unveil tables.
use Rattle.std.specs.Prelude.{◌≡◌, [], ◌∷◌, codes, Some, refl}
use Rattle.pv_laws_worked.specs.Bundles.{bundles_on_literals, shown_of}

-- an unveiled path is not compared as a prefix of a text
pub not_by_prefix : shown_of (
    codes "image 64 64" ∷
    codes "dir \"/tmp\"" ∷
    codes "bytes \"/tmpfoo\" \"x\"" ∷
    codes "exec \"/init\" 2" ∷
    codes "unveil \"/tmp\" \"r\"" ∷
    codes "open \"/tmpfoo\" r" ∷
    codes "schedule" ∷
    codes "1 2" ∷ []) ≡ Some (
    codes "RET   unveil 0" ∷
    codes "UNVL  none, needs r" ∷
    codes "RET   open -1 errno 2 ENOENT" ∷ [])
unfolding bundles_on_literals
not_by_prefix = refl

-- the nearest entry at or above a place decides
pub nearest_entry : shown_of (
    codes "image 64 64" ∷
    codes "dir \"/a\"" ∷
    codes "bytes \"/a/x\" \"x\"" ∷
    codes "dir \"/a/b\"" ∷
    codes "bytes \"/a/b/x\" \"x\"" ∷
    codes "exec \"/init\" 4" ∷
    codes "unveil \"/a\" \"r\"" ∷
    codes "unveil \"/a/b\" \"\"" ∷
    codes "open \"/a/x\" r" ∷
    codes "open \"/a/b/x\" r" ∷
    codes "schedule" ∷
    codes "1 4" ∷ []) ≡ Some (
    codes "RET   unveil 0" ∷
    codes "RET   unveil 0" ∷
    codes "RET   open 0" ∷
    codes "UNVL  entry 1, needs r" ∷
    codes "RET   open -1 errno 13 EACCES" ∷ [])
unfolding bundles_on_literals
nearest_entry = refl

-- an entry cannot gain permissions, and a locked table cannot gain entries
pub increase_and_lock : shown_of (
    codes "image 64 64" ∷
    codes "dir \"/a\"" ∷
    codes "dir \"/b\"" ∷
    codes "exec \"/init\" 5" ∷
    codes "unveil \"/a\" \"r\"" ∷
    codes "unveil \"/a\" \"rw\"" ∷
    codes "unveil \"/b\" \"rw\"" ∷
    codes "unveil null null" ∷
    codes "unveil \"/b\" \"r\"" ∷
    codes "schedule" ∷
    codes "1 5" ∷ []) ≡ Some (
    codes "RET   unveil 0" ∷
    codes "UNVL  entry 0, needs rw" ∷
    codes "RET   unveil -1 errno 1 EPERM" ∷
    codes "RET   unveil 0" ∷
    codes "RET   unveil 0" ∷
    codes "UNVL  locked" ∷
    codes "RET   unveil -1 errno 1 EPERM" ∷ [])
unfolding bundles_on_literals
increase_and_lock = refl

-- a refused unveil does not put a table in force
pub unveil_arguments : shown_of (
    codes "image 64 64" ∷
    codes "exec \"/init\" 4" ∷
    codes "unveil null \"r\"" ∷
    codes "unveil \"/a\" \"rq\"" ∷
    codes "unveil \"/no/x\" \"r\"" ∷
    codes "open \"/\" r" ∷
    codes "schedule" ∷
    codes "1 4" ∷ []) ≡ Some (
    codes "RET   unveil -1 errno 22 EINVAL" ∷
    codes "RET   unveil -1 errno 22 EINVAL" ∷
    codes "RET   unveil -1 errno 2 ENOENT" ∷
    codes "RET   open 0" ∷ [])
unfolding bundles_on_literals
unveil_arguments = refl

-- a file is unveiled by its name
pub unveiled_file : shown_of (
    codes "image 64 64" ∷
    codes "bytes \"/f\" \"x\"" ∷
    codes "exec \"/init\" 5" ∷
    codes "unveil \"/f\" \"r\"" ∷
    codes "open \"/f\" r" ∷
    codes "open \"/g\" r" ∷
    codes "unveil \"/f\" \"\"" ∷
    codes "open \"/f\" r" ∷
    codes "schedule" ∷
    codes "1 5" ∷ []) ≡ Some (
    codes "RET   unveil 0" ∷
    codes "RET   open 0" ∷
    codes "UNVL  none, needs r" ∷
    codes "RET   open -1 errno 2 ENOENT" ∷
    codes "RET   unveil 0" ∷
    codes "UNVL  entry 0, needs r" ∷
    codes "RET   open -1 errno 13 EACCES" ∷ [])
unfolding bundles_on_literals
unveiled_file = refl

-- creating a file needs the permission c; a refused open creates nothing
pub create_needs_permission : shown_of (
    codes "image 64 64" ∷
    codes "dir \"/a\"" ∷
    codes "exec \"/init\" 3" ∷
    codes "unveil \"/a\" \"rw\"" ∷
    codes "open \"/a/x\" w+create" ∷
    codes "stat \"/a/x\"" ∷
    codes "schedule" ∷
    codes "1 3" ∷ []) ≡ Some (
    codes "RET   unveil 0" ∷
    codes "UNVL  entry 0, needs wc" ∷
    codes "RET   open -1 errno 13 EACCES" ∷
    codes "RET   stat -1 errno 2 ENOENT" ∷ [])
unfolding bundles_on_literals
create_needs_permission = refl

-- a table does not decide about calls on descriptors
pub descriptors_stay : shown_of (
    codes "image 64 64" ∷
    codes "bytes \"/f\" \"abc\"" ∷
    codes "dir \"/d\"" ∷
    codes "exec \"/init\" 5" ∷
    codes "open \"/f\" r" ∷
    codes "unveil \"/d\" \"r\"" ∷
    codes "unveil null null" ∷
    codes "read 0 3" ∷
    codes "open \"/f\" r" ∷
    codes "schedule" ∷
    codes "1 5" ∷ []) ≡ Some (
    codes "RET   open 0" ∷
    codes "RET   unveil 0" ∷
    codes "RET   unveil 0" ∷
    codes "GIO   read 3 616263" ∷
    codes "RET   read 3" ∷
    codes "UNVL  none, needs r" ∷
    codes "RET   open -1 errno 2 ENOENT" ∷ [])
unfolding bundles_on_literals
descriptors_stay = refl

-- the table decides about the place where a walk ends, not about the path's text
pub links_and_dots : shown_of (
    codes "image 64 64" ∷
    codes "dir \"/tmp\"" ∷
    codes "dir \"/etc\"" ∷
    codes "bytes \"/etc/motd\" \"hello\"" ∷
    codes "link \"/tmp/l\" \"/etc/motd\"" ∷
    codes "exec \"/init\" 5" ∷
    codes "unveil \"/tmp\" \"r\"" ∷
    codes "open \"/tmp/l\" r" ∷
    codes "open \"/tmp/../etc/motd\" r" ∷
    codes "unveil \"/etc/motd\" \"r\"" ∷
    codes "open \"/tmp/l\" r" ∷
    codes "schedule" ∷
    codes "1 5" ∷ []) ≡ Some (
    codes "RET   unveil 0" ∷
    codes "UNVL  none, needs r" ∷
    codes "RET   open -1 errno 2 ENOENT" ∷
    codes "UNVL  none, needs r" ∷
    codes "RET   open -1 errno 2 ENOENT" ∷
    codes "RET   unveil 0" ∷
    codes "RET   open 0" ∷ [])
unfolding bundles_on_literals
links_and_dots = refl

-- a directory that is removed and created again is a different node
pub directory_made_again : shown_of (
    codes "image 64 64" ∷
    codes "dir \"/d\"" ∷
    codes "exec \"/init\" 7" ∷
    codes "fork" ∷
    codes "jz r0 6" ∷
    codes "rmdir \"/d\"" ∷
    codes "mkdir \"/d\"" ∷
    codes "stat \"/d\"" ∷
    codes "unveil \"/d\" \"rwc\"" ∷
    codes "stat \"/d\"" ∷
    codes "schedule" ∷
    codes "1 2" ∷
    codes "2 2" ∷
    codes "1 3" ∷
    codes "2" ∷ []) ≡ Some (
    codes "RET   fork 2" ∷
    codes "2 RET   unveil 0" ∷
    codes "RET   rmdir 0" ∷
    codes "RET   mkdir 0" ∷
    codes "GIO   read 8 0100040000000000" ∷
    codes "RET   stat 0" ∷
    codes "2 UNVL  none, needs r" ∷
    codes "2 RET   stat -1 errno 2 ENOENT" ∷ [])
unfolding bundles_on_literals
directory_made_again = refl

-- an entry for an absent name references its directory, so no other node gets the directory's number
pub absent_name_holds_directory : shown_of (
    codes "image 64 64" ∷
    codes "dir \"/d\"" ∷
    codes "exec \"/init\" 8" ∷
    codes "fork" ∷
    codes "jz r0 7" ∷
    codes "rmdir \"/d\"" ∷
    codes "mkdir \"/e\"" ∷
    codes "stat \"/e\"" ∷
    codes "open \"/e/x\" w+create" ∷
    codes "unveil \"/d/x\" \"r\"" ∷
    codes "open \"/e/x\" r" ∷
    codes "schedule" ∷
    codes "1 2" ∷
    codes "2 2" ∷
    codes "1 4" ∷
    codes "2" ∷ []) ≡ Some (
    codes "RET   fork 2" ∷
    codes "2 RET   unveil 0" ∷
    codes "RET   rmdir 0" ∷
    codes "RET   mkdir 0" ∷
    codes "GIO   read 8 0100040000000000" ∷
    codes "RET   stat 0" ∷
    codes "RET   open 0" ∷
    codes "2 UNVL  none, needs r" ∷
    codes "2 RET   open -1 errno 2 ENOENT" ∷ [])
unfolding bundles_on_literals
absent_name_holds_directory = refl

-- a file that is removed and created again has the same name
pub file_made_again : shown_of (
    codes "image 64 64" ∷
    codes "exec \"/init\" 12" ∷
    codes "fork" ∷
    codes "jz r0 9" ∷
    codes "open \"/f\" w+create" ∷
    codes "put \"one\"" ∷
    codes "write 0 3" ∷
    codes "close 0" ∷
    codes "unlink \"/f\"" ∷
    codes "jmp 3" ∷
    codes "unveil \"/f\" \"rw\"" ∷
    codes "open \"/f\" r" ∷
    codes "read r0 8" ∷
    codes "jmp 10" ∷
    codes "schedule" ∷
    codes "1 6" ∷
    codes "2 5" ∷
    codes "1 6" ∷
    codes "2 2" ∷ []) ≡ Some (
    codes "RET   fork 2" ∷
    codes "RET   open 0" ∷
    codes "GIO   wrote 3 6f6e65" ∷
    codes "RET   write 3" ∷
    codes "RET   close 0" ∷
    codes "2 RET   unveil 0" ∷
    codes "2 RET   open 0" ∷
    codes "2 GIO   read 3 6f6e65" ∷
    codes "2 RET   read 3" ∷
    codes "RET   unlink 0" ∷
    codes "RET   open 0" ∷
    codes "GIO   wrote 3 6f6e65" ∷
    codes "RET   write 3" ∷
    codes "RET   close 0" ∷
    codes "2 RET   open 1" ∷
    codes "2 GIO   read 3 6f6e65" ∷
    codes "2 RET   read 3" ∷ [])
unfolding bundles_on_literals
file_made_again = refl

-- removing a name needs the permission c
pub unlink_needs_permission : shown_of (
    codes "image 64 64" ∷
    codes "dir \"/pub\"" ∷
    codes "bytes \"/a\" \"\"" ∷
    codes "exec \"/init\" 2" ∷
    codes "unveil \"/pub\" \"r\"" ∷
    codes "unlink \"/a\"" ∷
    codes "schedule" ∷
    codes "1 2" ∷ []) ≡ Some (
    codes "RET   unveil 0" ∷
    codes "UNVL  none, needs c" ∷
    codes "RET   unlink -1 errno 2 ENOENT" ∷ [])
unfolding bundles_on_literals
unlink_needs_permission = refl

-- a child has its parent's table
pub child_has_table : shown_of (
    codes "image 64 64" ∷
    codes "dir \"/pub\"" ∷
    codes "bytes \"/a\" \"\"" ∷
    codes "exec \"/init\" 3" ∷
    codes "unveil \"/pub\" \"r\"" ∷
    codes "fork" ∷
    codes "open \"/a\" r" ∷
    codes "schedule" ∷
    codes "1 2" ∷
    codes "2" ∷ []) ≡ Some (
    codes "RET   unveil 0" ∷
    codes "RET   fork 2" ∷
    codes "2 UNVL  none, needs r" ∷
    codes "2 RET   open -1 errno 2 ENOENT" ∷ [])
unfolding bundles_on_literals
child_has_table = refl
