-- Every error of every call.
use Rattle.std.specs.Prelude.{◌≡◌, [], ◌∷◌, ◌++◌, replicate, codes, Some, refl}
use Rattle.pv_laws_worked.specs.Bundles.{bundles_on_literals, shown_of}

-- pledge: an unknown keyword, and one that the process gave up
pub of_pledge : shown_of (
    codes "image 64 64" ∷
    codes "exec \"/init\" 5" ∷
    codes "pledge \"foo\" null" ∷
    codes "pledge null \"foo\"" ∷
    codes "pledge \"stdio\" \"stdio\"" ∷
    codes "pledge \"stdio rpath\" null" ∷
    codes "pledge null \"stdio rpath\"" ∷
    codes "schedule" ∷
    codes "1 5" ∷ []) ≡ Some (
    codes "RET   pledge -1 errno 22 EINVAL" ∷
    codes "RET   pledge -1 errno 22 EINVAL" ∷
    codes "RET   pledge 0" ∷
    codes "PLDG  pledge, \"rpath\", increase" ∷
    codes "RET   pledge -1 errno 1 EPERM" ∷
    codes "PLDG  pledge, \"rpath\", increase" ∷
    codes "RET   pledge -1 errno 1 EPERM" ∷ [])
unfolding bundles_on_literals
of_pledge = refl

-- unveil: its arguments, the walk, an entry that would gain a permission, the lock
pub of_unveil : shown_of (
    codes "image 64 64" ∷
    codes "bytes \"/f\" \"abc\"" ∷
    codes "dir \"/d\"" ∷
    codes "link \"/l\" \"l\"" ∷
    codes "exec \"/init\" 11" ∷
    codes "unveil null \"r\"" ∷
    codes "unveil \"/f\" null" ∷
    codes "unveil \"/f\" \"q\"" ∷
    codes "unveil \"/no/x\" \"r\"" ∷
    codes "unveil \"/f/x\" \"r\"" ∷
    codes "unveil \"/l/x\" \"r\"" ∷
    codes "unveil \"/nnnnnnnnnnnnnnnnnnnnnnnnnnnnnnnnnnnnnnnnnnnnnnnnnnnnnnnnnnnnn\" \"r\"" ∷
    codes "unveil \"/f\" \"r\"" ∷
    codes "unveil \"/f\" \"rw\"" ∷
    codes "unveil null null" ∷
    codes "unveil \"/f\" \"r\"" ∷
    codes "schedule" ∷
    codes "1 11" ∷ []) ≡ Some (
    codes "RET   unveil -1 errno 22 EINVAL" ∷
    codes "RET   unveil -1 errno 22 EINVAL" ∷
    codes "RET   unveil -1 errno 22 EINVAL" ∷
    codes "RET   unveil -1 errno 2 ENOENT" ∷
    codes "RET   unveil -1 errno 20 ENOTDIR" ∷
    codes "RET   unveil -1 errno 62 ELOOP" ∷
    codes "RET   unveil -1 errno 63 ENAMETOOLONG" ∷
    codes "RET   unveil 0" ∷
    codes "UNVL  entry 0, needs rw" ∷
    codes "RET   unveil -1 errno 1 EPERM" ∷
    codes "RET   unveil 0" ∷
    codes "UNVL  locked" ∷
    codes "RET   unveil -1 errno 1 EPERM" ∷ [])
unfolding bundles_on_literals
of_unveil = refl

-- execve: the walk, an absent file, a file that is not a program
pub of_execve : shown_of (
    codes "image 64 64" ∷
    codes "bytes \"/f\" \"abc\"" ∷
    codes "dir \"/d\"" ∷
    codes "link \"/l\" \"l\"" ∷
    codes "bytes \"/t\" \"x\"" ∷
    codes "exec \"/q\" 1" ∷
    codes "frok" ∷
    codes "exec \"/init\" 8" ∷
    codes "execve \"/no/x\"" ∷
    codes "execve \"/f/x\"" ∷
    codes "execve \"/l/x\"" ∷
    codes "execve \"/nnnnnnnnnnnnnnnnnnnnnnnnnnnnnnnnnnnnnnnnnnnnnnnnnnnnnnnnnnnnn\"" ∷
    codes "execve \"/no\"" ∷
    codes "execve \"/d\"" ∷
    codes "execve \"/t\"" ∷
    codes "execve \"/q\"" ∷
    codes "schedule" ∷
    codes "1 8" ∷ []) ≡ Some (
    codes "RET   execve -1 errno 2 ENOENT" ∷
    codes "RET   execve -1 errno 20 ENOTDIR" ∷
    codes "RET   execve -1 errno 62 ELOOP" ∷
    codes "RET   execve -1 errno 63 ENAMETOOLONG" ∷
    codes "RET   execve -1 errno 2 ENOENT" ∷
    codes "RET   execve -1 errno 13 EACCES" ∷
    codes "RET   execve -1 errno 13 EACCES" ∷
    codes "RET   execve -1 errno 8 ENOEXEC" ∷ [])
unfolding bundles_on_literals
of_execve = refl

-- open: its flags, the walk, existing and absent files
pub of_open : shown_of (
    codes "image 64 64" ∷
    codes "bytes \"/f\" \"abc\"" ∷
    codes "dir \"/d\"" ∷
    codes "link \"/l\" \"l\"" ∷
    codes "link \"/k\" \"f\"" ∷
    codes "exec \"/init\" 12" ∷
    codes "open \"/f\" r+trunc" ∷
    codes "open \"/f\" r+excl" ∷
    codes "open \"/f\" w+create+dir" ∷
    codes "open \"/no/x\" r" ∷
    codes "open \"/f/x\" r" ∷
    codes "open \"/l/x\" r" ∷
    codes "open \"/nnnnnnnnnnnnnnnnnnnnnnnnnnnnnnnnnnnnnnnnnnnnnnnnnnnnnnnnnnnnn\" r" ∷
    codes "open \"/f\" w+create+excl" ∷
    codes "open \"/no\" r" ∷
    codes "open \"/k\" r+nofollow" ∷
    codes "open \"/f\" r+dir" ∷
    codes "open \"/d\" w" ∷
    codes "schedule" ∷
    codes "1 12" ∷ []) ≡ Some (
    codes "RET   open -1 errno 22 EINVAL" ∷
    codes "RET   open -1 errno 22 EINVAL" ∷
    codes "RET   open -1 errno 22 EINVAL" ∷
    codes "RET   open -1 errno 2 ENOENT" ∷
    codes "RET   open -1 errno 20 ENOTDIR" ∷
    codes "RET   open -1 errno 62 ELOOP" ∷
    codes "RET   open -1 errno 63 ENAMETOOLONG" ∷
    codes "RET   open -1 errno 17 EEXIST" ∷
    codes "RET   open -1 errno 2 ENOENT" ∷
    codes "RET   open -1 errno 62 ELOOP" ∷
    codes "RET   open -1 errno 20 ENOTDIR" ∷
    codes "RET   open -1 errno 21 EISDIR" ∷ [])
unfolding bundles_on_literals
of_open = refl

-- openat: an invalid descriptor, a descriptor that is not a directory's, and the errors of open
pub of_openat : shown_of (
    codes "image 64 64" ∷
    codes "bytes \"/f\" \"abc\"" ∷
    codes "dir \"/d\"" ∷
    codes "link \"/l\" \"l\"" ∷
    codes "link \"/k\" \"f\"" ∷
    codes "exec \"/init\" 14" ∷
    codes "openat cwd \"f\" r+trunc" ∷
    codes "openat 3 \"f\" r" ∷
    codes "open \"/f\" r" ∷
    codes "openat 0 \"f\" r" ∷
    codes "openat 0 \"\" r" ∷
    codes "openat cwd \"no/x\" r" ∷
    codes "openat cwd \"f/x\" r" ∷
    codes "openat cwd \"l/x\" r" ∷
    codes "openat cwd \"nnnnnnnnnnnnnnnnnnnnnnnnnnnnnnnnnnnnnnnnnnnnnnnnnnnnnnnnnnnnn\" r" ∷
    codes "openat cwd \"f\" w+create+excl" ∷
    codes "openat cwd \"no\" r" ∷
    codes "openat cwd \"k\" r+nofollow" ∷
    codes "openat cwd \"f\" r+dir" ∷
    codes "openat cwd \"d\" w" ∷
    codes "schedule" ∷
    codes "1 14" ∷ []) ≡ Some (
    codes "RET   openat -1 errno 22 EINVAL" ∷
    codes "RET   openat -1 errno 9 EBADF" ∷
    codes "RET   open 0" ∷
    codes "RET   openat -1 errno 20 ENOTDIR" ∷
    codes "RET   openat -1 errno 20 ENOTDIR" ∷
    codes "RET   openat -1 errno 2 ENOENT" ∷
    codes "RET   openat -1 errno 20 ENOTDIR" ∷
    codes "RET   openat -1 errno 62 ELOOP" ∷
    codes "RET   openat -1 errno 63 ENAMETOOLONG" ∷
    codes "RET   openat -1 errno 17 EEXIST" ∷
    codes "RET   openat -1 errno 2 ENOENT" ∷
    codes "RET   openat -1 errno 62 ELOOP" ∷
    codes "RET   openat -1 errno 20 ENOTDIR" ∷
    codes "RET   openat -1 errno 21 EISDIR" ∷ [])
unfolding bundles_on_literals
of_openat = refl

-- a number that is not an open descriptor
pub of_descriptors : shown_of (
    codes "image 64 64" ∷
    codes "exec \"/init\" 12" ∷
    codes "close 0" ∷
    codes "close -1" ∷
    codes "close 16" ∷
    codes "dup 0" ∷
    codes "dup2 0 1" ∷
    codes "read 0 1" ∷
    codes "write 0 1" ∷
    codes "lseek 0 0 set" ∷
    codes "fstat 0" ∷
    codes "ftruncate 0 0" ∷
    codes "getdents 0" ∷
    codes "fchdir 0" ∷
    codes "schedule" ∷
    codes "1 12" ∷ []) ≡ Some (
    codes "RET   close -1 errno 9 EBADF" ∷
    codes "RET   close -1 errno 9 EBADF" ∷
    codes "RET   close -1 errno 9 EBADF" ∷
    codes "RET   dup -1 errno 9 EBADF" ∷
    codes "RET   dup2 -1 errno 9 EBADF" ∷
    codes "RET   read -1 errno 9 EBADF" ∷
    codes "RET   write -1 errno 9 EBADF" ∷
    codes "RET   lseek -1 errno 9 EBADF" ∷
    codes "RET   fstat -1 errno 9 EBADF" ∷
    codes "RET   ftruncate -1 errno 9 EBADF" ∷
    codes "RET   getdents -1 errno 9 EBADF" ∷
    codes "RET   fchdir -1 errno 9 EBADF" ∷ [])
unfolding bundles_on_literals
of_descriptors = refl

-- calls on open files
pub of_open_files : shown_of (
    codes "image 64 64" ∷
    codes "bytes \"/f\" \"abc\"" ∷
    codes "dir \"/d\"" ∷
    codes "link \"/l\" \"l\"" ∷
    codes "exec \"/init\" 17" ∷
    codes "open \"/f\" r" ∷
    codes "open \"/f\" w" ∷
    codes "open \"/d\" r" ∷
    codes "read 1 1" ∷
    codes "read 0 4097" ∷
    codes "read 0 -1" ∷
    codes "read 2 1" ∷
    codes "write 0 1" ∷
    codes "write 1 4097" ∷
    codes "lseek 2 0 set" ∷
    codes "lseek 0 -1 set" ∷
    codes "lseek 0 2147483647 end" ∷
    codes "ftruncate 0 0" ∷
    codes "ftruncate 1 -1" ∷
    codes "getdents 0" ∷
    codes "fchdir 0" ∷
    codes "dup2 0 16" ∷
    codes "schedule" ∷
    codes "1 17" ∷ []) ≡ Some (
    codes "RET   open 0" ∷
    codes "RET   open 1" ∷
    codes "RET   open 2" ∷
    codes "RET   read -1 errno 9 EBADF" ∷
    codes "RET   read -1 errno 22 EINVAL" ∷
    codes "RET   read -1 errno 22 EINVAL" ∷
    codes "RET   read -1 errno 21 EISDIR" ∷
    codes "RET   write -1 errno 9 EBADF" ∷
    codes "RET   write -1 errno 22 EINVAL" ∷
    codes "RET   lseek -1 errno 22 EINVAL" ∷
    codes "RET   lseek -1 errno 22 EINVAL" ∷
    codes "RET   lseek -1 errno 22 EINVAL" ∷
    codes "RET   ftruncate -1 errno 22 EINVAL" ∷
    codes "RET   ftruncate -1 errno 22 EINVAL" ∷
    codes "RET   getdents -1 errno 22 EINVAL" ∷
    codes "RET   fchdir -1 errno 20 ENOTDIR" ∷
    codes "RET   dup2 -1 errno 9 EBADF" ∷ [])
unfolding bundles_on_literals
of_open_files = refl

-- a process without a free descriptor
pub of_full_descriptors : shown_of (
    codes "image 64 64" ∷
    codes "exec \"/init\" 19" ∷
    codes "open \"/\" r" ∷
    codes "dup 0" ∷
    codes "dup 0" ∷
    codes "dup 0" ∷
    codes "dup 0" ∷
    codes "dup 0" ∷
    codes "dup 0" ∷
    codes "dup 0" ∷
    codes "dup 0" ∷
    codes "dup 0" ∷
    codes "dup 0" ∷
    codes "dup 0" ∷
    codes "dup 0" ∷
    codes "dup 0" ∷
    codes "dup 0" ∷
    codes "dup 0" ∷
    codes "dup 0" ∷
    codes "open \"/\" r" ∷
    codes "openat cwd \"/\" r" ∷
    codes "schedule" ∷
    codes "1 19" ∷ []) ≡ Some (
    codes "RET   open 0" ∷
    codes "RET   dup 1" ∷
    codes "RET   dup 2" ∷
    codes "RET   dup 3" ∷
    codes "RET   dup 4" ∷
    codes "RET   dup 5" ∷
    codes "RET   dup 6" ∷
    codes "RET   dup 7" ∷
    codes "RET   dup 8" ∷
    codes "RET   dup 9" ∷
    codes "RET   dup 10" ∷
    codes "RET   dup 11" ∷
    codes "RET   dup 12" ∷
    codes "RET   dup 13" ∷
    codes "RET   dup 14" ∷
    codes "RET   dup 15" ∷
    codes "RET   dup -1 errno 24 EMFILE" ∷
    codes "RET   open -1 errno 24 EMFILE" ∷
    codes "RET   openat -1 errno 24 EMFILE" ∷ [])
unfolding bundles_on_literals
of_full_descriptors = refl

-- the errors of a walk, for each call with a path
pub of_walks : shown_of (
    codes "image 64 64" ∷
    codes "bytes \"/f\" \"abc\"" ∷
    codes "dir \"/d\"" ∷
    codes "link \"/l\" \"l\"" ∷
    codes "exec \"/init\" 32" ∷
    codes "chdir \"/no/x\"" ∷
    codes "chdir \"/f/x\"" ∷
    codes "chdir \"/l/x\"" ∷
    codes "chdir \"/nnnnnnnnnnnnnnnnnnnnnnnnnnnnnnnnnnnnnnnnnnnnnnnnnnnnnnnnnnnnn\"" ∷
    codes "stat \"/no/x\"" ∷
    codes "stat \"/f/x\"" ∷
    codes "stat \"/l/x\"" ∷
    codes "stat \"/nnnnnnnnnnnnnnnnnnnnnnnnnnnnnnnnnnnnnnnnnnnnnnnnnnnnnnnnnnnnn\"" ∷
    codes "lstat \"/no/x\"" ∷
    codes "lstat \"/f/x\"" ∷
    codes "lstat \"/l/x\"" ∷
    codes "lstat \"/nnnnnnnnnnnnnnnnnnnnnnnnnnnnnnnnnnnnnnnnnnnnnnnnnnnnnnnnnnnnn\"" ∷
    codes "readlink \"/no/x\"" ∷
    codes "readlink \"/f/x\"" ∷
    codes "readlink \"/l/x\"" ∷
    codes "readlink \"/nnnnnnnnnnnnnnnnnnnnnnnnnnnnnnnnnnnnnnnnnnnnnnnnnnnnnnnnnnnnn\"" ∷
    codes "mkdir \"/no/x\"" ∷
    codes "mkdir \"/f/x\"" ∷
    codes "mkdir \"/l/x\"" ∷
    codes "mkdir \"/nnnnnnnnnnnnnnnnnnnnnnnnnnnnnnnnnnnnnnnnnnnnnnnnnnnnnnnnnnnnn\"" ∷
    codes "symlink \"t\" \"/no/x\"" ∷
    codes "symlink \"t\" \"/f/x\"" ∷
    codes "symlink \"t\" \"/l/x\"" ∷
    codes "symlink \"t\" \"/nnnnnnnnnnnnnnnnnnnnnnnnnnnnnnnnnnnnnnnnnnnnnnnnnnnnnnnnnnnnn\"" ∷
    codes "unlink \"/no/x\"" ∷
    codes "unlink \"/f/x\"" ∷
    codes "unlink \"/l/x\"" ∷
    codes "unlink \"/nnnnnnnnnnnnnnnnnnnnnnnnnnnnnnnnnnnnnnnnnnnnnnnnnnnnnnnnnnnnn\"" ∷
    codes "rmdir \"/no/x\"" ∷
    codes "rmdir \"/f/x\"" ∷
    codes "rmdir \"/l/x\"" ∷
    codes "rmdir \"/nnnnnnnnnnnnnnnnnnnnnnnnnnnnnnnnnnnnnnnnnnnnnnnnnnnnnnnnnnnnn\"" ∷
    codes "schedule" ∷
    codes "1 32" ∷ []) ≡ Some (
    codes "RET   chdir -1 errno 2 ENOENT" ∷
    codes "RET   chdir -1 errno 20 ENOTDIR" ∷
    codes "RET   chdir -1 errno 62 ELOOP" ∷
    codes "RET   chdir -1 errno 63 ENAMETOOLONG" ∷
    codes "RET   stat -1 errno 2 ENOENT" ∷
    codes "RET   stat -1 errno 20 ENOTDIR" ∷
    codes "RET   stat -1 errno 62 ELOOP" ∷
    codes "RET   stat -1 errno 63 ENAMETOOLONG" ∷
    codes "RET   lstat -1 errno 2 ENOENT" ∷
    codes "RET   lstat -1 errno 20 ENOTDIR" ∷
    codes "RET   lstat -1 errno 62 ELOOP" ∷
    codes "RET   lstat -1 errno 63 ENAMETOOLONG" ∷
    codes "RET   readlink -1 errno 2 ENOENT" ∷
    codes "RET   readlink -1 errno 20 ENOTDIR" ∷
    codes "RET   readlink -1 errno 62 ELOOP" ∷
    codes "RET   readlink -1 errno 63 ENAMETOOLONG" ∷
    codes "RET   mkdir -1 errno 2 ENOENT" ∷
    codes "RET   mkdir -1 errno 20 ENOTDIR" ∷
    codes "RET   mkdir -1 errno 62 ELOOP" ∷
    codes "RET   mkdir -1 errno 63 ENAMETOOLONG" ∷
    codes "RET   symlink -1 errno 2 ENOENT" ∷
    codes "RET   symlink -1 errno 20 ENOTDIR" ∷
    codes "RET   symlink -1 errno 62 ELOOP" ∷
    codes "RET   symlink -1 errno 63 ENAMETOOLONG" ∷
    codes "RET   unlink -1 errno 2 ENOENT" ∷
    codes "RET   unlink -1 errno 20 ENOTDIR" ∷
    codes "RET   unlink -1 errno 62 ELOOP" ∷
    codes "RET   unlink -1 errno 63 ENAMETOOLONG" ∷
    codes "RET   rmdir -1 errno 2 ENOENT" ∷
    codes "RET   rmdir -1 errno 20 ENOTDIR" ∷
    codes "RET   rmdir -1 errno 62 ELOOP" ∷
    codes "RET   rmdir -1 errno 63 ENAMETOOLONG" ∷ [])
unfolding bundles_on_literals
of_walks = refl

-- the errors of a walk, for both paths of link and rename
pub of_two_walks : shown_of (
    codes "image 64 64" ∷
    codes "bytes \"/f\" \"abc\"" ∷
    codes "dir \"/d\"" ∷
    codes "link \"/l\" \"l\"" ∷
    codes "exec \"/init\" 16" ∷
    codes "link \"/no/x\" \"/z\"" ∷
    codes "link \"/f/x\" \"/z\"" ∷
    codes "link \"/l/x\" \"/z\"" ∷
    codes "link \"/nnnnnnnnnnnnnnnnnnnnnnnnnnnnnnnnnnnnnnnnnnnnnnnnnnnnnnnnnnnnn\" \"/z\"" ∷
    codes "link \"/f\" \"/no/x\"" ∷
    codes "link \"/f\" \"/f/x\"" ∷
    codes "link \"/f\" \"/l/x\"" ∷
    codes "link \"/f\" \"/nnnnnnnnnnnnnnnnnnnnnnnnnnnnnnnnnnnnnnnnnnnnnnnnnnnnnnnnnnnnn\"" ∷
    codes "rename \"/no/x\" \"/z\"" ∷
    codes "rename \"/f/x\" \"/z\"" ∷
    codes "rename \"/l/x\" \"/z\"" ∷
    codes "rename \"/nnnnnnnnnnnnnnnnnnnnnnnnnnnnnnnnnnnnnnnnnnnnnnnnnnnnnnnnnnnnn\" \"/z\"" ∷
    codes "rename \"/f\" \"/no/x\"" ∷
    codes "rename \"/f\" \"/f/x\"" ∷
    codes "rename \"/f\" \"/l/x\"" ∷
    codes "rename \"/f\" \"/nnnnnnnnnnnnnnnnnnnnnnnnnnnnnnnnnnnnnnnnnnnnnnnnnnnnnnnnnnnnn\"" ∷
    codes "schedule" ∷
    codes "1 16" ∷ []) ≡ Some (
    codes "RET   link -1 errno 2 ENOENT" ∷
    codes "RET   link -1 errno 20 ENOTDIR" ∷
    codes "RET   link -1 errno 62 ELOOP" ∷
    codes "RET   link -1 errno 63 ENAMETOOLONG" ∷
    codes "RET   link -1 errno 2 ENOENT" ∷
    codes "RET   link -1 errno 20 ENOTDIR" ∷
    codes "RET   link -1 errno 62 ELOOP" ∷
    codes "RET   link -1 errno 63 ENAMETOOLONG" ∷
    codes "RET   rename -1 errno 2 ENOENT" ∷
    codes "RET   rename -1 errno 20 ENOTDIR" ∷
    codes "RET   rename -1 errno 62 ELOOP" ∷
    codes "RET   rename -1 errno 63 ENAMETOOLONG" ∷
    codes "RET   rename -1 errno 2 ENOENT" ∷
    codes "RET   rename -1 errno 20 ENOTDIR" ∷
    codes "RET   rename -1 errno 62 ELOOP" ∷
    codes "RET   rename -1 errno 63 ENAMETOOLONG" ∷ [])
unfolding bundles_on_literals
of_two_walks = refl

-- a path that no entry governs, and a path whose entry lacks the permission
pub of_judgements : shown_of (
    codes "image 64 64" ∷
    codes "bytes \"/f\" \"abc\"" ∷
    codes "dir \"/d\"" ∷
    codes "link \"/l\" \"l\"" ∷
    codes "bytes \"/d/g\" \"\"" ∷
    codes "exec \"/init\" 29" ∷
    codes "unveil \"/d\" \"\"" ∷
    codes "execve \"/f\"" ∷
    codes "execve \"/d/g\"" ∷
    codes "open \"/f\" r" ∷
    codes "open \"/d/g\" r" ∷
    codes "open \"/f\" w+create" ∷
    codes "open \"/d/g\" w+create" ∷
    codes "openat cwd \"/f\" r" ∷
    codes "openat cwd \"/d/g\" r" ∷
    codes "chdir \"/f\"" ∷
    codes "chdir \"/d/g\"" ∷
    codes "stat \"/f\"" ∷
    codes "stat \"/d/g\"" ∷
    codes "lstat \"/f\"" ∷
    codes "lstat \"/d/g\"" ∷
    codes "readlink \"/f\"" ∷
    codes "readlink \"/d/g\"" ∷
    codes "mkdir \"/f\"" ∷
    codes "mkdir \"/d/g\"" ∷
    codes "symlink \"t\" \"/f\"" ∷
    codes "symlink \"t\" \"/d/g\"" ∷
    codes "unlink \"/f\"" ∷
    codes "unlink \"/d/g\"" ∷
    codes "rmdir \"/f\"" ∷
    codes "rmdir \"/d/g\"" ∷
    codes "link \"/f\" \"/z\"" ∷
    codes "link \"/d/g\" \"/z\"" ∷
    codes "rename \"/f\" \"/z\"" ∷
    codes "rename \"/d/g\" \"/z\"" ∷
    codes "schedule" ∷
    codes "1 29" ∷ []) ≡ Some (
    codes "RET   unveil 0" ∷
    codes "UNVL  none, needs x" ∷
    codes "RET   execve -1 errno 2 ENOENT" ∷
    codes "UNVL  entry 0, needs x" ∷
    codes "RET   execve -1 errno 13 EACCES" ∷
    codes "UNVL  none, needs r" ∷
    codes "RET   open -1 errno 2 ENOENT" ∷
    codes "UNVL  entry 0, needs r" ∷
    codes "RET   open -1 errno 13 EACCES" ∷
    codes "UNVL  none, needs wc" ∷
    codes "RET   open -1 errno 2 ENOENT" ∷
    codes "UNVL  entry 0, needs wc" ∷
    codes "RET   open -1 errno 13 EACCES" ∷
    codes "UNVL  none, needs r" ∷
    codes "RET   openat -1 errno 2 ENOENT" ∷
    codes "UNVL  entry 0, needs r" ∷
    codes "RET   openat -1 errno 13 EACCES" ∷
    codes "UNVL  none, needs r" ∷
    codes "RET   chdir -1 errno 2 ENOENT" ∷
    codes "UNVL  entry 0, needs r" ∷
    codes "RET   chdir -1 errno 13 EACCES" ∷
    codes "UNVL  none, needs r" ∷
    codes "RET   stat -1 errno 2 ENOENT" ∷
    codes "UNVL  entry 0, needs r" ∷
    codes "RET   stat -1 errno 13 EACCES" ∷
    codes "UNVL  none, needs r" ∷
    codes "RET   lstat -1 errno 2 ENOENT" ∷
    codes "UNVL  entry 0, needs r" ∷
    codes "RET   lstat -1 errno 13 EACCES" ∷
    codes "UNVL  none, needs r" ∷
    codes "RET   readlink -1 errno 2 ENOENT" ∷
    codes "UNVL  entry 0, needs r" ∷
    codes "RET   readlink -1 errno 13 EACCES" ∷
    codes "UNVL  none, needs c" ∷
    codes "RET   mkdir -1 errno 2 ENOENT" ∷
    codes "UNVL  entry 0, needs c" ∷
    codes "RET   mkdir -1 errno 13 EACCES" ∷
    codes "UNVL  none, needs c" ∷
    codes "RET   symlink -1 errno 2 ENOENT" ∷
    codes "UNVL  entry 0, needs c" ∷
    codes "RET   symlink -1 errno 13 EACCES" ∷
    codes "UNVL  none, needs c" ∷
    codes "RET   unlink -1 errno 2 ENOENT" ∷
    codes "UNVL  entry 0, needs c" ∷
    codes "RET   unlink -1 errno 13 EACCES" ∷
    codes "UNVL  none, needs c" ∷
    codes "RET   rmdir -1 errno 2 ENOENT" ∷
    codes "UNVL  entry 0, needs c" ∷
    codes "RET   rmdir -1 errno 13 EACCES" ∷
    codes "UNVL  none, needs r" ∷
    codes "RET   link -1 errno 2 ENOENT" ∷
    codes "UNVL  entry 0, needs r" ∷
    codes "RET   link -1 errno 13 EACCES" ∷
    codes "UNVL  none, needs c" ∷
    codes "RET   rename -1 errno 2 ENOENT" ∷
    codes "UNVL  entry 0, needs c" ∷
    codes "RET   rename -1 errno 13 EACCES" ∷ [])
unfolding bundles_on_literals
of_judgements = refl

-- the table decides about the second path of link and rename after the first
pub of_second_judgements : shown_of (
    codes "image 64 64" ∷
    codes "bytes \"/f\" \"abc\"" ∷
    codes "dir \"/d\"" ∷
    codes "link \"/l\" \"l\"" ∷
    codes "dir \"/e\"" ∷
    codes "bytes \"/e/g\" \"\"" ∷
    codes "exec \"/init\" 6" ∷
    codes "unveil \"/e\" \"rc\"" ∷
    codes "unveil \"/d\" \"r\"" ∷
    codes "link \"/e/g\" \"/z\"" ∷
    codes "link \"/e/g\" \"/d/z\"" ∷
    codes "rename \"/e/g\" \"/z\"" ∷
    codes "rename \"/e/g\" \"/d/z\"" ∷
    codes "schedule" ∷
    codes "1 6" ∷ []) ≡ Some (
    codes "RET   unveil 0" ∷
    codes "RET   unveil 0" ∷
    codes "UNVL  none, needs c" ∷
    codes "RET   link -1 errno 2 ENOENT" ∷
    codes "UNVL  entry 1, needs c" ∷
    codes "RET   link -1 errno 13 EACCES" ∷
    codes "UNVL  none, needs c" ∷
    codes "RET   rename -1 errno 2 ENOENT" ∷
    codes "UNVL  entry 1, needs c" ∷
    codes "RET   rename -1 errno 13 EACCES" ∷ [])
unfolding bundles_on_literals
of_second_judgements = refl

-- existing and absent objects, and objects of the wrong kind
pub of_objects : shown_of (
    codes "image 64 64" ∷
    codes "bytes \"/f\" \"abc\"" ∷
    codes "dir \"/d\"" ∷
    codes "link \"/l\" \"l\"" ∷
    codes "dir \"/e\"" ∷
    codes "bytes \"/e/g\" \"\"" ∷
    codes "exec \"/init\" 26" ∷
    codes "chdir \"/no\"" ∷
    codes "chdir \"/f\"" ∷
    codes "stat \"/no\"" ∷
    codes "lstat \"/no\"" ∷
    codes "readlink \"/no\"" ∷
    codes "readlink \"/f\"" ∷
    codes "mkdir \"/d\"" ∷
    codes "symlink \"\" \"/s\"" ∷
    codes "symlink \"t\" \"/f\"" ∷
    codes "unlink \"/no\"" ∷
    codes "unlink \"/d\"" ∷
    codes "rmdir \"/no\"" ∷
    codes "rmdir \"/f\"" ∷
    codes "rmdir \"/\"" ∷
    codes "rmdir \"/e\"" ∷
    codes "rmdir \"/d/.\"" ∷
    codes "link \"/no\" \"/z\"" ∷
    codes "link \"/d\" \"/z\"" ∷
    codes "link \"/f\" \"/d\"" ∷
    codes "rename \"/no\" \"/z\"" ∷
    codes "rename \"/\" \"/z\"" ∷
    codes "rename \"/d/.\" \"/z\"" ∷
    codes "rename \"/d\" \"/d/z\"" ∷
    codes "rename \"/f\" \"/d\"" ∷
    codes "rename \"/d\" \"/f\"" ∷
    codes "rename \"/d\" \"/e\"" ∷
    codes "schedule" ∷
    codes "1 26" ∷ []) ≡ Some (
    codes "RET   chdir -1 errno 2 ENOENT" ∷
    codes "RET   chdir -1 errno 20 ENOTDIR" ∷
    codes "RET   stat -1 errno 2 ENOENT" ∷
    codes "RET   lstat -1 errno 2 ENOENT" ∷
    codes "RET   readlink -1 errno 2 ENOENT" ∷
    codes "RET   readlink -1 errno 22 EINVAL" ∷
    codes "RET   mkdir -1 errno 17 EEXIST" ∷
    codes "RET   symlink -1 errno 2 ENOENT" ∷
    codes "RET   symlink -1 errno 17 EEXIST" ∷
    codes "RET   unlink -1 errno 2 ENOENT" ∷
    codes "RET   unlink -1 errno 1 EPERM" ∷
    codes "RET   rmdir -1 errno 2 ENOENT" ∷
    codes "RET   rmdir -1 errno 20 ENOTDIR" ∷
    codes "RET   rmdir -1 errno 16 EBUSY" ∷
    codes "RET   rmdir -1 errno 66 ENOTEMPTY" ∷
    codes "RET   rmdir -1 errno 22 EINVAL" ∷
    codes "RET   link -1 errno 2 ENOENT" ∷
    codes "RET   link -1 errno 1 EPERM" ∷
    codes "RET   link -1 errno 17 EEXIST" ∷
    codes "RET   rename -1 errno 2 ENOENT" ∷
    codes "RET   rename -1 errno 16 EBUSY" ∷
    codes "RET   rename -1 errno 22 EINVAL" ∷
    codes "RET   rename -1 errno 22 EINVAL" ∷
    codes "RET   rename -1 errno 21 EISDIR" ∷
    codes "RET   rename -1 errno 20 ENOTDIR" ∷
    codes "RET   rename -1 errno 66 ENOTEMPTY" ∷ [])
unfolding bundles_on_literals
of_objects = refl

-- a text that is too long for a link
pub of_long_text : shown_of (
    codes "image 64 64" ∷
    codes "exec \"/init\" 1" ∷
    (codes "symlink \"" ++ replicate 1024 116 ++ codes "\" \"/s\"") ∷
    codes "schedule" ∷
    codes "1 1" ∷ []) ≡ Some (
    codes "RET   symlink -1 errno 63 ENAMETOOLONG" ∷ [])
unfolding bundles_on_literals
of_long_text = refl

-- an image without a free block
pub of_space : shown_of (
    codes "image 7 16" ∷
    codes "dir \"/e\"" ∷
    codes "bytes \"/e/0\" \"\"" ∷
    codes "name \"/e/1\" \"/e/0\"" ∷
    codes "name \"/e/2\" \"/e/0\"" ∷
    codes "name \"/e/3\" \"/e/0\"" ∷
    codes "name \"/e/4\" \"/e/0\"" ∷
    codes "name \"/e/5\" \"/e/0\"" ∷
    codes "name \"/e/6\" \"/e/0\"" ∷
    codes "name \"/e/7\" \"/e/0\"" ∷
    codes "dir \"/g\"" ∷
    codes "bytes \"/g/0\" \"x\"" ∷
    codes "name \"/g/1\" \"/g/0\"" ∷
    codes "exec \"/init\" 10" ∷
    codes "open \"/e/z\" w+create" ∷
    codes "mkdir \"/e/z\"" ∷
    codes "symlink \"t\" \"/z\"" ∷
    codes "link \"/g/0\" \"/e/z\"" ∷
    codes "rename \"/g/0\" \"/e/z\"" ∷
    codes "open \"/g/0\" w" ∷
    codes "lseek 0 512 set" ∷
    codes "write 0 1" ∷
    codes "ftruncate 0 513" ∷
    codes "openat cwd \"/e/z\" w+create" ∷
    codes "schedule" ∷
    codes "1 10" ∷ []) ≡ Some (
    codes "RET   open -1 errno 28 ENOSPC" ∷
    codes "RET   mkdir -1 errno 28 ENOSPC" ∷
    codes "RET   symlink -1 errno 28 ENOSPC" ∷
    codes "RET   link -1 errno 28 ENOSPC" ∷
    codes "RET   rename -1 errno 28 ENOSPC" ∷
    codes "RET   open 0" ∷
    codes "RET   lseek 512" ∷
    codes "RET   write -1 errno 28 ENOSPC" ∷
    codes "RET   ftruncate -1 errno 28 ENOSPC" ∷
    codes "RET   openat -1 errno 28 ENOSPC" ∷ [])
unfolding bundles_on_literals
of_space = refl

-- a file that would be too long
pub of_length : shown_of (
    codes "image 64 64" ∷
    codes "bytes \"/f\" \"abc\"" ∷
    codes "dir \"/d\"" ∷
    codes "link \"/l\" \"l\"" ∷
    codes "exec \"/init\" 4" ∷
    codes "open \"/f\" w" ∷
    codes "lseek 0 136192 set" ∷
    codes "write 0 1" ∷
    codes "ftruncate 0 136193" ∷
    codes "schedule" ∷
    codes "1 4" ∷ []) ≡ Some (
    codes "RET   open 0" ∷
    codes "RET   lseek 136192" ∷
    codes "RET   write -1 errno 27 EFBIG" ∷
    codes "RET   ftruncate -1 errno 27 EFBIG" ∷ [])
unfolding bundles_on_literals
of_length = refl
