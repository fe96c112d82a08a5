-- Runs with their complete traces.
use Rattle.std.specs.Prelude.{◌≡◌, [], ◌∷◌, codes, Some, refl}
use Rattle.pv_laws_worked.specs.Bundles.{bundles_on_literals, text_of_lines, trace_of_bundle}

pub read_one_file : trace_of_bundle (
    codes "image 16 16" ∷
    codes "dir \"/etc\"" ∷
    codes "bytes \"/etc/motd\" \"hello\"" ∷
    codes "exec \"/init\" 5" ∷
    codes "pledge \"stdio rpath\" null" ∷
    codes "open \"/etc/motd\" r" ∷
    codes "read r0 100" ∷
    codes "close 0" ∷
    codes "exit 0" ∷
    codes "schedule" ∷
    codes "1 5" ∷ []) ≡ Some (text_of_lines (
    codes "    1 CALL  pledge(\"stdio rpath\", null)" ∷
    codes "    1 RET   pledge 0" ∷
    codes "    1 CALL  open(\"/etc/motd\", r)" ∷
    codes "    1 NAMI  \"/etc/motd\"" ∷
    codes "    1 RET   open 0" ∷
    codes "    1 CALL  read(0, 100)" ∷
    codes "    1 GIO   read 5 68656c6c6f" ∷
    codes "    1 RET   read 5" ∷
    codes "    1 CALL  close(0)" ∷
    codes "    1 RET   close 0" ∷
    codes "    1 CALL  exit(0)" ∷ []))
unfolding bundles_on_literals
read_one_file = refl

pub registers_and_bytes : trace_of_bundle (
    codes "image 64 64" ∷
    codes "bytes \"/\\x01z\" \"\\xff\\x80\"" ∷
    codes "exec \"/init\" 19" ∷
    codes "set r2 -5" ∷
    codes "add r2 3" ∷
    codes "jneg r2 5" ∷
    codes "exit 7" ∷
    codes "peek r3 0" ∷
    codes "jnz r3 4" ∷
    codes "symlink \"a\\x22b\" \"/s\"" ∷
    codes "readlink \"/s\"" ∷
    codes "peek r3 1" ∷
    codes "lseek r3 0 cur" ∷
    codes "open \"/\\x01z\" rw+append" ∷
    codes "write 0 2" ∷
    codes "lseek 0 -1 end" ∷
    codes "read 0 4" ∷
    codes "dup2 0 15" ∷
    codes "dup2 0 16" ∷
    codes "ftruncate 15 6" ∷
    codes "fstat 0" ∷
    codes "exit r2" ∷
    codes "schedule" ∷
    codes "1 19" ∷ []) ≡ Some (text_of_lines (
    codes "    1 CALL  symlink(\"a\\x22b\", \"/s\")" ∷
    codes "    1 NAMI  \"/s\"" ∷
    codes "    1 RET   symlink 0" ∷
    codes "    1 CALL  readlink(\"/s\")" ∷
    codes "    1 NAMI  \"/s\"" ∷
    codes "    1 GIO   read 3 612262" ∷
    codes "    1 RET   readlink 3" ∷
    codes "    1 CALL  lseek(34, 0, cur)" ∷
    codes "    1 RET   lseek -1 errno 9 EBADF" ∷
    codes "    1 CALL  open(\"/\\x01z\", rw+append)" ∷
    codes "    1 NAMI  \"/\\x01z\"" ∷
    codes "    1 RET   open 0" ∷
    codes "    1 CALL  write(0, 2)" ∷
    codes "    1 GIO   wrote 2 6122" ∷
    codes "    1 RET   write 2" ∷
    codes "    1 CALL  lseek(0, -1, end)" ∷
    codes "    1 RET   lseek 3" ∷
    codes "    1 CALL  read(0, 4)" ∷
    codes "    1 GIO   read 1 22" ∷
    codes "    1 RET   read 1" ∷
    codes "    1 CALL  dup2(0, 15)" ∷
    codes "    1 RET   dup2 15" ∷
    codes "    1 CALL  dup2(0, 16)" ∷
    codes "    1 RET   dup2 -1 errno 9 EBADF" ∷
    codes "    1 CALL  ftruncate(15, 6)" ∷
    codes "    1 RET   ftruncate 0" ∷
    codes "    1 CALL  fstat(0)" ∷
    codes "    1 GIO   read 8 0200020006000000" ∷
    codes "    1 RET   fstat 0" ∷
    codes "    1 CALL  exit(-2)" ∷
    codes "    1 GONE  no such process" ∷ []))
unfolding bundles_on_literals
registers_and_bytes = refl
