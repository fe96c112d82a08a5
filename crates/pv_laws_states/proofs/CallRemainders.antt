-- The rest of each call after each of its checks.
use Rattle.std.proofs.Common.{ℕ, ◌+◌, ℤ, pos, false, not, ◌&&◌, if◌then◌else◌, nat_le, length, Option, Some, is_some, ◌+ℤ◌, take, drop, is_none, option_and_then}
use Rattle.pv_model.specs.Machine.{Attempt, ◌>>=◌, ◌>>◌, give, refuse_if, demand, Bytes, is_empty, with_descriptor, within, next_name, seek_base, list_name, natural, is_past_greatest, with_content, write_end, after_write, is_link, open_node, link_text, same_node, is_directory_there, entries_there, move_entry, with_program, executable_bytes, asked_promises, unless_refused, add_target, refuse_if_locked, Effect, answers, answers_bytes, walk_from, judge_for, node_of, status, with_file, bytes_of, with_room, name_of, resize, permissions_of_open, least_free, permission_c, Promises, narrow_promises, is_lenient, OpenFile, Descriptor, Program, Process, State, with_process, writes, with_tree, Node, node_at, is_directory_at, entries_at, is_directory, with_new_node, with_entry, without_entry, Table, target_of, follow_of}
use Rattle.pv_model.specs.Calls.Descriptors.{with_duplicate}
use Rattle.pv_model.specs.declared.call.Whence.{Whence}
use Rattle.pv_model.specs.declared.errno.Errno.TheVariants.{EPERM, ENOENT, ENOEXEC, EBADF, EACCES, ENOTDIR, EINVAL, EMFILE, EISDIR, EFBIG, EBUSY, EEXIST, ENOTEMPTY, ENFILE, ELOOP}
use Rattle.pv_model.specs.declared.follow.Follow.TheVariants.{Last, Keep}
use Rattle.pv_model.specs.declared.open_flags.OpenFlags.{OpenFlags}
use Rattle.pv_model.specs.declared.perms.Perms.{Perms}
use Rattle.pv_model.specs.declared.place.Place.{Place}

module _ (s : State) (pid : ℕ) (me : Process) where
  abbrev pub pledge_3 : Option Promises → Option Promises → Attempt Effect
  pledge_3 exec_asked preserved =
      unless_refused (narrow_promises (is_lenient me.promises) me.execpromises exec_asked)
      >>= (λ exec_preserved. answers (with_process s pid (record me { promises = preserved; execpromises = exec_preserved })) 0)

  abbrev pub pledge_2 : Option Promises → Option Promises → Attempt Effect
  pledge_2 asked exec_asked = unless_refused (narrow_promises (is_lenient me.promises) me.promises asked) >>= pledge_3 exec_asked

  abbrev pub pledge_1 : Option Bytes → Option Promises → Attempt Effect
  pledge_1 execpromises asked = asked_promises execpromises >>= pledge_2 asked

  abbrev pub unveil_3 : Table → Attempt Effect
  unveil_3 table = answers (with_process s pid (record me { table = Some table })) 0

  abbrev pub unveil_2 : Perms → Place → Attempt Effect
  unveil_2 permissions place = add_target s pid me (target_of s.tree place) permissions >>= unveil_3

  abbrev pub unveil_1 : Bytes → Perms → Attempt Effect
  unveil_1 path permissions = refuse_if_locked me.locked >> (walk_from s me.directory Last path >>= unveil_2 permissions)

  abbrev pub execve_4 : Program → Attempt Effect
  execve_4 program = answers (with_process s pid (with_program s pid me program)) 0

  abbrev pub execve_3 : (Bytes → Option Program) → Bytes → Attempt Effect
  execve_3 program_of bytes = demand ENOEXEC (program_of bytes) >>= execve_4

  abbrev pub execve_2 : (Bytes → Option Program) → ℕ → Attempt Effect
  execve_2 program_of n = demand EACCES (executable_bytes (node_at s.tree n)) >>= execve_3 program_of

  abbrev pub execve_1 : (Bytes → Option Program) → Place → Attempt Effect
  execve_1 program_of place = demand ENOENT (node_of place) >>= execve_2 program_of

  abbrev pub chdir_2 : ℕ → Attempt Effect
  chdir_2 n = refuse_if ENOTDIR (not (is_directory_at s.tree n)) >> answers (with_process s pid (record me { directory = n })) 0

  abbrev pub chdir_1 : Place → Attempt Effect
  chdir_1 place = demand ENOENT (node_of place) >>= chdir_2

  abbrev pub stat_1 : Place → Attempt Effect
  stat_1 place = demand ENOENT (node_of place) >>= (λ n. answers_bytes s 0 (status s.tree n))

  abbrev pub readlink_2 : ℕ → Attempt Effect
  readlink_2 n = demand EINVAL (link_text (node_at s.tree n)) >>= (λ text. answers_bytes s (length text) text)

  abbrev pub readlink_1 : Place → Attempt Effect
  readlink_1 place = demand ENOENT (node_of place) >>= readlink_2

  abbrev pub directory_of_1 : (ℕ × OpenFile) → Attempt ℕ
  directory_of_1 file = refuse_if ENOTDIR (not (is_directory_at s.tree file.1.node)) >> give file.1.node

  abbrev pub dup_1 : Descriptor → Attempt Effect
  dup_1 x = refuse_if EMFILE (nat_le 16 (least_free me.descriptors)) >> answers (with_descriptor s pid me s x.file false) (least_free me.descriptors)

  abbrev pub dup2_2 : ℤ → Descriptor → ℕ → Attempt Effect
  dup2_2 d x number = answers (with_duplicate s pid me d number x) number

  abbrev pub dup2_1 : ℤ → ℤ → Descriptor → Attempt Effect
  dup2_1 d e x = demand EBADF (within 15 e) >>= dup2_2 d x

  abbrev pub lseek_3 : ℕ → OpenFile → ℕ → Attempt Effect
  lseek_3 k file offset = answers (with_file s k (record file { offset = offset })) offset

  abbrev pub lseek_2 : ℤ → Whence → ℕ → OpenFile → Attempt Effect
  lseek_2 by whence k file = demand EINVAL (within 2147483647 (pos (seek_base s pid me file whence) +ℤ by)) >>= lseek_3 k file

  abbrev pub lseek_1 : ℤ → Whence → (ℕ × OpenFile) → Attempt Effect
  lseek_1 by whence (k, file) = refuse_if EINVAL (is_directory_at s.tree file.node) >> lseek_2 by whence k file

  abbrev pub read_bytes : ℕ → OpenFile → Bytes
  read_bytes count file = take count (drop file.offset (bytes_of (node_at s.tree file.node)))

  abbrev pub read_3 : ℕ → OpenFile → ℕ → Attempt Effect
  read_3 k file count = answers_bytes (with_file s k (record file { offset = file.offset + length (read_bytes count file) })) (length (read_bytes count file)) (read_bytes count file)

  abbrev pub read_2 : ℕ → OpenFile → ℕ → Attempt Effect
  read_2 k file count = refuse_if EISDIR (is_directory_at s.tree file.node) >> read_3 k file count

  abbrev pub read_1 : ℤ → (ℕ × OpenFile) → Attempt Effect
  read_1 n (k, file) = demand EINVAL (within 4096 n) >>= read_2 k file

  abbrev pub getdents_2 : ℕ → OpenFile → Attempt Effect
  getdents_2 k file = list_name s pid me k file (next_name file.listed (entries_at s.tree file.node))

  abbrev pub getdents_1 : (ℕ × OpenFile) → Attempt Effect
  getdents_1 (k, file) = refuse_if EINVAL (not (is_directory_at s.tree file.node)) >> getdents_2 k file

  abbrev pub make_3 : Node → (ℕ × Bytes) → Attempt Effect
  make_3 node (d, name) = with_room (with_tree s (with_new_node s.tree d name node)) >>= (λ after. answers after 0)

  abbrev pub make_2 : Node → Place → Attempt Effect
  make_2 node place = demand EEXIST (name_of place) >>= make_3 node

  abbrev pub make_1 : Node → Place → Attempt Effect
  make_1 node place = refuse_if EEXIST (is_some (node_of place)) >> make_2 node place

  abbrev pub link_6 : ℕ → (ℕ × Bytes) → Attempt Effect
  link_6 n (d, name) = with_room (with_tree s (with_entry s.tree d name n)) >>= (λ after. answers after 0)

  abbrev pub link_5 : Place → ℕ → Attempt Effect
  link_5 new_place n = demand EEXIST (name_of new_place) >>= link_6 n

  abbrev pub link_4 : Place → ℕ → Attempt Effect
  link_4 new_place n = refuse_if EEXIST (is_some (node_of new_place)) >> link_5 new_place n

  abbrev pub link_3 : Place → ℕ → Attempt Effect
  link_3 new_place n = refuse_if EPERM (is_directory_at s.tree n) >> link_4 new_place n

  abbrev pub link_2 : Place → Place → Attempt Effect
  link_2 old_place new_place = demand ENOENT (node_of old_place) >>= link_3 new_place

  abbrev pub link_1 : Bytes → Place → Attempt Effect
  link_1 new old_place = walk_from s me.directory Keep new >>= (λ new_place. judge_for s me new_place permission_c >> link_2 old_place new_place)

  abbrev pub less_3 : (ℕ × Bytes) → Attempt Effect
  less_3 (d, name) = answers (with_tree s (without_entry s.tree d name)) 0

  abbrev pub unlink_3 : Place → Attempt Effect
  unlink_3 place = demand EPERM (name_of place) >>= less_3

  abbrev pub unlink_2 : Place → ℕ → Attempt Effect
  unlink_2 place n = refuse_if EPERM (is_directory_at s.tree n) >> unlink_3 place

  abbrev pub unlink_1 : Place → Attempt Effect
  unlink_1 place = demand ENOENT (node_of place) >>= unlink_2 place

  abbrev pub rmdir_4 : ℕ → (ℕ × Bytes) → Attempt Effect
  rmdir_4 n (d, name) = refuse_if ENOTEMPTY (not (is_empty (entries_at s.tree n))) >> less_3 (d, name)

  abbrev pub rmdir_3 : Place → ℕ → Attempt Effect
  rmdir_3 place n = demand EBUSY (name_of place) >>= rmdir_4 n

  abbrev pub rmdir_2 : Place → ℕ → Attempt Effect
  rmdir_2 place n = refuse_if ENOTDIR (not (is_directory_at s.tree n)) >> rmdir_3 place n

  abbrev pub rmdir_1 : Place → Attempt Effect
  rmdir_1 place = demand ENOENT (node_of place) >>= rmdir_2 place

  abbrev pub move_5 : ℕ → ℕ → Bytes → ℕ → Bytes → Attempt Effect
  move_5 n d name e new_name = with_room (with_tree s (with_entry (without_entry s.tree d name) e new_name n)) >>= (λ after. answers after 0)

  abbrev pub move_4 : ℕ → ℕ → Bytes → ℕ → Bytes → Option ℕ → Attempt Effect
  move_4 n d name e new_name there = refuse_if ENOTEMPTY (not (is_empty (entries_there s.tree there))) >> move_5 n d name e new_name

  abbrev pub move_3 : ℕ → ℕ → Bytes → ℕ → Bytes → Option ℕ → Attempt Effect
  move_3 n d name e new_name there = refuse_if ENOTDIR (is_directory_at s.tree n && is_some there && not (is_directory_there s.tree there)) >> move_4 n d name e new_name there

  abbrev pub move_2 : ℕ → ℕ → Bytes → ℕ → Bytes → Option ℕ → Attempt Effect
  move_2 n d name e new_name there = refuse_if EISDIR (is_directory_there s.tree there && not (is_directory_at s.tree n)) >> move_3 n d name e new_name there

  abbrev pub rename_5 : Place → ℕ → (ℕ × Bytes) → (ℕ × Bytes) → Attempt Effect
  rename_5 new_place n (d, name) (e, new_name) = if same_node (node_of new_place) n then answers s 0 else move_entry s pid me n d name e new_name (node_of new_place)

  abbrev pub rename_4 : Place → ℕ → (ℕ × Bytes) → Attempt Effect
  rename_4 new_place n p = demand EBUSY (name_of new_place) >>= rename_5 new_place n p

  abbrev pub rename_3 : Place → Place → ℕ → Attempt Effect
  rename_3 old_place new_place n = demand EBUSY (name_of old_place) >>= rename_4 new_place n

  abbrev pub rename_2 : Place → Place → Attempt Effect
  rename_2 old_place new_place = demand ENOENT (node_of old_place) >>= rename_3 old_place new_place

  abbrev pub rename_1 : Bytes → Place → Attempt Effect
  rename_1 new old_place = walk_from s me.directory Keep new >>= (λ new_place. judge_for s me new_place permission_c >> rename_2 old_place new_place)

  abbrev pub write_3 : ℕ → OpenFile → ℕ → Attempt Effect
  write_3 k file count = with_room (after_write s pid me k file count) >>= (λ roomy. answers roomy count)

  abbrev pub write_2 : ℕ → OpenFile → ℕ → Attempt Effect
  write_2 k file count = refuse_if EFBIG (is_past_greatest s.tree (write_end s pid me file count)) >> write_3 k file count

  abbrev pub write_1 : ℤ → (ℕ × OpenFile) → Attempt Effect
  write_1 n (k, file) = demand EINVAL (within 4096 n) >>= write_2 k file

  abbrev pub resized : OpenFile → ℕ → State
  resized file size = with_tree s (with_content s.tree file.node (resize (bytes_of (node_at s.tree file.node)) size))

  abbrev pub ftruncate_4 : OpenFile → ℕ → Attempt Effect
  ftruncate_4 file size = with_room (resized file size) >>= (λ roomy. answers roomy 0)

  abbrev pub ftruncate_3 : OpenFile → ℕ → Attempt Effect
  ftruncate_3 file size = refuse_if EFBIG (is_past_greatest s.tree size) >> ftruncate_4 file size

  abbrev pub ftruncate_2 : ℤ → OpenFile → Attempt Effect
  ftruncate_2 n file = demand EINVAL (natural n) >>= ftruncate_3 file

  abbrev pub ftruncate_1 : ℤ → (ℕ × OpenFile) → Attempt Effect
  ftruncate_1 n (k, file) = refuse_if EINVAL (not (writes file.mode)) >> ftruncate_2 n file

  abbrev pub file_number : ℕ
  file_number = least_free s.files

  abbrev pub descriptor_number : ℕ
  descriptor_number = least_free me.descriptors

  abbrev pub open_7 : State → Attempt Effect
  open_7 after = with_room after >>= (λ roomy. answers roomy descriptor_number)

  abbrev pub node_there : Place → Option Node
  node_there place = option_and_then (node_at s.tree) (node_of place)

  abbrev pub open_6 : OpenFlags → Place → Attempt Effect
  open_6 f place = open_node s pid me f (name_of place) (node_of place) >>= open_7

  abbrev pub open_5 : OpenFlags → Place → Attempt Effect
  open_5 f place = refuse_if EISDIR (is_directory (node_there place) && writes f.mode) >> open_6 f place

  abbrev pub open_4 : OpenFlags → Place → Attempt Effect
  open_4 f place = refuse_if ENOTDIR (f.directory && not (is_directory (node_there place))) >> open_5 f place

  abbrev pub open_3 : OpenFlags → Place → Attempt Effect
  open_3 f place = refuse_if ELOOP (is_link (node_there place)) >> open_4 f place

  abbrev pub open_2 : OpenFlags → Place → Attempt Effect
  open_2 f place = refuse_if ENOENT (is_none (node_there place) && not f.create) >> open_3 f place

  abbrev pub open_1 : OpenFlags → Place → Attempt Effect
  open_1 f place = refuse_if EEXIST (f.create && f.exclusive && is_some (node_there place)) >> open_2 f place

  abbrev pub open_c : Bytes → OpenFlags → ℕ → Attempt Effect
  open_c path f directory = walk_from s directory (follow_of f) path >>= (λ place. judge_for s me place (permissions_of_open f) >> open_1 f place)

  abbrev pub open_b : Bytes → OpenFlags → ℕ → Attempt Effect
  open_b path f directory = refuse_if ENFILE (nat_le 128 file_number) >> open_c path f directory

  abbrev pub open_a : Bytes → OpenFlags → ℕ → Attempt Effect
  open_a path f directory = refuse_if EMFILE (nat_le 16 descriptor_number) >> open_b path f directory
