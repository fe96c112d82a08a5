-- Reasons of errors in a small state, each by computation.
use Rattle.std.specs.Prelude.{◌≡◌, pos, negsuc, false, true, [], ◌∷◌, ◌++◌, codes, None, Some, refl}
use Rattle.pv_model.specs.declared.call.Call.TheVariants.{Pledge, Unveil, Close, Read, Write, Fchdir, Chdir, Stat, Mkdir, Symlink, Link, Rmdir, Wait}
use Rattle.pv_model.specs.declared.call.Call.{Call}
use Rattle.pv_model.specs.declared.errno.Errno.{Errno}
use Rattle.pv_model.specs.declared.errno.Errno.TheVariants.{ENOENT, EBADF, EEXIST, ENOTDIR, EINVAL, ELOOP, ECHILD, EBUSY, ENOTEMPTY}
use Rattle.pv_model.specs.declared.open_flags.Mode.TheVariants.{Read as ReadMode}
use Rattle.pv_model.specs.declared.version.Version.TheVariants.{V1}
use Rattle.pv_model.specs.Machine.{Bytes, machine_on_literals, Process, State, first_process, first_state, Tree, directory_node, file_node, link_node}
use Rattle.pv_explain.specs.Errors.{prefix_end, error_reason, reason_text}

-- a directory `d` with a file, a file `f`, and a link `l` to itself
abbrev tree : Tree
tree = record {
  nodes = None
      ∷ Some (directory_node ((codes "d", 2) ∷ (codes "f", 3) ∷ (codes "l", 4) ∷ []))
      ∷ Some (directory_node ((codes "g", 3) ∷ []))
      ∷ Some (file_node false (codes "abc"))
      ∷ Some (link_node (codes "l"))
      ∷ [];
  blocks = 64;
  inodes = 4;
  version = V1;
}

-- descriptor 0 is open for reading on the file
abbrev worked_state : State
worked_state = record (first_state tree []) { files = Some (record { node = 3; mode = ReadMode; append = false; offset = 0; listed = None }) ∷ [] }

abbrev worked_process : Process
worked_process = record (first_process []) { descriptors = Some (record { file = 0; close_on_exec = false }) ∷ None ∷ [] }

abbrev says : Call → Errno → Bytes
says call e = reason_text worked_state.tree (error_reason worked_state worked_process call e)

not_open : says (Close (pos 7)) EBADF ≡ codes "no descriptor 7"
unfolding machine_on_literals error_reason prefix_end
not_open = refl

no_number : says (Close (negsuc 0)) EBADF ≡ codes "no descriptor -1"
unfolding machine_on_literals error_reason prefix_end
no_number = refl

not_for_writing : says (Write (pos 0) (pos 1)) EBADF ≡ codes "descriptor 0 is a file, node 3, size 3, open r"
unfolding machine_on_literals error_reason prefix_end
not_for_writing = refl

too_many_bytes : says (Read (pos 0) (pos 5000)) EINVAL ≡ codes "the number of bytes is not from 0 to 4096"
unfolding machine_on_literals error_reason prefix_end
too_many_bytes = refl

no_directory : says (Fchdir (pos 0)) ENOTDIR ≡ codes "descriptor 0 is a file, node 3, size 3, open r"
unfolding machine_on_literals error_reason prefix_end
no_directory = refl

keyword : says (Pledge (Some (codes "stdio  rpaht")) None) EINVAL ≡ codes "unknown keyword \"rpaht\""
unfolding machine_on_literals error_reason prefix_end
keyword = refl

permission : says (Unveil (Some (codes "/d")) (Some (codes "rqz"))) EINVAL ≡ codes "unknown permission \"q\""
unfolding machine_on_literals error_reason prefix_end
permission = refl

one_null : says (Unveil (Some (codes "/d")) None) EINVAL ≡ codes "one of the two arguments is null"
unfolding machine_on_literals error_reason prefix_end
one_null = refl

no_text : says (Symlink [] (codes "/x")) ENOENT ≡ codes "the text is empty"
unfolding machine_on_literals error_reason prefix_end
no_text = refl

no_child : says Wait ECHILD ≡ codes "the process has no child"
unfolding machine_on_literals error_reason prefix_end
no_child = refl

below_a_file : says (Stat (codes "/f/x/y")) ENOTDIR ≡ codes "\"/f\" is a file, node 3, size 3"
unfolding machine_on_literals error_reason prefix_end
below_a_file = refl

below_a_file_with_slashes : says (Stat (codes "//d//g/")) ENOTDIR ≡ codes "\"//d//g\" is a file, node 3, size 3"
unfolding machine_on_literals error_reason prefix_end
below_a_file_with_slashes = refl

below_nothing : says (Stat (codes "/d/x/y")) ENOENT ≡ codes "\"/d/x\" does not exist"
unfolding machine_on_literals error_reason prefix_end
below_nothing = refl

nothing : says (Chdir (codes "d/y")) ENOENT ≡ codes "\"d/y\" does not exist"
unfolding machine_on_literals error_reason prefix_end
nothing = refl

no_path : says (Chdir []) ENOENT ≡ codes "\"\" does not exist"
unfolding machine_on_literals error_reason prefix_end
no_path = refl

links : says (Stat (codes "/l/x")) ELOOP ≡ codes "\"/l\" leads to a 33rd link"
unfolding machine_on_literals error_reason prefix_end
links = refl

exists : says (Mkdir (codes "/l")) EEXIST ≡ codes "\"/l\" is a link, node 4, size 1"
unfolding machine_on_literals error_reason prefix_end
exists = refl

has_entries : says (Rmdir (codes "/d")) ENOTEMPTY ≡ codes "\"/d\" is a directory, node 2, size 1"
unfolding machine_on_literals error_reason prefix_end
has_entries = refl

no_name : says (Rmdir (codes "/")) EBUSY ≡ codes "\"/\" is a directory, node 1, size 3, without a name"
unfolding machine_on_literals error_reason prefix_end
no_name = refl

both_paths : says (Link (codes "/f") (codes "/d/g")) EEXIST ≡ codes "\"/f\" is a file, node 3, size 3; \"/d/g\" is a file, node 3, size 3"
unfolding machine_on_literals error_reason prefix_end
both_paths = refl
