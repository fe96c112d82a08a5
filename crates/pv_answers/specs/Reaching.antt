-- The permissions of a process at places, part by part.
use Rattle.std.specs.Prelude.{ℕ, Bool, true, not, ◌&&◌, if◌then◌else◌, ◌==◌, List, [], ◌∷◌, ◌++◌, flat_map, codes, slice_get, is_none, unwrap_or, Option, None, Some, option_map, option_to_list}
use Rattle.std.specs.Fmt.{decimal}
use Rattle.std.specs.Option.{option_and_then}
use Rattle.pv_answers.specs.declared.reach.names.LinkedPath.{LinkedPath, Root, Below'}
use Rattle.pv_answers.specs.declared.reach.reacher.Reacher.{Reacher}
use Rattle.pv_answers.specs.Texts.{line_front}
use Rattle.pv_model.specs.declared.open_flags.Mode.{Mode}
use Rattle.pv_model.specs.declared.perms.Perms.{Perms}
use Rattle.pv_model.specs.declared.place.Place.{Place}
use Rattle.pv_model.specs.declared.place.Place.TheVariants.{At}
use Rattle.pv_model.specs.declared.promise.Promise.TheVariants.{Rpath, Wpath, Cpath, Exec}
use Rattle.pv_model.specs.declared.target.Target.TheVariants.{Directory}
use Rattle.pv_model.specs.Machine.{AnswerLine, permissions_in_places, node_path, with_name, ListedName, Bytes, entries_of_table, listed_path, at_number, no_permissions, Promises, Process, State, first_process, mode_text, quote, Entries, Tree, find_entry, is_removed, Table, entry_for, permissions_at}
use Rattle.pv_model.specs.Answers.Lines.{counted}
use Rattle.pv_model.specs.Answers.Nodes.{name_words, node_words}
use Rattle.pv_model.specs.Answers.ProcessRecord.{open_descriptors}
use Rattle.pv_model.specs.Answers.Reach.{descriptor_part, descriptor_texts, descriptors_of_node, directory_texts, entry_texts, listed_names, name_text, names_within, reach_of_one, unnamed_text}
use Rattle.pv_model.specs.Promises.{holds}
use Rattle.pv_calls_state.specs.OfProcs.declared.record.ProcessRecord.{ProcessRecord}
use Rattle.pv_calls_state.specs.OfProcs.Parts.{with_record}

-- the lines of a process's permissions; none if the process is not live
abbrev pub reached_by : State → ℕ → List AnswerLine
reached_by s pid = unwrap_or (reach_of_one s pid) []

-- ---- the process

-- a process with this record
abbrev pub owner : ProcessRecord → Process
owner r = with_record (first_process []) r

abbrev pub reacher_state : Reacher → State
reacher_state x = x.parts.now

abbrev pub reacher_process : Reacher → Process
reacher_process x = owner x.owned.now

abbrev pub reacher_table : Reacher → Option Table
reacher_table x = x.owned.now.unveiled.table

-- a line of the process
abbrev pub may_line : Reacher → Bytes → Bytes
may_line x text = line_front x.pid (codes "MAY ") ++ text ++ 10 ∷ []

abbrev pub may_lines : Reacher → List Bytes → Bytes
may_lines x texts = flat_map (may_line x) texts

-- ---- by the governing entry

-- the permissions that a table gives: all if there is no table
abbrev pub given_by : Option Table → Option ℕ → Perms
given_by None entry = record { r = true; w = true; x = true; c = true }
given_by (Some table) None = no_permissions
given_by (Some table) (Some k) = permissions_at table k

-- those permissions whose promises are held
abbrev pub promised : Option Promises → Perms → Perms
promised held given = record {
  r = given.r && holds held Rpath;
  w = given.w && holds held Wpath;
  x = given.x && holds held Exec;
  c = given.c && holds held Cpath;
}

-- the permissions that the process has
abbrev pub permitted_by : ProcessRecord → Option ℕ → Perms
permitted_by r entry = promised r.pledge.promises (given_by r.unveiled.table entry)

-- the governor of a place
abbrev pub who_by : Option Table → Option ℕ → Bytes
who_by None entry = codes "no table"
who_by (Some table) None = codes "none"
who_by (Some table) (Some k) = codes "entry " ++ decimal k

-- a place in words, with its permissions and its governor
abbrev pub governed_words : Reacher → Option ℕ → Bytes → Bytes
governed_words x entry words = permissions_in_places (permitted_by x.owned.now entry) ++ codes " " ++ words ++ codes ", " ++ who_by (reacher_table x) entry

-- ---- descriptors

-- the node and the mode of a descriptor's open file, if the descriptor is open
abbrev pub opened_at : Reacher → ℕ → Option (ℕ × Mode)
opened_at x d = option_map (λ f. (f.node, f.mode)) (option_and_then (λ e. at_number (reacher_state x).files e.file) (at_number x.owned.now.descriptors d))

abbrev pub descriptor_words : ℕ → Mode → Bytes
descriptor_words d mode = codes ", descriptor " ++ decimal d ++ codes " " ++ mode_text mode

-- the words for a descriptor that follow a node, if the descriptor is on that node
abbrev pub words_on : ℕ → ℕ → Option (ℕ × Mode) → Bytes
words_on n d None = []
words_on n d (Some opened) = if opened.0 == n then descriptor_words d opened.1 else []

-- the words for all descriptors on a node
abbrev pub all_on : Reacher → ℕ → Bytes
all_on x n = flat_map (descriptor_part (reacher_state x) (reacher_process x)) (descriptors_of_node (reacher_state x) (reacher_process x) n)

-- ---- names of the tree

-- the bytes of a path
abbrev pub linked_path_bytes : LinkedPath → Bytes
linked_path_bytes Root = []
linked_path_bytes (Below' p above name) = with_name name.now (linked_path_bytes above)

-- the words for a name, by its governing entry
abbrev pub listed_words : Reacher → Bytes → Option ℕ → ℕ → Bytes
listed_words x path entry n = governed_words x entry (quote (listed_path path)) ++ all_on x n

abbrev pub listed_line : Reacher → ListedName → Bytes
listed_line x l = may_line x (name_text (reacher_state x) (reacher_process x) l)

-- the lines of names
abbrev pub listed_lines : Reacher → List ListedName → Bytes
listed_lines x ls = flat_map (listed_line x) ls

-- the lines of the names at and below a path, up to a depth
abbrev pub listed_lines_within : Reacher → ℕ → Bytes → Place → ℕ → Bytes
listed_lines_within x depth path place n = listed_lines x (names_within (reacher_state x).tree depth path place n)

-- the lines of the entries of a directory
abbrev pub lines_under : Reacher → ℕ → Bytes → ℕ → Entries → Bytes
lines_under x depth path n es = flat_map (λ e. listed_lines_within x depth (with_name e.0 path) (At n e.0 (Some e.1)) e.1) es

-- ---- places without a name in the tree

-- the name does not exist, in a directory that is not removed
abbrev pub is_absent_in : Tree → ℕ → Bytes → Bool
is_absent_in t d name = is_none (find_entry t d name) && not (is_removed t d)

abbrev pub absent_words : Reacher → ℕ → Option ℕ → ℕ → Bytes → Bytes
absent_words x k entry d name =
    permissions_in_places (permitted_by x.owned.now entry) ++ codes " " ++ name_words (reacher_state x).tree d name ++ codes ", entry " ++ decimal k ++ codes ", absent"

-- the line of a table entry, if its target is an absent name
abbrev pub absent_line : Reacher → ℕ → Bytes
absent_line x k =
    may_lines x (flat_map (λ e. entry_texts (reacher_state x) (reacher_process x) (k, e)) (option_to_list (slice_get (entries_of_table (reacher_table x)) k)))

-- a removed directory, which only its own entry can govern
abbrev pub removed_words : Reacher → ℕ → Bytes
removed_words x n = governed_words x (entry_for (entries_of_table (reacher_table x)) (Directory n)) (node_words (reacher_state x).tree n)

-- a node without a path, and a descriptor on it
abbrev pub unnamed_words : Reacher → ℕ → ℕ → Mode → Bytes
unnamed_words x n d mode = unnamed_text (reacher_state x) (reacher_process x) n ++ descriptor_words d mode

-- the line of a descriptor, if its node has no path
abbrev pub unnamed_line : Reacher → ℕ → Option (ℕ × Mode) → Bytes
unnamed_line x d None = []
unnamed_line x d (Some opened) = if is_none (node_path (reacher_state x).tree opened.0) then may_line x (unnamed_words x opened.0 d opened.1) else []

-- ---- all lines of a process

abbrev pub absent_lines : Reacher → Bytes
absent_lines x = may_lines x (flat_map (entry_texts (reacher_state x) (reacher_process x)) (counted (entries_of_table (reacher_table x))))

abbrev pub directory_lines : Reacher → Bytes
directory_lines x = may_lines x (directory_texts (reacher_state x) (reacher_process x))

abbrev pub unnamed_lines : Reacher → Bytes
unnamed_lines x = may_lines x (flat_map (descriptor_texts (reacher_state x) (reacher_process x)) (open_descriptors (reacher_state x) (reacher_process x)))

abbrev pub process_lines : Reacher → Bytes
process_lines x = listed_lines x (listed_names (reacher_state x).tree) ++ absent_lines x ++ directory_lines x ++ unnamed_lines x
