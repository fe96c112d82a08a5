-- The text of `reach`: the permissions of the next call of a process at each place, whatever that call is.
use Rattle.std.specs.Prelude.{ℕ, zero, suc, Bool, true, false, not, ◌&&◌, ◌==◌, if◌then◌else◌, List, [], ◌∷◌, ◌++◌, length, map, flat_map, filter, codes, Option, None, Some, is_none, option_map}
use Rattle.std.specs.Fmt.{decimal}
use Rattle.pv_model.specs.declared.judgement.Judgement.{Judgement}
use Rattle.pv_model.specs.declared.judgement.Judgement.TheVariants.{Allowed, Hidden, Denied}
use Rattle.pv_model.specs.declared.perms.Perms.{Perms}
use Rattle.pv_model.specs.declared.place.Place.{Place}
use Rattle.pv_model.specs.declared.place.Place.TheVariants.{At, Node as Unnamed}
use Rattle.pv_model.specs.declared.promise.Promise.{Promise}
use Rattle.pv_model.specs.declared.promise.Promise.TheVariants.{Rpath, Wpath, Cpath, Exec}
use Rattle.pv_model.specs.declared.target.Target.{Target}
use Rattle.pv_model.specs.declared.target.Target.TheVariants.{Directory, Name}
use Rattle.pv_model.specs.Answers.Lines.{AnswerLine, answer_line, permissions_in_places, counted}
use Rattle.pv_model.specs.Answers.Nodes.{with_name, node_path, node_words, name_words}
use Rattle.pv_model.specs.Answers.ProcessRecord.{OpenDescriptor, open_descriptors}
use Rattle.pv_model.specs.Bytes.{Bytes}
use Rattle.pv_model.specs.Calls.Restraints.{entries_of_table}
use Rattle.pv_model.specs.Held.{live_processes}
use Rattle.pv_model.specs.Listing.{listed_path}
use Rattle.pv_model.specs.Perms.{permission_r, permission_w, permission_x, permission_c}
use Rattle.pv_model.specs.Promises.{holds}
use Rattle.pv_model.specs.State.{Process, State, process_at}
use Rattle.pv_model.specs.Trace.{quote, mode_text}
use Rattle.pv_model.specs.Tree.{Tree, root, entries_at, find_entry, is_directory_at, is_removed}
use Rattle.pv_model.specs.Unveil.{Table, governing_entry, judgement}

-- ---- the names of a tree, in the order of the listing

-- a name of a tree: its path, its place, and its node
pub record ListedName : Type 0 where
  pub path : Bytes
  pub place : Place
  pub node : ℕ

module _ (t : Tree) where
  -- the names from a path downwards, to a depth
  abbrev pub names_within : ℕ → Bytes → Place → ℕ → List ListedName
  names_within zero path place n = []
  names_within (suc depth) path place n =
      record { path = path; place = place; node = n }
      ∷ flat_map (λ e. names_within depth (with_name e.0 path) (At n e.0 (Some e.1)) e.1) (entries_at t n)

  -- all names, the root first
  abbrev pub listed_names : List ListedName
  listed_names = names_within (length t.nodes) [] (Unnamed root) root

-- ---- the permissions at a place

abbrev pub is_allowed : Judgement → Bool
is_allowed Allowed = true
is_allowed Hidden = false
is_allowed (Denied k) = false

module _ (s : State) (p : Process) where
  -- the table grants a permission at the place, and the promises include the corresponding promise
  abbrev pub may : Place → Perms → Promise → Bool
  may place permission promise = is_allowed (judgement s.tree p.table place permission) && holds p.promises promise

  -- the permissions that a call of the process has at a place
  unfoldable pub reached_permissions : Place → Perms
  reached_permissions place = record {
    r = may place permission_r Rpath;
    w = may place permission_w Wpath;
    x = may place permission_x Exec;
    c = may place permission_c Cpath;
  }

  abbrev pub governor_text : Option ℕ → Bytes
  governor_text None = codes "none"
  governor_text (Some k) = codes "entry " ++ decimal k

  -- the entry that governs a place
  abbrev pub who : Option Table → Place → Bytes
  who None place = codes "no table"
  who (Some table) place = governor_text (governing_entry s.tree table place)

  abbrev pub descriptor_part : OpenDescriptor → Bytes
  descriptor_part d = codes ", descriptor " ++ decimal d.number ++ codes " " ++ mode_text d.file.mode

  -- the descriptors that refer to a node
  abbrev pub descriptors_of_node : ℕ → List OpenDescriptor
  descriptors_of_node n = filter (λ d. d.file.node == n) (open_descriptors s p)

  -- a place: its permissions, its description, and the entry that governs it
  abbrev pub governed_text : Place → Bytes → Bytes
  governed_text place words = permissions_in_places (reached_permissions place) ++ codes " " ++ words ++ codes ", " ++ who p.table place

  -- ---- the texts of the lines

  -- the text for a name of the tree
  abbrev pub name_text : ListedName → Bytes
  name_text l = governed_text l.place (quote (listed_path l.path)) ++ flat_map descriptor_part (descriptors_of_node l.node)

  -- the text for an entry whose name does not exist
  abbrev pub absent_text : ℕ → ℕ → Bytes → Bytes
  absent_text k d name =
      permissions_in_places (reached_permissions (At d name None)) ++ codes " " ++ name_words s.tree d name ++ codes ", entry " ++ decimal k ++ codes ", absent"

  abbrev pub is_absent : ℕ → Bytes → Bool
  is_absent d name = is_none (find_entry s.tree d name) && not (is_removed s.tree d)

  abbrev pub entry_texts : ℕ × (Target × Perms) → List Bytes
  entry_texts (k, (Directory n, permissions)) = []
  entry_texts (k, (Name d name, permissions)) = if is_absent d name then absent_text k d name ∷ [] else []

  -- the text for a removed directory
  abbrev pub removed_text : ℕ → Bytes
  removed_text n = governed_text (Unnamed n) (node_words s.tree n)

  -- the text for a removed working directory
  abbrev pub directory_texts : List Bytes
  directory_texts = if is_removed s.tree p.directory then (removed_text p.directory ++ codes ", working directory") ∷ [] else []

  abbrev pub unnamed_text : ℕ → Bytes
  unnamed_text n = if is_directory_at s.tree n then removed_text n else codes "---- " ++ node_words s.tree n

  -- the text for a descriptor on a node without a name
  abbrev pub descriptor_texts : OpenDescriptor → List Bytes
  descriptor_texts d = if is_none (node_path s.tree d.file.node) then (unnamed_text d.file.node ++ descriptor_part d) ∷ [] else []

  -- the texts for all places
  unfoldable pub reach_texts : List Bytes
  reach_texts =
      map name_text (listed_names s.tree) ++ flat_map entry_texts (counted (entries_of_table p.table))
      ++ directory_texts ++ flat_map descriptor_texts (open_descriptors s p)

abbrev pub reach_of : State → ℕ → Process → List AnswerLine
reach_of s pid p = map (answer_line pid (codes "MAY")) (reach_texts s p)

-- the lines for one process, if it is live
abbrev pub reach_of_one : State → ℕ → Option (List AnswerLine)
reach_of_one s pid = option_map (reach_of s pid) (process_at s pid)

-- the lines for all live processes
unfoldable pub reach_lines : State → List AnswerLine
reach_lines s = flat_map (λ p. reach_of s p.0 p.1) (live_processes s.processes)
