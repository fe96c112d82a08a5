-- The order of names in getdents(2), listings and reports.
use Rattle.std.specs.Prelude.{◌≡◌, ◌≢◌, ◌⊎◌, ℕ, ℤ, IsTrue, List, [], ◌∷◌, ◌++◌, length, drop, flat_map, Option, None, Some, is_some, option_and_then}
use Rattle.std.specs.Cmp.Lexicographic.{slice_cmp}
use Rattle.std.specs.FinMap.Entries.{find, is_sorted}
use Rattle.std.specs.Ordering.{nat_cmp}
use Rattle.std.specs.declared.cmp.Ordering.{Ordering}
use Rattle.std.specs.declared.cmp.Ordering.TheVariants.{Less}
use Rattle.pv_model.specs.declared.call.Call.TheVariants.{Getdents}
use Rattle.pv_model.specs.declared.outcome.Outcome.TheVariants.{Text}
use Rattle.pv_model.specs.Machine.{Bytes, open_file, listing, report, at_number, audit_node, OpenFile, Program, Process, State, process_at, step, run, Tree, root, node_at, is_directory_at, find_entry, IsWellFormed}
use Rattle.pv_model.specs.Listing.{node_line, found_line, lines_of_all}
use Rattle.pv_model.specs.Grammar.Entries.{path_of_names}
use Rattle.pv_laws_states.specs.States.{EncodesPrograms, IsValid}
use Rattle.pv_laws_access.specs.Origins.{MakesCall}

-- a name is less than another in byte order
abbrev pub IsSmallerName : Bytes → Bytes → Type 0
IsSmallerName name other = slice_cmp nat_cmp name other ≡ Less

-- a directory has an entry under a name
abbrev pub HasEntry : Tree → ℕ → Bytes → Type 0
HasEntry t d name = (n : ℕ) × (find_entry t d name ≡ Some n)

-- ---- getdents

-- a name is greater than the last one that was listed, if there is one
abbrev pub IsAfterName : Option Bytes → Bytes → Type 0
IsAfterName None name = Unit {0}
IsAfterName (Some last) name = IsSmallerName last name

-- the least of the directory's entries after the last one that was listed
pub record IsNextEntryName (t : Tree) (d : ℕ) (last : Option Bytes) (name : Bytes) : Type 0 where
  pub entry : HasEntry t d name
  pub past : IsAfterName last name
  pub least : (other : Bytes) → HasEntry t d other → IsAfterName last other → (other ≡ name) ⊎ IsSmallerName name other

-- no entry of the directory comes after the last one that was listed
abbrev pub NonePast : Tree → ℕ → Option Bytes → Type 0
NonePast t d last = (name : Bytes) → HasEntry t d name → ¬ IsAfterName last name

module _ (program_of : Bytes → Option Program) (s : State) (pid : ℕ) where
  -- the step returns these bytes: its value is their number, and they are at the start of the buffer
  pub record IsReported (me : Process) (bytes : Bytes) : Type 0 where
    pub outcome : (step program_of s pid).outcome ≡ Text (record { value = length bytes; len = length bytes })
    pub reported : Process
    pub live : process_at (step program_of s pid).after pid ≡ Some reported
    pub buffer : reported.buffer ≡ bytes ++ drop (length bytes) me.buffer

  -- the step returns the next name, which the open file records as its last; or no bytes if there is none
  pub data ReportsTheNext (me : Process) (k : ℕ) (file : OpenFile) : Type 0 where
    a_name : (name : Bytes) → IsNextEntryName s.tree file.node file.listed name → IsReported me name
        → at_number (step program_of s pid).after.files k ≡ Some (record file { listed = Some name }) → ReportsTheNext me k file
    none_left : NonePast s.tree file.node file.listed → IsReported me []
        → at_number (step program_of s pid).after.files k ≡ Some file → ReportsTheNext me k file

-- a getdents of a directory returns the least entry after the last one listed, in byte order
abbrev pub ReportsTheNextName : Type 0
ReportsTheNextName =
    (program_of : Bytes → Option Program) (s : State) (pid : ℕ) (me : Process) (d : ℤ) (k : ℕ) (file : OpenFile) → IsValid s → MakesCall s pid me (Getdents d)
    → open_file s me d ≡ Some (k, file) → IsTrue (is_directory_at s.tree file.node) → ReportsTheNext program_of s pid me k file

module _ (program_of : Bytes → Option Program) where
  -- the step is a getdents, by a descriptor for open file k on a directory, that returns this name
  pub record ReportsBy (s : State) (pid k : ℕ) (name : Bytes) : Type 0 where
    pub me : Process
    pub d : ℤ
    pub file : OpenFile
    pub made : MakesCall s pid me (Getdents d)
    pub opened : open_file s me d ≡ Some (k, file)
    pub directory : IsTrue (is_directory_at s.tree file.node)
    pub reported : IsReported program_of s pid me name
    pub some : name ≢ []

  -- open file k stays open along a run
  abbrev pub StaysOpen : ℕ → List ℕ → State → Type 0
  StaysOpen k [] s = IsTrue (is_some (at_number s.files k))
  StaysOpen k (pid ∷ pids) s = IsTrue (is_some (at_number s.files k)) × StaysOpen k pids (step program_of s pid).after

-- of two names returned through one open file, by any processes and with any steps in between, the later one is greater
abbrev pub NamesReportedAscend : Type 0
NamesReportedAscend =
    (program_of : Bytes → Option Program) → EncodesPrograms program_of → (s : State) (pid k : ℕ) (name : Bytes) (pids : List ℕ) (last : ℕ) (other : Bytes) → IsValid s
    → ReportsBy program_of s pid k name → StaysOpen program_of k pids (step program_of s pid).after
    → ReportsBy program_of (run program_of pids (step program_of s pid).after).final last k other → IsSmallerName name other

-- ---- listings

-- the node that names lead to from another node
abbrev pub led_to : Tree → ℕ → List Bytes → Option ℕ
led_to t n [] = Some n
led_to t n (name ∷ names) = option_and_then (λ m. led_to t m names) (find_entry t n name)

-- lists of names are ordered name by name: everything below a directory comes directly after it
abbrev pub by_names : List Bytes → List Bytes → Ordering
by_names = slice_cmp (slice_cmp nat_cmp)

-- places of a tree: the names that lead to each, and its node
abbrev pub Places : Type 0
Places = List (List Bytes × ℕ)

-- the lines of places, in order
abbrev pub lines_at : (Bytes → ℕ → Bytes) → Places → Bytes
lines_at line places = flat_map (λ p. line (path_of_names p.0) p.1) places

-- these places list a tree: they ascend, entries lead to exactly these from the root, and listing and report consist of
-- their lines in order
pub record IsListedBy (t : Tree) (places : Places) : Type 0 where
  pub ascending : IsTrue (is_sorted by_names places)
  pub reached : (names : List Bytes) → find by_names names places ≡ led_to t root names
  pub lines : (line : Bytes → ℕ → Bytes) → lines_of_all t line ≡ lines_at line places
  pub listed : listing t ≡ lines_at (λ path n. node_line path n (node_at t n)) places
  pub reported : (s : State) → s.tree ≡ t → report s ≡ lines_at (λ path n. found_line path (audit_node s (Some n))) places

-- listings and reports visit all places of a tree, each once, in ascending order
abbrev pub ListingsAscend : Type 0
ListingsAscend = (t : Tree) → IsWellFormed t → (places : Places) × IsListedBy t places
