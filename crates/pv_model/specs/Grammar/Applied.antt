-- The tree of a manifest as a relation: the effect of an entry on a tree, and the reasons to reject an entry.
use Rattle.std.specs.Prelude.{◌≡◌, ℕ, IsTrue, IsFalse, List, [], ◌∷◌, ◌++◌, None, Some}
use Rattle.pv_model.specs.declared.fault.ManifestFault.{ManifestFault}
use Rattle.pv_model.specs.declared.fault.ManifestFault.TheVariants.{Parent, Exists, Source, Room}
use Rattle.pv_model.specs.Bytes.{Bytes}
use Rattle.pv_model.specs.Grammar.Manifests.{path_of}
use Rattle.pv_model.specs.Manifest.{Entry, make, further_name}
use Rattle.pv_model.specs.Room.{is_too_long, fits}
use Rattle.pv_model.specs.Tree.{Tree, root, is_directory_at, find_entry, with_entry, with_new_node}
use Rattle.pv_model.specs.Walk.{components}

-- names lead down through directories to the last name and the directory that is to contain it
pub data LeadsTo (t : Tree) : ℕ → List Bytes → ℕ → Bytes → Type 0 where
  at_last_name : (d : ℕ) (name : Bytes) → LeadsTo t d (name ∷ []) d name
  down : (d n : ℕ) (name next : Bytes) (others : List Bytes) (container : ℕ) (last : Bytes) → find_entry t d name ≡ Some n → IsTrue (is_directory_at t n)
      → LeadsTo t n (next ∷ others) container last → LeadsTo t d (name ∷ next ∷ others) container last

-- a path names a file or a link; no link is followed
pub record NamesFile (t : Tree) (path : Bytes) (n : ℕ) : Type 0 where
  pub container : ℕ
  pub name : Bytes
  pub leads : LeadsTo t root (components path) container name
  pub appears : find_entry t container name ≡ Some n
  pub kind : IsFalse (is_directory_at t n)

-- the tree after an entry whose name is new in its directory
abbrev pub MakesAt : Tree → Entry → ℕ → Bytes → Tree → Type 0
MakesAt t (make path node) d name after = after ≡ with_new_node t d name node
MakesAt t (further_name path source) d name after = (n : ℕ) × NamesFile t source n × (after ≡ with_entry t d name n)

-- the place of an entry: a directory, and a name that is new in it
pub record IsPlaceOf (t : Tree) (e : Entry) (d : ℕ) (name : Bytes) : Type 0 where
  pub leads : LeadsTo t root (components (path_of e)) d name
  pub free : find_entry t d name ≡ None

pub record Makes (t : Tree) (e : Entry) (after : Tree) : Type 0 where
  pub container : ℕ
  pub name : Bytes
  pub place : IsPlaceOf t e container name
  pub made : MakesAt t e container name after

-- no node is too long, and the nodes and their blocks fit
abbrev pub HasRoom : Tree → Type 0
HasRoom t = IsFalse (is_too_long t) × IsTrue (fits t)

abbrev pub Applies : Tree → Entry → Tree → Type 0
Applies t e after = Makes t e after × HasRoom after

-- the second path of an entry `name` names neither a file nor a link
abbrev pub LacksSource : Tree → Entry → Type 0
LacksSource t (make path node) = ⊥
LacksSource t (further_name path source) = (n : ℕ) → NamesFile t source n → ⊥

-- the reason why the entry on a line cannot be added
abbrev pub IsRefused : Tree → ℕ → Entry → ManifestFault → Type 0
IsRefused t line e (Parent n) = (n ≡ line) × ((d : ℕ) (name : Bytes) → LeadsTo t root (components (path_of e)) d name → ⊥)
IsRefused t line e (Exists n) = (n ≡ line) × (d : ℕ) × (name : Bytes) × (there : ℕ) × LeadsTo t root (components (path_of e)) d name × (find_entry t d name ≡ Some there)
IsRefused t line e (Source n) = (n ≡ line) × (d : ℕ) × (name : Bytes) × IsPlaceOf t e d name × LacksSource t e
IsRefused t line e (Room n) = (n ≡ line) × (after : Tree) × Makes t e after × ¬ (HasRoom after)
IsRefused t line e _ = ⊥

-- entries are added in order
abbrev pub AppliesAll : Tree → List (ℕ × Entry) → Tree → Type 0
AppliesAll t [] after = after ≡ t
AppliesAll t (e ∷ es) after = (next : Tree) × Applies t e.1 next × AppliesAll next es after

-- the first entry that cannot be added after those before it
abbrev pub IsFirstRefused : Tree → List (ℕ × Entry) → ManifestFault → Type 0
IsFirstRefused t entries fault =
    (front : List (ℕ × Entry)) × (line : ℕ) × (e : Entry) × (rest : List (ℕ × Entry)) × (before : Tree) × (entries ≡ front ++ (line, e) ∷ rest)
    × AppliesAll t front before × IsRefused before line e fault
