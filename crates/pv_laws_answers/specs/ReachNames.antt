-- The names that `reach` lists are those of the listing, each once.
use Rattle.std.specs.Prelude.{◌≡◌, ◌⊎◌, ℕ, List, [], ◌∷◌, ◌++◌, map, Some}
use Rattle.pv_model.specs.declared.place.Place.{Place}
use Rattle.pv_model.specs.declared.place.Place.TheVariants.{At, Node as Unnamed}
use Rattle.pv_model.specs.Machine.{ListedName, Bytes, Process, State, Tree, root, IsWellFormed}
use Rattle.pv_model.specs.Answers.Reach.{listed_names, name_text, reach_texts}
use Rattle.pv_model.specs.Grammar.Entries.{path_of_names}
use Rattle.pv_laws_access.specs.Order.{IsListedBy, Places, led_to}

-- names lead to a place at a node: the root, or the last name, in the directory to which the names before it lead
abbrev pub IsPlaceOfNames : Tree → List Bytes → ℕ → Place → Type 0
IsPlaceOfNames t names n place =
    ((names ≡ []) × (place ≡ Unnamed root))
    ⊎ ((front : List Bytes) × (last : Bytes) × (d : ℕ) × (names ≡ front ++ last ∷ []) × (led_to t root front ≡ Some d) × (place ≡ At d last (Some n)))

-- a listed name is that of a place of the tree: its path, its node, and the place about which a table decides
pub record IsNameOf (t : Tree) (p : List Bytes × ℕ) (l : ListedName) : Type 0 where
  pub path : l.path ≡ path_of_names p.0
  pub node : l.node ≡ p.1
  pub place : IsPlaceOfNames t p.0 p.1 l.place

-- listed names are those of places, in order, one for each
abbrev pub AreNamesOf : Tree → Places → List ListedName → Type 0
AreNamesOf t [] [] = Unit {0}
AreNamesOf t (p ∷ ps) (l ∷ ls) = IsNameOf t p l × AreNamesOf t ps ls
AreNamesOf t [] (l ∷ ls) = ⊥
AreNamesOf t (p ∷ ps) [] = ⊥

-- the names are those of the places of the listing, which ascend and are exactly those to which entries lead
abbrev pub ReachListsTheListing : Type 0
ReachListsTheListing = (t : Tree) → IsWellFormed t → (places : Places) × IsListedBy t places × AreNamesOf t places (listed_names t)

-- the text for a process begins with one line for each of these names, in order
abbrev pub ReachBeginsWithNames : Type 0
ReachBeginsWithNames = (s : State) (p : Process) → (others : List Bytes) × (reach_texts s p ≡ map (name_text s p) (listed_names s.tree) ++ others)
