-- The tree that entries make is a valid first tree.
use Rattle.std.proofs.Common.{◌≡◌, ℕ, ◌≤◌, ◌<◌, Ok, true, false, Bool, List, [], ◌∷◌, length, Option, None, Some, is_some, is_none, refl, ap, sym, subst, ◌∙◌, arith}
use Rattle.std.specs.List.{list_all}
use Rattle.std.proofs.lemmas.Bool.{and_parts}
use Rattle.pv_model.specs.declared.version.Version.TheVariants.{V1}
use Rattle.pv_model.specs.Machine.{Bytes, EncodesManifest, Manifest, data_blocks, tree_of, Entry, make, further_name, empty_tree, fits, is_too_long, State, first_state, Node, Tree, root, node_at, is_directory_at, find_entry, is_name, new_number, with_node, with_entry, with_new_node, components}
use Rattle.pv_model.specs.Grammar.Applied.{LeadsTo, at_last_name, down, Applies, AppliesAll}
use Rattle.pv_laws_grammar.proofs.AppliedEntries.{AppliesAll-tree_of}
use Rattle.pv_laws_answers.specs.OfLawsStates.States.{are_bytes, has_bytes, IsFirstTree}
use Rattle.pv_laws_answers.proofs.OfLawsStates.ValidBySteps.{first-valid}
use Rattle.pv_laws_answers.proofs.OfLawsStates.GrownTrees.{bytes-with_node, bytes-with_entry, new-below}
use Rattle.pv_laws_answers.proofs.OfLawsStates.CollectedStates.{held_after}
use Rattle.pv_laws_trees.specs.Preserved.{EachIsNamed}
use Rattle.pv_laws_trees.specs.Tree.{Appears}
use Rattle.pv_laws_trees.proofs.WellFormedChanges.{stays-new_node, stays-with_entry}
use Rattle.pv_laws_trees.proofs.EmptyTrees.{only-root, sound-empty, short-empty, fits-empty}
use Rattle.pv_laws_trees.proofs.Collection.{preserved_all}
use Rattle.pv_laws_trees.proofs.NewNodes.{dir-new, named-with_entry, named-with_new_node}
use Rattle.pv_laws_trees.proofs.NumberedMaps.{least_free-within, length-drop_one}
use Rattle.pv_laws_trees.proofs.Trees.{sound, well_formed, ordered, parent-root, entry-parent}
use Rattle.pv_laws_runs.proofs.ManifestEntries.{is_good_name, IsNew, IsGoodEntry, AreGoodEntries, lines-bytes, listed-good}

-- ---- the place of an entry

pub appears-root : (t : Tree) → IsFirstTree t → Appears t root
appears-root t first = (first.tree.well_formed.root_is_directory, ap is_none (parent-root t))

pub leads-appears : (t : Tree) → IsFirstTree t → (d : ℕ) (names : List Bytes) (container : ℕ) (name : Bytes) → LeadsTo t d names container name → Appears t d → Appears t container
leads-appears t first _ _ _ _ (at_last_name d name) appears = appears
leads-appears t first _ _ _ _ (down d n name next others container last found dir more) appears =
    leads-appears t first n (next ∷ others) container last more (dir, ap is_none (entry-parent t (sound t first.tree.well_formed) n d name dir found))

pub leads-name : (t : Tree) (d : ℕ) (names : List Bytes) (container : ℕ) (name : Bytes) → LeadsTo t d names container name → list_all is_good_name names ≡ true → is_good_name name ≡ true
leads-name t _ _ _ _ (at_last_name d name) all = (and_parts (is_good_name name) true all).0
leads-name t _ _ _ _ (down d n name next others container last found dir more) all =
    leads-name t n (next ∷ others) container last more (and_parts (is_good_name name) (list_all is_good_name (next ∷ others)) all).1

-- ---- an entry

-- a valid first tree of version 1
pub record IsStarting (t : Tree) : Type 0 where
  pub first : IsFirstTree t
  pub version : t.version ≡ V1

module _ (t : Tree) (start : IsStarting t) (d : ℕ) (name : Bytes) (appears : Appears t d) (free : find_entry t d name ≡ None) (good : is_good_name name ≡ true) where
  abbrev first : IsFirstTree t
  first = start.first

  name-good : is_name t.version name ≡ true
  name-good = ap (λ v. is_name v name) start.version ∙ (and_parts (is_name V1 name) (are_bytes name) good).0

  name-bytes : are_bytes name ≡ true
  name-bytes = (and_parts (is_name V1 name) (are_bytes name) good).1

  first-with_entry : (n : ℕ) → is_some (node_at t n) ≡ true → is_directory_at t n ≡ false → is_too_long (with_entry t d name n) ≡ false → fits (with_entry t d name n) ≡ true → IsStarting (with_entry t d name n)
  first-with_entry n there plain short fit = record {
    first = record {
      tree = record {
        well_formed = stays-with_entry t first.tree.well_formed d name n appears free name-good there plain;
        bytes = bytes-with_entry t d name n appears.0 name-bytes first.tree.bytes;
      };
      named = named-with_entry t d name appears.0 free n (ordered t first.tree.well_formed.each_node) first.named;
      fits = fit;
      not_too_long = short;
    };
    version = start.version;
  }

  module _ (node : Node) (new : IsNew node) (short : is_too_long (with_new_node t d name node) ≡ false) (fit : fits (with_new_node t d name node) ≡ true) where
    pub within : new_number t ≤ length t.nodes
    within =
        let rest = length-drop_one t.nodes t.inodes first.tree.well_formed.numbers in
        let numbers = first.tree.well_formed.numbers in
        omega (arith, rest, numbers, least_free-within (Rattle.std.proofs.Common.drop 1 t.nodes))

    named : EachIsNamed (with_new_node t d name node)
    named = named-with_new_node t d name node appears.0 free new.bare within (ordered t first.tree.well_formed.each_node) first.named

    abbrev s : State
    s = first_state t []

    below : new_number t < length t.nodes
    below =
        new-below s (first-valid t [] first refl) d name node (held_after s) appears.0 free new.bare (λ n is. is)
        (ap fits (preserved_all (with_new_node t d name node) (held_after s) named) ∙ fit)

    still : is_directory_at (with_node t (new_number t) node) d ≡ true
    still = dir-new t d name node appears.0 free new.bare within

    first-with_new_node : IsStarting (with_new_node t d name node)
    first-with_new_node = record {
      first = record {
        tree = record {
          well_formed = stays-new_node t first.tree.well_formed d name node appears free name-good (ap (λ v. Rattle.pv_model.specs.Tree.is_node v node) start.version ∙ new.is) new.bare
              (let numbers = first.tree.well_formed.numbers in omega (arith, numbers, below));
          bytes = bytes-with_entry (with_node t (new_number t) node) d name (new_number t) still name-bytes (bytes-with_node t (new_number t) node below new.bytes first.tree.bytes);
        };
        named = named;
        fits = fit;
        not_too_long = short;
      };
      version = start.version;
    }

pub applied : (t : Tree) → IsStarting t → (e : Entry) (after : Tree) → IsGoodEntry e → Applies t e after → IsStarting after
applied t start (make path node) after good is =
    let makes = is.0 in
    let d = makes.container in
    let name = makes.name in
    let appears = leads-appears t start.first root (components path) d name makes.place.leads (appears-root t start.first) in
    let fine = leads-name t root (components path) d name makes.place.leads good.0 in
    subst IsStarting (sym makes.made)
    (first-with_new_node t start d name appears makes.place.free fine node good.1 (ap is_too_long (sym makes.made) ∙ is.1.0) (ap fits (sym makes.made) ∙ is.1.1))
applied t start (further_name path source) after good is =
    let makes = is.0 in
    let d = makes.container in
    let name = makes.name in
    let appears = leads-appears t start.first root (components path) d name makes.place.leads (appears-root t start.first) in
    let fine = leads-name t root (components path) d name makes.place.leads good in
    let n = makes.made.0 in
    let file = makes.made.1 in
    let made = makes.made.2 in
    subst IsStarting (sym made)
    (first-with_entry t start d name appears makes.place.free fine n (start.first.tree.well_formed.entries_are_nodes file.container file.name n file.appears) file.kind
    (ap is_too_long (sym made) ∙ is.1.0) (ap fits (sym made) ∙ is.1.1))

applied-all : (t : Tree) → IsStarting t → (es : List (ℕ × Entry)) (after : Tree) → AreGoodEntries es → AppliesAll t es after → IsStarting after
applied-all t start [] after good is = subst IsStarting (sym is) start
applied-all t start (e ∷ es) after good is = applied-all is.0 (applied t start e.1 is.0 good.0 is.1) es after good.1 is.2

-- ---- the tree of a manifest

pub starting-empty : (blocks inodes : ℕ) → 1 ≤ inodes → IsStarting (empty_tree blocks inodes)
starting-empty blocks inodes some = record {
  first = record {
    tree = record {
      well_formed = well_formed (empty_tree blocks inodes) (sound-empty blocks inodes some);
      bytes = λ n node is. ap has_bytes (only-root blocks inodes some n node is).1;
    };
    named = record { named = λ n below is. absurd (below (top n is)) };
    fits = fits-empty blocks inodes some;
    not_too_long = short-empty blocks inodes some;
  };
  version = refl;
}
  where
    top : (n : ℕ) → is_some (node_at (empty_tree blocks inodes) n) ≡ true → n ≡ root
    top n is = by (node_at (empty_tree blocks inodes) n) refl is
      where
        by : (o : Option Node) → node_at (empty_tree blocks inodes) n ≡ o → is_some o ≡ true → n ≡ root
        by None at is = cc
        by (Some node) at is = (only-root blocks inodes some n node at).0

pub manifest-first : (in_bundle : Bool) (bytes : Bytes) (m : Manifest) (t : Tree) → are_bytes bytes ≡ true → EncodesManifest in_bundle bytes m → tree_of m ≡ Ok t → IsFirstTree t
manifest-first in_bundle bytes m t all encodes made =
    let form = encodes.0 in
    let lines = lines-bytes bytes (form.0 ∷ form.1) form.2 all in
    let rest = (and_parts (are_bytes form.0) (list_all are_bytes form.1) lines).1 in
    (applied-all (empty_tree (data_blocks m.blocks m.inodes) m.inodes) (starting-empty (data_blocks m.blocks m.inodes) m.inodes encodes.1.0) m.listed.entries t
    (listed-good in_bundle 2 form.1 m.listed form.4 rest) (AppliesAll-tree_of m t made)).first
