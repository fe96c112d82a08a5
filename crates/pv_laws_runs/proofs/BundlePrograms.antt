-- The node of `/init` in the tree of a bundle, and the program that the machine reads there.
use Rattle.std.proofs.Common.{◌≡◌, ◌≢◌, ◌∙◌, ⊎_elim, ℕ, true, false, List, [], ◌∷◌, None, Some, Ok, refl, ap, sym, subst, inl, option_and_then}
use Rattle.std.specs.Prelude.{codes}
use Rattle.std.specs.List.{AllByRecursion, list_all}
use Rattle.std.proofs.lemmas.Bool.{and_parts, cases_eq}
use Rattle.pv_model.specs.declared.kernel_fault.BootFault.{BootFault}
use Rattle.pv_model.specs.Machine.{Bytes, Manifest, data_blocks, read_bundle, tree_of, read_program, Entry, make, further_name, empty_tree, fits, is_too_long, read_source, and_then, booted, bundle_started, started_on, Program, State, first_state, Entries, Node, directory_node, file_node, link_node, Tree, root, node_at, entries_at, is_directory, is_directory_at, find_entry, new_number, with_entry, with_new_node, with_node, components}
use Rattle.pv_model.specs.Grammar.Applied.{LeadsTo, at_last_name, down, Applies, AppliesAll}
use Rattle.pv_model.specs.RunFault.{of_init, of_manifest}
use Rattle.pv_model.specs.Start.{init_of, program_in}
use Rattle.std.specs.FinMap.Entries.{find, put}
use Rattle.pv_laws_grammar.specs.Accepted.{IsBundle, HasLineEnds, IsValidInit}
use Rattle.pv_laws_grammar.proofs.AcceptedTexts.{appears-for-itself}
use Rattle.pv_laws_grammar.proofs.AppliedEntries.{AppliesAll-tree_of}
use Rattle.pv_laws_grammar.proofs.ManifestParsing.{EncodesManifest-whole}
use Rattle.pv_laws_answers.specs.OfLawsStates.States.{are_bytes}
use Rattle.pv_laws_trees.proofs.TreeChanges.{directory-below, found-with, node_at-other, node_at-same}
use Rattle.pv_laws_trees.proofs.WellFormedChanges.{new_number-free}
use Rattle.pv_laws_trees.proofs.DirectoryEntries.{by_name}
use Rattle.pv_laws_trees.proofs.NewNodes.{dir-new, entries-new, entry-stays, free-new, new-other, new-same}
use Rattle.pv_laws_runs.specs.OwnSources.{NamesNoInit, StartsOn}
use Rattle.pv_laws_runs.proofs.RunChecks.{started-by}
use Rattle.pv_laws_runs.proofs.ManifestEntries.{AreGoodEntries, IsGoodEntry, lines-bytes, listed-good}
use Rattle.pv_laws_runs.proofs.RunPremises.{not_refused}
use Rattle.pv_laws_runs.proofs.ManifestTrees.{IsStarting, applied, appears-root, leads-appears, leads-name, starting-empty, within}

-- the same node, or two directories
data Like : Node → Node → Type 0 where
  itself : (v : Node) → Like v v
  directories : (es fs : Entries) → Like (directory_node es) (directory_node fs)

like-then : (u v w : Node) → Like u v → Like v w → Like u w
like-then _ _ w (itself v) then = then
like-then _ _ _ (directories es fs) (itself _) = directories es fs
like-then _ _ _ (directories es fs) (directories _ gs) = directories es gs

-- a directory's entry leads to a node like this one
record HasLike (t : Tree) (name : Bytes) (v : Node) : Type 0 where
  pub k : ℕ
  pub w : Node
  pub found : find_entry t root name ≡ Some k
  pub at : node_at t k ≡ Some w
  pub like : Like v w

-- each name still leads to an equal node when an entry is added
entry-like : (t : Tree) (d : ℕ) (name : Bytes) (n : ℕ) → is_directory_at t d ≡ true → (k : ℕ) (v : Node) → node_at t k ≡ Some v → (w : Node) × (node_at (with_entry t d name n) k ≡ Some w) × Like v w
entry-like t d name n dir k v at =
    ⊎_elim
    (λ same.
    let isdir : is_directory (Some v) ≡ true = ap is_directory (sym at) ∙ ap (is_directory_at t) same ∙ dir in
    let after : node_at (with_entry t d name n) k ≡ Some (directory_node (put by_name name n (entries_at t d))) =
    ap (node_at (with_entry t d name n)) same ∙ node_at-same t d (directory_node (put by_name name n (entries_at t d))) (directory-below t d dir) in
    by v isdir (put by_name name n (entries_at t d)) after)
    (λ other. (v, node_at-other t d (directory_node (put by_name name n (entries_at t d))) k (directory-below t d dir) other ∙ at, itself v)) (cases_eq k d)
  where
    by : (v : Node) → is_directory (Some v) ≡ true → (es : Entries) → node_at (with_entry t d name n) k ≡ Some (directory_node es) → (w : Node) × (node_at (with_entry t d name n) k ≡ Some w) × Like v w
    by (directory_node fs) isdir es after = (directory_node es, after, directories fs es)
    by (file_node executable bytes) isdir es after = cc isdir
    by (link_node text) isdir es after = cc isdir

-- the names that lead to one name
one-name : (t : Tree) (from d : ℕ) (name : Bytes) (names : List Bytes) (last : Bytes) → LeadsTo t from names d name → names ≡ last ∷ [] → (d ≡ from) × (name ≡ last)
one-name t _ _ _ _ last (at_last_name d name) is = (refl, cc is)
one-name t _ _ _ _ last (down d n name next others container end found dir more) is = cc is

module _ (t : Tree) (start : IsStarting t) where
  -- an entry is added, and each name of the root still leads to an equal node
  preserved : (e : Entry) (after : Tree) → IsGoodEntry e → Applies t e after → (name : Bytes) (v : Node) → HasLike t name v → HasLike after name v
  preserved (make path node) after good is name v has =
      let d = is.0.container in
      let last = is.0.name in
      let appears = leads-appears t start.first root (components path) d last is.0.place.leads (appears-root t start.first) in
      let fine = leads-name t root (components path) d last is.0.place.leads good.0 in
      let free = is.0.place.free in
      let short = ap is_too_long (sym is.0.made) ∙ is.1.0 in
      let fit = ap fits (sym is.0.made) ∙ is.1.1 in
      let small = within t start d last appears free fine node good.1 short fit in
      let bare = good.1.bare in
      let t1 = with_node t (new_number t) node in
      let other : has.k ≢ new_number t = λ same. let none : node_at t has.k ≡ None = ap (node_at t) same ∙ new_number-free t in let some = has.at in cc (none, some) in
      let at1 : node_at t1 has.k ≡ Some has.w = new-other t d last node appears.0 free bare small has.k other ∙ has.at in
      let found1 : find_entry t1 root name ≡ Some has.k = ap (find by_name name) (entries-new t d last node appears.0 free bare small root) ∙ has.found in
      let dir1 = dir-new t d last node appears.0 free bare small in
      let next = entry-like t1 d last (new_number t) dir1 has.k has.w at1 in
      subst (λ (u : Tree). HasLike u name v) (sym is.0.made)
      (record {
        k = has.k;
        w = next.0;
        found = entry-stays t1 d last dir1 (free-new t d last node appears.0 free bare small) (new_number t) root name has.k found1;
        at = next.1;
        like = like-then v has.w next.0 has.like next.2;
      })
  preserved (further_name path source) after good is name v has =
      let d = is.0.container in
      let last = is.0.name in
      let appears = leads-appears t start.first root (components path) d last is.0.place.leads (appears-root t start.first) in
      let n = is.0.made.0 in
      let next = entry-like t d last n appears.0 has.k has.w has.at in
      subst (λ (u : Tree). HasLike u name v) (sym is.0.made.2)
      (record {
        k = has.k;
        w = next.0;
        found = entry-stays t d last appears.0 is.0.place.free n root name has.k has.found;
        at = next.1;
        like = like-then v has.w next.0 has.like next.2;
      })

  -- an entry with a path of one name makes its node there
  made-there : (path last : Bytes) (node : Node) (after : Tree) → components path ≡ last ∷ [] → IsGoodEntry (make path node) → Applies t (make path node) after → HasLike after last node
  made-there path last node after one good is =
      let d = is.0.container in
      let name = is.0.name in
      let place = one-name t root d name (components path) last is.0.place.leads one in
      let appears = leads-appears t start.first root (components path) d name is.0.place.leads (appears-root t start.first) in
      let fine = leads-name t root (components path) d name is.0.place.leads good.0 in
      let free = is.0.place.free in
      let short = ap is_too_long (sym is.0.made) ∙ is.1.0 in
      let fit = ap fits (sym is.0.made) ∙ is.1.1 in
      let small = within t start d name appears free fine node good.1 short fit in
      let bare = good.1.bare in
      let t1 = with_node t (new_number t) node in
      let dir1 = dir-new t d name node appears.0 free bare small in
      let next = entry-like t1 d name (new_number t) dir1 (new_number t) node (new-same t d name node appears.0 free bare small) in
      let found : find_entry (with_new_node t d name node) d name ≡ Some (new_number t) = found-with t1 d name dir1 (new_number t) in
      subst (λ (u : Tree). HasLike u last node) (sym is.0.made)
      (record {
        k = new_number t;
        w = next.0;
        found = subst (λ (q : Bytes). find_entry (with_new_node t d name node) root q ≡ Some (new_number t)) place.1 (subst (λ (c : ℕ). find_entry (with_new_node t d name node) c name ≡ Some (new_number t)) place.0 found);
        at = next.1;
        like = next.2;
      })

preserved-all : (t : Tree) → IsStarting t → (es : List (ℕ × Entry)) (after : Tree) → AreGoodEntries es → AppliesAll t es after → (name : Bytes) (v : Node) → HasLike t name v → HasLike after name v
preserved-all t start [] after good is name v has = subst (λ (u : Tree). HasLike u name v) (sym is) has
preserved-all t start (e ∷ es) after good is name v has =
    preserved-all is.0 (applied t start e.1 is.0 good.0 is.1) es after good.1 is.2 name v (preserved t start e.1 is.0 good.0 is.1 name v has)

-- the program of a node like this one, if the machine starts on it
program-like : (v w : Node) → Like v w → (program : Program) → program_in (Some w) ≡ Ok program → (bytes : Bytes) × (p : Program) × (v ≡ file_node true bytes) × (read_program bytes ≡ Ok p)
program-like _ _ (directories es fs) program is = cc is
program-like _ _ (itself (directory_node es)) program is = cc is
program-like _ _ (itself (link_node text)) program is = cc is
program-like _ _ (itself (file_node false bytes)) program is = cc is
program-like _ _ (itself (file_node true bytes)) program is =
    let read = not_refused of_init (λ (p : Program). Ok p) program (read_program bytes) is in (bytes, read.0, refl, read.1)

-- each entry at `/init` is an executable file that is a program
right-init : (t : Tree) → IsStarting t → (es : List (ℕ × Entry)) (after : Tree) → AreGoodEntries es → AppliesAll t es after → AllByRecursion (λ e. (source : Bytes) → e.1 ≢ further_name (codes "/init") source) es
    → (program : Program) → program_in (init_of after) ≡ Ok program → AllByRecursion (λ e. IsValidInit e.1) es
right-init t start [] after good is none program runs = tt
right-init t start ((n, e) ∷ es) after good is none program runs =
    let next = applied t start e is.0 good.0 is.1 in (by e none.0 good.0 is.1, right-init is.0 next es after good.1 is.2 none.1 program runs)
  where
    by : (e : Entry) → ((source : Bytes) → e ≢ further_name (codes "/init") source) → IsGoodEntry e → Applies t e is.0 → IsValidInit e
    by (further_name path source) other good_ made same = absurd (other source (ap (λ (p : Bytes). further_name p source) same))
    by (make path node) other good_ made same =
        let there = made-there t start path (codes "init") node is.0 (ap components same) good_ made in
        let later = preserved-all is.0 (applied t start (make path node) is.0 good_ made) es after good.1 is.2 (codes "init") node there in
        let at : init_of after ≡ Some later.w = ap (option_and_then (node_at after)) later.found ∙ later.at in
        let it = program-like node later.w later.like program (ap program_in (sym at) ∙ runs) in
        (it.0, it.1, ap (λ (p : Bytes). make p node) same ∙ ap (make (codes "/init")) it.2, it.3)

booted-program : (t : Tree) (s : State) → booted t ≡ Ok s → (program : Program) × (program_in (init_of t) ≡ Ok program)
unfolding booted
booted-program t s is = let parts = not_refused (λ (f : BootFault). f) (λ (program : Program). Ok (first_state t program)) s (program_in (init_of t)) is in (parts.0, parts.1)

pub started-accepted : (bytes : Bytes) → StartsOn bytes → IsBundle bytes
unfolding bundle_started read_bundle
started-accepted bytes on =
    let read = not_refused of_manifest (λ (m : Manifest). and_then of_manifest (tree_of m) (λ (t : Tree). started_on t m.listed.following)) on.started (read_bundle bytes) on.starts in
    let made = not_refused of_manifest (λ (t : Tree). started_on t read.0.listed.following) on.started (tree_of read.0) read.2 in
    let both : on.manifest ≡ read.0 = let e = on.read in let f = read.1 in cc (e, f) in
    let m = read.0 in
    let t = made.0 in
    let turns = started-by t m.listed.following on.started made.2 in
    let runs = booted-program t on.started.state turns.1 in
    let encodes = EncodesManifest-whole true bytes m read.1 in
    let form = encodes.0 in
    let lines = lines-bytes bytes (form.0 ∷ form.1) form.2 on.are_bytes in
    let rest = (and_parts (are_bytes form.0) (list_all are_bytes form.1) lines).1 in
    let good = listed-good true 2 form.1 m.listed form.4 rest in
    record {
      manifest = m;
      schedule = on.started.schedule;
      read = read.1;
      right = record {
        tree = t;
        made = made.1;
        init = right-init (empty_tree (data_blocks m.blocks m.inodes) m.inodes) (starting-empty (data_blocks m.blocks m.inodes) m.inodes encodes.1.0) m.listed.entries t good (AppliesAll-tree_of m t made.1)
            (subst NamesNoInit both on.init) runs.0 runs.1;
      };
      turns = turns.0;
    }

pub started-own : (bytes : Bytes) → StartsOn bytes → HasLineEnds bytes → read_source bytes ≡ Ok bytes
started-own bytes on ended = appears-for-itself bytes (inl (started-accepted bytes on)) ended
