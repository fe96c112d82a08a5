-- Each call, in two states that differ inside another process: calls that check for room, by the properties of the tree
-- that they check.
use Rattle.std.proofs.Common.{◌≡◌, ◌≢◌, ℕ, zero, suc, ◌≤◌, Bool, true, false, cond, if◌then◌else◌, ◌+◌, [], length, take, drop, Option, None, Some, is_some, Ok, refl, ap, ap₂, sym, subst, ◌∙◌, inl, inr, ◌⊎◌, ⊎_elim, arith, List, ◌∷◌}
use Rattle.std.specs.FinMap.Entries.{find, put, is_sorted, length-put}
use Rattle.std.proofs.lemmas.Bool.{and_parts, cases_eq, eq-eqb, or_right}
use Rattle.std.proofs.lemmas.Cmp.{nat_list_cmp_total}
use Rattle.pv_model.specs.declared.call.Call.{Call}
use Rattle.pv_model.specs.declared.call.Call.TheVariants as TheCall
use Rattle.pv_model.specs.declared.call.Start.{Start}
use Rattle.pv_model.specs.declared.call.Start.TheVariants.{WorkingDirectory}
use Rattle.pv_model.specs.declared.follow.Follow.TheVariants.{Keep}
use Rattle.pv_model.specs.declared.open_flags.OpenFlags.{OpenFlags}
use Rattle.pv_model.specs.declared.place.Place.{Place}
use Rattle.pv_model.specs.Machine.{effect, Attempt, ◌>>=◌, Bytes, with_descriptor, with_content, new_open_file, write_place, same_node, Effect, answers, with_room, node_of, name_of, start_directory, bytes_of, overwrite, among, Numbered, at_number, with_number, least_free, entry_length, is_file, OpenFile, Program, Process, State, process_at, Entries, Node, directory_node, file_node, link_node, Tree, node_at, entries_of, entries_at, is_directory, is_directory_at, find_entry, named_numbers, new_number, with_new_node, with_entry, without_entry, resolve, follow_of, end_of, Walk, walks_of, open_walk, rename_walk, with_process}
use Rattle.pv_laws_trees.specs.Room.{IsNoLonger, IsNoLarger}
use Rattle.pv_laws_trees.proofs.TreeChanges.{node_at-same, node_at-other, directory-below, entries-good, shape-without_entry, found-with, with_entry-stays, without_entry-stays, cases_name}
use Rattle.pv_laws_trees.proofs.DirectoryEntries.{by_name, report}
use Rattle.pv_laws_trees.proofs.NewNodes.{entry-stays, stays-new, named-new}
use Rattle.pv_laws_trees.proofs.NumberedMaps.{at_number-below, with_number-same_within, with_number-other_within, least_free-within, least_free-free, length-drop_one}
use Rattle.pv_laws_trees.proofs.NodeRoom.{no_larger-without}
use Rattle.pv_laws_trees.proofs.Trees.{IsOrdered, ordered, among-entry, entry-among}
use Rattle.pv_laws_trees.proofs.ListTests.{not-there}
use Rattle.pv_laws_states.specs.States.{is_text, is_call, IsValid}
use Rattle.pv_laws_states.proofs.AttemptValues.{Leads}
use Rattle.pv_laws_states.proofs.ValidByFile.{open_file-at}
use Rattle.pv_laws_states.proofs.ValidByTree.{FineName, named-place, place-there, fine-place}
use Rattle.pv_laws_states.proofs.GrownTrees.{carries-entries}
use Rattle.pv_laws_states.proofs.CallRemainders
use Rattle.pv_laws_states.proofs.ChangedStates.{IsFinePlace, resolve-fine, my-placed, file_or_directory}
use Rattle.pv_laws_states.proofs.WalkStarts.{StartsWell, leads-start}
use Rattle.pv_laws_access.proofs.ChangedTrees.{entries-content}
use Rattle.pv_laws_steps.specs.Beside.{with_change}
use Rattle.pv_laws_steps.proofs.ChangedPairs.{AreChangedPair, ChangedPair}
use Rattle.pv_laws_steps.proofs.CallsOfOthers.{changes, CallsLeave, own-in_both, leave-in_both}
use Rattle.pv_laws_steps.proofs.ChangedProcess.{KeepsParent, changed}
use Rattle.pv_laws_states.proofs.RespectedParts.{OthersRespect, others-processes, others-files, others-tree, same-own}
use Rattle.pv_laws_states.proofs.RelatedCalls.{OpensAt, RespectsRoom, call-both}
use Rattle.pv_laws_states.proofs.RelatedAttempts.{kept-by-checks, all-then}
use Rattle.std.specs.List.{AllByRecursion}
use Rattle.pv_model.specs.Walks.{new_link_walk}

-- ---- an entry for another node needs no more room

longer-self : (t : Tree) (o : Option Node) → IsNoLonger t.version o o
longer-self t None = tt
longer-self t (Some node) = Rattle.std.proofs.Common.le_refl _

no_longer-along : (t : Tree) (a b c : Option Node) → IsNoLonger t.version a b → IsNoLonger t.version b c → IsNoLonger t.version a c
no_longer-along t None b c one two = tt
no_longer-along t (Some a) None c one two = absurd one
no_longer-along t (Some a) (Some b) None one two = absurd two
no_longer-along t (Some a) (Some b) (Some c) one two = omega (arith, one, two)

no_larger-along : (t u w : Tree) → IsNoLarger w u → IsNoLarger u t → IsNoLarger w t
no_larger-along t u w one two = record {
  blocks = one.blocks ∙ two.blocks;
  inodes = one.inodes ∙ two.inodes;
  version = one.version ∙ two.version;
  nodes = λ n. no_longer-along t (node_at w n) (node_at u n) (node_at t n) (subst (λ v. IsNoLonger v (node_at w n) (node_at u n)) two.version (one.nodes n)) (two.nodes n);
}

module _ (t : Tree) (d : ℕ) (name : Bytes) (n m : ℕ) (dir : is_directory_at t d ≡ true) (sorted : is_sorted by_name (entries_at t d) ≡ true) (found : find_entry t d name ≡ Some m) where
  abbrev replaced : Entries
  replaced = put by_name name n (entries_at t d)

  as-long : length replaced ≡ length (entries_at t d)
  as-long = length-put by_name nat_list_cmp_total name n (entries_at t d) (report _ sorted) ∙ ap (λ o. cond (is_some o) (length (entries_at t d)) (length (entries_at t d) + 1)) found

  no_longer-replaced : (o : Option Node) → node_at t d ≡ o → is_directory o ≡ true → IsNoLonger t.version (Some (directory_node replaced)) o
  no_longer-replaced None at is = cc is
  no_longer-replaced (Some (directory_node es)) at is = Rattle.std.proofs.Common.mul-le-mul_left (entry_length t.version) (omega (arith, as-long, ap (λ o. length (entries_of o)) at))
  no_longer-replaced (Some (file_node executable bytes)) at is = cc is
  no_longer-replaced (Some (link_node text)) at is = cc is

  no_larger-replaced : IsNoLarger (with_entry t d name n) t
  no_larger-replaced =
      let below = directory-below t d dir in
      record {
        blocks = refl;
        inodes = refl;
        version = refl;
        nodes = λ k. ⊎_elim
            (λ here. subst (λ i. IsNoLonger t.version (node_at (with_entry t d name n) i) (node_at t i)) (sym here)
            (subst (λ o. IsNoLonger t.version o (node_at t d)) (sym (node_at-same t d (directory_node replaced) below)) (no_longer-replaced (node_at t d) refl dir)))
            (λ away. subst (λ o. IsNoLonger t.version o (node_at t k)) (sym (node_at-other t d (directory_node replaced) k below away)) (longer-self t (node_at t k))) (cases_eq k d);
      }

-- ---- the tree that is checked for room, and its open files

-- named nodes stay named; each open file still exists, on its node; and each is on a node that existed or has a name
pub record GoesOn (t : Tree) (fs : Numbered OpenFile) (u : Tree) (gs : Numbered OpenFile) : Type 0 where
  pub named : (n : ℕ) → among (named_numbers t) n ≡ true → among (named_numbers u) n ≡ true
  pub opened : (m : ℕ) (file : OpenFile) → at_number fs m ≡ Some file → (g : OpenFile) × (at_number gs m ≡ Some g) × (g.node ≡ file.node)
  pub there : (m : ℕ) (g : OpenFile) → at_number gs m ≡ Some g → (is_some (node_at t g.node) ≡ true) ⊎ (among (named_numbers u) g.node ≡ true)

-- a relation that holds for checks for room, if the tree is extended in this way or is not larger than before
pub record RoomsKnown (k : ℕ) (f : Process → Process) (s : State) (pid : ℕ) (me : Process) (R : Attempt Effect → Attempt Effect → Type 0) : Type 0 where
  pub room : (t : Tree) (fs : Numbered OpenFile) (n : ℕ) → GoesOn s.tree s.files t fs
      → R (with_room (record s { tree = t; files = fs }) >>= (λ roomy. answers roomy n)) (with_room (record (with_change s k f) { tree = t; files = fs }) >>= (λ roomy. answers roomy n))
  pub opened : (t : Tree) (fs : Numbered OpenFile) (file : ℕ) (close_on_exec : Bool) (n : ℕ) → GoesOn s.tree s.files t fs
      → R (with_room (with_descriptor s pid me (record s { tree = t; files = fs }) file close_on_exec) >>= (λ roomy. answers roomy n))
      (with_room (with_descriptor (with_change s k f) pid me (record (with_change s k f) { tree = t; files = fs }) file close_on_exec) >>= (λ roomy. answers roomy n))
  pub smaller : (t : Tree) (n : ℕ) → IsNoLarger t s.tree
      → R (with_room (record s { tree = t }) >>= (λ roomy. answers roomy n)) (with_room (record (with_change s k f) { tree = t }) >>= (λ roomy. answers roomy n))

pub directory-there : (t : Tree) (n : ℕ) → is_directory_at t n ≡ true → is_some (node_at t n) ≡ true
directory-there t n is = file_or_directory (node_at t n) (or_right (is_file (node_at t n)) (is_directory_at t n) is)

-- the paths of the walks of a call are texts
text-walked : (call : Call) → is_call call ≡ true → AllByRecursion (λ (w : Walk). is_text w.path ≡ true) (walks_of call)
text-walked (TheCall.Unveil None permissions) good = tt
text-walked (TheCall.Unveil (Some path) None) good = tt
text-walked (TheCall.Unveil (Some path) (Some text)) good = ((and_parts (is_text path) (is_text text) good).0, tt)
text-walked (TheCall.Execve path) good = (good, tt)
text-walked (TheCall.Open path flags) good = (good, tt)
text-walked (TheCall.OpenAt start path flags) good = ((and_parts _ (is_text path) good).1, tt)
text-walked (TheCall.Chdir path) good = (good, tt)
text-walked (TheCall.Stat path) good = (good, tt)
text-walked (TheCall.Lstat path) good = (good, tt)
text-walked (TheCall.Readlink path) good = (good, tt)
text-walked (TheCall.Mkdir path) good = (good, tt)
text-walked (TheCall.Symlink text path) good = ((and_parts (is_text text) (is_text path) good).1, tt)
text-walked (TheCall.Link path new) good = let both = and_parts (is_text path) (is_text new) good in (both.0, (both.1, tt))
text-walked (TheCall.Unlink path) good = (good, tt)
text-walked (TheCall.Rmdir path) good = (good, tt)
text-walked (TheCall.Rename path new) good = let both = and_parts (is_text path) (is_text new) good in (both.0, (both.1, tt))
text-walked call good = tt

module _ (k : ℕ) (f : Process → Process) (s : State) (pid : ℕ) (me : Process) (whole : IsValid s) (at : process_at s pid ≡ Some me) (A : Attempt Effect → Attempt Effect → Type 0) (S : State → State → Type 0)
    (o : OthersRespect A S s (changed k f s.processes) pid me me) (puts : (q : Process) → S (with_process s pid q) (with_process (with_change s k f) pid q)) (rooms : RoomsKnown k f s pid me A) where
  abbrev u : State
  u = with_change s k f

  -- ---- extended trees

  abbrev in_order : IsOrdered s.tree
  in_order = ordered s.tree whole.tree.well_formed.each_node

  file-there : (m : ℕ) (file : OpenFile) → at_number s.files m ≡ Some file → is_some (node_at s.tree file.node) ≡ true
  file-there m file is = file_or_directory (node_at s.tree file.node) (whole.files.each m file is).node

  -- the node of each entry has a name in the tree
  abbrev Names : Tree → Type 0
  Names t = (e : ℕ) (q : Bytes) (x : ℕ) → find_entry s.tree e q ≡ Some x → among (named_numbers t) x ≡ true

  abbrev named_on : (t : Tree) → Names t → (n : ℕ) → among (named_numbers s.tree) n ≡ true → among (named_numbers t) n ≡ true
  named_on t names n is = let found = among-entry s.tree in_order n is in names found.0 found.1 n found.2

  goes-on : (t : Tree) → Names t → GoesOn s.tree s.files t s.files
  goes-on t names = record { named = named_on t names; opened = λ m file is. (file, is, refl); there = λ m g is. inl (file-there m g is) }

  -- the same with another open file under a number
  goes-with : (t : Tree) → Names t → (m : ℕ) (new : OpenFile) → m ≤ length s.files → ((file : OpenFile) → at_number s.files m ≡ Some file → new.node ≡ file.node)
      → (is_some (node_at s.tree new.node) ≡ true) ⊎ (among (named_numbers t) new.node ≡ true) → GoesOn s.tree s.files t (with_number s.files m new)
  goes-with t names m new low before there = record {
    named = named_on t names;
    opened = λ i file is. ⊎_elim
        (λ here. (new, ap (at_number (with_number s.files m new)) here ∙ with_number-same_within s.files m new low, before file (ap (at_number s.files) (sym here) ∙ is)))
        (λ away. (file, with_number-other_within s.files m new i low away ∙ is, refl)) (cases_eq i m);
    there = λ i g is. ⊎_elim
        (λ here.
        let both : Some new ≡ Some g = sym (with_number-same_within s.files m new low) ∙ ap (at_number (with_number s.files m new)) (sym here) ∙ is in
        let same : new ≡ g = cc both in
        subst (λ (o : OpenFile). (is_some (node_at s.tree o.node) ≡ true) ⊎ (among (named_numbers t) o.node ≡ true)) same there)
        (λ away. inl (file-there i g (sym (with_number-other_within s.files m new i low away) ∙ is))) (cases_eq i m);
  }

  -- a new open file
  goes-opened : (t : Tree) → Names t → (new : OpenFile) → (is_some (node_at s.tree new.node) ≡ true) ⊎ (among (named_numbers t) new.node ≡ true) → GoesOn s.tree s.files t (with_number s.files (least_free s.files) new)
  goes-opened t names new there =
      goes-with t names (least_free s.files) new (least_free-within s.files) (λ file is. let none : None ≡ Some file = sym (least_free-free s.files) ∙ is in cc none) there

  names-same : Names s.tree
  names-same e q x found = entry-among s.tree e q x found

  names-content : (n : ℕ) (bytes : Bytes) → Names (with_content s.tree n bytes)
  names-content n bytes e q x found = entry-among (with_content s.tree n bytes) e q x (ap (find by_name q) (entries-content s.tree n bytes e) ∙ found)

  names-cut : (n : ℕ) (b : Bool) → Names (if b then with_content s.tree n [] else s.tree)
  names-cut n true = names-content n []
  names-cut n false = names-same

  number-within : new_number s.tree ≤ length s.tree.nodes
  number-within =
      omega (arith, least_free-within (drop 1 s.tree.nodes), length-drop_one s.tree.nodes s.tree.inodes whole.tree.well_formed.numbers, whole.tree.well_formed.numbers)

  module _ (p : ℕ × Bytes) (fine : FineName s.tree p None) (node : Node) (bare : entries_of (Some node) ≡ []) where
    names-new : Names (with_new_node s.tree p.0 p.1 node)
    names-new e q x found =
        entry-among (with_new_node s.tree p.0 p.1 node) e q x (stays-new s.tree p.0 p.1 node fine.directory fine.found bare number-within e q x found)

    named-newly : among (named_numbers (with_new_node s.tree p.0 p.1 node)) (new_number s.tree) ≡ true
    named-newly = named-new s.tree p.0 p.1 node fine.directory fine.found bare number-within

  free-name : (place : Place) (p : ℕ × Bytes) → IsFinePlace s.tree place → name_of place ≡ Some p → node_of place ≡ None → FineName s.tree p None
  free-name place p fine named free = subst (FineName s.tree p) free (named-place s.tree place p fine named)

  -- ---- a rename

  module _ (n : ℕ) (p q : ℕ × Bytes) (from : FineName s.tree p (Some n)) where
    abbrev between : Tree
    between = without_entry s.tree p.0 p.1

    abbrev renamed : Tree
    renamed = with_entry between q.0 q.1 n

    between-directory : (e : ℕ) → is_directory_at s.tree e ≡ true → is_directory_at between e ≡ true
    between-directory e is = (carries-entries s.tree p.0 _ from.directory).directory e (directory-there s.tree e is) ∙ is

    -- the new name was free: all other entries stay, and the node has the name
    names-moved : FineName s.tree q None → Names renamed
    names-moved into e name x found =
        let dir = between-directory q.0 into.directory in
        ⊎_elim
        (λ here. ⊎_elim
        (λ same.
        let both : Some n ≡ Some x = sym from.found ∙ ap₂ (find_entry s.tree) (sym here) (sym same) ∙ found in
        let is : n ≡ x = cc both in
        subst (λ i. among (named_numbers renamed) i ≡ true) is (entry-among renamed q.0 q.1 n (found-with between q.0 q.1 dir n)))
        (λ other. stays dir (λ there name_is. other name_is)) (cases_name name p.1))
        (λ away. stays dir (λ there name_is. away there)) (cases_eq e p.0)
      where
        stays : is_directory_at between q.0 ≡ true → ((e ≡ p.0) → (name ≡ p.1) → ⊥) → among (named_numbers renamed) x ≡ true
        stays dir other =
            entry-among renamed e name x
            (with_entry-stays between q.0 q.1 dir n e name x (without_entry-stays s.tree p.0 p.1 from.directory e name x found other)
            (λ here same. let none : None ≡ Some x = sym into.found ∙ ap₂ (find_entry s.tree) (sym here) (sym same) ∙ found in cc none))

    -- the node of the new name is replaced, which needs no more room
    smaller-moved : (m : ℕ) → FineName s.tree q (Some m) → m ≢ n → IsNoLarger renamed s.tree
    smaller-moved m into other =
        let less = no_larger-without s.tree p.0 p.1 from.directory in
        let has : find_entry between q.0 q.1 ≡ Some m =
        without_entry-stays s.tree p.0 p.1 from.directory q.0 q.1 m into.found
        (λ here same. let both : Some m ≡ Some n = sym into.found ∙ ap₂ (find_entry s.tree) here same ∙ from.found in let is : m ≡ n = cc both in other is) in
        let good = shape-without_entry s.tree p.0 p.1 from.directory whole.tree.well_formed.each_node in
        no_larger-along s.tree between renamed
        (no_larger-replaced between q.0 q.1 n m (between-directory q.0 into.directory) (entries-good between q.0 good.each_node).0 has) less

    moved-by : (there : Option ℕ) → FineName s.tree q there → same_node there n ≡ false → A (CallRemainders.move_5 s pid me n p.0 p.1 q.0 q.1) (CallRemainders.move_5 u pid me n p.0 p.1 q.0 q.1)
    moved-by None into other = rooms.room renamed s.files 0 (goes-on renamed (names-moved into))
    moved-by (Some m) into other = rooms.smaller renamed 0 (smaller-moved m into (λ same. let is = eq-eqb m n same in cc (sym is ∙ other)))

  -- ---- bytes

  written-known : (m : ℕ) (file : OpenFile) (count : ℕ) → at_number s.files m ≡ Some file → A (CallRemainders.write_3 s pid me m file count) (CallRemainders.write_3 u pid me m file count)
  written-known m file zero is = rooms.room s.tree s.files 0 (goes-on s.tree names-same)
  written-known m file (suc n) is =
      let bytes : Bytes = take (suc n) me.buffer in
      let place : ℕ = write_place s pid me file in
      let new : OpenFile = record file { offset = place + length bytes } in
      let t : Tree = with_content s.tree file.node (overwrite (bytes_of (node_at s.tree file.node)) place bytes) in
      rooms.room t (with_number s.files m new) (suc n)
      (goes-with t (names-content file.node _) m new (omega (arith, at_number-below s.files m file is))
      (λ old there. let both : Some file ≡ Some old = sym is ∙ there in let same : file ≡ old = cc both in ap (λ (o : OpenFile). o.node) same) (inl (file-there m file is)))

  -- ---- the parts of a call

  module _ (program_of : Bytes → Option Program) (call : Call) (good : is_call call ≡ true) where
    abbrev B : List Walk → Attempt Effect → Attempt Effect → Type 0
    B ws = A

    text-of : (w : Walk) → walks_of call ≡ w ∷ [] → is_text w.path ≡ true
    text-of w walks = let all : AllByRecursion (λ (w : Walk). is_text w.path ≡ true) (w ∷ []) = subst (AllByRecursion (λ (w : Walk). is_text w.path ≡ true)) walks (text-walked call good) in all.0

    good-as : (c : Call) → call ≡ c → is_call c ≡ true
    good-as c is = subst (λ c. is_call c ≡ true) is good

    made : (w : Walk) (node : Node) → walks_of call ≡ w ∷ [] → w.start ≡ WorkingDirectory → entries_of (Some node) ≡ [] → (place : Place) → end_of s me w ≡ Ok place → is_some (node_of place) ≡ false
        → (p : ℕ × Bytes) → name_of place ≡ Some p → A (CallRemainders.make_3 s pid me node p) (CallRemainders.make_3 u pid me node p)
    made w node walks here bare place found free p named =
        let from : resolve s.tree w.follow me.directory w.path ≡ Ok place = ap (λ x. resolve s.tree w.follow (start_directory s me x w.path) w.path) (sym here) ∙ found in
        let fine = free-name place p (fine-place s pid me whole at w.follow w.path place (text-of w walks) from) named (not-there (node_of place) free) in
        rooms.room (with_new_node s.tree p.0 p.1 node) s.files 0 (goes-on (with_new_node s.tree p.0 p.1 node) (names-new p fine node bare))

    linked : (path new : Bytes) → call ≡ TheCall.Link path new → (place : Place) → end_of s me (new_link_walk new) ≡ Ok place → is_some (node_of place) ≡ false → (n : ℕ) (p : ℕ × Bytes) → name_of place ≡ Some p
        → A (CallRemainders.link_6 s pid me n p) (CallRemainders.link_6 u pid me n p)
    linked path new is place found free n p named =
        let text = (and_parts (is_text path) (is_text new) (good-as (TheCall.Link path new) is)).1 in
        let fine = free-name place p (fine-place s pid me whole at Keep new place text found) named (not-there (node_of place) free) in
        rooms.room (with_entry s.tree p.0 p.1 n) s.files 0
        (goes-on (with_entry s.tree p.0 p.1 n) (λ e q x has. entry-among (with_entry s.tree p.0 p.1 n) e q x (entry-stays s.tree p.0 p.1 fine.directory fine.found n e q x has)))

    moved : (path new : Bytes) → call ≡ TheCall.Rename path new → (old_place new_place : Place) → end_of s me (rename_walk path) ≡ Ok old_place → end_of s me (rename_walk new) ≡ Ok new_place
        → (n : ℕ) (p q : ℕ × Bytes) → node_of old_place ≡ Some n → name_of old_place ≡ Some p → name_of new_place ≡ Some q → same_node (node_of new_place) n ≡ false
        → A (CallRemainders.move_5 s pid me n p.0 p.1 q.0 q.1) (CallRemainders.move_5 u pid me n p.0 p.1 q.0 q.1)
    moved path new is old_place new_place old_found found n p q there old_named named other =
        let both = and_parts (is_text path) (is_text new) (good-as (TheCall.Rename path new) is) in
        moved-by n p q (subst (FineName s.tree p) there (named-place s.tree old_place p (fine-place s pid me whole at Keep path old_place both.0 old_found) old_named))
        (node_of new_place) (named-place s.tree new_place q (fine-place s pid me whole at Keep new new_place both.1 found) named) other

    fine-open : (start : Start) (path : Bytes) (g : OpenFlags) (place : Place) → OpensAt B program_of s u pid me me call start path g place → IsFinePlace s.tree place
    fine-open start path g place it =
        let well : StartsWell s pid me (start_directory s me start path) = subst (Leads (λ _. StartsWell s pid me (start_directory s me start path))) it.begun (leads-start s pid me start path) in
        resolve-fine s.tree whole.tree (follow_of g) (start_directory s me start path) path place (well (my-placed s pid me whole at).directory) (text-of (open_walk start path g) it.walks) it.found

    room : RespectsRoom B program_of s u pid me me call
    room = record {
      makes = made;
      links = linked;
      moves = moved;
      opens = λ start path g place it n is.
          let t : Tree = if g.truncate then with_content s.tree n [] else s.tree in
          rooms.opened t (with_number s.files (least_free s.files) (new_open_file g n)) (least_free s.files) g.close_on_exec (least_free me.descriptors)
          (goes-opened t (names-cut n g.truncate) (new_open_file g n) (inl (place-there s.tree whole.tree place n (fine-open start path g place it) is)));
      creates = λ start path g place it p named is.
          let new : Node = file_node false [] in
          let free = free-name place p (fine-open start path g place it) named is in
          rooms.opened (with_new_node s.tree p.0 p.1 new) (with_number s.files (least_free s.files) (new_open_file g (new_number s.tree))) (least_free s.files) g.close_on_exec (least_free me.descriptors)
          (goes-opened (with_new_node s.tree p.0 p.1 new) (names-new p free new refl) (new_open_file g (new_number s.tree)) (inr (named-newly p free new refl)));
    }

    pub call-known : A (effect program_of s pid me call) (effect program_of u pid me call)
    call-known =
        call-both B program_of s u pid me me call (record {
          checks = kept-by-checks A o.all;
          processes = others-processes A S s (changed k f s.processes) pid me me o program_of call;
          own = same-own A S s (changed k f s.processes) pid me o puts program_of call;
          files = others-files A S s (changed k f s.processes) pid me me o program_of call
              (λ d n is m file here may count few. all-then A o.all _ _ refl (CallRemainders.write_3 s pid me m file count) (CallRemainders.write_3 u pid me m file count) (written-known m file count (open_file-at s me d m file here)))
              (λ d n is m file here size. all-then A o.all _ _ refl (CallRemainders.ftruncate_4 s pid me file size) (CallRemainders.ftruncate_4 u pid me file size) (rooms.room _ s.files 0 (goes-on _ (names-content file.node _))));
          tree = others-tree A S s (changed k f s.processes) pid me me o program_of call;
          room = room;
        })

-- the change applies after a call, and its check for room has the same result
pub record CallsFit (k : ℕ) (f : Process → Process) (s : State) (pid : ℕ) (me : Process) (Fit : State → Type 0) : Type 0 where
  pub leave : CallsLeave k f s pid me Fit
  pub rooms : RoomsKnown k f s pid me (ChangedPair (changes k f) Fit)

-- so both calls do the same, up to the change
pub calls-fit : (k : ℕ) (f : Process → Process) → KeepsParent f → (s : State) (pid : ℕ) (me : Process) → IsValid s → process_at s pid ≡ Some me → pid ≢ k → suc s.last_process ≢ k
    → (Fit : State → Type 0) → CallsFit k f s pid me Fit → (program_of : Bytes → Option Program) (call : Call) → is_call call ≡ true
    → ChangedPair (changes k f) Fit (effect program_of s pid me call) (effect program_of (with_change s k f) pid me call)
calls-fit k f keeps s pid me whole at other next_other Fit fits program_of call good =
    call-known k f s pid me whole at (ChangedPair (changes k f) Fit) (AreChangedPair (changes k f) Fit) (leave-in_both k f keeps s pid me other next_other Fit fits.leave)
    (own-in_both k f keeps s pid me other next_other Fit fits.leave) fits.rooms program_of call good
