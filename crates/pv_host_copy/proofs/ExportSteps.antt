-- The steps of an export, and its errors.
use Rattle.std.proofs.Common.{◌≡◌, ◌≢◌, ◌∙◌, ap, ℕ, zero, suc, ◌-◌, ◌<◌, true, false, List, [], ◌∷◌, ◌++◌, length, codes, Option, None, Some, Result, Ok, Err, refl, sym, subst, arith, append_assoc, inl}
use Rattle.std.specs.Prelude.{map, fold, ◌==◌, IsErrAnd}
use Rattle.std.proofs.lemmas.Bool.{eq-eqb, ne_eqb}
use Rattle.std.proofs.lemmas.List.{append-nil}
use Rattle.pv_listing.proofs.EntryLines.{no-entries}
use Rattle.pv_model.specs.Machine.{Bytes, path_of, Entry, make, further_name, Entries, Node, directory_node, file_node, link_node, Tree, root, node_at, entries_at, is_directory_at}
use Rattle.pv_host_copy.specs.declared.exporting.FirstPath.{FirstPath}
use Rattle.pv_host_copy.specs.declared.target.TargetFault.{TargetFault}
use Rattle.pv_host_copy.specs.declared.target.TargetFault.TheVariants.{Make, Memory}
use Rattle.pv_host_copy.specs.Exported.{path_pair, CreatesNode, AreEntriesMade, MakesEntries, MakesNew, CreatesEntries, StopsExport, StopsAt}
use Rattle.pv_host_copy.specs.Created.{Creates, LeavesPartialFile, LeavesNext}
use Rattle.pv_host_copy.specs.Paths.{path_under}
use Rattle.pv_host_copy.specs.Encoded.{EncodedEntries, and_made, and_all_made, first_path, encodes_first, encodes_again, encodes_node, encodes_within, encoded_entries}

-- ---- entries after the existing ones

-- a manifest extends another
abbrev pub Grows : EncodedEntries → EncodedEntries → Type 0
Grows s later = (more : List Entry) × (later.entries ≡ s.entries ++ more)

grows-not : (s : EncodedEntries) → Grows s s
grows-not s = ([], sym (append-nil s.entries))

grows-both : (s mid later : EncodedEntries) → Grows s mid → Grows mid later → Grows s later
grows-both s mid later one other = (one.0 ++ other.0, other.1 ∙ ap (λ es. es ++ other.0) one.1 ∙ append_assoc s.entries one.0 other.0)

grows-again : (path : Bytes) (n : ℕ) (node : Node) (s : EncodedEntries) (first : Option Bytes) → Grows s (encodes_again path n node s first)
grows-again path n node s None = (make path node ∷ [], refl)
grows-again path n node s (Some first) = (further_name path first ∷ [], refl)

grows-node : (path : Bytes) (n : ℕ) (o : Option Node) (s : EncodedEntries) → Grows s (encodes_node path n o s)
grows-node path n None s = grows-not s
grows-node path n (Some (directory_node es)) s = (make path (directory_node []) ∷ [], refl)
grows-node path n (Some (file_node x bytes)) s = grows-again path n (file_node x bytes) s (first_path n s.firsts)
grows-node path n (Some (link_node text)) s = grows-again path n (link_node text) s (first_path n s.firsts)

grows-fold : (step : EncodedEntries → Bytes × ℕ → EncodedEntries) → ((s : EncodedEntries) (e : Bytes × ℕ) → Grows s (step s e)) → (es : Entries) (s : EncodedEntries) → Grows s (fold step s es)
grows-fold step more [] s = grows-not s
grows-fold step more (e ∷ es) s = grows-both s (step s e) (fold step (step s e) es) (more s e) (grows-fold step more es (step s e))

grows-within : (t : Tree) (depth : ℕ) (path : Bytes) (n : ℕ) (s : EncodedEntries) → Grows s (encodes_within t depth path n s)
grows-within t zero path n s = grows-not s
grows-within t (suc depth) path n s =
    grows-fold (λ so_far (e : Bytes × ℕ). encodes_within t depth (path_under path e.0) e.1 (encodes_node (path_under path e.0) e.1 (node_at t e.1) so_far))
    (λ so_far e. grows-both so_far (encodes_node (path_under path e.0) e.1 (node_at t e.1) so_far)
    (encodes_within t depth (path_under path e.0) e.1 (encodes_node (path_under path e.0) e.1 (node_at t e.1) so_far)) (grows-node (path_under path e.0) e.1 (node_at t e.1) so_far)
    (grows-within t depth (path_under path e.0) e.1 (encodes_node (path_under path e.0) e.1 (node_at t e.1) so_far)))
    (entries_at t n) s

-- at most a prefix of the next entry of a manifest was created, and this holds for an extension of it
leaves-same : (later : List Entry) (before after : Option (List Entry)) → after ≡ before → LeavesNext later before after
leaves-same [] before after same = same
leaves-same (entry ∷ later) before after same = inl same

leaves-longer : (later more : List Entry) (before after : Option (List Entry)) → LeavesNext later before after → LeavesNext (later ++ more) before after
leaves-longer [] more before after same = leaves-same more before after same
leaves-longer (entry ∷ later) more before after left = left

-- if an export stopped in a manifest, it stopped in the same way in an extension of it
stops-later : (s later : EncodedEntries) (start made : Option (List Entry)) (path : Bytes) (fault : TargetFault) → Grows s later → StopsAt s.entries start made path fault
    → StopsAt later.entries start made path fault
stops-later s later start made path Make more h = record {
  done = h.done;
  entry = h.entry;
  later = h.later ++ more.0;
  appears = more.1 ∙ ap (λ es. es ++ more.0) h.appears ∙ append_assoc h.done (h.entry ∷ h.later) more.0;
  is_path = h.is_path;
  are_made = h.are_made;
}
stops-later s later start made path Memory more h = record {
  done = h.done;
  later = h.later ++ more.0;
  appears = more.1 ∙ ap (λ es. es ++ more.0) h.appears ∙ append_assoc h.done h.later more.0;
  are_made = leaves-longer h.later more.0 (and_all_made start h.done) made h.are_made;
}

-- ---- one entry

made-more : (start made made' : Option (List Entry)) (es : List Entry) (e : Entry) → made ≡ and_all_made start es → made' ≡ and_made made e → made' ≡ and_all_made start (es ++ e ∷ [])
made-more None made made' es e was is = is ∙ ap (λ m. and_made m e) was
made-more (Some xs) made made' es e was is = is ∙ ap (λ m. and_made m e) was ∙ ap Some (append_assoc xs es (e ∷ []))

module _ (firsts firsts' : List FirstPath) (made made' : Option (List Entry)) where
  -- at most a prefix of the next entry was created
  entry-stops : (next : EncodedEntries → EncodedEntries) (path : Bytes) (e : Entry) (fault : TargetFault) → path_of e ≡ path → ((s : EncodedEntries) → (next s).entries ≡ s.entries ++ e ∷ [])
      → LeavesPartialFile e made made' → StopsExport next firsts made made' path fault
  entry-stops next path e Make at is left = λ start s h. record {
    done = s.entries;
    entry = e;
    later = [];
    appears = is s;
    is_path = at;
    are_made = subst (λ m. LeavesPartialFile e m made') h.entries left;
  }
  entry-stops next path e Memory at is left = λ start s h. record {
    done = s.entries;
    later = e ∷ [];
    appears = is s;
    are_made = subst (λ m. LeavesPartialFile e m made') h.entries left;
  }

  -- a node was not created at its first path, or at most a prefix of it
  pub new-stops : (path : Bytes) (n : ℕ) (o : Option Node) (fault : TargetFault) → CreatesNode path o made (Err fault) made' → MakesNew path n o firsts made (Err fault) firsts' made'
  new-stops path n None fault left = tt
  new-stops path n (Some node) fault left = entry-stops (encodes_first path n node) path (make path node) fault refl (λ s. refl) left

  -- a node was created at its first path, but the path was not recorded
  pub new-unpreserved : (path : Bytes) (n : ℕ) (o : Option Node) (done : Unit {0}) → CreatesNode path o made (Ok done) made' → MakesNew path n o firsts made (Err Memory) firsts' made'
  new-unpreserved path n None done created = tt
  new-unpreserved path n (Some node) done created = λ start s h. record {
    done = s.entries ++ make path node ∷ [];
    later = [];
    appears = sym (append-nil (s.entries ++ make path node ∷ []));
    are_made = made-more start made made' s.entries (make path node) h.entries created.1;
  }

  -- the same with another result that has this error
  pub new-refused : (path : Bytes) (n : ℕ) (o : Option Node) (r : Result (Unit {0}) TargetFault) (fault : TargetFault) → IsErrAnd r (λ e. e ≡ fault)
      → MakesNew path n o firsts made (Err fault) firsts' made' → MakesNew path n o firsts made r firsts' made'
  new-refused path n o (Ok done) fault is stops = absurd is
  new-refused path n o (Err e) fault is stops = rw is stops

  pub refused : (change : EncodedEntries → EncodedEntries) (path : Bytes) (r : Result (Unit {0}) TargetFault) (fault : TargetFault) → IsErrAnd r (λ e. e ≡ fault)
      → StopsExport change firsts made made' path fault → MakesEntries change firsts made r firsts' made' path
  refused change path (Ok done) fault is stops = absurd is
  refused change path (Err e) fault is stops = rw is stops

-- ---- a directory, name by name

-- a node that is not a directory adds nothing
pub none-within : (t : Tree) (depth : ℕ) (path : Bytes) (n : ℕ) (s : EncodedEntries) → is_directory_at t n ≡ false → encodes_within t depth path n s ≡ s
none-within t zero path n s is = refl
none-within t (suc depth) path n s is =
    ap (fold (λ so_far (e : Bytes × ℕ). encodes_within t depth (path_under path e.0) e.1 (encodes_node (path_under path e.0) e.1 (node_at t e.1) so_far)) s) (no-entries t n is)

-- with these names of a directory
abbrev pub encodes_entries : Tree → ℕ → Bytes → Entries → EncodedEntries → EncodedEntries
encodes_entries t depth path es s = fold (λ so_far (e : Bytes × ℕ). encodes_within t depth (path_under path e.0) e.1 (encodes_node (path_under path e.0) e.1 (node_at t e.1) so_far)) s es

grows-entries : (t : Tree) (depth : ℕ) (path : Bytes) (es : Entries) (s : EncodedEntries) → Grows s (encodes_entries t depth path es s)
grows-entries t depth path es s =
    grows-fold (λ so_far (e : Bytes × ℕ). encodes_within t depth (path_under path e.0) e.1 (encodes_node (path_under path e.0) e.1 (node_at t e.1) so_far))
    (λ so_far e. grows-both so_far (encodes_node (path_under path e.0) e.1 (node_at t e.1) so_far)
    (encodes_within t depth (path_under path e.0) e.1 (encodes_node (path_under path e.0) e.1 (node_at t e.1) so_far)) (grows-node (path_under path e.0) e.1 (node_at t e.1) so_far)
    (grows-within t depth (path_under path e.0) e.1 (encodes_node (path_under path e.0) e.1 (node_at t e.1) so_far)))
    es s

within-is : (t : Tree) (depth : ℕ) (path : Bytes) (n : ℕ) (s : EncodedEntries) → 0 < depth → encodes_within t depth path n s ≡ encodes_entries t (depth - 1) path (entries_at t n) s
within-is t zero path n s some = absurd (omega arith)
within-is t (suc depth) path n s some = let less : depth ≡ suc depth - 1 = omega arith in ap (λ k. encodes_entries t k path (entries_at t n) s) less

-- the remaining names after the entries so far have the same manifest as all names after the initial entries
abbrev pub EncodesOn : Tree → ℕ → Bytes → Entries → Entries → List FirstPath → Option (List Entry) → List FirstPath → Option (List Entry) → Type 0
EncodesOn t depth path left all firsts made firsts' made' =
    (start : Option (List Entry)) (s : EncodedEntries) → AreEntriesMade start s firsts made
    → (mid : EncodedEntries) × AreEntriesMade start mid firsts' made' × (encodes_entries t depth path left mid ≡ encodes_entries t depth path all s)

pub encodes_on-start : (t : Tree) (depth : ℕ) (path : Bytes) (left all : Entries) (firsts : List FirstPath) (made : Option (List Entry)) → left ≡ all
    → EncodesOn t depth path left all firsts made firsts made
encodes_on-start t depth path left all firsts made same = λ start s h. (s, h, ap (λ es. encodes_entries t depth path es s) same)

pub encodes_on-end : (t : Tree) (depth : ℕ) (path : Bytes) (n : ℕ) (left : Entries) (firsts firsts' : List FirstPath) (made made' : Option (List Entry)) → 0 < depth → left ≡ []
    → EncodesOn t (depth - 1) path left (entries_at t n) firsts made firsts' made' → CreatesEntries (encodes_within t depth path n) firsts made firsts' made'
encodes_on-end t depth path n left firsts firsts' made made' some none on = λ start s h.
    let done = on start s h in
    let is : done.0 ≡ encodes_within t depth path n s =
    sym (ap (λ es. encodes_entries t (depth - 1) path es done.0) none) ∙ done.2 ∙ sym (within-is t depth path n s some) in
    subst (λ k. AreEntriesMade start k firsts' made') is done.1

-- memory cannot be allocated between two names
pub encodes_on-memory : (t : Tree) (depth : ℕ) (path : Bytes) (n : ℕ) (left : Entries) (firsts firsts' : List FirstPath) (made made' : Option (List Entry)) (at : Bytes) → 0 < depth
    → EncodesOn t (depth - 1) path left (entries_at t n) firsts made firsts' made' → StopsExport (encodes_within t depth path n) firsts made made' at Memory
encodes_on-memory t depth path n left firsts firsts' made made' at some on = λ start s h.
    let so_far = on start s h in
    let more = grows-entries t (depth - 1) path left so_far.0 in
    record {
      done = so_far.0.entries;
      later = more.0;
      appears = ap (λ (k : EncodedEntries). k.entries) (within-is t depth path n s some ∙ sym so_far.2) ∙ more.1;
      are_made = leaves-same more.0 (and_all_made start so_far.0.entries) made' so_far.1.entries;
    }

module _ (t : Tree) (depth : ℕ) (directory path name : Bytes) (child : ℕ) (left after all : Entries) (firsts firsts1 firsts2 firsts3 : List FirstPath) (made made1 made2 made3 : Option (List Entry))
    (on : EncodesOn t depth directory left all firsts made firsts1 made1) (first : left ≡ (name, child) ∷ after) (at : path ≡ directory ++ codes "/" ++ name) where
  at-path_under : path ≡ path_under directory name
  at-path_under = at ∙ append_assoc directory (codes "/") name

  -- the manifest of all names is that of the names after one, after the node under that name
  front : (mid s : EncodedEntries) → encodes_entries t depth directory left mid ≡ encodes_entries t depth directory all s
      → encodes_entries t depth directory after (encodes_within t depth path child (encodes_node path child (node_at t child) mid)) ≡ encodes_entries t depth directory all s
  front mid s same =
      ap (λ (p : Bytes). encodes_entries t depth directory after (encodes_within t depth p child (encodes_node p child (node_at t child) mid))) at-path_under
      ∙ sym (ap (λ es. encodes_entries t depth directory es mid) first) ∙ same

  pub encodes_on-step : CreatesEntries (encodes_node path child (node_at t child)) firsts1 made1 firsts2 made2 → CreatesEntries (encodes_within t depth path child) firsts2 made2 firsts3 made3
      → EncodesOn t depth directory after all firsts made firsts3 made3
  encodes_on-step node within = λ start s h.
      let so_far = on start s h in (
        encodes_within t depth path child (encodes_node path child (node_at t child) so_far.0),
        within start (encodes_node path child (node_at t child) so_far.0) (node start so_far.0 so_far.1),
        front so_far.0 s so_far.2,
      )

  -- the node under a name was not created
  pub encodes_on-node : (where_to : Bytes) (fault : TargetFault) → StopsExport (encodes_node path child (node_at t child)) firsts1 made1 made2 where_to fault
      → StopsExport (encodes_entries t depth directory all) firsts made made2 where_to fault
  encodes_on-node where_to fault stops = λ start s h.
      let so_far = on start s h in
      let node = encodes_node path child (node_at t child) so_far.0 in
      let within = encodes_within t depth path child node in
      subst (λ (k : EncodedEntries). StopsAt k.entries start made2 where_to fault) (front so_far.0 s so_far.2)
      (stops-later node (encodes_entries t depth directory after within) start made2 where_to fault
      (grows-both node within (encodes_entries t depth directory after within) (grows-within t depth path child node) (grows-entries t depth directory after within)) (stops start so_far.0 so_far.1))

  -- a directory's entries were not created, or not completely
  pub encodes_on-within : (where_to : Bytes) (fault : TargetFault) → CreatesEntries (encodes_node path child (node_at t child)) firsts1 made1 firsts2 made2
      → StopsExport (encodes_within t depth path child) firsts2 made2 made3 where_to fault → StopsExport (encodes_entries t depth directory all) firsts made made3 where_to fault
  encodes_on-within where_to fault node stops = λ start s h.
      let so_far = on start s h in
      let encoded = encodes_node path child (node_at t child) so_far.0 in
      let within = encodes_within t depth path child encoded in
      subst (λ (k : EncodedEntries). StopsAt k.entries start made3 where_to fault) (front so_far.0 s so_far.2)
      (stops-later within (encodes_entries t depth directory after within) start made3 where_to fault (grows-entries t depth directory after within)
      (stops start encoded (node start so_far.0 so_far.1)))

-- all names of a directory
pub stops-within : (t : Tree) (depth : ℕ) (path : Bytes) (n : ℕ) (firsts : List FirstPath) (made made' : Option (List Entry)) (at : Bytes) (fault : TargetFault) → 0 < depth
    → StopsExport (encodes_entries t (depth - 1) path (entries_at t n)) firsts made made' at fault → StopsExport (encodes_within t depth path n) firsts made made' at fault
stops-within t depth path n firsts made made' at fault some stops = λ start s h.
    subst (λ (k : EncodedEntries). StopsAt k.entries start made' at fault) (sym (within-is t depth path n s some)) (stops start s h)

-- ---- searching for the first path of a node, name by name

module _ (n : ℕ) (left rest all : List FirstPath) (f : FirstPath) (front : left ≡ f ∷ rest) (same : first_path n (map path_pair left) ≡ first_path n (map path_pair all)) where
  pub path-found : f.node ≡ n → Some f.path.items ≡ first_path n (map path_pair all)
  path-found is =
      let here : (f.node == n) ≡ true = eq-eqb f.node n is in
      sym (sym same ∙ ap (λ fs. first_path n (map path_pair fs)) front ∙ rw here refl)

  pub path-step : f.node ≢ n → first_path n (map path_pair rest) ≡ first_path n (map path_pair all)
  path-step other =
      let there : (f.node == n) ≡ false = ne_eqb f.node n other in
      sym (ap (λ fs. first_path n (map path_pair fs)) front ∙ rw there refl) ∙ same

pub path-none : (n : ℕ) (left all : List FirstPath) → left ≡ [] → first_path n (map path_pair left) ≡ first_path n (map path_pair all) → None ≡ first_path n (map path_pair all)
path-none n left all none same = sym (ap (λ fs. first_path n (map path_pair fs)) none) ∙ same

-- ---- the whole export

made-none : (made : Option (List Entry)) → made ≡ and_all_made made []
made-none None = refl
made-none (Some xs) = ap Some (sym (append-nil xs))

module _ (t : Tree) (depth : ℕ) (path : Bytes) (firsts : List FirstPath) (made made' : Option (List Entry)) (deep : depth ≡ length t.nodes) (at : path ≡ []) (none : firsts ≡ []) where
  abbrev begun : EncodedEntries
  begun = record { entries = []; firsts = [] }

  begins : AreEntriesMade made begun firsts made
  begins = record { paths = ap (map path_pair) none; entries = made-none made }

  all-encoded : (encodes_within t depth path root begun).entries ≡ encoded_entries t
  all-encoded = ap (λ (d : ℕ). (encodes_within t d path root begun).entries) deep ∙ ap (λ (p : Bytes). (encodes_within t (length t.nodes) p root begun).entries) at

  pub export-stops : (where_to : Bytes) (fault : TargetFault) → StopsExport (encodes_within t depth path root) firsts made made' where_to fault → StopsAt (encoded_entries t) made made' where_to fault
  export-stops where_to fault stops = subst (λ (es : List Entry). StopsAt es made made' where_to fault) all-encoded (stops made begun begins)
