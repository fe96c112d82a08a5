-- Changes of trees.
use Rattle.std.proofs.Common.{◌≡◌, ◌≢◌, ℕ, ◌<◌, true, bytes_eq, length, Option, None, Some, is_some, refl, ap, ap₂, sym, ◌∙◌, inl, inr, ◌⊎◌, ⊎_elim}
use Rattle.std.specs.List.{list_all}
use Rattle.std.specs.FinMap.Entries.{find, put, where_key, is_sorted, is_sorted-put, is_sorted-where_key}
use Rattle.std.proofs.lemmas.Bool.{and_parts, and_from, cases_eq, cases_Bool}
use Rattle.std.proofs.lemmas.Cmp.{nat_list_cmp_total}
use Rattle.pv_model.specs.Machine.{Bytes, Entries, Node, directory_node, file_node, link_node, Tree, node_at, entries_of, entries_at, is_directory, is_directory_at, find_entry, with_node, with_entry, without_entry, is_name, is_node}
use Rattle.pv_laws_trees.proofs.DirectoryEntries.{by_name, is_other, find-put_same, find-put_other, find-without_same, find-without_other, list_all-put, list_all-filter, bytes_eq-same, reported, report}
use Rattle.pv_laws_trees.proofs.NumberedMaps.{at_number-below, length-with_number, with_number-same, with_number-other}

-- two names are equal or not
pub cases_name : (a b : Bytes) → (a ≡ b) ⊎ (a ≢ b)
cases_name a b = ⊎_elim (λ same. inl (bytes_eq-same a b same)) (λ other. inr (λ same. let is : bytes_eq a b ≡ true = ap (bytes_eq a) (sym same) ∙ Rattle.pv_laws_trees.proofs.DirectoryEntries.bytes_eq-itself a in cc)) (cases_Bool (bytes_eq a b))

-- ---- a node replaced by another

pub node_at-same : (t : Tree) (n : ℕ) (node : Node) → n < length t.nodes → node_at (with_node t n node) n ≡ Some node
node_at-same t n node below = with_number-same t.nodes n node below

pub node_at-other : (t : Tree) (n : ℕ) (node : Node) (m : ℕ) → n < length t.nodes → m ≢ n → node_at (with_node t n node) m ≡ node_at t m
node_at-other t n node m below other = with_number-other t.nodes n node m below other

-- a directory has a number below the length
pub directory-below : (t : Tree) (d : ℕ) → is_directory_at t d ≡ true → d < length t.nodes
directory-below t d is = by (node_at t d) refl is
  where
    by : (o : Option Node) → node_at t d ≡ o → is_directory o ≡ true → d < length t.nodes
    by None at is = cc
    by (Some node) at is = at_number-below t.nodes d node at

pub some-below : (t : Tree) (n : ℕ) → is_some (node_at t n) ≡ true → n < length t.nodes
some-below t n is = by (node_at t n) refl is
  where
    by : (o : Option Node) → node_at t n ≡ o → is_some o ≡ true → n < length t.nodes
    by None at is = cc
    by (Some node) at is = at_number-below t.nodes n node at

-- a node with an entry is a directory
pub has_entry-directory : (t : Tree) (d : ℕ) (name : Bytes) (n : ℕ) → find_entry t d name ≡ Some n → is_directory_at t d ≡ true
has_entry-directory t d name n is = by (node_at t d) is
  where
    by : (o : Option Node) → find by_name name (entries_of o) ≡ Some n → is_directory o ≡ true
    by None is = cc
    by (Some (directory_node es)) is = refl
    by (Some (file_node executable bytes)) is = cc
    by (Some (link_node text)) is = cc

-- trees with the same directories and numbers, and valid nodes
pub record SameShape (t u : Tree) : Type 0 where
  pub numbers : length u.nodes ≡ length t.nodes
  pub blocks : u.blocks ≡ t.blocks
  pub inodes : u.inodes ≡ t.inodes
  pub version : u.version ≡ t.version
  pub directory : (n : ℕ) → is_directory_at u n ≡ is_directory_at t n
  pub there : (n : ℕ) → is_some (node_at u n) ≡ is_some (node_at t n)
  pub each_node : (n : ℕ) (node : Node) → node_at u n ≡ Some node → is_node u.version node ≡ true

pub shape-along : (t u w : Tree) → SameShape t u → SameShape u w → SameShape t w
shape-along t u w a b = record {
  numbers = b.numbers ∙ a.numbers;
  blocks = b.blocks ∙ a.blocks;
  inodes = b.inodes ∙ a.inodes;
  version = b.version ∙ a.version;
  directory = λ n. b.directory n ∙ a.directory n;
  there = λ n. b.there n ∙ a.there n;
  each_node = b.each_node;
}

pub directory_is_some : (o : Option Node) → is_directory o ≡ true → is_some o ≡ true
directory_is_some None is = cc
directory_is_some (Some node) is = refl

-- a directory with its entries replaced
pub shape-entries : (t : Tree) (d : ℕ) (es : Entries) → is_directory_at t d ≡ true
    → ((n : ℕ) (node : Node) → node_at t n ≡ Some node → is_node t.version node ≡ true) → is_node t.version (directory_node es) ≡ true
    → SameShape t (with_node t d (directory_node es))
shape-entries t d es is each good =
    let below : d < length t.nodes = directory-below t d is in
    let here : node_at (with_node t d (directory_node es)) d ≡ Some (directory_node es) = node_at-same t d (directory_node es) below in
    record {
      numbers = length-with_number t.nodes d (directory_node es) below;
      blocks = refl;
      inodes = refl;
      version = refl;
      directory = λ n. ⊎_elim
          (λ same. ap (λ m. is_directory_at (with_node t d (directory_node es)) m) same ∙ ap is_directory here ∙ sym is ∙ ap (is_directory_at t) (sym same))
          (λ other. ap is_directory (node_at-other t d (directory_node es) n below other)) (cases_eq n d);
      there = λ n. ⊎_elim
          (λ same. ap (λ m. is_some (node_at (with_node t d (directory_node es)) m)) same ∙ ap is_some here ∙ sym (directory_is_some (node_at t d) is) ∙ ap (λ m. is_some (node_at t m)) (sym same))
          (λ other. ap is_some (node_at-other t d (directory_node es) n below other)) (cases_eq n d);
      each_node = λ n node at. ⊎_elim
          (λ same. let is' : Some (directory_node es) ≡ Some node = sym here ∙ ap (node_at (with_node t d (directory_node es))) (sym same) ∙ at in let eq : directory_node es ≡ node = cc is' in ap (is_node t.version) (sym eq) ∙ good)
          (λ other. each n node (sym (node_at-other t d (directory_node es) n below other) ∙ at)) (cases_eq n d);
    }

-- the entries of a directory are valid as a node
pub entries-good : (t : Tree) (d : ℕ) → ((n : ℕ) (node : Node) → node_at t n ≡ Some node → is_node t.version node ≡ true)
    → (is_sorted by_name (entries_at t d) ≡ true) × (list_all (λ (e : Bytes × ℕ). is_name t.version e.0) (entries_at t d) ≡ true)
entries-good t d each = by (node_at t d) refl
  where
    by : (o : Option Node) → node_at t d ≡ o → (is_sorted by_name (entries_of o) ≡ true) × (list_all (λ (e : Bytes × ℕ). is_name t.version e.0) (entries_of o) ≡ true)
    by None at = (refl, refl)
    by (Some (directory_node es)) at = and_parts (is_sorted by_name es) _ (each d (directory_node es) at)
    by (Some (file_node executable bytes)) at = (refl, refl)
    by (Some (link_node text)) at = (refl, refl)

pub shape-with_entry : (t : Tree) (d : ℕ) (name : Bytes) (n : ℕ) → is_directory_at t d ≡ true
    → ((n : ℕ) (node : Node) → node_at t n ≡ Some node → is_node t.version node ≡ true) → is_name t.version name ≡ true → SameShape t (with_entry t d name n)
shape-with_entry t d name n is each good =
    let old = entries-good t d each in
    shape-entries t d (put by_name name n (entries_at t d)) is each
    (and_from _ _ (reported _ (is_sorted-put by_name nat_list_cmp_total name n (entries_at t d) (report _ old.0))) (list_all-put (is_name t.version) name n (entries_at t d) good old.1))

pub shape-without_entry : (t : Tree) (d : ℕ) (name : Bytes) → is_directory_at t d ≡ true
    → ((n : ℕ) (node : Node) → node_at t n ≡ Some node → is_node t.version node ≡ true) → SameShape t (without_entry t d name)
shape-without_entry t d name is each =
    let old = entries-good t d each in
    shape-entries t d (where_key by_name (is_other name) (entries_at t d)) is each
    (and_from _ _ (reported _ (is_sorted-where_key by_name (is_other name) (entries_at t d) (report _ old.0)))
    (list_all-filter (λ (e : Bytes × ℕ). is_name t.version e.0) (λ e. is_other name e.0) (entries_at t d) old.1))

-- ---- lookups after a change of entries

pub entries-with_node : (t : Tree) (d : ℕ) (es : Entries) → d < length t.nodes → entries_at (with_node t d (directory_node es)) d ≡ es
entries-with_node t d es below = ap entries_of (node_at-same t d (directory_node es) below)

pub entries-other : (t : Tree) (d : ℕ) (node : Node) (e : ℕ) → d < length t.nodes → e ≢ d → entries_at (with_node t d node) e ≡ entries_at t e
entries-other t d node e below other = ap entries_of (node_at-other t d node e below other)

module _ (t : Tree) (d : ℕ) (name : Bytes) (is : is_directory_at t d ≡ true) where
  pub found-with : (n : ℕ) → find_entry (with_entry t d name n) d name ≡ Some n
  found-with n = ap (find by_name name) (entries-with_node t d (put by_name name n (entries_at t d)) (directory-below t d is)) ∙ find-put_same name n (entries_at t d)

  pub found-with_elsewhere : (n e : ℕ) (q : Bytes) → e ≢ d → find_entry (with_entry t d name n) e q ≡ find_entry t e q
  found-with_elsewhere n e q other = ap (find by_name q) (entries-other t d (directory_node (put by_name name n (entries_at t d))) e (directory-below t d is) other)

  pub found-with_other : (n : ℕ) (q : Bytes) → q ≢ name → find_entry (with_entry t d name n) d q ≡ find_entry t d q
  found-with_other n q other = ap (find by_name q) (entries-with_node t d (put by_name name n (entries_at t d)) (directory-below t d is)) ∙ find-put_other q name n (entries_at t d) other

  -- each entry is the new one, or existed before
  pub with_entry-cases : (n e : ℕ) (q : Bytes) (m : ℕ) → find_entry (with_entry t d name n) e q ≡ Some m
      → ((e ≡ d) × (q ≡ name) × (m ≡ n)) ⊎ (((e ≡ d) → (q ≡ name) → ⊥) × (find_entry t e q ≡ Some m))
  with_entry-cases n e q m found =
      ⊎_elim
      (λ here. ⊎_elim
      (λ same. let new : Some n ≡ Some m = sym (found-with n) ∙ ap₂ (find_entry (with_entry t d name n)) (sym here) (sym same) ∙ found in inl (here, same, cc new))
      (λ other. inr (λ _ same. other same, ap (λ k. find_entry t k q) here ∙ sym (found-with_other n q other) ∙ ap (λ k. find_entry (with_entry t d name n) k q) (sym here) ∙ found))
      (cases_name q name))
      (λ away. inr (λ here _. away here, sym (found-with_elsewhere n e q away) ∙ found))
      (cases_eq e d)

  -- an entry under another name stays
  pub with_entry-stays : (n e : ℕ) (q : Bytes) (m : ℕ) → find_entry t e q ≡ Some m → ((e ≡ d) → (q ≡ name) → ⊥) → find_entry (with_entry t d name n) e q ≡ Some m
  with_entry-stays n e q m found other =
      ⊎_elim
      (λ here. ap (λ k. find_entry (with_entry t d name n) k q) here ∙ found-with_other n q (other here) ∙ ap (λ k. find_entry t k q) (sym here) ∙ found)
      (λ away. found-with_elsewhere n e q away ∙ found)
      (cases_eq e d)

  pub found-without : find_entry (without_entry t d name) d name ≡ None
  found-without = ap (find by_name name) (entries-with_node t d (where_key by_name (is_other name) (entries_at t d)) (directory-below t d is)) ∙ find-without_same name (entries_at t d)

  pub found-without_elsewhere : (e : ℕ) (q : Bytes) → e ≢ d → find_entry (without_entry t d name) e q ≡ find_entry t e q
  found-without_elsewhere e q other = ap (find by_name q) (entries-other t d (directory_node (where_key by_name (is_other name) (entries_at t d))) e (directory-below t d is) other)

  pub found-without_other : (q : Bytes) → q ≢ name → find_entry (without_entry t d name) d q ≡ find_entry t d q
  found-without_other q other = ap (find by_name q) (entries-with_node t d (where_key by_name (is_other name) (entries_at t d)) (directory-below t d is)) ∙ find-without_other q name (entries_at t d) other

  -- each entry existed before, under another name
  pub without_entry-was : (e : ℕ) (q : Bytes) (m : ℕ) → find_entry (without_entry t d name) e q ≡ Some m → ((e ≡ d) → (q ≡ name) → ⊥) × (find_entry t e q ≡ Some m)
  without_entry-was e q m found =
      ⊎_elim
      (λ here. ⊎_elim
      (λ same. let gone : find_entry (without_entry t d name) e q ≡ None = ap₂ (find_entry (without_entry t d name)) here same ∙ found-without in cc)
      (λ other. (λ _ same. other same, ap (λ k. find_entry t k q) here ∙ sym (found-without_other q other) ∙ ap (λ k. find_entry (without_entry t d name) k q) (sym here) ∙ found))
      (cases_name q name))
      (λ away. (λ here _. away here, sym (found-without_elsewhere e q away) ∙ found))
      (cases_eq e d)

  pub without_entry-stays : (e : ℕ) (q : Bytes) (m : ℕ) → find_entry t e q ≡ Some m → ((e ≡ d) → (q ≡ name) → ⊥) → find_entry (without_entry t d name) e q ≡ Some m
  without_entry-stays e q m found other =
      ⊎_elim
      (λ here. ap (λ k. find_entry (without_entry t d name) k q) here ∙ found-without_other q (other here) ∙ ap (λ k. find_entry t k q) (sym here) ∙ found)
      (λ away. found-without_elsewhere e q away ∙ found)
      (cases_eq e d)

pub still-there : (t : Tree) (m : ℕ) (node : Node) → m < length t.nodes → (n : ℕ) → is_some (node_at t n) ≡ true → is_some (node_at (with_node t m node) n) ≡ true
still-there t m node below n is =
    ⊎_elim (λ same. ap is_some (ap (node_at (with_node t m node)) same ∙ node_at-same t m node below)) (λ other. ap is_some (node_at-other t m node n below other) ∙ is) (cases_eq n m)
