-- The import of the host directory of a tree, name by name.
use Rattle.std.proofs.Common.{◌≡◌, ◌≢◌, ◌∙◌, ap, arith, ℕ, zero, suc, ◌+◌, ◌≤◌, Bool, true, false, not, ◌&&◌, ◌==◌, List, [], ◌∷◌, ◌++◌, length, codes, Option, None, Some, refl, sym, subst}
use Rattle.std.specs.Cmp.Lexicographic.{slice_cmp}
use Rattle.std.specs.FinMap.Entries.{is_sorted}
use Rattle.std.specs.List.{list_all}
use Rattle.std.specs.Ordering.{nat_cmp}
use Rattle.std.specs.Prelude.{map, fold, bytes_eq, nat_le, if◌then◌else◌}
use Rattle.std.proofs.lemmas.Bool.{and_parts, and_from, cond-false, not-true, le-leb}
use Rattle.std.proofs.lemmas.List.{map_push}
use Rattle.pv_model.specs.declared.version.Version.{Version}
use Rattle.pv_model.specs.Machine.{Bytes, is_empty, onto_first, Entry, make, further_name, greatest_length, Entries, Node, directory_node, file_node, link_node, Tree, root, node_at, entries_at, entries_of as entries_in, is_directory, is_link_text, is_name, is_name_byte, is_node, greatest_name, split_slashes}
use Rattle.pv_host_copy.specs.declared.entry.Identity.{Identity}
use Rattle.pv_host_copy.specs.declared.fault.SkipReason.{SkipReason}
use Rattle.pv_host_copy.specs.declared.fault.SkipReason.TheVariants.{Size, Text}
use Rattle.pv_host_copy.specs.Encoded.{EncodedEntries, encodes, encodes_first, encodes_again, encodes_node, encodes_within, encoded_entries, first_path}
use Rattle.pv_host_copy.specs.Gathered.{Gathered, nothing_gathered, and_entry, and_first_entry, and_node, and_linked, and_file, and_link, and_directory, first_path_of, gather}
use Rattle.pv_host_copy.specs.Hosts.{HostEntries, same_identity}
use Rattle.pv_image_manifest.specs.Paths.{is_path}
use Rattle.pv_host_copy.specs.Paths.{path_under}
use Rattle.pv_host_copy.specs.Shown.{and_shown, shown_entries, shown_within, shown, AreDistinct, IsContainedIn, lines_from, ExportIsImported}
use Rattle.pv_host_copy.proofs.ExportSteps.{none-within}

-- ---- the lines of a manifest

lines-length : (line : ℕ) (es : List Entry) → length (lines_from line es) ≡ length es
lines-length line [] = refl
lines-length line (e ∷ es) = ap suc (lines-length (line + 1) es)

lines-last : (line : ℕ) (es : List Entry) (e : Entry) → lines_from line (es ++ e ∷ []) ≡ lines_from line es ++ (line + length es, e) ∷ []
lines-last line [] e = let same : line ≡ line + length {A = Entry} [] = omega arith in ap (λ n. (n, e) ∷ []) same
lines-last line (x ∷ es) e =
    let same : line + 1 + length es ≡ line + length (x ∷ es) = omega arith in
    ap (λ rest. (line, x) ∷ rest) (lines-last (line + 1) es e ∙ ap (λ n. lines_from (line + 1) es ++ (n, e) ∷ []) same)

-- ---- paths

onto-append : (b : ℕ) (ps more : List Bytes) → ps ≢ [] → onto_first b (ps ++ more) ≡ onto_first b ps ++ more
onto-append b [] more some = absurd (some refl)
onto-append b (p ∷ ps) more some = refl

onto-some : (b : ℕ) (ps : List Bytes) → onto_first b ps ≢ []
onto-some b [] e = cc
onto-some b (p ∷ ps) e = cc

split-some : (bs : Bytes) → split_slashes bs ≢ []
split-some [] e = cc
split-some (b ∷ bs) e = by (b == 47) e
  where
    by : (c : Bool) → (if c then [] ∷ split_slashes bs else onto_first b (split_slashes bs)) ≡ [] → ⊥
    by true is = cc
    by false is = onto-some b (split_slashes bs) is

split-append : (bs name : Bytes) → split_slashes (bs ++ 47 ∷ name) ≡ split_slashes bs ++ split_slashes name
split-append [] name = refl
split-append (b ∷ bs) name = by (b == 47) (split-append bs name)
  where
    by : (c : Bool) → split_slashes (bs ++ 47 ∷ name) ≡ split_slashes bs ++ split_slashes name
        → (if c then [] ∷ split_slashes (bs ++ 47 ∷ name) else onto_first b (split_slashes (bs ++ 47 ∷ name)))
        ≡ (if c then [] ∷ split_slashes bs else onto_first b (split_slashes bs)) ++ split_slashes name
    by true rest = ap (λ ps. [] ∷ ps) rest
    by false rest = ap (onto_first b) rest ∙ onto-append b (split_slashes bs) (split_slashes name) (split-some bs)

split-one : (name : Bytes) → list_all is_name_byte name ≡ true → split_slashes name ≡ name ∷ []
split-one [] h = refl
split-one (b ∷ name) h =
    let parts = and_parts (is_name_byte b) (list_all is_name_byte name) h in
    let other : (b == 47) ≡ false = not-true (b == 47) (and_parts (not (b == 0)) (not (b == 47)) parts.0).1 in
    cond-false (b == 47) ([] ∷ split_slashes name) (onto_first b (split_slashes name)) other ∙ ap (onto_first b) (split-one name parts.1)

all-both : (v : Version) (ps more : List Bytes) → list_all (is_name v) ps ≡ true → list_all (is_name v) more ≡ true → list_all (is_name v) (ps ++ more) ≡ true
all-both v [] more one other = other
all-both v (p ∷ ps) more one other =
    let parts = and_parts (is_name v p) (list_all (is_name v) ps) one in
    and_from (is_name v p) (list_all (is_name v) (ps ++ more)) parts.0 (all-both v ps more parts.1 other)

module _ (v : Version) where
  name-bytes : (name : Bytes) → is_name v name ≡ true → list_all is_name_byte name ≡ true
  name-bytes name h =
      let a = and_parts (not (is_empty name) && nat_le (length name) (greatest_name v) && list_all is_name_byte name && not (bytes_eq name (codes "."))) (not (bytes_eq name (codes ".."))) h in
      let b = and_parts (not (is_empty name) && nat_le (length name) (greatest_name v) && list_all is_name_byte name) (not (bytes_eq name (codes "."))) a.0 in
      (and_parts (not (is_empty name) && nat_le (length name) (greatest_name v)) (list_all is_name_byte name) b.0).1

  one-name : (name : Bytes) → is_name v name ≡ true → list_all (is_name v) (split_slashes name) ≡ true
  one-name name named = ap (list_all (is_name v)) (split-one name (name-bytes name named)) ∙ and_from (is_name v name) true named refl

  -- a name can follow a path
  abbrev IsExtensible : Bytes → Type 0
  IsExtensible path = (name : Bytes) → is_name v name ≡ true → is_path v (path_under path name) ≡ true

  root-extensible : IsExtensible []
  root-extensible name named = one-name name named

  path-extensible : (path : Bytes) → is_path v path ≡ true → IsExtensible path
  path-extensible [] is name named = cc
  path-extensible (b ∷ bs) is name named =
      let parts = and_parts (b == 47) (list_all (is_name v) (split_slashes bs)) is in
      and_from (b == 47) (list_all (is_name v) (split_slashes (bs ++ 47 ∷ name))) parts.0
      (ap (list_all (is_name v)) (split-append bs name) ∙ all-both v (split_slashes bs) (split_slashes name) parts.1 (one-name name named))

  -- ---- one name

  module _ (identity : ℕ → Identity) (distinct : AreDistinct identity) where
    abbrev identity_pair : ℕ × Bytes → Identity × Bytes
    identity_pair first = (identity first.0, first.1)

    -- the same entries and first paths
    record IsSame (s : EncodedEntries) (g : Gathered) : Type 0 where
      entries : g.entries ≡ lines_from 1 s.entries
      firsts : g.firsts ≡ map identity_pair s.firsts
      reported : g.reported ≡ []

    entry-same : (e : Entry) (s : EncodedEntries) (g : Gathered) → IsSame s g → IsSame (encodes e s) (and_entry e g)
    entry-same e s g h =
        let counted = lines-length 1 s.entries in
        let line : length (lines_from 1 s.entries) + 1 ≡ 1 + length s.entries = omega (arith, counted) in
        record {
          entries =
              ap (λ (xs : List (ℕ × Entry)). xs ++ (length xs + 1, e) ∷ []) h.entries
              ∙ ap (λ n. lines_from 1 s.entries ++ (n, e) ∷ []) line ∙ sym (lines-last 1 s.entries e);
          firsts = h.firsts;
          reported = h.reported;
        }

    first-same : (path : Bytes) (n : ℕ) (node : Node) (s : EncodedEntries) (g : Gathered) → IsSame s g
        → IsSame (encodes_first path n node s) (and_first_entry path (identity n) (make path node) g)
    first-same path n node s g h =
        let one = entry-same (make path node) s g h in
        record {
          entries = one.entries;
          firsts = ap (λ fs. fs ++ (identity n, path) ∷ []) h.firsts ∙ sym (map_push identity_pair s.firsts (n, path));
          reported = h.reported;
        }

    found-same : (n : ℕ) (firsts : List (ℕ × Bytes)) → first_path_of (identity n) (map identity_pair firsts) ≡ first_path n firsts
    found-same n [] = refl
    found-same n (first ∷ firsts) =
        ap (λ c. if c then Some first.1 else first_path_of (identity n) (map identity_pair firsts)) (distinct first.0 n)
        ∙ ap (λ rest. if first.0 == n then Some first.1 else rest) (found-same n firsts)

    node-same : (path : Bytes) (n : ℕ) (node : Node) (why : SkipReason) (s : EncodedEntries) (g : Gathered) (first : Option Bytes) → IsSame s g
        → IsSame (encodes_again path n node s first) (and_node path (identity n) node true why g first)
    node-same path n node why s g None h = first-same path n node s g h
    node-same path n node why s g (Some first) h = entry-same (further_name path first) s g h

    linked-same : (path : Bytes) (n : ℕ) (node : Node) (has_place : Bool) (why : SkipReason) (s : EncodedEntries) (g : Gathered) → is_path v path ≡ true → has_place ≡ true → IsSame s g
        → IsSame (encodes_again path n node s (first_path n s.firsts)) (and_linked v path (identity n) node has_place why g)
    linked-same path n node has_place why s g named has h =
        let found : first_path_of (identity n) g.firsts ≡ first_path n s.firsts = ap (first_path_of (identity n)) h.firsts ∙ found-same n s.firsts in
        rw named
        (subst (λ (o : Option Bytes). IsSame (encodes_again path n node s (first_path n s.firsts)) (and_node path (identity n) node has_place why g o)) (sym found)
        (subst (λ c. IsSame (encodes_again path n node s (first_path n s.firsts)) (and_node path (identity n) node c why g (first_path n s.firsts))) (sym has)
        (node-same path n node why s g (first_path n s.firsts) h)))

    -- ---- the names of a directory

    module _ (t : Tree) (contained : IsContainedIn v t) where
      names-at : (d : ℕ) → list_all (λ (e : Bytes × ℕ). is_name v e.0) (entries_at t d) ≡ true
      names-at d = by (node_at t d) (contained.each_node d)
        where
          by : (o : Option Node) → ((node : Node) → o ≡ Some node → is_node v node ≡ true) → list_all (λ (e : Bytes × ℕ). is_name v e.0) (entries_in o) ≡ true
          by None each = refl
          by (Some (directory_node es)) each = (and_parts (is_sorted (slice_cmp nat_cmp) es) (list_all (λ (e : Bytes × ℕ). is_name v e.0) es) (each (directory_node es) refl)).1
          by (Some (file_node x bytes)) each = refl
          by (Some (link_node text)) each = refl

      abbrev IsInside : ℕ → Type 0
      IsInside depth =
          (path : Bytes) (d : ℕ) (s : EncodedEntries) (g : Gathered) → IsExtensible path → IsSame s g
          → IsSame (encodes_within t depth path d s) (gather v path (shown_within identity t depth d) g)

      module _ (depth : ℕ) (inside : IsInside depth) (path : Bytes) where
        abbrev with_entry : EncodedEntries → Bytes × ℕ → EncodedEntries
        with_entry so_far e = encodes_within t depth (path_under path e.0) e.1 (encodes_node (path_under path e.0) e.1 (node_at t e.1) so_far)

        leaf-same : (at : Bytes) (n : ℕ) (s : EncodedEntries) (g : Gathered) → is_directory (node_at t n) ≡ false → IsSame s g → IsSame (encodes_within t depth at n s) g
        leaf-same at n s g other h = subst (λ k. IsSame k g) (sym (none-within t depth at n s other)) h

        name-same : (name : Bytes) (n : ℕ) (es : Entries) (s : EncodedEntries) (g : Gathered) → is_path v (path_under path name) ≡ true → IsSame s g
            → ((s' : EncodedEntries) (g' : Gathered) → IsSame s' g' → IsSame (fold with_entry s' es) (gather v path (shown_entries identity t (shown_within identity t depth) es) g'))
            → (o : Option Node) → node_at t n ≡ o
            → IsSame (fold with_entry (encodes_within t depth (path_under path name) n (encodes_node (path_under path name) n o s)) es)
            (gather v path (and_shown identity t name n o (shown_within identity t depth n) (shown_entries identity t (shown_within identity t depth) es)) g)
        name-same name n es s g named h onward None is =
            onward (encodes_within t depth (path_under path name) n s) g (leaf-same (path_under path name) n s g (ap is_directory is) h)
        name-same name n es s g named h onward (Some (directory_node xs)) is =
            let at = path_under path name in
            let entry = make at (directory_node []) in
            let into : and_directory v at (gather v at (shown_within identity t depth n)) g ≡ gather v at (shown_within identity t depth n) (and_entry entry g) = rw named refl in
            onward (encodes_within t depth at n (encodes entry s)) (and_directory v at (gather v at (shown_within identity t depth n)) g)
            (subst (IsSame (encodes_within t depth at n (encodes entry s))) (sym into)
            (inside at n (encodes entry s) (and_entry entry g) (path-extensible at named) (entry-same entry s g h)))
        name-same name n es s g named h onward (Some (file_node x bytes)) is =
            let at = path_under path name in
            let encoded = encodes_node at n (Some (file_node x bytes)) s in
            let fits = le-leb (length bytes) (greatest_length v) (contained.each_file n x bytes is) in
            onward (encodes_within t depth at n encoded) (and_file v at (identity n) x bytes g)
            (leaf-same at n encoded (and_file v at (identity n) x bytes g) (ap is_directory is)
            (linked-same at n (file_node x bytes) (nat_le (length bytes) (greatest_length v)) Size s g named fits h))
        name-same name n es s g named h onward (Some (link_node text)) is =
            let at = path_under path name in
            let encoded = encodes_node at n (Some (link_node text)) s in
            onward (encodes_within t depth at n encoded) (and_link v at (identity n) text g)
            (leaf-same at n encoded (and_link v at (identity n) text g) (ap is_directory is)
            (linked-same at n (link_node text) (is_link_text text) Text s g named (contained.each_node n (link_node text) is) h))

        names-same : IsExtensible path → (es : Entries) → list_all (λ (e : Bytes × ℕ). is_name v e.0) es ≡ true → (s : EncodedEntries) (g : Gathered) → IsSame s g
            → IsSame (fold with_entry s es) (gather v path (shown_entries identity t (shown_within identity t depth) es) g)
        names-same extends [] are s g h = h
        names-same extends (e ∷ es) are s g h =
            let parts = and_parts (is_name v e.0) (list_all (λ (x : Bytes × ℕ). is_name v x.0) es) are in
            name-same e.0 e.1 es s g (extends e.0 parts.0) h (names-same extends es parts.1) (node_at t e.1) refl

      all-inside : (depth : ℕ) → IsInside depth
      all-inside zero path d s g extends h = h
      all-inside (suc depth) path d s g extends h = names-same depth (all-inside depth) path extends (entries_at t d) (names-at d) s g h

pub export-is_imported : ExportIsImported
export-is_imported v t identity contained distinct =
    let begun : EncodedEntries = record { entries = []; firsts = [] } in
    let start : IsSame v identity distinct begun nothing_gathered = record { entries = refl; firsts = refl; reported = refl } in
    let same = all-inside v identity distinct t contained (length t.nodes) [] root begun nothing_gathered (root-extensible v) start in
    (same.entries, same.reported)
