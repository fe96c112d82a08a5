-- Names and contents stay bytes when trees change.
use Rattle.std.proofs.Common.{◌≡◌, ℕ, ◌+◌, ◌-◌, ◌<◌, true, List, ◌++◌, length, take, drop, replicate, Option, None, Some, ap, sym, ◌∙◌, ⊎_elim, refl}
use Rattle.std.specs.Prelude.{slice_index}
use Rattle.std.specs.FinMap.Entries.{put, where_key}
use Rattle.std.specs.List.{AllPass, list_all}
use Rattle.std.proofs.lemmas.Bool.{cases_eq, lt-ltb}
use Rattle.std.proofs.lemmas.List.Elements.{All-append, All-drop, All-from_get_or, All-replicate, All-take}
use Rattle.std.proofs.lemmas.List.Sums.{AllPass-from_list_all, list_all-from_AllPass}
use Rattle.pv_model.specs.Machine.{Bytes, overwrite, resize, among, Node, directory_node, file_node, link_node, Tree, node_at, entries_of, entries_at, is_directory_at, with_node, with_entry, without_entry}
use Rattle.pv_laws_trees.specs.Preserved.{numbers_wanted, preserved}
use Rattle.pv_laws_trees.specs.Encoded.{is_byte, are_bytes, has_bytes, AllBytes}
use Rattle.pv_laws_trees.proofs.TreeChanges.{node_at-same, node_at-other, directory-below}
use Rattle.pv_laws_trees.proofs.DirectoryEntries.{by_name, is_other, list_all-put, list_all-filter}
use Rattle.pv_laws_trees.proofs.NumberedMaps.{keep-some}

pub bytes-with_node : (t : Tree) (m : ℕ) (node : Node) → m < length t.nodes → has_bytes node ≡ true → AllBytes t → AllBytes (with_node t m node)
bytes-with_node t m node below good all n x at =
    ⊎_elim
    (λ same. let value : Some node ≡ Some x = sym (node_at-same t m node below) ∙ ap (node_at (with_node t m node)) (sym same) ∙ at in let eq : node ≡ x = cc value in ap has_bytes (sym eq) ∙ good)
    (λ other. all n x (sym (node_at-other t m node n below other) ∙ at)) (cases_eq n m)

pub bytes-entries : (t : Tree) → AllBytes t → (d : ℕ) → list_all (λ (e : Bytes × ℕ). are_bytes e.0) (entries_at t d) ≡ true
bytes-entries t all d = by (node_at t d) refl
  where
    by : (o : Option Node) → node_at t d ≡ o → list_all (λ (e : Bytes × ℕ). are_bytes e.0) (entries_of o) ≡ true
    by None is = refl
    by (Some (directory_node es)) is = all d (directory_node es) is
    by (Some (file_node executable bytes)) is = refl
    by (Some (link_node text)) is = refl

pub bytes-with_entry : (t : Tree) (d : ℕ) (name : Bytes) (n : ℕ) → is_directory_at t d ≡ true → are_bytes name ≡ true → AllBytes t → AllBytes (with_entry t d name n)
bytes-with_entry t d name n dir good all =
    bytes-with_node t d (directory_node (put by_name name n (entries_at t d))) (directory-below t d dir) (list_all-put are_bytes name n (entries_at t d) good (bytes-entries t all d)) all

pub bytes-without_entry : (t : Tree) (d : ℕ) (name : Bytes) → is_directory_at t d ≡ true → AllBytes t → AllBytes (without_entry t d name)
bytes-without_entry t d name dir all =
    bytes-with_node t d (directory_node (where_key by_name (is_other name) (entries_at t d))) (directory-below t d dir)
    (list_all-filter (λ (e : Bytes × ℕ). are_bytes e.0) (λ e. is_other name e.0) (entries_at t d) (bytes-entries t all d)) all

-- collection adds none
pub bytes-preserved : (t : Tree) (held : List ℕ) → AllBytes t → AllBytes (preserved t held)
bytes-preserved t held all n node at = all n node (keep-some (among (numbers_wanted t held)) t.nodes n node at).1

-- ---- bytes of contents

-- numbers that are the bytes of a value in code
pub bytes-all : (bytes : Bytes) → ((i : ℕ) → slice_index bytes i < 256) → are_bytes bytes ≡ true
bytes-all bytes each = list_all-from_AllPass is_byte bytes (All-from_get_or (λ b. is_byte b ≡ true) bytes 0 (λ i below. lt-ltb (slice_index bytes i) 256 (each i)))

each-zero : (n : ℕ) → AllPass is_byte (replicate n 0)
each-zero n = All-replicate (λ b. is_byte b ≡ true) n 0 refl

pub bytes-overwrite : (old : Bytes) (at : ℕ) (new : Bytes) → are_bytes old ≡ true → are_bytes new ≡ true → are_bytes (overwrite old at new) ≡ true
bytes-overwrite old at new good given =
    let had = AllPass-from_list_all is_byte old good in
    let P : ℕ → Type 0 = λ b. is_byte b ≡ true in
    list_all-from_AllPass is_byte (overwrite old at new)
    (All-append P (take at (old ++ replicate (at - length old) 0) ++ new) (drop (at + length new) old)
    (All-append P (take at (old ++ replicate (at - length old) 0)) new
    (All-take P at (old ++ replicate (at - length old) 0) (All-append P old (replicate (at - length old) 0) had (each-zero (at - length old))))
    (AllPass-from_list_all is_byte new given)) (All-drop P (at + length new) old had))

pub bytes-resize : (old : Bytes) (n : ℕ) → are_bytes old ≡ true → are_bytes (resize old n) ≡ true
bytes-resize old n good =
    let P : ℕ → Type 0 = λ b. is_byte b ≡ true in
    list_all-from_AllPass is_byte (resize old n)
    (All-append P (take n old) (replicate (n - length old) 0) (All-take P n old (AllPass-from_list_all is_byte old good)) (each-zero (n - length old)))
