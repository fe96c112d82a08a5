-- The kind of a node, and how a walk continues from it.
use Rattle.std.proofs.Common.{◌≡◌, ℕ, ◌-◌, ◌≤◌, Bool, true, false, if◌then◌else◌, not, ◌&&◌, ◌==◌, nat_le, List, ◌++◌, length, min, take, drop, Option, None, Some, Ok, refl, ap, sym, ◌∙◌, arith}
use Rattle.std.specs.Prelude.{IsSome, option_map}
use Rattle.std.specs.List.{list_all}
use Rattle.std.proofs.Math.Seq.{take-append_seam, take-length}
use Rattle.std.proofs.lemmas.Bool.{and_parts, leb-true}
use Rattle.pv_model.specs.declared.place.Place.TheVariants.{At}
use Rattle.pv_model.specs.declared.kind.Kind.TheVariants.{Directory}
use Rattle.pv_model.specs.Machine.{Bytes, is_empty, link_text, Node, directory_node, file_node, link_node, Tree, root, node_at, find_entry, is_directory, is_directory_at, is_link_text, IsWellFormed, Walked}
use Rattle.pv_model.specs.Walk.{PastLink, Onward, at_node}
use Rattle.pv_tree.proofs.OfLawsTrees.WalkPlaces.{link-text}
use Rattle.pv_tree.proofs.OfLawsTrees.Trees.{sound}
use Rattle.pv_tree.specs.Trees.{kind_of_node, stored_bytes_of}

-- ---- the nodes of a well-formed tree

pub text-short : (t : Tree) → IsWellFormed t → (n : ℕ) (text : Bytes) → node_at t n ≡ Some (link_node text) → length text ≤ 1023
text-short t well n text is =
    let tests = and_parts (not (is_empty text) && nat_le (length text) 1023) (list_all (λ b. not (b == 0)) text) (link-text t (sound t well) n text is) in
    leb-true (length text) 1023 (and_parts (not (is_empty text)) (nat_le (length text) 1023) tests.0).1

-- ---- the target of a symbolic link

take_front : (text old : Bytes) (n m : ℕ) → n ≡ min m (length text - 0) → length text ≤ m → (take n (take n (drop 0 text) ++ drop n old) ≡ text) × (n ≡ length text)
take_front text old n m is short =
    let all : n ≡ length text = omega arith in
    (ap (λ k. take k (take k text ++ drop k old)) all ∙ ap (λ front. take (length text) (front ++ drop (length text) old)) (take-length text) ∙ take-append_seam text (drop (length text) old), all)

pub text-read : (o : Option Node) → IsSome (link_text o) → ((text : Bytes) → o ≡ Some (link_node text) → length text ≤ 1023) → (old new : Bytes) (n : ℕ) → length old ≡ 1023
    → n ≡ min (length old) (length (stored_bytes_of o) - 0) → new ≡ take n (drop 0 (stored_bytes_of o)) ++ drop n old → (link_text o ≡ Some (take n new)) × (n ≤ 1023)
text-read None is short old new n long count bytes = cc is
text-read (Some (directory_node es)) is short old new n long count bytes = cc is
text-read (Some (file_node executable content)) is short old new n long count bytes = cc is
text-read (Some (link_node text)) is short old new n long count bytes =
    let few : length text ≤ 1023 = short text refl in
    let front = take_front text old n (length old) count (omega arith) in
    (ap (λ (bs : Bytes). Some bs) (sym front.0 ∙ ap (take n) (sym bytes)), omega (arith, front.1))

-- ---- how a walk continues from a directory

module _ (t : Tree) (last : Bool) (following : PastLink) (onward : Onward) (at : ℕ) (component : Bytes) (rest : List Bytes) (mark : Bool) (n : ℕ) where
  abbrev there : Option Node → Walked
  there o = at_node t last following onward at component rest mark n o

  abbrev pub place : Walked
  place = Ok (At at component (Some n))

  when_false : (b : Bool) (a c : Walked) → b ≡ false → (if b then a else c) ≡ c
  when_false false a c is = refl
  when_false true a c is = cc is

  pub directory-entered : (o : Option Node) → option_map kind_of_node o ≡ Some Directory → is_empty rest ≡ false → there o ≡ onward n
  directory-entered None is goes = cc is
  directory-entered (Some (directory_node es)) is goes = when_false (is_empty rest) place (onward n) goes
  directory-entered (Some (file_node true bytes)) is goes = cc is
  directory-entered (Some (file_node false bytes)) is goes = cc is
  directory-entered (Some (link_node text)) is goes = cc is
