-- The numbers of a tree: entries one at a time, and each kind of node.
use Rattle.std.proofs.Common.{◌≡◌, ◌∙◌, sym, ap, subst, ℕ, ◌+◌, ◌<◌, ◌≤◌, true, false, [], ◌∷◌, ◌++◌, length, take, drop, flat_map, append-nil, Option, None, Some, option_map, slice_get, add-one, arith, refl}
use Rattle.std.proofs.lemmas.Grind.{flat_map-append}
use Rattle.std.proofs.lemmas.List.{take_all}
use Rattle.std.proofs.Math.Seq.{take-add}
use Rattle.pv_image_write.specs.OfDirs.Trees.{stored_bytes_of, kind_of_node}
use Rattle.pv_model.specs.declared.kind.Kind.{Kind}
use Rattle.pv_model.specs.declared.kind.Kind.TheVariants.{Directory, File, Executable, Symlink}
use Rattle.pv_model.specs.Machine.{Numbers, bytes_numbers, Bytes, next_name, size_of, Entries, Node, directory_node, file_node, link_node, Tree, node_at, entries_of, entries_at, find_entry, is_directory, is_directory_at, IsWellFormed}
use Rattle.pv_model.specs.Answers.Numbers.{name_numbers, node_numbers}
use Rattle.pv_image_write.proofs.EntryLists.{find-at, get-some, name_before, next-at, size_entries, sorted-at, take-get}
use Rattle.pv_state_encoding.specs.Packed.{IsAdded}
use Rattle.pv_state_encoding.specs.Parts.{if_there}
use Rattle.pv_state_encoding.proofs.AppendedNumbers.{added_both, added_none, added_then}

-- ---- the entries of a directory

-- the first i entries are appended, and this is the name of the last one
pub record IsEncoded (es : Entries) (i : ℕ) (old now : Bytes) (last : Option Bytes) : Type 0 where
  pub added : IsAdded (flat_map name_numbers (take i es)) old now
  pub last_name : last ≡ name_before es i

pub encoded-start : (es : Entries) (old : Bytes) → IsEncoded es 0 old old None
encoded-start es old = record { added = added_none old; last_name = refl }

pub encoded-step : (es : Entries) (i : ℕ) (old now new : Bytes) (last : Option Bytes) (e : Bytes × ℕ) → IsEncoded es i old now last → slice_get es i ≡ Some e → IsAdded (name_numbers e) now new
    → IsEncoded es (i + 1) old new (Some e.0)
encoded-step es i old now new last e so_far is added =
    subst (λ k. IsEncoded es k old new (Some e.0)) (sym (add-one i))
    (record {
      added =
          subst (λ (ms : Numbers). IsAdded ms old new)
          (sym (ap (flat_map name_numbers) (take-get es i e is) ∙ flat_map-append name_numbers (take i es) (e ∷ []) ∙ ap (λ ms. flat_map name_numbers (take i es) ++ ms) (append-nil (name_numbers e))))
          (added_both so_far.added added);
      last_name = sym (ap (option_map (λ (h : Bytes × ℕ). h.0)) is);
    })

module _ (t : Tree) (d : ℕ) (w : IsWellFormed t) where
  -- the next entry in the loop
  pub record IsMet (i : ℕ) (last : Option Bytes) (e : Bytes × ℕ) : Type 0 where
    pub there : slice_get (entries_at t d) i ≡ Some e
    pub next : next_name last (entries_at t d) ≡ Some e.0
    pub found : find_entry t d e.0 ≡ Some e.1

  pub met : (i n : ℕ) (old now : Bytes) (last : Option Bytes) → is_directory_at t d ≡ true → option_map size_of (node_at t d) ≡ Some n → i < n
      → IsEncoded (entries_at t d) i old now last → (e : Bytes × ℕ) × IsMet i last e
  met i n old now last is size below so_far =
      let many = size_entries (node_at t d) n is size in
      let there = get-some (entries_at t d) i (omega arith) in (
        there.0,
        record {
          there = there.1;
          next = ap (λ o. next_name o (entries_at t d)) so_far.last_name ∙ next-at (entries_at t d) (sorted-at t d w) i there.0 there.1;
          found = find-at (entries_at t d) (sorted-at t d w) i there.0 there.1;
        },
      )

  pub all-met : (i n : ℕ) (old now : Bytes) (last : Option Bytes) → is_directory_at t d ≡ true → option_map size_of (node_at t d) ≡ Some n → n ≤ i
      → IsEncoded (entries_at t d) i old now last → IsAdded (flat_map name_numbers (entries_at t d)) old now
  all-met i n old now last is size all so_far =
      let many = size_entries (node_at t d) n is size in
      subst (λ (xs : Entries). IsAdded (flat_map name_numbers xs) old now) (take_all i (entries_at t d) (omega arith)) so_far.added

-- ---- bytes, run by run

pub added_run : (bytes part : Bytes) (at : ℕ) (old now new : Bytes) → part ≡ take (length part) (drop at bytes) → IsAdded (take at bytes) old now → IsAdded part now new
    → IsAdded (take (at + length part) bytes) old new
added_run bytes part at old now new run first second =
    subst (λ (ms : Numbers). IsAdded ms old new) (sym (take-add at (length part) bytes ∙ ap (λ (t : Bytes). take at bytes ++ t) (sym run))) (added_both first second)

pub size-bytes : (o : Option Node) (n : ℕ) → is_directory o ≡ false → option_map size_of o ≡ Some n → n ≡ length (stored_bytes_of o)
size-bytes None n is size = cc
size-bytes (Some (directory_node es)) n is size = cc
size-bytes (Some (file_node executable bytes)) n is size = let same : length bytes ≡ n = cc in sym same
size-bytes (Some (link_node text)) n is size = let same : length text ≡ n = cc in sym same

pub added_runs : (o : Option Node) (n at : ℕ) (old now : Bytes) → is_directory o ≡ false → option_map size_of o ≡ Some n → n ≤ at → IsAdded (take at (stored_bytes_of o)) old now → IsAdded (stored_bytes_of o) old now
added_runs o n at old now is size all added =
    let many = size-bytes o n is size in
    subst (λ (ms : Numbers). IsAdded ms old now) (take_all at (stored_bytes_of o) (omega arith)) added

pub added_content : (o : Option Node) (n : ℕ) (old middle new : Bytes) → is_directory o ≡ false → option_map size_of o ≡ Some n → IsAdded (n ∷ []) old middle → IsAdded (stored_bytes_of o) middle new
    → IsAdded (bytes_numbers (stored_bytes_of o)) old new
added_content o n old middle new is size first second = added_then (subst (λ (k : ℕ). IsAdded (k ∷ []) old middle) (size-bytes o n is size) first) second

-- ---- a node

pub is_directory_there : (o : Option Node) → option_map kind_of_node o ≡ Some Directory → is_directory o ≡ true
is_directory_there None is = cc
is_directory_there (Some (directory_node es)) is = refl
is_directory_there (Some (file_node true bytes)) is = let same : Executable ≡ Directory = cc in cc
is_directory_there (Some (file_node false bytes)) is = let same : File ≡ Directory = cc in cc
is_directory_there (Some (link_node text)) is = let same : Symlink ≡ Directory = cc in cc

pub no_directory : (o : Option Node) (k : Kind) → option_map kind_of_node o ≡ Some k → (k ≡ Directory → ⊥) → is_directory o ≡ false
no_directory None k is other = cc
no_directory (Some (directory_node es)) k is other = absurd (other (let same : Directory ≡ k = cc in sym same))
no_directory (Some (file_node executable bytes)) k is other = refl
no_directory (Some (link_node text)) k is other = refl

pub added_directory : (o : Option Node) (n : ℕ) (a b c d : Bytes) → option_map kind_of_node o ≡ Some Directory → option_map size_of o ≡ Some n → IsAdded (0 ∷ []) a b → IsAdded (n ∷ []) b c
    → IsAdded (flat_map name_numbers (entries_of o)) c d → IsAdded (if_there node_numbers o) a d
added_directory None n a b c d is size first second third = cc
added_directory (Some (directory_node es)) n a b c d is size first second third =
    let same : length es ≡ n = cc in added_then first (added_then (subst (λ (k : ℕ). IsAdded (k ∷ []) b c) (sym same) second) third)
added_directory (Some (file_node true bytes)) n a b c d is size first second third = let same : Executable ≡ Directory = cc in cc
added_directory (Some (file_node false bytes)) n a b c d is size first second third = let same : File ≡ Directory = cc in cc
added_directory (Some (link_node text)) n a b c d is size first second third = let same : Symlink ≡ Directory = cc in cc

pub added_file : (o : Option Node) (a b c d : Bytes) → option_map kind_of_node o ≡ Some File → IsAdded (1 ∷ []) a b → IsAdded (0 ∷ []) b c → IsAdded (bytes_numbers (stored_bytes_of o)) c d → IsAdded (if_there node_numbers o) a d
added_file None a b c d is first second third = cc
added_file (Some (directory_node es)) a b c d is first second third = let same : Directory ≡ File = cc in cc
added_file (Some (file_node true bytes)) a b c d is first second third = let same : Executable ≡ File = cc in cc
added_file (Some (file_node false bytes)) a b c d is first second third = added_then first (added_then second third)
added_file (Some (link_node text)) a b c d is first second third = let same : Symlink ≡ File = cc in cc

pub added_executable : (o : Option Node) (a b c d : Bytes) → option_map kind_of_node o ≡ Some Executable → IsAdded (1 ∷ []) a b → IsAdded (1 ∷ []) b c → IsAdded (bytes_numbers (stored_bytes_of o)) c d → IsAdded (if_there node_numbers o) a d
added_executable None a b c d is first second third = cc
added_executable (Some (directory_node es)) a b c d is first second third = let same : Directory ≡ Executable = cc in cc
added_executable (Some (file_node true bytes)) a b c d is first second third = added_then first (added_then second third)
added_executable (Some (file_node false bytes)) a b c d is first second third = let same : File ≡ Executable = cc in cc
added_executable (Some (link_node text)) a b c d is first second third = let same : Symlink ≡ Executable = cc in cc

pub added_link : (o : Option Node) (a b c : Bytes) → option_map kind_of_node o ≡ Some Symlink → IsAdded (2 ∷ []) a b → IsAdded (bytes_numbers (stored_bytes_of o)) b c → IsAdded (if_there node_numbers o) a c
added_link None a b c is first second = cc
added_link (Some (directory_node es)) a b c is first second = let same : Directory ≡ Symlink = cc in cc
added_link (Some (file_node true bytes)) a b c is first second = let same : Executable ≡ Symlink = cc in cc
added_link (Some (file_node false bytes)) a b c is first second = let same : File ≡ Symlink = cc in cc
added_link (Some (link_node text)) a b c is first second = added_then first second
