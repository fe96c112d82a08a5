-- The files of a tree, in the order of a listing.
use Rattle.std.proofs.Common.{◌≡◌, ◌∙◌, sym, ap, ap₂, ℕ, zero, suc, ◌-◌, ◌<◌, Bool, true, false, not, ◌&&◌, ◌||◌, cond, if◌then◌else◌, ◌==◌, bytes_eq, List, [], ◌∷◌, ◌++◌, length, map, flat_map, filter, append_assoc, append-nil, Some, refl, arith}
use Rattle.std.specs.List.{list_any}
use Rattle.std.proofs.lemmas.Bool.Decides.{nat_tests}
use Rattle.std.proofs.lemmas.List.{map-append}
use Rattle.std.proofs.lemmas.List.Folds.{list_any-append}
use Rattle.pv_model.specs.declared.place.Place.{Place}
use Rattle.pv_model.specs.declared.place.Place.TheVariants.{At, Node as Unnamed}
use Rattle.pv_model.specs.Machine.{elements_with_new_keys, is_file_at, named_files, with_name, Numbers, number_numbers, ListedName, Bytes, Entries, Tree, root, entries_at}
use Rattle.pv_model.specs.Answers.Reach.{names_within}
use Rattle.pv_named_files.specs.Listed.{listed_nodes, nodes_within, with_files}

module _ (t : Tree) where
  -- ---- the nodes of names

  -- the nodes of the names below a directory
  abbrev pub nodes_under : ℕ → Entries → List ℕ
  nodes_under depth es = flat_map (λ e. nodes_within t depth e.1) es

  pub nodes-are : (depth n : ℕ) → 0 < depth → nodes_within t depth n ≡ n ∷ nodes_under (depth - 1) (entries_at t n)
  nodes-are zero n some = absurd (omega arith)
  nodes-are (suc depth) n some = let less : depth ≡ suc depth - 1 = omega arith in ap (λ k. n ∷ nodes_under k (entries_at t n)) less

  abbrev node_of : ListedName → ℕ
  node_of l = l.node

  abbrev AreNodes : ℕ → Type 0
  AreNodes depth = (path : Bytes) (place : Place) (n : ℕ) → map node_of (names_within t depth path place n) ≡ nodes_within t depth n

  nodes-of_names : (depth : ℕ) → AreNodes depth
  nodes-of_names zero path place n = refl
  nodes-of_names (suc depth) path place n = ap (λ ns. n ∷ ns) (under (nodes-of_names depth) (entries_at t n))
    where
      under : AreNodes depth → (es : Entries) → map node_of (flat_map (λ e. names_within t depth (with_name e.0 path) (At n e.0 (Some e.1)) e.1) es) ≡ nodes_under depth es
      under below [] = refl
      under below (e ∷ es) =
          map-append node_of (names_within t depth (with_name e.0 path) (At n e.0 (Some e.1)) e.1) (flat_map (λ e. names_within t depth (with_name e.0 path) (At n e.0 (Some e.1)) e.1) es)
          ∙ ap₂ (λ (a b : List ℕ). a ++ b) (below (with_name e.0 path) (At n e.0 (Some e.1)) e.1) (under below es)

  -- ---- the files, each once

  abbrev HaveSame : List ℕ → List Numbers → Type 0
  HaveSame files seen = (n : ℕ) → list_any (λ m. m == n) files ≡ list_any (bytes_eq (number_numbers n)) seen

  file-added : (files : List ℕ) (seen : List Numbers) (n : ℕ) → HaveSame files seen → HaveSame (files ++ n ∷ []) (number_numbers n ∷ seen)
  file-added files seen n same k =
      list_any-append (λ m. m == k) files (n ∷ []) ∙ ap (λ b. b || ((n == k) || false)) (same k)
      ∙ swap (list_any (bytes_eq (number_numbers k)) seen) (n == k) ∙ ap (λ b. b || list_any (bytes_eq (number_numbers k)) seen) equal
    where
      swap : (a b : Bool) → (a || (b || false)) ≡ (b || a)
      swap true true = refl
      swap true false = refl
      swap false true = refl
      swap false false = refl

      both : (b : Bool) → (b && true) ≡ b
      both true = refl
      both false = refl

      equal : (n == k) ≡ bytes_eq (number_numbers k) (number_numbers n)
      equal = let symmetric : (n == k) ≡ (k == n) = grind (arith, nat_tests) in symmetric ∙ sym (both (k == n))

  files-from : (files : List ℕ) (seen : List Numbers) → HaveSame files seen → (ns : List ℕ) → with_files t files ns ≡ files ++ elements_with_new_keys number_numbers seen (filter (is_file_at t) ns)
  files-from files seen same [] = sym (append-nil files)
  files-from files seen same (n ∷ ns) = by (is_file_at t n) (files-from files seen same ns) (files-from (files ++ n ∷ []) (number_numbers n ∷ seen) (file-added files seen n same) ns)
    where
      fs : List ℕ
      fs = filter (is_file_at t) ns

      file : (a b : Bool) → a ≡ b → with_files t files ns ≡ files ++ elements_with_new_keys number_numbers seen fs
          → with_files t (files ++ n ∷ []) ns ≡ (files ++ n ∷ []) ++ elements_with_new_keys number_numbers (number_numbers n ∷ seen) fs
          → with_files t (if not a then files ++ n ∷ [] else files) ns ≡ files ++ (if b then elements_with_new_keys number_numbers seen fs else n ∷ elements_with_new_keys number_numbers (number_numbers n ∷ seen) fs)
      file true true is old new = old
      file true false is old new = cc
      file false true is old new = cc
      file false false is old new = new ∙ append_assoc files (n ∷ []) (elements_with_new_keys number_numbers (number_numbers n ∷ seen) fs)

      by : (is_file : Bool) → with_files t files ns ≡ files ++ elements_with_new_keys number_numbers seen fs
          → with_files t (files ++ n ∷ []) ns ≡ (files ++ n ∷ []) ++ elements_with_new_keys number_numbers (number_numbers n ∷ seen) fs
          → with_files t (if is_file && not (list_any (λ m. m == n) files) then files ++ n ∷ [] else files) ns ≡ files ++ elements_with_new_keys number_numbers seen (cond is_file (n ∷ fs) fs)
      by false old new = old
      by true old new = file (list_any (λ m. m == n) files) (list_any (bytes_eq (number_numbers n)) seen) (same n) old new

  pub listed_files : with_files t [] (listed_nodes t) ≡ named_files t
  listed_files =
      files-from [] [] (λ n. refl) (listed_nodes t)
      ∙ ap (λ ns. elements_with_new_keys number_numbers [] (filter (is_file_at t) ns)) (sym (nodes-of_names (length t.nodes) [] (Unnamed root) root))
