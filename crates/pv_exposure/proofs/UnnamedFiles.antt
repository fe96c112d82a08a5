-- The files without names, by number.
use Rattle.std.proofs.Common.{◌≡◌, ◌∙◌, ap, ℕ, zero, suc, ◌+◌, Bool, false, cond, ◌&&◌, List, [], ◌∷◌, ◌++◌, length, map, filter, Option, None, Some, add-one, refl, arith}
use Rattle.std.specs.List.{range_with_len}
use Rattle.pv_reduced.proofs.OfExplore.NumberRanges.{range-suc}
use Rattle.pv_model.specs.Answers.Files.{unnamed_files}
use Rattle.pv_model.specs.Machine.{is_empty, Numbered, at_number, numbered_from, is_file, Node, Tree, names_of}
use Rattle.pv_exposure.specs.Unnamed.{is_unnamed}

numbers-from : {X : Type 0} (p : ℕ → Bool) (k : ℕ) (xs : Numbered X) → ((i : ℕ) → at_number xs i ≡ None → p (k + i) ≡ false)
    → filter p (range_with_len k (length xs)) ≡ filter p (map (λ x. x.0) (numbered_from k xs))
numbers-from p k [] absent = refl
numbers-from {X = X} p k (x ∷ xs) absent =
    ap (λ j. filter p (k ∷ range_with_len j (length xs))) (add-one k)
    ∙ by x (absent zero) (numbers-from p (suc k) xs (λ i none. ap p (let same : suc k + i ≡ k + suc i = omega arith in same) ∙ absent (suc i) none))
  where
    by : (o : Option X) → (o ≡ None → p (k + zero) ≡ false) → filter p (range_with_len (suc k) (length xs)) ≡ filter p (map (λ x. x.0) (numbered_from (suc k) xs))
        → filter p (k ∷ range_with_len (suc k) (length xs)) ≡ filter p (map (λ x. x.0) (numbered_from k (o ∷ xs)))
    by None absent rest =
        let here : k ≡ k + zero = omega arith in
        ap (λ b. cond b (k ∷ filter p (range_with_len (suc k) (length xs))) (filter p (range_with_len (suc k) (length xs)))) (ap p here ∙ absent refl) ∙ rest
    by (Some y) absent rest = ap (λ (ns : List ℕ). cond (p k) (k ∷ ns) ns) rest

pub unnamed-are : (t : Tree) → filter (is_unnamed t) (range_with_len 0 (length t.nodes)) ≡ unnamed_files t
unnamed-are t =
    numbers-from (is_unnamed t) 0 t.nodes
    (λ i none. let same : 0 + i ≡ i = omega arith in ap (is_unnamed t) same ∙ ap (λ (o : Option Node). is_file o && is_empty (names_of t i)) none)

pub range-next : (n : ℕ) → range_with_len 0 (n + 1) ≡ range_with_len 0 n ++ n ∷ []
range-next n =
    let same : 0 + n ≡ n = omega arith in
    ap (range_with_len 0) (add-one n) ∙ range-suc 0 n ∙ ap (λ k. range_with_len 0 n ++ k ∷ []) same
