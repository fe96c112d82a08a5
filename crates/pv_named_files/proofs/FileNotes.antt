-- Notes are equal if and only if their files are.
use Rattle.std.proofs.Common.{◌≡◌, ◌≢◌, ◌∙◌, ◌⊎◌, inl, inr, sym, ap, ap₂, ℕ, ◌/◌, ◌%◌, ◌||◌, ◌==◌, bytes_eq, List, [], ◌∷◌, map, refl, arith}
use Rattle.std.specs.List.{list_any}
use Rattle.std.proofs.lemmas.Bool.{cases_eq, eq-eqb, ne_eqb}
use Rattle.pv_laws_trees.proofs.DirectoryEntries.{bytes_eq-itself, bytes_eq-other}
use Rattle.pv_model.specs.Machine.{Bytes}
use Rattle.pv_named_files.specs.Notes.{note}

abbrev second : Bytes → ℕ
second (a ∷ b ∷ bs) = b
second _ = 0

abbrev third : Bytes → ℕ
third (a ∷ b ∷ c ∷ bs) = c
third _ = 0

note-same : (n m : ℕ) → note n ≡ note m → m ≡ n
note-same n m is =
    let high : n / 256 ≡ m / 256 = ap second is in
    let low : n % 256 ≡ m % 256 = ap third is in omega (arith, high, low)

-- notes are equal if and only if their files are
pub note-tested : (n m : ℕ) → bytes_eq (note n) (note m) ≡ (m == n)
note-tested n m = by (cases_eq m n)
  where
    by : (m ≡ n) ⊎ (m ≢ n) → bytes_eq (note n) (note m) ≡ (m == n)
    by (inl same) = ap (λ k. bytes_eq (note n) (note k)) same ∙ bytes_eq-itself (note n) ∙ sym (eq-eqb m n same)
    by (inr other) = bytes_eq-other (note n) (note m) (λ e. other (note-same n m e)) ∙ sym (ne_eqb m n other)

pub notes-any : (n : ℕ) (files : List ℕ) → list_any (bytes_eq (note n)) (map note files) ≡ list_any (λ m. m == n) files
notes-any n [] = refl
notes-any n (m ∷ files) = ap₂ (λ a b. a || b) (note-tested n m) (notes-any n files)
