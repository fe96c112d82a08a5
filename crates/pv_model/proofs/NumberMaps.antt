-- Finite maps from numbers.
use Rattle.std.proofs.Common.{◌≡◌, ◌<◌, ◌≤◌, ◌∙◌, ap, ℕ, zero, suc, List, [], ◌∷◌, length, get_or, Option, None, Some, refl}
use Rattle.std.proofs.lemmas.Option.{slice_get_read, slice_get_past}
use Rattle.std.specs.Prelude.{map, option_map, slice_get}
use Rattle.pv_model.specs.Numbered.{at_number}

module _ {X Y : Type 0} (f : X → Y) where
  abbrev pub at_slot : Option (Option X) → Option Y
  at_slot None = None
  at_slot (Some x) = option_map f x

  -- the value for a number in a mapped list
  pub at_number-map : (xs : List (Option X)) (n : ℕ) → at_number (map (option_map f) xs) n ≡ at_slot (slice_get xs n)
  at_number-map [] zero = refl
  at_number-map [] (suc n) = refl
  at_number-map (x ∷ xs) zero = refl
  at_number-map (x ∷ xs) (suc n) = at_number-map xs n

  -- the value read at an index is the value for that number
  pub at_number_read : (xs : List (Option X)) (i : ℕ) (x : Option X) → i < length xs → x ≡ get_or xs i x → at_number (map (option_map f) xs) i ≡ option_map f x
  at_number_read xs i x within is = at_number-map xs i ∙ ap at_slot (slice_get_read xs (length xs) i x refl within is)

  -- no number past the end has a value
  pub at_number_past : (xs : List (Option X)) (i : ℕ) → length xs ≤ i → at_number (map (option_map f) xs) i ≡ None
  at_number_past xs i past = at_number-map xs i ∙ ap at_slot (slice_get_past xs i past)
