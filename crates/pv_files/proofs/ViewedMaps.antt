-- Maps from numbers whose values are viewed through a function.
use Rattle.std.proofs.Common.{cond, nat_lt, IsSome, is_some, true, ◌≡◌, ℕ, zero, suc, ◌<◌, ◌≤◌, not, List, [], ◌∷◌, ◌++◌, take, drop, map, length, position, MatchOption, Option, None, Some, is_none, option_map, refl, sym, ap, ◌∙◌, arith, ◌+◌, add-one}
use Rattle.std.specs.Prelude.{◌↔◌}
use Rattle.std.proofs.Math.ListN.{get_or, set, length-map}
use Rattle.std.proofs.Math.Numerals.{one-add}
use Rattle.std.proofs.lemmas.Bool.Decides.{nat_tests}
use Rattle.std.proofs.lemmas.List.{map-set}
use Rattle.std.proofs.lemmas.List.Quantifiers.{position-Some}
use Rattle.std.proofs.lemmas.List.Sums.{prefix_len-le-length}
use Rattle.std.proofs.lemmas.Option.{cond_some}
use Rattle.std.specs.List.{position_or_len}
use Rattle.pv_model.specs.Machine.{Numbered, at_number, with_number, without_number, least_free}

pub past : (n m : ℕ) → n ≤ m → cond (nat_lt n m) (Some n) None ≡ None → n ≡ m
past n m within none = grind (arith, nat_tests)

module _ {X : Type 0} where
  first_free : (xs : Numbered X) → position_or_len (λ o. is_none o) xs ≡ least_free xs
  first_free [] = refl
  first_free (None ∷ xs) = refl
  first_free (Some x ∷ xs) = rw one-add (ap suc (first_free xs))

  -- the least free number as the result of a search
  pub least_free_found : (xs : Numbered X) (found : Option ℕ) → found ≡ position (λ o. is_none o) xs
      → MatchOption found (least_free xs ≡ length xs) (λ k. (least_free xs ≡ k) × (k < length xs))
  least_free_found xs None is =
      sym (first_free xs) ∙ past (position_or_len (λ o. is_none o) xs) (length xs) (prefix_len-le-length (λ o. not (is_none o)) xs) (sym is)
  least_free_found xs (Some k) is =
      (sym (first_free xs) ∙ (cond_some (nat_lt (position_or_len (λ o. is_none o) xs) (length xs)) (position_or_len (λ o. is_none o) xs) k (sym is)).1, (position-Some (λ o. is_none o) xs k None (sym is)).0)

  -- if the first n numbers are in use, the search for the least free one can start after them
  pub least_free_after : (xs : Numbered X) (n : ℕ) → n ≤ least_free xs → least_free xs ≡ n + least_free (drop n xs)
  least_free_after xs zero used = omega arith
  least_free_after [] (suc n) used = absurd (omega arith)
  least_free_after (None ∷ xs) (suc n) used = absurd (omega arith)
  least_free_after (Some x ∷ xs) (suc n) used = omega (arith, least_free_after xs n (omega arith))

  pub least_free-le : (xs : Numbered X) → least_free xs ≤ length xs
  least_free-le [] = omega arith
  least_free-le (None ∷ xs) = omega arith
  least_free-le (Some x ∷ xs) = omega (arith, least_free-le xs)

  -- the first n numbers stay in use if a value is put under a number, if the least free number is put in use, or if a
  -- number not below n is freed
  pub used-set_some : (xs : Numbered X) (k n : ℕ) (x : X) → n ≤ least_free xs → n ≤ least_free (set xs k (Some x))
  used-set_some xs k zero x used = omega arith
  used-set_some [] k (suc n) x used = absurd (omega arith)
  used-set_some (None ∷ xs) k (suc n) x used = absurd (omega arith)
  used-set_some (Some y ∷ xs) zero (suc n) x used = used
  used-set_some (Some y ∷ xs) (suc k) (suc n) x used = omega (arith, used-set_some xs k n x (omega arith))

  pub used-set_least : (xs : Numbered X) (k : ℕ) (x : X) → least_free xs ≡ k → k < length xs → k + 1 ≤ least_free (set xs k (Some x))
  used-set_least [] k x is within = absurd (omega arith)
  used-set_least (None ∷ xs) zero x is within = omega arith
  used-set_least (None ∷ xs) (suc k) x is within = absurd (omega arith)
  used-set_least (Some y ∷ xs) zero x is within = absurd (omega arith)
  used-set_least (Some y ∷ xs) (suc k) x is within = omega (arith, used-set_least xs k x (omega arith) (omega arith))

  pub used-set : (xs : Numbered X) (k n : ℕ) (o : Option X) → n ≤ least_free xs → n ≤ k → n ≤ least_free (set xs k o)
  used-set xs k zero o used below = omega arith
  used-set [] k (suc n) o used below = absurd (omega arith)
  used-set (None ∷ xs) k (suc n) o used below = absurd (omega arith)
  used-set (Some y ∷ xs) zero (suc n) o used below = absurd (omega arith)
  used-set (Some y ∷ xs) (suc k) (suc n) o used below = omega (arith, used-set xs k n o (omega arith) (omega arith))

  -- a number with a value is less than the length
  pub within_length : (xs : Numbered X) (n : ℕ) → IsSome (at_number xs n) → n < length xs
  within_length [] n there = cc
  within_length (x ∷ xs) zero there = omega arith
  within_length (x ∷ xs) (suc n) there = omega (arith, within_length xs n there)

  -- a change at a number

  pub with_number-set : (xs : Numbered X) (n : ℕ) (v : X) → n < length xs → with_number xs n v ≡ set xs n (Some v)
  with_number-set [] n v within = absurd (omega arith)
  with_number-set (x ∷ xs) zero v within = refl
  with_number-set (x ∷ xs) (suc n) v within = ap (λ ys. x ∷ ys) (with_number-set xs n v (omega arith))

  pub without_number-set : (xs : Numbered X) (n : ℕ) → without_number xs n ≡ set xs n None
  without_number-set [] n = refl
  without_number-set (x ∷ xs) zero = refl
  without_number-set (x ∷ xs) (suc n) = ap (λ ys. x ∷ ys) (without_number-set xs n)

  -- putting the same value again changes nothing
  pub set-itself : (xs : Numbered X) (n : ℕ) → set xs n (at_number xs n) ≡ xs
  set-itself [] n = refl
  set-itself (x ∷ xs) zero = refl
  set-itself (x ∷ xs) (suc n) = ap (λ ys. x ∷ ys) (set-itself xs n)

module _ {X Y : Type 0} (f : X → Y) where
  abbrev pub seen : Numbered X → Numbered Y
  seen xs = map (option_map f) xs

  pub at_number-seen : (xs : Numbered X) (n : ℕ) → at_number (seen xs) n ≡ option_map f (at_number xs n)
  at_number-seen [] n = refl
  at_number-seen (x ∷ xs) zero = refl
  at_number-seen (x ∷ xs) (suc n) = at_number-seen xs n

  -- the value that is read, with None past the end
  pub at_number-seen_read : (xs : Numbered X) (n : ℕ) → at_number (seen xs) n ≡ option_map f (get_or xs n None)
  at_number-seen_read [] n = refl
  at_number-seen_read (x ∷ xs) zero = refl
  at_number-seen_read (x ∷ xs) (suc n) = at_number-seen_read xs n

  pub least_free-seen : (xs : Numbered X) → least_free (seen xs) ≡ least_free xs
  least_free-seen [] = refl
  least_free-seen (None ∷ xs) = refl
  least_free-seen (Some x ∷ xs) = ap suc (least_free-seen xs)

  pub seen-set_some : (xs : Numbered X) (n : ℕ) (x : X) → n < length xs → seen (set xs n (Some x)) ≡ with_number (seen xs) n (f x)
  seen-set_some xs n x below =
      let within : n < length (seen xs) = omega (arith, length-map xs (option_map f)) in
      map-set (option_map f) xs n (Some x) ∙ sym (with_number-set (seen xs) n (f x) within)

  pub seen-set_none : (xs : Numbered X) (n : ℕ) → seen (set xs n None) ≡ without_number (seen xs) n
  seen-set_none xs n = map-set (option_map f) xs n None ∙ sym (without_number-set (seen xs) n)

  -- past the end no value can be removed
  pub seen-past : (xs : Numbered X) (n : ℕ) → length xs ≤ n → seen xs ≡ without_number (seen xs) n
  seen-past [] n past = refl
  seen-past (o ∷ xs) zero past = absurd (omega arith)
  seen-past (o ∷ xs) (suc n) past = ap (λ ys. option_map f o ∷ ys) (seen-past xs n (omega arith))

  -- a search finds room if and only if the least free number is less than the length
  pub room_found : (xs : Numbered X) (size : ℕ) (found : Option ℕ) → length xs ≡ size
      → MatchOption found (least_free xs ≡ length xs) (λ k. (least_free xs ≡ k) × (k < length xs))
      → (is_some found ≡ true) ↔ (least_free (seen xs) < size)
  room_found xs size None long is = (λ none. cc, λ less. absurd (omega (arith, least_free-seen xs)))
  room_found xs size (Some k) long is = (λ _. omega (arith, least_free-seen xs, is.0, is.1), λ _. refl)

pub not_both : {X : Type 0} (o : Option X) → IsSome o → o ≡ None → ⊥
not_both None some none = cc
not_both (Some x) some none = cc

-- one element further in a list whose elements are all changed
mapped_further : {X : Type 0} (g : X → X) (xs : List X) (k : ℕ) (x d : X) → k < length xs → x ≡ get_or (map g (take k xs) ++ drop k xs) k d
    → set (map g (take k xs) ++ drop k xs) k (g x) ≡ map g (take (suc k) xs) ++ drop (suc k) xs
mapped_further g [] k x d within is = absurd (omega arith)
mapped_further g (y ∷ ys) zero x d within is = ap (λ z. g z ∷ ys) is
mapped_further g (y ∷ ys) (suc k) x d within is = ap (λ zs. g y ∷ zs) (mapped_further g ys k x d (omega arith) is)

seen_read : {X Y : Type 0} (f : X → Y) (xs : Numbered X) (k : ℕ) → option_map f (get_or xs k None) ≡ get_or (seen f xs) k None
seen_read f [] k = refl
seen_read f (x ∷ xs) zero = refl
seen_read f (x ∷ xs) (suc k) = seen_read f xs k

pub seen_further : {X Y : Type 0} (f : X → Y) (g : Option Y → Option Y) (all xs : Numbered X) (k : ℕ) (x : Option X) → k < length all
    → seen f xs ≡ map g (take k (seen f all)) ++ drop k (seen f all) → option_map f x ≡ g (option_map f (get_or xs k None))
    → seen f (set xs k x) ≡ map g (take (k + 1) (seen f all)) ++ drop (k + 1) (seen f all)
seen_further f g all xs k x within so_far is =
    let below : k < length (seen f all) = omega (arith, length-map all (option_map f)) in
    let read = seen_read f xs k ∙ ap (λ ys. get_or ys k None) so_far in
    map-set (option_map f) xs k x ∙ ap (set (seen f xs) k) is ∙ ap (λ ys. set ys k (g (option_map f (get_or xs k None)))) so_far
    ∙ mapped_further g (seen f all) k (option_map f (get_or xs k None)) None below read
    ∙ ap (λ n. map g (take n (seen f all)) ++ drop n (seen f all)) (sym (add-one k))
