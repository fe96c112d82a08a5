-- Maps from numbers.
use Rattle.std.proofs.Common.{◌≡◌, ◌≢◌, ℕ, zero, suc, ◌+◌, ◌<◌, ◌≤◌, Bool, true, false, ◌&&◌, [], ◌∷◌, length, Option, None, Some, is_some, refl, ap, ap₂, sym, ◌∙◌, arith, suc-le-suc, le_of_suc-le-suc, zero-le, drop}
use Rattle.pv_model.specs.Machine.{Numbered, at_number, with_number, without_number, least_free, keep_if, keep, present}
use Rattle.pv_model.specs.Numbered.{keep_from}

module _ {X : Type 0} where
  -- a number with a value is below the length
  pub at_number-below : (xs : Numbered X) (n : ℕ) (x : X) → at_number xs n ≡ Some x → n < length xs
  at_number-below [] n x is = cc
  at_number-below (o ∷ xs) zero x is = suc-le-suc zero-le
  at_number-below (o ∷ xs) (suc n) x is = suc-le-suc (at_number-below xs n x is)

  -- maps of equal length that agree at each number are equal
  pub same_numbered : (xs ys : Numbered X) → length xs ≡ length ys → ((n : ℕ) → at_number xs n ≡ at_number ys n) → xs ≡ ys
  same_numbered [] [] long same = refl
  same_numbered [] (y ∷ ys) long same = absurd (omega arith)
  same_numbered (x ∷ xs) [] long same = absurd (omega arith)
  same_numbered (x ∷ xs) (y ∷ ys) long same =
      ap₂ (λ o (os : Numbered X). o ∷ os) (same zero) (same_numbered xs ys (omega arith) (λ n. same (suc n)))

  -- a value is replaced

  pub length-with_number : (xs : Numbered X) (n : ℕ) (v : X) → n < length xs → length (with_number xs n v) ≡ length xs
  length-with_number [] n v below = absurd (omega arith)
  length-with_number (x ∷ xs) zero v below = refl
  length-with_number (x ∷ xs) (suc n) v below = ap suc (length-with_number xs n v (le_of_suc-le-suc below))

  pub with_number-same_within : (xs : Numbered X) (n : ℕ) (v : X) → n ≤ length xs → at_number (with_number xs n v) n ≡ Some v
  with_number-same_within [] zero v within = refl
  with_number-same_within [] (suc n) v within = absurd (omega arith)
  with_number-same_within (x ∷ xs) zero v within = refl
  with_number-same_within (x ∷ xs) (suc n) v within = with_number-same_within xs n v (le_of_suc-le-suc within)

  pub with_number-other_within : (xs : Numbered X) (n : ℕ) (v : X) (m : ℕ) → n ≤ length xs → m ≢ n → at_number (with_number xs n v) m ≡ at_number xs m
  with_number-other_within [] zero v zero within other = absurd (other refl)
  with_number-other_within [] zero v (suc m) within other = refl
  with_number-other_within [] (suc n) v m within other = absurd (omega arith)
  with_number-other_within (x ∷ xs) zero v zero within other = absurd (other refl)
  with_number-other_within (x ∷ xs) zero v (suc m) within other = refl
  with_number-other_within (x ∷ xs) (suc n) v zero within other = refl
  with_number-other_within (x ∷ xs) (suc n) v (suc m) within other = with_number-other_within xs n v m (le_of_suc-le-suc within) (λ same. other (ap suc same))

  pub with_number-same : (xs : Numbered X) (n : ℕ) (v : X) → n < length xs → at_number (with_number xs n v) n ≡ Some v
  with_number-same xs n v below = with_number-same_within xs n v (omega arith)

  pub with_number-other : (xs : Numbered X) (n : ℕ) (v : X) (m : ℕ) → n < length xs → m ≢ n → at_number (with_number xs n v) m ≡ at_number xs m
  with_number-other xs n v m below other = with_number-other_within xs n v m (omega arith) other

  pub length-without_number : (xs : Numbered X) (n : ℕ) → length (without_number xs n) ≡ length xs
  length-without_number [] n = refl
  length-without_number (x ∷ xs) zero = refl
  length-without_number (x ∷ xs) (suc n) = ap suc (length-without_number xs n)

  pub without_number-same : (xs : Numbered X) (n : ℕ) → at_number (without_number xs n) n ≡ None
  without_number-same [] n = refl
  without_number-same (x ∷ xs) zero = refl
  without_number-same (x ∷ xs) (suc n) = without_number-same xs n

  pub without_number-other : (xs : Numbered X) (n m : ℕ) → m ≢ n → at_number (without_number xs n) m ≡ at_number xs m
  without_number-other [] n m other = refl
  without_number-other (x ∷ xs) zero zero other = absurd (other refl)
  without_number-other (x ∷ xs) zero (suc m) other = refl
  without_number-other (x ∷ xs) (suc n) zero other = refl
  without_number-other (x ∷ xs) (suc n) (suc m) other = without_number-other xs n m (λ same. other (ap suc same))

  -- the least free number is free

  pub least_free-free : (xs : Numbered X) → at_number xs (least_free xs) ≡ None
  least_free-free [] = refl
  least_free-free (None ∷ xs) = refl
  least_free-free (Some x ∷ xs) = least_free-free xs

  pub least_free-within : (xs : Numbered X) → least_free xs ≤ length xs
  least_free-within [] = zero-le
  least_free-within (None ∷ xs) = zero-le
  least_free-within (Some x ∷ xs) = suc-le-suc (least_free-within xs)

  -- ---- the values that are kept

  keep_if_passes : (b : Bool) (o : Option X) → ((x : X) → o ≡ Some x → b ≡ true) → keep_if b o ≡ o
  keep_if_passes true o passes = refl
  keep_if_passes false None passes = refl
  keep_if_passes false (Some x) passes = cc (passes x refl)

  keep_if-none : (b : Bool) → keep_if {X = X} b None ≡ None
  keep_if-none true = refl
  keep_if-none false = refl

  keep_if-both : (a b : Bool) (o : Option X) → keep_if a (keep_if b o) ≡ keep_if (a && b) o
  keep_if-both true b o = refl
  keep_if-both false b o = refl

  -- a kept value was present and passes
  pub keep_if-some : (b : Bool) (o : Option X) (x : X) → keep_if b o ≡ Some x → (b ≡ true) × (o ≡ Some x)
  keep_if-some true o x is = (refl, is)
  keep_if-some false o x is = cc

  pub length-keep_from : (k : ℕ) (test : ℕ → Bool) (xs : Numbered X) → length (keep_from k test xs) ≡ length xs
  length-keep_from k test [] = refl
  length-keep_from k test (x ∷ xs) = ap suc (length-keep_from (suc k) test xs)

  pub length-keep : (test : ℕ → Bool) (xs : Numbered X) → length (keep test xs) ≡ length xs
  length-keep test xs = length-keep_from 0 test xs

  at_number-keep_from : (k : ℕ) (test : ℕ → Bool) (xs : Numbered X) (n m : ℕ) → m ≡ k + n
      → at_number (keep_from k test xs) n ≡ keep_if (test m) (at_number xs n)
  at_number-keep_from k test [] n m at = sym (keep_if-none (test m))
  at_number-keep_from k test (x ∷ xs) zero m at = let same : k ≡ m = omega arith in ap (λ j. keep_if (test j) x) same
  at_number-keep_from k test (x ∷ xs) (suc n) m at = at_number-keep_from (suc k) test xs n m (omega arith)

  -- a number that passes keeps its value, and another loses it
  pub at_number-keep : (test : ℕ → Bool) (xs : Numbered X) (n : ℕ) → at_number (keep test xs) n ≡ keep_if (test n) (at_number xs n)
  at_number-keep test xs n = at_number-keep_from 0 test xs n n (omega arith)

  -- a kept value is present, and its number passes
  pub keep-some : (test : ℕ → Bool) (xs : Numbered X) (n : ℕ) (x : X) → at_number (keep test xs) n ≡ Some x → (test n ≡ true) × (at_number xs n ≡ Some x)
  keep-some test xs n x is = keep_if-some (test n) (at_number xs n) x (sym (at_number-keep test xs n) ∙ is)

  pub keep-passes : (test : ℕ → Bool) (xs : Numbered X) (n : ℕ) → test n ≡ true → at_number (keep test xs) n ≡ at_number xs n
  keep-passes test xs n passes = at_number-keep test xs n ∙ ap (λ b. keep_if b (at_number xs n)) passes

  pub keep-fails : (test : ℕ → Bool) (xs : Numbered X) (n : ℕ) → test n ≡ false → at_number (keep test xs) n ≡ None
  keep-fails test xs n fails = at_number-keep test xs n ∙ ap (λ b. keep_if b (at_number xs n)) fails

  -- if all numbers with values pass, the map is unchanged
  pub keep-all : (test : ℕ → Bool) (xs : Numbered X) → ((n : ℕ) (x : X) → at_number xs n ≡ Some x → test n ≡ true) → keep test xs ≡ xs
  keep-all test xs passes =
      same_numbered (keep test xs) xs (length-keep test xs) (λ n. at_number-keep test xs n ∙ keep_if_passes (test n) (at_number xs n) (passes n))

  -- keeping by two tests is keeping by both
  pub keep-keep : (first second : ℕ → Bool) (xs : Numbered X) → keep second (keep first xs) ≡ keep (λ n. second n && first n) xs
  keep-keep first second xs =
      same_numbered (keep second (keep first xs)) (keep (λ n. second n && first n) xs)
      (length-keep second (keep first xs) ∙ length-keep first xs ∙ sym (length-keep (λ n. second n && first n) xs))
      (λ n. at_number-keep second (keep first xs) n ∙ ap (keep_if (second n)) (at_number-keep first xs n)
      ∙ keep_if-both (second n) (first n) (at_number xs n) ∙ sym (at_number-keep (λ m. second m && first m) xs n))

  -- tests that agree keep the same values
  pub keep-agree : (f g : ℕ → Bool) (xs : Numbered X) → ((n : ℕ) → f n ≡ g n) → keep f xs ≡ keep g xs
  keep-agree f g xs same =
      same_numbered (keep f xs) (keep g xs) (length-keep f xs ∙ sym (length-keep g xs))
      (λ n. at_number-keep f xs n ∙ ap (λ b. keep_if b (at_number xs n)) (same n) ∙ sym (at_number-keep g xs n))

  -- ---- the number of values

  pub present-within : (xs : Numbered X) → length (present xs) ≤ length xs
  present-within [] = zero-le
  present-within (None ∷ xs) = omega (arith, present-within xs)
  present-within (Some x ∷ xs) = omega (arith, present-within xs)

  pub least_free-below : (xs : Numbered X) (n : ℕ) → n < least_free xs → is_some (at_number xs n) ≡ true
  least_free-below [] n below = absurd (omega arith)
  least_free-below (None ∷ xs) n below = absurd (omega arith)
  least_free-below (Some x ∷ xs) zero below = refl
  least_free-below (Some x ∷ xs) (suc n) below = least_free-below xs n (le_of_suc-le-suc below)

  pub present-all : (xs : Numbered X) (k : ℕ) → ((n : ℕ) → n < k → is_some (at_number xs n) ≡ true) → k ≤ length (present xs)
  present-all xs zero all = zero-le
  present-all [] (suc k) all = let none = all zero (suc-le-suc zero-le) in cc
  present-all (None ∷ xs) (suc k) all = let none = all zero (suc-le-suc zero-le) in cc
  present-all (Some x ∷ xs) (suc k) all = suc-le-suc (present-all xs k (λ n below. all (suc n) (suc-le-suc below)))

  pub at_number-drop : (xs : Numbered X) (k : ℕ) → at_number xs (suc k) ≡ at_number (drop 1 xs) k
  at_number-drop [] k = refl
  at_number-drop (x ∷ xs) k = refl

  pub present-drop : (xs : Numbered X) → length (present (drop 1 xs)) ≤ length (present xs)
  present-drop [] = zero-le
  present-drop (None ∷ xs) = omega arith
  present-drop (Some x ∷ xs) = omega arith

  pub length-drop_one : (xs : Numbered X) (n : ℕ) → length xs ≡ suc n → length (drop 1 xs) ≡ n
  length-drop_one [] n long = absurd (omega arith)
  length-drop_one (x ∷ xs) n long = omega arith
