-- Lists of blocks that are invalid, and the rest of a list that remains to be claimed.
use Rattle.std.proofs.Common.{◌≡◌, ℕ, List, [], ◌∷◌, ◌++◌, Bool, true, false, ap, sym, ◌∙◌, refl, arith}
use Rattle.std.proofs.lemmas.Bool.{or_parts, or_from, or_right, true_from_ne_false}
use Rattle.std.proofs.lemmas.Bool.Decides.{nat_tests}
use Rattle.std.proofs.lemmas.List.Folds.{list_any-append}
use Rattle.std.proofs.lemmas.List.Sorted.{IsPermutation-append_comm, list_any-IsPermutation}
use Rattle.std.proofs.lemmas.Map.Keys.{IsDistinct-IsPermutation}
use Rattle.std.specs.Prelude.{not, ◌||◌, ◌==◌}
use Rattle.std.specs.List.{list_any}
use Rattle.pv_laws_trees.proofs.Ranges.{apart-once, distinct-once, once-apart, once-distinct}
use Rattle.pv_model.specs.Machine.{appears_twice}
use Rattle.pv_image_mount.proofs.InodeBlocks.{or_none, same_tests}
use Rattle.pv_image_mount.specs.Claims.{are_refused_blocks, is_taken_by}

pub eq_flips : (a b : ℕ) → (a == b) ≡ (b == a)
eq_flips a b = grind (arith, nat_tests)

moved : (b a t : Bool) → (b || (a || t)) ≡ ((a || b) || t)
moved b a t = elim a as (λ a. (b || (a || t)) ≡ ((a || b) || t)) [ true ↦ or_right b true refl | false ↦ refl ]

-- two tests that fail for the same inputs are equal
same_false : (a b : Bool) → (a ≡ false → b ≡ false) → (b ≡ false → a ≡ false) → a ≡ b
same_false true true there back = refl
same_false true false there back = back refl
same_false false true there back = sym (there refl)
same_false false false there back = refl

-- numbers that pass neither of two tests
neither : (p q : ℕ → Bool) (xs : List ℕ) → list_any p xs ≡ false → list_any q xs ≡ false → list_any (λ k. p k || q k) xs ≡ false
neither p q [] left right = refl
neither p q (x ∷ xs) left right =
    let a = or_parts (p x) (list_any p xs) left in
    let b = or_parts (q x) (list_any q xs) right in
    or_from (p x || q x) (list_any (λ k. p k || q k) xs) (or_from (p x) (q x) a.0 b.0) (neither p q xs a.1 b.1)

neither-parts : (p q : ℕ → Bool) (xs : List ℕ) → list_any (λ k. p k || q k) xs ≡ false → (list_any p xs ≡ false) × (list_any q xs ≡ false)
neither-parts p q [] none = (refl, refl)
neither-parts p q (x ∷ xs) none =
    let parts = or_parts (p x || q x) (list_any (λ k. p k || q k) xs) none in
    let here = or_parts (p x) (q x) parts.0 in
    let rest = neither-parts p q xs parts.1 in
    (or_from (p x) (list_any p xs) here.0 rest.0, or_from (q x) (list_any q xs) here.1 rest.1)

once_flips : (xs ys : List ℕ) → appears_twice ◌==◌ (xs ++ ys) ≡ false → appears_twice ◌==◌ (ys ++ xs) ≡ false
once_flips xs ys once =
    distinct-once ◌==◌ (ys ++ xs) (IsDistinct-IsPermutation ◌==◌ eq_flips (xs ++ ys) (ys ++ xs) (IsPermutation-append_comm xs ys) (once-distinct ◌==◌ (xs ++ ys) once))

-- one more is taken
pub one_more : (now new : ℕ → Bool) (x : ℕ) → ((k : ℕ) → new k ≡ (k == x || now k)) → (k : ℕ) → new k ≡ is_taken_by now (x ∷ []) k
one_more now new x after k =
    after k ∙ ap (λ b. b || now k) (eq_flips k x ∙ sym (or_none (x == k)))

pub taken_flips : (taken : ℕ → Bool) (xs ys : List ℕ) (k : ℕ) → is_taken_by taken (xs ++ ys) k ≡ is_taken_by taken (ys ++ xs) k
taken_flips taken xs ys k = ap (λ b. b || taken k) (list_any-IsPermutation (λ other. other == k) (xs ++ ys) (ys ++ xs) (IsPermutation-append_comm xs ys))

module _ (may_be_used : ℕ → Bool) where
  abbrev may_not : ℕ → Bool
  may_not k = not (may_be_used k)

  -- each block of a list is valid, occurs once, and is not taken
  pub record AreFree (taken : ℕ → Bool) (blocks : List ℕ) : Type 0 where
    pub may_be : list_any may_not blocks ≡ false
    pub once : appears_twice ◌==◌ blocks ≡ false
    pub free : list_any taken blocks ≡ false

  pub free-parts : (taken : ℕ → Bool) (xs : List ℕ) → are_refused_blocks may_be_used taken xs ≡ false → AreFree taken xs
  unfolding are_refused_blocks
  free-parts taken xs fine =
      let front = or_parts (list_any may_not xs || appears_twice ◌==◌ xs) (list_any taken xs) fine in
      let parts = or_parts (list_any may_not xs) (appears_twice ◌==◌ xs) front.0 in
      record { may_be = parts.0; once = parts.1; free = front.1 }

  free-all : (taken : ℕ → Bool) (xs : List ℕ) → AreFree taken xs → are_refused_blocks may_be_used taken xs ≡ false
  unfolding are_refused_blocks
  free-all taken xs are =
      or_from (list_any may_not xs || appears_twice ◌==◌ xs) (list_any taken xs) (or_from (list_any may_not xs) (appears_twice ◌==◌ xs) are.may_be are.once) are.free

  -- a prefix of a list, and the rest
  free-front : (taken : ℕ → Bool) (xs ys : List ℕ) → AreFree taken (xs ++ ys) → AreFree taken xs × AreFree (is_taken_by taken xs) ys
  free-front taken xs ys are =
      let may = or_parts (list_any may_not xs) (list_any may_not ys) (sym (list_any-append may_not xs ys) ∙ are.may_be) in
      let apart = once-apart xs ys are.once in
      let free = or_parts (list_any taken xs) (list_any taken ys) (sym (list_any-append taken xs ys) ∙ are.free) in (
        record { may_be = may.0; once = apart.0; free = free.0 },
        record { may_be = may.1; once = apart.1; free = neither (λ k. list_any (λ other. other == k) xs) taken ys apart.2 free.1 },
      )

  free-append : (taken : ℕ → Bool) (xs ys : List ℕ) → AreFree taken xs → AreFree (is_taken_by taken xs) ys → AreFree taken (xs ++ ys)
  free-append taken xs ys front following =
      let parts = neither-parts (λ k. list_any (λ other. other == k) xs) taken ys following.free in
      record {
        may_be = list_any-append may_not xs ys ∙ or_from (list_any may_not xs) (list_any may_not ys) front.may_be following.may_be;
        once = apart-once xs ys front.once following.once parts.0;
        free = list_any-append taken xs ys ∙ or_from (list_any taken xs) (list_any taken ys) front.free parts.1;
      }

  -- after a valid prefix, the rest decides
  refused_after : (taken : ℕ → Bool) (xs ys : List ℕ) → are_refused_blocks may_be_used taken xs ≡ false
      → are_refused_blocks may_be_used (is_taken_by taken xs) ys ≡ are_refused_blocks may_be_used taken (xs ++ ys)
  refused_after taken xs ys fine =
      let front = free-parts taken xs fine in
      same_false (are_refused_blocks may_be_used (is_taken_by taken xs) ys) (are_refused_blocks may_be_used taken (xs ++ ys))
      (λ following. free-all taken (xs ++ ys) (free-append taken xs ys front (free-parts (is_taken_by taken xs) ys following)))
      (λ all. free-all (is_taken_by taken xs) ys (free-front taken xs ys (free-parts taken (xs ++ ys) all)).1)

  -- an invalid prefix decides
  refused_front : (taken : ℕ → Bool) (xs ys : List ℕ) → are_refused_blocks may_be_used taken xs ≡ true → are_refused_blocks may_be_used taken (xs ++ ys) ≡ true
  refused_front taken xs ys is =
      true_from_ne_false (are_refused_blocks may_be_used taken (xs ++ ys)) (λ all.
      let fine = free-all taken xs (free-front taken xs ys (free-parts taken (xs ++ ys) all)).0 in
      cc)

  same_refused : (taken other : ℕ → Bool) → ((k : ℕ) → taken k ≡ other k) → (xs : List ℕ) → are_refused_blocks may_be_used taken xs ≡ are_refused_blocks may_be_used other xs
  unfolding are_refused_blocks
  same_refused taken other same xs = ap (λ b. list_any may_not xs || appears_twice ◌==◌ xs || b) (same_tests taken other same xs)

  pub refused_flips : (taken : ℕ → Bool) (xs ys : List ℕ) → are_refused_blocks may_be_used taken (xs ++ ys) ≡ are_refused_blocks may_be_used taken (ys ++ xs)
  refused_flips taken xs ys =
      same_false (are_refused_blocks may_be_used taken (xs ++ ys)) (are_refused_blocks may_be_used taken (ys ++ xs)) (flipped xs ys) (flipped ys xs) where
        flipped : (xs ys : List ℕ) → are_refused_blocks may_be_used taken (xs ++ ys) ≡ false → are_refused_blocks may_be_used taken (ys ++ xs) ≡ false
        flipped xs ys fine =
            let are = free-parts taken (xs ++ ys) fine in
            let moves = IsPermutation-append_comm ys xs in
            free-all taken (ys ++ xs) (record {
              may_be = list_any-IsPermutation may_not (ys ++ xs) (xs ++ ys) moves ∙ are.may_be;
              once = once_flips xs ys are.once;
              free = list_any-IsPermutation taken (ys ++ xs) (xs ++ ys) moves ∙ are.free;
            })

  pub none_refused : (taken : ℕ → Bool) → are_refused_blocks may_be_used taken [] ≡ false
  unfolding are_refused_blocks
  none_refused taken = refl

  -- ---- one by one

  pub one_claimed : (taken : ℕ → Bool) (x : ℕ) → may_be_used x ≡ true → taken x ≡ false → are_refused_blocks may_be_used taken (x ∷ []) ≡ false
  one_claimed taken x may new = free-all taken (x ∷ []) (record { may_be = or_from (may_not x) false (ap not may) refl; once = refl; free = or_from (taken x) false new refl })

  pub one_unusable : (taken : ℕ → Bool) (x : ℕ) → may_be_used x ≡ false → are_refused_blocks may_be_used taken (x ∷ []) ≡ true
  one_unusable taken x never =
      true_from_ne_false (are_refused_blocks may_be_used taken (x ∷ [])) (λ fine. let is = (or_parts (may_not x) false (free-parts taken (x ∷ []) fine).may_be).0 in let not = ap not never in cc)

  pub one_taken : (taken : ℕ → Bool) (x : ℕ) → taken x ≡ true → are_refused_blocks may_be_used taken (x ∷ []) ≡ true
  one_taken taken x is = true_from_ne_false (are_refused_blocks may_be_used taken (x ∷ [])) (λ fine. let new = (or_parts (taken x) false (free-parts taken (x ∷ []) fine).free).0 in cc)

  module _ (first : ℕ → Bool) (blocks : List ℕ) where
    -- the rest of the blocks with the set now decides as all blocks with the initial set do
    pub record IsLeft (now : ℕ → Bool) (left : List ℕ) : Type 0 where
      pub refused : are_refused_blocks may_be_used now left ≡ are_refused_blocks may_be_used first blocks
      pub taken : (k : ℕ) → is_taken_by now left k ≡ is_taken_by first blocks k

    pub all_left : IsLeft first blocks
    all_left = record { refused = refl; taken = λ k. refl }

    pub left_less : (now new : ℕ → Bool) (left xs ys : List ℕ) → left ≡ xs ++ ys → IsLeft now left → are_refused_blocks may_be_used now xs ≡ false → ((k : ℕ) → new k ≡ is_taken_by now xs k)
        → IsLeft new ys
    left_less now new left xs ys split before fine more = record {
      refused = same_refused new (is_taken_by now xs) more ys ∙ refused_after now xs ys fine ∙ ap (are_refused_blocks may_be_used now) (sym split) ∙ before.refused;
      taken = λ k.
          let among = λ (l : List ℕ). list_any (λ other. other == k) l in
          ap (λ b. among ys || b) (more k) ∙ moved (among ys) (among xs) (now k) ∙ ap (λ b. b || now k) (sym (list_any-append (λ other. other == k) xs ys))
          ∙ ap (λ l. is_taken_by now l k) (sym split) ∙ before.taken k;
    }

    pub left_refused : (now : ℕ → Bool) (left xs ys : List ℕ) → left ≡ xs ++ ys → IsLeft now left → are_refused_blocks may_be_used now xs ≡ true → are_refused_blocks may_be_used first blocks ≡ true
    left_refused now left xs ys split before is = sym before.refused ∙ ap (are_refused_blocks may_be_used now) split ∙ refused_front now xs ys is

    pub none_left : (now : ℕ → Bool) (left : List ℕ) → left ≡ [] → IsLeft now left → are_refused_blocks may_be_used first blocks ≡ false
    none_left now left none before = sym before.refused ∙ ap (are_refused_blocks may_be_used now) none ∙ none_refused now

    pub none_left-taken : (now : ℕ → Bool) (left : List ℕ) → left ≡ [] → IsLeft now left → (k : ℕ) → now k ≡ is_taken_by first blocks k
    none_left-taken now left none before k = sym (ap (λ l. is_taken_by now l k) none) ∙ before.taken k

    -- two prefixes that are claimed in sequence
    pub two_less : (middle new : ℕ → Bool) (xs ys zs : List ℕ) → blocks ≡ xs ++ (ys ++ zs) → are_refused_blocks may_be_used first xs ≡ false → ((k : ℕ) → middle k ≡ is_taken_by first xs k)
        → are_refused_blocks may_be_used middle ys ≡ false → ((k : ℕ) → new k ≡ is_taken_by middle ys k) → IsLeft new zs
    two_less middle new xs ys zs split fine more fine_too more_too =
        left_less middle new (ys ++ zs) ys zs refl (left_less first middle blocks xs (ys ++ zs) split all_left fine more) fine_too more_too
