-- The inodes that are reachable from the root.
use Rattle.std.proofs.Common.{◌≡◌, ℕ, zero, suc, ◌+◌, ◌-◌, ◌≤◌, ◌<◌, List, [], ◌∷◌, length, get_or, Bool, true, false, cond, inl, inr, ap, sym, subst, ◌∙◌, refl, arith, ltb-true, ltb-false}
use Rattle.std.proofs.lemmas.Bool.{eqb-true, or_cases, or_left, or_right}
use Rattle.std.proofs.lemmas.List.FromFn.{get_or-range_with_len, length-range_with_len}
use Rattle.std.proofs.lemmas.Map.Steps.{length-le_from_distinct_below}
use Rattle.std.specs.Prelude.{◌==◌, filter, nat_lt}
use Rattle.std.specs.List.{list_any}
use Rattle.std.specs.Cmp.{both_ways}
use Rattle.pv_blocks.specs.declared.block_set.BlockSet.{BlockSet}
use Rattle.pv_blocks.specs.BlockSet.{is_member}
use Rattle.pv_model.specs.declared.version.Version.{Version}
use Rattle.pv_model.specs.Machine.{Bytes, has_bad_content, inode_number, is_reached_within, PassesNone, root}
use Rattle.pv_model.specs.Mount.{has_slot_for, inode_numbers}
use Rattle.pv_image_mount.proofs.InodeBlocks.{same_tests}
use Rattle.pv_image_mount.proofs.NumberUnions.{among_at, at_among, joined_each, joined_front, joined_has, joined_keeps, joined_longer}
use Rattle.pv_image_mount.proofs.InvalidBlocks.{eq_flips}
use Rattle.pv_image_mount.proofs.SlotTargets.{slot_for-among, target_number}
use Rattle.pv_image_mount.specs.Numbers.{IsInodeNumber}
use Rattle.pv_image_mount.specs.Places.{is_among, joined_numbers, targets_of, HasEach}

-- ---- lists

any_of : (p q : ℕ → Bool) (xs : List ℕ) (i : ℕ) → i < length xs → q (get_or xs i 0) ≡ true → p (get_or xs i 0) ≡ true → list_any p (filter q xs) ≡ true
any_of p q [] i within preserved is = absurd (omega arith)
any_of p q (x ∷ xs) zero within preserved is = ap (λ b. list_any p (cond b (x ∷ filter q xs) (filter q xs))) preserved ∙ or_left (p x) (list_any p (filter q xs)) is
any_of p q (x ∷ xs) (suc i) within preserved is =
    let rest = any_of p q xs i (omega arith) preserved is in
    elim (q x) as (λ b. list_any p (cond b (x ∷ filter q xs) (filter q xs)) ≡ true) [
      | true ↦ or_right (p x) (list_any p (filter q xs)) rest
      | false ↦ rest
    ]

record IsOneOf (p q : ℕ → Bool) : Type 0 where
  one : ℕ
  preserved : q one ≡ true
  is : p one ≡ true

one_of : (p q : ℕ → Bool) (xs : List ℕ) → list_any p (filter q xs) ≡ true → IsOneOf p q
one_of p q [] is = absurd cc
one_of p q (x ∷ xs) is =
    elim (q x) as (λ b. q x ≡ b → list_any p (cond b (x ∷ filter q xs) (filter q xs)) ≡ true → IsOneOf p q) [
      | true ↦ λ preserved some.
          elim (or_cases (p x) (list_any p (filter q xs)) some) [
            | inl here ↦ record { one = x; preserved = preserved; is = here }
            | inr following ↦ one_of p q xs following
          ]
      | false ↦ λ dropped some. one_of p q xs some
    ] refl is

any_more : (p q : ℕ → Bool) → ((k : ℕ) → p k ≡ true → q k ≡ true) → (xs : List ℕ) → list_any p xs ≡ true → list_any q xs ≡ true
any_more p q more [] is = absurd cc
any_more p q more (x ∷ xs) is =
    elim (or_cases (p x) (list_any p xs) is) [
      | inl here ↦ or_left (q x) (list_any q xs) (more x here)
      | inr following ↦ or_right (q x) (list_any q xs) (any_more p q more xs following)
    ]

module _ (v : Version) (bytes : Bytes) where
  -- ---- steps

  later : (steps more n : ℕ) → steps ≤ more → is_reached_within v bytes steps n ≡ true → is_reached_within v bytes more n ≡ true
  later zero zero n low is = is
  later zero (suc more) n low is = or_left (n == root) (list_any (is_reached_within v bytes more) (filter (has_slot_for v bytes n) (inode_numbers bytes))) is
  later (suc steps) zero n low is = absurd (omega arith)
  later (suc steps) (suc more) n low is =
      let parents = filter (has_slot_for v bytes n) (inode_numbers bytes) in
      elim (or_cases (n == root) (list_any (is_reached_within v bytes steps) parents) is) [
        | inl here ↦ or_left (n == root) (list_any (is_reached_within v bytes more) parents) here
        | inr following ↦ or_right (n == root) (list_any (is_reached_within v bytes more) parents)
            (any_more (is_reached_within v bytes steps) (is_reached_within v bytes more) (λ k. later steps more k (omega arith)) parents following)
      ]

  one_step : (steps d n : ℕ) → IsInodeNumber bytes d → has_slot_for v bytes n d ≡ true → is_reached_within v bytes steps d ≡ true → is_reached_within v bytes (suc steps) n ≡ true
  one_step steps d n number slot is =
      let numbers = inode_numbers bytes in
      let low = number.0 in
      let high = number.1 in
      let inner : d - 1 < inode_number bytes = omega (arith, low, high) in
      let within : d - 1 < length numbers = subst (λ m. d - 1 < m) (sym (length-range_with_len 1 (inode_number bytes))) inner in
      let plus : 1 + (d - 1) ≡ d = omega (arith, low) in
      let there : get_or numbers (d - 1) 0 ≡ d = get_or-range_with_len 1 (inode_number bytes) (d - 1) 0 inner ∙ plus in
      or_right (n == root) (list_any (is_reached_within v bytes steps) (filter (has_slot_for v bytes n) numbers))
      (any_of (is_reached_within v bytes steps) (has_slot_for v bytes n) numbers (d - 1) within (ap (has_slot_for v bytes n) there ∙ slot) (ap (is_reached_within v bytes steps) there ∙ is))

  -- ---- the search

  -- a number is reachable in n steps
  abbrev IsReachedIn : ℕ → ℕ → Type 0
  IsReachedIn steps n = (is_reached_within v bytes steps n ≡ true) × IsInodeNumber bytes n

  -- the visited numbers in order, and how many of them are expanded
  pub record IsVisited (seen : BlockSet) (order : List ℕ) (at : ℕ) : Type 0 where
    pub each : HasEach seen order
    pub begun : is_among order root ≡ true
    pub reached : (i : ℕ) → i < length order → (is_reached_within v bytes i (get_or order i 0) ≡ true) × IsInodeNumber bytes (get_or order i 0)
    pub closed : (i : ℕ) → i < at → (m : ℕ) → m < length (targets_of v bytes (get_or order i 0)) → is_among order (get_or (targets_of v bytes (get_or order i 0)) m 0) ≡ true
    pub within : at ≤ length order

  pub visit_begins : (seen : BlockSet) (order : List ℕ) → 1 ≤ inode_number bytes → order ≡ root ∷ [] → HasEach seen (root ∷ []) → IsVisited seen order 0
  visit_begins seen order some is has =
      subst (λ l. IsVisited seen l 0) (sym is)
      (record {
        each = has;
        begun = refl;
        reached = λ i within. let first : 0 ≡ i = omega arith in subst (λ j. IsReachedIn j (get_or (root ∷ []) j 0)) first (refl, (omega arith, some));
        closed = λ i less. absurd (omega arith);
        within = omega arith;
      })

  pub visit_more : (seen new : BlockSet) (order : List ℕ) (at : ℕ) → PassesNone bytes (has_bad_content v bytes) → IsVisited seen order at → at < length order
      → HasEach new (joined_numbers order (targets_of v bytes (get_or order at 0))) → IsVisited new (joined_numbers order (targets_of v bytes (get_or order at 0))) (at + 1)
  visit_more seen new order at fine visited less has =
      let d = get_or order at 0 in
      let targets = targets_of v bytes d in
      let here = visited.reached at less in
      let longer = joined_longer order targets in
      record {
        each = has;
        begun = joined_keeps order targets root visited.begun;
        reached = joined_each IsReachedIn (at + 1) order targets (omega (arith, less)) visited.reached
            (λ m inner i high.
            let t = get_or targets m 0 in
            let number = target_number v bytes d (fine d here.1.0 here.1.1) m inner in
            let slot : has_slot_for v bytes t d ≡ true = slot_for-among v bytes t d ∙ at_among targets m inner in
            let plus : suc (i - 1) ≡ i = omega (arith, high) in
            let known = later at (i - 1) d (omega (arith, high)) here.0 in
            (subst (λ s. is_reached_within v bytes s t ≡ true) plus (one_step (i - 1) d t here.1 slot known), number));
        closed = λ i low m inner.
            elim (nat_lt i at) as (λ b. nat_lt i at ≡ b → is_among (joined_numbers order targets) (get_or (targets_of v bytes (get_or (joined_numbers order targets) i 0)) m 0) ≡ true) [
              | true ↦ λ yes.
                  let before : i < at = ltb-true i at yes in
                  let same : get_or (joined_numbers order targets) i 0 ≡ get_or order i 0 = joined_front order targets i (omega (arith, before, less)) in
                  let inside : m < length (targets_of v bytes (get_or order i 0)) = subst (λ n. m < length (targets_of v bytes n)) same inner in
                  subst (λ n. is_among (joined_numbers order targets) (get_or (targets_of v bytes n) m 0) ≡ true) (sym same)
                  (joined_keeps order targets (get_or (targets_of v bytes (get_or order i 0)) m 0) (visited.closed i before m inside))
              | false ↦ λ past.
                  let last : i ≡ at = (let following : at ≤ i = ltb-false i at past in omega (arith, following, low)) in
                  let same : get_or (joined_numbers order targets) i 0 ≡ d = joined_front order targets i (omega (arith, last, less)) ∙ ap (λ j. get_or order j 0) last in
                  let inside : m < length targets = subst (λ n. m < length (targets_of v bytes n)) same inner in
                  subst (λ n. is_among (joined_numbers order targets) (get_or (targets_of v bytes n) m 0) ≡ true) (sym same) (joined_has order targets m inside)
            ] refl;
        within = omega (arith, longer, less);
      }

  -- no more are visited than there are inodes
  pub few_visited : (seen : BlockSet) (order : List ℕ) (at : ℕ) → IsVisited seen order at → length order ≤ inode_number bytes + 1
  few_visited seen order at visited =
      length-le_from_distinct_below order (inode_number bytes + 1) visited.each.once
      (λ q is.
      let among : is_among order q ≡ true = sym (same_tests (λ y. q == y) (λ y. y == q) (eq_flips q) order) ∙ is in
      let appears = among_at order q among in
      let most = (visited.reached appears.at appears.within).1.1 in
      let same = appears.is in
      omega (arith, most, same))

  all_found : (seen : BlockSet) (order : List ℕ) (at : ℕ) → IsVisited seen order at → length order ≤ at → (steps n : ℕ) → is_reached_within v bytes steps n ≡ true → is_among order n ≡ true
  all_found seen order at visited all zero n is = subst (λ m. is_among order m ≡ true) (sym (eqb-true n root is)) visited.begun
  all_found seen order at visited all (suc steps) n is =
      let parents = filter (has_slot_for v bytes n) (inode_numbers bytes) in
      elim (or_cases (n == root) (list_any (is_reached_within v bytes steps) parents) is) [
        | inl here ↦ subst (λ m. is_among order m ≡ true) (sym (eqb-true n root here)) visited.begun
        | inr following ↦
            let parent = one_of (is_reached_within v bytes steps) (has_slot_for v bytes n) (inode_numbers bytes) following in
            let d = parent.one in
            let appears = among_at order d (all_found seen order at visited all steps d parent.is) in
            let inside = appears.within in
            let slot : is_among (targets_of v bytes (get_or order appears.at 0)) n ≡ true = ap (λ m. is_among (targets_of v bytes m) n) appears.is ∙ sym (slot_for-among v bytes n d) ∙ parent.preserved in
            let target = among_at (targets_of v bytes (get_or order appears.at 0)) n slot in
            subst (λ m. is_among order m ≡ true) target.is (visited.closed appears.at (omega (arith, inside, all)) target.at target.within)
      ]

  -- if all are expanded, they are the reachable ones
  pub visited_all : (seen : BlockSet) (order : List ℕ) (at : ℕ) → IsVisited seen order at → length order ≤ at → (k : ℕ) → is_member seen k ≡ is_reached_within v bytes (inode_number bytes) k
  visited_all seen order at visited all k =
      visited.each.members k
      ∙ both_ways (is_among order k) (is_reached_within v bytes (inode_number bytes) k)
      (λ is.
      let appears = among_at order k is in
      let inside = appears.within in
      let few = few_visited seen order at visited in
      let known = (visited.reached appears.at inside).0 in
      later appears.at (inode_number bytes) k (omega (arith, inside, few)) (subst (λ n. is_reached_within v bytes appears.at n ≡ true) appears.is known))
      (all_found seen order at visited all (inode_number bytes) k)
