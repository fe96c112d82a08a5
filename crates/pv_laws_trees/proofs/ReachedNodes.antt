-- A node that is reached from the root is reached in at most n steps, if there are n inodes.
use Rattle.std.proofs.Common.{◌≡◌, ℕ, zero, suc, ◌+◌, ◌<◌, ◌≤◌, Bool, true, false, not, ◌&&◌, ◌==◌, cond, List, [], ◌∷◌, filter, length, ap, sym, ◌∙◌, refl, arith, ⊎_elim, ◌⊎◌, inl, inr, true≢false}
use Rattle.std.specs.List.{list_any, range_with_len}
use Rattle.std.proofs.lemmas.Bool.{and_parts, and_from, or_cases, or_left, or_right, cases_Bool}
use Rattle.std.proofs.lemmas.List.FromFn.{length-range_with_len}
use Rattle.pv_model.specs.declared.version.Version.{Version}
use Rattle.pv_model.specs.Machine.{Bytes, inode_number, is_reached_within, tree_in, root, IsReached, from_root, by_entry}
use Rattle.pv_model.specs.Mount.{has_slot_for}
use Rattle.pv_laws_trees.specs.Inodes.{EachOnce, HasInodes}
use Rattle.pv_laws_trees.proofs.InodeNames.{steps_to, further, entry-within, entry-slot}
use Rattle.pv_laws_trees.proofs.Ranges.{any_in_range, range_any}
use Rattle.pv_laws_trees.proofs.ListTests.{filter-fewer}

-- ---- the number of elements that pass

no_fewer : {X : Type 0} (p q : X → Bool) → ((x : X) → p x ≡ true → q x ≡ true) → (xs : List X) → length (filter p xs) ≤ length (filter q xs)
no_fewer p q more [] = omega arith
no_fewer p q more (x ∷ xs) =
    let rest = no_fewer p q more xs in
    elim (p x) as (λ b. p x ≡ b → length (cond b (x ∷ filter p xs) (filter p xs)) ≤ length (filter q (x ∷ xs))) [
      | true ↦ λ is. let both : length (filter q (x ∷ xs)) ≡ suc (length (filter q xs)) = ap (λ b. length (cond b (x ∷ filter q xs) (filter q xs))) (more x is) in omega (arith, rest, both)
      | false ↦ λ is.
          elim (q x) as (λ b. length (filter p xs) ≤ length (cond b (x ∷ filter q xs) (filter q xs))) [ true ↦ omega (arith, rest) | false ↦ rest ]
    ] refl

-- an element that passes only the second test
one_more : {X : Type 0} (p q : X → Bool) → ((x : X) → p x ≡ true → q x ≡ true) → (xs : List X) → list_any (λ x. q x && not (p x)) xs ≡ true → suc (length (filter p xs)) ≤ length (filter q xs)
one_more p q more [] some = cc some
one_more p q more (x ∷ xs) some =
    ⊎_elim
    (λ here.
    let parts = and_parts (q x) (not (p x)) here in
    let no : p x ≡ false = elim (p x) as (λ b. not b ≡ true → b ≡ false) [ true ↦ λ h. cc h | false ↦ λ h. refl ] parts.1 in
    let a : length (filter q (x ∷ xs)) ≡ suc (length (filter q xs)) = ap (λ b. length (cond b (x ∷ filter q xs) (filter q xs))) parts.0 in
    let b : length (filter p (x ∷ xs)) ≡ length (filter p xs) = ap (λ b. length (cond b (x ∷ filter p xs) (filter p xs))) no in
    omega (arith, a, b, no_fewer p q more xs))
    (λ there.
    let rest = one_more p q more xs there in
    elim (p x) as (λ b. p x ≡ b → suc (length (cond b (x ∷ filter p xs) (filter p xs))) ≤ length (filter q (x ∷ xs))) [
      | true ↦ λ is. let both : length (filter q (x ∷ xs)) ≡ suc (length (filter q xs)) = ap (λ b. length (cond b (x ∷ filter q xs) (filter q xs))) (more x is) in omega (arith, rest, both)
      | false ↦ λ is.
          elim (q x) as (λ b. suc (length (filter p xs)) ≤ length (cond b (x ∷ filter q xs) (filter q xs))) [ true ↦ omega (arith, rest) | false ↦ rest ]
    ] refl)
    (or_cases (q x && not (p x)) (list_any (λ x. q x && not (p x)) xs) some)

module _ (v : Version) (bytes : Bytes) (is : EachOnce v bytes) where
  abbrev last : ℕ
  last = inode_number bytes

  abbrev within : ℕ → ℕ → Bool
  within = is_reached_within v bytes

  -- one more step
  step-on : (k n d : ℕ) → 1 ≤ d → d ≤ last → has_slot_for v bytes n d ≡ true → within k d ≡ true → within (suc k) n ≡ true
  step-on k n d low high has reached =
      further v bytes is k n
      ∙ or_right (n == root) (list_any (steps_to v bytes is k n) (range_with_len 1 last))
      (range_any (steps_to v bytes is k n) 1 last d low (omega (arith, high)) (and_from (has_slot_for v bytes n d) (within k d) has reached))

  record IsStep (k n : ℕ) : Type 0 where
    from : ℕ
    low : 1 ≤ from
    high : from ≤ last
    has : has_slot_for v bytes n from ≡ true
    reached : within k from ≡ true

  step-back : (k n : ℕ) → within (suc k) n ≡ true → ((n == root) ≡ true) ⊎ IsStep k n
  step-back k n reached =
      ⊎_elim (λ top. inl top)
      (λ following.
      let found = any_in_range (steps_to v bytes is k n) 1 last following in
      let high : found.0 < 1 + last = found.2 in
      let parts = and_parts (has_slot_for v bytes n found.0) (within k found.0) found.3 in
      inr (record { from = found.0; low = found.1; high = omega (arith, high); has = parts.0; reached = parts.1 }))
      (or_cases (n == root) (list_any (steps_to v bytes is k n) (range_with_len 1 last)) (sym (further v bytes is k n) ∙ reached))

  at_root : (k n : ℕ) → (n == root) ≡ true → within k n ≡ true
  at_root zero n top = top
  at_root (suc k) n top = further v bytes is k n ∙ or_left (n == root) (list_any (steps_to v bytes is k n) (range_with_len 1 last)) top

  longer : (k n : ℕ) → within k n ≡ true → within (suc k) n ≡ true
  longer zero n reached = at_root 1 n reached
  longer (suc k) n reached =
      ⊎_elim (λ top. at_root (suc (suc k)) n top) (λ step. step-on (suc k) n step.from step.low step.high step.has (longer k step.from step.reached)) (step-back k n reached)

  -- one more step reaches no new node
  abbrev IsEnough : ℕ → Type 0
  IsEnough k = (n : ℕ) → 1 ≤ n → n ≤ last → within (suc k) n ≡ true → within k n ≡ true

  enough-next : (k : ℕ) → IsEnough k → IsEnough (suc k)
  enough-next k enough n low high reached =
      ⊎_elim (λ top. at_root (suc k) n top) (λ step. step-on k n step.from step.low step.high step.has (enough step.from step.low step.high step.reached)) (step-back (suc k) n reached)

  abbrev many : ℕ → ℕ
  many k = length (filter (within k) (range_with_len 1 last))

  abbrev new_in : ℕ → ℕ → Bool
  new_in k n = within (suc k) n && not (within k n)

  none-new : (k : ℕ) → list_any (new_in k) (range_with_len 1 last) ≡ false → IsEnough k
  none-new k none n low high reached =
      ⊎_elim (λ yes. yes)
      (λ misses.
      let new : new_in k n ≡ true = and_from (within (suc k) n) (not (within k n)) reached (ap not misses) in
      let there : list_any (new_in k) (range_with_len 1 last) ≡ true = range_any (new_in k) 1 last n low (omega (arith, high)) new in
      absurd (true≢false (sym there ∙ none)))
      (cases_Bool (within k n))

  first_step : 1 ≤ last → 1 ≤ many zero
  first_step some =
      let there : list_any (λ (n : ℕ). within zero n && true) (range_with_len 1 last) ≡ true = range_any (λ n. within zero n && true) 1 last root (omega arith) (omega (arith, some)) refl in
      omega (arith, one_more (λ (n : ℕ). false) (within zero) (λ n never. cc never) (range_with_len 1 last) there)

  enough-or_more : 1 ≤ last → (k : ℕ) → IsEnough k ⊎ (suc k ≤ many k)
  enough-or_more some zero = inr (first_step some)
  enough-or_more some (suc k) =
      ⊎_elim (λ enough. inl (enough-next k enough))
      (λ more.
      ⊎_elim
      (λ new. inr (let rises = one_more (within k) (within (suc k)) (longer k) (range_with_len 1 last) new in omega (arith, more, rises)))
      (λ none. inl (enough-next k (none-new k none)))
      (cases_Bool (list_any (new_in k) (range_with_len 1 last))))
      (enough-or_more some k)

  enough-last : 1 ≤ last → IsEnough last
  enough-last some =
      ⊎_elim (λ enough. enough) (λ more. absurd (omega (arith, more, filter-fewer (within last) (range_with_len 1 last), length-range_with_len 1 last))) (enough-or_more some last)

  pub reached-within : HasInodes v bytes → (n : ℕ) → IsReached (tree_in v bytes) n → within last n ≡ true
  reached-within has _ from_root = at_root last root refl
  reached-within has _ (by_entry d name n reached found) =
      let from = entry-within v bytes is n d name found in
      let to = has.entries d name n found in
      enough-last has.some n to.0 to.1 (step-on last n d from.0 from.1 (entry-slot v bytes is n d name found) (reached-within has d reached))
