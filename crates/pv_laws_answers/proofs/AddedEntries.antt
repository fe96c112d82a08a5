-- A new entry of a table, and its setting.
use Rattle.std.proofs.Common.{◌≡◌, ◌≢◌, ℕ, zero, suc, ◌+◌, ◌<◌, ◌≤◌, Bool, true, false, cond, if◌then◌else◌, not, nat_le, nat_lt, List, [], ◌∷◌, ◌++◌, length, slice_get, slice_set, position, Option, None, Some, refl, ap, sym, ◌∙◌, arith, ⊎_elim}
use Rattle.std.specs.List.{position_or_len}
use Rattle.std.proofs.lemmas.Bool.{eq-eqb, lt-ltb, ltb-true, ltb-false, cases_lt}
use Rattle.std.proofs.lemmas.List.Folds.{position_or_len_push}
use Rattle.pv_model.specs.declared.errno.Errno.TheVariants.{EPERM, E2BIG}
use Rattle.pv_model.specs.declared.outcome.Cause.TheVariants.{Unveil as ByUnveil}
use Rattle.pv_model.specs.declared.perms.Perms.{Perms}
use Rattle.pv_model.specs.declared.target.Target.{Target}
use Rattle.pv_model.specs.Machine.{Setting, refused, give, refuse, covers, Table, same_target, entry_for, permissions_at, with_permissions}
use Rattle.pv_model.specs.Answers.Settings.{set_at}
use Rattle.pv_model.specs.Calls.Restraints.{add_table_entry}
use Rattle.pv_laws_states.proofs.AttemptValues.{Leads}
use Rattle.pv_laws_trees.proofs.UnveilTargets.{same_target-itself}

-- ---- the first element that passes a test

module _ {X : Type 0} (test : X → Bool) where
  first-most : (xs : List X) → position_or_len test xs ≤ length xs
  first-most [] = omega arith
  first-most (x ∷ xs) = by (test x) (first-most xs)
    where
      by : (b : Bool) → position_or_len test xs ≤ length xs → cond (not b) (1 + position_or_len test xs) 0 ≤ suc (length xs)
      by true few = omega arith
      by false few = omega arith

  pub first-found : (xs : List X) (k : ℕ) → position test xs ≡ Some k → (position_or_len test xs ≡ k) × (k < length xs)
  first-found xs k is = by (nat_lt (position_or_len test xs) (length xs)) refl is
    where
      by : (b : Bool) → nat_lt (position_or_len test xs) (length xs) ≡ b → cond b (Some (position_or_len test xs)) None ≡ Some k → (position_or_len test xs ≡ k) × (k < length xs)
      by true within some = let same : position_or_len test xs ≡ k = cc some in let few = ltb-true (position_or_len test xs) (length xs) within in (same, omega (arith, same, few))
      by false past none = cc none

  first-none : (xs : List X) → position test xs ≡ None → position_or_len test xs ≡ length xs
  first-none xs is = by (nat_lt (position_or_len test xs) (length xs)) refl is
    where
      by : (b : Bool) → nat_lt (position_or_len test xs) (length xs) ≡ b → cond b (Some (position_or_len test xs)) None ≡ None → position_or_len test xs ≡ length xs
      by true within some = cc some
      by false past none = let most = first-most xs in let least = ltb-false (position_or_len test xs) (length xs) past in omega (arith, most, least)

  first-is : (xs : List X) (k : ℕ) → position_or_len test xs ≡ k → k < length xs → position test xs ≡ Some k
  first-is xs k is few =
      ap (λ b. cond b (Some (position_or_len test xs)) None) (lt-ltb (position_or_len test xs) (length xs) (omega (arith, is, few))) ∙ ap Some is

  first-set : (xs : List X) (k : ℕ) (y : X) → test y ≡ true → position_or_len test xs ≡ k → position_or_len test (slice_set xs k y) ≡ k
  first-set [] k y has is = is
  first-set (x ∷ xs) zero y has is = ap (λ b. cond (not b) (1 + position_or_len test xs) 0) has
  first-set (x ∷ xs) (suc k) y has is = by (test x) refl is (first-set xs k y has)
    where
      by : (b : Bool) → test x ≡ b → cond (not b) (1 + position_or_len test xs) 0 ≡ suc k → (position_or_len test xs ≡ k → position_or_len test (slice_set xs k y) ≡ k)
          → position_or_len test (x ∷ slice_set xs k y) ≡ suc k
      by true here is later = absurd (omega (arith, is))
      by false past is later =
          ap (λ b. cond (not b) (1 + position_or_len test (slice_set xs k y)) 0) past ∙ (let rest = later (omega (arith, is)) in omega (arith, rest))

  first-pushed : (xs : List X) (y : X) → test y ≡ true → position_or_len test xs ≡ length xs → position_or_len test (xs ++ y ∷ []) ≡ length xs
  first-pushed xs y has none =
      position_or_len_push test xs y
      ∙ ap (λ b. cond b (length xs + cond (test y) 0 1) (position_or_len test xs)) (eq-eqb (position_or_len test xs) (length xs) none)
      ∙ ap (λ b. length xs + cond b 0 1) has ∙ omega arith

-- ---- lists

module _ {X : Type 0} where
  pub length-slice_set : (xs : List X) (k : ℕ) (y : X) → length (slice_set xs k y) ≡ length xs
  length-slice_set [] k y = refl
  length-slice_set (x ∷ xs) zero y = refl
  length-slice_set (x ∷ xs) (suc k) y = ap suc (length-slice_set xs k y)

  get-set_same : (xs : List X) (k : ℕ) (y : X) → k < length xs → slice_get (slice_set xs k y) k ≡ Some y
  get-set_same [] k y few = absurd (omega arith)
  get-set_same (x ∷ xs) zero y few = refl
  get-set_same (x ∷ xs) (suc k) y few = get-set_same xs k y (omega arith)

  get-set_other : (xs : List X) (k : ℕ) (y : X) (j : ℕ) → j ≢ k → slice_get (slice_set xs k y) j ≡ slice_get xs j
  get-set_other [] k y j other = refl
  get-set_other (x ∷ xs) zero y zero other = absurd (other refl)
  get-set_other (x ∷ xs) zero y (suc j) other = refl
  get-set_other (x ∷ xs) (suc k) y zero other = refl
  get-set_other (x ∷ xs) (suc k) y (suc j) other = get-set_other xs k y j (λ same. other (ap suc same))

  get-pushed_last : (xs : List X) (y : X) → slice_get (xs ++ y ∷ []) (length xs) ≡ Some y
  get-pushed_last [] y = refl
  get-pushed_last (x ∷ xs) y = get-pushed_last xs y

  get-pushed_other : (xs : List X) (y : X) (j : ℕ) → j ≢ length xs → slice_get (xs ++ y ∷ []) j ≡ slice_get xs j
  get-pushed_other [] y zero other = absurd (other refl)
  get-pushed_other [] y (suc j) other = refl
  get-pushed_other (x ∷ xs) y zero other = refl
  get-pushed_other (x ∷ xs) y (suc j) other = get-pushed_other xs y j (λ same. other (ap suc same))

  length-pushed : (xs : List X) (y : X) → length (xs ++ y ∷ []) ≡ suc (length xs)
  length-pushed [] y = refl
  length-pushed (x ∷ xs) y = ap suc (length-pushed xs y)

  -- a list with an element replaced, or appended
  pub record IsWith (xs : List X) (k : ℕ) (y : X) (ys : List X) : Type 0 where
    pub within : k ≤ length xs
    pub has : slice_get ys k ≡ Some y
    pub others : (j : ℕ) → j ≢ k → slice_get ys j ≡ slice_get xs j
    pub preserved : k < length xs → length ys ≡ length xs
    pub longer : k ≡ length xs → length ys ≡ suc (length xs)

  set-with : (xs : List X) (k : ℕ) (y : X) → k < length xs → IsWith xs k y (slice_set xs k y)
  set-with xs k y few = record {
    within = omega (arith, few);
    has = get-set_same xs k y few;
    others = get-set_other xs k y;
    preserved = λ _. length-slice_set xs k y;
    longer = λ last. absurd (omega (arith, few, last));
  }

  pushed-with : (xs : List X) (y : X) → IsWith xs (length xs) y (xs ++ y ∷ [])
  pushed-with xs y = record {
    within = omega arith;
    has = get-pushed_last xs y;
    others = get-pushed_other xs y;
    preserved = λ few. absurd (omega (arith, few));
    longer = λ _. length-pushed xs y;
  }

-- ---- tables

-- a table with an entry replaced or appended
pub record IsAdded (old : Table) (target : Target) (permissions : Perms) (new : Table) : Type 0 where
  pub number : ℕ
  pub found : entry_for new target ≡ Some number
  pub with : IsWith old number (target, permissions) new

pub leads-added : (old : Table) (target : Target) (permissions : Perms) → Leads (IsAdded old target permissions) (add_table_entry old target permissions (entry_for old target))
leads-added old target permissions = by (entry_for old target) refl
  where
    narrowed : (k : ℕ) → entry_for old target ≡ Some k → (b : Bool) → Leads (IsAdded old target permissions) (if b then give (with_permissions old k target permissions) else refused 0 EPERM (ByUnveil (Some k)))
    narrowed k is false = tt
    narrowed k is true =
        let first = first-found (λ (e : Target × Perms). same_target e.0 target) old k is in
        record {
          number = k;
          found = first-is (λ (e : Target × Perms). same_target e.0 target) (with_permissions old k target permissions) k
              (first-set (λ (e : Target × Perms). same_target e.0 target) old k (target, permissions) (same_target-itself target) first.0)
              (let long = length-slice_set old k (target, permissions) in omega (arith, first.1, long));
          with = set-with old k (target, permissions) first.1;
        }

    appended : entry_for old target ≡ None → (b : Bool) → Leads (IsAdded old target permissions) (if b then refuse E2BIG else give (old ++ (target, permissions) ∷ []))
    appended none true = tt
    appended none false = record {
      number = length old;
      found = first-is (λ (e : Target × Perms). same_target e.0 target) (old ++ (target, permissions) ∷ []) (length old)
          (first-pushed (λ (e : Target × Perms). same_target e.0 target) old (target, permissions) (same_target-itself target) (first-none (λ (e : Target × Perms). same_target e.0 target) old none))
          (let long = length-pushed old (target, permissions) in omega (arith, long));
      with = pushed-with old (target, permissions);
    }

    by : (o : Option ℕ) → entry_for old target ≡ o → Leads (IsAdded old target permissions) (add_table_entry old target permissions o)
    by (Some k) is = narrowed k is (covers (permissions_at old k) permissions)
    by None none = appended none (nat_le 64 (length old))

-- ---- settings

pub set_at-with : (mine : List Setting) (k : ℕ) (setting : Setting) → k ≤ length mine → IsWith mine k setting (set_at mine k setting)
set_at-with mine k setting within = record {
  within = within;
  has = has mine k within;
  others = λ j other. others mine k j within other;
  preserved = λ few. preserved mine k few;
  longer = λ last. longer mine k last;
}
  where
    has : (mine : List Setting) (k : ℕ) → k ≤ length mine → slice_get (set_at mine k setting) k ≡ Some setting
    has [] zero within = refl
    has [] (suc k) within = absurd (omega arith)
    has (now ∷ rest) zero within = refl
    has (now ∷ rest) (suc k) within = has rest k (omega arith)

    others : (mine : List Setting) (k j : ℕ) → k ≤ length mine → j ≢ k → slice_get (set_at mine k setting) j ≡ slice_get mine j
    others [] zero zero within other = absurd (other refl)
    others [] zero (suc j) within other = refl
    others [] (suc k) j within other = absurd (omega arith)
    others (now ∷ rest) zero zero within other = absurd (other refl)
    others (now ∷ rest) zero (suc j) within other = refl
    others (now ∷ rest) (suc k) zero within other = refl
    others (now ∷ rest) (suc k) (suc j) within other = others rest k j (omega arith) (λ same. other (ap suc same))

    preserved : (mine : List Setting) (k : ℕ) → k < length mine → length (set_at mine k setting) ≡ length mine
    preserved [] k few = absurd (omega arith)
    preserved (now ∷ rest) zero few = refl
    preserved (now ∷ rest) (suc k) few = ap suc (preserved rest k (omega arith))

    longer : (mine : List Setting) (k : ℕ) → k ≡ length mine → length (set_at mine k setting) ≡ suc (length mine)
    longer [] zero last = refl
    longer [] (suc k) last = refl
    longer (now ∷ rest) zero last = absurd (omega arith)
    longer (now ∷ rest) (suc k) last = ap suc (longer rest k (omega arith))

-- two lists of equal length stay so
pub with-length : {X Y : Type 0} (xs : List X) (k : ℕ) (x : X) (ys : List X) (us : List Y) (u : Y) (vs : List Y) → IsWith xs k x ys → IsWith us k u vs → length xs ≡ length us → length ys ≡ length vs
with-length xs k x ys us u vs a b same =
    ⊎_elim
    (λ few. a.preserved few ∙ same ∙ sym (b.preserved (omega (arith, few, same))))
    (λ many.
    let last : k ≡ length xs = (let most = a.within in omega (arith, most, many)) in
    a.longer last ∙ ap suc same ∙ sym (b.longer (last ∙ same)))
    (cases_lt k (length xs))
