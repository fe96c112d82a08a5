-- The number and the permissions of an entry, after an entry is replaced or appended.
use Rattle.std.proofs.Common.{◌≡◌, ℕ, ◌+◌, ◌<◌, ◌≤◌, Bool, true, false, cond, not, nat_lt, List, [], ◌∷◌, ◌++◌, length, slice_set, None, Some, ◌∙◌, sym, ap, refl, arith}
use Rattle.std.proofs.lemmas.Bool.{eq-eqb, ltb-false, lt-ltb}
use Rattle.std.proofs.lemmas.List.{get_or_push, get_or-set_same, length-set, length_push}
use Rattle.std.proofs.lemmas.List.Folds.{position_or_len-set, position_or_len_push}
use Rattle.std.proofs.lemmas.List.Quantifiers.{position-Some}
use Rattle.std.proofs.lemmas.Option.{slice_get_read}
use Rattle.std.proofs.lemmas.List.Sums.{prefix_len-le-length}
use Rattle.std.specs.List.{position_or_len}
use Rattle.std.specs.Prelude.{position}
use Rattle.pv_model.specs.declared.perms.Perms.{Perms}
use Rattle.pv_model.specs.declared.target.Target.{Target}
use Rattle.pv_model.specs.Machine.{Table, same_target, entry_for, permissions_at}
use Rattle.pv_model.specs.Unveil.{permissions_of}
use Rattle.pv_tree.proofs.OfLawsTrees.UnveilTargets.{same_target-itself}

not_within : (b : Bool) (n : ℕ) → cond b (Some n) None ≡ None → b ≡ false
not_within true n none = cc
not_within false n none = refl

module _ {X : Type 0} (p : X → Bool) (xs : List X) (y : X) (passes : p y ≡ true) where
  position-set : (k : ℕ) → position p xs ≡ Some k → position p (slice_set xs k y) ≡ Some k
  position-set k found =
      let here = position-Some p xs k y found in
      let same = position_or_len-set p xs k y y (passes ∙ sym here.1) in
      rw (same, length-set) found

  position-push : position p xs ≡ None → position p (xs ++ y ∷ []) ≡ Some (length xs)
  position-push none =
      let past = ltb-false _ _ (not_within (nat_lt (position_or_len p xs) (length xs)) (position_or_len p xs) none) in
      let upto : position_or_len p xs ≤ length xs = prefix_len-le-length (λ x. not (p x)) xs in
      let last : position_or_len p xs ≡ length xs = omega arith in
      let first : position_or_len p (xs ++ y ∷ []) ≡ length xs = rw (position_or_len_push p xs y, eq-eqb (position_or_len p xs) (length xs) last, passes) (omega arith) in
      let within : length xs < length xs + 1 = omega arith in
      rw (first, length_push, lt-ltb _ _ within) refl

module _ (table : Table) (target : Target) (permissions : Perms) where
  -- replacing the entry of a target
  pub entry_for-set : (k : ℕ) → entry_for table target ≡ Some k → entry_for (slice_set table k (target, permissions)) target ≡ Some k
  entry_for-set k found = position-set (λ e. same_target e.0 target) table (target, permissions) (same_target-itself target) k found

  pub permissions_at-set : (k : ℕ) → k < length table → permissions_at (slice_set table k (target, permissions)) k ≡ permissions
  permissions_at-set k within =
      let within' : k < length (slice_set table k (target, permissions)) = rw length-set within in
      ap permissions_of (slice_get_read (slice_set table k (target, permissions)) _ k (target, permissions) refl within' (sym (get_or-set_same table k (target, permissions) (target, permissions) within)))

  -- appending an entry
  pub entry_for-push : entry_for table target ≡ None → entry_for (table ++ (target, permissions) ∷ []) target ≡ Some (length table)
  entry_for-push none = position-push (λ e. same_target e.0 target) table (target, permissions) (same_target-itself target) none

  pub permissions_at-push : permissions_at (table ++ (target, permissions) ∷ []) (length table) ≡ permissions
  permissions_at-push =
      let within : length table < length (table ++ (target, permissions) ∷ []) = rw length_push (omega arith) in
      ap permissions_of (slice_get_read (table ++ (target, permissions) ∷ []) _ (length table) (target, permissions) refl within (sym (get_or_push table (target, permissions) (target, permissions) (length table) refl)))
