-- Open files with the numbers of their users.
use Rattle.std.proofs.Common.{◌≡◌, ℕ, zero, suc, ◌+◌, ◌-◌, ◌<◌, List, [], ◌∷◌, length, replicate, get_or, Option, None, Some, IsSome, is_some, option_map, option_and_then, slice_index, slice_set, refl, sym, ap, ap₂, ◌∙◌, arith}
use Rattle.std.specs.Prelude.{◌↔◌}
use Rattle.std.proofs.Math.ListN.{set, length-map}
use Rattle.std.proofs.lemmas.Bool.Decides.{nat_tests}
use Rattle.std.proofs.lemmas.List.{map-set}
use Rattle.pv_model.specs.Machine.{OpenFile, Numbered, at_number, with_number, without_number, least_free}
use Rattle.pv_files.specs.declared.opened.Opened.{Opened}
use Rattle.pv_files.specs.Counted.{Counted, no_files, with_opened, counted_with_file, with_users}
use Rattle.pv_files.specs.Slots.{file_of, users_of, where_used, counted_of}
use Rattle.pv_files.proofs.ViewedMaps.{least_free-seen, with_number-set, without_number-set, set-itself, within_length}

abbrev pub Slots : Type 0
Slots = List (Option Opened)

-- ---- one record

pub used_some : (o : Opened) → 0 < o.users → where_used o ≡ Some o
used_some o less = grind (arith, nat_tests)

pub used_none : (o : Opened) → o.users ≡ 0 → where_used o ≡ None
used_none o none = grind (arith, nat_tests)

pub users_where : (o : Opened) → users_of (where_used o) ≡ o.users
users_where o = grind (arith, nat_tests)

-- a record has an open file if and only if it has users
pub used_where : (slot : Option Opened) → IsSome (option_map file_of (option_and_then where_used slot)) ↔ (0 < users_of (option_and_then where_used slot))
used_where None = (λ none. cc, λ less. absurd (omega arith))
used_where (Some o) = grind (arith, nat_tests)

pub no_slots : (slots : Slots) → slots ≡ replicate 128 None → counted_of slots ≡ no_files
no_slots slots none = ap counted_of none

-- ---- the least free number

pub least_free_slot : (slots : Slots) → least_free (counted_of slots).files ≡ least_free slots
least_free_slot slots = least_free-seen file_of slots

-- ---- one number

-- the record of a number, and its view in contracts
pub record IsSlot (slots : Slots) (k : ℕ) (slot : Option Opened) : Type 0 where
  pub within : k < length slots
  pub file : at_number (counted_of slots).files k ≡ option_map file_of slot
  pub users : slice_index (counted_of slots).users k ≡ users_of slot

pub opened_within : (slots : Slots) (k : ℕ) → IsSome (at_number (counted_of slots).files k) → k < length slots
opened_within slots k there = omega (arith, within_length (counted_of slots).files k there, length-map slots (option_map file_of))

file_read : (slots : Slots) (k : ℕ) (slot : Option Opened) → k < length slots → slot ≡ get_or slots k slot → at_number (counted_of slots).files k ≡ option_map file_of slot
file_read [] k slot within is = absurd (omega arith)
file_read (p ∷ slots) zero slot within is = ap (option_map file_of) (sym is)
file_read (p ∷ slots) (suc k) slot within is = file_read slots k slot (omega arith) is

users_read : (slots : Slots) (k : ℕ) (slot : Option Opened) → k < length slots → slot ≡ get_or slots k slot → slice_index (counted_of slots).users k ≡ users_of slot
users_read [] k slot within is = absurd (omega arith)
users_read (p ∷ slots) zero slot within is = ap users_of (sym is)
users_read (p ∷ slots) (suc k) slot within is = users_read slots k slot (omega arith) is

pub is_slot : (slots : Slots) (k : ℕ) (slot : Option Opened) → k < length slots → slot ≡ get_or slots k slot → IsSlot slots k slot
is_slot slots k slot within is = record { within = within; file = file_read slots k slot within is; users = users_read slots k slot within is }

-- the same, derived from the view of contracts
module _ (slots : Slots) (c : Counted) (seen : counted_of slots ≡ c) (k : ℕ) (there : IsSome (at_number c.files k)) where
  pub opened_there : IsSome (at_number (counted_of slots).files k)
  opened_there = ap (λ (v : Counted). is_some (at_number v.files k)) seen ∙ there

  pub opened_below : k < length slots
  opened_below = opened_within slots k opened_there

  pub slot_there : (slot : Option Opened) → slot ≡ get_or slots k slot → IsSlot slots k slot
  slot_there slot is = is_slot slots k slot opened_below is

-- ---- after a change of a record

put_again : (ns : List ℕ) (k : ℕ) → slice_set ns k (slice_index ns k) ≡ ns
put_again [] k = refl
put_again (n ∷ ns) zero = refl
put_again (n ∷ ns) (suc k) = ap (λ ms. n ∷ ms) (put_again ns k)

abbrev counted_by : Numbered OpenFile → List ℕ → Counted
counted_by files users = record { files = files; users = users }

module _ (slots : Slots) (k : ℕ) (old : Opened) where
  -- if a file is open, its record has a user
  pub old_used : IsSlot slots k (where_used old) → IsSome (at_number (counted_of slots).files k) → 0 < old.users
  old_used is there = omega (arith, (used_where (Some old)).0 (ap is_some (sym is.file) ∙ there), users_where old)

  pub old_file : IsSlot slots k (where_used old) → IsSome (at_number (counted_of slots).files k) → at_number (counted_of slots).files k ≡ Some (file_of old)
  old_file is there = is.file ∙ ap (option_map file_of) (used_some old (old_used is there))

module _ (slots : Slots) (k : ℕ) (old new : Opened) where
  abbrev pub before : Counted
  before = counted_of slots

  abbrev pub after : Counted
  after = counted_of (set slots k (where_used new))

  pub users_after : after.users ≡ slice_set before.users k new.users
  users_after = map-set users_of slots k (where_used new) ∙ ap (slice_set before.users k) (users_where new)

  files_set : after.files ≡ set before.files k (option_map file_of (where_used new))
  files_set = map-set (option_map file_of) slots k (where_used new)

  pub files_with : IsSlot slots k (where_used old) → (f : OpenFile) → 0 < new.users → file_of new ≡ f → after.files ≡ with_number before.files k f
  files_with is f used same =
      let within : k < length before.files = omega (arith, is.within, length-map slots (option_map file_of)) in
      files_set ∙ ap (λ slot. set before.files k (option_map file_of slot)) (used_some new used) ∙ ap (λ g. set before.files k (Some g)) same ∙ sym (with_number-set before.files k f within)

  pub files_stay : IsSlot slots k (where_used old) → IsSome (at_number before.files k) → 0 < new.users → file_of new ≡ file_of old → after.files ≡ before.files
  files_stay is there used same =
      files_set ∙ ap (λ slot. set before.files k (option_map file_of slot)) (used_some new used) ∙ ap (λ g. set before.files k (Some g)) same
      ∙ ap (set before.files k) (sym (old_file slots k old is there)) ∙ set-itself before.files k

  pub files_without : new.users ≡ 0 → after.files ≡ without_number before.files k
  files_without none = files_set ∙ ap (λ slot. set before.files k (option_map file_of slot)) (used_none new none) ∙ sym (without_number-set before.files k)

  -- the number of users before
  old_users : IsSlot slots k (where_used old) → slice_index before.users k ≡ old.users
  old_users is = is.users ∙ users_where old

  -- one user less
  pub fewer_after : IsSlot slots k (where_used old) → new.users ≡ old.users - 1 → after.users ≡ slice_set before.users k (slice_index before.users k - 1)
  fewer_after is less = users_after ∙ ap (slice_set before.users k) (less ∙ ap (λ n. n - 1) (sym (old_users is)))

  pub opened_after : IsSlot slots k (where_used old) → new.users ≡ 1 → after ≡ with_opened before k (file_of new)
  opened_after is one = ap₂ counted_by (files_with is (file_of new) (omega (arith, one)) refl) (users_after ∙ ap (slice_set before.users k) one)

  -- one user more
  pub shared_after : IsSlot slots k (where_used old) → IsSome (at_number before.files k) → file_of new ≡ file_of old → new.users ≡ old.users + 1 → after ≡ with_users before k (slice_index before.users k + 1)
  shared_after is there same more =
      ap₂ counted_by (files_stay is there (omega (arith, more)) same) (users_after ∙ ap (slice_set before.users k) (more ∙ ap (λ n. n + 1) (sym (old_users is))))

  -- another file under the same number
  pub changed_after : IsSlot slots k (where_used old) → (g : OpenFile → OpenFile) → IsSome (at_number before.files k) → file_of new ≡ g (file_of old) → new.users ≡ old.users
      → option_map (λ f. counted_with_file before k (g f)) (at_number before.files k) ≡ Some after
  changed_after is g there same users =
      let used : 0 < new.users = omega (arith, users, old_used slots k old is there) in
      let users_same : after.users ≡ before.users = users_after ∙ ap (slice_set before.users k) (users ∙ sym (old_users is)) ∙ put_again before.users k in
      ap (option_map (λ f. counted_with_file before k (g f))) (old_file slots k old is there) ∙ ap Some (sym (ap₂ counted_by (files_with is (g (file_of old)) used same) users_same))
