-- The records of numbers, by their keys.
use Rattle.std.proofs.Common.{◌≡◌, ◌≢◌, inl, inr, ℕ, zero, suc, ◌+◌, ◌-◌, min, ◌<◌, ◌≤◌, drop, take, length-drop, MatchOption, true, false, not, List, [], ◌∷◌, length, replicate, get_or, position, cond, nat_lt, Option, None, Some, is_none, is_some, IsSome, option_map, option_and_then, slice_index, slice_set, refl, sym, ap, ap₂, ◌∙◌, arith}
use Rattle.std.proofs.Math.ListN.{set, length-map}
use Rattle.std.proofs.lemmas.Bool.{cases_eq, cases_lt, ltb-true, ltb-false}
use Rattle.std.proofs.lemmas.List.{drop-map, get_or-map, get_or-take, get_or_read, same_lists, get_or-set_same, get_or-set_other}
use Rattle.std.specs.List.{position_or_len}
use Rattle.std.specs.Prelude.{◌↔◌}
use Rattle.slab.specs.Slab.{Slab, get, ContainsKey, Updates, with_value}
use Rattle.slab.proofs.SlabLemmas.{Updates-with_value}
use Rattle.pv_files.specs.declared.opened.Opened.{Opened}
use Rattle.pv_files.specs.Counted.{Counted, IsCounted, no_files, counted_with_file, with_users}
use Rattle.pv_files.specs.Slots.{file_of, users_of, where_used, counted_of, record_at, slots_under, AreKeys, AreRecords}
use Rattle.pv_files.proofs.OpenFileUsers.{opened_there, opened_below, slot_there, used_where, used_some, used_none, users_where, old_used, old_file, fewer_after, files_stay, files_without, shared_after, changed_after, IsSlot, is_slot, no_slots}
use Rattle.pv_files.proofs.ViewedMaps.{at_number-seen_read, least_free_after, least_free-le, used-set_some, used-set_least, used-set}
use Rattle.pv_model.proofs.NumberMaps.{at_number_past}
use Rattle.pv_model.specs.Machine.{at_number, without_number, least_free, OpenFile}

abbrev pub Records : Type 0
Records = Slab Opened

-- ---- reading

-- the open file of a number is in its record
slot_read : (s : Records) (keys : List ℕ) (k : ℕ) (slot : Option Opened) → k < length keys → record_at s (slice_index keys k) ≡ slot → slot ≡ get_or (slots_under s keys) k slot
slot_read s keys k slot within is = sym (get_or-map (record_at s) keys k 0 slot within ∙ is)

-- a search over the keys is one over the records
first_under : (s : Records) (keys : List ℕ) → position_or_len (λ key. is_none (record_at s key)) keys ≡ position_or_len (λ o. is_none o) (slots_under s keys)
first_under s [] = refl
first_under s (key ∷ keys) = ap (λ n. cond (not (is_none (record_at s key))) (1 + n) 0) (first_under s keys)

pub position_under : (s : Records) (keys : List ℕ) → position (λ key. is_none (record_at s key)) keys ≡ position (λ o. is_none o) (slots_under s keys)
position_under s keys = ap₂ (λ n m. cond (nat_lt n m) (Some n) None) (first_under s keys) (sym (length-map keys (record_at s)))

-- a search starts at a number that has a key, or at the end
pub first_within : (s : Records) (keys : List ℕ) (first most : ℕ) → AreRecords s keys first most → first ≤ length keys
first_within s keys first most are = omega (arith, are.used, least_free-le (slots_under s keys), length-map keys (record_at s))

-- a search that skips numbers in use finds the least free number
pub free_after : (s : Records) (keys : List ℕ) (first : ℕ) → first ≤ least_free (slots_under s keys) → first ≤ length keys → (found : Option ℕ)
    → MatchOption found (least_free (slots_under s (drop first keys)) ≡ length (drop first keys)) (λ k. (least_free (slots_under s (drop first keys)) ≡ k) × (k < length (drop first keys)))
    → MatchOption (option_map (λ k. first + k) found) (least_free (slots_under s keys) ≡ length keys) (λ k. (least_free (slots_under s keys) ≡ k) × (k < length keys))
free_after s keys first used within found is = by found is
  where
    rest : least_free (slots_under s keys) ≡ first + least_free (slots_under s (drop first keys))
    rest = least_free_after (slots_under s keys) first used ∙ ap (λ ps. first + least_free ps) (drop-map (record_at s) first keys)

    by : (found : Option ℕ) → MatchOption found (least_free (slots_under s (drop first keys)) ≡ length (drop first keys)) (λ k. (least_free (slots_under s (drop first keys)) ≡ k) × (k < length (drop first keys)))
        → MatchOption (option_map (λ k. first + k) found) (least_free (slots_under s keys) ≡ length keys) (λ k. (least_free (slots_under s keys) ≡ k) × (k < length keys))
    by None is = omega (arith, rest, is, within, length-drop first keys)
    by (Some k) is = (omega (arith, rest, is.0), omega (arith, is.1, within, length-drop first keys))

-- a number with a key, as contracts see it
pub slot_under : (s : Records) (keys : List ℕ) (k key : ℕ) (slot : Option Opened) → true ≡ nat_lt k (length keys) → key ≡ get_or keys k key → slot ≡ record_at s key → IsSlot (slots_under s keys) k slot
slot_under s keys k key slot below at is =
    let within = ltb-true k (length keys) (sym below) in
    let all : k < length (slots_under s keys) = omega (arith, length-map keys (record_at s), within) in
    let same = ap (record_at s) (sym (get_or_read keys k key within at 0)) in
    is_slot (slots_under s keys) k slot all (slot_read s keys k slot within (same ∙ sym is))

-- a number without a key
pub nothing_past : (s : Records) (keys : List ℕ) (k : ℕ) → false ≡ nat_lt k (length keys) → at_number (counted_of (slots_under s keys)).files k ≡ None
nothing_past s keys k past =
    at_number_past file_of (slots_under s keys) k (omega (arith, length-map keys (record_at s), ltb-false k (length keys) (sym past)))

-- a number has an open file if and only if it has users
used_under : (s : Records) (keys : List ℕ) (k : ℕ) → IsSome (at_number (counted_of (slots_under s keys)).files k) ↔ (0 < slice_index (counted_of (slots_under s keys)).users k)
used_under s [] k = (λ none. cc, λ less. absurd (omega arith))
used_under s (key ∷ keys) zero = used_where (get s key)
used_under s (key ∷ keys) (suc k) = used_under s keys k

pub counted : (s : Records) (keys : List ℕ) → length keys ≡ 128 → IsCounted (counted_of (slots_under s keys))
counted s keys long = record {
  slots = omega (arith, long, length-map keys (record_at s), length-map (slots_under s keys) (option_map file_of));
  counts = omega (arith, long, length-map keys (record_at s), length-map (slots_under s keys) users_of);
  used = used_under s keys;
}

-- ---- writing

-- if no key is the one that was written, the records do not change
others_stay : (s t : Records) (key : ℕ) (new : Opened) → Updates s t key (Some new) → (keys : List ℕ) → ((k : ℕ) → k < length keys → slice_index keys k ≢ key) → slots_under t keys ≡ slots_under s keys
others_stay s t key new written [] differ = refl
others_stay s t key new written (other ∷ keys) differ =
    ap₂ (λ (p : Option Opened) ps. p ∷ ps) (ap (option_and_then where_used) (written.others other (differ 0 (omega arith)))) (others_stay s t key new written keys (λ k within. differ (suc k) (omega arith)))

-- if one is, only its record changes
one_written : (s t : Records) (key : ℕ) (new : Opened) → Updates s t key (Some new) → (keys : List ℕ) (k : ℕ) → k < length keys → slice_index keys k ≡ key
    → ((j : ℕ) → j < length keys → slice_index keys j ≡ key → j ≡ k) → slots_under t keys ≡ set (slots_under s keys) k (where_used new)
one_written s t key new written [] k within is once = absurd (omega arith)
one_written s t key new written (first ∷ keys) zero within is once =
    ap₂ (λ (p : Option Opened) ps. p ∷ ps) (ap (record_at t) is ∙ ap (option_and_then where_used) written.changed)
    (others_stay s t key new written keys (λ j below same. let zero_is = once (suc j) (omega arith) same in omega (arith, zero_is)))
one_written s t key new written (first ∷ keys) (suc k) within is once =
    ap₂ (λ (p : Option Opened) ps. p ∷ ps) (ap (option_and_then where_used) (written.others first (λ same. let zero_is = once 0 (omega arith) same in omega (arith, zero_is))))
    (one_written s t key new written keys k (omega arith) is (λ j below same. omega (arith, once (suc j) (omega arith) same)))

-- ---- one number

-- a number with an open file has a key
pub open_within : (s : Records) (keys : List ℕ) (c : Counted) → counted_of (slots_under s keys) ≡ c → (k : ℕ) → IsSome (at_number c.files k) → k < length keys
open_within s keys c seen k there = omega (arith, length-map keys (record_at s), opened_below (slots_under s keys) c seen k there)

module _ (s : Records) (keys : List ℕ) (are : AreKeys s keys) (k : ℕ) (within : k < length keys) where
  pub has_record : ContainsKey s (slice_index keys k)
  has_record = are.recorded k (omega (arith, are.count))

  pub record_read : (old : Opened) → get s (slice_index keys k) ≡ Some old → where_used old ≡ get_or (slots_under s keys) k (where_used old)
  record_read old is = slot_read s keys k (where_used old) within (ap (option_and_then where_used) is)

  abbrev pub wrote : Opened → Records
  wrote new = with_value s (slice_index keys k) new

  -- a write to its record changes only its record
  pub slots_after : (new : Opened) → slots_under (wrote new) keys ≡ set (slots_under s keys) k (where_used new)
  slots_after new =
      one_written s (wrote new) (slice_index keys k) new (Updates-with_value s (slice_index keys k) new has_record) keys k within refl
      (λ j below same. are.own j k (omega (arith, are.count)) (omega (arith, are.count)) same)

  pub counted_after : (new : Opened) → counted_of (slots_under (wrote new) keys) ≡ counted_of (set (slots_under s keys) k (where_used new))
  counted_after new = ap counted_of (slots_after new)

  keys_after : (new : Opened) → AreKeys (wrote new) keys
  keys_after new = record { count = are.count; recorded = recorded; own = are.own }
    where
      updates : Updates s (wrote new) (slice_index keys k) (Some new)
      updates = Updates-with_value s (slice_index keys k) new has_record

      recorded : (j : ℕ) → j < 128 → ContainsKey (wrote new) (slice_index keys j)
      recorded j below = elim (cases_eq (slice_index keys j) (slice_index keys k)) [
        | inl same ↦ ap (λ key. is_some (get (wrote new) key)) same ∙ ap is_some updates.changed
        | inr other ↦ ap is_some (updates.others (slice_index keys j) other) ∙ are.recorded j below
      ]

  -- numbers in use stay in use: if the record has a user, if it was the first free one, and if a record after them is
  -- freed
  least_after : (new : Opened) → least_free (set (slots_under s keys) k (where_used new)) ≡ least_free (slots_under (wrote new) keys)
  least_after new = ap least_free (sym (slots_after new))

  -- no number past the end of those in use is put in use
  unused_after : (most new_most : ℕ) → ((j : ℕ) → most ≤ j → j < 128 → record_at s (slice_index keys j) ≡ None) → most ≤ new_most → k < new_most → (new : Opened) → (j : ℕ) → new_most ≤ j → j < 128 → record_at (wrote new) (slice_index keys j) ≡ None
  unused_after most new_most unused up below new j past small =
      let apart : slice_index keys j ≢ slice_index keys k = λ same. let here = are.own j k small (omega (arith, are.count)) same in omega arith in
      ap (option_and_then where_used) ((Updates-with_value s (slice_index keys k) new has_record).others (slice_index keys j) apart) ∙ unused j (omega arith) small

  pub records_used : (first most : ℕ) → AreRecords s keys first most → k < most → (new : Opened) → 0 < new.users → AreRecords (wrote new) keys first most
  records_used first most held below new some = record {
    are_keys = keys_after new;
    used =
        let still : first ≤ least_free (set (slots_under s keys) k (where_used new)) = rw (used_some new some) (used-set_some (slots_under s keys) k first new held.used) in
        omega (arith, still, least_after new);
    few = held.few;
    unused = unused_after most most held.unused (omega arith) below new;
  }

  pub records_opened : (first most new_most : ℕ) → AreRecords s keys first most → most ≤ new_most → k < new_most → new_most ≤ 128 → least_free (slots_under s keys) ≡ k → (new : Opened) → 0 < new.users → AreRecords (wrote new) keys (k + 1) new_most
  records_opened first most new_most held up below few is new some = record {
    are_keys = keys_after new;
    used =
        let less : k < length (slots_under s keys) = omega (arith, within, length-map keys (record_at s)) in
        let more : k + 1 ≤ least_free (set (slots_under s keys) k (where_used new)) = rw (used_some new some) (used-set_least (slots_under s keys) k new is less) in
        omega (arith, more, least_after new);
    few = few;
    unused = unused_after most new_most held.unused up below new;
  }

  pub records_freed : (first least most : ℕ) → AreRecords s keys first most → k < most → least ≤ first → least ≤ k → (new : Opened) → AreRecords (wrote new) keys least most
  records_freed first least most held less below before new = record {
    are_keys = keys_after new;
    used = omega (arith, used-set (slots_under s keys) k least (where_used new) (omega (arith, held.used, below)) before, least_after new);
    few = held.few;
    unused = unused_after most most held.unused (omega arith) less new;
  }

-- ---- a number with an open file

module _ (s : Records) (keys : List ℕ) (are : AreKeys s keys) (c : Counted) (seen : counted_of (slots_under s keys) ≡ c) (k : ℕ) (there : IsSome (at_number c.files k)) where
  pub open_below : k < 128
  open_below = omega (arith, are.count, open_within s keys c seen k there)

  pub open_recorded : ContainsKey s (slice_index keys k)
  open_recorded = are.recorded k open_below

-- and its record, before a change and after it
module _ (s : Records) (keys : List ℕ) (are : AreKeys s keys) (c : Counted) (seen : counted_of (slots_under s keys) ≡ c) (k : ℕ) (there : IsSome (at_number c.files k)) (old : Opened) (is : get s (slice_index keys k) ≡ Some old) where
  within : k < length keys
  within = open_within s keys c seen k there

  abbrev before : Counted
  before = counted_of (slots_under s keys)

  slot : IsSlot (slots_under s keys) k (where_used old)
  slot = slot_there (slots_under s keys) c seen k there (where_used old) (record_read s keys are k within old is)

  there_before : IsSome (at_number before.files k)
  there_before = opened_there (slots_under s keys) c seen k there

  pub users_open : slice_index c.users k ≡ old.users
  users_open = ap (λ (v : Counted). slice_index v.users k) (sym seen) ∙ slot.users ∙ users_where old

  pub used_open : 0 < old.users
  used_open = old_used (slots_under s keys) k old slot there_before

  pub file_open : at_number c.files k ≡ Some (file_of old)
  file_open = ap (λ (v : Counted). at_number v.files k) (sym seen) ∙ old_file (slots_under s keys) k old slot there_before

  abbrev after : Opened → Counted
  after new = counted_of (slots_under (with_value s (slice_index keys k) new) keys)

  -- one user less
  pub users_fewer : (new : Opened) → new.users ≡ old.users - 1 → (after new).users ≡ slice_set c.users k (slice_index c.users k - 1)
  users_fewer new less =
      ap (λ (v : Counted). v.users) (counted_after s keys are k within new) ∙ fewer_after (slots_under s keys) k old new slot less
      ∙ ap (λ (v : Counted). slice_set v.users k (slice_index v.users k - 1)) seen

  pub files_closed : (new : Opened) → new.users ≡ 0 → (after new).files ≡ without_number c.files k
  files_closed new none =
      ap (λ (v : Counted). v.files) (counted_after s keys are k within new) ∙ files_without (slots_under s keys) k old new none
      ∙ ap (λ (v : Counted). without_number v.files k) seen

  pub files_preserved : (new : Opened) → 0 < new.users → file_of new ≡ file_of old → (after new).files ≡ c.files
  files_preserved new used same =
      ap (λ (v : Counted). v.files) (counted_after s keys are k within new) ∙ files_stay (slots_under s keys) k old new slot there_before used same
      ∙ ap (λ (v : Counted). v.files) seen

  -- one user more
  pub shared : (new : Opened) → file_of new ≡ file_of old → new.users ≡ old.users + 1 → after new ≡ with_users c k (slice_index c.users k + 1)
  shared new same more =
      counted_after s keys are k within new ∙ shared_after (slots_under s keys) k old new slot there_before same more
      ∙ ap (λ (v : Counted). with_users v k (slice_index v.users k + 1)) seen

  -- the numbers before the start of a search stay in use, if the record still has a user, and those below it do, if it
  -- has none
  below_most : (first most : ℕ) → AreRecords s keys first most → k < most
  below_most first most held = elim (cases_lt k most) [
    | inl below ↦ below
    | inr past ↦
        let none = held.unused k past (omega (arith, are.count, within)) in
        let some : record_at s (slice_index keys k) ≡ Some old = ap (option_and_then where_used) is ∙ used_some old used_open in
        cc
  ]

  pub used_still : (first most : ℕ) → AreRecords s keys first most → (new : Opened) → 0 < new.users → AreRecords (with_value s (slice_index keys k) new) keys first most
  used_still first most held new some = records_used s keys are k within first most held (below_most first most held) new some

  pub used_before : (first most : ℕ) → AreRecords s keys first most → (new : Opened) → AreRecords (with_value s (slice_index keys k) new) keys (min first k) most
  used_before first most held new = records_freed s keys are k within first (min first k) most held (below_most first most held) (omega arith) (omega arith) new

  -- another file
  pub changed : (new : Opened) (g : OpenFile → OpenFile) → file_of new ≡ g (file_of old) → new.users ≡ old.users → option_map (λ f. counted_with_file c k (g f)) (at_number c.files k) ≡ Some (after new)
  changed new g same users =
      ap (λ (v : Counted). option_map (λ f. counted_with_file v k (g f)) (at_number v.files k)) (sym seen)
      ∙ changed_after (slots_under s keys) k old new slot g there_before same users ∙ ap Some (sym (counted_after s keys are k within new))

-- ---- two tables

-- the record of a number that was not written is the same
pub unwritten : (s t : Records) (keys : List ℕ) (number k : ℕ) (slot : Option Opened) → length keys ≡ 128 → slots_under t keys ≡ set (slots_under s keys) number slot → k < 128 → k ≢ number → record_at t (slice_index keys k) ≡ record_at s (slice_index keys k)
unwritten s t keys number k slot long is small other =
    sym (get_or-map (record_at t) keys k 0 None (omega arith))
    ∙ ap (λ (ps : List (Option Opened)). get_or ps k None) is
    ∙ get_or-set_other (slots_under s keys) number k slot None other
    ∙ get_or-map (record_at s) keys k 0 None (omega arith)

module _ (s t : Records) (keys others : List ℕ) (long : length keys ≡ 128) (also : length others ≡ 128) where
  -- numbers with the same slots have the same records
  pub record-same : slots_under s keys ≡ slots_under t others → (k : ℕ) → k < 128 → record_at s (slice_index keys k) ≡ record_at t (slice_index others k)
  record-same same k small =
      sym (get_or-map (record_at s) keys k 0 None (omega arith))
      ∙ ap (λ (ps : List (Option Opened)). get_or ps k None) same
      ∙ get_or-map (record_at t) others k 0 None (omega arith)

  -- the slots are the same if the first ones are, and the records of the others
  pub slots-same : (n : ℕ) → take n (slots_under s keys) ≡ take n (slots_under t others) → ((k : ℕ) → n ≤ k → k < 128 → record_at s (slice_index keys k) ≡ record_at t (slice_index others k)) → slots_under s keys ≡ slots_under t others
  slots-same n same rest =
      let mine = length-map keys (record_at s) in
      let theirs = length-map others (record_at t) in
      same_lists _ _ (omega arith) (λ k d in_range. elim (cases_lt k n) [
        | inl below ↦ sym (get_or-take n (slots_under s keys) k d below) ∙ ap (λ (ps : List (Option Opened)). get_or ps k d) same ∙ get_or-take n (slots_under t others) k d below
        | inr past ↦ get_or-map (record_at s) keys k 0 d (omega arith) ∙ rest k past (omega arith) ∙ sym (get_or-map (record_at t) others k 0 d (omega arith))
      ])

  -- the open files are the same if those of each number are
  pub files-same : ((k : ℕ) → k < 128 → option_map file_of (record_at s (slice_index keys k)) ≡ option_map file_of (record_at t (slice_index others k))) → (counted_of (slots_under s keys)).files ≡ (counted_of (slots_under t others)).files
  files-same same =
      let mine = length-map keys (record_at s) in
      let theirs = length-map others (record_at t) in
      let my_files = length-map (slots_under s keys) (option_map file_of) in
      let their_files = length-map (slots_under t others) (option_map file_of) in
      same_lists _ _ (omega arith) (λ k d in_range.
      let small : k < 128 = omega arith in
      get_or-map (option_map file_of) (slots_under s keys) k None d (omega arith)
      ∙ ap (option_map file_of) (get_or-map (record_at s) keys k 0 None (omega arith))
      ∙ same k small
      ∙ sym (get_or-map (option_map file_of) (slots_under t others) k None d (omega arith) ∙ ap (option_map file_of) (get_or-map (record_at t) others k 0 None (omega arith))))

-- no number past the end of those in use has an open file
pub none_from : (s : Records) (keys : List ℕ) (first most : ℕ) → AreRecords s keys first most → (k : ℕ) → most ≤ k → at_number (counted_of (slots_under s keys)).files k ≡ None
none_from s keys first most held k past = elim (cases_lt k 128) [
  | inl small ↦
      at_number-seen_read file_of (slots_under s keys) k
      ∙ ap (option_map file_of) (get_or-map (record_at s) keys k 0 None (omega (arith, held.are_keys.count)) ∙ held.unused k past small)
  | inr beyond ↦ at_number_past file_of (slots_under s keys) k (omega (arith, held.are_keys.count, length-map keys (record_at s)))
]

-- ---- the first records

-- each of the first `count` keys has a free record of its own
pub record AreFree (s : Records) (keys : List ℕ) (count : ℕ) : Type 0 where
  pub recorded : (k : ℕ) → k < count → ContainsKey s (slice_index keys k)
  pub free : (k : ℕ) → k < count → record_at s (slice_index keys k) ≡ None
  pub own : (j k : ℕ) → j < count → k < count → slice_index keys j ≡ slice_index keys k → j ≡ k

-- one record more
module _ (s t : Records) (keys : List ℕ) (count key : ℕ) (are : AreFree s keys count) (within : count < length keys) (vacant : get s key ≡ None) (new : Opened) (unused : new.users ≡ 0) (written : Updates s t key (Some new)) where
  earlier : (k : ℕ) → k < count → slice_index (set keys count key) k ≡ slice_index keys k
  earlier k below = get_or-set_other keys count k key 0 (omega arith)

  last : slice_index (set keys count key) count ≡ key
  last = get_or-set_same keys count key 0 within

  differs : (k : ℕ) → k < count → slice_index keys k ≢ key
  differs k below same = let there = are.recorded k below in let none = ap (get s) same ∙ vacant in cc

  own_more : (j k : ℕ) → j < count + 1 → k < count + 1 → slice_index (set keys count key) j ≡ slice_index (set keys count key) k → j ≡ k
  own_more j k below_j below_k same = elim (cases_eq j count) [
    | inl j_last ↦ elim (cases_eq k count) [
      | inl k_last ↦ j_last ∙ sym k_last
      | inr before ↦ absurd (differs k (omega arith) (sym (earlier k (omega arith)) ∙ sym same ∙ ap (slice_index (set keys count key)) j_last ∙ last))
    ]
    | inr before ↦ elim (cases_eq k count) [
      | inl k_last ↦ absurd (differs j (omega arith) (sym (earlier j (omega arith)) ∙ same ∙ ap (slice_index (set keys count key)) k_last ∙ last))
      | inr k_before ↦ are.own j k (omega arith) (omega arith) (sym (earlier j (omega arith)) ∙ same ∙ earlier k (omega arith))
    ]
  ]

  stays : (k : ℕ) → k < count → get t (slice_index (set keys count key) k) ≡ get s (slice_index keys k)
  stays k below = ap (get t) (earlier k below) ∙ written.others (slice_index keys k) (differs k below)

  written_last : (k : ℕ) → k ≡ count → get t (slice_index (set keys count key) k) ≡ Some new
  written_last k is_last = ap (λ j. get t (slice_index (set keys count key) j)) is_last ∙ ap (get t) last ∙ written.changed

  recorded_more : (k : ℕ) → k < count + 1 → ContainsKey t (slice_index (set keys count key) k)
  recorded_more k below = elim (cases_eq k count) [
    | inl is_last ↦ ap is_some (written_last k is_last)
    | inr before ↦ ap is_some (stays k (omega arith)) ∙ are.recorded k (omega arith)
  ]

  free_more : (k : ℕ) → k < count + 1 → record_at t (slice_index (set keys count key) k) ≡ None
  free_more k below = elim (cases_eq k count) [
    | inl is_last ↦ ap (option_and_then where_used) (written_last k is_last) ∙ used_none new unused
    | inr before ↦ ap (option_and_then where_used) (stays k (omega arith)) ∙ are.free k (omega arith)
  ]

  pub one_more : AreFree t (set keys count key) (count + 1)
  one_more = record { recorded = recorded_more; free = free_more; own = own_more }

-- free records have no open files
free_slots : (s : Records) (keys : List ℕ) → ((k : ℕ) → k < length keys → record_at s (slice_index keys k) ≡ None) → slots_under s keys ≡ replicate (length keys) None
free_slots s [] free = refl
free_slots s (key ∷ keys) free =
    ap₂ (λ (p : Option Opened) ps. p ∷ ps) (free 0 (omega arith)) (free_slots s keys (λ k below. free (suc k) (omega arith)))

pub none_open : (s : Records) (keys : List ℕ) → length keys ≡ 128 → AreFree s keys 128 → counted_of (slots_under s keys) ≡ no_files
none_open s keys all are =
    no_slots (slots_under s keys) (free_slots s keys (λ k below. are.free k (omega (arith, all))) ∙ ap (λ n. replicate n None) all)
