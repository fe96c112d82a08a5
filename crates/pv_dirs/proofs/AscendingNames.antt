-- Names that ascend from slot to slot.
use Rattle.std.proofs.Common.{◌≡◌, ◌≢◌, ℕ, suc, ◌+◌, ◌-◌, ◌<◌, ◌≤◌, length, get_or, true, false, cond, [], ◌∷◌, Option, None, Some, is_some, refl, ap, sym, ◌∙◌, arith, inl, inr}
use Rattle.std.proofs.lemmas.Bool.{cases_eq, cases_lt, lt-ltb, le-ltb}
use Rattle.std.specs.Ordering.{is_lt, ordering_reverse}
use Rattle.std.specs.declared.cmp.Ordering.TheVariants.{Less, Equal, Greater}
use Rattle.pv_model.specs.declared.version.Version.{Version}
use Rattle.pv_model.specs.Machine.{Bytes, is_past, next_name, Entries}
use Rattle.pv_dirs.specs.Index.{Ascend, AscendTo, IsSlotAfter}
use Rattle.pv_dirs.specs.Listing.{IsListedName, IsLeastPast, IsNextName}
use Rattle.pv_dirs.specs.Slots.{slot_at, slot_count, name_in_slot, slot_entries, name_at, in_order, IsDistinct}
use Rattle.std.specs.FinMap.Entries.{find}
use Rattle.pv_dirs.proofs.SortedEntries.{by_name, total, same_name, find-in_order, absent_from}
use Rattle.pv_dirs.proofs.NextNames.{less_from, greater_from, listed_cases, same_Equal, next_name_in_order}
use Rattle.pv_dirs.proofs.SlotScans.{slot_listed}
use Rattle.pv_dirs.proofs.SlotBytes.{length-slot_entries, get_or-slot_entries}

module _ (v : Version) (bytes : Bytes) where
  abbrev name_of : ℕ → Bytes
  name_of k = name_in_slot (slot_at v bytes k)

  -- no slots
  pub ascend_to_none : (count : ℕ) (name : Bytes) → count ≡ 0 → AscendTo v bytes count name
  ascend_to_none count name none = record {
    ascend = λ j k less below. absurd (omega arith);
    before = λ k below. absurd (omega arith);
  }

  -- a name that follows the last of them
  pub ascend_to : (count : ℕ) (name : Bytes) → 1 ≤ count → Ascend v bytes count → by_name (name_of (count - 1)) name ≡ Less → AscendTo v bytes count name
  ascend_to count name some up last = record {
    ascend = up;
    before = λ k below. elim (cases_eq k (count - 1)) [
      | inl same ↦ ap (λ i. by_name (name_of i) name) same ∙ last
      | inr other ↦ total.trans (name_of k) (name_of (count - 1)) name (up k (count - 1) (omega arith) (omega arith)) last
    ];
  }

  -- one more slot
  pub ascend_more : (count : ℕ) → AscendTo v bytes count (name_of count) → Ascend v bytes (count + 1)
  ascend_more count to j k less below = elim (cases_eq k count) [
    | inl same ↦ ap (λ i. by_name (name_of j) (name_of i)) same ∙ to.before j (omega arith)
    | inr other ↦ to.ascend j k less (omega arith)
  ]

-- ---- the name in a slot

pub name_within : (v : Version) (bytes : Bytes) (k : ℕ) → k < slot_count v bytes → name_at v bytes k ≡ Some (name_in_slot (slot_at v bytes k))
name_within v bytes k below = ap (λ b. cond b (Some (name_in_slot (slot_at v bytes k))) None) (lt-ltb k (slot_count v bytes) below)

pub name_past : (v : Version) (bytes : Bytes) (k : ℕ) → slot_count v bytes ≤ k → name_at v bytes k ≡ None
name_past v bytes k past = ap (λ b. cond b (Some (name_in_slot (slot_at v bytes k))) None) (le-ltb k (slot_count v bytes) past)

-- ---- the next name

-- a listed name has an index
listed_at : (es : Entries) (q : Bytes) → IsListedName es q → (j : ℕ) × (j < length es) × ((d : Bytes × ℕ) → (get_or es j d).0 ≡ q)
listed_at [] q listed = cc
listed_at (e ∷ es) q listed =
    listed_cases e es q ((j : ℕ) × (j < length (e ∷ es)) × ((d : Bytes × ℕ) → (get_or (e ∷ es) j d).0 ≡ q)) (λ same. (0, omega arith, λ d. sym same))
    (λ there. let at = listed_at es q there in (suc at.0, omega arith, λ d. at.2 d)) listed

-- a name that is listed is in a slot
pub listed_in : (v : Version) (bytes : Bytes) (other : Bytes) → IsListedName (in_order (slot_entries v bytes)) other → (j : ℕ) × (j < slot_count v bytes) × (name_in_slot (slot_at v bytes j) ≡ other)
listed_in v bytes other listed =
    let at = listed_at (slot_entries v bytes) other (ap is_some (sym (find-in_order other (slot_entries v bytes))) ∙ listed) in
    let within : at.0 < slot_count v bytes = omega (arith, length-slot_entries v bytes) in
    let none : Bytes × ℕ = ([], 0) in
    (at.0, within, ap (λ (e : Bytes × ℕ). e.0) (sym (get_or-slot_entries v bytes at.0 none within)) ∙ at.2 none)

neither_less : (a b : Bytes) → by_name b a ≢ Less → by_name a b ≢ Less → a ≡ b
neither_less a b not_back not_forth = elim (by_name a b) as (λ o. by_name a b ≡ o → a ≡ b) [
  | Less ↦ λ is. absurd (not_forth is)
  | Equal ↦ λ is. same_name a b is
  | Greater ↦ λ is. absurd (not_back (total.antisymm b a ∙ ap ordering_reverse is))
] refl

-- the next name is unique
next_once : (last : Option Bytes) (es : Entries) (a b : Option Bytes) → IsNextName last es a → IsNextName last es b → a ≡ b
next_once last es None None is also = refl
next_once last es None (Some b) is also = absurd (is b also.listed also.following)
next_once last es (Some a) None is also = absurd (also a is.listed is.following)
next_once last es (Some a) (Some b) is also = ap Some (neither_less a b (is.least b also.listed also.following) (also.least a is.listed is.following))

module _ (v : Version) (bytes : Bytes) (up : Ascend v bytes (slot_count v bytes)) where
  -- a name is not less than one in a previous slot
  not_less : (j k : ℕ) → j ≤ k → k < slot_count v bytes → by_name (name_in_slot (slot_at v bytes k)) (name_in_slot (slot_at v bytes j)) ≢ Less
  not_less j k before below less = elim (cases_eq j k) [
    | inl same ↦ let equal = ap (λ i. by_name (name_in_slot (slot_at v bytes k)) (name_in_slot (slot_at v bytes i))) same ∙ same_Equal (name_in_slot (slot_at v bytes k)) in cc
    | inr other ↦ let greater = greater_from (name_in_slot (slot_at v bytes j)) (name_in_slot (slot_at v bytes k)) (up j k (omega arith) below) in cc
  ]

  -- the slots after that of the last name have the names that follow it
  after_from : (last : Option Bytes) (k : ℕ) → IsSlotAfter last v bytes k → (j : ℕ) → k ≤ j → j < slot_count v bytes → is_past last (name_in_slot (slot_at v bytes j)) ≡ true
  after_from None k is j from below = refl
  after_from (Some last) k is j from below =
      let less = up (k - 1) j (let some = is.0 in omega arith) below in
      ap (λ (q : Bytes). is_lt (by_name q (name_in_slot (slot_at v bytes j)))) (sym is.1) ∙ ap is_lt less

  not_after : (last : Option Bytes) (k : ℕ) → k ≤ slot_count v bytes → IsSlotAfter last v bytes k → (j : ℕ) → j < k → is_past last (name_in_slot (slot_at v bytes j)) ≢ true
  not_after None k within is j before following = omega arith
  not_after (Some last) k within is j before following =
      not_less j (k - 1) (omega arith) (omega arith) (ap (λ (q : Bytes). by_name q (name_in_slot (slot_at v bytes j))) is.1 ∙ less_from (by_name last (name_in_slot (slot_at v bytes j))) following)

  module _ (last : Option Bytes) (k : ℕ) (d : IsDistinct (slot_entries v bytes)) (within : k ≤ slot_count v bytes) (is : IsSlotAfter last v bytes k) where
    least_there : k < slot_count v bytes → IsLeastPast last (in_order (slot_entries v bytes)) (name_in_slot (slot_at v bytes k))
    least_there below = record {
      listed = slot_listed v bytes k d below;
      following = after_from last k is k (omega arith) below;
      least = λ other listed following less.
          let at = listed_in v bytes other listed in
          elim (cases_lt at.0 k) [
            | inl before ↦ not_after last k within is at.0 before (ap (is_past last) at.2 ∙ following)
            | inr from ↦ not_less k at.0 (omega arith) at.1 (ap (λ (q : Bytes). by_name q (name_in_slot (slot_at v bytes k))) at.2 ∙ less)
          ];
    }

    none_there : slot_count v bytes ≤ k → IsNextName last (in_order (slot_entries v bytes)) None
    none_there past = λ other listed following.
        let at = listed_in v bytes other listed in
        not_after last k within is at.0 (omega (arith, at.1)) (ap (is_past last) at.2 ∙ following)

    -- the next name is in the slot after that of the last one
    pub next_name-ascending : name_at v bytes k ≡ next_name last (in_order (slot_entries v bytes))
    next_name-ascending =
        let next = next_name_in_order last (slot_entries v bytes) in
        elim (cases_lt k (slot_count v bytes)) [
          | inl below ↦ name_within v bytes k below ∙ next_once last (in_order (slot_entries v bytes)) (Some (name_in_slot (slot_at v bytes k))) _ (least_there below) next
          | inr past ↦ name_past v bytes k (omega arith) ∙ next_once last (in_order (slot_entries v bytes)) None _ (none_there (omega arith)) next
        ]

-- ---- binary search

module _ (v : Version) (bytes : Bytes) (up : Ascend v bytes (slot_count v bytes)) (name : Bytes) where
  -- a name that follows the name in a slot follows those in all previous slots
  pub before_until : (m : ℕ) → m < slot_count v bytes → by_name (name_in_slot (slot_at v bytes m)) name ≡ Less → (k : ℕ) → k < m + 1 → by_name (name_in_slot (slot_at v bytes k)) name ≡ Less
  before_until m within less k below = elim (cases_eq k m) [
    | inl same ↦ ap (λ i. by_name (name_in_slot (slot_at v bytes i)) name) same ∙ less
    | inr other ↦ total.trans (name_in_slot (slot_at v bytes k)) (name_in_slot (slot_at v bytes m)) name (up k m (omega arith) within) less
  ]

  -- a name that does not follow the name in a slot does not follow those in later slots
  pub not_before_from : (m : ℕ) → m < slot_count v bytes → is_lt (by_name (name_in_slot (slot_at v bytes m)) name) ≡ false → (k : ℕ) → m ≤ k → k < slot_count v bytes → by_name (name_in_slot (slot_at v bytes k)) name ≢ Less
  not_before_from m within not k from below less =
      let back = before_until k below less m (omega arith) in
      let no = sym not ∙ ap is_lt back in cc

  -- if a name is not in the first slot whose name does not precede it, it is in no slot
  pub absent_ascending : (k : ℕ) → ((j : ℕ) → j < k → by_name (name_in_slot (slot_at v bytes j)) name ≡ Less) → ((j : ℕ) → k ≤ j → j < slot_count v bytes → by_name (name_in_slot (slot_at v bytes j)) name ≢ Less)
      → (k < slot_count v bytes → name_in_slot (slot_at v bytes k) ≢ name) → find by_name name (slot_entries v bytes) ≡ None
  absent_ascending k before following not =
      absent_from name (slot_entries v bytes) (λ j e within same.
      let below : j < slot_count v bytes = omega (arith, length-slot_entries v bytes) in
      let named : name_in_slot (slot_at v bytes j) ≡ name = ap (λ (x : Bytes × ℕ). x.0) (sym (get_or-slot_entries v bytes j e below)) ∙ same in
      elim (cases_lt j k) [
        | inl less ↦
            let no = sym (before j less) ∙ ap (λ (q : Bytes). by_name q name) named ∙ same_Equal name in cc
        | inr from ↦ elim (cases_eq j k) [
          | inl here ↦ not (omega arith) (ap (λ i. name_in_slot (slot_at v bytes i)) (sym here) ∙ named)
          | inr later ↦ following k (omega arith) (omega arith) (ap (by_name (name_in_slot (slot_at v bytes k))) (sym named) ∙ up k j (omega arith) below)
        ]
      ])
