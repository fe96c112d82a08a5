-- A scan of the slots of a directory that starts with one of its names.
use Rattle.std.proofs.Common.{◌≡◌, ◌≢◌, ℕ, ◌+◌, ◌<◌, take, Bool, true, false, cond, Option, None, Some, is_some, refl, ap, sym, ◌∙◌, arith}
use Rattle.std.specs.Ordering.{is_lt, ordering_reverse}
use Rattle.std.specs.declared.cmp.Ordering.{Ordering}
use Rattle.std.specs.declared.cmp.Ordering.TheVariants.{Less, Equal, Greater}
use Rattle.pv_model.specs.declared.version.Version.{Version}
use Rattle.pv_model.specs.Machine.{Bytes, is_past, next_name, Entries}
use Rattle.pv_dirs.specs.Slots.{slot_at, slot_count, name_in_slot, slot_entry, slot_entries, in_order, IsDistinct}
use Rattle.pv_dirs.specs.Listing.{better_of, IsListedName, IsNextName}
use Rattle.pv_dirs.proofs.SlotBytes.{length-slot_entries, get_or-slot_entries}
use Rattle.pv_dirs.proofs.SortedEntries.{by_name, total, same_name, find_at, find-in_order}
use Rattle.pv_dirs.proofs.NextNames.{less_from, better, better-is, better_least, next_name-more, next_name_in_order}

-- the lesser of two optional names
abbrev pub lesser : Option Bytes → Option Bytes → Option Bytes
lesser None best = best
lesser (Some name) best = better true name best

pub lesser-None : (start : Option Bytes) → lesser start None ≡ start
lesser-None None = refl
lesser-None (Some name) = refl

turned : (a b : Bytes) (o : Ordering) → by_name a b ≡ o → by_name b a ≡ ordering_reverse o
turned a b o is = total.antisymm b a ∙ ap ordering_reverse is

not_less : (o : Ordering) → o ≢ Less → is_lt o ≡ false
not_less Less other = absurd (other refl)
not_less Equal other = refl
not_less Greater other = refl

-- the lesser of two names does not depend on their order
lesser_of_two : (a b : Bytes) → better true a (Some b) ≡ better true b (Some a)
lesser_of_two a b = elim (by_name a b) as (λ o. by_name a b ≡ o → better true a (Some b) ≡ better true b (Some a)) [
  | Less ↦ λ is. rw (is, turned a b Less is) refl
  | Equal ↦ λ is. rw (is, turned a b Equal is) (ap Some (sym (same_name a b is)))
  | Greater ↦ λ is. rw (is, turned a b Greater is) refl
] refl

-- a name that is not less than another is not less than a smaller one
pub stays : (a c x : Bytes) → is_lt (by_name c x) ≡ true → is_lt (by_name a x) ≡ false → is_lt (by_name a c) ≡ false
stays a c x below not_below = elim (is_lt (by_name a c)) as (λ b. is_lt (by_name a c) ≡ b → b ≡ false) [
  | true ↦ λ is. let less = total.trans a c x (less_from (by_name a c) is) (less_from (by_name c x) below) in let no = sym (ap is_lt less) ∙ not_below in cc
  | false ↦ λ is. refl
] refl

both : (a c x : Bytes) (below_c below_a : Bool) → is_lt (by_name c x) ≡ below_c → is_lt (by_name a x) ≡ below_a
    → better true a (cond below_c (Some c) (Some x)) ≡ better true c (cond below_a (Some a) (Some x))
both a c x true true is_c is_a = lesser_of_two a c
both a c x true false is_c is_a = rw (is_c, stays a c x is_c is_a) refl
both a c x false true is_c is_a = rw (is_a, stays c a x is_a is_c) refl
both a c x false false is_c is_a = rw (is_c, is_a) refl

-- two names improve the best one in either order
either_order : (b : Bool) (a c : Bytes) (best : Option Bytes) → better true a (better b c best) ≡ better b c (better true a best)
either_order false a c best = refl
either_order true a c None = lesser_of_two a c
either_order true a c (Some x) = both a c x (is_lt (by_name c x)) (is_lt (by_name a x)) refl refl

lesser-better : (start : Option Bytes) (b : Bool) (name : Bytes) (best : Option Bytes) → lesser start (better b name best) ≡ better b name (lesser start best)
lesser-better None b name best = refl
lesser-better (Some a) b name best = either_order b a name best

module _ (v : Version) (last : Option Bytes) (bytes : Bytes) (k : ℕ) (start best : Option Bytes) (d : IsDistinct (slot_entries v bytes)) (within : k < slot_count v bytes) (best_is : best ≡ lesser start (next_name last (in_order (take k (slot_entries v bytes))))) where
  -- the next name with one more slot
  pub next_name-slot : better_of last (name_in_slot (slot_at v bytes k)) best ≡ lesser start (next_name last (in_order (take (k + 1) (slot_entries v bytes))))
  next_name-slot =
      let name = name_in_slot (slot_at v bytes k) in
      let more = next_name-more last (slot_entries v bytes) k (slot_entry v bytes k) d (omega (arith, length-slot_entries v bytes)) (get_or-slot_entries v bytes k (slot_entry v bytes k) within) in
      sym (better-is (is_past last name) name best)
      ∙ ap (better (is_past last name) name) best_is
      ∙ sym (lesser-better start (is_past last name) name (next_name last (in_order (take k (slot_entries v bytes)))))
      ∙ ap (lesser start) (sym more)

-- a name of the list does not improve the best of all
no_better : (b : Bool) (last : Option Bytes) (es : Entries) (name : Bytes) (next : Option Bytes) → is_past last name ≡ b → IsListedName es name → IsNextName last es next → lesser (better b name None) next ≡ next
no_better false last es name next is listed best = refl
no_better true last es name None is listed best = absurd (best name listed is)
no_better true last es name (Some e) is listed best = sym (better_least true name e (not_less (by_name name e) (best.least name listed is)))

-- the name of a slot is listed
pub slot_listed : (v : Version) (bytes : Bytes) (k : ℕ) → IsDistinct (slot_entries v bytes) → k < slot_count v bytes → IsListedName (in_order (slot_entries v bytes)) (name_in_slot (slot_at v bytes k))
slot_listed v bytes k d within =
    let entry = slot_entry v bytes k in
    ap is_some (find-in_order entry.0 (slot_entries v bytes)
    ∙ find_at (slot_entries v bytes) k entry d (omega (arith, length-slot_entries v bytes)) (get_or-slot_entries v bytes k entry within))

module _ (v : Version) (last : Option Bytes) (bytes : Bytes) (k : ℕ) (start : Option Bytes) (d : IsDistinct (slot_entries v bytes)) (within : k < slot_count v bytes) (start_is : start ≡ better_of last (name_in_slot (slot_at v bytes k)) None) where
  -- a scan that starts with any name of the directory ends with the next name
  pub next_name-start : lesser start (next_name last (in_order (slot_entries v bytes))) ≡ next_name last (in_order (slot_entries v bytes))
  next_name-start =
      let name = name_in_slot (slot_at v bytes k) in
      ap (λ (s : Option Bytes). lesser s (next_name last (in_order (slot_entries v bytes)))) (start_is ∙ sym (better-is (is_past last name) name None))
      ∙ no_better (is_past last name) last (in_order (slot_entries v bytes)) name (next_name last (in_order (slot_entries v bytes))) refl (slot_listed v bytes k d within) (next_name_in_order last (slot_entries v bytes))
