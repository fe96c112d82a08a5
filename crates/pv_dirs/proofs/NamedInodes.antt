-- The next of the names in the slots of a directory that have an inode number.
use Rattle.std.proofs.Common.{◌≡◌, ◌≢◌, ℕ, ◌+◌, ◌<◌, Bool, true, false, cond, Option, None, Some, is_some, refl, sym, ap, subst, ◌∙◌, ◌⊎◌, inl, inr, arith}
use Rattle.std.proofs.lemmas.Bool.{cases_eq}
use Rattle.std.specs.Ordering.{is_lt}
use Rattle.pv_model.specs.declared.version.Version.{Version}
use Rattle.pv_model.specs.Machine.{Bytes, is_past, Tree, is_directory_at, find_entry}
use Rattle.pv_inodes.specs.Files.{Files, inode_bytes_at}
use Rattle.pv_dirs.specs.Listing.{better_of, IsNextOf, IsNextNameOf}
use Rattle.pv_dirs.specs.Slots.{slot_at, slot_count, name_in_slot, inode_in_slot, slot_entries, IsInSlots}
use Rattle.pv_dirs.specs.Trees.{tree_of_files, IsHolding}
use Rattle.pv_dirs.proofs.AscendingNames.{listed_in}
use Rattle.pv_dirs.proofs.SortedEntries.{by_name, find-in_order}
use Rattle.pv_dirs.proofs.NextNames.{better, better-is, same_Equal}
use Rattle.pv_dirs.proofs.SlotScans.{stays}
use Rattle.pv_dirs.proofs.SlotBytes.{find-slot_entries}
use Rattle.pv_dirs.proofs.FileTrees.{directory_slotted}
use Rattle.pv_dirs.proofs.TreeViews.{viewed_directory, viewed_find}

-- ---- names with a property

module _ (P Q : Bytes → Type 0) (last : Option Bytes) where
  -- equivalent properties have the same next name
  pub next-same : (next : Option Bytes) → ((name : Bytes) → P name → Q name) → ((name : Bytes) → Q name → P name) → IsNextOf P last next → IsNextOf Q last next
  next-same None forth back none = λ other is. none other (back other is)
  next-same (Some name) forth back next = record {
    named = forth name next.named;
    following = next.following;
    least = λ other is after. next.least other (back other is) after;
  }

  -- with one more name
  module _ (name : Bytes) (old : (other : Bytes) → P other → Q other) (new : Q name) (split : (other : Bytes) → Q other → P other ⊎ (other ≡ name)) where
    itself : (other : Bytes) → other ≡ name → is_past (Some other) name ≡ false
    itself other same = ap (λ (x : Bytes). is_lt (by_name x name)) same ∙ ap is_lt (same_Equal name)

    next-better : (b : Bool) (best : Option Bytes) → is_past last name ≡ b → IsNextOf P last best → IsNextOf Q last (better b name best)
    next-better false None is none = λ other q. elim (split other q) [
      | inl p ↦ none other p
      | inr same ↦ ap (is_past last) same ∙ is
    ]
    next-better false (Some best) is next = record {
      named = old best next.named;
      following = next.following;
      least = λ other q after. elim (split other q) [
        | inl p ↦ next.least other p after
        | inr same ↦ let no : true ≡ false = sym after ∙ ap (is_past last) same ∙ is in cc
      ];
    }
    next-better true None is none = record {
      named = new;
      following = is;
      least = λ other q after. elim (split other q) [
        | inl p ↦ let no : true ≡ false = sym after ∙ none other p in cc
        | inr same ↦ itself other same
      ];
    }
    next-better true (Some best) is next = elim (is_lt (by_name name best)) as (λ b. is_lt (by_name name best) ≡ b → IsNextOf Q last (cond b (Some name) (Some best))) [
      | true ↦ λ less. record {
        named = new;
        following = is;
        least = λ other q after. elim (split other q) [
          | inl p ↦ stays other name best less (next.least other p after)
          | inr same ↦ itself other same
        ];
      }
      | false ↦ λ not_less. record {
        named = old best next.named;
        following = next.following;
        least = λ other q after. elim (split other q) [
          | inl p ↦ next.least other p after
          | inr same ↦ ap (λ (x : Bytes). is_lt (by_name x best)) same ∙ not_less
        ];
      }
    ] refl

    pub next-more : (best : Option Bytes) → IsNextOf P last best → IsNextOf Q last (better_of last name best)
    next-more best next = subst (IsNextOf Q last) (better-is (is_past last name) name best) (next-better (is_past last name) best refl next)

-- ---- in slots

module _ (v : Version) (bytes : Bytes) (n : ℕ) (last : Option Bytes) where
  -- no slot
  pub next-none : IsNextOf (IsInSlots v bytes 0 n) last None
  next-none = λ other is. absurd (omega (arith, is.1))

  module _ (k : ℕ) (best : Option Bytes) (so : IsNextOf (IsInSlots v bytes k n) last best) where
    earlier : (name : Bytes) → IsInSlots v bytes k n name → IsInSlots v bytes (k + 1) n name
    earlier name is = (is.0, omega (arith, is.1), is.2, is.3)

    -- one more slot with another number
    pub next-skipped : inode_in_slot (slot_at v bytes k) ≢ n → IsNextOf (IsInSlots v bytes (k + 1) n) last best
    next-skipped other = next-same (IsInSlots v bytes k n) (IsInSlots v bytes (k + 1) n) last best earlier
        (λ name is. elim (cases_eq is.0 k) [
          | inl here ↦ absurd (other (ap (λ i. inode_in_slot (slot_at v bytes i)) (sym here) ∙ is.2))
          | inr there ↦ (is.0, omega (arith, is.1), is.2, is.3)
        ]) so

    -- one more slot with this number
    pub next-taken : inode_in_slot (slot_at v bytes k) ≡ n → IsNextOf (IsInSlots v bytes (k + 1) n) last (better_of last (name_in_slot (slot_at v bytes k)) best)
    next-taken same = next-more (IsInSlots v bytes k n) (IsInSlots v bytes (k + 1) n) last (name_in_slot (slot_at v bytes k)) earlier (k, omega arith, same, refl)
        (λ name is. elim (cases_eq is.0 k) [
          | inl here ↦ inr (sym is.3 ∙ ap (λ i. name_in_slot (slot_at v bytes i)) here)
          | inr there ↦ inl (is.0, omega (arith, is.1), is.2, is.3)
        ]) best so

-- ---- in a directory

module _ (f : Files) (b : ℕ) (t : Tree) (d n : ℕ) (view : tree_of_files f ≡ t) (h : IsHolding f b) (is : is_directory_at t d ≡ true) where
  found_in_slot : (k : ℕ) (name : Bytes) → k < slot_count f.version (inode_bytes_at f d) → name_in_slot (slot_at f.version (inode_bytes_at f d) k) ≡ name → find_entry t d name ≡ Some (inode_in_slot (slot_at f.version (inode_bytes_at f d) k))
  found_in_slot k name below named =
      viewed_find f t d view name is
      ∙ find-slot_entries f.version (inode_bytes_at f d) k name (directory_slotted f b d h (viewed_directory f t d view is)).distinct below named

  -- the name in a slot leads to the node whose number the slot has
  entry_of_slot : (name : Bytes) → IsInSlots f.version (inode_bytes_at f d) (slot_count f.version (inode_bytes_at f d)) n name → find_entry t d name ≡ Some n
  entry_of_slot name at = found_in_slot at.0 name at.1 at.3 ∙ ap Some at.2

  -- a name that leads to a node is in a slot with the node's number
  slot_of_entry : (name : Bytes) → find_entry t d name ≡ Some n → IsInSlots f.version (inode_bytes_at f d) (slot_count f.version (inode_bytes_at f d)) n name
  slot_of_entry name there =
      let at = listed_in f.version (inode_bytes_at f d) name (ap is_some (find-in_order name (slot_entries f.version (inode_bytes_at f d)) ∙ sym (viewed_find f t d view name is) ∙ there)) in
      let same : Some (inode_in_slot (slot_at f.version (inode_bytes_at f d) at.0)) ≡ Some n = sym (found_in_slot at.0 name at.1 at.2) ∙ there in
      (at.0, at.1, cc, at.2)

  -- the next of the names in the slots is the next name
  pub next-viewed : (last next : Option Bytes) → IsNextOf (IsInSlots f.version (inode_bytes_at f d) (slot_count f.version (inode_bytes_at f d)) n) last next → IsNextNameOf t d n last next
  next-viewed last next so = next-same (IsInSlots f.version (inode_bytes_at f d) (slot_count f.version (inode_bytes_at f d)) n) (λ name. find_entry t d name ≡ Some n) last next entry_of_slot slot_of_entry so
