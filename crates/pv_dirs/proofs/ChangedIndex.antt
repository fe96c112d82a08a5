-- An index of the entries of files that change.
use Rattle.std.proofs.Common.{◌≡◌, ◌≢◌, ℕ, suc, ◌*◌, ◌<◌, ◌≤◌, Bool, true, [], ◌∷◌, ◌++◌, length, replicate, None, Some, refl, sym, ap, subst, ◌∙◌, inl, inr, arith}
use Rattle.std.specs.FinMap.Entries.{find}
use Rattle.std.proofs.lemmas.Bool.{cases_eq, cases_lt}
use Rattle.pv_model.specs.declared.kind.Kind.{Kind}
use Rattle.pv_model.specs.declared.kind.Kind.TheVariants.{Directory}
use Rattle.pv_model.specs.declared.version.Version.{Version}
use Rattle.pv_model.specs.Machine.{Bytes, overwrite, Numbered, at_number, with_number, entry_length, is_directory_at}
use Rattle.pv_inodes.specs.Files.{Contained, Files, held, inode_bytes_at, files_with_bytes, written_files, with_new, without}
use Rattle.pv_inodes.proofs.EditedFiles.{files_with_bytes-is}
use Rattle.pv_inodes.proofs.NumberMaps.{at_number-within}
use Rattle.pv_dirs.specs.declared.index.Index.{Index}
use Rattle.pv_dirs.specs.Index.{bucket_at, known, LeadsToSlot, AscendTo, AreLed, IsIndexed}
use Rattle.pv_dirs.specs.Slots.{slot_at, slot_count, name_in_slot, slot_entries}
use Rattle.pv_dirs.specs.Trees.{tree_of_files, IsHolding}
use Rattle.pv_dirs.proofs.EntryAddition.{written_end}
use Rattle.pv_dirs.proofs.FileContents.{IsContent}
use Rattle.pv_dirs.proofs.SortedEntries.{by_name, absent_from}
use Rattle.pv_dirs.proofs.IndexedEntries.{leads-alike}
use Rattle.pv_dirs.proofs.MappedNumbers.{each-with_number, each-without_number}
use Rattle.pv_inodes.proofs.NumberMaps.{at_number-none}
use Rattle.pv_dirs.proofs.EntryRemoval.{shortened, shortened_is}
use Rattle.pv_dirs.proofs.SlotBytes.{length-slot_entries, get_or-slot_entries, closed_bytes, slot_at-append_before, slot_at-append_last, slot_count-append, slot_at-closed_hole, slot_at-closed_other, slot_count-closed, slot_count-old}
use Rattle.pv_dirs.proofs.EqualParts.{none_counted}
use Rattle.pv_dirs.proofs.FileTrees.{directory_held, directory_slotted}

-- an index leads to the entries of an inode
IsLed : Index → Version → ℕ → Contained → Type 0
IsLed ix v n c = c.sort ≡ Directory → AreLed ix v n c.bytes

-- an index leads to the entries of a directory
pub directory_led : (f : Files) (d : ℕ) (ix : Index) → IsIndexed f ix → is_directory_at (tree_of_files f) d ≡ true → AreLed ix f.version d (inode_bytes_at f d)
directory_led f d ix indexed is = indexed d (record { sort = Directory; bytes = inode_bytes_at f d }) (directory_held f d is) refl

-- an index with the same bucket for each name as another, and the same records, leads to the same entries
pub indexed-alike : (f : Files) (ix new : Index) → ((d : ℕ) (name : Bytes) → bucket_at new d name ≡ bucket_at ix d name) → ((d : ℕ) → known new d ≡ known ix d) → IsIndexed f ix → IsIndexed f new
indexed-alike f ix new same records indexed = λ n c there sort.
    let led = indexed n c there sort in
    record {
      slots = λ k below. leads-alike ix new n (name_in_slot (slot_at f.version c.bytes k)) k (same n (name_in_slot (slot_at f.version c.bytes k))) (led.slots k below);
      ordered = λ is. led.ordered (sym (records n) ∙ is);
    }

-- a name to which an index leads in no slot is not found
pub absent_unled : (v : Version) (bytes : Bytes) (d : ℕ) (name : Bytes) (ix : Index) → AreLed ix v d bytes → ((k : ℕ) → k < slot_count v bytes → name_in_slot (slot_at v bytes k) ≡ name → LeadsToSlot ix d name k → ⊥) → find by_name name (slot_entries v bytes) ≡ None
absent_unled v bytes d name ix led none =
    let all = length-slot_entries v bytes in
    absent_from name (slot_entries v bytes) (λ k e within same.
    let below : k < slot_count v bytes = omega arith in
    let named : name_in_slot (slot_at v bytes k) ≡ name = ap (λ (x : Bytes × ℕ). x.0) (sym (get_or-slot_entries v bytes k e below)) ∙ same in
    none k below named (subst (λ (q : Bytes). LeadsToSlot ix d q k) named (led.slots k below)))

-- an index that leads to the same entries as another, and records no more, except for directory n
pub record IsSameBut (n : ℕ) (ix new : Index) : Type 0 where
  pub leads : (m k : ℕ) (name : Bytes) → m ≢ n → LeadsToSlot ix m name k → LeadsToSlot new m name k
  pub known_before : (m : ℕ) → m ≢ n → known new m ≡ true → known ix m ≡ true

like_itself : (n : ℕ) (ix : Index) → IsSameBut n ix ix
like_itself n ix = record { leads = λ m k name other leads. leads; known_before = λ m other is. is }

-- it leads to the entries to which the other leads
pub led_like : (n m : ℕ) (ix new : Index) (v : Version) (bytes : Bytes) → IsSameBut n ix new → m ≢ n → AreLed ix v m bytes → AreLed new v m bytes
led_like n m ix new v bytes like other led = record {
  slots = λ k below. like.leads m k (name_in_slot (slot_at v bytes k)) other (led.slots k below);
  ordered = λ is. led.ordered (like.known_before m other is);
}

indexed-with_number : (f : Files) (n : ℕ) (c : Contained) (ix new : Index) → n < length f.nodes → IsIndexed f ix → IsSameBut n ix new → (c.sort ≡ Directory → AreLed new f.version n c.bytes) → IsIndexed (record f { nodes = with_number f.nodes n c }) new
unfolding IsLed
indexed-with_number f n c ix new within indexed others this =
    each-with_number (IsLed new f.version) f.nodes n c within
    (λ m y other there is. led_like n m ix new f.version y.bytes others other (indexed m y there is))
    (λ y is. let same : c ≡ y = cc in subst (IsLed new f.version n) same this)

pub indexed-files_with_bytes : (f : Files) (n : ℕ) (c : Contained) (xs : Bytes) (ix new : Index) → held f n ≡ Some c → IsIndexed f ix → IsSameBut n ix new → (c.sort ≡ Directory → AreLed new f.version n xs) → IsIndexed (files_with_bytes f n xs) new
indexed-files_with_bytes f n c xs ix new there indexed others this = rw (files_with_bytes-is f n c xs there) (indexed-with_number f n (record c { bytes = xs }) ix new (at_number-within f.nodes n c there) indexed others this)

pub indexed-without : (f : Files) (n : ℕ) (ix : Index) → IsIndexed f ix → IsIndexed (without f n) ix
unfolding IsLed
indexed-without f n ix indexed = each-without_number (IsLed ix f.version) f.nodes n indexed

-- a directory without slots
led-none : (v : Version) (d : ℕ) (ix : Index) → AreLed ix v d []
led-none v d ix = record {
  slots = λ k below. absurd (omega (arith, none_counted v));
  ordered = λ _ j k less below. absurd (omega (arith, none_counted v));
}

pub indexed-with_new : (f : Files) (n : ℕ) (sort : Kind) (ix : Index) → n < length f.nodes → IsIndexed f ix → IsIndexed (with_new f n sort) ix
indexed-with_new f n sort ix within indexed = indexed-with_number f n (record { sort = sort; bytes = [] }) ix ix within indexed (like_itself n ix) (λ e. led-none f.version n ix)

pub indexed-empty : (f : Files) (k : ℕ) (ix : Index) → f.nodes ≡ None ∷ replicate k None → IsIndexed f ix
indexed-empty f k ix none = λ n c there. let nothing = ap (λ (xs : Numbered Contained). at_number xs n) none ∙ at_number-none (suc k) n in absurd (cc)

-- ---- files and symbolic links

module _ (f : Files) (n : ℕ) (c : Contained) (is : IsContent f n c) (ix : Index) (indexed : IsIndexed f ix) where
  pub indexed-content : (xs : Bytes) → IsIndexed (files_with_bytes f n xs) ix
  indexed-content xs = indexed-files_with_bytes f n c xs ix ix is.there indexed (like_itself n ix) (λ e. absurd (is.other e))

  pub indexed-written_files : (at : ℕ) (bytes : Bytes) → IsIndexed (written_files f n at bytes) ix
  indexed-written_files at [] = indexed
  indexed-written_files at (x ∷ bytes) = indexed-content (overwrite (inode_bytes_at f n) at (x ∷ bytes))

-- ---- directories

module _ (f : Files) (b d : ℕ) (h : IsHolding f b) (is : is_directory_at (tree_of_files f) d ≡ true) (ix : Index) (indexed : IsIndexed f ix) where
  led : AreLed ix f.version d (inode_bytes_at f d)
  led = directory_led f d ix indexed is

  -- one more entry
  module _ (slot name : Bytes) (count : ℕ) (new : Index) (ascends : Bool) (long : length slot ≡ entry_length f.version) (named : name_in_slot slot ≡ name) (counted : count ≡ slot_count f.version (inode_bytes_at f d))
      (this : LeadsToSlot new d name count) (others : (e k : ℕ) (other : Bytes) → LeadsToSlot ix e other k → LeadsToSlot new e other k)
      (allowed : ascends ≡ true → AscendTo f.version (inode_bytes_at f d) count name)
      (bucket_at : known new d ≡ true → ascends ≡ true) (preserved : (e : ℕ) → e ≢ d → known new e ≡ known ix e) where
    added_led : AreLed new f.version d (inode_bytes_at f d ++ slot)
    added_led =
        let s = directory_slotted f b d h is in
        let bytes = inode_bytes_at f d in
        let v = f.version in
        let more = slot_count-append v bytes slot s.whole long in
        record {
          slots = λ k below. elim (cases_lt k (slot_count v bytes)) [
            | inl less ↦ rw (slot_at-append_before v bytes slot s.whole long k less) (others d k (name_in_slot (slot_at v bytes k)) (led.slots k less))
            | inr not_less ↦
                let last : k ≡ slot_count v bytes = omega arith in
                rw (slot_at-append_last v bytes slot s.whole long k last, named, last ∙ sym counted) this
          ];
          ordered = λ is j k less below.
              let to = allowed (bucket_at is) in
              let first : j < slot_count v bytes = omega arith in
              rw (slot_at-append_before v bytes slot s.whole long j first) (elim (cases_lt k (slot_count v bytes)) [
                | inl before ↦ rw (slot_at-append_before v bytes slot s.whole long k before) (to.ascend j k less (omega arith))
                | inr not_before ↦
                    let last : k ≡ slot_count v bytes = omega arith in
                    rw (slot_at-append_last v bytes slot s.whole long k last, named) (to.before j (omega arith))
              ]);
        }

    pub indexed-added : IsIndexed (written_files f d (length (inode_bytes_at f d)) slot) new
    indexed-added =
        rw (written_end f d slot long) (indexed-files_with_bytes f d (record { sort = Directory; bytes = inode_bytes_at f d }) (inode_bytes_at f d ++ slot) ix new (directory_held f d is) indexed (record {
          leads = λ m k other apart. others m k other;
          known_before = λ m apart is. sym (preserved m apart) ∙ is;
        }) (λ e. added_led))

  -- a hole that is filled with the last entry
  module _ (hole last : ℕ) (long : length (inode_bytes_at f d) ≡ entry_length f.version * suc last) (within : hole ≤ last) (less new : Index)
      (removed : (e k : ℕ) (other : Bytes) → (e ≡ d → k ≢ hole) → LeadsToSlot ix e other k → LeadsToSlot less e other k) (left : (e : ℕ) → known less e ≡ known ix e)
      (moved : LeadsToSlot less d (name_in_slot (slot_at f.version (inode_bytes_at f d) last)) last → LeadsToSlot new d (name_in_slot (slot_at f.version (inode_bytes_at f d) last)) hole)
      (changed : (e k : ℕ) (other : Bytes) → (e ≡ d → k ≢ last) → LeadsToSlot less e other k → LeadsToSlot new e other k)
      (stays : known new d ≡ true → last ≡ hole) (preserved : (e : ℕ) → known new e ≡ true → known less e ≡ true) where
    closed_led : AreLed new f.version d (closed_bytes f.version (inode_bytes_at f d) hole last)
    closed_led =
        let bytes = inode_bytes_at f d in
        let v = f.version in
        let all = slot_count-closed v bytes hole last long within in
        let count = slot_count-old v bytes hole last long within in
        record {
          slots = λ k below.
              let in_front : k < last = omega arith in
              elim (cases_eq k hole) [
                | inl here ↦
                    let apart : hole < last = omega arith in
                    rw (here, slot_at-closed_hole v bytes hole last long within apart)
                    (moved (removed d last (name_in_slot (slot_at v bytes last)) (λ e same. omega arith) (led.slots last (omega arith))))
                | inr there ↦
                    rw (slot_at-closed_other v bytes hole last long within k in_front there)
                    (changed d k (name_in_slot (slot_at v bytes k)) (λ e same. omega arith) (removed d k (name_in_slot (slot_at v bytes k)) (λ e. there) (led.slots k (omega arith))))
              ];
          ordered = λ is j k below_k below.
              let same : last ≡ hole = stays is in
              let in_front : k < last = omega arith in
              let first : j < last = omega arith in
              let apart_j : j ≢ hole = λ e. omega arith in
              let apart_k : k ≢ hole = λ e. omega arith in
              rw (slot_at-closed_other v bytes hole last long within j first apart_j, slot_at-closed_other v bytes hole last long within k in_front apart_k)
              (led.ordered (sym (left d) ∙ preserved d is) j k below_k (omega arith));
        }

    pub indexed-removed : IsIndexed (shortened f d hole (slot_at f.version (inode_bytes_at f d) last) last) new
    indexed-removed =
        rw (shortened_is f b d h is hole last long within)
        (indexed-files_with_bytes f d (record { sort = Directory; bytes = inode_bytes_at f d }) (closed_bytes f.version (inode_bytes_at f d) hole last) ix new (directory_held f d is) indexed (record {
          leads = λ m k other apart leads. changed m k other (λ same. absurd (apart same)) (removed m k other (λ same. absurd (apart same)) leads);
          known_before = λ m apart is. sym (left m) ∙ preserved m is;
        }) (λ e. closed_led))
