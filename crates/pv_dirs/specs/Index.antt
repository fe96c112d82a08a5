-- The index of the entries of directories.
use Rattle.std.specs.Prelude.{◌≡◌, ◌≢◌, ◌⊎◌, ℕ, ◌+◌, ◌-◌, ◌*◌, ◌%◌, ◌<◌, ◌≤◌, ◌&&◌, min, nat_lt, [], ◌∷◌, bit_and, slice_index_or, Bool, true, false, Option, None, Some}
use Rattle.std.specs.Cmp.Lexicographic.{slice_cmp}
use Rattle.std.specs.Ordering.{nat_cmp}
use Rattle.std.specs.declared.cmp.Ordering.TheVariants.{Less}
use Rattle.pv_model.specs.declared.kind.Kind.TheVariants.{Directory}
use Rattle.pv_model.specs.declared.limits.TheConstants.{INODES}
use Rattle.pv_model.specs.declared.version.Version.{Version}
use Rattle.pv_model.specs.Machine.{Bytes}
use Rattle.pv_inodes.specs.Files.{Contained, Files, held}
use Rattle.pv_dirs.specs.declared.index.Index.{Index}
use Rattle.pv_dirs.specs.declared.index.TheConstants.{PLACES, FACTOR}
use Rattle.pv_dirs.specs.declared.index.Bucket.{Bucket}
use Rattle.pv_dirs.specs.declared.index.Bucket.TheVariants.{Empty, Slot, Shared}
use Rattle.pv_dirs.specs.Slots.{slot_at, slot_count, name_in_slot}
use Rattle.pv_dirs.specs.Trees.{IsHolding}

-- a hash extended by bytes: each byte has FACTOR times the weight of the next
unfoldable pub sum_after : ℕ → Bytes → ℕ
sum_after sum [] = sum
sum_after sum (byte ∷ bytes) = sum_after ((sum * FACTOR + byte) % 65536) bytes

-- the bucket to which a name of a directory hashes under a mask
unfoldable pub bucket_of : ℕ → ℕ → Bytes → ℕ
bucket_of mask d name = bit_and (sum_after d name) mask % PLACES

-- the bucket of a name
unfoldable pub bucket_at : Index → ℕ → Bytes → Bucket
bucket_at ix d name = slice_index_or ix.places (bucket_of ix.mask d name) Empty

-- an index leads to the entry in slot k of directory d: the bucket of its name is this slot, or is shared
abbrev pub LeadsToSlot : Index → ℕ → Bytes → ℕ → Type 0
LeadsToSlot ix d name k = (bucket_at ix d name ≡ Slot d k) ⊎ (bucket_at ix d name ≡ Shared)

-- the number of directories whose order an index can record
abbrev pub recorded_count : Index → ℕ
recorded_count ix = min ix.mask INODES + 1

-- whether an index records that the names of directory d ascend
unfoldable pub known : Index → ℕ → Bool
known ix d = nat_lt d (recorded_count ix) && slice_index_or ix.ascending d false

-- the names in the first `count` slots ascend in byte order
abbrev pub Ascend : Version → Bytes → ℕ → Type 0
Ascend v bytes count = (j k : ℕ) → j < k → k < count → slice_cmp nat_cmp (name_in_slot (slot_at v bytes j)) (name_in_slot (slot_at v bytes k)) ≡ Less

-- these names ascend, and `name` follows them
pub record AscendTo (v : Version) (bytes : Bytes) (count : ℕ) (name : Bytes) : Type 0 where
  pub ascend : Ascend v bytes count
  pub before : (k : ℕ) → k < count → slice_cmp nat_cmp (name_in_slot (slot_at v bytes k)) name ≡ Less

-- an index leads to each entry in the first `count` slots of directory d; if it records that the names ascend, they do
pub record AreLedUpTo (ix : Index) (v : Version) (d : ℕ) (bytes : Bytes) (count : ℕ) : Type 0 where
  pub slots : (k : ℕ) → k < count → LeadsToSlot ix d (name_in_slot (slot_at v bytes k)) k
  pub ordered : known ix d ≡ true → Ascend v bytes count

-- the same for all slots of a directory with these bytes
abbrev pub AreLed : Index → Version → ℕ → Bytes → Type 0
AreLed ix v d bytes = AreLedUpTo ix v d bytes (slot_count v bytes)

-- an index to which entries of directory d were added: it leads to each entry as before, and its record of the order of
-- any other directory is unchanged
pub record LeadsAsBefore (d : ℕ) (old new : Index) : Type 0 where
  pub others : (e k : ℕ) (other : Bytes) → LeadsToSlot old e other k → LeadsToSlot new e other k
  pub known : (e : ℕ) → e ≢ d → known new e ≡ known old e

-- slot k is the one after that of the last name, or slot 0 if there is no last name
abbrev pub IsSlotAfter : Option Bytes → Version → Bytes → ℕ → Type 0
IsSlotAfter None v bytes k = k ≡ 0
IsSlotAfter (Some last) v bytes k = (1 ≤ k) × (name_in_slot (slot_at v bytes (k - 1)) ≡ last)

-- an index leads to each entry of each directory
abbrev pub IsIndexed : Files → Index → Type 0
IsIndexed f ix = (n : ℕ) (c : Contained) → held f n ≡ Some c → c.sort ≡ Directory → AreLed ix f.version n c.bytes

-- the invariant of directories
pub record IsConsistentIndex (f : Files) (blocks : ℕ) (ix : Index) : Type 0 where
  pub holding : IsHolding f blocks
  pub indexed : IsIndexed f ix
