-- The start of the search for a free inode: each inode below it is in use.
use Rattle.std.proofs.Common.{◌≡◌, ◌≢◌, ℕ, zero, suc, ◌+◌, ◌-◌, ◌<◌, ◌≤◌, [], ◌∷◌, min, Option, None, Some, IsSome, is_some, refl, sym, ap, subst, arith}
use Rattle.std.proofs.lemmas.Bool.{false≢true}
use Rattle.pv_blocks.specs.BlockStore.{BlockStore}
use Rattle.pv_model.specs.Machine.{Bytes, Numbered, at_number, with_number, without_number}
use Rattle.pv_model.specs.declared.kind.Kind.{Kind}
use Rattle.pv_model.specs.declared.version.Version.{Version}
use Rattle.pv_inodes.specs.Files.{Contained, Files, held, IsUsed, with_contents_replaced, files_with_bytes, with_new, without}
use Rattle.pv_inodes.specs.Layout.{kind_at}
use Rattle.pv_inodes.specs.Sound.{AllUsed, files_of}
use Rattle.pv_inodes.proofs.ChangedInode.{held-used, used_slot}

module _ {X : Type 0} where
  some-with : (xs : Numbered X) (n m : ℕ) (v : X) → IsSome (at_number xs m) → IsSome (at_number (with_number xs n v) m)
  some-with [] n m v there = absurd (false≢true there)
  some-with (x ∷ xs) zero zero v there = refl
  some-with (x ∷ xs) zero (suc m) v there = there
  some-with (x ∷ xs) (suc n) zero v there = there
  some-with (x ∷ xs) (suc n) (suc m) v there = some-with xs n m v there

  some-without : (xs : Numbered X) (n m : ℕ) → m < n → IsSome (at_number xs m) → IsSome (at_number (without_number xs n) m)
  some-without [] n m below there = there
  some-without (x ∷ xs) zero m below there = absurd (omega arith)
  some-without (x ∷ xs) (suc n) zero below there = there
  some-without (x ∷ xs) (suc n) (suc m) below there = some-without xs n m (omega (arith, below)) there

used-with_contents_replaced : (f : Files) (n : ℕ) (o : Option Contained) (xs : Bytes) (m : ℕ) → IsUsed f m → IsUsed (with_contents_replaced f n o xs) m
used-with_contents_replaced f n None xs m used = used
used-with_contents_replaced f n (Some c) xs m used = some-with f.nodes n m (record c { bytes = xs }) used

-- other contents of an inode leave all in use
pub all_used-files_with_bytes : (f old new : Files) (n : ℕ) (xs : Bytes) (least : ℕ) → AllUsed f least → f ≡ old → new ≡ files_with_bytes old n xs → AllUsed new least
all_used-files_with_bytes f old new n xs least used same is s below =
    subst (λ (g : Files). IsUsed g (suc s)) (sym is) (used-with_contents_replaced old n (held old n) xs (suc s) (subst (λ (g : Files). IsUsed g (suc s)) same (used s below)))

-- an inode that is allocated leaves all in use too
pub all_used-with_new : (f old new : Files) (n : ℕ) (sort : Kind) (least : ℕ) → AllUsed f least → f ≡ old → new ≡ with_new old n sort → AllUsed new least
all_used-with_new f old new n sort least used same is s below =
    subst (λ (g : Files). IsUsed g (suc s)) (sym is) (some-with old.nodes n (suc s) (record { sort = sort; bytes = [] }) (subst (λ (g : Files). IsUsed g (suc s)) same (used s below)))

-- freeing an inode leaves those below it in use
pub all_used-without : (f old new : Files) (n slot least : ℕ) → AllUsed f least → f ≡ old → slot + 1 ≡ n → new ≡ without old n → AllUsed new (min least slot)
all_used-without f old new n slot least used same number is s below =
    subst (λ (g : Files). IsUsed g (suc s)) (sym is)
    (some-without old.nodes n (suc s) (omega (arith, below, number)) (subst (λ (g : Files). IsUsed g (suc s)) same (used s (omega (arith, below)))))

-- the same, by the kind fields of inodes
pub all_used-kinds : (version : Version) (st : BlockStore) (inodes least : ℕ) → AllUsed (files_of version st inodes) least → (s : ℕ) → s < least → kind_at version st.blocks s ≢ 0
all_used-kinds version st inodes least used s below none =
    let slot = used_slot version st inodes (suc s) (used s below) in
    let same : suc s - 1 ≡ s = omega arith in
    let positive = rw same at slot.used in
    omega (arith, positive, none)

pub kinds-all_used : (version : Version) (st : BlockStore) (inodes least : ℕ) → least ≤ inodes → ((s : ℕ) → s < least → kind_at version st.blocks s ≢ 0) → AllUsed (files_of version st inodes) least
kinds-all_used version st inodes least within used s below =
    let some : 0 < kind_at version st.blocks s = positive (kind_at version st.blocks s) (used s below) in
    ap is_some (held-used version st inodes s (omega (arith, within, below)) some)
  where
    positive : (k : ℕ) → k ≢ 0 → 0 < k
    positive k some = omega (arith, some)

-- if all below are in use, the start is within the inodes or directly after them
pub all_used-within : (version : Version) (st : BlockStore) (inodes least : ℕ) → AllUsed (files_of version st inodes) least → least ≤ inodes
all_used-within version st inodes zero used = omega arith
all_used-within version st inodes (suc n) used =
    let slot = used_slot version st inodes (suc n) (used n (omega arith)) in
    let below = slot.below in
    omega (arith, below)
