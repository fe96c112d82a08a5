-- The entries to which an index leads.
use Rattle.std.proofs.Common.{◌≡◌, ◌≢◌, ℕ, ◌<◌, ◌≤◌, ◌++◌, Bool, false, length, take, get_or, set, refl, sym, ap, ◌∙◌, inl, inr, arith, List}
use Rattle.std.proofs.lemmas.Bool.{cases_eq, cases_lt, lt-ltb, le-ltb}
use Rattle.std.proofs.Math.ListN.{get_or-append}
use Rattle.std.proofs.Math.Nat.{mod-le}
use Rattle.std.proofs.lemmas.Nat.{and_le_r}
use Rattle.std.specs.Prelude.{bit_and}
use Rattle.std.proofs.lemmas.List.{get_or_default, get_or-set_same, get_or-take, length-take-le, get_or-set_other}
use Rattle.pv_model.specs.Machine.{Bytes}
use Rattle.pv_dirs.specs.declared.index.Index.{Index}
use Rattle.pv_dirs.specs.declared.index.Bucket.{Bucket}
use Rattle.pv_dirs.specs.declared.index.Bucket.TheVariants.{Empty, Slot}
use Rattle.pv_dirs.specs.Index.{sum_after, bucket_of, bucket_at, recorded_count, known, LeadsToSlot}

-- an element in front of a list whose front is copied
read-front : {X : Type 0} (xs ys : List X) (count k : ℕ) (d : X) → count ≤ length xs → k < count → get_or (take count xs ++ ys) k d ≡ get_or xs k d
read-front xs ys count k d within below =
    let inside : k < length (take count xs) = omega (arith, length-take-le count xs within) in
    get_or-append (take count xs) ys d k inside ∙ get_or-take count xs k d below

pub bucket_of-within : (mask d : ℕ) (name : Bytes) → bucket_of mask d name < 8192
unfolding bucket_of
bucket_of-within mask d name = omega arith

pub bucket_of-masked : (mask d : ℕ) (name : Bytes) → bucket_of mask d name ≤ mask
unfolding bucket_of
bucket_of-masked mask d name = let masked = and_le_r (sum_after d name) mask in let reduced = mod-le (bit_and (sum_after d name) mask) 8192 in omega arith

pub bucket_at-is : (ix : Index) (d : ℕ) (name : Bytes) → bucket_at ix d name ≡ get_or ix.places (bucket_of ix.mask d name) Empty
unfolding bucket_at
bucket_at-is ix d name = refl

pub bucket_at-at : (ix : Index) (d : ℕ) (name : Bytes) (at : ℕ) (p : Bucket) → bucket_of ix.mask d name ≡ at → get_or ix.places at Empty ≡ p → bucket_at ix d name ≡ p
bucket_at-at ix d name at p here is = bucket_at-is ix d name ∙ ap (λ i. get_or ix.places i Empty) here ∙ is

-- if a bucket is empty, the index leads to no entry in it
pub leads-empty : (ix : Index) (d : ℕ) (name : Bytes) (k : ℕ) → bucket_at ix d name ≡ Empty → LeadsToSlot ix d name k → ⊥
leads-empty ix d name k empty leads = elim leads [
  | inl slot ↦ let no = sym empty ∙ slot in cc
  | inr shared ↦ let no = sym empty ∙ shared in cc
]

-- if it has a slot, the index leads only to the entry in that slot
pub leads-slot : (ix : Index) (d : ℕ) (name : Bytes) (k e j : ℕ) → bucket_at ix d name ≡ Slot e j → LeadsToSlot ix d name k → (d ≡ e) × (k ≡ j)
leads-slot ix d name k e j is leads = elim leads [
  | inl slot ↦
      let same : Slot d k ≡ Slot e j = sym slot ∙ is in
      let directory : d ≡ e = cc in
      let number : k ≡ j = cc in
      (directory, number)
  | inr shared ↦ let no = sym shared ∙ is in cc
]

-- if an index has the same bucket for a name as another, it leads to the same entries of this name
pub leads-alike : (old new : Index) (d : ℕ) (name : Bytes) (k : ℕ) → bucket_at new d name ≡ bucket_at old d name → LeadsToSlot old d name k → LeadsToSlot new d name k
leads-alike old new d name k same leads = elim leads [
  | inl slot ↦ inl (same ∙ slot)
  | inr shared ↦ inr (same ∙ shared)
]

-- two indexes with the same mask have the same bucket for a name if the buckets at its place are the same
pub bucket_at-same : (old new : Index) (d : ℕ) (name : Bytes) → new.mask ≡ old.mask → get_or new.places (bucket_of old.mask d name) Empty ≡ get_or old.places (bucket_of old.mask d name) Empty → bucket_at new d name ≡ bucket_at old d name
bucket_at-same old new d name masked is =
    bucket_at-is new d name
    ∙ ap (λ m. get_or new.places (bucket_of m d name) Empty) masked
    ∙ is
    ∙ sym (bucket_at-is old d name)

-- an index that differs only in its records of ascending names leads to the same entries
pub leads-same : (old new : Index) (d : ℕ) (name : Bytes) (k : ℕ) → new.mask ≡ old.mask → new.places ≡ old.places → LeadsToSlot old d name k → LeadsToSlot new d name k
leads-same old new d name k masked is =
    leads-alike old new d name k (bucket_at-same old new d name masked (ap (λ (ps : List Bucket). get_or ps (bucket_of old.mask d name) Empty) is))

-- ---- the directories whose names are known to ascend

pub known-within : (ix : Index) (d : ℕ) (is : Bool) → d < recorded_count ix → d < length ix.ascending → known ix d ≡ get_or ix.ascending d is
unfolding known
known-within ix d is recorded within = rw (lt-ltb d (recorded_count ix) recorded) (get_or_default ix.ascending d false is within)

pub known-past : (ix : Index) (d : ℕ) → recorded_count ix ≤ d → known ix d ≡ false
unfolding known
known-past ix d past = rw (le-ltb d (recorded_count ix) past) refl

-- an index with the same mask as another records the same of a directory if the records at its number are the same
known-alike : (old new : Index) (d : ℕ) → new.mask ≡ old.mask → (d < recorded_count old → get_or new.ascending d false ≡ get_or old.ascending d false) → known new d ≡ known old d
unfolding known
known-alike old new d masked same = rw masked (elim (cases_lt d (recorded_count old)) [
  | inl recorded ↦ rw (same recorded) refl
  | inr past ↦ rw (le-ltb d (recorded_count old) past) refl
])

module _ (old new : Index) (d : ℕ) (b : Bool) (masked : new.mask ≡ old.mask) (is : new.ascending ≡ set old.ascending d b) where
  pub known-here : d < recorded_count old → d < length old.ascending → known new d ≡ b
  unfolding known
  known-here recorded within = rw (masked, is, lt-ltb d (recorded_count old) recorded) (get_or-set_same old.ascending d b false within)

  pub known-there : (e : ℕ) → e ≢ d → known new e ≡ known old e
  known-there e there = known-alike old new e masked (λ recorded. ap (λ (bs : List Bool). get_or bs e false) is ∙ get_or-set_other old.ascending d e b false there)

-- an index that differs only in its buckets records the same
pub known-same : (old new : Index) (d : ℕ) → new.mask ≡ old.mask → new.ascending ≡ old.ascending → known new d ≡ known old d
known-same old new d masked is = known-alike old new d masked (λ recorded. ap (λ (bs : List Bool). get_or bs d false) is)

-- the records in front are those of another index
pub known-copied : (ix new : Index) (front rest : List Bool) → recorded_count ix ≤ length ix.ascending → new.mask ≡ ix.mask → new.ascending ≡ front ++ rest → front ≡ take (recorded_count ix) ix.ascending → (d : ℕ) → known new d ≡ known ix d
known-copied ix new front rest within masked is copied d =
    known-alike ix new d masked (λ recorded.
    ap (λ (bs : List Bool). get_or bs d false) is
    ∙ ap (λ (bs : List Bool). get_or (bs ++ rest) d false) copied
    ∙ read-front ix.ascending rest (recorded_count ix) d false within recorded)

-- the buckets in front are those of another index
pub bucket_at-copied : (ix new : Index) (count : ℕ) (front rest : List Bucket) → count ≤ length ix.places → new.mask ≡ ix.mask → new.places ≡ front ++ rest → front ≡ take count ix.places → (d : ℕ) (name : Bytes) → bucket_of ix.mask d name < count → bucket_at new d name ≡ bucket_at ix d name
bucket_at-copied ix new count front rest within masked is copied d name below =
    let at = bucket_of ix.mask d name in
    let all : at < length front = rw copied (omega (arith, length-take-le count ix.places within)) in
    bucket_at-same ix new d name masked (
    ap (λ (ps : List Bucket). get_or ps at Empty) is
    ∙ get_or-append front rest Empty at all
    ∙ ap (λ (ps : List Bucket). get_or ps at Empty) copied
    ∙ get_or-take count ix.places at Empty below
    )

-- one bucket changes
module _ (old new : Index) (at : ℕ) (p : Bucket) (within : at < length old.places) (masked : new.mask ≡ old.mask) (is : new.places ≡ set old.places at p) where
  pub bucket_at-here : (d : ℕ) (name : Bytes) → bucket_of old.mask d name ≡ at → bucket_at new d name ≡ p
  bucket_at-here d name here =
      bucket_at-is new d name
      ∙ ap (λ m. get_or new.places (bucket_of m d name) Empty) masked
      ∙ ap (λ (ps : List Bucket). get_or ps (bucket_of old.mask d name) Empty) is
      ∙ ap (λ i. get_or (set old.places at p) i Empty) here
      ∙ get_or-set_same old.places at p Empty within

  bucket_at-there : (d : ℕ) (name : Bytes) → bucket_of old.mask d name ≢ at → bucket_at new d name ≡ bucket_at old d name
  bucket_at-there d name there = bucket_at-same old new d name masked (ap (λ (ps : List Bucket). get_or ps (bucket_of old.mask d name) Empty) is ∙ get_or-set_other old.places at (bucket_of old.mask d name) p Empty there)

  -- lookups of entries in other buckets do not change
  pub leads-others : (d : ℕ) (name : Bytes) (k : ℕ) → (bucket_of old.mask d name ≡ at → LeadsToSlot old d name k → LeadsToSlot new d name k) → LeadsToSlot old d name k → LeadsToSlot new d name k
  leads-others d name k here leads = elim (cases_eq (bucket_of old.mask d name) at) [
    | inl same ↦ here same leads
    | inr other ↦ leads-alike old new d name k (bucket_at-there d name other) leads
  ]
