-- The reported error of bytes that are not an image is the first one.
use Rattle.std.proofs.Common.{◌≡◌, ℕ, zero, suc, ◌+◌, ◌<◌, ◌≤◌, Bool, true, false, cond, nat_lt, length, take, Option, None, Some, Result, Ok, Err, ap, sym, subst, ◌∙◌, refl, arith, ltb-true, ltb-false, lt-ltb, le-ltb}
use Rattle.std.specs.Prelude.{if◌then◌else◌, find, bytes_eq}
use Rattle.std.specs.List.{range_with_len}
use Rattle.pv_model.specs.declared.fault.ImageFault.{ImageFault}
use Rattle.pv_model.specs.declared.fault.ImageFault.TheVariants.{Short, Magic, Size, Inode, Block, Dir, Tree as NoTree}
use Rattle.pv_model.specs.declared.limits.TheConstants.{BLOCK}
use Rattle.pv_model.specs.declared.version.Version.{Version}
use Rattle.pv_model.specs.declared.version.Version.TheVariants.{V1, V2}
use Rattle.pv_model.specs.Machine.{Bytes, magic, inode_number, has_bad_inode, has_bad_block, has_bad_content, tree_in, mounted, PassesNone, Tree}
use Rattle.pv_model.specs.Mount.{version_of, has_sizes, has_bad_place, least_with, or_error, inode_error, or_tree, mounted_as, PassesLeast, HasSizes, IsErrorOf, short, other_magic, other_sizes, bad_inode, bad_block, bad_content, bad_place}
use Rattle.pv_laws_trees.proofs.DirectoryEntries.{bytes_eq-same}

-- ---- the least number for which a test succeeds

abbrev some_or : {X : Type 0} → X → Option X → X
some_or x None = x
some_or x (Some y) = y

abbrev error_or : ImageFault → Result Tree ImageFault → ImageFault
error_or fault (Ok t) = fault
error_or fault (Err other) = other

-- a test that fails at a number and after it fails from that number on
onward : (test : ℕ → Bool) (from m : ℕ) → test from ≡ false → from ≤ m → (from + 1 ≤ m → test m ≡ false) → test m ≡ false
onward test from m here low following =
    elim (nat_lt from m) as (λ b. nat_lt from m ≡ b → test m ≡ false) [
      | true ↦ λ less. following (let more : from < m = ltb-true from m less in omega (arith, more))
      | false ↦ λ not_less. let same : from ≡ m = (let most : m ≤ from = ltb-false from m not_less in omega (arith, most)) in subst (λ k. test k ≡ false) same here
    ] refl

record IsLeastFrom (test : ℕ → Bool) (from k n : ℕ) : Type 0 where
  low : from ≤ n
  high : n < from + k
  passes : test n ≡ true
  least : (m : ℕ) → from ≤ m → m < n → test m ≡ false

found : (test : ℕ → Bool) (from k n : ℕ) → find test (range_with_len from k) ≡ Some n → IsLeastFrom test from k n
found test from zero n is = absurd cc
found test from (suc k) n is =
    elim (test from) as (λ b. test from ≡ b → cond b (Some from) (find test (range_with_len (from + 1) k)) ≡ Some n → IsLeastFrom test from (suc k) n) [
      | true ↦ λ yes h.
          let same : from ≡ n = ap (some_or from) h in
          record {
            low = omega (arith, same);
            high = omega (arith, same);
            passes = subst (λ m. test m ≡ true) same yes;
            least = λ m low less. absurd (omega (arith, same));
          }
      | false ↦ λ no h.
          let rest = found test (from + 1) k n h in
          let low : from + 1 ≤ n = rest.low in
          let high : n < from + 1 + k = rest.high in
          record {
            low = omega (arith, low);
            high = omega (arith, high);
            passes = rest.passes;
            least = λ m at less. onward test from m no at (λ following. rest.least m following less);
          }
    ] refl is

none_found : (test : ℕ → Bool) (from k : ℕ) → find test (range_with_len from k) ≡ None → (m : ℕ) → from ≤ m → m < from + k → test m ≡ false
none_found test from zero is m low high = absurd (omega arith)
none_found test from (suc k) is m low high =
    elim (test from) as (λ b. test from ≡ b → cond b (Some from) (find test (range_with_len (from + 1) k)) ≡ None → test m ≡ false) [
      | true ↦ λ yes h. absurd cc
      | false ↦ λ no h. onward test from m no low (λ following. none_found test (from + 1) k h m following (omega arith))
    ] refl is

find_least : (test : ℕ → Bool) (from k n : ℕ) → IsLeastFrom test from k n → find test (range_with_len from k) ≡ Some n
find_least test from zero n is = let low = is.low in let high = is.high in absurd (omega (arith, low, high))
find_least test from (suc k) n is =
    let low = is.low in
    let high = is.high in
    elim (nat_lt from n) as (λ b. nat_lt from n ≡ b → find test (range_with_len from (suc k)) ≡ Some n) [
      | true ↦ λ less.
          let below : from < n = ltb-true from n less in
          let here : from ≤ from = omega arith in
          ap (λ b. cond b (Some from) (find test (range_with_len (from + 1) k))) (is.least from here below)
          ∙ find_least test (from + 1) k n (record { low = omega (arith, below); high = omega (arith, high); passes = is.passes; least = λ m at under. is.least m (omega (arith, at)) under })
      | false ↦ λ not_less.
          let same : n ≡ from = (let most : n ≤ from = ltb-false from n not_less in omega (arith, most, low)) in
          ap (λ b. cond b (Some from) (find test (range_with_len (from + 1) k))) (subst (λ m. test m ≡ true) same is.passes) ∙ ap (λ m. Some m) (sym same)
    ] refl

find_none : (test : ℕ → Bool) (from k : ℕ) → ((m : ℕ) → from ≤ m → m < from + k → test m ≡ false) → find test (range_with_len from k) ≡ None
find_none test from zero none = refl
find_none test from (suc k) none =
    let here : from ≤ from = omega arith in
    let within : from < from + suc k = omega arith in
    ap (λ b. cond b (Some from) (find test (range_with_len (from + 1) k))) (none from here within)
    ∙ find_none test (from + 1) k (λ m low high. none m (omega (arith, low)) (omega (arith, high)))

-- ---- the least inode for which a test succeeds

module _ (v : Version) (bytes : Bytes) where
  least-found : (test : ℕ → Bool) (n : ℕ) → least_with v bytes test ≡ Some n → PassesLeast bytes test n
  least-found test n is =
      let it = found test 1 (inode_number bytes) n is in
      let high = it.high in
      record { from_one = it.low; in_table = omega (arith, high); passes = it.passes; least = it.least }

  pub none-found : (test : ℕ → Bool) → least_with v bytes test ≡ None → PassesNone bytes test
  none-found test is n low high = none_found test 1 (inode_number bytes) is n low (omega (arith, high))

  least-finds : (test : ℕ → Bool) (n : ℕ) → PassesLeast bytes test n → least_with v bytes test ≡ Some n
  least-finds test n is =
      let high = is.in_table in
      find_least test 1 (inode_number bytes) n (record { low = is.from_one; high = omega (arith, high); passes = is.passes; least = is.least })

  pub none-finds : (test : ℕ → Bool) → PassesNone bytes test → least_with v bytes test ≡ None
  none-finds test none = find_none test 1 (inode_number bytes) (λ m low high. none m low (omega (arith, high)))

  -- the first error of the inodes is the first error of the bytes
  of_place : (f : ImageFault) → HasSizes bytes v → PassesNone bytes (has_bad_inode v bytes) → PassesNone bytes (has_bad_block v bytes) → PassesNone bytes (has_bad_content v bytes)
      → or_error v bytes NoTree (least_with v bytes (has_bad_place v bytes)) None ≡ Some f → IsErrorOf bytes f
  of_place f sizes inodes blocks contents is =
      elim (least_with v bytes (has_bad_place v bytes)) as (λ o. least_with v bytes (has_bad_place v bytes) ≡ o → or_error v bytes NoTree o None ≡ Some f → IsErrorOf bytes f) [
        | Some n ↦ λ at h. subst (IsErrorOf bytes) (ap (some_or f) h) (bad_place v n sizes inodes blocks contents (least-found (has_bad_place v bytes) n at))
        | None ↦ λ at h. absurd cc
      ] refl is

  of_content : (f : ImageFault) → HasSizes bytes v → PassesNone bytes (has_bad_inode v bytes) → PassesNone bytes (has_bad_block v bytes)
      → or_error v bytes Dir (least_with v bytes (has_bad_content v bytes)) (or_error v bytes NoTree (least_with v bytes (has_bad_place v bytes)) None) ≡ Some f → IsErrorOf bytes f
  of_content f sizes inodes blocks is =
      elim (least_with v bytes (has_bad_content v bytes)) as (λ o. least_with v bytes (has_bad_content v bytes) ≡ o → or_error v bytes Dir o (or_error v bytes NoTree (least_with v bytes (has_bad_place v bytes)) None) ≡ Some f → IsErrorOf bytes f) [
        | Some n ↦ λ at h. subst (IsErrorOf bytes) (ap (some_or f) h) (bad_content v n sizes inodes blocks (least-found (has_bad_content v bytes) n at))
        | None ↦ λ at h. of_place f sizes inodes blocks (none-found (has_bad_content v bytes) at) h
      ] refl is

  of_block : (f : ImageFault) → HasSizes bytes v → PassesNone bytes (has_bad_inode v bytes)
      → or_error v bytes Block (least_with v bytes (has_bad_block v bytes)) (or_error v bytes Dir (least_with v bytes (has_bad_content v bytes)) (or_error v bytes NoTree (least_with v bytes (has_bad_place v bytes)) None)) ≡ Some f → IsErrorOf bytes f
  of_block f sizes inodes is =
      elim (least_with v bytes (has_bad_block v bytes)) as (λ o. least_with v bytes (has_bad_block v bytes) ≡ o → or_error v bytes Block o (or_error v bytes Dir (least_with v bytes (has_bad_content v bytes)) (or_error v bytes NoTree (least_with v bytes (has_bad_place v bytes)) None)) ≡ Some f → IsErrorOf bytes f) [
        | Some n ↦ λ at h. subst (IsErrorOf bytes) (ap (some_or f) h) (bad_block v n sizes inodes (least-found (has_bad_block v bytes) n at))
        | None ↦ λ at h. of_content f sizes inodes (none-found (has_bad_block v bytes) at) h
      ] refl is

  of_inodes : (f : ImageFault) → HasSizes bytes v → inode_error v bytes ≡ Some f → IsErrorOf bytes f
  unfolding inode_error
  of_inodes f sizes is =
      elim (least_with v bytes (has_bad_inode v bytes)) as (λ o. least_with v bytes (has_bad_inode v bytes) ≡ o → or_error v bytes Inode o (or_error v bytes Block (least_with v bytes (has_bad_block v bytes)) (or_error v bytes Dir (least_with v bytes (has_bad_content v bytes)) (or_error v bytes NoTree (least_with v bytes (has_bad_place v bytes)) None))) ≡ Some f → IsErrorOf bytes f) [
        | Some n ↦ λ at h. subst (IsErrorOf bytes) (ap (some_or f) h) (bad_inode v n sizes (least-found (has_bad_inode v bytes) n at))
        | None ↦ λ at h. of_block f sizes (none-found (has_bad_inode v bytes) at) h
      ] refl is

  of_tree : (f : ImageFault) → HasSizes bytes v → or_tree v bytes (inode_error v bytes) ≡ Err f → IsErrorOf bytes f
  of_tree f sizes is =
      elim (inode_error v bytes) as (λ o. inode_error v bytes ≡ o → or_tree v bytes o ≡ Err f → IsErrorOf bytes f) [
        | Some g ↦ λ at h. subst (IsErrorOf bytes) (ap (error_or f) h) (of_inodes g sizes at)
        | None ↦ λ at h. absurd cc
      ] refl is

-- ---- the version and the sizes

abbrev by_front : Bytes → Option Version
by_front front = if bytes_eq front (magic V1) then Some V1 else if bytes_eq front (magic V2) then Some V2 else None

front_of : (v : Version) → by_front (magic v) ≡ Some v
front_of V1 = refl
front_of V2 = refl

pub version_of-magic : (bytes : Bytes) (v : Version) → take 8 bytes ≡ magic v → version_of bytes ≡ Some v
version_of-magic bytes v is = ap by_front is ∙ front_of v

pub magic-version_of : (bytes : Bytes) (v : Version) → version_of bytes ≡ Some v → take 8 bytes ≡ magic v
magic-version_of bytes v is =
    elim (bytes_eq (take 8 bytes) (magic V1)) as (λ b. bytes_eq (take 8 bytes) (magic V1) ≡ b
    → (if b then Some V1 else if bytes_eq (take 8 bytes) (magic V2) then Some V2 else None) ≡ Some v → take 8 bytes ≡ magic v) [
      | true ↦ λ first h. bytes_eq-same (take 8 bytes) (magic V1) first ∙ ap magic (ap (some_or V1) h)
      | false ↦ λ first h.
          elim (bytes_eq (take 8 bytes) (magic V2)) as (λ b. bytes_eq (take 8 bytes) (magic V2) ≡ b → (if b then Some V2 else None) ≡ Some v → take 8 bytes ≡ magic v) [
            | true ↦ λ second g. bytes_eq-same (take 8 bytes) (magic V2) second ∙ ap magic (ap (some_or V2) g)
            | false ↦ λ second g. absurd cc
          ] refl h
    ] refl is

of_version : (bytes : Bytes) (o : Option Version) (f : ImageFault) → BLOCK ≤ length bytes → version_of bytes ≡ o → mounted_as o bytes ≡ Err f → IsErrorOf bytes f
of_version bytes None f long at is =
    subst (IsErrorOf bytes) (ap (error_or f) is) (other_magic long (λ v same. let both : None ≡ Some v = sym at ∙ version_of-magic bytes v same in cc))
of_version bytes (Some v) f long at is =
    let begins = magic-version_of bytes v at in
    elim (has_sizes v bytes) as (λ b. has_sizes v bytes ≡ b → (if b then or_tree v bytes (inode_error v bytes) else Err Size) ≡ Err f → IsErrorOf bytes f) [
      | true ↦ λ sizes h. of_tree v bytes f (record { long_enough = long; has_magic = begins; sizes = sizes }) h
      | false ↦ λ sizes h. subst (IsErrorOf bytes) (ap (error_or f) h) (other_sizes v long begins sizes)
    ] refl is

-- a reported error is the first
pub named : (bytes : Bytes) (f : ImageFault) → mounted bytes ≡ Err f → IsErrorOf bytes f
unfolding mounted
named bytes f is =
    elim (nat_lt (length bytes) BLOCK) as (λ b. nat_lt (length bytes) BLOCK ≡ b → (if b then Err Short else mounted_as (version_of bytes) bytes) ≡ Err f → IsErrorOf bytes f) [
      | true ↦ λ less h. subst (IsErrorOf bytes) (ap (error_or f) h) (short (ltb-true (length bytes) BLOCK less))
      | false ↦ λ not_less h. of_version bytes (version_of bytes) f (ltb-false (length bytes) BLOCK not_less) refl h
    ] refl is

-- ---- conversely

long-mounted : (bytes : Bytes) → BLOCK ≤ length bytes → mounted bytes ≡ mounted_as (version_of bytes) bytes
unfolding mounted
long-mounted bytes long = ap (λ b. if b then Err Short else mounted_as (version_of bytes) bytes) (le-ltb (length bytes) BLOCK long)

pub sized-mounted : (bytes : Bytes) (v : Version) → HasSizes bytes v → mounted bytes ≡ or_tree v bytes (inode_error v bytes)
sized-mounted bytes v is =
    long-mounted bytes is.long_enough ∙ ap (λ o. mounted_as o bytes) (version_of-magic bytes v is.has_magic) ∙ ap (λ b. if b then or_tree v bytes (inode_error v bytes) else Err Size) is.sizes

module _ (bytes : Bytes) (v : Version) (sizes : HasSizes bytes v) where
  -- given the least inodes with each error
  by_least : (inodes blocks contents places : Option ℕ)
      → least_with v bytes (has_bad_inode v bytes) ≡ inodes → least_with v bytes (has_bad_block v bytes) ≡ blocks
      → least_with v bytes (has_bad_content v bytes) ≡ contents → least_with v bytes (has_bad_place v bytes) ≡ places
      → mounted bytes ≡ or_tree v bytes (or_error v bytes Inode inodes (or_error v bytes Block blocks (or_error v bytes Dir contents (or_error v bytes NoTree places None))))
  unfolding inode_error
  by_least inodes blocks contents places a b c d =
      sized-mounted bytes v sizes
      ∙ ap (λ o. or_tree v bytes (or_error v bytes Inode o (or_error v bytes Block (least_with v bytes (has_bad_block v bytes)) (or_error v bytes Dir (least_with v bytes (has_bad_content v bytes)) (or_error v bytes NoTree (least_with v bytes (has_bad_place v bytes)) None))))) a
      ∙ ap (λ o. or_tree v bytes (or_error v bytes Inode inodes (or_error v bytes Block o (or_error v bytes Dir (least_with v bytes (has_bad_content v bytes)) (or_error v bytes NoTree (least_with v bytes (has_bad_place v bytes)) None))))) b
      ∙ ap (λ o. or_tree v bytes (or_error v bytes Inode inodes (or_error v bytes Block blocks (or_error v bytes Dir o (or_error v bytes NoTree (least_with v bytes (has_bad_place v bytes)) None))))) c
      ∙ ap (λ o. or_tree v bytes (or_error v bytes Inode inodes (or_error v bytes Block blocks (or_error v bytes Dir contents (or_error v bytes NoTree o None))))) d

-- the first error is reported
pub answered : (bytes : Bytes) (f : ImageFault) → IsErrorOf bytes f → mounted bytes ≡ Err f
unfolding mounted
answered bytes _ (short less) = ap (λ b. if b then Err Short else mounted_as (version_of bytes) bytes) (lt-ltb (length bytes) BLOCK less)
answered bytes _ (other_magic long other) =
    long-mounted bytes long
    ∙ elim (version_of bytes) as (λ o. version_of bytes ≡ o → mounted_as o bytes ≡ Err Magic) [
      | None ↦ λ at. refl
      | Some v ↦ λ at. absurd (other v (magic-version_of bytes v at))
    ] refl
answered bytes _ (other_sizes v long begins sizes) =
    long-mounted bytes long ∙ ap (λ o. mounted_as o bytes) (version_of-magic bytes v begins) ∙ ap (λ b. if b then or_tree v bytes (inode_error v bytes) else Err Size) sizes
answered bytes _ (bad_inode v n sizes at) =
    by_least bytes v sizes (Some n) (least_with v bytes (has_bad_block v bytes)) (least_with v bytes (has_bad_content v bytes)) (least_with v bytes (has_bad_place v bytes))
    (least-finds v bytes (has_bad_inode v bytes) n at) refl refl refl
answered bytes _ (bad_block v n sizes inodes at) =
    by_least bytes v sizes None (Some n) (least_with v bytes (has_bad_content v bytes)) (least_with v bytes (has_bad_place v bytes))
    (none-finds v bytes (has_bad_inode v bytes) inodes) (least-finds v bytes (has_bad_block v bytes) n at) refl refl
answered bytes _ (bad_content v n sizes inodes blocks at) =
    by_least bytes v sizes None None (Some n) (least_with v bytes (has_bad_place v bytes))
    (none-finds v bytes (has_bad_inode v bytes) inodes) (none-finds v bytes (has_bad_block v bytes) blocks) (least-finds v bytes (has_bad_content v bytes) n at) refl
answered bytes _ (bad_place v n sizes inodes blocks contents at) =
    by_least bytes v sizes None None None (Some n)
    (none-finds v bytes (has_bad_inode v bytes) inodes) (none-finds v bytes (has_bad_block v bytes) blocks) (none-finds v bytes (has_bad_content v bytes) contents) (least-finds v bytes (has_bad_place v bytes) n at)

-- bytes without an error hold a tree
pub accepted : (bytes : Bytes) (v : Version) → HasSizes bytes v → PassesNone bytes (has_bad_inode v bytes) → PassesNone bytes (has_bad_block v bytes)
    → PassesNone bytes (has_bad_content v bytes) → PassesNone bytes (has_bad_place v bytes) → mounted bytes ≡ Ok (tree_in v bytes)
accepted bytes v sizes inodes blocks contents places =
    by_least bytes v sizes None None None None
    (none-finds v bytes (has_bad_inode v bytes) inodes) (none-finds v bytes (has_bad_block v bytes) blocks) (none-finds v bytes (has_bad_content v bytes) contents) (none-finds v bytes (has_bad_place v bytes) places)
