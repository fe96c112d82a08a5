-- The end of the inodes in use, and equal inodes.
use Rattle.std.proofs.Common.{◌≡◌, ◌≢◌, ℕ, zero, suc, ◌+◌, ◌<◌, ◌≤◌, [], ◌∷◌, length, Option, None, Some, IsSome, option_map, refl, sym, ap, ◌∙◌, inl, inr, arith}
use Rattle.std.proofs.lemmas.Bool.{cases_lt, false≢true}
use Rattle.std.proofs.lemmas.List.{get_or_past}
use Rattle.pv_blocks.specs.BlockStore.{BlockStore}
use Rattle.pv_model.specs.Machine.{Bytes, Numbered, at_number, with_number, without_number}
use Rattle.pv_model.specs.declared.kind.Kind.{Kind}
use Rattle.pv_model.specs.declared.version.Version.{Version}
use Rattle.pv_inodes.specs.Files.{Contained, Files, IsUsed, contained_bytes, held, inode_bytes_at, sort_at, with_contents_replaced, files_with_bytes, with_new, without}
use Rattle.pv_inodes.specs.Layout.{kind_at}
use Rattle.pv_inodes.specs.Sound.{NoneUsed, files_of}
use Rattle.pv_inodes.proofs.ChangedInode.{held-files_of}
use Rattle.pv_inodes.proofs.InodeContents.{contained_at-free}
use Rattle.pv_inodes.proofs.NumberMaps.{at_number-get_or, at_number-within}
use Rattle.pv_inodes.proofs.ReadResults.{length-files_of}

module _ {X : Type 0} where
  none-with : (xs : Numbered X) (n m : ℕ) (v : X) → n < length xs → m ≢ n → at_number xs m ≡ None → at_number (with_number xs n v) m ≡ None
  none-with [] n m v within other none = absurd (omega arith)
  none-with (x ∷ xs) zero zero v within other none = absurd (other refl)
  none-with (x ∷ xs) zero (suc m) v within other none = none
  none-with (x ∷ xs) (suc n) zero v within other none = none
  none-with (x ∷ xs) (suc n) (suc m) v within other none = none-with xs n m v (omega arith) (λ same. other (ap suc same)) none

  none-without : (xs : Numbered X) (n m : ℕ) → at_number xs m ≡ None → at_number (without_number xs n) m ≡ None
  none-without [] n m none = none
  none-without (x ∷ xs) zero zero none = refl
  none-without (x ∷ xs) zero (suc m) none = none
  none-without (x ∷ xs) (suc n) zero none = none
  none-without (x ∷ xs) (suc n) (suc m) none = none-without xs n m none

  none-past : (xs : Numbered X) (n : ℕ) → length xs ≤ n → at_number xs n ≡ None
  none-past xs n past = at_number-get_or xs n ∙ get_or_past xs n None past

none-with_contents_replaced : (f : Files) (n : ℕ) (o : Option Contained) (xs : Bytes) (m : ℕ) → held f n ≡ o → held f m ≡ None → held (with_contents_replaced f n o xs) m ≡ None
none-with_contents_replaced f n None xs m is none = none
none-with_contents_replaced f n (Some c) xs m is none =
    let other : m ≢ n = λ same. let both : held f n ≡ None = ap (held f) (sym same) ∙ none in cc in
    none-with f.nodes n m (record c { bytes = xs }) (at_number-within f.nodes n c is) other none

-- other contents of an inode put no other one in use
pub none_used-files_with_bytes : (f old new : Files) (n : ℕ) (xs : Bytes) (most : ℕ) → NoneUsed f most → f ≡ old → new ≡ files_with_bytes old n xs → NoneUsed new most
none_used-files_with_bytes f old new n xs most none same is s past =
    ap (λ (g : Files). held g (suc s)) is
    ∙ none-with_contents_replaced old n (held old n) xs (suc s) refl (ap (λ (g : Files). held g (suc s)) (sym same) ∙ none s past)

-- an inode that is allocated puts no other one in use
pub none_used-with_new : (f old new : Files) (n : ℕ) (sort : Kind) (most new_most : ℕ) → NoneUsed f most → f ≡ old → new ≡ with_new old n sort → n < length old.nodes → most ≤ new_most → n ≤ new_most → NoneUsed new new_most
none_used-with_new f old new n sort most new_most none same is within less reached s past =
    let other : suc s ≢ n = λ equal. omega arith in
    ap (λ (g : Files). held g (suc s)) is
    ∙ none-with old.nodes n (suc s) (record { sort = sort; bytes = [] }) within other (ap (λ (g : Files). held g (suc s)) (sym same) ∙ none s (omega arith))

-- freeing an inode puts none in use
pub none_used-without : (f old new : Files) (n most : ℕ) → NoneUsed f most → f ≡ old → new ≡ without old n → NoneUsed new most
none_used-without f old new n most none same is s past =
    ap (λ (g : Files). held g (suc s)) is
    ∙ none-without old.nodes n (suc s) (ap (λ (g : Files). held g (suc s)) (sym same) ∙ none s past)

-- the same, by the kind fields of inodes
pub kinds-none_used : (version : Version) (st : BlockStore) (inodes most : ℕ) → ((s : ℕ) → most ≤ s → s < inodes → kind_at version st.blocks s ≡ 0) → NoneUsed (files_of version st inodes) most
kinds-none_used version st inodes most free s past = elim (cases_lt s inodes) [
  | inl below ↦ held-files_of version st inodes s below ∙ contained_at-free version st.blocks s (free s past below)
  | inr out ↦ none-past (files_of version st inodes).nodes (suc s) (omega (arith, length-files_of version st inodes))
]

-- two inodes in use are equal if their kinds and contents are
same_contained : (o p : Option Contained) → IsSome o → IsSome p → option_map (λ c. c.sort) o ≡ option_map (λ c. c.sort) p → contained_bytes o ≡ contained_bytes p → o ≡ p
same_contained None p some also sorts bytes = absurd (false≢true some)
same_contained (Some c) None some also sorts bytes = absurd (false≢true also)
same_contained (Some c) (Some d) some also sorts bytes =
    let sort : c.sort ≡ d.sort = cc in
    ap (λ (k : Kind). Some (record { sort = k; bytes = c.bytes })) sort ∙ ap (λ (xs : Bytes). Some (record { sort = d.sort; bytes = xs })) bytes

pub held-same : (f g : Files) (n : ℕ) → IsUsed f n → IsUsed g n → sort_at f n ≡ sort_at g n → inode_bytes_at f n ≡ inode_bytes_at g n → held f n ≡ held g n
held-same f g n used also sorts bytes = same_contained (held f n) (held g n) used also sorts bytes
