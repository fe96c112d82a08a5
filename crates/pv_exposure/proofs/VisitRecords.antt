-- The records of the visited states, state by state.
use Rattle.std.proofs.Common.{◌≡◌, ◌∙◌, sym, ap, ℕ, zero, suc, ◌+◌, ◌<◌, ◌≤◌, List, [], ◌∷◌, ◌++◌, length, take, flat_map, append-nil, slice_get, Some, refl, arith}
use Rattle.std.proofs.lemmas.Grind.{flat_map-append}
use Rattle.pv_model.specs.Machine.{Bytes, Found, Located, Tree}
use Rattle.pv_model.specs.Answers.Exposure.{located_at}
use Rattle.pv_exposure.specs.Collected.{Exposed, exposed_after}
use Rattle.pv_exposure.proofs.FindingAddition.{after-both}
use Rattle.pv_exposure.proofs.ListTexts.{take-past}

one-found : (xs : List Found) (n : ℕ) → n < length xs → (f : Found) × (slice_get xs n ≡ Some f) × (take (n + 1) xs ≡ take n xs ++ f ∷ [])
one-found [] n within = absurd (omega arith)
one-found (x ∷ xs) zero within = (x, refl, refl)
one-found (x ∷ xs) (suc n) within =
    let next = one-found xs n (omega arith) in
    let same : suc n + 1 ≡ suc (n + 1) = omega arith in
    (next.0, next.1, ap (λ k. take k (x ∷ xs)) same ∙ ap (λ (fs : List Found). x ∷ fs) next.2)

module _ (files : List Bytes) (first : Tree) (named : List ℕ) (found : List Found) where
  -- the records of the first states
  abbrev pub records_of_first : ℕ → List Exposed
  records_of_first n = exposed_after files first named [] (flat_map located_at (take n found))

  pub visit-next : (n : ℕ) (before after : List Exposed) → n < length found → before ≡ records_of_first n
      → ((f : Found) → slice_get found n ≡ Some f → after ≡ exposed_after files first named before (located_at f)) → after ≡ records_of_first (n + 1)
  visit-next n before after within was is =
      let next = one-found found n within in
      let f : Found = next.0 in
      is f next.1 ∙ ap (λ (es : List Exposed). exposed_after files first named es (located_at f)) was
      ∙ sym (after-both files first named [] (flat_map located_at (take n found)) (located_at f))
      ∙ ap (exposed_after files first named [])
      (sym (ap (flat_map located_at) next.2 ∙ flat_map-append located_at (take n found) (f ∷ []) ∙ ap (λ (ls : List Located). flat_map located_at (take n found) ++ ls) (append-nil (located_at f))))

  pub visit-all : (n : ℕ) → length found ≤ n → records_of_first n ≡ exposed_after files first named [] (flat_map located_at found)
  visit-all n past = ap (λ (fs : List Found). exposed_after files first named [] (flat_map located_at fs)) (take-past found n past)
