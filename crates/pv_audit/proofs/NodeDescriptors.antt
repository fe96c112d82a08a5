-- The descriptors on a node, one at a time.
use Rattle.std.proofs.Common.{◌≡◌, ℕ, zero, suc, ◌+◌, ◌<◌, ◌≤◌, Bool, true, false, [], ◌∷◌, filter, length, Option, None, Some, option_map, refl, ap, sym, ◌∙◌, ⊎_elim, arith}
use Rattle.std.proofs.lemmas.Bool.{cases_lt}
use Rattle.pv_model.specs.declared.perms.Perms.{Perms}
use Rattle.pv_model.specs.Machine.{Numbered, at_number, numbered, OpenFile, Descriptor}
use Rattle.pv_laws_trees.proofs.ListMembers.{In, in-map, map-in, in-filter, filter-in, numbered-at, at-numbered}
use Rattle.pv_audit.specs.Findings.{least}
use Rattle.pv_audit.specs.Reasons.{is_on, descriptors_for}
use Rattle.pv_audit.proofs.LeastNumbers.{least-is, least-empty}

at_past : {X : Type 0} (xs : Numbered X) (k : ℕ) → length xs ≤ k → at_number xs k ≡ None
at_past [] k past = refl
at_past (x ∷ xs) zero past = absurd (omega arith)
at_past (x ∷ xs) (suc k) past = at_past xs k (omega arith)

module _ (files : Numbered OpenFile) (ds : Numbered Descriptor) (n : ℕ) (needed : Perms) where
  abbrev pub is_hit : Option Descriptor → Bool
  is_hit None = false
  is_hit (Some d) = is_on n needed (at_number files d.file)

  abbrev hits : ℕ × Descriptor → Bool
  hits d = is_on n needed (at_number files d.1.file)

  hit-in : (k : ℕ) → is_hit (at_number ds k) ≡ true → In ℕ k (descriptors_for files ds n needed)
  hit-in k is = by (at_number ds k) refl is
    where
      by : (o : Option Descriptor) → at_number ds k ≡ o → is_hit o ≡ true → In ℕ k (descriptors_for files ds n needed)
      by None at none = cc none
      by (Some d) at hit =
          in-map (ℕ × Descriptor) ℕ (λ (x : ℕ × Descriptor). x.0) (filter hits (numbered ds)) (k, d)
          (in-filter (ℕ × Descriptor) hits (numbered ds) (k, d) (numbered-at Descriptor ds k d at) hit)

  in-hit : (k : ℕ) → In ℕ k (descriptors_for files ds n needed) → is_hit (at_number ds k) ≡ true
  in-hit k is =
      let e = map-in (ℕ × Descriptor) ℕ (λ (x : ℕ × Descriptor). x.0) (filter hits (numbered ds)) k is in
      let preserved = filter-in (ℕ × Descriptor) hits (numbered ds) e.0 e.1 in
      let there : at_number ds k ≡ Some e.0.1 = ap (at_number ds) (sym e.2) ∙ at-numbered Descriptor ds e.0 preserved.0 in
      ap is_hit there ∙ preserved.1

  -- no descriptor below a number is on the node
  pub IsQuietTo : ℕ → Type 0
  IsQuietTo d = (k : ℕ) → k < d → is_hit (at_number ds k) ≡ false

  pub quiet-none : IsQuietTo 0
  unfolding IsQuietTo
  quiet-none = λ k less. absurd (omega arith)

  pub quiet-more : (d : ℕ) → IsQuietTo d → is_hit (at_number ds d) ≡ false → IsQuietTo (d + 1)
  unfolding IsQuietTo
  quiet-more d quiet here = λ k less.
      ⊎_elim (λ (low : k < d). quiet k low) (λ high. let same : d ≡ k = omega (arith, less, high) in ap (λ j. is_hit (at_number ds j)) (sym same) ∙ here) (cases_lt k d)

  pub quiet-least : (d : ℕ) → IsQuietTo d → is_hit (at_number ds d) ≡ true → least (descriptors_for files ds n needed) ≡ Some d
  unfolding IsQuietTo
  quiet-least d quiet here =
      least-is (descriptors_for files ds n needed) d (hit-in d here)
      (λ k within.
      ⊎_elim (λ (low : k < d). let both : true ≡ false = sym (in-hit k within) ∙ quiet k low in cc both) (λ high. high) (cases_lt k d))

  pub quiet-all : (d : ℕ) → length ds ≤ d → IsQuietTo d → least (descriptors_for files ds n needed) ≡ None
  unfolding IsQuietTo
  quiet-all d all quiet =
      least-empty (descriptors_for files ds n needed)
      (λ k within.
      ⊎_elim (λ (low : k < d). let both : true ≡ false = sym (in-hit k within) ∙ quiet k low in cc both)
      (λ high. let none : at_number ds k ≡ None = at_past ds k (omega (arith, all, high)) in let both : true ≡ false = sym (in-hit k within) ∙ ap is_hit none in cc both)
      (cases_lt k d))

  pub hit-file : (o : Option Descriptor) (file : ℕ) → option_map (λ e. e.file) o ≡ Some file → is_hit o ≡ is_on n needed (at_number files file)
  hit-file None file is = cc is
  hit-file (Some d) file is = let same : d.file ≡ file = cc is in ap (λ (k : ℕ). is_on n needed (at_number files k)) same

  pub hit-none : (o : Option Descriptor) → option_map (λ e. e.file) o ≡ None → is_hit o ≡ false
  hit-none None is = refl
  hit-none (Some d) is = cc is
