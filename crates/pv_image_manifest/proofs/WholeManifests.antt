-- Complete manifests: their first line, and then their entries.
use Rattle.std.proofs.Common.{◌≡◌, ◌∙◌, ap, ℕ, Bool, true, false, cond, leb, [], ◌∷◌, Option, None, Some, Result, Ok, Err, refl, sym, arith, inl, inr}
use Rattle.std.specs.Prelude.{option_map, ◌&&◌}
use Rattle.std.proofs.lemmas.Bool.{cases_lt, lt-leb, le-leb}
use Rattle.pv_model.specs.declared.fault.ManifestFault.{ManifestFault}
use Rattle.pv_model.specs.declared.fault.ManifestFault.TheVariants.{Form, Size, Parent, Exists, Source, Room, Memory}
use Rattle.pv_model.specs.Machine.{Bytes, lines_of, Listed, Manifest as ManifestAndLines, entry_of, sizes_of, read_manifest, read_bundle}
use Rattle.pv_model.specs.Grammar.Manifests.{entries_from, are_sizes, after_sizes, with_entries, if_sizes, manifest_by}
use Rattle.pv_image_manifest.specs.Reading.{held_sizes, RefusesManifest}
use Rattle.pv_text.specs.Reading.{up_to_greatest}

and_false : (x : Bool) → (x && false) ≡ false
and_false true = refl
and_false false = refl

-- saturated sizes lead to the same result
sizes_held : (b i : ℕ) (listed : Listed) → if_sizes b i listed ≡ if_sizes (up_to_greatest b) (up_to_greatest i) listed
sizes_held b i listed =
    elim (cases_lt 4294967295 i) [
      | inl above ↦
          let held : up_to_greatest i ≡ 4294967295 = omega arith in
          let some : leb 1 i ≡ true = le-leb _ _ (omega arith) in
          let many : leb i 4096 ≡ false = lt-leb _ _ (omega arith) in
          rw (held, some, many) refl
      | inr within ↦
          let same : up_to_greatest i ≡ i = omega arith in
          elim (cases_lt 4294967295 b) [
            | inl above ↦
                let held : up_to_greatest b ≡ 4294967295 = omega arith in
                let many : leb b 8192 ≡ false = lt-leb _ _ (omega arith) in
                rw (same, held, many, and_false, and_false) refl
            | inr below ↦ let alike : up_to_greatest b ≡ b = omega arith in rw (same, alike) refl
          ]
    ]

pub sizes_refused : (b i : ℕ) (listed : Listed) → false ≡ are_sizes b i → if_sizes b i listed ≡ Err Size
sizes_refused b i listed e = ap (λ t. cond t (Ok (record { blocks = b; inodes = i; listed = listed })) (Err Size)) (sym e)

pub sizes_taken : (b i : ℕ) (listed : Listed) → true ≡ are_sizes b i → if_sizes b i listed ≡ Ok (record { blocks = b; inodes = i; listed = listed })
sizes_taken b i listed e = ap (λ t. cond t (Ok (record { blocks = b; inodes = i; listed = listed })) (Err Size)) (sym e)

-- an error that is passed on
pub refuses_along : {X Y : Type 0} (fault : ManifestFault) (read : Result X ManifestFault) (other : Result Y ManifestFault)
    → ((f : ManifestFault) → read ≡ Err f → other ≡ Err f) → RefusesManifest fault read → RefusesManifest fault other
refuses_along (Form n) read other along r = along (Form n) r
refuses_along Size read other along r = along Size r
refuses_along (Parent n) read other along r = along (Parent n) r
refuses_along (Exists n) read other along r = along (Exists n) r
refuses_along (Source n) read other along r = along (Source n) r
refuses_along (Room n) read other along r = along (Room n) r
refuses_along Memory read other along r = tt

module _ (in_bundle : Bool) (bytes : Bytes) where
  abbrev read_by : Result ManifestAndLines ManifestFault
  read_by = manifest_by in_bundle entry_of (lines_of bytes)

  pub without_lines : lines_of bytes ≡ [] → read_by ≡ Err (Form 1)
  without_lines none = ap (manifest_by in_bundle entry_of) none

  module _ (first rest : Bytes) (split : lines_of bytes ≡ first ∷ lines_of rest) where
    abbrev listed_by : Result Listed ManifestFault
    listed_by = entries_from in_bundle entry_of (lines_of rest) 2 0

    whole : read_by ≡ after_sizes (sizes_of first) listed_by
    whole = ap (manifest_by in_bundle entry_of) split

    pub without_sizes : None ≡ option_map held_sizes (sizes_of first) → read_by ≡ Err (Form 1)
    without_sizes none = whole ∙ go (sizes_of first) none
      where
        go : (o : Option (ℕ × ℕ)) → None ≡ option_map held_sizes o → after_sizes o listed_by ≡ Err (Form 1)
        go None e = refl
        go (Some p) e = absurd cc

    module _ (blocks inodes : ℕ) (sizes : Some (blocks, inodes) ≡ option_map held_sizes (sizes_of first)) where
      pub error_of_entries : (fault : ManifestFault) → listed_by ≡ Err fault → read_by ≡ Err fault
      error_of_entries fault refused = whole ∙ go (sizes_of first) sizes
        where
          go : (o : Option (ℕ × ℕ)) → Some (blocks, inodes) ≡ option_map held_sizes o → after_sizes o listed_by ≡ Err fault
          go None e = absurd cc
          go (Some p) e = ap (with_entries p) refused

      pub with_listed : (listed : Listed) → listed_by ≡ Ok listed → read_by ≡ if_sizes blocks inodes listed
      with_listed listed read = whole ∙ go (sizes_of first) sizes
        where
          go : (o : Option (ℕ × ℕ)) → Some (blocks, inodes) ≡ option_map held_sizes o → after_sizes o listed_by ≡ if_sizes blocks inodes listed
          go None e = absurd cc
          go (Some p) e =
              let same : (blocks, inodes) ≡ held_sizes p = cc in
              let b : blocks ≡ up_to_greatest p.0 = ap (λ (q : ℕ × ℕ). q.0) same in
              let i : inodes ≡ up_to_greatest p.1 = ap (λ (q : ℕ × ℕ). q.1) same in
              ap (with_entries p) read ∙ sizes_held p.0 p.1 listed ∙ rw (b, i) refl

pub manifest_is_read : (bytes : Bytes) → read_manifest bytes ≡ manifest_by false entry_of (lines_of bytes)
unfolding read_manifest
manifest_is_read bytes = refl

pub bundle_is_read : (bytes : Bytes) → read_bundle bytes ≡ manifest_by true entry_of (lines_of bytes)
unfolding read_bundle
bundle_is_read bytes = refl
