-- The format of a file: an image or a source.
use Rattle.std.proofs.Common.{◌≡◌, ◌∙◌, ap, sym, subst, refl, ℕ, Bool, true, false, cond, eqb, if◌then◌else◌, List, [], ◌∷◌, codes, length, take, drop, Some, None, Result, Ok, Err}
use Rattle.std.specs.Cmp.Lexicographic.{pointwise}
use Rattle.std.specs.Str.{IsTrimAsciiStart}
use Rattle.std.proofs.lemmas.Str.Ascii.{trim_ascii_start_is}
use Rattle.pv_model.specs.declared.fault.ManifestFault.{ManifestFault}
use Rattle.pv_model.specs.declared.fault.ManifestFault.TheVariants.{Form, Size, Parent, Exists, Source, Room, Memory}
use Rattle.pv_model.specs.declared.version.Version.{Version}
use Rattle.pv_model.specs.declared.version.Version.TheVariants.{V1, V2}
use Rattle.pv_model.specs.Bytes.{onto_first}
use Rattle.pv_model.specs.Grammar.Entries.{EncodesManifest}
use Rattle.pv_model.specs.Machine.{Bytes, lines_of, magic, Manifest, mounted, read_bundle, read_manifest, Tree}
use Rattle.pv_laws_grammar.proofs.ManifestParsing.{EncodesManifest-whole}
use Rattle.pv_laws_grammar.proofs.TextLines.{lines_from_relation}
use Rattle.pv_laws_trees.proofs.TreeImages.{mounted-image}
use Rattle.pv_text.proofs.WordsAndTexts.{front_is}
use Rattle.pv_questions.specs.Formats.{heads_source, is_headed, is_nothing, is_source, is_word_end, is_word_end_after, trimmed}
use Rattle.pv_questions.specs.Trees.{or_manifest_alone, read_manifest_of}

-- ---- the first word of a line

abbrev heading : Bytes
heading = codes "image"

module _ (line : Bytes) where
  by_front : (begins : Bool) → pointwise eqb (take (length heading) line) heading ≡ begins
      → is_headed line ≡ is_word_end_after (cond begins (Some (drop (length heading) line)) None)
  by_front begins is = ap is_word_end_after (front_is heading line) ∙ ap (λ (b : Bool). is_word_end_after (cond b (Some (drop (length heading) line)) None)) is

  pub headed : (rest : Bytes) → pointwise eqb (take (length heading) line) heading ≡ true → rest ≡ drop (length heading) line → is_word_end rest ≡ is_headed line
  headed rest begins is = ap is_word_end is ∙ sym (by_front true begins)

  pub not_headed : pointwise eqb (take (length heading) line) heading ≡ false → false ≡ is_headed line
  not_headed begins = sym (by_front false begins)

-- ---- a line, which decides or is skipped

module _ (rest line following without : Bytes) (lines : lines_of rest ≡ line ∷ lines_of following) (trims : IsTrimAsciiStart line without) where
  same : without ≡ trimmed line
  same = trim_ascii_start_is line without trims

  pub line-skipped : is_nothing without ≡ true → heads_source (lines_of following) ≡ heads_source (lines_of rest)
  line-skipped nothing =
      let none : is_nothing (trimmed line) ≡ true = subst (λ (bs : Bytes). is_nothing bs ≡ true) same nothing in
      sym (ap heads_source lines ∙ ap (λ (b : Bool). if b then heads_source (lines_of following) else is_headed (trimmed line)) none)

  pub line-decides : is_nothing without ≡ false → is_headed without ≡ heads_source (lines_of rest)
  line-decides something =
      let some : is_nothing (trimmed line) ≡ false = subst (λ (bs : Bytes). is_nothing bs ≡ false) same something in
      ap is_headed same ∙ sym (ap heads_source lines ∙ ap (λ (b : Bool). if b then heads_source (lines_of following) else is_headed (trimmed line)) some)

pub no_line-decides : (rest : Bytes) → lines_of rest ≡ [] → heads_source (lines_of rest) ≡ false
no_line-decides rest none = ap heads_source none

pub is_source-lines : (bytes : Bytes) → is_source bytes ≡ heads_source (lines_of bytes)
unfolding is_source
is_source-lines bytes = refl

-- ---- a manifest is a source

manifest-heads : (in_bundle : Bool) (bytes : Bytes) (m : Manifest) → EncodesManifest in_bundle bytes m → heads_source (lines_of bytes) ≡ true
manifest-heads in_bundle bytes m encodes =
    let form = encodes.0 in
    let sizes = form.3 in
    ap heads_source (lines_from_relation bytes (form.0 ∷ form.1) form.2) ∙ ap (λ (line : Bytes). heads_source (line ∷ form.1)) sizes.4

manifest_alone-heads : (bytes : Bytes) (m : Manifest) → read_manifest bytes ≡ Ok m → heads_source (lines_of bytes) ≡ true
unfolding read_manifest
manifest_alone-heads bytes m is = manifest-heads false bytes m (EncodesManifest-whole false bytes m is)

bundle-heads : (bytes : Bytes) (m : Manifest) → read_bundle bytes ≡ Ok m → heads_source (lines_of bytes) ≡ true
unfolding read_bundle
bundle-heads bytes m is = manifest-heads true bytes m (EncodesManifest-whole true bytes m is)

read-heads : (bytes : Bytes) (m : Manifest) (read : Result Manifest ManifestFault) → read_bundle bytes ≡ read → or_manifest_alone read (read_manifest bytes) ≡ Ok m
    → heads_source (lines_of bytes) ≡ true
read-heads bytes m (Ok other) at is = bundle-heads bytes other at
read-heads bytes m (Err (Form n)) at is = manifest_alone-heads bytes m is
read-heads bytes m (Err Size) at is = cc is
read-heads bytes m (Err (Parent n)) at is = cc is
read-heads bytes m (Err (Exists n)) at is = cc is
read-heads bytes m (Err (Source n)) at is = cc is
read-heads bytes m (Err (Room n)) at is = cc is
read-heads bytes m (Err Memory) at is = cc is

pub manifest-source : (bytes : Bytes) (m : Manifest) → read_manifest_of bytes ≡ Ok m → is_source bytes ≡ true
unfolding read_manifest_of
manifest-source bytes m is = is_source-lines bytes ∙ read-heads bytes m (read_bundle bytes) refl is

-- ---- an image is not

abbrev head_of : Bytes → ℕ
head_of [] = 0
head_of (b ∷ bs) = b

first-of_image : (bytes : Bytes) (v : Version) → take 8 bytes ≡ magic v → head_of (take 8 bytes) ≡ 80
first-of_image bytes V1 begins = ap head_of begins
first-of_image bytes V2 begins = ap head_of begins

image-heads : (bs : Bytes) (lines : List Bytes) → lines_of bs ≡ lines → heads_source (lines_of (80 ∷ bs)) ≡ false
image-heads bs [] is = ap (λ (lines : List Bytes). heads_source (onto_first 80 lines)) is
image-heads bs (line ∷ lines) is = ap (λ (lines : List Bytes). heads_source (onto_first 80 lines)) is

image-begins : (bytes : Bytes) → head_of (take 8 bytes) ≡ 80 → heads_source (lines_of bytes) ≡ false
image-begins [] is = refl
image-begins (b ∷ bs) is = ap (λ (n : ℕ). heads_source (lines_of (n ∷ bs))) is ∙ image-heads bs (lines_of bs) refl

pub image-no_source : (bytes : Bytes) (t : Tree) → mounted bytes ≡ Ok t → is_source bytes ≡ false
image-no_source bytes t is =
    is_source-lines bytes ∙ image-begins bytes (first-of_image bytes t.version (mounted-image bytes t is).has_magic)
