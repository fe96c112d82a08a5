-- The text written for a source is accepted.
use Rattle.std.proofs.Common.{◌≡◌, ◌∙◌, ap, ℕ, suc, Bool, true, false, cond, List, [], ◌∷◌, length, take, Option, None, Some, Ok, refl, sym, subst, inl, inr}
use Rattle.std.specs.Prelude.{map, flat_map, codes}
use Rattle.std.specs.Fmt.{decimal}
use Rattle.pv_model.specs.Machine.{spaced, Bytes, EncodesManifest, lines_of, Manifest, sizes_of, data_blocks, read_manifest, read_bundle, ended, empty_tree, Block, single, blocks_of, errors_of_blocks, read_source, program_lines, instructions_of, NumberedWords, lines_that_count, written_lines, text_of_blocks}
use Rattle.pv_model.specs.Grammar.Manifests.{are_sizes}
use Rattle.pv_laws_grammar.proofs.EntryLines.{EncodesSizes-sizes_of}
use Rattle.pv_laws_grammar.proofs.ManifestParsing.{whole-EncodesManifest, are_sizes_found}
use Rattle.pv_laws_grammar.specs.Accepted.{AreValidEntries, IsAcceptedText, HasLineEnds}
use Rattle.pv_model.specs.Source.Judged.{Judgement, image_so_far, checked_first, errors_from, or_errors}
use Rattle.pv_model.specs.Source.Words.{source_lines, with_last_word}
use Rattle.pv_laws_grammar.proofs.AcceptedBlocks.{AreBlocks, no_block, by_itself, up_to_mark, so_many, unended, then_turns, blocks-are, reported_split, known, has_schedule, Listing, listing, program-lines}
use Rattle.pv_laws_grammar.proofs.WrittenLines.{AreLines, HaveWords, all-append, spaced-line, with_last-lines, decimal-line, taken-lines, counting-lines, source-lines, lines_again}
use Rattle.pv_model.specs.Grammar.Texts.{IsLine}

-- ---- the written lines

turn-lines : (lines : List NumberedWords) → HaveWords lines → AreLines (map (λ line. spaced line.1) lines)
turn-lines [] all = tt
turn-lines (line ∷ lines) all = (spaced-line line.1 all.0, turn-lines lines all.1)

block-lines : (blocks : List Block) → AreBlocks blocks → AreLines (flat_map written_lines blocks)
block-lines _ no_block = tt
block-lines _ (by_itself n words blocks own later) = (spaced-line words own, block-lines blocks later)
block-lines _ (up_to_mark n others body blocks own lines later) =
    let instructions = instructions_of (program_lines body) in (
      spaced-line (with_last_word (decimal (length instructions)) (codes "exec" ∷ others)) (with_last-lines (decimal (length instructions)) (codes "exec" ∷ others) (decimal-line (length instructions)) own),
      all-append IsLine instructions (flat_map written_lines blocks) (program-lines body lines) (block-lines blocks later),
    )
block-lines _ (so_many n others body blocks own lines counts later) =
    (spaced-line (codes "exec" ∷ others) own, all-append IsLine (map (λ line. line.1) body) (flat_map written_lines blocks) (taken-lines body lines) (block-lines blocks later))
block-lines _ (unended n) = tt
block-lines _ (then_turns n others body own lines) =
    (spaced-line (codes "schedule" ∷ others) own, all-append IsLine (map (λ line. spaced line.1) (lines_that_count body)) [] (turn-lines (lines_that_count body) (counting-lines body lines)) tt)

-- ---- the first line

record IsImage (words : List Bytes) (j : Judgement) : Type 0 where
  blocks : ℕ
  inodes : ℕ
  reported_as : sizes_of (spaced words) ≡ Some (blocks, inodes)
  right : are_sizes blocks inodes ≡ true
  left : j.1 ≡ known (empty_tree (data_blocks blocks inodes) inodes)

image-is : (words : List Bytes) (o : Option (ℕ × ℕ)) → sizes_of (spaced words) ≡ o → (image_so_far o).0 ≡ false → IsImage words (image_so_far o)
image-is words None is none = cc
image-is words (Some sizes) is none = by (are_sizes sizes.0 sizes.1) refl none
  where
    by : (t : Bool) → are_sizes sizes.0 sizes.1 ≡ t
        → (cond {A = Judgement} t (false, known (empty_tree (data_blocks sizes.0 sizes.1) sizes.1)) (true, record { tree = None; lacked_room = false })).0 ≡ false → IsImage words (image_so_far (Some sizes))
    by true holds none_ = record {
      blocks = sizes.0;
      inodes = sizes.1;
      reported_as = is;
      right = holds;
      left = ap (λ t. (cond {A = Judgement} t (false, known (empty_tree (data_blocks sizes.0 sizes.1) sizes.1)) (true, record { tree = None; lacked_room = false })).1) holds;
    }
    by false holds none_ = cc

-- ---- complete sources

module _ (words : List Bytes) (image : (j : Judgement) × IsImage words j) (blocks : List Block) (own : AreLines words) (later : AreBlocks blocks) where
  abbrev lines : List Bytes
  lines = spaced words ∷ flat_map written_lines blocks

  are : AreLines lines
  are = (spaced-line words own, block-lines blocks later)

  module _ (in_bundle : Bool) (l : Listing in_bundle 2 (empty_tree (data_blocks image.1.blocks image.1.inodes) image.1.inodes) (flat_map written_lines blocks)) where
    abbrev whole : Manifest
    whole = record { blocks = image.1.blocks; inodes = image.1.inodes; listed = l.listed }

    encoded : EncodesManifest in_bundle (ended lines) whole
    encoded = ((spaced words, flat_map written_lines blocks, (are, inl refl), EncodesSizes-sizes_of (spaced words) (image.1.blocks, image.1.inodes) image.1.reported_as, l.lists), are_sizes_found image.1.blocks image.1.inodes image.1.right)

    right : AreValidEntries whole
    right = record { tree = l.tree; made = l.made; init = l.init }

  accepted-listing : (in_bundle : Bool) → Listing in_bundle 2 (empty_tree (data_blocks image.1.blocks image.1.inodes) image.1.inodes) (flat_map written_lines blocks) → IsAcceptedText (ended lines)
  unfolding read_manifest read_bundle
  accepted-listing true l = inl (record {
    manifest = whole true l;
    schedule = l.turns.0;
    read = whole-EncodesManifest true (ended lines) (whole true l) (encoded true l);
    right = right true l;
    turns = l.turns.1;
  })
  accepted-listing false l = inr (record { manifest = whole false l; read = whole-EncodesManifest false (ended lines) (whole false l) (encoded false l); right = right false l })

accepted-blocks : (last : ℕ) (blocks : List Block) → AreBlocks blocks → errors_of_blocks last blocks ≡ [] → IsAcceptedText (text_of_blocks blocks)
unfolding errors_of_blocks text_of_blocks
accepted-blocks last _ no_block none = cc
accepted-blocks last _ (by_itself n words blocks own later) none =
    let parts = reported_split (single n words) (checked_first (single n words)) (errors_from blocks) none in
    let image = image-is words (sizes_of (spaced words)) refl parts.0 in
    let rest = listing blocks later (empty_tree (data_blocks image.blocks image.inodes) image.inodes) (ap (errors_from blocks) (sym image.left) ∙ parts.2) 2 in
    accepted-listing words (image_so_far (sizes_of (spaced words)), image) blocks own later (has_schedule blocks) rest
accepted-blocks last _ (up_to_mark n others body blocks own lines_ later) none = cc
accepted-blocks last _ (so_many n others body blocks own lines_ counts later) none = cc
accepted-blocks last _ (unended n) none = cc
accepted-blocks last _ (then_turns n others body own lines_) none = cc

pub errors-parts : (blocks : List Block) (faults : List ℕ) (text : Bytes) → or_errors blocks (take 20 faults) ≡ Ok text → (faults ≡ []) × (text_of_blocks blocks ≡ text)
errors-parts blocks [] text is = (refl, let same : text_of_blocks blocks ≡ text = cc in same)
errors-parts blocks (n ∷ faults) text is = cc

pub accepted : (source text : Bytes) → read_source source ≡ Ok text → IsAcceptedText text
unfolding read_source blocks_of
accepted source text is =
    let blocks = blocks_of source in
    let parts = errors-parts blocks (errors_of_blocks (suc (length (lines_of source))) blocks) text is in
    subst IsAcceptedText parts.1 (accepted-blocks (suc (length (lines_of source))) blocks (blocks-are (source_lines source) 0 (source-lines 1 source)) parts.0)

-- each line of the written text ends with an LF
pub written-ended : (source text : Bytes) → read_source source ≡ Ok text → HasLineEnds text
unfolding read_source blocks_of text_of_blocks
written-ended source text is =
    let blocks = blocks_of source in
    let parts = errors-parts blocks (errors_of_blocks (suc (length (lines_of source))) blocks) text is in
    let are = block-lines blocks (blocks-are (source_lines source) 0 (source-lines 1 source)) in
    subst HasLineEnds parts.1 (ap ended (sym (lines_again (flat_map written_lines blocks) are)))
