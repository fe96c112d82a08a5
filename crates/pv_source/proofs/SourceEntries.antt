-- The entries of blocks.
use Rattle.std.proofs.Common.{◌≡◌, ◌∙◌, ap, ℕ, ◌+◌, ◌<◌, ◌≤◌, true, false, List, [], ◌++◌, length, Option, None, Some, refl, sym, arith}
use Rattle.std.proofs.lemmas.Bool.{le-leb, lt-leb}
use Rattle.std.specs.Prelude.{nat_le, option_map}
use Rattle.pv_image_manifest.specs.Reading.{held_sizes}
use Rattle.pv_model.specs.Machine.{spaced, Bytes, lines_of, entry_of, single, between, words_from}
use Rattle.pv_model.specs.Grammar.Manifests.{Taking}
use Rattle.pv_source.specs.declared.blocks.Block.{Block as ReadBlock}
use Rattle.pv_source.specs.declared.blocks.Kind.TheVariants.{Taken}
use Rattle.pv_source.specs.Reading.{numbered_text}
use Rattle.pv_source.specs.ReadBlocks.{block_by, parsed_block}
use Rattle.pv_source.specs.ReadEntries.{numbered_entry}
use Rattle.pv_model.specs.Source.Judged.{exec_path, executable, entry_of_block}
use Rattle.pv_source.proofs.SourceLines.{length-counted}
use Rattle.pv_source.proofs.WrittenTexts.{bytes_counted}

-- words that were appended to an empty line
pub joined_is : (before after text : Bytes) → after ≡ before ++ text → before ≡ [] → after ≡ text
joined_is before after text is none = is ∙ ap (λ bs. bs ++ text) none

pub single_is : (n : ℕ) (words : List Bytes) (line : Bytes) → line ≡ spaced words → option_map (λ (taking : Taking). (n, taking.0)) (entry_of line []) ≡ numbered_entry n (entry_of_block (single n words))
unfolding entry_of_block
single_is n words line is = ap (λ l. option_map (λ (taking : Taking). (n, taking.0)) (entry_of l [])) is ∙ both (entry_of (spaced words) [])
  where
    both : (o : Option Taking) → option_map (λ (taking : Taking). (n, taking.0)) o ≡ numbered_entry n (option_map (λ (taking : Taking). taking.0) o)
    both None = refl
    both (Some taking) = refl

module _ (b : ReadBlock) (is : b.kind ≡ Taken) where
  abbrev its_words : List Bytes
  its_words = words_from b.words.now between

  its_length : length (numbered_text (b.number + 1) b.body.now) ≡ length (lines_of b.body.now)
  its_length = length-counted (b.number + 1) (lines_of b.body.now)

  pub taken_many : 9999 < length (lines_of b.body.now) → entry_of_block (parsed_block b) ≡ None
  unfolding entry_of_block
  taken_many many =
      let less : nat_le (length (numbered_text (b.number + 1) b.body.now)) 9999 ≡ false = lt-leb _ 9999 (omega (arith, many, its_length)) in
      ap (λ k. entry_of_block (block_by k b.number its_words (numbered_text (b.number + 1) b.body.now))) is ∙ rw less refl

  pub taken_few : length (lines_of b.body.now) ≤ 9999 → entry_of_block (parsed_block b) ≡ executable (lines_of b.body.now) (exec_path its_words)
  unfolding entry_of_block
  taken_few few =
      let enough : nat_le (length (numbered_text (b.number + 1) b.body.now)) 9999 ≡ true = le-leb _ 9999 (omega (arith, few, its_length)) in
      ap (λ k. entry_of_block (block_by k b.number its_words (numbered_text (b.number + 1) b.body.now))) is
      ∙ rw enough (ap (λ ls. executable ls (exec_path its_words)) (bytes_counted (b.number + 1) (lines_of b.body.now)))

-- saturated sizes are the saturation of some sizes
pub held_found : (o : Option (ℕ × ℕ)) (blocks inodes : ℕ) → ◌≡◌ {A = Option (ℕ × ℕ)} (Some (blocks, inodes)) (option_map held_sizes o) → (sizes : ℕ × ℕ) × (o ≡ Some sizes) × (held_sizes sizes ≡ (blocks, inodes))
held_found None blocks inodes is = cc
held_found (Some sizes) blocks inodes is = (sizes, refl, let same : ◌≡◌ {A = ℕ × ℕ} (blocks, inodes) (held_sizes sizes) = cc in sym same)
