-- The definitions to unfold in a proof by computation of sources on literals.
use Rattle.std.specs.Prelude.{⊤}
use Rattle.std.specs.Fmt.{digits}
use Rattle.pv_model.specs.Grammar.Arguments.{text_at, parsed_flags}
use Rattle.pv_model.specs.Grammar.Instructions.{instruction_by}
use Rattle.pv_model.specs.Grammar.Manifests.{entry_by, add_entry}
use Rattle.pv_model.specs.OnLiterals.{machine_on_literals}
use Rattle.pv_model.specs.Source.Blocks.{blocks_of}
use Rattle.pv_model.specs.Source.Judged.{entry_of_block, errors_of_blocks, read_source}
use Rattle.pv_model.specs.Source.Programs.{program_lines, program_errors}
use Rattle.pv_model.specs.Source.Words.{words_of}
use Rattle.pv_model.specs.Source.Written.{text_of_blocks}

-- all definitions of sources that are folded
unfoldable pub sources_on_literals : ⊤
unfolding machine_on_literals digits text_at parsed_flags instruction_by entry_by add_entry words_of blocks_of program_lines program_errors text_of_blocks entry_of_block errors_of_blocks read_source
sources_on_literals = tt
