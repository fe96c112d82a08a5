use Rattle.std.proofs.Common.{suc, length}
use Rattle.pv_model.specs.Machine.{lines_of, between, words_from}
use Rattle.pv_source.proofs.SourceBlocks.{up_to_mark}
use Rattle.pv_source.proofs.blocks.program_block.Goals as goal

pub returns-clause-reads : goal.returns-clause-reads
returns-clause-reads c =
    let ends = c.in-Some.ensures.found in (
      suc (length (lines_of c.in-Some.body.now)),
      up_to_mark c.args.line.number (words_from c.args.line.words.now between) c.args.lines c.args.mark.now c.in-Some.body.now c.in-Some.rest c.requires.next ends,
      ends.after,
    )
