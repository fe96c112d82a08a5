use Rattle.pv_model.specs.Machine.{between, words_from}
use Rattle.pv_source.proofs.SourceBlocks.{so_many, too_few}
use Rattle.pv_source.proofs.blocks.taken_block.Goals as goal

pub returns-in_default-clause-reads : goal.returns-in_default-clause-reads
returns-in_default-clause-reads c = too_few c.args.line.number (words_from c.args.line.words.now between) c.args.lines c.args.count c.in_default.ensures.found

pub returns-clause-reads : goal.returns-clause-reads
returns-clause-reads c =
    let takes = c.in-Some.ensures.found in
    (c.args.count, so_many c.args.line.number (words_from c.args.line.words.now between) c.args.lines c.args.count c.in-Some.body.now c.in-Some.rest c.requires.next takes, takes.after)
