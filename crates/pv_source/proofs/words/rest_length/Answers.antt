use Rattle.pv_source.proofs.SourceWords.{plain_length, unended_length}
use Rattle.pv_source.proofs.words.rest_length.Goals as goal

pub returns-then-first-ne34-clause-word : goal.returns-then-first-ne34-clause-word
returns-then-first-ne34-clause-word c = plain_length c.args.first c.args.bytes.now c.first_blank.result c.if-first-ne34.true c.first_blank.ensures.first

pub returns-in-None-clause-word : goal.returns-in-None-clause-word
returns-in-None-clause-word c = unended_length c.args.first c.args.bytes.now c.first_blank-in-None.result c.in-None.ensures.some c.first_blank-in-None.ensures.first
