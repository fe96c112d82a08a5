use Rattle.pv_source.proofs.LocatedLines.{numbers_of_block}
use Rattle.pv_source.proofs.located.numbers_are_of_the_translation.Goals as goal

pub returns : goal.returns
returns c = numbers_of_block
