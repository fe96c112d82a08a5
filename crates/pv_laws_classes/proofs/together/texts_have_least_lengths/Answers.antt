use Rattle.pv_laws_classes.proofs.LeastLengths.{has-least_length}
use Rattle.pv_laws_classes.proofs.together.texts_have_least_lengths.Goals as goal

pub returns : goal.returns
returns c = λ program_of most s bytes m encodes whole some had. has-least_length program_of encodes bytes most s whole some m had
