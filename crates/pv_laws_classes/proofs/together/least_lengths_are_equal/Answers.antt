use Rattle.pv_laws_classes.proofs.CombinedSteps.{least-equal}
use Rattle.pv_laws_classes.proofs.together.least_lengths_are_equal.Goals as goal

pub returns : goal.returns
returns c = λ program_of most s bytes n encodes whole some. least-equal program_of most encodes s whole bytes some n
