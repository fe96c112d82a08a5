use Rattle.pv_model.specs.Machine.{program_of}
use Rattle.pv_calls_path.proofs.WalkEnds.{begun-ends}
use Rattle.pv_calls_path.proofs.ends.begun_ends.Goals as goal

pub returns : goal.returns
returns c s pid me call number walk at is few = begun-ends program_of s pid me at call number walk is few
