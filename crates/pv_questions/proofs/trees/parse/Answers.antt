use Rattle.std.proofs.Common.{refl, drop}
use Rattle.pv_model.specs.Machine.{lines_of}
use Rattle.pv_questions.specs.Trees.{read_manifest_of}
use Rattle.pv_questions.proofs.trees.parse.Goals as goal

pub returns-in-Ok : goal.returns-in-Ok
unfolding read_manifest_of
returns-in-Ok c = (lines_of (drop c.in-Ok.bundle.schedule_at c.args.bytes.now), rw c.in-Ok.ensures.exact refl)
