use Rattle.std.proofs.Common.{refl}
use Rattle.pv_script.specs.Context.{first_context}
use Rattle.pv_script.proofs.context.Context.new.Goals as goal

pub returns : goal.returns
unfolding first_context
returns c = rw c.in_ok-new.ensures refl
