use Rattle.std.proofs.Common.{◌≡◌, ◌∙◌, Bool, true, false, Option, None, Some, ap, is_none, is_some, not, ℕ, refl}
use Rattle.pv_model.specs.declared.verdict.Why.{Why}
use Rattle.pv_exposure.proofs.FileDescriptions.{safe-none}
use Rattle.pv_exposure.proofs.files.StateFiles.is_safe.Goals as goal

from-not : (o : Option (ℕ × Why)) (b : Bool) → is_some o ≡ not b → b ≡ is_none o
from-not None true is = refl
from-not None false is = cc is
from-not (Some x) true is = cc is
from-not (Some x) false is = refl

pub returns : goal.returns
returns c = λ given first s are.
    from-not c.leak.result c.is_none.result c.is_none.ensures ∙ ap (λ (o : Option (ℕ × Why)). is_none o) (c.leak.ensures given first s are) ∙ safe-none c.args.node s
