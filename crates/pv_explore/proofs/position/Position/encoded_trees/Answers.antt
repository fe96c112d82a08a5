use Rattle.std.proofs.Common.{◌∙◌, ap, map}
use Rattle.pv_model.specs.Machine.{State}
use Rattle.pv_step_cache.specs.OfStateEncoding.Encoded.{plain, tree_groups}
use Rattle.pv_explore.proofs.position.Position.encoded_trees.Goals as goal

pub returns : goal.returns
returns c = c.in_ok-encoded_trees.ensures ∙ ap (λ (s : State). map plain (tree_groups s)) (c.parts.ensures.value ∙ c.self.view_is)
