use Rattle.pv_text.proofs.FirstComponents.{component_split, component_last}
use Rattle.pv_text.proofs.components.split_component.Goals as goal

pub returns-in-empty-clause-components : goal.returns-in-empty-clause-components
returns-in-empty-clause-components c = component_last _ _ _ _ c.first_of.ensures.first c.split_at.ensures.front c.split_at.ensures.back c.in-empty.len_below

pub returns-in-len1-up-clause-components : goal.returns-in-len1-up-clause-components
returns-in-len1-up-clause-components c = component_split _ _ _ _ c.first_of.ensures.first c.split_at.ensures.front c.split_at.ensures.back c.in-len1-up.len_at_least
