use Rattle.std.proofs.Common.{◌∙◌, ap, List, ℕ}
use Rattle.std.specs.Global.{Vec}
use Rattle.pv_explore.specs.Rows.{parts_in}
use Rattle.pv_reduced.specs.Keys.{reduced_parts}
use Rattle.pv_reduced.proofs.ListSets.{first-list}
use Rattle.pv_reduced.proofs.search.first_lists.Goals as goal

pub returns : goal.returns
returns c =
    first-list (parts_in c.deref.result.now) (reduced_parts 0 c.args.position.now) c.in_ok-add.field-0 c.new-lists.result c.add.new.self c.new-lists.ensures
    (ap (λ (ps : List (Vec ℕ)). parts_in ps) c.deref.ensures.value ∙ c.in_ok-parts.ensures) c.in_ok-add.ensures
