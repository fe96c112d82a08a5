use Rattle.std.proofs.Common.{◌∙◌}
use Rattle.pv_host_copy.proofs.WholeImport.{start-holds}
use Rattle.pv_host_copy.proofs.import.empty.Goals as goal

pub returns-clause-holds : goal.returns-clause-holds
returns-clause-holds c =
    start-holds c.args.version c.layout-blocks.result.greatest_blocks _ (c.into_tree.ensures.tree ∙ c.in_ok-store.ensures) c.layout-blocks.ensures.greatest_blocks c.new.ensures.items c.new-2.ensures.items
