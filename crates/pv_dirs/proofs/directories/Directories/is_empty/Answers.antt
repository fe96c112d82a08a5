use Rattle.std.proofs.Common.{sym, ◌∙◌}
use Rattle.std.proofs.lemmas.Bool.{eqb-true, eq-eqb}
use Rattle.pv_dirs.proofs.TreeViews.{viewed_directory_used, viewed_empty, viewed_none}
use Rattle.pv_dirs.proofs.directories.Directories.is_empty.Goals as goal

pub invariant_of-dir : goal.invariant_of-dir
invariant_of-dir c = record { used = viewed_directory_used c.self.inside.inodes c.args.self.now c.args.directory c.self.view_is c.requires }

pub returns : goal.returns
returns c = (
  λ is. viewed_empty c.self.inside.inodes c.args.self.now c.args.directory c.self.view_is c.self.inside.block_count c.self.invariant.holding c.requires (sym c.count.ensures.value ∙ eqb-true c.count.result 0 is),
  λ none. eq-eqb c.count.result 0 (c.count.ensures.value ∙ viewed_none c.self.inside.inodes c.args.self.now c.args.directory c.self.view_is c.self.inside.block_count c.self.invariant.holding c.requires none),
)
