use Rattle.std.proofs.Common.{◌≡◌, ◌-◌, ◌%◌, take, drop, ap, ◌∙◌, arith}
use Rattle.std.proofs.lemmas.List.{length-drop}
use Rattle.pv_model.specs.Machine.{Tree}
use Rattle.pv_dirs.specs.Trees.{node_bytes_at}
use Rattle.pv_tree.specs.Holding.{HeldTree}
use Rattle.pv_tree.proofs.BorrowedRuns.{run-is, run-some, run-within}
use Rattle.pv_tree.proofs.tree.Tree.lend.Goals as goal
use Rattle.pv_tree.proofs.tree.Tree.lend.Goals.{After-lend}

-- the borrowed bytes, as those of the tree
lent : (c : After-lend) → c.lend.result.now ≡ take (512 - c.args.at % 512) (drop c.args.at (node_bytes_at c.args.self.now.tree c.args.node))
lent c =
    c.lend.ensures
    ∙ ap (λ (t : Tree). take (512 - c.args.at % 512) (drop c.args.at (node_bytes_at t c.args.node))) (ap (λ (h : HeldTree). h.tree) c.self.view_is)

pub returns-clause-run : goal.returns-clause-run
returns-clause-run c =
    run-is (512 - c.args.at % 512) (drop c.args.at (node_bytes_at c.args.self.now.tree c.args.node)) c.lend.result.now (lent (goal.at.returns-clause-run c).After-lend)

pub returns-clause-some : goal.returns-clause-some
returns-clause-some c =
    let bytes = node_bytes_at c.args.self.now.tree c.args.node in
    run-some (512 - c.args.at % 512) (drop c.args.at bytes) c.lend.result.now (lent (goal.at.returns-clause-some c).After-lend) (omega arith)
    (omega (arith, length-drop c.args.at bytes, c.requires.within))

pub returns-clause-within : goal.returns-clause-within
returns-clause-within c =
    let bytes = node_bytes_at c.args.self.now.tree c.args.node in
    let below = run-within (512 - c.args.at % 512) (drop c.args.at bytes) c.lend.result.now (lent (goal.at.returns-clause-within c).After-lend) in
    omega (arith, below, length-drop c.args.at bytes, c.requires.within)
