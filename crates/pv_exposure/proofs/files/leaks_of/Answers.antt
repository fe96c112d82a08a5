use Rattle.std.proofs.Common.{◌≡◌, ◌∙◌, ◌++◌, ◌∷◌, [], ℕ, List, Option, ap, length, map, sym, arith}
use Rattle.std.specs.List.{range_with_len}
use Rattle.std.proofs.lemmas.List.{map-append}
use Rattle.pv_model.specs.declared.verdict.Why.{Why}
use Rattle.pv_model.specs.Machine.{Tree}
use Rattle.pv_exposure.specs.StateFiles.{first_leak_at}
use Rattle.pv_exposure.proofs.UnnamedFiles.{range-next}
use Rattle.pv_exposure.proofs.files.leaks_of.Goals as goal

pub loop-node-preserved : goal.loop-node-preserved
loop-node-preserved c =
    let s = c.args.parts.now in
    let n = c.loop-node.node in
    c.in_ok-push_leak.ensures
    ∙ ap (λ (xs : List (Option (ℕ × Why))). xs ++ first_leak_at s n ∷ []) c.loop-node.invariant
    ∙ sym (ap (map (first_leak_at s)) (range-next n) ∙ map-append (first_leak_at s) (range_with_len 0 n) (n ∷ []))

pub returns : goal.returns
returns c =
    let s = c.args.parts.now in
    let many : c.loop-node.node ≡ length s.tree.nodes = omega (arith, c.node_count-node-end.ensures, c.loop-node-test.false, ap (λ (t : Tree). length t.nodes) c.tree.ensures) in
    c.loop-node.invariant ∙ ap (λ n. map (first_leak_at s) (range_with_len 0 n)) many
