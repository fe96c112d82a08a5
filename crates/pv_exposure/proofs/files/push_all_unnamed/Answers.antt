use Rattle.std.proofs.Common.{◌≡◌, ◌∙◌, ◌++◌, ◌∷◌, [], ℕ, List, append_assoc, ap, filter, length, sym, arith}
use Rattle.std.specs.List.{range_with_len}
use Rattle.std.proofs.lemmas.List.Elements.{filter-append}
use Rattle.pv_exposure.specs.Unnamed.{is_unnamed}
use Rattle.pv_exposure.proofs.UnnamedFiles.{range-next, unnamed-are}
use Rattle.pv_exposure.proofs.files.push_all_unnamed.Goals as goal

pub loop-node-preserved : goal.loop-node-preserved
loop-node-preserved c =
    let t = c.args.tree.now.tree in
    let n = c.loop-node.node in
    let old = c.args.files.now.items in
    c.in_ok-push_unnamed.ensures
    ∙ ap (λ (ns : List ℕ). ns ++ filter (is_unnamed t) (n ∷ [])) c.loop-node.invariant
    ∙ append_assoc old (filter (is_unnamed t) (range_with_len 0 n)) (filter (is_unnamed t) (n ∷ []))
    ∙ ap (λ (ns : List ℕ). old ++ ns) (sym (ap (filter (is_unnamed t)) (range-next n) ∙ filter-append (is_unnamed t) (range_with_len 0 n) (n ∷ [])))

pub returns : goal.returns
returns c =
    let t = c.args.tree.now.tree in
    let old = c.args.files.now.items in
    let many : c.loop-node.node ≡ length t.nodes = omega (arith, c.node_count-node-end.ensures, c.loop-node-test.false) in
    c.loop-node.invariant ∙ ap (λ n. old ++ filter (is_unnamed t) (range_with_len 0 n)) many ∙ ap (λ (ns : List ℕ). old ++ ns) (unnamed-are t)
