use Rattle.std.proofs.Common.{◌∙◌, ◌++◌, ◌∷◌, [], ℕ, Bool, List, ap, filter, get_or, sym, take}
use Rattle.std.proofs.lemmas.List.{take_more}
use Rattle.std.proofs.lemmas.List.Elements.{filter-append}
use Rattle.pv_exposure.specs.StateFiles.{is_safe_at}
use Rattle.pv_exposure.proofs.ListTexts.{take-past}
use Rattle.pv_exposure.proofs.programs.safe_among.Goals as goal

pub loop-node-preserved : goal.loop-node-preserved
loop-node-preserved c = λ given first s are.
    let fs = c.args.nodes.now in
    let i = c.loop-node.node-index in
    let safe : ℕ → Bool = λ f. is_safe_at f s in
    c.in_ok-push_safe.ensures given first s are
    ∙ ap (λ (ns : List ℕ). ns ++ filter safe (get_or fs i 0 ∷ [])) (c.loop-node.invariant given first s are)
    ∙ sym (ap (filter safe) (take_more fs i 0 c.loop-node-test.true) ∙ filter-append safe (take i fs) (get_or fs i 0 ∷ []))

pub returns : goal.returns
returns c = λ given first s are.
    let safe : ℕ → Bool = λ f. is_safe_at f s in
    c.loop-node.invariant given first s are ∙ ap (filter safe) (take-past c.args.nodes.now c.loop-node.node-index c.loop-node-test.false)
