use Rattle.std.proofs.Common.{◌≡◌, ℕ, suc, ◌+◌, ◌-◌, ◌<◌, true, ap, sym, subst, ◌∙◌, arith}
use Rattle.std.specs.Prelude.{IfSome}
use Rattle.pv_model.specs.Machine.{is_directory_at, IsWellFormed}
use Rattle.pv_tree.proofs.ParentChanges.{is_among, among-all, among-itself, among-above, among-top, among-removed}
use Rattle.pv_tree.proofs.tree.Tree.contains.Goals as goal

-- the number of steps that remain includes this one
left : (inodes top step : ℕ) → top ≡ inodes → step < top + 1 → inodes + 1 - step ≡ suc (inodes - step)
left inodes top step same within = omega arith

pub loop-step-init : goal.loop-step-init
loop-step-init c =
    let w = subst IsWellFormed (ap (λ h. h.tree) c.self.view_is) c.self.invariant.counted.well_formed in
    let all : c.args.self.now.tree.inodes + 1 - 0 ≡ c.args.self.now.tree.inodes + 1 = omega arith in
    (c.requires, ap (λ k. is_among c.args.self.now.tree c.args.node k c.args.directory) all ∙ among-all c.args.self.now.tree c.args.self.now.tree.inodes w.numbers c.args.node c.args.directory)

pub returns-then-reached-node : goal.returns-then-reached-node
returns-then-reached-node c =
    let steps = left c.args.self.now.tree.inodes c.inodes-step-end.result c.loop-step._step (c.inodes-step-end.ensures.value ∙ ap (λ h. h.tree.inodes) c.self.view_is) c.loop-step-test.true in
    sym (among-itself c.args.self.now.tree c.args.node (c.args.self.now.tree.inodes - c.loop-step._step) c.loop-step.reached c.if-reached-node.true)
    ∙ ap (λ k. is_among c.args.self.now.tree c.args.node k c.loop-step.reached) (sym steps) ∙ c.loop-step.invariant.1

pub returns-then-reached-eq-ROOT : goal.returns-then-reached-eq-ROOT
returns-then-reached-eq-ROOT c =
    let steps = left c.args.self.now.tree.inodes c.inodes-step-end.result c.loop-step._step (c.inodes-step-end.ensures.value ∙ ap (λ h. h.tree.inodes) c.self.view_is) c.loop-step-test.true in
    sym (among-top c.args.self.now.tree c.args.node (c.args.self.now.tree.inodes - c.loop-step._step) c.loop-step.reached c.if-reached-node.false c.if-reached-eq-ROOT.true)
    ∙ ap (λ k. is_among c.args.self.now.tree c.args.node k c.loop-step.reached) (sym steps) ∙ c.loop-step.invariant.1

pub parent-requires : goal.parent-requires
parent-requires c = c.loop-step.invariant.0

pub returns-in_default : goal.returns-in_default
returns-in_default c =
    let steps = left c.args.self.now.tree.inodes c.inodes-step-end.result c.loop-step._step (c.inodes-step-end.ensures.value ∙ ap (λ h. h.tree.inodes) c.self.view_is) c.loop-step-test.true in
    sym (among-removed c.args.self.now.tree c.args.node (c.args.self.now.tree.inodes - c.loop-step._step) c.loop-step.reached c.if-reached-node.false c.if-reached-eq-ROOT.false (sym c.parent.ensures.value ∙ c.in_default.is))
    ∙ ap (λ k. is_among c.args.self.now.tree c.args.node k c.loop-step.reached) (sym steps) ∙ c.loop-step.invariant.1

pub loop-step-preserved : goal.loop-step-preserved
loop-step-preserved c =
    let w = subst IsWellFormed (ap (λ h. h.tree) c.self.view_is) c.self.invariant.counted.well_formed in
    let steps = left c.args.self.now.tree.inodes c.inodes-step-end.result c.loop-step._step (c.inodes-step-end.ensures.value ∙ ap (λ h. h.tree.inodes) c.self.view_is) c.loop-step-test.true in
    let next : c.args.self.now.tree.inodes + 1 - (c.loop-step._step + 1) ≡ c.args.self.now.tree.inodes - c.loop-step._step = omega arith in
    let up = sym c.parent.ensures.value ∙ c.in-Some.is in (
      subst (λ o. IfSome o (λ above. is_directory_at c.args.self.now.tree above ≡ true)) c.in-Some.is c.parent.ensures.directory,
      ap (λ k. is_among c.args.self.now.tree c.args.node k c.in-Some.above) next
          ∙ sym (among-above c.args.self.now.tree c.args.node (c.args.self.now.tree.inodes - c.loop-step._step) c.loop-step.reached c.in-Some.above c.if-reached-node.false c.if-reached-eq-ROOT.false up)
          ∙ ap (λ k. is_among c.args.self.now.tree c.args.node k c.loop-step.reached) (sym steps) ∙ c.loop-step.invariant.1,
    )

pub returns : goal.returns
returns c =
    let same = c.inodes-step-end.ensures.value ∙ ap (λ h. h.tree.inodes) c.self.view_is in
    let none : c.args.self.now.tree.inodes + 1 - c.loop-step._step ≡ 0 = omega (arith, same, c.loop-step-test.false) in
    ap (λ k. is_among c.args.self.now.tree c.args.node k c.loop-step.reached) (sym none) ∙ c.loop-step.invariant.1
