use Rattle.std.proofs.Common.{◌≡◌, ◌-◌, [], Some, ap, subst, sym, ◌∙◌, arith}
use Rattle.std.specs.Prelude.{slice_index, slice_set, is_some}
use Rattle.pv_model.specs.Machine.{Tree, node_at, entries_at, find_entry, is_directory_at, without_entry}
use Rattle.pv_tree.specs.Changes.{without_if_unreferenced}
use Rattle.pv_tree.specs.Holding.{after, collected}
use Rattle.pv_tree.specs.Present.{IsTied}
use Rattle.pv_tree.proofs.CollectionCounts.{collected-tied}
use Rattle.pv_tree.proofs.UnaffectedLookups.{but-along, alike-unlinked}
use Rattle.pv_tree.proofs.LinkCounts.{found-place, emptied, has-name, still-there, unlinked-counted, without_if_unreferenced-unlinked}
use Rattle.pv_tree.proofs.tree.Tree.unlink.Goals as goal
use Rattle.pv_tree.proofs.tree.Tree.unlink.Goals.{In-Some, After-settle}

found : (c : In-Some) → find_entry c.self.inside.directories c.args.directory c.args.name.now ≡ Some c.in-Some.node
found c = sym c.in-Some.ensures.gone

empty : (c : In-Some) → entries_at c.self.inside.directories c.in-Some.node ≡ []
empty c = emptied c.self.inside.directories c.args.self.now.tree (ap (λ h. h.tree) c.self.view_is) c.args.directory c.args.name.now c.in-Some.node (found c) c.requires.empty

pub bounds-self-inside-at : goal.bounds-self-inside-at
bounds-self-inside-at c =
    found-place c.self.inside.directories c.self.inside.parents c.self.inside.names c.self.inside.holds c.self.invariant c.args.directory c.args.name.now c.in-Some.node (found (goal.at.bounds-self-inside-at c).In-Some)

pub bounds-self-inside-at-2 : goal.bounds-self-inside-at-2
bounds-self-inside-at-2 c =
    found-place c.self.inside.directories c.self.inside.parents c.self.inside.names c.self.inside.holds c.self.invariant c.args.directory c.args.name.now c.in-Some.node (found (goal.at.bounds-self-inside-at-2 c).In-Some)

pub bounds-self-inside-at-3 : goal.bounds-self-inside-at-3
bounds-self-inside-at-3 c =
    found-place c.self.inside.directories c.self.inside.parents c.self.inside.names c.self.inside.holds c.self.invariant c.args.directory c.args.name.now c.in-Some.node (found (goal.at.bounds-self-inside-at-3 c).In-Some)

pub bounds-self-inside-at-4 : goal.bounds-self-inside-at-4
bounds-self-inside-at-4 c =
    found-place c.self.inside.directories c.self.inside.parents c.self.inside.names c.self.inside.holds c.self.invariant c.args.directory c.args.name.now c.in-Some.node (found (goal.at.bounds-self-inside-at-4 c).In-Some)

pub bounds-self-inside-at-5 : goal.bounds-self-inside-at-5
bounds-self-inside-at-5 c =
    found-place c.self.inside.directories c.self.inside.parents c.self.inside.names c.self.inside.holds c.self.invariant c.args.directory c.args.name.now c.in-Some.node (found (goal.at.bounds-self-inside-at-5 c).In-Some)

pub overflow_sub-self : goal.overflow_sub-self
overflow_sub-self c =
    let some = has-name c.self.inside.directories c.self.inside.parents c.self.inside.names c.self.inside.holds c.self.invariant c.args.directory c.args.name.now c.in-Some.node (found (goal.at.overflow_sub-self c).In-Some) (empty (goal.at.overflow_sub-self c).In-Some) in
    omega arith

pub settle-requires : goal.settle-requires
settle-requires c =
    let w = (goal.at.settle-requires c).In-Some in
    ap (λ (t : Tree). is_some (node_at t c.in-Some.node)) c.in-Some.ensures.left
    ∙ still-there c.self.inside.directories c.self.inside.parents c.self.inside.names c.self.inside.holds c.self.invariant c.args.directory c.args.name.now c.in-Some.node (found w) (empty w)

settled-there : (c : In-Some) → without_if_unreferenced (without_entry c.self.inside.directories c.args.directory c.args.name.now) c.in-Some.node
    (slice_index (slice_set c.self.inside.names c.in-Some.node (slice_index c.self.inside.names c.in-Some.node - 1)) c.in-Some.node) (slice_index c.self.inside.holds c.in-Some.node)
    ≡ collected (without_entry c.self.inside.directories c.args.directory c.args.name.now) c.self.inside.holds
settled-there c =
    without_if_unreferenced-unlinked c.self.inside.directories c.self.inside.parents c.self.inside.names c.self.inside.holds c.self.invariant c.args.directory c.args.name.now c.in-Some.node (found c) (empty c)

gone : (c : After-settle) → c.settle.new.directories ≡ collected (without_entry c.self.inside.directories c.args.directory c.args.name.now) c.self.inside.holds
gone c =
    let w = (goal.at.returns-clause-tree c).In-Some in
    c.settle.ensures
    ∙ ap (λ (t : Tree). without_if_unreferenced t c.in-Some.node (slice_index (slice_set c.self.inside.names c.in-Some.node (slice_index c.self.inside.names c.in-Some.node - 1)) c.in-Some.node)
    (slice_index c.self.inside.holds c.in-Some.node)) c.in-Some.ensures.left
    ∙ settled-there w

pub invariant_of-self : goal.invariant_of-self
invariant_of-self c =
    let w = (goal.at.invariant_of-self c).In-Some in
    subst (λ (t : Tree). IsTied t (slice_set c.self.inside.parents c.in-Some.node 0) (slice_set c.self.inside.names c.in-Some.node (slice_index c.self.inside.names c.in-Some.node - 1)) c.self.inside.holds)
    (sym (gone c))
    (collected-tied (without_entry c.self.inside.directories c.args.directory c.args.name.now) _ _ c.self.inside.holds
    (unlinked-counted c.self.inside.directories c.self.inside.parents c.self.inside.names c.self.inside.holds c.self.invariant c.args.directory c.args.name.now c.in-Some.node (found w) (empty w)))

pub returns-clause-tree : goal.returns-clause-tree
returns-clause-tree c = ap (λ (t : Tree). record { tree = t; holds = c.self.inside.holds }) (gone c) ∙ ap (λ h. after h (without_entry h.tree c.args.directory c.args.name.now)) c.self.view_is

pub returns-clause-elsewhere : goal.returns-clause-elsewhere
returns-clause-elsewhere c =
    let w = (goal.at.returns-clause-elsewhere c).In-Some in
    but-along c.args.directory c.args.name.now c.self.inside.directories c.args.self.now.tree (collected (without_entry c.self.inside.directories c.args.directory c.args.name.now) c.self.inside.holds)
    c.settle.new.directories (ap (λ h. h.tree) c.self.view_is) (gone ((goal.at.returns-clause-elsewhere c).After-settle))
    (alike-unlinked c.self.inside.directories c.args.directory c.args.name.now c.self.inside.holds
    (ap (λ h. is_directory_at h.tree c.args.directory) c.self.view_is ∙ c.requires.directory)
    (unlinked-counted c.self.inside.directories c.self.inside.parents c.self.inside.names c.self.inside.holds c.self.invariant c.args.directory c.args.name.now c.in-Some.node (found w) (empty w)).well_formed)
