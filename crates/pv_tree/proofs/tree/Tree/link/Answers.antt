use Rattle.std.proofs.Common.{◌≡◌, ◌+◌, is_some, ap, subst, sym, ◌∙◌, arith}
use Rattle.std.specs.Prelude.{slice_index, slice_set}
use Rattle.pv_laws_trees.specs.Tree.{Appears}
use Rattle.pv_model.specs.Machine.{Tree, node_at, find_entry, is_directory_at, is_name, with_entry}
use Rattle.pv_tree.specs.Present.{IsTied}
use Rattle.pv_laws_trees.proofs.TreeBytes.{bytes-all}
use Rattle.pv_laws_trees.proofs.LookupsAfterChanges.{alike-with}
use Rattle.pv_tree.proofs.CollectionCounts.{below-seen}
use Rattle.pv_tree.proofs.UnaffectedLookups.{but-along}
use Rattle.pv_tree.proofs.LinkCounts.{count-fits, linked-tied}
use Rattle.pv_tree.proofs.RoomForEntries.{shaped}
use Rattle.pv_tree.proofs.tree.Tree.link.Goals as goal

pub bounds-self-inside-node : goal.bounds-self-inside-node
bounds-self-inside-node c =
    below-seen c.self.inside.directories c.args.self.now.tree _ _ _ c.self.invariant (ap (λ h. h.tree) c.self.view_is) c.args.node c.requires.node

pub bounds-self-inside-node-2 : goal.bounds-self-inside-node-2
bounds-self-inside-node-2 c =
    below-seen c.self.inside.directories c.args.self.now.tree _ _ _ c.self.invariant (ap (λ h. h.tree) c.self.view_is) c.args.node c.requires.node

pub enter-requires-clause-shaped : goal.enter-requires-clause-shaped
enter-requires-clause-shaped c = shaped c.self.inside.directories c.self.inside.parents c.self.inside.names c.self.inside.holds c.self.invariant.counted

pub invariant_of-self-2 : goal.invariant_of-self-2
invariant_of-self-2 c =
    let view : c.self.inside.directories ≡ c.args.self.now.tree = ap (λ h. h.tree) c.self.view_is in
    subst (λ (t : Tree). IsTied t c.self.inside.parents (slice_set c.self.inside.names c.args.node (slice_index c.self.inside.names c.args.node + 1)) c.self.inside.holds)
    (sym c.in_ok-enter.ensures.ok)
    (linked-tied c.self.inside.directories c.self.inside.parents c.self.inside.names c.self.inside.holds c.self.invariant c.args.directory c.args.name.now c.args.node
    (subst (λ (t : Tree). Appears t c.args.directory) (sym view) c.requires.directory)
    (ap (λ (t : Tree). find_entry t c.args.directory c.args.name.now) view ∙ c.requires.absent)
    (ap (λ (t : Tree). is_name t.version c.args.name.now) view ∙ c.requires.name)
    (bytes-all c.args.name.now (λ i. (c.type_inv.name i).fits))
    (ap (λ (t : Tree). is_some (node_at t c.args.node)) view ∙ c.requires.node)
    (ap (λ (t : Tree). is_directory_at t c.args.node) view ∙ c.requires.other)
    c.in_ok-enter.ensures.allowed)

pub overflow_add-self : goal.overflow_add-self
overflow_add-self c =
    let fits = count-fits c.self.inside.directories c.self.inside.parents c.self.inside.names c.self.inside.holds c.self.invariant c.args.node in omega arith

pub returns-clause-elsewhere : goal.returns-clause-elsewhere
returns-clause-elsewhere c =
    let t = c.self.inside.directories in
    but-along c.args.directory c.args.name.now t c.args.self.now.tree (with_entry t c.args.directory c.args.name.now c.args.node) c.enter.new.directories (ap (λ h. h.tree) c.self.view_is) c.in_ok-enter.ensures.ok
    (alike-with t c.args.directory c.args.name.now c.args.node (ap (λ h. is_directory_at h.tree c.args.directory) c.self.view_is ∙ c.requires.directory.0))
