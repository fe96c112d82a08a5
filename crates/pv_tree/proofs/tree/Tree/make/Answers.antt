use Rattle.std.proofs.Common.{◌≡◌, ◌<◌, length, ap, subst, sym, ◌∙◌}
use Rattle.std.specs.Prelude.{slice_set, IsSome}
use Rattle.pv_model.specs.Machine.{Tree, find_entry, is_directory_at, is_name, is_node, node_at, new_number, with_new_node}
use Rattle.pv_laws_trees.specs.Tree.{Appears}
use Rattle.pv_tree.specs.Changes.{new_node}
use Rattle.pv_tree.specs.Present.{IsTied}
use Rattle.pv_laws_trees.proofs.TreeBytes.{bytes-all}
use Rattle.pv_tree.proofs.UnaffectedLookups.{but-along, alike-made, there-made}
use Rattle.pv_tree.proofs.NewNodeData.{made-tied}
use Rattle.pv_tree.proofs.tree.Tree.make.Goals as goal

pub invariant_of-self-2 : goal.invariant_of-self-2
invariant_of-self-2 c =
    let view : c.self.inside.directories ≡ c.args.self.now.tree = ap (λ h. h.tree) c.self.view_is in
    subst (λ n. IsTied c.add_node.new.directories (slice_set c.self.inside.parents n c.args.directory) (slice_set c.self.inside.names n 1) c.self.inside.holds) (sym c.in_ok-node.ensures.number)
    (subst (λ (t : Tree). IsTied t (slice_set c.self.inside.parents (new_number c.self.inside.directories) c.args.directory) (slice_set c.self.inside.names (new_number c.self.inside.directories) 1) c.self.inside.holds)
    (sym c.in_ok-node.ensures.change.ok)
    (made-tied c.self.inside.directories c.self.inside.parents c.self.inside.names c.self.inside.holds c.self.invariant c.args.directory c.args.name.now c.args.kind
    (subst (λ (t : Tree). Appears t c.args.directory) (sym view) c.requires.directory)
    (ap (λ (t : Tree). find_entry t c.args.directory c.args.name.now) view ∙ c.requires.absent)
    (ap (λ (t : Tree). is_name t.version c.args.name.now) view ∙ c.requires.name)
    (ap (λ (t : Tree). is_node t.version (new_node c.args.kind)) view ∙ c.requires.text) (bytes-all c.args.name.now (λ i. (c.type_inv.name i).fits)) c.in_ok-node.ensures.bytes
    (subst (λ n. n < length c.self.inside.directories.nodes) c.in_ok-node.ensures.number c.in_ok-node.ensures.within)
    c.in_ok-node.ensures.change.allowed))

pub returns-clause-elsewhere : goal.returns-clause-elsewhere
returns-clause-elsewhere c =
    let t = c.self.inside.directories in
    let view : t ≡ c.args.self.now.tree = ap (λ h. h.tree) c.self.view_is in
    but-along c.args.directory c.args.name.now t c.args.self.now.tree (with_new_node t c.args.directory c.args.name.now (new_node c.args.kind)) c.add_node.new.directories view c.in_ok-node.ensures.change.ok
    (alike-made t c.args.directory c.args.name.now c.args.kind (ap (λ (u : Tree). is_directory_at u c.args.directory) view ∙ c.requires.directory.0)
    (ap (λ (u : Tree). find_entry u c.args.directory c.args.name.now) view ∙ c.requires.absent) (subst (λ n. n < length t.nodes) c.in_ok-node.ensures.number c.in_ok-node.ensures.within))

pub returns-clause-there : goal.returns-clause-there
returns-clause-there c =
    let t = c.self.inside.directories in
    let view : t ≡ c.args.self.now.tree = ap (λ h. h.tree) c.self.view_is in
    subst (λ (u : Tree). IsSome (node_at u c.in_ok-node.node)) (sym c.in_ok-node.ensures.change.ok)
    (subst (λ n. IsSome (node_at (with_new_node t c.args.directory c.args.name.now (new_node c.args.kind)) n)) (sym c.in_ok-node.ensures.number)
    (there-made t c.args.directory c.args.name.now c.args.kind (ap (λ (u : Tree). is_directory_at u c.args.directory) view ∙ c.requires.directory.0)
    (ap (λ (u : Tree). find_entry u c.args.directory c.args.name.now) view ∙ c.requires.absent) (subst (λ n. n < length t.nodes) c.in_ok-node.ensures.number c.in_ok-node.ensures.within)))
