use Rattle.std.proofs.Common.{◌≡◌, ◌<◌, is_some, length, refl, ap, sym, subst, ◌∙◌, arith}
use Rattle.pv_model.specs.Machine.{greatest_entries, Tree, node_at, entries_at, with_node, with_entry, with_new_node}
use Rattle.pv_dirs.specs.Trees.{empty_node, without_node}
use Rattle.pv_laws_trees.proofs.TreeChanges.{node_at-same}
use Rattle.pv_tree.specs.Changes.{new_node, kind_of_new, IsNewName}
use Rattle.pv_tree.specs.Rooms.{room_error}
use Rattle.pv_tree.specs.Present.{IsShaped}
use Rattle.pv_tree.proofs.NodeCreation.{fresh-is, furnished-is, entered-is, taken_away, size-entries, directory-one, absent-one, few-one, refused-long, refused-crowded, shaped-one}
use Rattle.pv_tree.proofs.tree.making.add_node.Goals as goal
use Rattle.pv_tree.proofs.tree.making.add_node.Goals.{After-furnish}

pub returns-then-size-most-clause-change : goal.returns-then-size-most-clause-change
returns-then-size-most-clause-change c =
    let count = size-entries c.args.directories.now c.args.directory c.size.result c.requires.entry.directory c.size.ensures.value in
    let most = c.layout-most.ensures.greatest_entries ∙ ap greatest_entries c.version.ensures in
    record {
      ok = tt;
      err = refl;
      allowed = tt;
      refused = refused-long c.args.directories.now c.requires.well_formed c.requires.short c.args.directory c.args.name.now c.args.kind c.requires.entry.directory c.requires.entry.absent c.requires.text
          (omega arith);
    }

pub returns-in_default-clause-change : goal.returns-in_default-clause-change
returns-in_default-clause-change c =
    let count = size-entries c.args.directories.now c.args.directory c.size.result c.requires.entry.directory c.size.ensures.value in
    let most = c.layout-most.ensures.greatest_entries ∙ ap greatest_entries c.version.ensures in
    record {
      ok = tt;
      err = c.in_default.ensures.none;
      allowed = tt;
      refused = refused-crowded c.args.directories.now c.requires.well_formed c.requires.short c.args.directory c.args.name.now c.args.kind c.requires.entry.directory c.requires.entry.absent c.requires.text
          (omega arith) (c.fresh.ensures.full.0 (ap is_some c.in_default.is));
    }

pub furnish-requires-clause-fresh : goal.furnish-requires-clause-fresh
furnish-requires-clause-fresh c =
    ap (λ (t : Tree). node_at t c.in-Some.node) (fresh-is c.args.directories.now c.fresh.new.self c.in-Some.node c.args.kind c.sort_of.result c.in-Some.ensures.after c.sort_of.ensures c.in-Some.ensures.within c.in-Some.ensures.least)
    ∙ node_at-same c.args.directories.now c.in-Some.node (empty_node (kind_of_new c.args.kind)) c.in-Some.ensures.within

pub furnish-requires-clause-shaped : goal.furnish-requires-clause-shaped
furnish-requires-clause-shaped c =
    subst IsShaped (sym (furnished-is c.args.directories.now c.fresh.new.self c.in-Some.node c.args.kind c.sort_of.result c.in-Some.ensures.after c.sort_of.ensures c.in-Some.ensures.within c.in-Some.ensures.least))
    (shaped-one c.args.directories.now c.requires.well_formed c.requires.short c.args.directory c.args.name.now c.args.kind c.requires.entry.directory c.requires.entry.absent c.requires.text
    (subst (λ n. n < length c.args.directories.now.nodes) c.in-Some.ensures.least c.in-Some.ensures.within))

pub furnish-requires-clause-entry : goal.furnish-requires-clause-entry
furnish-requires-clause-entry c =
    let e = c.requires.entry in
    subst (λ (t : Tree). IsNewName t c.args.directory c.args.name.now) (sym (furnished-is c.args.directories.now c.fresh.new.self c.in-Some.node c.args.kind c.sort_of.result c.in-Some.ensures.after c.sort_of.ensures c.in-Some.ensures.within c.in-Some.ensures.least))
    (record {
      directory = directory-one c.args.directories.now c.requires.well_formed c.requires.short c.args.directory c.args.name.now c.args.kind e.directory e.absent c.requires.text;
      name = e.name;
      absent = absent-one c.args.directories.now c.requires.well_formed c.requires.short c.args.directory c.args.name.now c.args.kind e.directory e.absent c.requires.text;
    })

pub furnish-requires-clause-few : goal.furnish-requires-clause-few
furnish-requires-clause-few c =
    let count = size-entries c.args.directories.now c.args.directory c.size.result c.requires.entry.directory c.size.ensures.value in
    let most = c.layout-most.ensures.greatest_entries ∙ ap greatest_entries c.version.ensures in
    subst (λ (t : Tree). length (entries_at t c.args.directory) < greatest_entries t.version) (sym (furnished-is c.args.directories.now c.fresh.new.self c.in-Some.node c.args.kind c.sort_of.result c.in-Some.ensures.after c.sort_of.ensures c.in-Some.ensures.within c.in-Some.ensures.least))
    (few-one c.args.directories.now c.requires.well_formed c.requires.short c.args.directory c.args.name.now c.args.kind c.requires.entry.directory c.requires.entry.absent c.requires.text
    (omega arith))

-- the steps give the tree with the new node
made : (c : After-furnish) → with_entry (with_node c.fresh.new.self c.in-Some.node (new_node c.args.kind)) c.args.directory c.args.name.now c.in-Some.node ≡ with_new_node c.args.directories.now c.args.directory c.args.name.now (new_node c.args.kind)
made c =
    entered-is c.args.directories.now c.fresh.new.self c.in-Some.node c.args.kind c.sort_of.result c.in-Some.ensures.after c.sort_of.ensures c.in-Some.ensures.within c.in-Some.ensures.least c.args.directory c.args.name.now

pub returns-in-Err-clause-change : goal.returns-in-Err-clause-change
returns-in-Err-clause-change c = record {
  ok = tt;
  err = c.in-Err.ensures.change.err ∙ ap (λ (t : Tree). without_node t c.in-Some.node) (fresh-is c.args.directories.now c.fresh.new.self c.in-Some.node c.args.kind c.sort_of.result c.in-Some.ensures.after c.sort_of.ensures c.in-Some.ensures.within c.in-Some.ensures.least)
      ∙ taken_away c.args.directories.now c.in-Some.node (empty_node (kind_of_new c.args.kind)) c.in-Some.ensures.free c.in-Some.ensures.within;
  allowed = tt;
  refused = ap room_error (sym (made (goal.at.returns-in-Err-clause-change c).After-furnish)) ∙ c.in-Err.ensures.change.refused;
}

pub returns-clause-change : goal.returns-clause-change
returns-clause-change c =
    let made = made (goal.at.returns-clause-change c).After-furnish in
    record {
      ok = c.in_default-furnish.ensures.change.ok ∙ made;
      err = tt;
      allowed = ap room_error (sym made) ∙ c.in_default-furnish.ensures.change.allowed;
      refused = tt;
    }
