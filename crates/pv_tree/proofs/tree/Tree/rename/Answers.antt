use Rattle.std.proofs.Common.{◌≡◌, ℕ, ◌-◌, None, Some, is_some, refl, ap, sym, subst, ◌∙◌, arith}
use Rattle.std.specs.Prelude.{slice_index, slice_set}
use Rattle.std.proofs.lemmas.Result.{err_from_is_err_and}
use Rattle.pv_model.specs.Machine.{Tree, node_at, find_entry, is_directory_at, with_entry, without_entry}
use Rattle.pv_tree.specs.Changes.{moved, without_if_unreferenced}
use Rattle.pv_tree.specs.Holding.{collected}
use Rattle.pv_tree.specs.Rooms.{room_error}
use Rattle.pv_tree.specs.Present.{IsTied}
use Rattle.pv_laws_trees.proofs.LookupsAfterChanges.{alike-moved}
use Rattle.pv_laws_trees.proofs.TreeBytes.{bytes-all}
use Rattle.pv_tree.proofs.CollectionCounts.{collected-tied}
use Rattle.pv_tree.proofs.UnaffectedLookups.{two-along, alike-refused, alike-renamed}
use Rattle.pv_tree.proofs.LinkCounts.{found-place}
use Rattle.pv_tree.proofs.EntryMoves.{value-of, IsMove, is-move, moved-is, moved-tied, moved-collected, moved-allowed, gone-there, gone-named, replaced-counted, without_if_unreferenced-replaced}
use Rattle.pv_tree.proofs.RoomForEntries.{shaped, collected-allowed}
use Rattle.pv_tree.proofs.tree.Tree.rename.Goals as goal
use Rattle.pv_tree.proofs.tree.Tree.rename.Goals.{After-from_residual, In_ok-moved, In-Some, After-settle}

-- the facts about the move
move : (c : In_ok-moved) → IsMove c.self.inside.directories c.args.from c.args.name.now c.args.to c.args.other.now c.in_ok-moved.moved.node
move c =
    is-move c.self.inside.directories c.args.self.now.tree (ap (λ h. h.tree) c.self.view_is) c.args.from c.args.name.now c.args.to c.args.other.now c.in_ok-moved.moved.node c.in_ok-moved.ensures.nodes.node
    c.requires.to c.requires.entry.name (bytes-all c.args.other.now (λ i. (c.type_inv.other i).fits)) c.requires.clear c.requires.entry.apart c.requires.empty

-- the tree after the move
entered : (c : In_ok-moved) → c.move_entry.new.directories ≡ with_entry (without_entry c.self.inside.directories c.args.from c.args.name.now) c.args.to c.args.other.now c.in_ok-moved.moved.node
entered c =
    c.in_ok-moved.ensures.change.ok ∙ sym (moved-is c.self.inside.directories c.self.inside.directories refl c.args.from c.args.name.now c.args.to c.args.other.now c.in_ok-moved.moved.node c.in_ok-moved.ensures.nodes.node)

fits : (c : In_ok-moved) → room_error (with_entry (without_entry c.self.inside.directories c.args.from c.args.name.now) c.args.to c.args.other.now c.in_ok-moved.moved.node) ≡ None
fits c =
    ap room_error (moved-is c.self.inside.directories c.self.inside.directories refl c.args.from c.args.name.now c.args.to c.args.other.now c.in_ok-moved.moved.node c.in_ok-moved.ensures.nodes.node) ∙ c.in_ok-moved.ensures.change.allowed

-- the same for the tree that a caller sees
seen : (c : In_ok-moved) → collected (with_entry (without_entry c.self.inside.directories c.args.from c.args.name.now) c.args.to c.args.other.now c.in_ok-moved.moved.node) c.self.inside.holds ≡ collected (moved c.args.self.now.tree c.args.from c.args.name.now c.args.to c.args.other.now) c.args.self.now.holds
seen c =
    ap (λ (t : Tree). collected t c.self.inside.holds) (moved-is c.self.inside.directories c.args.self.now.tree (ap (λ h. h.tree) c.self.view_is) c.args.from c.args.name.now c.args.to c.args.other.now c.in_ok-moved.moved.node c.in_ok-moved.ensures.nodes.node)
    ∙ ap (λ holds. collected (moved c.args.self.now.tree c.args.from c.args.name.now c.args.to c.args.other.now) holds) (ap (λ h. h.holds) c.self.view_is)

was : (c : In-Some) → find_entry c.self.inside.directories c.args.to c.args.other.now ≡ Some c.in-Some.gone
was c = sym c.in_ok-moved.ensures.nodes.gone ∙ c.in-Some.is

pub move_entry-requires-clause-shaped : goal.move_entry-requires-clause-shaped
move_entry-requires-clause-shaped c =
    shaped c.self.inside.directories c.self.inside.parents c.self.inside.names c.self.inside.holds c.self.invariant.counted

-- some node has the name
named : (c : After-from_residual) → (m : ℕ) × (find_entry c.self.inside.directories c.args.from c.args.name.now ≡ Some m)
named c = value-of (find_entry c.self.inside.directories c.args.from c.args.name.now) (ap (λ h. is_some (find_entry h.tree c.args.from c.args.name.now)) c.self.view_is ∙ c.requires.entry.present)

refused : (c : After-from_residual) (m : ℕ) → find_entry c.self.inside.directories c.args.from c.args.name.now ≡ Some m → room_error (collected (moved c.args.self.now.tree c.args.from c.args.name.now c.args.to c.args.other.now) c.args.self.now.holds) ≡ Some c.in_err-moved.field-0.0
refused c m found =
    let view = ap (λ h. h.tree) c.self.view_is in
    let move = is-move c.self.inside.directories c.args.self.now.tree view c.args.from c.args.name.now c.args.to c.args.other.now m found c.requires.to c.requires.entry.name (bytes-all c.args.other.now (λ i. (c.type_inv.other i).fits)) c.requires.clear c.requires.entry.apart c.requires.empty in
    let seen = ap (λ (t : Tree). collected t c.self.inside.holds) (moved-is c.self.inside.directories c.args.self.now.tree view c.args.from c.args.name.now c.args.to c.args.other.now m found) ∙ ap (λ holds. collected (moved c.args.self.now.tree c.args.from c.args.name.now c.args.to c.args.other.now) holds) (ap (λ h. h.holds) c.self.view_is) in
    ap room_error (sym seen ∙ moved-collected c.self.inside.directories c.self.inside.parents c.self.inside.names c.self.inside.holds c.self.invariant c.args.from c.args.name.now c.args.to c.args.other.now m move c.in_err-moved.ensures.free
    ∙ moved-is c.self.inside.directories c.self.inside.directories refl c.args.from c.args.name.now c.args.to c.args.other.now m found)
    ∙ c.in_err-moved.ensures.change.refused

pub returns-in_err-moved-clause-change : goal.returns-in_err-moved-clause-change
returns-in_err-moved-clause-change c =
    let p = err_from_is_err_and c.from_residual.result c.from_residual.ensures.1 in
    rw (p.1, p.2)
    (record {
      ok = tt;
      err = ap (λ (t : Tree). record { tree = t; holds = c.self.inside.holds }) c.in_err-moved.ensures.change.err ∙ c.self.view_is;
      allowed = tt;
      refused = refused c (named c).0 (named c).1;
    })

pub returns-in_err-moved-clause-elsewhere : goal.returns-in_err-moved-clause-elsewhere
returns-in_err-moved-clause-elsewhere c =
    alike-refused c.args.from c.args.name.now c.args.to c.args.other.now c.move_entry.new.directories c.args.self.now.tree (c.in_err-moved.ensures.change.err ∙ ap (λ h. h.tree) c.self.view_is)

pub bounds-self-inside-moved : goal.bounds-self-inside-moved
bounds-self-inside-moved c =
    found-place c.self.inside.directories c.self.inside.parents c.self.inside.names c.self.inside.holds c.self.invariant c.args.from c.args.name.now c.in_ok-moved.moved.node c.in_ok-moved.ensures.nodes.node

pub invariant_of-self-in_default : goal.invariant_of-self-in_default
invariant_of-self-in_default c =
    subst (λ (t : Tree). IsTied t (slice_set c.self.inside.parents c.in_ok-moved.moved.node c.args.to) c.self.inside.names c.self.inside.holds) (sym (entered (goal.at.invariant_of-self-in_default c).In_ok-moved))
    (moved-tied c.self.inside.directories c.self.inside.parents c.self.inside.names c.self.inside.holds c.self.invariant c.args.from c.args.name.now c.args.to c.args.other.now c.in_ok-moved.moved.node (move (goal.at.invariant_of-self-in_default c).In_ok-moved) (sym c.in_ok-moved.ensures.nodes.gone ∙ c.in_default.is) (fits (goal.at.invariant_of-self-in_default c).In_ok-moved))

pub returns-in_default-clause-change : goal.returns-in_default-clause-change
returns-in_default-clause-change c = record {
  ok = ap (λ (t : Tree). record { tree = t; holds = c.self.inside.holds }) (entered (goal.at.returns-in_default-clause-change c).In_ok-moved ∙ sym (moved-collected c.self.inside.directories c.self.inside.parents c.self.inside.names c.self.inside.holds c.self.invariant c.args.from c.args.name.now c.args.to c.args.other.now c.in_ok-moved.moved.node (move (goal.at.returns-in_default-clause-change c).In_ok-moved) (sym c.in_ok-moved.ensures.nodes.gone ∙ c.in_default.is)) ∙ seen (goal.at.returns-in_default-clause-change c).In_ok-moved)
      ∙ ap (λ holds. record { tree = collected (moved c.args.self.now.tree c.args.from c.args.name.now c.args.to c.args.other.now) c.args.self.now.holds; holds = holds }) (ap (λ h. h.holds) c.self.view_is);
  err = tt;
  allowed = ap room_error (sym (seen (goal.at.returns-in_default-clause-change c).In_ok-moved) ∙ moved-collected c.self.inside.directories c.self.inside.parents c.self.inside.names c.self.inside.holds c.self.invariant c.args.from c.args.name.now c.args.to c.args.other.now c.in_ok-moved.moved.node (move (goal.at.returns-in_default-clause-change c).In_ok-moved) (sym c.in_ok-moved.ensures.nodes.gone ∙ c.in_default.is)) ∙ (fits (goal.at.returns-in_default-clause-change c).In_ok-moved);
  refused = tt;
}

pub returns-in_default-clause-elsewhere : goal.returns-in_default-clause-elsewhere
returns-in_default-clause-elsewhere c =
    let t = c.self.inside.directories in
    let view : t ≡ c.args.self.now.tree = ap (λ h. h.tree) c.self.view_is in
    two-along c.args.from c.args.name.now c.args.to c.args.other.now t c.args.self.now.tree (with_entry (without_entry t c.args.from c.args.name.now) c.args.to c.args.other.now c.in_ok-moved.moved.node) c.move_entry.new.directories view (entered (goal.at.returns-in_default-clause-elsewhere c).In_ok-moved)
    (alike-moved t c.self.invariant.counted.well_formed c.args.from c.args.name.now c.args.to c.args.other.now c.in_ok-moved.moved.node
    (ap (λ (u : Tree). is_directory_at u c.args.from) view ∙ c.requires.entry.from) (ap (λ (u : Tree). is_directory_at u c.args.to) view ∙ c.requires.to.0))

pub bounds-self-inside-at : goal.bounds-self-inside-at
bounds-self-inside-at c =
    found-place c.self.inside.directories c.self.inside.parents c.self.inside.names c.self.inside.holds c.self.invariant c.args.to c.args.other.now c.in-Some.gone (was c)

pub bounds-self-inside-at-2 : goal.bounds-self-inside-at-2
bounds-self-inside-at-2 c =
    found-place c.self.inside.directories c.self.inside.parents c.self.inside.names c.self.inside.holds c.self.invariant c.args.to c.args.other.now c.in-Some.gone (was c)

pub overflow_sub-self : goal.overflow_sub-self
overflow_sub-self c =
    let some = gone-named c.self.inside.directories c.self.inside.parents c.self.inside.names c.self.inside.holds c.self.invariant c.args.from c.args.name.now c.args.to c.args.other.now c.in_ok-moved.moved.node (move (goal.at.overflow_sub-self c).In_ok-moved) c.in-Some.gone (was (goal.at.overflow_sub-self c).In-Some) in
    omega arith

pub bounds-self-inside-at-3 : goal.bounds-self-inside-at-3
bounds-self-inside-at-3 c =
    found-place c.self.inside.directories c.self.inside.parents c.self.inside.names c.self.inside.holds c.self.invariant c.args.to c.args.other.now c.in-Some.gone (was (goal.at.bounds-self-inside-at-3 c).In-Some)

pub bounds-self-inside-at-4 : goal.bounds-self-inside-at-4
bounds-self-inside-at-4 c =
    found-place c.self.inside.directories c.self.inside.parents c.self.inside.names c.self.inside.holds c.self.invariant c.args.to c.args.other.now c.in-Some.gone (was (goal.at.bounds-self-inside-at-4 c).In-Some)

pub bounds-self-inside-at-5 : goal.bounds-self-inside-at-5
bounds-self-inside-at-5 c =
    found-place c.self.inside.directories c.self.inside.parents c.self.inside.names c.self.inside.holds c.self.invariant c.args.to c.args.other.now c.in-Some.gone (was (goal.at.bounds-self-inside-at-5 c).In-Some)

pub settle-requires : goal.settle-requires
settle-requires c =
    ap (λ (t : Tree). is_some (node_at t c.in-Some.gone)) (entered (goal.at.settle-requires c).In_ok-moved) ∙ gone-there c.self.inside.directories c.self.inside.parents c.self.inside.names c.self.inside.holds c.self.invariant c.args.from c.args.name.now c.args.to c.args.other.now c.in_ok-moved.moved.node (move (goal.at.settle-requires c).In_ok-moved) c.in-Some.gone (was (goal.at.settle-requires c).In-Some)

-- the tree after the node that had the name is settled
left : (c : After-settle) → c.settle.new.directories ≡ collected (with_entry (without_entry c.self.inside.directories c.args.from c.args.name.now) c.args.to c.args.other.now c.in_ok-moved.moved.node) c.self.inside.holds
left c =
    c.settle.ensures
    ∙ ap (λ (t : Tree). without_if_unreferenced t c.in-Some.gone (slice_index (slice_set c.self.inside.names c.in-Some.gone (slice_index c.self.inside.names c.in-Some.gone - 1)) c.in-Some.gone) (slice_index c.self.inside.holds c.in-Some.gone)) (entered (goal.at.invariant_of-self-2 c).In_ok-moved)
    ∙ without_if_unreferenced-replaced c.self.inside.directories c.self.inside.parents c.self.inside.names c.self.inside.holds c.self.invariant c.args.from c.args.name.now c.args.to c.args.other.now c.in_ok-moved.moved.node (move (goal.at.invariant_of-self-2 c).In_ok-moved) c.in-Some.gone (was (goal.at.invariant_of-self-2 c).In-Some)

pub invariant_of-self-2 : goal.invariant_of-self-2
invariant_of-self-2 c =
    let parents = slice_set (slice_set c.self.inside.parents c.in_ok-moved.moved.node c.args.to) c.in-Some.gone 0 in
    let names = slice_set c.self.inside.names c.in-Some.gone (slice_index c.self.inside.names c.in-Some.gone - 1) in
    subst (λ (t : Tree). IsTied t parents names c.self.inside.holds) (sym (left c))
    (collected-tied (with_entry (without_entry c.self.inside.directories c.args.from c.args.name.now) c.args.to c.args.other.now c.in_ok-moved.moved.node) parents names c.self.inside.holds (replaced-counted c.self.inside.directories c.self.inside.parents c.self.inside.names c.self.inside.holds c.self.invariant c.args.from c.args.name.now c.args.to c.args.other.now c.in_ok-moved.moved.node (move (goal.at.invariant_of-self-2 c).In_ok-moved) c.in-Some.gone (was (goal.at.invariant_of-self-2 c).In-Some)))

pub returns-clause-change : goal.returns-clause-change
returns-clause-change c = record {
  ok = ap (λ (t : Tree). record { tree = t; holds = c.self.inside.holds }) (left c ∙ seen (goal.at.returns-clause-change c).In_ok-moved)
      ∙ ap (λ holds. record { tree = collected (moved c.args.self.now.tree c.args.from c.args.name.now c.args.to c.args.other.now) c.args.self.now.holds; holds = holds }) (ap (λ h. h.holds) c.self.view_is);
  err = tt;
  allowed = ap room_error (sym (seen (goal.at.returns-clause-change c).In_ok-moved))
      ∙ collected-allowed (with_entry (without_entry c.self.inside.directories c.args.from c.args.name.now) c.args.to c.args.other.now c.in_ok-moved.moved.node) c.self.inside.holds (moved-allowed c.self.inside.directories c.self.inside.parents c.self.inside.names c.self.inside.holds c.self.invariant c.args.from c.args.name.now c.args.to c.args.other.now c.in_ok-moved.moved.node (move (goal.at.returns-clause-change c).In_ok-moved) c.in-Some.gone (was (goal.at.returns-clause-change c).In-Some));
  refused = tt;
}

pub returns-clause-elsewhere : goal.returns-clause-elsewhere
returns-clause-elsewhere c =
    let t = c.self.inside.directories in
    let view : t ≡ c.args.self.now.tree = ap (λ h. h.tree) c.self.view_is in
    two-along c.args.from c.args.name.now c.args.to c.args.other.now t c.args.self.now.tree (collected (with_entry (without_entry t c.args.from c.args.name.now) c.args.to c.args.other.now c.in_ok-moved.moved.node) c.self.inside.holds) c.settle.new.directories view (left c)
    (alike-renamed t c.self.invariant.counted.well_formed c.args.from c.args.name.now c.args.to c.args.other.now c.in_ok-moved.moved.node c.self.inside.holds
    (ap (λ (u : Tree). is_directory_at u c.args.from) view ∙ c.requires.entry.from) (ap (λ (u : Tree). is_directory_at u c.args.to) view ∙ c.requires.to.0)
    (replaced-counted c.self.inside.directories c.self.inside.parents c.self.inside.names c.self.inside.holds c.self.invariant c.args.from c.args.name.now c.args.to c.args.other.now c.in_ok-moved.moved.node (move (goal.at.returns-clause-elsewhere c).In_ok-moved) c.in-Some.gone (was (goal.at.returns-clause-elsewhere c).In-Some)).well_formed)
