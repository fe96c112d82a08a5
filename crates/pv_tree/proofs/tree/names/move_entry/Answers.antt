use Rattle.std.proofs.Common.{◌≡◌, ◌≢◌, Some, refl, ap, subst, sym, ◌∙◌}
use Rattle.std.specs.Prelude.{IfSome, IfNone}
use Rattle.pv_model.specs.Machine.{Tree, find_entry, is_directory_at, with_entry, without_entry}
use Rattle.pv_tree.specs.Changes.{moved, IsNewName}
use Rattle.pv_tree.specs.Rooms.{room_error}
use Rattle.pv_tree.specs.Present.{IsShaped}
use Rattle.pv_tree.proofs.EntryMoves.{between-directory, found-between, bared-by, bared-shaped, bared-directory, bared-from, bared-absent, bared-first, bared-back, bared-allowed, name-good, replaced-is, refused-free, done, moved-is}
use Rattle.pv_tree.proofs.tree.names.move_entry.Goals as goal
use Rattle.pv_tree.proofs.tree.names.move_entry.Goals.{After-remove-gone}

-- the node of the entry
has : (c : After-remove-gone) → find_entry c.args.directories.now c.args.from c.args.name.now ≡ Some c.in-Some.node
has c = sym c.in-Some.ensures.gone

apart : (c : After-remove-gone) → find_entry c.args.directories.now c.args.to c.args.other.now ≢ Some c.in-Some.node
apart c = λ is. c.requires.entry.apart (is ∙ sym (has c))

-- the node that had the other name in between
seen : (c : After-remove-gone) → c.remove-gone.result ≡ find_entry (without_entry c.args.directories.now c.args.from c.args.name.now) c.args.to c.args.other.now
seen c = c.remove-gone.ensures.gone ∙ ap (λ (t : Tree). find_entry t c.args.to c.args.other.now) c.in-Some.ensures.left

-- both entries are removed
bared : (c : After-remove-gone) → c.remove-gone.new.self ≡ without_entry (without_entry c.args.directories.now c.args.from c.args.name.now) c.args.to c.args.other.now
bared c =
    bared-by c.args.directories.now c.requires.well_formed c.requires.shaped c.requires.fits c.args.from c.args.name.now c.args.to c.args.other.now c.in-Some.node (has c) c.requires.to c.remove-gone.result c.remove-gone.new.self (seen c)
    (subst (λ (t : Tree). IfSome c.remove-gone.result (λ _. c.remove-gone.new.self ≡ without_entry t c.args.to c.args.other.now)) c.in-Some.ensures.left c.remove-gone.ensures.left)
    (subst (λ (t : Tree). IfNone c.remove-gone.result (c.remove-gone.new.self ≡ t)) c.in-Some.ensures.left c.remove-gone.ensures.none)

pub remove-gone-requires : goal.remove-gone-requires
remove-gone-requires c =
    ap (λ (t : Tree). is_directory_at t c.args.to) c.in-Some.ensures.left ∙ between-directory c.args.directories.now c.requires.well_formed c.requires.shaped c.requires.fits c.args.from c.args.name.now c.args.to c.args.other.now c.in-Some.node (sym c.in-Some.ensures.gone) c.requires.to

pub enter-requires-clause-shaped : goal.enter-requires-clause-shaped
enter-requires-clause-shaped c =
    let w = (goal.at.enter-requires-clause-shaped c).After-remove-gone in
    subst IsShaped (sym (bared w)) (bared-shaped c.args.directories.now c.requires.well_formed c.requires.shaped c.requires.fits c.args.from c.args.name.now c.args.to c.args.other.now c.in-Some.node (has w) c.requires.to)

pub enter-requires-clause-entry : goal.enter-requires-clause-entry
enter-requires-clause-entry c =
    let w = (goal.at.enter-requires-clause-entry c).After-remove-gone in
    subst (λ (t : Tree). IsNewName t c.args.to c.args.other.now) (sym (bared w))
    (record {
      directory = bared-directory c.args.directories.now c.requires.well_formed c.requires.shaped c.requires.fits c.args.from c.args.name.now c.args.to c.args.other.now c.in-Some.node (has w) c.requires.to;
      name = c.requires.entry.name;
      absent = bared-absent c.args.directories.now c.requires.well_formed c.requires.shaped c.requires.fits c.args.from c.args.name.now c.args.to c.args.other.now c.in-Some.node (has w) c.requires.to;
    })

pub enter-requires-in-Err-clause-shaped : goal.enter-requires-in-Err-clause-shaped
enter-requires-in-Err-clause-shaped c =
    let w = (goal.at.enter-requires-in-Err-clause-shaped c).After-remove-gone in
    subst IsShaped (sym (c.in-Err.ensures.err ∙ bared w)) (bared-shaped c.args.directories.now c.requires.well_formed c.requires.shaped c.requires.fits c.args.from c.args.name.now c.args.to c.args.other.now c.in-Some.node (has w) c.requires.to)

pub enter-requires-in-Err-clause-entry : goal.enter-requires-in-Err-clause-entry
enter-requires-in-Err-clause-entry c =
    let w = (goal.at.enter-requires-in-Err-clause-entry c).After-remove-gone in
    subst (λ (t : Tree). IsNewName t c.args.from c.args.name.now) (sym (c.in-Err.ensures.err ∙ bared w))
    (record {
      directory = bared-from c.args.directories.now c.requires.well_formed c.requires.shaped c.requires.fits c.args.from c.args.name.now c.args.to c.args.other.now c.in-Some.node (has w) c.requires.to;
      name = name-good c.args.directories.now c.requires.well_formed c.requires.shaped c.requires.fits c.args.from c.args.name.now c.args.to c.args.other.now c.in-Some.node (has w) c.requires.to;
      absent = bared-first c.args.directories.now c.requires.well_formed c.requires.shaped c.requires.fits c.args.from c.args.name.now c.args.to c.args.other.now c.in-Some.node (has w) c.requires.to;
    })

-- the tree with the entry under its other name
renamed : (c : After-remove-gone) → with_entry c.remove-gone.new.self c.args.to c.args.other.now c.in-Some.node ≡ moved c.args.directories.now c.args.from c.args.name.now c.args.to c.args.other.now
renamed c =
    ap (λ (t : Tree). with_entry t c.args.to c.args.other.now c.in-Some.node) (bared c) ∙ replaced-is c.args.directories.now c.requires.well_formed c.requires.shaped c.requires.fits c.args.from c.args.name.now c.args.to c.args.other.now c.in-Some.node (has c) c.requires.to
    ∙ moved-is c.args.directories.now c.args.directories.now refl c.args.from c.args.name.now c.args.to c.args.other.now c.in-Some.node (has c)

pub returns-in-Err-clause-change : goal.returns-in-Err-clause-change
returns-in-Err-clause-change c =
    let w = (goal.at.returns-in-Err-clause-change c).After-remove-gone in
    let free = refused-free c.args.directories.now c.requires.well_formed c.requires.shaped c.requires.fits c.args.from c.args.name.now c.args.to c.args.other.now c.in-Some.node (has w) c.requires.to c.in-Err.why (apart w) (ap (λ (t : Tree). room_error (with_entry t c.args.to c.args.other.now c.in-Some.node)) (sym (bared w)) ∙ c.in-Err.ensures.refused) in
    let entered = ap (λ (t : Tree). with_entry t c.args.from c.args.name.now c.in-Some.node) (c.in-Err.ensures.err ∙ bared w) in
    record {
      ok = tt;
      err = done (with_entry c.enter.new.directories c.args.from c.args.name.now c.in-Some.node) c.enter-in-Err.result (ap room_error entered ∙ bared-allowed c.args.directories.now c.requires.well_formed c.requires.shaped c.requires.fits c.args.from c.args.name.now c.args.to c.args.other.now c.in-Some.node (has w) c.requires.to free)
          c.enter-in-Err.ensures.refused c.enter-in-Err.ensures.ok
          ∙ entered ∙ bared-back c.args.directories.now c.requires.well_formed c.requires.shaped c.requires.fits c.args.from c.args.name.now c.args.to c.args.other.now c.in-Some.node (has w) c.requires.to free;
      allowed = tt;
      refused = ap room_error (sym (renamed w)) ∙ c.in-Err.ensures.refused;
    }

pub returns-in-Err-clause-free : goal.returns-in-Err-clause-free
returns-in-Err-clause-free c =
    let w = (goal.at.returns-in-Err-clause-free c).After-remove-gone in
    refused-free c.args.directories.now c.requires.well_formed c.requires.shaped c.requires.fits c.args.from c.args.name.now c.args.to c.args.other.now c.in-Some.node (has w) c.requires.to c.in-Err.why (apart w) (ap (λ (t : Tree). room_error (with_entry t c.args.to c.args.other.now c.in-Some.node)) (sym (bared w)) ∙ c.in-Err.ensures.refused)

pub returns-clause-nodes : goal.returns-clause-nodes
returns-clause-nodes c =
    let w = (goal.at.returns-clause-nodes c).After-remove-gone in
    record {
      node = has w;
      gone = seen w ∙ found-between c.args.directories.now c.requires.well_formed c.requires.shaped c.requires.fits c.args.from c.args.name.now c.args.to c.args.other.now c.in-Some.node (has w) c.requires.to (apart w);
    }

pub returns-clause-change : goal.returns-clause-change
returns-clause-change c =
    let w = (goal.at.returns-clause-change c).After-remove-gone in
    record {
      ok = c.in_default-enter.ensures.ok ∙ renamed w;
      err = tt;
      allowed = ap room_error (sym (renamed w)) ∙ c.in_default-enter.ensures.allowed;
      refused = tt;
    }
