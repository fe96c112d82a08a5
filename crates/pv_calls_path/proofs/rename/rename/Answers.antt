use Rattle.std.proofs.Common.{◌≡◌, ◌∙◌, ap, sym, false, refl, rules}
use Rattle.std.proofs.lemmas.Result.{err_from_is_err_and}
use Rattle.pv_calls_plain.specs.OfCallsState.Attempts.{collected_attempt}
use Rattle.pv_calls_path.proofs.RenameChecks.{apart_from, rename_missed, rename_reached}
use Rattle.pv_laws_states.proofs.ValidByTree.{named-place}
use Rattle.pv_model.specs.Machine.{ends_in_dot, same_node, node_of}
use Rattle.pv_calls_path.proofs.CheckedWalks.{both-missed-as, reached-as}
use Rattle.pv_calls_path.proofs.rename.rename.Goals as goal

pub returns-in_err-both-clause-performed : goal.returns-in_err-both-clause-performed
returns-in_err-both-clause-performed g c =
    let p = err_from_is_err_and c.from_residual.result c.from_residual.ensures.1 in
    let fine : ends_in_dot c.args.path.now ≡ false = sym c.ends_in_dot.ensures ∙ c.if-ends_in_dot.false in
    let other : ends_in_dot c.args.new.now ≡ false = sym c.ends_in_dot-else-ends_in_dot.ensures ∙ c.if-ends_in_dot-2.false in
    record {
      as_defined = λ me at. rw (p.1, p.2) (ap collected_attempt (rename_missed c.args.system.now.parts c.args.pid me c.args.path.now c.args.new.now fine other _ (both-missed-as c.args.system.now.parts me c.rename-first.ensures c.rename-second.ensures _ (c.in_err-both.ensures.missed me at))));
      unchanged = rw p.1 refl;
      small = rw p.1 tt;
    }

pub move_entry-requires-clause-entry : goal.move_entry-requires-clause-entry
move_entry-requires-clause-entry g c =
    let s = c.args.system.now.parts in
    let o = node_of c.in_ok-both.both.second in
    let differs : same_node o c.in_ok-both.both.node ≡ false = ap (λ x. same_node x c.in_ok-both.both.node) (sym c.node-there.ensures) ∙ sym c.is_same_node.ensures ∙ c.if-is_same_node.false in
    let named = named-place s.tree c.in_ok-both.both.first (c.in-Some-Some.old_name.0, c.in-Some-Some.old_name.1.now) c.in_ok-both.ensures.first.fine c.in-Some-Some.ensures in
    let new_named = named-place s.tree c.in_ok-both.both.second (c.in-Some-Some.new_name.0, c.in-Some-Some.new_name.1.now) c.in_ok-both.ensures.second.fine c.in-Some-Some.ensures' in
    record {
      from = named.directory;
      present = search rules;
      name = new_named.name;
      apart = λ is. apart_from o c.in_ok-both.both.node differs (sym new_named.found ∙ is ∙ named.found ∙ c.in_ok-both.ensures.first.there);
    }

pub move_entry-requires-clause-node : goal.move_entry-requires-clause-node
move_entry-requires-clause-node g c =
    let s = c.args.system.now.parts in
    let named = named-place s.tree c.in_ok-both.both.first (c.in-Some-Some.old_name.0, c.in-Some-Some.old_name.1.now) c.in_ok-both.ensures.first.fine c.in-Some-Some.ensures in
    named.found ∙ c.in_ok-both.ensures.first.there

pub move_entry-requires-clause-there : goal.move_entry-requires-clause-there
move_entry-requires-clause-there g c =
    let s = c.args.system.now.parts in
    let new_named = named-place s.tree c.in_ok-both.both.second (c.in-Some-Some.new_name.0, c.in-Some-Some.new_name.1.now) c.in_ok-both.ensures.second.fine c.in-Some-Some.ensures' in
    new_named.found ∙ sym c.node-there.ensures

pub returns-clause-performed : goal.returns-clause-performed
returns-clause-performed g c =
    let s = c.args.system.now.parts in
    let n = c.in_ok-both.both.node in
    let o = node_of c.in_ok-both.both.second in
    let fine : ends_in_dot c.args.path.now ≡ false = sym c.ends_in_dot.ensures ∙ c.if-ends_in_dot.false in
    let other : ends_in_dot c.args.new.now ≡ false = sym c.ends_in_dot-else-ends_in_dot.ensures ∙ c.if-ends_in_dot-2.false in
    let differs : same_node o n ≡ false = ap (λ x. same_node x n) (sym c.node-there.ensures) ∙ sym c.is_same_node.ensures ∙ c.if-is_same_node.false in
    let moved = c.move_entry.ensures.performed c.args.pid in
    record {
      as_defined = λ me at. ap collected_attempt (rename_reached s c.args.pid me c.args.path.now c.args.new.now fine other c.in_ok-both.both.first c.in_ok-both.both.second
          (reached-as s me me.directory c.rename-first.ensures c.in_ok-both.both.first (c.in_ok-both.ensures.first.reached me at)) (reached-as s me me.directory c.rename-second.ensures c.in_ok-both.both.second (c.in_ok-both.ensures.second.reached me at))
          n c.in_ok-both.ensures.first.there c.in-Some-Some.old_name.0 c.in-Some-Some.old_name.1.now c.in-Some-Some.ensures c.in-Some-Some.new_name.0 c.in-Some-Some.new_name.1.now c.in-Some-Some.ensures' differs
          c.node-there.result c.node-there.ensures) ∙ moved.as_defined me at;
      unchanged = moved.unchanged;
      small = moved.small;
    }
