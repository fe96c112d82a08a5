use Rattle.std.proofs.Common.{◌≡◌, ◌∙◌, ap, sym, false, true, arith, refl}
use Rattle.pv_calls_plain.specs.OfCallsState.Attempts.{collected_attempt}
use Rattle.pv_calls_path.specs.Moving.{check_move}
use Rattle.pv_calls_path.proofs.RenameChecks.{move_clear, move_empty, move_refused, move_crowded, move_made, names_moved}
use Rattle.pv_model.specs.Machine.{after_walks, give, entries_there, fits, is_too_long, find_entry}
use Rattle.pv_calls_path.proofs.rename.move_entry.Goals as goal

pub returns-in-Err-clause-performed : goal.returns-in-Err-clause-performed
returns-in-Err-clause-performed g c = λ pid.
    let s = c.args.parts.now in
    record {
      as_defined = λ me at. rw c.refusal.ensures
          (ap (λ a. collected_attempt (after_walks 2 a)) (move_refused s pid me c.args.node c.args.old_name.0 c.args.old_name.1.now c.args.new_name.0 c.args.new_name.1.now c.args.there c.in-Err.errno
          (ap (λ t. check_move t c.args.node c.args.new_name.0 c.args.there) (sym c.tree.ensures) ∙ c.in-Err.ensures)));
      unchanged = refl;
      small = tt;
    }

pub rename-requires-clause-clear : goal.rename-requires-clause-clear
rename-requires-clause-clear g c =
    let s = c.args.parts.now in
    let passes : check_move s.tree c.args.node c.args.new_name.0 c.args.there ≡ give tt =
    ap (λ t. check_move t c.args.node c.args.new_name.0 c.args.there) (sym c.tree.ensures) ∙ c.in_default.ensures in
    rw c.requires.node (move_clear s.tree c.args.node c.args.new_name.0 c.args.there passes)

pub rename-requires-clause-empty : goal.rename-requires-clause-empty
rename-requires-clause-empty g c =
    let s = c.args.parts.now in
    let passes : check_move s.tree c.args.node c.args.new_name.0 c.args.there ≡ give tt =
    ap (λ t. check_move t c.args.node c.args.new_name.0 c.args.there) (sym c.tree.ensures) ∙ c.in_default.ensures in
    ap (entries_there s.tree) c.requires.there ∙ move_empty s.tree c.args.node c.args.new_name.0 c.args.there passes

pub returns-in-Err-rename-clause-performed : goal.returns-in-Err-rename-clause-performed
returns-in-Err-rename-clause-performed g c = λ pid.
    let s = c.args.parts.now in
    let passes : check_move s.tree c.args.node c.args.new_name.0 c.args.there ≡ give tt =
    ap (λ t. check_move t c.args.node c.args.new_name.0 c.args.there) (sym c.tree.ensures) ∙ c.in_default.ensures in
    record {
      as_defined = λ me at. rw (c.refusal-in-Err-rename.ensures, c.space_errno.ensures)
          (ap (λ a. collected_attempt (after_walks 2 a)) (move_crowded s pid me c.args.node c.args.old_name.0 c.args.old_name.1.now c.args.new_name.0 c.args.new_name.1.now c.args.there c.in-Err-rename.space passes
          c.requires.node c.in-Err-rename.ensures.refused));
      unchanged = c.in-Err-rename.ensures.err;
      small = tt;
    }

pub returns-clause-performed : goal.returns-clause-performed
returns-clause-performed g c = λ pid.
    let s = c.args.parts.now in
    let passes : check_move s.tree c.args.node c.args.new_name.0 c.args.there ≡ give tt =
    ap (λ t. check_move t c.args.node c.args.new_name.0 c.args.there) (sym c.tree.ensures) ∙ c.in_default.ensures in
    let short : is_too_long c.rename.new.self.tree ≡ false = ap is_too_long (sym c.tree-2.ensures) ∙ c.invariant.ensures.short in
    let roomy : fits c.rename.new.self.tree ≡ true = ap fits (sym c.tree-2.ensures) ∙ c.invariant.ensures.fits in
    record {
      as_defined = λ me at. rw c.answer_of.ensures
          (move_made s pid me c.args.node c.args.old_name.0 c.args.old_name.1.now c.args.new_name.0 c.args.new_name.1.now c.args.there c.rename.new.self passes c.requires.node c.in_default-rename.ensures.ok short roomy);
      unchanged = rw c.answer_of.ensures tt;
      small = rw c.answer_of.ensures (omega arith);
    }

pub returns-clause-agrees : goal.returns-clause-agrees
returns-clause-agrees g c =
    let s = c.args.parts.now in
    let passes : check_move s.tree c.args.node c.args.new_name.0 c.args.there ≡ give tt =
    ap (λ t. check_move t c.args.node c.args.new_name.0 c.args.there) (sym c.tree.ensures) ∙ c.in_default.ensures in
    let e = names_moved s c.requires.whole c.args.old_name.0 c.args.old_name.1.now c.args.new_name.0 c.args.new_name.1.now c.args.node c.requires.entry.from c.requires.node
    c.requires.to c.requires.entry.name (move_clear s.tree c.args.node c.args.new_name.0 c.args.there passes) (λ is. c.requires.entry.apart (is ∙ sym c.requires.node))
    (ap (entries_there s.tree) c.requires.there ∙ move_empty s.tree c.args.node c.args.new_name.0 c.args.there passes) c.rename.new.self c.in_default-rename.ensures.ok in
    c.changed-2.ensures e.0 (find_entry c.rename.new.self.tree) (c.changed.ensures (find_entry s.tree) e.0 c.requires.agrees e.1) e.2
