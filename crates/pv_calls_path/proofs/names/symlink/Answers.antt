use Rattle.std.proofs.Common.{◌≡◌, ◌∙◌, ap, sym, subst, false, length, nat_lt}
use Rattle.std.proofs.lemmas.Bool.{le-ltb}
use Rattle.pv_model.specs.Calls.Paths.{make}
use Rattle.pv_model.specs.Machine.{link_node, Walk}
use Rattle.pv_calls_plain.specs.OfCallsState.Attempts.{collected_attempt}
use Rattle.pv_calls_plain.specs.Performed.{attempt_of}
use Rattle.pv_calls_path.proofs.NameCalls.{empty_by_length, link_text_good, symlink_makes}
use Rattle.pv_calls_path.proofs.names.symlink.Goals as goal

pub make-requires-clause-node : goal.make-requires-clause-node
make-requires-clause-node g c =
    link_text_good c.args.text.now c.requires.link (empty_by_length c.args.text.now (sym c.is_empty.ensures ∙ c.if-is_empty.false)) c.if-text-gt-LINK_TEXT.false

pub returns-clause-performed : goal.returns-clause-performed
returns-clause-performed g c =
    let s = c.args.system.now.parts in
    let short : nat_lt 1023 (length c.args.text.now) ≡ false = le-ltb 1023 (length c.args.text.now) c.if-text-gt-LINK_TEXT.false in
    record {
      as_defined = λ me at. ap collected_attempt (symlink_makes s c.args.pid me c.args.text.now c.args.path.now (empty_by_length c.args.text.now (sym c.is_empty.ensures ∙ c.if-is_empty.false)) short) ∙ subst (λ (w : Walk). collected_attempt (make s c.args.pid me w (link_node c.args.text.now)) ≡ attempt_of c.make.new.system.parts c.make.result) c.symlink-walk.ensures (c.make.ensures.performed.as_defined me at);
      unchanged = c.make.ensures.performed.unchanged;
      small = c.make.ensures.performed.small;
    }
