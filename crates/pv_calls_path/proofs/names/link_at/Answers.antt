use Rattle.std.proofs.Common.{◌≡◌, ◌∙◌, ap, sym, false, is_some, refl}
use Rattle.pv_calls_plain.specs.OfCallsState.Attempts.{collected_attempt}
use Rattle.pv_model.specs.Machine.{after_walks, node_of, find_entry, is_directory_at}
use Rattle.pv_calls_path.proofs.NameCalls.{link_crowded, names_linked}
use Rattle.pv_calls_path.proofs.names.link_at.Goals as goal

pub returns-in-Err-clause-performed : goal.returns-in-Err-clause-performed
returns-in-Err-clause-performed g c = λ pid.
    let s = c.args.parts.now in
    let n = c.args.node in
    let free : is_some (node_of c.args.place.now) ≡ false = ap is_some c.in_ok-directory.ensures.free in
    let plain : is_directory_at s.tree n ≡ false = ap (λ t. is_directory_at t n) (sym c.tree.ensures) ∙ sym c.is_directory.ensures ∙ c.if-is_directory.false in
    record {
      as_defined = λ me at. rw (c.refusal-in-Err.ensures, c.space_errno.ensures)
          (ap (λ a. collected_attempt (after_walks 2 a)) (link_crowded s n c.args.place.now plain free
          c.in_ok-directory.directory c.in_ok-directory.name.now c.in_ok-directory.ensures.name c.in-Err.space c.in-Err.ensures.refused));
      unchanged = c.in-Err.ensures.err;
      small = tt;
    }

pub returns-clause-agrees : goal.returns-clause-agrees
returns-clause-agrees g c =
    let s = c.args.parts.now in
    let n = c.args.node in
    let free : is_some (node_of c.args.place.now) ≡ false = ap is_some c.in_ok-directory.ensures.free in
    let plain : is_directory_at s.tree n ≡ false = ap (λ t. is_directory_at t n) (sym c.tree.ensures) ∙ sym c.is_directory.ensures ∙ c.if-is_directory.false in
    c.changed.ensures (find_entry s.tree) (find_entry c.link.new.self.tree) c.requires.agrees
    (names_linked s c.requires.whole c.args.place.now c.requires.place c.in_ok-directory.directory c.in_ok-directory.name.now c.in_ok-directory.ensures.name free
    n c.requires.node plain c.link.new.self c.in_default.ensures.ok)
