use Rattle.std.proofs.Common.{◌≡◌, [], subst}
use Rattle.pv_model.specs.Calls.Paths.{make}
use Rattle.pv_model.specs.Machine.{directory_node, Walk}
use Rattle.pv_calls_plain.specs.OfCallsState.Attempts.{collected_attempt}
use Rattle.pv_calls_plain.specs.Performed.{attempt_of}
use Rattle.pv_calls_path.proofs.names.mkdir.Goals as goal

pub returns-clause-performed : goal.returns-clause-performed
returns-clause-performed g c = record {
  as_defined = λ me at.
      subst (λ (w : Walk). collected_attempt (make c.args.system.now.parts c.args.pid me w (directory_node [])) ≡ attempt_of c.make.new.system.parts c.make.result) c.mkdir-walk.ensures (c.make.ensures.performed.as_defined me at);
  unchanged = c.make.ensures.performed.unchanged;
  small = c.make.ensures.performed.small;
}
