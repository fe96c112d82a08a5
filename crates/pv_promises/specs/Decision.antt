-- The decision about a call: pledge(2).
use Rattle.std.specs.Prelude.{Bool, true, false, Option, Some, None, List}
use Rattle.pv_model.specs.declared.promise.Promise.{Promise}
use Rattle.pv_model.specs.Machine.{Promises, Need, is_lenient, missing_promise}
use Rattle.pv_promises.specs.declared.pledge.Decision.{Decision}
use Rattle.pv_promises.specs.declared.pledge.Decision.TheVariants.{Allowed, Kill, Refuse}

abbrev pub unless_missing : Bool → Option Promise → Decision
unless_missing lenient None = Allowed
unless_missing true (Some p) = Refuse p
unless_missing false (Some p) = Kill p

-- the decision about a call with these needs
abbrev pub decision : Option Promises → List Need → Decision
decision held needs = unless_missing (is_lenient held) (missing_promise held needs)
