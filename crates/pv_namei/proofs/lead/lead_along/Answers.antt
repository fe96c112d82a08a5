use Rattle.std.proofs.Common.{◌≡◌, true, subst}
use Rattle.std.specs.Prelude.{IfSome}
use Rattle.pv_model.specs.Machine.{is_directory_at}
use Rattle.pv_namei.proofs.lead.lead_along.Goals as goal

pub returns-in-Some-clause-lead : goal.returns-in-Some-clause-lead
returns-in-Some-clause-lead g c = subst (λ o. IfSome o (λ above. is_directory_at c.args.tree.now.tree above ≡ true)) c.in-Some.is c.parent.ensures.directory
