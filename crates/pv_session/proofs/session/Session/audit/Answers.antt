use Rattle.std.proofs.Common.{Result, sym, ap, subst, ◌∙◌}
use Rattle.pv_model.specs.declared.verdict.AuditFault.{AuditFault}
use Rattle.pv_model.specs.declared.verdict.Verdict.{Verdict}
use Rattle.pv_model.specs.Sealed.{audit}
use Rattle.pv_model.specs.Machine.{State}
use Rattle.pv_session.specs.Audits.{KeepsSecret}
use Rattle.pv_session.proofs.AuditMeaning.{audit-keeps_secret}
use Rattle.pv_session.proofs.session.Session.audit.Goals as goal

pub returns-clause-secret : goal.returns-clause-secret
returns-clause-secret c =
    let path = c.args.path.now in
    let found = c.audit.ensures ∙ ap (λ (x : State). audit x path) c.parts.ensures.value in
    subst (λ (r : Result Verdict AuditFault). KeepsSecret c.args.self.now path r) (sym found) (audit-keeps_secret c.args.self.now c.parts.ensures.whole path)
