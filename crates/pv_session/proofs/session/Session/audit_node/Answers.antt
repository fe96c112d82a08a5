use Rattle.std.proofs.Common.{Result, Some, sym, ap, subst, ◌∙◌}
use Rattle.pv_model.specs.declared.verdict.AuditFault.{AuditFault}
use Rattle.pv_model.specs.declared.verdict.Verdict.{Verdict}
use Rattle.pv_model.specs.Machine.{audit_node, State}
use Rattle.pv_session.specs.Audits.{KeepsSecretAt}
use Rattle.pv_session.proofs.AuditMeaning.{audit_node-keeps_secret}
use Rattle.pv_session.proofs.session.Session.audit_node.Goals as goal

pub returns-clause-secret : goal.returns-clause-secret
returns-clause-secret c =
    let node = c.args.node in
    let found = c.audit_node.ensures ∙ ap (λ (x : State). audit_node x (Some node)) c.parts.ensures.value in
    subst (λ (r : Result Verdict AuditFault). KeepsSecretAt c.args.self.now node r) (sym found) (audit_node-keeps_secret c.args.self.now c.parts.ensures.whole node)
