use Rattle.std.proofs.Common.{subst, Ok}
use Rattle.pv_model.specs.Machine.{link_node, is_link_text}
use Rattle.pv_host_copy.specs.declared.fault.SkipReason.TheVariants.{Text}
use Rattle.pv_host_copy.specs.Gathered.{and_link}
use Rattle.pv_host_copy.specs.Importing.{Settles}
use Rattle.pv_host_copy.proofs.ImportSteps.{goes-residual}
use Rattle.pv_host_copy.proofs.importing.Importing.keep_link.Goals as goal

pub returns-in_err-settle-clause-goes : goal.returns-in_err-settle-clause-goes
returns-in_err-settle-clause-goes c =
    let text = c.args.text.items in
    goes-residual (and_link c.args.self.now.version c.args.path.now c.args.identity text) c.args.self.now c.from_residual.result c.settle.new.self c.in_err-settle.field-0.0
    c.from_residual.ensures.1 (c.in_err-settle.ensures.settles (link_node text) (is_link_text text) Text)

pub returns-then-branch-clause-goes : goal.returns-then-branch-clause-goes
returns-then-branch-clause-goes c =
    let text = c.args.text.items in
    subst (λ b. Settles c.args.path.now c.args.identity c.args.self.now (Ok b) c.settle.new.self) c.if-branch.true c.in_ok-settle.ensures.settles
    (link_node text) (is_link_text text) Text
