use Rattle.pv_script.proofs.ContextEffects.{one_passed}
use Rattle.pv_script.proofs.context.Context.step_or_fetch.Goals as goal

pub returns-in-None-clause-made : goal.returns-in-None-clause-made
returns-in-None-clause-made c =
    one_passed c.args.program.now c.args.self.now c.pass.new.self c.pass.result c.pass.ensures.few c.pass.ensures.made c.pass.ensures.whole c.in-None.ensures
