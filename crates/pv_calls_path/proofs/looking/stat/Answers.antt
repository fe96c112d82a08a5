use Rattle.std.proofs.Common.{◌≡◌, subst}
use Rattle.pv_model.specs.Machine.{answer_by_attempt, stat_at, Walk}
use Rattle.pv_calls_plain.specs.Performed.{answered}
use Rattle.pv_calls_path.proofs.looking.stat.Goals as goal

pub returns-clause-performed : goal.returns-clause-performed
returns-clause-performed g c = λ before me at.
    subst (λ (w : Walk). answer_by_attempt before c.args.system.now.parts c.args.pid me (stat_at c.args.system.now.parts c.args.pid me w) ≡ answered c.stat_at.new.system.parts c.stat_at.result) c.stat.ensures
    (c.stat_at.ensures.performed before me at)
