use Rattle.std.proofs.Common.{Option, ap, sym}
use Rattle.pv_model.specs.declared.promises.Promises.{Promises as Set}
use Rattle.pv_model_questions.specs.ExplainMore.{execpromises_text}
use Rattle.pv_promises.specs.Pledge.{bits_of}
use Rattle.pv_streams.proofs.WriterContracts.{writes_as}
use Rattle.pv_explain.proofs.restraints.ExecpromisesTextFragment.write.Goals as goal

pub returns-in-Some : goal.returns-in-Some
returns-in-Some g c = writes_as (ap (λ (o : Option Set). execpromises_text (bits_of o)) (sym c.in-Some.is)) c.write.ensures

pub returns-in-None : goal.returns-in-None
returns-in-None g c = writes_as (ap (λ (o : Option Set). execpromises_text (bits_of o)) (sym c.in-None.is)) c.write_whole.ensures
