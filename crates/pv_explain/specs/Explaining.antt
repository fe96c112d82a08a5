-- The steps of an explained run.
use Rattle.std.specs.Prelude.{◌≡◌, ◌+◌, ◌-◌, ◌^◌, min, ℕ, [], ◌∷◌, Ok, Err}
use Rattle.pv_laws_states.specs.States.{IsValid}
use Rattle.pv_model.specs.declared.stream.Sink.{Ghosts as Writing}
use Rattle.pv_model.specs.Machine.{answer_bytes, program_of, settings_next}
use Rattle.pv_streams.specs.declared.stop.Stop.{Stop}
use Rattle.pv_step_lines.specs.OfSession.Observing.{Observed}
use Rattle.pv_step_lines.specs.OfSession.Running.{stepped}
use Rattle.pv_streams.specs.Sinks.{FailsBy, Writes, WritesOr}
use Rattle.pv_explain.specs.declared.explain.Explaining.{Explaining}
use Rattle.pv_explain.specs.Keeping.{Agree}
use Rattle.pv_explain.specs.Steps.{StopsExplained, explained_step_lines}

module _ {W : Type 0} (sink : Writing W) where
  -- a step was made, and its lines were written; the explainer knows the origins of entries after it
  pub record ExplainsStep (pid : ℕ) (x y : Observed Explaining W) : Type 0 where
    pub whole : IsValid x.state
    pub after : y.state ≡ (stepped x.state pid).after
    pub written : Writes {T = Unit {0}} {E = Unit {0}} sink (answer_bytes (explained_step_lines x.observer.extra x.observer.number x.observer.explainer x.state pid)) x.out y.out (Ok tt)
    pub keeps : Agree y.state y.observer.explainer (settings_next program_of x.state pid x.observer.explainer)
    pub same : y.observer.extra ≡ x.observer.extra
    pub number : y.observer.number ≡ min (x.observer.number + 1) (2 ^ 64 - 1)

  -- a step stopped the run: there was no memory for it, or its lines could not be written
  pub record StopsExplaining (stop : Stop) (pid : ℕ) (x y : Observed Explaining W) : Type 0 where
    pub begun : WritesOr {T = Unit {0}} sink FailsBy (answer_bytes (explained_step_lines x.observer.extra x.observer.number x.observer.explainer x.state pid)) x.out y.out (Err stop)
    pub at : StopsExplained x.observer.extra stop x.observer.number x.observer.explainer (pid ∷ []) x.state y.state (sink.written x.out) (sink.written y.out)
