-- The steps of a run whose trace is written, and those of a run that writes nothing.
use Rattle.pv_streams.specs.Sinks.{FailsBy}
use Rattle.std.specs.Prelude.{◌≡◌, ◌≤◌, ◌+◌, ◌-◌, ◌^◌, min, ℕ, [], ◌∷◌, length}
use Rattle.pv_model.specs.declared.stream.Sink.{Ghosts as Writing}
use Rattle.pv_session.specs.declared.running.Tracer.{Tracer}
use Rattle.pv_streams.specs.declared.stop.Stop.{Stop}
use Rattle.pv_session.specs.Observing.{Observed}
use Rattle.pv_session.specs.Running.{BeginsLines, stepped, WrittenLines}
use Rattle.pv_session.specs.Stopping.{NextLoads, StopsOn}

module _ {W : Type 0} (sink : Writing W) where
  -- a step was made, and its lines were written and counted
  pub record TracesStep (pid : ℕ) (x y : Observed Tracer W) : Type 0 where
    pub after : y.state ≡ (stepped x.state pid).after
    pub written : WrittenLines (stepped x.state pid).lines (sink.written x.out) (sink.written y.out)
    pub quiet : sink.failures y.out ≡ sink.failures x.out
    pub few : length (stepped x.state pid).lines ≤ 7
    pub counted : y.observer.lines ≡ min (x.observer.lines + length (stepped x.state pid).lines) (2 ^ 64 - 1)

  -- a step stopped the run: there was no memory for it, or its lines could not be written
  pub record StopsTrace (stop : Stop) (pid : ℕ) (x y : Observed Tracer W) : Type 0 where
    pub begun : BeginsLines (stepped x.state pid).lines (sink.written x.out) (sink.written y.out)
    pub failed : FailsBy stop (sink.failures x.out) (sink.failures y.out)
    pub at : StopsOn stop (pid ∷ []) x.state y.state (sink.written x.out) (sink.written y.out)

module _ {O W : Type 0} where
  -- a step was made
  abbrev pub PassesStep : ℕ → Observed O W → Observed O W → Type 0
  PassesStep pid x y = y.state ≡ (stepped x.state pid).after

  -- there was no memory for a step
  abbrev pub StopsPass : ℕ → Observed O W → Observed O W → Type 0
  StopsPass pid x y = (y.state ≡ x.state) × NextLoads x.state pid
