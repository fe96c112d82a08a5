-- The steps of a run whose demands are recorded.
use Rattle.std.specs.Prelude.{◌≡◌, ℕ}
use Rattle.pv_model.specs.Machine.{program_of}
use Rattle.pv_needs.specs.Asking.{IsMoreBy}
use Rattle.pv_needs.specs.declared.needs.DemandRecorder.{DemandRecorder}
use Rattle.pv_needs.specs.Granted.{demands_of_step}
use Rattle.pv_streams.specs.declared.stop.Stop.{Stop}
use Rattle.pv_streams.specs.declared.stop.Stop.TheVariants.{Memory}
use Rattle.pv_session.specs.Observing.{Observed}
use Rattle.pv_session.specs.Running.{stepped}

module _ {W : Type 0} where
  -- a step was made, and its demand recorded, if it has one that counts
  pub record RecordsStep (pid : ℕ) (x y : Observed DemandRecorder W) : Type 0 where
    pub after : y.state ≡ (stepped x.state pid).after
    pub more : IsMoreBy x.observer.recorded pid (demands_of_step x.observer.granted program_of x.state pid) y.observer.recorded
    pub same : y.observer.granted ≡ x.observer.granted

  -- only lack of memory stops the run
  abbrev pub StopsRecording : Stop → ℕ → Observed DemandRecorder W → Observed DemandRecorder W → Type 0
  StopsRecording stop pid x y = stop ≡ Memory
