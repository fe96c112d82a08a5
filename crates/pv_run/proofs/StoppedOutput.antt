-- The output that is not written or not flushed when a run stops.
use Rattle.std.proofs.Common.{◌≡◌, refl, ℕ, Option, Err}
use Rattle.pv_model.specs.declared.run_fault.RunFault.{RunFault}
use Rattle.pv_model.specs.declared.run_fault.RunFault.TheVariants.{Read, Image, Manifest, Schedule as ScheduleLine, Init, Memory, WriteTrace, WriteImage}
use Rattle.pv_model.specs.Machine.{Bytes}
use Rattle.pv_run.proofs.ImageRuns.{answered}
use Rattle.pv_run.specs.Images.{IsWriteError, WritesNeitherUnlessCut}
use Rattle.pv_run.specs.Run.{StopsBy, BufferedOnlyIfCut}

-- nothing is buffered
pub none_buffered : (f : RunFault) (waiting : ℕ) → waiting ≡ 0 → BufferedOnlyIfCut f waiting
none_buffered WriteTrace waiting none = tt
none_buffered Memory waiting none = none
none_buffered Read waiting none = none
none_buffered (Image f) waiting none = none
none_buffered (Manifest f) waiting none = none
none_buffered (ScheduleLine n) waiting none = none
none_buffered (Init n) waiting none = none
none_buffered WriteImage waiting none = none

module _ (tb ta ib ia : Option Bytes) where
  -- before the first step
  pub neither_written : (f : RunFault) → WritesNeitherUnlessCut tb tb ib ib f
  neither_written WriteImage = tt
  neither_written WriteTrace = refl
  neither_written Memory = refl
  neither_written Read = (refl, refl)
  neither_written (Image f) = (refl, refl)
  neither_written (Manifest f) = (refl, refl)
  neither_written (ScheduleLine n) = (refl, refl)
  neither_written (Init n) = (refl, refl)

  -- during the run
  pub no_image_written : (f e : RunFault) → e ≡ f → (failures now : ℕ) → StopsBy f failures now → WritesNeitherUnlessCut tb ta ib ib e
  no_image_written Memory e same failures now why = rw same refl
  no_image_written WriteTrace e same failures now why = rw same refl
  no_image_written Read e same failures now why = elim why [ ]
  no_image_written (Image f) e same failures now why = elim why [ ]
  no_image_written (Manifest f) e same failures now why = elim why [ ]
  no_image_written (ScheduleLine n) e same failures now why = elim why [ ]
  no_image_written (Init n) e same failures now why = elim why [ ]
  no_image_written WriteImage e same failures now why = elim why [ ]

  -- after the run
  pub image_written : (f e : RunFault) → e ≡ f → IsWriteError f → (answered f ≡ Err Memory → ia ≡ ib) → WritesNeitherUnlessCut tb ta ib ia e
  image_written WriteImage e same kind memory = rw same tt
  image_written Memory e same kind memory = rw same (memory refl)
  image_written Read e same kind memory = elim kind [ ]
  image_written (Image f) e same kind memory = elim kind [ ]
  image_written (Manifest f) e same kind memory = elim kind [ ]
  image_written (ScheduleLine n) e same kind memory = elim kind [ ]
  image_written (Init n) e same kind memory = elim kind [ ]
  image_written WriteTrace e same kind memory = elim kind [ ]
