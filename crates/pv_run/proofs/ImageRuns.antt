-- A run on an image, and the image after it.
use Rattle.std.proofs.Common.{◌≡◌, ◌∙◌, ap, subst, refl, ℕ, Option, Some, Result, Ok, Err, inl, inr}
use Rattle.pv_model.specs.declared.run_fault.RunFault.{RunFault}
use Rattle.pv_model.specs.declared.run_fault.RunFault.TheVariants.{Read, Image, Manifest, Schedule as ScheduleLine, Init, Memory, WriteTrace, WriteImage}
use Rattle.pv_model.specs.Machine.{Bytes, program_of, State, Started, image_started, Schedule, boot, Tree}
use Rattle.pv_laws_runs.proofs.RunChecks.{image-asks}
use Rattle.pv_run.proofs.RunPrefixes.{has_begun, has_stopped}
use Rattle.pv_run.specs.Images.{BeginsNamedImage, HasRunOn, IsWriteError, AppearsOn, WrittenImage, last_tree}
use Rattle.pv_run.specs.Run.{IsSummaryOf, IsTextOf, StopsBy, IsOutOfMemoryAtExecve, started_from, text_of}
use Rattle.pv_run.specs.declared.turns.Summary.{Summary}
use Rattle.pv_session.specs.Running.{BeginsLines, WrittenLines, run_of}

-- a result with this error
abbrev pub answered : RunFault → Result (Unit {0}) RunFault
answered fault = Err fault

module _ (asked : Result Started RunFault) (s : State) (schedule : Schedule) (is : asked ≡ Ok (started_from s schedule)) (machine : boot program_of s.tree ≡ Some s)
    (tb ta ib ia : Option Bytes) where
  abbrev is_text : (summary : Summary) → IsSummaryOf (started_from s schedule) summary → IsTextOf asked (text_of (started_from s schedule)) summary
  is_text summary counts = record { it = started_from s schedule; is_asked = is; is_machine = machine; text_is = refl; counts = counts }

  -- the tree after the run
  module _ (t : Tree) (after : State) (same : t ≡ after.tree) (left : after ≡ (run_of s schedule).final) (summary : Summary) (counts : IsSummaryOf (started_from s schedule) summary)
      (written : WrittenLines (run_of s schedule).lines tb ta) where
    is_last : t ≡ last_tree (started_from s schedule)
    is_last = same ∙ ap (λ (x : State). x.tree) left

    -- a run whose image was not written completely
    pub unwritten : (f e : RunFault) → e ≡ f → IsWriteError f → (answered f ≡ Err WriteImage → BeginsNamedImage t ib ia) → (answered f ≡ Err Memory → ia ≡ ib)
        → AppearsOn asked tb ta ib ia e
    unwritten WriteImage e same_fault kind cut memory = rw same_fault (record {
      text = text_of (started_from s schedule);
      summary = summary;
      is_run = is_text summary counts;
      written = written;
      begun = subst (λ (x : Tree). BeginsNamedImage x ib ia) is_last (cut refl);
    })
    unwritten Memory e same_fault kind cut memory =
        rw same_fault (inr (inr (record { text = text_of (started_from s schedule); summary = summary; is_run = is_text summary counts; written = written })), memory refl)
    unwritten Read e same_fault kind cut memory = elim kind [ ]
    unwritten (Image f) e same_fault kind cut memory = elim kind [ ]
    unwritten (Manifest f) e same_fault kind cut memory = elim kind [ ]
    unwritten (ScheduleLine n) e same_fault kind cut memory = elim kind [ ]
    unwritten (Init n) e same_fault kind cut memory = elim kind [ ]
    unwritten WriteTrace e same_fault kind cut memory = elim kind [ ]

  -- a run that stopped before its end writes no image
  pub stops_on : (left : State) (f e : RunFault) → e ≡ f → (failures now : ℕ) → StopsBy f failures now → BeginsLines (run_of s schedule).lines tb ta
      → IsOutOfMemoryAtExecve f schedule s left tb ta → AppearsOn asked tb ta ib ib e
  stops_on left Memory e same failures now why begun stop = rw same (inr (inl (has_stopped asked s schedule is machine tb ta left stop)), refl)
  stops_on left WriteTrace e same failures now why begun stop = rw same (has_begun asked s schedule is machine tb ta begun, refl)
  stops_on left Read e same failures now why begun stop = elim why [ ]
  stops_on left (Image f) e same failures now why begun stop = elim why [ ]
  stops_on left (Manifest f) e same failures now why begun stop = elim why [ ]
  stops_on left (ScheduleLine n) e same failures now why begun stop = elim why [ ]
  stops_on left (Init n) e same failures now why begun stop = elim why [ ]
  stops_on left WriteImage e same failures now why begun stop = elim why [ ]

-- ---- a run on an image that was made

module _ (bytes turns : Bytes) (s : State) (schedule : Schedule) (is : image_started bytes turns ≡ Ok (started_from s schedule)) (tb ta ib ia : Option Bytes) where
  pub has_run_on : (t : Tree) (after : State) → t ≡ after.tree → after ≡ (run_of s schedule).final → (summary : Summary) → IsSummaryOf (started_from s schedule) summary
      → WrittenLines (run_of s schedule).lines tb ta → WrittenImage t ib ia → HasRunOn bytes turns tb ta ib ia summary
  has_run_on t after same left summary counts written as_written = record {
    it = started_from s schedule;
    asks = image-asks bytes turns (started_from s schedule) is;
    written = written;
    as_written = subst (λ (x : Tree). WrittenImage x ib ia) (same ∙ ap (λ (x : State). x.tree) left) as_written;
    counts = counts;
    is_asked = is;
  }
