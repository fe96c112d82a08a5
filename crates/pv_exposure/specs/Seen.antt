-- The state that is visited, as contracts see it.
use Rattle.std.specs.Prelude.{◌≡◌, slice_get, Some}
use Rattle.pv_model.specs.Machine.{Found}
use Rattle.pv_named_files.specs.FirstPaths.{files_given, first_tree}
use Rattle.pv_reduced.specs.OfExplore.Visiting.{Visits}
use Rattle.pv_exposure.specs.StateFiles.{AreFilesOf}
use Rattle.pv_exposure.specs.declared.exposure.SeenState.{SeenState}

abbrev pub found_seen : SeenState → Found
found_seen seen = record { witness = seen.witness.now; state = seen.parts.now }

-- a state is the visited one of its number, with its files
pub record IsSeenState (visits : Visits) (seen : SeenState) : Type 0 where
  pub at : slice_get visits.found seen.number ≡ Some (found_seen seen)
  pub files : AreFilesOf (files_given seen.paths.now) (first_tree seen.paths.now) seen.parts.now seen.files.now
