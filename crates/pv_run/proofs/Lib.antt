-- Lemmas about runs from bytes to bytes: InputChecks (the checks of the input), RunPrefixes (a run, complete or up to a
-- point), ImageRuns (the image after it), ManifestImages (manifests), StoppedOutput (the output that is not written
-- when a run stops).
pub mod RunPrefixes
pub mod ManifestImages
pub mod InputChecks
pub mod StoppedOutput
pub mod ImageRuns
