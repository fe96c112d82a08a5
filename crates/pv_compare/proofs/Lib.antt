-- Lemmas about the comparison of two images: StoppingSearch (a search that stops), PlannedComparison (the search of
-- pairs), LivePairProcesses (the processes that are live in either state), PairNumbers (pairs stored as numbers),
-- PairSteps (steps in both states), ComparisonText (the text), PairLoops (the loops of the search), StepsOfPairs (the
-- steps of both images from a visited pair), NextSteps (a next step that is not a call).
pub mod StoppingSearch
pub mod PlannedComparison
pub mod LivePairProcesses
pub mod PairNumbers
pub mod PairSteps
pub mod ComparisonText
pub mod PairLoops
pub mod StepsOfPairs
pub mod NextSteps
