-- Lemmas about access control.
-- - Rights: NarrowedRestraints (promises and tables), ProcessesAfterEnds, ImageGrowth (the caller and other processes
--   after a call), ProgramImages (one program image), OtherOpenFiles and OpenFilesAfterSteps (open files),
--   PromiseLimits and MissingPromises (missing promises), RefusedSteps, DescendantLimits (descendants), StatesAfterEnds
--   (exit and kills).
-- - Effects: CallEffects (the possible effects of a call, in sixteen cases), EffectByProcess, EffectByTree,
--   EffectByOpen, EffectByCall; TouchingCalls (from a touch to an effect), ChangedTrees (changes of trees).
-- - Justification: JustifiedChanges, JustifiedGains, JustifiedReports, JustifiedReads.
-- - Secrecy: SimilarTrees and SimilarCalls (states that differ in one file's bytes), ClosedProcesses, Verdicts
--   (audits), NameOrigins (new names), ProcessOrigins, Confinement, GoverningEntries (governing entries), SealedSteps
--   (one step), SealedRuns (runs), OwnRuns (runs of one process).
-- - Refusals: JudgementRelation (decisions), WalkDecisions (the last walk decides), TableLines (UNVL lines),
--   FirstMissing (orders of promises), PledgeRefusals and PromiseRefusals (promises).
-- - Names: NamingCalls, MovedPermissions (permissions that come with names), NextNames and AscendingListings
--   (getdents), ListingOrder (listings).
-- - Examples by computation: ExampleRuns, EndExampleRuns, DescentExampleRuns, RefusalExampleRuns, NameExampleRuns,
--   NamesExampleRuns.
pub mod NarrowedRestraints
pub mod CallEffects
pub mod EffectByProcess
pub mod EffectByTree
pub mod EffectByOpen
pub mod EffectByCall
pub mod ProcessesAfterEnds
pub mod ImageGrowth
pub mod ProgramImages
pub mod ChangedTrees
pub mod TouchingCalls
pub mod JustifiedChanges
pub mod JustifiedGains
pub mod JustifiedReports
pub mod SimilarTrees
pub mod SimilarCalls
pub mod JustifiedReads
pub mod ExampleRuns
pub mod ClosedProcesses
pub mod OtherOpenFiles
pub mod Verdicts
pub mod PromiseLimits
-- ---- effects on others
pub mod StatesAfterEnds
pub mod OpenFilesAfterSteps
pub mod EndExampleRuns
-- ---- secrecy along runs
pub mod NameOrigins
pub mod ProcessOrigins
pub mod Confinement
pub mod GoverningEntries
pub mod SealedSteps
pub mod SealedRuns
pub mod OwnRuns
-- ---- the sandbox
pub mod JudgementRelation
pub mod DescendantLimits
pub mod MissingPromises
pub mod RefusedSteps
pub mod DescentExampleRuns
-- ---- refusals
pub mod WalkDecisions
pub mod TableLines
pub mod FirstMissing
pub mod PledgeRefusals
pub mod PromiseRefusals
pub mod RefusalExampleRuns
-- ---- names and their order
pub mod NamingCalls
pub mod MovedPermissions
pub mod NextNames
pub mod AscendingListings
pub mod ListingOrder
pub mod NameExampleRuns
pub mod NamesExampleRuns
