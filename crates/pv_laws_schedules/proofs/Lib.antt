-- Lemmas about searches and the answers over every schedule.
-- - `compare`: BreadthFirstSearch (breadth-first search of any elements), PairSearch (the search of pairs), StepTexts
--   (the data that a step's text shows), EqualRuns.
-- - `access`: ReachedStates (the visited states), ShownStates (the data that processes show in them),
--   ReportedObservations (reported observations), ReadAccess (reads are accesses), UnreadFiles, SuccessfulCalls,
--   NamedPlaces and StatesAfterSuccess (calls that succeed), TouchAccesses (touches are accesses), ListedTouches,
--   JustifiedAccesses, ReducedAccesses (the reduced search).
-- - `exposure`: KeyGroups (elements with equal keys), FixedProcesses (reasons of EDIT), FindingReasons, ExposureLines,
--   AllFiles, ReducedExposureLines (the reduced search), UnlistedRuns (runs from lines that are not listed),
--   LeastReasons (the reasons of an audit), AboutFiles (given files).
-- - `policy`: VisitedCalls (the calls of visited states), NeededPromises (promises), NeededPermissions (permissions),
--   TargetLines (their lines), GrantedNeeds (granted calls), FewerPromises (a step with other promises), IdlePromises,
--   PermissionSets, OtherTables (a step with another table), IdlePermissions.
-- - RisingLists (lists in which no element is greater than a later one) and ShortestWitnesses, for `exposure` and
--   `policy`.
-- - ReducedTextRuns: texts by the reduced search, by computation.
pub mod BreadthFirstSearch
pub mod PairSearch
pub mod StepTexts
pub mod EqualRuns
pub mod ReachedStates
pub mod RisingLists
pub mod PermissionSets
pub mod ShownStates
pub mod ReportedObservations
pub mod ReadAccess
pub mod UnreadFiles
pub mod SuccessfulCalls
pub mod NamedPlaces
pub mod StatesAfterSuccess
pub mod TouchAccesses
pub mod ListedTouches
pub mod JustifiedAccesses
pub mod ReducedAccesses
pub mod KeyGroups
pub mod FixedProcesses
pub mod FindingReasons
pub mod ExposureLines
pub mod AllFiles
pub mod AboutFiles
pub mod ReducedExposureLines
pub mod ShortestWitnesses
pub mod UnlistedRuns
pub mod LeastReasons
pub mod VisitedCalls
pub mod NeededPromises
pub mod NeededPermissions
pub mod TargetLines
pub mod GrantedNeeds
pub mod FewerPromises
pub mod IdlePromises
pub mod OtherTables
pub mod IdlePermissions
pub mod ReducedTextRuns
