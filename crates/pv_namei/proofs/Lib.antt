-- Lemmas of walks: PathComponents and JoinedComponents (components split off and put together), DotComponents (the last
-- component), NodeKinds and WalkSteps (the specification's walk, step by step), FirstPlaces (searches for a position),
-- CachedAnswers (the answers in a cache).
pub mod DotComponents
pub mod FirstPlaces
pub mod PathComponents
pub mod JoinedComponents
pub mod WalkSteps
pub mod NodeKinds
pub mod CachedAnswers
