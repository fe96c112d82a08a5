pub mod FirstPaths
pub mod Listed
pub mod Notes
pub use Rattle.pv_step_cache.specs as OfStepCache
