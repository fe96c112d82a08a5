pub mod Files
pub mod Images
pub mod Layout
pub mod Owning
pub mod Sizes
pub mod Sound
