pub mod Lines
pub mod Components
pub mod Reading
