pub mod Context
pub mod Lent
pub mod Passing
pub mod Reading
pub mod Written
