pub mod Calls
pub mod Courses
pub mod ExampleStates
pub mod Held
pub mod Steps
pub mod States
