pub mod Counted
pub mod DescriptorSlots
pub mod Descriptors
pub mod Slots
