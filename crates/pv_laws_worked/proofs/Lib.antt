-- Lemmas about the worked images: ConcreteTrees (facts about concrete trees and images), SmallestImage (the smallest image),
-- ExampleImage (the image of a run that reads one file), PastSlotImage (a root with a name that exceeds its slot).
pub mod ConcreteTrees
pub mod ExampleImage
pub mod PastSlotImage
pub mod SmallestImage
