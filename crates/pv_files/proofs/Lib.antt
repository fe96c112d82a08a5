-- Lemmas of open files: ListCopies (of lists, element by element), OpenFileUsers (with the numbers of their users),
-- RecordKeys (the records of numbers, by their keys), ViewedMaps (maps whose values are viewed through a function).
pub mod ListCopies
pub mod OpenFileUsers
pub mod RecordKeys
pub mod ViewedMaps
