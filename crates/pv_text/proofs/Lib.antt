-- Lemmas of texts: TextLines (lines), WordsAndTexts (words, and texts in quotation marks), FirstComponents (the first
-- component of a path).
pub mod FirstComponents
pub mod TextLines
pub mod WordsAndTexts
