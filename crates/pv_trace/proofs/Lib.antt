-- Lemmas of lines: LineTexts (the text of lines), NumberDigits (of a number below 100,000), JoinedTexts (eight texts
-- appended one by one), PathPrefixes (prefixes of lists of paths).
pub mod NumberDigits
pub mod JoinedTexts
pub mod LineTexts
pub mod PathPrefixes
