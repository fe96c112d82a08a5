-- Lemmas of promises: Keywords (the keywords of a text, and their set), LackedPromises (the promise that two lists of
-- needs lack).
pub mod Keywords
pub mod LackedPromises
