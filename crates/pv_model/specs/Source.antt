-- Sources: texts with comments, blanks and labels, and the manifests and bundles that they denote.
pub mod Blocks
pub mod Judged
pub mod OnLiterals
pub mod Programs
pub mod Words
pub mod Written
