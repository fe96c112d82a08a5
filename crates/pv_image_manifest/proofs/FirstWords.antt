-- Lines of manifests by their first word.
use Rattle.std.proofs.Common.{◌≡◌, true, false, List, None, refl, codes}
use Rattle.std.specs.Prelude.{bytes_eq}
use Rattle.pv_model.specs.Machine.{Bytes, decimal_of, text_at, word_at, one_argument, two_arguments}
use Rattle.pv_model.specs.Grammar.Manifests.{entry_by, directory_line, file_line, executable_line, link_line, name_line}
use Rattle.pv_laws_trees.proofs.DirectoryEntries.{bytes_eq-same}

module _ (word rest : Bytes) (ls : List Bytes) where
  pub directory_is : bytes_eq word (codes "dir") ≡ true → directory_line (one_argument text_at rest) ≡ entry_by word rest ls
  unfolding entry_by
  directory_is same = rw (bytes_eq-same word (codes "dir") same) refl

  pub file_is : bytes_eq word (codes "bytes") ≡ true → file_line (two_arguments text_at text_at rest) ≡ entry_by word rest ls
  unfolding entry_by
  file_is same = rw (bytes_eq-same word (codes "bytes") same) refl

  pub program_is : bytes_eq word (codes "exec") ≡ true → executable_line ls (two_arguments text_at (word_at decimal_of) rest) ≡ entry_by word rest ls
  unfolding entry_by
  program_is same = rw (bytes_eq-same word (codes "exec") same) refl

  pub link_is : bytes_eq word (codes "link") ≡ true → link_line (two_arguments text_at text_at rest) ≡ entry_by word rest ls
  unfolding entry_by
  link_is same = rw (bytes_eq-same word (codes "link") same) refl

  pub name_is : bytes_eq word (codes "name") ≡ true → name_line (two_arguments text_at text_at rest) ≡ entry_by word rest ls
  unfolding entry_by
  name_is same = rw (bytes_eq-same word (codes "name") same) refl

  pub other_entry : bytes_eq word (codes "dir") ≡ false → bytes_eq word (codes "bytes") ≡ false → bytes_eq word (codes "exec") ≡ false → bytes_eq word (codes "link") ≡ false
      → bytes_eq word (codes "name") ≡ false → entry_by word rest ls ≡ None
  unfolding entry_by
  other_entry a b c d e = rw (a, b, c, d, e) refl
