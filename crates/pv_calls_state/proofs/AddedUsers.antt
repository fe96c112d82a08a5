-- Addition of users, one at a time.
use Rattle.std.proofs.Common.{◌≡◌, ℕ, ◌+◌, ◌<◌, ◌≤◌, [], length, drop, None, Some, ap, sym, subst, ◌∙◌, arith}
use Rattle.std.specs.Prelude.{slice_index, option_map, IsSome}
use Rattle.std.proofs.lemmas.List.{drop_all, get_or-set_same, get_or-set_other}
use Rattle.pv_files.specs.Counted.{Counted, IsCounted, with_users}
use Rattle.pv_model.specs.Machine.{Numbered, at_number, Descriptor}
use Rattle.pv_calls_state.specs.Counts.{times}
use Rattle.pv_calls_state.specs.Releasing.{files_on, Shares}
use Rattle.pv_calls_state.proofs.CollectionByCounts.{one_if}
use Rattle.pv_calls_state.proofs.ReferenceCounting.{one-self, one-apart, indexed-within, times-drop, times-there, place-is, place-none}
use Rattle.pv_calls_state.proofs.RemovedUsers.{of_file}

-- an open file has one more user
pub one-more : (c d : Counted) (file : ℕ) → IsCounted c → IsSome (at_number c.files file) → d ≡ with_users c file (slice_index c.users file + 1)
    → (k : ℕ) → slice_index c.users k + one_if file k ≡ slice_index d.users k
one-more c d file is there users =
    let below : file < length c.users = indexed-within c.users file ((is.used file).0 there) in
    one-apart (slice_index c.users) (slice_index d.users) file
    (omega (arith, ap (λ x. slice_index x.users file) users, get_or-set_same c.users file (slice_index c.users file + 1) 0 below))
    (λ k other. sym (ap (λ x. slice_index x.users k) users ∙ get_or-set_other c.users file k (slice_index c.users file + 1) 0 other))

pub shares-nothing : (places : Numbered Descriptor) (k : ℕ) (c d : Counted) → option_map of_file (at_number places k) ≡ None
    → Shares (files_on places) (files_on (drop k places)) c d → Shares (files_on places) (files_on (drop (k + 1) places)) c d
shares-nothing places k c d none before = record {
  users = λ n. omega (arith, before.users n, times-drop of_file n places k, place-none of_file n (at_number places k) none);
  files = before.files;
}

module _ (places : Numbered Descriptor) (k file : ℕ) (c d : Counted) (at : option_map of_file (at_number places k) ≡ Some file)
    (before : Shares (files_on places) (files_on (drop k places)) c d) (opened : (n : ℕ) → 0 < times n (files_on places) → IsSome (at_number c.files n)) where
  pub share-opened : IsSome (at_number d.files file)
  share-opened = subst (λ fs. IsSome (at_number fs file)) (sym before.files) (opened file (times-there of_file places k file at))

  pub share-room : ((n : ℕ) → slice_index c.users n + times n (files_on places) ≤ 65535) → slice_index d.users file < 65535
  share-room room = omega (arith, before.users file, room file, times-drop of_file file places k, place-is of_file file (at_number places k) file at, one-self file)

  pub shares-next : (e : Counted) → IsCounted d → e ≡ with_users d file (slice_index d.users file + 1) → Shares (files_on places) (files_on (drop (k + 1) places)) c e
  shares-next e is more = record {
    users = λ n. omega (arith, before.users n, times-drop of_file n places k, place-is of_file n (at_number places k) file at, one-more d e file is share-opened more n);
    files = ap (λ x. x.files) more ∙ before.files;
  }

-- all indices are done
pub shares-all : (places : Numbered Descriptor) (k : ℕ) (c d : Counted) → length places ≤ k → Shares (files_on places) (files_on (drop k places)) c d → Shares (files_on places) [] c d
shares-all places k c d past before = record {
  users = λ n. omega (arith, before.users n, ap (λ xs. times n (files_on xs)) (drop_all k places past));
  files = before.files;
}
