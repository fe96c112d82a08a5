-- Lemmas on the entries of one directory.
use Rattle.std.proofs.Common.{◌≡◌, ℕ, suc, ◌+◌, true, cond, length, None, Some, is_some, ap, sym, ◌∙◌, arith, ⊎_elim}
use Rattle.std.specs.FinMap.Entries.{find, put, where_key, is_sorted, same_entries, is_sorted-put, is_sorted-where_key, length-put}
use Rattle.std.specs.Ordering.{is_eq}
use Rattle.std.proofs.lemmas.Cmp.{nat_list_cmp_total}
use Rattle.pv_model.specs.Machine.{Bytes, Entries}
pub use Rattle.pv_dirs.specs.Counts.{count_in}
pub use Rattle.pv_dirs.proofs.EntryCounts.{one_if, count-cons, count-put, count-most}
use Rattle.pv_laws_trees.proofs.TreeChanges.{cases_name}
use Rattle.pv_laws_trees.proofs.DirectoryEntries.{by_name, is_other, tied-same, find-put_same, find-put_other, find-without_same, find-without_other, reported, report}

-- sorted entries with the same lookups are equal
pub same_found : (es fs : Entries) → is_sorted by_name es ≡ true → is_sorted by_name fs ≡ true → ((q : Bytes) → find by_name q es ≡ find by_name q fs) → es ≡ fs
same_found es fs a b same = same_entries by_name nat_list_cmp_total (λ x y tied. tied-same x y (ap is_eq tied)) es fs (report _ a) (report _ b) same

sorted_put : (name : Bytes) (n : ℕ) (es : Entries) → is_sorted by_name es ≡ true → is_sorted by_name (put by_name name n es) ≡ true
sorted_put name n es sorted = reported _ (is_sorted-put by_name nat_list_cmp_total name n es (report _ sorted))

pub sorted_without : (name : Bytes) (es : Entries) → is_sorted by_name es ≡ true → is_sorted by_name (where_key by_name (is_other name) es) ≡ true
sorted_without name es sorted = reported _ (is_sorted-where_key by_name (is_other name) es (report _ sorted))

-- an entry that is removed and restored
pub put_back : (name : Bytes) (n : ℕ) (es : Entries) → is_sorted by_name es ≡ true → find by_name name es ≡ Some n
    → put by_name name n (where_key by_name (is_other name) es) ≡ es
put_back name n es sorted found =
    let less = where_key by_name (is_other name) es in
    same_found (put by_name name n less) es (sorted_put name n less (sorted_without name es sorted)) sorted (λ q.
    ⊎_elim
    (λ same. ap (λ k. find by_name k (put by_name name n less)) same ∙ find-put_same name n less ∙ sym found ∙ ap (λ k. find by_name k es) (sym same))
    (λ other. find-put_other q name n less other ∙ find-without_other q name es other)
    (cases_name q name))

-- an entry that replaces another
pub put_over : (name : Bytes) (n : ℕ) (es : Entries) → is_sorted by_name es ≡ true
    → put by_name name n (where_key by_name (is_other name) es) ≡ put by_name name n es
put_over name n es sorted =
    let less = where_key by_name (is_other name) es in
    same_found (put by_name name n less) (put by_name name n es) (sorted_put name n less (sorted_without name es sorted)) (sorted_put name n es sorted) (λ q.
    ⊎_elim
    (λ same. ap (λ k. find by_name k (put by_name name n less)) same ∙ find-put_same name n less ∙ sym (find-put_same name n es) ∙ ap (λ k. find by_name k (put by_name name n es)) (sym same))
    (λ other. find-put_other q name n less other ∙ find-without_other q name es other ∙ sym (find-put_other q name n es other))
    (cases_name q name))

-- if no entry has a name, removing it changes nothing
pub none_taken : (name : Bytes) (es : Entries) → is_sorted by_name es ≡ true → find by_name name es ≡ None → where_key by_name (is_other name) es ≡ es
none_taken name es sorted none =
    let less = where_key by_name (is_other name) es in
    same_found less es (sorted_without name es sorted) sorted (λ q.
    ⊎_elim
    (λ same. ap (λ k. find by_name k less) same ∙ find-without_same name es ∙ sym none ∙ ap (λ k. find by_name k es) (sym same))
    (λ other. find-without_other q name es other)
    (cases_name q name))

-- the number of entries with one more, and with one less
pub length_more : (name : Bytes) (n : ℕ) (es : Entries) → is_sorted by_name es ≡ true → find by_name name es ≡ None → length (put by_name name n es) ≡ suc (length es)
length_more name n es sorted none =
    length-put by_name nat_list_cmp_total name n es (report _ sorted) ∙ ap (λ o. cond (is_some o) (length es) (length es + 1)) none ∙ omega arith

-- ---- the entries for a node

pub count-without : (n : ℕ) (name : Bytes) (m : ℕ) (es : Entries) → is_sorted by_name es ≡ true → find by_name name es ≡ Some m
    → one_if m n + count_in n (where_key by_name (is_other name) es) ≡ count_in n es
count-without n name m es sorted found =
    let less = where_key by_name (is_other name) es in
    sym (count-put n name m less (find-without_same name es)) ∙ ap (count_in n) (put_back name m es sorted found)
