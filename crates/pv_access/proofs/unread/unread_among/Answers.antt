use Rattle.std.proofs.Common.{◌+◌, ◌∙◌, ℕ, List, ◌++◌, ap, append_assoc, append-nil, drop, filter, get_or, sym}
use Rattle.std.proofs.lemmas.List.{drop_all, drop_more}
use Rattle.pv_access.specs.Unread.{is_without_note, singleton_if}
use Rattle.pv_access.proofs.FileNotes.{filter-first}
use Rattle.pv_access.proofs.unread.unread_among.Goals as goal

pub loop-file-preserved : goal.loop-file-preserved
loop-file-preserved c =
    let test = is_without_note c.args.tree.now.tree c.args.searched.now.texts in
    let ns = c.args.named.now in
    let i = c.loop-file.file-index in
    let n = get_or ns i 0 in
    let files = c.loop-file.files.items in
    let rest = drop (i + 1) ns in
    ap (λ (fs : List ℕ). fs ++ filter test rest) c.in_ok-push_unread.ensures
    ∙ append_assoc files (singleton_if (test n) n) (filter test rest)
    ∙ ap (λ (fs : List ℕ). files ++ fs) (filter-first test n rest)
    ∙ sym (ap (λ (xs : List ℕ). files ++ filter test xs) (drop_more ns i 0 c.loop-file-test.true))
    ∙ c.loop-file.invariant

pub returns : goal.returns
returns c =
    let test = is_without_note c.args.tree.now.tree c.args.searched.now.texts in
    let files = c.loop-file.files.items in
    sym (append-nil files) ∙ sym (ap (λ (xs : List ℕ). files ++ filter test xs) (drop_all c.loop-file.file-index c.args.named.now c.loop-file-test.false)) ∙ c.loop-file.invariant
