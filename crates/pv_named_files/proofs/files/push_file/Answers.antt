use Rattle.std.proofs.Common.{◌≡◌, ◌∙◌, ℕ, Bool, true, false, not, ◌&&◌, if◌then◌else◌, ◌==◌, bytes_eq, List, [], ◌∷◌, ◌++◌, ap, ap₂, sym}
use Rattle.std.specs.List.{list_any}
use Rattle.pv_model.specs.Machine.{is_file_at, Bytes}
use Rattle.pv_named_files.proofs.FileNotes.{notes-any}
use Rattle.pv_named_files.proofs.files.push_file.Goals as goal

-- the files after a node, by whether it is a file and whether it is known
abbrev after-node : List ℕ → ℕ → Bool → Bool → List ℕ
after-node files n file known = if file && not known then files ++ n ∷ [] else files

pub returns-then-not-is_file-clause-files : goal.returns-then-not-is_file-clause-files
returns-then-not-is_file-clause-files c =
    let n = c.args.node in
    let files = c.args.files.now.items in
    let other : is_file_at c.args.tree.now.tree n ≡ false = sym c.is_file.ensures ∙ c.if-not-is_file.true in
    sym (ap (λ b. after-node files n b (list_any (λ m. m == n) files)) other)

pub returns-then-contains-clause-files : goal.returns-then-contains-clause-files
returns-then-contains-clause-files c =
    let n = c.args.node in
    let files = c.args.files.now.items in
    let file : is_file_at c.args.tree.now.tree n ≡ true = sym c.is_file.ensures ∙ c.if-not-is_file.false in
    let known : list_any (λ m. m == n) files ≡ true =
    sym (notes-any n files) ∙ sym (ap₂ (λ (bs : Bytes) (notes : List Bytes). list_any (bytes_eq bs) notes) (c.deref.ensures.value ∙ c.in_ok-note.ensures) c.requires) ∙ sym c.contains.ensures
    ∙ c.if-contains.true in
    sym (ap₂ (after-node files n) file known)

pub returns-clause-files : goal.returns-clause-files
returns-clause-files c =
    let n = c.args.node in
    let files = c.args.files.now.items in
    let file : is_file_at c.args.tree.now.tree n ≡ true = sym c.is_file.ensures ∙ c.if-not-is_file.false in
    let new : list_any (λ m. m == n) files ≡ false =
    sym (notes-any n files) ∙ sym (ap₂ (λ (bs : Bytes) (notes : List Bytes). list_any (bytes_eq bs) notes) (c.deref.ensures.value ∙ c.in_ok-note.ensures) c.requires) ∙ sym c.contains.ensures
    ∙ c.if-contains.false in
    c.in_ok-push.ensures.items ∙ sym (ap₂ (after-node files n) file new)
