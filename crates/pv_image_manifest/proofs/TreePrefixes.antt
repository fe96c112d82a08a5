-- A tree that grows entry by entry.
use Rattle.std.proofs.Common.{◌≡◌, ◌∙◌, ap, ℕ, List, [], ◌∷◌, ◌++◌, Result, Ok, Err, sym, subst}
use Rattle.std.specs.Prelude.{map}
use Rattle.std.proofs.lemmas.List.{map_push}
use Rattle.pv_model.specs.declared.fault.ManifestFault.{ManifestFault}
use Rattle.pv_model.specs.Machine.{data_blocks, add_entry, add_entries, empty_tree, Entry as ManifestEntry, Tree}
use Rattle.pv_model.specs.Grammar.Manifests.{and_entries}
use Rattle.pv_tree.specs.Holding.{HeldTree, IsUnheld}
use Rattle.pv_image_manifest.specs.declared.entry.Entry.{Entry}
use Rattle.pv_image_manifest.specs.declared.manifest.Manifest.{Manifest}
use Rattle.pv_image_manifest.specs.Building.{MakesTreeOrError}
use Rattle.pv_image_manifest.specs.Entries.{entry_of_line}
use Rattle.pv_image_manifest.specs.Growing.{IsGrown}

pub add_last : (es : List (ℕ × ManifestEntry)) (e : ℕ × ManifestEntry) (t u v : Tree) → add_entries es t ≡ Ok u → add_entry e.0 u e.1 ≡ Ok v → add_entries (es ++ e ∷ []) t ≡ Ok v
add_last [] e t u v is last =
    let same : t ≡ u = cc in
    ap (λ w. and_entries (add_entry e.0 w e.1) (add_entries [])) same ∙ ap (λ r. and_entries r (add_entries [])) last
add_last (x ∷ es) e t u v is last = by (add_entry x.0 t x.1) is (λ next. add_last es e next u v)
  where
    by : (added : Result Tree ManifestFault) → and_entries added (add_entries es) ≡ Ok u
        → ((next : Tree) → add_entries es next ≡ Ok u → add_entry e.0 u e.1 ≡ Ok v → add_entries (es ++ e ∷ []) next ≡ Ok v) → and_entries added (add_entries (es ++ e ∷ [])) ≡ Ok v
    by (Err fault) is h = cc
    by (Ok next) is h = h next is last

-- the tree of a manifest with one more entry
pub IsGrown-more : {X : Type 0} (m more : Manifest) (h after : HeldTree) (e : Entry) (done : X) → IsGrown m h → MakesTreeOrError {X = X} (Ok done) (add_entry e.line h.tree (entry_of_line e).1) h after
    → more.blocks ≡ m.blocks → more.inodes ≡ m.inodes → more.entries.items ≡ m.entries.items ++ e ∷ [] → IsGrown more after
IsGrown-more m more h after e done grown made blocks inodes items = record {
  is =
      ap (λ es. add_entries (map entry_of_line es) (empty_tree (data_blocks more.blocks more.inodes) more.inodes)) items
      ∙ ap (λ b. add_entries (map entry_of_line (m.entries.items ++ e ∷ [])) (empty_tree (data_blocks b more.inodes) more.inodes)) blocks
      ∙ ap (λ i. add_entries (map entry_of_line (m.entries.items ++ e ∷ [])) (empty_tree (data_blocks m.blocks i) i)) inodes
      ∙ ap (λ es. add_entries es (empty_tree (data_blocks m.blocks m.inodes) m.inodes)) (map_push entry_of_line m.entries.items e)
      ∙ add_last (map entry_of_line m.entries.items) (entry_of_line e) (empty_tree (data_blocks m.blocks m.inodes) m.inodes) h.tree after.tree grown.is made.0;
  version = made.1 ∙ grown.version;
  unheld = subst IsUnheld (sym made.2) grown.unheld;
}
