-- Adding an entry in its directory.
use Rattle.std.proofs.Common.{◌≡◌, ◌∙◌, ap, ℕ, true, false, None, Some, is_some, Result, Ok, Err, refl}
use Rattle.pv_model.specs.declared.fault.ManifestFault.{ManifestFault}
use Rattle.pv_model.specs.declared.fault.ManifestFault.TheVariants.{Parent, Exists}
use Rattle.pv_model.specs.Machine.{Bytes, path_of, add_entry, Entry, Tree, root, find_entry, components}
use Rattle.pv_model.specs.Grammar.Manifests.{container, entry_in, entry_at}
use Rattle.pv_image_manifest.specs.declared.entry.Content.{Content}
use Rattle.pv_image_manifest.specs.declared.entry.Content.TheVariants.{Directory, File, Link, Name}
use Rattle.pv_image_manifest.specs.declared.fault.EntryFault.{EntryFault}
use Rattle.pv_image_manifest.specs.Adding.{Gives}
use Rattle.pv_image_manifest.specs.Contents.{entry_of_content}

pub path-is : (path : Bytes) (content : Content) → path_of (entry_of_content path content) ≡ path
path-is path Directory = refl
path-is path (File executable bytes) = refl
path-is path (Link text) = refl
path-is path (Name source) = refl

module _ (t : Tree) (path : Bytes) (content : Content) (line : ℕ) where
  abbrev entry : Entry
  entry = entry_of_content path content

  pub add-parent : container t (components path) root ≡ None → add_entry line t entry ≡ Err (Parent line)
  unfolding add_entry
  add-parent none = ap (entry_at line t entry) (ap (λ p. container t (components p) root) (path-is path content) ∙ none)

  module _ (d : ℕ) (name : Bytes) (contained : container t (components path) root ≡ Some (d, name)) where
    added : add_entry line t entry ≡ entry_at line t entry (Some (d, name))
    unfolding add_entry
    added = ap (entry_at line t entry) (ap (λ p. container t (components p) root) (path-is path content) ∙ contained)

    pub add-exists : is_some (find_entry t d name) ≡ true → add_entry line t entry ≡ Err (Exists line)
    add-exists there = added ∙ rw there refl

    pub add-in : is_some (find_entry t d name) ≡ false → add_entry line t entry ≡ entry_in line t entry d name
    add-in absent = added ∙ rw absent refl

-- the same step has the same result for equal functions of the line
pub gives-along : {X : Type 0} (result : Result X EntryFault) (made other : ℕ → Result Tree ManifestFault) (after : Tree)
    → ((line : ℕ) → other line ≡ made line) → Gives result made after → Gives result other after
gives-along (Ok done) made other after same h = λ line. same line ∙ h line
gives-along (Err fault) made other after same h = λ line. same line ∙ h line
