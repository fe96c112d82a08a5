-- Adding the entries of a manifest one by one.
use Rattle.std.proofs.Common.{◌≡◌, ◌∙◌, ap, ℕ, suc, ◌+◌, ◌-◌, ◌<◌, List, [], ◌∷◌, length, drop, get_or, Result, Ok, Err, sym, subst, arith}
use Rattle.std.specs.Prelude.{map}
use Rattle.std.proofs.Math.Seq.{drop-cons}
use Rattle.pv_model.specs.declared.fault.ManifestFault.{ManifestFault}
use Rattle.pv_model.specs.declared.fault.ManifestFault.TheVariants.{Form, Size, Parent, Exists, Source, Room, Memory}
use Rattle.pv_model.specs.declared.version.Version.TheVariants.{V1}
use Rattle.pv_model.specs.Machine.{data_blocks, add_entry, add_entries, tree_of, Manifest as ManifestAndLines, inode_blocks, empty_tree}
use Rattle.pv_model.specs.Grammar.Manifests.{and_entries}
use Rattle.pv_tree.specs.Changes.{root_alone}
use Rattle.pv_tree.specs.Holding.{HeldTree, IsUnheld}
use Rattle.pv_image_manifest.specs.declared.entry.Entry.{Entry}
use Rattle.pv_image_manifest.specs.declared.manifest.Manifest.{Manifest}
use Rattle.pv_image_manifest.specs.Building.{MakesTreeOrError}
use Rattle.pv_image_manifest.specs.Entries.{entry_of_line}
use Rattle.pv_image_manifest.specs.Reading.{RefusesManifest, manifest_before}

pub next_entry : (es : List Entry) (i : ℕ) (e : Entry) → i < length es → e ≡ get_or es i e → drop i es ≡ e ∷ drop (i + 1) es
next_entry es i e within is =
    let more : suc i ≡ i + 1 = omega arith in
    drop-cons es i e within ∙ ap (λ k. get_or es i e ∷ drop k es) more ∙ ap (λ first. first ∷ drop (i + 1) es) (sym is)

-- the invariant of a loop over the entries
pub record IsBuiltSoFar (left : List Entry) (h : HeldTree) (m : ManifestAndLines) : Type 0 where
  pub is : add_entries (map entry_of_line left) h.tree ≡ tree_of m
  pub version : h.tree.version ≡ V1
  pub unheld : IsUnheld h.holds

pub IsBuiltSoFar-start : (m : Manifest) (h : HeldTree) → h.tree ≡ root_alone V1 (m.blocks - (inode_blocks V1 m.inodes + 1)) m.inodes → IsUnheld h.holds
    → IsBuiltSoFar m.entries.items h (manifest_before m [])
IsBuiltSoFar-start m h is unheld =
    let sized : m.blocks - (inode_blocks V1 m.inodes + 1) ≡ data_blocks m.blocks m.inodes = omega arith in
    record {
      is = ap (add_entries (map entry_of_line m.entries.items)) (is ∙ ap (λ n. empty_tree n m.inodes) sized);
      version = ap (λ t. t.version) is;
      unheld = unheld;
    }

module _ (left : List Entry) (h : HeldTree) (m : ManifestAndLines) (preserved : IsBuiltSoFar left h m) (e : Entry) (rest : List Entry) (first : left ≡ e ∷ rest) where
  along : and_entries (add_entry e.line h.tree (entry_of_line e).1) (add_entries (map entry_of_line rest)) ≡ tree_of m
  along = ap (λ es. add_entries (map entry_of_line es) h.tree) (sym first) ∙ preserved.is

  pub IsBuiltSoFar-step : {X : Type 0} (done : X) (after : HeldTree) → MakesTreeOrError {X = X} (Ok done) (add_entry e.line h.tree (entry_of_line e).1) h after → IsBuiltSoFar rest after m
  IsBuiltSoFar-step done after made =
      record {
        is = ap (λ r. and_entries r (add_entries (map entry_of_line rest))) (sym made.0) ∙ along;
        version = made.1 ∙ preserved.version;
        unheld = subst IsUnheld (sym made.2) preserved.unheld;
      }

  pub IsBuiltSoFar-refused : (fault : ManifestFault) → add_entry e.line h.tree (entry_of_line e).1 ≡ Err fault → tree_of m ≡ Err fault
  IsBuiltSoFar-refused fault refused = sym along ∙ ap (λ r. and_entries r (add_entries (map entry_of_line rest))) refused

pub IsBuiltSoFar-end : (left : List Entry) (h : HeldTree) (m : ManifestAndLines) → IsBuiltSoFar left h m → left ≡ [] → tree_of m ≡ Ok h.tree
IsBuiltSoFar-end left h m preserved none = sym preserved.is ∙ ap (λ es. add_entries (map entry_of_line es) h.tree) none

-- an error of an entry is one of the manifest
pub refuses : {X : Type 0} (fault : ManifestFault) (made : Result X ManifestFault) → made ≡ Err fault → RefusesManifest fault made
refuses (Form n) made is = is
refuses Size made is = is
refuses (Parent n) made is = is
refuses (Exists n) made is = is
refuses (Source n) made is = is
refuses (Room n) made is = is
refuses Memory made is = tt
