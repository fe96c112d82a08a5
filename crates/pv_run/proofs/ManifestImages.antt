-- The tree that a manifest makes, check by check, and the image of the tree.
use Rattle.std.proofs.Common.{◌≡◌, ◌∙◌, ap, subst, refl, Option, Result, Ok, Err, IfErr, OnOk}
use Rattle.pv_model.specs.declared.fault.ManifestFault.{ManifestFault}
use Rattle.pv_model.specs.declared.fault.ManifestFault.TheVariants.{Form, Size, Parent, Exists, Source, Room, Memory as ManifestMemory}
use Rattle.pv_model.specs.declared.run_fault.RunFault.{RunFault}
use Rattle.pv_model.specs.declared.run_fault.RunFault.TheVariants.{Read, Image, Manifest as RunManifest, Schedule, Init, Memory, WriteTrace, WriteImage}
use Rattle.pv_model.specs.Machine.{Bytes, Manifest, read_manifest, tree_of, named_tree, Tree}
use Rattle.pv_model.specs.RunFault.{of_manifest}
use Rattle.pv_image_manifest.specs.Reading.{RefusesManifest}
use Rattle.pv_image_write.specs.Written.{WritesImage, WritesImageOf, BeginsImage as BeginsWrittenImage}
use Rattle.pv_laws_trees.specs.Preserved.{EachIsNamed}
use Rattle.pv_image.proofs.NamedTrees.{named_tree-all}
use Rattle.pv_run.specs.Images.{BeginsNamedImage, IsWriteError, WrittenImage}
use Rattle.pv_run.specs.Making.{AppearsInManifest, tree_made}

-- ---- the checks of a manifest: its form and sizes, and then its entries

module _ (bytes : Bytes) (written : Option Bytes) where
  -- a check that fails
  refuses : {X : Type 0} (checked : Result X ManifestFault) → ((f : ManifestFault) → checked ≡ Err f → tree_made bytes ≡ Err f) → (f : ManifestFault) (e : RunFault)
      → e ≡ of_manifest f → RefusesManifest f checked → AppearsInManifest (tree_made bytes) written written e
  refuses checked none (Form n) e is refused = rw is (none (Form n) refused, refl)
  refuses checked none Size e is refused = rw is (none Size refused, refl)
  refuses checked none (Parent n) e is refused = rw is (none (Parent n) refused, refl)
  refuses checked none (Exists n) e is refused = rw is (none (Exists n) refused, refl)
  refuses checked none (Source n) e is refused = rw is (none (Source n) refused, refl)
  refuses checked none (Room n) e is refused = rw is (none (Room n) refused, refl)
  refuses checked none ManifestMemory e is refused = rw is refl

  made-no_manifest : (f : ManifestFault) → read_manifest bytes ≡ Err f → tree_made bytes ≡ Err f
  unfolding tree_made
  made-no_manifest f invalid = rw invalid refl

  -- a manifest that is refused
  pub refuses_manifest : (f : ManifestFault) (e : RunFault) → e ≡ of_manifest f → RefusesManifest f (read_manifest bytes) → AppearsInManifest (tree_made bytes) written written e
  refuses_manifest = refuses (read_manifest bytes) made-no_manifest

  module _ (m : Manifest) (asked : read_manifest bytes ≡ Ok m) where
    pub made-tree : (t : Tree) → tree_of m ≡ Ok t → tree_made bytes ≡ Ok t
    unfolding tree_made
    made-tree t made = rw (asked, made) refl

    made-no_tree : (f : ManifestFault) → tree_of m ≡ Err f → tree_made bytes ≡ Err f
    unfolding tree_made
    made-no_tree f invalid = rw (asked, invalid) refl

    -- an entry that is refused
    pub refuses_tree : (f : ManifestFault) (e : RunFault) → e ≡ of_manifest f → RefusesManifest f (tree_of m) → AppearsInManifest (tree_made bytes) written written e
    refuses_tree = refuses (tree_of m) made-no_tree

-- ---- the image of the tree

module _ (made : Result Tree ManifestFault) (t u : Tree) (is : made ≡ Ok t) (named : EachIsNamed t) (same : u ≡ t) (before after : Option Bytes) where
  is_whole : named_tree u ≡ t
  is_whole = ap (λ (x : Tree). named_tree x) same ∙ named_tree-all t named

  -- the image that was made
  pub made_whole : (result : Result (Unit {0}) RunFault) → OnOk result (WrittenImage u before after) → OnOk result (WritesImageOf (λ x. made ≡ Ok x) before after)
  made_whole (Ok done) as_written = record { tree = t; is = is; image = subst (λ (x : Tree). WritesImage x before after) is_whole as_written }
  made_whole (Err f) as_written = tt

  -- an image that was not written completely
  pub unmade : (result : Result (Unit {0}) RunFault) → IfErr result IsWriteError → (result ≡ Err WriteImage → BeginsNamedImage u before after) → (result ≡ Err Memory → after ≡ before)
      → IfErr result (AppearsInManifest made before after)
  unmade (Ok done) kind cut memory = tt
  unmade (Err WriteImage) kind cut memory = record { tree = t; is = is; image = subst (λ (x : Tree). BeginsWrittenImage x before after) is_whole (cut refl) }
  unmade (Err Memory) kind cut memory = memory refl
  unmade (Err Read) kind cut memory = elim kind [ ]
  unmade (Err (Image f)) kind cut memory = elim kind [ ]
  unmade (Err (RunManifest f)) kind cut memory = elim kind [ ]
  unmade (Err (Schedule n)) kind cut memory = elim kind [ ]
  unmade (Err (Init n)) kind cut memory = elim kind [ ]
  unmade (Err WriteTrace) kind cut memory = elim kind [ ]
