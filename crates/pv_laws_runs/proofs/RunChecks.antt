-- The checks of a run, one by one, agree with the relations of the formats.
use Rattle.std.proofs.Common.{◌≡◌, ◌∙◌, List, true, Some, Result, Ok, Err, refl, ap, sym, subst}
use Rattle.std.specs.Result.{result_ok}
use Rattle.pv_model.specs.declared.kernel_fault.BootFault.{BootFault}
use Rattle.pv_model.specs.declared.run_fault.RunFault.{RunFault}
use Rattle.pv_model.specs.Machine.{Bytes, EncodesManifest, lines_of, Manifest, data_blocks, read_bundle, tree_of, program_of, read_schedule, schedule_of_lines, IsImageOf, empty_tree, mounted, and_then, booted, bundle_started, image_started, Started, started_on, Program, State, first_state, Schedule, boot, Tree}
use Rattle.pv_model.specs.Grammar.Applied.{AppliesAll}
use Rattle.pv_model.specs.RunFault.{of_boot, of_image, of_manifest, of_schedule}
use Rattle.pv_model.specs.Start.{init_of, program_in}
use Rattle.pv_laws_grammar.proofs.AppliedEntries.{AppliesAll-tree_of, tree_of-AppliesAll}
use Rattle.pv_laws_grammar.proofs.ManifestParsing.{EncodesManifest-whole, whole-EncodesManifest}
use Rattle.pv_laws_grammar.proofs.ScheduleParsing.{EncodesSchedule-read, read-EncodesSchedule, schedule_again, schedule_found}
use Rattle.pv_laws_trees.proofs.MachineStarts.{starts}
use Rattle.pv_laws_trees.proofs.MountedImages.{image-mounted}
use Rattle.pv_laws_trees.proofs.TreeImages.{mounted-image}
use Rattle.pv_laws_runs.specs.Asked.{AsksOfBundle, AsksOfImage}
use Rattle.pv_laws_runs.proofs.RunPremises.{not_refused, state_or}

-- ---- the first state of the machine

-- a booted machine has the tree on which it was booted
tree-by : (t : Tree) (s : State) (r : Result Program BootFault) → and_then (λ (f : BootFault). f) r (λ (program : Program). Ok (first_state t program)) ≡ Ok s → s.tree ≡ t
tree-by t s (Ok program) is = cc is
tree-by t s (Err fault) is = cc is

booted-tree : (t : Tree) (s : State) → booted t ≡ Ok s → s.tree ≡ t
unfolding booted
booted-tree t s is = tree-by t s (program_in (init_of t)) is

-- a machine that is booted starts with the program that bytes parse as
pub boots : (t : Tree) (s : State) → booted t ≡ Ok s → boot program_of s.tree ≡ Some s
boots t s is = ap (λ tree. boot program_of tree) (booted-tree t s is) ∙ (sym (starts t) ∙ ap result_ok is)

ok-of : (s : State) (r : Result State BootFault) → result_ok r ≡ Some s → r ≡ Ok s
ok-of s (Ok t) is = let same : t ≡ s = cc is in ap Ok same
ok-of s (Err fault) is = cc is

-- conversely, a machine that starts in this way is booted
boots-booted : (t : Tree) (s : State) → boot program_of t ≡ Some s → booted t ≡ Ok s
boots-booted t s is = ok-of s (booted t) (starts t ∙ is)

-- ---- on a tree: the schedule, then the first program

abbrev schedule_or : Schedule → Result Started RunFault → Schedule
schedule_or s (Ok started) = started.schedule
schedule_or s (Err fault) = s

module _ (t : Tree) (lines : List Bytes) (it : Started) where
  pub started-by : started_on t lines ≡ Ok it → (schedule_of_lines lines ≡ Ok it.schedule) × (booted t ≡ Ok it.state)
  unfolding started_on
  started-by is =
      let given = not_refused of_schedule (λ (schedule : Schedule). and_then of_boot (booted t) (λ (state : State). Ok (record { state = state; schedule = schedule }))) it (schedule_of_lines lines) is in
      let at = not_refused of_boot (λ (state : State). Ok (record { state = state; schedule = given.0 })) it (booted t) given.2 in (
        subst (λ (s : Schedule). schedule_of_lines lines ≡ Ok s) (ap (schedule_or given.0) at.2) given.1,
        subst (λ (s : State). booted t ≡ Ok s) (ap (state_or at.0) at.2) at.1,
      )

  pub started-valid : schedule_of_lines lines ≡ Ok it.schedule → booted t ≡ Ok it.state → started_on t lines ≡ Ok it
  unfolding started_on
  started-valid turns first = rw (turns, first) refl

-- ---- on an image

module _ (image turns : Bytes) (it : Started) where
  pub image-asks : image_started image turns ≡ Ok it → AsksOfImage image turns it
  unfolding image_started read_schedule
  image-asks is =
      let at = not_refused of_image (λ (t : Tree). started_on t (lines_of turns)) it (mounted image) is in
      let by = started-by at.0 (lines_of turns) it at.2 in
      record {
        is_image = subst (IsImageOf image) (sym (booted-tree at.0 it.state by.1)) (mounted-image image at.0 at.1);
        boots = boots at.0 it.state by.1;
        encoded = EncodesSchedule-read turns it.schedule by.0;
      }

  pub asks-image : AsksOfImage image turns it → image_started image turns ≡ Ok it
  unfolding image_started read_schedule
  asks-image asks =
      let held = image-mounted image it.state.tree asks.is_image in
      rw held (started-valid it.state.tree (lines_of turns) it (read-EncodesSchedule turns it.schedule asks.encoded) (boots-booted it.state.tree it.state asks.boots))

-- ---- of a bundle

module _ (bytes : Bytes) where
  bundle-encoded : (m : Manifest) → read_bundle bytes ≡ Ok m → EncodesManifest true bytes m
  unfolding read_bundle
  bundle-encoded m is = EncodesManifest-whole true bytes m is

  encoded-bundle : (m : Manifest) → EncodesManifest true bytes m → read_bundle bytes ≡ Ok m
  unfolding read_bundle
  encoded-bundle m encoded = whole-EncodesManifest true bytes m encoded

  module _ (it : Started) where
    pub bundle-asks : bundle_started bytes ≡ Ok it → AsksOfBundle bytes it
    unfolding bundle_started
    bundle-asks is =
        let read = not_refused of_manifest (λ (m : Manifest). and_then of_manifest (tree_of m) (λ (t : Tree). started_on t m.listed.following)) it (read_bundle bytes) is in
        let m = read.0 in
        let made = not_refused of_manifest (λ (t : Tree). started_on t m.listed.following) it (tree_of m) read.2 in
        let by = started-by made.0 m.listed.following it made.2 in
        record {
          manifest = m;
          is_manifest = bundle-encoded m read.1;
          applied = subst (AppliesAll (empty_tree (data_blocks m.blocks m.inodes) m.inodes) m.listed.entries) (sym (booted-tree made.0 it.state by.1)) (AppliesAll-tree_of m made.0 made.1);
          boots = boots made.0 it.state by.1;
          encoded = schedule_found m.listed.following it.schedule by.0;
        }

    pub asks-bundle : AsksOfBundle bytes it → bundle_started bytes ≡ Ok it
    unfolding bundle_started
    asks-bundle asks =
        let m = asks.manifest in
        let read = encoded-bundle m asks.is_manifest in
        let made = tree_of-AppliesAll m it.state.tree asks.applied in
        rw (read, made) (started-valid it.state.tree m.listed.following it (schedule_again m.listed.following it.schedule asks.encoded) (boots-booted it.state.tree it.state asks.boots))
