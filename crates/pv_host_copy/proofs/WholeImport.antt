-- A complete import.
use Rattle.std.proofs.Common.{◌≡◌, ◌∙◌, ℕ, ◌+◌, ◌-◌, ap, sym, subst, inl, inr, Bool, List, [], Option, None, Some, Ok, Err}
use Rattle.std.specs.Prelude.{map, flat_map, IfSome}
use Rattle.pv_model.specs.declared.limits.TheConstants.{INODES}
use Rattle.pv_model.specs.declared.version.Version.{Version}
use Rattle.pv_model.specs.Machine.{Bytes, Entry, named_tree, inode_blocks, greatest_blocks, Tree}
use Rattle.pv_image.proofs.NamedTrees.{named_tree-all}
use Rattle.pv_image_write.specs.Written.{BeginsImage, WritesImage}
use Rattle.pv_laws_trees.specs.Preserved.{EachIsNamed}
use Rattle.pv_tree.specs.Changes.{root_alone}
use Rattle.pv_streams.specs.Sinks.{and_all, WritesPrefix}
use Rattle.pv_host_copy.specs.declared.fault.CopyStop.{CopyStop}
use Rattle.pv_host_copy.specs.declared.fault.CopyStop.TheVariants as stop
use Rattle.pv_host_copy.specs.declared.fault.SkipReason.{SkipReason}
use Rattle.pv_host_copy.specs.declared.image.ImportStop.{ImportStop}
use Rattle.pv_host_copy.specs.declared.image.ImportStop.TheVariants as image
use Rattle.pv_host_copy.specs.declared.importing.Importing.{Importing}
use Rattle.pv_host_copy.specs.Firsts.{identity_and_path, skipped_pair}
use Rattle.pv_host_copy.specs.Gathered.{gather, left_out, nothing_gathered}
use Rattle.pv_host_copy.specs.Given.{IsMergedTree, merged_entries}
use Rattle.pv_host_copy.specs.Hosts.{HostEntries}
use Rattle.pv_host_copy.specs.Imported.{greatest_tree, IsTreeOf}
use Rattle.pv_host_copy.specs.Importing.{HoldsGathered, Steps, StopsIf}
use Rattle.pv_host_copy.specs.Lines.{skipped_line}
use Rattle.pv_host_copy.specs.Stopped.{IsEntryRefused, StopsCopy, StopsMerge, refused_pair}
use Rattle.pv_host_copy.specs.Written.{Imports, ReportsPairs, ReportsStop}

-- the state at the end
whole : (v w : Version) (host : HostEntries) (path : Bytes) (before after : Importing) → w ≡ v → path ≡ [] → HoldsGathered (greatest_tree v) nothing_gathered before
    → Steps (gather w path host) before after → HoldsGathered (greatest_tree v) (gather v [] host nothing_gathered) after
whole v w host path before after same none holds steps =
    subst (λ u. HoldsGathered (greatest_tree v) (gather u [] host nothing_gathered) after) same
    (subst (λ p. HoldsGathered (greatest_tree v) (gather w p host nothing_gathered) after) none (steps (greatest_tree v) nothing_gathered holds))

module _ (v w : Version) (path : Bytes) (before after : Importing) (same : w ≡ v) (none : path ≡ []) (holds : HoldsGathered (greatest_tree v) nothing_gathered before) where
  pub imported-tree : (host : Option HostEntries) (t : Tree) → IfSome host (λ entries. Steps (gather w path entries) before after) → t ≡ after.tree.value.tree
      → IfSome host (λ entries. IsTreeOf v entries t)
  imported-tree None t steps is = tt
  imported-tree (Some host) t steps is = (whole v w host path before after same none holds steps).tree ∙ ap Ok (sym is)

  pub imported-reported : (host : Option HostEntries) → IfSome host (λ entries. Steps (gather w path entries) before after)
      → IfSome host (λ entries. map skipped_pair after.reported.items ≡ left_out v entries)
  imported-reported None steps = tt
  imported-reported (Some host) steps = (whole v w host path before after same none holds steps).reported

  pub import-stopped : (known : Option HostEntries) (s : CopyStop) → StopsIf known (gather w path) before s → StopsCopy v known s
  import-stopped known stop.Read goes = goes
  import-stopped known stop.Memory goes = tt
  import-stopped None (stop.Entry refused) goes = tt
  import-stopped (Some host) (stop.Entry refused) goes =
      subst (λ u. IsEntryRefused (gather u [] host nothing_gathered).entries (greatest_tree v) (refused_pair refused)) same
      (subst (λ p. IsEntryRefused (gather w p host nothing_gathered).entries (greatest_tree v) (refused_pair refused)) none (goes (greatest_tree v) nothing_gathered holds))

-- ---- the image

-- the image of a tree whose nodes are all named is that of the tree
pub reports-tree : (t : Tree) (before after : Option Bytes) → EachIsNamed t → WritesImage (named_tree t) before after → WritesImage t before after
reports-tree t before after named image = subst (λ (u : Tree). WritesImage u before after) (named_tree-all t named) image

pub begins-tree : (t : Tree) (before after : Option Bytes) → EachIsNamed t → BeginsImage (named_tree t) before after → BeginsImage t before after
begins-tree t before after named image = subst (λ (u : Tree). BeginsImage u before after) (named_tree-all t named) image

module _ (v : Version) (given : List (ℕ × Entry)) (skips : Bool) (before after unreported reported : Option Bytes) where
  -- why a directory was not copied
  pub imports-stop : (known : Option HostEntries) (s : CopyStop) (r : ImportStop) → StopsMerge v given known s → ReportsStop s unreported r reported → after ≡ before
      → Imports v given skips known (Err r) before after unreported reported
  imports-stop known stop.Read r stops reports preserved = rw reports.0 (preserved, (stops, reports.1))
  imports-stop known stop.Memory r stops reports preserved = rw reports.0 (preserved, inl reports.1)
  imports-stop known (stop.Entry refused) image.Read stops reports preserved = absurd reports
  imports-stop known (stop.Entry refused) image.Memory stops reports preserved = (preserved, inl reports)
  imports-stop None (stop.Entry refused) image.Refused stops reports preserved = (preserved, tt)
  imports-stop (Some host) (stop.Entry refused) image.Refused stops reports preserved = (preserved, inr (record { refused = refused_pair refused; is_refused = stops; lines = reports }))
  imports-stop None (stop.Entry refused) image.WriteLines stops reports preserved = (preserved, tt)
  imports-stop (Some host) (stop.Entry refused) image.WriteLines stops reports preserved = (preserved, inr (record { refused = refused_pair refused; is_refused = stops; lines = reports }))
  imports-stop known (stop.Entry refused) image.WriteImage stops reports preserved = absurd reports

  module _ (pairs : List (Bytes × SkipReason)) where
    abbrev AreLeftOut : Option HostEntries → Type 0
    AreLeftOut known = IfSome known (λ host. pairs ≡ left_out v (merged_entries given [] host))

    -- why the skipped entries were not reported, or may not be skipped
    pub imports-unreported : (known : Option HostEntries) (r : ImportStop) → AreLeftOut known → ReportsPairs pairs skips unreported (Err r) reported → after ≡ before
        → Imports v given skips known (Err r) before after unreported reported
    imports-unreported known image.Read are reports preserved = absurd reports
    imports-unreported known image.Memory are reports preserved = (preserved, inl reports)
    imports-unreported None image.Refused are reports preserved = (preserved, tt)
    imports-unreported (Some host) image.Refused are reports preserved =
        (preserved, inl (record { stays = reports.1; some = λ none. reports.2 (are ∙ none); lines = reports.0 ∙ ap (λ ps. and_all unreported (flat_map skipped_line ps)) are }))
    imports-unreported None image.WriteLines are reports preserved = (preserved, tt)
    imports-unreported (Some host) image.WriteLines are reports preserved = (preserved, inl (subst (λ ps. WritesPrefix (flat_map skipped_line ps) unreported reported) are reports))
    imports-unreported known image.WriteImage are reports preserved = absurd reports

    pub imports-memory : (known : Option HostEntries) (done : Unit {0}) → AreLeftOut known → ReportsPairs pairs skips unreported (Ok done) reported → after ≡ before
        → Imports v given skips known (Err image.Memory) before after unreported reported
    imports-memory None done are reports preserved = (preserved, inr tt)
    imports-memory (Some host) done are reports preserved = (preserved, inr (reports.0 ∙ ap (λ ps. and_all unreported (flat_map skipped_line ps)) are))

    pub imports-begun : (known : Option HostEntries) (done : Unit {0}) (t : Tree) → AreLeftOut known → ReportsPairs pairs skips unreported (Ok done) reported
        → IfSome known (λ host. IsMergedTree v given host t) → BeginsImage t before after → Imports v given skips known (Err image.WriteImage) before after unreported reported
    imports-begun None done t are reports is begun = (tt, tt)
    imports-begun (Some host) done t are reports is begun =
        (record { tree = t; is = is; image = begun }, reports.0 ∙ ap (λ ps. and_all unreported (flat_map skipped_line ps)) are)

    pub imports-done : (known : Option HostEntries) (done last : Unit {0}) (t : Tree) → AreLeftOut known → ReportsPairs pairs skips unreported (Ok done) reported
        → IfSome known (λ host. IsMergedTree v given host t) → WritesImage t before after → Imports v given skips known (Ok last) before after unreported reported
    imports-done None done last t are reports is image = tt
    imports-done (Some host) done last t are reports is image = (
      record { tree = t; is = is; image = image },
      reports.0 ∙ ap (λ ps. and_all unreported (flat_map skipped_line ps)) are,
      λ stays. sym are ∙ reports.1 stays,
    )

-- ---- the start

pub start-holds : (v : Version) (blocks : ℕ) (i : Importing) → i.tree.value.tree ≡ root_alone v (blocks - (inode_blocks v INODES + 1)) INODES → blocks ≡ greatest_blocks v
    → i.firsts.items ≡ [] → i.reported.items ≡ [] → HoldsGathered (greatest_tree v) nothing_gathered i
start-holds v blocks i is greatest firsts reported = record {
  tree = ap Ok (sym (is ∙ ap (λ b. root_alone v (b - (inode_blocks v INODES + 1)) INODES) greatest));
  firsts = ap (map identity_and_path) firsts;
  reported = ap (map skipped_pair) reported;
}
