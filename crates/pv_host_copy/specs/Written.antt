-- The output of an import, of a host directory and the entries of a source.
use Rattle.std.specs.Prelude.{◌≡◌, ◌≢◌, ◌⊎◌, ℕ, Bool, false, List, [], flat_map, Option, None, IfSome, Result, Ok, Err}
use Rattle.pv_model.specs.declared.version.Version.{Version}
use Rattle.pv_model.specs.Machine.{Bytes, Entry}
use Rattle.pv_streams.specs.Sinks.{and_all, WritesPrefix}
use Rattle.pv_image_write.specs.Written.{WritesImageOf, BeginsImageOf}
use Rattle.pv_host_copy.specs.declared.fault.CopyStop.{CopyStop}
use Rattle.pv_host_copy.specs.declared.fault.CopyStop.TheVariants as copy
use Rattle.pv_image_manifest.specs.declared.fault.EntryFault.{EntryFault}
use Rattle.pv_host_copy.specs.declared.fault.SkipReason.{SkipReason}
use Rattle.pv_host_copy.specs.declared.image.ImportStop.{ImportStop}
use Rattle.pv_host_copy.specs.declared.image.ImportStop.TheVariants.{Read, Memory, Refused, WriteLines, WriteImage}
use Rattle.pv_host_copy.specs.Gathered.{left_out}
use Rattle.pv_host_copy.specs.Given.{IsMergedTree, merged_entries}
use Rattle.pv_host_copy.specs.Hosts.{HostEntries}
use Rattle.pv_host_copy.specs.Lines.{refused_line, skipped_line}
use Rattle.pv_host_copy.specs.Stopped.{IsRefusedWithSource, refused_pair}

-- the report grew by a line for each skipped path
abbrev pub WritesSkipped : Version → List (ℕ × Entry) → HostEntries → Option Bytes → Option Bytes → Type 0
WritesSkipped v given host unreported reported = reported ≡ and_all unreported (flat_map skipped_line (left_out v (merged_entries given [] host)))

-- the report grew by a prefix of these lines
abbrev pub BeginsLeftOut : Version → List (ℕ × Entry) → HostEntries → Option Bytes → Option Bytes → Type 0
BeginsLeftOut v given host unreported reported = WritesPrefix (flat_map skipped_line (left_out v (merged_entries given [] host))) unreported reported

-- the report grew by the line of a path that could not be added
pub record ReportsRefused (v : Version) (given : List (ℕ × Entry)) (host : HostEntries) (unreported reported : Option Bytes) : Type 0 where
  pub refused : Bytes × EntryFault
  pub is_refused : IsRefusedWithSource v given host refused
  pub lines : reported ≡ and_all unreported (refused_line refused)

-- the report grew by a prefix of that line
pub record BeginsRefused (v : Version) (given : List (ℕ × Entry)) (host : HostEntries) (unreported reported : Option Bytes) : Type 0 where
  pub refused : Bytes × EntryFault
  pub is_refused : IsRefusedWithSource v given host refused
  pub lines : WritesPrefix (refused_line refused) unreported reported

-- some paths were skipped although skipping is not allowed, and were reported
pub record ReportsUnskipped (v : Version) (given : List (ℕ × Entry)) (skips : Bool) (host : HostEntries) (unreported reported : Option Bytes) : Type 0 where
  pub stays : skips ≡ false
  pub some : left_out v (merged_entries given [] host) ≢ []
  pub lines : WritesSkipped v given host unreported reported

-- nothing of the image was written, unless a write of the image failed
abbrev pub LeavesImage : Version → List (ℕ × Entry) → Option HostEntries → ImportStop → Option Bytes → Option Bytes → Type 0
LeavesImage v given known WriteImage before after = IfSome known (λ host. BeginsImageOf (IsMergedTree v given host) before after)
LeavesImage v given known stop before after = after ≡ before

-- the report if no image was written, or not completely; it is empty if the host cannot be read
abbrev pub LeavesLines : Version → List (ℕ × Entry) → Bool → Option HostEntries → ImportStop → Option Bytes → Option Bytes → Type 0
LeavesLines v given skips known Read unreported reported = (known ≡ None) × (reported ≡ unreported)
LeavesLines v given skips known Memory unreported reported = (reported ≡ unreported) ⊎ IfSome known (λ host. WritesSkipped v given host unreported reported)
LeavesLines v given skips known Refused unreported reported = IfSome known (λ host. ReportsUnskipped v given skips host unreported reported ⊎ ReportsRefused v given host unreported reported)
LeavesLines v given skips known WriteLines unreported reported = IfSome known (λ host. BeginsLeftOut v given host unreported reported ⊎ BeginsRefused v given host unreported reported)
LeavesLines v given skips known WriteImage unreported reported = IfSome known (λ host. WritesSkipped v given host unreported reported)

-- an image of a host directory was written and the skipped paths were reported, which are none if skipping is not
-- allowed; or the import failed
abbrev pub Imports : Version → List (ℕ × Entry) → Bool → Option HostEntries → Result (Unit {0}) ImportStop → (before after unreported reported : Option Bytes) → Type 0
Imports v given skips known (Ok done) before after unreported reported =
    IfSome known (λ host. WritesImageOf (IsMergedTree v given host) before after × WritesSkipped v given host unreported reported × (skips ≡ false → left_out v (merged_entries given [] host) ≡ []))
Imports v given skips known (Err stop) before after unreported reported = LeavesImage v given known stop before after × LeavesLines v given skips known stop unreported reported

-- ---- step by step

-- the skipped paths were reported, and there are no skipped paths if skipping is not allowed; or the report failed
abbrev pub ReportsPairs : List (Bytes × SkipReason) → Bool → Option Bytes → Result (Unit {0}) ImportStop → Option Bytes → Type 0
ReportsPairs pairs skips unreported (Ok done) reported = (reported ≡ and_all unreported (flat_map skipped_line pairs)) × (skips ≡ false → pairs ≡ [])
ReportsPairs pairs skips unreported (Err Memory) reported = reported ≡ unreported
ReportsPairs pairs skips unreported (Err Refused) reported = (reported ≡ and_all unreported (flat_map skipped_line pairs)) × (skips ≡ false) × (pairs ≢ [])
ReportsPairs pairs skips unreported (Err WriteLines) reported = WritesPrefix (flat_map skipped_line pairs) unreported reported
ReportsPairs pairs skips unreported (Err stop) reported = ⊥

-- the reason why a directory was not copied was reported, if it requires a line
abbrev pub ReportsStop : CopyStop → Option Bytes → ImportStop → Option Bytes → Type 0
ReportsStop copy.Read unreported stop reported = (stop ≡ Read) × (reported ≡ unreported)
ReportsStop copy.Memory unreported stop reported = (stop ≡ Memory) × (reported ≡ unreported)
ReportsStop (copy.Entry refused) unreported Memory reported = reported ≡ unreported
ReportsStop (copy.Entry refused) unreported Refused reported = reported ≡ and_all unreported (refused_line (refused_pair refused))
ReportsStop (copy.Entry refused) unreported WriteLines reported = WritesPrefix (refused_line (refused_pair refused)) unreported reported
ReportsStop (copy.Entry refused) unreported stop reported = ⊥
