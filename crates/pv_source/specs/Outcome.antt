-- The output for a source.
use Rattle.std.specs.Prelude.{◌≡◌, ℕ, List, ◌++◌, map, flat_map, codes, Option, Ok, Err}
use Rattle.std.specs.Fmt.{decimal}
use Rattle.std.specs.List.{AllByRecursion}
use Rattle.pv_model.specs.Machine.{Bytes, read_source}
use Rattle.pv_source.specs.declared.faults.Fault.{Fault}
use Rattle.pv_source.specs.declared.source.Output.{Output}
use Rattle.pv_source.specs.declared.source.Output.TheVariants.{Translation, ProgramLines}
use Rattle.pv_source.specs.declared.source.SourceStop.{SourceStop}
use Rattle.pv_source.specs.declared.source.SourceStop.TheVariants.{Memory}
use Rattle.pv_source.specs.Located.{located_lines}
use Rattle.pv_source.specs.Saying.{IsPrintable}
use Rattle.pv_streams.specs.Sinks.{and_all, WritesPrefix}

-- an error: its line, and its message
abbrev pub line_and_message : Fault → ℕ × Bytes
line_and_message fault = (fault.line, fault.what)

abbrev pub message_line : Bytes → ℕ × Bytes → Bytes
message_line name reported = codes "pvsim: " ++ name ++ codes ":" ++ decimal reported.0 ++ codes ": " ++ reported.1 ++ codes "\n"

abbrev pub message_lines : Bytes → List (ℕ × Bytes) → Bytes
message_lines name reported = flat_map (message_line name) reported

-- each message is one line
abbrev pub AreLines : List (ℕ × Bytes) → Type 0
AreLines reported = AllByRecursion (λ t. IsPrintable t.1) reported

-- the output for a source that translates to a text
abbrev pub output_of : Output → Bytes → Bytes → Bytes
output_of Translation source text = text
output_of ProgramLines source text = located_lines source

-- the output for a source without errors was written
abbrev pub WritesSourceOutput : Output → Bytes → Option Bytes → Option Bytes → Type 0
WritesSourceOutput output source before after = (text : Bytes) × (read_source source ≡ Ok text) × (after ≡ and_all before (output_of output source text))

-- the lines with errors were reported in order, each in a line with a message
abbrev pub ReportsErrors : Bytes → Bytes → Option Bytes → Option Bytes → Type 0
ReportsErrors name source before after =
    (reported : List (ℕ × Bytes)) × (read_source source ≡ Err (map (λ t. t.0) reported)) × (after ≡ and_all before (message_lines name reported)) × AreLines reported

-- a prefix of the output, or of the report, was written
abbrev pub BeginsText : Output → Bytes → Option Bytes → Option Bytes → Type 0
BeginsText output source before after = (text : Bytes) × (read_source source ≡ Ok text) × WritesPrefix (output_of output source text) before after

abbrev pub BeginsErrors : Bytes → Bytes → Option Bytes → Option Bytes → Type 0
BeginsErrors name source before after =
    (reported : List (ℕ × Bytes)) × (read_source source ≡ Err (map (λ t. t.0) reported)) × WritesPrefix (message_lines name reported) before after × AreLines reported

-- an error that occurs before anything is written
abbrev pub IsBeforeOutput : SourceStop → Type 0
IsBeforeOutput Memory = Unit {0}
IsBeforeOutput _ = ⊥
