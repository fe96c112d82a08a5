-- The warnings about a source without errors: the lines with a pledge(2) that names a promise which does not exist, or
-- with an unveil(2) with a byte that is not a permission.
use Rattle.std.specs.Prelude.{◌≡◌, ℕ, Bool, false, ◌||◌, if◌then◌else◌, List, [], map, flat_map, take, is_none, Option, None, Some, Result, Ok}
use Rattle.pv_model.specs.declared.fault.What.{What}
use Rattle.pv_model.specs.declared.instruction.Instruction.{Instruction}
use Rattle.pv_model.specs.declared.instruction.Instruction.TheVariants.{Pledge, Unveil}
use Rattle.pv_model.specs.declared.limits.TheConstants.{LINES}
use Rattle.pv_model.specs.Machine.{spaced, Bytes, instruction_of, Block, taken, blocks_of, LabelledLine, labelled_lines, reported_if, NumberedLine}
use Rattle.pv_model.specs.Perms.{read_permissions}
use Rattle.pv_model.specs.Promises.{read_promises}
use Rattle.pv_model.specs.Source.Blocks.{program}
use Rattle.pv_model.specs.Source.Judged.{REPORTED, is_init, second_text}
use Rattle.pv_source.specs.Outcome.{AreLines, message_lines}
use Rattle.pv_streams.specs.Sinks.{WritesPrefix, and_all}

-- a word of a promises argument is not a keyword
abbrev pub lacks_keyword : Option Bytes → Bool
lacks_keyword None = false
lacks_keyword (Some text) = is_none (read_promises text)

-- a byte of a permissions argument is not a permission
abbrev pub lacks_permission : Option Bytes → Bool
lacks_permission None = false
lacks_permission (Some text) = is_none (read_permissions text)

abbrev pub is_warned : Result Instruction What → Bool
is_warned (Ok (Pledge promises execpromises)) = lacks_keyword promises || lacks_keyword execpromises
is_warned (Ok (Unveil path permissions)) = lacks_permission permissions
is_warned instruction = false

-- the line with this number, if its instruction is a pledge(2) with such a word or an unveil(2) with such a byte
abbrev pub warned_line : ℕ → Bytes → List ℕ
warned_line n text = reported_if (is_warned (instruction_of LINES text)) n []

abbrev pub warned_labelled : LabelledLine → List ℕ
warned_labelled line = warned_line line.number (spaced line.words)

abbrev pub warned_taken : NumberedLine → List ℕ
warned_taken line = warned_line line.0 line.1

-- such lines of the programs between <<END and END, and of the program of `/init`
abbrev pub warned_in : Block → List ℕ
warned_in (program n words body) = flat_map warned_labelled (labelled_lines body)
warned_in (taken n words body) = if is_init (second_text words) then flat_map warned_taken body else []
warned_in block = []

-- the lines of the warnings: the first twenty
unfoldable pub warned_lines : Bytes → List ℕ
warned_lines source = take REPORTED (flat_map warned_in (blocks_of source))

-- the warnings were reported in order, each in a line with a message
abbrev pub Warns : Bytes → Bytes → Option Bytes → Option Bytes → Type 0
Warns name source before after =
    (reported : List (ℕ × Bytes)) × (warned_lines source ≡ map (λ t. t.0) reported) × (after ≡ and_all before (message_lines name reported)) × AreLines reported

-- a prefix of the warnings was reported
abbrev pub BeginsWarnings : Bytes → Bytes → Option Bytes → Option Bytes → Type 0
BeginsWarnings name source before after =
    (reported : List (ℕ × Bytes)) × (warned_lines source ≡ map (λ t. t.0) reported) × WritesPrefix (message_lines name reported) before after × AreLines reported
