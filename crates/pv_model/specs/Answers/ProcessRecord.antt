-- The text of `state`: the processes of a state.
use Rattle.std.specs.Prelude.{ℕ, Bool, true, false, ◌==◌, if◌then◌else◌, List, [], ◌∷◌, ◌++◌, length, map, flat_map, filter_map, codes, Option, None, Some, option_map}
use Rattle.std.specs.Fmt.{decimal, signed_decimal}
use Rattle.pv_model.specs.declared.perms.Perms.{Perms}
use Rattle.pv_model.specs.declared.target.Target.{Target}
use Rattle.pv_model.specs.Answers.Lines.{AnswerLine, answer_line, spaced, permissions_in_places, pledged_text, counted}
use Rattle.pv_model.specs.Answers.Nodes.{node_words, target_words}
use Rattle.pv_model.specs.Bytes.{Bytes}
use Rattle.pv_model.specs.Calls.Restraints.{entries_of_table}
use Rattle.pv_model.specs.Numbered.{at_number, numbered}
use Rattle.pv_model.specs.Program.{Next, inside, calls_for, next}
use Rattle.pv_model.specs.State.{OpenFile, Descriptor, Process, ProcessRecord, live, ended_record, State}
use Rattle.pv_model.specs.Trace.{quote, hex, mode_text, flag_text, call_line}
use Rattle.pv_model.specs.Unveil.{Table}

-- ---- the next step

abbrev pub next_text : Next → Bytes
next_text (inside q) = codes "registers"
next_text (calls_for call) = call_line call

abbrev pub live_text : Process → Bytes
live_text p = codes "live, parent " ++ decimal p.parent ++ codes ", line " ++ decimal p.line ++ codes " of " ++ decimal (length p.program)

abbrev pub ended_text : ℕ → ℕ → Bytes
ended_text parent status = codes "ended, parent " ++ decimal parent ++ codes ", status " ++ decimal status

-- the lines PROC and NEXT of a process: its status and its next step
abbrev pub location_lines : ℕ → ProcessRecord → List AnswerLine
location_lines pid (ended_record parent status) = answer_line pid (codes "PROC") (ended_text parent status) ∷ []
location_lines pid (live p) = answer_line pid (codes "PROC") (live_text p) ∷ answer_line pid (codes "NEXT") (next_text (next p)) ∷ []

-- ---- the table

abbrev pub table_text : Option Table → Bool → Bytes
table_text None false = codes "none"
table_text None true = codes "none, locked"
table_text (Some table) false = codes "in force"
table_text (Some table) true = codes "in force, locked"

-- ---- descriptors

-- an open descriptor: its number, the descriptor and its open file
pub record OpenDescriptor : Type 0 where
  pub number : ℕ
  pub descriptor : Descriptor
  pub file : OpenFile

abbrev pub open_descriptor : State → ℕ × Descriptor → Option OpenDescriptor
open_descriptor s (d, descriptor) =
    option_map (λ file. record { number = d; descriptor = descriptor; file = file }) (at_number s.files descriptor.file)

-- the open descriptors of a process, by number
abbrev pub open_descriptors : State → Process → List OpenDescriptor
open_descriptors s p = filter_map (open_descriptor s) (numbered p.descriptors)

abbrev pub listed_text : Option Bytes → Bytes
listed_text None = []
listed_text (Some name) = codes ", listed " ++ quote name

-- ---- registers and buffer

abbrev pub without_zero : ℕ → Bytes → Bytes
without_zero b [] = if b == 0 then [] else b ∷ []
without_zero b (c ∷ cs) = b ∷ c ∷ cs

-- the bytes up to the last nonzero byte
abbrev pub buffer_front : Bytes → Bytes
buffer_front [] = []
buffer_front (b ∷ bs) = without_zero b (buffer_front bs)

abbrev pub front_text : Bytes → Bytes
front_text [] = codes "0"
front_text (b ∷ bs) = decimal (length (b ∷ bs)) ++ codes " " ++ hex (b ∷ bs)

-- ---- the lines

module _ (s : State) where
  abbrev pub entry_text : ℕ × (Target × Perms) → Bytes
  entry_text (k, (target, permissions)) = codes "entry " ++ decimal k ++ codes ", " ++ permissions_in_places permissions ++ codes ", " ++ target_words s.tree target

  abbrev pub descriptor_text : OpenDescriptor → Bytes
  descriptor_text d =
      decimal d.number ++ codes ", file " ++ decimal d.descriptor.file ++ codes ", " ++ mode_text d.file.mode
      ++ flag_text d.file.append (codes "append") ++ flag_text d.descriptor.close_on_exec (codes "cloexec")
      ++ codes ", offset " ++ decimal d.file.offset ++ codes ", " ++ node_words s.tree d.file.node ++ listed_text d.file.listed

  -- the sandbox, descriptors, registers and buffer of a live process
  abbrev pub holding_lines : ℕ → Process → List AnswerLine
  holding_lines pid p =
      answer_line pid (codes "CWD") (node_words s.tree p.directory)
      ∷ answer_line pid (codes "PLDG") (pledged_text p.promises)
      ∷ answer_line pid (codes "EXPR") (pledged_text p.execpromises)
      ∷ answer_line pid (codes "UNVL") (table_text p.table p.locked)
      ∷ map (λ e. answer_line pid (codes "UNVL") (entry_text e)) (counted (entries_of_table p.table))
      ++ map (λ d. answer_line pid (codes "FD") (descriptor_text d)) (open_descriptors s p)
      ++ answer_line pid (codes "REGS") (spaced (map signed_decimal p.registers))
      ∷ answer_line pid (codes "BUF") (front_text (buffer_front p.buffer))
      ∷ []

  abbrev pub held_lines : ℕ → ProcessRecord → List AnswerLine
  held_lines pid (ended_record parent status) = []
  held_lines pid (live p) = holding_lines pid p

  -- all lines of each process
  unfoldable pub state_lines : List AnswerLine
  state_lines = flat_map (λ r. location_lines r.0 r.1 ++ held_lines r.0 r.1) s.processes

  -- the status and the next step of each process
  unfoldable pub locations : List AnswerLine
  locations = flat_map (λ r. location_lines r.0 r.1) s.processes
