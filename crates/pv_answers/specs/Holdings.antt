-- The lines of a process, part by part.
use Rattle.std.specs.Prelude.{ℕ, List, [], ◌++◌, map, filter_map, codes, slice_get, Option, None, Some}
use Rattle.std.specs.FinMap.Entries.{find}
use Rattle.std.specs.Fmt.{signed_decimal}
use Rattle.std.specs.Ordering.{nat_cmp}
use Rattle.pv_model.specs.declared.perms.Perms.{Perms}
use Rattle.pv_model.specs.declared.target.Target.{Target}
use Rattle.pv_model.specs.Machine.{AnswerLine, answer_line, answer_line_bytes, spaced, Bytes, Numbered, at_number, numbered, Descriptor, Process, ProcessRecord as Record, State, Table}
use Rattle.pv_model.specs.Answers.Lines.{counted, pledged_text}
use Rattle.pv_model.specs.Answers.Nodes.{node_words}
use Rattle.pv_model.specs.Answers.ProcessRecord.{OpenDescriptor, buffer_front, descriptor_text, entry_text, front_text, held_lines, live_text, open_descriptor, location_lines, table_text}
use Rattle.pv_calls_state.specs.OfProcs.declared.record.ProcessRecord.{ProcessRecord}

-- the identity and location of a process; no lines if there is no such process
abbrev pub location_of : ℕ → Option Record → List AnswerLine
location_of pid None = []
location_of pid (Some r) = location_lines pid r

abbrev pub live_words : Option Process → Bytes
live_words None = []
live_words (Some p) = live_text p

abbrev pub held_lines_of : State → ℕ → Option Record → List AnswerLine
held_lines_of s pid None = []
held_lines_of s pid (Some r) = held_lines s pid r

-- the restraints, descriptors and memory of a process; no lines if there is no such process
abbrev pub held_by : State → ℕ → List AnswerLine
held_by s pid = held_lines_of s pid (find nat_cmp pid s.processes)

-- ---- by the record of a process

-- the working directory, the promises, and the table
abbrev pub restraint_bytes : State → ℕ → ProcessRecord → Bytes
restraint_bytes s pid r =
    answer_line_bytes (answer_line pid (codes "CWD") (node_words s.tree r.directory))
    ++ answer_line_bytes (answer_line pid (codes "PLDG") (pledged_text r.pledge.promises))
    ++ answer_line_bytes (answer_line pid (codes "EXPR") (pledged_text r.pledge.execpromises))
    ++ answer_line_bytes (answer_line pid (codes "UNVL") (table_text r.unveiled.table r.unveiled.locked))

-- the entries of the table
abbrev pub entry_lines : State → ℕ → Table → List AnswerLine
entry_lines s pid table = map (λ e. answer_line pid (codes "UNVL") (entry_text s e)) (counted table)

abbrev pub entry_line_of : State → ℕ → ℕ → Option (Target × Perms) → Bytes
entry_line_of s pid k None = []
entry_line_of s pid k (Some e) = answer_line_bytes (answer_line pid (codes "UNVL") (entry_text s (k, e)))

-- one entry
abbrev pub entry_line : State → ℕ → Table → ℕ → Bytes
entry_line s pid table k = entry_line_of s pid k (slice_get table k)

-- the descriptors
abbrev pub descriptor_lines : State → ℕ → Numbered Descriptor → List AnswerLine
descriptor_lines s pid ds = map (λ d. answer_line pid (codes "FD") (descriptor_text s d)) (filter_map (open_descriptor s) (numbered ds))

abbrev pub open_line_of : State → ℕ → Option OpenDescriptor → Bytes
open_line_of s pid None = []
open_line_of s pid (Some d) = answer_line_bytes (answer_line pid (codes "FD") (descriptor_text s d))

abbrev pub descriptor_line_of : State → ℕ → ℕ → Option Descriptor → Bytes
descriptor_line_of s pid d None = []
descriptor_line_of s pid d (Some descriptor) = open_line_of s pid (open_descriptor s (d, descriptor))

-- one descriptor, if it is open
abbrev pub descriptor_line : State → ℕ → Numbered Descriptor → ℕ → Bytes
descriptor_line s pid ds d = descriptor_line_of s pid d (at_number ds d)

-- the registers and the buffer
abbrev pub memory_bytes : ℕ → ProcessRecord → Bytes
memory_bytes pid r =
    answer_line_bytes (answer_line pid (codes "REGS") (spaced (map signed_decimal r.context.registers)))
    ++ answer_line_bytes (answer_line pid (codes "BUF") (front_text (buffer_front r.context.buffer)))
