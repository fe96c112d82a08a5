-- The state after a step and a run of the machine, and the lines that they write.
use Rattle.std.specs.Prelude.{◌≡◌, ℕ, List, replicate, Option}
use Rattle.pv_model.specs.Machine.{Bytes, program_of, State, Run, Schedule, Stepped, run, step, steps_of, Line, trace_bytes}
use Rattle.pv_streams.specs.Sinks.{and_all, WritesPrefix}

-- a step of the machine, whose programs are parsed from files
abbrev pub stepped : State → ℕ → Stepped
stepped s pid = step program_of s pid

-- `count` steps of a process
abbrev pub run_of_turn : State → ℕ → ℕ → Run
run_of_turn s pid count = run program_of (replicate count pid) s

-- a run over a schedule
abbrev pub run_of : State → Schedule → Run
run_of s schedule = run program_of (steps_of schedule) s

-- the text of the lines is written after the earlier output
abbrev pub WrittenLines : List Line → Option Bytes → Option Bytes → Type 0
WrittenLines lines before after = after ≡ and_all before (trace_bytes lines)

-- a prefix of the text of the lines is written
abbrev pub BeginsLines : List Line → Option Bytes → Option Bytes → Type 0
BeginsLines lines before after = WritesPrefix (trace_bytes lines) before after
