-- The schedule that lines parse as.
use Rattle.std.specs.Prelude.{ℕ, suc, ◌&&◌, if◌then◌else◌, ◌==◌, nat_le, List, [], ◌∷◌, Option, None, Some, option_map, Result, Ok, Err}
use Rattle.pv_model.specs.declared.fault.ScheduleFault.{ScheduleFault}
use Rattle.pv_model.specs.declared.fault.ScheduleFault.TheVariants.{Line}
use Rattle.pv_model.specs.declared.limits.TheConstants.{LAST_PROCESS, SCHEDULE_LINES}
use Rattle.pv_model.specs.Bytes.{Bytes, is_empty}
use Rattle.pv_model.specs.Grammar.Arguments.{Parsed, word_at, one_argument}
use Rattle.pv_model.specs.Grammar.Lines.{decimal_of, lines_of}
use Rattle.pv_model.specs.Step.{Schedule}

abbrev pub count_within : Option ℕ → Option ℕ
count_within None = None
count_within (Some n) = if nat_le 1 n && nat_le n LAST_PROCESS then Some n else None

abbrev pub count_of : Bytes → Option ℕ
count_of word = count_within (decimal_of word)

abbrev pub with_count : Parsed ℕ → Option (ℕ × ℕ)
with_count None = None
with_count (Some p) = if is_empty p.1 then Some (p.0, 1) else option_map (λ n. (p.0, n)) (one_argument (word_at count_of) p.1)

-- a turn: a process number and a number of steps, which is 1 if the line has no count
abbrev pub turn_of : Bytes → Option (ℕ × ℕ)
turn_of line = with_count (word_at count_of line)

abbrev pub onto_schedule : (ℕ × ℕ) → Result Schedule ScheduleFault → Result Schedule ScheduleFault
onto_schedule turn (Ok schedule) = Ok (turn ∷ schedule)
onto_schedule turn (Err fault) = Err fault

abbrev pub or_schedule_line : ℕ → Option (ℕ × ℕ) → Result Schedule ScheduleFault → Result Schedule ScheduleFault
or_schedule_line n None rest = Err (Line n)
or_schedule_line n (Some turn) rest = onto_schedule turn rest

-- the schedule of the lines from line n on; an error names the first invalid line
abbrev pub schedule_from : List Bytes → ℕ → Result Schedule ScheduleFault
schedule_from [] n = Ok []
schedule_from (line ∷ lines) n = if n == suc SCHEDULE_LINES then Err (Line (suc SCHEDULE_LINES)) else or_schedule_line n (turn_of line) (schedule_from lines (suc n))

-- the schedule that lines parse as
abbrev pub schedule_of_lines : List Bytes → Result Schedule ScheduleFault
schedule_of_lines lines = schedule_from lines 1

-- the schedule that bytes parse as, or the first error
unfoldable pub read_schedule : Bytes → Result Schedule ScheduleFault
read_schedule bytes = schedule_of_lines (lines_of bytes)
