use Rattle.pv_laws_grammar.proofs.ScheduleParsing.{IsFirstNoTurn-schedule, schedule-IsFirstNoTurn, no_memory_schedule}
use Rattle.pv_laws_grammar.proofs.schedules.least_line_that_is_no_turn_is_named.Goals as goal

pub returns : goal.returns
returns c = record {
  line = λ lines n. (IsFirstNoTurn-schedule lines n, schedule-IsFirstNoTurn lines n);
  total = no_memory_schedule;
}
