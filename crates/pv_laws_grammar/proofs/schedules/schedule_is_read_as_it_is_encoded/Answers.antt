use Rattle.pv_laws_grammar.proofs.ScheduleParsing.{EncodesSchedule-read, read-EncodesSchedule, schedule_found, schedule_again}
use Rattle.pv_laws_grammar.proofs.schedules.schedule_is_read_as_it_is_encoded.Goals as goal

pub returns : goal.returns
returns c = record {
  text = λ bytes schedule. (EncodesSchedule-read bytes schedule, read-EncodesSchedule bytes schedule);
  lines = λ lines schedule. (schedule_found lines schedule, schedule_again lines schedule);
}
