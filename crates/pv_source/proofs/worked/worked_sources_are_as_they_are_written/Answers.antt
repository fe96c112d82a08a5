use Rattle.pv_source.specs.Worked
use Rattle.pv_source.proofs.worked.worked_sources_are_as_they_are_written.Goals as goal

pub returns : goal.returns
returns c = record {
  unknown_words_are_warned_of = Worked.unknown_words_are_warned_of;
  lines_have_their_numbers = Worked.lines_have_their_numbers;
}
