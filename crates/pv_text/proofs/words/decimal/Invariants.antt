use Rattle.std.proofs.Common.{◌≡◌, ◌≤◌, drop}
use Rattle.std.specs.List.{list_all}
use Rattle.pv_model.specs.Grammar.Lines.{is_digit, value_from}
use Rattle.pv_text.specs.Reading.{up_to_greatest}
use Rattle.pv_text.proofs.words.decimal.Given as goal

abbrev pub invariant-loop-digit : goal.invariant-loop-digit
invariant-loop-digit l = record {
  value : up_to_greatest (value_from l.value (drop l.digit-index l.digits)) ≡ up_to_greatest (value_from 0 l.digits);
  bound : l.value ≤ 4294967295;
  digits : list_all is_digit (drop l.digit-index l.digits) ≡ list_all is_digit l.digits;
}
