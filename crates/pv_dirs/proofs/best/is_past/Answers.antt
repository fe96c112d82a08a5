use Rattle.std.proofs.Common.{Option, Bor, sym, ap, ◌∙◌}
use Rattle.std.specs.Option.{option_copied}
use Rattle.pv_model.specs.Machine.{Bytes, is_past}
use Rattle.pv_dirs.proofs.NextNames.{bytes_less}
use Rattle.pv_dirs.proofs.best.is_past.Goals as goal

pub returns-in-Some : goal.returns-in-Some
returns-in-Some c = c.lt.ensures ∙ bytes_less c.in-Some.last.now c.args.name.now ∙ ap (λ (last : Option (Bor Bytes)). is_past (option_copied last) c.args.name.now) (sym c.in-Some.is)
