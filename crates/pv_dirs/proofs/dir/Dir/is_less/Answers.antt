use Rattle.std.proofs.Common.{is_lt, ap, ◌∙◌}
use Rattle.pv_model.specs.Machine.{Bytes}
use Rattle.pv_dirs.proofs.SortedEntries.{by_name}
use Rattle.pv_dirs.proofs.NextNames.{bytes_less}
use Rattle.pv_dirs.proofs.dir.Dir.is_less.Goals as goal

pub returns-in-Some : goal.returns-in-Some
returns-in-Some c = c.lt.ensures ∙ bytes_less c.in-Some.before.now c.args.name.now ∙ ap (λ (q : Bytes). is_lt (by_name q c.args.name.now)) c.in-Some.ensures.value
