use Rattle.std.proofs.Common.{rules}
use Rattle.pv_step_lines.proofs.explained.write_table_lines.Goals as goal

pub returns : goal.returns
returns g c = record { whole = search rules; prefix = search rules; failed = search rules; quiet = search rules }
