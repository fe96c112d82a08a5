use Rattle.pv_cli_line.proofs.OptionNames.{renamed_option}
use Rattle.pv_cli_line.proofs.parser.argument_of.Goals as goal

pub returns-in-Renamed-clause-rule : goal.returns-in-Renamed-clause-rule
returns-in-Renamed-clause-rule c =
    rw c.in-Renamed.is
    (renamed_option c.option_of-in-Renamed.result c.in-Renamed.name.now c.in-Renamed.old c.option_of-in-Renamed.ensures.rule c.alias.result c.alias.ensures)
