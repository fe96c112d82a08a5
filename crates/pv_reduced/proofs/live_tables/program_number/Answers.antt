use Rattle.pv_reduced.proofs.LivenessComputation.{table-found, table-other}
use Rattle.pv_reduced.proofs.live_tables.program_number.Goals as goal

pub returns-in-Some-clause-there : goal.returns-in-Some-clause-there
returns-in-Some-clause-there c = table-found c.args.programs.now c.args.lines.now.items c.args.part.now c.args.program.now c.requires.encoded c.requires.tables c.in-Some.number c.in-Some.ensures

pub add_program-requires-clause-other : goal.add_program-requires-clause-other
add_program-requires-clause-other c = table-other c.args.programs.now c.args.lines.now.items c.args.part.now c.args.program.now c.requires.encoded c.requires.tables c.in-None.ensures
