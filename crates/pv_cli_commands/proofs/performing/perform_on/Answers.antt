use Rattle.pv_cli_commands.specs.Streams.{disk_of}
use Rattle.pv_cli_commands.proofs.FlushedOutput.{asks_flushed, runs_flushed, writes_flushed}
use Rattle.pv_cli_commands.proofs.performing.perform_on.Goals as goal

pub returns-in-Ask-clause-flushed : goal.returns-in-Ask-clause-flushed
returns-in-Ask-clause-flushed g c =
    asks_flushed g.O.Sink c.in-Ask.asking c.args.inputs c.args.system.now.output c.ask.new.out c.ask.new.notes.items c.ask.result c.ask.ensures

pub returns-in-WriteSource-clause-flushed : goal.returns-in-WriteSource-clause-flushed
returns-in-WriteSource-clause-flushed g c =
    writes_flushed g.O.Sink g.E.Sink c.in-WriteSource.kind c.in-WriteSource.source.now c.args.inputs.first c.args.system.now.output c.write_output.new.out
    c.args.system.now.errors c.write_output.new.errors c.write_output.result c.write_output.ensures

pub returns-in-RunImage-clause-flushed : goal.returns-in-RunImage-clause-flushed
returns-in-RunImage-clause-flushed g c =
    runs_flushed (disk_of g.F.Files g.F.Reader.Source g.F.Writer.Sink) g.O.Sink c.args.inputs.first c.args.inputs.second c.in-RunImage.out.now
    c.args.system.now.output c.run_files.new.trace c.run_files.result c.run_files.ensures.runs
