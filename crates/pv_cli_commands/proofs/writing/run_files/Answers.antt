use Rattle.pv_cli_commands.specs.Streams.{disk_of}
use Rattle.pv_cli_commands.proofs.WrittenFiles.{run-stopped}
use Rattle.pv_cli_commands.proofs.writing.run_files.Goals as goal

pub returns-in_err-run_image-clause-runs : goal.returns-in_err-run_image-clause-runs
returns-in_err-run_image-clause-runs g c =
    run-stopped (disk_of g.F.Files g.F.Reader.Source g.F.Writer.Sink) g.W.Sink c.args.image c.args.schedule c.args.out.now c.args.trace.now c.run_image.new.trace
    c.in_ok-out.out c.run_image.new.image c.deref.result.now c.in_err-run_image.field-0.0 c.from_residual-in_err-run_image.result c.deref.ensures.value
    c.in_ok-out.ensures.created c.in_err-run_image.ensures c.from_residual-in_err-run_image.ensures.1
