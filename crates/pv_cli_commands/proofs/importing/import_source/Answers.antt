use Rattle.pv_cli_commands.specs.Streams.{disk_of}
use Rattle.pv_cli_commands.proofs.WrittenFiles.{source-imported}
use Rattle.pv_cli_commands.proofs.importing.import_source.Goals as goal

pub returns-clause-imports : goal.returns-clause-imports
returns-clause-imports g c =
    source-imported (disk_of g.F.Files g.F.Reader.Source g.F.Writer.Sink) g.E.Sink (g.F.Files.entries c.args.files.now) c.args.import c.args.errors.now
    c.import_entries.new.errors c.import_entries.result c.args.source c.deref.result.now c.in_ok-manifest.manifest c.deref-2.result.now c.deref.ensures.value
    c.deref-2.ensures.value c.in_ok-manifest.ensures.read c.import_entries.ensures.imports
