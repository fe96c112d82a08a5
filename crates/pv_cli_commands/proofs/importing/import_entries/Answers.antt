use Rattle.std.proofs.Common.{map, Err}
use Rattle.pv_image_manifest.specs.Entries.{entry_of_line}
use Rattle.pv_cli_commands.specs.Streams.{disk_of}
use Rattle.pv_cli_commands.proofs.WrittenFiles.{directory-imported}
use Rattle.pv_cli_commands.proofs.importing.import_entries.Goals as goal

pub returns-clause-imports : goal.returns-clause-imports
returns-clause-imports g c =
    directory-imported (disk_of g.F.Files g.F.Reader.Source g.F.Writer.Sink) g.E.Sink (g.F.Files.entries c.args.files.now) c.args.import c.args.errors.now
    c.import_image.new.errors (Err c.of_import.result) (map entry_of_line c.args.given.now) _ c.in_ok-image.image c.import_image.new.image (Err c.in-Err.stop)
    c.in-Ok.ensures.entries c.in_ok-image.ensures.created c.in-Err.ensures.imports c.in-Err.ensures.flushed c.in-Err.ensures.write_lines c.in-Err.ensures.write_image
    c.of_import.ensures
