use Rattle.pv_named_files.specs.FirstPaths.{path_texts}
use Rattle.pv_streams.proofs.ProperPrefixes.{inside_nothing}
use Rattle.pv_access.proofs.AccessBytes.{access-long}
use Rattle.pv_access.proofs.access.write_access.Goals as goal

pub returns-in_default-clause-part : goal.returns-in_default-clause-part
returns-in_default-clause-part g c = inside_nothing g.W.Sink c.args.out.now _ (access-long (path_texts c.args.files.now) c.args.states c.args.first_machine.now c.args.kind)
