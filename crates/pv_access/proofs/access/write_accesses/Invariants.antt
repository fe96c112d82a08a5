use Rattle.pv_named_files.specs.FirstPaths.{files_given}
use Rattle.pv_access.proofs.access.write_accesses.Given as goal

abbrev pub ghosts-search_accesses : goal.ghosts-search_accesses
ghosts-search_accesses g a = record { first = a.first_machine.now.tree; files = files_given a.paths.now }
