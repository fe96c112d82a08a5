use Rattle.std.proofs.Common.{◌≡◌, ◌+◌, ◌++◌, drop}
use Rattle.pv_named_files.specs.FirstPaths.{files_given, first_tree}
use Rattle.pv_exposure.proofs.ListTexts.{bytes_from}
use Rattle.pv_exposure.proofs.text.append_programs.Given as goal

abbrev pub invariant-loop-k : goal.invariant-loop-k
invariant-loop-k l =
    l.out.bytes.items ++ bytes_from (files_given l.paths) (first_tree l.paths) l.complete (l.k + 1) (drop l.k l.programs) ≡ l.fn.out.bytes.items ++ bytes_from (files_given l.paths) (first_tree l.paths) l.complete 1 l.programs
