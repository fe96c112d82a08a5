use Rattle.std.proofs.Common.{◌≡◌, ◌++◌, ◌∷◌, [], flat_map, map, take}
use Rattle.pv_exposure.specs.Stored.{recorded_in, recorded_of_file}
use Rattle.pv_exposure.proofs.text.lines_of_file.Given as goal

abbrev pub invariant-loop-finding : goal.invariant-loop-finding
invariant-loop-finding l = l.lines.items ≡ [] ++ flat_map (λ x. map (λ k. k.line) (recorded_of_file l.file (recorded_in x ∷ []))) (take l.finding-index l.findings)
