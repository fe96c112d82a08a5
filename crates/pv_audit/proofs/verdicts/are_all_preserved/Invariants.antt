use Rattle.std.proofs.Common.{◌≡◌, drop}
use Rattle.std.specs.List.{list_all}
use Rattle.pv_audit.specs.Reasons.{preserved_at}
use Rattle.pv_audit.proofs.verdicts.are_all_preserved.Given as goal

abbrev pub invariant-loop-suspect : goal.invariant-loop-suspect
invariant-loop-suspect l = list_all (preserved_at l.parts l.node) l.suspects ≡ list_all (preserved_at l.parts l.node) (drop l.suspect-index l.suspects)
