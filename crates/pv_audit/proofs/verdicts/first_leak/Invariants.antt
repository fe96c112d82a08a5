use Rattle.std.proofs.Common.{◌≡◌, drop}
use Rattle.pv_audit.specs.Reasons.{leak_among}
use Rattle.pv_audit.proofs.verdicts.first_leak.Given as goal

abbrev pub invariant-loop-suspect : goal.invariant-loop-suspect
invariant-loop-suspect l = leak_among l.parts l.node l.suspects ≡ leak_among l.parts l.node (drop l.suspect-index l.suspects)
