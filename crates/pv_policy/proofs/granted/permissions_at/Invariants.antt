use Rattle.std.proofs.Common.{◌≡◌, drop}
use Rattle.pv_policy.specs.Usage.{permissions_granted_at}
use Rattle.pv_policy.proofs.granted.permissions_at.Given as goal

abbrev pub invariant-loop-row : goal.invariant-loop-row
invariant-loop-row l = permissions_granted_at l.rows l.words ≡ permissions_granted_at (drop l.row-index l.rows) l.words
