use Rattle.std.proofs.Common.{◌≡◌, drop, Some}
use Rattle.pv_model.specs.Perms.{join_permission, read_permissions}
use Rattle.pv_model.proofs.perms.Perms.read.Given as goal

abbrev pub invariant-loop-byte : goal.invariant-loop-byte
invariant-loop-byte l = join_permission (Some l.permissions) (read_permissions (drop l.byte-index l.text)) ≡ read_permissions l.text
