use Rattle.std.proofs.Common.{◌≡◌, drop}
use Rattle.pv_image_mount.specs.Slots.{key_after, name_key}
use Rattle.pv_image_mount.proofs.slots.key_of.Given as goal

-- the key so far, extended by the remaining bytes, is that of all
abbrev pub invariant-loop-byte : goal.invariant-loop-byte
invariant-loop-byte l = key_after l.key (drop l.byte-index l.name) ≡ name_key l.name
