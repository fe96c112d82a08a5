-- Runs of bytes that are borrowed.
use Rattle.std.proofs.Common.{◌≡◌, ℕ, ◌≤◌, length, take, drop, ap, sym, ◌∙◌, arith}
use Rattle.std.proofs.lemmas.List.{length-take, take-append-drop}
use Rattle.std.proofs.Math.Seq.{take-append_seam}
use Rattle.pv_model.specs.Machine.{Bytes}

-- a prefix of bytes, by its own length
pub run-is : (k : ℕ) (bytes part : Bytes) → part ≡ take k bytes → part ≡ take (length part) bytes
run-is k bytes part is = rw is (sym (ap (take (length (take k bytes))) (sym (take-append-drop k bytes)) ∙ take-append_seam (take k bytes) (drop k bytes)))

-- at least one byte, if there is one
pub run-some : (k : ℕ) (bytes part : Bytes) → part ≡ take k bytes → 1 ≤ k → 1 ≤ length bytes → 1 ≤ length part
run-some k bytes part is many some = omega (arith, ap length is ∙ length-take k bytes)

pub run-within : (k : ℕ) (bytes part : Bytes) → part ≡ take k bytes → length part ≤ length bytes
run-within k bytes part is = omega (arith, ap length is ∙ length-take k bytes)
