-- The contracts of reads and writes.
use Rattle.std.specs.Prelude.{⊤, ◌+◌, min, ◌++◌, take, option_map, ◌≡◌, ℕ, zero, suc, ◌<◌, ◌≤◌, [], length, Option, IfSome, Result, Ok, Err}
use Rattle.pv_model.specs.declared.stream.Failed.{Failed}
use Rattle.pv_model.specs.Bytes.{Bytes}

-- a count of failures increased; it saturates at 2^64 - 1
abbrev pub Rose : ℕ → ℕ → Type 0
Rose before after = before < 18446744073709551615 → before < after

-- the number of bytes that a read returns is at most the room of the buffer
abbrev pub ReadsAtMost : Result ℕ Failed → Bytes → Type 0
ReadsAtMost (Ok n) buffer = n ≤ length buffer
ReadsAtMost (Err e) buffer = ⊤

-- a count increased by n; it saturates at 2^64 - 1
abbrev pub RoseBy : ℕ → ℕ → ℕ → Type 0
RoseBy n before after = after ≡ min (before + n) 18446744073709551615

-- a source counts the bytes that a read returned
abbrev pub CountsBytes : ℕ → ℕ → Result ℕ Failed → Type 0
CountsBytes before after (Ok n) = RoseBy n before after
CountsBytes before after (Err e) = after ≡ before

-- a read returns 0 bytes into a nonempty buffer only at the end
abbrev pub EndsIfEmpty : Option Bytes → Result ℕ Failed → Bytes → Type 0
EndsIfEmpty remaining (Ok zero) buffer = 0 < length buffer → IfSome remaining (λ rest. rest ≡ [])
EndsIfEmpty remaining (Ok (suc n)) buffer = ⊤
EndsIfEmpty remaining (Err e) buffer = ⊤

-- a write takes at most the bytes that it is given
abbrev pub WritesAtMost : Result ℕ Failed → Bytes → Type 0
WritesAtMost (Ok n) buffer = n ≤ length buffer
WritesAtMost (Err e) buffer = ⊤

-- exactly errors, and writes of zero bytes from a nonempty buffer, count as failures
abbrev pub CountsZeroWrites : ℕ → ℕ → Result ℕ Failed → Bytes → Type 0
CountsZeroWrites before after (Ok zero) buffer = 0 < length buffer → Rose before after
CountsZeroWrites before after (Ok (suc n)) buffer = after ≡ before
CountsZeroWrites before after (Err e) buffer = Rose before after

-- the bytes written before, followed by the first n bytes of a buffer
abbrev pub and_front : Option Bytes → ℕ → Bytes → Option Bytes
and_front written n buffer = option_map (λ had. had ++ take n buffer) written

-- the first n bytes of a buffer, followed by the bytes that remain
abbrev pub front_and : ℕ → Bytes → Option Bytes → Option Bytes
front_and n buffer remaining = option_map (λ rest. take n buffer ++ rest) remaining
