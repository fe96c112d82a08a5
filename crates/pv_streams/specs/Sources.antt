-- Bytes that remain of a source.
use Rattle.std.specs.Prelude.{⊤, ◌⊎◌, ℕ, ◌+◌, ◌<◌, ◌++◌, length, Option, option_map, IfSome}
use Rattle.pv_model.specs.declared.run_fault.RunFault.{RunFault}
use Rattle.pv_model.specs.declared.run_fault.RunFault.TheVariants.{Read, Memory}
use Rattle.pv_model.specs.declared.stream.Source.{Ghosts as Reading}
use Rattle.pv_model.specs.Machine.{Bytes, Rose}
use Rattle.pv_model.specs.declared.limits.TheConstants.{SOURCE_BYTES}

-- some bytes before those that remain
abbrev pub before_all : Bytes → Option Bytes → Option Bytes
before_all bytes remaining = option_map (λ rest. bytes ++ rest) remaining

-- a source has more than `limit` bytes left, if they are known
abbrev pub GivesMoreThan : ℕ → Option Bytes → Type 0
GivesMoreThan limit remaining = IfSome remaining (λ all. limit < length all)

-- a source has delivered more than `limit` bytes, by its own saturating count
abbrev pub GaveMoreThan : ℕ → ℕ → ℕ → Type 0
GaveMoreThan limit before after = before + limit < 18446744073709551615 → before + limit < after

-- a source failed, or delivered more bytes than the limit of a source
abbrev pub FailsToGive : {S : Type 0} → Reading S → S → S → Type 0
FailsToGive reading first last =
    Rose (reading.failures first) (reading.failures last)
    ⊎ (GaveMoreThan SOURCE_BYTES (reading.given first) (reading.given last) × GivesMoreThan SOURCE_BYTES (reading.remaining first))

-- the errors of reading a source
abbrev pub IsReadOrMemory : RunFault → Type 0
IsReadOrMemory Read = ⊤
IsReadOrMemory Memory = ⊤
IsReadOrMemory _ = ⊥
