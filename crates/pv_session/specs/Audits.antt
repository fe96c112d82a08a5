-- The meaning of an audit for all runs that continue from a state.
use Rattle.std.specs.Prelude.{◌≡◌, ℕ, List, length, Option, None, Some, Result, Ok, Err}
use Rattle.pv_model.specs.declared.errno.Errno.{Errno}
use Rattle.pv_model.specs.declared.follow.Follow.TheVariants.{Last}
use Rattle.pv_model.specs.declared.place.Place.{Place}
use Rattle.pv_model.specs.declared.verdict.AuditFault.{AuditFault}
use Rattle.pv_model.specs.declared.verdict.Verdict.{Verdict}
use Rattle.pv_model.specs.declared.verdict.Verdict.TheVariants.{Sealed, Frozen, Exposed}
use Rattle.pv_model.specs.Machine.{Bytes, node_of, program_of, State, run, file_bytes, root, resolve}
use Rattle.pv_calls.specs.OfLawsAccess.Sealing.{StaysFrozen, WritesNothing}

abbrev pub node_there : Result Place Errno → Option ℕ
node_there (Ok place) = node_of place
node_there (Err e) = None

-- the node at a path, walked from the root, with links followed
abbrev pub node_named : State → Bytes → Option ℕ
node_named s path = node_there (resolve s.tree Last root path)

-- for all steps of a run and all other bytes of the file of the same length, the run writes the same text and leaves
-- the same state except for these bytes
abbrev pub IsSecret : State → ℕ → Type 0
IsSecret s f = (pids : List ℕ) (bytes : Bytes) → length bytes ≡ length (file_bytes s f) → WritesNothing program_of s pids f bytes

-- for all steps of a run, the bytes of the file stay unchanged
abbrev pub IsUnchanging : State → ℕ → Type 0
IsUnchanging s f = (pids : List ℕ) → StaysFrozen f s (run program_of pids s).final

-- a file with the verdict sealed is secret, and a file with the verdict frozen is also unchanging
abbrev pub KeepsSecretAt : State → ℕ → Result Verdict AuditFault → Type 0
KeepsSecretAt s f (Ok Sealed) = IsSecret s f
KeepsSecretAt s f (Ok Frozen) = IsSecret s f × IsUnchanging s f
KeepsSecretAt s f (Ok (Exposed leak)) = Unit {0}
KeepsSecretAt s f (Err fault) = Unit {0}

-- the same for the file at a path
abbrev pub KeepsSecret : State → Bytes → Result Verdict AuditFault → Type 0
KeepsSecret s path (Ok Sealed) = (f : ℕ) × (node_named s path ≡ Some f) × IsSecret s f
KeepsSecret s path (Ok Frozen) = (f : ℕ) × (node_named s path ≡ Some f) × IsSecret s f × IsUnchanging s f
KeepsSecret s path (Ok (Exposed leak)) = Unit {0}
KeepsSecret s path (Err fault) = Unit {0}
