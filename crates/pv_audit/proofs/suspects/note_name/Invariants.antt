use Rattle.std.proofs.Common.{◌≡◌, ◌++◌, map, take, drop}
use Rattle.pv_audit.specs.Findings.{note_of}
use Rattle.pv_audit.proofs.suspects.note_name.Given as goal

-- the processes up to k are noted
abbrev pub invariant-loop-k : goal.invariant-loop-k
invariant-loop-k l = l.suspects ≡ map (note_of l.parts (l.directory, l.name)) (take l.k l.initial.suspects) ++ drop l.k l.initial.suspects
