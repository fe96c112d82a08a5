use Rattle.std.proofs.Common.{◌≡◌, ◌∷◌, [], replicate}
use Rattle.pv_procs.specs.declared.shared.Shared.{Shared}
use Rattle.pv_procs.proofs.shared.first_programs.Given as goal

abbrev unused : Shared
unused = record { program = []; users = 0 }

-- the first program, and the slots without programs so far
abbrev pub invariant-loop-slot : goal.invariant-loop-slot
invariant-loop-slot l = l.programs.items ≡ (record { program = l.fn.program; users = 1 }) ∷ replicate l._slot unused
