-- Sequences of instructions on registers and jumps.
use Rattle.std.specs.Prelude.{◌≡◌, ℕ, zero, suc}
use Rattle.pv_model.specs.Machine.{inside, next, Process}

-- n such instructions lead from one process to another
abbrev pub Passes : ℕ → Process → Process → Type 0
Passes zero me after = after ≡ me
Passes (suc n) me after = (mid : Process) × Passes n me mid × (next mid ≡ inside after)
