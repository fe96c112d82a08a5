-- Laws of steps and runs.
use Rattle.std.specs.Prelude.{◌≡◌, ℕ, List, [], ◌∷◌, ◌++◌, Option}
use Rattle.pv_model.specs.Machine.{Bytes, Program, ProcessRecord, live, ended_record, State, step, run}
use Rattle.pv_model.specs.Step.{run_then}

-- a run over a concatenation is the concatenation of runs
abbrev pub RunsConcatenate : Type 0
RunsConcatenate =
    (program_of : Bytes → Option Program) (before after : List ℕ) (s : State)
    → run program_of (before ++ after) s ≡ run_then (run program_of before s) (run program_of after)

-- two records are equal except for registers and buffer
abbrev pub IsSameOutside : ProcessRecord → ProcessRecord → Type 0
IsSameOutside (live p) (live q) = p ≡ record q { registers = p.registers; buffer = p.buffer }
IsSameOutside (ended_record above status) (ended_record parent code) = (above ≡ parent) × (status ≡ code)
IsSameOutside _ _ = ⊥

-- two process tables are equal except for the registers and buffers of all processes but one
abbrev pub AreSameExceptInsides : ℕ → List (ℕ × ProcessRecord) → List (ℕ × ProcessRecord) → Type 0
AreSameExceptInsides pid [] [] = Unit {0}
AreSameExceptInsides pid (a ∷ rest) (b ∷ bs) = (a.0 ≡ b.0) × IsSameOutside a.1 b.1 × (b.0 ≡ pid → a.1 ≡ b.1) × AreSameExceptInsides pid rest bs
AreSameExceptInsides pid _ _ = ⊥

-- the lines of a step do not depend on the registers and buffers of other processes
abbrev pub IgnoresOthers : Type 0
IgnoresOthers =
    (program_of : Bytes → Option Program) (s : State) (pid : ℕ) (others : List (ℕ × ProcessRecord)) → AreSameExceptInsides pid others s.processes
    → (step program_of (record s { processes = others }) pid).lines ≡ (step program_of s pid).lines
