-- The next step of a process does not depend on its parent.
use Rattle.std.proofs.Common.{◌≡◌, ℕ, ◌-◌, Bool, true, false, Option, None, Some, slice_get, refl, ap}
use Rattle.pv_model.specs.declared.call.Call.TheVariants as TheCall
use Rattle.pv_model.specs.declared.call.Start.TheVariants.{Descriptor as AtDescriptor}
use Rattle.pv_model.specs.declared.instruction.Instruction.{Instruction}
use Rattle.pv_model.specs.declared.instruction.Instruction.TheVariants as Line
use Rattle.pv_model.specs.declared.instruction.Operand.{Operand}
use Rattle.pv_model.specs.declared.instruction.Operand.TheVariants.{Number, Register}
use Rattle.pv_model.specs.declared.instruction.Origin.{Origin}
use Rattle.pv_model.specs.declared.instruction.Origin.TheVariants.{WorkingDirectory, Descriptor}
use Rattle.pv_model.specs.Machine.{Next, inside, calls_for, perform, next_by, next, jump_if, Process}
use Rattle.pv_model.specs.Program.{operand, start_of_origin}

module _ (n : ℕ) where
  abbrev pub orphan : Process → Process
  orphan p = record p { parent = n }

  abbrev pub orphaned : Next → Next
  orphaned (inside q) = inside (orphan q)
  orphaned (calls_for call) = calls_for call

  jump-orphan : (b : Bool) (p : Process) (line : ℕ) → inside (jump_if b (orphan p) line) ≡ orphaned (inside (jump_if b p line))
  jump-orphan true p line = refl
  jump-orphan false p line = refl

  perform-orphan : (p : Process) (i : Instruction) → perform (orphan p) i ≡ orphaned (perform p i)
  unfolding perform
  perform-orphan p (Line.JumpIfZero r line) = jump-orphan _ p line
  perform-orphan p (Line.JumpIfNotZero r line) = jump-orphan _ p line
  perform-orphan p (Line.JumpIfNegative r line) = jump-orphan _ p line
  perform-orphan p (Line.OpenAt origin path flags) = ap (λ o. calls_for (TheCall.OpenAt o path flags)) (start origin)
    where
      start : (o : Origin) → start_of_origin (orphan p) o ≡ start_of_origin p o
      start WorkingDirectory = refl
      start (Descriptor d) = ap AtDescriptor (operand-orphan d)
        where
          operand-orphan : (o : Operand) → operand (orphan p) o ≡ operand p o
          operand-orphan (Number m) = refl
          operand-orphan (Register r) = refl
  perform-orphan p i = refl

  pub next-orphan : (p : Process) → next (orphan p) ≡ orphaned (next p)
  next-orphan p = by (slice_get p.program (p.line - 1))
    where
      by : (o : Option Instruction) → next_by (orphan p) o ≡ orphaned (next_by p o)
      by None = refl
      by (Some i) = perform-orphan p i
