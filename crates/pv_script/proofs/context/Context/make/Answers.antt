use Rattle.std.proofs.Common.{◌≡◌, ◌∙◌, ap, refl, pos, ◌+ℤ◌, to_z, of_z, w32, arith, not}
use Rattle.std.specs.Prelude.{slice_index}
use Rattle.std.proofs.lemmas.Int.{ints}
use Rattle.pv_model.specs.Program.{clamp, is_zero, is_negative}
use Rattle.pv_model.specs.Machine.{Process}
use Rattle.pv_script.specs.Context.{context_at_line}
use Rattle.pv_script.proofs.ContextEffects.{set_made, add_made, peek_made, put_made, jump_if_zero_made, jump_if_not_zero_made, jump_if_negative_made}
use Rattle.pv_script.proofs.context.Context.make.Goals as goal

pub returns-in-Set : goal.returns-in-Set
returns-in-Set c =
    let same : to_z w32 (of_z w32 c.in-Set.n) ≡ c.in-Set.n = omega (arith, ints) in
    set_made c.args.program.now (context_at_line c.args.line c.args.self.now) _ _ c.in-Set.register c.in-Set.n _ c.in-Set.is same c.set.ensures

pub returns-in-Add : goal.returns-in-Add
returns-in-Add c =
    let sum : to_z w32 (of_z w32 c.held_sum-sum.result) ≡ c.held_sum-sum.result = omega (arith, ints) in
    let value : to_z w32 (of_z w32 c.value.result) ≡ c.value.result = omega (arith, ints) in
    let n : to_z w32 (of_z w32 c.in-Add.n) ≡ c.in-Add.n = omega (arith, ints) in
    add_made c.args.program.now (context_at_line c.args.line c.args.self.now) _ _ c.in-Add.register c.in-Add.n _ c.in-Add.is
    (λ p. sum ∙ c.held_sum-sum.ensures ∙ ap (λ v. clamp (v +ℤ to_z w32 (of_z w32 c.in-Add.n))) (value ∙ c.value.ensures p c.args.program.now) ∙ rw n refl) c.set-in-Add.ensures

pub returns-in-Put : goal.returns-in-Put
returns-in-Put c =
    put_made c.args.program.now (context_at_line c.args.line c.args.self.now) _ _ _ _ c.in-Put.text c.in-Put.is c.as_slice.ensures.value
    (λ p. ap {A = Process} (λ q. record q { line = c.args.line }) (c.put_front.ensures c.args.program.now p)) (c.line_after.ensures c.put_front.new.self)

pub returns-in-Peek : goal.returns-in-Peek
returns-in-Peek c =
    let value : to_z w32 (of_z w32 c.from.result) ≡ c.from.result = omega (arith, ints) in
    peek_made c.args.program.now (context_at_line c.args.line c.args.self.now) _ _ c.in-Peek.register c.in-Peek.place _ c.in-Peek.is
    (value ∙ c.from.ensures ∙ ap pos (c.byte_at-byte.ensures ∙ ap (λ bytes. slice_index bytes c.in-Peek.place) c.buffer.ensures.value)) c.set-in-Peek.ensures

pub returns-in-JumpIfZero : goal.returns-in-JumpIfZero
returns-in-JumpIfZero c =
    let value : to_z w32 (of_z w32 c.value-in-JumpIfZero.result) ≡ c.value-in-JumpIfZero.result = omega (arith, ints) in
    jump_if_zero_made c.args.program.now (context_at_line c.args.line c.args.self.now) _ _ c.in-JumpIfZero.register c.in-JumpIfZero.target _ c.in-JumpIfZero.is
    (λ p. c.is_zero-holds.ensures ∙ ap is_zero (value ∙ c.value-in-JumpIfZero.ensures p c.args.program.now)) (c.jump_if.ensures c.args.self.now)

pub returns-in-JumpIfNotZero : goal.returns-in-JumpIfNotZero
returns-in-JumpIfNotZero c =
    let value : to_z w32 (of_z w32 c.value-in-JumpIfNotZero.result) ≡ c.value-in-JumpIfNotZero.result = omega (arith, ints) in
    jump_if_not_zero_made c.args.program.now (context_at_line c.args.line c.args.self.now) _ _ c.in-JumpIfNotZero.register c.in-JumpIfNotZero.target _ c.in-JumpIfNotZero.is
    (λ p. ap not (c.is_zero-holds-in-JumpIfNotZero.ensures ∙ ap is_zero (value ∙ c.value-in-JumpIfNotZero.ensures p c.args.program.now))) (c.jump_if-in-JumpIfNotZero.ensures c.args.self.now)

pub returns-in-JumpIfNegative : goal.returns-in-JumpIfNegative
returns-in-JumpIfNegative c =
    let value : to_z w32 (of_z w32 c.value-in-JumpIfNegative.result) ≡ c.value-in-JumpIfNegative.result = omega (arith, ints) in
    jump_if_negative_made c.args.program.now (context_at_line c.args.line c.args.self.now) _ _ c.in-JumpIfNegative.register c.in-JumpIfNegative.target _ c.in-JumpIfNegative.is
    (λ p. c.is_negative-holds.ensures ∙ ap is_negative (value ∙ c.value-in-JumpIfNegative.ensures p c.args.program.now)) (c.jump_if-in-JumpIfNegative.ensures c.args.self.now)
