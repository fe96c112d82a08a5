use Rattle.std.proofs.Common.{◌%◌, ap, eqb, inl, inr, refl, ◌∙◌, arith}
use Rattle.std.specs.Int.{w64}
use Rattle.std.proofs.lemmas.Bool.{cases_eq}
use Rattle.std.proofs.lemmas.Nat.Bits.{bit_at_set_same, bit_at_set_other}
use Rattle.pv_unveil.proofs.marks.with_mark.Goals as goal

pub returns-clause-own : goal.returns-clause-own
returns-clause-own c = rw (bit_at_set_same w64 c.args.row (c.args.number % 64) (omega arith)) refl

pub returns-clause-others : goal.returns-clause-others
returns-clause-others c = λ other there.
    elim (cases_eq (other % 64) (c.args.number % 64)) [
      | inl same ↦ rw (same, bit_at_set_same w64 c.args.row (c.args.number % 64) (omega arith)) refl
      | inr apart ↦ ap (λ bit. eqb bit 1) (bit_at_set_other w64 c.args.row (c.args.number % 64) (omega arith) (other % 64) apart) ∙ there
    ]
