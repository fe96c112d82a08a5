use Rattle.std.proofs.Common.{◌≡◌, ◌∙◌, sym, ap, ℕ, ◌+◌, ◌-◌, ◌/◌, ◌%◌, ◌<◌, ◌≤◌, [], ◌∷◌, ◌++◌, append_assoc, append-nil, arith}
use Rattle.pv_model.specs.Machine.{Bytes}
use Rattle.pv_state_encoding.specs.Packed.{packed_in, packed, IsAdded}
use Rattle.pv_state_encoding.proofs.AppendedNumbers.{packed-is, packed-small, packed-more, low-more}
use Rattle.pv_state_encoding.proofs.numbers.push_number.Goals as goal
use Rattle.pv_state_encoding.proofs.numbers.push_number.Goals.{then-loop-left-test+else-rest-ge128, else-loop-left-test}

pub loop-left-init : goal.loop-left-init
loop-left-init c = record {
  text = ap (λ bs. c.args.key.now.items ++ bs) (sym (packed-is c.args.number));
  low = omega arith;
}

pub loop-left-preserved : goal.loop-left-preserved
loop-left-preserved c =
    let left = c.loop-left.left in
    let rest = c.loop-left.rest in
    let large : 128 ≤ rest = omega arith in
    let some : 0 < left = omega arith in
    record {
      text =
          ap (λ bs. bs ++ packed_in (left - 1) (rest / 128)) c.in_ok-push.ensures.items
          ∙ append_assoc c.loop-left.key.items ((128 + rest % 128) ∷ []) (packed_in (left - 1) (rest / 128))
          ∙ ap (λ bs. c.loop-left.key.items ++ bs) (sym (packed-more left rest some large)) ∙ c.loop-left.invariant.text;
      low = low-more left rest some c.loop-left.invariant.low;
    }

last : (old now new : Bytes) (number left rest : ℕ) → now ++ packed_in left rest ≡ old ++ packed number → packed_in left rest ≡ rest ∷ [] → new ≡ now ++ rest ∷ [] → IsAdded (number ∷ []) old new
last old now new number left rest text small push = record {
  is = push ∙ ap (λ bs. now ++ bs) (sym small) ∙ text ∙ ap (λ bs. old ++ bs) (sym (append-nil (packed number)));
}

pub returns : goal.returns
returns c =
    elim c.loop-left-test.branch [
      | then-loop-left-test+else-rest-ge128 w ↦
          last c.args.key.now.items c.loop-left.key.items c.push-2.new.self.items c.args.number c.loop-left.left c.loop-left.rest c.loop-left.invariant.text
          (packed-small c.loop-left.left c.loop-left.rest (let h = w.if-rest-ge128.false in omega arith)) c.in_ok-push-2.ensures.items
      | else-loop-left-test w ↦
          last c.args.key.now.items c.loop-left.key.items c.push-2.new.self.items c.args.number c.loop-left.left c.loop-left.rest c.loop-left.invariant.text
          (packed-none c.loop-left.left c.loop-left.rest (let h = w.loop-left-test.false in omega arith)) c.in_ok-push-2.ensures.items
    ]
  where
    packed-none : (k n : ℕ) → k ≤ 0 → packed_in k n ≡ n ∷ []
    packed-none k n none = let zero_is : k ≡ 0 = omega arith in ap (λ j. packed_in j n) zero_is
