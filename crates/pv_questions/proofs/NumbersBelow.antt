-- A test of the numbers below a bound.
use Rattle.std.proofs.Common.{◌≡◌, ◌∙◌, ◌+◌, ◌<◌, ℕ, zero, suc, nat_lt, Bool, true, false, ap, ap₂, sym, refl, arith}
use Rattle.std.specs.Prelude.{◌||◌}
use Rattle.std.proofs.lemmas.Bool.{ltb-false, ltb-true}
use Rattle.pv_model_questions.specs.Notes.{any_below}

or-true : (a : Bool) → (a || true) ≡ true
or-true true = refl
or-true false = refl

-- a number below the bound passes the test
pub any-at : (test : ℕ → Bool) (n bound : ℕ) → n < bound → test n ≡ true → any_below test bound ≡ true
any-at test n zero less is = absurd (omega (arith, less))
any-at test n (suc b) less is =
    elim (nat_lt n b) as (λ x. nat_lt n b ≡ x → (any_below test b || test b) ≡ true) [
      | true ↦ λ below. ap (λ x. x || test b) (any-at test n b (ltb-true n b below) is)
      | false ↦ λ above.
          let few = ltb-false n b above in
          let same : b ≡ n = omega (arith, less, few) in ap (λ x. any_below test b || x) (ap test same ∙ is) ∙ or-true (any_below test b)
    ] refl

-- one more number fails the test
pub none-next : (test : ℕ → Bool) (n : ℕ) → any_below test n ≡ false → test n ≡ false → any_below test (n + 1) ≡ false
none-next test n none fails = let next : n + 1 ≡ suc n = omega arith in ap (any_below test) next ∙ ap₂ (λ a b. a || b) none fails
