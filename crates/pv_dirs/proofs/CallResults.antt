-- The consequences of a call's result.
use Rattle.std.proofs.Common.{◌≡◌, ℕ, Option, None, Some, Result, Ok, Err, true, sym, subst}
use Rattle.std.specs.Prelude.{OnOk, OnErr, IfNone, IfSome}
use Rattle.std.specs.Result.{is_ok}

-- a property of the result of either outcome
pub either_way : {E X : Type 0} (P : X → Type 0) (r : Result (Unit {0}) E) (old after new : X) → OnOk r (new ≡ after) → OnErr r (new ≡ old) → P after → P old → P new
either_way P (Ok u) old after new ok err p q = subst P (sym ok) p
either_way P (Err e) old after new ok err p q = subst P (sym err) q

pub on_ok : {E P Q : Type 0} (r : Result (Unit {0}) E) → OnOk r P → (P → Q) → OnOk r Q
on_ok (Ok u) p f = f p
on_ok (Err e) p f = p

-- a property that holds on success
pub ok_is : {E P : Type 0} (r : Result (Unit {0}) E) → is_ok r ≡ true → OnOk r P → P
ok_is (Ok u) is p = p
ok_is (Err e) is p = cc

pub either_number : {X : Type 0} (P : X → Type 0) (Q : ℕ → Type 0) (r : Option ℕ) (old new : X) (after : ℕ → X) → IfNone r (new ≡ old) → IfSome r Q → IfSome r (λ n. new ≡ after n) → P old → ((n : ℕ) → Q n → P (after n)) → P new
either_number P Q None old new after none within some p q = subst P (sym none) p
either_number P Q (Some n) old new after none within some p q = subst P (sym some) (q n within)

pub if_some_both : {X : Type 0} (r : Option X) (P Q R : X → Type 0) → IfSome r P → IfSome r Q → ((n : X) → P n → Q n → R n) → IfSome r R
if_some_both None P Q R p q f = p
if_some_both (Some n) P Q R p q f = f n p q

pub on_none : {X P Q : Type 0} (r : Option X) → IfNone r P → (P → Q) → IfNone r Q
on_none None p f = f p
on_none (Some x) p f = p
