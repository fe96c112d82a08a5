-- Output to sinks, text by text.
use Rattle.std.proofs.Common.{◌≡◌, ◌++◌, ◌∙◌, ap, sym, ℕ, [], ◌∷◌, take, append_assoc, refl, zero, suc, Option, None, Some}
use Rattle.std.specs.Prelude.{OnOk, OnErr, Result, Ok, Err}
use Rattle.std.proofs.lemmas.List.{append-nil}
use Rattle.pv_model.specs.Machine.{Bytes}
use Rattle.pv_model.specs.Stream.{and_front}
use Rattle.pv_streams.specs.Sinks.{and_all, WritesPrefix}

-- a prefix of a text is a prefix of its concatenation with another
front_first : (a b : Bytes) (k : ℕ) → (n : ℕ) × (take n (a ++ b) ≡ take k a)
front_first [] b zero = (0, refl)
front_first [] b (suc k) = (0, refl)
front_first (x ∷ a) b zero = (0, refl)
front_first (x ∷ a) b (suc k) = let p = front_first a b k in (suc p.0, ap (λ bs. x ∷ bs) p.1)

-- a text followed by a prefix of another is a prefix of their concatenation
front_then : (a b : Bytes) (k : ℕ) → (n : ℕ) × (take n (a ++ b) ≡ a ++ take k b)
front_then [] b k = (k, refl)
front_then (x ∷ a) b k = let p = front_then a b k in (suc p.0, ap (λ bs. x ∷ bs) p.1)

-- if a prefix of a text was written, it is a prefix of the concatenation with another text
pub begins_first : (a b : Bytes) (before after : Option Bytes) → WritesPrefix a before after → WritesPrefix (a ++ b) before after
begins_first a b None after written = (0, written.1)
begins_first a b (Some had) after written =
    let p = front_first a b written.0 in (p.0, written.1 ∙ ap (λ bs. Some (had ++ bs)) (sym p.1))

-- a whole text and then a prefix of another are a prefix of their concatenation
pub begins_then : (a b : Bytes) (before mid after : Option Bytes) → mid ≡ and_all before a → WritesPrefix b mid after → WritesPrefix (a ++ b) before after
begins_then a b None mid after first written = (0, written.1 ∙ ap (λ t. and_front t written.0 b) first)
begins_then a b (Some had) mid after first written =
    let p = front_then a b written.0 in
    (p.0, written.1 ∙ ap (λ t. and_front t written.0 b) first ∙ ap Some (append_assoc had a (take written.0 b)) ∙ ap (λ bs. Some (had ++ bs)) (sym p.1))

-- two whole texts are their concatenation
pub written_both : (a b : Bytes) (before mid after : Option Bytes) → mid ≡ and_all before a → after ≡ and_all mid b → after ≡ and_all before (a ++ b)
written_both a b None mid after first second = second ∙ ap (λ t. and_all t b) first
written_both a b (Some had) mid after first second = second ∙ ap (λ t. and_all t b) first ∙ ap Some (append_assoc had a b)

pub written_none : (before : Option Bytes) → before ≡ and_all before []
written_none None = refl
written_none (Some had) = ap Some (sym (append-nil had))

-- an unconditional property also holds on success and on failure
pub on_ok : {T E P : Type 0} (r : Result T E) → P → OnOk r P
on_ok (Ok x) p = p
on_ok (Err e) p = tt

pub on_err : {T E P : Type 0} (r : Result T E) → P → OnErr r P
on_err (Ok x) p = tt
on_err (Err e) p = p
