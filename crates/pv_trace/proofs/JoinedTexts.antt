-- Eight texts appended one by one.
use Rattle.std.proofs.Common.{◌≡◌, ◌++◌, ◌∙◌, ap, append_assoc}
use Rattle.pv_model.specs.Machine.{Bytes}

-- one more text
following : (old a b mid new : Bytes) → mid ≡ old ++ a → new ≡ mid ++ b → new ≡ old ++ (a ++ b)
following old a b mid new first second = second ∙ ap (λ bs. bs ++ b) first ∙ append_assoc old a b

-- eight texts appended to another
pub eight_joined : (old a b c d e f g h s t u v w x y z : Bytes)
    → s ≡ old ++ a → t ≡ s ++ b → u ≡ t ++ c → v ≡ u ++ d → w ≡ v ++ e → x ≡ w ++ f → y ≡ x ++ g → z ≡ y ++ h
    → z ≡ old ++ (a ++ b ++ c ++ d ++ e ++ f ++ g ++ h)
eight_joined old a b c d e f g h s t u v w x y z i j k l m n o p =
    following old (a ++ b ++ c ++ d ++ e ++ f ++ g) h y z
    (following old (a ++ b ++ c ++ d ++ e ++ f) g x y
    (following old (a ++ b ++ c ++ d ++ e) f w x
    (following old (a ++ b ++ c ++ d) e v w
    (following old (a ++ b ++ c) d u v (following old (a ++ b) c t u (following old a b s t i j) k) l) m) n) o) p
