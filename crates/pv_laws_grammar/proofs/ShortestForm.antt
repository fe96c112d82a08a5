-- The shortest form of a text.
use Rattle.std.proofs.Common.{◌<◌, ◌≤◌, [], ◌∷◌, ◌++◌, length, refl}
use Rattle.std.specs.Prelude.{flat_map, codes}
use Rattle.std.proofs.lemmas.Bool.{cond_both}
use Rattle.std.specs.List.{AllByRecursion}
use Rattle.pv_model.specs.Machine.{Bytes, EncodesText, is_plain, hex_byte, quote_byte, quote}
use Rattle.pv_model.specs.Grammar.Encoding.{EncodesBytes, nothing, plain, escaped}

abbrev pub AreBytes : Bytes → Type 0
AreBytes value = AllByRecursion (λ b. (0 < b) × (b < 256)) value

EncodesBytes-quoted : (value : Bytes) → AreBytes value → EncodesBytes value (flat_map quote_byte value)
EncodesBytes-quoted [] h = nothing
EncodesBytes-quoted (b ∷ value) h = cond_both (is_plain b) (b ∷ []) (codes "\\x" ++ hex_byte b) (λ form. EncodesBytes (b ∷ value) (form ++ flat_map quote_byte value))
    (λ is. plain b value (flat_map quote_byte value) is (EncodesBytes-quoted value h.1))
    (λ is. escaped b value (flat_map quote_byte value) h.0.0 h.0.1 (EncodesBytes-quoted value h.1))

pub EncodesText-quote : (value : Bytes) → AreBytes value → length value ≤ 1100 → EncodesText value (quote value)
EncodesText-quote value h fits = (flat_map quote_byte value, EncodesBytes-quoted value h, fits, refl)
