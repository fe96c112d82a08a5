-- The bytes of messages.
use Rattle.std.proofs.Common.{◌≡◌, ◌∙◌, ap, ℕ, ◌<◌, true, [], ◌∷◌, ◌++◌, arith}
use Rattle.std.specs.Prelude.{◌&&◌}
use Rattle.std.proofs.lemmas.Bool.Decides.{nat_tests}
use Rattle.std.proofs.lemmas.List.Folds.{list_all-append}
use Rattle.pv_model.specs.Machine.{Bytes}
use Rattle.pv_model.specs.Trace.{hex_digit}
use Rattle.pv_source.specs.Saying.{is_printable, IsPrintable}

pub digit_printable : (n : ℕ) → n < 16 → is_printable (hex_digit n) ≡ true
digit_printable n h = grind (arith, nat_tests)

pub printable_more : (bytes : Bytes) (b : ℕ) → IsPrintable bytes → is_printable b ≡ true → IsPrintable (bytes ++ b ∷ [])
printable_more bytes b front last = list_all-append is_printable bytes (b ∷ []) ∙ ap (λ t. t && (is_printable b && true)) front ∙ ap (λ t. t && true) last
