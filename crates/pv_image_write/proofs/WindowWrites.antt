-- Bytes that are put into a window, and written in parts.
use Rattle.std.proofs.Common.{◌≡◌, ◌≤◌, [], ◌++◌, length, Option, refl, ap, sym, subst, ◌∙◌, arith}
use Rattle.std.proofs.lemmas.List.{append_assoc, append-nil, length-append}
use Rattle.pv_model.specs.Machine.{Bytes}
use Rattle.pv_streams.specs.Sinks.{and_all, WritesPrefix}
use Rattle.pv_streams.proofs.OutputTexts.{begins_then, written_both, written_none}
use Rattle.pv_image_write.specs.Written.{IsPartlyWritten}

pub put-start : (before : Option Bytes) (window : Bytes) → IsPartlyWritten before before window window
put-start before window = record { front = []; written = written_none before; whole = refl }

-- more bytes are put into it
pub put-following : (before now : Option Bytes) (window all more : Bytes) → IsPartlyWritten before now window all → IsPartlyWritten before now (window ++ more) (all ++ more)
put-following before now window all more p = record { front = p.front; written = p.written; whole = ap (λ (xs : Bytes). xs ++ more) p.whole ∙ append_assoc p.front window more }

pub put-more : (before now : Option Bytes) (window all new more : Bytes) → IsPartlyWritten before now window all → new ≡ window ++ more → IsPartlyWritten before now new (all ++ more)
put-more before now window all new more p is = subst (λ (xs : Bytes). IsPartlyWritten before now xs (all ++ more)) (sym is) (put-following before now window all more p)

-- some of its bytes were written
pub put-on : (before mid after : Option Bytes) (window all new : Bytes) → IsPartlyWritten before mid window all → IsPartlyWritten mid after new window → IsPartlyWritten before after new all
put-on before mid after window all new p q = record {
  front = p.front ++ q.front;
  written = written_both p.front q.front before mid after p.written q.written;
  whole = p.whole ∙ ap (λ (xs : Bytes). p.front ++ xs) q.whole ∙ sym (append_assoc p.front q.front new);
}

-- all of its bytes were written
pub put-as_written : (before after : Option Bytes) (window new : Bytes) → after ≡ and_all before window → new ≡ [] → IsPartlyWritten before after new window
put-as_written before after window new written empty = record {
  front = window;
  written = written;
  whole = sym (append-nil window) ∙ ap (λ (xs : Bytes). window ++ xs) (sym empty);
}

pub put-all : (before mid after : Option Bytes) (window all : Bytes) → IsPartlyWritten before mid window all → after ≡ and_all mid window → after ≡ and_all before all
put-all before mid after window all p is = written_both p.front window before mid after p.written is ∙ ap (and_all before) (sym p.whole)

-- a prefix of its bytes was written
pub put-cut : (before mid after : Option Bytes) (window all : Bytes) → IsPartlyWritten before mid window all → WritesPrefix window mid after → WritesPrefix all before after
put-cut before mid after window all p begun =
    subst (λ (xs : Bytes). WritesPrefix xs before after) (sym p.whole) (begins_then p.front window before mid after p.written begun)

-- it is at most as long as all bytes
pub put-within : (before now : Option Bytes) (window all : Bytes) → IsPartlyWritten before now window all → length window ≤ length all
put-within before now window all p = omega (arith, ap (λ (xs : Bytes). length xs) p.whole, length-append p.front window)
