-- Proper prefixes of the text of an answer: a prefix of its first lines, if other lines follow.
use Rattle.std.proofs.Common.{◌≡◌, ◌∙◌, ◌+◌, ◌<◌, ◌++◌, ◌∷◌, [], ap, sym, ℕ, zero, suc, List, length, take, append_assoc, arith, codes, refl, subst}
use Rattle.std.specs.Prelude.{Option, None, Some, Result, Ok, Err}
use Rattle.std.specs.Fmt.{decimal}
use Rattle.std.specs.Result.{IsErrAnd}
use Rattle.std.proofs.lemmas.Grind.{flat_map-append}
use Rattle.std.proofs.lemmas.List.{length-append}
use Rattle.std.proofs.lemmas.Result.{err_from_is_err_and}
use Rattle.std.proofs.Math.Seq.{take-append-add}
use Rattle.pv_streams.specs.ProperPrefixes.{StopsInside, WritesProperPrefix}
use Rattle.pv_model.specs.declared.stream.Sink.{Ghosts as Writing}
use Rattle.pv_model.specs.Machine.{AnswerLine, answer_bytes, answer_line_bytes, Bytes}
use Rattle.pv_model.specs.Stream.{and_front}
use Rattle.pv_model.specs.Trace.{pad_left, pad_right, text_line}
use Rattle.pv_streams.specs.declared.stop.Stop.{Stop}
use Rattle.pv_streams.specs.declared.stop.Stop.TheVariants.{Memory}
use Rattle.pv_streams.specs.Sinks.{and_all, WritesOr, WritesPrefix}
use Rattle.pv_streams.proofs.SinkWrites.{written_nothing}

-- ---- texts that are not empty

one-last : (a b c d e : Bytes) (x : ℕ) → 0 < length (a ++ b ++ c ++ d ++ e ++ x ∷ [])
one-last a b c d e x = simp length-append (omega arith)

-- a line is not empty
line-long : (l : AnswerLine) → 0 < length (answer_line_bytes l)
unfolding text_line
line-long l = one-last (pad_left 5 (decimal l.pid)) (codes " ") (pad_right 4 l.word) (codes "  ") l.text 10

-- lines with a line among them are not empty
pub lines-long : (before : List AnswerLine) (l : AnswerLine) (after : List AnswerLine) → 0 < length (answer_bytes (before ++ l ∷ after))
lines-long before l after =
    let parts : length (answer_bytes (before ++ l ∷ after)) ≡ length (answer_bytes before ++ (answer_line_bytes l ++ answer_bytes after)) =
    ap length (flat_map-append answer_line_bytes before (l ∷ after)) in
    omega (arith, parts, length-append (answer_bytes before) (answer_line_bytes l ++ answer_bytes after), length-append (answer_line_bytes l) (answer_bytes after), line-long l)

-- ---- proper prefixes

-- a prefix of a text is a proper prefix of a longer text
front-first : (a b : Bytes) (k : ℕ) → 0 < length b → (n : ℕ) × (n < length (a ++ b)) × (take n (a ++ b) ≡ take k a)
front-first [] b zero more = (0, more, refl)
front-first [] b (suc k) more = (0, more, refl)
front-first (x ∷ a) b zero more = (0, omega arith, refl)
front-first (x ∷ a) b (suc k) more = let p = front-first a b k more in (suc p.0, omega (arith, p.1), ap (λ bs. x ∷ bs) p.2)

pub proper_first : (a b : Bytes) (before after : Option Bytes) → 0 < length b → WritesPrefix a before after → WritesProperPrefix (a ++ b) before after
proper_first a b None after more written = (0, omega (arith, length-append a b), written.1)
proper_first a b (Some had) after more written = let p = front-first a b written.0 more in (p.0, p.1, written.1 ∙ ap (λ bs. Some (had ++ bs)) (sym p.2))

-- a text and then a proper prefix of another are a proper prefix of both
pub proper_then : (a b : Bytes) (before mid after : Option Bytes) → mid ≡ and_all before a → WritesProperPrefix b mid after → WritesProperPrefix (a ++ b) before after
proper_then a b None mid after first written = (length a + written.0, omega (arith, length-append a b, written.1), written.2 ∙ ap (λ t. and_front t written.0 b) first)
proper_then a b (Some had) mid after first written = (
  length a + written.0,
  omega (arith, length-append a b, written.1),
  written.2 ∙ ap (λ t. and_front t written.0 b) first ∙ ap Some (append_assoc had a (take written.0 b)) ∙ ap (λ bs. Some (had ++ bs)) (sym (take-append-add a b written.0)),
)

-- nothing is a proper prefix of a text that is not empty
pub proper_nothing : (text : Bytes) (before : Option Bytes) → 0 < length text → WritesProperPrefix text before before
proper_nothing text before long = (0, long, sym (written_nothing text before))

-- ---- answers that stop because there is no memory

-- another writer stopped
same_stop : {T : Type 0} (r : Result T Stop) (stop : Stop) → IsErrAnd r (λ e. e ≡ stop) → r ≡ Err Memory → stop ≡ Memory
same_stop r stop ended is = let p = err_from_is_err_and r ended in cc (p.1, p.2, is)

module _ {W T U : Type 0} {r : Result T Stop} where
  -- another writer stopped in the first part of the text
  pub inside_first : {E : Type 0} {sink : Writing W} {fails : E → ℕ → ℕ → Type 0} {a text : Bytes} {old new : W} {e : E} (b : Bytes) → a ++ b ≡ text → 0 < length b
      → WritesOr {T = U} sink fails a old new (Err e) → StopsInside sink text old new r
  inside_first {sink = sink} {a = a} {old = old} {new = new} b same more one =
      λ is. subst (λ (bs : Bytes). WritesProperPrefix bs (sink.written old) (sink.written new)) same (proper_first a b (sink.written old) (sink.written new) more one.prefix)

  -- another writer stopped in the whole text
  pub inside_stopped : {a text : Bytes} {stop : Stop} (sink : Writing W) (old new : W) → IsErrAnd r (λ e. e ≡ stop) → a ≡ text
      → StopsInside {T = U} sink a old new (Err stop) → StopsInside sink text old new r
  inside_stopped {stop = stop} sink old new ended same one =
      λ is. subst (λ (bs : Bytes). WritesProperPrefix bs (sink.written old) (sink.written new)) same (one (ap (λ (s : Stop). Err s) (same_stop r stop ended is)))

  -- another writer stopped after the first part
  pub inside_then : {V E : Type 0} {sink : Writing W} {fails : E → ℕ → ℕ → Type 0} {a b c text : Bytes} {old mid : W} {x : V} {stop : Stop} (new : W)
      → IsErrAnd r (λ e. e ≡ stop) → a ++ c ≡ text → b ≡ c → WritesOr sink fails a old mid (Ok x) → StopsInside {T = U} sink b mid new (Err stop) → StopsInside sink text old new r
  inside_then {sink = sink} {a = a} {b = b} {old = old} {mid = mid} {stop = stop} new ended same last first second =
      λ is. subst (λ (bs : Bytes). WritesProperPrefix bs (sink.written old) (sink.written new)) (ap (λ (bs : Bytes). a ++ bs) last ∙ same)
      (proper_then a b (sink.written old) (sink.written mid) (sink.written new) first.whole (second (ap (λ (s : Stop). Err s) (same_stop r stop ended is))))

-- nothing was written
pub inside_nothing : {W T : Type 0} (sink : Writing W) (out : W) (text : Bytes) {r : Result T Stop} → 0 < length text → StopsInside sink text out out r
inside_nothing sink out text long = λ is. proper_nothing text (sink.written out) long
