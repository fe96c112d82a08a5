-- The contract of a writer that calls others, by the contracts of these.
use Rattle.std.proofs.Common.{◌≡◌, ◌++◌, [], ◌∙◌, ℕ, append_assoc, ap, refl, sym, subst, Result, Ok, Err}
use Rattle.std.specs.Prelude.{IsErr, OnErr}
use Rattle.std.specs.Result.{IfErr}
use Rattle.std.proofs.lemmas.Bool.{false≢true}
use Rattle.std.proofs.lemmas.List.{append-nil}
use Rattle.std.proofs.lemmas.Result.{on_err_weaker, on_ok_weaker}
use Rattle.pv_model.specs.declared.stream.Sink.{Ghosts as Writing}
use Rattle.pv_model.specs.Machine.{Bytes, Rose}
use Rattle.pv_streams.specs.Sinks.{Writes, WritesOr}
use Rattle.pv_streams.proofs.OutputTexts.{begins_first, begins_then, written_both, written_none}

module _ {W T E : Type 0} {sink : Writing W} where
  -- the output of a text is the output of an equal text
  pub writes_as : {a b : Bytes} {old new : W} {r : Result T E} → a ≡ b → Writes sink a old new r → Writes sink b old new r
  writes_as {old = old} {new = new} {r = r} same one = subst (λ (bs : Bytes). Writes sink bs old new r) same one

  -- a writer that writes nothing
  pub writes_none : {old : W} {x : T} → Writes {E = E} sink [] old old (Ok x)
  writes_none {old = old} = record { whole = written_none (sink.written old); prefix = tt; failed = tt; quiet = refl }

  -- a writer that failed on a text has failed on a longer text
  pub writes_longer : {a : Bytes} (b : Bytes) {old new : W} {e : E} → Writes {T = T} sink a old new (Err e) → Writes {T = T} sink (a ++ b) old new (Err e)
  writes_longer {a = a} b one = record { whole = tt; prefix = begins_first a b _ _ one.prefix; failed = one.failed; quiet = tt }

  module _ {U F : Type 0} where
    -- two writers, the first of which wrote its text
    pub writes_both : {a b : Bytes} {old mid new : W} {x : U} {r : Result T E} → Writes {E = F} sink a old mid (Ok x) → Writes sink b mid new r → Writes sink (a ++ b) old new r
    writes_both {a = a} {b = b} {new = new} {r = r} first second = record {
      whole = on_ok_weaker r (λ last. written_both a b _ _ _ first.whole last) second.whole;
      prefix = on_err_weaker r (λ begun. begins_then a b _ _ _ first.whole begun) second.prefix;
      failed = subst (λ (n : ℕ). OnErr r (Rose n (sink.failures new))) first.quiet second.failed;
      quiet = on_ok_weaker r (λ same. same ∙ first.quiet) second.quiet;
    }

    -- the result of a writer is changed, but not whether it is an error
    pub writes_failed : {a : Bytes} {old new : W} {e : F} {r : Result T E} → IsErr r → Writes {T = U} sink a old new (Err e) → Writes sink a old new r
    writes_failed {r = Ok x} ended one = absurd (false≢true ended)
    writes_failed {r = Err e} ended one = record { whole = tt; prefix = one.prefix; failed = one.failed; quiet = tt }

    pub writes_ok : {a : Bytes} {old new : W} {x : U} {y : T} → Writes {E = F} sink a old new (Ok x) → Writes {E = E} sink a old new (Ok y)
    writes_ok one = record { whole = one.whole; prefix = tt; failed = tt; quiet = one.quiet }

-- all of a text except the rest is written
pub record WritesBut {W : Type 0} (sink : Writing W) (rest text : Bytes) (old now : W) : Type 0 where
  pub done : Bytes
  pub written : Writes {T = Unit {0}} {E = Unit {0}} sink done old now (Ok tt)
  pub whole : done ++ rest ≡ text

module _ {W : Type 0} {sink : Writing W} {text : Bytes} where
  -- before the first part, the whole text remains
  pub but_from : {left : Bytes} {old : W} → left ≡ text → WritesBut sink left text old old
  but_from same = record { done = []; written = writes_none; whole = same }

  -- after a part, the rest after it remains
  pub but_after : {T E : Type 0} {left component rest : Bytes} {old mid new : W} {x : T}
      → WritesBut sink left text old mid → left ≡ component ++ rest → Writes {E = E} sink component mid new (Ok x) → WritesBut sink rest text old new
  but_after {component = component} {rest = rest} left is more = record {
    done = left.done ++ component;
    written = writes_ok (writes_both left.written more);
    whole = append_assoc left.done component rest ∙ ap (λ bs. left.done ++ bs) (sym is) ∙ left.whole;
  }

  -- if a part fails, the text fails
  pub but_failed : {T E : Type 0} {left component : Bytes} (rest : Bytes) {old mid new : W} {e : E}
      → WritesBut sink left text old mid → left ≡ component ++ rest → Writes {T = T} sink component mid new (Err e) → Writes {T = T} sink text old new (Err e)
  but_failed rest left is failed = writes_as (ap (λ bs. left.done ++ bs) (sym is) ∙ left.whole) (writes_both left.written (writes_longer rest failed))

  -- if nothing remains, the text is written
  pub but_end : {T E : Type 0} {left : Bytes} {old now : W} {x : T} → left ≡ [] → WritesBut sink left text old now → Writes {E = E} sink text old now (Ok x)
  but_end none left = writes_as (sym (append-nil left.done) ∙ ap (λ bs. left.done ++ bs) (sym none) ∙ left.whole) (writes_ok left.written)

-- ---- writers that can also fail for another reason

module _ {W T E : Type 0} {sink : Writing W} {fails : E → ℕ → ℕ → Type 0} where
  pub or_as : {a b : Bytes} {old new : W} {r : Result T E} → a ≡ b → WritesOr sink fails a old new r → WritesOr sink fails b old new r
  or_as {old = old} {new = new} {r = r} same one = subst (λ (bs : Bytes). WritesOr sink fails bs old new r) same one

  pub or_longer : {a : Bytes} (b : Bytes) {old new : W} {e : E} → WritesOr {T = T} sink fails a old new (Err e) → WritesOr {T = T} sink fails (a ++ b) old new (Err e)
  or_longer {a = a} b one = record { whole = tt; prefix = begins_first a b _ _ one.prefix; failed = one.failed; quiet = tt }

  module _ {U F : Type 0} where
    pub or_both : {a b : Bytes} {old mid new : W} {x : U} {r : Result T E} → Writes {E = F} sink a old mid (Ok x) → WritesOr sink fails b mid new r → WritesOr sink fails (a ++ b) old new r
    or_both {a = a} {b = b} {new = new} {r = r} first second = record {
      whole = on_ok_weaker r (λ last. written_both a b _ _ _ first.whole last) second.whole;
      prefix = on_err_weaker r (λ begun. begins_then a b _ _ _ first.whole begun) second.prefix;
      failed = subst (λ (n : ℕ). IfErr r (λ error. fails error n (sink.failures new))) first.quiet second.failed;
      quiet = on_ok_weaker r (λ same. same ∙ first.quiet) second.quiet;
    }

    -- a writer that wrote its text did not fail for any reason
    pub or_ok : {a : Bytes} {old new : W} {x : U} {y : T} → Writes {E = F} sink a old new (Ok x) → WritesOr sink fails a old new (Ok y)
    or_ok one = record { whole = one.whole; prefix = tt; failed = tt; quiet = one.quiet }

    pub or_written : {a : Bytes} {old new : W} {x : T} {y : U} → WritesOr sink fails a old new (Ok x) → Writes {E = F} sink a old new (Ok y)
    or_written one = record { whole = one.whole; prefix = tt; failed = tt; quiet = one.quiet }
