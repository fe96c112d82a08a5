-- Messages, part by part.
use Rattle.std.proofs.Common.{◌≡◌, ◌++◌, ◌∷◌, ◌∙◌, ap, refl, sym, subst, append_assoc, ℕ, Bool, true, false, [], codes}
use Rattle.std.specs.Prelude.{Result, Ok, Err, OnOk, OnErr}
use Rattle.pv_model.specs.declared.stream.Failed.{Failed}
use Rattle.pv_model.specs.declared.stream.Sink.{Ghosts as Writing}
use Rattle.pv_model.specs.Machine.{Bytes, Rose}
use Rattle.pv_streams.specs.Sinks.{Writes, WritesPrefix, and_all}
use Rattle.pv_streams.proofs.SinkWrites.{begins_whole, written_nothing}
use Rattle.pv_streams.proofs.OutputTexts.{begins_first, begins_then, written_both, written_none}
use Rattle.pv_cli_line.specs.Messages.{EndsInNewline, WritesMessage, WritesMore, WritesText}

module _ {W : Type 0} (sink : Writing W) where
  -- nothing is written yet
  pub text_begun : (before : W) → WritesText sink before before (Ok false)
  text_begun before = record {
    text = [];
    written = record { whole = written_none (sink.written before); prefix = tt; failed = tt; quiet = refl };
    ends = λ bad. cc bad;
  }

  -- one more part was written
  pub text_grown : (before mid after : W) (was is : Bool) (part front : Bytes) (last : ℕ)
      → WritesText sink before mid (Ok was)
      → sink.written after ≡ and_all (sink.written mid) part → sink.failures after ≡ sink.failures mid
      → part ≡ front ++ last ∷ [] → (is ≡ true → last ≡ 10)
      → WritesText sink before after (Ok is)
  text_grown before mid after was is part front last has whole quiet ends newline = record {
    text = has.text ++ part;
    written = record {
      whole = written_both has.text part _ _ _ has.written.whole whole;
      prefix = tt;
      failed = tt;
      quiet = quiet ∙ has.written.quiet;
    };
    ends = λ e. (
      has.text ++ front,
      ap (λ p. has.text ++ p) (ends ∙ ap (λ x. front ++ x ∷ []) (newline e)) ∙ sym (append_assoc has.text front (codes "\n")),
    );
  }

  -- a write of one more part failed
  pub text_refused : (before mid after : W) (was : Bool) (part : Bytes) (r : Result Bool Failed)
      → WritesText sink before mid (Ok was)
      → WritesPrefix part (sink.written mid) (sink.written after) → Rose (sink.failures mid) (sink.failures after)
      → OnOk r ⊥ → WritesText sink before after r
  text_refused before mid after was part (Ok x) has prefix rose never = absurd never
  text_refused before mid after was part (Err e) has prefix rose never = record {
    text = has.text ++ part;
    written = record {
      whole = tt;
      prefix = begins_then has.text part _ _ _ has.written.whole prefix;
      failed = subst (λ (n : ℕ). Rose n (sink.failures after)) has.written.quiet rose;
      quiet = tt;
    };
    ends = tt;
  }

  -- a text that was not written completely is not a complete message
  pub message_refused : (before after : W) (e : Failed) (r : Result (Unit {0}) Failed) → WritesText sink before after (Err e) → OnOk r ⊥ → WritesMessage sink before after r
  message_refused before after e (Ok x) has never = absurd never
  message_refused before after e (Err f) has never = record {
    text = has.text ++ codes "\n";
    ends = (has.text, refl);
    written = record { whole = tt; prefix = begins_first has.text (codes "\n") _ _ has.written.prefix; failed = has.written.failed; quiet = tt };
    flushed = tt;
  }

  -- the newline was not written
  pub newline_refused : (before mid after : W) (was : Bool) (r : Result (Unit {0}) Failed)
      → WritesText sink before mid (Ok was) → WritesPrefix (codes "\n") (sink.written mid) (sink.written after) → Rose (sink.failures mid) (sink.failures after)
      → OnOk r ⊥ → WritesMessage sink before after r
  newline_refused before mid after was (Ok x) has prefix rose never = absurd never
  newline_refused before mid after was (Err f) has prefix rose never = record {
    text = has.text ++ codes "\n";
    ends = (has.text, refl);
    written = record {
      whole = tt;
      prefix = begins_then has.text (codes "\n") _ _ _ has.written.whole prefix;
      failed = subst (λ (n : ℕ). Rose n (sink.failures after)) has.written.quiet rose;
      quiet = tt;
    };
    flushed = tt;
  }

  -- a message was written, and then flushed
  pub message_flushed : (text : Bytes) (before mid after : W) (r : Result (Unit {0}) Failed)
      → EndsInNewline text → sink.written mid ≡ and_all (sink.written before) text → sink.failures mid ≡ sink.failures before
      → sink.written after ≡ sink.written mid → OnOk r (sink.buffered after ≡ 0) → OnOk r (sink.failures after ≡ sink.failures mid)
      → OnErr r (Rose (sink.failures mid) (sink.failures after)) → WritesMessage sink before after r
  message_flushed text before mid after (Ok x) ends whole quiet stays empty same rose = record {
    text = text;
    ends = ends;
    written = record { whole = stays ∙ whole; prefix = tt; failed = tt; quiet = same ∙ quiet };
    flushed = empty;
  }
  message_flushed text before mid after (Err e) ends whole quiet stays empty same rose = record {
    text = text;
    ends = ends;
    written = record {
      whole = tt;
      prefix = begins_whole text _ _ (stays ∙ whole);
      failed = subst (λ (n : ℕ). Rose n (sink.failures after)) quiet rose;
      quiet = tt;
    };
    flushed = tt;
  }

  -- a text that ends in a newline was flushed; or a newline was added, and all was flushed
  pub ended_flushed : (before mid after : W) (r : Result (Unit {0}) Failed) → WritesText sink before mid (Ok true)
      → sink.written after ≡ sink.written mid → OnOk r (sink.buffered after ≡ 0) → OnOk r (sink.failures after ≡ sink.failures mid)
      → OnErr r (Rose (sink.failures mid) (sink.failures after)) → WritesMessage sink before after r
  ended_flushed before mid after r has stays empty same rose =
      message_flushed has.text before mid after r (has.ends refl) has.written.whole has.written.quiet stays empty same rose

  pub newline_flushed : (before mid next after : W) (was : Bool) (r : Result (Unit {0}) Failed) → WritesText sink before mid (Ok was)
      → sink.written next ≡ and_all (sink.written mid) (codes "\n") → sink.failures next ≡ sink.failures mid
      → sink.written after ≡ sink.written next → OnOk r (sink.buffered after ≡ 0) → OnOk r (sink.failures after ≡ sink.failures next)
      → OnErr r (Rose (sink.failures next) (sink.failures after)) → WritesMessage sink before after r
  newline_flushed before mid next after was r has newline quiet stays empty same rose =
      message_flushed (has.text ++ codes "\n") before next after r (has.text, refl)
      (written_both has.text (codes "\n") _ _ _ has.written.whole newline) (quiet ∙ has.written.quiet) stays empty same rose

  -- a text or a prefix of it is more text
  pub more_written : (text : Bytes) (before after : W) (r : Result (Unit {0}) Failed) → Writes sink text before after r → WritesMore sink before after
  more_written text before after (Ok x) h = (text, begins_whole text _ _ h.whole)
  more_written text before after (Err e) h = (text, h.prefix)

  -- nothing is more text
  pub more_nothing : (before : W) → WritesMore sink before before
  more_nothing before = ([], (0, sym (written_nothing [] (sink.written before))))
