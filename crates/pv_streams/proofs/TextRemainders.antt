-- The part of a text that was written, and the rest that remains.
use Rattle.std.proofs.Common.{◌≡◌, ℕ, ◌++◌, ◌∙◌, ap, ap₂, sym, subst, [], take, drop, flat_map, append_assoc, refl, Option}
use Rattle.std.proofs.lemmas.List.{append-nil, take-append-drop}
use Rattle.std.proofs.lemmas.Grind.{flat_map-append}
use Rattle.pv_model.specs.Machine.{Bytes, quote_byte}
use Rattle.pv_streams.specs.Sinks.{and_all, WritesPrefix}
use Rattle.pv_streams.proofs.SinkWrites.{begins_whole}
use Rattle.pv_streams.proofs.OutputTexts.{begins_first, begins_then, written_both, written_none}

-- all of a text except the rest was written
pub record LeavesRest (rest text : Bytes) (before after : Option Bytes) : Type 0 where
  pub done : Bytes
  pub written : after ≡ and_all before done
  pub whole : done ++ rest ≡ text

-- before the first part, the whole text remains
pub rest_all : (text : Bytes) (before : Option Bytes) → LeavesRest text text before before
rest_all text before = record { done = []; written = written_none before; whole = refl }

module _ (left component rest text : Bytes) (before mid after : Option Bytes) (so_far : LeavesRest left text before mid) (is : left ≡ component ++ rest) where
  split : so_far.done ++ (component ++ rest) ≡ text
  split = ap (λ bs. so_far.done ++ bs) (sym is) ∙ so_far.whole

  -- after a part, the rest after it remains
  pub rest_after : after ≡ and_all mid component → LeavesRest rest text before after
  rest_after more = record {
    done = so_far.done ++ component;
    written = written_both so_far.done component before mid after so_far.written more;
    whole = append_assoc so_far.done component rest ∙ split;
  }

  -- if a part fails, a prefix of the text was written
  pub rest_begins : WritesPrefix component mid after → WritesPrefix text before after
  rest_begins begun =
      subst (λ (bs : Bytes). WritesPrefix bs before after) split
      (begins_then so_far.done (component ++ rest) before mid after so_far.written (begins_first component rest mid after begun))

-- if nothing remains, the whole text was written
pub written_text : (text : Bytes) (before after : Option Bytes) → LeavesRest [] text before after → after ≡ and_all before text
written_text text before after left = left.written ∙ ap (and_all before) (sym (append-nil left.done) ∙ left.whole)

-- the output so far is a prefix
pub written_begins : (rest text : Bytes) (before after : Option Bytes) → LeavesRest rest text before after → WritesPrefix text before after
written_begins rest text before after left =
    subst (λ (bs : Bytes). WritesPrefix bs before after) left.whole
    (begins_first left.done rest before after (begins_whole left.done before after left.written))

-- the parts of a text are those of its front and those of the rest
pub components-split : (component : ℕ → Bytes) (text front following as_written : Bytes) (n : ℕ) → front ≡ take n text → following ≡ drop n text → as_written ≡ flat_map component front
    → flat_map component text ≡ as_written ++ flat_map component following
components-split component text front following as_written n first then is =
    ap (flat_map component) (sym (take-append-drop n text)) ∙ flat_map-append component (take n text) (drop n text)
    ∙ ap₂ (λ (a b : Bytes). a ++ flat_map component b) (sym (is ∙ ap (flat_map component) first)) (sym then)

-- bytes that represent themselves, and then the others
pub plain-split : (text front following : Bytes) (n : ℕ) → front ≡ take n text → following ≡ drop n text → flat_map quote_byte (take n text) ≡ take n text
    → flat_map quote_byte text ≡ front ++ flat_map quote_byte following
plain-split text front following n first then same =
    components-split quote_byte text front following front n first then (first ∙ sym same ∙ ap (flat_map quote_byte) (sym first))
