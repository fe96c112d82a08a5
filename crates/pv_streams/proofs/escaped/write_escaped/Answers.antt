use Rattle.std.proofs.Common.{◌≡◌, ◌∙◌, ◌++◌, ℕ, take, drop, flat_map, refl, rules}
use Rattle.pv_streams.proofs.TextRemainders.{rest_after, rest_begins, components-split, plain-split, rest_all, written_text}
use Rattle.pv_model.specs.Machine.{Bytes, quote_byte}
use Rattle.pv_streams.proofs.OutputTexts.{on_err}
use Rattle.pv_streams.proofs.escaped.write_escaped.Goals as goal

-- a part, and the rest
part-split : (text front following : Bytes) (n : ℕ) → front ≡ take n text → following ≡ drop n text
    → flat_map quote_byte text ≡ flat_map quote_byte front ++ flat_map quote_byte following
part-split text front following n first then =
    components-split quote_byte text front following (flat_map quote_byte front) n first then refl

pub returns-in_err-write_whole : goal.returns-in_err-write_whole
returns-in_err-write_whole g c = record {
  whole = search (rules, rest_all, written_text);
  prefix =
      (let is = plain-split c.loop-rest.rest.now c.split_at.result.0.now c.split_at.result.1.now c.plain_count-plain.result
      c.split_at.ensures.front c.split_at.ensures.back c.plain_count-plain.ensures.same in
      on_err c.from_residual.result (rest_begins _ c.split_at.result.0.now _ _ _ _ _ c.loop-rest.invariant.left is c.in_err-write_whole.ensures.prefix));
  failed = search (rules, rest_all, written_text);
  quiet = search (rules, rest_all, written_text);
}

pub loop-rest-preserved-then-plain-gt0 : goal.loop-rest-preserved-then-plain-gt0
loop-rest-preserved-then-plain-gt0 g c =
    let is = plain-split c.loop-rest.rest.now c.split_at.result.0.now c.split_at.result.1.now c.plain_count-plain.result
    c.split_at.ensures.front c.split_at.ensures.back c.plain_count-plain.ensures.same in
    record {
      left = rest_after _ c.split_at.result.0.now _ _ _ _ _ c.loop-rest.invariant.left is c.in_ok-write_whole.ensures.whole;
      quiet = c.in_ok-write_whole.ensures.quiet ∙ c.loop-rest.invariant.quiet;
    }

pub returns-in_err-write_part : goal.returns-in_err-write_part
returns-in_err-write_part g c = record {
  whole = search (rules, rest_all, written_text);
  prefix =
      (let front = c.split_at-else-plain-gt0.result.0.now in
      let is = part-split c.loop-rest.rest.now front c.split_at-else-plain-gt0.result.1.now _ c.split_at-else-plain-gt0.ensures.front c.split_at-else-plain-gt0.ensures.back in
      on_err c.from_residual-in_err-write_part.result (rest_begins _ (flat_map quote_byte front) _ _ _ _ _ c.loop-rest.invariant.left is c.in_err-write_part.ensures.prefix));
  failed = search (rules, rest_all, written_text);
  quiet = search (rules, rest_all, written_text);
}

pub loop-rest-preserved : goal.loop-rest-preserved
loop-rest-preserved g c =
    let front = c.split_at-else-plain-gt0.result.0.now in
    let is = part-split c.loop-rest.rest.now front c.split_at-else-plain-gt0.result.1.now _ c.split_at-else-plain-gt0.ensures.front c.split_at-else-plain-gt0.ensures.back in
    record {
      left = rest_after _ (flat_map quote_byte front) _ _ _ _ _ c.loop-rest.invariant.left is c.in_ok-write_part.ensures.whole;
      quiet = c.in_ok-write_part.ensures.quiet ∙ c.loop-rest.invariant.quiet;
    }
