-- The output of a sink for a text, as the output for an equal text.
use Rattle.std.proofs.Common.{◌≡◌, ◌++◌, ◌∙◌, Option, ap, subst}
use Rattle.std.specs.Prelude.{OnOk, OnErr, Result}
use Rattle.pv_model.specs.Machine.{Bytes}
use Rattle.std.proofs.lemmas.Result.{on_err_weaker, on_ok_weaker}
use Rattle.pv_streams.specs.Sinks.{and_all, WritesPrefix}
use Rattle.pv_streams.proofs.OutputTexts.{begins_then, written_both}

module _ (a b : Bytes) (before after : Option Bytes) (same : a ≡ b) where
  pub whole_as : {T E : Type 0} (r : Result T E) → OnOk r (after ≡ and_all before a) → OnOk r (after ≡ and_all before b)
  whole_as r reported = subst (λ text. OnOk r (after ≡ and_all before text)) same reported

  pub prefix_as : {T E : Type 0} (r : Result T E) → OnErr r (WritesPrefix a before after) → OnErr r (WritesPrefix b before after)
  prefix_as r reported = subst (λ text. OnErr r (WritesPrefix text before after)) same reported

  pub begun_as : WritesPrefix a before after → WritesPrefix b before after
  begun_as reported = subst (λ text. WritesPrefix text before after) same reported

-- a text that was written in two parts, of which the second may have failed
module _ {T E : Type 0} (r : Result T E) (a b text : Bytes) (before mid after : Option Bytes) (same : a ++ b ≡ text) (first : mid ≡ and_all before a) where
  pub last_whole : OnOk r (after ≡ and_all mid b) → OnOk r (after ≡ and_all before text)
  last_whole reported = on_ok_weaker r (λ last. written_both a b before mid after first last ∙ ap (and_all before) same) reported

  pub last_begun : OnErr r (WritesPrefix b mid after) → OnErr r (WritesPrefix text before after)
  last_begun reported = on_err_weaker r (λ begun. subst (λ bs. WritesPrefix bs before after) same (begins_then a b before mid after first begun)) reported
