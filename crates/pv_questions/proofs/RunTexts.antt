-- A text that is written run by run.
use Rattle.std.proofs.Common.{◌≡◌, ◌∙◌, ap, sym, subst, ℕ, ◌+◌, ◌++◌, length, take, drop, Option}
use Rattle.std.proofs.lemmas.List.{take-append-drop}
use Rattle.std.proofs.Math.Seq.{take-add}
use Rattle.pv_model.specs.Machine.{Bytes}
use Rattle.pv_streams.specs.Sinks.{and_all, WritesPrefix}
use Rattle.pv_streams.proofs.OutputTexts.{begins_first, begins_then, written_both}

module _ (bytes run : Bytes) (at : ℕ) (before mid after : Option Bytes) where
  -- one more run
  pub run_more : run ≡ take (length run) (drop at bytes) → mid ≡ and_all before (take at bytes) → after ≡ and_all mid run → after ≡ and_all before (take (at + length run) bytes)
  run_more is first second =
      written_both (take at bytes) run before mid after first second
      ∙ ap (and_all before) (ap (λ bs. take at bytes ++ bs) is ∙ sym (take-add at (length run) bytes))

  -- a prefix of one more run
  pub run_begun : run ≡ take (length run) (drop at bytes) → mid ≡ and_all before (take at bytes) → WritesPrefix run mid after → WritesPrefix bytes before after
  run_begun is first begun =
      let rest = drop (length run) (drop at bytes) in
      let joined = ap (λ bs. bs ++ rest) is ∙ take-append-drop (length run) (drop at bytes) in
      subst (λ (bs : Bytes). WritesPrefix bs before after) (ap (λ bs. take at bytes ++ bs) joined ∙ take-append-drop at bytes)
      (begins_then (take at bytes) (run ++ rest) before mid after first (begins_first run rest mid after begun))
