-- The text of lines, step by step.
use Rattle.std.proofs.Common.{◌≡◌, ◌++◌, ◌∙◌, ap, sym, List, append_assoc}
use Rattle.std.proofs.lemmas.Grind.{flat_map-append}
use Rattle.pv_model.specs.Machine.{Bytes, Line, trace_bytes}
use Rattle.pv_model.specs.Trace.{line_bytes}

-- the text of lines appended to another text, and then that of more lines
pub text_joined : (before mid after : Bytes) (xs ys : List Line)
    → mid ≡ before ++ trace_bytes xs → after ≡ mid ++ trace_bytes ys → after ≡ before ++ trace_bytes (xs ++ ys)
text_joined before mid after xs ys first second =
    second ∙ ap (λ bs. bs ++ trace_bytes ys) first ∙ append_assoc before (trace_bytes xs) (trace_bytes ys)
    ∙ ap (λ bs. before ++ bs) (sym (flat_map-append line_bytes xs ys))
