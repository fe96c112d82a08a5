use Rattle.std.proofs.Common.{◌≡◌, ◌++◌, List, ℕ, codes, decimal, ap, sym, ◌∙◌, append_assoc}
use Rattle.pv_model.specs.Machine.{Bytes}
use Rattle.pv_model.specs.Sealed.{why_text}
use Rattle.pv_listing.proofs.verdict.put_leak.Goals as goal

joined : (a b c d e : Bytes) → a ++ b ++ c ++ d ++ e ≡ a ++ (b ++ c ++ d ++ e)
joined a b c d e = simp append_assoc

pub returns-clause-text : goal.returns-clause-text
returns-clause-text c =
    let why = why_text c.args.leak.why in
    c.put_why.ensures.text
    ∙ ap (λ (bs : Bytes). bs ++ why)
    (c.put-2.ensures.text
    ∙ ap (λ (bs : Bytes). bs ++ codes ", ")
    (c.put_decimal.ensures.text ∙ ap (λ (bs : Bytes). bs ++ decimal c.args.leak.pid) c.put.ensures.text))
    ∙ joined c.args.out.now.items (codes "exposed: process ") (decimal c.args.leak.pid) (codes ", ") why
