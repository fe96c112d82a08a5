use Rattle.std.proofs.Common.{◌∙◌, ◌++◌, ◌∷◌, ap, arith}
use Rattle.std.proofs.lemmas.Fmt.{decimal_digit}
use Rattle.std.proofs.lemmas.List.{append-nil}
use Rattle.pv_model.specs.Machine.{Bytes}
use Rattle.pv_trace.proofs.line_buffer.put_front.Goals as goal

-- four blanks, a number of one digit, and the word after it
pub returns-then-pid-lt10-clause-text : goal.returns-then-pid-lt10-clause-text
returns-then-pid-lt10-clause-text c =
    let front = c.args.out.now.items in
    rw (decimal_digit c.args.pid (omega arith))
    (c.put.ensures.text
    ∙ ap (λ (word : Bytes). front ++ 32 ∷ 32 ∷ 32 ∷ 32 ∷ c.digit.result ∷ word) (append-nil _ ∙ c.copy_from_slice.ensures.after)
    ∙ ap (λ digit. front ++ 32 ∷ 32 ∷ 32 ∷ 32 ∷ digit ∷ c.args.word.now) c.digit.ensures)
