use Rattle.std.proofs.Common.{codes, sym, ap, ◌∙◌}
use Rattle.std.proofs.lemmas.Slice.Eq.{bytes_eq-Decides}
use Rattle.pv_model.specs.Machine.{Bytes}
use Rattle.pv_text.specs.Reading.{saturated_number}
use Rattle.pv_cli_line.specs.Line.{size_in}
use Rattle.pv_cli_line.proofs.NumberWords.{size-greatest, size-none, size-less, size-more}
use Rattle.pv_cli_line.proofs.texts.size_of.Goals as goal

pub returns-then-eq : goal.returns-then-eq
returns-then-eq c =
    let same = (bytes_eq-Decides c.args.word.now (codes "4294967295")).0 (sym c.eq.ensures ∙ c.if-eq.true) in
    sym (ap size_in same ∙ size-greatest)

pub returns-in_err-size : goal.returns-in_err-size
returns-in_err-size c =
    c.from_residual.ensures ∙ sym (size-none c.args.word.now (ap (λ (bs : Bytes). saturated_number bs) (sym c.as_bytes.ensures.value) ∙ sym c.decimal.ensures ∙ c.in_err-size.was))

pub returns-then-size : goal.returns-then-size
returns-then-size c =
    let read = ap (λ (bs : Bytes). saturated_number bs) (sym c.as_bytes.ensures.value) ∙ sym c.decimal.ensures ∙ c.in_ok-size.was in
    sym (size-more c.args.word.now (rw c.if-size.true at read)
    (λ same. let no = sym c.if-eq.false ∙ c.eq.ensures ∙ (bytes_eq-Decides c.args.word.now (codes "4294967295")).1 same in cc no))

pub returns : goal.returns
returns c =
    let read = ap (λ (bs : Bytes). saturated_number bs) (sym c.as_bytes.ensures.value) ∙ sym c.decimal.ensures ∙ c.in_ok-size.was in
    sym (size-less c.args.word.now c.in_ok-size.size read c.if-size.false)
