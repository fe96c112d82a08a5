use Rattle.std.proofs.Common.{◌∙◌, ◌++◌, ap, codes, decimal}
use Rattle.pv_model.specs.Machine.{Bytes}
use Rattle.pv_questions.proofs.AppendedTexts.{appended-thrice, dropped, noted-pledge}
use Rattle.pv_questions.proofs.notes.push_pledge_note.Goals as goal

pub returns : goal.returns
returns c =
    let old = c.args.text.now.items in
    let digits = c.as_bytes.ensures.value ∙ c.format.ensures.text in
    let second = c.in_ok-extend_from_slice-2.ensures.items ∙ ap (λ (bs : Bytes). c.extend_from_slice.new.self.items ++ bs) digits in
    noted-pledge c.extend_from_slice-3.result old (decimal c.args.pid) _
    (appended-thrice c.extend_from_slice-3.result old (codes "pvsim: note: process ") (decimal c.args.pid) (dropped ++ codes "\n") _ _ _
    c.in_ok-extend_from_slice.ensures.items second c.extend_from_slice-3.ensures.items)
