use Rattle.std.proofs.Common.{codes}
use Rattle.pv_questions.proofs.AppendedTexts.{appended-thrice}
use Rattle.pv_questions.proofs.notes.push_note.Goals as goal

pub returns : goal.returns
returns c =
    appended-thrice c.extend_from_slice-3.result c.args.text.now.items (codes "pvsim: note: ") c.args.words.now (codes "\n") _ _ _ c.in_ok-extend_from_slice.ensures.items
    c.in_ok-extend_from_slice-2.ensures.items c.extend_from_slice-3.ensures.items
