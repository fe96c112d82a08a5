use Rattle.std.proofs.Common.{sym, ◌∙◌, ap}
use Rattle.std.specs.Prelude.{bytes_eq}
use Rattle.pv_model.specs.Machine.{lines_of}
use Rattle.pv_image_manifest.proofs.FirstWords.{directory_is, file_is, program_is, link_is, name_is, other_entry}
use Rattle.pv_image_manifest.proofs.entry_lines.by_word.Goals as goal

pub returns-then-eq : goal.returns-then-eq
returns-then-eq c =
    rw (← directory_is c.args.word.now c.args.arguments.now (lines_of c.args.following.now) (sym (ap (bytes_eq c.args.word.now) c.as_slice.ensures) ∙ sym c.eq.ensures ∙ c.if-eq.true)) c.directory.ensures

pub returns-then-eq-2 : goal.returns-then-eq-2
returns-then-eq-2 c =
    rw (← file_is c.args.word.now c.args.arguments.now (lines_of c.args.following.now) (sym (ap (bytes_eq c.args.word.now) c.as_slice-2.ensures) ∙ sym c.eq-2.ensures ∙ c.if-eq-2.true)) c.file.ensures

pub returns-then-eq-3 : goal.returns-then-eq-3
returns-then-eq-3 c =
    rw (← program_is c.args.word.now c.args.arguments.now (lines_of c.args.following.now) (sym (ap (bytes_eq c.args.word.now) c.as_slice-3.ensures) ∙ sym c.eq-3.ensures ∙ c.if-eq-3.true)) c.executable.ensures

pub returns-then-eq-4 : goal.returns-then-eq-4
returns-then-eq-4 c =
    rw (← link_is c.args.word.now c.args.arguments.now (lines_of c.args.following.now) (sym (ap (bytes_eq c.args.word.now) c.as_slice-4.ensures) ∙ sym c.eq-4.ensures ∙ c.if-eq-4.true)) c.link.ensures

pub returns-then-eq-5 : goal.returns-then-eq-5
returns-then-eq-5 c =
    rw (← name_is c.args.word.now c.args.arguments.now (lines_of c.args.following.now) (sym (ap (bytes_eq c.args.word.now) c.as_slice-5.ensures) ∙ sym c.eq-5.ensures ∙ c.if-eq-5.true)) c.further_name.ensures

pub returns : goal.returns
returns c =
    other_entry c.args.word.now c.args.arguments.now (lines_of c.args.following.now)
    (sym (ap (bytes_eq c.args.word.now) c.as_slice.ensures) ∙ sym c.eq.ensures ∙ c.if-eq.false)
    (sym (ap (bytes_eq c.args.word.now) c.as_slice-2.ensures) ∙ sym c.eq-2.ensures ∙ c.if-eq-2.false)
    (sym (ap (bytes_eq c.args.word.now) c.as_slice-3.ensures) ∙ sym c.eq-3.ensures ∙ c.if-eq-3.false)
    (sym (ap (bytes_eq c.args.word.now) c.as_slice-4.ensures) ∙ sym c.eq-4.ensures ∙ c.if-eq-4.false)
    (sym (ap (bytes_eq c.args.word.now) c.as_slice-5.ensures) ∙ sym c.eq-5.ensures ∙ c.if-eq-5.false)
