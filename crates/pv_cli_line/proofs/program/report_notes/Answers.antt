use Rattle.std.proofs.Common.{◌≡◌, ◌<◌, length, ap, refl, arith}
use Rattle.std.proofs.lemmas.Bool.Decides.{nat_tests}
use Rattle.std.proofs.lemmas.List.{nil_from_length}
use Rattle.pv_cli_line.proofs.ReportedErrors.{notes_absent, notes_written}
use Rattle.pv_cli_line.proofs.program.report_notes.Goals as goal

pub returns-then-is_empty-clause-notes : goal.returns-then-is_empty-clause-notes
returns-then-is_empty-clause-notes g c =
    let none : length c.args.notes.now ≡ 0 = grind (arith, nat_tests, c.if-is_empty.ensures) in
    notes_absent g.E.Sink c.args.requested c.args.notes.now c.args.system.now c.args.system.now (nil_from_length c.args.notes.now none)

pub returns-clause-notes : goal.returns-clause-notes
returns-clause-notes g c =
    let some : 0 < length c.args.notes.now = grind (arith, nat_tests, c.if-is_empty.ensures) in
    notes_written g.E.Sink c.args.requested c.args.notes.now c.args.system.now _ c.write_through-written.result
    c.if-not-requested.false (λ none. absurd (omega (arith, some, ap length none))) refl c.write_through-written.ensures.written
