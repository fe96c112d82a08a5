use Rattle.std.proofs.Common.{List, get_or, is_some, ◌∙◌, ap, arith}
use Rattle.std.proofs.lemmas.List.{get_or_default}
use Rattle.pv_model.specs.Machine.{process_at}
use Rattle.pv_calls_state.proofs.OfProcs.ElementSteps.{mapped_further}
use Rattle.pv_audit.specs.declared.suspects.Suspect.{Suspect}
use Rattle.pv_audit.specs.Findings.{note_of, suspect}
use Rattle.pv_audit.proofs.NameAccess.{live-at, undone}
use Rattle.pv_audit.proofs.suspects.note_name.Goals as goal

pub note-requires-clause-live : goal.note-requires-clause-live
note-requires-clause-live c =
    let g = note_of c.args.parts.now (c.args.directory, c.args.name.now) in
    let same = ap (λ (xs : List Suspect). get_or xs c.loop-k.k (suspect 0)) c.loop-k.invariant ∙ undone g c.args.suspects.now c.loop-k.k (suspect 0) c.loop-k-test.true in
    ap (λ (x : Suspect). is_some (process_at c.args.parts.now x.pid)) same ∙ live-at c.args.parts.now c.args.suspects.now c.loop-k.k (suspect 0) c.requires.live c.loop-k-test.true

pub loop-k-preserved : goal.loop-k-preserved
loop-k-preserved c =
    let g = note_of c.args.parts.now (c.args.directory, c.args.name.now) in
    let x : Suspect = get_or c.loop-k.suspects c.loop-k.k (suspect 0) in
    mapped_further g c.args.suspects.now c.loop-k.suspects c.loop-k.k x c.note.new.self c.loop-k-test.true c.loop-k.invariant
    (get_or_default c.loop-k.suspects c.loop-k.k (suspect 0) x (omega (arith, c.loop-k-test.true, c.loop-k.auto.suspects))) c.note.ensures
