use Rattle.std.proofs.Common.{◌≡◌, ◌++◌, rules}
use Rattle.std.proofs.lemmas.Result.{on_ok_weaker}
use Rattle.pv_model.specs.Machine.{answer_bytes}
use Rattle.pv_model_questions.specs.declared.finding_kind.FindingKind.TheVariants.{Leak, Peer, Edit, Read}
use Rattle.pv_exposure.specs.Collected.{lines_recorded_of}
use Rattle.pv_exposure.proofs.ListTexts.{four}
use Rattle.pv_exposure.proofs.text.append_kinds.Goals as goal

pub returns : goal.returns
returns c =
    let e = c.args.program.now in
    on_ok_weaker c.append_kind-4.result
    (λ last.
    four (lines_recorded_of Leak e) (lines_recorded_of Peer e) (lines_recorded_of Edit e) (lines_recorded_of Read e)
    c.args.out.now.bytes.items c.append_kind.new.out.bytes.items c.append_kind-2.new.out.bytes.items c.append_kind-3.new.out.bytes.items c.append_kind-4.new.out.bytes.items
    c.in_ok-append_kind.ensures c.in_ok-append_kind-2.ensures c.in_ok-append_kind-3.ensures last)
    c.append_kind-4.ensures
