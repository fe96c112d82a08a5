use Rattle.std.proofs.Common.{◌≡◌, ◌∙◌, ◌+◌, ◌++◌, ◌∷◌, List, Option, append-nil, ap, ap₂, bytes_eq, drop, sym, true, rules}
use Rattle.std.proofs.lemmas.List.{drop_all, drop_more}
use Rattle.std.proofs.lemmas.Result.{on_ok_weaker}
use Rattle.pv_model.specs.Machine.{answer_bytes, Bytes}
use Rattle.pv_exposure.specs.Collected.{Recorded, recorded_lines_by}
use Rattle.pv_exposure.specs.Stored.{all_recorded, first_at, recorded_of_file}
use Rattle.pv_exposure.specs.declared.findings.StoredFinding.{StoredFinding}
use Rattle.pv_exposure.proofs.ListTexts.{first-here}
use Rattle.pv_exposure.proofs.text.append_first.Goals as goal

pub returns-then-from-line : goal.returns-then-from-line
returns-then-from-line c =
    let ls = c.args.findings.now in
    let i = c.loop-finding.finding-index in
    let x = c.finding-item.result in
    let file = c.args.file.now in
    let next = drop_more ls i x c.loop-finding-test.true ∙ ap (λ (y : StoredFinding). y ∷ drop (i + 1) ls) (sym c.finding-item.is) in
    let same : bytes_eq x.file.items file ≡ true = search rules in
    let here = sym (first-here file c.args.line x (drop (i + 1) ls) same (sym c.from.ensures ∙ c.if-from-line.true)) ∙ ap (λ (zs : List StoredFinding). first_at c.args.line (recorded_of_file file (all_recorded zs))) (sym next) ∙ c.loop-finding.invariant.first in
    on_ok_weaker c.append_finding.result
    (λ added. added ∙ ap₂ (λ (bs : Bytes) (o : Option Recorded). bs ++ answer_bytes (recorded_lines_by c.args.kind c.args.ranges.now o)) c.loop-finding.invariant.same here)
    c.append_finding.ensures

pub returns : goal.returns
returns c =
    let ls = c.args.findings.now in
    let file = c.args.file.now in
    let old = c.args.out.now.bytes.items in
    let none = sym (ap (λ (zs : List StoredFinding). first_at c.args.line (recorded_of_file file (all_recorded zs))) (drop_all c.loop-finding.finding-index ls c.loop-finding-test.false)) ∙ c.loop-finding.invariant.first in
    c.loop-finding.invariant.same ∙ sym (append-nil old) ∙ ap (λ (o : Option Recorded). old ++ answer_bytes (recorded_lines_by c.args.kind c.args.ranges.now o)) none
