use Rattle.std.proofs.Common.{◌≡◌, ◌∙◌, ap, refl, subst, IfOk}
use Rattle.std.proofs.lemmas.Result.{err_from_is_err_and}
use Rattle.pv_streams.proofs.WriterContracts.{or_as}
use Rattle.pv_compare.specs.Answering.{compared_by, result_text}
use Rattle.pv_compare.specs.declared.compare.Compared.{Compared}
use Rattle.pv_compare.proofs.ComparisonText.{compared-is, result-is, search-is}
use Rattle.pv_streams.proofs.StoppedAnswers.{never_memory, unwritten}
use Rattle.pv_compare.proofs.compare.write_compare.Goals as goal

pub search_all-requires : goal.search_all-requires
search_all-requires g c = c.in_ok-visited.ensures.whole

pub len-requires : goal.len-requires
len-requires g c = c.in_ok-found.ensures.counted

pub returns-in_err-found-clause-written : goal.returns-in_err-found-clause-written
returns-in_err-found-clause-written g c =
    let failed = err_from_is_err_and c.from_residual-in_err-found.result c.from_residual-in_err-found.ensures.1 in
    unwritten g.W.Sink _ c.args.out.now c.from_residual-in_err-found.result failed.0 failed.1 failed.2

pub returns-clause-written : goal.returns-clause-written
returns-clause-written g c =
    let new = c.search_all.new.visited in
    let found = c.in_ok-found.found in
    let it = search-is c.args.pairs c.in_ok-visited.visited new c.args.first.now c.args.second.now found c.requires c.in_ok-visited.ensures.pairs c.in_ok-found.ensures.compared in
    or_as (ap (result_text c.len.result new.complete) c.as_ref.ensures.value ∙ result-is c.args.pairs _ new found c.len.result new.complete it c.len.ensures refl) c.write_result.ensures.written

pub returns-clause-compared : goal.returns-clause-compared
returns-clause-compared g c =
    let new = c.search_all.new.visited in
    let found = c.in_ok-found.found in
    let it = search-is c.args.pairs c.in_ok-visited.visited new c.args.first.now c.args.second.now found c.requires c.in_ok-visited.ensures.pairs c.in_ok-found.ensures.compared in
    subst (λ (x : Compared). IfOk c.write_result.result (λ compared. compared ≡ x)) (ap (compared_by new.complete) c.as_ref.ensures.value ∙ compared-is c.args.pairs _ new found new.complete it refl)
    c.write_result.ensures.compared

pub returns-clause-nothing : goal.returns-clause-nothing
returns-clause-nothing g c = λ is. absurd (never_memory c.write_result.result c.write_result.ensures.error is)
