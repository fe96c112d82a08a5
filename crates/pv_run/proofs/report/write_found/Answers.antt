use Rattle.std.proofs.Common.{◌++◌, codes, rules, arith}
use Rattle.std.proofs.lemmas.Grind.{common_steps}
use Rattle.std.proofs.lemmas.Result.{on_err_weaker}
use Rattle.pv_model.specs.Machine.{Bytes, listed_path, quote}
use Rattle.pv_model.specs.Sealed.{verdict_line}
use Rattle.pv_streams.proofs.OutputTexts.{begins_first, begins_then, written_both, on_err}
use Rattle.pv_run.proofs.report.write_found.Goals as goal

abbrev space : Bytes
space = codes " "

pub returns-in_err-write_path : goal.returns-in_err-write_path
returns-in_err-write_path g c = record {
  whole = search rules;
  prefix =
      (let path = quote (listed_path c.args.path.now) in
      on_err c.from_residual.result (begins_first (path ++ space) (verdict_line c.args.found.now) _ _ (begins_first path space _ _ c.in_err-write_path.ensures.prefix)));
  failed = search rules;
  quiet = search rules;
}

pub returns-in_err-write_whole : goal.returns-in_err-write_whole
returns-in_err-write_whole g c = record {
  whole = search rules;
  prefix =
      (let path = quote (listed_path c.args.path.now) in
      on_err c.from_residual-in_err-write_whole.result
      (begins_first (path ++ space) (verdict_line c.args.found.now) _ _ (begins_then path space _ _ _ c.in_ok-write_path.ensures.whole c.in_err-write_whole.ensures.prefix)));
  failed = search rules;
  quiet = search rules;
}

pub returns : goal.returns
returns g c = record {
  whole = grind (arith, common_steps);
  prefix =
      (let path = quote (listed_path c.args.path.now) in
      on_err_weaker c.write_verdict.result
      (begins_then (path ++ space) (verdict_line c.args.found.now) _ _ _ (written_both path space _ _ _ c.in_ok-write_path.ensures.whole c.in_ok-write_whole.ensures.whole))
      c.write_verdict.ensures.prefix);
  failed = search rules;
  quiet = search rules;
}
