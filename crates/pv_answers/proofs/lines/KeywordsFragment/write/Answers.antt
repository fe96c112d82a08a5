use Rattle.std.proofs.Common.{rules}
use Rattle.pv_model.specs.Machine.{all_promises}
use Rattle.pv_answers.proofs.KeywordTexts.{whole-plain, prefix-plain}
use Rattle.pv_answers.proofs.lines.KeywordsFragment.write.Goals as goal

pub returns : goal.returns
returns g c = record {
  whole = (whole-plain c.args.self.now.0.0 c.write_keywords.result all_promises _ _ c.write_keywords.ensures.whole);
  prefix = (prefix-plain c.args.self.now.0.0 c.write_keywords.result all_promises _ _ c.write_keywords.ensures.prefix);
  failed = search rules;
  quiet = search rules;
}
