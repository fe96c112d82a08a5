use Rattle.std.proofs.Common.{get_or, sym, ap, ◌∙◌}
use Rattle.pv_dirs.specs.declared.index.Bucket.TheVariants.{Empty}
use Rattle.pv_dirs.proofs.IndexedEntries.{bucket_at-is}
use Rattle.pv_dirs.proofs.index.Index.find.Goals as goal

pub returns : goal.returns
returns c = ap (λ i. get_or c.args.self.now.places i Empty) c.place_of.ensures.value ∙ sym (bucket_at-is c.args.self.now c.args.directory c.args.name.now)
