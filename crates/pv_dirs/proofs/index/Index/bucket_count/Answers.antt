use Rattle.std.proofs.Common.{arith}
use Rattle.pv_dirs.proofs.IndexedEntries.{bucket_of-within, bucket_of-masked}
use Rattle.pv_dirs.proofs.index.Index.bucket_count.Goals as goal

pub returns-clause-all : goal.returns-clause-all
returns-clause-all c = λ d name. omega (arith, bucket_of-within c.args.self.now.mask d name, bucket_of-masked c.args.self.now.mask d name, c.min.ensures, c.from.ensures)
