use Rattle.std.proofs.Common.{take, refl, ap, ◌∙◌, arith}
use Rattle.pv_dirs.proofs.IndexedEntries.{bucket_at-copied, known-copied}
use Rattle.pv_dirs.proofs.index.Index.copy_from.Goals as goal

pub returns-clause-said : goal.returns-clause-said
returns-clause-said c = λ d name.
    let count = c.bucket_count-count.ensures in
    bucket_at-copied c.args.other.now _ c.bucket_count-count.result c.copy_from_slice.new.self _ (omega (arith, count.within)) refl refl c.copy_from_slice.ensures.after d name (count.all d name)

pub returns-clause-known : goal.returns-clause-known
returns-clause-known c =
    let count = c.recorded_count-recorded.ensures in
    known-copied c.args.other.now _ c.copy_from_slice-2.new.self _ (omega arith) refl refl (c.copy_from_slice-2.ensures.after ∙ ap (λ n. take n c.args.other.now.ascending) count)
