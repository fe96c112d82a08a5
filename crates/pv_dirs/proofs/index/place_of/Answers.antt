use Rattle.std.proofs.Common.{◌≡◌, ◌+◌, ◌*◌, ◌%◌, drop, get_or, refl, sym, ap, ◌∙◌, arith}
use Rattle.std.specs.Prelude.{bit_and}
use Rattle.std.proofs.lemmas.List.{drop_more, drop_all}
use Rattle.pv_dirs.specs.Index.{sum_after, bucket_of}
use Rattle.pv_dirs.proofs.index.place_of.Goals as goal

pub loop-byte-init : goal.loop-byte-init
loop-byte-init c = refl

pub loop-byte-preserved : goal.loop-byte-preserved
unfolding sum_after
loop-byte-preserved c =
    let name = c.args.name.now in
    let i = c.loop-byte.byte-index in
    let sum : (c.loop-byte.sum * 11 % 65536 + c.from.result) % 65536 ≡ (c.loop-byte.sum * 11 + get_or name i 0) % 65536 = omega (arith, c.from.ensures) in
    ap (λ n. sum_after n (drop (i + 1) name)) sum
    ∙ sym (ap (sum_after c.loop-byte.sum) (drop_more name i 0 c.loop-byte-test.true))
    ∙ c.loop-byte.invariant

pub returns-clause-value : goal.returns-clause-value
unfolding sum_after bucket_of
returns-clause-value c =
    let name = c.args.name.now in
    ap (λ n. bit_and n c.args.mask % 8192) (sym (ap (sum_after c.loop-byte.sum) (drop_all c.loop-byte.byte-index name c.loop-byte-test.false)) ∙ c.loop-byte.invariant)
