use Rattle.std.proofs.Common.{subst, length-set, ◌≡◌, ◌∙◌, arith}
use Rattle.pv_files.proofs.RecordKeys.{AreFree, one_more, none_open}
use Rattle.pv_files.proofs.open_files.OpenFiles.new.Goals as goal

pub loop-number-preserved : goal.loop-number-preserved
loop-number-preserved c =
    let (free, count, len, room) = c.loop-number.invariant in (
      one_more c.loop-number.records c.insert_reserved.new.self c.loop-number.keys c.loop-number.number c.insert_reserved.result free (omega (arith, count, c.loop-number-test.true)) c.insert_reserved.ensures.was_vacant c.free.result c.free.ensures c.insert_reserved.ensures.updates,
      length-set c.loop-number.keys c.loop-number.number c.insert_reserved.result ∙ count,
      omega (arith, len, c.insert_reserved.ensures.len),
      omega (arith, room, c.insert_reserved.ensures.capacity),
    )

pub returns : goal.returns
returns c =
    let (free, count, len, room) = c.loop-number.invariant in
    let end : c.loop-number.number ≡ 128 = omega (arith, c.loop-number-test.false, c.loop-number.auto.number-end) in
    none_open c.loop-number.records c.loop-number.keys count (subst (AreFree c.loop-number.records c.loop-number.keys) end free)

pub invariant_of-result : goal.invariant_of-result
invariant_of-result c =
    let (free, count, len, room) = c.loop-number.invariant in
    let end : c.loop-number.number ≡ 128 = omega (arith, c.loop-number-test.false, c.loop-number.auto.number-end) in
    record {
      are_keys = record {
        count = count;
        recorded = λ k small. free.recorded k (omega (arith, end));
        own = λ j k small also. free.own j k (omega (arith, end)) (omega (arith, end));
      };
      used = omega arith;
      few = omega arith;
      unused = λ k past small. free.free k (omega (arith, end));
    }
