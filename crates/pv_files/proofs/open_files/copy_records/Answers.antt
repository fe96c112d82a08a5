use Rattle.std.proofs.Common.{◌<◌, ◌+◌, length, take, ap, sym, ◌∙◌, arith}
use Rattle.std.proofs.Math.ListN.{length-map}
use Rattle.pv_files.specs.Slots.{record_at, slots_under, where_used}
use Rattle.pv_files.proofs.ListCopies.{take_more-set_same}
use Rattle.pv_files.proofs.RecordKeys.{record_read, slots-same, unwritten}
use Rattle.pv_files.proofs.open_files.copy_records.Goals as goal

pub loop-number-preserved : goal.loop-number-preserved
loop-number-preserved c =
    let number = c.loop-number.number in
    let mine = c.loop-number.invariant.are_keys in
    let theirs = c.requires.are_other_keys in
    let own = slots_under c.loop-number.records c.args.keys.now in
    let other = slots_under c.args.others.now c.args.other_keys.now in
    let within : number < length own = omega (arith, c.loop-number-test.true, c.requires.few, mine.count, length-map c.args.keys.now (record_at c.loop-number.records)) in
    let below : number < length other = omega (arith, c.loop-number-test.true, c.requires.few, theirs.count, length-map c.args.other_keys.now (record_at c.args.others.now)) in
    let read = record_read c.args.others.now c.args.other_keys.now theirs number (omega (arith, c.loop-number-test.true, c.requires.few, theirs.count)) c.index.result.now c.index.ensures in
    record {
      are_keys = c.copy_record.ensures.are_keys;
      rest = λ k past small.
          unwritten c.loop-number.records c.copy_record.new.records c.args.keys.now number k (where_used c.index.result.now) mine.count c.copy_record.ensures.copied small (λ same. omega (arith, c.loop-number-test.true))
          ∙ c.loop-number.invariant.rest k past small;
      copied = ap (take (number + 1)) c.copy_record.ensures.copied ∙ take_more-set_same own other number (where_used c.index.result.now) within below c.loop-number.invariant.copied read;
    }

pub returns-clause-copied : goal.returns-clause-copied
returns-clause-copied c =
    slots-same c.loop-number.records c.args.others.now c.args.keys.now c.args.other_keys.now c.requires.are_keys.count c.requires.are_other_keys.count c.loop-number.number c.loop-number.invariant.copied
    (λ k past small. let both = c.requires.rest k (omega arith) small in c.loop-number.invariant.rest k (omega arith) small ∙ sym both.1)
