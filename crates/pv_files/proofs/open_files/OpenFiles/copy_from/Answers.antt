use Rattle.std.proofs.Common.{◌<◌, ◌≤◌, ap, ◌∙◌, arith}
use Rattle.pv_model.specs.Machine.{least_free}
use Rattle.pv_files.proofs.RecordKeys.{record-same}
use Rattle.pv_files.proofs.open_files.OpenFiles.copy_from.Goals as goal

pub copy_records-requires-clause-few : goal.copy_records-requires-clause-few
copy_records-requires-clause-few c = omega (arith, c.self.invariant.few, c.other.invariant.few)

pub copy_records-requires-clause-rest : goal.copy_records-requires-clause-rest
copy_records-requires-clause-rest c = λ k past small. (c.self.invariant.unused k (omega arith) small, c.other.invariant.unused k (omega arith) small)

pub invariant_of-self : goal.invariant_of-self
invariant_of-self c = record {
  are_keys = c.copy_records.ensures.are_keys;
  used = omega (arith, c.other.invariant.used, ap least_free c.copy_records.ensures.copied);
  few = c.other.invariant.few;
  unused = λ k past small.
      record-same c.copy_records.new.records c.other.inside.records c.self.inside.keys c.other.inside.keys c.self.invariant.are_keys.count c.other.invariant.are_keys.count c.copy_records.ensures.copied k small
      ∙ c.other.invariant.unused k past small;
}
