-- A run that fills every data block, by computation.
use Rattle.std.proofs.Common.{refl, arith}
use Rattle.pv_model.specs.Machine.{machine_on_literals}
use Rattle.pv_laws_steps.specs.LargerExamples.{FiveIsLeast}

pub five-is_least : FiveIsLeast
unfolding machine_on_literals
five-is_least = record {
  no_limit = refl;
  enough = record { nodes = λ n. refl; numbers = refl; version = refl; blocks = omega arith; inodes = omega arith };
  last = refl;
  same = refl;
  other = refl;
}
