-- The reduced search finds the data of a process that `access`, `policy` and `exposure` show.
use Rattle.std.proofs.Common.{Option}
use Rattle.pv_model.specs.Machine.{Bytes, Program}
use Rattle.pv_laws_states.specs.States.{EncodesPrograms}
use Rattle.pv_laws_classes.specs.Shown.{EachProcessIsSeen, BothSearchesSeeTheSame, EachAccessIsListedReduced, ListedAccessesHappenReduced, ReducedAccessesAreSame}
use Rattle.pv_laws_classes.proofs.RenumberedShown.{identified-shown}
use Rattle.pv_laws_classes.proofs.ReducedProcesses.{each-seen, both-see}
use Rattle.pv_laws_classes.proofs.ReducedAccesses.{access-listed, accesses-reduced, same-accesses_reduced}
use Rattle.pv_laws_classes.proofs.ShownSchedules.{IsInvariant}
use Rattle.pv_laws_classes.proofs.ShownLiveness.{dead-shown, others-shown}

invariant : (program_of : Bytes → Option Program) → EncodesPrograms program_of → IsInvariant program_of
invariant program_of encodes = record {
  identified = identified-shown program_of encodes (dead-shown program_of encodes);
  others = others-shown program_of encodes;
}

pub each-process : EachProcessIsSeen
each-process program_of limit s pids pid it = each-seen program_of (invariant program_of it.encodes) limit s pids pid it

pub both-same : BothSearchesSeeTheSame
both-same program_of limit other s it = both-see program_of (invariant program_of it.encodes) limit other s it

pub each-access : EachAccessIsListedReduced
each-access program_of limit s files pids pid it = access-listed program_of (invariant program_of it.encodes) limit s files pids pid it

pub listed-accesses : ListedAccessesHappenReduced
listed-accesses program_of limit s files it = accesses-reduced program_of (invariant program_of it.encodes) limit s files it

pub same-accesses : ReducedAccessesAreSame
same-accesses program_of limit other s files it = same-accesses_reduced program_of (invariant program_of it.encodes) limit other s files it
