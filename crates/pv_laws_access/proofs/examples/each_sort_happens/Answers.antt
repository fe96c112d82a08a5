use Rattle.pv_laws_access.proofs.ExampleRuns.{each-happens}
use Rattle.pv_laws_access.proofs.examples.each_sort_happens.Goals as goal

pub returns : goal.returns
returns c = each-happens
