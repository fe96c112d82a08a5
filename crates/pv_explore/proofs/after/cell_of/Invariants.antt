use Rattle.pv_explore.proofs.after.cell_of.Given as goal

abbrev pub invariant-loop-cell : goal.invariant-loop-cell
invariant-loop-cell l = Unit {0}
