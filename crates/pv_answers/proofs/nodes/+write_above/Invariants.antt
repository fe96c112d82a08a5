use Rattle.pv_answers.proofs.nodes.+write_above.Given as goal

abbrev pub decreases-write_above : goal.decreases-write_above
decreases-write_above g l = l.depth
