use Rattle.pv_answers.proofs.reach.reacher.AndDescriptorFragment.write.Goals as goal

pub returns : goal.returns
returns g c = rw c.from.ensures at c.write.ensures
