use Rattle.pv_laws_answers.proofs.ReachedNames.{reach-begins, reach-lists}
use Rattle.pv_laws_answers.proofs.reach.reach_lists_the_listing.Goals as goal

pub returns : goal.returns
returns c = record { names = reach-lists; lines = reach-begins }
