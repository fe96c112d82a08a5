use Rattle.std.proofs.Common.{refl}
use Rattle.pv_text.proofs.WordsAndTexts.{front_is}
use Rattle.pv_text.proofs.words.flag.Goals as goal

pub returns-in-Some-clause-flag : goal.returns-in-Some-clause-flag
returns-in-Some-clause-flag c = rw (front_is, c.in-Some.ensures.cases.0) refl

pub returns-in-Some-clause-rest : goal.returns-in-Some-clause-rest
returns-in-Some-clause-rest c = rw (front_is, c.in-Some.ensures.cases.0) c.in-Some.ensures.cases.1

pub returns-in-None-clause-flag : goal.returns-in-None-clause-flag
returns-in-None-clause-flag c = rw (front_is, c.in-None.ensures.cases) refl

pub returns-in-None-clause-rest : goal.returns-in-None-clause-rest
returns-in-None-clause-rest c = rw (front_is, c.in-None.ensures.cases) refl
