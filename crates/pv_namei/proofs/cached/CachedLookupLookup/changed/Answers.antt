use Rattle.pv_namei.proofs.CachedAnswers.{entries-taken, preserved-taken, fits-taken, others-preserved}
use Rattle.pv_namei.proofs.cached.CachedLookupLookup.changed.Goals as goal

pub returns-then-name-le-NAME_V2-clause-agrees : goal.returns-then-name-le-NAME_V2-clause-agrees
returns-then-name-le-NAME_V2-clause-agrees c =
    let old = c.args.self.now.answers in let new = c.pop.new.self in let d = c.args.directory in let n = c.args.name.now in
    fits-taken old new d n c.len.ensures.valid.0 (entries-taken old new c.set.new.self d n c.set.ensures.directory c.set.ensures.name c.pop.ensures.entries)

pub returns-then-name-le-NAME_V2-clause-forgets : goal.returns-then-name-le-NAME_V2-clause-forgets
returns-then-name-le-NAME_V2-clause-forgets c =
    let old = c.args.self.now.answers in let new = c.pop.new.self in let d = c.args.directory in let n = c.args.name.now in
    preserved-taken old new d n c.if-name-le-NAME_V2.true c.len.ensures.valid.0 (entries-taken old new c.set.new.self d n c.set.ensures.directory c.set.ensures.name c.pop.ensures.entries)

pub returns-then-name-le-NAME_V2-clause-others : goal.returns-then-name-le-NAME_V2-clause-others
returns-then-name-le-NAME_V2-clause-others c =
    let old = c.args.self.now.answers in let new = c.pop.new.self in let d = c.args.directory in let n = c.args.name.now in
    others-preserved old new d n c.len.ensures.valid.0 (entries-taken old new c.set.new.self d n c.set.ensures.directory c.set.ensures.name c.pop.ensures.entries)
