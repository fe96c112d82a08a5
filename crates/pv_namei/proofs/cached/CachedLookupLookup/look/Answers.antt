use Rattle.std.proofs.Common.{arith, sym, subst, ◌∙◌, Some}
use Rattle.pv_model.specs.Machine.{find_entry}
use Rattle.pv_namei.specs.Cached.{IsPut}
use Rattle.pv_namei.proofs.CachedAnswers.{pair-preserved, put-by-use, put-by-asking, fits-by-put, preserved-by-put}
use Rattle.pv_namei.proofs.cached.CachedLookupLookup.look.Goals as goal

-- if the answer is cached

pub returns-in-Some-clause-answer : goal.returns-in-Some-clause-answer
returns-in-Some-clause-answer c =
    let old = c.args.self.now.answers in let d = c.args.directory in let n = c.args.name.now in let pair = c.set.new.self in let is = c.set.ensures in
    sym (c.requires.agrees d n c.in-Some.answer (pair-preserved old old pair d n is.directory is.name (omega (arith, c.if-name-gt-NAME_V2.false)) (Some c.in-Some.answer) (c.in-Some.ensures ∙ c.get.ensures.value)))

pub returns-in-Some-clause-puts : goal.returns-in-Some-clause-puts
returns-in-Some-clause-puts c =
    let old = c.args.self.now.answers in let d = c.args.directory in let n = c.args.name.now in let pair = c.set.new.self in let is = c.set.ensures in
    put-by-use old c.get.follows.lender-at-none pair d n is.directory is.name c.in-Some.answer (c.in-Some.ensures ∙ c.get.ensures.value) c.get.follows.holds-at-none

pub returns-in-Some-clause-agrees : goal.returns-in-Some-clause-agrees
returns-in-Some-clause-agrees c =
    let old = c.args.self.now.answers in let d = c.args.directory in let n = c.args.name.now in let pair = c.set.new.self in let is = c.set.ensures in
    let answer = sym (c.requires.agrees d n c.in-Some.answer (pair-preserved old old pair d n is.directory is.name (omega (arith, c.if-name-gt-NAME_V2.false)) (Some c.in-Some.answer) (c.in-Some.ensures ∙ c.get.ensures.value))) in
    fits-by-put old c.get.follows.lender-at-none d n (find_entry c.args.tree.now.tree) (subst (λ o. IsPut old d n o c.get.follows.lender-at-none) answer (put-by-use old c.get.follows.lender-at-none pair d n is.directory is.name c.in-Some.answer (c.in-Some.ensures ∙ c.get.ensures.value) c.get.follows.holds-at-none)) c.requires.agrees

pub returns-in-Some-clause-keeps : goal.returns-in-Some-clause-keeps
returns-in-Some-clause-keeps c =
    let old = c.args.self.now.answers in let d = c.args.directory in let n = c.args.name.now in let pair = c.set.new.self in let is = c.set.ensures in
    preserved-by-put old c.get.follows.lender-at-none d n c.in-Some.answer (omega (arith, c.if-name-gt-NAME_V2.false)) (put-by-use old c.get.follows.lender-at-none pair d n is.directory is.name c.in-Some.answer (c.in-Some.ensures ∙ c.get.ensures.value) c.get.follows.holds-at-none)

-- if the answer is not cached

pub returns-clause-puts : goal.returns-clause-puts
returns-clause-puts c =
    let old = c.args.self.now.answers in let d = c.args.directory in let n = c.args.name.now in let asked = c.set.new.self in let at = c.set.ensures in let pair = c.new.result in let is = c.new.ensures in
    put-by-asking old c.put.new.self asked pair d n at.directory at.name is.directory is.name c.get.follows.lender-at-none c.find-answer.result c.put.result (omega (arith, c.if-name-gt-NAME_V2.false)) (c.in_default.ensures ∙ c.get.ensures.value) c.get.follows.holds-at-none c.put.ensures.entries c.put.ensures.err

pub returns-clause-agrees : goal.returns-clause-agrees
returns-clause-agrees c =
    let old = c.args.self.now.answers in let d = c.args.directory in let n = c.args.name.now in let asked = c.set.new.self in let at = c.set.ensures in let pair = c.new.result in let is = c.new.ensures in
    fits-by-put old c.put.new.self d n (find_entry c.args.tree.now.tree) (subst (λ o. IsPut old d n o c.put.new.self) c.find-answer.ensures (put-by-asking old c.put.new.self asked pair d n at.directory at.name is.directory is.name c.get.follows.lender-at-none c.find-answer.result c.put.result (omega (arith, c.if-name-gt-NAME_V2.false)) (c.in_default.ensures ∙ c.get.ensures.value) c.get.follows.holds-at-none c.put.ensures.entries c.put.ensures.err)) c.requires.agrees

pub returns-clause-keeps : goal.returns-clause-keeps
returns-clause-keeps c =
    let old = c.args.self.now.answers in let d = c.args.directory in let n = c.args.name.now in let asked = c.set.new.self in let at = c.set.ensures in let pair = c.new.result in let is = c.new.ensures in
    preserved-by-put old c.put.new.self d n c.find-answer.result (omega (arith, c.if-name-gt-NAME_V2.false)) (put-by-asking old c.put.new.self asked pair d n at.directory at.name is.directory is.name c.get.follows.lender-at-none c.find-answer.result c.put.result (omega (arith, c.if-name-gt-NAME_V2.false)) (c.in_default.ensures ∙ c.get.ensures.value) c.get.follows.holds-at-none c.put.ensures.entries c.put.ensures.err)
