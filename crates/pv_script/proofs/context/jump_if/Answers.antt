use Rattle.pv_script.proofs.context.jump_if.Goals as goal

pub returns-else-holds : goal.returns-else-holds
returns-else-holds c = λ old p. rw c.if-holds.false (c.line_after.ensures old p)
