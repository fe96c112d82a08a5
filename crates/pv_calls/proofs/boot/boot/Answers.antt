use Rattle.std.proofs.Common.{ap, sym, ◌∙◌, subst, Ok}
use Rattle.pv_model.specs.Machine.{State, find_entry}
use Rattle.pv_laws_states.specs.States.{IsValid}
use Rattle.pv_calls.proofs.FirstStates.{boot-refused, boot-made, boot-valid}
use Rattle.pv_calls.proofs.boot.boot.Goals as goal

pub returns-in-Err-clause-refused : goal.returns-in-Err-clause-refused
returns-in-Err-clause-refused g c = boot-refused c.args.store c.tree.result.now.tree c.in-Err.fault c.tree.ensures.tree c.in-Err.ensures.refused

pub returns-clause-booted : goal.returns-clause-booted
returns-clause-booted g c =
    boot-made c.args.store c.tree.result.now.tree c.in-Ok.program c.tree.ensures.tree c.in-Ok.ensures.program ∙ ap (λ s. Ok s) (sym (c.in_ok-parts.ensures {u = tt}))

pub returns-clause-whole : goal.returns-clause-whole
returns-clause-whole g c =
    subst IsValid (sym (c.in_ok-parts.ensures {u = tt}))
    (boot-valid c.args.store c.tree.result.now.tree c.in-Ok.program c.requires.first c.tree.ensures.tree c.in-Ok.ensures.program)

pub returns-clause-agrees : goal.returns-clause-agrees
returns-clause-agrees g c =
    subst (λ (s : State). g.L.Lookup.agrees c.args.lookup (find_entry s.tree)) (sym (c.in_ok-parts.ensures {u = tt})) c.requires.agrees
