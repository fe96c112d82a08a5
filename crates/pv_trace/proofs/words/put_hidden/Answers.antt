use Rattle.std.proofs.Common.{◌∙◌, ◌++◌, ap, append_assoc}
use Rattle.std.specs.Prelude.{codes}
use Rattle.pv_trace.specs.Words.{permissions_bytes}
use Rattle.pv_trace.proofs.words.put_hidden.Goals as goal

pub returns-clause-text : goal.returns-clause-text
returns-clause-text c =
    c.put_permissions.ensures.text ∙ ap (λ bs. bs ++ permissions_bytes c.args.permissions) c.put.ensures.text
    ∙ append_assoc c.args.out.now.items (codes "none, needs ") (permissions_bytes c.args.permissions)
