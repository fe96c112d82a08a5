use Rattle.std.proofs.Common.{Option, ap, refl, ◌∙◌}
use Rattle.std.specs.Cmp.Lexicographic.{lists_agrees}
use Rattle.std.specs.Ordering.{is_lt, is_some_and}
use Rattle.std.specs.declared.cmp.Ordering.{Ordering}
use Rattle.pv_cli_host.proofs.directories.is_before.Goals as goal

pub returns : goal.returns
returns c = c.lt.ensures ∙ ap (λ (o : Option Ordering). is_some_and is_lt o) (lists_agrees (λ x y. refl) c.args.name.now c.args.other.now)
