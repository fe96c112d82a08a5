use Rattle.std.specs.Option.{option_copied}
use Rattle.pv_text.specs.Components.{left_in}
use Rattle.pv_image_manifest.proofs.Containers.{IsContained}
use Rattle.pv_image_manifest.proofs.adding.container.Given as goal

abbrev pub invariant-loop-rest : goal.invariant-loop-rest
invariant-loop-rest l = IsContained l.tree.tree l.path l.directory l.name (option_copied l.rest)

abbrev pub decreases-loop-rest : goal.decreases-loop-rest
decreases-loop-rest l = left_in (option_copied l.rest)
