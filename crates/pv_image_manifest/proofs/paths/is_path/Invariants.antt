use Rattle.std.proofs.Common.{◌≡◌, drop}
use Rattle.std.specs.List.{list_all}
use Rattle.std.specs.Option.{option_copied}
use Rattle.pv_model.specs.Machine.{is_name, split_slashes}
use Rattle.pv_text.specs.Components.{components_after, left_in}
use Rattle.pv_image_manifest.proofs.paths.is_path.Given as goal

abbrev pub invariant-loop-rest : goal.invariant-loop-rest
invariant-loop-rest l = list_all (is_name l.version) (components_after (option_copied l.rest)) ≡ list_all (is_name l.version) (split_slashes (drop 1 l.fn.path))

abbrev pub decreases-loop-rest : goal.decreases-loop-rest
decreases-loop-rest l = left_in (option_copied l.rest)
