use Rattle.std.proofs.Common.{ap, arith}
use Rattle.std.proofs.lemmas.List.{take_all, length-drop}
use Rattle.std.specs.Option.{option_copied}
use Rattle.std.specs.Prelude.{drop}
use Rattle.pv_image_manifest.proofs.Containers.{IsContained-start, IsContained-step, IsContained-refused}
use Rattle.pv_image_manifest.proofs.adding.container.Goals as goal

pub loop-rest-init : goal.loop-rest-init
loop-rest-init c =
    IsContained-start c.args.tree.now.tree c.args.path.now _ c.split_component.result.0.now (option_copied c.split_component.result.1) c.requires
    (take_all _ (drop 1 c.args.path.now) (omega (arith, length-drop 1 c.args.path.now))) c.split_component.ensures.components c.invariant.ensures.well_formed

pub returns-in_err-directory-clause-found : goal.returns-in_err-directory-clause-found
returns-in_err-directory-clause-found c =
    rw c.from_residual.ensures
    (IsContained-refused c.args.tree.now.tree c.args.path.now c.loop-rest.directory c.loop-rest.name.now c.in-Some.following.now (option_copied c.loop-rest.rest) (ap option_copied c.in-Some.is)
    c.loop-rest.invariant c.in_err-directory.ensures.entered)

pub loop-rest-preserved : goal.loop-rest-preserved
loop-rest-preserved c =
    IsContained-step c.args.tree.now.tree c.args.path.now c.loop-rest.directory c.loop-rest.name.now c.in-Some.following.now (option_copied c.loop-rest.rest) (ap option_copied c.in-Some.is)
    c.loop-rest.invariant c.in_ok-directory.directory c.split_component-in-Some.result.0.now (option_copied c.split_component-in-Some.result.1) c.split_component-in-Some.ensures.components
    c.in_ok-directory.ensures.entered c.in_ok-directory.ensures.appears
