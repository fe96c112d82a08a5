use Rattle.std.proofs.Common.{◌+◌, ◌∙◌, None, ap, drop, refl, sym}
use Rattle.std.proofs.lemmas.List.{at_drop_all, at_drop_more}
use Rattle.std.specs.List.{list_any}
use Rattle.std.specs.Prelude.{◌||◌}
use Rattle.pv_cli_line.specs.Line.{is_faulty}
use Rattle.pv_cli_line.proofs.PlainPaths.{faulty_found, none_faulty}
use Rattle.pv_cli_line.proofs.command.faulty_path.Goals as goal

pub returns-then-is_faulty : goal.returns-then-is_faulty
returns-then-is_faulty c = faulty_found c.args.paths.now c.loop-path.path-index _ refl (sym c.is_faulty.ensures ∙ c.if-is_faulty.true)

pub loop-path-preserved : goal.loop-path-preserved
loop-path-preserved c =
    let paths = c.args.paths.now in
    let index = c.loop-path.path-index in
    sym (at_drop_more (list_any is_faulty) paths index None c.loop-path-test.true
    ∙ ap (λ b. b || list_any is_faulty (drop (index + 1) paths)) (sym c.is_faulty.ensures ∙ c.if-is_faulty.false))
    ∙ c.loop-path.invariant

pub returns : goal.returns
returns c =
    none_faulty c.args.paths.now (sym c.loop-path.invariant ∙ at_drop_all (list_any is_faulty) c.args.paths.now c.loop-path.path-index c.loop-path-test.false)
