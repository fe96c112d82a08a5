use Rattle.std.proofs.Common.{◌≡◌, ◌∙◌, true, Option, None, Some, refl, sym, subst}
use Rattle.std.specs.Prelude.{is_some}
use Rattle.pv_model.specs.Machine.{Process, is_directory_at, process_at, Tree, walk_of}
use Rattle.pv_unveil.specs.Up.{directory_of_place}
use Rattle.pv_explain.proofs.AllowedLines.{end-directory}
use Rattle.pv_explain.proofs.allowed.allowed_walk.Goals as goal

some-at : (o : Option Process) → is_some o ≡ true → (p : Process) × (o ≡ Some p)
some-at None is = cc is
some-at (Some p) is = (p, refl)

pub allowed_at-requires : goal.allowed_at-requires
allowed_at-requires c =
    let s = c.args.parts.now in
    let me = some-at (process_at s c.args.pid) c.requires.live in
    subst (λ (t : Tree). is_directory_at t (directory_of_place c.in_ok-place.place) ≡ true) (sym c.tree.ensures)
    (end-directory s c.args.pid me.0 c.requires.whole me.1 (walk_of c.args.walk) c.in_ok-place.place (sym (c.end_of.ensures me.0 me.1) ∙ c.in_ok-place.was))
