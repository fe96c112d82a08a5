use Rattle.std.proofs.Common.{◌≡◌, ◌∙◌, ap, sym}
use Rattle.pv_model.specs.Answers.Policy.{place_of_target}
use Rattle.pv_model.specs.Machine.{walk_of, process_at, is_directory_at}
use Rattle.pv_unveil.specs.Up.{directory_of_place}
use Rattle.pv_policy.proofs.UsedPermissions.{of-live, walk-directory}
use Rattle.pv_policy.proofs.asked.push_walk.Goals as goal

pub used_by-requires : goal.used_by-requires
used_by-requires c =
    let s = c.args.parts.now in
    let pid = c.args.pid in
    of-live (process_at s pid) c.requires.live
    (λ me lives. ap (λ t. is_directory_at t (directory_of_place (place_of_target c.in-Some.walk.target))) c.tree.ensures
    ∙ walk-directory s pid me c.requires.whole lives (walk_of c.args.walk) c.in-Some.walk (sym (c.in_ok-walk.ensures me lives) ∙ c.in-Some.is))
