use Rattle.std.proofs.Common.{None, Some}
use Rattle.std.proofs.lemmas.List.{take_rest}
use Rattle.pv_files.proofs.RecordKeys.{free_after}
use Rattle.pv_files.proofs.open_files.first_free_from.Goals as goal

pub returns-in_err-following : goal.returns-in_err-following
returns-in_err-following c =
    let none = rw take_rest at c.in_err-following.ensures in
    rw c.from_residual.ensures (free_after c.args.records.now c.args.keys.now c.args.first c.requires.used c.requires.within None none)

pub returns : goal.returns
returns c =
    let found = rw take_rest at c.in_ok-following.ensures in
    free_after c.args.records.now c.args.keys.now c.args.first c.requires.used c.requires.within (Some c.in_ok-following.following) found
