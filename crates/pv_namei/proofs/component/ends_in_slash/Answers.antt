use Rattle.std.proofs.Common.{◌≡◌, suc, ◌-◌, length, sym, arith}
use Rattle.pv_namei.proofs.PathComponents.{ends_in_last_of}
use Rattle.pv_namei.proofs.component.ends_in_slash.Goals as goal

pub returns-in-len1-up : goal.returns-in-len1-up
returns-in-len1-up c =
    let e : suc (length c.args.path.now - 1) ≡ length c.args.path.now = omega arith in
    sym (ends_in_last_of c.args.path.now (length c.args.path.now - 1) e)
