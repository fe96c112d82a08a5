use Rattle.std.proofs.Common.{sym}
use Rattle.pv_model.specs.Machine.{needs_of_mode, needs_cpath}
use Rattle.pv_promises.specs.Pledge.{bits_of}
use Rattle.pv_promises.proofs.LackedPromises.{missing_promise-append}
use Rattle.pv_promises.proofs.missing.missing_of_open.Goals as goal

pub returns-then-flags : goal.returns-then-flags
returns-then-flags c =
    let e = missing_promise-append (bits_of c.args.held) (needs_of_mode c.args.flags.mode) needs_cpath in
    rw (c.or.ensures, c.missing.ensures, c.missing_of_mode-of_mode.ensures, c.if-flags.true) (sym e)
