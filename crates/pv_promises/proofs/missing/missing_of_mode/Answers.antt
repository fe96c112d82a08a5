use Rattle.std.proofs.Common.{[], ◌∷◌, sym}
use Rattle.pv_model.specs.declared.promise.Promise.TheVariants.{Rpath, Wpath}
use Rattle.pv_promises.specs.Pledge.{bits_of}
use Rattle.pv_promises.proofs.LackedPromises.{missing_promise-append}
use Rattle.pv_promises.proofs.missing.missing_of_mode.Goals as goal

pub returns-in-ReadWrite : goal.returns-in-ReadWrite
returns-in-ReadWrite c =
    let e = missing_promise-append (bits_of c.args.held) ((Rpath ∷ []) ∷ []) ((Wpath ∷ []) ∷ []) in
    rw (c.or.ensures, c.missing-in-ReadWrite.ensures, c.missing-in-ReadWrite-2.ensures, c.in-ReadWrite.is) (sym e)
