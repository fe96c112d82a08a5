use Rattle.std.proofs.Common.{◌≡◌, ◌-◌, suc, sym, ap, ◌∙◌, arith}
use Rattle.pv_inodes.specs.Files.{Files, held}
use Rattle.pv_inodes.proofs.inodes.Inodes.bound.Goals as goal

pub returns : goal.returns
returns c = λ k past.
    let number : k ≡ suc (k - 1) = omega arith in
    ap (λ (f : Files). held f k) (sym c.self.view_is)
    ∙ rw number (c.self.invariant.2 (k - 1) (omega arith))
