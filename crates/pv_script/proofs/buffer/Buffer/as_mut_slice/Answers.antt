use Rattle.std.proofs.Common.{◌∙◌, sym}
use Rattle.pv_script.proofs.BufferBytes.{lent}
use Rattle.pv_script.proofs.buffer.Buffer.as_mut_slice.Goals as goal

pub invariant_of-self-lent : goal.invariant_of-self-lent
invariant_of-self-lent c left =
    let size = c.self.inside.bytes.ok.0 in
    lent c.self.inside.bytes.items left c.self.inside.bytes.len (sym size) (size ∙ c.self.invariant.whole)
