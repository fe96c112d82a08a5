use Rattle.std.proofs.Common.{◌∙◌, ◌++◌, ap, drop}
use Rattle.std.specs.Prelude.{replicate}
use Rattle.std.proofs.lemmas.List.{take_at}
use Rattle.pv_script.proofs.BufferBytes.{cleared, unwritten}
use Rattle.pv_script.proofs.buffer.Buffer.clear.Goals as goal

pub returns : goal.returns
returns c =
    let used = c.self.inside.used in
    take_at c.clear_front.new.buffer _ _ (c.clear_front.auto.buffer ∙ c.deref_mut.ensures.len)
    ∙ c.clear_front.ensures ∙ ap (λ bytes. replicate used 0 ++ drop used bytes) c.deref_mut.ensures.value ∙ cleared c.self.inside.bytes.items used c.self.invariant

pub invariant_of-self : goal.invariant_of-self
invariant_of-self c = unwritten _ (returns c)
