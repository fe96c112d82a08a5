use Rattle.std.proofs.Common.{◌∙◌, ◌++◌, ap, arith, drop, length, subst, sym}
use Rattle.std.proofs.lemmas.List.{take_at}
use Rattle.pv_script.specs.Written.{IsZeroAfter}
use Rattle.pv_script.proofs.BufferBytes.{put}
use Rattle.pv_script.proofs.buffer.Buffer.put_front.Goals as goal

pub invariant_of-self : goal.invariant_of-self
invariant_of-self c =
    let bytes = c.args.bytes.now in
    let most = c.max-self-inside.result in
    let is = c.max-self-inside.ensures in
    let after = take_at c.put_to_front.new.buffer _ _ (c.put_to_front.auto.buffer ∙ c.deref_mut.ensures.len)
    ∙ c.put_to_front.ensures ∙ ap (λ old. bytes ++ drop (length bytes) old) c.deref_mut.ensures.value in
    subst (λ all. IsZeroAfter all most) (sym after)
    (put c.self.inside.bytes.items c.self.inside.used c.self.invariant bytes most (omega (arith, is)) (omega (arith, is)) (omega (arith, is, c.requires, c.self.invariant.within)))
