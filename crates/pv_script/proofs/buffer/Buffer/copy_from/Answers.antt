use Rattle.std.proofs.Common.{◌∙◌, ◌++◌, ap₂, drop, length, subst, sym, take}
use Rattle.std.proofs.lemmas.List.{take_at}
use Rattle.pv_model.specs.Machine.{Bytes}
use Rattle.pv_script.specs.Written.{IsZeroAfter}
use Rattle.pv_script.proofs.BufferBytes.{copied}
use Rattle.pv_script.proofs.buffer.Buffer.copy_from.Goals as goal

pub returns : goal.returns
returns c =
    let most = c.max-most.result in
    take_at c.put_to_front.new.buffer _ _ (c.put_to_front.auto.buffer ∙ c.deref_mut.ensures.len)
    ∙ c.put_to_front.ensures ∙ ap₂ (λ (other bytes : Bytes). take most other ++ drop (length (take most other)) bytes) c.deref.ensures.value c.deref_mut.ensures.value
    ∙ copied c.self.inside.bytes.items c.other.inside.bytes.items c.self.inside.used c.other.inside.used most c.self.invariant c.other.invariant c.max-most.ensures
    ∙ c.other.view_is

pub invariant_of-self : goal.invariant_of-self
invariant_of-self c = subst (λ bytes. IsZeroAfter bytes c.other.inside.used) (sym (returns c ∙ sym c.other.view_is)) c.other.invariant
