use Rattle.std.proofs.Common.{◌∙◌, [], ◌∷◌, ◌++◌, ap, ap₂, sym, List, ℕ}
use Rattle.std.specs.Global.{Vec}
use Rattle.std.proofs.lemmas.List.{map-append}
use Rattle.pv_explore.proofs.StateRows.{taken-more}
use Rattle.pv_model.specs.Machine.{Bytes}
use Rattle.pv_step_cache.specs.Steps.{texts_in}
use Rattle.pv_explore.proofs.side.copy_of_texts.Goals as goal

pub loop-text-preserved : goal.loop-text-preserved
loop-text-preserved c =
    ap texts_in c.in_ok-push.ensures.items ∙ map-append (λ (t : Vec ℕ). t.items) c.loop-text.copy.items (c.in_ok-one.one ∷ [])
    ∙ ap₂ (λ (ts : List Bytes) (t : Bytes). ts ++ t ∷ []) c.loop-text.invariant (c.in_ok-one.ensures.items ∙ c.deref.ensures.value ∙ ap (λ (t : Vec ℕ). t.items) c.text-item.is)
    ∙ sym (taken-more (λ (t : Vec ℕ). t.items) c.args.texts.now c.loop-text.text-index c.text-item.result c.loop-text-test.true)
