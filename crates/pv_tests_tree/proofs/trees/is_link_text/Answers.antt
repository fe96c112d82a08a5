use Rattle.std.proofs.Common.{◌≡◌, true, false, not, ◌==◌, nat_lt, nat_le, length, ap, sym, ◌∙◌}
use Rattle.std.specs.List.{list_all}
use Rattle.std.proofs.lemmas.Bool.{and_from, ltb-false, le-leb}
use Rattle.pv_model.specs.Machine.{Bytes, is_empty, is_link_text}
use Rattle.pv_namei.proofs.WalkSteps.{empty-is}
use Rattle.pv_tests_tree.proofs.trees.is_link_text.Goals as goal

text_is : (text : Bytes) → (length text == 0) ≡ false → nat_lt 1023 (length text) ≡ false → list_all (λ b. not (b == 0)) text ≡ true → is_link_text text ≡ true
text_is text some short all =
    and_from _ (list_all (λ b. not (b == 0)) text) (and_from (not (is_empty text)) (nat_le (length text) 1023) (ap not (empty-is text ∙ some)) (le-leb (length text) 1023 (ltb-false 1023 (length text) short)))
    all

pub returns : goal.returns
returns c = λ all. text_is c.args.text.now (sym c.is_empty.ensures ∙ c.if-is_empty.false) (sym c.is_long_text.ensures ∙ c.if-is_long_text.false) (sym c.has_text_bytes.ensures ∙ all)
