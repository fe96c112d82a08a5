-- Names that come after the last name listed.
use Rattle.std.proofs.Common.{◌≡◌, true, false, Option, None, Some, refl, ap, sym, ◌∙◌}
use Rattle.std.specs.Ordering.{is_lt, ordering_reverse}
use Rattle.std.specs.declared.cmp.Ordering.{Ordering}
use Rattle.std.specs.declared.cmp.Ordering.TheVariants.{Less, Equal, Greater}
use Rattle.std.proofs.lemmas.Cmp.{nat_list_cmp_total}
use Rattle.pv_model.specs.Machine.{Bytes, is_past}
use Rattle.pv_laws_trees.proofs.DirectoryEntries.{by_name}

pub less_from : (o : Ordering) → is_lt o ≡ true → o ≡ Less
less_from Less is = refl
less_from Equal is = cc
less_from Greater is = cc

-- a name does not come after one that it precedes
pub not_after : (a b : Bytes) → by_name a b ≡ Less → is_past (Some b) a ≡ false
not_after a b less = ap is_lt (nat_list_cmp_total.antisymm b a ∙ ap ordering_reverse less)

pub not_after_itself : (a : Bytes) → is_past (Some a) a ≡ false
not_after_itself a =
    elim (is_past (Some a) a) as (λ b. is_past (Some a) a ≡ b → b ≡ false) [
      | true ↦ λ is. sym is ∙ not_after a a (less_from (by_name a a) is)
      | false ↦ λ is. refl
    ] refl

-- a name after one that comes after the last also comes after the last
pub after_more : (last : Option Bytes) (a b : Bytes) → is_past last a ≡ true → is_lt (by_name a b) ≡ true → is_past last b ≡ true
after_more None a b is less = refl
after_more (Some l) a b is less = ap is_lt (nat_list_cmp_total.trans l a b (less_from (by_name l a) is) (less_from (by_name a b) less))
