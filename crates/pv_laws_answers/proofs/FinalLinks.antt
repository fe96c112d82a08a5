-- A walk that does not follow a final link has the same result if it does, provided that it does not end at a link.
use Rattle.std.proofs.Common.{◌≡◌, ℕ, Bool, true, false, if◌then◌else◌, not, ◌&&◌, ◌||◌, List, ◌∷◌, ◌++◌, Ok, Err, refl, ap, sym, ◌∙◌}
use Rattle.std.specs.Prelude.{option_and_then}
use Rattle.pv_model.specs.declared.follow.Follow.TheVariants.{Last, Keep}
use Rattle.pv_model.specs.declared.place.Place.{Place}
use Rattle.pv_model.specs.Machine.{Bytes, is_empty, is_link, node_of, Tree, root, node_at, components, is_absolute, Walked, resolve}
use Rattle.pv_model.specs.Walk.{ends_in_slash}
use Rattle.pv_laws_trees.specs.Walk
use Rattle.pv_laws_trees.proofs.WalkRelations.{resolves-as_walked}

-- a final link is followed
follows : (rest : List Bytes) (mark : Bool) → Walk.is_followed rest mark true ≡ true
follows rest mark = by (is_empty rest && not mark)
  where
    by : (b : Bool) → not (b && false) ≡ true
    by true = refl
    by false = refl

-- a place whose node is not a link
abbrev IsPlain : Tree → Walked → Type 0
IsPlain t (Ok place) = is_link (option_and_then (node_at t) (node_of place)) ≡ false
IsPlain t (Err e) = ⊥

module _ (t : Tree) where
  keeps : (links : ℕ) (ps : List Bytes) (mark : Bool) (at : ℕ) (r : Walked) → Walk.Walks t false links ps mark at r → IsPlain t r → Walk.Walks t true links ps mark at r
  keeps _ _ _ _ _ (Walk.Walks.arrives links mark at) plain = Walk.Walks.arrives links mark at
  keeps _ _ _ _ _ (Walk.Walks.stays links component rest mark at r is more) plain = Walk.Walks.stays links component rest mark at r is (keeps links rest mark at r more plain)
  keeps _ _ _ _ _ (Walk.Walks.climbs links component rest mark at above r is up more) plain =
      Walk.Walks.climbs links component rest mark at above r is up (keeps links rest mark above r more plain)
  keeps _ _ _ _ _ (Walk.Walks.no_parent links component rest mark at is up) plain = absurd plain
  keeps _ _ _ _ _ (Walk.Walks.name_too_long links component rest mark at dot dots long) plain = absurd plain
  keeps _ _ _ _ _ (Walk.Walks.in_removed links component rest mark at name is) plain = absurd plain
  keeps _ _ _ _ _ (Walk.Walks.absent links component rest mark at name appears none more) plain = absurd plain
  keeps _ _ _ _ _ (Walk.Walks.vacant links component at name appears none) plain = Walk.Walks.vacant links component at name appears none
  keeps _ _ _ _ _ (Walk.Walks.out_of_links component rest mark at n text leads followed) plain = absurd plain
  keeps _ _ _ _ _ (Walk.Walks.too_heavy links component rest mark at n text leads followed heavy) plain = absurd plain
  keeps _ _ _ _ _ (Walk.Walks.through links component rest mark at n text r leads followed light more) plain =
      Walk.Walks.through links component rest mark at n text r leads (follows rest mark) light
      (keeps links (components text ++ rest) (mark || (is_empty rest && ends_in_slash text)) (if is_absolute text then root else at) r more plain)
  keeps _ _ _ _ _ (Walk.Walks.enters links component next rest mark at n es r leads more) plain =
      Walk.Walks.enters links component next rest mark at n es r leads (keeps links (next ∷ rest) mark n r more plain)
  keeps _ _ _ _ _ (Walk.Walks.not_entered links component next rest mark at n executable bytes leads) plain = absurd plain
  keeps _ _ _ _ _ (Walk.Walks.finds_directory links component mark at n es leads) plain = Walk.Walks.finds_directory links component mark at n es leads
  keeps _ _ _ _ _ (Walk.Walks.finds_file links component at n executable bytes leads) plain = Walk.Walks.finds_file links component at n executable bytes leads
  keeps _ _ _ _ _ (Walk.Walks.finds_link links component rest mark at n text leads followed) plain =
      let bad : true ≡ false = ap is_link (sym leads.is) ∙ plain in cc bad
  keeps _ _ _ _ _ (Walk.Walks.wants_directory links component at n executable bytes leads) plain = absurd plain
  keeps _ _ _ _ _ (Walk.Walks.lost links component rest mark at n name appears found none) plain = absurd plain

  resolved : (start : ℕ) (path : Bytes) (r : Walked) → Walk.Resolves t Keep start path r → IsPlain t r → Walk.Resolves t Last start path r
  resolved start path _ (Walk.Resolves.empty is) plain = absurd plain
  resolved start path _ (Walk.Resolves.too_long long) plain = absurd plain
  resolved start path _ (Walk.Resolves.walks r some short more) plain =
      Walk.Resolves.walks r some short (keeps 32 (components path) (ends_in_slash path) (if is_absolute path then root else start) r more plain)

pub keeps-last : (t : Tree) (start : ℕ) (path : Bytes) (place : Place) → resolve t Keep start path ≡ Ok place → is_link (option_and_then (node_at t) (node_of place)) ≡ false
    → resolve t Last start path ≡ Ok place
keeps-last t start path place leads plain =
    (resolves-as_walked t Last start path (Ok place)).1 (resolved t start path (Ok place) ((resolves-as_walked t Keep start path (Ok place)).0 leads) plain)
