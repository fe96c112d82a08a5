-- Loops over cells, and edits of cells.
use Rattle.std.proofs.Common.{◌≡◌, ◌≢◌, ◌∙◌, sym, ap, subst, ℕ, ◌+◌, ◌<◌, Bool, true, false, not, ◌||◌, ◌==◌, if◌then◌else◌, List, [], ◌∷◌, ◌++◌, get_or, length, map, take, Option, None, Some, option_map, slice_get, refl}
use Rattle.std.specs.Prelude.{position}
use Rattle.std.specs.List.{AllByRecursion, list_any}
use Rattle.std.proofs.lemmas.Bool.{and_parts, eqb-true}
use Rattle.std.proofs.lemmas.List.{take_more}
use Rattle.std.proofs.lemmas.List.Quantifiers.{position-Some}
use Rattle.std.proofs.lemmas.Option.{slice_get-get_or, slice_get-map}
use Rattle.pv_model.specs.Machine.{Bytes}
use Rattle.pv_state_encoding.specs.Encoded.{OwnedGroup}
use Rattle.pv_step_cache.specs.declared.cells.Cell.{Cell}
use Rattle.pv_step_cache.specs.declared.cells.Edit.{Edit}
use Rattle.pv_step_cache.specs.declared.cells.Edit.TheVariants.{Keep, Put}
use Rattle.pv_step_cache.specs.Edits.{cell_of, is_owned, owners, appears_as, AppearedAt, IsCellEdit, AreCellEdits, IsEdit, AreEdits}
use Rattle.pv_step_cache.specs.Cached.{IsCachedBoth, AreApart}

-- ---- owners

owners-append : (cs ds : List Cell) → owners (cs ++ ds) ≡ owners cs ++ owners ds
owners-append [] ds = refl
owners-append (c ∷ cs) ds = by (c.owner == 0) (owners-append cs ds)
  where
    by : (b : Bool) → owners (cs ++ ds) ≡ owners cs ++ owners ds → (if b then owners (cs ++ ds) else c.owner ∷ owners (cs ++ ds)) ≡ (if b then owners cs else c.owner ∷ owners cs) ++ owners ds
    by true rest = rest
    by false rest = ap (λ ns. c.owner ∷ ns) rest

pub owners_next : (cells : List Cell) (i : ℕ) (d : Cell) (old new : List ℕ) → i < length cells → new ≡ old ++ owners (get_or cells i d ∷ []) → old ≡ owners (take i cells) → new ≡ owners (take (i + 1) cells)
owners_next cells i d old new within is so_far =
    is ∙ ap (λ (ns : List ℕ). ns ++ owners (get_or cells i d ∷ [])) so_far ∙ sym (owners-append (take i cells) (get_or cells i d ∷ [])) ∙ ap owners (sym (take_more cells i d within))

-- if a cell has an owner, some process is live
pub owners-some : (cells : List Cell) → list_any is_owned cells ≡ true → owners cells ≢ []
owners-some [] is = λ none. (let no : false ≡ true = is in cc)
owners-some (c ∷ cs) is = by (c.owner == 0) (owners-some cs) is
  where
    by : (b : Bool) → (list_any is_owned cs ≡ true → owners cs ≢ []) → (not b || list_any is_owned cs) ≡ true → (if b then owners cs else c.owner ∷ owners cs) ≢ []
    by true rest some = rest some
    by false rest some = λ none. cc

-- ---- edits

module _ (pid : ℕ) (before : List Cell) where
  edits-append : (cs : List Cell) (es : List Edit) (c : Cell) (e : Edit) → AreCellEdits pid before cs es → IsCellEdit pid before c e → AreCellEdits pid before (cs ++ c ∷ []) (es ++ e ∷ [])
  edits-append [] [] c e are one = (one, tt)
  edits-append [] (x ∷ es) c e are one = absurd are
  edits-append (x ∷ cs) [] c e are one = absurd are
  edits-append (x ∷ cs) (y ∷ es) c e are one = (are.0, edits-append cs es c e are.1 one)

  pub edits-next : (cells : List Cell) (i : ℕ) (d : Cell) (old new : List Edit) (e : Edit) → i < length cells → new ≡ old ++ e ∷ [] → IsCellEdit pid before (get_or cells i d) e → AreCellEdits pid before (take i cells) old
      → AreCellEdits pid before (take (i + 1) cells) new
  edits-next cells i d old new e within is one so_far =
      subst (λ (cs : List Cell). AreCellEdits pid before cs new) (sym (take_more cells i d within))
      (subst (AreCellEdits pid before (take i cells ++ get_or cells i d ∷ [])) (sym is) (edits-append (take i cells) old (get_or cells i d) e so_far one))

pub appeared_at : (pid : ℕ) (before : List Cell) (c : Cell) (place : ℕ) → Some place ≡ position (appears_as c) before → c.owner ≢ 0 → c.owner ≢ pid → AppearedAt pid before place c
appeared_at pid before c place is alive other =
    let found = position-Some (appears_as c) before place c (sym is) in record { there = get_or before place c; at = slice_get-get_or before place c found.0; appears = found.1; live = alive; other = other }

-- ---- edits of cells are edits of their groups

module _ (number : List Bytes → ℕ) (IsCached : List Bytes → Type 0) (apart : AreApart number IsCached) (pid : ℕ) (before : List OwnedGroup) where
  abbrev cells : List OwnedGroup → List Cell
  cells cs = map (cell_of number) cs

  some-of : (o : Option OwnedGroup) (c : Cell) → option_map (cell_of number) o ≡ Some c → (d : OwnedGroup) × (o ≡ Some d) × (cell_of number d ≡ c)
  some-of None c is = cc
  some-of (Some d) c is = let same : cell_of number d ≡ c = cc in (d, refl, same)

  one-encoded : (c : OwnedGroup) (e : Edit) → IsCached c.group → IsCellEdit pid (cells before) (cell_of number c) e → IsEdit number pid before c e
  one-encoded c (Keep place) cached it =
      let found = some-of (slice_get before place) it.there (sym (slice_get-map (cell_of number) before place) ∙ it.at) in
      let tests = and_parts (it.there.number == number c.group) (it.there.owner == c.owner) it.appears in
      record {
        there = found.0;
        at = found.1;
        group = apart found.0.group c.group cached (ap (λ (x : Cell). x.number) found.2 ∙ eqb-true it.there.number (number c.group) tests.0);
        owner = ap (λ (x : Cell). x.owner) found.2 ∙ eqb-true it.there.owner c.owner tests.1;
        live = it.live;
        other = it.other;
      }
  one-encoded c (Put cell) cached it = it

  pub all-encoded : (cs : List OwnedGroup) (es : List Edit) → AllByRecursion (IsCachedBoth number IsCached) cs → AreCellEdits pid (cells before) (cells cs) es → AreEdits number pid before cs es
  all-encoded [] [] cached are = tt
  all-encoded [] (e ∷ es) cached are = absurd are
  all-encoded (c ∷ cs) [] cached are = absurd are
  all-encoded (c ∷ cs) (e ∷ es) cached are = (one-encoded c e cached.0.0 are.0, all-encoded cs es cached.1 are.1)
