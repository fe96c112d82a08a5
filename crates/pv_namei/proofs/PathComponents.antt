-- The components of a path, split off one by one.
use Rattle.std.proofs.Common.{◌≡◌, ◌<◌, ℕ, zero, suc, ◌==◌, not, Bool, true, false, filter, List, [], ◌∷◌, length, get_or, take, drop, Option, None, Some, is_some, refl, sym, ap, ◌∙◌, arith, position, unwrap_or, nat_lt}
use Rattle.std.proofs.lemmas.List.{drop_all, length-drop}
use Rattle.std.proofs.lemmas.List.Quantifiers.{position-Some}
use Rattle.std.proofs.lemmas.List.Sums.{prefix_len-le-length, prefix_len-drop_yes}
use Rattle.std.proofs.Math.Numerals.{one-add}
use Rattle.std.proofs.lemmas.Option.{cond_some}
use Rattle.std.specs.List.{position_or_len}
use Rattle.pv_namei.proofs.FirstPlaces.{place_or_length, place_past}
use Rattle.pv_model.specs.Machine.{Bytes, is_empty, onto_first, split_slashes, components}
use Rattle.pv_model.specs.Walk.{ends_in_slash}

abbrev pub is_slash : ℕ → Bool
is_slash b = b == 47

abbrev pub is_other : ℕ → Bool
is_other b = not (b == 47)

-- the number of bytes before the first slash, and of slashes before the first other byte
abbrev pub others : Bytes → ℕ
others path = position_or_len is_slash path

abbrev pub slashes : Bytes → ℕ
slashes path = position_or_len is_other path

abbrev pub tail_of : List Bytes → List Bytes
tail_of [] = []
tail_of (p ∷ ps) = ps

abbrev filled : List Bytes → List Bytes
filled ps = filter (λ component. not (is_empty component)) ps

onto_first_cut : (b : ℕ) (ps : List Bytes) (first : Bytes) (rest : List Bytes) → ps ≡ first ∷ rest → onto_first b ps ≡ (b ∷ first) ∷ rest
onto_first_cut b ps first rest e = ap (onto_first b) e

module _ (b : ℕ) (bs : Bytes) where
  cut_step : (v : Bool) → (b == 47) ≡ v → split_slashes bs ≡ take (others bs) bs ∷ tail_of (split_slashes (drop (others bs) bs))
      → split_slashes (b ∷ bs) ≡ take (others (b ∷ bs)) (b ∷ bs) ∷ tail_of (split_slashes (drop (others (b ∷ bs)) (b ∷ bs)))
  cut_step true e ih = rw (e, e) refl
  cut_step false e ih = rw (e, one-add) (onto_first_cut b (split_slashes bs) _ _ ih)

  skip_step : (v : Bool) → (b == 47) ≡ v → components (drop (slashes bs) bs) ≡ components bs → components (drop (slashes (b ∷ bs)) (b ∷ bs)) ≡ components (b ∷ bs)
  skip_step true e ih = rw (e, one-add) ih
  skip_step false e ih = rw (e, e) refl

  rest_step : (v : Bool) → (b == 47) ≡ v → components (drop (others bs) bs) ≡ filled (tail_of (split_slashes (drop (others bs) bs)))
      → components (drop (others (b ∷ bs)) (b ∷ bs)) ≡ filled (tail_of (split_slashes (drop (others (b ∷ bs)) (b ∷ bs))))
  rest_step true e ih = rw (e, e) refl
  rest_step false e ih = rw (e, one-add) ih

-- the first component between slashes ends at the first slash
cut_first : (path : Bytes) → split_slashes path ≡ take (others path) path ∷ tail_of (split_slashes (drop (others path) path))
cut_first [] = refl
cut_first (b ∷ bs) = cut_step b bs (b == 47) refl (cut_first bs)

rest_components : (path : Bytes) → components (drop (others path) path) ≡ filled (tail_of (split_slashes (drop (others path) path)))
rest_components [] = refl
rest_components (b ∷ bs) = rest_step b bs (b == 47) refl (rest_components bs)

-- leading slashes do not change the components
pub components_skip : (path : Bytes) → components (drop (slashes path) path) ≡ components path
components_skip [] = refl
components_skip (b ∷ bs) = skip_step b bs (b == 47) refl (components_skip bs)

filled_first : (path : Bytes) (n : ℕ) → 0 < n → 0 < length path → (rest : List Bytes) → filled (take n path ∷ rest) ≡ take n path ∷ filled rest
filled_first [] n some there rest = absurd (omega arith)
filled_first (b ∷ bs) zero some there rest = absurd (omega arith)
filled_first (b ∷ bs) (suc n) some there rest = refl

-- the bytes before the first slash are the first component
pub components_cut : (path : Bytes) → 0 < others path → 0 < length path → components path ≡ take (others path) path ∷ components (drop (others path) path)
components_cut path some there =
    ap filled (cut_first path) ∙ filled_first path (others path) some there (tail_of (split_slashes (drop (others path) path))) ∙ ap (λ ps. take (others path) path ∷ ps) (sym (rest_components path))

-- a path ends in a slash if its last byte is one
pub ends_in_last : (b : ℕ) (bs : Bytes) → ends_in_slash (b ∷ bs) ≡ (get_or (b ∷ bs) (length bs) 0 == 47)
ends_in_last b [] = refl
ends_in_last b (c ∷ bs) = ends_in_last c bs

pub ends_in_last_of : (path : Bytes) (n : ℕ) → suc n ≡ length path → ends_in_slash path ≡ (get_or path n 0 == 47)
ends_in_last_of [] n e = absurd (omega arith)
ends_in_last_of (b ∷ bs) n e = let same : n ≡ length bs = omega arith in rw same (ends_in_last b bs)

-- a path of only slashes has no component
pub components_none : (path : Bytes) → position is_other path ≡ None → components path ≡ []
components_none path none =
    let within = prefix_len-le-length (λ b. not (is_other b)) path in
    let all = place_past (slashes path) (length path) within none in
    sym (components_skip path) ∙ ap (λ n. components (drop n path)) all ∙ ap components (drop_all (length path) path (omega arith))

module _ (path : Bytes) (start end : ℕ) (found : position is_other path ≡ Some start)
    (is : end ≡ unwrap_or (position is_slash (drop start path)) (length (drop start path))) where
  others_next : end ≡ others (drop start path)
  others_next = is ∙ place_or_length (others (drop start path)) (length (drop start path)) (prefix_len-le-length is_other (drop start path))

  -- the first component is not empty
  pub some_next : 0 < end
  some_next =
      let at = position-Some is_other path start 0 found in
      omega (arith, others_next, prefix_len-drop_yes is_other path start 0 at.0 at.1)

  -- the first component starts at the first byte that is not a slash, and ends before the next slash
  pub components_next : components path ≡ take end (drop start path) ∷ components (drop end (drop start path))
  components_next =
      let at = position-Some is_other path start 0 found in
      let from : slashes path ≡ start = (cond_some (nat_lt (slashes path) (length path)) (slashes path) start found).1 in
      let some : 0 < others (drop start path) = omega (arith, others_next, some_next) in
      let there : 0 < length (drop start path) = omega (arith, length-drop start path, at.0) in
      sym (components_skip path) ∙ ap (λ n. components (drop n path)) from ∙ rw others_next (components_cut (drop start path) some there)

-- there is none if and only if there is no such byte
none_found : (path : Bytes) (found : Option ℕ) → position is_other path ≡ found → (none : Bool) → is_some found ≡ not none → none ≡ is_empty (components path)
none_found path None e true is = sym (ap is_empty (components_none path e))
none_found path None e false is = cc is
none_found path (Some start) e true is = cc is
none_found path (Some start) e false is =
    sym (ap is_empty (components_next path start (unwrap_or (position is_slash (drop start path)) (length (drop start path))) e refl))

pub components_empty : (path : Bytes) (none : Bool) → is_some (position is_other path) ≡ not none → none ≡ is_empty (components path)
components_empty path none is = none_found path (position is_other path) refl none is
