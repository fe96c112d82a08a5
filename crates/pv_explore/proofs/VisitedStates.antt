-- The data stored with visited states: it stays right when more is stored, and gives the steps of states.
use Rattle.std.proofs.Common.{◌≡◌, ◌≢◌, ◌∙◌, sym, ap, ap₂, subst, ℕ, zero, suc, ◌+◌, ◌<◌, ◌⊎◌, inl, inr, Bool, true, false, ◌||◌, ◌==◌, cond, not, nat_lt, vec_len, List, [], ◌∷◌, ◌++◌, get_or, length, map, take, bytes_eq, slice_get, Option, None, Some, option_map, refl, arith, ⊎_elim}
use Rattle.std.specs.Global.{Vec}
use Rattle.std.specs.Prelude.{Result, Ok, Err, OnOk, OnErr, position}
use Rattle.std.proofs.lemmas.List.{length-map}
use Rattle.std.proofs.lemmas.Bool.Decides.{nat_tests}
use Rattle.pv_explore.specs.declared.states.Visit.{Visit}
use Rattle.pv_explore.specs.declared.states.Visit.TheVariants.{Known, Full, New}
use Rattle.pv_explore.proofs.LiveNumbers.{ended-numbers}
use Rattle.std.specs.List.{AllByRecursion, list_any, position_or_len}
use Rattle.std.proofs.lemmas.List.{length-append, map-append}
use Rattle.std.proofs.lemmas.Option.{slice_get-get_or, slice_get-map, slice_get_within}
use Rattle.pv_explore.specs.Plan.{state_key}
use Rattle.pv_explore.specs.Rows.{Grew, state_row, state_bytes, IsGroupVisited, AreVisited, IsRow}
use Rattle.pv_explore.specs.VisitedStates.{group_number, AreCachedBoth, AreCellsIn, AreCellsOf, AreCellsAt, AreCachedSteps, AreEncoded, AreReleased, ArePlaced, ArePushed, IsFine, IsFoundBy, IsFoundIn, IsObservedStep, IsRecalled, HasNumber, MayKeep, cells_row}
use Rattle.pv_explore.proofs.StateRows.{all-next, any-row, position-row, visited-grew, numbers-grew, rows-grew, states-added, states-grew, rows-added, same-rows, state-back, taken-more}
use Rattle.pv_step_cache.specs.declared.cells.Cell.{Cell}
use Rattle.pv_step_cache.specs.declared.steps.CachedStep.{CachedStep}
use Rattle.pv_step_cache.specs.Edits.{cell_of, number_of_cell, owners}
use Rattle.pv_step_cache.specs.Cached.{AreApart, DependsOnSeen, IsCachedBoth, KeepsMore}
use Rattle.pv_step_cache.proofs.RepeatedSteps.{IsAgain, cells-more, cells-same, cached-more}
use Rattle.pv_step_cache.proofs.KeyLists.{number-none}
use Rattle.pv_step_cache.proofs.Keys.{groups-encoded}
use Rattle.pv_step_cache.proofs.LiveOwners.{owners-are}
use Rattle.pv_step_cache.proofs.CacheLookups.{recalled-again, steps-added, steps-more}
use Rattle.pv_laws_states.specs.States.{IsValid}
use Rattle.pv_model.specs.Machine.{has_ended, Observer, Bytes, is_empty, State}
use Rattle.pv_step_cache.proofs.OfLawsAnswers.StateDecoding.{same-state_numbers}
use Rattle.pv_step_lines.specs.OfSession.Running.{stepped}
use Rattle.pv_step_cache.specs.OfStateEncoding.Groups.{state_groups}
use Rattle.pv_step_cache.specs.OfStateEncoding.Packed.{packed_all}
use Rattle.pv_step_cache.specs.OfStateEncoding.Encoded.{OwnedGroup, plain, encoded}
use Rattle.pv_step_cache.proofs.OfStateEncoding.InjectiveEncoding.{packed-apart}
use Rattle.pv_step_cache.proofs.OfStateEncoding.StateGroups.{state-concatenated_groups}

same-keys : (s t : State) → state_key s ≡ state_key t → s ≡ t
same-keys s t same = same-state_numbers s t (packed-apart _ _ same)

module _ (parts groups : List Bytes) where
  pub apart : AreApart (group_number parts groups) (IsGroupVisited parts groups)
  apart g h visited same = let all : g ∷ [] ≡ h ∷ [] = same-rows parts groups (g ∷ []) (h ∷ []) (visited, tt) (ap (λ n. packed_all (n ∷ [])) same) in cc

  -- ---- rows of cells

  numbers-cells : (cs : List OwnedGroup) → map number_of_cell (map (cell_of (group_number parts groups)) cs) ≡ map (group_number parts groups) (map (λ c. c.group) cs)
  numbers-cells [] = refl
  numbers-cells (c ∷ cs) = ap (λ ns. group_number parts groups c.group ∷ ns) (numbers-cells cs)

  pub row-of_cells : (t : State) (cells : List Cell) → AreCellsOf parts groups t cells → cells_row cells ≡ state_row parts groups (state_groups t)
  row-of_cells t cells there =
      ap cells_row there.are ∙ ap packed_all (numbers-cells (encoded t) ∙ ap (map (group_number parts groups)) (groups-encoded t))

  groups-visited : (cs : List OwnedGroup) → AreCachedBoth parts groups cs → AreVisited parts groups (map (λ c. c.group) cs)
  groups-visited [] visited = tt
  groups-visited (c ∷ cs) visited = (visited.0.0, groups-visited cs visited.1)

  pub state-visited : (t : State) → AreCachedBoth parts groups (encoded t) → AreVisited parts groups (state_groups t)
  state-visited t visited = subst (AreVisited parts groups) (groups-encoded t) (groups-visited (encoded t) visited)

  -- ---- the state with a number

  some-of : (f : Bytes → Bytes) (o : Option Bytes) (b : Bytes) → option_map f o ≡ Some b → (a : Bytes) × (o ≡ Some a) × (f a ≡ b)
  some-of f None b is = cc
  some-of f (Some a) b is = let same : f a ≡ b = cc in (a, refl, same)

  module _ {observe : Observer Bytes} (rows : List Bytes) (cells : List (Vec Cell)) (steps : List CachedStep) (fine : IsFine observe parts groups rows cells steps) where
    pub cells-at : (k : ℕ) (cs : Vec Cell) (t : State) → HasNumber (map (state_bytes parts groups) rows) k t → slice_get cells k ≡ Some cs → cs.items ≢ [] → AreCellsOf parts groups t cs.items
    cells-at k cs t number at there =
        let row = some-of (state_bytes parts groups) (slice_get rows k) (state_key t) (sym (slice_get-map (state_bytes parts groups) rows k) ∙ number) in
        ⊎_elim (λ none. absurd (there none)) (λ it. same it row.2) (fine.cells_are k cs row.0 at row.1)
      where
        same : {row : Bytes} → AreCellsAt parts groups row cs.items → state_bytes parts groups row ≡ state_key t → AreCellsOf parts groups t cs.items
        same {row} it bytes =
            let keys : state_key it.state ≡ state_key t =
            sym (state-concatenated_groups it.state) ∙ sym (state-back parts groups (state_groups it.state) (state-visited it.state it.cells_are.cached)) ∙ ap (state_bytes parts groups) (sym it.row_is) ∙ bytes in
            subst (λ (s : State). AreCellsOf parts groups s cs.items) (same-keys it.state t keys) it.cells_are

    -- a result from the cache is that of the step
    pub recalled-at : DependsOnSeen observe → (number pid : ℕ) (texts : List Bytes) (after : List Cell) → IsRecalled cells steps number pid texts after → (t : State) → IsValid t → HasNumber (map (state_bytes parts groups) rows) number t
        → IsAgain (group_number parts groups) (IsGroupVisited parts groups) apart observe pid t texts after
    recalled-at depends number pid texts after it t whole there =
        recalled-again (group_number parts groups) (IsGroupVisited parts groups) observe apart depends steps fine.steps_are t pid it.before.items texts after whole (cells-at number it.before t there it.at it.there) it.was

    -- a row of cells is stored if and only if its state was visited
    pub known-row : (u : State) (after : List Cell) → AreCellsOf parts groups u after
        → list_any (bytes_eq (cells_row after)) rows ≡ list_any (bytes_eq (state_key u)) (map (state_bytes parts groups) rows)
    known-row u after there =
        ap (λ (r : Bytes). list_any (bytes_eq r) rows) (row-of_cells u after there) ∙ any-row parts groups u rows fine.rows_are
        ∙ ap (λ (k : Bytes). list_any (bytes_eq k) (map (state_bytes parts groups) rows)) (state-concatenated_groups u)

    -- and it has the number of that state
    pub number-row : (u : State) (after : List Cell) → AreCellsOf parts groups u after
        → position (bytes_eq (cells_row after)) rows ≡ position (bytes_eq (state_key u)) (map (state_bytes parts groups) rows)
    number-row u after there =
        ap (λ (r : Bytes). position (bytes_eq r) rows) (row-of_cells u after there) ∙ position-row parts groups u rows fine.rows_are
        ∙ ap (λ (k : Bytes). position (bytes_eq k) (map (state_bytes parts groups) rows)) (state-concatenated_groups u)

-- ---- byte strings that are not in a table

not-there : {X : Type 0} (p : X → Bool) (xs : List X) → length xs ≡ position_or_len p xs → list_any p xs ≡ false
not-there p [] past = refl
not-there p (x ∷ xs) past = by (λ more. not-there p xs more) (p x) refl
  where
    by : (length xs ≡ position_or_len p xs → list_any p xs ≡ false) → (b : Bool) → p x ≡ b → list_any p (x ∷ xs) ≡ false
    by rest true here =
        let none : suc (length xs) ≡ 0 = past ∙ ap (λ c. cond (not c) (1 + position_or_len p xs) 0) here in
        absurd (omega arith)
    by rest false here =
        let more : suc (length xs) ≡ 1 + position_or_len p xs = past ∙ ap (λ c. cond (not c) (1 + position_or_len p xs) 0) here in
        ap (λ c. c || list_any p xs) here ∙ rest (omega arith)

pub other-row : (rows : List Bytes) (row sought : Bytes) (found : Option ℕ) → found ≡ position (bytes_eq sought) rows → sought ≡ row → found ≡ None → list_any (bytes_eq row) rows ≡ false
other-row rows row sought found is same none =
    not-there (bytes_eq row) rows (number-none (bytes_eq row) rows (length rows) (sym none ∙ is ∙ ap (λ (k : Bytes). position (bytes_eq k) rows) same) refl)

-- ---- stored cells

-- a lookup found cells, and they are not empty
pub cells-found : (all : List (Vec Cell)) (number : ℕ) (cs : Vec Cell) → true ≡ nat_lt number (length all) → cs ≡ get_or all number cs → slice_get all number ≡ Some cs
cells-found all number cs test is =
    let within : number < length all = grind (arith, nat_tests, sym test) in
    slice_get-get_or all number cs within ∙ ap Some (sym is)

pub cells-there : (cs : Vec Cell) (empty : Bool) → empty ≡ (vec_len cs == 0) → empty ≡ false → cs.items ≢ []
cells-there cs empty is some = λ none.
    let long : vec_len cs ≡ 0 = cs.ok.0 ∙ ap length none in
    let test : true ≡ false = sym (ap (λ n. n == 0) long) ∙ sym is ∙ some in
    cc

-- ---- cells of groups

plain-cell : (number : List Bytes → ℕ) (n : ℕ) (g : List Bytes) → n ≡ number g → ◌≡◌ {A = Cell} (record { number = n; owner = 0; outside = n }) (cell_of number (plain g))
plain-cell number n g is = λ i. record { number = is i; owner = 0; outside = is i }

live-cell : (number : List Bytes → ℕ) (n m : ℕ) (g : List Bytes) (pid : ℕ) (o : List Bytes) → n ≡ number g → m ≡ number o
    → ◌≡◌ {A = Cell} (record { number = n; owner = pid; outside = m }) (cell_of number (record { group = g; owner = pid; outside = o }))
live-cell number n m g pid o is out = λ i. record { number = is i; owner = pid; outside = out i }

module _ (parts groups : List Bytes) where
  pub plain-cells : (n : ℕ) (g : List Bytes) → n ≡ group_number parts groups g → IsGroupVisited parts groups g → AreCellsIn parts groups (plain g ∷ []) (record { number = n; owner = 0; outside = n } ∷ [])
  plain-cells n g is visited = record { are = ap (λ (c : Cell). c ∷ []) (plain-cell (group_number parts groups) n g is); cached = ((visited, visited), tt) }

  pub live-cells : (n m : ℕ) (g : List Bytes) (pid : ℕ) (o : List Bytes) → n ≡ group_number parts groups g → m ≡ group_number parts groups o → IsGroupVisited parts groups g → IsGroupVisited parts groups o
      → AreCellsIn parts groups (record { group = g; owner = pid; outside = o } ∷ []) (record { number = n; owner = pid; outside = m } ∷ [])
  live-cells n m g pid o is out visited visited_out = record { are = ap (λ (c : Cell). c ∷ []) (live-cell (group_number parts groups) n m g pid o is out); cached = ((visited, visited_out), tt) }

-- cells of groups that are those of a state
pub cells-of_groups : (parts groups : List Bytes) (s : State) (cs : List OwnedGroup) (cells : List Cell) → AreCellsIn parts groups cs cells → cs ≡ encoded s → AreCellsOf parts groups s cells
cells-of_groups parts groups s cs cells it is = record { are = it.are ∙ ap (map (cell_of (group_number parts groups))) is; cached = subst (AreCachedBoth parts groups) is it.cached }

-- ---- when more is stored

module _ (parts groups parts_now groups_now : List Bytes) (parts_grew : Grew parts parts_now) (groups_grew : Grew groups groups_now) where
  pub keeps-more : KeepsMore (group_number parts groups) (IsGroupVisited parts groups) (group_number parts_now groups_now) (IsGroupVisited parts_now groups_now)
  keeps-more = record {
    same = λ g visited.
        let all : group_number parts_now groups_now g ∷ [] ≡ group_number parts groups g ∷ [] = numbers-grew parts groups parts_now groups_now parts_grew groups_grew (g ∷ []) (visited, tt) in
        cc;
    cached = λ g visited. (visited-grew parts groups parts_now groups_now parts_grew groups_grew (g ∷ []) (visited, tt)).0;
  }

  pub both-grew : (cs : List OwnedGroup) → AreCachedBoth parts groups cs → AreCachedBoth parts_now groups_now cs
  both-grew cs visited = cached-more (group_number parts groups) (IsGroupVisited parts groups) (group_number parts_now groups_now) (IsGroupVisited parts_now groups_now) keeps-more cs visited

  pub cells-in_grew : (cs : List OwnedGroup) (cells : List Cell) → AreCellsIn parts groups cs cells → AreCellsIn parts_now groups_now cs cells
  cells-in_grew cs cells it = record {
    are = it.are ∙ sym (cells-same (group_number parts groups) (IsGroupVisited parts groups) (group_number parts_now groups_now) (IsGroupVisited parts_now groups_now) keeps-more cs it.cached);
    cached = both-grew cs it.cached;
  }

  -- one more cell
  pub cells-next : {X : Type 0} (h : X → OwnedGroup) (xs : List X) (i : ℕ) (d : X) (cell : Cell) (old new : List Cell) → i < length xs → AreCellsIn parts groups (take i (map h xs)) old → AreCellsIn parts_now groups_now (h (get_or xs i d) ∷ []) (cell ∷ [])
      → new ≡ old ++ cell ∷ [] → AreCellsIn parts_now groups_now (take (i + 1) (map h xs)) new
  cells-next h xs i d cell old new within so_far one is =
      let number = cell_of (group_number parts_now groups_now) in
      let before = cells-in_grew (take i (map h xs)) old so_far in
      record {
        are =
            is ∙ ap₂ (λ (a b : List Cell). a ++ b) before.are one.are ∙ sym (map-append number (take i (map h xs)) (h (get_or xs i d) ∷ []))
            ∙ ap (map (cell_of (group_number parts_now groups_now))) (sym (taken-more h xs i d within));
        cached = all-next h xs i d (IsCachedBoth (group_number parts_now groups_now) (IsGroupVisited parts_now groups_now)) within before.cached one.cached.0;
      }

  pub cells-grew : (s : State) (cells : List Cell) → AreCellsOf parts groups s cells → AreCellsOf parts_now groups_now s cells
  cells-grew s cells there = cells-more (group_number parts groups) (IsGroupVisited parts groups) (group_number parts_now groups_now) (IsGroupVisited parts_now groups_now) keeps-more s cells there

  cells-at-grew : (row : Bytes) (cells : List Cell) → AreCellsAt parts groups row cells → AreCellsAt parts_now groups_now row cells
  cells-at-grew row cells it = record {
    state = it.state;
    row_is = it.row_is ∙ ap packed_all (sym (numbers-grew parts groups parts_now groups_now parts_grew groups_grew (state_groups it.state) (state-visited parts groups it.state it.cells_are.cached)));
    cells_are = cells-grew it.state cells it.cells_are;
  }

  pub steps-grew : (observe : Observer Bytes) (steps : List CachedStep) → AreCachedSteps observe parts groups steps → AreCachedSteps observe parts_now groups_now steps
  steps-grew observe steps all = steps-more (group_number parts groups) (IsGroupVisited parts groups) (group_number parts_now groups_now) (IsGroupVisited parts_now groups_now) keeps-more observe steps all

  pub fine-grew : {observe : Observer Bytes} (rows : List Bytes) (cells : List (Vec Cell)) (steps : List CachedStep) → IsFine observe parts groups rows cells steps → IsFine observe parts_now groups_now rows cells steps
  fine-grew {observe} rows cells steps fine = record {
    rows_are = rows-grew parts groups parts_now groups_now parts_grew groups_grew rows fine.rows_are;
    few = fine.few;
    cells_are = λ k cs row at there. ⊎_elim inl (λ it. inr (cells-at-grew row cs.items it)) (fine.cells_are k cs row at there);
    steps_are = steps-grew observe steps fine.steps_are;
  }

-- ---- one more row

pub get-left : {X : Type 0} (xs ys : List X) (k : ℕ) → k < length xs → slice_get (xs ++ ys) k ≡ slice_get xs k
get-left [] ys k within = absurd (omega arith)
get-left (x ∷ xs) ys zero within = refl
get-left (x ∷ xs) ys (suc k) within = get-left xs ys k (omega arith)

pub fine-row : {observe : Observer Bytes} (parts groups rows new : List Bytes) (row : Bytes) (cells : List (Vec Cell)) (steps : List CachedStep) → IsFine observe parts groups rows cells steps → new ≡ rows ++ row ∷ [] → AllByRecursion (IsRow parts groups) new
    → IsFine observe parts groups new cells steps
fine-row parts groups rows new row cells steps fine is all = record {
  rows_are = all;
  few = (let few = fine.few in omega (arith, ap length is, length-append rows (row ∷ [])));
  cells_are = λ k cs r at there.
      let within : k < length rows = (let few = fine.few in omega (arith, slice_get_within cells k cs at)) in
      fine.cells_are k cs r at (sym (ap (λ (rs : List Bytes). slice_get rs k) is ∙ get-left rows (row ∷ []) k within) ∙ there);
  steps_are = fine.steps_are;
}

-- ---- more cells

get-last : {X : Type 0} (xs : List X) (x y : X) (k : ℕ) → slice_get (xs ++ x ∷ []) k ≡ Some y → (slice_get xs k ≡ Some y) ⊎ ((k ≡ length xs) × (x ≡ y))
get-last [] x y zero at = let same : x ≡ y = cc in inr (refl, same)
get-last [] x y (suc k) at = cc
get-last (z ∷ xs) x y zero at = inl at
get-last (z ∷ xs) x y (suc k) at = ⊎_elim (λ old. inl old) (λ last. inr (ap suc last.0, last.1)) (get-last xs x y k at)

pub get-end : {X : Type 0} (xs : List X) (x : X) → slice_get (xs ++ x ∷ []) (length xs) ≡ Some x
get-end [] x = refl
get-end (z ∷ xs) x = get-end xs x

-- released cells
pub fine-unreference : {observe : Observer Bytes} (parts groups rows : List Bytes) (cells new : List (Vec Cell)) (steps : List CachedStep) → IsFine observe parts groups rows cells steps → AreReleased cells new → IsFine observe parts groups rows new steps
fine-unreference parts groups rows cells new steps fine it = record {
  rows_are = fine.rows_are;
  few = (let few = fine.few in let long = it.long in omega (arith, few, long));
  cells_are = λ k cs row at there. ⊎_elim inl (λ old. fine.cells_are k cs row old there) (it.each k cs at);
  steps_are = fine.steps_are;
}

module _ {observe : Observer Bytes} (parts groups rows : List Bytes) (cells : List (Vec Cell)) (steps : List CachedStep) (fine : IsFine observe parts groups rows cells steps) where
  pub fine-cells : (cs : Vec Cell) (row : Bytes) (new : List (Vec Cell)) → new ≡ cells ++ cs ∷ [] → slice_get rows (length cells) ≡ Some row → AreCellsAt parts groups row cs.items → IsFine observe parts groups rows new steps
  fine-cells cs row new is at it = record {
    rows_are = fine.rows_are;
    few = (let within = slice_get_within rows (length cells) row at in omega (arith, within, ap length is, length-append cells (cs ∷ [])));
    cells_are = λ k c r there other.
        ⊎_elim (λ old. fine.cells_are k c r old other) (λ last. inr (same c r last.1 (sym at ∙ ap (slice_get rows) (sym last.0) ∙ other)))
        (get-last cells cs c k (ap (λ (all : List (Vec Cell)). slice_get all k) (sym is) ∙ there));
    steps_are = fine.steps_are;
  }
    where
      same : (c : Vec Cell) (r : Bytes) → cs ≡ c → Some row ≡ Some r → AreCellsAt parts groups r c.items
      same c r cells_same rows_same =
          let row_same : row ≡ r = cc in
          subst (λ (x : Vec Cell). AreCellsAt parts groups r x.items) cells_same (subst (λ (x : Bytes). AreCellsAt parts groups x cs.items) row_same it)

module _ {observe : Observer Bytes} (parts groups rows : List Bytes) (cells : List (Vec Cell)) (steps : List CachedStep) (fine : IsFine observe parts groups rows cells steps) where
  -- a transition is cached
  pub fine-visited : (number pid : ℕ) (t : State) (after : List Cell) (texts : List Bytes) (new : List CachedStep) → IsValid t → HasNumber (map (state_bytes parts groups) rows) number t
      → AreCellsOf parts groups (stepped t pid).after after → texts ≡ observe t pid (stepped t pid) → MayKeep cells number pid after texts steps new → IsFine observe parts groups rows cells new
  fine-visited number pid t after texts new whole there left observed (inl same) = subst (IsFine observe parts groups rows cells) (sym same) fine
  fine-visited number pid t after texts new whole there left observed (inr it) = record {
    rows_are = fine.rows_are;
    few = fine.few;
    cells_are = fine.cells_are;
    steps_are =
        steps-added (group_number parts groups) (IsGroupVisited parts groups) observe (apart parts groups) t pid it.before.items after texts steps new whole
        (cells-at parts groups rows cells steps fine number it.before t there it.at it.there) left observed fine.steps_are it.adds;
  }

  -- a state is added
  module _ (u : State) (cs : Vec Cell) (are : AreCellsOf parts groups u cs.items) where
    abbrev row : Bytes
    row = cells_row cs.items

    row-of : row ≡ state_row parts groups (state_groups u)
    row-of = row-of_cells parts groups u cs.items are

    visited-of : AreVisited parts groups (state_groups u)
    visited-of = state-visited parts groups u are.cached

    pub fine-placed : (rows_now : List Bytes) (cells_now : List (Vec Cell)) → ArePlaced row cs rows rows_now cells cells_now → IsFine observe parts groups rows_now cells_now steps
    fine-placed rows_now cells_now (inl same) =
        subst (λ (rs : List Bytes). IsFine observe parts groups rs cells_now steps) (sym same.0) (subst (λ (all : List (Vec Cell)). IsFine observe parts groups rows all steps) (sym same.1) fine)
    fine-placed rows_now cells_now (inr (is, pushed)) =
        let all = rows-added parts groups rows fine.rows_are (state_groups u) u refl visited-of rows_now (is ∙ ap (λ (r : Bytes). rows ++ r ∷ []) row-of) in
        let fine_now = fine-row parts groups rows rows_now row cells steps fine is all in
        fine-pushed-now rows_now fine_now is pushed
      where
        fine-pushed-now : (rs : List Bytes) → IsFine observe parts groups rs cells steps → rs ≡ rows ++ row ∷ [] → ArePushed (length rows) cs cells cells_now → IsFine observe parts groups rs cells_now steps
        fine-pushed-now rs fine_now is (inl same) = subst (λ (all : List (Vec Cell)). IsFine observe parts groups rs all steps) (sym same) fine_now
        fine-pushed-now rs fine_now is (inr (more, next)) =
            fine-cells parts groups rs cells steps fine_now cs row cells_now more (ap (slice_get rs) next ∙ ap (λ (x : List Bytes). slice_get x (length rows)) is ∙ get-end rows row) (record { state = u; row_is = row-of; cells_are = are })

    known-is : list_any (bytes_eq row) rows ≡ list_any (bytes_eq (state_key u)) (map (state_bytes parts groups) rows)
    known-is = known-row parts groups rows cells steps fine u cs.items are

    long : length (map (state_bytes parts groups) rows) ≡ length rows
    long = length-map rows (state_bytes parts groups)

    pub found-bytes : (limit : ℕ) (rows_now : List Bytes) (found : Visit) → IsFoundIn limit rows rows_now row found → IsFoundIn limit (map (state_bytes parts groups) rows) (map (state_bytes parts groups) rows_now) (state_key u) found
    found-bytes limit rows_now (Known number) it = (sym (number-row parts groups rows cells steps fine u cs.items are) ∙ it.0, ap (map (state_bytes parts groups)) it.1)
    found-bytes limit rows_now Full it = (sym known-is ∙ it.0, (let room = it.1 in omega (arith, room, long)), ap (map (state_bytes parts groups)) it.2)
    found-bytes limit rows_now New it = (
      sym known-is ∙ it.0,
      (let room = it.1 in omega (arith, room, long)),
      states-added parts groups rows fine.rows_are (state_groups u) u refl visited-of rows_now (it.2 ∙ ap (λ (r : Bytes). rows ++ r ∷ []) row-of) ∙ ap (λ (k : Bytes). map (state_bytes parts groups) rows ++ k ∷ []) (state-concatenated_groups u),
    )

-- ---- after a step

-- the parts of groups were stored, and the state of these groups is visited
module _ {observe : Observer Bytes} (parts groups rows : List Bytes) (cells : List (Vec Cell)) (steps : List CachedStep) (fine : IsFine observe parts groups rows cells steps) (keys : List Bytes) (keys_are : map (state_bytes parts groups) rows ≡ keys)
    (parts_now groups_now : List Bytes) (parts_grew : Grew parts parts_now) (groups_grew : Grew groups groups_now) (after : List OwnedGroup) (cs : Vec Cell) (learnt : AreCellsIn parts_now groups_now after cs.items) where
  keys-now : map (state_bytes parts_now groups_now) rows ≡ keys
  keys-now = states-grew parts groups parts_now groups_now parts_grew groups_grew rows fine.rows_are ∙ keys_are

  pub found-learnt : (limit : ℕ) (rows_now : List Bytes) (found : Visit) → IsFoundIn limit rows rows_now (cells_row cs.items) found → IsFoundBy limit keys (map (state_bytes parts_now groups_now) rows_now) after found
  found-learnt limit rows_now found it = λ t is.
      subst (λ (all : List Bytes). IsFoundIn limit all (map (state_bytes parts_now groups_now) rows_now) (state_key t) found) keys-now
      (found-bytes parts_now groups_now rows cells steps (fine-grew parts groups parts_now groups_now parts_grew groups_grew rows cells steps fine) t cs (cells-of_groups parts_now groups_now t after cs.items learnt is) limit rows_now found it)

  pub fine-learnt : AreEncoded after → (rows_now : List Bytes) (cells_now : List (Vec Cell)) → ArePlaced (cells_row cs.items) cs rows rows_now cells cells_now → IsFine observe parts_now groups_now rows_now cells_now steps
  fine-learnt (t, is) rows_now cells_now placed =
      fine-placed parts_now groups_now rows cells steps (fine-grew parts groups parts_now groups_now parts_grew groups_grew rows cells steps fine) t cs (cells-of_groups parts_now groups_now t after cs.items learnt is) rows_now cells_now placed

-- the parts of the groups of a state were stored, and the transition that leads to it is cached
module _ {observe : Observer Bytes} (parts groups rows : List Bytes) (cells : List (Vec Cell)) (steps : List CachedStep) (fine : IsFine observe parts groups rows cells steps) (keys : List Bytes) (keys_are : map (state_bytes parts groups) rows ≡ keys)
    (parts_now groups_now : List Bytes) (parts_grew : Grew parts parts_now) (groups_grew : Grew groups groups_now) (after : State) (cs : Vec Cell) (learnt : AreCellsOf parts_now groups_now after cs.items) where
  fine-now : IsFine observe parts_now groups_now rows cells steps
  fine-now = fine-grew parts groups parts_now groups_now parts_grew groups_grew rows cells steps fine

  keys-after : map (state_bytes parts_now groups_now) rows ≡ keys
  keys-after = states-grew parts groups parts_now groups_now parts_grew groups_grew rows fine.rows_are ∙ keys_are

  pub found-arrived : (limit : ℕ) (rows_now : List Bytes) (found : Visit) → IsFoundIn limit rows rows_now (cells_row cs.items) found → IsFoundIn limit keys (map (state_bytes parts_now groups_now) rows_now) (state_key after) found
  found-arrived limit rows_now found it =
      subst (λ (all : List Bytes). IsFoundIn limit all (map (state_bytes parts_now groups_now) rows_now) (state_key after) found) keys-after
      (found-bytes parts_now groups_now rows cells steps fine-now after cs learnt limit rows_now found it)

  module _ (number pid : ℕ) (texts : List Bytes) (inside : Bool) (made : IsObservedStep observe keys number pid texts inside after) (steps_now : List CachedStep) (may : MayKeep cells number pid cs.items texts steps steps_now) where
    left-are : AreCellsOf parts_now groups_now (stepped made.state pid).after cs.items
    left-are = subst (λ (s : State). AreCellsOf parts_now groups_now s cs.items) made.after_is learnt

    pub fine-made : IsFine observe parts_now groups_now rows cells steps_now
    fine-made =
        fine-visited parts_now groups_now rows cells steps fine-now number pid made.state cs.items texts steps_now made.whole
        (subst (λ (all : List Bytes). HasNumber all number made.state) (sym keys-after) made.number_is) left-are made.texts_are may

    pub fine-arrived : (rows_now : List Bytes) (cells_now : List (Vec Cell)) → ArePlaced (cells_row cs.items) cs rows rows_now cells cells_now → IsFine observe parts_now groups_now rows_now cells_now steps_now
    fine-arrived rows_now cells_now placed = fine-placed parts_now groups_now rows cells steps_now fine-made (stepped made.state pid).after cs left-are rows_now cells_now placed

-- ---- live processes

some-there : (xs : List ℕ) → xs ≢ [] → is_empty xs ≡ false
some-there [] some = absurd (some refl)
some-there (x ∷ xs) some = refl

-- some process is live if a cell has an owner
pub some-live : (parts groups : List Bytes) (u : State) (cells : List Cell) → AreCellsOf parts groups u cells → IsValid u → owners cells ≢ [] → has_ended u ≡ false
some-live parts groups u cells are whole some = sym (ended-numbers u (owners cells) (ap owners are.are ∙ owners-are (group_number parts groups) u whole)) ∙ some-there (owners cells) some

pub either : {T E : Type 0} {P Q R : Type 0} (r : Result T E) → OnOk r P → OnErr r Q → (P → R) → (Q → R) → R
either (Ok x) ok err f g = f ok
either (Err e) ok err f g = g err
