-- The cells of the state after a step, from those of the state before it.
use Rattle.std.proofs.Common.{◌≡◌, ◌≢◌, ◌∙◌, sym, ap, ap₂, subst, ℕ, zero, suc, Bool, true, false, if◌then◌else◌, ◌==◌, List, [], ◌∷◌, ◌++◌, map, length, slice_get, option_map, cond, Option, None, Some, refl}
use Rattle.std.specs.FinMap.Entries.{find, is_sorted, below_all}
use Rattle.std.specs.Global.{Vec}
use Rattle.std.specs.List.{AllByRecursion}
use Rattle.std.specs.Ordering.{nat_cmp, is_eq}
use Rattle.std.specs.Prelude.{IsSome}
use Rattle.std.proofs.lemmas.List.{length-map, map-append}
use Rattle.std.proofs.lemmas.Bool.{and_parts, eqb-true, ne_eqb}
use Rattle.std.proofs.lemmas.Option.{slice_get-map}
use Rattle.pv_model.specs.Machine.{Observer, Bytes, program_of, next, Process, ProcessRecord, live, ended_record, State, live_process, process_at, with_process}
use Rattle.pv_step_lines.proofs.OfAnswers.ProcessSequence.{Recorded, IsNextRecord, all-after}
use Rattle.pv_explore.specs.Afters.{IsCellOf, LeadTo, own_or}
use Rattle.pv_explore.specs.Observing.{stays_inside}
use Rattle.pv_explore.specs.Rows.{Grew, IsGroupVisited, state_bytes}
use Rattle.pv_explore.specs.VisitedStates.{group_number, AreCachedBoth, AreCellsIn, AreCellsOf, AreStoredAt, HasNumber, IsFine, IsObservedStep}
use Rattle.pv_explore.proofs.LiveAfterSteps.{goes-on, not-killed}
use Rattle.pv_explore.proofs.VisitedStates.{cells-at, cells-grew, cells-in_grew}
use Rattle.pv_laws_access.proofs.ProcessesAfterEnds.{valid-in_order}
use Rattle.pv_laws_access.proofs.OpenFilesAfterSteps.{others-keep_all}
use Rattle.pv_laws_states.specs.States.{is_process_number, IsValid}
use Rattle.pv_laws_states.proofs.ReferenceMembers.{find_number-list_all, find_number_after, found-live, live-found}
use Rattle.pv_laws_states.proofs.Processes.{find-put_same, number-itself}
use Rattle.pv_step_cache.specs.OfLawsSteps.Beside.{change_at, change_live}
use Rattle.pv_step_cache.specs.OfLawsSteps.Commuting.{StaysInside, changes_own_inside}
use Rattle.pv_step_cache.proofs.OfLawsSteps.CommutingSteps.{put-changes}
use Rattle.pv_step_cache.proofs.OfLawsSteps.InsideSteps.{where-inside}
use Rattle.pv_step_lines.specs.OfProcs.ProcessTable.{number_after}
use Rattle.pv_step_lines.specs.OfSession.Running.{stepped}
use Rattle.pv_step_cache.proofs.OfStateEncoding.ProcessGroups.{LeavesRecords, records-end, records-next}
use Rattle.pv_step_cache.specs.OfStateEncoding.Encoded.{OwnedGroup, plain, encoded_record, numbered_encoded, counts_group, tree_groups, encoded}
use Rattle.pv_step_cache.specs.OfStateEncoding.Groups.{counts_part}
use Rattle.pv_step_cache.specs.declared.cells.Cell.{Cell}
use Rattle.pv_step_cache.specs.declared.steps.CachedStep.{CachedStep}
use Rattle.pv_step_cache.specs.Cached.{IsCachedBoth}
use Rattle.pv_step_cache.specs.Edits.{cell_of}
use Rattle.pv_step_cache.proofs.StatesByKey.{plain-at}
use Rattle.pv_laws_trees.proofs.ListTests.{all-at}

-- ---- the encoding of a state in which one process is replaced

-- the encoding of a group, or another one in its place if this process owns it
abbrev own_encoded : ℕ → OwnedGroup → OwnedGroup → OwnedGroup
own_encoded pid own c = if c.owner == pid then own else c

module _ (pid : ℕ) (some : pid ≢ 0) (q : Process) where
  abbrev own : OwnedGroup
  own = encoded_record (pid, live q)

  abbrev to_own : OwnedGroup → OwnedGroup
  to_own = own_encoded pid own

  abbrev change : ℕ × ProcessRecord → ℕ × ProcessRecord
  change = change_at pid (λ _. q)

  plain-stays : (g : List Bytes) → to_own (plain g) ≡ plain g
  plain-stays g = ap (λ b. if b then own else plain g) (ne_eqb 0 pid (λ none. some (sym none)))

  plains-stay : (gs : List (List Bytes)) → map to_own (map plain gs) ≡ map plain gs
  plains-stay [] = refl
  plains-stay (g ∷ gs) = ap₂ (λ (c : OwnedGroup) cs. c ∷ cs) (plain-stays g) (plains-stay gs)

  ended-stays : (n parent status : ℕ) (b : Bool) → (if b then ended_record parent status else ended_record parent status) ≡ ended_record parent status
  ended-stays n parent status true = refl
  ended-stays n parent status false = refl

  record-changes : (r : ℕ × ProcessRecord) → encoded_record (change r) ≡ to_own (encoded_record r)
  record-changes (n, live p) = by (n == pid) refl
    where
      by : (b : Bool) → (n == pid) ≡ b → encoded_record (change (n, live p)) ≡ to_own (encoded_record (n, live p))
      by true same =
          ap (λ c. encoded_record (n, if c then live q else live p)) same ∙ ap (λ k. encoded_record (k, live q)) (eqb-true n pid same)
          ∙ sym (ap (λ c. if c then own else encoded_record (n, live p)) same)
      by false apart = ap (λ c. encoded_record (n, if c then live q else live p)) apart ∙ sym (ap (λ c. if c then own else encoded_record (n, live p)) apart)
  record-changes (n, ended_record parent status) =
      ap (λ r. encoded_record (n, r)) (ended-stays n parent status (n == pid)) ∙ sym (plain-stays (encoded_record (n, ended_record parent status)).group)

  records-change : (rs : List (ℕ × ProcessRecord)) → map encoded_record (map change rs) ≡ map to_own (map encoded_record rs)
  records-change [] = refl
  records-change (r ∷ rs) = ap₂ (λ (c : OwnedGroup) cs. c ∷ cs) (record-changes r) (records-change rs)

  encoded-changed : (s : State) → encoded (record s { processes = map change s.processes }) ≡ map to_own (encoded s)
  unfolding encoded
  encoded-changed s =
      let changed = record s { processes = map change s.processes } in
      let counts : counts_group changed ≡ counts_group s = ap (λ n. counts_part s.last_process n ∷ []) (length-map s.processes change) in
      let rest : map encoded_record changed.processes ++ map plain (tree_groups s) ≡ map to_own (map encoded_record s.processes ++ map plain (tree_groups s)) =
      ap₂ (λ (a b : List OwnedGroup). a ++ b) (records-change s.processes) (sym (plains-stay (tree_groups s))) ∙ sym (map-append to_own (map encoded_record s.processes) (map plain (tree_groups s))) in
      ap₂ (λ (c : OwnedGroup) cs. c ∷ cs) (ap plain counts ∙ sym (plain-stays (counts_group s))) rest

  pub encoded-with : (s : State) (p : Process) → IsValid s → process_at s pid ≡ Some p → encoded (with_process s pid q) ≡ map to_own (encoded s)
  encoded-with s p whole at = ap (λ ps. encoded (record s { processes = ps })) (put-changes pid (λ _. q) s.processes p whole.processes.ascending (live-found s pid p at)) ∙ encoded-changed s

-- ---- cells in which one is replaced

module _ (number : List Bytes → ℕ) (IsCached : List Bytes → Type 0) (pid : ℕ) (own : OwnedGroup) where
  one-replaced : (c : OwnedGroup) → own_or pid (cell_of number own) (cell_of number c) ≡ cell_of number (own_encoded pid own c)
  one-replaced c = by (c.owner == pid)
    where
      by : (b : Bool) → (if b then cell_of number own else cell_of number c) ≡ cell_of number (if b then own else c)
      by true = refl
      by false = refl

  cells-replaced : (cs : List OwnedGroup) → map (own_or pid (cell_of number own)) (map (cell_of number) cs) ≡ map (cell_of number) (map (own_encoded pid own) cs)
  cells-replaced [] = refl
  cells-replaced (c ∷ cs) = ap₂ (λ (d : Cell) ds. d ∷ ds) (one-replaced c) (cells-replaced cs)

  cached-replaced : (cs : List OwnedGroup) → AllByRecursion (IsCachedBoth number IsCached) cs → IsCachedBoth number IsCached own → AllByRecursion (IsCachedBoth number IsCached) (map (own_encoded pid own) cs)
  cached-replaced [] all there = tt
  cached-replaced (c ∷ cs) all there = (by (c.owner == pid), cached-replaced cs all.1 there)
    where
      by : (b : Bool) → IsCachedBoth number IsCached (if b then own else c)
      by true = there
      by false = all.0

-- ---- the step

number-some : (s : State) (pid : ℕ) (p : Process) → IsValid s → process_at s pid ≡ Some p → pid ≢ 0
number-some s pid p whole at none =
    let found = live-found s 0 p (ap (process_at s) (sym none) ∙ at) in
    let bad : is_process_number s.last_process 0 ≡ true = find_number-list_all (is_process_number s.last_process) 0 (live p) s.processes whole.processes.numbers found in cc bad

inside-step : (s : State) (pid : ℕ) → IsValid s → stays_inside (process_at s pid) ≡ true → IsSome (process_at (stepped s pid).after pid) → StaysInside program_of s pid
inside-step s pid whole inside alive = by (process_at s pid) refl inside
  where
    by : (o : Option Process) → process_at s pid ≡ o → stays_inside o ≡ true → StaysInside program_of s pid
    by None at inward = cc inward
    by (Some p) at inward = (where-inside program_of s pid p whole at).asks inward (not-killed s pid (valid-in_order s whole) alive)

module _ (parts groups parts_now groups_now : List Bytes) (parts_grew : Grew parts parts_now) (groups_grew : Grew groups groups_now) where
  pub cells-inside : (cells : List Cell) (pid : ℕ) (after : State) (own : Cell) → LeadTo parts groups cells pid true after → IsSome (process_at after pid)
      → AreCellsIn parts_now groups_now (numbered_encoded pid (find nat_cmp pid after.processes) ∷ []) (own ∷ []) → AreCellsOf parts_now groups_now after (map (own_or pid own) cells)
  cells-inside cells pid after own it alive one =
      let s = it.state in
      let alive_there : IsSome (process_at (stepped it.state pid).after pid) = subst (λ (t : State). IsSome (process_at t pid)) it.after_is alive in
      let step = inside-step s pid it.whole (sym it.inside_is) alive_there in
      let after_is : after ≡ with_process it.state pid step.following = it.after_is ∙ step.after in
      let now : numbered_encoded pid (find nat_cmp pid after.processes) ≡ encoded_record (pid, live step.following) =
      ap (numbered_encoded pid) (ap (λ (t : State). find nat_cmp pid t.processes) after_is ∙ find-put_same pid (live step.following) it.state.processes) in
      let there : AreCellsIn parts_now groups_now (encoded_record (pid, live step.following) ∷ []) (own ∷ []) =
      subst (λ (c : OwnedGroup). AreCellsIn parts_now groups_now (c ∷ []) (own ∷ [])) now one in
      let before = cells-grew parts groups parts_now groups_now parts_grew groups_grew s cells it.cells_are in
      let encoded_is : encoded after ≡ map (own_encoded pid (encoded_record (pid, live step.following))) (encoded it.state) =
      ap encoded after_is ∙ encoded-with pid (number-some s pid step.before it.whole step.at) step.following s step.before it.whole step.at in
      of s after (encoded_record (pid, live step.following)) before there encoded_is
    where
      of : (s after : State) (e : OwnedGroup) → AreCellsOf parts_now groups_now s cells → AreCellsIn parts_now groups_now (e ∷ []) (own ∷ []) → encoded after ≡ map (own_encoded pid e) (encoded s)
          → AreCellsOf parts_now groups_now after (map (own_or pid own) cells)
      of s after e before there is =
          let number = group_number parts_now groups_now in
          let own_is : own ≡ cell_of (group_number parts_now groups_now) e = (let same = there.are in cc same) in
          record {
            are =
                ap₂ (λ (c : Cell) cs. map (own_or pid c) cs) own_is before.are ∙ cells-replaced number (IsGroupVisited parts_now groups_now) pid e (encoded s)
                ∙ ap (map (cell_of (group_number parts_now groups_now))) (sym is);
            cached =
                subst (λ (cs : List OwnedGroup). AreCachedBoth parts_now groups_now cs) (sym is)
                (cached-replaced number (IsGroupVisited parts_now groups_now) pid e (encoded s) before.cached there.cached.0);
          }

-- the stored cells of the state before a step, if there are any
pub led-to : {observe : Observer Bytes} (parts groups rows : List Bytes) (stored : List (Vec Cell)) (steps : List CachedStep) → IsFine observe parts groups rows stored steps → (keys : List Bytes) → map (state_bytes parts groups) rows ≡ keys
    → (number pid : ℕ) (texts : List Bytes) (inside : Bool) (after : State) (cells : List Cell) → IsObservedStep observe keys number pid texts inside after → AreStoredAt stored number cells → cells ≢ [] → LeadTo parts groups cells pid inside after
led-to parts groups rows stored steps fine keys keys_are number pid texts inside after cells made at some =
    let there = at some in
    let has = subst (λ (all : List Bytes). HasNumber all number made.state) (sym keys_are) made.number_is in
    let are = cells-at parts groups rows stored steps fine number there.0 made.state has there.1 (λ none. some (there.2 ∙ none)) in
    record {
      state = made.state;
      whole = made.whole;
      cells_are = subst (λ (cs : List Cell). AreCellsOf parts groups made.state cs) (sym there.2) are;
      after_is = made.after_is;
      inside_is = made.inside_is;
    }

-- ---- another process

some-of : {X Y : Type 0} (f : X → Y) (o : Option X) (y : Y) → option_map f o ≡ Some y → (x : X) × (o ≡ Some x) × (f x ≡ y)
some-of f None y is = cc
some-of f (Some x) y is = let same : f x ≡ y = cc is in (x, refl, same)

-- a record at an index is found by its number
found-at : (rs : List (ℕ × ProcessRecord)) (i n : ℕ) (r : ProcessRecord) → is_sorted nat_cmp rs ≡ true → slice_get rs i ≡ Some (n, r) → find nat_cmp n rs ≡ Some r
found-at [] i n r sorted at = cc at
found-at (e ∷ rs) zero n r sorted at =
    let same : e ≡ (n, r) = cc at in
    subst (λ (x : ℕ × ProcessRecord). find nat_cmp n (x ∷ rs) ≡ Some r) (sym same) (ap (λ o. cond (is_eq o) (Some r) (find nat_cmp n rs)) (number-itself n))
found-at (e ∷ rs) (suc i) n r sorted at = find_number_after n r e rs sorted (found-at rs i n r (and_parts (below_all nat_cmp e.0 rs) (is_sorted nat_cmp rs) sorted).1 at)

-- the group of a live process is that of its record
pub record IsOfRecord (rs : List (ℕ × ProcessRecord)) (owner : ℕ) (c : OwnedGroup) : Type 0 where
  pub place : ℕ
  pub process : Process
  pub at : slice_get rs place ≡ Some (owner, live process)
  pub is : encoded_record (owner, live process) ≡ c

of-record : (owner : ℕ) → owner ≢ 0 → (rs : List (ℕ × ProcessRecord)) (gs : List (List Bytes)) (i : ℕ) (c : OwnedGroup) → slice_get (map encoded_record rs ++ map plain gs) i ≡ Some c → c.owner ≡ owner → IsOfRecord rs owner c
of-record owner some [] gs i c at owned = absurd (some (sym owned ∙ plain-at gs i c at))
of-record owner some ((n, live p) ∷ rs) gs zero c at owned =
    let is : encoded_record (n, live p) ≡ c = cc at in
    let number : n ≡ owner = ap (λ (x : OwnedGroup). x.owner) is ∙ owned in
    record { place = 0; process = p; at = ap (λ k. Some (k, live p)) number; is = ap (λ k. encoded_record (k, live p)) (sym number) ∙ is }
of-record owner some ((n, ended_record parent status) ∷ rs) gs zero c at owned =
    let is : encoded_record (n, ended_record parent status) ≡ c = cc at in absurd (some (sym owned ∙ sym (ap (λ (x : OwnedGroup). x.owner) is)))
of-record owner some (r ∷ rs) gs (suc i) c at owned = let rest = of-record owner some rs gs i c at owned in record { place = suc rest.place; process = rest.process; at = rest.at; is = rest.is }

of-encoded : (s : State) (owner : ℕ) → owner ≢ 0 → (i : ℕ) (c : OwnedGroup) → slice_get (encoded s) i ≡ Some c → c.owner ≡ owner → IsOfRecord s.processes owner c
unfolding encoded
of-encoded s owner some zero c at owned = let is : plain (counts_group s) ≡ c = cc at in absurd (some (sym owned ∙ sym (ap (λ (x : OwnedGroup). x.owner) is)))
of-encoded s owner some (suc i) c at owned = of-record owner some s.processes (tree_groups s) i c at owned

module _ (parts groups : List Bytes) where
  abbrev number : List Bytes → ℕ
  number = group_number parts groups

  -- the cell that another live process had before the step is its cell after it
  pub cell-other : (cells : List Cell) (pid : ℕ) (inside : Bool) (after : State) (other : ℕ) (cell : Cell) → LeadTo parts groups cells pid inside after → IsValid after → IsSome (process_at after pid)
      → other ≢ pid → IsSome (process_at after other) → IsCellOf cells other cell → AreCellsIn parts groups (numbered_encoded other (find nat_cmp other after.processes) ∷ []) (cell ∷ [])
  cell-other cells pid inside after other cell it valid alive apart there is_of =
      let s = it.state in
      let some : other ≢ 0 = by-some (process_at after other) refl there in
      let at_cells : option_map (cell_of (group_number parts groups)) (slice_get (encoded it.state) is_of.place) ≡ Some cell =
      sym (slice_get-map (cell_of (group_number parts groups)) (encoded it.state) is_of.place) ∙ sym (ap (λ (cs : List Cell). slice_get cs is_of.place) it.cells_are.are) ∙ is_of.at in
      let e = some-of (cell_of (group_number parts groups)) (slice_get (encoded it.state) is_of.place) cell at_cells in
      let owned : e.0.owner ≡ other = ap (λ (c : Cell). c.owner) e.2 ∙ is_of.owner in
      let of = of-encoded s other some is_of.place e.0 e.1 owned in
      let at_s = found-live s other of.process (found-at s.processes of.place other (live of.process) it.whole.processes.ascending of.at) in
      let alive_there : IsSome (process_at (stepped it.state pid).after pid) = subst (λ (t : State). IsSome (process_at t pid)) it.after_is alive in
      let order = valid-in_order s it.whole in
      let process_is = others-keep_all program_of s pid other of.process order apart at_s (goes-on s pid order alive_there) in
      let found : find nat_cmp other after.processes ≡ Some (live of.process) = live-found after other of.process (ap (λ (t : State). process_at t other) it.after_is ∙ process_is) in
      let group : numbered_encoded other (find nat_cmp other after.processes) ≡ e.0 = ap (numbered_encoded other) found ∙ of.is in
      record {
        are = ap (λ (c : Cell). c ∷ []) (sym e.2) ∙ ap (λ (c : OwnedGroup). cell_of (group_number parts groups) c ∷ []) (sym group);
        cached = (
          subst (IsCachedBoth (group_number parts groups) (IsGroupVisited parts groups)) (sym group)
              (all-at (IsCachedBoth (group_number parts groups) (IsGroupVisited parts groups)) (encoded it.state) is_of.place e.0 it.cells_are.cached e.1),
          tt,
        );
      }
    where
      by-some : (o : Option Process) → process_at after other ≡ o → IsSome o → other ≢ 0
      by-some None at some = cc some
      by-some (Some p) at some = number-some after other p valid at

  -- two lists of cells
  pub cells-both : (cs ds : List OwnedGroup) (cells more : List Cell) → AreCellsIn parts groups cs cells → AreCellsIn parts groups ds more → AreCellsIn parts groups (cs ++ ds) (cells ++ more)
  cells-both cs ds cells more first second = record {
    are = ap₂ (λ (a b : List Cell). a ++ b) first.are second.are ∙ sym (map-append (cell_of (group_number parts groups)) cs ds);
    cached = all-both cs first.cached;
  }
    where
      all-both : (es : List OwnedGroup) → AreCachedBoth parts groups es → AreCachedBoth parts groups (es ++ ds)
      all-both [] all = second.cached
      all-both (e ∷ es) all = (all.0, all-both es all.1)

-- ---- all processes, one at a time

-- the cells of all processes but those after a number are there
pub record LeavesCells (parts groups : List Bytes) (rs : List Recorded) (last : ℕ) (cells : List Cell) : Type 0 where
  pub done : List OwnedGroup
  pub are : AreCellsIn parts groups done cells
  pub left : LeavesRecords encoded_record rs last [] done

pub cells-start : (parts groups : List Bytes) (s : State) → IsValid s → LeavesCells parts groups s.processes 0 []
cells-start parts groups s whole = record {
  done = [];
  are = record { are = refl; cached = tt };
  left = record { is = ap (map encoded_record) (all-after s.last_process s.processes whole.processes.numbers) };
}

module _ (parts groups parts_now groups_now : List Bytes) (parts_grew : Grew parts parts_now) (groups_grew : Grew groups groups_now) where
  pub lead-grew : (cells : List Cell) (pid : ℕ) (inside : Bool) (after : State) → LeadTo parts groups cells pid inside after → LeadTo parts_now groups_now cells pid inside after
  lead-grew cells pid inside after it = record {
    state = it.state;
    whole = it.whole;
    cells_are = cells-grew parts groups parts_now groups_now parts_grew groups_grew it.state cells it.cells_are;
    after_is = it.after_is;
    inside_is = it.inside_is;
  }

  pub cells-more-record : (rs : List Recorded) (last pid : ℕ) (cells new : List Cell) (cell : Cell) → IsNextRecord last pid rs → LeavesCells parts groups rs last cells
      → AreCellsIn parts_now groups_now (numbered_encoded pid (find nat_cmp pid rs) ∷ []) (cell ∷ []) → new ≡ cells ++ cell ∷ [] → LeavesCells parts_now groups_now rs pid new
  cells-more-record rs last pid cells new cell next so_far one is = record {
    done = so_far.done ++ numbered_encoded pid (find nat_cmp pid rs) ∷ [];
    are =
        subst (λ (cs : List Cell). AreCellsIn parts_now groups_now (so_far.done ++ numbered_encoded pid (find nat_cmp pid rs) ∷ []) cs) (sym is)
        (cells-both parts_now groups_now so_far.done (numbered_encoded pid (find nat_cmp pid rs) ∷ []) cells (cell ∷ []) (cells-in_grew parts groups parts_now groups_now parts_grew groups_grew so_far.done cells so_far.are) one);
    left = records-next encoded_record numbered_encoded (λ k r. refl) rs last pid [] so_far.done _ (numbered_encoded pid (find nat_cmp pid rs)) next so_far.left refl refl;
  }

pub cells-end : (parts groups : List Bytes) (rs : List Recorded) (last : ℕ) (cells : List Cell) → number_after last rs ≡ None → LeavesCells parts groups rs last cells → AreCellsIn parts groups (map encoded_record rs) cells
cells-end parts groups rs last cells none so_far = subst (λ (es : List OwnedGroup). AreCellsIn parts groups es cells) (records-end encoded_record rs last [] so_far.done none so_far.left) so_far.are

-- the cells of the counts, of the processes, and of the open files and the tree
pub cells-together : (parts groups : List Bytes) (s : State) (counts : Cell) (processes trees : List Cell) → AreCellsIn parts groups (plain (counts_group s) ∷ []) (counts ∷ []) → AreCellsIn parts groups (map encoded_record s.processes) processes
    → AreCellsIn parts groups (map plain (tree_groups s)) trees → AreCellsOf parts groups s (counts ∷ (processes ++ trees))
unfolding encoded
cells-together parts groups s counts processes trees first second third =
    let rest = cells-both parts groups (map encoded_record s.processes) (map plain (tree_groups s)) processes trees second third in
    let all = cells-both parts groups (plain (counts_group s) ∷ []) (map encoded_record s.processes ++ map plain (tree_groups s)) (counts ∷ []) (processes ++ trees) first rest in
    record { are = all.are; cached = all.cached }
