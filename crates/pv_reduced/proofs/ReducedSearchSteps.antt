-- The reduced search, step by step.
use Rattle.std.proofs.Common.{◌≡◌, ◌∙◌, sym, ap, ap₂, ℕ, suc, ◌+◌, ◌-◌, ◌<◌, ◌≤◌, Bool, true, false, if◌then◌else◌, nat_le, List, [], ◌∷◌, ◌++◌, length, drop, get_or, slice_get, slice_index, Option, None, Some, refl, subst, add-one, arith}
use Rattle.std.specs.List.{list_any}
use Rattle.std.specs.Prelude.{IfSome}
use Rattle.std.proofs.lemmas.Bool.{le-leb, lt-leb}
use Rattle.std.proofs.lemmas.List.{drop_all, length-append}
use Rattle.std.proofs.lemmas.Option.{slice_get-get_or, slice_get_past}
use Rattle.std.proofs.Math.Seq.{drop-cons}
use Rattle.pv_explore.specs.Plan.{endings_after, reported_after, reported_bytes, state_at}
use Rattle.pv_explore.specs.Searches.{move_of}
use Rattle.pv_explore.proofs.SearchSteps.{witness-stays}
use Rattle.pv_laws_classes.specs.Reduced.{bound_by}
use Rattle.pv_model.specs.Machine.{Move, Observer, Bytes, program_of, State}
use Rattle.pv_reduced.specs.Keys.{reduced_parts, same_parts}
use Rattle.pv_reduced.specs.Plan.{ReducedVisited, and_reduced_report, and_reduced_visit, reduced_bytes_at, reduced_first_visited, is_known_reduced, reduced_reported_from, reduced_reported_steps, reduced_texts_at, reduced_visited_after, reduced_visited_after_steps, reduced_visited_at, reduced_visited_from, reduced_with_found_at, reduced_with_state_at}
use Rattle.pv_reduced.specs.Searches.{HaveWitnesses, moving_in, reduced_witness_at}
use Rattle.pv_explore.specs.OfSession.Running.{stepped}

-- a machine, if there is one, is in a state that is equal to the one given
pub if_some-at : (taken machine : Option State) {s t : State} → s ≡ t → taken ≡ machine → IfSome machine (λ (m : State). m ≡ s) → IfSome taken (λ (m : State). m ≡ t)
if_some-at taken machine {s} {t} same is at = subst (λ (u : State). IfSome taken (λ (m : State). m ≡ u)) same (subst (λ (o : Option State). IfSome o (λ (m : State). m ≡ s)) (sym is) at)

-- ---- a visited state

module _ (limit : ℕ) (visited : ReducedVisited) (bound : ℕ) (witness : List ℕ) (t : State) where
  chosen : Bool → Bool → ReducedVisited
  chosen a b = if a then visited else if b then record visited { complete = false } else reduced_with_state_at visited bound witness t

  pub found-known : is_known_reduced visited bound t ≡ true → visited ≡ reduced_with_found_at limit visited bound witness t
  unfolding chosen
  found-known is = ap (λ a. chosen a (nat_le limit (length visited.keys))) (sym is)

  pub found-full : is_known_reduced visited bound t ≡ false → limit ≤ length visited.keys → record visited { complete = false } ≡ reduced_with_found_at limit visited bound witness t
  unfolding chosen
  found-full is full = ap₂ chosen (sym is) (sym (le-leb limit (length visited.keys) full))

  pub found-new : is_known_reduced visited bound t ≡ false → length visited.keys < limit → reduced_with_state_at visited bound witness t ≡ reduced_with_found_at limit visited bound witness t
  unfolding chosen
  found-new is room = ap₂ chosen (sym is) (sym (lt-leb limit (length visited.keys) room))

  -- the visit does not depend on the texts that were written
  pub found-reported : (reported : List Bytes) → reduced_with_found_at limit (record visited { reported = reported }) bound witness t ≡ record (reduced_with_found_at limit visited bound witness t) { reported = reported }
  found-reported reported = by (is_known_reduced visited bound t) (nat_le limit (length visited.keys))
    where
      by : (a b : Bool) → (if a then record visited { reported = reported } else if b then record (record visited { reported = reported }) { complete = false } else reduced_with_state_at (record visited { reported = reported }) bound witness t)
          ≡ record (if a then visited else if b then record visited { complete = false } else reduced_with_state_at visited bound witness t) { reported = reported }
      by true b = refl
      by false true = refl
      by false false = refl

-- the same for a list of parts that is that of the state
module _ (limit : ℕ) (visited : ReducedVisited) (bound : ℕ) (witness : List ℕ) (t : State) (list : List Bytes) (list_is : list ≡ reduced_parts bound t) where
  known-is : (b : Bool) → list_any (same_parts list) visited.keys ≡ b → is_known_reduced visited bound t ≡ b
  known-is b is = ap (λ (ps : List Bytes). list_any (same_parts ps) visited.keys) (sym list_is) ∙ is

  pub visit-known : (keys : List (List Bytes)) → list_any (same_parts list) visited.keys ≡ true → keys ≡ visited.keys → record visited { keys = keys } ≡ reduced_with_found_at limit visited bound witness t
  visit-known keys is same = ap (λ (ks : List (List Bytes)). record visited { keys = ks }) same ∙ found-known limit visited bound witness t (known-is true is)

  pub visit-full : (keys : List (List Bytes)) → list_any (same_parts list) visited.keys ≡ false → limit ≤ length visited.keys → keys ≡ visited.keys
      → record visited { keys = keys; complete = false } ≡ reduced_with_found_at limit visited bound witness t
  visit-full keys is full same = ap (λ (ks : List (List Bytes)). record visited { keys = ks; complete = false }) same ∙ found-full limit visited bound witness t (known-is false is) full

  pub visit-new : (keys : List (List Bytes)) (bounds : List ℕ) (witnesses : List (List ℕ)) (endings : List Bytes) → list_any (same_parts list) visited.keys ≡ false → length visited.keys < limit → keys ≡ visited.keys ++ list ∷ []
      → bounds ≡ visited.bounds ++ bound ∷ [] → witnesses ≡ visited.witnesses ++ witness ∷ [] → endings ≡ endings_after visited.endings t
      → record visited { bounds = bounds; keys = keys; witnesses = witnesses; endings = endings } ≡ reduced_with_found_at limit visited bound witness t
  visit-new keys bounds witnesses endings is room keys_are bounds_are witnesses_are endings_are =
      let added : keys ≡ visited.keys ++ reduced_parts bound t ∷ [] = keys_are ∙ ap (λ (ps : List Bytes). visited.keys ++ ps ∷ []) list_is in
      let new : record visited { bounds = bounds; keys = keys; witnesses = witnesses; endings = endings } ≡ reduced_with_state_at visited bound witness t =
      λ i. record visited { bounds = bounds_are i; keys = added i; witnesses = witnesses_are i; endings = endings_are i } in
      new ∙ found-new limit visited bound witness t (known-is false is) room

pub visited-is : (limit : ℕ) (visited now after : ReducedVisited) (bound : ℕ) (witness : List ℕ) (pid : ℕ) (s : State) (texts : List Bytes) (reported : List Bytes) (t : State) → t ≡ (stepped s pid).after
    → reported ≡ reported_after visited.reported texts → now ≡ record visited { reported = reported } → after ≡ reduced_with_found_at limit now bound witness t → after ≡ reduced_visited_after limit visited bound (move_of witness pid s) texts
visited-is limit visited now after bound witness pid s texts reported t t_is reported_is now_is after_is =
    after_is ∙ ap (λ k. reduced_with_found_at limit k bound witness t) now_is ∙ found-reported limit visited bound witness t reported
    ∙ ap (λ (u : State). record (reduced_with_found_at limit visited bound witness u) { reported = reported }) t_is
    ∙ ap (λ ts. record (reduced_with_found_at limit visited bound witness (stepped s pid).after) { reported = ts }) reported_is

-- the step of a process in the state of a machine is the one at the end of a witness
module _ (observe : Observer Bytes) (limit : ℕ) (s from : State) (witness longer : List ℕ) (pid : ℕ) (longer_is : longer ≡ witness ++ pid ∷ []) (from_is : from ≡ state_at program_of s witness) where
  pub bytes-is : (visited : ReducedVisited) → reported_bytes visited.reported pid longer (observe from pid (stepped from pid)) ≡ reduced_bytes_at observe limit program_of s witness pid visited
  bytes-is visited = ap₂ (λ (w : List ℕ) (t : State). reported_bytes visited.reported pid w (observe t pid (stepped t pid))) longer_is from_is

  pub visited-at-is : (visited : ReducedVisited) (bound : ℕ) → bound ≡ bound_by from pid → reduced_visited_after limit visited bound (move_of longer pid from) (observe from pid (stepped from pid)) ≡ reduced_visited_at observe limit program_of s witness pid visited
  visited-at-is visited bound bound_is =
      ap (λ b. reduced_visited_after limit visited b (move_of longer pid from) (observe from pid (stepped from pid))) bound_is
      ∙ ap₂ (λ (w : List ℕ) (t : State). reduced_visited_after limit visited (bound_by t pid) (move_of w pid t) (observe t pid (stepped t pid))) longer_is from_is

-- a witness stays
pub visited-witness : (limit : ℕ) (visited after : ReducedVisited) (bound : ℕ) (m : Move) (texts : List Bytes) (number : ℕ) (witness : List ℕ) → after ≡ reduced_visited_after limit visited bound m texts → slice_get visited.witnesses number ≡ Some witness
    → slice_get after.witnesses number ≡ Some witness
visited-witness limit visited after bound m texts number witness after_is at = ap (λ (k : ReducedVisited). slice_get k.witnesses number) after_is ∙ by (is_known_reduced visited bound m.stepped.after) (nat_le limit (length visited.keys))
  where
    by : (a b : Bool) → slice_get (if a then visited else if b then record visited { complete = false } else reduced_with_state_at visited bound m.witness m.stepped.after).witnesses number ≡ Some witness
    by true b = at
    by false true = at
    by false false = witness-stays visited.witnesses (m.witness ∷ []) number witness at

-- ---- the steps in a state

module _ (observe : Observer Bytes) (limit : ℕ) (s : State) (witness : List ℕ) where
  abbrev pub steps_left : List ℕ → ReducedVisited → Bytes
  steps_left pids visited = reduced_reported_steps observe limit program_of s witness pids visited

  next-pids : (xs : List ℕ) (i : ℕ) → i < length xs → drop i xs ≡ get_or xs i 0 ∷ drop (i + 1) xs
  next-pids xs i within = drop-cons xs i 0 within ∙ ap (λ k. get_or xs i 0 ∷ drop k xs) (sym (add-one i))

  pub steps-next : (xs : List ℕ) (i : ℕ) (visited after : ReducedVisited) → i < length xs → after ≡ reduced_visited_at observe limit program_of s witness (get_or xs i 0) visited
      → steps_left (drop i xs) visited ≡ reduced_bytes_at observe limit program_of s witness (get_or xs i 0) visited ++ steps_left (drop (i + 1) xs) after
  steps-next xs i visited after within visited_is =
      ap (λ ps. steps_left ps visited) (next-pids xs i within)
      ∙ ap (λ k. reduced_bytes_at observe limit program_of s witness (get_or xs i 0) visited ++ steps_left (drop (i + 1) xs) k) (sym visited_is)

  pub visited-next : (xs : List ℕ) (i : ℕ) (visited after : ReducedVisited) → i < length xs → after ≡ reduced_visited_at observe limit program_of s witness (get_or xs i 0) visited
      → reduced_visited_after_steps observe limit program_of s witness (drop (i + 1) xs) after ≡ reduced_visited_after_steps observe limit program_of s witness (drop i xs) visited
  visited-next xs i visited after within visited_is =
      ap (λ k. reduced_visited_after_steps observe limit program_of s witness (drop (i + 1) xs) k) visited_is
      ∙ sym (ap (λ ps. reduced_visited_after_steps observe limit program_of s witness ps visited) (next-pids xs i within))

  pub steps-end : (xs : List ℕ) (i : ℕ) (visited : ReducedVisited) → length xs ≤ i → steps_left (drop i xs) visited ≡ []
  steps-end xs i visited past = ap (λ ps. steps_left ps visited) (drop_all i xs past)

-- ---- all states

module _ (observe : Observer Bytes) (limit : ℕ) (s : State) where
  abbrev pub reported_left : ℕ → ReducedVisited → Bytes
  reported_left number visited = reduced_reported_from observe limit program_of s (limit - number) number visited

  abbrev pub visited_left : ℕ → ReducedVisited → ReducedVisited
  visited_left number visited = reduced_visited_from observe limit program_of s (limit - number) number visited

  one-less : (number : ℕ) → number < limit → limit - number ≡ suc (limit - (number + 1))
  one-less number within = omega arith

  pub reported-next : (number : ℕ) (visited after : ReducedVisited) (witness : List ℕ) → number < limit → slice_get visited.witnesses number ≡ Some witness
      → after ≡ reduced_visited_after_steps observe limit program_of s witness (moving_in s visited number witness) visited
      → reported_left number visited ≡ reduced_reported_steps observe limit program_of s witness (moving_in s visited number witness) visited ++ reported_left (number + 1) after
  reported-next number visited after witness within is visited_is =
      let n = limit - (number + 1) in
      let steps : Bytes = reduced_reported_steps observe limit program_of s witness (moving_in s visited number witness) visited in
      ap (λ k. reduced_reported_from observe limit program_of s k number visited) (one-less number within)
      ∙ ap (λ o. and_reduced_report observe limit program_of s (reduced_reported_from observe limit program_of s n (suc number)) (slice_index visited.bounds number) visited o) is
      ∙ ap₂ (λ j k. steps ++ reduced_reported_from observe limit program_of s n j k) (sym (add-one number)) (sym visited_is)

  pub left-next : (number : ℕ) (visited after : ReducedVisited) (witness : List ℕ) → number < limit → slice_get visited.witnesses number ≡ Some witness
      → after ≡ reduced_visited_after_steps observe limit program_of s witness (moving_in s visited number witness) visited → visited_left (number + 1) after ≡ visited_left number visited
  left-next number visited after witness within is visited_is =
      let n = limit - (number + 1) in
      ap₂ (λ j k. reduced_visited_from observe limit program_of s n j k) (add-one number) visited_is
      ∙ sym (ap (λ k. reduced_visited_from observe limit program_of s k number visited) (one-less number within)
      ∙ ap (and_reduced_visit observe limit program_of s (reduced_visited_from observe limit program_of s n (suc number)) (slice_index visited.bounds number) visited) is)

  pub reported-none : (number : ℕ) (visited : ReducedVisited) → number < limit → slice_get visited.witnesses number ≡ None → reported_left number visited ≡ []
  reported-none number visited within is =
      ap (λ k. reduced_reported_from observe limit program_of s k number visited) (one-less number within)
      ∙ ap (λ o. and_reduced_report observe limit program_of s (reduced_reported_from observe limit program_of s (limit - (number + 1)) (suc number)) (slice_index visited.bounds number) visited o) is

  pub left-none : (number : ℕ) (visited : ReducedVisited) → number < limit → slice_get visited.witnesses number ≡ None → visited ≡ visited_left number visited
  left-none number visited within is =
      sym (ap (λ k. reduced_visited_from observe limit program_of s k number visited) (one-less number within)
      ∙ ap (and_reduced_visit observe limit program_of s (reduced_visited_from observe limit program_of s (limit - (number + 1)) (suc number)) (slice_index visited.bounds number) visited) is)

  pub reported-past : (number : ℕ) (visited : ReducedVisited) → limit ≤ number → reported_left number visited ≡ []
  reported-past number visited past = let none : limit - number ≡ 0 = omega arith in ap (λ k. reduced_reported_from observe limit program_of s k number visited) none

  pub reported-start : (visited : ReducedVisited) → reported_left 0 visited ≡ reduced_reported_from observe limit program_of s limit 0 visited
  reported-start visited = let all : limit - 0 ≡ limit = omega arith in ap (λ k. reduced_reported_from observe limit program_of s k 0 visited) all

-- ---- the first state

pub first-is : (s t : State) (bounds : List ℕ) (keys : List (List Bytes)) (endings reported : List Bytes) (witnesses : List (List ℕ)) (complete : Bool) → t ≡ s → bounds ≡ 0 ∷ [] → keys ≡ reduced_parts 0 t ∷ [] → witnesses ≡ [] ∷ [] → reported ≡ []
    → endings ≡ endings_after [] t → complete ≡ true → record { bounds = bounds; keys = keys; witnesses = witnesses; reported = reported; endings = endings; complete = complete } ≡ reduced_first_visited s
first-is s t bounds keys endings reported witnesses complete first free added witness none ending all =
    let visited : record { bounds = bounds; keys = keys; witnesses = witnesses; reported = reported; endings = endings; complete = complete } ≡ reduced_first_visited t =
    λ i. record { bounds = free i; keys = added i; witnesses = witness i; reported = none i; endings = ending i; complete = all i } in
    visited ∙ ap reduced_first_visited first

-- ---- the states have witnesses

one-longer : {X Y : Type 0} (xs : List X) (ys : List Y) (x : X) (y : Y) → length xs ≡ length ys → length (xs ++ x ∷ []) ≡ length (ys ++ y ∷ [])
one-longer xs ys x y long = length-append xs (x ∷ []) ∙ ap (λ n. n + 1) long ∙ sym (length-append ys (y ∷ []))

long-now : (limit : ℕ) (visited : ReducedVisited) (bound : ℕ) (witness : List ℕ) (t : State) (reported : List Bytes) → HaveWitnesses visited → HaveWitnesses (record (reduced_with_found_at limit visited bound witness t) { reported = reported })
long-now limit visited bound witness t reported long = by (is_known_reduced visited bound t) (nat_le limit (length visited.keys))
  where
    by : (a b : Bool) → HaveWitnesses (record (if a then visited else if b then record visited { complete = false } else reduced_with_state_at visited bound witness t) { reported = reported })
    by true b = record { witnesses = long.witnesses; bounds = long.bounds }
    by false true = record { witnesses = long.witnesses; bounds = long.bounds }
    by false false = record {
      witnesses = one-longer visited.keys visited.witnesses (reduced_parts bound t) witness long.witnesses;
      bounds = one-longer visited.keys visited.bounds (reduced_parts bound t) bound long.bounds;
    }

module _ (observe : Observer Bytes) (limit : ℕ) (s : State) where
  long-steps : (witness pids : List ℕ) (visited : ReducedVisited) → HaveWitnesses visited → HaveWitnesses (reduced_visited_after_steps observe limit program_of s witness pids visited)
  long-steps witness [] visited long = long
  long-steps witness (pid ∷ pids) visited long =
      long-steps witness pids (reduced_visited_at observe limit program_of s witness pid visited)
      (long-now limit visited (bound_by (state_at program_of s witness) pid) (witness ++ pid ∷ []) (stepped (state_at program_of s witness) pid).after (reported_after visited.reported (reduced_texts_at observe limit program_of s witness pid)) long)

  pub long-after : (witness pids : List ℕ) (visited after : ReducedVisited) → HaveWitnesses visited → after ≡ reduced_visited_after_steps observe limit program_of s witness pids visited → HaveWitnesses after
  long-after witness pids visited after long is = subst HaveWitnesses (sym is) (long-steps witness pids visited long)

pub found-witness : (visited : ReducedVisited) (number : ℕ) → HaveWitnesses visited → number < length visited.keys → slice_get visited.witnesses number ≡ Some (reduced_witness_at visited number)
found-witness visited number long within = slice_get-get_or visited.witnesses number [] (omega (arith, long.witnesses, within))

pub found-none : (visited : ReducedVisited) (number : ℕ) → HaveWitnesses visited → length visited.keys ≤ number → slice_get visited.witnesses number ≡ None
found-none visited number long past = slice_get_past visited.witnesses number (omega (arith, long.witnesses, past))
