-- The search, step by step.
use Rattle.std.proofs.Common.{◌≡◌, ◌∙◌, sym, ap, ap₂, ℕ, zero, suc, ◌+◌, ◌-◌, ◌<◌, ◌≤◌, Bool, true, false, bytes_eq, if◌then◌else◌, nat_le, List, [], ◌∷◌, ◌++◌, length, drop, get_or, slice_get, None, Some, refl, add-one, arith}
use Rattle.std.proofs.lemmas.Bool.{le-leb, lt-leb}
use Rattle.std.proofs.lemmas.List.{drop_all}
use Rattle.std.proofs.Math.Seq.{drop-cons}
use Rattle.std.specs.Global.{Vec}
use Rattle.std.specs.List.{list_any}
use Rattle.pv_step_cache.specs.Steps.{texts_in}
use Rattle.pv_explore.specs.Plan.{Visited, added_to, endings_after, move_bytes, new_bytes, shown_bytes, state_key, is_known, reported_after, reported_bytes, step_bytes_at, visited_at, with_state_at, with_found_at, visited_after, state_at, live_at, reported_steps, visited_after_steps, and_report, and_visit, reported_from, visited_from, first_visited}
use Rattle.pv_explore.specs.Searches.{move_of}
use Rattle.pv_explore.specs.Observing.{is_shown}
use Rattle.pv_model.specs.Machine.{Move, Observer, Bytes, program_of, State}
use Rattle.pv_step_lines.specs.OfSession.Running.{stepped}

-- ---- a visited state

module _ (limit : ℕ) (visited : Visited) (witness : List ℕ) (t : State) where
  chosen : Bool → Bool → Visited
  chosen a b = if a then visited else if b then record visited { complete = false } else with_state_at visited witness t

  pub found-known : is_known visited t ≡ true → visited ≡ with_found_at limit visited witness t
  unfolding chosen
  found-known is = ap (λ a. chosen a (nat_le limit (length visited.keys))) (sym is)

  pub found-full : is_known visited t ≡ false → limit ≤ length visited.keys → record visited { complete = false } ≡ with_found_at limit visited witness t
  unfolding chosen
  found-full is full = ap₂ chosen (sym is) (sym (le-leb limit (length visited.keys) full))

  pub found-new : is_known visited t ≡ false → length visited.keys < limit → with_state_at visited witness t ≡ with_found_at limit visited witness t
  unfolding chosen
  found-new is room = ap₂ chosen (sym is) (sym (lt-leb limit (length visited.keys) room))

  -- the visit does not depend on the texts that were written
  pub found-reported : (reported : List Bytes) → with_found_at limit (record visited { reported = reported }) witness t ≡ record (with_found_at limit visited witness t) { reported = reported }
  found-reported reported = by (is_known visited t) (nat_le limit (length visited.keys))
    where
      by : (a b : Bool) → (if a then record visited { reported = reported } else if b then record (record visited { reported = reported }) { complete = false } else with_state_at (record visited { reported = reported }) witness t)
          ≡ record (if a then visited else if b then record visited { complete = false } else with_state_at visited witness t) { reported = reported }
      by true b = refl
      by false true = refl
      by false false = refl

-- the first state alone
pub first-is : (s t : State) (keys endings reported : List Bytes) (witnesses : List (List ℕ)) (complete : Bool) → t ≡ s → keys ≡ state_key t ∷ [] → witnesses ≡ [] ∷ [] → reported ≡ [] → endings ≡ endings_after [] t → complete ≡ true
    → record { keys = keys; witnesses = witnesses; reported = reported; endings = endings; complete = complete } ≡ first_visited s
first-is s t keys endings reported witnesses complete first added witness none ending all =
    let visited : record { keys = keys; witnesses = witnesses; reported = reported; endings = endings; complete = complete } ≡ first_visited t =
    λ i. record { keys = added i; witnesses = witness i; reported = none i; endings = ending i; complete = all i } in
    visited ∙ ap first_visited first

-- ---- a step

-- a text that is shown
pub shown-some : (pid : ℕ) (witness : List ℕ) (text : Bytes) → is_shown text ≡ true → move_bytes pid witness text ≡ shown_bytes pid witness text
shown-some pid witness text is = ap (λ b. if b then move_bytes pid witness text else []) (sym is)

-- a text that was observed before, and one that is new
pub reported-known : (reported : List Bytes) (pid : ℕ) (witness : List ℕ) (text : Bytes) → list_any (bytes_eq text) reported ≡ true → [] ≡ new_bytes reported pid witness text
reported-known reported pid witness text is = ap (λ b. if b then [] else shown_bytes pid witness text) (sym is)

pub added-known : (reported : List Bytes) (text : Bytes) → list_any (bytes_eq text) reported ≡ true → reported ≡ added_to reported text
added-known reported text is = ap (λ b. if b then reported else reported ++ text ∷ []) (sym is)

pub reported-new : (reported : List Bytes) (pid : ℕ) (witness : List ℕ) (text : Bytes) → list_any (bytes_eq text) reported ≡ false → shown_bytes pid witness text ≡ new_bytes reported pid witness text
reported-new reported pid witness text is = ap (λ b. if b then [] else shown_bytes pid witness text) (sym is)

-- the texts of a step from a given one on
module _ (pid : ℕ) (witness : List ℕ) where
  abbrev pub texts_left : List (Vec ℕ) → List Bytes → Bytes
  texts_left texts reported = reported_bytes reported pid witness (texts_in texts)

  next-texts : (xs : List (Vec ℕ)) (i : ℕ) (d : Vec ℕ) → i < length xs → drop i xs ≡ get_or xs i d ∷ drop (i + 1) xs
  next-texts xs i d within = drop-cons xs i d within ∙ ap (λ k. get_or xs i d ∷ drop k xs) (sym (add-one i))

  pub texts-next : (xs : List (Vec ℕ)) (i : ℕ) (d : Vec ℕ) (reported after : List Bytes) → i < length xs → after ≡ added_to reported (get_or xs i d).items
      → texts_left (drop i xs) reported ≡ new_bytes reported pid witness (get_or xs i d).items ++ texts_left (drop (i + 1) xs) after
  texts-next xs i d reported after within is =
      ap (λ ts. texts_left ts reported) (next-texts xs i d within) ∙ ap (λ had. new_bytes reported pid witness (get_or xs i d).items ++ texts_left (drop (i + 1) xs) had) (sym is)

  pub after-next : (xs : List (Vec ℕ)) (i : ℕ) (d : Vec ℕ) (reported after : List Bytes) → i < length xs → after ≡ added_to reported (get_or xs i d).items
      → reported_after after (texts_in (drop (i + 1) xs)) ≡ reported_after reported (texts_in (drop i xs))
  after-next xs i d reported after within is =
      ap (λ had. reported_after had (texts_in (drop (i + 1) xs))) is ∙ sym (ap (λ ts. reported_after reported (texts_in ts)) (next-texts xs i d within))

  pub texts-end : (xs : List (Vec ℕ)) (i : ℕ) (reported : List Bytes) → length xs ≤ i → texts_left (drop i xs) reported ≡ []
  texts-end xs i reported past = ap (λ ts. texts_left ts reported) (drop_all i xs past)

  pub after-end : (xs : List (Vec ℕ)) (i : ℕ) (reported : List Bytes) → length xs ≤ i → reported ≡ reported_after reported (texts_in (drop i xs))
  after-end xs i reported past = sym (ap (λ ts. reported_after reported (texts_in ts)) (drop_all i xs past))

pub visited-is : (limit : ℕ) (visited now after : Visited) (witness : List ℕ) (pid : ℕ) (s : State) (texts : List Bytes) (reported : List Bytes) (t : State) → t ≡ (stepped s pid).after
    → reported ≡ reported_after visited.reported texts → now ≡ record visited { reported = reported } → after ≡ with_found_at limit now witness t → after ≡ visited_after limit visited (move_of witness pid s) texts
visited-is limit visited now after witness pid s texts reported t t_is reported_is now_is after_is =
    after_is ∙ ap (λ k. with_found_at limit k witness t) now_is ∙ found-reported limit visited witness t reported
    ∙ ap (λ (u : State). record (with_found_at limit visited witness u) { reported = reported }) t_is
    ∙ ap (λ ts. record (with_found_at limit visited witness (stepped s pid).after) { reported = ts }) reported_is

-- the step of a process in the state of a machine is the one at the end of a witness
module _ (observe : Observer Bytes) (limit : ℕ) (s from : State) (witness longer : List ℕ) (pid : ℕ) (longer_is : longer ≡ witness ++ pid ∷ []) (from_is : from ≡ state_at program_of s witness) where
  pub bytes-is : (visited : Visited) → reported_bytes visited.reported pid longer (observe from pid (stepped from pid)) ≡ step_bytes_at observe limit program_of s witness pid visited
  bytes-is visited = ap₂ (λ (w : List ℕ) (t : State). reported_bytes visited.reported pid w (observe t pid (stepped t pid))) longer_is from_is

  pub visited-at-is : (visited : Visited) → visited_after limit visited (move_of longer pid from) (observe from pid (stepped from pid)) ≡ visited_at observe limit program_of s witness pid visited
  visited-at-is visited = ap₂ (λ (w : List ℕ) (t : State). visited_after limit visited (move_of w pid t) (observe t pid (stepped t pid))) longer_is from_is

-- earlier witnesses stay
pub witness-stays : (witnesses more : List (List ℕ)) (number : ℕ) (witness : List ℕ) → slice_get witnesses number ≡ Some witness → slice_get (witnesses ++ more) number ≡ Some witness
witness-stays [] more number witness at = cc
witness-stays (w ∷ witnesses) more zero witness at = at
witness-stays (w ∷ witnesses) more (suc number) witness at = witness-stays witnesses more number witness at

pub visited-witness : (limit : ℕ) (visited after : Visited) (m : Move) (texts : List Bytes) (number : ℕ) (witness : List ℕ) → after ≡ visited_after limit visited m texts → slice_get visited.witnesses number ≡ Some witness → slice_get after.witnesses number ≡ Some witness
visited-witness limit visited after m texts number witness after_is at = ap (λ (k : Visited). slice_get k.witnesses number) after_is ∙ by (is_known visited m.stepped.after) (nat_le limit (length visited.keys))
  where
    by : (a b : Bool) → slice_get (if a then visited else if b then record visited { complete = false } else with_state_at visited m.witness m.stepped.after).witnesses number ≡ Some witness
    by true b = at
    by false true = at
    by false false = witness-stays visited.witnesses (m.witness ∷ []) number witness at

-- ---- the steps in a state

module _ (observe : Observer Bytes) (limit : ℕ) (s : State) (witness : List ℕ) where
  abbrev pub steps_left : List ℕ → Visited → Bytes
  steps_left pids visited = reported_steps observe limit program_of s witness pids visited

  next-pids : (xs : List ℕ) (i : ℕ) → i < length xs → drop i xs ≡ get_or xs i 0 ∷ drop (i + 1) xs
  next-pids xs i within = drop-cons xs i 0 within ∙ ap (λ k. get_or xs i 0 ∷ drop k xs) (sym (add-one i))

  pub steps-next : (xs : List ℕ) (i : ℕ) (visited after : Visited) → i < length xs → after ≡ visited_at observe limit program_of s witness (get_or xs i 0) visited
      → steps_left (drop i xs) visited ≡ step_bytes_at observe limit program_of s witness (get_or xs i 0) visited ++ steps_left (drop (i + 1) xs) after
  steps-next xs i visited after within visited_is =
      ap (λ ps. steps_left ps visited) (next-pids xs i within)
      ∙ ap (λ k. step_bytes_at observe limit program_of s witness (get_or xs i 0) visited ++ steps_left (drop (i + 1) xs) k) (sym visited_is)

  pub visited-next : (xs : List ℕ) (i : ℕ) (visited after : Visited) → i < length xs → after ≡ visited_at observe limit program_of s witness (get_or xs i 0) visited
      → visited_after_steps observe limit program_of s witness (drop (i + 1) xs) after ≡ visited_after_steps observe limit program_of s witness (drop i xs) visited
  visited-next xs i visited after within visited_is =
      ap (λ k. visited_after_steps observe limit program_of s witness (drop (i + 1) xs) k) visited_is
      ∙ sym (ap (λ ps. visited_after_steps observe limit program_of s witness ps visited) (next-pids xs i within))

  pub steps-end : (xs : List ℕ) (i : ℕ) (visited : Visited) → length xs ≤ i → steps_left (drop i xs) visited ≡ []
  steps-end xs i visited past = ap (λ ps. steps_left ps visited) (drop_all i xs past)

  pub visited-end : (xs : List ℕ) (i : ℕ) (visited : Visited) → length xs ≤ i → visited ≡ visited_after_steps observe limit program_of s witness (drop i xs) visited
  visited-end xs i visited past = sym (ap (λ ps. visited_after_steps observe limit program_of s witness ps visited) (drop_all i xs past))

-- ---- all states

module _ (observe : Observer Bytes) (limit : ℕ) (s : State) where
  abbrev pub reported_left : ℕ → Visited → Bytes
  reported_left number visited = reported_from observe limit program_of s (limit - number) number visited

  abbrev pub visited_left : ℕ → Visited → Visited
  visited_left number visited = visited_from observe limit program_of s (limit - number) number visited

  one-less : (number : ℕ) → number < limit → limit - number ≡ suc (limit - (number + 1))
  one-less number within = omega arith

  pub reported-next : (number : ℕ) (visited after : Visited) (witness : List ℕ) → number < limit → slice_get visited.witnesses number ≡ Some witness → after ≡ visited_after_steps observe limit program_of s witness (live_at program_of s witness) visited
      → reported_left number visited ≡ reported_steps observe limit program_of s witness (live_at program_of s witness) visited ++ reported_left (number + 1) after
  reported-next number visited after witness within is visited_is =
      let n = limit - (number + 1) in
      let steps : Bytes = reported_steps observe limit program_of s witness (live_at program_of s witness) visited in
      ap (λ k. reported_from observe limit program_of s k number visited) (one-less number within)
      ∙ ap (λ o. and_report observe limit program_of s (reported_from observe limit program_of s n (suc number)) visited o) is
      ∙ ap₂ (λ j k. steps ++ reported_from observe limit program_of s n j k) (sym (add-one number)) (sym visited_is)

  pub left-next : (number : ℕ) (visited after : Visited) (witness : List ℕ) → number < limit → slice_get visited.witnesses number ≡ Some witness → after ≡ visited_after_steps observe limit program_of s witness (live_at program_of s witness) visited
      → visited_left (number + 1) after ≡ visited_left number visited
  left-next number visited after witness within is visited_is =
      let n = limit - (number + 1) in
      ap₂ (λ j k. visited_from observe limit program_of s n j k) (add-one number) visited_is
      ∙ sym (ap (λ k. visited_from observe limit program_of s k number visited) (one-less number within) ∙ ap (and_visit observe limit program_of s (visited_from observe limit program_of s n (suc number)) visited) is)

  pub reported-none : (number : ℕ) (visited : Visited) → number < limit → slice_get visited.witnesses number ≡ None → reported_left number visited ≡ []
  reported-none number visited within is =
      ap (λ k. reported_from observe limit program_of s k number visited) (one-less number within)
      ∙ ap (λ o. and_report observe limit program_of s (reported_from observe limit program_of s (limit - (number + 1)) (suc number)) visited o) is

  pub left-none : (number : ℕ) (visited : Visited) → number < limit → slice_get visited.witnesses number ≡ None → visited ≡ visited_left number visited
  left-none number visited within is =
      sym (ap (λ k. visited_from observe limit program_of s k number visited) (one-less number within)
      ∙ ap (and_visit observe limit program_of s (visited_from observe limit program_of s (limit - (number + 1)) (suc number)) visited) is)

  pub reported-past : (number : ℕ) (visited : Visited) → limit ≤ number → reported_left number visited ≡ []
  reported-past number visited past = let none : limit - number ≡ 0 = omega arith in ap (λ k. reported_from observe limit program_of s k number visited) none

  pub left-past : (number : ℕ) (visited : Visited) → limit ≤ number → visited ≡ visited_left number visited
  left-past number visited past = let none : limit - number ≡ 0 = omega arith in sym (ap (λ k. visited_from observe limit program_of s k number visited) none)

  pub reported-start : (visited : Visited) → reported_left 0 visited ≡ reported_from observe limit program_of s limit 0 visited
  reported-start visited = let all : limit - 0 ≡ limit = omega arith in ap (λ k. reported_from observe limit program_of s k 0 visited) all
