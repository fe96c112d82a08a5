-- Steps taken from the cache, and the states at the ends of witnesses.
use Rattle.std.proofs.Common.{◌≡◌, ◌∙◌, sym, ap, ap₂, ℕ, ◌<◌, ◌≤◌, Bool, true, false, if◌then◌else◌, List, [], ◌∷◌, ◌++◌, bytes_eq, length, nat_le, option_map, slice_get, None, Some, refl, subst, arith}
use Rattle.std.proofs.lemmas.List.{length-map, map-append}
use Rattle.std.proofs.lemmas.Option.{slice_get-get_or, slice_get-map, slice_get_past, slice_get_within}
use Rattle.pv_explore.specs.declared.states.Visit.{Visit}
use Rattle.pv_explore.specs.declared.states.Visit.TheVariants.{Known, Full, New}
use Rattle.pv_explore.specs.VisitedStates.{HasNumber, IsFollowed, IsFoundIn}
use Rattle.pv_explore.specs.Plan.{Visited, added_to, first_visited, is_known, visited_after, visited_after_steps, visited_at, state_at, state_key, reported_after, texts_at, tree_key, with_found_at, with_state_at}
use Rattle.pv_explore.specs.Searches.{AreAt, endings_found, move_of, witness_at, with_witness}
use Rattle.pv_explore.proofs.SearchSteps.{found-full, found-known, found-new}
use Rattle.pv_explore.proofs.VisitedStates.{get-left}
use Rattle.pv_step_cache.proofs.OfLawsRuns.ProgramRanges.{program_of-encodes}
use Rattle.pv_laws_states.proofs.ValidBySteps.{run-keeps_valid}
use Rattle.pv_laws_states.specs.States.{IsValid}
use Rattle.pv_model.proofs.RunComposition.{run-append}
use Rattle.pv_model.specs.Machine.{Move, has_ended, Observer, Bytes, program_of, named_tree, State, Run}
use Rattle.pv_step_lines.specs.OfSession.Running.{stepped}
use Rattle.pv_step_cache.proofs.KeyLists.{there-some}

-- ---- the data after a visit

pub visited-found : (limit : ℕ) (visited : Visited) (witness : List ℕ) (u : State) (keys endings : List Bytes) (found : Visit) → IsFoundIn limit visited.keys keys (state_key u) found → endings ≡ endings_found found visited.endings u
    → with_witness found witness (record visited { keys = keys; endings = endings }) ≡ with_found_at limit visited witness u
visited-found limit visited witness u keys endings (Known number) it is =
    ap₂ (λ (ks es : List Bytes). record visited { keys = ks; endings = es }) it.1 is ∙ found-known limit visited witness u (there-some (bytes_eq (state_key u)) visited.keys number [] (sym it.0))
visited-found limit visited witness u keys endings Full it is = ap₂ (λ (ks es : List Bytes). record visited { keys = ks; endings = es; complete = false }) it.2 is ∙ found-full limit visited witness u it.0 it.1
visited-found limit visited witness u keys endings New it is = ap₂ (λ (ks es : List Bytes). record visited { keys = ks; endings = es; witnesses = visited.witnesses ++ witness ∷ [] }) it.2 is ∙ found-new limit visited witness u it.0 it.1

-- the first state is added
pub first-found : (u : State) (new : List Bytes) (found : Visit) → IsFoundIn 1 [] new (state_key u) found → new ≡ state_key u ∷ []
first-found u new (Known number) it = let no : None ≡ Some number = it.0 in cc
first-found u new Full it = let no = it.1 in absurd (omega (arith, no))
first-found u new New it = it.2

-- ---- the data after a step from the cache

witness-found : (limit : ℕ) (visited : Visited) (witness : List ℕ) (u : State) → has_ended u ≡ false → (keys : List Bytes) (found : Visit) → IsFoundIn limit visited.keys keys (state_key u) found
    → with_witness found witness (record visited { keys = keys }) ≡ with_found_at limit visited witness u
witness-found limit visited witness u going_on keys found it = visited-found limit visited witness u keys visited.endings found it (by found)
  where
    by : (f : Visit) → visited.endings ≡ endings_found f visited.endings u
    by (Known number) = refl
    by Full = refl
    by New = ap (λ b. if b then added_to visited.endings (tree_key (named_tree u.tree)) else visited.endings) (sym going_on)

witness-reported : (found : Visit) (witness : List ℕ) (visited : Visited) (reported : List Bytes) → with_witness found witness (record visited { reported = reported }) ≡ record (with_witness found witness visited) { reported = reported }
witness-reported (Known number) witness visited reported = refl
witness-reported Full witness visited reported = refl
witness-reported New witness visited reported = refl

pub visited-followed : (observe : Observer Bytes) (limit : ℕ) (visited after : Visited) (witness : List ℕ) (pid : ℕ) (t : State) (texts : List Bytes) (keys reported : List Bytes) (found : Visit) → IsFollowed observe limit visited.keys keys t pid texts found → reported ≡ reported_after visited.reported texts
    → after ≡ with_witness found witness (record visited { keys = keys; reported = reported }) → after ≡ visited_after limit visited (move_of witness pid t) (observe t pid (stepped t pid))
visited-followed observe limit visited after witness pid t texts keys reported found it reported_is after_is =
    after_is ∙ witness-reported found witness (record visited { keys = keys }) reported
    ∙ ap₂ (λ (k : Visited) (ts : List Bytes). record k { reported = ts }) (witness-found limit visited witness (stepped t pid).after it.live keys found it.found_is) (reported_is ∙ ap (reported_after visited.reported) it.texts_are)

-- ---- the states at the ends of witnesses

pub valid-at : (s : State) (witness : List ℕ) → IsValid s → IsValid (state_at program_of s witness)
valid-at s witness whole = run-keeps_valid program_of program_of-encodes witness s whole

pub first-at : (s : State) → AreAt s (first_visited s)
first-at s = refl

module _ (s : State) where
  abbrev key-at : List ℕ → Bytes
  key-at witness = state_key (state_at program_of s witness)

  pub number-at : (visited : Visited) (k : ℕ) (witness : List ℕ) → AreAt s visited → slice_get visited.witnesses k ≡ Some witness → HasNumber visited.keys k (state_at program_of s witness)
  number-at visited k witness at is = ap (λ (ks : List Bytes). slice_get ks k) at ∙ slice_get-map key-at visited.witnesses k ∙ ap (option_map key-at) is

  pub at-long : (visited : Visited) → AreAt s visited → length visited.keys ≡ length visited.witnesses
  at-long visited at = ap length at ∙ length-map visited.witnesses key-at

  pub found-witness : (visited : Visited) (number : ℕ) → AreAt s visited → number < length visited.keys → slice_get visited.witnesses number ≡ Some (witness_at visited number)
  found-witness visited number at within = slice_get-get_or visited.witnesses number [] (let long = at-long visited at in omega (arith, long, within))

  pub found-none : (visited : Visited) (number : ℕ) → AreAt s visited → length visited.keys ≤ number → slice_get visited.witnesses number ≡ None
  found-none visited number at past = slice_get_past visited.witnesses number (let long = at-long visited at in omega (arith, long, past))

  module _ (observe : Observer Bytes) (limit : ℕ) where
    at-found : (visited : Visited) (witness : List ℕ) (u : State) → u ≡ state_at program_of s witness → AreAt s visited → (reported : List Bytes) → AreAt s (record (with_found_at limit visited witness u) { reported = reported })
    at-found visited witness u is at reported = by (is_known visited u) (nat_le limit (length visited.keys))
      where
        by : (a b : Bool) → AreAt s (record (if a then visited else if b then record visited { complete = false } else with_state_at visited witness u) { reported = reported })
        by true b = at
        by false true = at
        by false false = ap₂ (λ (ks : List Bytes) (v : State). ks ++ state_key v ∷ []) at is ∙ sym (map-append key-at visited.witnesses (witness ∷ []))

    at-steps : (witness pids : List ℕ) (visited : Visited) → AreAt s visited → AreAt s (visited_after_steps observe limit program_of s witness pids visited)
    at-steps witness [] visited at = at
    at-steps witness (pid ∷ pids) visited at =
        at-steps witness pids (visited_at observe limit program_of s witness pid visited)
        (at-found visited (witness ++ pid ∷ []) (stepped (state_at program_of s witness) pid).after (ap (λ (r : Run). r.final) (sym (run-append program_of witness (pid ∷ []) s))) at
        (reported_after visited.reported (texts_at observe limit program_of s witness pid)))

    pub at-after : (witness pids : List ℕ) (visited after : Visited) → AreAt s visited → after ≡ visited_after_steps observe limit program_of s witness pids visited → AreAt s after
    at-after witness pids visited after at is = subst (AreAt s) (sym is) (at-steps witness pids visited at)

-- a state keeps its number
pub number-after : (limit : ℕ) (visited after : Visited) (m : Move) (texts : List Bytes) (k : ℕ) (t : State) → HasNumber visited.keys k t → after ≡ visited_after limit visited m texts → HasNumber after.keys k t
number-after limit visited after m texts k t there is = ap (λ (x : Visited). slice_get x.keys k) is ∙ by (is_known visited m.stepped.after) (nat_le limit (length visited.keys))
  where
    by : (a b : Bool) → slice_get (if a then visited else if b then record visited { complete = false } else with_state_at visited m.witness m.stepped.after).keys k ≡ Some (state_key t)
    by true b = there
    by false true = there
    by false false = get-left visited.keys (state_key m.stepped.after ∷ []) k (slice_get_within visited.keys k (state_key t) there) ∙ there
