-- A walk with its unveil check, as the code makes it.
use Rattle.std.proofs.Common.{◌≡◌, ◌∙◌, ℕ, ◌≤◌, true, if◌then◌else◌, Option, Some, Ok, Err, option_map, refl, sym, ap, subst, arith}
use Rattle.pv_calls_path.specs.Reached.{IsFound, IsMissed, IsMissedByBoth, IsPlaceReached, IsStopped}
use Rattle.pv_calls_plain.specs.declared.answer.Refused.{Refused}
use Rattle.pv_laws_states.specs.States.{IsValid, is_text, IsFinePlace}
use Rattle.pv_laws_states.proofs.CallWalks.{begins-found}
use Rattle.pv_laws_states.proofs.ChangedStates.{resolve-fine}
use Rattle.pv_model.specs.declared.errno.Errno.{Errno}
use Rattle.pv_model.specs.declared.errno.Errno.TheVariants.{ENOENT}
use Rattle.pv_model.specs.declared.follow.Follow.{Follow}
use Rattle.pv_model.specs.declared.judgement.Judgement.{Judgement}
use Rattle.pv_model.specs.declared.outcome.Cause.{Cause}
use Rattle.pv_model.specs.declared.outcome.Cause.TheVariants.{Plain}
use Rattle.pv_model.specs.declared.perms.Perms.{Perms}
use Rattle.pv_model.specs.declared.place.Place.{Place}
use Rattle.pv_model.specs.declared.place.Place.TheVariants.{At, Node as Unnamed}
use Rattle.pv_model.specs.Machine.{Attempt, done, refused, after_walks, demand, ◌>>=◌, ◌>>◌, Bytes, Effect, walk_from, judge_for, judgement_or_refusal, node_of, Process, State, process_at, Tree, is_directory_at, judgement, resolve, begins_walk, Walk}
use Rattle.pv_calls_plain.specs.OfProcs.declared.record.ProcessRecord.{ProcessRecord}
use Rattle.pv_calls_plain.specs.OfProcs.Parts.{record_of}
use Rattle.pv_calls_plain.proofs.OfCallsState.AttemptSequences.{after_none, given}
use Rattle.pv_calls_plain.specs.OfUnveil.Up.{directory_of_place}

-- the record of a live process
pub recorded : (o : Option Process) (me : Process) (r : ProcessRecord) → o ≡ Some me → option_map record_of o ≡ Some r → record_of me ≡ r
recorded o me r at is = let e = rw at at is in cc

-- the decision of its table
pub judged_as : (s : State) (pid : ℕ) (me : Process) → process_at s pid ≡ Some me → (r : ProcessRecord) → option_map record_of (process_at s pid) ≡ Some r
    → (t : Tree) → t ≡ s.tree → (place : Place) (needed : Perms) (j : Judgement) → j ≡ judgement t r.unveiled.table place needed → judgement s.tree me.table place needed ≡ j
judged_as s pid me at r is t same place needed j said =
    ap (λ table. judgement s.tree table place needed) (ap (λ x. x.unveiled.table) (recorded (process_at s pid) me r at is))
    ∙ ap (λ u. judgement u r.unveiled.table place needed) (sym same) ∙ sym said

pub fine_directory : (t : Tree) (place : Place) → IsFinePlace t place → is_directory_at t (directory_of_place place) ≡ true
fine_directory t (Unnamed n) is = is
fine_directory t (At d name n) is = is.0

module _ (s : State) (start : ℕ) (follow : Follow) (path : Bytes) where
  pub walk_found : (place : Place) → resolve s.tree follow start path ≡ Ok place → walk_from s start follow path ≡ done 1 place
  walk_found place found = rw (begins-found s.tree follow start path place found, found) refl

  -- an error of the walk
  pub walk_refused : (walks : ℕ) (e : Errno) → walks ≡ (if begins_walk path then 1 else 0) → resolve s.tree follow start path ≡ Err e
      → (next : Place → Attempt Effect) → (walk_from s start follow path >>= next) ≡ refused walks e Plain
  walk_refused walks e begins found next = rw (found, sym begins) refl

  -- the place is valid
  pub found_fine : IsValid s → is_directory_at s.tree start ≡ true → is_text path ≡ true → (place : Place) → resolve s.tree follow start path ≡ Ok place → IsFinePlace s.tree place
  found_fine whole directory text place found = resolve-fine s.tree whole.tree follow start path place directory text found

-- a walk begins at most one
pub walks-few : (path : Bytes) (walks : ℕ) → walks ≡ (if begins_walk path then 1 else 0) → walks ≤ 1
walks-few path walks begins = grind arith

-- the table refuses the place
pub judged_stop : (s : State) (me : Process) (start : ℕ) (w : Walk) (place : Place) (j : Judgement) (e : Errno) (cause : Cause)
    → walk_from s start w.follow w.path ≡ done 1 place → judgement s.tree me.table place w.needed ≡ j
    → judgement_or_refusal j ≡ refused 0 e cause → IsStopped s me start w (record { walks = 1; errno = e; cause = cause })
judged_stop s me start w place j e cause walked judged refuses rest = rw (walked, judged, refuses) refl

-- after a successful walk the rest follows, one walk later
pub reached_then : (s : State) (me : Process) (start : ℕ) (w : Walk) (place : Place) → IsPlaceReached s me start w place → (rest : Place → Attempt Effect)
    → (walk_from s start w.follow w.path >>= (λ place. judge_for s me place w.needed >> rest place)) ≡ after_walks 1 (rest place)
reached_then s me start w place is rest = rw (is.walked, is.judged) (ap (after_walks 1) (after_none (rest place)))

after_twice : (a : Attempt Effect) → after_walks 1 (after_walks 1 a) ≡ after_walks 2 a
after_twice (done walks value) = ap (λ n. done n value) (omega arith)
after_twice (refused walks errno cause) = ap (λ n. refused n errno cause) (omega arith)

-- after two successful walks, the first to a node, the rest follows, two walks later
pub both_reached_then : (s : State) (me : Process) (first second : Walk) (place other : Place) → IsPlaceReached s me me.directory first place → IsPlaceReached s me me.directory second other
    → (n : ℕ) → node_of place ≡ Some n → (rest : Place → Place → ℕ → Attempt Effect)
    → (walk_from s me.directory first.follow first.path >>= (λ place. judge_for s me place first.needed >>
    (walk_from s me.directory second.follow second.path >>= (λ other. judge_for s me other second.needed >> (demand ENOENT (node_of place) >>= rest place other)))))
    ≡ after_walks 2 (rest place other n)
both_reached_then s me first second place other one two n there rest =
    reached_then s me me.directory first place one
    (λ p. walk_from s me.directory second.follow second.path >>= (λ o. judge_for s me o second.needed >> (demand ENOENT (node_of p) >>= rest p o)))
    ∙ ap (after_walks 1) (reached_then s me me.directory second other two (λ o. demand ENOENT (node_of place) >>= rest place o)
    ∙ ap (after_walks 1) (given (demand ENOENT (node_of place)) n (rest place other) (ap (λ o. demand ENOENT o) there)))
    ∙ after_twice (rest place other n)

-- ---- facts about a walk carry over to an equal one

pub reached-as : (s : State) (me : Process) (start : ℕ) {w v : Walk} → w ≡ v → (place : Place) → IsPlaceReached s me start w place → IsPlaceReached s me start v place
reached-as s me start same place is = subst (λ x. IsPlaceReached s me start x place) same is

pub stopped-as : (s : State) (me : Process) (start : ℕ) {w v : Walk} → w ≡ v → (r : Refused) → IsStopped s me start w r → IsStopped s me start v r
stopped-as s me start same r is = subst (λ x. IsStopped s me start x r) same is

pub found-as : (s : State) (me : Process) (start : ℕ) {w v : Walk} → w ≡ v → (n : ℕ) → IsFound s me start w n → IsFound s me start v n
found-as s me start same n is = subst (λ x. IsFound s me start x n) same is

pub missed-as : (s : State) (me : Process) (start : ℕ) {w v : Walk} → w ≡ v → (r : Refused) → IsMissed s me start w r → IsMissed s me start v r
missed-as s me start same r is = subst (λ x. IsMissed s me start x r) same is

pub both-missed-as : (s : State) (me : Process) {w v x y : Walk} → w ≡ x → v ≡ y → (r : Refused) → IsMissedByBoth s me w v r → IsMissedByBoth s me x y r
both-missed-as s me {w} {v} {x} {y} one two r is = subst (λ u. IsMissedByBoth s me x u r) two (subst (λ u. IsMissedByBoth s me u v r) one is)
