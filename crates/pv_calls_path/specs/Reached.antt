-- The place to which a walk leads after its unveil check, or its refusal.
use Rattle.std.specs.Prelude.{◌≡◌, ℕ, ◌≤◌, Some, IsSome, is_some}
use Rattle.pv_laws_states.specs.States.{IsFinePlace}
use Rattle.pv_model.specs.declared.errno.Errno.TheVariants.{EEXIST, ENOENT}
use Rattle.pv_model.specs.declared.follow.Follow.{Follow}
use Rattle.pv_model.specs.declared.outcome.Cause.TheVariants.{Plain}
use Rattle.pv_model.specs.declared.place.Place.{Place}
use Rattle.pv_model.specs.Machine.{Attempt, done, refused, after_walks, demand, give, refuse_if, ◌>>=◌, ◌>>◌, Bytes, Effect, walk_from, judge_for, name_of, node_of, Process, State, process_at, node_at, Walk}
use Rattle.pv_calls_plain.specs.declared.answer.Refused.{Refused}

-- a walk that the table allows leads from a directory to a place
pub record IsPlaceReached (s : State) (me : Process) (start : ℕ) (w : Walk) (place : Place) : Type 0 where
  pub walked : walk_from s start w.follow w.path ≡ done 1 place
  pub judged : judge_for s me place w.needed ≡ give tt
  pub fine : IsFinePlace s.tree place

-- a walk is refused, and every computation that starts with it is refused
abbrev pub IsLost : State → ℕ → Follow → Bytes → Refused → Type 0
IsLost s start follow path r = (next : Place → Attempt Effect) → (walk_from s start follow path >>= next) ≡ refused r.walks r.errno r.cause

-- a path leads from a directory to a valid place, before the unveil check
pub record LeadsToFinePlace (s : State) (start : ℕ) (follow : Follow) (path : Bytes) (place : Place) : Type 0 where
  pub walked : walk_from s start follow path ≡ done 1 place
  pub fine : IsFinePlace s.tree place

-- a path leads nowhere from a directory: at most one walk is begun
pub record LeadsNowhere (s : State) (start : ℕ) (follow : Follow) (path : Bytes) (r : Refused) : Type 0 where
  pub lost : IsLost s start follow path r
  pub few : r.walks ≤ 1

-- a walk or its unveil check is refused, and every computation that starts with both is refused
abbrev pub IsStopped : State → Process → ℕ → Walk → Refused → Type 0
IsStopped s me start w r =
    (rest : Place → Attempt Effect)
    → (walk_from s start w.follow w.path >>= (λ place. judge_for s me place w.needed >> rest place)) ≡ refused r.walks r.errno r.cause

-- the same for the second walk of a call: the first walk is counted too
abbrev pub IsStoppedSecond : State → Process → ℕ → Walk → Refused → Type 0
IsStoppedSecond s me start w r =
    (rest : Place → Attempt Effect)
    → after_walks 1 (walk_from s start w.follow w.path >>= (λ place. judge_for s me place w.needed >> rest place)) ≡ refused r.walks r.errno r.cause

-- a walk that the table allows leads to a node, with which the computation continues
abbrev pub IsFound : State → Process → ℕ → Walk → ℕ → Type 0
IsFound s me start w n =
    (rest : ℕ → Attempt Effect)
    → (walk_from s start w.follow w.path >>= (λ place. judge_for s me place w.needed >> (demand ENOENT (node_of place) >>= rest))) ≡ after_walks 1 (rest n)

-- a walk, its unveil check, or the absence of a node at its end refuses every computation that starts with them
abbrev pub IsMissed : State → Process → ℕ → Walk → Refused → Type 0
IsMissed s me start w r =
    (rest : Place → ℕ → Attempt Effect)
    → (walk_from s start w.follow w.path >>= (λ place. judge_for s me place w.needed >> (demand ENOENT (node_of place) >>= rest place))) ≡ refused r.walks r.errno r.cause

-- one of two walks from the working directory, an unveil check, or the absence of a node at the end of the first walk
-- refuses every computation that starts with them
abbrev pub IsMissedByBoth : State → Process → Walk → Walk → Refused → Type 0
IsMissedByBoth s me first second r =
    (rest : Place → Place → ℕ → Attempt Effect)
    → (walk_from s me.directory first.follow first.path >>= (λ place. judge_for s me place first.needed >>
    (walk_from s me.directory second.follow second.path >>= (λ other. judge_for s me other second.needed >> (demand ENOENT (node_of place) >>= rest place other)))))
    ≡ refused r.walks r.errno r.cause

-- a node exists at a place, or the place has no name, so every computation that needs a new name there is refused
abbrev pub IsNameTaken : Place → Type 0
IsNameTaken place = (rest : ℕ × Bytes → Attempt Effect) → (refuse_if EEXIST (is_some (node_of place)) >> (demand EEXIST (name_of place) >>= rest)) ≡ refused 0 EEXIST Plain

-- ---- walks of a live process, given by its number

module _ (s : State) (pid : ℕ) where
  -- a walk from the directory `start` leads to a valid place that the table of the process allows
  pub record ReachesFrom (start : Process → ℕ) (w : Walk) (place : Place) : Type 0 where
    pub reached : (me : Process) → process_at s pid ≡ Some me → IsPlaceReached s me (start me) w place
    pub fine : IsFinePlace s.tree place

  -- a walk from the directory `start` or its unveil check is refused, and at most one walk was begun
  pub record StopsFrom (start : Process → ℕ) (w : Walk) (r : Refused) : Type 0 where
    pub stopped : (me : Process) → process_at s pid ≡ Some me → IsStopped s me (start me) w r
    pub few : r.walks ≤ 1

  -- the same from the working directory
  abbrev pub Reaches : Walk → Place → Type 0
  Reaches w place = ReachesFrom (λ me. me.directory) w place

  abbrev pub Stops : Walk → Refused → Type 0
  Stops w r = StopsFrom (λ me. me.directory) w r

  -- the second walk of a call, from the working directory, or its unveil check is refused
  abbrev pub StopsSecond : Walk → Refused → Type 0
  StopsSecond w r = (me : Process) → process_at s pid ≡ Some me → IsStoppedSecond s me me.directory w r

  -- a walk from the working directory leads to a valid place that the table allows, and node n exists there
  pub record ReachesNode (w : Walk) (place : Place) (n : ℕ) : Type 0 where
    pub reached : (me : Process) → process_at s pid ≡ Some me → IsPlaceReached s me me.directory w place
    pub fine : IsFinePlace s.tree place
    pub there : node_of place ≡ Some n

  -- a walk from the working directory that the table allows leads to node n
  pub record Finds (w : Walk) (n : ℕ) : Type 0 where
    pub found : (me : Process) → process_at s pid ≡ Some me → IsFound s me me.directory w n
    pub there : IsSome (node_at s.tree n)

  -- a walk from the working directory or its unveil check is refused, or no node exists at its end
  abbrev pub Misses : Walk → Refused → Type 0
  Misses w r = (me : Process) → process_at s pid ≡ Some me → IsMissed s me me.directory w r

  -- one of two walks from the working directory or its unveil check is refused, or no node exists at the end of the
  -- first
  abbrev pub MissesOne : Walk → Walk → Refused → Type 0
  MissesOne first second r = (me : Process) → process_at s pid ≡ Some me → IsMissedByBoth s me first second r
