-- unveil(2) of a path with permissions.
use Rattle.std.proofs.Common.{◌≡◌, ◌∙◌, ℕ, true, false, Some, is_some, option_map, refl, sym, ap, subst}
use Rattle.std.proofs.lemmas.Bool.{and_parts}
use Rattle.pv_calls_plain.specs.OfCallsState.Changes.{unveiled_of, with_table}
use Rattle.pv_calls_plain.proofs.OfCallsState.AttemptSequences.{after_none}
use Rattle.pv_calls_path.specs.Reached.{IsLost}
use Rattle.pv_calls_plain.specs.declared.answer.Refused.{Refused}
use Rattle.pv_calls_path.proofs.CheckedWalks.{recorded}
use Rattle.pv_laws_states.specs.States.{IsFinePlace, is_target}
use Rattle.pv_laws_states.proofs.ChangedStates.{target-fine}
use Rattle.pv_model.specs.declared.errno.Errno.{Errno}
use Rattle.pv_model.specs.declared.follow.Follow.TheVariants.{Last}
use Rattle.pv_model.specs.declared.outcome.Cause.{Cause}
use Rattle.pv_model.specs.declared.perms.Perms.{Perms}
use Rattle.pv_model.specs.declared.place.Place.{Place}
use Rattle.pv_model.specs.declared.target.Target.{Target}
use Rattle.pv_model.specs.declared.target.Target.TheVariants.{Directory, Name}
use Rattle.pv_model.specs.Machine.{Attempt, done, refused, give, Bytes, entries_of_table, unveil, Effect, returns, walk_from, read_permissions, Process, State, process_at, with_process, Tree, node_at, is_directory_at, Table, target_of, target_directory}
use Rattle.pv_calls_plain.specs.OfProcs.declared.record.ProcessRecord.{ProcessRecord}
use Rattle.pv_calls_plain.specs.OfProcs.Parts.{record_of}
use Rattle.pv_calls_plain.specs.OfUnveil.Added.{add_to, put_in}
use Rattle.pv_laws_trees.proofs.TreeChanges.{directory_is_some}

target_there : (t : Tree) (target : Target) → is_target t target ≡ true → is_some (node_at t (target_directory target)) ≡ true
target_there t (Directory d) is = directory_is_some (node_at t d) is
target_there t (Name d name) is = directory_is_some (node_at t d) (and_parts (is_directory_at t d) _ is).0

-- the target of an entry exists
pub place_target : (t : Tree) (place : Place) → IsFinePlace t place → is_some (node_at t (target_directory (target_of t place))) ≡ true
place_target t place fine = target_there t (target_of t place) (target-fine t place fine)

module _ (s : State) (pid : ℕ) (me : Process) (at : process_at s pid ≡ Some me) (r : ProcessRecord) (is : option_map record_of (process_at s pid) ≡ Some r) where
  -- a walk from the working directory
  pub walked_by : (path : Bytes) (place : Place) → walk_from s r.directory Last path ≡ done 1 place → walk_from s me.directory Last path ≡ done 1 place
  walked_by path place walked = ap (λ (x : ProcessRecord). walk_from s x.directory Last path) (recorded (process_at s pid) me r at is) ∙ walked

  pub lost_by : (path : Bytes) (why : Refused) → IsLost s r.directory Last path why → IsLost s me.directory Last path why
  lost_by path why lost = subst (λ (x : ProcessRecord). IsLost s x.directory Last path why) (sym (recorded (process_at s pid) me r at is)) lost

  pub is_unlocked : r.unveiled.locked ≡ false → me.locked ≡ false
  is_unlocked free = ap (λ (x : ProcessRecord). x.unveiled.locked) (recorded (process_at s pid) me r at is) ∙ free

-- a walk that is refused
pub unveil_lost : (s : State) (pid : ℕ) (me : Process) (path text : Bytes) (permissions : Perms) → read_permissions text ≡ Some permissions → me.locked ≡ false
    → (why : Refused) → IsLost s me.directory Last path why → unveil s pid me (Some path) (Some text) ≡ refused why.walks why.errno why.cause
unveil_lost s pid me path text permissions read unlocked why lost = rw (read, unlocked) (after_none _ ∙ after_none _ ∙ lost _)

module _ (s : State) (pid : ℕ) (me : Process) (path text : Bytes) (permissions : Perms) (read : read_permissions text ≡ Some permissions) (unlocked : me.locked ≡ false)
    (place : Place) (walked : walk_from s me.directory Last path ≡ done 1 place) where
  -- if the table is not locked, the target and the permissions decide whether an entry is added
  added_to : (a : Attempt Table) → add_to (unveiled_of me) (target_of s.tree place) permissions ≡ a → put_in (entries_of_table me.table) (target_of s.tree place) permissions ≡ a
  added_to a is = sym (after_none (put_in (entries_of_table me.table) (target_of s.tree place) permissions)) ∙ rw unlocked at is

  pub unveil_refused : (e : Errno) (cause : Cause) → add_to (unveiled_of me) (target_of s.tree place) permissions ≡ refused 0 e cause
      → unveil s pid me (Some path) (Some text) ≡ refused 1 e cause
  unveil_refused e cause is = rw (read, unlocked, walked, added_to (refused 0 e cause) is) refl

  pub unveil_added : (table : Table) → add_to (unveiled_of me) (target_of s.tree place) permissions ≡ give table
      → unveil s pid me (Some path) (Some text) ≡ done 1 (with_process s pid (with_table table me), returns 0)
  unveil_added table is = rw (read, unlocked, walked, added_to (give table) is) refl

-- the same result with an equal state
pub leaves : (a : Attempt Effect) (x y : State) → a ≡ done 1 (x, returns 0) → x ≡ y → a ≡ done 1 (y, returns 0)
leaves a x y is same = subst (λ (z : State). a ≡ done 1 (z, returns 0)) same is
