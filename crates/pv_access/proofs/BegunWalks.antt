-- A call that succeeds, or an execve(2), has begun its walks, so they end at the places of the definitions.
use Rattle.std.proofs.Common.{◌≡◌, ◌∙◌, sym, ap, ap₂, subst, ℕ, Bool, true, false, if◌then◌else◌, List, [], ◌++◌, map, Option, Some, refl}
use Rattle.std.specs.Prelude.{filter, filter_map, is_none}
use Rattle.std.specs.List.{cons_option}
use Rattle.pv_model.specs.declared.call.Call.{Call}
use Rattle.pv_model.specs.declared.call.Call.TheVariants.{Execve, Open, OpenAt, Chdir, Stat, Lstat, Readlink, Mkdir, Symlink, Link, Unlink, Rmdir, Rename}
use Rattle.pv_model.specs.declared.call.Start.{Start}
use Rattle.pv_model.specs.declared.errno.Errno.TheVariants.{EINVAL}
use Rattle.pv_model.specs.declared.open_flags.OpenFlags.{OpenFlags}
use Rattle.pv_model.specs.declared.outcome.Outcome.{Outcome}
use Rattle.pv_model.specs.declared.outcome.Outcome.TheVariants.{Value, Text}
use Rattle.pv_model.specs.declared.place.Place.{Place}
use Rattle.pv_model.specs.Machine.{answer, answer_by_attempt, at_next_line, effect, Access, node_of_descriptor, changes_name, Attempt, done, refused, after_walks, refuse_if, ◌>>◌, Bytes, check_start, contradicts, open_at, Effect, end_of, name_of, node_of, Process, Program, State, process_at, with_process, has_succeeded, place_found, places, open_walk}
use Rattle.pv_model.specs.Answers.Access.{writes}
use Rattle.pv_laws_states.proofs.CallOutcomes.{by_answer}
use Rattle.pv_access.specs.declared.condition.Condition.{Condition}
use Rattle.pv_access.specs.declared.condition.Condition.TheVariants.{AnyValue, Success}
use Rattle.pv_access.specs.Candidates.{accesses_with, candidates, candidates_at, candidates_by, is_satisfied, open_candidates, name_candidates, node_candidates, places_begun}
use Rattle.pv_reduced.specs.OfCallsPath.Ends.{if_given}
use Rattle.pv_access.proofs.AccessCandidates.{with-append, with-by}

abbrev is_done : {A : Type 0} → Attempt A → Bool
is_done (done walks value) = true
is_done (refused walks errno cause) = false

done-later : {A : Type 0} (n : ℕ) (a : Attempt A) → is_done (after_walks n a) ≡ true → is_done a ≡ true
done-later n (done walks value) is = refl
done-later n (refused walks errno cause) is = cc

done-first : {A B : Type 0} (a : Attempt A) (b : Attempt B) → is_done (a >> b) ≡ true → is_done a ≡ true
done-first (done walks value) b is = refl
done-first (refused walks errno cause) b is = cc

done-then : {A B : Type 0} (a : Attempt A) (b : Attempt B) → is_done (a >> b) ≡ true → is_done b ≡ true
done-then (done walks value) b is = done-later walks b is
done-then (refused walks errno cause) b is = cc

done-attempt : (before after : State) (pid : ℕ) (p : Process) (a : Attempt Effect) → has_succeeded (answer_by_attempt before after pid p a).outcome ≡ true → is_done a ≡ true
done-attempt before after pid p (done walks (next, reply)) is = refl
done-attempt before after pid p (refused walks errno cause) is = cc

module _ (program_of : Bytes → Option Program) (s : State) (pid : ℕ) (me : Process) (at : process_at s pid ≡ Some me) where
  abbrev now : Process
  now = at_next_line me

  abbrev after : State
  after = with_process s pid now

  effect-done : (call : Call) → has_succeeded (answer program_of s pid call).outcome ≡ true → is_done (effect program_of after pid now call) ≡ true
  effect-done call =
      by_answer (λ a. has_succeeded a.outcome ≡ true → is_done (effect program_of after pid now call) ≡ true) program_of s pid call
      (λ none. cc)
      (λ p found missing is.
      let same : p ≡ me = cc in
      subst (λ (y : Process). is_done (effect program_of (with_process s pid (at_next_line y)) pid (at_next_line y) call) ≡ true) same
      (done-attempt s (with_process s pid (at_next_line p)) pid (at_next_line p) (effect program_of (with_process s pid (at_next_line p)) pid (at_next_line p) call) is))
      (λ p lacks found missing lenient is. cc)
      (λ p lacks found missing lenient is. cc)

  openat-done : (start : Start) (path : Bytes) (f : OpenFlags) → has_succeeded (answer program_of s pid (OpenAt start path f)).outcome ≡ true → is_done (open_at after pid now start path f) ≡ true
  unfolding effect
  openat-done start path f is = effect-done (OpenAt start path f) is

  -- an openat that succeeds has a directory to start from
  start-done : (start : Start) (path : Bytes) (f : OpenFlags) → has_succeeded (answer program_of s pid (OpenAt start path f)).outcome ≡ true → is_done (check_start s pid me start path) ≡ true
  start-done start path f is =
      done-first (check_start after pid now start path) _ (done-then (refuse_if EINVAL (contradicts f)) _ (openat-done start path f is))

  given-done : (a : Attempt (Unit {0})) (place : Option Place) → is_done a ≡ true → if_given a place ≡ place
  given-done (done walks value) place is = refl
  given-done (refused walks errno cause) place is = cc

  no-value : (o : Outcome) → has_succeeded o ≡ false → is_satisfied AnyValue o ≡ false
  no-value (Value n) is = cc
  no-value (Text taken) is = refl
  no-value _ is = refl

  none-by : {X : Type 0} (o : Outcome) (c : Condition) (access : X → Access) (xs : List X) → is_satisfied c o ≡ false → accesses_with o (candidates_by c access xs) ≡ []
  none-by o c access xs is = with-by o c access xs ∙ ap (λ b. if b then map access xs else []) is

  none-open : (o : Outcome) (found : List Place) (flags : OpenFlags) → has_succeeded o ≡ false → accesses_with o (open_candidates found flags) ≡ []
  none-open o found flags is =
      with-append o (if flags.truncate then node_candidates found AnyValue writes else []) (name_candidates found true)
      ∙ ap₂ (λ (xs ys : List Access). xs ++ ys)
      (elim flags.truncate as (λ b. accesses_with o (if b then node_candidates found AnyValue writes else []) ≡ []) [
        | true ↦ none-by o AnyValue writes (filter_map node_of found) (no-value o is)
        | false ↦ refl
      ])
      (none-by o Success (λ name. changes_name name.0 name.1) (filter_map name_of (filter (λ place. is_none (node_of place)) found)) is)

  -- the candidates that an outcome allows are the same for the walks of the definitions
  pub begun-candidates : (call : Call) → accesses_with (answer program_of s pid call).outcome (candidates s pid me call)
      ≡ accesses_with (answer program_of s pid call).outcome (candidates_at (node_of_descriptor s me call) (places s me call) call)
  begun-candidates (OpenAt start path flags) = by (has_succeeded (answer program_of s pid (OpenAt start path flags)).outcome) refl
    where
      by : (b : Bool) → has_succeeded (answer program_of s pid (OpenAt start path flags)).outcome ≡ b
          → accesses_with (answer program_of s pid (OpenAt start path flags)).outcome (candidates s pid me (OpenAt start path flags))
          ≡ accesses_with (answer program_of s pid (OpenAt start path flags)).outcome (candidates_at (node_of_descriptor s me (OpenAt start path flags)) (places s me (OpenAt start path flags)) (OpenAt start path flags))
      by true is =
          ap (λ (e : Option Place). accesses_with (answer program_of s pid (OpenAt start path flags)).outcome (open_candidates (cons_option e []) flags))
          (given-done (check_start s pid me start path) (place_found (end_of s me (open_walk start path flags))) (start-done start path flags is))
      by false is =
          none-open (answer program_of s pid (OpenAt start path flags)).outcome (places_begun s pid me (OpenAt start path flags)) flags is
          ∙ sym (none-open (answer program_of s pid (OpenAt start path flags)).outcome (places s me (OpenAt start path flags)) flags is)
  begun-candidates (Execve path) = refl
  begun-candidates (Open path flags) = refl
  begun-candidates (Chdir path) = refl
  begun-candidates (Stat path) = refl
  begun-candidates (Lstat path) = refl
  begun-candidates (Readlink path) = refl
  begun-candidates (Mkdir path) = refl
  begun-candidates (Symlink text path) = refl
  begun-candidates (Link path new) = refl
  begun-candidates (Unlink path) = refl
  begun-candidates (Rmdir path) = refl
  begun-candidates (Rename path new) = refl
  begun-candidates _ = refl
