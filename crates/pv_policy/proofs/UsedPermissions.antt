-- The permissions that a walk uses, and the place at which it ends.
use Rattle.std.proofs.Common.{◌≡◌, ◌∙◌, ℕ, ◌<◌, Bool, true, false, true≢false, cond, IsSome, List, [], ◌∷◌, length, Option, None, Some, Result, Ok, Err, option_map, slice_get, refl, sym, ap, arith}
use Rattle.pv_needs.specs.OfCallsPath.Ends.{end_begun, if_given}
use Rattle.pv_laws_states.specs.States.{IsValid}
use Rattle.pv_laws_states.proofs.AttemptValues.{Leads}
use Rattle.pv_laws_states.proofs.WalkStarts.{StartsWell, leads-start}
use Rattle.pv_model.specs.declared.errno.Errno.{Errno}
use Rattle.pv_model.specs.declared.judgement.Judgement.TheVariants.{Allowed, Denied}
use Rattle.pv_model.specs.declared.perms.Perms.{Perms}
use Rattle.pv_model.specs.declared.place.Place.{Place}
use Rattle.pv_model.specs.declared.place.Place.TheVariants.{At, Node as Unnamed}
use Rattle.pv_model.specs.declared.target.Target.{Target}
use Rattle.pv_model.specs.declared.target.Target.TheVariants.{Directory, Name}
use Rattle.pv_model.specs.Machine.{Judged, Granted, is_allowed, Attempt, done, refused, check_start, entries_of_table, end_of, start_directory, covers, Process, State, process_at, place_found, Tree, is_directory_at, Table, governing_entry, judge_entry, judgement, permissions_at, target_of, resolve, Walk}
use Rattle.pv_model.specs.Answers.Needs.{judged_at}
use Rattle.pv_model.specs.Answers.Policy.{place_of_target}
use Rattle.pv_model.specs.Unveil.{permissions_of}
use Rattle.pv_needs.specs.Asking.{judged_begun}
use Rattle.pv_policy.specs.Asked.{grant_at_entry, grant_at_governor, entry_granted, used_by_walk}
use Rattle.pv_unveil.proofs.ClimbSteps.{resolve-directory}
use Rattle.pv_unveil.specs.Up.{directory_of_place}

-- ---- the permissions used

module _ (t : Tree) (w : Judged) where
  abbrev governor : Table → Option ℕ
  governor table = governing_entry t table (place_of_target w.target)

  judged-entry : (table : Table) (o : Option ℕ) → governor table ≡ o
      → used_by_walk t (Some table) w ≡ cond (is_allowed (judge_entry table w.permissions o)) (grant_at_governor t (Some table) w.permissions o) []
  unfolding judgement
  judged-entry table o is = ap (λ g. cond (is_allowed (judge_entry table w.permissions g)) (grant_at_governor t (Some table) w.permissions g) []) is

  pub used-none : (table : Option Table) → governor (entries_of_table table) ≡ None → [] ≡ used_by_walk t table w
  unfolding judgement
  used-none None is = sym (ap (λ o. grant_at_governor t None w.permissions o) is)
  used-none (Some table) is = sym (judged-entry table None is)

  pub used-denied : (table : Option Table) (k : ℕ) → governor (entries_of_table table) ≡ Some k → k < length (entries_of_table table)
      → covers (permissions_at (entries_of_table table) k) w.permissions ≡ false → [] ≡ used_by_walk t table w
  used-denied None k is within lacks = absurd (omega arith)
  used-denied (Some table) k is within lacks =
      sym (judged-entry table (Some k) is
      ∙ ap (λ b. cond (is_allowed (cond b Allowed (Denied k))) (grant_at_governor t (Some table) w.permissions (Some k)) []) lacks)

  entry-is : (table : Option Table) (o : Option (Target × Perms)) (g : Granted) → option_map (λ e. entry_granted t e.0 w.permissions) o ≡ Some g → grant_at_entry t table w.permissions o ≡ g ∷ []
  entry-is table None g is = absurd (cc)
  entry-is table (Some e) g is = let same : entry_granted t e.0 w.permissions ≡ g = cc in ap (λ (x : Granted). x ∷ []) same

  pub used-some : (table : Option Table) (k : ℕ) (g : Granted) → governor (entries_of_table table) ≡ Some k → k < length (entries_of_table table)
      → covers (permissions_at (entries_of_table table) k) w.permissions ≡ true
      → option_map (λ e. entry_granted t e.0 w.permissions) (slice_get (entries_of_table table) k) ≡ Some g → g ∷ [] ≡ used_by_walk t table w
  used-some None k g is within covered at = absurd (omega arith)
  used-some (Some table) k g is within covered at =
      sym (judged-entry table (Some k) is
      ∙ ap (λ b. cond (is_allowed (cond b Allowed (Denied k))) (grant_at_governor t (Some table) w.permissions (Some k)) []) covered
      ∙ entry-is (Some table) (slice_get table k) g at)

-- an entry with its own permissions
pub entry-own : (t : Tree) (o : Option (Target × Perms)) (p : Perms) (g : Granted) → p ≡ permissions_of o → option_map (λ e. entry_granted t e.0 p) o ≡ Some g → option_map (λ e. entry_granted t e.0 e.1) o ≡ Some g
entry-own t None p g same is = absurd (cc)
entry-own t (Some e) p g same is = ap (λ q. Some (entry_granted t e.0 q)) (sym same) ∙ is

-- ---- places

-- the target of a walk that there is
abbrev target_in : Option Judged → Target
target_in None = Directory 0
target_in (Some j) = j.target

-- a process that is live
pub of-live : {P : Type 0} (o : Option Process) → IsSome o → ((me : Process) → o ≡ Some me → P) → P
of-live None live p = absurd (true≢false (sym live))
of-live (Some me) live p = p me refl

-- a place of the target of a place is in a directory, too
target-directory : (t : Tree) (place : Place) → is_directory_at t (directory_of_place place) ≡ true → is_directory_at t (directory_of_place (place_of_target (target_of t place))) ≡ true
target-directory t (Unnamed n) is = is
target-directory t (At d name None) is = is
target-directory t (At d name (Some n)) is = by (is_directory_at t n) refl
  where
    by : (b : Bool) → is_directory_at t n ≡ b → is_directory_at t (directory_of_place (place_of_target (cond b (Directory n) (Name d name)))) ≡ true
    by true there = there
    by false there = is

module _ (s : State) (pid : ℕ) (me : Process) (whole : IsValid s) (lives : process_at s pid ≡ Some me) where
  found-directory : (w : Walk) (start : ℕ) → is_directory_at s.tree start ≡ true → (place : Place) → place_found (resolve s.tree w.follow start w.path) ≡ Some place
      → is_directory_at s.tree (directory_of_place place) ≡ true
  found-directory w start appears place found = by (resolve s.tree w.follow start w.path) refl found
    where
      by : (r : Result Place Errno) → resolve s.tree w.follow start w.path ≡ r → place_found r ≡ Some place → is_directory_at s.tree (directory_of_place place) ≡ true
      by (Err e) is none = cc none
      by (Ok there) is some =
          let same : there ≡ place = cc some in
          resolve-directory s.tree whole.tree.well_formed w.follow start w.path place appears (is ∙ ap Ok same)

  end-directory : (w : Walk) (place : Place) → end_begun s pid me w ≡ Some place → is_directory_at s.tree (directory_of_place place) ≡ true
  end-directory w place = by (check_start s pid me w.start w.path) (leads-start s pid me w.start w.path)
    where
      by : (a : Attempt (Unit {0})) → Leads (λ _. StartsWell s pid me (start_directory s me w.start w.path)) a → if_given a (place_found (end_of s me w)) ≡ Some place → is_directory_at s.tree (directory_of_place place) ≡ true
      by (done walks given) well found = found-directory w (start_directory s me w.start w.path) (well (whole.processes.placed pid me lives).directory) place found
      by (refused walks e cause) well none = cc none

  -- the target of a walk is in a directory
  pub walk-directory : (w : Walk) (j : Judged) → judged_begun s pid me w ≡ Some j → is_directory_at s.tree (directory_of_place (place_of_target j.target)) ≡ true
  walk-directory w j is = by (end_begun s pid me w) refl is
    where
      by : (o : Option Place) → end_begun s pid me w ≡ o → judged_at s w.needed o ≡ Some j → is_directory_at s.tree (directory_of_place (place_of_target j.target)) ≡ true
      by None at none = cc none
      by (Some place) at some =
          let same : target_of s.tree place ≡ j.target = ap (λ (o : Option Judged). target_in o) some in
          ap (λ target. is_directory_at s.tree (directory_of_place (place_of_target target))) (sym same) ∙ target-directory s.tree place (end-directory w place at)
