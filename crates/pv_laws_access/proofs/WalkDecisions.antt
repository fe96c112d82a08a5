-- The decision about the place where a call stopped determines how the call ends there.
use Rattle.std.proofs.Common.{◌≡◌, ◌↔◌, ℕ, zero, suc, ◌+◌, Bool, true, false, if◌then◌else◌, nat_le, List, [], ◌∷◌, ◌++◌, length, Option, None, Some, Ok, Err, refl, ap, sym, subst, ◌∙◌, ⊎_elim, arith}
use Rattle.pv_model.specs.declared.call.Call.{Call}
use Rattle.pv_model.specs.declared.call.Call.TheVariants as TheCall
use Rattle.pv_model.specs.declared.errno.Errno.{Errno}
use Rattle.pv_model.specs.declared.errno.Errno.TheVariants.{EPERM, ENOENT, EACCES, EINVAL, E2BIG}
use Rattle.pv_model.specs.declared.follow.Follow.TheVariants.{Last}
use Rattle.pv_model.specs.declared.judgement.Judgement.{Judgement}
use Rattle.pv_model.specs.declared.judgement.Judgement.TheVariants.{Allowed, Hidden, Denied}
use Rattle.pv_model.specs.declared.outcome.Cause.{Cause}
use Rattle.pv_model.specs.declared.outcome.Cause.TheVariants.{Plain, Promise as ByPromise, Unveil as ByUnveil, Locked}
use Rattle.pv_model.specs.declared.outcome.Outcome.TheVariants.{Failed}
use Rattle.pv_model.specs.declared.perms.Perms.{Perms}
use Rattle.pv_model.specs.declared.place.Place.{Place}
use Rattle.pv_model.specs.declared.place.Place.TheVariants.{At, Node as Unnamed}
use Rattle.pv_model.specs.declared.target.Target.TheVariants.{Directory, Name}
use Rattle.pv_model.specs.Machine.{Answered, answer, answer_by_attempt, at_next_line, effect, Attempt, done, refused, after_walks, ◌>>=◌, ◌>>◌, give, refuse, demand, Bytes, entries_of_table, refuse_if_locked, Effect, returns, returns_bytes, ends, waits, place_or_refusal, walk, judgement_or_refusal, judge, end_of, needs, covers, read_permissions, missing_promise, Program, Process, State, process_at, Tree, is_directory_at, Table, entry_for, permissions_at, with_permissions, target_of, own, judgement, Walked, begins_walk, Walk, unveil_walk, walks_of, walk_number, is_unveil}
use Rattle.pv_model.specs.Calls.Restraints.{add_table_entry}
use Rattle.pv_model.specs.Closed.{by_name}
use Rattle.pv_model.specs.Walks.{permissions_or_none}
use Rattle.pv_laws_states.specs.Courses.{is_of_table, walks_in_sequence, IsAfter, IsStoppedEarly, IsOnCourse, IsStoppedByTable, IsStoppedByLock}
use Rattle.pv_laws_states.proofs.CallWalks.{begins-found, along-free, stops, calls-along, refusals-named, locks-named, lock-refuses}
use Rattle.pv_laws_states.proofs.CallOutcomes.{at_call, by_answer}
use Rattle.pv_laws_states.proofs.CallRemainders
use Rattle.pv_laws_access.specs.Tables.{GovernsPlace, unnamed, without_node, directory as is_dir, named as has_name, Judges, no_table, none_governs as none_judges, lacks_permission as lacks_judges, has_permissions}
use Rattle.pv_laws_access.proofs.JudgementRelation.{judgement-as_said}
use Rattle.pv_laws_access.specs.TableRefusals.{StoppedAt, TableRefuses, refused_without_entry, refused_by_entry, would_widen, IsRefusedByTable, IsRefusedByLock}

-- ---- the end of a call

-- done, or refused by something other than the table
abbrev pub IsOpen : {A : Type 0} → Attempt A → Type 0
IsOpen (done walks value) = Unit {0}
IsOpen (refused walks errno cause) = is_of_table cause ≡ false

abbrev pub IsDecided : {A : Type 0} → Judgement → ℕ → Attempt A → Type 0
IsDecided Allowed m a = IsOpen a
IsDecided Hidden m a = a ≡ refused m ENOENT (ByUnveil None)
IsDecided (Denied k) m a = a ≡ refused m EACCES (ByUnveil (Some k))

abbrev pub walks_in : {A : Type 0} → Attempt A → ℕ
walks_in (done walks value) = walks
walks_in (refused walks errno cause) = walks

open-after : {A : Type 0} (n : ℕ) (a : Attempt A) → IsOpen a → IsOpen (after_walks n a)
open-after n (done walks value) is = tt
open-after n (refused walks errno cause) is = is

decided-after : {A : Type 0} (n : ℕ) (j : Judgement) (m : ℕ) (a : Attempt A) → IsDecided j m a → IsDecided j (n + m) (after_walks n a)
decided-after n Allowed m a is = open-after n a is
decided-after n Hidden m a is = ap (after_walks n) is
decided-after n (Denied k) m a is = ap (after_walks n) is

module _ (s : State) (me : Process) where
  -- before the first walk the table refuses nothing
  early : (ws : List Walk) (e : Errno) (c : Cause) → walks_in_sequence s me ws ≡ refused 0 e c → is_of_table c ≡ false
  early ws e Plain is = refl
  early ws e (ByPromise a) is = refl
  early ws e (ByUnveil entry) is = let at = stops s me ws 0 e entry is in cc (at.2)
  early ws e Locked is = absurd (along-free s me ws 0 e is)

  early-open : (ws : List Walk) (a : Attempt (Unit {0})) → walks_in_sequence s me ws ≡ a → walks_in a ≡ 0 → IsOpen a
  early-open ws (done walks value) is none = tt
  early-open ws (refused walks e c) is none = early ws e c (is ∙ ap (λ n. refused n e c) none)

  abbrev Settles : Judgement → ℕ → Attempt (Unit {0}) → Type 0
  Settles = IsDecided

  -- the last walk that was begun decides
  abbrev pub Decides : List Walk → Type 0
  Decides ws = (m : ℕ) (w : Walk) (place : Place) → walks_in (walks_in_sequence s me ws) ≡ m → walk_number ws m ≡ Some w → end_of s me w ≡ Ok place
      → IsDecided (judgement s.tree me.table place w.needed) m (walks_in_sequence s me ws)

  abbrev continues : Walk → List Walk → Walked → Attempt (Unit {0})
  continues v ws r = place_or_refusal (if begins_walk v.path then 1 else 0) r >>= (λ p. judge s me v p >> walks_in_sequence s me ws)

  course-step : (v : Walk) (ws : List Walk) → Decides ws → Decides (v ∷ ws)
  course-step v ws following m w place count last end = by (end_of s me v) refl
    where
      this : (p : Place) → end_of s me v ≡ Ok p → m ≡ 1 → judgement s.tree me.table p v.needed ≡ judgement s.tree me.table place w.needed
      this p found one =
          let same : v ≡ w = cc (ap (walk_number (v ∷ ws)) (sym one) ∙ last) in
          let both : Ok p ≡ Ok place = sym found ∙ ap (end_of s me) same ∙ end in
          let there : p ≡ place = cc both in
          λ i. judgement s.tree me.table (there i) (same i).needed

      judged : (p : Place) → end_of s me v ≡ Ok p → (j : Judgement) → judgement s.tree me.table p v.needed ≡ j
          → walks_in (after_walks 1 (judgement_or_refusal j >> walks_in_sequence s me ws)) ≡ m
          → Settles (judgement s.tree me.table place w.needed) m (after_walks 1 (judgement_or_refusal j >> walks_in_sequence s me ws))
      judged p found Hidden says counts =
          let one : m ≡ 1 = omega (arith, counts) in
          subst (λ n. Settles (judgement s.tree me.table place w.needed) n (refused 1 ENOENT (ByUnveil None))) (sym one)
          (subst (λ x. Settles x 1 (refused 1 ENOENT (ByUnveil None))) (sym says ∙ this p found one) refl)
      judged p found (Denied k) says counts =
          let one : m ≡ 1 = omega (arith, counts) in
          subst (λ n. Settles (judgement s.tree me.table place w.needed) n (refused 1 EACCES (ByUnveil (Some k)))) (sym one)
          (subst (λ x. Settles x 1 (refused 1 EACCES (ByUnveil (Some k)))) (sym says ∙ this p found one) refl)
      judged p found Allowed says counts = on (walks_in_sequence s me ws) refl counts
        where
          on : (a : Attempt (Unit {0})) → walks_in_sequence s me ws ≡ a → walks_in (after_walks 1 (after_walks 0 a)) ≡ m
              → Settles (judgement s.tree me.table place w.needed) m (after_walks 1 (after_walks 0 a))
          on a is numbers = further (walks_in a) refl
            where
              total : walks_in (after_walks 1 (after_walks 0 a)) ≡ suc (walks_in a)
              total = by_form a
                where
                  by_form : (b : Attempt (Unit {0})) → walks_in (after_walks 1 (after_walks 0 b)) ≡ suc (walks_in b)
                  by_form (done k value) = omega arith
                  by_form (refused k e c) = omega arith

              further : (n : ℕ) → walks_in a ≡ n → Settles (judgement s.tree me.table place w.needed) m (after_walks 1 (after_walks 0 a))
              further zero none =
                  let one : m ≡ 1 = sym numbers ∙ total ∙ ap suc none in
                  subst (λ x. Settles x m (after_walks 1 (after_walks 0 a))) (sym says ∙ this p found one)
                  (open-after 1 (after_walks 0 a) (open-after 0 a (early-open ws a is none)))
              further (suc n) some =
                  let more : m ≡ suc (suc n) = sym numbers ∙ total ∙ ap suc some in
                  let lasts : walk_number ws (suc n) ≡ Some w = ap (walk_number (v ∷ ws)) (sym more) ∙ last in
                  let decided = following (suc n) w place (ap walks_in is ∙ some) lasts end in
                  let moved = subst (Settles (judgement s.tree me.table place w.needed) (suc n)) is decided in
                  let twice = decided-after 1 (judgement s.tree me.table place w.needed) (0 + suc n) (after_walks 0 a) (decided-after 0 (judgement s.tree me.table place w.needed) (suc n) a moved) in
                  let number : 1 + (0 + suc n) ≡ m = omega (arith, more) in
                  subst (λ k. Settles (judgement s.tree me.table place w.needed) k (after_walks 1 (after_walks 0 a))) number twice

      by : (r : Walked) → end_of s me v ≡ r → Settles (judgement s.tree me.table place w.needed) m (walks_in_sequence s me (v ∷ ws))
      by r found = subst (λ x. Settles (judgement s.tree me.table place w.needed) m (continues v ws x)) (sym found) (of r found (ap (λ x. walks_in (continues v ws x)) (sym found) ∙ count))
        where
          of : (r : Walked) → end_of s me v ≡ r → walks_in (continues v ws r) ≡ m → Settles (judgement s.tree me.table place w.needed) m (continues v ws r)
          of (Err e) found counts = none (begins_walk v.path) counts
            where
              none : (b : Bool) → (if b then 1 else 0) ≡ m → Settles (judgement s.tree me.table place w.needed) m (refused (if begins_walk v.path then 1 else 0) e Plain)
              none true counts =
                  let same : v ≡ w = cc (ap (walk_number (v ∷ ws)) counts ∙ last) in
                  let both : Err e ≡ Ok place = sym found ∙ ap (end_of s me) same ∙ end in cc both
              none false counts = let bad : None ≡ Some w = ap (walk_number (v ∷ ws)) counts ∙ last in cc bad
          of (Ok p) found counts =
              let one : begins_walk v.path ≡ true = begins-found s.tree v.follow _ v.path p found in
              subst (λ b. Settles (judgement s.tree me.table place w.needed) m (after_walks (if b then 1 else 0) (judge s me v p >> walks_in_sequence s me ws))) (sym one)
              (judged p found (judgement s.tree me.table p v.needed) refl (ap (λ b. walks_in (after_walks (if b then 1 else 0) (judge s me v p >> walks_in_sequence s me ws))) (sym one) ∙ counts))

  pub course-decided : (ws : List Walk) → Decides ws
  course-decided [] zero w place count last end = cc last
  course-decided [] (suc m) w place count last end = cc
  course-decided (v ∷ ws) m w place count last end = course-step v ws (course-decided ws) m w place count last end

-- ---- each call other than unveil

stopped-early : (a : Attempt Effect) → IsStoppedEarly a → walks_in a ≡ 0
stopped-early (done walks value) is = absurd is
stopped-early (refused walks errno cause) is = is.0

along-walks : (c : Attempt (Unit {0})) (a : Attempt Effect) → IsOnCourse c a → walks_in c ≡ walks_in a
along-walks (done k v) (done walks value) is = sym is
along-walks (done k v) (refused walks errno cause) is = sym is.0
along-walks (refused k e c) a is = ap walks_in (sym is)

following-open : (k : ℕ) (a : Attempt Effect) → IsAfter k a → IsOpen a
following-open k (done walks value) is = tt
following-open k (refused walks errno cause) is = is.1

along-decided : (j : Judgement) (m : ℕ) (c : Attempt (Unit {0})) (a : Attempt Effect) → IsOnCourse c a → IsDecided j m c → IsDecided j m a
along-decided Allowed m (done k v) a goes is = following-open k a goes
along-decided Hidden m (done k v) a goes is = cc is
along-decided (Denied n) m (done k v) a goes is = cc is
along-decided Allowed m (refused k e c) a goes is = subst (IsOpen {A = Effect}) (sym goes) is
along-decided Hidden m (refused k e c) a goes is =
    let count : k ≡ m = cc is in
    let errno : e ≡ ENOENT = cc is in
    let cause : c ≡ ByUnveil None = cc is in
    goes ∙ (λ i. refused (count i) (errno i) (cause i))
along-decided (Denied n) m (refused k e c) a goes is =
    let count : k ≡ m = cc is in
    let errno : e ≡ EACCES = cc is in
    let cause : c ≡ ByUnveil (Some n) = cc is in
    goes ∙ (λ i. refused (count i) (errno i) (cause i))

effect-decided : (program_of : Bytes → Option Program) (s : State) (pid : ℕ) (me : Process) (call : Call) → is_unveil call ≡ false → (w : Walk) (place : Place)
    → walk_number (walks_of call) (walks_in (effect program_of s pid me call)) ≡ Some w → end_of s me w ≡ Ok place
    → IsDecided {A = Effect} (judgement s.tree me.table place w.needed) (walks_in (effect program_of s pid me call)) (effect program_of s pid me call)
effect-decided program_of s pid me call plain w place last end =
    ⊎_elim
    (λ stopped. let none : None ≡ Some w = ap (walk_number (walks_of call)) (sym (stopped-early (effect program_of s pid me call) stopped)) ∙ last in cc none)
    (λ goes.
    let count = along-walks (walks_in_sequence s me (walks_of call)) (effect program_of s pid me call) goes in
    along-decided (judgement s.tree me.table place w.needed) (walks_in (effect program_of s pid me call)) (walks_in_sequence s me (walks_of call)) (effect program_of s pid me call) goes
    (course-decided s me (walks_of call) (walks_in (effect program_of s pid me call)) w place count last end))
    (calls-along program_of s pid me call plain)

-- ---- an unveil

-- an entry for exactly this place decides
abbrev pub IsWidened : Table → Perms → Option ℕ → Attempt Effect → Type 0
IsWidened table needed None a = IsOpen a
IsWidened table needed (Some k) a = (covers (permissions_at table k) needed ≡ true → IsOpen a) × (covers (permissions_at table k) needed ≡ false → a ≡ refused 1 EPERM (ByUnveil (Some k)))

module _ (s : State) (pid : ℕ) (me : Process) (path text : Bytes) where
  abbrev entries : Table
  entries = entries_of_table me.table

  abbrev only : Walk
  only = unveil_walk path (permissions_or_none (read_permissions text))

  only-walk : (m : ℕ) (w : Walk) → walk_number (only ∷ []) m ≡ Some w → (m ≡ 1) × (only ≡ w)
  only-walk zero w is = cc is
  only-walk (suc zero) w is = (refl, cc is)
  only-walk (suc (suc m)) w is = cc is

  module _ (w : Walk) (place : Place) (end : end_of s me w ≡ Ok place) where
    abbrev Last' : Attempt Effect → Type 0
    Last' a = walk_number (only ∷ []) (walks_in a) ≡ Some w

    abbrev Widened : Attempt Effect → Type 0
    Widened a = IsWidened entries w.needed (entry_for entries (target_of s.tree place)) a

    not-begun : (e : Errno) (c : Cause) → Last' (refused 0 e c) → Widened (refused 0 e c)
    not-begun e c last = cc last

    abbrev following : Attempt Effect → Attempt Effect
    following a = after_walks 0 (after_walks 0 (after_walks 1 a))

    added : (permissions : Perms) → only ≡ w → read_permissions text ≡ Some permissions → (o : Option ℕ)
        → IsWidened entries w.needed o (following (add_table_entry entries (target_of s.tree place) permissions o >>= CallRemainders.unveil_3 s pid me))
    added permissions same read None = by (nat_le 64 (length entries))
      where
        by : (b : Bool) → IsOpen {A = Effect} (following ((if b then refuse E2BIG else give (entries ++ (target_of s.tree place, permissions) ∷ [])) >>= CallRemainders.unveil_3 s pid me))
        by true = refl
        by false = tt
    added permissions same read (Some k) =
        let asked : permissions ≡ w.needed = ap permissions_or_none (sym read) ∙ ap (λ (v : Walk). v.needed) same in
        subst (λ needed. IsWidened entries needed (Some k) (following (add_table_entry entries (target_of s.tree place) permissions (Some k) >>= CallRemainders.unveil_3 s pid me))) asked
        (by (covers (permissions_at entries k) permissions) refl)
      where
        by : (b : Bool) → covers (permissions_at entries k) permissions ≡ b
            → (covers (permissions_at entries k) permissions ≡ true → IsOpen {A = Effect} (following ((if b then give (with_permissions entries k (target_of s.tree place) permissions) else refused 0 EPERM (ByUnveil (Some k))) >>= CallRemainders.unveil_3 s pid me)))
            × (covers (permissions_at entries k) permissions ≡ false → following ((if b then give (with_permissions entries k (target_of s.tree place) permissions) else refused 0 EPERM (ByUnveil (Some k))) >>= CallRemainders.unveil_3 s pid me) ≡ refused 1 EPERM (ByUnveil (Some k)))
        by true covered = (λ yes. tt, λ no. let bad : true ≡ false = sym covered ∙ no in cc bad)
        by false lacking = (λ yes. let bad : true ≡ false = sym yes ∙ lacking in cc bad, λ no. refl)

    walked : (permissions : Perms) → read_permissions text ≡ Some permissions → (r : Walked) → end_of s me only ≡ r
        → Last' (after_walks 0 (after_walks 0 (place_or_refusal (if begins_walk path then 1 else 0) r >>= CallRemainders.unveil_2 s pid me permissions)))
        → Widened (after_walks 0 (after_walks 0 (place_or_refusal (if begins_walk path then 1 else 0) r >>= CallRemainders.unveil_2 s pid me permissions)))
    walked permissions read (Err e) found last =
        let one = only-walk _ w last in
        let both : Err e ≡ Ok place = sym found ∙ ap (end_of s me) one.1 ∙ end in cc both
    walked permissions read (Ok p) found last =
        let one = only-walk _ w last in
        let both : Ok p ≡ Ok place = sym found ∙ ap (end_of s me) one.1 ∙ end in
        let here : p ≡ place = cc both in
        let begun : begins_walk path ≡ true = begins-found s.tree Last me.directory path p found in
        subst (λ b. Widened (after_walks 0 (after_walks 0 (after_walks (if b then 1 else 0) (CallRemainders.unveil_2 s pid me permissions p))))) (sym begun)
        (subst (λ q. Widened (after_walks 0 (after_walks 0 (after_walks 1 (CallRemainders.unveil_2 s pid me permissions q))))) (sym here)
        (added permissions one.1 read (entry_for entries (target_of s.tree place))))

    unlocked : (permissions : Perms) → read_permissions text ≡ Some permissions → (locked : Bool)
        → Last' (after_walks 0 (refuse_if_locked locked >> (walk s me (unveil_walk path permissions) >>= CallRemainders.unveil_2 s pid me permissions)))
        → Widened (after_walks 0 (refuse_if_locked locked >> (walk s me (unveil_walk path permissions) >>= CallRemainders.unveil_2 s pid me permissions)))
    unlocked permissions read true last = not-begun EPERM Locked last
    unlocked permissions read false last = walked permissions read (end_of s me only) refl last

    encoded : (o : Option Perms) → read_permissions text ≡ o → Last' (demand EINVAL o >>= CallRemainders.unveil_1 s pid me path) → Widened (demand EINVAL o >>= CallRemainders.unveil_1 s pid me path)
    encoded None read last = not-begun EINVAL Plain last
    encoded (Some permissions) read last = unlocked permissions read me.locked last

-- ---- the answer

abbrev pub NotByTable : Rattle.pv_model.specs.declared.outcome.Outcome.Outcome → Type 0
NotByTable o = (errno : Errno) (entry : Option ℕ) → ¬ (o ≡ Failed errno (ByUnveil entry))

abbrev pub Ends : Judgement → Rattle.pv_model.specs.declared.outcome.Outcome.Outcome → Type 0
Ends Allowed o = NotByTable o
Ends Hidden o = o ≡ Failed ENOENT (ByUnveil None)
Ends (Denied k) o = o ≡ Failed EACCES (ByUnveil (Some k))

abbrev pub EndsWidened : Table → Perms → Option ℕ → Rattle.pv_model.specs.declared.outcome.Outcome.Outcome → Type 0
EndsWidened table needed None o = NotByTable o
EndsWidened table needed (Some k) o = (covers (permissions_at table k) needed ≡ true → NotByTable o) × (covers (permissions_at table k) needed ≡ false → o ≡ Failed EPERM (ByUnveil (Some k)))

module _ (s t : State) (pid : ℕ) (me : Process) where
  open-ends : (a : Attempt Effect) → IsOpen a → NotByTable (answer_by_attempt s t pid me a).outcome
  open-ends (done walks (after, returns n)) is errno entry named = cc named
  open-ends (done walks (after, returns_bytes n bytes)) is errno entry named = cc named
  open-ends (done walks (after, ends status)) is errno entry named = cc named
  open-ends (done walks (after, waits)) is errno entry named = cc named
  open-ends (refused walks e c) is errno entry named = let cause : c ≡ ByUnveil entry = cc named in let bad : true ≡ false = ap is_of_table (sym cause) ∙ is in cc bad

  decided-ends : (j : Judgement) (m : ℕ) (a : Attempt Effect) → IsDecided j m a → Ends j (answer_by_attempt s t pid me a).outcome
  decided-ends Allowed m a is = open-ends a is
  decided-ends Hidden m a is = ap (λ b. (answer_by_attempt s t pid me b).outcome) is
  decided-ends (Denied k) m a is = ap (λ b. (answer_by_attempt s t pid me b).outcome) is

  widened-ends : (table : Table) (needed : Perms) (o : Option ℕ) (a : Attempt Effect) → IsWidened table needed o a → EndsWidened table needed o (answer_by_attempt s t pid me a).outcome
  widened-ends table needed None a is = open-ends a is
  widened-ends table needed (Some k) a is = (λ yes. open-ends a (is.0 yes), λ no. ap (λ b. (answer_by_attempt s t pid me b).outcome) (is.1 no))

  walks-ends : (a : Attempt Effect) → (answer_by_attempt s t pid me a).walks ≡ walks_in a
  walks-ends (done walks (after, returns n)) = refl
  walks-ends (done walks (after, returns_bytes n bytes)) = refl
  walks-ends (done walks (after, ends status)) = refl
  walks-ends (done walks (after, waits)) = refl
  walks-ends (refused walks e c) = refl

-- the place where a call stopped decides
abbrev pub DecidesAnswer : State → Process → Call → Walk → Place → Answered → Type 0
DecidesAnswer s me call w place a =
    (is_unveil call ≡ false → Ends (judgement s.tree me.table place w.needed) a.outcome)
    × (is_unveil call ≡ true → EndsWidened (entries_of_table me.table) w.needed (entry_for (entries_of_table me.table) (target_of s.tree place)) a.outcome)

module _ (program_of : Bytes → Option Program) (s : State) (pid : ℕ) (w : Walk) (place : Place) where
  abbrev attempt : Process → Call → Attempt Effect
  attempt me call = effect program_of s pid me call

  unveil-decided : (me : Process) (call : Call) → is_unveil call ≡ true → walk_number (walks_of call) (walks_in (attempt me call)) ≡ Some w → end_of s me w ≡ Ok place
      → IsWidened (entries_of_table me.table) w.needed (entry_for (entries_of_table me.table) (target_of s.tree place)) (attempt me call)
  unfolding effect
  unveil-decided me (TheCall.Unveil None None) is last end = cc last
  unveil-decided me (TheCall.Unveil None (Some text)) is last end = cc last
  unveil-decided me (TheCall.Unveil (Some path) None) is last end = cc last
  unveil-decided me (TheCall.Unveil (Some path) (Some text)) is last end = encoded s pid me path text w place end (read_permissions text) refl last
  unveil-decided me call is last end = cc is

module _ (program_of : Bytes → Option Program) (s : State) (pid : ℕ) (me : Process) (call : Call) (at : process_at s pid ≡ Some me) (w : Walk) (place : Place) (end : end_of s me w ≡ Ok place) where
  abbrev x : State
  x = at_call s pid me

  abbrev now : Process
  now = at_next_line me

  abbrev a : Attempt Effect
  a = effect program_of x pid now call

  attempt-decides : walk_number (walks_of call) (answer_by_attempt s x pid now a).walks ≡ Some w → DecidesAnswer s me call w place (answer_by_attempt s x pid now a)
  attempt-decides last =
      let number : walk_number (walks_of call) (walks_in a) ≡ Some w = ap (walk_number (walks_of call)) (sym (walks-ends s x pid now a)) ∙ last in (
        λ plain. decided-ends s x pid now (judgement s.tree me.table place w.needed) (walks_in a) a (effect-decided program_of x pid now call plain w place number end),
        λ unveils. widened-ends s x pid now (entries_of_table me.table) w.needed (entry_for (entries_of_table me.table) (target_of s.tree place)) a (unveil-decided program_of x pid w place now call unveils number end),
      )

  pub answer-decides : walk_number (walks_of call) (answer program_of s pid call).walks ≡ Some w → DecidesAnswer s me call w place (answer program_of s pid call)
  answer-decides =
      by_answer (λ r. walk_number (walks_of call) r.walks ≡ Some w → DecidesAnswer s me call w place r) program_of s pid call
      (λ none last. cc last)
      (λ y found met last.
      let both : Some y ≡ Some me = sym found ∙ at in
      let same : y ≡ me = cc both in
      let whole : (z : Process) → z ≡ me → walk_number (walks_of call) (answer_by_attempt s (at_call s pid z) pid (at_next_line z) (effect program_of (at_call s pid z) pid (at_next_line z) call)).walks ≡ Some w
      → DecidesAnswer s me call w place (answer_by_attempt s (at_call s pid z) pid (at_next_line z) (effect program_of (at_call s pid z) pid (at_next_line z) call)) =
      λ z is. subst (λ (z : Process). walk_number (walks_of call) (answer_by_attempt s (at_call s pid z) pid (at_next_line z) (effect program_of (at_call s pid z) pid (at_next_line z) call)).walks ≡ Some w
      → DecidesAnswer s me call w place (answer_by_attempt s (at_call s pid z) pid (at_next_line z) (effect program_of (at_call s pid z) pid (at_next_line z) call))) (sym is) attempt-decides in
      whole y same last)
      (λ y lacks found missing lenient last. cc last)
      (λ y lacks found missing strict last. cc last)

-- ---- both directions

-- the entry for exactly this place governs it
own-governs : (t : Tree) (table : Table) (place : Place) (k : ℕ) → entry_for table (target_of t place) ≡ Some k → GovernsPlace t table place k
own-governs t table (Unnamed n) k is = unnamed n k (own n k is)
own-governs t table (At d name None) k is = without_node d name k (by_name k is)
own-governs t table (At d name (Some n)) k is = by (is_directory_at t n) refl is
  where
    by : (b : Bool) → is_directory_at t n ≡ b → entry_for table (if b then Directory n else Name d name) ≡ Some k → GovernsPlace t table (At d name (Some n)) k
    by true dir found = is_dir d name n k dir (own n k found)
    by false plain found = has_name d name n k plain (by_name k found)

module _ (program_of : Bytes → Option Program) (s : State) (pid : ℕ) (me : Process) (call : Call) (errno : Errno) (entry : Option ℕ) (at : process_at s pid ≡ Some me) where
  abbrev r : Answered
  r = answer program_of s pid call

  abbrev IsRefused : Type 0
  IsRefused = IsRefusedByTable s me call r.walks errno entry

  abbrev Named : Type 0
  Named = r.outcome ≡ Failed errno (ByUnveil entry)

  module _ (named : Named) (st : IsStoppedByTable s me call r.walks entry) where
    abbrev dec : DecidesAnswer s me call st.walk st.place r
    dec = answer-decides program_of s pid me call at st.walk st.place st.end st.last

    place-at : StoppedAt s me call r.walks st.place st.walk.needed
    place-at = record { walk = st.walk; last = st.last; end = st.end; asked = refl }

    judged : is_unveil call ≡ false → (o : Option Table) → me.table ≡ o → (j : Judgement) → Judges s.tree st.place st.walk.needed o j → Ends j r.outcome → IsRefused
    judged plain _ in_force _ no_table ended = absurd (ended errno entry named)
    judged plain _ in_force _ (none_judges table none) ended =
        let both : Failed ENOENT (ByUnveil None) ≡ Failed errno (ByUnveil entry) = sym ended ∙ named in
        let error : ENOENT ≡ errno = cc both in
        let which : None ≡ entry = cc both in
        record {
          table = table;
          in_force = in_force;
          place = st.place;
          needed = st.walk.needed;
          stopped = place-at;
          refuses = subst (λ e. TableRefuses s.tree table call st.place st.walk.needed e entry) error (subst (λ o. TableRefuses s.tree table call st.place st.walk.needed ENOENT o) which (refused_without_entry plain none));
        }
    judged plain _ in_force _ (lacks_judges table k governs lacks) ended =
        let both : Failed EACCES (ByUnveil (Some k)) ≡ Failed errno (ByUnveil entry) = sym ended ∙ named in
        let error : EACCES ≡ errno = cc both in
        let which : Some k ≡ entry = cc both in
        record {
          table = table;
          in_force = in_force;
          place = st.place;
          needed = st.walk.needed;
          stopped = place-at;
          refuses = subst (λ e. TableRefuses s.tree table call st.place st.walk.needed e entry) error (subst (λ o. TableRefuses s.tree table call st.place st.walk.needed EACCES o) which (refused_by_entry k plain governs lacks));
        }
    judged plain _ in_force _ (has_permissions table k governs has) ended = absurd (ended errno entry named)

    widened-where : is_unveil call ≡ true → (table : Table) → me.table ≡ Some table → (o : Option ℕ) → entry_for table (target_of s.tree st.place) ≡ o
        → EndsWidened table st.walk.needed o r.outcome → IsRefused
    widened-where unveils table in_force None none ended = absurd (ended errno entry named)
    widened-where unveils table in_force (Some k) there ended = by (covers (permissions_at table k) st.walk.needed) refl
      where
        by : (b : Bool) → covers (permissions_at table k) st.walk.needed ≡ b → IsRefused
        by true covered = absurd (ended.0 covered errno entry named)
        by false lacks =
            let both : Failed EPERM (ByUnveil (Some k)) ≡ Failed errno (ByUnveil entry) = sym (ended.1 lacks) ∙ named in
            let error : EPERM ≡ errno = cc both in
            let which : Some k ≡ entry = cc both in
            record {
              table = table;
              in_force = in_force;
              place = st.place;
              needed = st.walk.needed;
              stopped = place-at;
              refuses = subst (λ e. TableRefuses s.tree table call st.place st.walk.needed e entry) error (subst (λ o. TableRefuses s.tree table call st.place st.walk.needed EPERM o) which
                  (would_widen k unveils there (own-governs s.tree table st.place k there) lacks));
            }

    by_table : is_unveil call ≡ true → (o : Option Table) → me.table ≡ o → EndsWidened (entries_of_table o) st.walk.needed (entry_for (entries_of_table o) (target_of s.tree st.place)) r.outcome → IsRefused
    by_table unveils None in_force ended = absurd (ended errno entry named)
    by_table unveils (Some table) in_force ended = widened-where unveils table in_force (entry_for table (target_of s.tree st.place)) refl ended

    by_call : (b : Bool) → is_unveil call ≡ b → IsRefused
    by_call false plain =
        judged plain me.table refl (judgement s.tree me.table st.place st.walk.needed)
        ((judgement-as_said s.tree me.table st.place st.walk.needed (judgement s.tree me.table st.place st.walk.needed)).1 refl) (dec.0 plain)
    by_call true unveils =
        by_table unveils me.table refl (dec.1 unveils)

  refused-from : IsRefused → Named
  refused-from is = by errno entry is.refuses
    where
      same : is.stopped.walk.needed ≡ is.needed
      same = is.stopped.asked

      decided : DecidesAnswer s me call is.stopped.walk is.place r
      decided = answer-decides program_of s pid me call at is.stopped.walk is.place is.stopped.end is.stopped.last

      says : (j : Judgement) → Judges s.tree is.place is.needed (Some is.table) j → judgement s.tree me.table is.place is.stopped.walk.needed ≡ j
      says j judges = (λ i. judgement s.tree (is.in_force i) is.place (same i)) ∙ (judgement-as_said s.tree (Some is.table) is.place is.needed j).0 judges

      by : (e : Errno) (o : Option ℕ) → TableRefuses s.tree is.table call is.place is.needed e o → r.outcome ≡ Failed e (ByUnveil o)
      by _ _ (refused_without_entry plain none) = subst (λ j. Ends j r.outcome) (says Hidden (none_judges is.table none)) (decided.0 plain)
      by _ _ (refused_by_entry k plain governs lacks) = subst (λ j. Ends j r.outcome) (says (Denied k) (lacks_judges is.table k governs lacks)) (decided.0 plain)
      by _ _ (would_widen k unveils there governs lacks) =
          let ended = decided.1 unveils in
          let own' : entry_for (entries_of_table me.table) (target_of s.tree is.place) ≡ Some k = ap (λ o. entry_for (entries_of_table o) (target_of s.tree is.place)) is.in_force ∙ there in
          let has = subst (λ o. EndsWidened (entries_of_table me.table) is.stopped.walk.needed o r.outcome) own' ended in
          has.1 (ap (λ o. covers (permissions_at (entries_of_table o) k) is.stopped.walk.needed) is.in_force ∙ ap (covers (permissions_at is.table k)) same ∙ lacks)

  pub table-refuses : Named ↔ IsRefused
  table-refuses = (λ named. by_call named (refusals-named program_of s pid me call errno entry at named) (is_unveil call) refl, refused-from)

-- ---- the lock

module _ (program_of : Bytes → Option Program) (s : State) (pid : ℕ) (me : Process) (call : Call) (errno : Errno) (at : process_at s pid ≡ Some me) where
  abbrev IsEncoded : Type 0
  IsEncoded = (path : Bytes) × (text : Bytes) × (permissions : Perms) × (call ≡ TheCall.Unveil (Some path) (Some text)) × (read_permissions text ≡ Some permissions)

  encoded-by : (x : State) (now : Process) (c : Call) → call ≡ c → is_unveil c ≡ true → (answer_by_attempt s x pid now (effect program_of x pid now c)).outcome ≡ Failed errno Locked → IsEncoded
  unfolding effect
  encoded-by x now (TheCall.Unveil None None) is unveils reported = cc reported
  encoded-by x now (TheCall.Unveil None (Some text)) is unveils reported = cc reported
  encoded-by x now (TheCall.Unveil (Some path) None) is unveils reported = cc reported
  encoded-by x now (TheCall.Unveil (Some path) (Some text)) is unveils reported = by (read_permissions text) refl reported
    where
      by : (o : Option Perms) → read_permissions text ≡ o → (answer_by_attempt s x pid now (demand EINVAL o >>= CallRemainders.unveil_1 x pid now path)).outcome ≡ Failed errno Locked → IsEncoded
      by None read reported = cc reported
      by (Some permissions) read reported = (path, text, permissions, is, read)
  encoded-by x now c is unveils reported = cc unveils

  lock-from : (answer program_of s pid call).outcome ≡ Failed errno Locked → IsRefusedByLock me call errno
  lock-from reported =
      let st : IsStoppedByLock me call errno = locks-named program_of s pid me call errno at reported in
      by_answer (λ r. r.outcome ≡ Failed errno Locked → IsRefusedByLock me call errno) program_of s pid call
      (λ none is. cc is)
      (λ y found met is.
      let both : Some y ≡ Some me = sym found ∙ at in
      let same : y ≡ me = cc both in
      let parts = encoded-by (at_call s pid y) (at_next_line y) call refl st.unveils is in
      record {
        path = parts.0;
        text = parts.1;
        permissions = parts.2;
        unveils = parts.3;
        encoded = parts.4;
        held = ap (λ (z : Process). missing_promise z.promises (needs call)) (sym same) ∙ met;
        locked = st.locked;
        error = st.error;
      })
      (λ y lacks found missing lenient is. cc is)
      (λ y lacks found missing strict is. cc is)
      reported

  lock-to : IsRefusedByLock me call errno → (answer program_of s pid call).outcome ≡ Failed errno Locked
  lock-to is =
      let refused' = lock-refuses program_of s pid me is.path is.text is.permissions at (ap (λ c. missing_promise me.promises (needs c)) (sym is.unveils) ∙ is.held) is.locked is.encoded in
      ap (λ c. (answer program_of s pid c).outcome) is.unveils ∙ refused' ∙ ap (λ e. Failed e Locked) (sym is.error)

  pub lock-refuses-exactly : ((answer program_of s pid call).outcome ≡ Failed errno Locked) ↔ IsRefusedByLock me call errno
  lock-refuses-exactly = (lock-from, lock-to)
