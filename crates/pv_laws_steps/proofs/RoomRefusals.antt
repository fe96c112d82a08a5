-- Steps and a change of another process that frees nothing: refusals for lack of room are the same too.
use Rattle.std.proofs.Common.{◌≡◌, ◌≢◌, ℕ, suc, true, false, ◌==◌, ◌&&◌, List, [], ◌∷◌, Option, Some, is_some, refl, ap, ap₂, sym, subst, ◌∙◌, ⊎_elim}
use Rattle.std.specs.FinMap.Entries.{is_sorted, below_all}
use Rattle.std.specs.Ordering.{nat_cmp, is_lt}
use Rattle.std.specs.Cmp.{both_ways}
use Rattle.std.proofs.lemmas.Bool.{cases_eq, cases_Bool, eqb-true, or_cases, or_left}
use Rattle.pv_model.specs.declared.call.Call.{Call}
use Rattle.pv_model.specs.Machine.{at_next_line, effect, Bytes, among, held_by_process, collect, Numbered, with_number, least_free, calls_for, next, is_too_long, fits, OpenFile, Descriptor, Program, Process, ProcessRecord, live, State, process_at, with_process, Tree, root, node_at, named_numbers, is_directory_at}
use Rattle.pv_laws_trees.specs.Preserved.{preserved, numbers_wanted}
use Rattle.pv_laws_trees.specs.Room.{IsNoLarger}
use Rattle.pv_laws_trees.proofs.Collection.{wanted-is, wanted-named, wanted-held}
use Rattle.pv_laws_trees.proofs.NumberedMaps.{keep-agree}
use Rattle.pv_laws_trees.proofs.NodeRoom.{smaller-fits, smaller-not_too_long, preserved-no_larger}
use Rattle.pv_laws_states.specs.Held.{used}
use Rattle.pv_laws_states.specs.States.{IsPlaced, IsValid}
use Rattle.pv_laws_states.proofs.ValidBySteps.{IsGoodNext, good-next}
use Rattle.pv_laws_states.proofs.GrownTrees.{there-wanted}
use Rattle.pv_laws_states.proofs.ReferenceMembers.{among-used, used-among, among-held_by, among-held_file, held_cases}
use Rattle.pv_laws_states.proofs.CallOutcomes.{at_call}
use Rattle.pv_laws_states.proofs.Processes.{process_at-same, process_at-other}
use Rattle.pv_laws_states.proofs.ValidReplies.{valid-at_call}
use Rattle.pv_laws_states.proofs.ChangedStates.{table-there}
use Rattle.pv_laws_states.proofs.CollectedStates.{held_after, tree-collect}
use Rattle.pv_laws_states.proofs.ValidStates.{sorted-put_number}
use Rattle.pv_laws_steps.specs.Beside.{with_change}
use Rattle.pv_laws_steps.proofs.ChangedPairs.{HaveRoomAlike, same-room, ChangedPair, moved, room-in_both}
use Rattle.pv_laws_steps.proofs.CallsOfOthers.{changes}
use Rattle.pv_laws_steps.proofs.ChangedProcess.{KeepsParent, changed, put-other, process-changed, with-changed}
use Rattle.pv_laws_steps.proofs.OtherReferences.{UsesNoMore, found-same, more-with_number}
use Rattle.pv_laws_steps.proofs.RoomCalls.{directory-there, GoesOn, RoomsKnown, calls-fit}

-- the nodes that a process references exist

pub held-there : (t : Tree) (fs : Numbered OpenFile) (p : Process) → IsPlaced t fs p → (m : ℕ) → among (held_by_process p) m ≡ true → is_directory_at t m ≡ true
held-there t fs p placed m is =
    ⊎_elim (λ here. ap (is_directory_at t) (sym (eqb-true p.directory m here)) ∙ placed.directory) (λ entry. table-there t p.table placed.table m entry)
    (or_cases (p.directory == m) _ is)

-- ---- references in a later state

-- each process exists in another state too, with the same references other than by open files, and uses the same open
-- files
record AppearsOn (a x : State) : Type 0 where
  ascending : is_sorted nat_cmp x.processes ≡ true
  onward : (i : ℕ) (p : Process) → process_at a i ≡ Some p → (q : Process) × (process_at x i ≡ Some q) × (held_by_process q ≡ held_by_process p) × UsesNoMore q.descriptors p.descriptors
  back : (i : ℕ) (q : Process) → process_at x i ≡ Some q → (p : Process) × (process_at a i ≡ Some p) × (held_by_process q ≡ held_by_process p)

appears-same : (a : State) (t : Tree) (fs : Numbered OpenFile) → IsValid a → AppearsOn a (record a { tree = t; files = fs })
appears-same a t fs whole = record {
  ascending = whole.processes.ascending;
  onward = λ i p is. (p, is, refl, λ d v has. (d, v, has, refl));
  back = λ i q is. (q, is, refl);
}

-- the same holds if one process has a new descriptor
appears-opened : (a : State) (t : Tree) (fs : Numbered OpenFile) (k : ℕ) (me q : Process) → IsValid a → process_at a k ≡ Some me → held_by_process q ≡ held_by_process me → UsesNoMore q.descriptors me.descriptors
    → AppearsOn a (with_process (record a { tree = t; files = fs }) k q)
appears-opened a t fs k me q whole at same more =
    let x : State = record a { tree = t; files = fs } in
    record {
      ascending = sorted-put_number k (live q) a.processes whole.processes.ascending;
      onward = λ i p is. ⊎_elim
          (λ here.
          let mine : p ≡ me = found-same a i k p me here is at in
          (q, ap (process_at (with_process x k q)) here ∙ process_at-same x k q, same ∙ ap held_by_process (sym mine), subst (λ (r : Process). UsesNoMore q.descriptors r.descriptors) (sym mine) more))
          (λ away. (p, process_at-other x k q i away ∙ is, refl, λ d v has. (d, v, has, refl))) (cases_eq i k);
      back = λ i r is. ⊎_elim
          (λ here.
          let mine : r ≡ q = found-same (with_process x k q) i k r q here is (process_at-same x k q) in
          (me, ap (process_at a) here ∙ at, ap held_by_process mine ∙ same))
          (λ away. (r, sym (process_at-other x k q i away) ∙ is, refl)) (cases_eq i k);
    }

-- the tree and the open files of a state extend those of another
record GoesFrom (a x : State) : Type 0 where
  appears : AppearsOn a x
  goes : GoesOn a.tree a.files x.tree x.files

module _ (a x : State) (whole : IsValid a) (on : GoesFrom a x) where
  used-on : (m : ℕ) → among (used a) m ≡ true → among (used x) m ≡ true
  used-on m is =
      let user = used-among a whole.processes.ascending m is in
      let there = on.appears.onward user.0 user.1 user.4 in
      let has = there.3 user.2 user.3 user.5 in
      subst (λ n. among (used x) n ≡ true) (has.3 ∙ user.6) (among-used x user.0 there.0 has.0 has.1 there.1 has.2)

  held-on : (n : ℕ) → among (held_after a) n ≡ true → among (held_after x) n ≡ true
  held-on n is =
      held_cases (among (held_after x) n ≡ true) a whole.processes.ascending n is
      (λ i p at has. let there = on.appears.onward i p at in among-held_by x i there.0 n there.1 (ap (λ ns. among ns n) there.2 ∙ has))
      (λ m file at uses node.
      let there = on.goes.opened m file at in
      subst (λ i. among (held_after x) i ≡ true) (there.2 ∙ node) (among-held_file x m there.0 there.1 (used-on m uses)))

-- in two states with the same tree and the same processes and files, the same nodes are wanted
module _ (a b : State) (whole_a : IsValid a) (whole_b : IsValid b) (tree : b.tree ≡ a.tree) (x y : State) (same : y.tree ≡ x.tree) (on_x : GoesFrom a x) (on_y : GoesFrom b y) where
  there-on : (n : ℕ) → is_some (node_at a.tree n) ≡ true → among (numbers_wanted y.tree (held_after y)) n ≡ true
  there-on n is =
      ⊎_elim (λ top. or_left (root == n) _ top)
      (λ rest. ⊎_elim (λ named. wanted-named y.tree (held_after y) n (on_y.goes.named n named)) (λ held. wanted-held y.tree (held_after y) n (held-on b y whole_b on_y n held))
      (or_cases (among (named_numbers b.tree) n) (among (held_after b) n) rest))
      (or_cases (root == n) _ (sym (wanted-is b.tree (held_after b) n) ∙ there-wanted b whole_b n (ap (λ t. is_some (node_at t n)) tree ∙ is)))

  wanted-on : (n : ℕ) → among (numbers_wanted x.tree (held_after x)) n ≡ true → among (numbers_wanted y.tree (held_after y)) n ≡ true
  wanted-on n is =
      ⊎_elim (λ top. or_left (root == n) _ top)
      (λ rest. ⊎_elim has_name
      (λ held.
      held_cases (among (numbers_wanted y.tree (held_after y)) n ≡ true) x on_x.appears.ascending n held
      (λ i q at has.
      let there = on_x.appears.back i q at in
      there-on n (directory-there a.tree n (held-there a.tree a.files there.0 (whole_a.processes.placed i there.0 there.1) n (ap (λ ns. among ns n) (sym there.2) ∙ has))))
      (λ m g at uses node.
      ⊎_elim (λ old. there-on n (ap (λ i. is_some (node_at a.tree i)) (sym node) ∙ old)) (λ named. has_name (ap (among (named_numbers x.tree)) (sym node) ∙ named)) (on_x.goes.there m g at)))
      (or_cases (among (named_numbers x.tree) n) (among (held_after x) n) rest))
      (or_cases (root == n) _ (sym (wanted-is x.tree (held_after x) n) ∙ is))
    where
      has_name : among (named_numbers x.tree) n ≡ true → among (numbers_wanted y.tree (held_after y)) n ≡ true
      has_name named = wanted-named y.tree (held_after y) n (ap (λ t. among (named_numbers t) n) same ∙ named)

-- so both trees are the same after collection
same-collected : (a b : State) → IsValid a → IsValid b → b.tree ≡ a.tree → (x y : State) → y.tree ≡ x.tree → GoesFrom a x → GoesFrom b y → (collect y).tree ≡ (collect x).tree
same-collected a b whole_a whole_b tree x y same on_x on_y =
    tree-collect y
    ∙ ap (λ nodes. record (y.tree) { nodes = nodes })
    (keep-agree (among (numbers_wanted y.tree (held_after y))) (among (numbers_wanted y.tree (held_after x))) y.tree.nodes
    (λ n. both_ways (among (numbers_wanted y.tree (held_after y)) n) (among (numbers_wanted x.tree (held_after x)) n)
    (wanted-on b a whole_b whole_a (sym tree) y x (sym same) on_y on_x n) (wanted-on a b whole_a whole_b tree x y same on_x on_y n)
    ∙ ap (λ t. among (numbers_wanted t (held_after x)) n) (sym same)))
    ∙ ap (λ t. preserved t (held_after x)) same ∙ sym (tree-collect x)

-- a tree that is not larger has room, whatever is collected
module _ (a x : State) (whole : IsValid a) (less : IsNoLarger x.tree a.tree) where
  smaller-short : is_too_long (collect x).tree ≡ false
  smaller-short =
      ap is_too_long (tree-collect x)
      ∙ ⊎_elim
      (λ long.
      let was = smaller-not_too_long a.tree x.tree less (smaller-not_too_long x.tree (preserved x.tree (held_after x)) (preserved-no_larger x.tree (held_after x)) long) in
      let bad : true ≡ false = sym was ∙ whole.not_too_long in cc bad)
      (λ short. short) (cases_Bool (is_too_long (preserved x.tree (held_after x))))

  smaller-fit : fits (collect x).tree ≡ true
  smaller-fit = ap fits (tree-collect x) ∙ smaller-fits x.tree (preserved x.tree (held_after x)) (preserved-no_larger x.tree (held_after x)) (smaller-fits a.tree x.tree less whole.fits)

-- ---- the process table stays sorted

module _ (j : ℕ) (f : Process → Process) where
  below-changed : (n : ℕ) (es : List (ℕ × ProcessRecord)) → below_all nat_cmp n (changed j f es) ≡ below_all nat_cmp n es
  below-changed n [] = refl
  below-changed n (e ∷ es) = ap (λ b. is_lt (nat_cmp n e.0) && b) (below-changed n es)

  pub in-order : (es : List (ℕ × ProcessRecord)) → is_sorted nat_cmp (changed j f es) ≡ is_sorted nat_cmp es
  in-order [] = refl
  in-order (e ∷ es) = ap₂ (λ a b. a && b) (below-changed e.0 es) (in-order es)

-- ---- the call of another process follows a change that keeps everything

module _ (program_of : Bytes → Option Program) (s : State) (whole : IsValid s) (j k : ℕ) (apart : k ≢ j) (f : Process → Process) (keeps : KeepsParent f) (whole_f : IsValid (with_change s j f)) (next_other : suc s.last_process ≢ j)
    (me : Process) (at : process_at s k ≡ Some me) (call : Call) (comes : next me ≡ calls_for call) where
  abbrev x : State
  x = at_call s k me

  abbrev y : State
  y = with_change x j f

  abbrev now : Process
  now = at_next_line me

  abbrev Any : State → Type 0
  Any z = Unit {0}

  whole_x : IsValid x
  whole_x = valid-at_call s k me whole at

  whole_y : IsValid y
  whole_y = subst IsValid (with-changed j f s k now apart) (valid-at_call (with_change s j f) k me whole_f (process-changed j f s k apart ∙ at))

  at_x : process_at x k ≡ Some now
  at_x = process_at-same s k now

  at_y : process_at y k ≡ Some now
  at_y = process-changed j f x k apart ∙ at_x

  room-alike : (v w : State) → w.tree ≡ v.tree → GoesFrom x v → GoesFrom y w → HaveRoomAlike (collect v).tree (collect w).tree
  room-alike v w same on_v on_w = same-room (collect v).tree (collect w).tree (same-collected x y whole_x whole_y refl v w same on_v on_w)

  rooms : RoomsKnown j f x k now (ChangedPair (changes j f) Any)
  rooms = record {
    room = λ t fs n goes.
        let v : State = record x { tree = t; files = fs } in
        let w : State = record y { tree = t; files = fs } in
        room-in_both (changes j f) Any v w n (record { same = refl; fit = tt })
        (room-alike v w refl (record { appears = appears-same x t fs whole_x; goes = goes }) (record { appears = appears-same y t fs whole_y; goes = goes }));
    opened = λ t fs file close_on_exec n goes.
        let new : Descriptor = record { file = file; close_on_exec = close_on_exec } in
        let q : Process = record now { descriptors = with_number now.descriptors (least_free now.descriptors) new } in
        let more : UsesNoMore q.descriptors now.descriptors = more-with_number now.descriptors new in
        let v : State = with_process (record x { tree = t; files = fs }) k q in
        let w : State = with_process (record y { tree = t; files = fs }) k q in
        let same : w ≡ with_change v j f = ap (λ ps. record x { tree = t; files = fs; processes = ps }) (put-other j f k (live q) x.processes apart) in
        room-in_both (changes j f) Any v w n (record { same = same; fit = tt })
        (subst (λ z. HaveRoomAlike (collect v).tree (collect z).tree) same
        (room-alike v w refl (record { appears = appears-opened x t fs k now q whole_x at_x refl more; goes = goes }) (record { appears = appears-opened y t fs k now q whole_y at_y refl more; goes = goes })));
    smaller = λ t n less.
        let v : State = record x { tree = t } in
        let w : State = with_change v j f in
        room-in_both (changes j f) Any v w n (record { same = refl; fit = tt })
        (record { long = smaller-short y w whole_y less ∙ sym (smaller-short x v whole_x less); fit = smaller-fit y w whole_y less ∙ sym (smaller-fit x v whole_x less) });
  }

  pub goes-along : effect program_of y k now call ≡ moved (changes j f) Any (effect program_of x k now call)
  goes-along =
      let good = subst (IsGoodNext me) comes (good-next me (whole.processes.running k me at)) in
      (calls-fit j f keeps x k now whole_x at_x apart next_other Any (record { leave = record { left = λ t fs. tt; own = λ t fs q. tt; forked = tt; reaped = λ test. tt }; rooms = rooms }) program_of call good).same
