-- open(2) and openat(2).
use Rattle.std.proofs.Common.{◌≡◌, ◌∙◌, ℕ, ◌<◌, Bool, true, false, not, ◌&&◌, ◌||◌, if◌then◌else◌, nat_le, [], length, None, Some, refl, sym, ap, subst, arith}
use Rattle.std.specs.Prelude.{IsTrue}
use Rattle.std.proofs.lemmas.Bool.{lt-leb, not-false}
use Rattle.pv_calls_plain.specs.declared.answer.Refused.{Refused}
use Rattle.pv_calls_plain.specs.Space.{space_errno}
use Rattle.pv_calls_plain.specs.OfCallsState.Changes.{with_node_opened, with_file_made}
use Rattle.pv_calls_path.specs.Opening.{open_place}
use Rattle.pv_calls_path.specs.Reached.{IsPlaceReached, IsStopped}
use Rattle.pv_calls_plain.proofs.OfCallsState.AttemptSequences.{passed, refused_before}
use Rattle.pv_calls_plain.proofs.RoomForCalls.{crowded}
use Rattle.pv_calls_path.proofs.CheckedWalks.{reached_then}
use Rattle.pv_calls_path.proofs.NameCalls.{fine_name}
use Rattle.pv_calls_path.proofs.DirectoryNames.{alike_collect, but_collect}
use Rattle.pv_namei.specs.OfInodes.declared.space.Space.{Space}
use Rattle.pv_calls_plain.specs.OfProcs.declared.record.ProcessRecord.{ProcessRecord}
use Rattle.pv_calls_plain.specs.OfProcs.Parts.{record_of}
use Rattle.pv_namei.specs.OfTree.Rooms.{room_error}
use Rattle.pv_laws_states.specs.States.{IsValid, IsFinePlace}
use Rattle.pv_laws_states.proofs.ValidByOpen.{held-more}
use Rattle.pv_laws_states.proofs.GrownTrees.{new-below}
use Rattle.pv_laws_states.proofs.ChangedStates.{my-placed}
use Rattle.pv_laws_states.proofs.CollectedStates.{held_after, tree-collect}
use Rattle.pv_model.specs.declared.call.Start.{Start}
use Rattle.pv_model.specs.declared.errno.Errno.{Errno}
use Rattle.pv_model.specs.declared.errno.Errno.TheVariants.{EINVAL, EMFILE, ENFILE}
use Rattle.pv_model.specs.declared.open_flags.OpenFlags.{OpenFlags}
use Rattle.pv_model.specs.declared.outcome.Cause.TheVariants.{Plain}
use Rattle.pv_model.specs.declared.place.Place.{Place}
use Rattle.pv_model.specs.Machine.{refused, refuse_if, after_walks, give, ◌>>=◌, ◌>>◌, Bytes, check_start, contradicts, open_at, with_content, node_of, name_of, start_directory, walk_from, judge_for, collect, permissions_of_open, Numbered, least_free, fits, OpenFile, Process, State, process_at, writes, file_node, Tree, find_entry, with_new_node, new_number, IsWellFormed, follow_of, open_walk}
use Rattle.pv_laws_trees.specs.Found.{AreEqualLookups, AreEqualExceptAt}
use Rattle.pv_laws_trees.proofs.WellFormedChanges.{stays-content, stays-new_node}
use Rattle.pv_laws_trees.proofs.LookupsAfterChanges.{alike-new, alike-content}

never : (b : Bool) → (b && false) ≡ false
never true = refl
never false = refl

no_directory : (a b c d : Bool) → (a || b || (c && d)) ≡ false → c ≡ true → d ≡ false
no_directory true b c d is makes = cc
no_directory false true c d is makes = cc
no_directory false false true d is makes = is
no_directory false false false d is makes = cc

-- fewer descriptors than the limit are used
pub few_descriptors : (me : Process) (r : ProcessRecord) → record_of me ≡ r → (room : Bool) → (IsTrue room → least_free r.descriptors < 16) → room ≡ true → nat_le 16 (least_free me.descriptors) ≡ false
few_descriptors me r is room says has =
    let low : least_free r.descriptors < 16 = says has in
    let same : least_free me.descriptors ≡ least_free r.descriptors = ap (λ (x : ProcessRecord). least_free x.descriptors) is in
    lt-leb 16 (least_free me.descriptors) (omega arith)

pub few_files : (n : ℕ) (room : Bool) → (IsTrue room → n < 128) → room ≡ true → nat_le 128 n ≡ false
few_files n room says has = lt-leb 128 n (says has)

pub low_files : (fs gs : Numbered OpenFile) → gs ≡ fs → least_free gs < 128 → least_free fs < 128
low_files fs gs is low = subst (λ (x : Numbered OpenFile). least_free x < 128) is low

-- a new file without room
pub create_crowded : (s : State) (pid : ℕ) (me : Process) (f : OpenFlags) → contradicts f ≡ false → not f.create ≡ false → (place : Place) → node_of place ≡ None
    → (d : ℕ) (name : Bytes) → name_of place ≡ Some (d, name) → (why : Space) → room_error (collect (with_file_made s pid me f d name)).tree ≡ Some why
    → after_walks 1 (open_place s pid me f place) ≡ refused 1 (space_errno why) Plain
create_crowded s pid me f fine unless place absent d name named why is =
    let makes : f.create ≡ true = not-false f.create unless in
    let plain : f.directory ≡ false = no_directory (f.truncate && not (writes f.mode)) (f.exclusive && not f.create) f.create f.directory fine makes in
    rw (absent, named, makes, plain, never f.exclusive, crowded (with_file_made s pid me f d name) why is) refl

module _ (s : State) (pid : ℕ) (me : Process) (start : Start) (path : Bytes) (f : OpenFlags) (fine : contradicts f ≡ false) where
  pub open_unstarted : (e : Errno) → check_start s pid me start path ≡ refused 0 e Plain → open_at s pid me start path f ≡ refused 0 e Plain
  open_unstarted e is = passed (refuse_if EINVAL (contradicts f)) tt _ (ap (refuse_if EINVAL) fine) ∙ refused_before (check_start s pid me start path) _ 0 e Plain is

  module _ (checked : check_start s pid me start path ≡ give tt) where
    pub open_many : nat_le 16 (least_free me.descriptors) ≡ true → open_at s pid me start path f ≡ refused 0 EMFILE Plain
    open_many full = rw (fine, checked, full) refl

    module _ (few : nat_le 16 (least_free me.descriptors) ≡ false) where
      pub open_many_files : nat_le 128 (least_free s.files) ≡ true → open_at s pid me start path f ≡ refused 0 ENFILE Plain
      open_many_files full = rw (fine, checked, few, full) refl

      module _ (few_files : nat_le 128 (least_free s.files) ≡ false) where
        open_after : open_at s pid me start path f
            ≡ (walk_from s (start_directory s me start path) (follow_of f) path >>= (λ place. judge_for s me place (permissions_of_open f) >> open_place s pid me f place))
        open_after =
            passed (refuse_if EINVAL (contradicts f)) tt _ (ap (refuse_if EINVAL) fine) ∙ passed (check_start s pid me start path) tt _ checked
            ∙ passed (refuse_if EMFILE (nat_le 16 (least_free me.descriptors))) tt _ (ap (refuse_if EMFILE) few)
            ∙ passed (refuse_if ENFILE (nat_le 128 (least_free s.files))) tt _ (ap (refuse_if ENFILE) few_files)

        module _ (d : ℕ) (is : start_directory s me start path ≡ d) where
          pub open_stopped : (r : Refused) → IsStopped s me d (open_walk start path f) r → open_at s pid me start path f ≡ refused r.walks r.errno r.cause
          open_stopped r stopped = open_after ∙ subst (λ e. IsStopped s me e (open_walk start path f) r) (sym is) stopped (open_place s pid me f)

          pub open_reached : (place : Place) → IsPlaceReached s me d (open_walk start path f) place → open_at s pid me start path f ≡ after_walks 1 (open_place s pid me f place)
          open_reached place reached =
              open_after ∙ reached_then s me (start_directory s me start path) (open_walk start path f) place
              (subst (λ e. IsPlaceReached s me e (open_walk start path f) place) (sym is) reached) (open_place s pid me f)

-- ---- names

cut_found : (t : Tree) → IsWellFormed t → (n : ℕ) (b : Bool) → IsWellFormed (if b then with_content t n [] else t) × AreEqualLookups (find_entry t) (find_entry (if b then with_content t n [] else t))
cut_found t w n true = (stays-content t w n [], alike-content t n [])
cut_found t w n false = (w, λ d q. refl)

-- opening an existing node keeps the names
pub alike_opened : (s : State) → IsValid s → (pid : ℕ) (me : Process) (f : OpenFlags) (n : ℕ) (new : State) → new ≡ collect (with_node_opened s pid me f n)
    → AreEqualLookups (find_entry s.tree) (find_entry new.tree)
alike_opened s whole pid me f n new is d q =
    let cut = cut_found s.tree whole.tree.well_formed n f.truncate in
    alike_collect (with_node_opened s pid me f n) new is cut.0 d q ∙ cut.1 d q

-- opening a new file changes one name
pub names_opened : (s : State) (whole : IsValid s) (place : Place) (fine : IsFinePlace s.tree place) (d : ℕ) (name : Bytes) → name_of place ≡ Some (d, name) → node_of place ≡ None
    → (pid : ℕ) (me : Process) → process_at s pid ≡ Some me → (f : OpenFlags) → least_free me.descriptors < 16 → least_free s.files < 128 → (new : State)
    → new ≡ collect (with_file_made s pid me f d name) → fits new.tree ≡ true → AreEqualExceptAt d name (find_entry s.tree) (find_entry new.tree)
names_opened s whole place fine d name named absent pid me at f few few_files new is fit =
    let u : State = with_file_made s pid me f d name in
    let t : Tree = with_new_node s.tree d name (file_node false []) in
    let good = fine_name s whole place fine d name named in
    let free : find_entry s.tree d name ≡ None = good.found ∙ absent in
    let room_file : least_free s.files < length s.files = omega (arith, whole.files.count) in
    let room_descriptor : least_free me.descriptors < length me.descriptors = omega (arith, (my-placed s pid me whole at).descriptors) in
    let below = new-below s whole d name (file_node false []) (held_after u) good.directory free refl (held-more s pid me whole at f (new_number s.tree) t room_file room_descriptor)
    (ap fits (sym (tree-collect u)) ∙ ap (λ (x : State). fits x.tree) (sym is) ∙ fit) in
    but_collect d name s u new is
    (stays-new_node s.tree whole.tree.well_formed d name (file_node false []) (good.directory, good.appears) free good.name refl refl (omega (arith, whole.tree.well_formed.numbers)))
    (alike-new s.tree d name (file_node false []) good.directory free refl (omega arith))
