-- States in which one process has other references: their collection, and the steps of other processes.
use Rattle.std.proofs.Common.{◌≡◌, ◌≢◌, ℕ, Bool, true, false, ◌&&◌, ◌||◌, ◌==◌, if◌then◌else◌, List, [], ◌∷◌, ◌++◌, map, Option, None, Some, is_some, refl, ap, ap₂, sym, subst, ◌∙◌, ⊎_elim}
use Rattle.std.proofs.lemmas.Bool.{cases_eq}
use Rattle.std.specs.FinMap.Entries.{is_sorted}
use Rattle.std.specs.Ordering.{nat_cmp}
use Rattle.std.specs.Cmp.{both_ways}
use Rattle.pv_model.specs.declared.call.Call.{Call}
use Rattle.pv_model.specs.Machine.{at_next_line, effect, Attempt, done, refused, Bytes, Effect, returns, returns_bytes, ends, waits, among, held_by_process, collect, needs, Numbered, at_number, with_number, least_free, present, keep, calls_for, next, missing_promise, OpenFile, Descriptor, Program, Process, ProcessRecord, live, ended_record, State, process_at, with_process, step, Tree, root, named_numbers, IsWellFormed}
use Rattle.pv_laws_trees.specs.Preserved.{preserved, numbers_wanted}
use Rattle.pv_laws_trees.proofs.Collection.{wanted-is, in_turn}
use Rattle.pv_laws_trees.proofs.NumberedMaps.{at_number-keep, keep_if-some, keep-keep, keep-agree, with_number-other_within, least_free-within, least_free-free}
use Rattle.pv_laws_trees.proofs.ListTests.{implied}
use Rattle.pv_laws_states.specs.Held.{used}
use Rattle.pv_laws_states.specs.States.{EncodesPrograms, IsValid, is_call}
use Rattle.pv_laws_states.proofs.AttemptValues.{Leads}
use Rattle.pv_laws_states.proofs.ValidBySteps.{good-effect, IsGoodNext, good-next}
use Rattle.pv_laws_states.proofs.ValidEnds.{tree-end}
use Rattle.pv_laws_states.proofs.ReferenceMembers.{all_of, live-found, among-used, used-among}
use Rattle.pv_laws_states.proofs.CallOutcomes.{at_call}
use Rattle.pv_laws_states.proofs.Processes.{process_at-same, process_at-other}
use Rattle.pv_laws_states.proofs.ValidReplies.{IsEffect, valid-at_call}
use Rattle.pv_laws_states.proofs.CollectedStates.{files-collect, processes-collect, held_after, collect_once}
use Rattle.pv_laws_states.proofs.ValidStates.{sorted-put_number}
use Rattle.pv_laws_runs.proofs.OfLawsAccess.ProcessesAfterEnds.{process_at-collect}
use Rattle.pv_laws_steps.specs.Beside.{with_change}
use Rattle.pv_laws_steps.proofs.ChangedPairs.{moved, step-in_both_to, SteppedTo, FitsCollect}
use Rattle.pv_laws_steps.proofs.CallsOfOthers.{changes}
use Rattle.pv_laws_steps.proofs.CommutingSteps.{put-changes}
use Rattle.pv_laws_steps.proofs.ChangedProcess.{KeepsParent, changed, process-changed, with-changed, end-changed}

-- the process with a number is unique
pub found-same : (z : State) (i pid : ℕ) (p q : Process) → i ≡ pid → process_at z i ≡ Some p → process_at z pid ≡ Some q → p ≡ q
found-same z i pid p q here at there = let both : Some p ≡ Some q = sym at ∙ ap (process_at z) here ∙ there in cc both

-- each descriptor refers to an open file that the old descriptors referred to
abbrev pub UsesNoMore : Numbered Descriptor → Numbered Descriptor → Type 0
UsesNoMore old new = (d : ℕ) (v : Descriptor) → at_number new d ≡ Some v → (e : ℕ) × (y : Descriptor) × (at_number old e ≡ Some y) × (y.file ≡ v.file)

-- a new descriptor leaves the others unchanged
pub more-with_number : (ds : Numbered Descriptor) (new : Descriptor) → UsesNoMore (with_number ds (least_free ds) new) ds
more-with_number ds new d x has =
    let other : d ≢ least_free ds = λ same. let none : None ≡ Some x = sym (least_free-free ds) ∙ ap (at_number ds) (sym same) ∙ has in cc none in
    (d, x, with_number-other_within ds (least_free ds) new d (least_free-within ds) other ∙ has, refl)

-- ---- collecting twice

-- a wanted node is still wanted after collection
wanted-twice : (t : Tree) (many : List ℕ) (n : ℕ) → among (numbers_wanted t (numbers_wanted t many)) n ≡ among (numbers_wanted t many) n
wanted-twice t many n =
    wanted-is t (numbers_wanted t many) n ∙ ap (λ b. (root == n) || (among (named_numbers t) n || b)) (wanted-is t many n)
    ∙ by (root == n) (among (named_numbers t) n) (among many n) ∙ sym (wanted-is t many n)
  where
    by : (a b c : Bool) → (a || (b || (a || (b || c)))) ≡ (a || (b || c))
    by true b c = refl
    by false true c = refl
    by false false c = refl

preserved-turn : (t : Tree) (many few : List ℕ) → IsWellFormed t → ((n : ℕ) → among few n ≡ true → among (numbers_wanted t many) n ≡ true) → preserved (preserved t many) few ≡ preserved t few
preserved-turn t many few w fewer =
    ap (λ nodes. preserved (record t { nodes = nodes }) few) (sym (keep-agree (among (numbers_wanted t (numbers_wanted t many))) (among (numbers_wanted t many)) t.nodes (wanted-twice t many)))
    ∙ in_turn t (numbers_wanted t many) few w fewer

-- after a change of a process, no additional open file is used and no unwanted node is referenced
pub record NoMore (j : ℕ) (f : Process → Process) (x : State) : Type 0 where
  pub used : (m : ℕ) → among (used (with_change x j f)) m ≡ true → among (used x) m ≡ true
  pub held : (n : ℕ) → among (held_after (with_change x j f)) n ≡ true → among (numbers_wanted x.tree (held_after x)) n ≡ true

-- collecting before the change does not affect collecting after it
pub collect-turn : (j : ℕ) (f : Process → Process) (x : State) → IsWellFormed x.tree → NoMore j f x → collect (with_change (collect x) j f) ≡ collect (with_change x j f)
unfolding collect
collect-turn j f x w less =
    let u : State = with_change x j f in
    let again : keep (among (used u)) (keep (among (used x)) x.files) ≡ keep (among (used u)) x.files =
    keep-keep (among (used x)) (among (used u)) x.files
    ∙ keep-agree (λ m. among (used u) m && among (used x) m) (among (used u)) x.files (λ m. implied (among (used u) m) (among (used x) m) (less.used m)) in
    ap (λ fs. record u { tree = preserved (preserved x.tree (held_after x)) (all_of held_by_process u.processes ++ map (λ o. o.node) (present fs)); files = fs }) again
    ∙ ap (λ t. record u { tree = t; files = keep (among (used u)) x.files }) (preserved-turn x.tree (held_after x) (held_after u) w less.held)

-- ---- changes of descriptors only

pub record KeepsNodes (f : Process → Process) : Type 0 where
  pub held : (p : Process) → held_by_process (f p) ≡ held_by_process p

module _ (j : ℕ) (f : Process → Process) where
  -- the same open files are used
  pub record SameUse (x : State) : Type 0 where
    pub same : (m : ℕ) → among (used (with_change x j f)) m ≡ among (used x) m

  -- a function of each process has the same values
  pub all-changed : (g : Process → List ℕ) → ((p : Process) → g (f p) ≡ g p) → (es : List (ℕ × ProcessRecord)) → all_of g (changed j f es) ≡ all_of g es
  all-changed g same [] = refl
  all-changed g same ((n, live p) ∷ es) = by (n == j) (all-changed g same es)
    where
      by : (b : Bool) → all_of g (changed j f es) ≡ all_of g es → all_of g ((n, if b then live (f p) else live p) ∷ changed j f es) ≡ g p ++ all_of g es
      by true rest = ap₂ (λ (a b : List ℕ). a ++ b) (same p) rest
      by false rest = ap (λ (b : List ℕ). g p ++ b) rest
  all-changed g same ((n, ended_record parent status) ∷ es) = by (n == j) (all-changed g same es)
    where
      by : (b : Bool) → all_of g (changed j f es) ≡ all_of g es → all_of g ((n, if b then ended_record parent status else ended_record parent status) ∷ changed j f es) ≡ all_of g es
      by true rest = rest
      by false rest = rest

  held-changed : KeepsNodes f → (es : List (ℕ × ProcessRecord)) → all_of held_by_process (changed j f es) ≡ all_of held_by_process es
  held-changed keeps es = all-changed held_by_process keeps.held es

  pub collect-use : KeepsNodes f → (x : State) → SameUse x → collect (with_change x j f) ≡ with_change (collect x) j f
  unfolding collect
  collect-use keeps x uses =
      ap₂ (λ hs fs. record (with_change x j f) { tree = preserved x.tree (hs ++ map (λ o. o.node) (present fs)); files = fs })
      (held-changed keeps x.processes) (keep-agree (among (used (with_change x j f))) (among (used x)) x.files uses.same)

  -- ---- if the process exists

  module _ (x : State) (sorted : is_sorted nat_cmp x.processes ≡ true) (p : Process) (at : process_at x j ≡ Some p) where
    pub change-is : with_process x j (f p) ≡ with_change x j f
    change-is = ap (λ ps. record x { processes = ps }) (put-changes j f x.processes p sorted (live-found x j p at))

    -- its new descriptors use no additional open file, so neither does the state
    pub used-before : UsesNoMore p.descriptors (f p).descriptors → (m : ℕ) → among (used (with_change x j f)) m ≡ true → among (used x) m ≡ true
    used-before fewer m is =
        let found = used-among u (sorted-put_number j (live (f p)) x.processes sorted) m (ap (λ (z : State). among (used z) m) change-is ∙ is) in
        ⊎_elim (λ here. own found.1 found.2 found.3 (found-same u found.0 j found.1 (f p) here found.4 (process_at-same x j (f p))) found.5 found.6)
        (λ apart. subst (λ n. among (used x) n ≡ true) found.6 (among-used x found.0 found.1 found.2 found.3 (sym (process_at-other x j (f p) found.0 apart) ∙ found.4) found.5))
        (cases_eq found.0 j)
      where
        u : State
        u = with_process x j (f p)

        own : (q : Process) (d : ℕ) (v : Descriptor) → q ≡ f p → at_number q.descriptors d ≡ Some v → v.file ≡ m → among (used x) m ≡ true
        own q d v same has file =
            let had = fewer d v (ap (λ (r : Process). at_number r.descriptors d) (sym same) ∙ has) in
            subst (λ n. among (used x) n ≡ true) (had.3 ∙ file) (among-used x j p had.0 had.1 at had.2)

    -- if the change removes no open file, the same are used
    pub use-left : ((i : ℕ) (q : Process) (d : ℕ) (v : Descriptor) → process_at x i ≡ Some q → at_number q.descriptors d ≡ Some v → is_some (at_number x.files v.file) ≡ true)
        → UsesNoMore p.descriptors (f p).descriptors → (collect (with_change x j f)).files ≡ x.files → SameUse x
    use-left opens fewer left = record { same = λ m. both_ways (among (used (with_change x j f)) m) (among (used x) m) (used-before fewer m) (following m) }
      where
        stays : (m : ℕ) (o : Option OpenFile) → at_number x.files m ≡ o → is_some o ≡ true → among (used (with_change x j f)) m ≡ true
        stays m None at some = cc some
        stays m (Some file) at some =
            (keep_if-some (among (used (with_change x j f)) m) (at_number x.files m) file
            (sym (at_number-keep (among (used (with_change x j f))) x.files m) ∙ ap (λ fs. at_number fs m) (sym (files-collect (with_change x j f)) ∙ left) ∙ at)).0

        following : (m : ℕ) → among (used x) m ≡ true → among (used (with_change x j f)) m ≡ true
        following m is =
            let found = used-among x sorted m is in
            subst (λ n. among (used (with_change x j f)) n ≡ true) found.6
            (stays found.3.file (at_number x.files found.3.file) refl (opens found.0 found.1 found.2 found.3 found.4 found.5))

-- ---- a step and the change

-- the next states differ by the change, up to collection
abbrev pub ToCollect : ℕ → (Process → Process) → State → State → Type 0
ToCollect j f a b = collect b ≡ collect (with_change a j f)

-- a collected tree is well-formed
sound-effect : (x : State) (a : Attempt Effect) → IsValid x → Leads (IsEffect x) a → FitsCollect (λ z. IsWellFormed z.tree) a
sound-effect x (done walks (y, returns n)) whole good = good.0.solid.tree.well_formed
sound-effect x (done walks (y, returns_bytes n bytes)) whole good = good.0.solid.tree.well_formed
sound-effect x (done walks (y, ends status)) whole good = subst (λ (z : State). IsWellFormed z.tree) (sym good.0) whole.tree.well_formed
sound-effect x (done walks (y, waits)) whole good = tt
sound-effect x (refused walks e c) whole good = tt

module _ (program_of : Bytes → Option Program) (encodes : EncodesPrograms program_of) (s : State) (whole : IsValid s) (j k : ℕ) (apart : k ≢ j) (f : Process → Process) (keeps : KeepsParent f) where
  abbrev last : State
  last = (step program_of s k).after

  -- if the calls of a step follow the change, and no additional references result, the step follows it too
  pub step-to_collect : ((me : Process) → process_at s k ≡ Some me → (call : Call) → next me ≡ calls_for call → missing_promise me.promises (needs call) ≡ None
      → effect program_of (with_change (at_call s k me) j f) k (at_next_line me) call ≡ moved (changes j f) (λ x. Unit {0}) (effect program_of (at_call s k me) k (at_next_line me) call))
      → ((x : State) → x.processes ≡ last.processes → collect x ≡ last → NoMore j f x) → SteppedTo (ToCollect j f) (step program_of s k) (step program_of (with_change s j f) k)
  step-to_collect rows less =
      step-in_both_to (changes j f) (λ x. IsWellFormed x.tree) k last (ToCollect j f) (record {
        there = λ x. process-changed j f x k apart;
        put = λ x q. with-changed j f x k q apart;
        fit_put = λ x q fit. fit;
        ended = λ x me status. end-changed j f keeps x k me status apart;
        fit_ended = λ x me status fit. subst IsWellFormed (sym (tree-end x k me status)) fit;
        collects = λ x fit is. collect_once (with_change x j f) fit ∙ sym (collect-turn j f x fit (less x (sym (processes-collect x) ∙ ap (λ (z : State). z.processes) is) is));
        changes = λ x. refl;
        seen = λ x y is. sym (process_at-collect y k) ∙ ap (λ z. process_at z k) is ∙ process_at-collect (with_change x j f) k ∙ process-changed j f x k apart;
      }) program_of s whole.tree.well_formed
      (λ me call at comes held.
      let good : is_call call ≡ true = subst (IsGoodNext me) comes (good-next me (whole.processes.running k me at)) in
      let whole_x : IsValid (at_call s k me) = valid-at_call s k me whole at in (
        same-moved (effect program_of (at_call s k me) k (at_next_line me) call) (rows me at call comes held),
        sound-effect (at_call s k me) (effect program_of (at_call s k me) k (at_next_line me) call) whole_x
            (good-effect program_of encodes (at_call s k me) k (at_next_line me) call whole_x (process_at-same s k (at_next_line me)) good),
      ))
      refl
    where
      same-moved : {b : Attempt Effect} (a : Attempt Effect) → b ≡ moved (changes j f) (λ x. Unit {0}) a → b ≡ moved (changes j f) (λ x. IsWellFormed x.tree) a
      same-moved (done walks (x, r)) is = is
      same-moved (refused walks e c) is = is
