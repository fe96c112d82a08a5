-- The data of a process that `access`, `policy` and `exposure` show do not depend on the numbers of open files.
use Rattle.std.proofs.Common.{◌≡◌, ◌∙◌, sym, ap, ap₂, subst, ℕ, suc, Bool, true, false, cond, if◌then◌else◌, List, [], ◌∷◌, ◌++◌, map, filter, filter_map, take, Option, None, Some, option_map, refl}
use Rattle.pv_model.specs.declared.call.Call.{Call}
use Rattle.pv_model.specs.declared.call.Call.TheVariants.{Unveil}
use Rattle.pv_model.specs.declared.promise.Promise.TheVariants.{Rpath, Cpath, Exec}
use Rattle.pv_model.specs.declared.verdict.Why.{Why}
use Rattle.pv_model.specs.declared.verdict.Why.TheVariants.{Reads}
use Rattle.pv_model.specs.Machine.{Answered, answer, answer_of, accesses, judged_walks, promises_needed, asked_by, of_next, of_process, of_calls, Bytes, Numbered, at_number, numbered_from, Next, inside, calls_for, next, leaks, OpenFile, Descriptor, Program, Process, State, reads, process_at, Stepped, step, place_found, Table, resolve, Walk, walks_of}
use Rattle.pv_model.specs.Answers.Needs.{judged_at, begins_program}
use Rattle.pv_model.specs.Answers.Observed.{CallObserver}
use Rattle.pv_model.specs.Answers.Policy.{request}
use Rattle.pv_model.specs.Sealed
use Rattle.pv_model.specs.Sealed.{is_pledged_without, least_first}
use Rattle.pv_model_questions.specs.Accesses.{lines_of_accesses}
use Rattle.pv_laws_states.specs.States.{EncodesPrograms, IsValid}
use Rattle.pv_laws_classes.specs.Canonical.{AreEqualRenumbered}
use Rattle.pv_laws_classes.specs.Liveness.{is_live_below, cleared}
use Rattle.pv_laws_classes.specs.Reduced.{representative}
use Rattle.pv_laws_classes.specs.Renumbering.{renumbered_descriptor, renumbered_descriptors, renumbered_process}
use Rattle.pv_laws_classes.specs.Shown.{ShownCall, shown_call, shown_process, shown_in}
use Rattle.pv_laws_classes.proofs.RenumberedAccesses.{start-same, accesses-same, lines-same, IsSame, of-classes}
use Rattle.pv_laws_classes.proofs.RenumberedAttempts.{AreAnswered}
use Rattle.pv_laws_classes.proofs.RenumberedFiles.{some-value}
use Rattle.pv_laws_classes.proofs.CanonicalForms.{unique}
use Rattle.pv_laws_classes.proofs.RenumberedLists.{Uses}
use Rattle.pv_laws_classes.proofs.ReducedClasses.{cleared-valid}
use Rattle.pv_laws_classes.proofs.RenumberedStates.{IsPresent, renumbered, Fits, AreRelated, related, by-related, process-renumbered, process-uses}
use Rattle.pv_laws_classes.proofs.RenumberedSteps.{answer-both, related-of, renumbered-steps}

-- ---- calls

-- the answers to a call are the same, whether or not the process is live
answers-related : (program_of : Bytes → Option Program) (f : ℕ → ℕ) (gs : Numbered OpenFile) (s : State) (pid : ℕ) → Fits f gs s → (call : Call)
    → AreAnswered (answer program_of s pid call) (answer program_of (renumbered f gs s) pid call)
unfolding answer
answers-related program_of f gs s pid fits call = by (process_at s pid) refl
  where
    by : (o : Option Process) → process_at s pid ≡ o → AreAnswered (answer program_of s pid call) (answer program_of (renumbered f gs s) pid call)
    by None at =
        let none : process_at (renumbered f gs s) pid ≡ None = process-renumbered f gs s pid ∙ ap (option_map (renumbered_process f)) at in
        subst (λ o. AreAnswered (answer_of program_of s pid call o) (answer program_of (renumbered f gs s) pid call)) (sym at)
        (subst (λ o. AreAnswered (answer_of program_of s pid call None) (answer_of program_of (renumbered f gs s) pid call o)) (sym none)
        (record { after = related f gs s fits; outcome = refl; walks = refl }))
    by (Some p) at = answer-both program_of f gs s pid fits p at call

module _ (f : ℕ → ℕ) (gs : Numbered OpenFile) (s : State) (pid : ℕ) (p : Process) (fits : Fits f gs s) (mine : Uses (IsPresent s.files) p.descriptors) where
  -- the walks that a table decides about, and the demands of a call
  judged-same : (call : Call) (n : ℕ) → judged_walks (renumbered f gs s) (renumbered_process f p) call n ≡ judged_walks s p call n
  judged-same (Unveil path permissions) n = refl
  judged-same call n =
      λ i. filter_map (λ (w : Walk). judged_at s w.needed (place_found (resolve s.tree w.follow (start-same f gs s pid p fits mine w.start w.path i) w.path)))
      (take n (walks_of call))

  asked-same : (call : Call) (a b : Answered) → AreAnswered a b → asked_by (renumbered f gs s) (renumbered_process f p) call b ≡ asked_by s p call a
  asked-same call a b both = λ i. record {
    line = p.line;
    promises = promises_needed call;
    walks = (judged-same call b.walks ∙ ap (judged_walks s p call) both.walks) i;
    ends_process_image = begins_program call (both.outcome i);
  }

-- the observer of the data of a call that `policy` shows
module _ (program_of : Bytes → Option Program) where
  abbrev calls_shown : CallObserver ShownCall
  calls_shown s pid p call now = map shown_call (request program_of s pid p call now)

  calls-same : IsSame calls_shown
  calls-same f gs s pid p fits mine now now' outcome after call = λ i. record {
    tree = s.tree;
    program = p.program;
    promises = p.promises;
    table = p.table;
    call = call;
    asked =
        asked-same f gs s pid p fits mine call (answer program_of s pid call) (answer program_of (renumbered f gs s) pid call)
        (answers-related program_of f gs s pid fits call) i;
  } ∷ []

-- a function of the items of an observer is an observer
of-mapped : {X Y : Type 0} (g : X → Y) (observe : CallObserver X) (s : State) (pid : ℕ) (now : Stepped)
    → map g (of_calls observe s pid now) ≡ of_calls (λ s pid p call now. map g (observe s pid p call now)) s pid now
of-mapped g observe s pid now = by (process_at s pid)
  where
    by-next : (p : Process) (n : Next) → map g (of_next observe s pid now p n) ≡ of_next (λ s pid p call now. map g (observe s pid p call now)) s pid now p n
    by-next p (inside q) = refl
    by-next p (calls_for call) = refl

    by : (o : Option Process) → map g (of_process observe s pid now o) ≡ of_process (λ s pid p call now. map g (observe s pid p call now)) s pid now o
    by None = refl
    by (Some p) = by-next p (next p)

-- ---- processes

-- why a process is not closed to the file n
module _ (f : ℕ → ℕ) (gs : Numbered OpenFile) (s : State) (p : Process) (fits : Fits f gs s) (n : ℕ) where
  abbrev t : State
  t = renumbered f gs s

  abbrev you : Process
  you = renumbered_process f p

  -- whether a descriptor, with its number, is one on the file whose mode reads
  abbrev reads_it : State → Process → ℕ × Descriptor → Bool
  reads_it x q d = Sealed.opens x q n reads (at_number x.files d.1.file)

  abbrev numbers_of : List (ℕ × Descriptor) → List ℕ
  numbers_of ds = map (λ d. d.0) ds

  abbrev numbers_on : State → Process → List (ℕ × Descriptor) → List ℕ
  numbers_on x q ds = numbers_of (filter (reads_it x q) ds)

  opens-same : (o : Option OpenFile) → Sealed.opens t you n reads o ≡ Sealed.opens s p n reads o
  opens-same None = refl
  opens-same (Some file) = refl

  reads-same : (k : ℕ) (d : Descriptor) → IsPresent s.files d.file → reads_it t you (k, renumbered_descriptor f d) ≡ reads_it s p (k, d)
  reads-same k d there =
      let found = some-value (at_number s.files d.file) there in
      ap (Sealed.opens t you n reads) (fits.matches.same d.file found.0 found.1 ∙ sym found.1) ∙ opens-same (at_number s.files d.file)

  numbers-same : (k : ℕ) (ds : Numbered Descriptor) → Uses (IsPresent s.files) ds
      → numbers_on t you (numbered_from k (renumbered_descriptors f ds)) ≡ numbers_on s p (numbered_from k ds)
  numbers-same k [] uses = refl
  numbers-same k (None ∷ ds) uses = numbers-same (suc k) ds uses
  numbers-same k (Some d ∷ ds) uses =
      ap (λ b. numbers_of (cond b ((k, renumbered_descriptor f d) ∷ theirs) theirs)) (reads-same k d uses.0) ∙ by (reads_it s p (k, d)) (numbers-same (suc k) ds uses.1)
    where
      mine : List (ℕ × Descriptor)
      mine = filter (reads_it s p) (numbered_from (suc k) ds)

      theirs : List (ℕ × Descriptor)
      theirs = filter (reads_it t you) (numbered_from (suc k) (renumbered_descriptors f ds))

      by : (b : Bool) → numbers_of theirs ≡ numbers_of mine → numbers_of (cond b ((k, renumbered_descriptor f d) ∷ theirs) theirs) ≡ numbers_of (cond b ((k, d) ∷ mine) mine)
      by true rest = ap (λ (ms : List ℕ). k ∷ ms) rest
      by false rest = rest

  table-same : (o : Option Table) → Sealed.leaks_of_table t you n o ≡ Sealed.leaks_of_table s p n o
  table-same None = refl
  table-same (Some table) = refl

  leaks-same : Uses (IsPresent s.files) p.descriptors → leaks t you n ≡ leaks s p n
  unfolding leaks
  leaks-same mine =
      ap₂ (λ (ns : List ℕ) (whys : List Why). least_first Reads ns ++ (if is_pledged_without (Rpath ∷ Exec ∷ Cpath ∷ []) p then [] else whys))
      (numbers-same 0 p.descriptors mine) (table-same p.table)

-- the data of a process that `exposure` shows
processes-shown : (s t : State) (pid : ℕ) → AreRelated s t → option_map (shown_process t) (process_at t pid) ≡ option_map (shown_process s) (process_at s pid)
processes-shown s t pid is =
    by-related (λ s t. option_map (shown_process t) (process_at t pid) ≡ option_map (shown_process s) (process_at s pid)) s t is of
  where
    by : (f : ℕ → ℕ) (gs : Numbered OpenFile) → Fits f gs s → (o : Option Process) → process_at s pid ≡ o
        → option_map (shown_process (renumbered f gs s)) (option_map (renumbered_process f) o) ≡ option_map (shown_process s) o
    by f gs fits None at = refl
    by f gs fits (Some p) at = λ i. Some (record {
      tree = s.tree;
      program = p.program;
      line = p.line;
      leaks = λ n. leaks-same f gs s p fits n (process-uses s pid p (IsPresent s.files) fits.opens at) i;
    })

    of : (f : ℕ → ℕ) (gs : Numbered OpenFile) → Fits f gs s
        → option_map (shown_process (renumbered f gs s)) (process_at (renumbered f gs s) pid) ≡ option_map (shown_process s) (process_at s pid)
    of f gs fits = ap (option_map (shown_process (renumbered f gs s))) (process-renumbered f gs s pid) ∙ by f gs fits (process_at s pid) refl

-- ---- the shown data

-- in two states that are equal up to a renumbering, the same is shown
pub renumbered-shown : (program_of : Bytes → Option Program) → EncodesPrograms program_of
    → (s t : State) (pid : ℕ) → IsValid s → IsValid t → AreEqualRenumbered s t → shown_in program_of t pid ≡ shown_in program_of s pid
renumbered-shown program_of encodes s t pid whole_s whole_t alike = λ i. record {
  outcome = (renumbered-steps program_of alike.0 s t pid whole_s whole_t alike.1).outcome i;
  accesses = of-classes accesses accesses-same program_of encodes s t pid whole_s whole_t alike i;
  access_lines = λ files first. of-classes (lines_of_accesses files first) (lines-same files first) program_of encodes s t pid whole_s whole_t alike i;
  calls = calls-are i;
  process = processes-shown s t pid (related-of alike.0 s t whole_s whole_t alike.1) i;
}
  where
    calls-are : map shown_call (of_calls (request program_of) t pid (step program_of t pid)) ≡ map shown_call (of_calls (request program_of) s pid (step program_of s pid))
    calls-are =
        of-mapped shown_call (request program_of) t pid (step program_of t pid)
        ∙ of-classes (calls_shown program_of) (calls-same program_of) program_of encodes s t pid whole_s whole_t alike
        ∙ sym (of-mapped shown_call (request program_of) s pid (step program_of s pid))

-- and in two states of one class, if zero in dead variables does not change the shown data
pub identified-shown : (program_of : Bytes → Option Program) → EncodesPrograms program_of
    → ((s : State) (pid : ℕ) → IsValid s → shown_in program_of (cleared is_live_below s) pid ≡ shown_in program_of s pid)
    → (s t : State) (pid : ℕ) → IsValid s → IsValid t → representative s ≡ representative t → shown_in program_of t pid ≡ shown_in program_of s pid
unfolding representative
identified-shown program_of encodes cleared-shown s t pid whole_s whole_t same =
    let zeroed_s = cleared-valid is_live_below s whole_s in
    let zeroed_t = cleared-valid is_live_below t whole_t in
    let alike = (unique (cleared is_live_below s) (cleared is_live_below t) zeroed_s zeroed_t).0 same in
    sym (cleared-shown t pid whole_t)
    ∙ renumbered-shown program_of encodes (cleared is_live_below s) (cleared is_live_below t) pid zeroed_s zeroed_t alike
    ∙ cleared-shown s pid whole_s
