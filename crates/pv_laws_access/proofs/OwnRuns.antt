-- Runs in which one process and those that are forked from it make the steps.
use Rattle.std.proofs.Common.{◌≡◌, ◌≢◌, ◌⊎◌, inl, inr, ⊎_elim, ℕ, Bool, true, false, if◌then◌else◌, List, [], ◌∷◌, ◌++◌, length, Option, None, Some, is_some, refl, ap, ap₂, sym, subst, ◌∙◌}
use Rattle.std.specs.List.{AllByRecursion}
use Rattle.pv_model.specs.declared.promise.Promise.TheVariants.{Wpath, Cpath, Exec as ExecPromise}
use Rattle.pv_model.specs.Machine.{Bytes, is_empty, with_content_of, is_file, Program, Process, State, Run, writes, process_at, with_tree, step, run, change_file, file_bytes, with_bytes, trace_bytes, Touches, Node, node_at, Table}
use Rattle.pv_model.specs.Closed.{HasOn, IsClosed, IsFixedByPledge, IsFrozenTo}
use Rattle.pv_model.specs.Touch.{SameButFile}
use Rattle.pv_laws_states.specs.States.{EncodesPrograms, IsValid}
use Rattle.pv_laws_states.proofs.ValidBySteps.{step-keeps_valid}
use Rattle.pv_laws_trees.proofs.TreeChanges.{cases_name}
use Rattle.pv_laws_access.specs.Growth.{HasNoMoreRights}
use Rattle.pv_laws_access.specs.Origins.{origin}
use Rattle.pv_laws_access.specs.OwnRuns.{AreOwnSteps, ClosedRunsAreEqual, IsThereThroughout, IsUnveiledFixed, IsUnveiledInPlace, IsPledgedInPlace, IsFixed, FixedRunsKeep}
use Rattle.pv_laws_access.specs.Sealing.{RunsDifferInFile}
use Rattle.pv_laws_access.specs.Secrets.{StepsDifferInFile}
use Rattle.pv_laws_access.proofs.ClosedProcesses.{closed-answers_alike}
use Rattle.pv_laws_access.proofs.Confinement.{KeepsInPlace, closed-keeps, links_or_moves, no-writer}
use Rattle.pv_laws_access.proofs.JustifiedChanges.{files-written}
use Rattle.pv_laws_access.proofs.JustifiedGains.{has-opens}
use Rattle.pv_laws_access.proofs.ProcessOrigins.{IsCalled, IsExecve, IsHeir, heirs}
use Rattle.pv_laws_access.proofs.SealedSteps.{closed-heir, file-stays, gave_above, gave_name, had, lacks-no_more, no-exec, unveiled-heir, unwritten-heir}
use Rattle.pv_laws_access.proofs.SimilarTrees.{IsNear, as_is, near-bytes, near-itself, near-length_of, same-but_file}
use Rattle.pv_laws_access.proofs.Verdicts.{leaks-closed}

-- ---- states that differ in the bytes of a file

-- a run differs from itself in nothing
same-run : (f : ℕ) (r : Run) → RunsDifferInFile f r r
same-run f r =
    let near : IsNear as_is f r.final r.final = record { nodes = near-itself as_is f r.final.tree.nodes; rest = refl } in
    record { lines = refl; text = refl; final = same-but_file as_is f r.final r.final near; as_many = refl }

-- states that differ only in the bytes of a file that is not there are equal
gone-same : (x y : State) (f : ℕ) → is_some (node_at x.tree f) ≡ false → SameButFile f x y → x ≡ y
gone-same x y f gone same = by (node_at x.tree f) refl gone
  where
    by : (o : Option Node) → node_at x.tree f ≡ o → is_some o ≡ false → x ≡ y
    by None none is = ap (λ (o : Option Node). with_tree x (with_content_of x.tree f o (file_bytes y f))) (sym none) ∙ same
    by (Some node) there is = cc is

-- ---- a process and those that are forked from it

module _ (first : State) (pid : ℕ) where
  abbrev IsOwn : ℕ → Type 0
  IsOwn k = (k ≡ pid) ⊎ (process_at first k ≡ None)

  -- a property of all these processes that are live
  abbrev EachOwn : (State → Process → Type 0) → State → Type 0
  EachOwn P s = (k : ℕ) (q : Process) → IsOwn k → process_at s k ≡ Some q → P s q

  own-first : (P : State → Process → Type 0) (p : Process) → process_at first pid ≡ Some p → P first p → EachOwn P first
  own-first P p at is k q (inl same) there =
      let both : Some p ≡ Some q = sym at ∙ ap (process_at first) (sym same) ∙ there in
      let one : p ≡ q = cc both in subst (P first) one is
  own-first P p at is k q (inr none) there = let no : None ≡ Some q = sym none ∙ there in absurd (cc no)

  own-origin : (s : State) (j k from : ℕ) → origin s j k ≡ from → IsOwn j → IsOwn k → IsOwn from
  own-origin s j k from is own own' = by (is_some (process_at s k)) is
    where
      by : (b : Bool) → (if b then k else j) ≡ from → IsOwn from
      by true same = subst IsOwn same own'
      by false same = subst IsOwn same own

  module _ (program_of : Bytes → Option Program) (encodes : EncodesPrograms program_of) (f : ℕ) where
    -- ---- closed processes

    abbrev Closed : State → Process → Type 0
    Closed s q = IsClosed s q f

    closed-own : (s : State) (j : ℕ) → IsValid s → is_file (node_at s.tree f) ≡ true → IsOwn j → EachOwn Closed s → EachOwn Closed (step program_of s j).after
    closed-own s j whole file own each k q own' there =
        let h = heirs program_of s j whole k q there in
        closed-heir program_of encodes s j whole f file (λ p at. closed-keeps s p f (each j p own at)) k q h (each h.from h.p (own-origin s j k h.from h.is_origin own own') h.at)

    closed-run : (pids : List ℕ) (s : State) (bytes : Bytes) → IsValid s → is_file (node_at s.tree f) ≡ true → EachOwn Closed s → AllByRecursion IsOwn pids → length bytes ≡ length (file_bytes s f)
        → RunsDifferInFile f (run program_of pids s) (run program_of pids (with_bytes s f bytes))
    closed-run [] s bytes whole file each own long =
        let near = near-bytes as_is s f bytes long in
        record { lines = refl; text = refl; final = same-but_file as_is f s (with_bytes s f bytes) near; as_many = near-length_of as_is f s (with_bytes s f bytes) near }
    closed-run (j ∷ pids) s bytes whole file each own long =
        let alike = closed-answers_alike program_of s j f bytes whole file (λ p at. ap is_empty ((leaks-closed s p f whole.tree.well_formed).1 (each j p own.0 at))) long in
        let following = by (is_some (node_at (step program_of s j).after.tree f)) refl alike (closed-run pids (step program_of s j).after) in
        let lines = ap₂ (λ a b. a ++ b) alike.lines following.lines in
        record { lines = lines; text = ap trace_bytes lines; final = following.final; as_many = following.as_many }
      where
        by : (b : Bool) → is_some (node_at (step program_of s j).after.tree f) ≡ b → StepsDifferInFile f (step program_of s j) (step program_of (with_bytes s f bytes) j)
            → ((others : Bytes) → IsValid (step program_of s j).after → is_file (node_at (step program_of s j).after.tree f) ≡ true → EachOwn Closed (step program_of s j).after → AllByRecursion IsOwn pids
            → length others ≡ length (file_bytes (step program_of s j).after f) → RunsDifferInFile f (run program_of pids (step program_of s j).after) (run program_of pids (with_bytes (step program_of s j).after f others)))
            → RunsDifferInFile f (run program_of pids (step program_of s j).after) (run program_of pids (step program_of (with_bytes s f bytes) j).after)
        by true there alike rest =
            subst (λ (z : State). RunsDifferInFile f (run program_of pids (step program_of s j).after) (run program_of pids z)) alike.after
            (rest (file_bytes (step program_of (with_bytes s f bytes) j).after f) (step-keeps_valid program_of encodes s j whole) (file-stays program_of s j f whole file there)
            (closed-own s j whole file own.0 each) own.1 alike.as_many)
        by false gone alike rest =
            subst (λ (z : State). RunsDifferInFile f (run program_of pids (step program_of s j).after) (run program_of pids z))
            (gone-same (step program_of s j).after (step program_of (with_bytes s f bytes) j).after f gone alike.after) (same-run f (run program_of pids (step program_of s j).after))

    -- ---- fixed processes

    -- a step does not change the file if its process can't write it
    unchanged : (s : State) (j : ℕ) → IsValid s → is_file (node_at s.tree f) ≡ true → ((p : Process) → process_at s j ≡ Some p → IsFrozenTo s p f) → Touches program_of s j (change_file f) → ⊥
    unchanged s j whole file frozen changes =
        let e = files-written program_of s j f whole changes in
        let before = frozen e.me e.at in
        ⊎_elim
        (λ own.
        let o = has-opens s j f own.1.2.mode (e.me, own.1.0, own.1.1, own.1.2, e.at, own.1.4, own.1.5, refl) e.me e.at in
        let on = had s f writes e.me own.1.2.mode own.1.6 o in before.descriptors on.0 on.1)
        (λ cut. no-writer s whole e.me f file before e.call cut.flags.mode e.held cut.written
        (record { flags = cut.flags; place = cut.place; flagged = cut.flagged; moded = refl; allowed = cut.allowed; which = inl cut.node; fine = cut.fine })) e.written

    -- a property of processes that lasts while the file is there, and with which a process can't write the file
    module _ (Fixed : State → Process → Type 0) (frozen : (s : State) (p : Process) → Fixed s p → IsFrozenTo s p f)
        (lasts : (s : State) (j : ℕ) → IsValid s → is_file (node_at s.tree f) ≡ true → ((p : Process) → process_at s j ≡ Some p → Fixed s p)
        → (k : ℕ) (q : Process) → (h : IsHeir s (step program_of s j).after j k q) → Fixed s h.p → Fixed (step program_of s j).after q) where
      fixed-own : (s : State) (j : ℕ) → IsValid s → is_file (node_at s.tree f) ≡ true → IsOwn j → EachOwn Fixed s → EachOwn Fixed (step program_of s j).after
      fixed-own s j whole file own each k q own' there =
          let h = heirs program_of s j whole k q there in
          lasts s j whole file (λ p at. each j p own at) k q h (each h.from h.p (own-origin s j k h.from h.is_origin own own') h.at)

      fixed-run : (pids : List ℕ) (s : State) → IsValid s → is_file (node_at s.tree f) ≡ true → EachOwn Fixed s → AllByRecursion IsOwn pids → IsThereThroughout program_of pids s f
          → file_bytes (run program_of pids s).final f ≡ file_bytes s f
      fixed-run [] s whole file each own there = refl
      fixed-run (j ∷ pids) s whole file each own there =
          let still = file-stays program_of s j f whole file there.0 in
          fixed-run pids (step program_of s j).after (step-keeps_valid program_of encodes s j whole) still (fixed-own s j whole file own.0 each) own.1 there.1
          ∙ ⊎_elim (λ same. same) (λ differ. absurd (unchanged s j whole file (λ p at. frozen s p (each j p own.0 at)) (file, still, differ)))
          (cases_name (file_bytes (step program_of s j).after f) (file_bytes s f))

    -- the promises of a process prevent it from opening anything for writing
    abbrev Pledged : State → Process → Type 0
    Pledged s p = ((d : ℕ) → ¬ HasOn s p f writes d) × IsFixedByPledge s p f

    pledged-frozen : (s : State) (p : Process) → Pledged s p → IsFrozenTo s p f
    pledged-frozen s p is = record { descriptors = is.0; restraints = inl is.1 }

    pledged-lasts : (s : State) (j : ℕ) → IsValid s → is_file (node_at s.tree f) ≡ true → ((p : Process) → process_at s j ≡ Some p → Pledged s p)
        → (k : ℕ) (q : Process) → (h : IsHeir s (step program_of s j).after j k q) → Pledged s h.p → Pledged (step program_of s j).after q
    pledged-lasts s j whole file each k q h before = (
      unwritten-heir s (step program_of s j).after j whole f file k q h (pledged-frozen s h.p before),
      ⊎_elim
          (λ no_more. record { no_wpath = lacks-no_more h.p q Wpath no_more.promises before.1.no_wpath; no_exec = lacks-no_more h.p q ExecPromise no_more.promises before.1.no_exec })
          (λ e. absurd (no-exec s j h.p q e before.1.no_exec)) h.restraints,
    )

    -- its table does so for the file
    module _ (table : Table) where
      abbrev Unveiled : State → Process → Type 0
      Unveiled s p = ((d : ℕ) → ¬ HasOn s p f writes d) × IsUnveiledFixed s p f table

      unveiled-frozen : (s : State) (p : Process) → Unveiled s p → IsFrozenTo s p f
      unveiled-frozen s p is = record { descriptors = is.0; restraints = inr (table, is.1.from) }

      unveiled-keeps : (s : State) (p : Process) → IsUnveiledFixed s p f table → KeepsInPlace s p f
      unveiled-keeps s p is =
          ⊎_elim (λ pledged. inl pledged.no_cpath) (λ unveiled. inr (table, record { in_force = is.from.in_force; names = unveiled.names; directories = unveiled.directories })) is.in_place

      unveiled-lasts : (s : State) (j : ℕ) → IsValid s → is_file (node_at s.tree f) ≡ true → ((p : Process) → process_at s j ≡ Some p → Unveiled s p)
          → (k : ℕ) (q : Process) → (h : IsHeir s (step program_of s j).after j k q) → Unveiled s h.p → Unveiled (step program_of s j).after q
      unveiled-lasts s j whole file each k q h before = (
        unwritten-heir s (step program_of s j).after j whole f file k q h (unveiled-frozen s h.p before),
        record { from = unveiled-heir program_of encodes s j whole f file keeps h.p q table h.restraints before.1.from; in_place = in_place before.1.in_place },
      )
        where
          keeps : (p : Process) → process_at s j ≡ Some p → KeepsInPlace s p f
          keeps p at = unveiled-keeps s p (each p at).1

          in_place : IsPledgedInPlace s h.p f ⊎ IsUnveiledInPlace s h.p f table → IsPledgedInPlace (step program_of s j).after q f ⊎ IsUnveiledInPlace (step program_of s j).after q f table
          in_place (inl pledged) =
              ⊎_elim
              (λ no_more. inl (record { no_cpath = lacks-no_more h.p q Cpath no_more.promises pledged.no_cpath; no_exec = lacks-no_more h.p q ExecPromise no_more.promises pledged.no_exec }))
              (λ e. absurd (no-exec s j h.p q e pledged.no_exec)) h.restraints
          in_place (inr unveiled) = inr (record {
            names = λ n gives. unveiled.names n (gave_name program_of encodes s j whole f file keeps h.p q table links_or_moves n gives);
            directories = λ n gives. unveiled.directories n (gave_above program_of encodes s j whole f file keeps h.p q table n gives);
          })

-- ---- the laws

pub closed-runs_alike : ClosedRunsAreEqual
closed-runs_alike program_of encodes s pid p pids f bytes whole file at closed own long =
    closed-run s pid program_of encodes f pids s bytes whole file (own-first s pid (λ t q. IsClosed t q f) p at closed) own long

pub fixed-runs_keep : FixedRunsKeep
fixed-runs_keep program_of encodes s pid p pids f whole file at fixed own there =
    ⊎_elim
    (λ pledged. fixed-run s pid program_of encodes f (Pledged s pid program_of encodes f) (pledged-frozen s pid program_of encodes f) (pledged-lasts s pid program_of encodes f) pids s whole file
    (own-first s pid (Pledged s pid program_of encodes f) p at (fixed.descriptors, pledged)) own there)
    (λ unveiled. fixed-run s pid program_of encodes f (Unveiled s pid program_of encodes f unveiled.0) (unveiled-frozen s pid program_of encodes f unveiled.0) (unveiled-lasts s pid program_of encodes f unveiled.0)
    pids s whole file (own-first s pid (Unveiled s pid program_of encodes f unveiled.0) p at (fixed.descriptors, unveiled.1)) own there)
    fixed.restraints
