-- The first process that is not closed to a file, process by process, and its consequence for each process.
use Rattle.std.proofs.Common.{◌≡◌, ◌∙◌, sym, ap, ℕ, true, List, [], ◌∷◌, Option, None, Some, inl, inr, refl}
use Rattle.std.specs.Prelude.{option_and_then}
use Rattle.std.specs.FinMap.Entries.{is_sorted}
use Rattle.std.specs.Ordering.{nat_cmp}
use Rattle.pv_model.specs.declared.verdict.Why.{Why}
use Rattle.pv_model.specs.Machine.{first_of, leaks, live_processes, Process, ProcessRecord, live, ended_record, live_process, State, process_at}
use Rattle.pv_model.specs.Sealed.{first_leak, leak_or}
use Rattle.pv_model_questions.specs.Exposure.{first_leak_of}
use Rattle.pv_laws_answers.proofs.Lists.{Among}
use Rattle.pv_laws_answers.proofs.LiveProcesses.{listed-live, live-listed}

abbrev Living : Type 0
Living = ℕ × Process

-- the parts of a first leak
abbrev pid_or : ℕ → Option (ℕ × Why) → ℕ
pid_or d None = d
pid_or d (Some x) = x.0

abbrev why_or : Why → Option (ℕ × Why) → Why
why_or d None = d
why_or d (Some x) = x.1

-- the process with a number, if it has a reason; otherwise a later process
abbrev pub leak_else : ℕ → Option Why → Option (ℕ × Why) → Option (ℕ × Why)
leak_else pid None later = later
leak_else pid (Some why) later = Some (pid, why)

module _ (s : State) (f : ℕ) where
  abbrev pub first_among : List (ℕ × ProcessRecord) → Option (ℕ × Why)
  first_among rs = first_leak s f (live_processes rs)

  abbrev leak_by : Option Process → Option Why
  leak_by o = option_and_then (λ p. first_of (leaks s p f)) o

  either : (pid : ℕ) (whys : List Why) (later : Option (ℕ × Why)) → leak_or pid whys later ≡ leak_else pid (first_of whys) later
  either pid [] later = refl
  either pid (why ∷ whys) later = refl

  pub leak-next : (pid : ℕ) (r : ProcessRecord) (rs : List (ℕ × ProcessRecord)) → first_among ((pid, r) ∷ rs) ≡ leak_else pid (leak_by (live_process (Some r))) (first_among rs)
  leak-next pid (live p) rs = either pid (leaks s p f) (first_among rs)
  leak-next pid (ended_record parent status) rs = refl

  -- ---- the consequence of the first one for each process

  none-all : (ps : List Living) (pid : ℕ) (p : Process) → first_leak s f ps ≡ None → Among (pid, p) ps → first_of (leaks s p f) ≡ None
  none-all [] pid p none within = absurd within
  none-all ((k, q) ∷ ps) pid p none within = by (leaks s q f) refl none within (none-all ps pid p)
    where
      by : (whys : List Why) → leaks s q f ≡ whys → leak_or k whys (first_leak s f ps) ≡ None → Among (pid, p) ((k, q) ∷ ps)
          → (first_leak s f ps ≡ None → Among (pid, p) ps → first_of (leaks s p f) ≡ None) → first_of (leaks s p f) ≡ None
      by [] is rest (inl same) more = ap (λ (e : Living). first_of (leaks s e.1 f)) same ∙ ap first_of is
      by [] is rest (inr later) more = more rest later
      by (why ∷ whys) is rest within more = cc rest

  one-leaks : (ps : List Living) (k : ℕ) (why : Why) → first_leak s f ps ≡ Some (k, why) → (q : Process) × Among (k, q) ps × (first_of (leaks s q f) ≡ Some why)
  one-leaks [] k why is = cc is
  one-leaks ((j, q) ∷ ps) k why is = by (leaks s q f) refl is (one-leaks ps k why)
    where
      by : (whys : List Why) → leaks s q f ≡ whys → leak_or j whys (first_leak s f ps) ≡ Some (k, why)
          → (first_leak s f ps ≡ Some (k, why) → (r : Process) × Among (k, r) ps × (first_of (leaks s r f) ≡ Some why))
          → (r : Process) × Among (k, r) ((j, q) ∷ ps) × (first_of (leaks s r f) ≡ Some why)
      by [] are rest more = let later = more rest in (later.0, inr later.1, later.2)
      by (w ∷ whys) are rest more =
          let number : j ≡ k = ap (pid_or j) rest in
          let reason : w ≡ why = ap (why_or w) rest in
          (q, inl (λ i. (sym number i, q)), ap first_of are ∙ ap Some reason)

  -- if no process leaks the file, this one does not
  pub own-none : (pid : ℕ) (p : Process) → process_at s pid ≡ Some p → first_leak_of s f ≡ None → first_of (leaks s p f) ≡ None
  own-none pid p at none = none-all (live_processes s.processes) pid p none (live-listed s pid p at)

  -- the process that leaks it first does so for the first reason
  pub own-first : (pid : ℕ) (p : Process) (why : Why) → is_sorted nat_cmp s.processes ≡ true → process_at s pid ≡ Some p → first_leak_of s f ≡ Some (pid, why) → first_of (leaks s p f) ≡ Some why
  own-first pid p why sorted at is =
      let found = one-leaks (live_processes s.processes) pid why is in
      let there = listed-live s pid found.0 sorted found.1 in
      let same : p ≡ found.0 = cc (at, there) in
      ap (λ (q : Process). first_of (leaks s q f)) same ∙ found.2
