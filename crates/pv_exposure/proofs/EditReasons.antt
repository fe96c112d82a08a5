-- The reasons that the code finds for a process that is not fixed to a file are those of the definition.
use Rattle.std.specs.Prelude.{IsTrue, ◌↔◌}
use Rattle.std.proofs.Common.{◌≡◌, ◌∙◌, sym, ap, ℕ, Bool, true, false, not, ◌&&◌, ◌||◌, if◌then◌else◌, ◌==◌, List, [], ◌∷◌, ◌++◌, map, filter, Option, None, Some, refl, append_assoc, append-nil}
use Rattle.pv_audit.proofs.LeastNumbers.{least-fold}
use Rattle.pv_audit.specs.Findings.{least}
use Rattle.pv_audit.specs.Reasons.{descriptors_for, is_on, present_reasons}
use Rattle.pv_model.specs.declared.open_flags.Mode.{Mode}
use Rattle.pv_model.specs.declared.open_flags.Mode.TheVariants.{Read, Write, ReadWrite}
use Rattle.pv_model.specs.declared.promise.Promise.TheVariants.{Rpath, Wpath, Cpath, Exec as ExecPromise}
use Rattle.pv_model.specs.declared.verdict.Why.{Why}
use Rattle.pv_model.specs.declared.verdict.Why.TheVariants.{Reads as WhyReads, NoTable as WhyNoTable, NotLocked as WhyNotLocked, Gives as WhyGives, Above as WhyAbove, Exec as WhyExec}
use Rattle.pv_model.specs.Machine.{at_number, contains, covers, numbered, Descriptor, OpenFile, Process, State, Table, reads, writes}
use Rattle.pv_model.specs.Needs.{permissions_of_mode}
use Rattle.pv_model.specs.Perms.{permission_w}
use Rattle.pv_model.specs.Promises.{Promises}
use Rattle.pv_model.specs.Sealed
use Rattle.pv_model_questions.specs.declared.edit_reason.EditReason.{EditReason}
use Rattle.pv_model_questions.specs.declared.edit_reason.EditReason.TheVariants.{Writes, NoTable, NotLocked, Gives, Above, Exec}
use Rattle.pv_model_questions.specs.Fixed.{edit_least, edit_when, edits, edits_above, edits_of_table, is_held_in_place, lets_edit}
use Rattle.pv_exposure.specs.Editing.{above_among, above_of, above_or, edit_by_number, edit_unless, first_edit}

-- ---- lists of reasons

first-least : (why : ℕ → EditReason) (ks : List ℕ) (rest : List EditReason) → first_edit (edit_least why ks ++ rest) ≡ edit_by_number why (least ks) (first_edit rest)
first-least why [] rest = refl
first-least why (k ∷ ks) rest = sym (ap (λ (o : Option ℕ). edit_by_number why o (first_edit rest)) (least-fold k ks))

first-unless : (b : Bool) (why : EditReason) (rest : List EditReason) → first_edit (edit_when (not b) why ++ rest) ≡ edit_unless b why (first_edit rest)
first-unless true why rest = refl
first-unless false why rest = refl

last-unless : (b : Bool) (why : EditReason) → first_edit (edit_when (not b) why) ≡ edit_unless b why None
last-unless true why = refl
last-unless false why = refl

-- ---- descriptors

writes-w : (m : Mode) → writes m ≡ covers (permissions_of_mode m) permission_w
writes-w Read = refl
writes-w Write = refl
writes-w ReadWrite = refl

module _ (s : State) (p : Process) (f : ℕ) where
  opens-on : (o : Option OpenFile) → Sealed.opens s p f writes o ≡ is_on f permission_w o
  opens-on None = refl
  opens-on (Some file) = ap (λ b. (file.node == f) && b) (writes-w file.mode)

  descriptors-for : Sealed.descriptors_on s p f writes ≡ descriptors_for s.files p.descriptors f permission_w
  descriptors-for = λ i. map (λ (d : ℕ × Descriptor). d.0) (filter (λ (d : ℕ × Descriptor). opens-on (at_number s.files d.1.file) i) (numbered p.descriptors))

  -- ---- the table

  -- the entry above, unless the promises prevent the process from linking and moving anything
  abbrev pub above_unless : Bool → Table → Option ℕ
  above_unless in_place table = if in_place then None else least (Sealed.above s p f table)

  -- the first reason of a table
  abbrev pub table_edit : Table → Option EditReason
  table_edit table =
      edit_unless p.locked NotLocked
      (edit_by_number Gives (least (Sealed.giving s p f (lets_edit (is_held_in_place p)) table))
      (edit_by_number Above (above_unless (is_held_in_place p) table) (edit_unless (Sealed.is_held_over_exec s p f) Exec None)))

  first-above : (b : Bool) (table : Table) (rest : List EditReason) → first_edit (edits_above s p f b table ++ rest) ≡ edit_by_number Above (above_unless b table) (first_edit rest)
  first-above true table rest = refl
  first-above false table rest = first-least Above (Sealed.above s p f table) rest

  table-first : (table : Table) → first_edit (edits_of_table s p f (Some table)) ≡ table_edit table
  table-first table =
      let a = edit_when (not p.locked) NotLocked in
      let b = edit_least Gives (Sealed.giving s p f (lets_edit (is_held_in_place p)) table) in
      let c = edits_above s p f (is_held_in_place p) table in
      let d = edit_when (not (Sealed.is_held_over_exec s p f)) Exec in
      ap first_edit (append_assoc (a ++ b) c d ∙ append_assoc a b (c ++ d))
      ∙ first-unless p.locked NotLocked (b ++ (c ++ d))
      ∙ ap (edit_unless p.locked NotLocked)
      (first-least Gives (Sealed.giving s p f (lets_edit (is_held_in_place p)) table) (c ++ d)
      ∙ ap (edit_by_number Gives (least (Sealed.giving s p f (lets_edit (is_held_in_place p)) table)))
      (first-above (is_held_in_place p) table d ∙ ap (edit_by_number Above (above_unless (is_held_in_place p) table)) (last-unless (Sealed.is_held_over_exec s p f) Exec)))

  -- ---- all reasons

  pub edit-writes : (d : ℕ) → least (descriptors_for s.files p.descriptors f permission_w) ≡ Some d → first_edit (edits s p f) ≡ Some (Writes d)
  unfolding edits
  edit-writes d is =
      first-least Writes (Sealed.descriptors_on s p f writes) (if Sealed.is_pledged_without (Wpath ∷ ExecPromise ∷ []) p then [] else edits_of_table s p f p.table)
      ∙ ap (λ (o : Option ℕ). edit_by_number Writes o (first_edit (if Sealed.is_pledged_without (Wpath ∷ ExecPromise ∷ []) p then [] else edits_of_table s p f p.table)))
      (ap least descriptors-for ∙ is)

  pub edit-rest : least (descriptors_for s.files p.descriptors f permission_w) ≡ None
      → first_edit (edits s p f) ≡ first_edit (if Sealed.is_pledged_without (Wpath ∷ ExecPromise ∷ []) p then [] else edits_of_table s p f p.table)
  unfolding edits
  edit-rest is =
      first-least Writes (Sealed.descriptors_on s p f writes) (if Sealed.is_pledged_without (Wpath ∷ ExecPromise ∷ []) p then [] else edits_of_table s p f p.table)
      ∙ ap (λ (o : Option ℕ). edit_by_number Writes o (first_edit (if Sealed.is_pledged_without (Wpath ∷ ExecPromise ∷ []) p then [] else edits_of_table s p f p.table)))
      (ap least descriptors-for ∙ is)

  pub edit-pledged : least (descriptors_for s.files p.descriptors f permission_w) ≡ None → Sealed.is_pledged_without (Wpath ∷ ExecPromise ∷ []) p ≡ true → first_edit (edits s p f) ≡ None
  edit-pledged none is = edit-rest none ∙ ap (λ (b : Bool). first_edit (if b then [] else edits_of_table s p f p.table)) is

  pub edit-table : least (descriptors_for s.files p.descriptors f permission_w) ≡ None → Sealed.is_pledged_without (Wpath ∷ ExecPromise ∷ []) p ≡ false
      → first_edit (edits s p f) ≡ first_edit (edits_of_table s p f p.table)
  edit-table none is = edit-rest none ∙ ap (λ (b : Bool). first_edit (if b then [] else edits_of_table s p f p.table)) is

  pub no-table : p.table ≡ None → first_edit (edits_of_table s p f p.table) ≡ Some NoTable
  no-table is = ap (λ (o : Option Table). first_edit (edits_of_table s p f o)) is

  module _ (table : Table) (has : p.table ≡ Some table) where
    by-table : first_edit (edits_of_table s p f p.table) ≡ table_edit table
    by-table = ap (λ (o : Option Table). first_edit (edits_of_table s p f o)) has ∙ table-first table

    pub table-open : p.locked ≡ false → first_edit (edits_of_table s p f p.table) ≡ Some NotLocked
    table-open is =
        by-table
        ∙ ap (λ (b : Bool). edit_unless b NotLocked
        (edit_by_number Gives (least (Sealed.giving s p f (lets_edit (is_held_in_place p)) table))
        (edit_by_number Above (above_unless (is_held_in_place p) table) (edit_unless (Sealed.is_held_over_exec s p f) Exec None)))) is

    locked-table : p.locked ≡ true → first_edit (edits_of_table s p f p.table)
        ≡ edit_by_number Gives (least (Sealed.giving s p f (lets_edit (is_held_in_place p)) table))
        (edit_by_number Above (above_unless (is_held_in_place p) table) (edit_unless (Sealed.is_held_over_exec s p f) Exec None))
    locked-table is =
        by-table
        ∙ ap (λ (b : Bool). edit_unless b NotLocked
        (edit_by_number Gives (least (Sealed.giving s p f (lets_edit (is_held_in_place p)) table))
        (edit_by_number Above (above_unless (is_held_in_place p) table) (edit_unless (Sealed.is_held_over_exec s p f) Exec None)))) is

    -- given the entries that give and that are above, and whether the process is held over execve
    pub table-all : (gives above : Option ℕ) (held : Bool) → p.locked ≡ true → least (Sealed.giving s p f (lets_edit (is_held_in_place p)) table) ≡ gives
        → above_unless (is_held_in_place p) table ≡ above → Sealed.is_held_over_exec s p f ≡ held
        → first_edit (edits_of_table s p f p.table) ≡ edit_by_number Gives gives (edit_by_number Above above (edit_unless held Exec None))
    table-all gives above held locked g a h = locked-table locked ∙ (λ i. edit_by_number Gives (g i) (edit_by_number Above (a i) (edit_unless (h i) Exec None)))

    pub table-gives : (k : ℕ) → p.locked ≡ true → least (Sealed.giving s p f (lets_edit (is_held_in_place p)) table) ≡ Some k → first_edit (edits_of_table s p f p.table) ≡ Some (Gives k)
    table-gives k locked g = table-all (Some k) (above_unless (is_held_in_place p) table) (Sealed.is_held_over_exec s p f) locked g refl refl

-- ---- the entry above among the reasons of a leak

-- the first entry above among reasons
abbrev pub above_in : List Why → Option ℕ
above_in [] = None
above_in (WhyAbove k ∷ whys) = Some k
above_in (_ ∷ whys) = above_in whys

among-present : (os : List (Option Why)) → above_among os ≡ above_in (present_reasons os)
among-present [] = refl
among-present (None ∷ os) = among-present os
among-present (Some why ∷ os) = by why (among-present os)
  where
    by : (w : Why) → above_among os ≡ above_in (present_reasons os) → above_or (above_of (Some w)) (above_among os) ≡ above_in (w ∷ present_reasons os)
    by (WhyAbove k) is = refl
    by (WhyReads d) is = is
    by WhyNoTable is = is
    by WhyNotLocked is = is
    by (WhyGives k) is = is
    by WhyExec is = is

past-reads : (ks : List ℕ) (rest : List Why) → above_in (Sealed.least_first WhyReads ks ++ rest) ≡ above_in rest
past-reads [] rest = refl
past-reads (k ∷ ks) rest = refl

past-gives : (ks : List ℕ) (rest : List Why) → above_in (Sealed.least_first WhyGives ks ++ rest) ≡ above_in rest
past-gives [] rest = refl
past-gives (k ∷ ks) rest = refl

past-lock : (b : Bool) (rest : List Why) → above_in (Sealed.when b WhyNotLocked ++ rest) ≡ above_in rest
past-lock true rest = refl
past-lock false rest = refl

at-above : (ks : List ℕ) (b : Bool) → above_in (Sealed.least_first WhyAbove ks ++ Sealed.when b WhyExec) ≡ least ks
at-above [] true = refl
at-above [] false = refl
at-above (k ∷ ks) b = sym (least-fold k ks)

-- a process that can link or move something is not pledged without the promises that open a file
not-without : (o : Option Promises) → Sealed.has_none_of (Cpath ∷ ExecPromise ∷ []) o ≡ false → Sealed.has_none_of (Rpath ∷ ExecPromise ∷ Cpath ∷ []) o ≡ false
not-without None is = refl
not-without (Some held) is = by (not (contains held Rpath)) (not (contains held ExecPromise)) (not (contains held Cpath)) is
  where
    by : (a b c : Bool) → (c && (b && true)) ≡ false → (a && (b && (c && true))) ≡ false
    by true true true is = cc
    by true true false is = refl
    by true false c is = refl
    by false b c is = refl

module _ (s : State) (p : Process) (f : ℕ) (table : Table) (has : p.table ≡ Some table) (moves : is_held_in_place p ≡ false) where
  above-leaks : above_in (Sealed.leaks s p f) ≡ least (Sealed.above s p f table)
  unfolding Sealed.leaks
  above-leaks =
      let a = Sealed.when (not p.locked) WhyNotLocked in
      let b = Sealed.least_first WhyGives (Sealed.giving s p f (λ permissions. permissions.r || permissions.x || permissions.c) table) in
      let c = Sealed.least_first WhyAbove (Sealed.above s p f table) in
      let d = Sealed.when (not (Sealed.is_held_over_exec s p f)) WhyExec in
      past-reads (Sealed.descriptors_on s p f reads) (if Sealed.is_pledged_without (Rpath ∷ ExecPromise ∷ Cpath ∷ []) p then [] else Sealed.leaks_of_table s p f p.table)
      ∙ ap (λ (x : Bool). above_in (if x then [] else Sealed.leaks_of_table s p f p.table)) (not-without p.promises moves)
      ∙ ap (λ (o : Option Table). above_in (Sealed.leaks_of_table s p f o)) has
      ∙ ap above_in (append_assoc (a ++ b) c d ∙ append_assoc a b (c ++ d))
      ∙ past-lock (not p.locked) (b ++ (c ++ d))
      ∙ past-gives (Sealed.giving s p f (λ permissions. permissions.r || permissions.x || permissions.c) table) (c ++ d)
      ∙ at-above (Sealed.above s p f table) (not (Sealed.is_held_over_exec s p f))

  pub least-above : (os : List (Option Why)) → present_reasons os ≡ Sealed.leaks s p f → above_among os ≡ least (Sealed.above s p f table)
  least-above os is = among-present os ∙ ap above_in is ∙ above-leaks

-- ---- a table that the code has

pub has-table : (o : Option Table) (b : Bool) → (IsTrue b ↔ (o ≡ None)) → b ≡ false → (table : Table) × (o ≡ Some table)
has-table None b iff is = absurd (let yes' : b ≡ true = iff.1 refl in let bad : true ≡ false = sym yes' ∙ is in cc bad)
has-table (Some table) b iff is = (table, refl)
