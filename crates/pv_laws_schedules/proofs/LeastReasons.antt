-- The reasons why a process is not closed to a file: the least of each kind that holds.
use Rattle.std.proofs.Common.{◌≡◌, ◌↔◌, ℕ, ◌≤◌, Bool, true, false, not, ◌&&◌, if◌then◌else◌, List, [], ◌∷◌, ◌++◌, fold, min, Option, None, Some, refl, ap, sym, subst, ◌∙◌, ◌⊎◌, inl, inr, ⊎_elim, arith}
use Rattle.std.proofs.lemmas.Bool.{and_parts, and_from}
use Rattle.pv_model.specs.declared.promise.Promise.TheVariants.{Rpath, Cpath, Exec as ExecPromise}
use Rattle.pv_model.specs.declared.verdict.Why.{Why}
use Rattle.pv_model.specs.declared.verdict.Why.TheVariants.{Reads, NoTable, NotLocked, Gives, Above, Exec}
use Rattle.pv_model.specs.Machine.{Promises, contains, Process, State, reads, IsWellFormed, Table}
use Rattle.pv_model.specs.Closed
use Rattle.pv_model.specs.Sealed
use Rattle.pv_laws_trees.proofs.ListMembers.{In, least-in, least-low}
use Rattle.pv_laws_access.proofs.Verdicts.{one}
use Rattle.pv_laws_answers.proofs.CompleteSearches.{among-contains}
use Rattle.pv_laws_answers.proofs.Lists.{Among, among-either, among-left, among-right}
use Rattle.pv_laws_classes.proofs.ReducedProcesses.{themselves}
use Rattle.pv_laws_schedules.specs.LeastReasons.{IsLeastReason, LeaksAreLeastReasons}
use Rattle.pv_laws_schedules.proofs.FixedProcesses.{givers, governors, openers, over-exec}

-- ---- lists of at most one reason

abbrev IsLeast : List ℕ → ℕ → Type 0
IsLeast ks k = In ℕ k ks × ((j : ℕ) → In ℕ j ks → k ≤ j)

least-listed : (why : ℕ → Why) (ks : List ℕ) (k : ℕ) → IsLeast ks k → Among (why k) (Sealed.least_first why ks)
least-listed why [] k least = absurd least.0
least-listed why (n ∷ ns) k least =
    let same : k ≡ fold min n ns = omega (arith, least-low n ns k least.0, least.1 (fold min n ns) (least-in n ns)) in inl (ap why same)

listed-least : (why : ℕ → Why) (ks : List ℕ) (w : Why) → Among w (Sealed.least_first why ks) → (k : ℕ) × IsLeast ks k × (w ≡ why k)
listed-least why [] w none = absurd none
listed-least why (n ∷ ns) w (inl e) = (fold min n ns, (least-in n ns, least-low n ns), e)
listed-least why (n ∷ ns) w (inr none) = absurd none

when-listed : (b : Bool) (why : Why) → b ≡ true → Among why (Sealed.when b why)
when-listed true why is = inl refl
when-listed false why is = cc is

listed-when : (b : Bool) (why w : Why) → Among w (Sealed.when b why) → (b ≡ true) × (w ≡ why)
listed-when true why w (inl e) = (refl, e)
listed-when true why w (inr none) = absurd none
listed-when false why w none = absurd none

unless : (b : Bool) → not b ≡ true → b ≡ false
unless true is = cc is
unless false is = refl

-- ---- a process and a file

module _ (s : State) (p : Process) (f : ℕ) (w : IsWellFormed s.tree) where
  abbrev reading : List ℕ
  reading = Sealed.descriptors_on s p f reads

  -- the descriptors on the file that can read
  readers : (d : ℕ) → In ℕ d reading ↔ Closed.HasOn s p f reads d
  readers = openers s p f w reads

  module _ (table : Table) where
    abbrev giving : List ℕ
    giving = Sealed.giving s p f Closed.opens_or_moves table

    -- the entries that govern a name of the file and give a permission
    named : (k : ℕ) → In ℕ k giving ↔ Closed.GivesName s p f table Closed.opens_or_moves k
    named = givers s p f w table Closed.opens_or_moves

    abbrev higher : List ℕ
    higher = Sealed.above s p f table

    -- the entries with c that govern a directory of the file, or one above
    raised : (k : ℕ) → In ℕ k higher ↔ Closed.GivesAbove s p f table k
    raised = governors s p f w table

  -- ---- promises

  abbrev pledged : Bool
  pledged = Sealed.is_pledged_without (Rpath ∷ ExecPromise ∷ Cpath ∷ []) p

  abbrev Each : Option Promises → Type 0
  Each o = (Sealed.has_none_of (Rpath ∷ []) o ≡ true) × (Sealed.has_none_of (ExecPromise ∷ []) o ≡ true) × (Sealed.has_none_of (Cpath ∷ []) o ≡ true)

  shut : pledged ≡ true ↔ Closed.IsClosedByPledge s p f
  shut = (
    λ is. (let each = parts p.promises is in record { no_rpath = (one p Rpath).0 each.0; no_exec = (one p ExecPromise).0 each.1; no_cpath = (one p Cpath).0 each.2 }),
    λ shut. whole p.promises ((one p Rpath).1 shut.no_rpath, (one p ExecPromise).1 shut.no_exec, (one p Cpath).1 shut.no_cpath),
  )
    where
      parts : (o : Option Promises) → Sealed.has_none_of (Rpath ∷ ExecPromise ∷ Cpath ∷ []) o ≡ true → Each o
      parts None is = cc is
      parts (Some held) is =
          let first = and_parts (not (contains held Rpath)) (not (contains held ExecPromise) && (not (contains held Cpath) && true)) is in
          let second = and_parts (not (contains held ExecPromise)) (not (contains held Cpath) && true) first.1 in
          (and_from _ true first.0 refl, and_from _ true second.0 refl, second.1)

      whole : (o : Option Promises) → Each o → Sealed.has_none_of (Rpath ∷ ExecPromise ∷ Cpath ∷ []) o ≡ true
      whole None each = each.0
      whole (Some held) each =
          and_from _ _ (and_parts (not (contains held Rpath)) true each.0).0 (and_from _ _ (and_parts (not (contains held ExecPromise)) true each.1).0 each.2)

  abbrev held : Bool
  held = Sealed.is_held_over_exec s p f

  -- ---- the list

  abbrev of_table : Option Table → List Why
  of_table o = Sealed.leaks_of_table s p f o

  leaks-are : Sealed.leaks s p f ≡ Sealed.least_first Reads reading ++ (if pledged then [] else of_table p.table)
  unfolding Sealed.leaks
  leaks-are = refl

  abbrev locks : List Why
  locks = Sealed.when (not p.locked) NotLocked

  abbrev names : Table → List Why
  names table = Sealed.least_first Gives (giving table)

  abbrev above : Table → List Why
  above table = Sealed.least_first Above (higher table)

  abbrev execs : List Why
  execs = Sealed.when (not held) Exec

  not-shut : pledged ≡ false → ¬ Closed.IsClosedByPledge s p f
  not-shut is pledge = let both : true ≡ false = sym (shut.1 pledge) ∙ is in cc both

  shut-not : ¬ Closed.IsClosedByPledge s p f → pledged ≡ false
  shut-not open_to = by pledged refl
    where
      by : (b : Bool) → pledged ≡ b → b ≡ false
      by true is = absurd (open_to (shut.0 is))
      by false is = refl

  same-table : (o : Option Table) → (table other : Table) → o ≡ Some table → o ≡ Some other → table ≡ other
  same-table o table other is is' = let both : Some table ≡ Some other = sym is ∙ is' in cc both

  abbrev Reason : Why → Type 0
  Reason = Closed.IsReason s p f

  abbrev Least : Why → Type 0
  Least = IsLeastReason s p f

  -- ---- each listed reason holds, and is the least of its kind

  least-reads : (k : ℕ) → IsLeast reading k → Least (Reads k)
  least-reads k least = record { holds = Closed.by_reading k ((readers k).0 least.0); least = by }
    where
      by : (other : Why) → Reason other → Closed.sort_of other ≡ 0 → k ≤ Closed.why_number other
      by _ (Closed.by_reading d has) same = least.1 d ((readers d).1 has)
      by _ (Closed.by_no_table open_to none) same = absurd (omega (arith, same))
      by _ (Closed.by_no_lock t open_to is free) same = absurd (omega (arith, same))
      by _ (Closed.by_name t j open_to is gives) same = absurd (omega (arith, same))
      by _ (Closed.by_directory t j open_to is gives) same = absurd (omega (arith, same))
      by _ (Closed.by_exec t open_to is free) same = absurd (omega (arith, same))

  module _ (open_to : ¬ Closed.IsClosedByPledge s p f) (table : Table) (in_force : p.table ≡ Some table) where
    least-gives : (k : ℕ) → IsLeast (giving table) k → Least (Gives k)
    least-gives k least = record { holds = Closed.by_name table k open_to in_force ((named table k).0 least.0); least = by }
      where
        by : (other : Why) → Reason other → Closed.sort_of other ≡ 3 → k ≤ Closed.why_number other
        by _ (Closed.by_reading d has) same = absurd (omega (arith, same))
        by _ (Closed.by_no_table open_to none) same = absurd (omega (arith, same))
        by _ (Closed.by_no_lock t open_to is free) same = absurd (omega (arith, same))
        by _ (Closed.by_name t j open_to is gives) same =
            least.1 j ((named table j).1 (subst (λ (t : Table). Closed.GivesName s p f t Closed.opens_or_moves j) (same-table p.table t table is in_force) gives))
        by _ (Closed.by_directory t j open_to is gives) same = absurd (omega (arith, same))
        by _ (Closed.by_exec t open_to is free) same = absurd (omega (arith, same))

    least-above : (k : ℕ) → IsLeast (higher table) k → Least (Above k)
    least-above k least = record { holds = Closed.by_directory table k open_to in_force ((raised table k).0 least.0); least = by }
      where
        by : (other : Why) → Reason other → Closed.sort_of other ≡ 4 → k ≤ Closed.why_number other
        by _ (Closed.by_reading d has) same = absurd (omega (arith, same))
        by _ (Closed.by_no_table open_to none) same = absurd (omega (arith, same))
        by _ (Closed.by_no_lock t open_to is free) same = absurd (omega (arith, same))
        by _ (Closed.by_name t j open_to is gives) same = absurd (omega (arith, same))
        by _ (Closed.by_directory t j open_to is gives) same =
            least.1 j ((raised table j).1 (subst (λ (t : Table). Closed.GivesAbove s p f t j) (same-table p.table t table is in_force) gives))
        by _ (Closed.by_exec t open_to is free) same = absurd (omega (arith, same))

  -- a reason without a number is the least of its kind
  alone : (why : Why) → Reason why → Closed.why_number why ≡ 0 → Least why
  alone why holds none = record { holds = holds; least = λ other is same. omega (arith, none) }

  table-least : ¬ Closed.IsClosedByPledge s p f → (o : Option Table) → p.table ≡ o → (why : Why) → Among why (of_table o) → Least why
  table-least open_to None at why (inl e) = subst Least (sym e) (alone NoTable (Closed.by_no_table open_to at) refl)
  table-least open_to None at why (inr none) = absurd none
  table-least open_to (Some table) at why h =
      ⊎_elim
      (λ left.
      ⊎_elim
      (λ left.
      ⊎_elim
      (λ l. (let is = listed-when (not p.locked) NotLocked why l in subst Least (sym is.1) (alone NotLocked (Closed.by_no_lock table open_to at (unless p.locked is.0)) refl)))
      (λ l. (let k = listed-least Gives (giving table) why l in subst Least (sym k.2) (least-gives open_to table at k.0 k.1)))
      (among-either why locks (names table) left))
      (λ l. (let k = listed-least Above (higher table) why l in subst Least (sym k.2) (least-above open_to table at k.0 k.1)))
      (among-either why (locks ++ names table) (above table) left))
      (λ l.
      let is = listed-when (not held) Exec why l in
      subst Least (sym is.1) (alone Exec (Closed.by_exec table open_to at (λ over. (let both : true ≡ false = sym ((over-exec s p f w).1 over) ∙ unless held is.0 in cc both))) refl))
      (among-either why (locks ++ names table ++ above table) execs h)

  listed-holds : (why : Why) → Among why (Sealed.leaks s p f) → Least why
  listed-holds why h =
      ⊎_elim (λ l. (let k = listed-least Reads reading why l in subst Least (sym k.2) (least-reads k.0 k.1))) (by pledged refl)
      (among-either why (Sealed.least_first Reads reading) (if pledged then [] else of_table p.table) (subst (Among why) leaks-are h))
    where
      by : (b : Bool) → pledged ≡ b → Among why (if b then [] else of_table p.table) → Least why
      by true is none = absurd none
      by false is l = table-least (not-shut is) p.table refl why l

  -- ---- each reason that is the least of its kind is listed

  in-table : (table : Table) (why : Why) → ¬ Closed.IsClosedByPledge s p f → p.table ≡ Some table
      → Among why locks ⊎ (Among why (names table) ⊎ (Among why (above table) ⊎ Among why execs)) → Among why (Sealed.leaks s p f)
  in-table table why open_to in_force l =
      subst (Among why) (sym leaks-are)
      (among-right why (Sealed.least_first Reads reading) (if pledged then [] else of_table p.table)
      (subst (λ (b : Bool). Among why (if b then [] else of_table p.table)) (sym (shut-not open_to))
      (subst (λ (o : Option Table). Among why (of_table o)) (sym in_force) (by l))))
    where
      by : Among why locks ⊎ (Among why (names table) ⊎ (Among why (above table) ⊎ Among why execs)) → Among why (of_table (Some table))
      by (inl l) = among-left why (locks ++ names table ++ above table) execs (among-left why (locks ++ names table) (above table) (among-left why locks (names table) l))
      by (inr (inl l)) = among-left why (locks ++ names table ++ above table) execs (among-left why (locks ++ names table) (above table) (among-right why locks (names table) l))
      by (inr (inr (inl l))) = among-left why (locks ++ names table ++ above table) execs (among-right why (locks ++ names table) (above table) l)
      by (inr (inr (inr l))) = among-right why (locks ++ names table ++ above table) execs l

  holds-listed : (why : Why) → Reason why → ((other : Why) → Reason other → Closed.sort_of other ≡ Closed.sort_of why → Closed.why_number why ≤ Closed.why_number other) → Among why (Sealed.leaks s p f)
  holds-listed _ (Closed.by_reading d has) least =
      subst (Among (Reads d)) (sym leaks-are)
      (among-left (Reads d) (Sealed.least_first Reads reading) (if pledged then [] else of_table p.table)
      (least-listed Reads reading d ((readers d).1 has, λ j h. least (Reads j) (Closed.by_reading j ((readers j).0 h)) refl)))
  holds-listed _ (Closed.by_no_table open_to none) least =
      subst (Among NoTable) (sym leaks-are)
      (among-right NoTable (Sealed.least_first Reads reading) (if pledged then [] else of_table p.table)
      (subst (λ (b : Bool). Among NoTable (if b then [] else of_table p.table)) (sym (shut-not open_to))
      (subst (λ (o : Option Table). Among NoTable (of_table o)) (sym none) (inl refl))))
  holds-listed _ (Closed.by_no_lock t open_to is free) least = in-table t NotLocked open_to is (inl (when-listed (not p.locked) NotLocked (ap not free)))
  holds-listed _ (Closed.by_name t k open_to is gives) least =
      in-table t (Gives k) open_to is
      (inr (inl (least-listed Gives (giving t) k ((named t k).1 gives, λ j h. least (Gives j) (Closed.by_name t j open_to is ((named t j).0 h)) refl))))
  holds-listed _ (Closed.by_directory t k open_to is gives) least =
      in-table t (Above k) open_to is
      (inr (inr (inl (least-listed Above (higher t) k ((raised t k).1 gives, λ j h. least (Above j) (Closed.by_directory t j open_to is ((raised t j).0 h)) refl)))))
  holds-listed _ (Closed.by_exec t open_to is free) least = in-table t Exec open_to is (inr (inr (inr (when-listed (not held) Exec (by held refl)))))
    where
      by : (b : Bool) → held ≡ b → not b ≡ true
      by true over = absurd (free ((over-exec s p f w).0 over))
      by false over = refl

pub least-reasons : LeaksAreLeastReasons
least-reasons s p f why w = (
  λ listed. listed-holds s p f w why (themselves (Sealed.leaks s p f) why listed),
  λ least. among-contains why (Sealed.leaks s p f) (holds-listed s p f w why least.holds least.least),
)
