-- The tests of an audit agree with the conditions of closed and frozen, and the reported reason is the first.
use Rattle.std.proofs.Common.{◌≡◌, ◌≢◌, ◌↔◌, ℕ, ◌≤◌, lit<, Bool, true, false, not, ◌&&◌, if◌then◌else◌, ◌==◌, List, [], ◌∷◌, ◌++◌, map, filter, fold, min, Option, None, Some, is_some, refl, ap, sym, subst, ◌∙◌, ◌⊎◌, inl, inr, ⊎_elim, arith}
use Rattle.std.specs.List.{list_all}
use Rattle.std.specs.Option.{option_or}
use Rattle.std.proofs.lemmas.Bool.{and_parts, and_from, or_cases, or_left, or_right, eqb-true, eq-eqb, cases_Bool}
use Rattle.std.proofs.lemmas.List.{append_assoc}
use Rattle.pv_model.specs.declared.open_flags.Mode.{Mode}
use Rattle.pv_model.specs.declared.perms.Perms.{Perms}
use Rattle.pv_model.specs.declared.promise.Promise.{Promise}
use Rattle.pv_model.specs.declared.promise.Promise.TheVariants.{Rpath, Wpath, Cpath, Exec as ExecPromise}
use Rattle.pv_model.specs.declared.target.Target.TheVariants.{Name}
use Rattle.pv_model.specs.declared.verdict.Leak.{Leak}
use Rattle.pv_model.specs.declared.verdict.Verdict.{Verdict}
use Rattle.pv_model.specs.declared.verdict.Verdict.TheVariants as TheVerdict
use Rattle.pv_model.specs.declared.verdict.Why.{Why}
use Rattle.pv_model.specs.declared.verdict.Why.TheVariants.{Reads, NoTable, NotLocked, Gives, Above, Exec}
use Rattle.pv_model.specs.Machine.{Bytes, is_empty, live_processes, at_number, numbered, Promises, contains, OpenFile, Descriptor, Process, State, reads, writes, names_of, ancestors, IsWellFormed, Table, entry_for, permissions_at, directory_rights}
use Rattle.pv_model.specs.Closed
use Rattle.pv_model.specs.Sealed
use Rattle.pv_model.proofs.GoverningEntries.{Governs-directory_rights, directory_rights-Governs}
use Rattle.pv_laws_trees.proofs.Ancestors.{ancestors-above}
use Rattle.pv_laws_trees.proofs.Trees.{IsOrdered, ordered, sound}
use Rattle.pv_laws_access.specs.Reasons.{IsFirstReason, IsFirstLeak, IsExact}
use Rattle.pv_laws_trees.proofs.ListMembers.{In, empty-from, none-in, in-map, map-in, in-filter, filter-in, in-preserved, preserved-in, in-flat, flat-in, any-in, in-any, least-in, least-low, numbered-at, at-numbered, entry-in, in-entry}

-- ---- promises

lacks : (p : Process) (q : Promise) (held : Promises) → p.promises ≡ Some held → not (contains held q) ≡ true → Closed.Lacks p q
lacks p q held is without = (held, is, no (contains held q) without)
  where
    no : (b : Bool) → not b ≡ true → b ≡ false
    no true bad = cc bad
    no false fine = refl

lacked : (p : Process) (q : Promise) (held : Promises) → p.promises ≡ Some held → Closed.Lacks p q → not (contains held q) ≡ true
lacked p q held is l =
    let same : l.0 ≡ held = let both : Some l.0 ≡ Some held = sym l.1 ∙ is in cc both in
    ap (λ (h : Promises). not (contains h q)) (sym same) ∙ ap not l.2

pub one : (p : Process) (a : Promise) → (Sealed.is_pledged_without (a ∷ []) p ≡ true) ↔ Closed.Lacks p a
one p a = (by p.promises refl, λ l. from p.promises refl l)
  where
    by : (o : Option Promises) → p.promises ≡ o → Sealed.has_none_of (a ∷ []) o ≡ true → Closed.Lacks p a
    by None is none = cc none
    by (Some held) is none = lacks p a held is (and_parts (not (contains held a)) true none).0

    from : (o : Option Promises) → p.promises ≡ o → Closed.Lacks p a → Sealed.has_none_of (a ∷ []) o ≡ true
    from None is l = let both : None ≡ Some l.0 = sym is ∙ l.1 in cc both
    from (Some held) is l = and_from _ true (lacked p a held is l) refl

two : (p : Process) (a b : Promise) → (Sealed.is_pledged_without (a ∷ b ∷ []) p ≡ true) ↔ (Closed.Lacks p a × Closed.Lacks p b)
two p a b = (by p.promises refl, λ l. from p.promises refl l.0 l.1)
  where
    by : (o : Option Promises) → p.promises ≡ o → Sealed.has_none_of (a ∷ b ∷ []) o ≡ true → Closed.Lacks p a × Closed.Lacks p b
    by None is none = cc none
    by (Some held) is none =
        let first = and_parts (not (contains held a)) (not (contains held b) && true) none in
        (lacks p a held is first.0, lacks p b held is (and_parts (not (contains held b)) true first.1).0)

    from : (o : Option Promises) → p.promises ≡ o → Closed.Lacks p a → Closed.Lacks p b → Sealed.has_none_of (a ∷ b ∷ []) o ≡ true
    from None is l m = let both : None ≡ Some l.0 = sym is ∙ l.1 in cc both
    from (Some held) is l m = and_from _ _ (lacked p a held is l) (and_from _ true (lacked p b held is m) refl)

three : (p : Process) (a b c : Promise) → (Sealed.is_pledged_without (a ∷ b ∷ c ∷ []) p ≡ true) ↔ (Closed.Lacks p a × Closed.Lacks p b × Closed.Lacks p c)
three p a b c = (by p.promises refl, λ l. from p.promises refl l.0 l.1 l.2)
  where
    by : (o : Option Promises) → p.promises ≡ o → Sealed.has_none_of (a ∷ b ∷ c ∷ []) o ≡ true → Closed.Lacks p a × Closed.Lacks p b × Closed.Lacks p c
    by None is none = cc none
    by (Some held) is none =
        let first = and_parts (not (contains held a)) (not (contains held b) && (not (contains held c) && true)) none in
        let second = and_parts (not (contains held b)) (not (contains held c) && true) first.1 in
        (lacks p a held is first.0, lacks p b held is second.0, lacks p c held is (and_parts (not (contains held c)) true second.1).0)

    from : (o : Option Promises) → p.promises ≡ o → Closed.Lacks p a → Closed.Lacks p b → Closed.Lacks p c → Sealed.has_none_of (a ∷ b ∷ c ∷ []) o ≡ true
    from None is l m n = let both : None ≡ Some l.0 = sym is ∙ l.1 in cc both
    from (Some held) is l m n = and_from _ _ (lacked p a held is l) (and_from _ _ (lacked p b held is m) (and_from _ true (lacked p c held is n) refl))

-- ---- lists

least-none : (why : ℕ → Why) (ks : List ℕ) → Sealed.least_first why ks ≡ [] → ks ≡ []
least-none why [] none = refl
least-none why (k ∷ ks) none = cc none

left-none : (xs ys : List Why) → xs ++ ys ≡ [] → xs ≡ []
left-none [] ys none = refl
left-none (x ∷ xs) ys none = cc none

right-none : (xs ys : List Why) → xs ++ ys ≡ [] → ys ≡ []
right-none [] ys none = none
right-none (x ∷ xs) ys none = cc none

when-none : (b : Bool) (why : Why) → Sealed.when b why ≡ [] → b ≡ false
when-none true why none = cc none
when-none false why none = refl

unset : (b : Bool) → not b ≡ false → b ≡ true
unset true is = refl
unset false is = cc is

-- the first element of a concatenation
first-least : (why : ℕ → Why) (ks : List ℕ) (rest : List Why) (w : Why) (ws : List Why) → Sealed.least_first why ks ++ rest ≡ w ∷ ws
    → ((k : ℕ) × In ℕ k ks × ((j : ℕ) → In ℕ j ks → k ≤ j) × (why k ≡ w)) ⊎ ((ks ≡ []) × (rest ≡ w ∷ ws))
first-least why [] rest w ws is = inr (refl, is)
first-least why (k ∷ ks) rest w ws is = let named : why (fold min k ks) ≡ w = cc is in inl (fold min k ks, least-in k ks, least-low k ks, named)

first-when : (b : Bool) (why : Why) (rest : List Why) (w : Why) (ws : List Why) → Sealed.when b why ++ rest ≡ w ∷ ws → ((b ≡ true) × (why ≡ w)) ⊎ ((b ≡ false) × (rest ≡ w ∷ ws))
first-when true why rest w ws is = let named : why ≡ w = cc is in inl (refl, named)
first-when false why rest w ws is = inr (refl, is)

-- ---- a process and a file

module _ (s : State) (p : Process) (f : ℕ) (w : IsWellFormed s.tree) where
  rank : IsOrdered s.tree
  rank = ordered s.tree (sound s.tree w).each_node

  on-in : (test : Mode → Bool) (d : ℕ) → Closed.HasOn s p f test d → In ℕ d (Sealed.descriptors_on s p f test)
  on-in test d has =
      let passes : Sealed.opens s p f test (at_number s.files has.0.file) ≡ true = ap (Sealed.opens s p f test) has.3 ∙ and_from _ _ (eq-eqb has.1.node f has.4) has.5 in
      in-map (ℕ × Descriptor) ℕ (λ (x : ℕ × Descriptor). x.0) (filter (λ (x : ℕ × Descriptor). Sealed.opens s p f test (at_number s.files x.1.file)) (numbered p.descriptors)) (d, has.0)
      (in-filter (ℕ × Descriptor) (λ (x : ℕ × Descriptor). Sealed.opens s p f test (at_number s.files x.1.file)) (numbered p.descriptors) (d, has.0) (numbered-at Descriptor p.descriptors d has.0 has.2) passes)

  in-on : (test : Mode → Bool) (d : ℕ) → In ℕ d (Sealed.descriptors_on s p f test) → Closed.HasOn s p f test d
  in-on test d is =
      let e = map-in (ℕ × Descriptor) ℕ (λ (x : ℕ × Descriptor). x.0) (filter (λ (x : ℕ × Descriptor). Sealed.opens s p f test (at_number s.files x.1.file)) (numbered p.descriptors)) d is in
      let preserved = filter-in (ℕ × Descriptor) (λ (x : ℕ × Descriptor). Sealed.opens s p f test (at_number s.files x.1.file)) (numbered p.descriptors) e.0 e.1 in
      let there : at_number p.descriptors d ≡ Some e.0.1 = ap (at_number p.descriptors) (sym e.2) ∙ at-numbered Descriptor p.descriptors e.0 preserved.0 in
      by e.0.1 there (at_number s.files e.0.1.file) refl preserved.1
    where
      by : (x : Descriptor) → at_number p.descriptors d ≡ Some x → (o : Option OpenFile) → at_number s.files x.file ≡ o → Sealed.opens s p f test o ≡ true → Closed.HasOn s p f test d
      by x there None at passes = cc passes
      by x there (Some file) at passes = let parts = and_parts (file.node == f) (test file.mode) passes in (x, file, there, at, eqb-true file.node f parts.0, parts.1)

  -- the entry that governs a name
  governs-found : (table : Table) (d : ℕ) (name : Bytes) (k : ℕ) → Closed.GovernsName s.tree table d name k → Sealed.governs_name s p f table (d, name) ≡ Some k
  governs-found table d name _ (Closed.by_name k is) = ap (λ o. option_or o (directory_rights s.tree table d)) is
  governs-found table d name _ (Closed.by_directory k is above) = ap (λ o. option_or o (directory_rights s.tree table d)) is ∙ directory_rights-Governs s.tree table d k above

  pub found-governs : (table : Table) (d : ℕ) (name : Bytes) (k : ℕ) → Sealed.governs_name s p f table (d, name) ≡ Some k → Closed.GovernsName s.tree table d name k
  found-governs table d name k is = by (entry_for table (Name d name)) refl is
    where
      by : (o : Option ℕ) → entry_for table (Name d name) ≡ o → option_or o (directory_rights s.tree table d) ≡ Some k → Closed.GovernsName s.tree table d name k
      by None none found = Closed.by_directory k none (Governs-directory_rights s.tree table d k found)
      by (Some j) own found = Closed.by_name k (own ∙ found)

  given-in : (table : Table) (test : Perms → Bool) (k : ℕ) → Closed.GivesName s p f table test k → In ℕ k (Sealed.giving s p f test table)
  given-in table test k gives =
      let governs = Sealed.governs_name s p f table in
      in-filter ℕ (λ k. test (permissions_at table k)) (Rattle.std.specs.Prelude.filter_map (λ (k : Option ℕ). k) (map governs (names_of s.tree f))) k
      (in-preserved ℕ (map governs (names_of s.tree f)) k
      (subst (λ o. In (Option ℕ) o (map governs (names_of s.tree f))) (governs-found table gives.0 gives.1 k gives.3)
      (in-map (ℕ × Bytes) (Option ℕ) governs (names_of s.tree f) (gives.0, gives.1) (entry-in s.tree f gives.0 gives.1 gives.2))))
      gives.4

  in-given : (table : Table) (test : Perms → Bool) (k : ℕ) → In ℕ k (Sealed.giving s p f test table) → Closed.GivesName s p f table test k
  in-given table test k is =
      let governs = Sealed.governs_name s p f table in
      let preserved = filter-in ℕ (λ k. test (permissions_at table k)) (Rattle.std.specs.Prelude.filter_map (λ (k : Option ℕ). k) (map governs (names_of s.tree f))) k is in
      let name = map-in (ℕ × Bytes) (Option ℕ) governs (names_of s.tree f) (Some k) (preserved-in ℕ (map governs (names_of s.tree f)) k preserved.0) in
      (name.0.0, name.0.1, in-entry s.tree rank f name.0 name.1, found-governs table name.0.0 name.0.1 k name.2, preserved.1)

  above-in : (table : Table) (k : ℕ) → Closed.GivesAbove s p f table k → In ℕ k (Sealed.above s p f table)
  above-in table k gives =
      let rights = directory_rights s.tree table in
      let ds = Sealed.directories s p f in
      in-filter ℕ (λ k. (permissions_at table k).c) (Rattle.std.specs.Prelude.filter_map (λ (k : Option ℕ). k) (map rights ds)) k
      (in-preserved ℕ (map rights ds) k
      (subst (λ o. In (Option ℕ) o (map rights ds)) (directory_rights-Governs s.tree table gives.2 k gives.5)
      (in-map ℕ (Option ℕ) rights ds gives.2
      (in-flat (ℕ × Bytes) ℕ (λ (name : ℕ × Bytes). ancestors s.tree name.0) (names_of s.tree f) (gives.0, gives.1) gives.2 (entry-in s.tree f gives.0 gives.1 gives.3)
      (any-in gives.2 (ancestors s.tree gives.0) ((ancestors-above s.tree w gives.0 gives.2).1 gives.4))))))
      gives.6

  in-above : (table : Table) (k : ℕ) → In ℕ k (Sealed.above s p f table) → Closed.GivesAbove s p f table k
  in-above table k is =
      let rights = directory_rights s.tree table in
      let ds = Sealed.directories s p f in
      let preserved = filter-in ℕ (λ k. (permissions_at table k).c) (Rattle.std.specs.Prelude.filter_map (λ (k : Option ℕ). k) (map rights ds)) k is in
      let up = map-in ℕ (Option ℕ) rights ds (Some k) (preserved-in ℕ (map rights ds) k preserved.0) in
      let name = flat-in (ℕ × Bytes) ℕ (λ (name : ℕ × Bytes). ancestors s.tree name.0) (names_of s.tree f) up.0 up.1 in
      (name.0.0, name.0.1, up.0, in-entry s.tree rank f name.0 name.1, (ancestors-above s.tree w name.0.0 up.0).0 (in-any up.0 (ancestors s.tree name.0.0) name.2), Governs-directory_rights s.tree table up.0 k up.2, preserved.1)

  -- ---- the parts of the tests

  abbrev pledged : Bool
  pledged = Sealed.is_pledged_without (Rpath ∷ ExecPromise ∷ Cpath ∷ []) p

  shut-pledged : Closed.IsClosedByPledge s p f → pledged ≡ true
  shut-pledged shut = (three p Rpath ExecPromise Cpath).1 (shut.no_rpath, shut.no_exec, shut.no_cpath)

  pledged-shut : pledged ≡ true → Closed.IsClosedByPledge s p f
  pledged-shut is = let l = (three p Rpath ExecPromise Cpath).0 is in record { no_rpath = l.0; no_exec = l.1; no_cpath = l.2 }

  held-tested : Closed.IsHeldOverExec p → Sealed.is_held_over_exec s p f ≡ true
  held-tested held = ⊎_elim (λ l. or_left _ _ ((one p ExecPromise).1 l)) (λ set. or_right (Sealed.is_pledged_without (ExecPromise ∷ []) p) _ set) held

  tested-held : Sealed.is_held_over_exec s p f ≡ true → Closed.IsHeldOverExec p
  tested-held is = ⊎_elim (λ l. inl ((one p ExecPromise).0 l)) (λ set. inr set) (or_cases (Sealed.is_pledged_without (ExecPromise ∷ []) p) (is_some p.execpromises) is)

  abbrev four : Table → List Why
  four table =
      Sealed.when (not p.locked) NotLocked ++ Sealed.least_first Gives (Sealed.giving s p f Closed.opens_or_moves table)
      ++ Sealed.least_first Above (Sealed.above s p f table) ++ Sealed.when (not (Sealed.is_held_over_exec s p f)) Exec

  abbrev reading : List ℕ
  reading = Sealed.descriptors_on s p f reads

  -- ---- closed

  closed-leaks : Closed.IsClosed s p f → Sealed.leaks s p f ≡ []
  unfolding Sealed.leaks
  closed-leaks c =
      let quiet : reading ≡ [] = empty-from ℕ reading (λ d is. c.descriptors d (in-on reads d is)) in
      let rest : (if pledged then [] else Sealed.leaks_of_table s p f p.table) ≡ [] = ⊎_elim
      (λ shut. ap (λ b. if b then [] else Sealed.leaks_of_table s p f p.table) (shut-pledged shut))
      (λ (shut : (table : Table) × Closed.IsClosedByTable s p f table). elim pledged as (λ b. (if b then [] else Sealed.leaks_of_table s p f p.table) ≡ []) [ true ↦ refl | false ↦ ap (Sealed.leaks_of_table s p f) shut.1.in_force ∙ silent shut.0 shut.1 ])
      c.restraints in
      λ i. Sealed.least_first Reads (quiet i) ++ rest i
    where
      silent : (table : Table) → Closed.IsClosedByTable s p f table → four table ≡ []
      silent table u =
          let names : Sealed.giving s p f Closed.opens_or_moves table ≡ [] = empty-from ℕ (Sealed.giving s p f Closed.opens_or_moves table) (λ k is. u.names k (in-given table Closed.opens_or_moves k is)) in
          let above : Sealed.above s p f table ≡ [] = empty-from ℕ (Sealed.above s p f table) (λ k is. u.directories k (in-above table k is)) in
          let locked : p.locked ≡ true = u.locked in
          let held : Sealed.is_held_over_exec s p f ≡ true = held-tested u.over_exec in
          λ i. Sealed.when (not (locked i)) NotLocked ++ Sealed.least_first Gives (names i) ++ Sealed.least_first Above (above i) ++ Sealed.when (not (held i)) Exec

  leaks-none : Sealed.leaks s p f ≡ [] → Closed.IsClosed s p f
  unfolding Sealed.leaks
  leaks-none none = record {
    descriptors = λ d has. none-in ℕ d reading (least-none Reads reading (left-none _ _ none)) (on-in reads d has);
    restraints = by pledged refl (right-none (Sealed.least_first Reads reading) _ none);
  }
    where
      shut : (o : Option Table) → p.table ≡ o → Sealed.leaks_of_table s p f o ≡ [] → (table : Table) × Closed.IsClosedByTable s p f table
      shut None is silent = cc silent
      shut (Some table) is silent =
          let a = Sealed.when (not p.locked) NotLocked in
          let b = Sealed.least_first Gives (Sealed.giving s p f Closed.opens_or_moves table) in
          let c = Sealed.least_first Above (Sealed.above s p f table) in
          let ab : a ++ b ≡ [] = left-none (a ++ b) c (left-none (a ++ b ++ c) _ silent) in (
            table,
            record {
              in_force = is;
              locked = unset p.locked (when-none (not p.locked) NotLocked (left-none a b ab));
              names = λ k gives. none-in ℕ k _ (least-none Gives _ (right-none a b ab)) (given-in table Closed.opens_or_moves k gives);
              directories = λ k gives. none-in ℕ k _ (least-none Above _ (right-none (a ++ b) c (left-none (a ++ b ++ c) _ silent))) (above-in table k gives);
              over_exec = tested-held (unset _ (when-none _ Exec (right-none (a ++ b ++ c) _ silent)));
            },
          )

      by : (b : Bool) → pledged ≡ b → (if b then [] else Sealed.leaks_of_table s p f p.table) ≡ [] → Closed.IsClosedByPledge s p f ⊎ ((table : Table) × Closed.IsClosedByTable s p f table)
      by true is silent = inl (pledged-shut is)
      by false is silent = inr (shut p.table refl silent)

  -- ---- frozen

  tested-frozen : Sealed.is_frozen_to s p f ≡ true → Closed.IsFrozenTo s p f
  unfolding Sealed.is_frozen_to
  tested-frozen is =
      let parts = and_parts (is_empty (Sealed.descriptors_on s p f writes)) _ is in
      record {
        descriptors = λ d has. none-in ℕ d (Sealed.descriptors_on s p f writes) (nothing _ parts.0) (on-in writes d has);
        restraints = ⊎_elim (λ l. let both = (two p Wpath ExecPromise).0 l in inl (record { no_wpath = both.0; no_exec = both.1 })) (λ preserved. inr (by p.table refl preserved))
            (or_cases (Sealed.is_pledged_without (Wpath ∷ ExecPromise ∷ []) p) (Sealed.is_preserved_by_table s p f p.table) parts.1);
      }
    where
      nothing : (ks : List ℕ) → is_empty ks ≡ true → ks ≡ []
      nothing [] none = refl
      nothing (k ∷ ks) none = cc none

      by : (o : Option Table) → p.table ≡ o → Sealed.is_preserved_by_table s p f o ≡ true → (table : Table) × Closed.IsFixedByTable s p f table
      by None at preserved = cc preserved
      by (Some table) at preserved =
          let giving : List ℕ = Sealed.giving s p f (λ permissions. permissions.w) table in
          let last = and_parts (p.locked && is_empty giving) (Sealed.is_held_over_exec s p f) preserved in
          let first = and_parts p.locked (is_empty giving) last.0 in (
            table,
            record {
              in_force = at;
              locked = first.0;
              names = λ k gives. none-in ℕ k giving (nothing giving first.1) (given-in table (λ permissions. permissions.w) k gives);
              over_exec = tested-held last.1;
            },
          )

  frozen-is : Closed.IsFrozenTo s p f → Sealed.is_frozen_to s p f ≡ true
  unfolding Sealed.is_frozen_to
  frozen-is frozen =
      and_from _ _ (ap is_empty (empty-from ℕ (Sealed.descriptors_on s p f writes) (λ d is. frozen.descriptors d (in-on writes d is))))
      (⊎_elim (λ l. or_left _ _ ((two p Wpath ExecPromise).1 (l.no_wpath, l.no_exec))) (λ u. or_right (Sealed.is_pledged_without (Wpath ∷ ExecPromise ∷ []) p) _ (preserved u.0 u.1)) frozen.restraints)
    where
      preserved : (table : Table) → Closed.IsFixedByTable s p f table → Sealed.is_preserved_by_table s p f p.table ≡ true
      preserved table u =
          let giving : List ℕ = Sealed.giving s p f (λ permissions. permissions.w) table in
          ap (Sealed.is_preserved_by_table s p f) u.in_force
          ∙ and_from (p.locked && is_empty giving) (Sealed.is_held_over_exec s p f)
          (and_from p.locked (is_empty giving) u.locked (ap is_empty (empty-from ℕ giving (λ k is. u.names k (in-given table (λ permissions. permissions.w) k is))))) (held-tested u.over_exec)

pub leaks-closed : (s : State) (p : Process) (f : ℕ) → IsWellFormed s.tree → (Sealed.leaks s p f ≡ []) ↔ Closed.IsClosed s p f
leaks-closed s p f w = (leaks-none s p f w, closed-leaks s p f w)

pub frozen-tested : (s : State) (p : Process) (f : ℕ) → IsWellFormed s.tree → (Sealed.is_frozen_to s p f ≡ true) ↔ Closed.IsFrozenTo s p f
frozen-tested s p f w = (tested-frozen s p f w, frozen-is s p f w)

-- ---- the first reason

nothing-first : (why : Why) (whys : List Why) → [] ≡ why ∷ whys → ⊥
nothing-first why whys is = cc is

last-when : (b : Bool) (why w : Why) (ws : List Why) → Sealed.when b why ≡ w ∷ ws → (b ≡ true) × (why ≡ w)
last-when true why w ws is = let named : why ≡ w = cc is in (refl, named)
last-when false why w ws is = cc is

is_unset : (b : Bool) → not b ≡ true → b ≡ false
is_unset true bad = cc bad
is_unset false fine = refl

module _ (s : State) (p : Process) (f : ℕ) (w : IsWellFormed s.tree) where
  abbrev First : Why → Type 0
  First why = IsFirstReason s p f why

  abbrev Reason : Why → Type 0
  Reason why = Closed.IsReason s p f why

  abbrev Quiet : Type 0
  Quiet = Sealed.descriptors_on s p f reads ≡ []

  loud : Quiet → (d : ℕ) → ¬ Closed.HasOn s p f reads d
  loud quiet d has = none-in ℕ d (Sealed.descriptors_on s p f reads) quiet (on-in s p f w reads d has)

  first-read : (d : ℕ) → ((j : ℕ) → In ℕ j (Sealed.descriptors_on s p f reads) → d ≤ j) → (other : Why) → Reason other → Closed.IsNoLater (Reads d) other
  first-read d low _ (Closed.by_reading j has) = inr (refl, low j (on-in s p f w reads j has))
  first-read d low _ (Closed.by_no_table able none) = inl (lit< tt)
  first-read d low _ (Closed.by_no_lock table able at free) = inl (lit< tt)
  first-read d low _ (Closed.by_name table k able at gives) = inl (lit< tt)
  first-read d low _ (Closed.by_directory table k able at gives) = inl (lit< tt)
  first-read d low _ (Closed.by_exec table able at free) = inl (lit< tt)

  first-none : Quiet → (other : Why) → Reason other → Closed.IsNoLater NoTable other
  first-none quiet _ (Closed.by_reading j has) = absurd (loud quiet j has)
  first-none quiet _ (Closed.by_no_table able none) = inr (refl, omega arith)
  first-none quiet _ (Closed.by_no_lock table able at free) = inl (lit< tt)
  first-none quiet _ (Closed.by_name table k able at gives) = inl (lit< tt)
  first-none quiet _ (Closed.by_directory table k able at gives) = inl (lit< tt)
  first-none quiet _ (Closed.by_exec table able at free) = inl (lit< tt)

  module _ (quiet : Quiet) (table : Table) (at : p.table ≡ Some table) where
    there : (other : Table) → p.table ≡ Some other → other ≡ table
    there other is = let both : Some other ≡ Some table = sym is ∙ at in cc both

    no_none : p.table ≡ None → ⊥
    no_none none = let both : Some table ≡ None = sym at ∙ none in cc both

    first-lock : (other : Why) → Reason other → Closed.IsNoLater NotLocked other
    first-lock _ (Closed.by_reading j has) = absurd (loud quiet j has)
    first-lock _ (Closed.by_no_table able none) = absurd (no_none none)
    first-lock _ (Closed.by_no_lock t able is free) = inr (refl, omega arith)
    first-lock _ (Closed.by_name t k able is gives) = inl (lit< tt)
    first-lock _ (Closed.by_directory t k able is gives) = inl (lit< tt)
    first-lock _ (Closed.by_exec t able is free) = inl (lit< tt)

    module _ (locked : p.locked ≡ true) where
      no_lock : p.locked ≡ false → ⊥
      no_lock free = let both : true ≡ false = sym locked ∙ free in cc both

      abbrev giving : List ℕ
      giving = Sealed.giving s p f Closed.opens_or_moves table

      named : (t : Table) (k : ℕ) → p.table ≡ Some t → Closed.GivesName s p f t Closed.opens_or_moves k → In ℕ k giving
      named t k is gives = given-in s p f w table Closed.opens_or_moves k (subst (λ x. Closed.GivesName s p f x Closed.opens_or_moves k) (there t is) gives)

      first-given : (k : ℕ) → ((j : ℕ) → In ℕ j giving → k ≤ j) → (other : Why) → Reason other → Closed.IsNoLater (Gives k) other
      first-given k low _ (Closed.by_reading j has) = absurd (loud quiet j has)
      first-given k low _ (Closed.by_no_table able none) = absurd (no_none none)
      first-given k low _ (Closed.by_no_lock t able is free) = absurd (no_lock free)
      first-given k low _ (Closed.by_name t j able is gives) = inr (refl, low j (named t j is gives))
      first-given k low _ (Closed.by_directory t j able is gives) = inl (lit< tt)
      first-given k low _ (Closed.by_exec t able is free) = inl (lit< tt)

      module _ (none_given : giving ≡ []) where
        abbrev over : List ℕ
        over = Sealed.above s p f table

        higher : (t : Table) (k : ℕ) → p.table ≡ Some t → Closed.GivesAbove s p f t k → In ℕ k over
        higher t k is gives = above-in s p f w table k (subst (λ x. Closed.GivesAbove s p f x k) (there t is) gives)

        first-above : (k : ℕ) → ((j : ℕ) → In ℕ j over → k ≤ j) → (other : Why) → Reason other → Closed.IsNoLater (Above k) other
        first-above k low _ (Closed.by_reading j has) = absurd (loud quiet j has)
        first-above k low _ (Closed.by_no_table able none) = absurd (no_none none)
        first-above k low _ (Closed.by_no_lock t able is free) = absurd (no_lock free)
        first-above k low _ (Closed.by_name t j able is gives) = absurd (none-in ℕ j giving none_given (named t j is gives))
        first-above k low _ (Closed.by_directory t j able is gives) = inr (refl, low j (higher t j is gives))
        first-above k low _ (Closed.by_exec t able is free) = inl (lit< tt)

        first-exec : over ≡ [] → (other : Why) → Reason other → Closed.IsNoLater Exec other
        first-exec none_over _ (Closed.by_reading j has) = absurd (loud quiet j has)
        first-exec none_over _ (Closed.by_no_table able none) = absurd (no_none none)
        first-exec none_over _ (Closed.by_no_lock t able is free) = absurd (no_lock free)
        first-exec none_over _ (Closed.by_name t j able is gives) = absurd (none-in ℕ j giving none_given (named t j is gives))
        first-exec none_over _ (Closed.by_directory t j able is gives) = absurd (none-in ℕ j over none_over (higher t j is gives))
        first-exec none_over _ (Closed.by_exec t able is free) = inr (refl, omega arith)

  module _ (why : Why) (whys : List Why) (quiet : Quiet) (free : ¬ Closed.IsClosedByPledge s p f) where
    by_table : (o : Option Table) → p.table ≡ o → Sealed.leaks_of_table s p f o ≡ why ∷ whys → First why
    by_table None at is =
        let named : NoTable ≡ why = cc is in
        subst First named (record { holds = Closed.by_no_table free at; first = first-none quiet })
    by_table (Some table) at is =
        ⊎_elim
        (λ lock. subst First lock.1 (record { holds = Closed.by_no_lock table free at (is_unset p.locked lock.0); first = first-lock quiet table at }))
        (λ rest. by_given (locked_is rest.0) rest.1)
        (first-when (not p.locked) NotLocked (b ++ (c ++ d)) why whys (sym (append_assoc a b (c ++ d)) ∙ sym (append_assoc (a ++ b) c d) ∙ is))
      where
        a : List Why
        a = Sealed.when (not p.locked) NotLocked

        b : List Why
        b = Sealed.least_first Gives (Sealed.giving s p f Closed.opens_or_moves table)

        c : List Why
        c = Sealed.least_first Above (Sealed.above s p f table)

        d : List Why
        d = Sealed.when (not (Sealed.is_held_over_exec s p f)) Exec

        locked_is : not p.locked ≡ false → p.locked ≡ true
        locked_is is = unset p.locked is

        unheld : Sealed.is_held_over_exec s p f ≡ false → ¬ Closed.IsHeldOverExec p
        unheld isnt held = let both : true ≡ false = sym (held-tested s p f w held) ∙ isnt in cc both

        by_exec : (locked : p.locked ≡ true) (none : Sealed.giving s p f Closed.opens_or_moves table ≡ []) → Sealed.above s p f table ≡ [] → Sealed.when (not (Sealed.is_held_over_exec s p f)) Exec ≡ why ∷ whys → First why
        by_exec locked none over is =
            let last = last-when (not (Sealed.is_held_over_exec s p f)) Exec why whys is in
            subst First last.1 (record { holds = Closed.by_exec table free at (unheld (is_unset _ last.0)); first = first-exec quiet table at locked none over })

        by_above : (locked : p.locked ≡ true) (none : Sealed.giving s p f Closed.opens_or_moves table ≡ [])
            → Sealed.least_first Above (Sealed.above s p f table) ++ Sealed.when (not (Sealed.is_held_over_exec s p f)) Exec ≡ why ∷ whys → First why
        by_above locked none is =
            ⊎_elim
            (λ r. subst First r.3 (record { holds = Closed.by_directory table r.0 free at (in-above s p f w table r.0 r.1); first = first-above quiet table at locked none r.0 r.2 }))
            (λ rest. by_exec locked none rest.0 rest.1)
            (first-least Above (Sealed.above s p f table) (Sealed.when (not (Sealed.is_held_over_exec s p f)) Exec) why whys is)

        by_given : (locked : p.locked ≡ true)
            → Sealed.least_first Gives (Sealed.giving s p f Closed.opens_or_moves table) ++ (Sealed.least_first Above (Sealed.above s p f table) ++ Sealed.when (not (Sealed.is_held_over_exec s p f)) Exec) ≡ why ∷ whys → First why
        by_given locked is =
            ⊎_elim
            (λ r. subst First r.3 (record { holds = Closed.by_name table r.0 free at (in-given s p f w table Closed.opens_or_moves r.0 r.1); first = first-given quiet table at locked r.0 r.2 }))
            (λ rest. by_above locked rest.0 rest.1)
            (first-least Gives (Sealed.giving s p f Closed.opens_or_moves table) (Sealed.least_first Above (Sealed.above s p f table) ++ Sealed.when (not (Sealed.is_held_over_exec s p f)) Exec) why whys is)

  first-of : (why : Why) (whys : List Why) → Sealed.leaks s p f ≡ why ∷ whys → First why
  unfolding Sealed.leaks
  first-of why whys is =
      ⊎_elim
      (λ r. subst First r.3 (record { holds = Closed.by_reading r.0 (in-on s p f w reads r.0 r.1); first = first-read r.0 r.2 }))
      (λ rest. by (pledged s p f w) refl rest.0 rest.1)
      (first-least Reads (Sealed.descriptors_on s p f reads) (if pledged s p f w then [] else Sealed.leaks_of_table s p f p.table) why whys is)
    where
      by : (b : Bool) → pledged s p f w ≡ b → Quiet → (if b then [] else Sealed.leaks_of_table s p f p.table) ≡ why ∷ whys → First why
      by true shut quiet is = absurd (nothing-first why whys is)
      by false able quiet is =
          by_table why whys quiet (λ shut. let both : true ≡ false = sym (shut-pledged s p f w shut) ∙ able in cc both) p.table refl is

pub first-reason : (s : State) (p : Process) (f : ℕ) (why : Why) (whys : List Why) → IsWellFormed s.tree → Sealed.leaks s p f ≡ why ∷ whys → IsFirstReason s p f why
first-reason s p f why whys w is = first-of s p f w why whys is

-- ---- verdicts

module _ (s : State) (f : ℕ) where
  abbrev Leaky : Type 0
  Leaky = List (ℕ × Process)

  quiet-all : (ps : Leaky) → Sealed.first_leak s f ps ≡ None → list_all (λ (e : ℕ × Process). is_empty (Sealed.leaks s e.1 f)) ps ≡ true
  quiet-all [] is = refl
  quiet-all ((pid, p) ∷ ps) is = by (λ rest. quiet-all ps rest) (Sealed.leaks s p f) refl is
    where
      by : (Sealed.first_leak s f ps ≡ None → list_all (λ (e : ℕ × Process). is_empty (Sealed.leaks s e.1 f)) ps ≡ true) → (l : List Why) → Sealed.leaks s p f ≡ l
          → Sealed.leak_or pid l (Sealed.first_leak s f ps) ≡ None → (is_empty (Sealed.leaks s p f) && list_all (λ (e : ℕ × Process). is_empty (Sealed.leaks s e.1 f)) ps) ≡ true
      by later [] none is = and_from _ _ (ap is_empty none) (later is)
      by later (why ∷ whys) some is = cc is

  all-quiet : (ps : Leaky) → list_all (λ (e : ℕ × Process). is_empty (Sealed.leaks s e.1 f)) ps ≡ true → Sealed.first_leak s f ps ≡ None
  all-quiet [] is = refl
  all-quiet ((pid, p) ∷ ps) is =
      let parts = and_parts (is_empty (Sealed.leaks s p f)) _ is in
      by (Sealed.leaks s p f) parts.0 (all-quiet ps parts.1)
    where
      by : (l : List Why) → is_empty l ≡ true → Sealed.first_leak s f ps ≡ None → Sealed.leak_or pid l (Sealed.first_leak s f ps) ≡ None
      by [] none rest = rest
      by (why ∷ whys) none rest = cc none

  pub first-leaks : (ps : Leaky) (pid : ℕ) (why : Why) → Sealed.first_leak s f ps ≡ Some (pid, why) → IsFirstLeak s f ps pid why
  first-leaks [] pid why is = cc is
  first-leaks ((n, p) ∷ ps) pid why is = by (λ later. first-leaks ps pid why later) (Sealed.leaks s p f) refl is
    where
      by : (Sealed.first_leak s f ps ≡ Some (pid, why) → IsFirstLeak s f ps pid why) → (l : List Why) → Sealed.leaks s p f ≡ l → Sealed.leak_or n l (Sealed.first_leak s f ps) ≡ Some (pid, why)
          → IsFirstLeak s f ((n, p) ∷ ps) pid why
      by again [] none later =
          let rest = again later in
          record {
            process = rest.process;
            before = (n, p) ∷ rest.before;
            following = rest.following;
            appears = ap (λ (qs : Leaky). (n, p) ∷ qs) rest.appears;
            quiet = and_from _ _ (ap is_empty none) rest.quiet;
            whys = rest.whys;
            leaks = rest.leaks;
          }
      by again (w ∷ ws) some reported =
          let one : ◌≡◌ {A = ℕ × Why} (n, w) (pid, why) = cc reported in
          let number : n ≡ pid = ap (λ (x : ℕ × Why). x.0) one in
          let reason : w ≡ why = ap (λ (x : ℕ × Why). x.1) one in
          record { process = p; before = []; following = ps; appears = ap (λ (k : ℕ). (k, p) ∷ ps) number; quiet = refl; whys = ws; leaks = some ∙ ap (λ (x : Why). x ∷ ws) reason }

  leaks-following : (before following : Leaky) (p : Process) (pid : ℕ) (why : Why) (whys : List Why) → Sealed.leaks s p f ≡ why ∷ whys
      → list_all (λ (e : ℕ × Process). is_empty (Sealed.leaks s e.1 f)) before ≡ true → Sealed.first_leak s f (before ++ (pid, p) ∷ following) ≡ Some (pid, why)
  leaks-following [] following p pid why whys is quiet = ap (λ (l : List Why). Sealed.leak_or pid l (Sealed.first_leak s f following)) is
  leaks-following ((n, q) ∷ before) following p pid why whys is quiet =
      let parts = and_parts (is_empty (Sealed.leaks s q f)) _ quiet in
      by (Sealed.leaks s q f) parts.0 (leaks-following before following p pid why whys is parts.1)
    where
      by : (l : List Why) → is_empty l ≡ true → Sealed.first_leak s f (before ++ (pid, p) ∷ following) ≡ Some (pid, why) → Sealed.leak_or n l (Sealed.first_leak s f (before ++ (pid, p) ∷ following)) ≡ Some (pid, why)
      by [] none rest = rest
      by (w ∷ ws) some rest = cc some

  pub leaks-first : (ps : Leaky) (pid : ℕ) (why : Why) → IsFirstLeak s f ps pid why → Sealed.first_leak s f ps ≡ Some (pid, why)
  leaks-first ps pid why is = ap (Sealed.first_leak s f) is.appears ∙ leaks-following is.before is.following is.process pid why is.whys is.leaks is.quiet

  abbrev live : Leaky
  live = live_processes s.processes

  abbrev nameless : Bool
  nameless = is_empty (names_of s.tree f)

  abbrev leak : Option (ℕ × Why)
  leak = Sealed.first_leak s f live

  abbrev Verdicts : Type 0
  Verdicts = Option Verdict

  value-none : nameless ≡ true → Sealed.verdict s f ≡ None
  unfolding Sealed.verdict
  value-none is = ap (λ b. if b then None else Some (Sealed.verdict_unless s f leak)) is

  value-exposed : (pid : ℕ) (why : Why) → nameless ≡ false → leak ≡ Some (pid, why) → Sealed.verdict s f ≡ Some (TheVerdict.Exposed (record { pid = pid; why = why }))
  unfolding Sealed.verdict
  value-exposed pid why is leaks = ap (λ b. if b then None else Some (Sealed.verdict_unless s f leak)) is ∙ ap (λ o. Some (Sealed.verdict_unless s f o)) leaks

  value-frozen : nameless ≡ false → leak ≡ None → Sealed.is_frozen s f ≡ true → Sealed.verdict s f ≡ Some TheVerdict.Frozen
  unfolding Sealed.verdict
  value-frozen is none frozen =
      ap (λ b. if b then None else Some (Sealed.verdict_unless s f leak)) is ∙ ap (λ o. Some (Sealed.verdict_unless s f o)) none ∙ ap (λ b. Some (if b then TheVerdict.Frozen else TheVerdict.Sealed)) frozen

  value-sealed : nameless ≡ false → leak ≡ None → Sealed.is_frozen s f ≡ false → Sealed.verdict s f ≡ Some TheVerdict.Sealed
  unfolding Sealed.verdict
  value-sealed is none frozen =
      ap (λ b. if b then None else Some (Sealed.verdict_unless s f leak)) is ∙ ap (λ o. Some (Sealed.verdict_unless s f o)) none ∙ ap (λ b. Some (if b then TheVerdict.Frozen else TheVerdict.Sealed)) frozen

  -- a property of each of the four cases
  by_case : (P : Verdicts → Type 0) → (nameless ≡ true → P None) → (nameless ≡ false → leak ≡ None → Sealed.is_frozen s f ≡ true → P (Some TheVerdict.Frozen))
      → (nameless ≡ false → leak ≡ None → Sealed.is_frozen s f ≡ false → P (Some TheVerdict.Sealed))
      → ((pid : ℕ) (why : Why) → nameless ≡ false → leak ≡ Some (pid, why) → P (Some (TheVerdict.Exposed (record { pid = pid; why = why })))) → P (Sealed.verdict s f)
  by_case P none frozen sealed exposed = by nameless refl leak refl (Sealed.is_frozen s f) refl
    where
      by : (n : Bool) → nameless ≡ n → (o : Option (ℕ × Why)) → leak ≡ o → (b : Bool) → Sealed.is_frozen s f ≡ b → P (Sealed.verdict s f)
      by true is o l b fr = subst P (sym (value-none is)) (none is)
      by false is None l true fr = subst P (sym (value-frozen is l fr)) (frozen is l fr)
      by false is None l false fr = subst P (sym (value-sealed is l fr)) (sealed is l fr)
      by false is (Some (pid, why)) l b fr = subst P (sym (value-exposed pid why is l)) (exposed pid why is l)

  names-none : nameless ≡ true → names_of s.tree f ≡ []
  names-none is = by (names_of s.tree f) is
    where
      by : (ns : List (ℕ × Bytes)) → is_empty ns ≡ true → ns ≡ []
      by [] none = refl
      by (n ∷ ns) none = cc none

  has-names : nameless ≡ false → names_of s.tree f ≢ []
  has-names is none = let both : true ≡ false = sym (ap is_empty none) ∙ is in cc both

  names-has : names_of s.tree f ≢ [] → nameless ≡ false
  names-has some = ⊎_elim (λ is. absurd (some (names-none is))) (λ is. is) (cases_Bool nameless)

  sealed-from : nameless ≡ false → leak ≡ None → Sealed.is_sealed s f ≡ true
  sealed-from is none = and_from _ _ (ap not is) (quiet-all live none)

  from-sealed : Sealed.is_sealed s f ≡ true → (nameless ≡ false) × (leak ≡ None)
  from-sealed is = let parts = and_parts (not nameless) _ is in (is_unset nameless parts.0, all-quiet live parts.1)

  from-frozen : Sealed.is_frozen s f ≡ true → Sealed.is_sealed s f ≡ true
  from-frozen is = (and_parts (Sealed.is_sealed s f) _ is).0

pub verdicts-exact : (s : State) (f : ℕ) → IsExact s f
verdicts-exact s f = record {
  none = (
    by_case s f (λ v. v ≡ None → names_of s.tree f ≡ []) (λ is same. names-none s f is) (λ is l fr same. cc same) (λ is l fr same. cc same) (λ pid why is l same. cc same),
    λ none. value-none s f (ap is_empty none),
  );
  sealed = (
    by_case s f (λ v. v ≡ Some TheVerdict.Sealed → (Sealed.is_sealed s f ≡ true) × (Sealed.is_frozen s f ≡ false)) (λ is same. cc same) (λ is l fr same. cc same)
        (λ is l fr same. (sealed-from s f is l, fr)) (λ pid why is l same. cc same),
    λ both. let from = from-sealed s f both.0 in value-sealed s f from.0 from.1 both.1,
  );
  frozen = (
    by_case s f (λ v. v ≡ Some TheVerdict.Frozen → Sealed.is_frozen s f ≡ true) (λ is same. cc same) (λ is l fr same. fr) (λ is l fr same. cc same) (λ pid why is l same. cc same),
    λ frozen. let from = from-sealed s f (from-frozen s f frozen) in value-frozen s f from.0 from.1 frozen,
  );
  exposed = λ leak. (
    by_case s f (λ v. v ≡ Some (TheVerdict.Exposed leak) → (names_of s.tree f ≢ []) × (Sealed.first_leak s f (live_processes s.processes) ≡ Some (leak.pid, leak.why)))
        (λ is same. cc same) (λ is l fr same. cc same) (λ is l fr same. cc same)
        (λ pid why is l same.
        let reported : ◌≡◌ {A = Leak} (record { pid = pid; why = why }) leak = cc same in
        (has-names s f is, l ∙ ap (λ (x : Leak). Some (x.pid, x.why)) reported)),
    λ both. value-exposed s f leak.pid leak.why (names-has s f both.0) both.1,
  );
}
