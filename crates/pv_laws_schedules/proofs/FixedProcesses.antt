-- The descriptors and entries by which a process can open a file, and the reasons why it is not fixed to the file: there is
-- none if and only if it is.
use Rattle.std.proofs.Common.{◌≡◌, ◌↔◌, ◌∙◌, sym, ap, subst, refl, ℕ, Bool, true, false, not, ◌&&◌, ◌||◌, ◌==◌, if◌then◌else◌, List, [], ◌∷◌, ◌++◌, map, filter, Option, None, Some, is_some, ◌⊎◌, inl, inr, ⊎_elim}
use Rattle.std.specs.List.{filter_map}
use Rattle.std.specs.Option.{option_or}
use Rattle.std.proofs.lemmas.Bool.{and_parts, and_from, or_cases, or_left, or_right, eqb-true, eq-eqb}
use Rattle.pv_model.specs.declared.open_flags.Mode.{Mode}
use Rattle.pv_model.specs.declared.perms.Perms.{Perms}
use Rattle.pv_model.specs.declared.promise.Promise.{Promise}
use Rattle.pv_model.specs.declared.promise.Promise.TheVariants.{Wpath, Cpath, Exec as ExecPromise}
use Rattle.pv_model.specs.Machine.{Bytes, at_number, numbered, Promises, contains, OpenFile, Descriptor, Process, State, writes, find_entry, names_of, ancestors, IsWellFormed, Table, permissions_at, directory_rights}
use Rattle.pv_model.specs.Closed
use Rattle.pv_model.specs.Sealed
use Rattle.pv_model.proofs.GoverningEntries.{Governs-directory_rights, directory_rights-Governs}
use Rattle.pv_model_questions.specs.declared.edit_reason.EditReason.{EditReason}
use Rattle.pv_model_questions.specs.declared.edit_reason.EditReason.TheVariants.{Writes, NotLocked, Gives, Above, Exec}
use Rattle.pv_model_questions.specs.Fixed.{edit_least, edit_when, edits, edits_above, edits_of_table, is_held_in_place, lets_edit}
use Rattle.pv_laws_trees.proofs.Ancestors.{ancestors-above}
use Rattle.pv_laws_trees.proofs.ListMembers.{In, empty-from, none-in, in-map, map-in, in-filter, filter-in, in-preserved, preserved-in, in-flat, flat-in, any-in, in-any, numbered-at, at-numbered, entry-in, in-entry}
use Rattle.pv_laws_trees.proofs.Trees.{ordered, sound}
use Rattle.pv_laws_access.specs.OwnRuns.{IsFixed, IsPledgedInPlace, IsUnveiledInPlace, IsUnveiledFixed}
use Rattle.pv_laws_access.proofs.Verdicts.{one, found-governs}

-- ---- lists of reasons

least-none : (reason : ℕ → EditReason) (ks : List ℕ) → edit_least reason ks ≡ [] → ks ≡ []
least-none reason [] none = refl
least-none reason (k ∷ ks) none = cc none

when-none : (b : Bool) (reason : EditReason) → edit_when b reason ≡ [] → b ≡ false
when-none true reason none = cc none
when-none false reason none = refl

left-none : (xs ys : List EditReason) → xs ++ ys ≡ [] → xs ≡ []
left-none [] ys none = refl
left-none (x ∷ xs) ys none = cc none

right-none : (xs ys : List EditReason) → xs ++ ys ≡ [] → ys ≡ []
right-none [] ys none = none
right-none (x ∷ xs) ys none = cc none

unset : (b : Bool) → not b ≡ false → b ≡ true
unset true is = refl
unset false is = cc is

-- ---- promises

-- a process is pledged without two promises if and only if it is pledged without each
two : (p : Process) (a b : Promise) → Sealed.is_pledged_without (a ∷ b ∷ []) p ≡ true ↔ (Closed.Lacks p a × Closed.Lacks p b)
two p a b = (
  λ is. (let each = parts p.promises is in ((one p a).0 each.0, (one p b).0 each.1)),
  λ l. whole p.promises ((one p a).1 l.0) ((one p b).1 l.1),
)
  where
    parts : (o : Option Promises) → Sealed.has_none_of (a ∷ b ∷ []) o ≡ true → (Sealed.has_none_of (a ∷ []) o ≡ true) × (Sealed.has_none_of (b ∷ []) o ≡ true)
    parts None is = cc is
    parts (Some held) is = let each = and_parts (not (contains held a)) (not (contains held b) && true) is in (and_from _ true each.0 refl, each.1)

    whole : (o : Option Promises) → Sealed.has_none_of (a ∷ []) o ≡ true → Sealed.has_none_of (b ∷ []) o ≡ true → Sealed.has_none_of (a ∷ b ∷ []) o ≡ true
    whole None l m = l
    whole (Some held) l m = and_from _ _ (and_parts (not (contains held a)) true l).0 m

-- ---- descriptors and entries

module _ (s : State) (p : Process) (f : ℕ) (w : IsWellFormed s.tree) where
  entry-of : (name : ℕ × Bytes) → In (ℕ × Bytes) name (names_of s.tree f) → find_entry s.tree name.0 name.1 ≡ Some f
  entry-of name h = in-entry s.tree (ordered s.tree (sound s.tree w).each_node) f name h

  abbrev is_open : (Mode → Bool) → ℕ × Descriptor → Bool
  is_open test x = Sealed.opens s p f test (at_number s.files x.1.file)

  -- the descriptors on the file in a mode that passes a test
  pub openers : (test : Mode → Bool) (d : ℕ) → In ℕ d (Sealed.descriptors_on s p f test) ↔ Closed.HasOn s p f test d
  openers test d = (has, within)
    where
      open_on : (x : Descriptor) → at_number p.descriptors d ≡ Some x → (o : Option OpenFile) → at_number s.files x.file ≡ o → Sealed.opens s p f test o ≡ true → Closed.HasOn s p f test d
      open_on x there None at passes = cc passes
      open_on x there (Some file) at passes =
          let parts = and_parts (file.node == f) (test file.mode) passes in (x, file, there, at, eqb-true file.node f parts.0, parts.1)

      has : In ℕ d (Sealed.descriptors_on s p f test) → Closed.HasOn s p f test d
      has h =
          let e = map-in (ℕ × Descriptor) ℕ (λ (x : ℕ × Descriptor). x.0) (filter (is_open test) (numbered p.descriptors)) d h in
          let own = filter-in (ℕ × Descriptor) (is_open test) (numbered p.descriptors) e.0 e.1 in
          open_on e.0.1 (ap (at_number p.descriptors) (sym e.2) ∙ at-numbered Descriptor p.descriptors e.0 own.0) (at_number s.files e.0.1.file) refl own.1

      within : Closed.HasOn s p f test d → In ℕ d (Sealed.descriptors_on s p f test)
      within has =
          in-map (ℕ × Descriptor) ℕ (λ (x : ℕ × Descriptor). x.0) (filter (is_open test) (numbered p.descriptors)) (d, has.0)
          (in-filter (ℕ × Descriptor) (is_open test) (numbered p.descriptors) (d, has.0) (numbered-at Descriptor p.descriptors d has.0 has.2)
          (ap (Sealed.opens s p f test) has.3 ∙ and_from (has.1.node == f) (test has.1.mode) (eq-eqb has.1.node f has.4) has.5))

  module _ (table : Table) where
    -- the entries among some that pass a test
    passing : (test : Perms → Bool) (ks : List (Option ℕ)) (k : ℕ)
        → In ℕ k (Sealed.entries_with s p f test table ks) ↔ (In (Option ℕ) (Some k) ks × (test (permissions_at table k) ≡ true))
    passing test ks k = (
      λ h. (let own = filter-in ℕ (λ k. test (permissions_at table k)) (filter_map (λ (k : Option ℕ). k) ks) k h in (preserved-in ℕ ks k own.0, own.1)),
      λ h. in-filter ℕ (λ k. test (permissions_at table k)) (filter_map (λ (k : Option ℕ). k) ks) k (in-preserved ℕ ks k h.0) h.1,
    )

    -- the entries that govern a name of the file, with permissions that pass a test
    pub givers : (test : Perms → Bool) (k : ℕ) → In ℕ k (Sealed.giving s p f test table) ↔ Closed.GivesName s p f table test k
    givers test k = (gives, within)
      where
        named : (d : ℕ) (name : Bytes) (k : ℕ) → Closed.GovernsName s.tree table d name k → Sealed.governs_name s p f table (d, name) ≡ Some k
        named d name _ (Closed.by_name k is) = ap (λ o. option_or o (directory_rights s.tree table d)) is
        named d name _ (Closed.by_directory k is above) = ap (λ o. option_or o (directory_rights s.tree table d)) is ∙ directory_rights-Governs s.tree table d k above

        gives : In ℕ k (Sealed.giving s p f test table) → Closed.GivesName s p f table test k
        gives h =
            let own = (passing test (map (Sealed.governs_name s p f table) (names_of s.tree f)) k).0 h in
            let name = map-in (ℕ × Bytes) (Option ℕ) (Sealed.governs_name s p f table) (names_of s.tree f) (Some k) own.0 in
            (name.0.0, name.0.1, entry-of name.0 name.1, found-governs s p f w table name.0.0 name.0.1 k name.2, own.1)

        within : Closed.GivesName s p f table test k → In ℕ k (Sealed.giving s p f test table)
        within has =
            (passing test (map (Sealed.governs_name s p f table) (names_of s.tree f)) k).1 (
              subst (λ o. In (Option ℕ) o (map (Sealed.governs_name s p f table) (names_of s.tree f))) (named has.0 has.1 k has.3)
                  (in-map (ℕ × Bytes) (Option ℕ) (Sealed.governs_name s p f table) (names_of s.tree f) (has.0, has.1) (entry-in s.tree f has.0 has.1 has.2)),
              has.4,
            )

    abbrev ancestors_of : ℕ × Bytes → List ℕ
    ancestors_of name = ancestors s.tree name.0

    -- the entries with c that govern a directory of the file, or one above
    pub governors : (k : ℕ) → In ℕ k (Sealed.above s p f table) ↔ Closed.GivesAbove s p f table k
    governors k = (gives, within)
      where
        gives : In ℕ k (Sealed.above s p f table) → Closed.GivesAbove s p f table k
        gives h =
            let own = (passing (λ permissions. permissions.c) (map (directory_rights s.tree table) (Sealed.directories s p f)) k).0 h in
            let up = map-in ℕ (Option ℕ) (directory_rights s.tree table) (Sealed.directories s p f) (Some k) own.0 in
            let name = flat-in (ℕ × Bytes) ℕ ancestors_of (names_of s.tree f) up.0 up.1 in
            (name.0.0, name.0.1, up.0, entry-of name.0 name.1, (ancestors-above s.tree w name.0.0 up.0).0 (in-any up.0 (ancestors s.tree name.0.0) name.2), Governs-directory_rights s.tree table up.0 k up.2, own.1)

        within : Closed.GivesAbove s p f table k → In ℕ k (Sealed.above s p f table)
        within has =
            let up : In ℕ has.2 (Sealed.directories s p f) =
            in-flat (ℕ × Bytes) ℕ ancestors_of (names_of s.tree f) (has.0, has.1) has.2 (entry-in s.tree f has.0 has.1 has.3)
            (any-in has.2 (ancestors s.tree has.0) ((ancestors-above s.tree w has.0 has.2).1 has.4)) in
            (passing (λ permissions. permissions.c) (map (directory_rights s.tree table) (Sealed.directories s p f)) k).1 (
              subst (λ o. In (Option ℕ) o (map (directory_rights s.tree table) (Sealed.directories s p f))) (directory_rights-Governs s.tree table has.2 k has.5)
                  (in-map ℕ (Option ℕ) (directory_rights s.tree table) (Sealed.directories s p f) has.2 up),
              has.6,
            )

  -- ---- fixed

  abbrev pledged : Bool
  pledged = Sealed.is_pledged_without (Wpath ∷ ExecPromise ∷ []) p

  abbrev held : Bool
  held = Sealed.is_held_over_exec s p f

  abbrev in_place : Bool
  in_place = is_held_in_place p

  abbrev of_table : Option Table → List EditReason
  of_table o = edits_of_table s p f o

  abbrev giving : Table → List ℕ
  giving table = Sealed.giving s p f (lets_edit in_place) table

  abbrev locks : List EditReason
  locks = edit_when (not p.locked) NotLocked

  abbrev names : Table → List EditReason
  names table = edit_least Gives (giving table)

  abbrev above : Table → List EditReason
  above table = edits_above s p f in_place table

  abbrev execs : List EditReason
  execs = edit_when (not held) Exec

  pub over-exec : held ≡ true ↔ Closed.IsHeldOverExec p
  over-exec = (
    λ is. ⊎_elim (λ l. inl ((one p ExecPromise).0 l)) (λ set. inr set) (or_cases (Sealed.is_pledged_without (ExecPromise ∷ []) p) (is_some p.execpromises) is),
    λ is. ⊎_elim (λ l. or_left _ _ ((one p ExecPromise).1 l)) (λ set. or_right (Sealed.is_pledged_without (ExecPromise ∷ []) p) _ set) is,
  )

  edits-are : edits s p f ≡ edit_least Writes (Sealed.descriptors_on s p f writes) ++ (if pledged then [] else of_table p.table)
  unfolding edits
  edits-are = refl

  -- ---- no reason

  -- a name that gives permissions that pass a weaker test
  gives-more : (table : Table) (test weaker : Perms → Bool) → ((permissions : Perms) → test permissions ≡ true → weaker permissions ≡ true) → (k : ℕ)
      → Closed.GivesName s p f table test k → Closed.GivesName s p f table weaker k
  gives-more table test weaker more k g = (g.0, g.1, g.2, g.3, more (permissions_at table k) g.4)

  module _ (table : Table) (quiet : of_table (Some table) ≡ []) where
    no-lock : locks ≡ []
    no-lock = left-none locks (names table) (left-none (locks ++ names table) (above table) (left-none (locks ++ names table ++ above table) execs quiet))

    no-name : (k : ℕ) → ¬ Closed.GivesName s p f table (lets_edit in_place) k
    no-name k gives =
        none-in ℕ k (giving table) (least-none Gives (giving table) (right-none locks (names table) (left-none (locks ++ names table) (above table) (left-none (locks ++ names table ++ above table) execs quiet))))
        ((givers table (lets_edit in_place) k).1 gives)

    no-above : above table ≡ []
    no-above = right-none (locks ++ names table) (above table) (left-none (locks ++ names table ++ above table) execs quiet)

    held-still : IsPledgedInPlace s p f ⊎ IsUnveiledInPlace s p f table
    held-still = by in_place refl no-name no-above
      where
        by : (b : Bool) → in_place ≡ b → ((k : ℕ) → ¬ Closed.GivesName s p f table (lets_edit b) k) → edits_above s p f b table ≡ [] → IsPledgedInPlace s p f ⊎ IsUnveiledInPlace s p f table
        by true is given none = let l = (two p Cpath ExecPromise).0 is in inl (record { no_cpath = l.0; no_exec = l.1 })
        by false is given none = inr (record {
          names = λ k gives. given k (gives-more table (λ permissions. permissions.r || permissions.c) (lets_edit false) (λ permissions passes. or_right permissions.w _ passes) k gives);
          directories = λ k gives. none-in ℕ k (Sealed.above s p f table) (least-none Above (Sealed.above s p f table) none) ((governors table k).1 gives);
        })

    unveiled-fixed : p.table ≡ Some table → IsUnveiledFixed s p f table
    unveiled-fixed at = record {
      from = record {
        in_force = at;
        locked = unset p.locked (when-none (not p.locked) NotLocked no-lock);
        names = λ k gives. no-name k (gives-more table (λ permissions. permissions.w) (lets_edit in_place) (λ permissions passes. or_left permissions.w _ passes) k gives);
        over_exec = over-exec.0 (unset held (when-none (not held) Exec (right-none (locks ++ names table ++ above table) execs quiet)));
      };
      in_place = held-still;
    }

  none-fixed : edits s p f ≡ [] → IsFixed s p f
  none-fixed is = record {
    descriptors = λ d has. none-in ℕ d (Sealed.descriptors_on s p f writes) (least-none Writes _ (left-none (edit_least Writes (Sealed.descriptors_on s p f writes)) _ none)) ((openers writes d).1 has);
    restraints = by pledged refl (right-none (edit_least Writes (Sealed.descriptors_on s p f writes)) _ none);
  }
    where
      none : edit_least Writes (Sealed.descriptors_on s p f writes) ++ (if pledged then [] else of_table p.table) ≡ []
      none = sym edits-are ∙ is

      fixed : (o : Option Table) → p.table ≡ o → of_table o ≡ [] → (table : Table) × IsUnveiledFixed s p f table
      fixed None at quiet = cc quiet
      fixed (Some table) at quiet = (table, unveiled-fixed table quiet at)

      by : (b : Bool) → pledged ≡ b → (if b then [] else of_table p.table) ≡ [] → Closed.IsFixedByPledge s p f ⊎ ((table : Table) × IsUnveiledFixed s p f table)
      by true is quiet = let l = (two p Wpath ExecPromise).0 is in inl (record { no_wpath = l.0; no_exec = l.1 })
      by false is quiet = inr (fixed p.table refl quiet)

  -- ---- fixed, so no reason

  module _ (table : Table) (u : IsUnveiledFixed s p f table) where
    given-none : (b : Bool) → in_place ≡ b → (k : ℕ) → Closed.GivesName s p f table (lets_edit b) k → ⊥
    given-none true is k g = ⊎_elim (λ w. u.from.names k (g.0, g.1, g.2, g.3, w)) (λ no. cc no) (or_cases (permissions_at table k).w false g.4)
    given-none false is k g = ⊎_elim (λ w. u.from.names k (g.0, g.1, g.2, g.3, w)) (λ rc. unveiled.names k (g.0, g.1, g.2, g.3, rc)) (or_cases (permissions_at table k).w _ g.4)
      where
        unveiled : IsUnveiledInPlace s p f table
        unveiled = ⊎_elim (λ l. (let both : true ≡ false = sym ((two p Cpath ExecPromise).1 (l.no_cpath, l.no_exec)) ∙ is in cc both)) (λ v. v) u.in_place

    above-none : (b : Bool) → in_place ≡ b → edits_above s p f b table ≡ []
    above-none true is = refl
    above-none false is = ap (edit_least Above) (empty-from ℕ (Sealed.above s p f table) (λ k h. unveiled.directories k ((governors table k).0 h)))
      where
        unveiled : IsUnveiledInPlace s p f table
        unveiled = ⊎_elim (λ l. (let both : true ≡ false = sym ((two p Cpath ExecPromise).1 (l.no_cpath, l.no_exec)) ∙ is in cc both)) (λ v. v) u.in_place

    table-none : of_table (Some table) ≡ []
    table-none =
        let locked : p.locked ≡ true = u.from.locked in
        let gives : giving table ≡ [] = empty-from ℕ (giving table) (λ k h. given-none in_place refl k ((givers table (lets_edit in_place) k).0 h)) in
        let higher : above table ≡ [] = above-none in_place refl in
        let over : held ≡ true = over-exec.1 u.from.over_exec in
        λ i. edit_when (not (locked i)) NotLocked ++ edit_least Gives (gives i) ++ higher i ++ edit_when (not (over i)) Exec

  fixed-none : IsFixed s p f → edits s p f ≡ []
  fixed-none fixed =
      let quiet : Sealed.descriptors_on s p f writes ≡ [] = empty-from ℕ (Sealed.descriptors_on s p f writes) (λ d h. fixed.descriptors d ((openers writes d).0 h)) in
      let rest : (if pledged then [] else of_table p.table) ≡ [] = ⊎_elim
      (λ l. ap (λ b. if b then [] else of_table p.table) ((two p Wpath ExecPromise).1 (l.no_wpath, l.no_exec)))
      (λ (u : (table : Table) × IsUnveiledFixed s p f table). elim pledged as (λ b. (if b then [] else of_table p.table) ≡ []) [ true ↦ refl | false ↦ ap of_table u.1.from.in_force ∙ table-none u.0 u.1 ])
      fixed.restraints in
      edits-are ∙ (λ i. edit_least Writes (quiet i) ++ rest i)

pub edits-fixed : (s : State) (p : Process) (f : ℕ) → IsWellFormed s.tree → edits s p f ≡ [] ↔ IsFixed s p f
edits-fixed s p f w = (none-fixed s p f w, fixed-none s p f w)
