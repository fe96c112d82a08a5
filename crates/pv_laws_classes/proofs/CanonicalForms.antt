-- The equivalence of states that are equal up to a renumbering of open files, and their canonical form.
use Rattle.std.proofs.Common.{◌≡◌, ◌≢◌, ℕ, zero, suc, ◌-◌, Bool, true, false, ◌||◌, ◌==◌, if◌then◌else◌, List, [], ◌∷◌, ◌++◌, map, length, replicate, slice_get, None, Some, is_some, refl, ap, ap₂, sym, subst, ◌∙◌, ⊎_elim}
use Rattle.std.specs.List.{AllByRecursion}
use Rattle.std.proofs.lemmas.Bool.{cases_eq, eq-eqb, ne_eqb, eqb-true, or_left, or_right, or_cases}
use Rattle.pv_model.specs.declared.limits.TheConstants.{OPEN_FILES}
use Rattle.pv_model.specs.Machine.{among, used_files, Numbered, at_number, OpenFile, Descriptor, ProcessRecord, live, ended_record, State}
use Rattle.pv_laws_answers.proofs.StateDecoding.{reported-apart}
use Rattle.pv_laws_states.specs.Held.{used}
use Rattle.pv_laws_states.specs.States.{IsValid}
use Rattle.pv_laws_states.proofs.CollectedStates.{is_collected}
use Rattle.pv_laws_states.proofs.ReferenceMembers.{all_of, used-among}
use Rattle.pv_laws_classes.specs.Canonical.{AreEqualRenumbered, RenumberingIsEquivalence, distinct_without, references, index_in, canonical_number, no_file, canonical_files, canonical, CanonicalIsUnique, ClassesAreDistinguished}
use Rattle.pv_laws_classes.specs.Renumbering.{renumbered_descriptor, renumbered_descriptors, renumbered_processes, IsInUse, Renumbered}
use Rattle.pv_laws_classes.proofs.RenumberedLists.{EachUses, uses-of, agree-processes, used-renumbered}
use Rattle.pv_laws_classes.proofs.RenumberedStates.{IsPresent}

-- ---- composition of numberings

module _ (f g : ℕ → ℕ) where
  abbrev both : ℕ → ℕ
  both n = g (f n)

  descriptors-both : (ds : Numbered Descriptor) → renumbered_descriptors g (renumbered_descriptors f ds) ≡ renumbered_descriptors both ds
  descriptors-both [] = refl
  descriptors-both (None ∷ ds) = ap (λ (xs : Numbered Descriptor). None ∷ xs) (descriptors-both ds)
  descriptors-both (Some d ∷ ds) = ap (λ (xs : Numbered Descriptor). Some (renumbered_descriptor both d) ∷ xs) (descriptors-both ds)

  processes-both : (es : List (ℕ × ProcessRecord)) → renumbered_processes g (renumbered_processes f es) ≡ renumbered_processes both es
  processes-both [] = refl
  processes-both ((j, live p) ∷ es) = ap₂ (λ ds (xs : List (ℕ × ProcessRecord)). (j, live (record p { descriptors = ds })) ∷ xs) (descriptors-both p.descriptors) (processes-both es)
  processes-both ((j, ended_record parent status) ∷ es) = ap (λ (xs : List (ℕ × ProcessRecord)). (j, ended_record parent status) ∷ xs) (processes-both es)

descriptors-itself : (ds : Numbered Descriptor) → renumbered_descriptors (λ n. n) ds ≡ ds
descriptors-itself [] = refl
descriptors-itself (None ∷ ds) = ap (λ (xs : Numbered Descriptor). None ∷ xs) (descriptors-itself ds)
descriptors-itself (Some d ∷ ds) = ap (λ (xs : Numbered Descriptor). Some d ∷ xs) (descriptors-itself ds)

processes-itself : (es : List (ℕ × ProcessRecord)) → renumbered_processes (λ n. n) es ≡ es
processes-itself [] = refl
processes-itself ((j, live p) ∷ es) = ap₂ (λ ds (xs : List (ℕ × ProcessRecord)). (j, live (record p { descriptors = ds })) ∷ xs) (descriptors-itself p.descriptors) (processes-itself es)
processes-itself ((j, ended_record parent status) ∷ es) = ap (λ (xs : List (ℕ × ProcessRecord)). (j, ended_record parent status) ∷ xs) (processes-itself es)

-- ---- the open files in use

module _ (s : State) (whole : IsValid s) where
  -- a descriptor refers only to an open file
  pub used-present : (n : ℕ) → among (used s) n ≡ true → IsPresent s.files n
  used-present n is =
      let found = used-among s whole.processes.ascending n is in
      subst (IsPresent s.files) found.6 ((whole.processes.placed found.0 found.1 found.4).opens found.2 found.3 found.5)

  pub uses-present : EachUses (IsPresent s.files) s.processes
  uses-present = uses-of (IsPresent s.files) s.processes used-present

  -- a descriptor refers to each open file
  pub present-used : (n : ℕ) → IsInUse s n → among (used s) n ≡ true
  present-used n there = by (among (used s) n) refl
    where
      by : (b : Bool) → among (used s) n ≡ b → b ≡ true
      by true is = refl
      by false is =
          let none : at_number s.files n ≡ None = ap (λ (z : State). at_number z.files n) (sym whole.collected) ∙ (is_collected s).other_files_go n is in
          let bad : true ≡ false = sym there ∙ ap is_some none in cc bad

-- ---- the equivalence

reflexive : (s : State) → AreEqualRenumbered s s
reflexive s = (
  λ n. n,
  record {
    tree = refl;
    last_process = refl;
    processes = sym (processes-itself s.processes);
    injective = λ m n there_m there_n same. same;
    files = λ n there. refl;
    no_others = λ m there. (m, there, refl);
  },
)

pub transitive : (s t u : State) → AreEqualRenumbered s t → AreEqualRenumbered t u → AreEqualRenumbered s u
transitive s t u (f, is) (g, next) = (
  both f g,
  record {
    tree = next.tree ∙ is.tree;
    last_process = next.last_process ∙ is.last_process;
    processes = next.processes ∙ ap (renumbered_processes g) is.processes ∙ processes-both f g s.processes;
    injective = λ m n there_m there_n same. is.injective m n there_m there_n (next.injective (f m) (f n) (taken m there_m) (taken n there_n) same);
    files = λ n there. next.files (f n) (taken n there) ∙ is.files n there;
    no_others = λ m there.
        let had = next.no_others m there in
        let old = is.no_others had.0 had.1 in
        (old.0, old.1, ap g old.2 ∙ had.2);
  },
)
  where
    taken : (n : ℕ) → IsInUse s n → IsInUse t (f n)
    taken n there = ap is_some (is.files n there) ∙ there

module _ (f : ℕ → ℕ) (s t : State) (whole : IsValid s) (is : Renumbered f s t) where
  pub back_if : (m : ℕ) (b : Bool) → is_some (at_number t.files m) ≡ b → ℕ
  back_if m true there = (is.no_others m there).0
  back_if m false none = 0

  pub back : ℕ → ℕ
  back m = back_if m (is_some (at_number t.files m)) refl

  back-is : (m : ℕ) → IsInUse t m → IsInUse s (back m) × (f (back m) ≡ m)
  unfolding back back_if
  back-is m there = by (is_some (at_number t.files m)) refl there
    where
      by : (b : Bool) (is_b : is_some (at_number t.files m) ≡ b) → b ≡ true → IsInUse s (back_if m b is_b) × (f (back_if m b is_b) ≡ m)
      by true at known = ((is.no_others m at).1, (is.no_others m at).2)
      by false at known = let bad : true ≡ false = sym known in cc bad

  taken : (n : ℕ) → IsInUse s n → IsInUse t (f n)
  taken n there = ap is_some (is.files n there) ∙ there

  back-f : (n : ℕ) → IsInUse s n → back (f n) ≡ n
  back-f n there = let old = back-is (f n) (taken n there) in is.injective (back (f n)) n old.0 there old.1

  pub inverse : Renumbered back t s
  inverse = record {
    tree = sym is.tree;
    last_process = sym is.last_process;
    processes =
        sym (ap (renumbered_processes back) is.processes ∙ processes-both f back s.processes
        ∙ agree-processes (IsPresent s.files) (λ n. n) (both f back) back-f s.processes (uses-present s whole) ∙ processes-itself s.processes);
    injective = λ m n there_m there_n same. sym (back-is m there_m).1 ∙ ap f same ∙ (back-is n there_n).1;
    files = λ n there. let old = back-is n there in sym (is.files (back n) old.0) ∙ ap (at_number t.files) old.1;
    no_others = λ m there. (f m, taken m there, back-f m there);
  }

pub symmetric : (s t : State) → IsValid s → AreEqualRenumbered s t → AreEqualRenumbered t s
symmetric s t whole (f, is) = (back f s t whole is, inverse f s t whole is)

pub equivalence : RenumberingIsEquivalence
equivalence = record { reflexive = reflexive; symmetric = symmetric; transitive = transitive }

-- ---- lists of distinct numbers

-- no number occurs twice
AreDistinct : List ℕ → Type 0
AreDistinct [] = Unit {0}
AreDistinct (n ∷ ns) = (among ns n ≡ false) × AreDistinct ns

first-from : (had ns : List ℕ) (n : ℕ) → among (distinct_without had ns) n ≡ true → among ns n ≡ true
first-from had [] n is = is
first-from had (m ∷ ns) n is = by (first-from had ns n) (first-from (m ∷ had) ns n) (among had m) is
  where
    by : (among (distinct_without had ns) n ≡ true → among ns n ≡ true) → (among (distinct_without (m ∷ had) ns) n ≡ true → among ns n ≡ true)
        → (b : Bool) → among (if b then distinct_without had ns else m ∷ distinct_without (m ∷ had) ns) n ≡ true → (m == n || among ns n) ≡ true
    by old new true is = or_right (m == n) _ (old is)
    by old new false is = ⊎_elim (λ here. or_left (m == n) _ here) (λ there. or_right (m == n) _ (new there)) (or_cases (m == n) (among (distinct_without (m ∷ had) ns) n) is)

first-new : (had ns : List ℕ) (n : ℕ) → among had n ≡ true → among (distinct_without had ns) n ≡ false
first-new had [] n is = refl
first-new had (m ∷ ns) n is = by (first-new had ns n is) (first-new (m ∷ had) ns n (or_right (m == n) _ is)) (among had m) refl
  where
    by : among (distinct_without had ns) n ≡ false → among (distinct_without (m ∷ had) ns) n ≡ false → (b : Bool) → among had m ≡ b → among (if b then distinct_without had ns else m ∷ distinct_without (m ∷ had) ns) n ≡ false
    by none none' true old = none
    by none none' false new = ap₂ (λ a b. a || b) (ne_eqb m n (λ same. let bad : true ≡ false = sym is ∙ ap (among had) (sym same) ∙ new in cc bad)) none'

first-distinct : (had ns : List ℕ) → AreDistinct (distinct_without had ns)
unfolding AreDistinct
first-distinct had [] = tt
first-distinct had (m ∷ ns) = by (first-distinct had ns) (first-distinct (m ∷ had) ns) (among had m)
  where
    by : AreDistinct (distinct_without had ns) → AreDistinct (distinct_without (m ∷ had) ns) → (b : Bool) → AreDistinct (if b then distinct_without had ns else m ∷ distinct_without (m ∷ had) ns)
    by old new true = old
    by old new false = (first-new (m ∷ had) ns m (or_left (m == m) _ (eq-eqb m m refl)), new)

first-has : (had ns : List ℕ) (n : ℕ) → among ns n ≡ true → among had n ≡ false → among (distinct_without had ns) n ≡ true
first-has had [] n is new = is
first-has had (m ∷ ns) n is new = by (λ there. first-has had ns n there new) (λ there fresh. first-has (m ∷ had) ns n there fresh) (among had m) refl
  where
    by : (among ns n ≡ true → among (distinct_without had ns) n ≡ true) → (among ns n ≡ true → among (m ∷ had) n ≡ false → among (distinct_without (m ∷ had) ns) n ≡ true)
        → (b : Bool) → among had m ≡ b → among (if b then distinct_without had ns else m ∷ distinct_without (m ∷ had) ns) n ≡ true
    by old more true was = ⊎_elim (λ here. let bad : true ≡ false = sym was ∙ ap (among had) (eqb-true m n here) ∙ new in cc bad) old (or_cases (m == n) (among ns n) is)
    by old more false was =
        ⊎_elim (λ same. or_left (m == n) _ (eq-eqb m n same))
        (λ apart.
        or_right (m == n) _ (more (⊎_elim (λ here. absurd (apart (eqb-true m n here))) (λ there. there) (or_cases (m == n) (among ns n) is)) (ap₂ (λ a b. a || b) (ne_eqb m n apart) new)))
        (cases_eq m n)

index-get : (ms : List ℕ) (n : ℕ) → among ms n ≡ true → slice_get ms (index_in ms n) ≡ Some n
index-get [] n is = cc is
index-get (m ∷ ms) n is = by (index-get ms n) (m == n) refl is
  where
    by : (among ms n ≡ true → slice_get ms (index_in ms n) ≡ Some n) → (b : Bool) → (m == n) ≡ b → (b || among ms n) ≡ true → slice_get (m ∷ ms) (if b then 0 else suc (index_in ms n)) ≡ Some n
    by rest true same is = ap Some (eqb-true m n same)
    by rest false other is = rest is

module _ (fs : Numbered OpenFile) (rest : Numbered OpenFile) where
  abbrev placed : List ℕ → Numbered OpenFile
  placed ms = map (at_number fs) ms ++ rest

  index-file : (ms : List ℕ) (n : ℕ) → among ms n ≡ true → at_number (placed ms) (index_in ms n) ≡ at_number fs n
  index-file [] n is = cc is
  index-file (m ∷ ms) n is = by (index-file ms n) (m == n) refl is
    where
      by : (among ms n ≡ true → at_number (placed ms) (index_in ms n) ≡ at_number fs n) → (b : Bool) → (m == n) ≡ b → (b || among ms n) ≡ true
          → at_number (placed (m ∷ ms)) (if b then 0 else suc (index_in ms n)) ≡ at_number fs n
      by later true same is = ap (at_number fs) (eqb-true m n same)
      by later false other is = later is

  file-index : ((k : ℕ) → is_some (at_number rest k) ≡ false) → (ms : List ℕ) → AreDistinct ms → (k : ℕ) → is_some (at_number (placed ms) k) ≡ true
      → (n : ℕ) × (among ms n ≡ true) × (index_in ms n ≡ k) × (is_some (at_number fs n) ≡ true)
  unfolding AreDistinct
  file-index none [] distinct k there = let bad : true ≡ false = sym there ∙ none k in cc bad
  file-index none (m ∷ ms) distinct zero there = (m, or_left (m == m) _ (eq-eqb m m refl), ap (λ b. if b then 0 else suc (index_in ms m)) (eq-eqb m m refl), there)
  file-index none (m ∷ ms) distinct (suc k) there =
      let old = file-index none ms distinct.1 k there in
      let apart : m ≢ old.0 = λ same. let bad : true ≡ false = sym old.1 ∙ ap (among ms) (sym same) ∙ distinct.0 in cc bad in
      (old.0, or_right (m == old.0) _ old.1, ap (λ b. if b then 0 else suc (index_in ms old.0)) (ne_eqb m old.0 apart) ∙ ap suc old.2, old.3)

-- ---- the canonical form is equal up to a renumbering

nothing : (j k : ℕ) → is_some (at_number (replicate j no_file) k) ≡ false
nothing zero k = refl
nothing (suc j) zero = refl
nothing (suc j) (suc k) = nothing j k

module _ (s : State) (whole : IsValid s) where
  pub in-references : (n : ℕ) → IsInUse s n → among (references s) n ≡ true
  in-references n there = first-has [] (used s) n (present-used s whole n there) refl

  pub references-present : (n : ℕ) → among (references s) n ≡ true → IsPresent s.files n
  references-present n is = used-present s whole n (first-from [] (used s) n is)

  pub canonical-alike : Renumbered (canonical_number s) s (canonical s)
  unfolding canonical
  canonical-alike = record {
    tree = refl;
    last_process = refl;
    processes = refl;
    injective = λ m n there_m there_n same.
        let equal : Some m ≡ Some n = sym (index-get (references s) m (in-references m there_m)) ∙ ap (slice_get (references s)) same ∙ index-get (references s) n (in-references n there_n) in cc equal;
    files = λ n there. index-file s.files (replicate (OPEN_FILES - length (references s)) no_file) (references s) n (in-references n there);
    no_others = λ m there.
        let had = file-index s.files (replicate (OPEN_FILES - length (references s)) no_file) (nothing (OPEN_FILES - length (references s))) (references s) (first-distinct [] (used s)) m there in
        (had.0, had.3, had.2);
  }

-- ---- states that are equal up to a renumbering have equal canonical forms

each-of : (P : ℕ → Type 0) (ms : List ℕ) → ((n : ℕ) → among ms n ≡ true → P n) → AllByRecursion P ms
each-of P [] all = tt
each-of P (m ∷ ms) all = (all m (or_left (m == m) _ (eq-eqb m m refl)), each-of P ms (λ n is. all n (or_right (m == n) _ is)))

module _ (f : ℕ → ℕ) (P : ℕ → Type 0) (injective : (m n : ℕ) → P m → P n → f m ≡ f n → m ≡ n) where
  same-test : (m n : ℕ) → P m → P n → (f m == f n) ≡ (m == n)
  same-test m n in_m in_n = ⊎_elim (λ same. eq-eqb (f m) (f n) (ap f same) ∙ sym (eq-eqb m n same)) (λ apart. ne_eqb (f m) (f n) (λ same. apart (injective m n in_m in_n same)) ∙ sym (ne_eqb m n apart)) (cases_eq m n)

  among-renumbered : (ms : List ℕ) (n : ℕ) → AllByRecursion P ms → P n → among (map f ms) (f n) ≡ among ms n
  among-renumbered [] n all in_n = refl
  among-renumbered (m ∷ ms) n all in_n = ap₂ (λ a b. a || b) (same-test m n all.0 in_n) (among-renumbered ms n all.1 in_n)

  first-renumbered : (had ns : List ℕ) → AllByRecursion P had → AllByRecursion P ns → distinct_without (map f had) (map f ns) ≡ map f (distinct_without had ns)
  first-renumbered had [] all_had all = refl
  first-renumbered had (n ∷ ns) all_had all =
      ap (λ b. if b then distinct_without (map f had) (map f ns) else f n ∷ distinct_without (map f (n ∷ had)) (map f ns)) (among-renumbered had n all_had all.0)
      ∙ by (first-renumbered had ns all_had all.1) (first-renumbered (n ∷ had) ns (all.0, all_had) all.1) (among had n)
    where
      by : distinct_without (map f had) (map f ns) ≡ map f (distinct_without had ns) → distinct_without (map f (n ∷ had)) (map f ns) ≡ map f (distinct_without (n ∷ had) ns)
          → (b : Bool) → (if b then distinct_without (map f had) (map f ns) else f n ∷ distinct_without (map f (n ∷ had)) (map f ns)) ≡ map f (if b then distinct_without had ns else n ∷ distinct_without (n ∷ had) ns)
      by old new true = old
      by old new false = ap (λ xs. f n ∷ xs) new

  index-renumbered : (ms : List ℕ) (n : ℕ) → AllByRecursion P ms → P n → index_in (map f ms) (f n) ≡ index_in ms n
  index-renumbered [] n all in_n = refl
  index-renumbered (m ∷ ms) n all in_n = ap₂ (λ b k. if b then 0 else suc k) (same-test m n all.0 in_n) (index-renumbered ms n all.1 in_n)

length-renumbered : (f : ℕ → ℕ) (ms : List ℕ) → length (map f ms) ≡ length ms
length-renumbered f [] = refl
length-renumbered f (m ∷ ms) = ap suc (length-renumbered f ms)

module _ (f : ℕ → ℕ) (s t : State) (whole : IsValid s) (is : Renumbered f s t) where
  files-renumbered : (ms : List ℕ) → AllByRecursion (IsPresent s.files) ms → map (at_number t.files) (map f ms) ≡ map (at_number s.files) ms
  files-renumbered [] all = refl
  files-renumbered (m ∷ ms) all = ap₂ (λ x (xs : Numbered OpenFile). x ∷ xs) (is.files m all.0) (files-renumbered ms all.1)

  used-is : used t ≡ map f (used s)
  used-is = ap (all_of used_files) is.processes ∙ used-renumbered f s.processes

  references-is : references t ≡ map f (references s)
  references-is = ap (distinct_without []) used-is ∙ first-renumbered f (IsPresent s.files) is.injective [] (used s) tt (each-of (IsPresent s.files) (used s) (used-present s whole))

  all-present : AllByRecursion (IsPresent s.files) (references s)
  all-present = each-of (IsPresent s.files) (references s) (references-present s whole)

  number-is : (n : ℕ) → IsPresent s.files n → canonical_number t (f n) ≡ canonical_number s n
  number-is n there = ap (λ ms. index_in ms (f n)) references-is ∙ index-renumbered f (IsPresent s.files) is.injective (references s) n all-present there

  files-is : canonical_files t ≡ canonical_files s
  files-is =
      ap (λ ms. map (at_number t.files) ms ++ replicate (OPEN_FILES - length ms) no_file) references-is
      ∙ ap₂ (λ (xs : Numbered OpenFile) k. xs ++ replicate (OPEN_FILES - k) no_file) (files-renumbered (references s) all-present) (length-renumbered f (references s))

  processes-is : renumbered_processes (canonical_number t) t.processes ≡ renumbered_processes (canonical_number s) s.processes
  processes-is =
      ap (renumbered_processes (canonical_number t)) is.processes ∙ processes-both f (canonical_number t) s.processes
      ∙ agree-processes (IsPresent s.files) (canonical_number s) (both f (canonical_number t)) number-is s.processes (uses-present s whole)

  pub canonical-same : canonical s ≡ canonical t
  unfolding canonical
  canonical-same =
      sym (ap (λ (x : State). record x { files = canonical_files t; processes = renumbered_processes (canonical_number t) t.processes }) state-is
      ∙ ap₂ (λ (xs : Numbered OpenFile) (ps : List (ℕ × ProcessRecord)). record s { files = xs; processes = ps }) files-is processes-is)
    where
      -- only the open files and the processes differ
      state-is : t ≡ record s { files = t.files; processes = t.processes }
      state-is = λ i. record { tree = is.tree i; files = t.files; processes = t.processes; last_process = is.last_process i }

pub unique : CanonicalIsUnique
unique s t whole_s whole_t = (
  λ same. transitive s (canonical s) t (canonical_number s, canonical-alike s whole_s)
      (subst (λ (x : State). AreEqualRenumbered x t) (sym same) (symmetric t (canonical t) whole_t (canonical_number t, canonical-alike t whole_t))),
  λ (f, is). canonical-same f s t whole_s is,
)

pub distinguished : ClassesAreDistinguished
distinguished s t whole_s whole_t =
    let decides = reported-apart (canonical s) (canonical t) in
    let same = unique s t whole_s whole_t in
    (λ equal. same.0 (decides.0 equal), λ alike. decides.1 (same.1 alike))
