-- The records of programs are those of their groups.
use Rattle.std.proofs.Common.{◌≡◌, ◌∙◌, sym, ap, ap₂, ℕ, Bool, true, false, cond, ◌&&◌, ◌||◌, if◌then◌else◌, bytes_eq, List, [], ◌∷◌, ◌++◌, map, flat_map, filter, append_assoc, append-nil, refl}
use Rattle.std.specs.List.{list_all}
use Rattle.std.proofs.lemmas.Bool.{or_parts}
use Rattle.std.proofs.lemmas.Grind.{flat_map-append}
use Rattle.std.proofs.lemmas.List.Elements.{filter-append, filter_agree}
use Rattle.std.proofs.lemmas.List.Folds.{list_all-append}
use Rattle.std.proofs.lemmas.Simd.{map-map}
use Rattle.pv_model.specs.Machine.{elements_with_new_keys, Located, program_key, Numbers, groups, Bytes, Program, Tree}
use Rattle.pv_model.specs.Answers.Observed.{with_equal_key}
use Rattle.pv_model_questions.specs.declared.finding_kind.FindingKind.{FindingKind}
use Rattle.pv_model_questions.specs.declared.finding_kind.FindingKind.TheVariants.{Leak, Peer, Edit, Read}
use Rattle.pv_model_questions.specs.Exposure.{is_safe_in}
use Rattle.pv_laws_trees.proofs.DirectoryEntries.{bytes_eq-same, bytes_eq-itself}
use Rattle.pv_exposure.specs.Collected.{Exposed, Recorded, exposed_after, exposed_more, exposed_none, exposed_with, recorded_at, with_all, with_one}
use Rattle.pv_exposure.proofs.FirstKeys.{AreApart, firsts-apart, firsts-more, keyed, none-alike, unless_known}

-- ---- one more process of a program

pub with-both : (ks xs ys : List Recorded) → with_all ks (xs ++ ys) ≡ with_all (with_all ks xs) ys
with-both ks [] ys = refl
with-both ks (x ∷ xs) ys = with-both (with_one ks x) xs ys

both-filters : (p q : ℕ → Bool) (ns : List ℕ) → filter (λ n. p n && q n) ns ≡ filter q (filter p ns)
both-filters p q [] = refl
both-filters p q (n ∷ ns) = by (p n) (q n) refl (both-filters p q ns)
  where
    by : (a b : Bool) → q n ≡ b → filter (λ n. p n && q n) ns ≡ filter q (filter p ns)
        → cond (a && b) (n ∷ filter (λ n. p n && q n) ns) (filter (λ n. p n && q n) ns) ≡ filter q (cond a (n ∷ filter p ns) (filter p ns))
    by true true is rest = sym (ap (λ c. cond c (n ∷ filter q (filter p ns)) (filter q (filter p ns))) is ∙ ap (λ (ms : List ℕ). n ∷ ms) (sym rest))
    by true false is rest = sym (ap (λ c. cond c (n ∷ filter q (filter p ns)) (filter q (filter p ns))) is ∙ sym rest)
    by false true is rest = rest
    by false false is rest = rest

and-true : (b : Bool) → (b && true) ≡ b
and-true true = refl
and-true false = refl

module _ (files : List Bytes) (first : Tree) (named : List ℕ) where
  -- the record of a program from its processes
  abbrev pub summary : Program → List Located → Exposed
  summary program ls = record {
    program = program;
    leaks = with_all [] (flat_map (recorded_at files first Leak) ls);
    peers = with_all [] (flat_map (recorded_at files first Peer) ls);
    edits = with_all [] (flat_map (recorded_at files first Edit) ls);
    reads = with_all [] (flat_map (recorded_at files first Read) ls);
    safe = filter (λ f. list_all (is_safe_in f) ls) named;
  }

  abbrev pub summary_of : Located × List Located → Exposed
  summary_of (l, ls) = summary l.process.program ls

  recorded-more : (kind : FindingKind) (ls : List Located) (l : Located)
      → with_all (with_all [] (flat_map (recorded_at files first kind) ls)) (recorded_at files first kind l) ≡ with_all [] (flat_map (recorded_at files first kind) (ls ++ l ∷ []))
  recorded-more kind ls l =
      sym (with-both [] (flat_map (recorded_at files first kind) ls) (recorded_at files first kind l))
      ∙ ap (with_all [])
      (sym (flat_map-append (recorded_at files first kind) ls (l ∷ [])
      ∙ ap (λ (ks : List Recorded). flat_map (recorded_at files first kind) ls ++ ks) (append-nil (recorded_at files first kind l))))

  summary-more : (program : Program) (ls : List Located) (l : Located) → exposed_more files first (summary program ls) l ≡ summary program (ls ++ l ∷ [])
  summary-more program ls l =
      let safe : filter (λ f. is_safe_in f l) (filter (λ f. list_all (is_safe_in f) ls) named) ≡ filter (λ f. list_all (is_safe_in f) (ls ++ l ∷ [])) named =
      sym (both-filters (λ f. list_all (is_safe_in f) ls) (λ f. is_safe_in f l) named)
      ∙ filter_agree (λ f. list_all (is_safe_in f) ls && is_safe_in f l) (λ f. list_all (is_safe_in f) (ls ++ l ∷ []))
      (λ f. sym (list_all-append (is_safe_in f) ls (l ∷ []) ∙ ap (λ b. list_all (is_safe_in f) ls && b) (and-true (is_safe_in f l)))) named in
      λ i. record {
        program = program;
        leaks = recorded-more Leak ls l i;
        peers = recorded-more Peer ls l i;
        edits = recorded-more Edit ls l i;
        reads = recorded-more Read ls l i;
        safe = safe i;
      }

  summary-none : (program : Program) → exposed_none named program ≡ summary program []
  summary-none program = λ i. record { program = program; leaks = []; peers = []; edits = []; reads = []; safe = sym (all-recorded named) i }
    where
      all-recorded : (ns : List ℕ) → filter (λ f. true) ns ≡ ns
      all-recorded [] = refl
      all-recorded (n ∷ ns) = ap (λ (ms : List ℕ). n ∷ ms) (all-recorded ns)

  module _ (ls : List Located) (l : Located) where
    abbrev later : List Located
    later = ls ++ l ∷ []

    -- the record of the program of a process
    abbrev record_in : List Located → Located → Exposed
    record_in all f = summary_of (with_equal_key program_key all f)

    abbrev alike : Located → Located → Bool
    alike f x = bytes_eq (program_key x) (program_key f)

    alike-more : (f : Located) (b : Bool) → alike f l ≡ b → filter (alike f) later ≡ filter (alike f) ls ++ cond b (l ∷ []) []
    alike-more f b is = filter-append (alike f) ls (l ∷ []) ∙ ap (λ c. filter (alike f) ls ++ cond c (l ∷ []) []) is

    moved : (f : Located) → alike f l ≡ true → exposed_more files first (record_in ls f) l ≡ record_in later f
    moved f is = summary-more f.process.program (filter (alike f) ls) l ∙ ap (summary f.process.program) (sym (alike-more f true is))

    unmoved : (f : Located) → alike f l ≡ false → record_in ls f ≡ record_in later f
    unmoved f is = ap (summary f.process.program) (sym (alike-more f false is ∙ append-nil (filter (alike f) ls)))

    alone : filter (alike l) ls ≡ [] → exposed_more files first (exposed_none named l.process.program) l ≡ record_in later l
    alone none =
        ap (λ e. exposed_more files first e l) (summary-none l.process.program) ∙ summary-more l.process.program [] l
        ∙ ap (summary l.process.program) (sym (alike-more l true (bytes_eq-itself (program_key l)) ∙ ap (λ (xs : List Located). xs ++ l ∷ []) none))

    others : (k : Numbers) → k ≡ program_key l → (fs : List Located) → keyed program_key k fs ≡ false → map (record_in ls) fs ≡ map (record_in later) fs
    others k same [] apart = refl
    others k same (f ∷ fs) apart =
        let parts = or_parts (bytes_eq k (program_key f)) (keyed program_key k fs) apart in
        ap₂ (λ (x : Exposed) (xs : List Exposed). x ∷ xs) (unmoved f (ap (λ j. bytes_eq j (program_key f)) (sym same) ∙ parts.0)) (others k same fs parts.1)

    records-in : (fs : List Located) → AreApart program_key fs → (keyed program_key (program_key l) fs ≡ false → filter (alike l) ls ≡ [])
        → exposed_with files first named (map (record_in ls) fs) l ≡ map (record_in later) (unless_known program_key (keyed program_key (program_key l) fs) fs l)
    records-in [] apart none = ap (λ (e : Exposed). e ∷ []) (alone (none refl))
    records-in (f ∷ fs) apart none = by (alike f l) refl (records-in fs apart.1)
      where
        onto : (b : Bool) → f ∷ unless_known program_key b fs l ≡ unless_known program_key b (f ∷ fs) l
        onto true = refl
        onto false = refl

        by : (b : Bool) → alike f l ≡ b
            → ((keyed program_key (program_key l) fs ≡ false → filter (alike l) ls ≡ []) → exposed_with files first named (map (record_in ls) fs) l ≡ map (record_in later) (unless_known program_key (keyed program_key (program_key l) fs) fs l))
            → (if b then exposed_more files first (record_in ls f) l ∷ map (record_in ls) fs else record_in ls f ∷ exposed_with files first named (map (record_in ls) fs) l)
            ≡ map (record_in later) (unless_known program_key (b || keyed program_key (program_key l) fs) (f ∷ fs) l)
        by true is rest =
            ap₂ (λ (x : Exposed) (xs : List Exposed). x ∷ xs) (moved f is) (others (program_key f) (sym (bytes_eq-same (program_key l) (program_key f) is)) fs apart.0)
        by false is rest =
            ap₂ (λ (x : Exposed) (xs : List Exposed). x ∷ xs) (unmoved f is)
            (rest (λ absent. none (ap (λ (b : Bool). b || keyed program_key (program_key l) fs) is ∙ absent)))
            ∙ ap (map (record_in later)) (onto (keyed program_key (program_key l) fs))

    records-more : exposed_with files first named (map (record_in ls) (elements_with_new_keys program_key [] ls)) l ≡ map (record_in later) (elements_with_new_keys program_key [] later)
    records-more =
        records-in (elements_with_new_keys program_key [] ls) (firsts-apart program_key ls) (none-alike program_key l ls)
        ∙ ap (map (record_in later)) (sym (firsts-more program_key ls l))

  -- the records of processes, by their programs
  abbrev pub records_in : List Located → List Exposed
  records_in ls = map (λ f. summary_of (with_equal_key program_key ls f)) (elements_with_new_keys program_key [] ls)

  -- the records of processes in sequence
  records-from : (ls more : List Located) → exposed_after files first named (records_in ls) more ≡ records_in (ls ++ more)
  records-from ls [] = ap records_in (sym (append-nil ls))
  records-from ls (l ∷ more) = ap (λ (es : List Exposed). exposed_after files first named es more) (records-more ls l) ∙ records-from (ls ++ l ∷ []) more ∙ ap records_in (append_assoc ls (l ∷ []) more)

  pub records-are : (ls : List Located) → exposed_after files first named [] ls ≡ map summary_of (groups program_key ls)
  records-are ls = records-from [] ls ∙ sym (map-map summary_of (with_equal_key program_key ls) (elements_with_new_keys program_key [] ls))
