-- The verdict on a file, given the access of all processes.
use Rattle.std.proofs.Common.{◌≡◌, ◌≢◌, ℕ, ◌+◌, ◌<◌, ◌≤◌, Bool, true, false, cond, ◌&&◌, List, [], ◌∷◌, map, drop, length, get_or, Option, None, Some, refl, ap, sym, ◌∙◌, inl, inr, add-one, drop-cons}
use Rattle.std.specs.List.{list_all}
use Rattle.std.proofs.lemmas.Bool.{and_parts, and_from}
use Rattle.std.proofs.lemmas.List.{drop_all}
use Rattle.std.specs.FinMap.Entries.{is_sorted}
use Rattle.std.specs.Ordering.{nat_cmp}
use Rattle.pv_model.specs.declared.verdict.Leak.{Leak}
use Rattle.pv_model.specs.declared.verdict.Verdict.{Verdict}
use Rattle.pv_model.specs.declared.verdict.Verdict.TheVariants.{Sealed as SealedVerdict, Frozen, Exposed}
use Rattle.pv_model.specs.declared.verdict.Why.{Why}
use Rattle.pv_model.specs.Machine.{live_processes, State, process_at, names_of, first_of}
use Rattle.pv_model.specs.Sealed
use Rattle.pv_laws_trees.proofs.ListMembers.{In}
use Rattle.pv_laws_access.proofs.Verdicts.{verdicts-exact}
use Rattle.pv_audit.specs.declared.suspects.Suspect.{Suspect}
use Rattle.pv_audit.specs.Findings.{suspect, with_names_noted}
use Rattle.pv_audit.specs.Reasons.{reason_at, preserved_at, with_leak, leak_among}
use Rattle.pv_audit.proofs.FirstReasons.{reason-first, preserved-frozen}
use Rattle.pv_audit.proofs.NameAccess.{with_name_noted-pid}
use Rattle.pv_audit.proofs.LiveProcesses.{Living, start, live-process}

-- ---- one process at a time

pub drop-at : {X : Type 0} (xs : List X) (i : ℕ) (x : X) → i < length xs → x ≡ get_or xs i x → drop i xs ≡ x ∷ drop (i + 1) xs
drop-at xs i x within is = drop-cons xs i x within ∙ (λ j. sym is j ∷ drop (sym (add-one i) j) xs)

drop_past : {X : Type 0} (xs : List X) (i : ℕ) → length xs ≤ i → drop i xs ≡ []
drop_past xs i past = drop_all i xs past

pub some-of : {X : Type 0} (xs : List X) → (length xs ≡ 0 → ⊥) → xs ≢ []
some-of xs some none = some (ap length none)

module _ (s : State) (f : ℕ) (xs : List Suspect) where
  pub leak-here : (i : ℕ) (x : Suspect) (why : Why) → i < length xs → x ≡ get_or xs i x → reason_at s f x ≡ Some why → leak_among s f (drop i xs) ≡ Some (record { pid = x.pid; why = why })
  leak-here i x why within is reason =
      ap (leak_among s f) (drop-at xs i x within is) ∙ ap (λ (o : Option Why). with_leak s f x.pid o (leak_among s f (drop (i + 1) xs))) reason

  pub leak-past : (i : ℕ) (x : Suspect) → i < length xs → x ≡ get_or xs i x → reason_at s f x ≡ None → leak_among s f (drop i xs) ≡ leak_among s f (drop (i + 1) xs)
  leak-past i x within is reason =
      ap (leak_among s f) (drop-at xs i x within is) ∙ ap (λ (o : Option Why). with_leak s f x.pid o (leak_among s f (drop (i + 1) xs))) reason

  pub leak-none : (i : ℕ) → length xs ≤ i → leak_among s f (drop i xs) ≡ None
  leak-none i past = ap (leak_among s f) (drop_past xs i past)

  pub preserved-here : (i : ℕ) (x : Suspect) → i < length xs → x ≡ get_or xs i x → preserved_at s f x ≡ false → list_all (preserved_at s f) (drop i xs) ≡ false
  preserved-here i x within is not_preserved = ap (list_all (preserved_at s f)) (drop-at xs i x within is) ∙ ap (λ b. b && list_all (preserved_at s f) (drop (i + 1) xs)) not_preserved

  pub preserved-past : (i : ℕ) (x : Suspect) → i < length xs → x ≡ get_or xs i x → preserved_at s f x ≡ true → list_all (preserved_at s f) (drop i xs) ≡ list_all (preserved_at s f) (drop (i + 1) xs)
  preserved-past i x within is preserved = ap (list_all (preserved_at s f)) (drop-at xs i x within is) ∙ ap (λ b. b && list_all (preserved_at s f) (drop (i + 1) xs)) preserved

  pub preserved-all : (i : ℕ) → length xs ≤ i → list_all (preserved_at s f) (drop i xs) ≡ true
  preserved-all i past = ap (list_all (preserved_at s f)) (drop_past xs i past)

-- ---- all processes

abbrev leak_from : Option (ℕ × Why) → Option Leak
leak_from None = None
leak_from (Some (pid, why)) = Some (record { pid = pid; why = why })

module _ (s : State) (f : ℕ) where
  abbrev done : Suspect → Suspect
  done x = with_names_noted s (names_of s.tree f) x

  leaks_by : (pid : ℕ) (whys : List Why) (later : Option Leak) (rest : Option (ℕ × Why)) → later ≡ leak_from rest → with_leak s f pid (first_of whys) later ≡ leak_from (Sealed.leak_or pid whys rest)
  leaks_by pid [] later rest is = is
  leaks_by pid (why ∷ whys) later rest is = refl

  leaks_first : (ps : List Living) → ((p : Living) → In Living p ps → process_at s p.0 ≡ Some p.1) → leak_among s f (map done (map start ps)) ≡ leak_from (Sealed.first_leak s f ps)
  leaks_first [] each = refl
  leaks_first ((pid, p) ∷ ps) each =
      (λ i. with_leak s f (with_name_noted-pid s (names_of s.tree f) (suspect pid) i) (reason-first s p f pid (each (pid, p) (inl refl)) i) (leak_among s f (map done (map start ps))))
      ∙ leaks_by pid (Sealed.leaks s p f) (leak_among s f (map done (map start ps))) (Sealed.first_leak s f ps) (leaks_first ps (λ q within. each q (inr within)))

  keeps_all : (ps : List Living) → ((p : Living) → In Living p ps → process_at s p.0 ≡ Some p.1) → list_all (preserved_at s f) (map done (map start ps)) ≡ list_all (λ (p : Living). Sealed.is_frozen_to s p.1 f) ps
  keeps_all [] each = refl
  keeps_all ((pid, p) ∷ ps) each =
      λ i. preserved-frozen s p f pid (each (pid, p) (inl refl)) i && keeps_all ps (λ q within. each q (inr within)) i

  module _ (sorted : is_sorted nat_cmp s.processes ≡ true) (xs : List Suspect) (is : xs ≡ map done (map start (live_processes s.processes))) where
    leak_is : leak_among s f xs ≡ leak_from (Sealed.first_leak s f (live_processes s.processes))
    leak_is = ap (leak_among s f) is ∙ leaks_first (live_processes s.processes) (live-process s sorted)

    preserved_is : list_all (preserved_at s f) xs ≡ list_all (λ (p : Living). Sealed.is_frozen_to s p.1 f) (live_processes s.processes)
    preserved_is = ap (list_all (preserved_at s f)) is ∙ keeps_all (live_processes s.processes) (live-process s sorted)

    leak_of_first : (o : Option (ℕ × Why)) (leak : Leak) → leak_from o ≡ Some leak → o ≡ Some (leak.pid, leak.why)
    leak_of_first None leak same = cc same
    leak_of_first (Some (pid, why)) leak same =
        let one : ◌≡◌ {A = Leak} (record { pid = pid; why = why }) leak = cc same in ap (λ (l : Leak). Some (l.pid, l.why)) one

    pub verdict-exposed : (leak : Leak) → names_of s.tree f ≢ [] → leak_among s f xs ≡ Some leak → Sealed.verdict s f ≡ Some (Exposed leak)
    verdict-exposed leak named table_access =
        ((verdicts-exact s f).exposed leak).1 (named, leak_of_first (Sealed.first_leak s f (live_processes s.processes)) leak (sym leak_is ∙ table_access))

    no_leak : leak_among s f xs ≡ None → (leak : Leak) → Sealed.verdict s f ≡ Some (Exposed leak) → ⊥
    no_leak none leak is_exposed =
        let both = ((verdicts-exact s f).exposed leak).0 is_exposed in
        let some : leak_among s f xs ≡ Some leak = leak_is ∙ ap leak_from both.1 in
        let bad : None ≡ Some leak = sym none ∙ some in cc bad

    pub verdict-preserved : (b : Bool) → names_of s.tree f ≢ [] → leak_among s f xs ≡ None → list_all (preserved_at s f) xs ≡ b → Sealed.verdict s f ≡ cond b (Some Frozen) (Some SealedVerdict)
    verdict-preserved b named none preserved = by (Sealed.verdict s f) refl b preserved
      where
        by : (v : Option Verdict) → Sealed.verdict s f ≡ v → (b : Bool) → list_all (preserved_at s f) xs ≡ b → v ≡ cond b (Some Frozen) (Some SealedVerdict)
        by None is b preserved = absurd (named ((verdicts-exact s f).none.0 is))
        by (Some (Exposed leak)) is b preserved = absurd (no_leak none leak is)
        by (Some Frozen) is true preserved = refl
        by (Some Frozen) is false preserved =
            let frozen : Sealed.is_frozen s f ≡ true = (verdicts-exact s f).frozen.0 is in
            let all : list_all (λ (p : Living). Sealed.is_frozen_to s p.1 f) (live_processes s.processes) ≡ true = (and_parts (Sealed.is_sealed s f) _ frozen).1 in
            let bad : true ≡ false = sym all ∙ sym preserved_is ∙ preserved in cc bad
        by (Some SealedVerdict) is false preserved = refl
        by (Some SealedVerdict) is true preserved =
            let both = (verdicts-exact s f).sealed.0 is in
            let frozen : Sealed.is_frozen s f ≡ true = and_from (Sealed.is_sealed s f) _ both.0 (sym preserved_is ∙ preserved) in
            let bad : true ≡ false = sym frozen ∙ both.1 in cc bad
