-- The targets at which walks were checked, and their records, with one more walk.
use Rattle.std.proofs.Common.{◌≡◌, ◌∙◌, ℕ, Bool, true, false, cond, not, ◌&&◌, ◌||◌, bytes_eq, List, [], ◌∷◌, ◌++◌, map, append_assoc, refl, sym, ap, ap₂}
use Rattle.std.specs.List.{filter, list_any}
use Rattle.std.proofs.lemmas.Bool.{and_parts, or_parts}
use Rattle.std.proofs.lemmas.List.{append-nil, map-append}
use Rattle.std.proofs.lemmas.List.Elements.{filter-append}
use Rattle.std.proofs.lemmas.Slice.Eq.{bytes_eq-Decides}
use Rattle.pv_model.specs.declared.perms.Perms.{Perms}
use Rattle.pv_model.specs.declared.target.Target.{Target}
use Rattle.pv_model.specs.Machine.{Judged, same_judged, walks_to, Bytes, same_target}
use Rattle.pv_model.specs.Answers.Needs.{permissions_asked, targets_in}
use Rattle.pv_laws_trees.proofs.DirectoryEntries.{bytes_eq-itself}
use Rattle.pv_laws_trees.proofs.UnveilTargets.{same_target-itself, same_target-same}
use Rattle.pv_needs.specs.declared.process_images.RecordedTarget.{RecordedTarget}
use Rattle.pv_needs.specs.declared.process_images.Times.{Times}
use Rattle.pv_needs.specs.ProcessImages.{first_recorded_walk, recorded_target, recorded_targets, target_with_walk, times_of, walk_more, walks_more}
use Rattle.pv_needs.proofs.CallCounts.{permissions-more, times-more}

-- ---- equal targets

record AreOne (a b : Judged) : Type 0 where
  target : a.target ≡ b.target
  words : a.words ≡ b.words

are-one : (a b : Judged) → same_judged a b ≡ true → AreOne a b
are-one a b same =
    let parts = and_parts (same_target a.target b.target) (bytes_eq a.words b.words) same in
    record { target = same_target-same a.target b.target parts.0; words = (bytes_eq-Decides a.words b.words).0 parts.1 }

-- equality of targets is transitive
alike : (a b x : Judged) → same_judged a b ≡ true → same_judged a x ≡ same_judged b x
alike a b x same = let one = are-one a b same in ap₂ (λ (t : Target) (w : Bytes). same_target t x.target && bytes_eq w x.words) one.target one.words

same-self : (a : Judged) → same_judged a a ≡ true
same-self a = both (same_target a.target a.target) (bytes_eq a.words a.words) (same_target-itself a.target) (bytes_eq-itself a.words)
  where
    both : (x y : Bool) → x ≡ true → y ≡ true → (x && y) ≡ true
    both true y p q = q
    both false y p q = p

same-back : (a b : Judged) → same_judged a b ≡ true → same_judged b a ≡ true
same-back a b same = sym (alike a b a same) ∙ same-self a

swapped : (a b : Judged) → same_judged a b ≡ false → same_judged b a ≡ false
swapped a b apart = by (same_judged b a) refl
  where
    by : (x : Bool) → same_judged b a ≡ x → same_judged b a ≡ false
    by true is = let back = same-back b a is in cc (back, apart)
    by false is = is

-- ---- distinct targets

abbrev unlike : Judged → Judged → Bool
unlike a b = not (same_judged a b)

-- a target is among others
abbrev among : List Judged → Judged → Bool
among ts w = list_any (λ t. same_judged t w) ts

abbrev unless_among : Bool → List Judged → Judged → List Judged
unless_among true ts w = ts
unless_among false ts w = ts ++ w ∷ []

among-one : (b : Bool) (t w : Judged) (fs ts : List Judged) → (b ≡ true → same_judged t w ≡ false) → among fs w ≡ among ts w
    → among (cond (not b) (t ∷ fs) fs) w ≡ (same_judged t w || among ts w)
among-one true t w fs ts apart same = same ∙ sym (ap (λ (x : Bool). x || among ts w) (apart refl))
among-one false t w fs ts apart same = ap (λ (x : Bool). same_judged t w || x) same

-- removing targets equal to another does not change whether a different one is among the rest
among-recorded : (v w : Judged) → same_judged v w ≡ false → (ts : List Judged) → among (filter (unlike v) ts) w ≡ among ts w
among-recorded v w apart [] = refl
among-recorded v w apart (t ∷ ts) =
    among-one (same_judged v t) t w (filter (unlike v) ts) ts (λ is. sym (alike v t w is) ∙ apart) (among-recorded v w apart ts)

filter-one : (b : Bool) (v w : Judged) → same_judged v w ≡ b → filter (unlike v) (w ∷ []) ≡ cond (not b) (w ∷ []) []
filter-one b v w is = ap (λ (x : Bool). cond (not x) (w ∷ []) []) is

module _ (v w : Judged) where
  cut-same : same_judged v w ≡ true → (b : Bool) (ts : List Judged) → filter (unlike v) (unless_among b ts w) ≡ filter (unlike v) ts
  cut-same same true ts = refl
  cut-same same false ts =
      filter-append (unlike v) ts (w ∷ []) ∙ ap (λ (xs : List Judged). filter (unlike v) ts ++ xs) (filter-one true v w same) ∙ append-nil (filter (unlike v) ts)

  cut-apart : same_judged v w ≡ false → (b : Bool) (ts : List Judged) → v ∷ filter (unlike v) (unless_among b ts w) ≡ unless_among b (v ∷ filter (unlike v) ts) w
  cut-apart apart true ts = refl
  cut-apart apart false ts =
      ap (λ (xs : List Judged). v ∷ xs) (filter-append (unlike v) ts (w ∷ []) ∙ ap (λ (xs : List Judged). filter (unlike v) ts ++ xs) (filter-one false v w apart))

  -- one more target, after the first
  target-then : (b : Bool) → same_judged v w ≡ b → (ts : List Judged)
      → v ∷ filter (unlike v) (unless_among (among ts w) ts w) ≡ unless_among (b || among (filter (unlike v) ts) w) (v ∷ filter (unlike v) ts) w
  target-then true is ts = ap (λ (xs : List Judged). v ∷ xs) (cut-same is (among ts w) ts)
  target-then false is ts =
      cut-apart is (among ts w) ts ∙ ap (λ (x : Bool). unless_among x (v ∷ filter (unlike v) ts) w) (sym (among-recorded v w is ts))

-- the targets of walks, with one more walk
targets-more : (ws : List (ℕ × Judged)) (w : ℕ × Judged) → targets_in (ws ++ w ∷ []) ≡ unless_among (among (targets_in ws) w.1) (targets_in ws) w.1
targets-more [] w = refl
targets-more (v ∷ ws) w =
    ap (λ (ts : List Judged). v.1 ∷ filter (unlike v.1) ts) (targets-more ws w) ∙ target-then v.1 w.1 (same_judged v.1 w.1) refl (targets_in ws)

-- ---- the walks to a target

walks-more : (ws : List (ℕ × Judged)) (w : ℕ × Judged) (t : Judged) (b : Bool) → same_judged t w.1 ≡ b → walks_to t (ws ++ w ∷ []) ≡ walks_to t ws ++ cond b (w ∷ []) []
walks-more ws w t b is =
    filter-append (λ (v : ℕ × Judged). same_judged t v.1) ws (w ∷ []) ∙ ap (λ (x : Bool). walks_to t ws ++ cond x (w ∷ []) []) is

-- no walk leads to a target that is not among the targets
none-there : (ws : List (ℕ × Judged)) (w : Judged) → among (targets_in ws) w ≡ false → walks_to w ws ≡ []
none-there [] w none = refl
none-there (v ∷ ws) w none =
    let parts = or_parts (same_judged v.1 w) (among (filter (unlike v.1) (targets_in ws)) w) none in
    ap (λ (x : Bool). cond x (v ∷ walks_to w ws) (walks_to w ws)) (swapped v.1 w parts.0)
    ∙ none-there ws w (sym (among-recorded v.1 w parts.0 (targets_in ws)) ∙ parts.1)

-- ---- no two targets are equal

abbrev AreApart : List Judged → Type 0
AreApart [] = Unit {0}
AreApart (t ∷ ts) = (list_any (same_judged t) ts ≡ false) × AreApart ts

any-filter : (p q : Judged → Bool) (ts : List Judged) → list_any q ts ≡ false → list_any q (filter p ts) ≡ false
any-filter p q [] none = refl
any-filter p q (t ∷ ts) none = let parts = or_parts (q t) (list_any q ts) none in by (p t) parts.0 (any-filter p q ts parts.1)
  where
    by : (b : Bool) → q t ≡ false → list_any q (filter p ts) ≡ false → list_any q (cond b (t ∷ filter p ts) (filter p ts)) ≡ false
    by true here rest = ap (λ (x : Bool). x || list_any q (filter p ts)) here ∙ rest
    by false here rest = rest

apart-filter : (p : Judged → Bool) (ts : List Judged) → AreApart ts → AreApart (filter p ts)
apart-filter p [] apart = tt
apart-filter p (t ∷ ts) apart = by (p t) (apart-filter p ts apart.1)
  where
    by : (b : Bool) → AreApart (filter p ts) → AreApart (cond b (t ∷ filter p ts) (filter p ts))
    by true rest = (any-filter p (same_judged t) ts apart.0, rest)
    by false rest = rest

none-like : (v : Judged) (ts : List Judged) → list_any (same_judged v) (filter (unlike v) ts) ≡ false
none-like v [] = refl
none-like v (t ∷ ts) = by (same_judged v t) refl (none-like v ts)
  where
    by : (b : Bool) → same_judged v t ≡ b → list_any (same_judged v) (filter (unlike v) ts) ≡ false
        → list_any (same_judged v) (cond (not b) (t ∷ filter (unlike v) ts) (filter (unlike v) ts)) ≡ false
    by true is rest = rest
    by false is rest = ap (λ (x : Bool). x || list_any (same_judged v) (filter (unlike v) ts)) is ∙ rest

targets-apart : (ws : List (ℕ × Judged)) → AreApart (targets_in ws)
targets-apart [] = tt
targets-apart (v ∷ ws) = (none-like v.1 (targets_in ws), apart-filter (unlike v.1) (targets_in ws) (targets-apart ws))

-- ---- the records

module _ (ws : List (ℕ × Judged)) (line : ℕ) (w : Judged) where
  abbrev later : List (ℕ × Judged)
  later = ws ++ (line, w) ∷ []

  -- the record of a target to which the walk does not lead
  unmoved : (t : Judged) → same_judged t w ≡ false → recorded_target later t ≡ recorded_target ws t
  unmoved t apart =
      ap (λ (there : List (ℕ × Judged)). let it : RecordedTarget = record { judged = record t { permissions = permissions_asked there }; times = times_of (map (λ v. v.0) there) } in it)
      (walks-more ws (line, w) t false apart ∙ append-nil (walks_to t ws))

  -- the record of the target to which the walk leads
  moved : (t : Judged) → same_judged t w ≡ true → recorded_target later t ≡ target_with_walk (recorded_target ws t) line w.permissions
  moved t same =
      ap (λ (there : List (ℕ × Judged)). let it : RecordedTarget = record { judged = record t { permissions = permissions_asked there }; times = times_of (map (λ v. v.0) there) } in it)
      (walks-more ws (line, w) t true same)
      ∙ ap₂ (λ (p : Perms) (times : Times). let it : RecordedTarget = record { judged = record t { permissions = p }; times = times } in it)
      (permissions-more (walks_to t ws) (line, w))
      (ap times_of (map-append (λ (v : ℕ × Judged). v.0) (walks_to t ws) ((line, w) ∷ [])) ∙ times-more (map (λ v. v.0) (walks_to t ws)) line)

  -- the record of a new target
  first : walks_to w ws ≡ [] → recorded_target later w ≡ first_recorded_walk line w
  first none =
      ap (λ (there : List (ℕ × Judged)). let it : RecordedTarget = record { judged = record w { permissions = permissions_asked there }; times = times_of (map (λ v. v.0) there) } in it)
      (walks-more ws (line, w) w true (same-self w) ∙ ap (λ (vs : List (ℕ × Judged)). vs ++ (line, w) ∷ []) none)
      ∙ ap (λ (p : Perms). let it : RecordedTarget = record { judged = record w { permissions = p }; times = record { count = 1; last = line } } in it)
      (permissions-more [] (line, w))

  others : (t : Judged) → same_judged t w ≡ true → (ts : List Judged) → list_any (same_judged t) ts ≡ false → map (recorded_target ws) ts ≡ map (recorded_target later) ts
  others t same [] apart = refl
  others t same (u ∷ ts) apart =
      let parts = or_parts (same_judged t u) (list_any (same_judged t) ts) apart in
      ap₂ (λ (x : RecordedTarget) (xs : List RecordedTarget). x ∷ xs) (sym (unmoved u (swapped w u (sym (alike t w u same) ∙ parts.0)))) (others t same ts parts.1)

  walk-in : (ts : List Judged) → AreApart ts → (among ts w ≡ false → walks_to w ws ≡ [])
      → walk_more (map (recorded_target ws) ts) line w ≡ map (recorded_target later) (unless_among (among ts w) ts w)
  walk-in [] apart none = ap (λ (x : RecordedTarget). x ∷ []) (sym (first (none refl)))
  walk-in (t ∷ ts) apart none = by (same_judged t w) refl (walk-in ts apart.1)
    where
      onto : (b : Bool) → t ∷ unless_among b ts w ≡ unless_among b (t ∷ ts) w
      onto true = refl
      onto false = refl

      by : (b : Bool) → same_judged t w ≡ b
          → ((among ts w ≡ false → walks_to w ws ≡ []) → walk_more (map (recorded_target ws) ts) line w ≡ map (recorded_target later) (unless_among (among ts w) ts w))
          → cond b (target_with_walk (recorded_target ws t) line w.permissions ∷ map (recorded_target ws) ts) (recorded_target ws t ∷ walk_more (map (recorded_target ws) ts) line w)
          ≡ map (recorded_target later) (unless_among (b || among ts w) (t ∷ ts) w)
      by true is rest = ap₂ (λ (x : RecordedTarget) (xs : List RecordedTarget). x ∷ xs) (sym (moved t is)) (others t is ts apart.0)
      by false is rest =
          ap₂ (λ (x : RecordedTarget) (xs : List RecordedTarget). x ∷ xs) (sym (unmoved t is))
          (rest (λ absent. none (ap (λ (x : Bool). x || among ts w) is ∙ absent)))
          ∙ ap (map (recorded_target later)) (onto (among ts w))

  walk-recorded : walk_more (recorded_targets ws) line w ≡ recorded_targets later
  walk-recorded = walk-in (targets_in ws) (targets-apart ws) (none-there ws w) ∙ ap (map (recorded_target later)) (sym (targets-more ws (line, w)))

-- the walks of a call, in sequence
pub walks-recorded : (line : ℕ) (js : List Judged) (ws : List (ℕ × Judged)) → walks_more (recorded_targets ws) line js ≡ recorded_targets (ws ++ map (λ (w : Judged). (line, w)) js)
walks-recorded line [] ws = ap recorded_targets (sym (append-nil ws))
walks-recorded line (w ∷ js) ws =
    ap (λ (ts : List RecordedTarget). walks_more ts line js) (walk-recorded ws line w)
    ∙ walks-recorded line js (ws ++ (line, w) ∷ []) ∙ ap recorded_targets (append_assoc ws ((line, w) ∷ []) (map (λ (v : Judged). (line, v)) js))
