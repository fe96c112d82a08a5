-- The answers in a cache after a use, after an answer is added, and after one is removed.
use Rattle.std.proofs.Common.{◌≡◌, ℕ, zero, suc, ◌-◌, ◌≤◌, Bool, true, false, cond, ◌⊎◌, inl, inr, List, [], ◌∷◌, take, length, nat_eq, nat_lt, if◌then◌else◌, Option, Some, None, Result, Ok, Err, refl, sym, ap, subst, ◌∙◌}
use Rattle.std.specs.Prelude.{OnOk, OnErr}
use Rattle.std.specs.Cmp.{IsEquivalence, nat_eq_equiv, on_equiv, and_equiv}
use Rattle.std.specs.Cmp.Lexicographic.{pointwise, lists_equiv, bytes_decides}
use Rattle.std.specs.List.{IsDistinct}
use Rattle.std.specs.Map.{lookup, lookup_entry, remove_entry, keys_of}
use Rattle.std.specs.Option.{option_map_or}
use Rattle.std.proofs.lemmas.Bool.{and_parts, eqb-true, le-ltb}
use Rattle.std.proofs.lemmas.Map.{lookup-remove_entry}
use Rattle.lru.specs.LruCache.{LruCache, lru_cache, promoted, put_entries}
use Rattle.lru.proofs.CallerLemmas.{Contains-lookup_entry, lookup-put_entries}
use Rattle.pv_model.specs.Machine.{Bytes}
use Rattle.pv_namei.specs.declared.cached.Pair.{Pair}
use Rattle.pv_namei.specs.Cached.{same_key, cache_key, preserved_of, IsPut, FitsMap}
use Rattle.pv_tree.specs.OfLawsTrees.Found.{AreEqualExceptAt}

either : {P : Type 0} (b : Bool) → (b ≡ true → P) → (b ≡ false → P) → P
either true so other = so refl
either false so other = other refl

-- ---- entries by key

entry-found : {K V : Type 0} (test : K → Bool) (es : List (K × V)) (e : K × V) → lookup_entry test es ≡ Some e → lookup test es ≡ Some e.1
entry-found test [] e h = cc h
entry-found test (f ∷ es) e h = either (test f.0)
    (λ t. let h' = rw t at h in let same : f ≡ e = cc in rw t (ap (λ g. Some g.1) same))
    (λ t. rw t (entry-found test es e (rw t at h)))

none-found : {K V : Type 0} (test : K → Bool) (es : List (K × V)) → lookup_entry test es ≡ None → lookup test es ≡ None
none-found test [] h = refl
none-found test (f ∷ es) h = either (test f.0)
    (λ t. cc (rw t at h))
    (λ t. rw t (none-found test es (rw t at h)))

apart-by : {K : Type 0} (eq : K → K → Bool) → IsEquivalence eq → (k q e : K) → eq k e ≡ true → eq q e ≡ false → eq k q ≡ false
apart-by eq laws k q e key other = laws.congr k e q key ∙ laws.symm e q ∙ other

module _ {K V : Type 0} (eq : K → K → Bool) (laws : IsEquivalence eq) (is : (a b : K) → eq a b ≡ true → a ≡ b) where
  found-take : (q : K) (n : ℕ) (es : List (K × V)) (w : V) → lookup (eq q) (take n es) ≡ Some w → lookup (eq q) es ≡ Some w
  found-take q zero es w h = cc h
  found-take q (suc n) [] w h = h
  found-take q (suc n) (e ∷ es) w h = either (eq q e.0)
      (λ t. rw t (rw t at h))
      (λ t. rw t (found-take q n es w (rw t at h)))

  removed-apart : (k q : K) → eq k q ≡ false → (es : List (K × V)) → lookup (eq q) (remove_entry (eq k) es) ≡ lookup (eq q) es
  removed-apart k q apart [] = refl
  removed-apart k q apart (e ∷ es) = either (eq k e.0)
      (λ t. let other : eq q e.0 ≡ false = laws.symm q e.0 ∙ sym (laws.congr k e.0 q t) ∙ apart in rw (t, other) refl)
      (λ t. rw t (ap (cond (eq q e.0) (Some e.1)) (removed-apart k q apart es)))

  module _ (k q : K) (w : V) where
    put_cases : (c : LruCache K V) (v : V) (o : Option (K × V)) → lookup_entry (eq k) c.entries ≡ o
        → lookup (eq q) (option_map_or (λ e. (e.0, v) ∷ remove_entry (eq k) c.entries) o ((k, v) ∷ take (c.cap - 1) c.entries)) ≡ Some w
        → ((q ≡ k) × (v ≡ w)) ⊎ (lookup (eq q) c.entries ≡ Some w)
    put_cases c v None h d = either (eq q k)
        (λ t. let d' = rw t at d in let same : v ≡ w = cc in inl (is q k t, same))
        (λ t. inr (found-take q (c.cap - 1) c.entries w (rw t at d)))
    put_cases c v (Some f) h d =
        let key : eq k f.0 ≡ true = (Contains-lookup_entry (eq k) c.entries f h).1 in either (eq q f.0)
        (λ t. let d' = rw t at d in let same : v ≡ w = cc in inl (is q f.0 t ∙ sym (is k f.0 key), same))
        (λ t. inr (sym (removed-apart k q (apart-by eq laws k q f.0 key t) c.entries) ∙ (rw t at d)))

    -- an answer that is found after `put` was put, or was there before
    pub found-put : (c : LruCache K V) (v : V) → lookup (eq q) (put_entries eq c k v) ≡ Some w → ((q ≡ k) × (v ≡ w)) ⊎ (lookup (eq q) c.entries ≡ Some w)
    found-put c v = put_cases c v (lookup_entry (eq k) c.entries) refl

  absent_cases : (k : K) (es : List (K × V)) (o : Option (K × V)) → lookup_entry (eq k) es ≡ o → lookup (eq k) es ≡ None → option_map_or (λ e. e ∷ remove_entry (eq k) es) o es ≡ es
  absent_cases k es None h absent = refl
  absent_cases k es (Some f) h absent = cc (sym (entry-found (eq k) es f h) ∙ absent)

  -- a use of an absent key changes nothing
  pub promoted-absent : (k : K) (es : List (K × V)) → lookup (eq k) es ≡ None → promoted (eq k) es ≡ es
  promoted-absent k es = absent_cases k es (lookup_entry (eq k) es) refl

-- a use of a present key puts it in front again
use_puts : {K V : Type 0} (eq : K → K → Bool) (c : LruCache K V) (k : K) (w : V) (o : Option (K × V)) → lookup_entry (eq k) c.entries ≡ o → lookup (eq k) c.entries ≡ Some w
    → option_map_or (λ e. e ∷ remove_entry (eq k) c.entries) o c.entries ≡ option_map_or (λ e. (e.0, w) ∷ remove_entry (eq k) c.entries) o ((k, w) ∷ take (c.cap - 1) c.entries)
use_puts eq c k w None h found = cc (sym (none-found (eq k) c.entries h) ∙ found)
use_puts eq c k w (Some f) h found =
    let both : Some f.1 ≡ Some w = sym (entry-found (eq k) c.entries f h) ∙ found in
    let value : f.1 ≡ w = cc in ap (λ v. (f.0, v) ∷ remove_entry (eq k) c.entries) value

pub promoted-puts : {K V : Type 0} (eq : K → K → Bool) (c : LruCache K V) (k : K) (w : V) → lookup (eq k) c.entries ≡ Some w → promoted (eq k) c.entries ≡ put_entries eq c k w
promoted-puts eq c k w = use_puts eq c k w (lookup_entry (eq k) c.entries) refl

pub put-or-not : {A X E : Type 0} (r : Result X E) (old put new : A) → OnOk r (new ≡ put) → OnErr r (new ≡ old) → (new ≡ put) ⊎ (new ≡ old)
put-or-not (Ok x) old put new ok err = inl ok
put-or-not (Err e) old put new ok err = inr err

-- ---- keys of directories and names

pub same_equiv : IsEquivalence same_key
same_equiv = and_equiv (on_equiv (λ p. p.directory) nat_eq_equiv) (on_equiv (λ p. p.name) (lists_equiv nat_eq_equiv))

pub same-is : (a b : Pair) → same_key a b ≡ true → a ≡ b
same-is a b t =
    let parts = and_parts (nat_eq a.directory b.directory) (pointwise nat_eq a.name b.name) t in
    let numbers : a.directory ≡ b.directory = eqb-true a.directory b.directory parts.0 in
    let names : a.name ≡ b.name = (bytes_decides a.name b.name).0 parts.1 in
    λ i. record { directory = numbers i; name = names i }

pub pair-is : (pair : Pair) (directory : ℕ) (name : Bytes) → pair.directory ≡ directory → pair.name ≡ name → pair ≡ cache_key directory name
pair-is pair directory name number bytes = λ i. record { directory = number i; name = bytes i }

module _ (preserved : LruCache Pair (Option ℕ)) (directory : ℕ) (name : Bytes) where
  pub preserved-short : length name ≤ 255 → preserved_of preserved directory name ≡ lookup (same_key (cache_key directory name)) preserved.entries
  preserved-short short = rw (le-ltb 255 (length name) short) refl

  pub preserved-long : nat_lt 255 (length name) ≡ true → preserved_of preserved directory name ≡ None
  preserved-long long = rw long refl

-- one more answer
pub fits-put : (preserved new : LruCache Pair (Option ℕ)) (directory : ℕ) (name : Bytes) (map : ℕ → Bytes → Option ℕ)
    → new.entries ≡ put_entries same_key preserved (cache_key directory name) (map directory name) → FitsMap preserved map → FitsMap new map
fits-put preserved new directory name map is fits d n a there = either (nat_lt 255 (length n))
    (λ t. cc (sym (preserved-long new d n t) ∙ there))
    (λ t. elim (found-put same_key same_equiv same-is (cache_key directory name) (cache_key d n) a preserved (map directory name) (ap (lookup (same_key (cache_key d n))) (sym is) ∙ (rw t at there))) [
      | inl at ↦ ap (λ p. map p.directory p.name) at.0 ∙ at.1
      | inr was ↦ fits d n a (rw t was)
    ])

pub preserved-put : (preserved new : LruCache Pair (Option ℕ)) (directory : ℕ) (name : Bytes) (answer : Option ℕ) → length name ≤ 255
    → new.entries ≡ put_entries same_key preserved (cache_key directory name) answer → preserved_of new directory name ≡ Some answer
preserved-put preserved new directory name answer short is =
    preserved-short new directory name short ∙ ap (lookup (same_key (cache_key directory name))) is ∙ lookup-put_entries same_key preserved (cache_key directory name) answer same_equiv

-- one answer less
pub taken : (preserved new : LruCache Pair (Option ℕ)) (directory : ℕ) (name : Bytes) → IsDistinct same_key (keys_of preserved.entries)
    → new.entries ≡ remove_entry (same_key (cache_key directory name)) preserved.entries → (q : Pair)
    → lookup (same_key q) new.entries ≡ cond (same_key (cache_key directory name) q) None (lookup (same_key q) preserved.entries)
taken preserved new directory name distinct is q =
    ap (lookup (same_key q)) is ∙ lookup-remove_entry same_equiv (same_key (cache_key directory name)) (same_equiv.congr (cache_key directory name)) q preserved.entries distinct

pub preserved-taken : (preserved new : LruCache Pair (Option ℕ)) (directory : ℕ) (name : Bytes) → length name ≤ 255 → IsDistinct same_key (keys_of preserved.entries)
    → new.entries ≡ remove_entry (same_key (cache_key directory name)) preserved.entries → preserved_of new directory name ≡ None
preserved-taken preserved new directory name short distinct is =
    preserved-short new directory name short ∙ taken preserved new directory name distinct is (cache_key directory name) ∙ ap (λ b. cond b None (lookup (same_key (cache_key directory name)) preserved.entries)) (same_equiv.refl (cache_key directory name))

pub fits-taken : (preserved new : LruCache Pair (Option ℕ)) (directory : ℕ) (name : Bytes) → IsDistinct same_key (keys_of preserved.entries)
    → new.entries ≡ remove_entry (same_key (cache_key directory name)) preserved.entries
    → (map other : ℕ → Bytes → Option ℕ) → FitsMap preserved map → AreEqualExceptAt directory name map other → FitsMap new other
fits-taken preserved new directory name distinct is map other fits alike d n a there = either (nat_lt 255 (length n))
    (λ t. cc (sym (preserved-long new d n t) ∙ there))
    (λ t. let found = sym (taken preserved new directory name distinct is (cache_key d n)) ∙ (rw t at there) in either (same_key (cache_key directory name) (cache_key d n))
    (λ same. cc (rw same at found))
    (λ apart. alike d n (λ at. cc (sym apart ∙ ap (same_key (cache_key directory name)) (λ i. cache_key (at.0 i) (at.1 i)) ∙ same_equiv.refl (cache_key directory name))) ∙ fits d n a (rw t (rw apart at found))))

pub others-preserved : (preserved new : LruCache Pair (Option ℕ)) (directory : ℕ) (name : Bytes) → IsDistinct same_key (keys_of preserved.entries)
    → new.entries ≡ remove_entry (same_key (cache_key directory name)) preserved.entries
    → (d : ℕ) (n : Bytes) → ((d ≡ directory) × (n ≡ name) → ⊥) → preserved_of new d n ≡ preserved_of preserved d n
others-preserved preserved new directory name distinct is d n other = either (same_key (cache_key directory name) (cache_key d n))
    (λ same. let at = same-is (cache_key directory name) (cache_key d n) same in absurd (other (ap (λ p. p.directory) (sym at), ap (λ p. p.name) (sym at))))
    (λ apart. ap (λ o. if nat_lt 255 (length n) then None else o) (taken preserved new directory name distinct is (cache_key d n) ∙ ap (λ b. cond b None (lookup (same_key (cache_key d n)) preserved.entries)) apart))

-- ---- as the contracts state it, for a key with the directory and the name

module _ (old new : LruCache Pair (Option ℕ)) (pair : Pair) (directory : ℕ) (name : Bytes) (number : pair.directory ≡ directory) (bytes : pair.name ≡ name) where
  pub entries-taken : new ≡ lru_cache (remove_entry (same_key pair) old.entries) old.cap → new.entries ≡ remove_entry (same_key (cache_key directory name)) old.entries
  entries-taken is = ap (λ preserved. preserved.entries) is ∙ ap (λ p. remove_entry (same_key p) old.entries) (pair-is pair directory name number bytes)

  pub pair-preserved : length name ≤ 255 → (answer : Option (Option ℕ)) → answer ≡ lookup (same_key pair) old.entries → preserved_of old directory name ≡ answer
  pair-preserved short answer is = preserved-short old directory name short ∙ ap (λ p. lookup (same_key p) old.entries) (sym (pair-is pair directory name number bytes)) ∙ sym is

  pub put-by-use : (answer : Option ℕ) → Some answer ≡ lookup (same_key pair) old.entries → new ≡ lru_cache (promoted (same_key pair) old.entries) old.cap → IsPut old directory name answer new
  put-by-use answer found is =
      inl (is ∙ ap (λ es. lru_cache es old.cap) (promoted-puts same_key old pair answer (sym found)) ∙ ap (λ p. lru_cache (put_entries same_key old p answer) old.cap) (pair-is pair directory name number bytes))

  pub put-by-put : (used : LruCache Pair (Option ℕ)) (answer : Option ℕ) {X E : Type 0} (r : Result X E) → length name ≤ 255 → None ≡ lookup (same_key pair) old.entries
      → used ≡ lru_cache (promoted (same_key pair) old.entries) old.cap
      → OnOk r (new ≡ lru_cache (put_entries same_key used pair answer) used.cap) → OnErr r (new ≡ used) → IsPut old directory name answer new
  put-by-put used answer r short absent is ok err =
      let same : used ≡ old = is ∙ ap (λ es. lru_cache es old.cap) (promoted-absent same_key same_equiv same-is pair old.entries (sym absent)) in
      elim (put-or-not r used (lru_cache (put_entries same_key used pair answer) used.cap) new ok err) [
        | inl put ↦ inl (put ∙ ap (λ preserved. lru_cache (put_entries same_key preserved pair answer) preserved.cap) same ∙ ap (λ p. lru_cache (put_entries same_key old p answer) old.cap) (pair-is pair directory name number bytes))
        | inr not ↦ inr (pair-preserved short None absent, not ∙ same)
      ]

-- looked up under one key, and put under another with the same directory and name
module _ (old new : LruCache Pair (Option ℕ)) (asked pair : Pair) (directory : ℕ) (name : Bytes)
    (asked_number : asked.directory ≡ directory) (asked_bytes : asked.name ≡ name) (number : pair.directory ≡ directory) (bytes : pair.name ≡ name) where
  pub put-by-asking : (used : LruCache Pair (Option ℕ)) (answer : Option ℕ) {X E : Type 0} (r : Result X E) → length name ≤ 255 → None ≡ lookup (same_key asked) old.entries
      → used ≡ lru_cache (promoted (same_key asked) old.entries) old.cap
      → OnOk r (new ≡ lru_cache (put_entries same_key used pair answer) used.cap) → OnErr r (new ≡ used) → IsPut old directory name answer new
  put-by-asking used answer r short absent is ok err =
      let same : asked ≡ pair = pair-is asked directory name asked_number asked_bytes ∙ sym (pair-is pair directory name number bytes) in
      put-by-put old new pair directory name number bytes used answer r short (subst (λ p. None ≡ lookup (same_key p) old.entries) same absent)
      (subst (λ p. used ≡ lru_cache (promoted (same_key p) old.entries) old.cap) same is) ok err

module _ (old new : LruCache Pair (Option ℕ)) (directory : ℕ) (name : Bytes) where
  pub fits-by-put : (map : ℕ → Bytes → Option ℕ) → IsPut old directory name (map directory name) new → FitsMap old map → FitsMap new map
  fits-by-put map put fits = elim put [
    | inl is ↦ fits-put old new directory name map (ap (λ preserved. preserved.entries) is) fits
    | inr preserved ↦ λ d n a there. fits d n a (sym (ap (λ lookup. preserved_of lookup d n) preserved.1) ∙ there)
  ]

  pub preserved-by-put : (answer : Option ℕ) → length name ≤ 255 → IsPut old directory name answer new → (preserved_of new directory name ≡ Some answer) ⊎ (new ≡ old)
  preserved-by-put answer short put = elim put [
    | inl is ↦ inl (preserved-put old new directory name answer short (ap (λ preserved. preserved.entries) is))
    | inr preserved ↦ inr preserved.1
  ]
