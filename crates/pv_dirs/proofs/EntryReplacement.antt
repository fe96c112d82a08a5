-- Entries after one of them is replaced by the last.
use Rattle.std.proofs.Common.{◌≡◌, ℕ, zero, suc, ◌<◌, ◌≤◌, Bool, true, false, cond, not, [], ◌∷◌, ◌++◌, length, take, get_or, set, bytes_eq, Option, None, Some, refl, ap, sym, ◌∙◌, arith, inl, inr}
use Rattle.std.specs.FinMap.Entries.{find, where_key, find-where_key, find-append, is_sorted-where_key}
use Rattle.std.proofs.lemmas.List.{get_or_append_left, get_or_at, set-append_left, take_at, take-set, length-set}
use Rattle.std.proofs.lemmas.Bool.{cases_lt}
use Rattle.pv_model.specs.Machine.{Bytes, Entries}
use Rattle.pv_dirs.specs.Slots.{in_order, IsDistinct}
use Rattle.pv_dirs.proofs.SortedEntries.{by_name, total, same_name, tied, tied-bytes_eq, tied-same, sorted-in_order, find-in_order, same_order, missed, neither, turned}

-- the entries before the last
pub distinct_before : (es : Entries) (l : Bytes × ℕ) → IsDistinct (es ++ l ∷ []) → IsDistinct es × (find by_name l.0 es ≡ None)
unfolding IsDistinct
distinct_before [] l d = (tt, refl)
distinct_before (e ∷ es) l d =
    let rest = distinct_before es l d.1 in
    let apart : (tied e.0 l.0 ≡ false) × (find by_name e.0 es ≡ None) = neither (tied e.0 l.0) l.1 (find by_name e.0 es) (sym (find-append by_name total es l.0 l.1 e.0 rest.1) ∙ d.0) in
    ((apart.1, rest.0), ap (λ b. cond b (Some e.1) (find by_name l.0 es)) (turned e.0 l.0 apart.0) ∙ rest.1)

absent-set : (q : Bytes) (es : Entries) (k : ℕ) (l : Bytes × ℕ) → tied q l.0 ≡ false → find by_name q es ≡ None → find by_name q (set es k l) ≡ None
absent-set q [] k l other none = refl
absent-set q (e ∷ es) zero l other none = ap (λ b. cond b (Some l.1) (find by_name q es)) other ∙ (missed q e es none).1
absent-set q (e ∷ es) (suc k) l other none =
    let apart = missed q e es none in
    ap (λ b. cond b (Some e.1) (find by_name q (set es k l))) apart.0 ∙ absent-set q es k l other apart.1

pub distinct-set : (es : Entries) (k : ℕ) (l : Bytes × ℕ) → IsDistinct es → find by_name l.0 es ≡ None → IsDistinct (set es k l)
unfolding IsDistinct
distinct-set [] k l d none = tt
distinct-set (e ∷ es) zero l d none = ((missed l.0 e es none).1, d.1)
distinct-set (e ∷ es) (suc k) l d none =
    let apart = missed l.0 e es none in
    (absent-set e.0 es k l (turned l.0 e.0 apart.0) d.0, distinct-set es k l d.1 apart.1)

-- a name that is not found among entries is not that of any of them
pub absent-at : (q : Bytes) (es : Entries) (k : ℕ) (e : Bytes × ℕ) → find by_name q es ≡ None → k < length es → get_or es k e ≡ e → tied q e.0 ≡ false
absent-at q [] k e none within at = absurd (omega arith)
absent-at q (f ∷ es) zero e none within at = ap (λ (x : Bytes × ℕ). tied q x.0) (sym at) ∙ (missed q f es none).0
absent-at q (f ∷ es) (suc k) e none within at = absent-at q es k e (missed q f es none).1 (omega arith) at

first_again : (b : Bool) (x : ℕ) (o : Option ℕ) → (b ≡ true → o ≡ None) → o ≡ cond b None (cond b (Some x) o)
first_again true x o none = none refl
first_again false x o none = refl

passed : (a b c : Bool) (x y : ℕ) (o : Option ℕ) → (a ≡ true → b ≡ false) → (a ≡ true → c ≡ false) → cond a (Some x) (cond b (Some y) (cond c None o)) ≡ cond b (Some y) (cond c None (cond a (Some x) o))
passed true b c x y o apart other = rw (apart refl, other refl)
passed false b c x y o apart other = refl

along : (q : Bytes) (p : Bytes) (r : Bytes) → tied q p ≡ true → tied p r ≡ false → tied q r ≡ false
along q p r is other = ap (λ (x : Bytes). tied x r) (tied-same q p is) ∙ other

-- lookups after one entry is replaced by a new one
pub find-set : (q : Bytes) (es : Entries) (k : ℕ) (l e : Bytes × ℕ) → IsDistinct es → find by_name l.0 es ≡ None → k < length es → get_or es k e ≡ e
    → find by_name q (set es k l) ≡ cond (tied q l.0) (Some l.1) (cond (tied q e.0) None (find by_name q es))
unfolding IsDistinct
find-set q [] k l e d none within at = absurd (omega arith)
find-set q (f ∷ es) zero l e d none within at =
    let gone : find by_name q es ≡ cond (tied q f.0) None (cond (tied q f.0) (Some f.1) (find by_name q es)) =
    first_again (tied q f.0) f.1 (find by_name q es) (λ is. ap (λ (x : Bytes). find by_name x es) (tied-same q f.0 is) ∙ d.0) in
    ap (cond (tied q l.0) (Some l.1)) (gone ∙ ap (λ (x : Bytes × ℕ). cond (tied q x.0) None (cond (tied q f.0) (Some f.1) (find by_name q es))) at)
find-set q (f ∷ es) (suc k) l e d none within at =
    let apart = missed l.0 f es none in
    ap (cond (tied q f.0) (Some f.1)) (find-set q es k l e d.1 apart.1 (omega arith) at)
    ∙ passed (tied q f.0) (tied q l.0) (tied q e.0) f.1 l.1 (find by_name q es)
    (λ is. along q f.0 l.0 is (turned l.0 f.0 apart.0)) (λ is. along q f.0 e.0 is (absent-at f.0 es k e d.0 (omega arith) at))

left_out : (b c : Bool) (x : ℕ) (o : Option ℕ) → (b ≡ true → c ≡ false) → cond b (Some x) (cond c None o) ≡ cond (not c) (cond b (Some x) o) None
left_out true c x o apart = rw (apart refl)
left_out false true x o apart = refl
left_out false false x o apart = refl

only_last : (b : Bool) (x : ℕ) (o : Option ℕ) → (b ≡ true → o ≡ None) → o ≡ cond (not b) (cond b (Some x) o) None
only_last true x o none = none refl
only_last false x o none = refl

find-without : (q name : Bytes) (es : Entries) → find by_name q (where_key by_name (λ other. not (bytes_eq other name)) (in_order es)) ≡ cond (not (tied q name)) (find by_name q es) None
find-without q name es =
    find-where_key by_name (λ other. not (bytes_eq other name)) q (λ x is. ap (λ (y : Bytes). not (bytes_eq y name)) (sym (same_name q x is))) (in_order es)
    ∙ ap (λ b. cond (not b) (find by_name q (in_order es)) None) (sym (tied-bytes_eq q name))
    ∙ ap (λ (o : Option ℕ). cond (not (tied q name)) o None) (find-in_order q es)

cut_after : (es : Entries) (l : Bytes × ℕ) (k : ℕ) → k < length es → take (length es) (set (es ++ l ∷ []) k l) ≡ set es k l
cut_after es l k within = ap (take (length es)) (set-append_left es (l ∷ []) k l within) ∙ take_at (set es k l) (l ∷ []) (length es) (length-set es k l)

cut_at_end : (es : Entries) (l : Bytes × ℕ) → take (length es) (set (es ++ l ∷ []) (length es) l) ≡ es
cut_at_end es l = take-set (es ++ l ∷ []) (length es) l ∙ take_at es (l ∷ []) (length es) refl

abbrev pub closed : Entries → Bytes × ℕ → ℕ → Entries
closed es l k = take (length es) (set (es ++ l ∷ []) k l)

pub distinct-closed : (es : Entries) (l : Bytes × ℕ) (k : ℕ) → IsDistinct (es ++ l ∷ []) → k ≤ length es → IsDistinct (closed es l k)
distinct-closed es l k d within =
    let before = distinct_before es l d in
    elim (cases_lt k (length es)) [
      | inl less ↦ rw (cut_after es l k less) (distinct-set es k l before.0 before.1)
      | inr not_less ↦ let same : k ≡ length es = omega arith in rw (same, cut_at_end es l) before.0
    ]

find-closed : (q : Bytes) (es : Entries) (l e : Bytes × ℕ) (k : ℕ) → IsDistinct (es ++ l ∷ []) → k ≤ length es → get_or (es ++ l ∷ []) k e ≡ e
    → find by_name q (closed es l k) ≡ cond (not (tied q e.0)) (find by_name q (es ++ l ∷ [])) None
find-closed q es l e k d within at =
    let before = distinct_before es l d in
    ap (λ (o : Option ℕ). o) (elim (cases_lt k (length es)) [
      | inl less ↦
          let at_k : get_or es k e ≡ e = sym (get_or_append_left es (l ∷ []) e k less) ∙ at in
          ap (find by_name q) (cut_after es l k less)
          ∙ find-set q es k l e before.0 before.1 less at_k
          ∙ left_out (tied q l.0) (tied q e.0) l.1 (find by_name q es) (λ is. along q l.0 e.0 is (absent-at l.0 es k e before.1 less at_k))
          ∙ ap (λ (o : Option ℕ). cond (not (tied q e.0)) o None) (sym (find-append by_name total es l.0 l.1 q before.1))
      | inr not_less ↦
          let same : k ≡ length es = omega arith in
          let last : e ≡ l = sym at ∙ get_or_at es l [] e k (sym same) in
          rw (same, cut_at_end es l, last) (only_last (tied q l.0) l.1 (find by_name q es) (λ is. ap (λ (x : Bytes). find by_name x es) (tied-same q l.0 is) ∙ before.1)
          ∙ ap (λ (o : Option ℕ). cond (not (tied q l.0)) o None) (sym (find-append by_name total es l.0 l.1 q before.1)))
    ])

-- the entry in the hole is removed
pub in_order-closed : (es : Entries) (l e : Bytes × ℕ) (k : ℕ) → IsDistinct (es ++ l ∷ []) → k ≤ length es → get_or (es ++ l ∷ []) k e ≡ e
    → in_order (closed es l k) ≡ where_key by_name (λ other. not (bytes_eq other e.0)) (in_order (es ++ l ∷ []))
in_order-closed es l e k d within at =
    same_order _ _ (sorted-in_order (closed es l k)) (is_sorted-where_key by_name (λ other. not (bytes_eq other e.0)) (in_order (es ++ l ∷ [])) (sorted-in_order (es ++ l ∷ [])))
    (λ q. find-in_order q (closed es l k) ∙ find-closed q es l e k d within at ∙ sym (find-without q e.0 (es ++ l ∷ [])))
