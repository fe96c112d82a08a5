-- Keys and their entries.
use Rattle.std.proofs.Common.{◌≡◌, ℕ, zero, suc, ◌+◌, ◌<◌, ◌≤◌, Bool, true, false, cond, not, nat_lt, bytes_eq, List, [], ◌∷◌, ◌++◌, length, map, drop, get_or, slice_set, Option, None, Some, ◌∙◌, sym, ap, ap₂, refl, arith}
use Rattle.std.specs.Prelude.{position, ◌&&◌, ◌==◌}
use Rattle.std.specs.List.{list_all, position_or_len, position_from}
use Rattle.std.proofs.lemmas.Iterator.Adapters.{position_from-zero}
use Rattle.std.proofs.lemmas.Bool.{and_from, and_parts, eqb-true, le-ltb}
use Rattle.std.proofs.lemmas.List.Folds.{list_all-append}
use Rattle.std.proofs.lemmas.Slice.Eq.{bytes_eq-Decides}
use Rattle.std.proofs.lemmas.List.{drop_all, drop_more, get_or-map, length-map, length-set, length_push, map-set, map_push}
use Rattle.pv_model.specs.declared.limits.TheConstants.{UNVEILS}
use Rattle.pv_model.specs.declared.perms.Perms.{Perms}
use Rattle.pv_model.specs.declared.target.Target.{Target}
use Rattle.pv_model.specs.declared.target.Target.TheVariants.{Directory, Name}
use Rattle.pv_model.specs.Machine.{Table, same_target, entry_for}
use Rattle.pv_unveil.specs.declared.key.Key.{Key}
use Rattle.pv_unveil.specs.Keys.{key_of, keys_of, is_own, is_name_in, is_target_named, IsKeyed}
use Rattle.pv_unveil.specs.Marks.{is_marked, has_mark}
use Rattle.pv_unveil.specs.declared.marks.Marks.{Marks}

-- a test on the images of elements
module _ {X Y : Type 0} (f : X → Y) (q : Y → Bool) (p : X → Bool) (same : (x : X) → q (f x) ≡ p x) where
  position_or_len-map : (xs : List X) → position_or_len q (map f xs) ≡ position_or_len p xs
  position_or_len-map [] = refl
  position_or_len-map (x ∷ xs) = ap₂ (λ b n. cond (not b) (1 + n) 0) (same x) (position_or_len-map xs)

  position-map : (xs : List X) → position q (map f xs) ≡ position p xs
  position-map xs = ap₂ (λ i n. cond (nat_lt i n) (Some i) None) (position_or_len-map xs) (length-map xs f)

own-same : (d : ℕ) (e : Target × Perms) → is_own d (key_of e.0) ≡ same_target e.0 (Directory d)
own-same d (Directory n, permissions) = refl
own-same d (Name n name, permissions) = refl

-- the key of a directory's own entry has the index of the entry
pub own-entry : (table : Table) (keys : List Key) (d : ℕ) → keys ≡ keys_of table → position (λ key. is_own d key) keys ≡ entry_for table (Directory d)
own-entry table keys d is =
    ap (position (λ key. is_own d key)) is ∙ position-map (λ e. key_of e.0) (λ key. is_own d key) (λ e. same_target e.0 (Directory d)) (own-same d) table

-- ---- marks

-- equal targets have the same mark
same-mark : (marks : Marks) (one other : Target) → same_target one other ≡ true → has_mark marks one ≡ has_mark marks other
same-mark marks (Directory d) (Directory e) same = ap (is_marked marks.directories) (eqb-true d e same)
same-mark marks (Directory d) (Name e name) same = cc same
same-mark marks (Name d name) (Directory e) same = cc same
same-mark marks (Name d name) (Name e other) same =
    let parts = and_parts (d == e) (bytes_eq name other) same in
    ap₂ (λ (n : ℕ) (bytes : List ℕ). is_marked marks.names (n + length bytes)) (eqb-true d e parts.0) ((bytes_eq-Decides name other).0 parts.1)

-- the mark of each entry's target is set
abbrev are_marked : Marks → Table → Bool
are_marked marks table = list_all (λ (e : Target × Perms). has_mark marks e.0) table

-- one set of marks includes another
abbrev Keeps : Marks → Marks → Type 0
Keeps old new = (target : Target) → has_mark old target ≡ true → has_mark new target ≡ true

all-marked : (old new : Marks) (table : Table) → Keeps old new → are_marked old table ≡ true → are_marked new table ≡ true
all-marked old new [] keeps is = refl
all-marked old new (e ∷ es) keeps is =
    let parts = and_parts (has_mark old e.0) (are_marked old es) is in and_from _ _ (keeps e.0 parts.0) (all-marked old new es keeps parts.1)

all-set : (marks : Marks) (table : Table) (k : ℕ) (entry : Target × Perms) → are_marked marks table ≡ true → has_mark marks entry.0 ≡ true → are_marked marks (slice_set table k entry) ≡ true
all-set marks [] k entry is own = refl
all-set marks (e ∷ es) zero entry is own = let parts = and_parts (has_mark marks e.0) (are_marked marks es) is in and_from _ _ own parts.1
all-set marks (e ∷ es) (suc k) entry is own =
    let parts = and_parts (has_mark marks e.0) (are_marked marks es) is in and_from _ _ parts.0 (all-set marks es k entry parts.1 own)

no-same : (marks : Marks) (one target : Target) → has_mark marks target ≡ false → has_mark marks one ≡ true → same_target one target ≡ false
no-same marks one target unmarked is = by (same_target one target) refl
  where
    by : (b : Bool) → same_target one target ≡ b → same_target one target ≡ false
    by true same = let eq = same-mark marks one target same in cc (unmarked, is, eq)
    by false other = other

no-entry : (marks : Marks) (table : Table) (target : Target) → has_mark marks target ≡ false → are_marked marks table ≡ true
    → position_or_len (λ (e : Target × Perms). same_target e.0 target) table ≡ length table
no-entry marks [] target unmarked is = refl
no-entry marks (e ∷ es) target unmarked is =
    let parts = and_parts (has_mark marks e.0) (are_marked marks es) is in
    let one_more : 1 + length es ≡ suc (length es) = omega arith in
    ap₂ (λ b n. cond (not b) (1 + n) 0) (no-same marks e.0 target unmarked parts.0) (no-entry marks es target unmarked parts.1) ∙ one_more

-- there is no entry for a target whose mark is not set
pub unmarked-entry : (table : Table) (keys : List Key) (marks : Marks) (capacity : ℕ) (target : Target) → IsKeyed table keys marks capacity → has_mark marks target ≡ false
    → entry_for table target ≡ None
unmarked-entry table keys marks capacity target is unmarked =
    let past : nat_lt (length table) (length table) ≡ false = le-ltb (length table) (length table) (omega arith) in
    ap (λ n. cond (nat_lt n (length table)) (Some n) None) (no-entry marks table target unmarked is.marked) ∙ ap (λ b. cond b (Some (length table)) None) past

module _ (table : Table) (keys : List Key) (old new : Marks) (capacity : ℕ) (target : Target) (permissions : Perms)
    (is : IsKeyed table keys old capacity) (keeps : Keeps old new) (own : has_mark new target ≡ true) where
  -- replacing an entry and its key
  pub keyed-set : (k : ℕ) → IsKeyed (slice_set table k (target, permissions)) (slice_set keys k (key_of target)) new capacity
  keyed-set k = record {
    keys = ap (λ ks. slice_set ks k (key_of target)) is.keys ∙ sym (map-set (λ e. key_of e.0) table k (target, permissions));
    few = omega (arith, is.few, length-set table k (target, permissions));
    marked = all-set new table k (target, permissions) (all-marked old new table keeps is.marked) own;
    room = is.room;
  }

  -- appending an entry and its key
  pub keyed-push : length table < UNVEILS → IsKeyed (table ++ (target, permissions) ∷ []) (keys ++ key_of target ∷ []) new capacity
  keyed-push less = record {
    keys = ap (λ ks. ks ++ key_of target ∷ []) is.keys ∙ sym (map_push (λ e. key_of e.0) table (target, permissions));
    few = omega (arith, less, length_push table (target, permissions));
    marked =
        list_all-append (λ (e : Target × Perms). has_mark new e.0) table ((target, permissions) ∷ [])
        ∙ and_from _ _ (all-marked old new table keeps is.marked) (and_from _ _ own refl);
    room = is.room;
  }

-- ---- the entry for a name, from entry `k` on

abbrev pub found_from : Table → Target → ℕ → Option ℕ
found_from table target k = position_from (λ e. same_target e.0 target) k (drop k table)

pub found-first : (table : Table) (target : Target) → found_from table target 0 ≡ entry_for table target
found-first table target = sym (position_from-zero (λ e. same_target e.0 target) table)

pub found-end : (table : Table) (target : Target) (k : ℕ) → length table ≤ k → found_from table target k ≡ None
found-end table target k past = ap (position_from (λ e. same_target e.0 target) k) (drop_all k table past)

found-one : (table : Table) (target : Target) (k : ℕ) (e : Target × Perms) → k < length table
    → found_from table target k ≡ cond (same_target (get_or table k e).0 target) (Some k) (found_from table target (k + 1))
found-one table target k e within = ap (position_from (λ f. same_target f.0 target) k) (drop_more table k e within)

named-same : (d : ℕ) (name : List ℕ) (e : Target × Perms) → is_name_in d (key_of e.0) && is_target_named name e.0 ≡ same_target e.0 (Name d name)
named-same d name (Directory n, permissions) = refl
named-same d name (Name n other, permissions) = refl

-- the key and the name of an entry determine whether it is the one searched for
module _ (table : Table) (keys : List Key) (d : ℕ) (name : List ℕ) (k : ℕ) (key : Key) (e : Target × Perms) (is : keys ≡ keys_of table) (within : k < length keys) where
  inside : k < length table
  inside = omega (arith, within, ap length is, length-map table (λ (f : Target × Perms). key_of f.0))

  of_entry : get_or keys k key ≡ key_of (get_or table k e).0
  of_entry = ap (λ ks. get_or ks k key) is ∙ get_or-map (λ (f : Target × Perms). key_of f.0) table k e key inside

  pub found-here : is_name_in d (get_or keys k key) ≡ true → is_target_named name (get_or table k e).0 ≡ true → found_from table (Name d name) k ≡ Some k
  found-here there named =
      let passes : same_target (get_or table k e).0 (Name d name) ≡ true = sym (named-same d name (get_or table k e)) ∙ ap₂ (λ a b. a && b) (ap (is_name_in d) (sym of_entry) ∙ there) named in
      found-one table (Name d name) k e inside ∙ ap (λ b. cond b (Some k) (found_from table (Name d name) (k + 1))) passes

  passed-over : same_target (get_or table k e).0 (Name d name) ≡ false → found_from table (Name d name) k ≡ found_from table (Name d name) (k + 1)
  passed-over other = found-one table (Name d name) k e inside ∙ ap (λ b. cond b (Some k) (found_from table (Name d name) (k + 1))) other

  pub other-key : is_name_in d (get_or keys k key) ≡ false → found_from table (Name d name) k ≡ found_from table (Name d name) (k + 1)
  other-key there =
      passed-over (sym (named-same d name (get_or table k e)) ∙ ap (λ b. b && is_target_named name (get_or table k e).0) (ap (is_name_in d) (sym of_entry) ∙ there))

  pub other-name : is_name_in d (get_or keys k key) ≡ true → is_target_named name (get_or table k e).0 ≡ false → found_from table (Name d name) k ≡ found_from table (Name d name) (k + 1)
  other-name there named =
      passed-over (sym (named-same d name (get_or table k e)) ∙ ap₂ (λ a b. a && b) (ap (is_name_in d) (sym of_entry) ∙ there) named)
