-- Permissions, one by one.
use Rattle.std.proofs.Common.{◌≡◌, ℕ, Bool, true, false, if◌then◌else◌, not, ◌&&◌, ◌||◌, List, [], ◌∷◌, ◌++◌, Option, None, Some, refl, ap, sym, ◌∙◌, ⊎_elim}
use Rattle.std.proofs.lemmas.Bool.{and_parts, and_from, or_cases}
use Rattle.pv_model.specs.declared.judgement.Judgement.TheVariants.{Allowed, Denied}
use Rattle.pv_model.specs.declared.perms.Perms.{Perms}
use Rattle.pv_model.specs.declared.place.Place.{Place}
use Rattle.pv_model.specs.declared.promise.Promise.{Promise}
use Rattle.pv_model.specs.declared.promise.Promise.TheVariants.{Rpath, Wpath, Cpath, Exec}
use Rattle.pv_model.specs.Machine.{is_allowed, covers, permission_r, permission_x, permission_c, Promises, Need, is_met, missing_promise, Process, State, Tree, Table, permissions_at, judge_entry, governing_entry, judgement}
use Rattle.pv_model.specs.Answers.Reach.{reached_permissions}
use Rattle.pv_model.specs.Perms.{permission_w}
use Rattle.pv_model.specs.Promises.{holds}
use Rattle.pv_laws_answers.specs.Reach.{need_if, needs_for, is_one_permission}
use Rattle.pv_laws_trees.proofs.UnveilTargets.{covers-r, covers-w, covers-x, covers-c}

-- each permission of the second set is in the first
pub record Gives (a b : Perms) : Type 0 where
  pub r : b.r ≡ true → a.r ≡ true
  pub w : b.w ≡ true → a.w ≡ true
  pub x : b.x ≡ true → a.x ≡ true
  pub c : b.c ≡ true → a.c ≡ true

given : (a b : Bool) → (a || not b) ≡ true → b ≡ true → a ≡ true
given true b is asked = refl
given false true is asked = cc is
given false false is asked = cc asked

unless-given : (a b : Bool) → (b ≡ true → a ≡ true) → (a || not b) ≡ true
unless-given true b is = refl
unless-given false true is = cc (is refl)
unless-given false false is = refl

pub covers-gives : (a b : Perms) → covers a b ≡ true → Gives a b
covers-gives a b is =
    let last = and_parts ((a.r || not b.r) && (a.w || not b.w) && (a.x || not b.x)) (a.c || not b.c) is in
    let third = and_parts ((a.r || not b.r) && (a.w || not b.w)) (a.x || not b.x) last.0 in
    let second = and_parts (a.r || not b.r) (a.w || not b.w) third.0 in
    record { r = given a.r b.r second.0; w = given a.w b.w second.1; x = given a.x b.x third.1; c = given a.c b.c last.1 }

pub gives-covers : (a b : Perms) → Gives a b → covers a b ≡ true
gives-covers a b g =
    and_from _ _ (and_from _ _ (and_from _ _ (unless-given a.r b.r g.r) (unless-given a.w b.w g.w)) (unless-given a.x b.x g.x)) (unless-given a.c b.c g.c)

-- ---- promises

pub missing-append : (held : Option Promises) (ns ms : List Need) → missing_promise held ns ≡ None → missing_promise held ms ≡ None → missing_promise held (ns ++ ms) ≡ None
missing-append held [] ms first second = second
missing-append held ([] ∷ ns) ms first second = missing-append held ns ms first second
missing-append held ((a ∷ others) ∷ ns) ms first second = by (is_met held (a ∷ others)) first (λ none. missing-append held ns ms none second)
  where
    by : (b : Bool) → (if b then missing_promise held ns else Some a) ≡ None → (missing_promise held ns ≡ None → missing_promise held (ns ++ ms) ≡ None)
        → (if b then missing_promise held (ns ++ ms) else Some a) ≡ None
    by true none more = more none
    by false none more = cc none

pub missing-first : (held : Option Promises) (ns ms : List Need) → missing_promise held (ns ++ ms) ≡ None → (missing_promise held ns ≡ None) × (missing_promise held ms ≡ None)
missing-first held [] ms none = (refl, none)
missing-first held ([] ∷ ns) ms none = missing-first held ns ms none
missing-first held ((a ∷ others) ∷ ns) ms none = by (is_met held (a ∷ others)) none (missing-first held ns ms)
  where
    by : (b : Bool) → (if b then missing_promise held (ns ++ ms) else Some a) ≡ None → (missing_promise held (ns ++ ms) ≡ None → (missing_promise held ns ≡ None) × (missing_promise held ms ≡ None))
        → ((if b then missing_promise held ns else Some a) ≡ None) × (missing_promise held ms ≡ None)
    by true none more = more none
    by false none more = cc none

need-held : (held : Option Promises) (b : Bool) (a : Promise) → (b ≡ true → holds held a ≡ true) → missing_promise held (need_if b a) ≡ None
need-held held true a is = ap (λ x. if x then None else Some a) (ap (λ y. y || false) (is refl))
need-held held false a is = refl

pub need-has : (held : Option Promises) (b : Bool) (a : Promise) → missing_promise held (need_if b a) ≡ None → b ≡ true → holds held a ≡ true
need-has held true a none is = by (holds held a) none
  where
    by : (h : Bool) → (if h || false then None else Some a) ≡ None → h ≡ true
    by true none = refl
    by false none = cc none
need-has held false a none is = cc is

-- each promise that corresponds to a permission is held
pub record Holds (held : Option Promises) (asked : Perms) : Type 0 where
  pub r : asked.r ≡ true → holds held Rpath ≡ true
  pub w : asked.w ≡ true → holds held Wpath ≡ true
  pub x : asked.x ≡ true → holds held Exec ≡ true
  pub c : asked.c ≡ true → holds held Cpath ≡ true

pub holds-needs : (held : Option Promises) (asked : Perms) → Holds held asked → missing_promise held (needs_for asked) ≡ None
holds-needs held asked has =
    missing-append held (need_if asked.r Rpath ++ need_if asked.w Wpath ++ need_if asked.x Exec) (need_if asked.c Cpath)
    (missing-append held (need_if asked.r Rpath ++ need_if asked.w Wpath) (need_if asked.x Exec)
    (missing-append held (need_if asked.r Rpath) (need_if asked.w Wpath) (need-held held asked.r Rpath has.r) (need-held held asked.w Wpath has.w))
    (need-held held asked.x Exec has.x)) (need-held held asked.c Cpath has.c)

pub needs-holds : (held : Option Promises) (asked : Perms) → missing_promise held (needs_for asked) ≡ None → Holds held asked
needs-holds held asked none =
    let last = missing-first held (need_if asked.r Rpath ++ need_if asked.w Wpath ++ need_if asked.x Exec) (need_if asked.c Cpath) none in
    let third = missing-first held (need_if asked.r Rpath ++ need_if asked.w Wpath) (need_if asked.x Exec) last.0 in
    let second = missing-first held (need_if asked.r Rpath) (need_if asked.w Wpath) third.0 in
    record {
      r = need-has held asked.r Rpath second.0;
      w = need-has held asked.w Wpath second.1;
      x = need-has held asked.x Exec third.1;
      c = need-has held asked.c Cpath last.1;
    }

-- ---- a table

allowed-if : (b : Bool) (k : ℕ) → is_allowed (if b then Allowed else Denied k) ≡ b
allowed-if true k = refl
allowed-if false k = refl

module _ (t : Tree) (place : Place) where
  -- the table allows each permission separately
  pub record Allows (o : Option Table) (asked : Perms) : Type 0 where
    pub r : asked.r ≡ true → is_allowed (judgement t o place permission_r) ≡ true
    pub w : asked.w ≡ true → is_allowed (judgement t o place permission_w) ≡ true
    pub x : asked.x ≡ true → is_allowed (judgement t o place permission_x) ≡ true
    pub c : asked.c ≡ true → is_allowed (judgement t o place permission_c) ≡ true

  -- the entry that governs the place allows each permission separately
  record AllowsBy (table : Table) (entry : Option ℕ) (asked : Perms) : Type 0 where
    r : asked.r ≡ true → is_allowed (judge_entry table permission_r entry) ≡ true
    w : asked.w ≡ true → is_allowed (judge_entry table permission_w entry) ≡ true
    x : asked.x ≡ true → is_allowed (judge_entry table permission_x entry) ≡ true
    c : asked.c ≡ true → is_allowed (judge_entry table permission_c entry) ≡ true

  one-permission : (table : Table) (asked : Perms) → AllowsBy table None asked → is_one_permission asked ≡ true → ⊥
  one-permission table asked allows some =
      ⊎_elim
      (λ three. ⊎_elim
      (λ two. ⊎_elim (λ r. let no = allows.r r in cc no) (λ w. let no = allows.w w in cc no) (or_cases asked.r asked.w two))
      (λ x. let no = allows.x x in cc no) (or_cases (asked.r || asked.w) asked.x three))
      (λ c. let no = allows.c c in cc no)
      (or_cases (asked.r || asked.w || asked.x) asked.c some)

  entry-allows : (table : Table) (entry : Option ℕ) (asked : Perms) → AllowsBy table entry asked → is_one_permission asked ≡ true → is_allowed (judge_entry table asked entry) ≡ true
  entry-allows table None asked allows some = absurd (one-permission table asked allows some)
  entry-allows table (Some k) asked allows some =
      let has = permissions_at table k in
      allowed-if (covers has asked) k
      ∙ gives-covers has asked (record {
        r = λ is. sym (allowed-if (covers has permission_r) k ∙ covers-r has) ∙ allows.r is;
        w = λ is. sym (allowed-if (covers has permission_w) k ∙ covers-w has) ∙ allows.w is;
        x = λ is. sym (allowed-if (covers has permission_x) k ∙ covers-x has) ∙ allows.x is;
        c = λ is. sym (allowed-if (covers has permission_c) k ∙ covers-c has) ∙ allows.c is;
      })

  allowed-entry : (table : Table) (entry : Option ℕ) (asked : Perms) → is_allowed (judge_entry table asked entry) ≡ true → AllowsBy table entry asked
  allowed-entry table None asked is = cc is
  allowed-entry table (Some k) asked is =
      let has = permissions_at table k in
      let g = covers-gives has asked (sym (allowed-if (covers has asked) k) ∙ is) in
      record {
        r = λ asks. allowed-if (covers has permission_r) k ∙ covers-r has ∙ g.r asks;
        w = λ asks. allowed-if (covers has permission_w) k ∙ covers-w has ∙ g.w asks;
        x = λ asks. allowed-if (covers has permission_x) k ∙ covers-x has ∙ g.x asks;
        c = λ asks. allowed-if (covers has permission_c) k ∙ covers-c has ∙ g.c asks;
      }

  -- all permissions together are allowed if and only if each is
  pub allows-all : (o : Option Table) (asked : Perms) → Allows o asked → is_one_permission asked ≡ true → is_allowed (judgement t o place asked) ≡ true
  unfolding judgement
  allows-all None asked allows some = refl
  allows-all (Some table) asked allows some =
      entry-allows table (governing_entry t table place) asked (record { r = allows.r; w = allows.w; x = allows.x; c = allows.c }) some

  pub all-allows : (o : Option Table) (asked : Perms) → is_allowed (judgement t o place asked) ≡ true → Allows o asked
  unfolding judgement
  all-allows None asked is = record { r = λ asks. refl; w = λ asks. refl; x = λ asks. refl; c = λ asks. refl }
  all-allows (Some table) asked is =
      let a = allowed-entry table (governing_entry t table place) asked is in record { r = a.r; w = a.w; x = a.x; c = a.c }

-- ---- promises and table

-- a process has the permissions that the promises include and the table allows
pub reached-parts : (s : State) (p : Process) (place : Place) (asked : Perms) → covers (reached_permissions s p place) asked ≡ true → Holds p.promises asked × Allows s.tree place p.table asked
unfolding reached_permissions
reached-parts s p place asked is =
    let g = covers-gives (reached_permissions s p place) asked is in (
      record {
        r = λ asks. (and_parts (is_allowed (judgement s.tree p.table place permission_r)) (holds p.promises Rpath) (g.r asks)).1;
        w = λ asks. (and_parts (is_allowed (judgement s.tree p.table place permission_w)) (holds p.promises Wpath) (g.w asks)).1;
        x = λ asks. (and_parts (is_allowed (judgement s.tree p.table place permission_x)) (holds p.promises Exec) (g.x asks)).1;
        c = λ asks. (and_parts (is_allowed (judgement s.tree p.table place permission_c)) (holds p.promises Cpath) (g.c asks)).1;
      },
      record {
        r = λ asks. (and_parts (is_allowed (judgement s.tree p.table place permission_r)) (holds p.promises Rpath) (g.r asks)).0;
        w = λ asks. (and_parts (is_allowed (judgement s.tree p.table place permission_w)) (holds p.promises Wpath) (g.w asks)).0;
        x = λ asks. (and_parts (is_allowed (judgement s.tree p.table place permission_x)) (holds p.promises Exec) (g.x asks)).0;
        c = λ asks. (and_parts (is_allowed (judgement s.tree p.table place permission_c)) (holds p.promises Cpath) (g.c asks)).0;
      },
    )

pub parts-reached : (s : State) (p : Process) (place : Place) (asked : Perms) → Holds p.promises asked → Allows s.tree place p.table asked → covers (reached_permissions s p place) asked ≡ true
unfolding reached_permissions
parts-reached s p place asked has allows =
    gives-covers (reached_permissions s p place) asked (record {
      r = λ asks. and_from (is_allowed (judgement s.tree p.table place permission_r)) (holds p.promises Rpath) (allows.r asks) (has.r asks);
      w = λ asks. and_from (is_allowed (judgement s.tree p.table place permission_w)) (holds p.promises Wpath) (allows.w asks) (has.w asks);
      x = λ asks. and_from (is_allowed (judgement s.tree p.table place permission_x)) (holds p.promises Exec) (allows.x asks) (has.x asks);
      c = λ asks. and_from (is_allowed (judgement s.tree p.table place permission_c)) (holds p.promises Cpath) (allows.c asks) (has.c asks);
    })
