-- The records of processes: lookup, update, and their number.
use Rattle.std.proofs.Common.{◌≡◌, ◌≢◌, ◌<◌, ◌≤◌, ◌∙◌, ℕ, zero, suc, Bool, true, false, cond, not, ◌&&◌, ◌==◌, List, [], ◌∷◌, ◌++◌, map, filter, length, Option, None, Some, is_some, is_none, option_map, if◌then◌else◌, get_or, refl, ap, ap₂, sym, arith}
use Rattle.std.specs.Prelude.{find as first_where, unwrap_or, slice_set, T}
use Rattle.std.specs.declared.cmp.Ordering.TheVariants.{Equal}
use Rattle.std.specs.Cmp.{unsigned_ties}
use Rattle.std.specs.FinMap.Entries.{find, put, where_key, is_sorted, find-append, find-put, find-where_key, is_sorted-where_key, length_without}
use Rattle.std.specs.Ordering.{nat_cmp, eq_by_cmp}
use Rattle.std.proofs.lemmas.Bool.{and_parts, and_from, eqb-true, eq-eqb, ne_eqb}
use Rattle.std.proofs.lemmas.Cmp.{nat_cmp_total}
use Rattle.std.proofs.lemmas.Map.Lookups.{exact_unsigned}
use Rattle.pv_model.specs.Machine.{Setting, Settings, settings_of, Process, ProcessRecord as StateRecord, live_process, Table}
use Rattle.pv_model.specs.Answers.Settings.{set_at, of_earlier_program, after_execve}
use Rattle.pv_model.specs.declared.limits.TheConstants.{PROCESSES}
use Rattle.pv_procs.specs.declared.record.ProcessRecord.{ProcessRecord}
use Rattle.pv_procs.specs.Parts.{record_of}
use Rattle.pv_procs.specs.ProcessTable.{ProcessTable, IsProcessTable, process_in}
use Rattle.pv_explain.specs.declared.origins.ProcessOrigins.{ProcessOrigins}
use Rattle.pv_step_lines.specs.declared.origin.Origin.{Origin}
use Rattle.pv_step_lines.specs.Origin.{setting_of, settings_in}
use Rattle.pv_explain.specs.Keeping.{aged, origins_of_process, all_of, is_once}

-- ---- the origins of one process

pub set-there : (xs : List Origin) (k : ℕ) (v : Origin) → k < length xs → settings_in (slice_set xs k v) ≡ set_at (settings_in xs) k (setting_of v)
set-there [] k v less = absurd (omega (arith, less))
set-there (x ∷ xs) zero v less = refl
set-there (x ∷ xs) (suc k) v less = ap (λ ys. setting_of x ∷ ys) (set-there xs k v (omega (arith, less)))

pub set-next : (xs : List Origin) (k : ℕ) (v : Origin) → length xs ≤ k → settings_in (xs ++ v ∷ []) ≡ set_at (settings_in xs) k (setting_of v)
set-next [] k v past = refl
set-next (x ∷ xs) zero v past = absurd (omega (arith, past))
set-next (x ∷ xs) (suc k) v past = ap (λ ys. setting_of x ∷ ys) (set-next xs k v (omega (arith, past)))

pub aged-all : (xs : List Origin) → settings_in (map aged xs) ≡ map of_earlier_program (settings_in xs)
aged-all [] = refl
aged-all (x ∷ xs) = ap (λ ys. of_earlier_program (setting_of x) ∷ ys) (aged-all xs)

pub got-own : (xs : List Origin) (k : ℕ) (d : Origin) → get_or xs k d ≡ get_or xs k (get_or xs k d)
got-own [] k d = refl
got-own (x ∷ xs) zero d = refl
got-own (x ∷ xs) (suc k) d = got-own xs k d

-- an execve that kept the table
pub preserved-table : (o : Option Process) (r : ProcessRecord) → option_map record_of o ≡ Some r → (r.unveiled.table ≡ None → ⊥) → (mine : List Setting)
    → map of_earlier_program mine ≡ after_execve o mine
preserved-table None r is some mine = cc is
preserved-table (Some p) r is some mine = by p.table refl
  where
    same : record_of p ≡ r
    same = cc is

    by : (t : Option Table) → p.table ≡ t → map of_earlier_program mine ≡ (if is_some t then map of_earlier_program mine else [])
    by None none = absurd (some (sym (ap (λ (x : ProcessRecord). x.unveiled.table) same) ∙ none))
    by (Some t) is = refl

-- ---- lookup of a process

pub found-of : (ks : List ProcessOrigins) (q : ℕ) → find nat_cmp q (all_of ks) ≡ option_map (λ one. settings_in one.origins.items) (first_where (λ one. q == one.pid) ks)
found-of [] q = refl
found-of (k ∷ ks) q =
    ap (λ b. cond b (Some (settings_in k.origins.items)) (find nat_cmp q (all_of ks))) (sym (unsigned_ties q k.pid))
    ∙ elim (q == k.pid) as (λ b. cond b (Some (settings_in k.origins.items)) (find nat_cmp q (all_of ks))
    ≡ option_map (λ one. settings_in one.origins.items) (cond b (Some k) (first_where (λ one. q == one.pid) ks))) [ true ↦ refl | false ↦ found-of ks q ]

-- ---- removal

tied-same : (p : ℕ → Bool) (q x : ℕ) → nat_cmp q x ≡ Equal → p x ≡ p q
tied-same p q x tied = ap p (sym (exact_unsigned q x tied))

module _ {X : Type 0} (p : ℕ → Bool) where
  pub find-preserved : (q : ℕ) (es : List (ℕ × X)) → find nat_cmp q (where_key nat_cmp p es) ≡ cond (p q) (find nat_cmp q es) None
  find-preserved q es = find-where_key nat_cmp p q (tied-same p q) es

none-preserved : (p : ℕ → Bool) (q : ℕ) (es : Settings) → find nat_cmp q es ≡ None → find nat_cmp q (where_key nat_cmp p es) ≡ None
none-preserved p q es none =
    find-preserved p q es ∙ ap (λ o. cond (p q) o None) none ∙ elim (p q) as (λ b. cond {A = Option (List Setting)} b None None ≡ None) [ true ↦ refl | false ↦ refl ]

pub is-none : {X : Type 0} (o : Option X) → is_none o ≡ true → o ≡ None
is-none None is = refl
is-none (Some x) is = cc

none-is : {X : Type 0} (o : Option X) → o ≡ None → is_none o ≡ true
none-is o none = ap is_none none

pub once-where : (p : ℕ → Bool) (es : Settings) → is_once es ≡ true → is_once (where_key nat_cmp p es) ≡ true
once-where p [] once = refl
once-where p (e ∷ es) once =
    let parts = and_parts (is_none (find nat_cmp e.0 es)) (is_once es) once in
    let rest = once-where p es parts.1 in
    elim (p e.0) as (λ b. is_once (cond b (e ∷ where_key nat_cmp p es) (where_key nat_cmp p es)) ≡ true) [
      | true ↦ and_from _ _ (none-is _ (none-preserved p e.0 es (is-none _ parts.0))) rest
      | false ↦ rest
    ]

-- ---- addition

apart : (k : ℕ) (e : ℕ × List Setting) (es : Settings) → find nat_cmp k (e ∷ es) ≡ None → (e.0 ≢ k) × (find nat_cmp k es ≡ None)
apart k e es none =
    let ties = ap (λ b. cond b (Some e.1) (find nat_cmp k es)) (unsigned_ties k e.0) ∙ none in
    elim (k == e.0) as (λ b. (k == e.0) ≡ b → cond b (Some e.1) (find nat_cmp k es) ≡ None → (e.0 ≢ k) × (find nat_cmp k es ≡ None)) [
      | true ↦ λ is found. cc
      | false ↦ λ is rest. (λ same. (let bad : true ≡ false = sym (eq-eqb k e.0 (sym same)) ∙ is in cc bad), rest)
    ] refl ties

pub once-append : (es : Settings) (k : ℕ) (v : List Setting) → is_once es ≡ true → find nat_cmp k es ≡ None → is_once (es ++ (k, v) ∷ []) ≡ true
once-append [] k v once none = refl
once-append (e ∷ es) k v once none =
    let parts = and_parts (is_none (find nat_cmp e.0 es)) (is_once es) once in
    let other = apart k e es none in
    and_from _ _
    (none-is _ (find-append nat_cmp nat_cmp_total es k v e.0 other.1 ∙ ap (λ b. cond b (Some v) (find nat_cmp e.0 es)) (sym (unsigned_ties e.0 k) ∙ ne_eqb e.0 k other.0) ∙ is-none _ parts.0))
    (once-append es k v parts.1 other.1)

-- ---- the number of records

some-cond : (b : Bool) (v : List Setting) (o : Option (List Setting)) → is_some o ≡ true → is_some (cond b (Some v) o) ≡ true
some-cond true v o is = refl
some-cond false v o is = is

first-found : (e : ℕ × List Setting) (es : Settings) → find nat_cmp e.0 (e ∷ es) ≡ Some e.1
first-found e es = ap (λ b. cond b (Some e.1) (find nat_cmp e.0 es)) (sym (unsigned_ties e.0 e.0) ∙ eq-eqb e.0 e.0 refl)

truth : (b : Bool) → b ≡ true → T b
truth true is = tt
truth false is = cc

reported : (b : Bool) → T b → b ≡ true
reported true is = refl
reported false is = absurd is

-- both lists without one process
module _ {X : Type 0} (e : ℕ × List Setting) (es : Settings) (fs : List (ℕ × X)) (once : is_once (e ∷ es) ≡ true) (sorted : is_sorted nat_cmp fs ≡ true)
    (among : (q : ℕ) → is_some (find nat_cmp q (e ∷ es)) ≡ true → is_some (find nat_cmp q fs) ≡ true) where
  abbrev fewer : List (ℕ × X)
  fewer = where_key nat_cmp (λ x. not (eq_by_cmp nat_cmp e.0 x)) fs

  parts : (is_none (find nat_cmp e.0 es) ≡ true) × (is_once es ≡ true)
  parts = and_parts (is_none (find nat_cmp e.0 es)) (is_once es) once

  one-less : suc (length fewer) ≡ length fs
  one-less =
      let there : ◌≡◌ {A = ℕ} (cond (is_some (find nat_cmp e.0 fs)) 1 0) 1 = ap (λ b. cond b 1 0) (among e.0 (ap is_some (first-found e es))) in
      omega (arith, there, length_without nat_cmp nat_cmp_total e.0 fs (truth _ sorted))

  away : (q : ℕ) → is_some (find nat_cmp q es) ≡ true → eq_by_cmp nat_cmp e.0 q ≡ false
  away q there =
      sym (unsigned_ties e.0 q) ∙ ne_eqb e.0 q (λ same.
      let bad : true ≡ false = sym there ∙ ap (λ n. is_some (find nat_cmp n es)) (sym same) ∙ ap is_some (is-none _ parts.0) in cc bad)

  still : (q : ℕ) → is_some (find nat_cmp q es) ≡ true → is_some (find nat_cmp q fewer) ≡ true
  still q there =
      ap is_some (find-preserved (λ x. not (eq_by_cmp nat_cmp e.0 x)) q fs ∙ ap (λ b. cond (not b) (find nat_cmp q fs) None) (away q there))
      ∙ among q (some-cond (eq_by_cmp nat_cmp q e.0) e.1 (find nat_cmp q es) there)

  still-sorted : is_sorted nat_cmp fewer ≡ true
  still-sorted = reported _ (is_sorted-where_key nat_cmp (λ x. not (eq_by_cmp nat_cmp e.0 x)) fs (truth _ sorted))

-- a list of distinct processes that are all in another list is no longer than that list
pub few-among : {X : Type 0} (es : Settings) (fs : List (ℕ × X)) → is_once es ≡ true → is_sorted nat_cmp fs ≡ true
    → ((q : ℕ) → is_some (find nat_cmp q es) ≡ true → is_some (find nat_cmp q fs) ≡ true) → length es ≤ length fs
few-among [] fs once sorted among = omega arith
few-among (e ∷ es) fs once sorted among =
    omega (arith, one-less e es fs once sorted among, few-among es (fewer e es fs once sorted among) (parts e es fs once sorted among).1 (still-sorted e es fs once sorted among) (still e es fs once sorted among))

-- ---- the record of a process, with the records of the other live processes

module _ (lives : ℕ → Bool) (pid : ℕ) where
  abbrev pub stays : ℕ → Bool
  stays q = not (q == pid) && lives q

  pub all-filter : (ks : List ProcessOrigins) → all_of (filter (λ one. stays one.pid) ks) ≡ where_key nat_cmp stays (all_of ks)
  all-filter [] = refl
  all-filter (k ∷ ks) =
      elim (stays k.pid) as (λ b. all_of (cond b (k ∷ filter (λ one. stays one.pid) ks) (filter (λ one. stays one.pid) ks)) ≡ cond b (origins_of_process k ∷ where_key nat_cmp stays (all_of ks)) (where_key nat_cmp stays (all_of ks))) [
        | true ↦ ap (λ (es : Settings). origins_of_process k ∷ es) (all-filter ks)
        | false ↦ all-filter ks
      ]

  module _ (es : Settings) where
    pub own-gone : find nat_cmp pid (where_key nat_cmp stays es) ≡ None
    own-gone = find-preserved stays pid es ∙ ap (λ b. cond (not b && lives pid) (find nat_cmp pid es) None) (eq-eqb pid pid refl)

    -- the record of each live process is the one that was put
    pub agrees : (v : List Setting) (q : ℕ) → lives q ≡ true → find nat_cmp q (where_key nat_cmp stays es ++ (pid, v) ∷ []) ≡ find nat_cmp q (put nat_cmp pid v es)
    agrees v q there =
        find-append nat_cmp nat_cmp_total (where_key nat_cmp stays es) pid v q own-gone
        ∙ ap (λ o. cond (eq_by_cmp nat_cmp q pid) (Some v) o) (find-preserved stays q es ∙ ap (λ b. cond (not (q == pid) && b) (find nat_cmp q es) None) there)
        ∙ ap (λ b. cond b (Some v) (cond (not (q == pid) && true) (find nat_cmp q es) None)) (sym (unsigned_ties q pid))
        ∙ elim (q == pid) as (λ b. cond b (Some v) (cond (not b && true) (find nat_cmp q es) None) ≡ cond b (Some v) (find nat_cmp q es)) [ true ↦ refl | false ↦ refl ]
        ∙ ap (λ b. cond b (Some v) (find nat_cmp q es)) (unsigned_ties q pid)
        ∙ sym (find-put nat_cmp nat_cmp_total q pid v es)

    -- there are fewer records than processes
    pub few-others : {X : Type 0} (fs : List (ℕ × X)) → is_once es ≡ true → is_sorted nat_cmp fs ≡ true → lives pid ≡ true
        → ((q : ℕ) → lives q ≡ true → is_some (find nat_cmp q fs) ≡ true) → length (where_key nat_cmp stays es) < length fs
    few-others fs once sorted there among = omega (arith, few-among ((pid, []) ∷ where_key nat_cmp stays es) fs (and_from _ _ (none-is _ own-gone) (once-where stays es once)) sorted found)
      where
        passes : (q : ℕ) → is_some (cond (stays q) (find nat_cmp q es) None) ≡ true → lives q ≡ true
        passes q = elim (lives q) as (λ b. is_some (cond (not (q == pid) && b) (find nat_cmp q es) None) ≡ true → b ≡ true) [
          | true ↦ λ is. refl
          | false ↦ elim (q == pid) as (λ b. is_some (cond (not b && false) (find nat_cmp q es) None) ≡ true → false ≡ true) [ true ↦ λ is. is | false ↦ λ is. is ]
        ]

        by : (q : ℕ) (b : Bool) → (q == pid) ≡ b → is_some (cond b (Some []) (find nat_cmp q (where_key nat_cmp stays es))) ≡ true → is_some (find nat_cmp q fs) ≡ true
        by q true same is = among q (ap lives (eqb-true q pid same) ∙ there)
        by q false other is = among q (passes q (ap is_some (sym (find-preserved stays q es)) ∙ is))

        found : (q : ℕ) → is_some (find nat_cmp q ((pid, []) ∷ where_key nat_cmp stays es)) ≡ true → is_some (find nat_cmp q fs) ≡ true
        found q is = by q (q == pid) refl (ap (λ b. is_some (cond b (Some []) (find nat_cmp q (where_key nat_cmp stays es)))) (unsigned_ties q pid) ∙ is)

pub live-there : (o : Option StateRecord) → is_some (live_process o) ≡ true → is_some o ≡ true
live-there None is = is
live-there (Some r) is = refl

-- ---- an updated record

all-append : (ks : List ProcessOrigins) (k : ProcessOrigins) → all_of (ks ++ k ∷ []) ≡ all_of ks ++ origins_of_process k ∷ []
all-append [] k = refl
all-append (x ∷ ks) k = ap (λ (es : Settings). origins_of_process x ∷ es) (all-append ks k)

length-all : (ks : List ProcessOrigins) → length (all_of ks) ≡ length ks
length-all [] = refl
length-all (k ∷ ks) = ap suc (length-all ks)

module _ (ps : ProcessTable) (table : IsProcessTable ps) (pid : ℕ) (ks new : List ProcessOrigins) (once : is_once (all_of ks) ≡ true)
    (preserved : new ≡ filter (λ one. not (one.pid == pid) && is_some (process_in ps one.pid)) ks) where
  abbrev lives : ℕ → Bool
  lives q = is_some (process_in ps q)

  left : all_of new ≡ where_key nat_cmp (stays lives pid) (all_of ks)
  left = ap all_of preserved ∙ all-filter lives pid ks

  pub put-room : lives pid ≡ true → length new < PROCESSES
  put-room there =
      omega (arith, length-all new, ap length left, table.count, few-others lives pid (all_of ks) ps.processes once table.ascending there (λ q is. live-there (find nat_cmp q ps.processes) is))

  pub put-once : (k : ProcessOrigins) → k.pid ≡ pid → is_once (all_of (new ++ k ∷ [])) ≡ true
  put-once k same =
      ap is_once (all-append new k ∙ ap₂ (λ (es : Settings) (n : ℕ). es ++ (n, settings_in k.origins.items) ∷ []) left same)
      ∙ once-append (where_key nat_cmp (stays lives pid) (all_of ks)) pid (settings_in k.origins.items) (once-where (stays lives pid) (all_of ks) once) (own-gone lives pid (all_of ks))

  pub put-agrees : (k : ProcessOrigins) → k.pid ≡ pid → (q : ℕ) → lives q ≡ true
      → settings_of (all_of (new ++ k ∷ [])) q ≡ settings_of (put nat_cmp pid (settings_in k.origins.items) (all_of ks)) q
  put-agrees k same q there =
      ap (λ (es : Settings). settings_of es q) (all-append new k ∙ ap₂ (λ (es : Settings) (n : ℕ). es ++ (n, settings_in k.origins.items) ∷ []) left same)
      ∙ ap (λ o. unwrap_or o []) (agrees lives pid (all_of ks) (settings_in k.origins.items) q there)

-- if the process is not live, the live processes keep their records
pub put-absent : (lives : ℕ → Bool) (pid : ℕ) (mine : List Setting) (es : Settings) → lives pid ≡ false → (q : ℕ) → lives q ≡ true → settings_of es q ≡ settings_of (put nat_cmp pid mine es) q
put-absent lives pid mine es gone q there =
    sym (ap (λ o. unwrap_or o [])
    (find-put nat_cmp nat_cmp_total q pid mine es ∙ ap (λ b. cond b (Some mine) (find nat_cmp q es))
    (sym (unsigned_ties q pid) ∙ ne_eqb q pid (λ same. let bad : true ≡ false = sym there ∙ ap lives same ∙ gone in cc bad))))
