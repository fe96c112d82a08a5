-- One more file, process and state.
use Rattle.std.proofs.Common.{◌≡◌, ◌∙◌, sym, ap, ℕ, zero, suc, ◌+◌, ◌<◌, ◌||◌, Bool, true, false, cond, if◌then◌else◌, bytes_eq, List, [], ◌∷◌, ◌++◌, length, map, flat_map, get_or, slice_set, Option, None, Some, refl, arith}
use Rattle.std.specs.Prelude.{position, option_map}
use Rattle.std.specs.List.{list_any, position_from}
use Rattle.std.proofs.lemmas.Iterator.Adapters.{position_from-zero}
use Rattle.std.proofs.lemmas.List.{map-append}
use Rattle.std.proofs.lemmas.List.Quantifiers.{position-Some}
use Rattle.pv_model.specs.Machine.{Found, Located, program_key, Bytes, live_processes, ProcessRecord, live, ended_record, live_process, program_of, Tree}
use Rattle.pv_model_questions.specs.declared.finding_kind.FindingKind.{FindingKind}
use Rattle.pv_model_questions.specs.Briefs.{brief_since}
use Rattle.pv_model_questions.specs.Exposure.{finding_by, reason_by, witness_by}
use Rattle.pv_model_questions.specs.ExposureAbout.{kept_files_of}
use Rattle.pv_exposure.specs.Collected.{Exposed, Recorded, exposed_after, exposed_more, exposed_none, exposed_with, has_key, is_of, recorded_at, record_key, recorded_of, key_of_recorded, with_all}
use Rattle.pv_exposure.specs.Stored.{recorded_by_file, located_by, located_if}

-- ---- a file

pub has-key : (key : Bytes) (ks : List Recorded) → has_key ks key ≡ list_any (bytes_eq key) (map key_of_recorded ks)
has-key key [] = refl
has-key key (k ∷ ks) = ap (λ b. bytes_eq key (key_of_recorded k) || b) (has-key key ks)

module _ (first : Tree) (kind : FindingKind) (ks : List Recorded) (l : Located) (f : ℕ) where
  abbrev text : Bytes
  text = brief_since first l.found.state.tree f

  abbrev pub finding_as : Bytes → Recorded
  finding_as reason = record { witness = witness_by kind l; pid = l.pid; line = l.process.line; file = text; reason = reason }

  abbrev with_reason : Option Bytes → List Recorded
  with_reason reason = with_all ks (map recorded_of (finding_by program_of first kind l f reason))

  pub file-known : has_key ks (record_key l.process.line text) ≡ true → with_all ks (recorded_by_file first kind l f) ≡ ks
  file-known known = by (reason_by program_of l f kind)
    where
      by : (reason : Option Bytes) → with_reason reason ≡ ks
      by None = refl
      by (Some reason) = ap (λ b. if b then ks else ks ++ finding_as reason ∷ []) known

  pub file-none : reason_by program_of l f kind ≡ None → with_all ks (recorded_by_file first kind l f) ≡ ks
  file-none none = ap with_reason none

  pub file-new : (reason : Bytes) → reason_by program_of l f kind ≡ Some reason → has_key ks (record_key l.process.line text) ≡ false
      → with_all ks (recorded_by_file first kind l f) ≡ ks ++ finding_as reason ∷ []
  file-new reason is new = ap with_reason is ∙ ap (λ b. if b then ks else ks ++ finding_as reason ∷ []) new

-- the files of a process that are kept, in sequence
module _ (files : List Bytes) (first : Tree) (kind : FindingKind) (l : Located) where
  files-mapped : (fs : List ℕ) → map recorded_of (flat_map (λ f. finding_by program_of first kind l f (reason_by program_of l f kind)) fs) ≡ flat_map (recorded_by_file first kind l) fs
  files-mapped [] = refl
  files-mapped (f ∷ fs) =
      map-append recorded_of (finding_by program_of first kind l f (reason_by program_of l f kind)) (flat_map (λ f. finding_by program_of first kind l f (reason_by program_of l f kind)) fs)
      ∙ ap (λ (ks : List Recorded). recorded_by_file first kind l f ++ ks) (files-mapped fs)

  pub all-files : recorded_at files first kind l ≡ flat_map (recorded_by_file first kind l) (kept_files_of files first l.found.state.tree)
  all-files = files-mapped (kept_files_of files first l.found.state.tree)

-- ---- a process

module _ (files : List Bytes) (first : Tree) (named : List ℕ) (l : Located) where
  record-at : (es : List Exposed) (k : ℕ) (d : Exposed) → k < length es → is_of (program_key l) (get_or es k d) ≡ true → ((j : ℕ) → j < k → is_of (program_key l) (get_or es j d) ≡ false)
      → exposed_with files first named es l ≡ slice_set es k (exposed_more files first (get_or es k d) l)
  record-at [] k d within here before = absurd (omega arith)
  record-at (e ∷ es) zero d within here before = ap (λ b. if b then exposed_more files first e l ∷ es else e ∷ exposed_with files first named es l) here
  record-at (e ∷ es) (suc k) d within here before =
      ap (λ b. if b then exposed_more files first e l ∷ es else e ∷ exposed_with files first named es l) (before 0 (omega arith))
      ∙ ap (λ (xs : List Exposed). e ∷ xs) (record-at es k d (omega arith) here (λ j below. before (suc j) (omega arith)))

  pub record-there : (es : List Exposed) (k : ℕ) (d : Exposed) → position (is_of (program_key l)) es ≡ Some k
      → (k < length es) × (exposed_with files first named es l ≡ slice_set es k (exposed_more files first (get_or es k d) l))
  record-there es k d is = let found = position-Some (is_of (program_key l)) es k d is in (found.0, record-at es k d found.0 found.1 found.2)

  record-none : (es : List Exposed) (n : ℕ) → position_from (is_of (program_key l)) n es ≡ None → exposed_with files first named es l ≡ es ++ exposed_more files first (exposed_none named l.process.program) l ∷ []
  record-none [] n none = refl
  record-none (e ∷ es) n none = by (is_of (program_key l) e) none (record-none es (n + 1))
    where
      by : (b : Bool) → cond b (Some n) (position_from (is_of (program_key l)) (n + 1) es) ≡ None
          → (position_from (is_of (program_key l)) (n + 1) es ≡ None → exposed_with files first named es l ≡ es ++ exposed_more files first (exposed_none named l.process.program) l ∷ [])
          → (if b then exposed_more files first e l ∷ es else e ∷ exposed_with files first named es l) ≡ e ∷ (es ++ exposed_more files first (exposed_none named l.process.program) l ∷ [])
      by true is rest = absurd (cc)
      by false is rest = ap (λ (xs : List Exposed). e ∷ xs) (rest is)

  pub record-new : (es : List Exposed) → position (is_of (program_key l)) es ≡ None → exposed_with files first named es l ≡ es ++ exposed_more files first (exposed_none named l.process.program) l ∷ []
  record-new es none = record-none es 0 (sym (position_from-zero (is_of (program_key l)) es) ∙ none)

-- ---- a state

pub after-both : (files : List Bytes) (first : Tree) (named : List ℕ) (es : List Exposed) (xs ys : List Located) → exposed_after files first named es (xs ++ ys) ≡ exposed_after files first named (exposed_after files first named es xs) ys
after-both files first named es [] ys = refl
after-both files first named es (x ∷ xs) ys = after-both files first named (exposed_with files first named es x) xs ys

-- the live processes of records
abbrev pub located_among : Found → List (ℕ × ProcessRecord) → List Located
located_among f rs = map (λ p. located_by f p.0 p.1) (live_processes rs)

pub located-next : (f : Found) (pid : ℕ) (r : ProcessRecord) (rs : List (ℕ × ProcessRecord)) → located_among f ((pid, r) ∷ rs) ≡ located_if f pid (live_process (Some r)) ++ located_among f rs
located-next f pid (live p) rs = refl
located-next f pid (ended_record parent status) rs = refl
