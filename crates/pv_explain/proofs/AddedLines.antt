-- The lines added to a step, as in the definitions.
use Rattle.std.proofs.Common.{◌≡◌, ◌≤◌, ◌∙◌, ℕ, zero, suc, Bool, true, false, cond, List, [], ◌∷◌, ◌++◌, map, length, take, append-nil, nat_le, option_to_list, Option, None, Some, refl, sym, ap, ap₂, subst, arith}
use Rattle.std.specs.Prelude.{option_and_then}
use Rattle.std.specs.List.{cons_option, filter_map}
use Rattle.std.proofs.lemmas.Bool.{le-leb}
use Rattle.pv_model.specs.declared.call.Call.{Call}
use Rattle.pv_model.specs.declared.call.Call.TheVariants.{Unveil, Execve, Open, OpenAt, Chdir, Stat, Lstat, Readlink, Mkdir, Symlink, Link, Unlink, Rmdir, Rename}
use Rattle.pv_model.specs.declared.place.Place.{Place}
use Rattle.pv_model.specs.Answers.Explain.{set_text}
use Rattle.pv_model.specs.Machine.{Answered, answer, AnswerLine, Bytes, Setting, call_of, end_of, is_unveil, program_of, inside, calls_for, next, Process, State, process_at, place_found, Walk, walk_number, walks_of}
use Rattle.pv_model_questions.specs.ExplainMore.{Allowed, Restraints, allowed_at, allowed_line, allowed_lines, allowed_lines_by, allowed_walk, allowed_walks, execve_after, execve_lines, execve_lines_by, lines_of_call, lines_of_next, lines_of_process, restraints_of}
use Rattle.pv_step_lines.specs.OfCallsPath.Ends.{end_begun}
use Rattle.pv_step_lines.proofs.OfSession.OfCallsPath.WalkEnds.{begun-ends}
use Rattle.pv_step_lines.specs.declared.making.MadeCall.{MadeCall}
use Rattle.pv_step_lines.specs.Made.{IsMadeCall}
use Rattle.pv_explain.specs.declared.extra.Extra.{Extra}
use Rattle.pv_explain.specs.declared.prior.Prior.{Prior}
use Rattle.pv_explain.specs.Added.{IsPrior, AllowedPair, added_made, allowed_made, first_allowed, allowed_if_begun, no_pair, pair_before, walks_before, reasons_made, restraints_in, walk_before}
use Rattle.pv_explain.specs.Errors.{added_by, error_lines, error_lines_next, error_lines_of}
use Rattle.pv_explain.proofs.ErrorLines.{error-called}

-- ---- a step without a call

-- no lines are added if there is none of any kind
none-added : (extra : Extra) (source : ℕ → Bytes) (s : State) (pid : ℕ) → allowed_lines source s pid ≡ [] → error_lines s pid ≡ [] → execve_lines s pid ≡ []
    → added_by extra source s pid ≡ []
none-added extra source s pid allowed errors execve =
    ap₂ (λ (xs ys : List AnswerLine). cond extra.allowed xs [] ++ cond extra.errors (ys ++ execve_lines s pid) []) allowed errors
    ∙ ap (λ (zs : List AnswerLine). cond {A = List AnswerLine} extra.allowed [] [] ++ cond extra.errors zs []) execve
    ∙ both extra.allowed extra.errors
  where
    both : (a b : Bool) → cond {A = List AnswerLine} a [] [] ++ cond b [] [] ≡ []
    both true true = refl
    both true false = refl
    both false true = refl
    both false false = refl

pub gone-adds : (extra : Extra) (source : ℕ → Bytes) (s : State) (pid : ℕ) → process_at s pid ≡ None → added_by extra source s pid ≡ []
unfolding error_lines lines_of_call
gone-adds extra source s pid none =
    none-added extra source s pid (ap (lines_of_process (allowed_lines_by s pid source) s pid) none) (ap (error_lines_of s pid) none)
    (ap (lines_of_process (execve_lines_by pid) s pid) none)

pub inside-adds : (extra : Extra) (source : ℕ → Bytes) (s : State) (pid : ℕ) (p q : Process) → process_at s pid ≡ Some p → next p ≡ inside q → added_by extra source s pid ≡ []
unfolding error_lines lines_of_call
inside-adds extra source s pid p q lives comes =
    none-added extra source s pid
    (ap (lines_of_process (allowed_lines_by s pid source) s pid) lives ∙ ap (lines_of_next (allowed_lines_by s pid source) s pid p) comes)
    (ap (error_lines_of s pid) lives ∙ ap (error_lines_next s pid p) comes)
    (ap (lines_of_process (execve_lines_by pid) s pid) lives ∙ ap (lines_of_next (execve_lines_by pid) s pid p) comes)

-- ---- the walks of a call, known before it

take-none : {X : Type 0} (n : ℕ) → take {A = X} n [] ≡ []
take-none zero = refl
take-none (suc n) = refl

no-walk : (b : Bool) → allowed_if_begun b None ≡ []
no-walk true = refl
no-walk false = refl

as-list : (o : Option Allowed) → option_to_list o ≡ cons_option o []
as-list None = refl
as-list (Some w) = refl

as-lists : (o e : Option Allowed) → option_to_list o ++ option_to_list e ≡ cons_option o (cons_option e [])
as-lists None None = refl
as-lists None (Some x) = refl
as-lists (Some y) None = refl
as-lists (Some y) (Some x) = refl

module _ (s : State) (pid : ℕ) (p : Process) where
  -- the first walks of a list end at the places of the definitions
  abbrev AreBegun : List Walk → ℕ → Type 0
  AreBegun ws n = (k : ℕ) (w : Walk) → walk_number ws k ≡ Some w → k ≤ n → end_begun s pid p w ≡ place_found (end_of s p w)

  same-walk : (ws : List Walk) (n k : ℕ) (w : Walk) → AreBegun ws n → walk_number ws k ≡ Some w → k ≤ n → walk_before s pid p w ≡ allowed_walk s p w
  same-walk ws n k w begun at within = ap (λ (o : Option Place). option_and_then (allowed_at s.tree p.table w.needed) o) (begun k w at within)

  first-walks : (ws : List Walk) → length ws ≤ 2 → (n : ℕ) → AreBegun ws n → first_allowed (walks_before s pid p ws) n ≡ filter_map (allowed_walk s p) (take n ws)
  first-walks [] short n begun =
      ap₂ (λ (xs ys : List Allowed). xs ++ ys) (no-walk (nat_le 1 n)) (no-walk (nat_le 2 n)) ∙ sym (ap (filter_map (allowed_walk s p)) (take-none n))
  first-walks (w ∷ []) short zero begun = refl
  first-walks (w ∷ []) short (suc n) begun =
      ap₂ (λ (b : Bool) (ys : List Allowed). allowed_if_begun b (walk_before s pid p w) ++ ys) (le-leb 1 (suc n) (omega arith)) (no-walk (nat_le 2 (suc n)))
      ∙ append-nil (option_to_list (walk_before s pid p w))
      ∙ ap option_to_list (same-walk (w ∷ []) (suc n) 1 w begun refl (omega arith))
      ∙ as-list (allowed_walk s p w)
      ∙ sym (ap (λ (vs : List Walk). filter_map (allowed_walk s p) (w ∷ vs)) (take-none n))
  first-walks (w ∷ v ∷ []) short zero begun = refl
  first-walks (w ∷ v ∷ []) short (suc zero) begun =
      append-nil (option_to_list (walk_before s pid p w))
      ∙ ap option_to_list (same-walk (w ∷ v ∷ []) 1 1 w begun refl (omega arith))
      ∙ as-list (allowed_walk s p w)
  first-walks (w ∷ v ∷ []) short (suc (suc n)) begun =
      ap₂ (λ (a b : Bool). allowed_if_begun a (walk_before s pid p w) ++ allowed_if_begun b (walk_before s pid p v)) (le-leb 1 (suc (suc n)) (omega arith)) (le-leb 2 (suc (suc n)) (omega arith))
      ∙ ap₂ (λ (a b : Option Allowed). option_to_list a ++ option_to_list b)
      (same-walk (w ∷ v ∷ []) (suc (suc n)) 1 w begun refl (omega arith)) (same-walk (w ∷ v ∷ []) (suc (suc n)) 2 v begun refl (omega arith))
      ∙ as-lists (allowed_walk s p w) (allowed_walk s p v)
      ∙ sym (ap (λ (vs : List Walk). filter_map (allowed_walk s p) (w ∷ v ∷ vs)) (take-none n))
  first-walks (w ∷ v ∷ u ∷ rest) short n begun = absurd (omega (arith, short))

  by-unveil : (call : Call) (n : ℕ) → allowed_walks s p call n ≡ cond (is_unveil call) [] (filter_map (allowed_walk s p) (take n (walks_of call)))
  by-unveil (Unveil path permissions) n = refl
  by-unveil _ n = refl

-- a call walks at most twice
walks-short : (call : Call) → length (walks_of call) ≤ 2
walks-short (Unveil (Some path) (Some text)) = omega arith
walks-short (Execve path) = omega arith
walks-short (Open path flags) = omega arith
walks-short (OpenAt start path flags) = omega arith
walks-short (Chdir path) = omega arith
walks-short (Stat path) = omega arith
walks-short (Lstat path) = omega arith
walks-short (Readlink path) = omega arith
walks-short (Mkdir path) = omega arith
walks-short (Symlink text path) = omega arith
walks-short (Link path new) = omega arith
walks-short (Unlink path) = omega arith
walks-short (Rmdir path) = omega arith
walks-short (Rename path new) = omega arith
walks-short _ = omega arith

walks-known : (s : State) (pid : ℕ) (p : Process) (call : Call) (n : ℕ) → process_at s pid ≡ Some p → n ≡ (answer program_of s pid call).walks
    → first_allowed (pair_before s pid p call) n ≡ allowed_walks s p call n
walks-known s pid p call n at begun = by (is_unveil call) ∙ sym (by-unveil s pid p call n)
  where
    by : (b : Bool) → first_allowed (cond b no_pair (walks_before s pid p (walks_of call))) n ≡ cond b [] (filter_map (allowed_walk s p) (take n (walks_of call)))
    by true = ap₂ (λ (xs ys : List Allowed). xs ++ ys) (no-walk (nat_le 1 n)) (no-walk (nat_le 2 n))
    by false = first-walks s pid p (walks_of call) (walks-short call) n (λ k w is within. begun-ends program_of s pid p at call k w is (omega (arith, within, begun)))

-- ---- a call

-- a process has one next call
same-call : (s : State) (pid : ℕ) (p me : Process) (a b : Call) → process_at s pid ≡ Some p → process_at s pid ≡ Some me → next p ≡ calls_for a → next me ≡ calls_for b → a ≡ b
same-call s pid p me a b at lives x y =
    let one : Some p ≡ Some me = sym at ∙ lives in
    let same : p ≡ me = cc one in
    let both : calls_for a ≡ calls_for b = sym x ∙ ap next same ∙ y in
    cc both

module _ (s : State) (pid : ℕ) (m : MadeCall) (after : State) (is : IsMadeCall s pid m after) where
  abbrev now : Answered
  now = record { after = after; outcome = m.answer.outcome; walks = m.answer.walks }

  called : (lines : Process → Call → Answered → List AnswerLine) → lines_of_call lines s pid ≡ lines is.me (call_of m.call) now
  unfolding lines_of_call
  called lines = ap (lines_of_process lines s pid) is.lives ∙ ap (lines_of_next lines s pid is.me) is.comes ∙ ap (lines is.me (call_of m.call)) is.answered

  module _ (prior : Prior) (mine : List Setting) where
    walks-same : (allowed : Bool) → IsPrior allowed s pid is.me (call_of m.call) prior
        → allowed_made pid mine prior m after ≡ cond allowed (allowed_lines (set_text program_of mine) s pid) []
    walks-same true kept =
        ap (λ (pair : AllowedPair). map (allowed_line pid after.tree (set_text program_of mine)) (first_allowed pair m.answer.walks)) kept.walks
        ∙ ap (map (allowed_line pid after.tree (set_text program_of mine)))
        (walks-known s pid is.me (call_of m.call) m.answer.walks is.lives (sym (ap (λ (a : Answered). a.walks) is.answered)))
        ∙ sym (called (allowed_lines_by s pid (set_text program_of mine)))
    walks-same false kept =
        ap (λ (pair : AllowedPair). map (allowed_line pid after.tree (set_text program_of mine)) (first_allowed pair m.answer.walks)) kept.walks
        ∙ ap (map (allowed_line pid after.tree (set_text program_of mine)))
        (ap₂ (λ (xs ys : List Allowed). xs ++ ys) (no-walk (nat_le 1 m.answer.walks)) (no-walk (nat_le 2 m.answer.walks)))

    reasons-same : restraints_in prior.restraints ≡ restraints_of is.me → reasons_made pid prior m after ≡ error_lines s pid ++ execve_lines s pid
    reasons-same kept =
        ap₂ (λ (xs ys : List AnswerLine). xs ++ ys) (error-called s pid m after is)
        (ap (λ (r : Restraints). execve_after pid r after (call_of m.call) m.answer.outcome) kept ∙ sym (called (execve_lines_by pid)))

    -- the lines added to a call are those of the definitions
    call-adds : (extra : Extra) → IsPrior extra.allowed s pid is.me (call_of m.call) prior
        → added_made extra.errors pid mine prior m after ≡ added_by extra (set_text program_of mine) s pid
    call-adds extra kept =
        ap₂ (λ (xs ys : List AnswerLine). xs ++ cond extra.errors ys []) (walks-same extra.allowed kept) (reasons-same kept.restraints)

    -- by the part of the state before the call, as it was captured
    pub call-adds-by : (extra : Extra) (x : State) → x ≡ s → (p : Process) (a : Call) → process_at s pid ≡ Some p → next p ≡ calls_for a
        → ((me : Process) → process_at x pid ≡ Some me → IsPrior extra.allowed x pid me a prior)
        → added_made extra.errors pid mine prior m after ≡ added_by extra (set_text program_of mine) s pid
    call-adds-by extra x same p a at comes captured =
        call-adds extra
        (subst (λ (b : Call). IsPrior extra.allowed s pid is.me b prior) (same-call s pid p is.me a (call_of m.call) at is.lives comes is.comes)
        (subst (λ (t : State). IsPrior extra.allowed t pid is.me a prior) same (captured is.me (ap (λ (t : State). process_at t pid) same ∙ is.lives))))
