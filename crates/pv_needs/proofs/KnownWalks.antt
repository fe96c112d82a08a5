-- The walks of a call are known before the call.
use Rattle.std.proofs.Common.{◌≡◌, ◌∙◌, ℕ, zero, suc, ◌≤◌, Bool, true, false, cond, List, [], ◌∷◌, ◌++◌, length, take, option_to_list, Option, None, Some, refl, sym, ap, ap₂, arith}
use Rattle.std.specs.List.{cons_option, filter_map}
use Rattle.std.proofs.lemmas.Bool.{le-leb}
use Rattle.pv_model.specs.declared.call.Call.{Call}
use Rattle.pv_model.specs.declared.call.Call.TheVariants.{Unveil, Execve, Open, OpenAt, Chdir, Stat, Lstat, Readlink, Mkdir, Symlink, Link, Unlink, Rmdir, Rename}
use Rattle.pv_model.specs.Machine.{answer, Judged, judged_walks, is_unveil, end_of, program_of, Process, State, process_at, place_found, Walk, walk_number, walks_of}
use Rattle.pv_model.specs.Answers.Needs.{judged, judged_at}
use Rattle.pv_session.specs.OfCallsPath.Ends.{end_begun}
use Rattle.pv_session.proofs.OfCallsPath.WalkEnds.{begun-ends}
use Rattle.pv_needs.specs.Asking.{begun_walks, judged_begun, walks_begun}

take-none : {X : Type 0} (n : ℕ) → take {A = X} n [] ≡ []
take-none zero = refl
take-none (suc n) = refl

-- a walk, if it is begun, and the walks after it
pub first-walk : (b : Bool) (o : Option Judged) (rest : List Judged) → cons_option (cond b o None) rest ≡ cond b (option_to_list o) [] ++ rest
first-walk true None rest = refl
first-walk true (Some w) rest = refl
first-walk false o rest = refl

module _ (s : State) (pid : ℕ) (p : Process) where
  -- the first walks of a list end where `Ends` says
  abbrev EndsBegun : List Walk → ℕ → Type 0
  EndsBegun ws n = (k : ℕ) (w : Walk) → walk_number ws k ≡ Some w → k ≤ n → end_begun s pid p w ≡ place_found (end_of s p w)

  same-judged : (ws : List Walk) (n k : ℕ) (w : Walk) → EndsBegun ws n → walk_number ws k ≡ Some w → k ≤ n → judged_begun s pid p w ≡ judged s p w
  same-judged ws n k w begun at within = ap (judged_at s w.needed) (begun k w at within)

  walks-judged : (ws : List Walk) → length ws ≤ 2 → (n : ℕ) → EndsBegun ws n → begun_walks s pid p ws n ≡ filter_map (judged s p) (take n ws)
  walks-judged [] short n begun = sym (ap (filter_map (judged s p)) (take-none n))
  walks-judged (w ∷ []) short zero begun = refl
  walks-judged (w ∷ []) short (suc n) begun =
      ap₂ (λ b (o : Option Judged). cond b (option_to_list o) []) (le-leb 1 (suc n) (omega arith)) (same-judged (w ∷ []) (suc n) 1 w begun refl (omega arith))
      ∙ as-list (judged s p w)
      ∙ sym (ap (λ (vs : List Walk). filter_map (judged s p) (w ∷ vs)) (take-none n))
    where
      as-list : (o : Option Judged) → option_to_list o ≡ cons_option o []
      as-list None = refl
      as-list (Some v) = refl
  walks-judged (w ∷ v ∷ []) short zero begun = refl
  walks-judged (w ∷ v ∷ []) short (suc zero) begun =
      ap (λ (o : Option Judged). option_to_list o ++ []) (same-judged (w ∷ v ∷ []) 1 1 w begun refl (omega arith))
      ∙ sym (first-walk true (judged s p w) [])
  walks-judged (w ∷ v ∷ []) short (suc (suc n)) begun =
      ap₂ (λ a b. cond a (option_to_list (judged_begun s pid p w)) [] ++ cond b (option_to_list (judged_begun s pid p v)) [])
      (le-leb 1 (suc (suc n)) (omega arith)) (le-leb 2 (suc (suc n)) (omega arith))
      ∙ ap₂ (λ (a b : Option Judged). option_to_list a ++ option_to_list b)
      (same-judged (w ∷ v ∷ []) (suc (suc n)) 1 w begun refl (omega arith)) (same-judged (w ∷ v ∷ []) (suc (suc n)) 2 v begun refl (omega arith))
      ∙ as-lists (judged s p w) (judged s p v)
      ∙ sym (ap (λ (vs : List Walk). filter_map (judged s p) (w ∷ v ∷ vs)) (take-none n))
    where
      as-lists : (o e : Option Judged) → option_to_list o ++ option_to_list e ≡ cons_option o (cons_option e [])
      as-lists None None = refl
      as-lists None (Some x) = refl
      as-lists (Some y) None = refl
      as-lists (Some y) (Some x) = refl
  walks-judged (w ∷ v ∷ u ∷ rest) short n begun = absurd (omega arith)

  pub by-unveil : (call : Call) (n : ℕ) → judged_walks s p call n ≡ cond (is_unveil call) [] (filter_map (judged s p) (take n (walks_of call)))
  by-unveil (Unveil path permissions) n = refl
  by-unveil _ n = refl

-- a call walks at most twice
pub walks-short : (call : Call) → length (walks_of call) ≤ 2
walks-short (Unveil (Some path) (Some text)) = omega arith
walks-short (Execve path) = omega arith
walks-short (Open path flags) = omega arith
walks-short (OpenAt start path flags) = omega arith
walks-short (Chdir path) = omega arith
walks-short (Stat path) = omega arith
walks-short (Lstat path) = omega arith
walks-short (Readlink path) = omega arith
walks-short (Mkdir path) = omega arith
walks-short (Symlink text path) = omega arith
walks-short (Link path new) = omega arith
walks-short (Unlink path) = omega arith
walks-short (Rmdir path) = omega arith
walks-short (Rename path new) = omega arith
walks-short _ = omega arith

-- the walks that a call began are known before the call
pub walks-known : (s : State) (pid : ℕ) (p : Process) (call : Call) → process_at s pid ≡ Some p
    → walks_begun s pid p call (answer program_of s pid call).walks ≡ judged_walks s p call (answer program_of s pid call).walks
walks-known s pid p call at = by (is_unveil call) ∙ sym (by-unveil s pid p call n)
  where
    n : ℕ
    n = (answer program_of s pid call).walks

    by : (b : Bool) → cond b [] (begun_walks s pid p (walks_of call) n) ≡ cond b [] (filter_map (judged s p) (take n (walks_of call)))
    by true = refl
    by false = walks-judged s pid p (walks_of call) (walks-short call) n (λ k w is within. begun-ends program_of s pid p at call k w is within)
