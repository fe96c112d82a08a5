-- Lists of open files in which one is changed, except for its node and mode, and operations on both.
use Rattle.std.proofs.Common.{◌≡◌, ◌≢◌, ℕ, zero, suc, Bool, true, false, List, [], ◌∷◌, ◌++◌, map, Option, None, Some, is_some, option_map, refl, ap, ap₂, sym, ◌∙◌}
use Rattle.pv_model.specs.Machine.{end_process, among, used_files, held_by_process, collect, Numbered, at_number, with_number, least_free, keep_if, keep, present, OpenFile, State}
use Rattle.pv_model.specs.Numbered.{keep_from}
use Rattle.pv_laws_trees.specs.Preserved.{preserved}
use Rattle.pv_laws_states.proofs.ReferenceMembers.{all_of}
use Rattle.pv_laws_runs.specs.OfLawsAccess.Growth.{IsSameFile}
use Rattle.pv_laws_steps.specs.Offsets.{change_number, with_file_change}
use Rattle.pv_laws_steps.proofs.ChangedPairs.{IsApart}

module _ (g : OpenFile → OpenFile) where
  pub shifted-itself : (k : ℕ) (xs : Numbered OpenFile) → at_number (change_number k g xs) k ≡ option_map g (at_number xs k)
  shifted-itself k [] = refl
  shifted-itself zero (x ∷ xs) = refl
  shifted-itself (suc k) (x ∷ xs) = shifted-itself k xs

  pub shifted-other : (k : ℕ) (xs : Numbered OpenFile) (n : ℕ) → n ≢ k → at_number (change_number k g xs) n ≡ at_number xs n
  shifted-other k [] n other = refl
  shifted-other zero (x ∷ xs) zero other = absurd (other refl)
  shifted-other zero (x ∷ xs) (suc n) other = refl
  shifted-other (suc k) (x ∷ xs) zero other = refl
  shifted-other (suc k) (x ∷ xs) (suc n) other = shifted-other k xs n (λ same. other (ap suc same))

  -- another open file is stored under another number
  pub put-shifted : (k : ℕ) (xs : Numbered OpenFile) (n : ℕ) (v : OpenFile) → is_some (at_number xs k) ≡ true → n ≢ k → with_number (change_number k g xs) n v ≡ change_number k g (with_number xs n v)
  put-shifted k [] n v there other = cc there
  put-shifted zero (x ∷ xs) zero v there other = absurd (other refl)
  put-shifted zero (x ∷ xs) (suc n) v there other = refl
  put-shifted (suc k) (x ∷ xs) zero v there other = refl
  put-shifted (suc k) (x ∷ xs) (suc n) v there other = ap (λ (ys : Numbered OpenFile). x ∷ ys) (put-shifted k xs n v there (λ same. other (ap suc same)))

  -- an open file stays
  pub there-put : (k : ℕ) (xs : Numbered OpenFile) (n : ℕ) (v : OpenFile) → is_some (at_number xs k) ≡ true → n ≢ k → is_some (at_number (with_number xs n v) k) ≡ true
  there-put k [] n v there other = cc there
  there-put zero (x ∷ xs) zero v there other = absurd (other refl)
  there-put zero (x ∷ xs) (suc n) v there other = there
  there-put (suc k) (x ∷ xs) zero v there other = there
  there-put (suc k) (x ∷ xs) (suc n) v there other = there-put k xs n v there (λ same. other (ap suc same))

  some-shifted : (x : Option OpenFile) (xs : Numbered OpenFile) → least_free (option_map g x ∷ xs) ≡ least_free (x ∷ xs)
  some-shifted None xs = refl
  some-shifted (Some f) xs = refl

  pub least-shifted : (k : ℕ) (xs : Numbered OpenFile) → least_free (change_number k g xs) ≡ least_free xs
  least-shifted k [] = refl
  least-shifted zero (x ∷ xs) = some-shifted x xs
  least-shifted (suc k) (None ∷ xs) = refl
  least-shifted (suc k) (Some f ∷ xs) = ap suc (least-shifted k xs)

  keep_if-shifted : (b : Bool) (x : Option OpenFile) → keep_if b (option_map g x) ≡ option_map g (keep_if b x)
  keep_if-shifted true x = refl
  keep_if-shifted false x = refl

  keep-shifted : (j k : ℕ) (test : ℕ → Bool) (xs : Numbered OpenFile) → keep_from j test (change_number k g xs) ≡ change_number k g (keep_from j test xs)
  keep-shifted j k test [] = refl
  keep-shifted j zero test (x ∷ xs) = ap (λ (y : Option OpenFile). y ∷ keep_from (suc j) test xs) (keep_if-shifted (test j) x)
  keep-shifted j (suc k) test (x ∷ xs) = ap (λ (ys : Numbered OpenFile). keep_if (test j) x ∷ ys) (keep-shifted (suc j) k test xs)

  module _ (same : (f : OpenFile) → IsSameFile f (g f)) where
    abbrev nodes : Numbered OpenFile → List ℕ
    nodes xs = map (λ f. f.node) (present xs)

    nodes-head : (x : Option OpenFile) (xs : Numbered OpenFile) → nodes (option_map g x ∷ xs) ≡ nodes (x ∷ xs)
    nodes-head None xs = refl
    nodes-head (Some f) xs = ap (λ n. n ∷ nodes xs) (same f).node

    nodes-shifted : (k : ℕ) (xs : Numbered OpenFile) → nodes (change_number k g xs) ≡ nodes xs
    nodes-shifted k [] = refl
    nodes-shifted zero (x ∷ xs) = nodes-head x xs
    nodes-shifted (suc k) (None ∷ xs) = nodes-shifted k xs
    nodes-shifted (suc k) (Some f ∷ xs) = ap (λ (ns : List ℕ). f.node ∷ ns) (nodes-shifted k xs)

    pub collect-shifted : (s : State) (k : ℕ) → collect (with_file_change s k g) ≡ with_file_change (collect s) k g
    unfolding collect
    collect-shifted s k =
        let files = keep-shifted 0 k (among (all_of used_files s.processes)) s.files in
        ap₂ (λ (fs : Numbered OpenFile) (ns : List ℕ). record s { tree = preserved s.tree (all_of held_by_process s.processes ++ ns); files = fs })
        files (ap nodes files ∙ nodes-shifted k (keep (among (all_of used_files s.processes)) s.files))

    -- such a change leaves processes and operations on them unchanged
    pub shift-apart : (k pid : ℕ) → IsApart (λ x. with_file_change x k g) (λ x. is_some (at_number x.files k) ≡ true) pid
    unfolding end_process
    shift-apart k pid = record {
      there = λ x. refl;
      put = λ x p. refl;
      fit_put = λ x p fit. fit;
      ended = λ x me status. refl;
      fit_ended = λ x me status fit. fit;
      collects = λ x fit. collect-shifted x k;
    }

-- a change that has no effect
pub change-nothing : (g : OpenFile → OpenFile) (k : ℕ) (xs : Numbered OpenFile) (f : OpenFile) → at_number xs k ≡ Some f → g f ≡ f → change_number k g xs ≡ xs
change-nothing g k [] f at is = refl
change-nothing g zero (x ∷ xs) f at is = ap (λ (y : Option OpenFile). y ∷ xs) (ap (option_map g) at ∙ ap Some is ∙ sym at)
change-nothing g (suc k) (x ∷ xs) f at is = ap (λ (ys : Numbered OpenFile). x ∷ ys) (change-nothing g k xs f at is)

-- replacing the open file is such a change
pub put-is_change : (g : OpenFile → OpenFile) (k : ℕ) (xs : Numbered OpenFile) (f v : OpenFile) → at_number xs k ≡ Some f → g f ≡ v → with_number xs k v ≡ change_number k g xs
put-is_change g k [] f v at is = cc at
put-is_change g zero (x ∷ xs) f v at is = ap (λ (y : Option OpenFile). y ∷ xs) (sym (ap (option_map g) at ∙ ap Some is))
put-is_change g (suc k) (x ∷ xs) f v at is = ap (λ (ys : Numbered OpenFile). x ∷ ys) (put-is_change g k xs f v at is)
