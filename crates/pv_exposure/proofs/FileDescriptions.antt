-- The files of a state with their descriptions, one at a time.
use Rattle.std.proofs.Common.{◌≡◌, ◌∙◌, sym, ap, ℕ, zero, suc, ◌+◌, ◌<◌, ◌≤◌, Bool, true, false, cond, ◌&&◌, not, ◌||◌, bytes_eq, List, [], ◌∷◌, ◌++◌, length, get_or, map, filter, Option, None, Some, is_some, is_none, ⊎_elim, if◌then◌else◌, refl, arith}
use Rattle.std.specs.List.{list_all, list_any, range_with_len}
use Rattle.std.proofs.lemmas.Bool.{and_parts, cases_lt}
use Rattle.std.proofs.lemmas.List.Folds.{list_all-append}
use Rattle.pv_model.specs.declared.verdict.Why.{Why}
use Rattle.pv_model.specs.Answers.Files.{unnamed_files}
use Rattle.pv_model.specs.Answers.Numbers.{number_numbers}
use Rattle.pv_model.specs.Machine.{Bytes, files_of_tree, is_empty, is_file_at, is_file, named_files, elements_with_new_keys, Node, Numbered, at_number, Numbers, Process, State, Tree, live_processes, leaks, names_of}
use Rattle.pv_model.specs.Sealed.{first_leak, leak_or}
use Rattle.pv_model_questions.specs.AboutFiles.{keeps_node}
use Rattle.pv_model_questions.specs.Exposure.{are_all_closed, first_leak_of}
use Rattle.pv_model_questions.specs.ExposureAbout.{kept_files_of}
use Rattle.pv_exposure.specs.StateFiles.{IsFileOf, described, described_file, first_leak_at, is_safe_at}
use Rattle.pv_exposure.specs.declared.files.StateFile.{StateFile}

-- ---- the files of a tree are files

filter-all : {X : Type 0} (p q : X → Bool) → ((x : X) → q x ≡ true → p x ≡ true) → (xs : List X) → list_all p (filter q xs) ≡ true
filter-all p q so [] = refl
filter-all {X} p q so (x ∷ xs) = by (q x) refl (filter-all p q so xs)
  where
    by : (b : Bool) → q x ≡ b → list_all p (filter q xs) ≡ true → list_all p (cond b (x ∷ filter q xs) (filter q xs)) ≡ true
    by true is rest = ap (λ b. b && list_all p (filter q xs)) (so x is) ∙ rest
    by false is rest = rest

new-all : (p : ℕ → Bool) (had : List Numbers) (xs : List ℕ) → list_all p xs ≡ true → list_all p (elements_with_new_keys number_numbers had xs) ≡ true
new-all p had [] all = refl
new-all p had (x ∷ xs) all =
    let parts = and_parts (p x) (list_all p xs) all in
    by (list_any (bytes_eq (number_numbers x)) had) parts.0 (new-all p had xs parts.1) (new-all p (number_numbers x ∷ had) xs parts.1)
  where
    by : (b : Bool) → p x ≡ true → list_all p (elements_with_new_keys number_numbers had xs) ≡ true → list_all p (elements_with_new_keys number_numbers (number_numbers x ∷ had) xs) ≡ true
        → list_all p (cond b (elements_with_new_keys number_numbers had xs) (x ∷ elements_with_new_keys number_numbers (number_numbers x ∷ had) xs)) ≡ true
    by true here was now = was
    by false here was now = ap (λ b. b && list_all p (elements_with_new_keys number_numbers (number_numbers x ∷ had) xs)) here ∙ now

are-files : (t : Tree) → list_all (is_file_at t) (files_of_tree t) ≡ true
are-files t =
    list_all-append (is_file_at t) (named_files t) (unnamed_files t)
    ∙ ap (λ b. b && list_all (is_file_at t) (unnamed_files t)) (new-all (is_file_at t) [] _ (filter-all (is_file_at t) (is_file_at t) (λ n is. is) _))
    ∙ filter-all (is_file_at t) (λ n. is_file_at t n && is_empty (names_of t n)) (λ n is. (and_parts (is_file_at t n) (is_empty (names_of t n)) is).0) _

-- so are those that are kept
all-filtered : (p q : ℕ → Bool) (xs : List ℕ) → list_all p xs ≡ true → list_all p (filter q xs) ≡ true
all-filtered p q [] all = refl
all-filtered p q (x ∷ xs) all =
    let parts = and_parts (p x) (list_all p xs) all in
    by (q x) parts.0 (all-filtered p q xs parts.1)
  where
    by : (b : Bool) → p x ≡ true → list_all p (filter q xs) ≡ true → list_all p (cond b (x ∷ filter q xs) (filter q xs)) ≡ true
    by true here rest = ap (λ b. b && list_all p (filter q xs)) here ∙ rest
    by false here rest = rest

pub are-kept : (given : List Bytes) (first t : Tree) → list_all (is_file_at t) (kept_files_of given first t) ≡ true
are-kept given first t = all-filtered (is_file_at t) (keeps_node given first t) (files_of_tree t) (are-files t)

-- ---- a file of the list

pub file-at : (first : Tree) (s : State) (files : List StateFile) (fs : List ℕ) (i : ℕ) (d : StateFile)
    → map described files ≡ map (described_file first s.tree) fs → list_all (is_file_at s.tree) fs ≡ true → i < length files → IsFileOf first s (get_or files i d)
file-at first s [] fs i d same all within = absurd (omega arith)
file-at first s (x ∷ xs) [] i d same all within = cc same
file-at first s (x ∷ xs) (f ∷ fs) zero d same all within =
    let one : described x ≡ described_file first s.tree f = cc same in
    let node : x.node ≡ f = ap (λ e. e.0) one in
    record {
      is = ap (is_file_at s.tree) node ∙ (and_parts (is_file_at s.tree f) (list_all (is_file_at s.tree) fs) all).0;
      text = ap (λ e. e.1) one ∙ ap (λ n. (described_file first s.tree n).1) (sym node);
    }
file-at first s (x ∷ xs) (f ∷ fs) (suc i) d same all within =
    let rest : map described xs ≡ map (described_file first s.tree) fs = cc same in
    file-at first s xs fs i d rest (and_parts (is_file_at s.tree f) (list_all (is_file_at s.tree) fs) all).1 (omega arith)

-- the numbers of the files
abbrev pub node_in : StateFile → ℕ
node_in file = file.node

pub nodes-are : (first t : Tree) (files : List StateFile) (fs : List ℕ) → map described files ≡ map (described_file first t) fs → map node_in files ≡ fs
nodes-are first t [] [] same = refl
nodes-are first t [] (f ∷ fs) same = cc same
nodes-are first t (x ∷ xs) [] same = cc same
nodes-are first t (x ∷ xs) (f ∷ fs) same =
    let one : described x ≡ described_file first t f = cc same in
    let rest : map described xs ≡ map (described_file first t) fs = cc same in
    λ i. ap (λ e. e.0) one i ∷ nodes-are first t xs fs rest i

-- ---- safe files

closed-none : (s : State) (f : ℕ) (ps : List (ℕ × Process)) → is_none (first_leak s f ps) ≡ list_all (λ p. is_empty (leaks s p.1 f)) ps
closed-none s f [] = refl
closed-none s f ((pid, p) ∷ ps) = by (leaks s p f) (closed-none s f ps)
  where
    by : (whys : List Why) → is_none (first_leak s f ps) ≡ list_all (λ p. is_empty (leaks s p.1 f)) ps
        → is_none (leak_or pid whys (first_leak s f ps)) ≡ (is_empty whys && list_all (λ p. is_empty (leaks s p.1 f)) ps)
    by [] rest = rest
    by (why ∷ whys) rest = refl

pub safe-none : (f : ℕ) (s : State) → is_none (first_leak_at s f) ≡ is_safe_at f s
safe-none f s = by (is_file_at s.tree f)
  where
    by : (b : Bool) → is_none (cond b (first_leak_of s f) None) ≡ (not b || are_all_closed s f)
    by true = closed-none s f (live_processes s.processes)
    by false = refl

-- ---- the first leak of a node

at-range : {X : Type 0} (g : ℕ → Option X) (k n f : ℕ) → f < n → get_or (map g (range_with_len k n)) f None ≡ g (k + f)
at-range g k zero f within = absurd (omega arith)
at-range g k (suc n) zero within = let same : k ≡ k + 0 = omega arith in ap g same
at-range g k (suc n) (suc f) within = let same : k + 1 + f ≡ k + suc f = omega arith in at-range g (k + 1) n f (omega arith) ∙ ap g same

past-range : {X : Type 0} (g : ℕ → Option X) (k n f : ℕ) → n ≤ f → get_or (map g (range_with_len k n)) f None ≡ None
past-range g k zero f past = refl
past-range g k (suc n) zero past = absurd (omega arith)
past-range g k (suc n) (suc f) past = past-range g (k + 1) n f (omega arith)

past-number : {X : Type 0} (xs : Numbered X) (k : ℕ) → length xs ≤ k → at_number xs k ≡ None
past-number [] k past = refl
past-number (x ∷ xs) zero past = absurd (omega arith)
past-number (x ∷ xs) (suc k) past = past-number xs k (omega arith)

pub leak-at : (s : State) (f : ℕ) (leaks : List (Option (ℕ × Why))) → leaks ≡ map (first_leak_at s) (range_with_len 0 (length s.tree.nodes)) → get_or leaks f None ≡ first_leak_at s f
leak-at s f leaks is =
    ap (λ (os : List (Option (ℕ × Why))). get_or os f None) is
    ∙ ⊎_elim
    (λ low. let same : 0 + f ≡ f = omega arith in at-range (first_leak_at s) 0 (length s.tree.nodes) f low ∙ ap (first_leak_at s) same)
    (λ high.
    past-range (first_leak_at s) 0 (length s.tree.nodes) f high
    ∙ sym (ap (λ (o : Option Node). let r : Option (ℕ × Why) = if is_file o then first_leak_of s f else None in r) (past-number s.tree.nodes f high)))
    (cases_lt f (length s.tree.nodes))
