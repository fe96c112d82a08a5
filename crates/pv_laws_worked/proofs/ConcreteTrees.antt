-- Facts about concrete trees and images, proved element by element.
use Rattle.std.proofs.Common.{◌≡◌, ℕ, zero, suc, ◌<◌, true, false, cond, List, [], ◌∷◌, Option, None, Some, ap, subst, refl, arith}
use Rattle.std.specs.Prelude.{⊤, IsTrue}
use Rattle.std.specs.Cmp.Lexicographic.{slice_cmp}
use Rattle.std.specs.FinMap.Entries.{find}
use Rattle.std.specs.Ordering.{nat_cmp, eq_by_cmp}
use Rattle.pv_model.specs.Machine.{Bytes, Numbered, at_number, Entries, Tree, node_at, entries_of, is_directory, is_directory_at, find_entry}

-- P holds for the numbers below k
abbrev pub Below : (ℕ → Type 0) → ℕ → Type 0
Below P zero = ⊤
Below P (suc k) = P 0 × Below (λ n. P (suc n)) k

pub below : (P : ℕ → Type 0) (k : ℕ) → Below P k → (n : ℕ) → n < k → P n
below P zero each n less = absurd (omega arith)
below P (suc k) each zero less = each.0
below P (suc k) each (suc n) less = below (λ m. P (suc m)) k each.1 n (omega arith)

pub some_is_none : {X : Type 0} (x : X) → Some x ≡ None → ⊥
some_is_none x is = cc

pub cons_is_nil : {X : Type 0} (x : X) (xs : List X) → x ∷ xs ≡ [] → ⊥
cons_is_nil x xs is = cc

abbrev some_or : {X : Type 0} → X → Option X → X
some_or x None = x
some_or x (Some y) = y

-- P holds for each value of the map
abbrev pub Each : {X : Type 0} → (ℕ → X → Type 0) → Numbered X → Type 0
Each P [] = ⊤
Each P (None ∷ xs) = Each (λ n. P (suc n)) xs
Each P (Some x ∷ xs) = P 0 x × Each (λ n. P (suc n)) xs

pub each : {X : Type 0} (P : ℕ → X → Type 0) (xs : Numbered X) → Each P xs → (n : ℕ) (x : X) → at_number xs n ≡ Some x → P n x
each P [] all n x is = absurd cc
each P (None ∷ xs) all zero x is = absurd cc
each P (None ∷ xs) all (suc n) x is = each (λ m. P (suc m)) xs all n x is
each P (Some y ∷ xs) all zero x is = subst (P 0) (ap (some_or y) is) all.0
each P (Some y ∷ xs) all (suc n) x is = each (λ m. P (suc m)) xs all.1 n x is

-- a fact about each directory
pub each_directory : (t : Tree) (P : ℕ → Type 0) → Each (λ n node. IsTrue (is_directory (Some node)) → P n) t.nodes → (n : ℕ) → IsTrue (is_directory_at t n) → P n
each_directory t P all n is =
    elim (node_at t n) as (λ o. node_at t n ≡ o → IsTrue (is_directory o) → P n) [
      | None ↦ λ at h. absurd cc
      | Some node ↦ λ at h. each (λ m preserved. IsTrue (is_directory (Some preserved)) → P m) t.nodes all n node at h
    ] refl is

-- P holds for each node number of the entries
abbrev pub Named : (ℕ → Type 0) → Entries → Type 0
Named P [] = ⊤
Named P (e ∷ es) = P e.1 × Named P es

named : (P : ℕ → Type 0) (name : Bytes) (es : Entries) → Named P es → (n : ℕ) → find (slice_cmp nat_cmp) name es ≡ Some n → P n
named P name [] all n is = absurd cc
named P name (e ∷ es) all n is =
    elim (eq_by_cmp (slice_cmp nat_cmp) name e.0) as (λ b. cond b (Some e.1) (find (slice_cmp nat_cmp) name es) ≡ Some n → P n) [
      | true ↦ λ h. subst P (ap (some_or 0) h) all.0
      | false ↦ λ h. named P name es all.1 n h
    ] is

-- a fact about each directory and each node that it names
pub each_entry : (t : Tree) (Q : ℕ → ℕ → Type 0) → Each (λ d node. Named (Q d) (entries_of (Some node))) t.nodes
    → (d : ℕ) (name : Bytes) (n : ℕ) → find_entry t d name ≡ Some n → Q d n
each_entry t Q all d name n is =
    elim (node_at t d) as (λ o. node_at t d ≡ o → find (slice_cmp nat_cmp) name (entries_of o) ≡ Some n → Q d n) [
      | None ↦ λ at h. absurd cc
      | Some node ↦ λ at h. named (Q d) name (entries_of (Some node)) (each (λ e preserved. Named (Q e) (entries_of (Some preserved))) t.nodes all d node at) n h
    ] refl is
