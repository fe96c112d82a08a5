-- Plain paths in the list of a command's files.
use Rattle.std.proofs.Common.{◌≡◌, ◌∙◌, ap, sym, ℕ, zero, suc, List, [], ◌∷◌, Bool, true, false, bytes_eq, Option, None, Some, option_map, get_or, refl}
use Rattle.std.proofs.lemmas.Slice.Eq.{bytes_eq-Decides}
use Rattle.std.specs.Prelude.{◌&&◌, ◌||◌, not, IsTrue}
use Rattle.std.specs.Borrow.{Bor}
use Rattle.std.specs.List.{list_all, list_any}
use Rattle.pv_model.specs.Bytes.{Bytes}
use Rattle.pv_cli_line.specs.Line.{AreFaultyPaths, is_faulty, present_paths}
use Rattle.pv_cli_line.specs.Paths.{is_plain_path}

or_true : (b : Bool) → (b || true) ≡ true
or_true true = refl
or_true false = refl

and_false : (b : Bool) → (b && false) ≡ false
and_false true = refl
and_false false = refl

from_not : (b : Bool) → not b ≡ true → b ≡ false
from_not true is = cc is
from_not false is = refl

-- a path of the list is among the paths that there are
is_among : (paths : List (Option (Bor Bytes))) (i : ℕ) (path : Bor Bytes) → get_or paths i None ≡ Some path → list_any (bytes_eq path.now) (present_paths paths) ≡ true
is_among [] zero path is = cc is
is_among [] (suc i) path is = cc is
is_among (None ∷ paths) zero path is = cc is
is_among (Some first ∷ paths) zero path is =
    let same : path.now ≡ first.now = cc is in
    ap (λ b. b || list_any (bytes_eq path.now) (present_paths paths)) ((bytes_eq-Decides path.now first.now).1 same)
is_among (None ∷ paths) (suc i) path is = is_among paths i path is
is_among (Some first ∷ paths) (suc i) path is = ap (λ b. bytes_eq path.now first.now || b) (is_among paths i path is) ∙ or_true (bytes_eq path.now first.now)

-- a path that is not plain was found
pub faulty_found : (paths : List (Option (Bor Bytes))) (i : ℕ) (path : Option (Bor Bytes)) → get_or paths i None ≡ path → is_faulty path ≡ true
    → AreFaultyPaths (present_paths paths) (option_map (λ p. p.now) path)
faulty_found paths i None at faulty = cc faulty
faulty_found paths i (Some path) at faulty = (is_among paths i path at, from_not (is_plain_path path.now) faulty)

-- if the first path is plain and so are the others, all are plain
plain_first : (plain some all : Bool) → (not plain || some) ≡ false → (some ≡ false → all ≡ true) → (plain && all) ≡ true
plain_first true some all none rest = rest none
plain_first false some all none rest = cc none

pub none_faulty : (paths : List (Option (Bor Bytes))) → list_any is_faulty paths ≡ false → AreFaultyPaths (present_paths paths) None
none_faulty [] none = refl
none_faulty (None ∷ paths) none = none_faulty paths none
none_faulty (Some path ∷ paths) none =
    plain_first (is_plain_path path.now) (list_any is_faulty paths) (list_all is_plain_path (present_paths paths)) none (none_faulty paths)

-- a list with a path that is not plain
pub not_all_plain : (path : Bytes) (paths : List Bytes) → IsTrue (list_any (bytes_eq path) paths) → is_plain_path path ≡ false → list_all is_plain_path paths ≡ false
not_all_plain path [] among faulty = cc among
not_all_plain path (first ∷ paths) among faulty = by (bytes_eq path first) refl among (λ rest. not_all_plain path paths rest faulty)
  where
    by : (b : Bool) → bytes_eq path first ≡ b → IsTrue (b || list_any (bytes_eq path) paths)
        → (IsTrue (list_any (bytes_eq path) paths) → list_all is_plain_path paths ≡ false) → (is_plain_path first && list_all is_plain_path paths) ≡ false
    by true same among rest = ap (λ b. b && list_all is_plain_path paths) (ap is_plain_path (sym ((bytes_eq-Decides path first).0 same)) ∙ faulty)
    by false other among rest = ap (λ b. is_plain_path first && b) (rest among) ∙ and_false (is_plain_path first)
