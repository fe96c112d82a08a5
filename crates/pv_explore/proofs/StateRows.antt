-- Rows distinguish states, and stay valid when more is stored.
use Rattle.std.proofs.Common.{◌≡◌, ◌∙◌, sym, ap, ap₂, subst, ℕ, zero, suc, ◌+◌, ◌-◌, ◌*◌, ◌/◌, ◌%◌, ◌<◌, ◌≤◌, Bool, true, false, ◌||◌, cond, if◌then◌else◌, not, nat_lt, bytes_eq, List, [], ◌∷◌, ◌++◌, get_or, length, map, take, flat_map, append_assoc, append-nil, None, Some, mul_assoc, refl, arith}
use Rattle.std.specs.Prelude.{position}
use Rattle.std.specs.List.{AllByRecursion, list_any, position_or_len, take-map}
use Rattle.std.specs.Cmp.{both_ways}
use Rattle.std.proofs.lemmas.Bool.Decides.{nat_tests}
use Rattle.std.proofs.lemmas.List.{length-map, map-append, take_all, take_more}
use Rattle.pv_model.specs.Machine.{Numbers, state_numbers, Bytes, State}
use Rattle.pv_step_cache.proofs.OfLawsAnswers.Lists.{each-append}
use Rattle.pv_step_cache.proofs.OfLawsAnswers.StateDecoding.{same-state_numbers}
use Rattle.pv_laws_trees.proofs.DirectoryEntries.{bytes_eq-same, bytes_eq-itself}
use Rattle.pv_step_cache.specs.OfStateEncoding.Groups.{concatenated_groups, state_groups}
use Rattle.pv_step_cache.specs.OfStateEncoding.Packed.{packed_in, packed_all, IsAdded}
use Rattle.pv_step_cache.proofs.OfStateEncoding.AppendedNumbers.{packed-append, packed-is, packed-small, packed-more}
use Rattle.pv_step_cache.proofs.OfStateEncoding.InjectiveEncoding.{packed-apart}
use Rattle.pv_step_cache.proofs.OfStateEncoding.StateGroups.{state-concatenated_groups}
use Rattle.pv_explore.specs.Rows.{unpacked_from, unpacked, number_in, IsAmong, Grew, group_row, group_bytes, state_row, state_bytes, AreVisited, IsRow}

-- ---- numbers from bytes

weighed : (w low n : ℕ) → low + w * (128 + n % 128 - 128) + w * 128 * (n / 128) ≡ low + w * n
weighed w low n =
    let whole : 128 + n % 128 - 128 + 128 * (n / 128) ≡ n = omega arith in
    let split : w * (128 + n % 128 - 128 + 128 * (n / 128)) ≡ w * (128 + n % 128 - 128) + w * (128 * (n / 128)) = grind arith in
    let across : w * 128 * (n / 128) ≡ w * (128 * (n / 128)) = mul_assoc w 128 (n / 128) in
    let sum : w * (128 + n % 128 - 128) + w * (128 * (n / 128)) ≡ w * n = sym split ∙ ap (λ k. w * k) whole in
    added low (w * (128 + n % 128 - 128)) (w * 128 * (n / 128)) (w * (128 * (n / 128))) (w * n) across sum
  where
    added : (a b c d e : ℕ) → c ≡ d → b + d ≡ e → a + b + c ≡ a + e
    added a b c d e same sum = omega arith

unpacked-one : (k n w low : ℕ) (bs : Bytes) → unpacked_from (packed_in k n ++ bs) k w low ≡ (low + w * n) ∷ unpacked_from bs 9 1 0
unpacked-one zero n w low bs = refl
unpacked-one (suc k) n w low bs = by (unpacked-one k (n / 128) (w * 128) (low + w * (128 + n % 128 - 128)) bs) (nat_lt n 128) refl
  where
    small : nat_lt n 128 ≡ true → unpacked_from (n ∷ bs) (suc k) w low ≡ (low + w * n) ∷ unpacked_from bs 9 1 0
    small is = ap (λ b. if b then (low + w * n) ∷ unpacked_from bs 9 1 0 else unpacked_from bs k (w * 128) (low + w * (n - 128))) is

    large : (unpacked_from (packed_in k (n / 128) ++ bs) k (w * 128) (low + w * (128 + n % 128 - 128)) ≡ (low + w * (128 + n % 128 - 128) + w * 128 * (n / 128)) ∷ unpacked_from bs 9 1 0) → nat_lt (128 + n % 128) 128 ≡ false → unpacked_from ((128 + n % 128) ∷ (packed_in k (n / 128) ++ bs)) (suc k) w low ≡ (low + w * n) ∷ unpacked_from bs 9 1 0
    large rest is =
        ap (λ b. if b then (low + w * (128 + n % 128)) ∷ unpacked_from (packed_in k (n / 128) ++ bs) 9 1 0 else unpacked_from (packed_in k (n / 128) ++ bs) k (w * 128) (low + w * (128 + n % 128 - 128))) is
        ∙ rest
        ∙ ap (λ m. m ∷ unpacked_from bs 9 1 0) (weighed w low n)

    by : (unpacked_from (packed_in k (n / 128) ++ bs) k (w * 128) (low + w * (128 + n % 128 - 128)) ≡ (low + w * (128 + n % 128 - 128) + w * 128 * (n / 128)) ∷ unpacked_from bs 9 1 0) → (b : Bool) → nat_lt n 128 ≡ b → unpacked_from (packed_in (suc k) n ++ bs) (suc k) w low ≡ (low + w * n) ∷ unpacked_from bs 9 1 0
    by rest true is =
        let below : n < 128 = grind (arith, nat_tests, is) in
        ap (λ (cs : Bytes). unpacked_from (cs ++ bs) (suc k) w low) (packed-small (suc k) n below) ∙ small is
    by rest false is =
        let above : 128 ≤ n = grind (arith, nat_tests, is) in
        let high : nat_lt (128 + n % 128) 128 ≡ false = grind (arith, nat_tests) in
        let less : suc k - 1 ≡ k = omega arith in
        ap (λ (cs : Bytes). unpacked_from (cs ++ bs) (suc k) w low) (packed-more (suc k) n (omega arith) above ∙ ap (λ j. (128 + n % 128) ∷ packed_in j (n / 128)) less) ∙ large rest high

pub unpacked-packed : (ns : Numbers) → unpacked (packed_all ns) ≡ ns
unfolding unpacked
unpacked-packed [] = refl
unpacked-packed (n ∷ ns) =
    let one : 0 + 1 * n ≡ n = omega arith in
    ap (λ (cs : Bytes). unpacked_from (cs ++ packed_all ns) 9 1 0) (packed-is n) ∙ unpacked-one 9 n 1 0 (packed_all ns) ∙ ap₂ (λ (m : ℕ) (ms : Numbers). m ∷ ms) one (unpacked-packed ns)

-- ---- numbers of byte strings

number-step : (b x : Bytes) (table : List Bytes) (a : Bool) → bytes_eq b x ≡ a → number_in (x ∷ table) b ≡ cond (not a) (1 + number_in table b) 0
number-step b x table a is = ap (λ c. cond (not c) (1 + number_in table b) 0) is

among-step : (b x : Bytes) (table : List Bytes) → bytes_eq b x ≡ false → IsAmong (x ∷ table) b → IsAmong table b
among-step b x table other among = record { is = ap (λ c. c || list_any (bytes_eq b) table) (sym other) ∙ among.is }

pub number-later : (old more : List Bytes) (b : Bytes) → IsAmong old b → number_in (old ++ more) b ≡ number_in old b
number-later [] more b among = let is : false ≡ true = among.is in cc
number-later (x ∷ old) more b among = by (λ rest. number-later old more b rest) (bytes_eq b x) refl
  where
    by : (IsAmong old b → number_in (old ++ more) b ≡ number_in old b) → (a : Bool) → bytes_eq b x ≡ a → number_in (x ∷ (old ++ more)) b ≡ number_in (x ∷ old) b
    by rest true is = number-step b x (old ++ more) true is ∙ sym (number-step b x old true is)
    by rest false is = number-step b x (old ++ more) false is ∙ ap (λ n. 1 + n) (rest (among-step b x old is among)) ∙ sym (number-step b x old false is)

pub among-later : (old more : List Bytes) (b : Bytes) → IsAmong old b → IsAmong (old ++ more) b
among-later [] more b among = let is : false ≡ true = among.is in cc
among-later (x ∷ old) more b among = by (λ rest. among-later old more b rest) (bytes_eq b x) refl
  where
    by : (IsAmong old b → IsAmong (old ++ more) b) → (a : Bool) → bytes_eq b x ≡ a → IsAmong (x ∷ (old ++ more)) b
    by rest true is = record { is = ap (λ c. c || list_any (bytes_eq b) (old ++ more)) is }
    by rest false is = record { is = ap (λ c. c || list_any (bytes_eq b) (old ++ more)) is ∙ (rest (among-step b x old is among)).is }

pub among-last : (old : List Bytes) (b : Bytes) → IsAmong (old ++ b ∷ []) b
among-last [] b = record { is = ap (λ c. c || false) (bytes_eq-itself b) }
among-last (x ∷ old) b = record { is = by (bytes_eq b x) (among-last old b).is }
  where
    by : (a : Bool) → list_any (bytes_eq b) (old ++ b ∷ []) ≡ true → (a || list_any (bytes_eq b) (old ++ b ∷ [])) ≡ true
    by true is = refl
    by false is = is

-- the index is that of an entry
pub number-within : (table : List Bytes) (b : Bytes) → IsAmong table b → number_in table b < length table
number-within [] b among = let is : false ≡ true = among.is in cc
number-within (x ∷ table) b among = by (number-within table b) (bytes_eq b x) refl
  where
    by : (IsAmong table b → number_in table b < length table) → (a : Bool) → bytes_eq b x ≡ a → number_in (x ∷ table) b < length (x ∷ table)
    by rest true is = let zero = number-step b x table true is in omega (arith, zero)
    by rest false is = let more = number-step b x table false is in let less = rest (among-step b x table is among) in omega (arith, more, less)

-- the index of a byte string that was appended
pub number-last : (old : List Bytes) (b : Bytes) → list_any (bytes_eq b) old ≡ false → number_in (old ++ b ∷ []) b ≡ length old
number-last [] b new = number-step b b [] true (bytes_eq-itself b)
number-last (x ∷ old) b new = by (number-last old b) (bytes_eq b x) refl new
  where
    by : (list_any (bytes_eq b) old ≡ false → number_in (old ++ b ∷ []) b ≡ length old) → (a : Bool) → bytes_eq b x ≡ a → (a || list_any (bytes_eq b) old) ≡ false
        → number_in (x ∷ (old ++ b ∷ [])) b ≡ length (x ∷ old)
    by rest true is none = cc
    by rest false is none = let later = rest none in number-step b x (old ++ b ∷ []) false is ∙ ap (λ n. 1 + n) later ∙ omega arith

pub get-number : (table : List Bytes) (b : Bytes) → IsAmong table b → get_or table (number_in table b) [] ≡ b
get-number [] b among = let is : false ≡ true = among.is in cc
get-number (x ∷ table) b among = by (λ rest. get-number table b rest) (bytes_eq b x) refl
  where
    by : (IsAmong table b → get_or table (number_in table b) [] ≡ b) → (a : Bool) → bytes_eq b x ≡ a → get_or (x ∷ table) (number_in (x ∷ table) b) [] ≡ b
    by rest true is = ap (λ n. get_or (x ∷ table) n []) (number-step b x table true is) ∙ sym (bytes_eq-same b x is)
    by rest false is =
        let more : 1 + number_in table b ≡ suc (number_in table b) = omega arith in
        ap (λ n. get_or (x ∷ table) n []) (number-step b x table false is ∙ more) ∙ rest (among-step b x table is among)

pub same-number : (table : List Bytes) (b c : Bytes) → IsAmong table c → number_in table b ≡ number_in table c → b ≡ c
same-number [] b c among same = let is : false ≡ true = among.is in cc
same-number (x ∷ table) b c among same = by (λ there equal. same-number table b c there equal) (bytes_eq b x) refl (bytes_eq c x) refl
  where
    by : (IsAmong table c → number_in table b ≡ number_in table c → b ≡ c) → (d : Bool) → bytes_eq b x ≡ d → (e : Bool) → bytes_eq c x ≡ e → b ≡ c
    by rest true first true second = bytes_eq-same b x first ∙ sym (bytes_eq-same c x second)
    by rest true first false second = let both : 0 ≡ 1 + number_in table c = sym (number-step b x table true first) ∙ same ∙ number-step c x table false second in absurd (omega arith)
    by rest false first true second = let both : 1 + number_in table b ≡ 0 = sym (number-step b x table false first) ∙ same ∙ number-step c x table true second in absurd (omega arith)
    by rest false first false second =
        let both : 1 + number_in table b ≡ 1 + number_in table c = sym (number-step b x table false first) ∙ same ∙ number-step c x table false second in
        rest (among-step c x table second among) (omega arith)

-- ---- rows of groups

numbers-later : (old more : List Bytes) (g : List Bytes) → AllByRecursion (IsAmong old) g → map (number_in (old ++ more)) g ≡ map (number_in old) g
numbers-later old more [] all = refl
numbers-later old more (b ∷ g) all = ap₂ (λ (n : ℕ) (ns : Numbers). n ∷ ns) (number-later old more b all.0) (numbers-later old more g all.1)

all-later : (old more : List Bytes) (g : List Bytes) → AllByRecursion (IsAmong old) g → AllByRecursion (IsAmong (old ++ more)) g
all-later old more [] all = tt
all-later old more (b ∷ g) all = (among-later old more b all.0, all-later old more g all.1)

pub all-grew : (old new : List Bytes) (g : List Bytes) → Grew old new → AllByRecursion (IsAmong old) g → AllByRecursion (IsAmong new) g
all-grew old new g grew all = subst (λ (table : List Bytes). AllByRecursion (IsAmong table) g) (sym grew.is) (all-later old grew.more g all)

gets-all : (parts g : List Bytes) → AllByRecursion (IsAmong parts) g → flat_map (λ n. get_or parts n []) (map (number_in parts) g) ≡ flat_map (λ p. p) g
gets-all parts [] all = refl
gets-all parts (b ∷ g) all = ap₂ (λ (x y : Bytes). x ++ y) (get-number parts b all.0) (gets-all parts g all.1)

group-back : (parts g : List Bytes) → AllByRecursion (IsAmong parts) g → group_bytes parts (group_row parts g) ≡ flat_map (λ p. p) g
group-back parts g all = ap (flat_map (λ n. get_or parts n [])) (unpacked-packed (map (number_in parts) g)) ∙ gets-all parts g all

tail-is : {X : Type 0} (x y : X) (xs ys : List X) → x ∷ xs ≡ y ∷ ys → (x ≡ y) × (xs ≡ ys)
tail-is x y xs ys is = (let same : x ≡ y = cc in same, let same : xs ≡ ys = cc in same)

same-numbers : (parts g h : List Bytes) → AllByRecursion (IsAmong parts) h → map (number_in parts) g ≡ map (number_in parts) h → g ≡ h
same-numbers parts [] [] all same = refl
same-numbers parts [] (c ∷ h) all same = cc
same-numbers parts (b ∷ g) [] all same = cc
same-numbers parts (b ∷ g) (c ∷ h) all same =
    let both = tail-is (number_in parts b) (number_in parts c) (map (number_in parts) g) (map (number_in parts) h) same in
    ap₂ (λ (x : Bytes) (y : List Bytes). x ∷ y) (same-number parts b c all.0 both.0) (same-numbers parts g h all.1 both.1)

-- ---- rows of states

module _ (parts groups : List Bytes) where
  abbrev number_of : List Bytes → ℕ
  number_of g = number_in groups (group_row parts g)

  pub state-back : (gs : List (List Bytes)) → AreVisited parts groups gs → state_bytes parts groups (state_row parts groups gs) ≡ concatenated_groups gs
  state-back gs visited = ap (flat_map (λ n. group_bytes parts (get_or groups n []))) (unpacked-packed (map number_of gs)) ∙ each gs visited
    where
      each : (gs : List (List Bytes)) → AreVisited parts groups gs → flat_map (λ n. group_bytes parts (get_or groups n [])) (map number_of gs) ≡ concatenated_groups gs
      each [] visited = refl
      each (g ∷ gs) visited = ap₂ (λ (x y : Bytes). x ++ y) (ap (group_bytes parts) (get-number groups (group_row parts g) visited.0.1) ∙ group-back parts g visited.0.0) (each gs visited.1)

  pub same-rows : (gs hs : List (List Bytes)) → AreVisited parts groups hs → state_row parts groups gs ≡ state_row parts groups hs → gs ≡ hs
  same-rows gs hs visited same = each gs hs visited (packed-apart (map number_of gs) (map number_of hs) same)
    where
      each : (gs hs : List (List Bytes)) → AreVisited parts groups hs → map number_of gs ≡ map number_of hs → gs ≡ hs
      each [] [] visited same = refl
      each [] (h ∷ hs) visited same = cc
      each (g ∷ gs) [] visited same = cc
      each (g ∷ gs) (h ∷ hs) visited same =
          let both = tail-is (number_of g) (number_of h) (map number_of gs) (map number_of hs) same in
          let row = same-number groups (group_row parts g) (group_row parts h) visited.0.1 both.0 in
          ap₂ (λ (x : List Bytes) (y : List (List Bytes)). x ∷ y) (same-numbers parts g h visited.0.0 (packed-apart (map (number_in parts) g) (map (number_in parts) h) row)) (each gs hs visited.1 both.1)

  -- a stored row is that of a state if and only if the encodings are equal
  row-test : (row : Bytes) → IsRow parts groups row → (s : State) → bytes_eq (state_row parts groups (state_groups s)) row ≡ bytes_eq (concatenated_groups (state_groups s)) (state_bytes parts groups row)
  row-test row is s =
      let t = is.state in
      let bytes : state_bytes parts groups row ≡ concatenated_groups (state_groups t) = ap (state_bytes parts groups) is.is ∙ state-back (state_groups t) is.visited in
      both_ways (bytes_eq (state_row parts groups (state_groups s)) row) (bytes_eq (concatenated_groups (state_groups s)) (state_bytes parts groups row))
      (λ same.
      let rows : state_row parts groups (state_groups s) ≡ state_row parts groups (state_groups t) = bytes_eq-same (state_row parts groups (state_groups s)) row same ∙ is.is in
      let groups_are = same-rows (state_groups s) (state_groups t) is.visited rows in
      subst (λ (b : Bytes). bytes_eq (concatenated_groups (state_groups s)) b ≡ true) (ap concatenated_groups groups_are ∙ sym bytes) (bytes_eq-itself (concatenated_groups (state_groups s))))
      (λ same.
      let numbers : packed_all (state_numbers s) ≡ packed_all (state_numbers t) = sym (state-concatenated_groups s) ∙ bytes_eq-same (concatenated_groups (state_groups s)) (state_bytes parts groups row) same ∙ bytes ∙ state-concatenated_groups t in
      let states : s ≡ t = same-state_numbers s t (packed-apart (state_numbers s) (state_numbers t) numbers) in
      subst (λ (b : Bytes). bytes_eq (state_row parts groups (state_groups s)) b ≡ true) (ap (λ (u : State). state_row parts groups (state_groups u)) states ∙ sym is.is) (bytes_eq-itself (state_row parts groups (state_groups s))))

  -- the same for the list of rows
  module _ (s : State) where
    abbrev row_of : Bytes
    row_of = state_row parts groups (state_groups s)

    abbrev bytes_of : Bytes
    bytes_of = concatenated_groups (state_groups s)

    pub any-row : (rows : List Bytes) → AllByRecursion (IsRow parts groups) rows → list_any (bytes_eq row_of) rows ≡ list_any (bytes_eq bytes_of) (map (state_bytes parts groups) rows)
    any-row [] all = refl
    any-row (r ∷ rows) all = ap₂ (λ a b. a || b) (row-test r all.0 s) (any-row rows all.1)

    first-row : (rows : List Bytes) → AllByRecursion (IsRow parts groups) rows → position_or_len (bytes_eq row_of) rows ≡ position_or_len (bytes_eq bytes_of) (map (state_bytes parts groups) rows)
    first-row [] all = refl
    first-row (r ∷ rows) all = ap₂ (λ a n. cond (not a) (1 + n) 0) (row-test r all.0 s) (first-row rows all.1)

    pub position-row : (rows : List Bytes) → AllByRecursion (IsRow parts groups) rows → position (bytes_eq row_of) rows ≡ position (bytes_eq bytes_of) (map (state_bytes parts groups) rows)
    position-row rows all = ap₂ (λ n m. cond (nat_lt n m) (Some n) None) (first-row rows all) (sym (length-map rows (state_bytes parts groups)))

-- ---- when more is stored

module _ (parts groups parts_now groups_now : List Bytes) (parts_grew : Grew parts parts_now) (groups_grew : Grew groups groups_now) where
  row-grew : (g : List Bytes) → AllByRecursion (IsAmong parts) g → group_row parts_now g ≡ group_row parts g
  row-grew g all = ap (λ (table : List Bytes). group_row table g) parts_grew.is ∙ ap packed_all (numbers-later parts parts_grew.more g all)

  pub visited-grew : (gs : List (List Bytes)) → AreVisited parts groups gs → AreVisited parts_now groups_now gs
  visited-grew [] visited = tt
  visited-grew (g ∷ gs) visited =
      let among : IsAmong groups_now (group_row parts g) = subst (λ (table : List Bytes). IsAmong table (group_row parts g)) (sym groups_grew.is) (among-later groups groups_grew.more (group_row parts g) visited.0.1) in
      ((all-grew parts parts_now g parts_grew visited.0.0, subst (IsAmong groups_now) (sym (row-grew g visited.0.0)) among), visited-grew gs visited.1)

  pub numbers-grew : (gs : List (List Bytes)) → AreVisited parts groups gs → map (λ g. number_in groups_now (group_row parts_now g)) gs ≡ map (λ g. number_in groups (group_row parts g)) gs
  numbers-grew [] visited = refl
  numbers-grew (g ∷ gs) visited =
      ap₂ (λ (n : ℕ) (ns : Numbers). n ∷ ns)
      (ap (number_in groups_now) (row-grew g visited.0.0) ∙ ap (λ (table : List Bytes). number_in table (group_row parts g)) groups_grew.is ∙ number-later groups groups_grew.more (group_row parts g) visited.0.1)
      (numbers-grew gs visited.1)

  is-row-grew : (row : Bytes) → IsRow parts groups row → IsRow parts_now groups_now row
  is-row-grew row is = record {
    state = is.state;
    is = is.is ∙ ap packed_all (sym (numbers-grew (state_groups is.state) is.visited));
    visited = visited-grew (state_groups is.state) is.visited;
  }

  pub rows-grew : (rows : List Bytes) → AllByRecursion (IsRow parts groups) rows → AllByRecursion (IsRow parts_now groups_now) rows
  rows-grew [] all = tt
  rows-grew (r ∷ rows) all = (is-row-grew r all.0, rows-grew rows all.1)

  bytes-grew : (row : Bytes) → IsRow parts groups row → state_bytes parts_now groups_now row ≡ state_bytes parts groups row
  unfolding is-row-grew
  bytes-grew row is =
      let later = is-row-grew row is in
      ap (state_bytes parts_now groups_now) later.is ∙ state-back parts_now groups_now (state_groups is.state) later.visited
      ∙ sym (ap (state_bytes parts groups) is.is ∙ state-back parts groups (state_groups is.state) is.visited)

  pub states-grew : (rows : List Bytes) → AllByRecursion (IsRow parts groups) rows → map (state_bytes parts_now groups_now) rows ≡ map (state_bytes parts groups) rows
  states-grew [] all = refl
  states-grew (r ∷ rows) all = ap₂ (λ (x : Bytes) (y : List Bytes). x ∷ y) (bytes-grew r all.0) (states-grew rows all.1)

pub grew-none : (table : List Bytes) → Grew table table
grew-none table = record { more = []; is = sym (append-nil table) }

pub grew-then : (a b c : List Bytes) → Grew a b → Grew b c → Grew a c
grew-then a b c first second = record {
  more = first.more ++ second.more;
  is = second.is ∙ ap (λ (table : List Bytes). table ++ second.more) first.is ∙ append_assoc a first.more second.more;
}

-- a byte string was added
pub learnt-grew : (old new : List Bytes) (b : Bytes) → new ≡ (if list_any (bytes_eq b) old then old else old ++ b ∷ []) → Grew old new
learnt-grew old new b is = by (list_any (bytes_eq b) old) is
  where
    by : (a : Bool) → new ≡ (if a then old else old ++ b ∷ []) → Grew old new
    by true is = record { more = []; is = is ∙ sym (append-nil old) }
    by false is = record { more = b ∷ []; is = is }

pub learnt-among : (old new : List Bytes) (b : Bytes) → new ≡ (if list_any (bytes_eq b) old then old else old ++ b ∷ []) → IsAmong new b
learnt-among old new b is = by (list_any (bytes_eq b) old) refl is
  where
    by : (a : Bool) → list_any (bytes_eq b) old ≡ a → new ≡ (if a then old else old ++ b ∷ []) → IsAmong new b
    by true there is = subst (λ (table : List Bytes). IsAmong table b) (sym is) (record { is = there })
    by false there is = subst (λ (table : List Bytes). IsAmong table b) (sym is) (among-last old b)

-- ---- in a loop

module _ {X Y : Type 0} (h : X → Y) (xs : List X) (i : ℕ) (d : X) where
  pub taken-more : i < length xs → take (i + 1) (map h xs) ≡ take i (map h xs) ++ h (get_or xs i d) ∷ []
  taken-more within =
      take-map h (i + 1) xs ∙ ap (map h) (take_more xs i d within) ∙ map-append h (take i xs) (get_or xs i d ∷ []) ∙ ap (λ ys. ys ++ h (get_or xs i d) ∷ []) (sym (take-map h i xs))

  taken-all : length xs ≤ i → take i (map h xs) ≡ map h xs
  taken-all past = take_all i (map h xs) (omega (arith, length-map xs h))

  pub row-next : (f : Y → ℕ) (n : ℕ) (old new : Bytes) → i < length xs → n ≡ f (h (get_or xs i d)) → old ≡ packed_all (map f (take i (map h xs))) → IsAdded (n ∷ []) old new → new ≡ packed_all (map f (take (i + 1) (map h xs)))
  row-next f n old new within is so_far added =
      added.is ∙ ap₂ (λ (bs : Bytes) (m : ℕ). bs ++ packed_all (m ∷ [])) so_far is
      ∙ sym (packed-append (map f (take i (map h xs))) (f (h (get_or xs i d)) ∷ []))
      ∙ ap packed_all (sym (ap (map f) (taken-more within) ∙ map-append f (take i (map h xs)) (h (get_or xs i d) ∷ [])))

  pub row-end : (f : Y → ℕ) (row : Bytes) → length xs ≤ i → row ≡ packed_all (map f (take i (map h xs))) → row ≡ packed_all (map f (map h xs))
  row-end f row past is = is ∙ ap (λ (ys : List Y). packed_all (map f ys)) (taken-all past)

  pub all-next : (P : Y → Type 0) → i < length xs → AllByRecursion P (take i (map h xs)) → P (h (get_or xs i d)) → AllByRecursion P (take (i + 1) (map h xs))
  all-next P within all one = subst (AllByRecursion P) (sym (taken-more within)) (each-append P (take i (map h xs)) (h (get_or xs i d) ∷ []) all (one, tt))

  pub all-end : (P : Y → Type 0) → length xs ≤ i → AllByRecursion P (take i (map h xs)) → AllByRecursion P (map h xs)
  all-end P past all = subst (AllByRecursion P) (taken-all past) all

-- the numbers of stored byte strings stay in a grown table
pub numbers-now : (old new g : List Bytes) → Grew old new → AllByRecursion (IsAmong old) g → map (number_in new) g ≡ map (number_in old) g
numbers-now old new g grew all = ap (λ (table : List Bytes). map (number_in table) g) grew.is ∙ numbers-later old grew.more g all

pub row-learnt : {X : Type 0} (h : X → Bytes) (xs : List X) (i : ℕ) (d : X) (old new : List Bytes) (n : ℕ) (row row_now : Bytes) → Grew old new → i < length xs → AllByRecursion (IsAmong old) (take i (map h xs))
    → n ≡ number_in new (h (get_or xs i d)) → row ≡ packed_all (map (number_in old) (take i (map h xs))) → IsAdded (n ∷ []) row row_now → row_now ≡ packed_all (map (number_in new) (take (i + 1) (map h xs)))
row-learnt h xs i d old new n row row_now grew within all is so_far added =
    row-next h xs i d (number_in new) n row row_now within is (so_far ∙ ap packed_all (sym (numbers-now old new (take i (map h xs)) grew all))) added

-- ---- one more state

pub all-more : {X : Type 0} (P : X → Type 0) (xs new : List X) (x : X) → new ≡ xs ++ x ∷ [] → AllByRecursion P xs → P x → AllByRecursion P new
all-more P xs new x is all one = subst (AllByRecursion P) (sym is) (each-append P xs (x ∷ []) all (one, tt))

-- the rows after a state is added whose groups are all stored
module _ (parts groups rows : List Bytes) (all : AllByRecursion (IsRow parts groups) rows) (gs : List (List Bytes)) (s : State) (gs_is : gs ≡ state_groups s) (visited : AreVisited parts groups gs) where
  row-is : IsRow parts groups (state_row parts groups gs)
  row-is = record { state = s; is = ap (state_row parts groups) gs_is; visited = subst (AreVisited parts groups) gs_is visited }

  pub new-rows : (new : List Bytes) → list_any (bytes_eq (concatenated_groups gs)) (map (state_bytes parts groups) rows) ≡ false → new ≡ (if list_any (bytes_eq (state_row parts groups gs)) rows then rows else rows ++ state_row parts groups gs ∷ [])
      → new ≡ rows ++ state_row parts groups gs ∷ []
  new-rows new other is =
      let known : list_any (bytes_eq (state_row parts groups gs)) rows ≡ list_any (bytes_eq (concatenated_groups gs)) (map (state_bytes parts groups) rows) =
      subst (λ (hs : List (List Bytes)). list_any (bytes_eq (state_row parts groups hs)) rows ≡ list_any (bytes_eq (concatenated_groups hs)) (map (state_bytes parts groups) rows)) (sym gs_is) (any-row parts groups s rows all) in
      is ∙ ap (λ b. if b then rows else rows ++ state_row parts groups gs ∷ []) (known ∙ other)

  pub rows-added : (new : List Bytes) → new ≡ rows ++ state_row parts groups gs ∷ [] → AllByRecursion (IsRow parts groups) new
  rows-added new is = all-more (IsRow parts groups) rows new (state_row parts groups gs) is all row-is

  pub states-added : (new : List Bytes) → new ≡ rows ++ state_row parts groups gs ∷ [] → map (state_bytes parts groups) new ≡ map (state_bytes parts groups) rows ++ concatenated_groups gs ∷ []
  states-added new is =
      ap (map (state_bytes parts groups)) is ∙ map-append (state_bytes parts groups) rows (state_row parts groups gs ∷ [])
      ∙ ap (λ b. map (state_bytes parts groups) rows ++ b ∷ []) (state-back parts groups gs visited)
