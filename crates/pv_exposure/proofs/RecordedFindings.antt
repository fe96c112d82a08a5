-- The lines of findings of which only the first of each line and file text is stored.
use Rattle.std.proofs.Common.{◌≡◌, ◌∙◌, sym, ap, ap₂, ℕ, ◌/◌, ◌%◌, Bool, true, false, cond, ◌||◌, if◌then◌else◌, ◌==◌, bytes_eq, List, [], ◌∷◌, ◌++◌, map, flat_map, filter, fold, append_assoc, codes, Option, None, Some, refl, arith}
use Rattle.std.specs.Prelude.{max, option_map}
use Rattle.std.specs.List.{join_by, list_any, range_with_len}
use Rattle.std.proofs.lemmas.Bool.{eq-eqb}
use Rattle.std.proofs.lemmas.Bool.Decides.{nat_tests}
use Rattle.std.proofs.lemmas.List.{map-append}
use Rattle.std.proofs.lemmas.List.Elements.{filter-append, filter_agree}
use Rattle.std.proofs.lemmas.List.Folds.{flat_map-map, list_any-append}
use Rattle.std.proofs.lemmas.List.Sums.{fold-append}
use Rattle.std.proofs.lemmas.Simd.{map-map}
use Rattle.pv_model.specs.Machine.{elements_with_new_keys, Located, in_ranges, first_of, Numbers, groups, Bytes, among, program_of, Tree}
use Rattle.pv_model.specs.Answers.Exposure.{range_text}
use Rattle.pv_model.specs.Answers.Observed.{with_equal_key}
use Rattle.pv_model_questions.specs.declared.finding_kind.FindingKind.{FindingKind}
use Rattle.pv_model_questions.specs.Exposure.{Finding, greatest_finding_line, last_finding, finding_lines, finding_lines_by, finding_line, lines_found, lines_of_findings}
use Rattle.pv_laws_trees.proofs.DirectoryEntries.{bytes_eq-same, bytes_eq-itself}
use Rattle.pv_laws_trees.proofs.ListTests.{flat-same}
use Rattle.pv_reduced.proofs.OfExplore.NumberRanges.{among-most}
use Rattle.pv_model_questions.specs.ExposureAbout.{findings_about}
use Rattle.pv_exposure.specs.Collected.{Recorded, all_recorded_lines, greatest, has_key, recorded_at, recorded_finding_lines, recorded_lines_by, recorded_of, key_of_recorded, last_recorded, ranges_recorded, with_all}
use Rattle.pv_exposure.proofs.FirstKeys.{keyed}

-- ---- lists

filter-map : {X Y : Type 0} (f : X → Y) (p : Y → Bool) (xs : List X) → filter p (map f xs) ≡ map f (filter (λ x. p (f x)) xs)
filter-map f p [] = refl
filter-map {Y = Y} f p (x ∷ xs) = by (p (f x)) (filter-map f p xs)
  where
    by : (b : Bool) → filter p (map f xs) ≡ map f (filter (λ z. p (f z)) xs)
        → cond b (f x ∷ filter p (map f xs)) (filter p (map f xs)) ≡ map f (cond b (x ∷ filter (λ z. p (f z)) xs) (filter (λ z. p (f z)) xs))
    by true is = ap (λ (ys : List Y). f x ∷ ys) is
    by false is = is

first-map : {X Y : Type 0} (f : X → Y) (xs : List X) → first_of (map f xs) ≡ option_map f (first_of xs)
first-map f [] = refl
first-map f (x ∷ xs) = refl

new-map : {X Y : Type 0} (f : X → Y) (key : Y → Numbers) (had : List Numbers) (xs : List X) → elements_with_new_keys key had (map f xs) ≡ map f (elements_with_new_keys (λ x. key (f x)) had xs)
new-map f key had [] = refl
new-map {Y = Y} f key had (x ∷ xs) = by (list_any (bytes_eq (key (f x))) had) (new-map f key had xs) (new-map f key (key (f x) ∷ had) xs)
  where
    by : (b : Bool) → elements_with_new_keys key had (map f xs) ≡ map f (elements_with_new_keys (λ z. key (f z)) had xs) → elements_with_new_keys key (key (f x) ∷ had) (map f xs) ≡ map f (elements_with_new_keys (λ z. key (f z)) (key (f x) ∷ had) xs)
        → (if b then elements_with_new_keys key had (map f xs) else f x ∷ elements_with_new_keys key (key (f x) ∷ had) (map f xs))
        ≡ map f (if b then elements_with_new_keys (λ z. key (f z)) had xs else x ∷ elements_with_new_keys (λ z. key (f z)) (key (f x) ∷ had) xs)
    by true was now = was
    by false was now = ap (λ (ys : List Y). f x ∷ ys) now

-- an element whose key an earlier one has is not new
new-again : {X : Type 0} (key : X → Numbers) (x : X) (ys : List X) (had : List Numbers) (xs : List X) → (list_any (bytes_eq (key x)) had || keyed key (key x) xs) ≡ true
    → elements_with_new_keys key had (xs ++ x ∷ ys) ≡ elements_with_new_keys key had (xs ++ ys)
new-again key x ys had [] known = ap (λ b. if b then elements_with_new_keys key had ys else x ∷ elements_with_new_keys key (key x ∷ had) ys) (sym (or-false (list_any (bytes_eq (key x)) had)) ∙ known)
  where
    or-false : (b : Bool) → (b || false) ≡ b
    or-false true = refl
    or-false false = refl
new-again {X = X} key x ys had (z ∷ xs) known =
    by (list_any (bytes_eq (key z)) had) refl (new-again key x ys had xs) (new-again key x ys (key z ∷ had) xs)
  where
    later : (a b c : Bool) → (a || (b || c)) ≡ true → ((b || a) || c) ≡ true
    later true true c is = refl
    later true false c is = refl
    later false true c is = refl
    later false false c is = is

    earlier : (a b c : Bool) → (b ≡ true → a ≡ true) → (a || (b || c)) ≡ true → (a || c) ≡ true
    earlier true b c same is = refl
    earlier false true c same is = absurd (let no : false ≡ true = same refl in cc)
    earlier false false c same is = is

    by : (b : Bool) → list_any (bytes_eq (key z)) had ≡ b
        → ((list_any (bytes_eq (key x)) had || keyed key (key x) xs) ≡ true → elements_with_new_keys key had (xs ++ x ∷ ys) ≡ elements_with_new_keys key had (xs ++ ys))
        → ((list_any (bytes_eq (key x)) (key z ∷ had) || keyed key (key x) xs) ≡ true → elements_with_new_keys key (key z ∷ had) (xs ++ x ∷ ys) ≡ elements_with_new_keys key (key z ∷ had) (xs ++ ys))
        → (if b then elements_with_new_keys key had (xs ++ x ∷ ys) else z ∷ elements_with_new_keys key (key z ∷ had) (xs ++ x ∷ ys))
        ≡ (if b then elements_with_new_keys key had (xs ++ ys) else z ∷ elements_with_new_keys key (key z ∷ had) (xs ++ ys))
    by true is was now =
        was (earlier (list_any (bytes_eq (key x)) had) (bytes_eq (key x) (key z)) (keyed key (key x) xs)
        (λ same. ap (λ k. list_any (bytes_eq k) had) (bytes_eq-same (key x) (key z) same) ∙ is) known)
    by false is was now = ap (λ (zs : List X). z ∷ zs) (now (later (list_any (bytes_eq (key x)) had) (bytes_eq (key x) (key z)) (keyed key (key x) xs) known))

-- ---- the greatest number

-- a number that an earlier one equals does not change the greatest one
greatest-again : (m : ℕ) (ms ns : List ℕ) → among ms m ≡ true → fold max 0 (ms ++ m ∷ ns) ≡ fold max 0 (ms ++ ns)
greatest-again m ms ns is =
    let least = among-most ms 0 m is in
    let same : max (fold max 0 ms) m ≡ fold max 0 ms = omega (arith, least) in
    fold-append max 0 ms (m ∷ ns) ∙ ap (λ k. fold max k ns) same ∙ sym (fold-append max 0 ms ns)

-- ---- the lines of a file text

abbrev line_in : Recorded → ℕ
line_in k = k.line

abbrev file_in : Recorded → Bytes
file_in k = k.file

module _ (x : Recorded) (A B : List Recorded) (known : among (map line_in A) x.line ≡ true) where
  lines-with : map line_in (A ++ x ∷ B) ≡ map line_in A ++ x.line ∷ map line_in B
  lines-with = map-append line_in A (x ∷ B)

  greatest-with : greatest (A ++ x ∷ B) ≡ greatest (A ++ B)
  greatest-with =
      ap (fold max 0) lines-with ∙ greatest-again x.line (map line_in A) (map line_in B) known ∙ ap (fold max 0) (sym (map-append line_in A B))

  among-with : (n : ℕ) → among (map line_in (A ++ x ∷ B)) n ≡ among (map line_in (A ++ B)) n
  among-with n =
      ap (λ ms. among ms n) lines-with ∙ list_any-append (λ m. m == n) (map line_in A) (x.line ∷ map line_in B)
      ∙ absorbed (among (map line_in A) n) (x.line == n) (among (map line_in B) n) there
      ∙ sym (ap (λ ms. among ms n) (map-append line_in A B) ∙ list_any-append (λ m. m == n) (map line_in A) (map line_in B))
    where
      absorbed : (a b c : Bool) → (b ≡ true → a ≡ true) → (a || (b || c)) ≡ (a || c)
      absorbed true b c same = refl
      absorbed false true c same = absurd (let no : false ≡ true = same refl in cc)
      absorbed false false c same = refl

      there : (x.line == n) ≡ true → among (map line_in A) n ≡ true
      there same = let equal : x.line ≡ n = grind (arith, nat_tests, same) in ap (among (map line_in A)) (sym equal) ∙ known

  ranges-with : ranges_recorded (A ++ x ∷ B) ≡ ranges_recorded (A ++ B)
  ranges-with =
      ap (λ ns. join_by range_text (codes ", ") (in_ranges ns))
      (ap (λ g. filter (among (map line_in (A ++ x ∷ B))) (range_with_len 1 g)) greatest-with
      ∙ filter_agree (among (map line_in (A ++ x ∷ B))) (among (map line_in (A ++ B))) among-with (range_with_len 1 (greatest (A ++ B))))

  -- the first finding at a line is not x
  first-with : (g : ℕ) → first_of (filter (λ k. k.line == g) (A ++ x ∷ B)) ≡ first_of (filter (λ k. k.line == g) (A ++ B))
  first-with g =
      ap first_of (filter-append (λ k. k.line == g) A (x ∷ B)) ∙ by (x.line == g) refl
      ∙ sym (ap first_of (filter-append (λ k. k.line == g) A B))
    where
      some-first : (ks : List Recorded) → among (map line_in ks) g ≡ true → (ys zs : List Recorded) → first_of (filter (λ k. k.line == g) ks ++ ys) ≡ first_of (filter (λ k. k.line == g) ks ++ zs)
      some-first [] is ys zs = absurd (let no : false ≡ true = is in cc)
      some-first (k ∷ ks) is ys zs = at (k.line == g) is (some-first ks)
        where
          at : (b : Bool) → (b || among (map line_in ks) g) ≡ true
              → (among (map line_in ks) g ≡ true → (ys zs : List Recorded) → first_of (filter (λ k. k.line == g) ks ++ ys) ≡ first_of (filter (λ k. k.line == g) ks ++ zs))
              → first_of (cond b (k ∷ filter (λ k. k.line == g) ks) (filter (λ k. k.line == g) ks) ++ ys) ≡ first_of (cond b (k ∷ filter (λ k. k.line == g) ks) (filter (λ k. k.line == g) ks) ++ zs)
          at true is rest = refl
          at false is rest = rest is ys zs

      by : (b : Bool) → (x.line == g) ≡ b
          → first_of (filter (λ k. k.line == g) A ++ cond b (x ∷ filter (λ k. k.line == g) B) (filter (λ k. k.line == g) B)) ≡ first_of (filter (λ k. k.line == g) A ++ filter (λ k. k.line == g) B)
      by true same =
          let equal : x.line ≡ g = grind (arith, nat_tests, same) in
          some-first A (ap (among (map line_in A)) (sym equal) ∙ known) (x ∷ filter (λ k. k.line == g) B) (filter (λ k. k.line == g) B)
      by false other = refl

  last-with : last_recorded (A ++ x ∷ B) ≡ last_recorded (A ++ B)
  last-with = ap (λ g. first_of (filter (λ k. k.line == g) (A ++ x ∷ B))) greatest-with ∙ first-with (greatest (A ++ B))

  lines-again : (kind : FindingKind) → recorded_lines_by kind (ranges_recorded (A ++ x ∷ B)) (last_recorded (A ++ x ∷ B)) ≡ recorded_lines_by kind (ranges_recorded (A ++ B)) (last_recorded (A ++ B))
  lines-again kind = ap₂ (recorded_lines_by kind) ranges-with last-with

-- ---- all file texts

same-line : (a b : ℕ) → a / 256 ≡ b / 256 → a % 256 ≡ b % 256 → a ≡ b
same-line a b high low = omega (arith, high, low)

module _ (x : Recorded) (P X : List Recorded) (known : has_key P (key_of_recorded x) ≡ true) where
  abbrev alike : Recorded → Recorded → Bool
  alike f k = bytes_eq k.file f.file

  -- an earlier finding has the file text and the line
  key-same : (k : Recorded) → bytes_eq (key_of_recorded x) (key_of_recorded k) ≡ true → (x.file ≡ k.file) × (x.line ≡ k.line)
  key-same k is =
      let same = bytes_eq-same (key_of_recorded x) (key_of_recorded k) is in
      (tail-of same, same-line x.line k.line (ap first-number same) (ap second-number same))
    where
      first-number : Bytes → ℕ
      first-number [] = 0
      first-number (b ∷ bs) = b

      rest : Bytes → Bytes
      rest [] = []
      rest (b ∷ bs) = bs

      second-number : Bytes → ℕ
      second-number bs = first-number (rest bs)

      tail-of : key_of_recorded x ≡ key_of_recorded k → x.file ≡ k.file
      tail-of same = ap (λ bs. rest (rest bs)) same

  file-known : (ks : List Recorded) → has_key ks (key_of_recorded x) ≡ true → keyed file_in x.file ks ≡ true
  file-known [] is = is
  file-known (k ∷ ks) is = by (bytes_eq (key_of_recorded x) (key_of_recorded k)) refl is (file-known ks)
    where
      by : (b : Bool) → bytes_eq (key_of_recorded x) (key_of_recorded k) ≡ b → (b || has_key ks (key_of_recorded x)) ≡ true → (has_key ks (key_of_recorded x) ≡ true → keyed file_in x.file ks ≡ true)
          → (bytes_eq x.file k.file || keyed file_in x.file ks) ≡ true
      by true same is rest = ap (λ b. b || keyed file_in x.file ks) (ap (λ bs. bytes_eq bs k.file) (key-same k same).0 ∙ bytes_eq-itself k.file)
      by false other is rest = either (bytes_eq x.file k.file) (keyed file_in x.file ks) (rest is)
        where
          either : (a b : Bool) → b ≡ true → (a || b) ≡ true
          either true b is = refl
          either false b is = is

  line-known : (f : Recorded) → bytes_eq x.file f.file ≡ true → (ks : List Recorded) → has_key ks (key_of_recorded x) ≡ true → among (map line_in (filter (alike f) ks)) x.line ≡ true
  line-known f same [] is = is
  line-known f same (k ∷ ks) is = by (bytes_eq (key_of_recorded x) (key_of_recorded k)) refl is (line-known f same ks)
    where
      onto : (b : Bool) → among (map line_in (filter (alike f) ks)) x.line ≡ true → among (map line_in (cond b (k ∷ filter (alike f) ks) (filter (alike f) ks))) x.line ≡ true
      onto true is = either (k.line == x.line) (among (map line_in (filter (alike f) ks)) x.line) is
        where
          either : (a b : Bool) → b ≡ true → (a || b) ≡ true
          either true b is = refl
          either false b is = is
      onto false is = is

      by : (b : Bool) → bytes_eq (key_of_recorded x) (key_of_recorded k) ≡ b → (b || has_key ks (key_of_recorded x)) ≡ true → (has_key ks (key_of_recorded x) ≡ true → among (map line_in (filter (alike f) ks)) x.line ≡ true)
          → among (map line_in (cond (alike f k) (k ∷ filter (alike f) ks) (filter (alike f) ks))) x.line ≡ true
      by true here is rest =
          let both = key-same k here in
          let own : alike f k ≡ true = ap (λ bs. bytes_eq bs f.file) (sym both.0) ∙ same in
          let equal : (k.line == x.line) ≡ true = eq-eqb k.line x.line (sym both.1) in
          ap (λ b. among (map line_in (cond b (k ∷ filter (alike f) ks) (filter (alike f) ks))) x.line) own
          ∙ ap (λ b. b || among (map line_in (filter (alike f) ks)) x.line) equal
      by false other is rest = onto (alike f k) (rest is)

  group-again : (kind : FindingKind) (f : Recorded) → recorded_finding_lines kind (f, filter (alike f) (P ++ x ∷ X)) ≡ recorded_finding_lines kind (f, filter (alike f) (P ++ X))
  group-again kind f =
      ap (λ (ks : List Recorded). recorded_finding_lines kind (f, ks)) (filter-append (alike f) P (x ∷ X)) ∙ by (alike f x) refl
      ∙ ap (λ (ks : List Recorded). recorded_finding_lines kind (f, ks)) (sym (filter-append (alike f) P X))
    where
      by : (b : Bool) → alike f x ≡ b
          → recorded_finding_lines kind (f, filter (alike f) P ++ cond b (x ∷ filter (alike f) X) (filter (alike f) X)) ≡ recorded_finding_lines kind (f, filter (alike f) P ++ filter (alike f) X)
      by true is = lines-again x (filter (alike f) P) (filter (alike f) X) (line-known f is P known) kind
      by false is = refl

  all-again : (kind : FindingKind) → all_recorded_lines kind (P ++ x ∷ X) ≡ all_recorded_lines kind (P ++ X)
  all-again kind =
      flat_map-map (recorded_finding_lines kind) (with_equal_key file_in (P ++ x ∷ X)) (elements_with_new_keys file_in [] (P ++ x ∷ X))
      ∙ ap (flat_map (λ f. recorded_finding_lines kind (with_equal_key file_in (P ++ x ∷ X) f))) (new-again file_in x X [] P (file-known P known))
      ∙ flat-same (λ f. recorded_finding_lines kind (with_equal_key file_in (P ++ x ∷ X) f)) (λ f. recorded_finding_lines kind (with_equal_key file_in (P ++ X) f)) (group-again kind) (elements_with_new_keys file_in [] (P ++ X))
      ∙ sym (flat_map-map (recorded_finding_lines kind) (with_equal_key file_in (P ++ X)) (elements_with_new_keys file_in [] (P ++ X)))

-- the findings that are stored have the lines of all
lines-stored : (kind : FindingKind) (P X : List Recorded) → all_recorded_lines kind (with_all P X) ≡ all_recorded_lines kind (P ++ X)
lines-stored kind P [] = ap (all_recorded_lines kind) (sym (nothing P))
  where
    nothing : (ks : List Recorded) → ks ++ [] ≡ ks
    nothing [] = refl
    nothing (k ∷ ks) = ap (λ (zs : List Recorded). k ∷ zs) (nothing ks)
lines-stored kind P (x ∷ X) = by (has_key P (key_of_recorded x)) refl (lines-stored kind P X) (lines-stored kind (P ++ x ∷ []) X)
  where
    by : (b : Bool) → has_key P (key_of_recorded x) ≡ b → all_recorded_lines kind (with_all P X) ≡ all_recorded_lines kind (P ++ X) → all_recorded_lines kind (with_all (P ++ x ∷ []) X) ≡ all_recorded_lines kind ((P ++ x ∷ []) ++ X)
        → all_recorded_lines kind (with_all (if b then P else P ++ x ∷ []) X) ≡ all_recorded_lines kind (P ++ x ∷ X)
    by true known was now = was ∙ sym (all-again x P X known kind)
    by false new was now = now ∙ ap (all_recorded_lines kind) (append_assoc P (x ∷ []) X)

-- ---- the definition's lines

lines-are : (xs : List Finding) → map line_in (map recorded_of xs) ≡ map finding_line xs
lines-are xs = map-map line_in recorded_of xs

module _ (kind : FindingKind) where
  group-lines : (first : Finding) (xs : List Finding) → recorded_finding_lines kind (recorded_of first, map recorded_of xs) ≡ finding_lines kind (first, xs)
  group-lines first xs =
      ap₂ (recorded_lines_by kind)
      (ap (λ ns. join_by range_text (codes ", ") (in_ranges (filter (among ns) (range_with_len 1 (fold max 0 ns))))) (lines-are xs))
      (ap (λ ns. first_of (filter (λ k. k.line == fold max 0 ns) (map recorded_of xs))) (lines-are xs)
      ∙ ap first_of (filter-map recorded_of (λ k. k.line == greatest_finding_line xs) xs) ∙ first-map recorded_of (filter (λ x. finding_line x == greatest_finding_line xs) xs))
      ∙ by (last_finding xs)
    where
      by : (o : Option Finding) → recorded_lines_by kind (join_by range_text (codes ", ") (in_ranges (lines_found xs))) (option_map recorded_of o) ≡ finding_lines_by kind xs o
      by None = refl
      by (Some x) = refl

  abbrev finding_file : Finding → Bytes
  finding_file x = x.file

  groups-are : (xs : List Finding) → all_recorded_lines kind (map recorded_of xs) ≡ lines_of_findings kind xs
  groups-are xs =
      flat_map-map (recorded_finding_lines kind) (with_equal_key file_in (map recorded_of xs)) (elements_with_new_keys file_in [] (map recorded_of xs))
      ∙ ap (flat_map (λ f. recorded_finding_lines kind (with_equal_key file_in (map recorded_of xs) f))) (new-map recorded_of file_in [] xs)
      ∙ flat_map-map (λ f. recorded_finding_lines kind (with_equal_key file_in (map recorded_of xs) f)) recorded_of (elements_with_new_keys finding_file [] xs)
      ∙ flat-same (λ f. recorded_finding_lines kind (with_equal_key file_in (map recorded_of xs) (recorded_of f))) (λ f. finding_lines kind (with_equal_key finding_file xs f))
      (λ f. ap (λ (ks : List Recorded). recorded_finding_lines kind (recorded_of f, ks)) (filter-map recorded_of (λ k. bytes_eq k.file f.file) xs) ∙ group-lines f (filter (λ x. bytes_eq x.file f.file) xs))
      (elements_with_new_keys finding_file [] xs)
      ∙ sym (flat_map-map (finding_lines kind) (with_equal_key finding_file xs) (elements_with_new_keys finding_file [] xs))

  module _ (files : List Bytes) (first : Tree) where
    findings-mapped : (ls : List Located) → flat_map (recorded_at files first kind) ls ≡ map recorded_of (flat_map (findings_about files program_of first kind) ls)
    findings-mapped [] = refl
    findings-mapped (l ∷ ls) =
        ap (λ (ks : List Recorded). recorded_at files first kind l ++ ks) (findings-mapped ls)
        ∙ sym (map-append recorded_of (findings_about files program_of first kind l) (flat_map (findings_about files program_of first kind) ls))

    -- the lines of the stored findings are those of all findings
    pub findings-written : (ls : List Located) → all_recorded_lines kind (with_all [] (flat_map (recorded_at files first kind) ls)) ≡ lines_of_findings kind (flat_map (findings_about files program_of first kind) ls)
    findings-written ls =
        lines-stored kind [] (flat_map (recorded_at files first kind) ls) ∙ ap (all_recorded_lines kind) (findings-mapped ls)
        ∙ groups-are (flat_map (findings_about files program_of first kind) ls)
