-- Counting numbers, and the names of inodes.
use Rattle.std.proofs.Common.{◌≡◌, ◌≢◌, ℕ, ◌+◌, ◌-◌, ◌*◌, ◌≤◌, ◌<◌, List, [], ◌∷◌, ◌++◌, length, get_or, set, take, replicate, true, false, ap, sym, subst, ◌∙◌, refl, arith, get_or-set_same, get_or-set_other, ltb-true, ltb-false}
use Rattle.std.proofs.lemmas.Bool.{eqb-true, eqb-false}
use Rattle.std.proofs.lemmas.Grind.{flat_map-append}
use Rattle.std.proofs.lemmas.List.{append-nil, get_or-replicate, get_or_past, length-replicate, length-take-le}
use Rattle.std.proofs.lemmas.List.Sums.{count_by-le-length, count_by_more_no, count_by_more_yes, sum_by-append}
use Rattle.std.specs.Prelude.{◌==◌, ◌^◌, cond, flat_map, nat_lt}
use Rattle.std.specs.List.{range_with_len}
use Rattle.pv_model.specs.declared.version.Version.{Version}
use Rattle.pv_model.specs.Machine.{Bytes, inode_number, name_count}
use Rattle.pv_image_mount.proofs.InodeBlocks.{range_more}
use Rattle.pv_image_mount.proofs.SlotTargets.{name_count-occurrences_of}
use Rattle.pv_image_mount.specs.Places.{targets_of, occurrences_of}

times_none : (k : ℕ) → occurrences_of k [] ≡ 0
unfolding occurrences_of
times_none k = refl

times_short : (k : ℕ) (numbers : List ℕ) → occurrences_of k numbers ≤ length numbers
unfolding occurrences_of
times_short k numbers = count_by-le-length (λ other. other == k) numbers

occurrences_of-append : (k : ℕ) (xs ys : List ℕ) → occurrences_of k (xs ++ ys) ≡ occurrences_of k xs + occurrences_of k ys
unfolding occurrences_of
occurrences_of-append k xs ys = sum_by-append (λ other. cond (other == k) 1 0) xs ys

times_yes : (k : ℕ) (xs : List ℕ) (i : ℕ) → i < length xs → (get_or xs i 0 == k) ≡ true → occurrences_of k (take (i + 1) xs) ≡ occurrences_of k (take i xs) + 1
unfolding occurrences_of
times_yes k xs i within is = count_by_more_yes (λ other. other == k) xs i 0 within is

times_no : (k : ℕ) (xs : List ℕ) (i : ℕ) → i < length xs → (get_or xs i 0 == k) ≡ false → occurrences_of k (take (i + 1) xs) ≡ occurrences_of k (take i xs)
unfolding occurrences_of
times_no k xs i within differs = count_by_more_no (λ other. other == k) xs i 0 within differs

-- the counts after the first numbers are counted
abbrev pub AreCounted : List ℕ → List ℕ → List ℕ → Type 0
AreCounted old numbers new = (k : ℕ) → k < length old → get_or new k 0 ≡ get_or old k 0 + occurrences_of k numbers

pub none_counted : (old : List ℕ) → AreCounted old [] old
none_counted old k within = let none = times_none k in omega (arith, none)

-- a count does not overflow
pub room_to_count : (old new numbers : List ℕ) (i : ℕ) → i < length numbers → get_or numbers i 0 < length old → ((k : ℕ) → get_or old k 0 + length numbers < 2 ^ 32) → AreCounted old (take i numbers) new
    → get_or new (get_or numbers i 0) 0 + 1 < 2 ^ 32
room_to_count old new numbers i within there few counted =
    let k = get_or numbers i 0 in
    let so_far : get_or new k 0 ≡ get_or old k 0 + occurrences_of k (take i numbers) = counted k there in
    let short : occurrences_of k (take i numbers) ≤ length (take i numbers) = times_short k (take i numbers) in
    let long : length (take i numbers) ≡ i = length-take-le i numbers (omega arith) in
    let room : get_or old k 0 + length numbers < 2 ^ 32 = few k in
    omega (arith, so_far, short, long, room, within)

pub counted_more : (old new numbers : List ℕ) (i : ℕ) → i < length numbers → get_or numbers i 0 < length old → length new ≡ length old → AreCounted old (take i numbers) new
    → AreCounted old (take (i + 1) numbers) (set new (get_or numbers i 0) (get_or new (get_or numbers i 0) 0 + 1))
counted_more old new numbers i within there long counted k low =
    let t = get_or numbers i 0 in
    let before : get_or new k 0 ≡ get_or old k 0 + occurrences_of k (take i numbers) = counted k low in
    elim (t == k) as (λ b. (t == k) ≡ b → get_or (set new t (get_or new t 0 + 1)) k 0 ≡ get_or old k 0 + occurrences_of k (take (i + 1) numbers)) [
      | true ↦ λ is.
          let same : t ≡ k = eqb-true t k is in
          let here : t < length new = omega (arith, there, long) in
          let more : occurrences_of k (take (i + 1) numbers) ≡ occurrences_of k (take i numbers) + 1 = times_yes k numbers i within is in
          let written : get_or (set new t (get_or new t 0 + 1)) t 0 ≡ get_or new t 0 + 1 = get_or-set_same new t (get_or new t 0 + 1) 0 here in
          let at_k : get_or (set new t (get_or new t 0 + 1)) k 0 ≡ get_or new k 0 + 1 = ap (λ m. get_or (set new t (get_or new t 0 + 1)) m 0) (sym same) ∙ written ∙ ap (λ m. get_or new m 0 + 1) same in
          omega (arith, at_k, before, more)
      | false ↦ λ differs.
          let apart : k ≢ t = λ h. eqb-false t k differs (sym h) in
          get_or-set_other new t k (get_or new t 0 + 1) 0 apart ∙ before ∙ ap (λ m. get_or old k 0 + m) (sym (times_no k numbers i within differs))
    ] refl

zero_at : (n k : ℕ) → ◌≡◌ {A = ℕ} (get_or (replicate n 0) k 0) 0
zero_at n k =
    elim (nat_lt k n) as (λ b. nat_lt k n ≡ b → ◌≡◌ {A = ℕ} (get_or (replicate n 0) k 0) 0) [
      | true ↦ λ less. get_or-replicate n k 0 0 (ltb-true k n less)
      | false ↦ λ past. get_or_past (replicate n 0) k 0 (subst (λ m. m ≤ k) (sym (length-replicate n 0)) (ltb-false k n past))
    ] refl

-- ---- the names of inodes

pub flat_more : {A : Type 0} (f : ℕ → List A) (n : ℕ) → 1 ≤ n → flat_map f (range_with_len 1 (n + 1 - 1)) ≡ flat_map f (range_with_len 1 (n - 1)) ++ f n
flat_more f n low =
    let less : n + 1 - 1 ≡ n - 1 + 1 = omega arith in
    let last : 1 + (n - 1) ≡ n = omega arith in
    ap (λ k. flat_map f (range_with_len 1 k)) less
    ∙ ap (flat_map f) (range_more 1 (n - 1))
    ∙ flat_map-append f (range_with_len 1 (n - 1)) ((1 + (n - 1)) ∷ [])
    ∙ ap (λ l. flat_map f (range_with_len 1 (n - 1)) ++ l) (append-nil (f (1 + (n - 1))) ∙ ap f last)

module _ (v : Version) (bytes : Bytes) where
  -- the counts of the slots of the directories before one
  pub record HasNameCounts (counts : List ℕ) (n : ℕ) : Type 0 where
    pub long : length counts ≡ inode_number bytes + 1
    pub each : (k : ℕ) → k ≤ inode_number bytes → get_or counts k 0 ≡ occurrences_of k (flat_map (targets_of v bytes) (range_with_len 1 (n - 1)))
    pub few : (k : ℕ) → get_or counts k 0 ≤ 2540 * (n - 1)

  pub counts_begin : (counts : List ℕ) → counts ≡ replicate (inode_number bytes + 1) 0 → HasNameCounts counts 1
  counts_begin counts is =
      record {
        long = ap length is ∙ length-replicate (inode_number bytes + 1) 0;
        each = λ k within. ap (λ l. get_or l k 0) is ∙ zero_at (inode_number bytes + 1) k ∙ sym (times_none k);
        few = λ k. let none : get_or counts k 0 ≡ 0 = ap (λ l. get_or l k 0) is ∙ zero_at (inode_number bytes + 1) k in omega (arith, none);
      }

  pub counts_more : (counts new : List ℕ) (n : ℕ) → 1 ≤ n → HasNameCounts counts n → length (targets_of v bytes n) ≤ 2540 → length new ≡ length counts → AreCounted counts (targets_of v bytes n) new
      → HasNameCounts new (n + 1)
  counts_more counts new n low has short long counted =
      let before = flat_map (targets_of v bytes) (range_with_len 1 (n - 1)) in
      record {
        long = long ∙ has.long;
        each = λ k within.
            let wide = has.long in
            let inner : k < length counts = omega (arith, wide, within) in
            counted k inner ∙ ap (λ m. m + occurrences_of k (targets_of v bytes n)) (has.each k within)
            ∙ sym (ap (occurrences_of k) (flat_more (targets_of v bytes) n low) ∙ occurrences_of-append k before (targets_of v bytes n));
        few = λ k.
            elim (nat_lt k (length counts)) as (λ b. nat_lt k (length counts) ≡ b → get_or new k 0 ≤ 2540 * (n + 1 - 1)) [
              | true ↦ λ less.
                  let more : get_or new k 0 ≡ get_or counts k 0 + occurrences_of k (targets_of v bytes n) = counted k (ltb-true k (length counts) less) in
                  let few = has.few k in
                  let some = times_short k (targets_of v bytes n) in
                  omega (arith, more, few, some, short, low)
              | false ↦ λ past.
                  let following : length counts ≤ k = ltb-false k (length counts) past in
                  let none : get_or new k 0 ≡ 0 = get_or_past new k 0 (omega (arith, following, long)) in
                  omega (arith, none)
            ] refl;
      }

  pub counts_all : (counts : List ℕ) (n : ℕ) → n ≡ inode_number bytes + 1 → HasNameCounts counts n → (k : ℕ) → k ≤ inode_number bytes → get_or counts k 0 ≡ name_count v bytes k
  counts_all counts n all has k within =
      let count : n - 1 ≡ inode_number bytes = omega arith in
      has.each k within ∙ ap (λ m. occurrences_of k (flat_map (targets_of v bytes) (range_with_len 1 m))) count ∙ sym (name_count-occurrences_of v bytes k)
