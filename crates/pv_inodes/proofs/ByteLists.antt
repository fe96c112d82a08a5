-- Overwriting, extending and truncating bytes.
use Rattle.std.proofs.Common.{◌≡◌, ℕ, ◌+◌, ◌-◌, ◌<◌, ◌≤◌, [], ◌++◌, length, get_or, take, drop, replicate, max, refl, sym, ap, ◌∙◌, inl, inr, arith}
use Rattle.std.proofs.lemmas.Bool.{cases_lt}
use Rattle.std.proofs.lemmas.List.{same_lists, append-nil, append_assoc, length-append, length-take-le, length-drop, length-replicate, get_or_append_left, get_or-append_right, get_or-take, get_or-replicate, get_or_default, take_all, drop_all}
use lib.Seq.{paste}
use Rattle.std.proofs.Math.Seq.{take-add}
use Rattle.std.proofs.lemmas.List.Edits.{paste_all, paste-paste}
use Rattle.pv_model.specs.Machine.{Bytes, overwrite, resize}
use Rattle.pv_inodes.proofs.BlockNumbers.{over, length-over}

-- two lists of numbers with equal elements, with the default 0
pub same_bytes : (xs ys : Bytes) → length xs ≡ length ys → ((k : ℕ) → k < length xs → get_or xs k 0 ≡ get_or ys k 0) → xs ≡ ys
same_bytes xs ys long same = same_lists xs ys long (λ k d within. get_or_default xs k d 0 within ∙ same k within ∙ get_or_default ys k 0 d (omega arith))

pub overwrite-over : (old : Bytes) (at : ℕ) (new : Bytes) → at ≤ length old → overwrite old at new ≡ over old at new
overwrite-over old at new within =
    let none : at - length old ≡ 0 = omega arith in
    rw (none, append-nil old) (append_assoc (take at old) new (drop (at + length new) old))

-- longer contents: the old ones followed by zeros
module _ (old : Bytes) (size : ℕ) (longer : length old ≤ size) where
  pub resize-longer : resize old size ≡ old ++ replicate (size - length old) 0
  resize-longer = rw (take_all size old longer) refl

  pub length-resize_longer : length (resize old size) ≡ size
  length-resize_longer = ap length resize-longer ∙ length-append old (replicate (size - length old) 0) ∙ ap (λ n. length old + n) (length-replicate {A = ℕ} (size - length old) 0) ∙ omega arith

  pub get_or-resize_front : (x : ℕ) → x < length old → get_or (resize old size) x 0 ≡ get_or old x 0
  get_or-resize_front x within = ap (λ (xs : Bytes). get_or xs x 0) resize-longer ∙ get_or_append_left old (replicate (size - length old) 0) 0 x within

  pub get_or-resize_after : (x : ℕ) → length old ≤ x → x < size → get_or (resize old size) x 0 ≡ 0
  get_or-resize_after x from within =
      ap (λ (xs : Bytes). get_or xs x 0) resize-longer
      ∙ get_or-append_right old (replicate (size - length old) 0) (length old) x 0 refl from
      ∙ get_or-replicate {A = ℕ} (size - length old) (x - length old) 0 0 (omega arith)

-- shorter contents
module _ (old : Bytes) (size : ℕ) (shorter : size ≤ length old) where
  pub resize-shorter : resize old size ≡ take size old
  resize-shorter =
      let none : size - length old ≡ 0 = omega arith in
      rw none (append-nil (take size old))

  pub length-resize_shorter : length (resize old size) ≡ size
  length-resize_shorter = ap length resize-shorter ∙ length-take-le size old shorter

  pub get_or-resize_shorter : (x : ℕ) → x < size → get_or (resize old size) x 0 ≡ get_or old x 0
  get_or-resize_shorter x within = ap (λ (xs : Bytes). get_or xs x 0) resize-shorter ∙ get_or-take size old x 0 within

pub length-resize : (old : Bytes) (size : ℕ) → length (resize old size) ≡ size
length-resize old size = elim (cases_lt size (length old)) [
  | inl shorter ↦ length-resize_shorter old size (omega arith)
  | inr longer ↦ length-resize_longer old size longer
]

pub resize-itself : (old : Bytes) → resize old (length old) ≡ old
resize-itself old = same_bytes (resize old (length old)) old (length-resize old (length old)) (λ k within. get_or-resize_shorter old (length old) (omega arith) k (omega (arith, length-resize old (length old))))

-- two extensions are one
pub resize-resize : (old : Bytes) (m n : ℕ) → length old ≤ m → m ≤ n → resize (resize old m) n ≡ resize old n
resize-resize old m n longer more =
    let length_m = length-resize old m in
    let length_n = length-resize old n in
    let length_two = length-resize (resize old m) n in
    let fits : length (resize old m) ≤ n = omega arith in
    same_bytes (resize (resize old m) n) (resize old n) (omega arith) (λ k within. elim (cases_lt k m) [
      | inl below_m ↦
          get_or-resize_front (resize old m) n fits k (rw length_m below_m)
          ∙ elim (cases_lt k (length old)) [
            | inl inside ↦ get_or-resize_front old m longer k inside ∙ sym (get_or-resize_front old n (omega arith) k inside)
            | inr following ↦ get_or-resize_after old m longer k following below_m ∙ sym (get_or-resize_after old n (omega arith) k following (omega arith))
          ]
      | inr above_m ↦
          get_or-resize_after (resize old m) n fits k (rw length_m above_m) (omega arith)
          ∙ sym (get_or-resize_after old n (omega arith) k (omega arith) (omega arith))
    ])

pub length-overwrite : (old : Bytes) (at : ℕ) (new : Bytes) → at + length new ≤ length old → length (overwrite old at new) ≡ length old
length-overwrite old at new fits = ap length (overwrite-over old at new (omega arith)) ∙ length-over old at new fits

-- two adjacent writes are one
over-over : (old : Bytes) (at m n : ℕ) (xs ys : Bytes) → m ≡ length xs → n ≡ length ys → at ≤ length old → over (over old at xs) (at + m) ys ≡ over old at (xs ++ ys)
over-over old at m n xs ys long_xs long_ys within =
    let long_both : m + n ≡ length (xs ++ ys) = omega (arith, length-append xs ys) in
    ap (λ (zs : Bytes). over zs (at + m) ys) (ap (λ k. take at old ++ (xs ++ drop (at + k) old)) (sym long_xs) ∙ sym (paste_all old at xs m long_xs))
    ∙ ap (λ k. take (at + m) (paste old at xs m) ++ (ys ++ drop (at + m + k) (paste old at xs m))) (sym long_ys)
    ∙ sym (paste_all (paste old at xs m) (at + m) ys n long_ys)
    ∙ paste-paste old at xs ys m n long_xs long_ys within
    ∙ paste_all old at (xs ++ ys) (m + n) long_both
    ∙ ap (λ k. take at old ++ ((xs ++ ys) ++ drop (at + k) old)) long_both

pub overwrite-overwrite : (old : Bytes) (at : ℕ) (new : Bytes) (m n : ℕ) → m + n ≤ length new → at + length new ≤ length old → overwrite (overwrite old at (take m new)) (at + m) (take n (drop m new)) ≡ overwrite old at (take (m + n) new)
overwrite-overwrite old at new m n within fits =
    let length_first = length-take-le m new (omega arith) in
    let length_second : length (take n (drop m new)) ≡ n = length-take-le n (drop m new) (omega (arith, length-drop m new)) in
    let room : at + length (take m new) ≤ length old = omega arith in
    let length_middle = length-overwrite old at (take m new) room in
    overwrite-over (overwrite old at (take m new)) (at + m) (take n (drop m new)) (omega arith)
    ∙ ap (λ (xs : Bytes). over xs (at + m) (take n (drop m new))) (overwrite-over old at (take m new) (omega arith))
    ∙ over-over old at m n (take m new) (take n (drop m new)) (sym length_first) (sym length_second) (omega arith)
    ∙ ap (over old at) (sym (take-add m n new))
    ∙ sym (overwrite-over old at (take (m + n) new) (omega arith))

-- a write past the end is a write after an extension with zeros
module _ (old : Bytes) (at : ℕ) (new : Bytes) where
  front_zeros : (m : ℕ) → at - length old ≤ m → take at (old ++ replicate m 0) ≡ take at (old ++ replicate (at - length old) 0)
  front_zeros m enough =
      let zeros_m = length-replicate {A = ℕ} m 0 in
      let zeros = length-replicate {A = ℕ} (at - length old) 0 in
      let length_left : length (take at (old ++ replicate m 0)) ≡ at = length-take-le at (old ++ replicate m 0) (omega (arith, length-append old (replicate m 0))) in
      let length_right : length (take at (old ++ replicate (at - length old) 0)) ≡ at = length-take-le at (old ++ replicate (at - length old) 0) (omega (arith, length-append old (replicate (at - length old) 0))) in
      same_bytes (take at (old ++ replicate m 0)) (take at (old ++ replicate (at - length old) 0)) (omega arith) (λ k below.
      let less : k < at = rw length_left at below in
      get_or-take at (old ++ replicate m 0) k 0 less ∙ elim (cases_lt k (length old)) [
        | inl inside ↦ get_or_append_left old (replicate m 0) 0 k inside ∙ sym (get_or_append_left old (replicate (at - length old) 0) 0 k inside)
        | inr following ↦
            get_or-append_right old (replicate m 0) (length old) k 0 refl following
            ∙ get_or-replicate {A = ℕ} m (k - length old) 0 0 (omega arith)
            ∙ sym (get_or-append_right old (replicate (at - length old) 0) (length old) k 0 refl following ∙ get_or-replicate {A = ℕ} (at - length old) (k - length old) 0 0 (omega arith))
      ] ∙ sym (get_or-take at (old ++ replicate (at - length old) 0) k 0 less))

  pub overwrite-resized : overwrite (resize old (max (length old) (at + length new))) at new ≡ overwrite old at new
  overwrite-resized = elim (cases_lt (length old) (at + length new)) [
    | inl longer ↦
        let size : max (length old) (at + length new) ≡ at + length new = omega arith in
        let length_resized = length-resize old (at + length new) in
        let fits : at ≤ length (resize old (at + length new)) = omega arith in
        let nothing_left : drop (at + length new) old ≡ [] = drop_all (at + length new) old (omega arith) in
        let nothing_after : drop (at + length new) (resize old (at + length new)) ≡ [] = drop_all (at + length new) (resize old (at + length new)) (omega arith) in
        rw size (overwrite-over (resize old (at + length new)) at new fits)
        ∙ ap (λ (xs : Bytes). take at (resize old (at + length new)) ++ (new ++ xs)) nothing_after
        ∙ ap (λ (xs : Bytes). take at xs ++ (new ++ [])) (resize-longer old (at + length new) (omega arith))
        ∙ ap (λ (xs : Bytes). xs ++ (new ++ [])) (front_zeros (at + length new - length old) (omega arith))
        ∙ sym (append_assoc (take at (old ++ replicate (at - length old) 0)) new (drop (at + length new) old) ∙ ap (λ (xs : Bytes). take at (old ++ replicate (at - length old) 0) ++ (new ++ xs)) nothing_left)
    | inr within ↦
        let size : max (length old) (at + length new) ≡ length old = omega arith in
        rw (size, resize-itself old) refl
  ]

  pub length-overwrite_any : length (overwrite old at new) ≡ max (length old) (at + length new)
  length-overwrite_any =
      let size = length-resize old (max (length old) (at + length new)) in
      sym (ap length overwrite-resized)
      ∙ length-overwrite (resize old (max (length old) (at + length new))) at new (omega arith)
      ∙ size
