-- Registers and buffers that agree in live variables, and the next step of a process.
use Rattle.std.proofs.Common.{◌≡◌, ◌≢◌, ℕ, zero, suc, ◌+◌, ◌-◌, ◌<◌, ◌≤◌, ℤ, pos, Bool, false, ◌||◌, nat_lt, List, [], ◌∷◌, ◌++◌, length, drop, take, get_or, set, refl, ap, ap₂, sym, subst, ◌∙◌, ⊎_elim, arith}
use Rattle.std.proofs.lemmas.Bool.{ne_eqb, cases_eq, cases_Bool, ltb-true, ltb-false}
use Rattle.std.proofs.lemmas.List.{length-set, length-drop, length-append, get_or_append_left, get_or-append_right, get_or-drop}
use Rattle.pv_model.specs.Machine.{Bytes, Program, Process}
use Rattle.pv_laws_classes.specs.Liveness.{Variable, register_variable, byte_variable, value_in, is_result, Live, AgreeOnLive}

-- ---- registers and buffers

abbrev no_number : ℤ
no_number = pos 0

set-here : (rs ss : List ℤ) (r : ℕ) (x : ℤ) → length rs ≡ length ss → get_or (set rs r x) r no_number ≡ get_or (set ss r x) r no_number
set-here [] [] r x same = refl
set-here [] (s ∷ ss) r x same = cc same
set-here (q ∷ rs) [] r x same = cc same
set-here (q ∷ rs) (s ∷ ss) zero x same = refl
set-here (q ∷ rs) (s ∷ ss) (suc r) x same = set-here rs ss r x (cc same)

set-other : (rs : List ℤ) (r q : ℕ) (x : ℤ) → q ≢ r → get_or (set rs r x) q no_number ≡ get_or rs q no_number
set-other rs r q x other = Rattle.std.proofs.lemmas.List.get_or-set_other rs r q x no_number other

-- after a register is set, two lists agree in it, and in the others if they did before
pub set-agree : (rs ss : List ℤ) (r q : ℕ) (x : ℤ) → length rs ≡ length ss → (q ≢ r → get_or rs q no_number ≡ get_or ss q no_number) → get_or (set rs r x) q no_number ≡ get_or (set ss r x) q no_number
set-agree rs ss r q x same others =
    ⊎_elim (λ here. subst (λ m. get_or (set rs r x) m no_number ≡ get_or (set ss r x) m no_number) (sym here) (set-here rs ss r x same))
    (λ other. set-other rs r q x other ∙ others other ∙ sym (set-other ss r q x other)) (cases_eq q r)

pub set-count : (rs ss : List ℤ) (r : ℕ) (x y : ℤ) → length rs ≡ length ss → length (set rs r x) ≡ length (set ss r y)
set-count rs ss r x y same = length-set rs r x ∙ same ∙ sym (length-set ss r y)

-- after bytes are stored at the front, two buffers agree in them, and in the others if they did before
pub front-agree : (bytes bs cs : Bytes) (k : ℕ) → (nat_lt k (length bytes) ≡ false → get_or bs k 0 ≡ get_or cs k 0) → get_or (bytes ++ drop (length bytes) bs) k 0 ≡ get_or (bytes ++ drop (length bytes) cs) k 0
front-agree bytes bs cs k others =
    ⊎_elim
    (λ below. let less : k < length bytes = ltb-true k (length bytes) below in get_or_append_left bytes (drop (length bytes) bs) 0 k less ∙ sym (get_or_append_left bytes (drop (length bytes) cs) 0 k less))
    (λ above. let least : length bytes ≤ k = ltb-false k (length bytes) above in past bs least ∙ others above ∙ sym (past cs least)) (cases_Bool (nat_lt k (length bytes)))
  where
    past : (xs : Bytes) → length bytes ≤ k → get_or (bytes ++ drop (length bytes) xs) k 0 ≡ get_or xs k 0
    past xs least =
        let at : length bytes + (k - length bytes) ≡ k = omega arith in
        get_or-append_right bytes (drop (length bytes) xs) (length bytes) k 0 refl least ∙ get_or-drop (length bytes) xs (k - length bytes) 0 ∙ ap (λ m. get_or xs m 0) at

pub front-length : (bytes bs cs : Bytes) → length bs ≡ length cs → length (bytes ++ drop (length bytes) bs) ≡ length (bytes ++ drop (length bytes) cs)
front-length bytes bs cs same = by bs ∙ ap (λ n. length bytes + (n - length bytes)) same ∙ sym (by cs)
  where
    by : (xs : Bytes) → length (bytes ++ drop (length bytes) xs) ≡ length bytes + (length xs - length bytes)
    by xs = length-append bytes (drop (length bytes) xs) ∙ ap (λ n. length bytes + n) (length-drop (length bytes) xs)

-- buffers of equal length that agree in their first bytes
pub take-agree : (bs cs : Bytes) (n : ℕ) → length bs ≡ length cs → ((k : ℕ) → k < n → get_or bs k 0 ≡ get_or cs k 0) → take n bs ≡ take n cs
take-agree [] [] n same agree = refl
take-agree [] (c ∷ cs) n same agree = cc same
take-agree (b ∷ bs) [] n same agree = cc same
take-agree (b ∷ bs) (c ∷ cs) zero same agree = refl
take-agree (b ∷ bs) (c ∷ cs) (suc n) same agree = ap₂ (λ x (xs : Bytes). x ∷ xs) (agree 0 (omega arith)) (take-agree bs cs n (cc same) (λ k less. agree (suc k) (omega arith)))

-- ---- agreement

-- they agree in the variables that are live at a line, but for exceptions
pub record Agrees (except : Variable → Bool) (is_live : Live) (program : Program) (line : ℕ) (registers : List ℤ) (buffer : Bytes) (rs : List ℤ) (bs : Bytes) : Type 0 where
  pub registers_count : length rs ≡ length registers
  pub buffer_length : length bs ≡ length buffer
  pub values : (v : Variable) → is_live program line v → except v ≡ false → value_in rs bs v ≡ value_in registers buffer v

-- they agree, except for the registers where a call returns its result
abbrev pub AwaitResult : Live → Process → List ℤ → Bytes → Type 0
AwaitResult is_live p rs bs = Agrees is_result is_live p.program p.line p.registers p.buffer rs bs

abbrev pub result_in : ℤ → ℤ → List ℤ → List ℤ
result_in x y rs = set (set rs 0 x) 1 y

module _ (is_live : Live) (p : Process) (rs : List ℤ) (bs : Bytes) (is : AwaitResult is_live p rs bs) where
  result-register : (x y : ℤ) (q : ℕ) → is_live p.program p.line (register_variable q) → get_or (result_in x y rs) q no_number ≡ get_or (result_in x y p.registers) q no_number
  result-register x y q live =
      set-agree (set rs 0 x) (set p.registers 0 x) 1 q y (set-count rs p.registers 0 x x is.registers_count)
      (λ not_second. set-agree rs p.registers 0 q x is.registers_count (λ not_first. is.values (register_variable q) live (ap₂ (λ a b. a || b) (ne_eqb q 0 not_first) (ne_eqb q 1 not_second))))

  -- after the result is stored, they agree in all live variables
  pub result-agrees : (x y : ℤ) → AgreeOnLive is_live (record p { registers = result_in x y p.registers }) (result_in x y rs) bs
  result-agrees x y = record {
    registers_count = set-count (set rs 0 x) (set p.registers 0 x) 1 y y (set-count rs p.registers 0 x x is.registers_count);
    buffer_length = is.buffer_length;
    values = by;
  }
    where
      by : (v : Variable) → is_live p.program p.line v → value_in (result_in x y rs) bs v ≡ value_in (result_in x y p.registers) p.buffer v
      by (register_variable q) live = result-register x y q live
      by (byte_variable k) live = is.values (byte_variable k) live refl

  -- and also after bytes are stored
  pub bytes-agree : (x y : ℤ) (bytes : Bytes)
      → AgreeOnLive is_live (record p { registers = result_in x y p.registers; buffer = bytes ++ drop (length bytes) p.buffer }) (result_in x y rs) (bytes ++ drop (length bytes) bs)
  bytes-agree x y bytes = record {
    registers_count = set-count (set rs 0 x) (set p.registers 0 x) 1 y y (set-count rs p.registers 0 x x is.registers_count);
    buffer_length = front-length bytes bs p.buffer is.buffer_length;
    values = by;
  }
    where
      of : (k : ℕ) → is_live p.program p.line (byte_variable k) → get_or bs k 0 ≡ get_or p.buffer k 0
      of k live = let both = is.values (byte_variable k) live refl in cc both

      by : (v : Variable) → is_live p.program p.line v → value_in (result_in x y rs) (bytes ++ drop (length bytes) bs) v ≡ value_in (result_in x y p.registers) (bytes ++ drop (length bytes) p.buffer) v
      by (register_variable q) live = result-register x y q live
      by (byte_variable k) live = ap pos (front-agree bytes bs p.buffer k (λ above. of k live))
