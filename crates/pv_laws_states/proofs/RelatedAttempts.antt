-- Attempts in two states, for any relation of attempts or of states.
use Rattle.std.proofs.Common.{◌≡◌, ℕ, Bool, true, false, not, List, Option, None, Some, IsFalse, refl, ap, sym, subst}
use Rattle.pv_model.specs.declared.errno.Errno.{Errno}
use Rattle.pv_model.specs.declared.errno.Errno.TheVariants.{EFBIG, ENOSPC}
use Rattle.pv_model.specs.declared.outcome.Cause.{Cause}
use Rattle.pv_model.specs.declared.outcome.Cause.TheVariants.{Plain}
use Rattle.pv_model.specs.Machine.{Attempt, done, refused, after_walks, ◌>>=◌, ◌>>◌, give, refuse_if, demand, Effect, Reply, answers, with_room, collect, is_too_long, fits, State, Walk}
use Rattle.pv_laws_states.specs.Courses.{is_of_table, IsAfter}

module _ (R : State → State → Type 0) where
  abbrev AreBothBy : Attempt Effect → Attempt Effect → Type 0
  AreBothBy (done w (x, r)) b = (y : State) × (b ≡ done w (y, r)) × R x y
  AreBothBy (refused w e c) b = b ≡ refused w e c

  -- both are refused in the same way, or both have the same reply and lead to related states
  pub record AreBoth (a b : Attempt Effect) : Type 0 where
    pub by : AreBothBy a b

  pub both-after : (m : ℕ) (a b : Attempt Effect) → AreBoth a b → AreBoth (after_walks m a) (after_walks m b)
  both-after m (done w (x, r)) b is = record { by = (is.by.0, ap (after_walks m) is.by.1, is.by.2) }
  both-after m (refused w e c) b is = record { by = ap (after_walks m) is.by }

  pub both-done : (n : ℕ) (r : Reply) (x y : State) → R x y → AreBoth (done n (x, r)) (done n (y, r))
  both-done n r x y is = record { by = (y, refl, is) }

  pub both-refused : (n : ℕ) (e : Errno) (c : Cause) → AreBoth (refused n e c) (refused n e c)
  both-refused n e c = record { by = refl }

  -- a check for room has the same result in related states, if these have the same tree after collection
  pub both-room : ((x y : State) → R x y → (collect y).tree ≡ (collect x).tree) → (x y : State) (n : ℕ) → R x y → AreBoth (with_room x >>= (λ roomy. answers roomy n)) (with_room y >>= (λ roomy. answers roomy n))
  both-room same-tree x y n is =
      let tree = same-tree x y is in
      subst (λ l. AreBoth (with_room x >>= (λ roomy. answers roomy n)) ((refuse_if EFBIG l >> (refuse_if ENOSPC (not (fits (collect y).tree)) >> give y)) >>= (λ roomy. answers roomy n))) (sym (ap is_too_long tree))
      (subst (λ m. AreBoth (with_room x >>= (λ roomy. answers roomy n)) ((refuse_if EFBIG (is_too_long (collect x).tree) >> (refuse_if ENOSPC (not m) >> give y)) >>= (λ roomy. answers roomy n))) (sym (ap fits tree))
      (by (is_too_long (collect x).tree) (fits (collect x).tree)))
    where
      by : (long fit : Bool) → AreBoth ((refuse_if EFBIG long >> (refuse_if ENOSPC (not fit) >> give x)) >>= (λ roomy. answers roomy n))
          ((refuse_if EFBIG long >> (refuse_if ENOSPC (not fit) >> give y)) >>= (λ roomy. answers roomy n))
      by true fit = record { by = refl }
      by false true = record { by = (y, refl, is) }
      by false false = record { by = refl }

-- ---- any relation of attempts

-- a relation of attempts, which may depend on the walks that are left, and which the checks of calls preserve
pub record KeptByChecks (B : List Walk → Attempt Effect → Attempt Effect → Type 0) : Type 0 where
  pub after : (ws : List Walk) (a b : Attempt Effect) → B ws a b → B ws (after_walks 0 a) (after_walks 0 b)
  pub refuses : (ws : List Walk) (e : Errno) (c : Cause) → IsFalse (is_of_table c) → B ws (refused 0 e c) (refused 0 e c)

module _ (B : List Walk → Attempt Effect → Attempt Effect → Type 0) (checks : KeptByChecks B) (ws : List Walk) where
  abbrev R : Attempt Effect → Attempt Effect → Type 0
  R = B ws

  -- checks that begin no walk and that the table does not refuse
  pub bound : {A : Type 0} (a b : Attempt A) → b ≡ a → IsAfter 0 a → (g h : A → Attempt Effect) → ((v : A) → a ≡ done 0 v → R (g v) (h v)) → R (a >>= g) (b >>= h)
  bound {A} a b same still g h is = subst (λ c. R (a >>= g) (c >>= h)) (sym same) (by a still is)
    where
      by : (a : Attempt A) → IsAfter 0 a → ((v : A) → a ≡ done 0 v → R (g v) (h v)) → R (a >>= g) (a >>= h)
      by (done w v) still is = subst (λ n. R (after_walks n (g v)) (after_walks n (h v))) (sym still) (checks.after ws (g v) (h v) (is v (ap (λ n. done n v) still)))
      by (refused w e c) still is = subst (λ n. R (refused n e c) (refused n e c)) (sym still.0) (checks.refuses ws e c still.1)

  pub following : {A : Type 0} (a b : Attempt A) → b ≡ a → IsAfter 0 a → (g h : Attempt Effect) → ((v : A) → a ≡ done 0 v → R g h) → R (a >> g) (b >> h)
  following {A} a b same still g h is = subst (λ c. R (a >> g) (c >> h)) (sym same) (by a still is)
    where
      by : (a : Attempt A) → IsAfter 0 a → ((v : A) → a ≡ done 0 v → R g h) → R (a >> g) (a >> h)
      by (done w v) still is = subst (λ n. R (after_walks n g) (after_walks n h)) (sym still) (checks.after ws g h (is v (ap (λ n. done n v) still)))
      by (refused w e c) still is = subst (λ n. R (refused n e c) (refused n e c)) (sym still.0) (checks.refuses ws e c still.1)

  pub tested : (e : Errno) (b c : Bool) → c ≡ b → (g h : Attempt Effect) → (IsFalse b → R g h) → R (refuse_if e b >> g) (refuse_if e c >> h)
  tested e b c same g h is = subst (λ d. R (refuse_if e b >> g) (refuse_if e d >> h)) (sym same) (by b is)
    where
      by : (b : Bool) → (IsFalse b → R g h) → R (refuse_if e b >> g) (refuse_if e b >> h)
      by true is = checks.refuses ws e Plain refl
      by false is = checks.after ws g h (is refl)

  pub demanded : {A : Type 0} (e : Errno) (o q : Option A) → q ≡ o → (g h : A → Attempt Effect) → ((v : A) → o ≡ Some v → R (g v) (h v)) → R (demand e o >>= g) (demand e q >>= h)
  demanded {A} e o q same g h is = subst (λ r. R (demand e o >>= g) (demand e r >>= h)) (sym same) (by o is)
    where
      by : (o : Option A) → ((v : A) → o ≡ Some v → R (g v) (h v)) → R (demand e o >>= g) (demand e o >>= h)
      by None is = checks.refuses ws e Plain refl
      by (Some v) is = checks.after ws (g v) (h v) (is v refl)

-- a relation of attempts that every check preserves
pub record KeptByAll (A : Attempt Effect → Attempt Effect → Type 0) : Type 0 where
  pub after : (n : ℕ) (a b : Attempt Effect) → A a b → A (after_walks n a) (after_walks n b)
  pub refuses : (n : ℕ) (e : Errno) (c : Cause) → A (refused n e c) (refused n e c)

pub kept-by-checks : (A : Attempt Effect → Attempt Effect → Type 0) → KeptByAll A → KeptByChecks (λ ws. A)
kept-by-checks A all = record { after = λ ws a b. all.after 0 a b; refuses = λ ws e c other. all.refuses 0 e c }

module _ (A : Attempt Effect → Attempt Effect → Type 0) (all : KeptByAll A) where
  pub all-bind : {V : Type 0} (a b : Attempt V) → b ≡ a → (g h : V → Attempt Effect) → ((v : V) → A (g v) (h v)) → A (a >>= g) (b >>= h)
  all-bind {V} a b same g h is = subst (λ c. A (a >>= g) (c >>= h)) (sym same) (by a is)
    where
      by : (a : Attempt V) → ((v : V) → A (g v) (h v)) → A (a >>= g) (a >>= h)
      by (done w v) is = all.after w (g v) (h v) (is v)
      by (refused w e c) is = all.refuses w e c

  pub all-then : {V : Type 0} (a b : Attempt V) → b ≡ a → (g h : Attempt Effect) → A g h → A (a >> g) (b >> h)
  all-then {V} a b same g h is = subst (λ c. A (a >> g) (c >> h)) (sym same) (by a)
    where
      by : (a : Attempt V) → A (a >> g) (a >> h)
      by (done w v) = all.after w g h is
      by (refused w e c) = all.refuses w e c

pub both-kept : (R : State → State → Type 0) → KeptByAll (AreBoth R)
both-kept R = record { after = both-after R; refuses = both-refused R }
