-- The first missing promise, and the first keyword that is not held.
use Rattle.std.proofs.Common.{◌≡◌, ◌↔◌, ℕ, zero, suc, ◌+◌, ◌<◌, ◌≤◌, Bool, true, false, cond, not, ◌&&◌, if◌then◌else◌, List, [], ◌∷◌, ◌++◌, find, slice_get, Option, Some, refl, ap, sym, ◌∙◌, inl, inr, ⊎_elim, arith}
use Rattle.std.specs.Prelude.{Contains}
use Rattle.std.proofs.lemmas.Bool.{and_parts, and_from}
use Rattle.pv_model.specs.declared.call.Call.{Call}
use Rattle.pv_model.specs.declared.call.Call.TheVariants as TheCall
use Rattle.pv_model.specs.declared.open_flags.Mode.{Mode}
use Rattle.pv_model.specs.declared.open_flags.Mode.TheVariants.{Read as ReadMode, Write as WriteMode, ReadWrite}
use Rattle.pv_model.specs.declared.promise.Promise.{Promise}
use Rattle.pv_model.specs.declared.promise.Promise.TheVariants.{Stdio, Rpath, Wpath, Cpath, Proc, Exec, Unveil, Error, Dpath, Fattr, Chown, Flock, Unix, Inet, Mcast, Dns, Getpw, Sendfd, Recvfd, Tape, Tty, ProtExec, Settime, Ps, Vminfo, Id, Pf, Route, Wroute, Audio, Video, Bpf}
use Rattle.pv_model.specs.Machine.{needs, needs_of_mode, needs_cpath, all_promises, Promises, Need, contains, is_met, missing_promise}
use Rattle.pv_model.specs.Promise.{promise_bit}
use Rattle.pv_model.specs.Promises.{first_increase}
use Rattle.pv_laws_trees.proofs.ListMembers.{In}
use Rattle.pv_laws_access.specs.Promises.{IsFirstMissing, IsFirstIncrease}

-- ---- the order of promises

-- the index of each promise is its bit
at-bit : (b : Promise) → slice_get all_promises (promise_bit b) ≡ Some b
at-bit Stdio = refl
at-bit Rpath = refl
at-bit Wpath = refl
at-bit Cpath = refl
at-bit Proc = refl
at-bit Exec = refl
at-bit Unveil = refl
at-bit Error = refl
at-bit Dpath = refl
at-bit Fattr = refl
at-bit Chown = refl
at-bit Flock = refl
at-bit Unix = refl
at-bit Inet = refl
at-bit Mcast = refl
at-bit Dns = refl
at-bit Getpw = refl
at-bit Sendfd = refl
at-bit Recvfd = refl
at-bit Tape = refl
at-bit Tty = refl
at-bit ProtExec = refl
at-bit Settime = refl
at-bit Ps = refl
at-bit Vminfo = refl
at-bit Id = refl
at-bit Pf = refl
at-bit Route = refl
at-bit Wroute = refl
at-bit Audio = refl
at-bit Video = refl
at-bit Bpf = refl

one-bit : (a b : Promise) → promise_bit a ≡ promise_bit b → a ≡ b
one-bit a b same = let both : Some a ≡ Some b = sym (at-bit a) ∙ ap (slice_get all_promises) same ∙ at-bit b in cc both

-- promises in the order of their bits
abbrev AreFrom : ℕ → List Promise → Type 0
AreFrom k [] = Unit {0}
AreFrom k (p ∷ ps) = (promise_bit p ≡ k) × AreFrom (suc k) ps

all-from : AreFrom 0 all_promises
all-from = (refl, (refl, (refl, (refl, (refl, (refl, (refl, (refl, (refl, (refl, (refl, (refl, (refl, (refl, (refl, (refl, (refl, (refl, (refl, (refl, (refl, (refl, (refl, (refl, (refl, (refl, (refl, (refl, (refl, (refl, (refl, (refl, tt))))))))))))))))))))))))))))))))

bit-at : (k : ℕ) (ps : List Promise) → AreFrom k ps → (i : ℕ) (b : Promise) → slice_get ps i ≡ Some b → promise_bit b ≡ k + i
bit-at k [] order i b is = cc is
bit-at k (p ∷ ps) order zero b is = let same : p ≡ b = cc is in omega (arith, ap promise_bit same, order.0)
bit-at k (p ∷ ps) order (suc i) b is = omega (arith, bit-at (suc k) ps order.1 i b is)

module _ (test : Promise → Bool) (a : Promise) where
  -- the promise found passes, and none before it does
  found-first : (k : ℕ) (ps : List Promise) → AreFrom k ps → find test ps ≡ Some a → (test a ≡ true) × (k ≤ promise_bit a) × ((i : ℕ) (b : Promise) → slice_get ps i ≡ Some b → promise_bit b < promise_bit a → test b ≡ false)
  found-first k [] order is = cc is
  found-first k (p ∷ ps) order is = by (found-first (suc k) ps order.1) (test p) refl is
    where
      by : (find test ps ≡ Some a → (test a ≡ true) × (suc k ≤ promise_bit a) × ((i : ℕ) (b : Promise) → slice_get ps i ≡ Some b → promise_bit b < promise_bit a → test b ≡ false))
          → (c : Bool) → test p ≡ c → cond c (Some p) (find test ps) ≡ Some a
          → (test a ≡ true) × (k ≤ promise_bit a) × ((i : ℕ) (b : Promise) → slice_get (p ∷ ps) i ≡ Some b → promise_bit b < promise_bit a → test b ≡ false)
      by later true passes here =
          let same : p ≡ a = cc here in
          let bit : promise_bit a ≡ k = ap promise_bit (sym same) ∙ order.0 in
          (ap test (sym same) ∙ passes, omega (arith, bit), λ i b there less. absurd (omega (arith, bit-at k (p ∷ ps) order i b there, bit, less)))
      by later false fails there = let rest = later there in (rest.0, omega (arith, rest.1), before rest)
        where
          before : (test a ≡ true) × (suc k ≤ promise_bit a) × ((i : ℕ) (b : Promise) → slice_get ps i ≡ Some b → promise_bit b < promise_bit a → test b ≡ false)
              → (i : ℕ) (b : Promise) → slice_get (p ∷ ps) i ≡ Some b → promise_bit b < promise_bit a → test b ≡ false
          before rest zero b here less = let same : p ≡ b = cc here in ap test (sym same) ∙ fails
          before rest (suc i) b here less = rest.2 i b here less

  -- the first promise that passes is found
  first-found : (ps : List Promise) (i : ℕ) → slice_get ps i ≡ Some a → test a ≡ true → ((j : ℕ) (b : Promise) → j < i → slice_get ps j ≡ Some b → test b ≡ false) → find test ps ≡ Some a
  first-found [] i is passes none = cc is
  first-found (p ∷ ps) zero is passes none =
      let same : p ≡ a = cc is in
      ap (λ c. cond c (Some p) (find test ps)) (ap test same ∙ passes) ∙ ap Some same
  first-found (p ∷ ps) (suc i) is passes none =
      ap (λ c. cond c (Some p) (find test ps)) (none 0 p (omega arith) refl) ∙ first-found ps i is passes (λ j b less there. none (suc j) b (omega (arith, less)) there)

module _ (held asked : Promises) (a : Promise) where
  abbrev is_more : Promise → Bool
  is_more p = contains asked p && not (contains held p)

  more-parts : (p : Promise) → is_more p ≡ true → (contains asked p ≡ true) × (contains held p ≡ false)
  more-parts p is = let parts = and_parts (contains asked p) (not (contains held p)) is in (parts.0, negated (contains held p) parts.1)
    where
      negated : (b : Bool) → not b ≡ true → b ≡ false
      negated true is = cc is
      negated false is = refl

  no-more : (p : Promise) → is_more p ≡ false → contains asked p ≡ true → contains held p ≡ true
  no-more p is wanted = by (contains held p) refl
    where
      by : (b : Bool) → contains held p ≡ b → contains held p ≡ true
      by true has = has
      by false lacks = let both : (true && not false) ≡ false = (λ i. sym wanted i && not (sym lacks i)) ∙ is in cc both

  less-more : (p : Promise) → (contains asked p ≡ true → contains held p ≡ true) → is_more p ≡ false
  less-more p has = by (contains asked p) refl
    where
      by : (b : Bool) → contains asked p ≡ b → (b && not (contains held p)) ≡ false
      by true wanted = ap not (has wanted)
      by false none = refl

  increase-first : first_increase held asked ≡ Some a → IsFirstIncrease held asked a
  increase-first is =
      let found = found-first is_more a 0 all_promises all-from is in
      let parts = more-parts a found.0 in
      record { wanted = parts.0; not_held = parts.1; first = λ b less wanted. no-more b (found.2 (promise_bit b) b (at-bit b) less) wanted }

  first-increase : IsFirstIncrease held asked a → first_increase held asked ≡ Some a
  first-increase is =
      first-found is_more a all_promises (promise_bit a) (at-bit a) (and_from (contains asked a) (not (contains held a)) is.wanted (ap not is.not_held))
      (λ j b less there.
      let bit : promise_bit b ≡ j = omega (arith, bit-at 0 all_promises all-from j b there) in
      less-more b (is.first b (omega (arith, bit, less))))

  pub first-increase-named : (first_increase held asked ≡ Some a) ↔ IsFirstIncrease held asked a
  first-increase-named = (increase-first, first-increase)

-- ---- needs

contains-in : (X : Type 0) (xs : List X) (x : X) → Contains xs x → In X x xs
contains-in X [] x is = absurd (omega (arith, is.1))
contains-in X (y ∷ ys) x (zero, below, here) = inl here
contains-in X (y ∷ ys) x (suc k, below, there) = inr (contains-in X ys x (k, omega (arith, below), there))

in-contains : (X : Type 0) (xs : List X) (x : X) → In X x xs → Contains xs x
in-contains X [] x is = absurd is
in-contains X (y ∷ ys) x is = ⊎_elim (λ here. (0, omega arith, here)) (λ later. let found = in-contains X ys x later in (suc found.0, omega (arith, found.1), found.2)) is

-- each need names a promise, and no need begins with an earlier one than the previous need
abbrev Rises : List Need → Type 0
Rises [] = Unit {0}
Rises ([] ∷ ns) = ⊥
Rises ((p ∷ ps) ∷ ns) = ((b : Promise) (more : List Promise) → In Need (b ∷ more) ns → promise_bit p ≤ promise_bit b) × Rises ns

module _ (held : Option Promises) where
  abbrev Found : List Need → Promise → Type 0
  Found ns a =
      (others : List Promise) × In Need (a ∷ others) ns × (is_met held (a ∷ others) ≡ false)
      × ((b : Promise) (more : List Promise) → In Need (b ∷ more) ns → is_met held (b ∷ more) ≡ false → promise_bit a ≤ promise_bit b)

  missing-found : (ns : List Need) (a : Promise) → Rises ns → missing_promise held ns ≡ Some a → Found ns a
  missing-found [] a rises is = cc is
  missing-found ([] ∷ ns) a rises is = absurd rises
  missing-found ((p ∷ ps) ∷ ns) a rises is = by (missing-found ns a rises.1) (is_met held (p ∷ ps)) refl is
    where
      by : (missing_promise held ns ≡ Some a → Found ns a) → (c : Bool) → is_met held (p ∷ ps) ≡ c → (if c then missing_promise held ns else Some p) ≡ Some a → Found ((p ∷ ps) ∷ ns) a
      by later true met there =
          let rest = later there in (
            rest.0,
            inr rest.1,
            rest.2,
            λ b more among unmet. ⊎_elim (λ (here : (p ∷ ps) ≡ (b ∷ more)). let bad : true ≡ false = sym met ∙ ap (is_met held) here ∙ unmet in absurd (cc bad)) (λ (deeper : In Need (b ∷ more) ns). rest.3 b more deeper unmet) among,
          )
      by later false unmet here =
          let same : p ≡ a = cc here in (
            ps,
            inl (ap (λ q. q ∷ ps) same),
            ap (λ q. is_met held (q ∷ ps)) (sym same) ∙ unmet,
            λ b more among other. ⊎_elim (λ (first : (p ∷ ps) ≡ (b ∷ more)). let one : p ≡ b = cc first in omega (arith, ap promise_bit one, ap promise_bit same))
                (λ (deeper : In Need (b ∷ more) ns). omega (arith, rises.0 b more deeper, ap promise_bit same)) among,
          )

  -- an unmet need has a missing promise
  some-missing : (ns : List Need) → Rises ns → (b : Promise) (more : List Promise) → In Need (b ∷ more) ns → is_met held (b ∷ more) ≡ false → (a : Promise) × (missing_promise held ns ≡ Some a)
  some-missing [] rises b more among unmet = absurd among
  some-missing ([] ∷ ns) rises b more among unmet = absurd rises
  some-missing ((p ∷ ps) ∷ ns) rises b more among unmet = by (λ deeper. some-missing ns rises.1 b more deeper unmet) (is_met held (p ∷ ps)) refl
    where
      by : (In Need (b ∷ more) ns → (a : Promise) × (missing_promise held ns ≡ Some a)) → (c : Bool) → is_met held (p ∷ ps) ≡ c → (a : Promise) × ((if c then missing_promise held ns else Some p) ≡ Some a)
      by later true met = ⊎_elim (λ (here : (p ∷ ps) ≡ (b ∷ more)). let bad : true ≡ false = sym met ∙ ap (is_met held) here ∙ unmet in absurd (cc bad)) (λ (deeper : In Need (b ∷ more) ns). later deeper) among
      by later false none = (p, refl)

rises-last : (p : Promise) → Rises ((p ∷ []) ∷ [])
rises-last p = (λ b more among. absurd among, tt)

rises-before : (p q : Promise) (ns : List Need) → promise_bit p ≤ promise_bit q → Rises ((q ∷ []) ∷ ns) → Rises ((p ∷ []) ∷ (q ∷ []) ∷ ns)
rises-before p q ns less rest =
    (λ b more among. ⊎_elim (λ (same : (q ∷ []) ≡ (b ∷ more)). let one : q ≡ b = cc same in omega (arith, ap promise_bit one, less)) (λ (later : In Need (b ∷ more) ns). omega (arith, less, rest.0 b more later)) among, rest)

rises-mode : (m : Mode) (create : Bool) → Rises (needs_of_mode m ++ (if create then needs_cpath else []))
rises-mode ReadMode true = rises-before Rpath Cpath [] (omega arith) (rises-last Cpath)
rises-mode ReadMode false = rises-last Rpath
rises-mode WriteMode true = rises-before Wpath Cpath [] (omega arith) (rises-last Cpath)
rises-mode WriteMode false = rises-last Wpath
rises-mode ReadWrite true = rises-before Rpath Wpath ((Cpath ∷ []) ∷ []) (omega arith) (rises-before Wpath Cpath [] (omega arith) (rises-last Cpath))
rises-mode ReadWrite false = rises-before Rpath Wpath [] (omega arith) (rises-last Wpath)

rises-one : (p : Promise) (ps : List Promise) → Rises ((p ∷ ps) ∷ [])
rises-one p ps = (λ b more among. absurd among, tt)

rises : (call : Call) → Rises (needs call)
unfolding needs
rises (TheCall.Exit status) = tt
rises (TheCall.Pledge promises execpromises) = tt
rises TheCall.Fork = rises-one Proc []
rises (TheCall.Execve path) = rises-one Exec []
rises (TheCall.Unveil path permissions) = rises-one Unveil []
rises (TheCall.Open path flags) = rises-mode flags.mode flags.create
rises (TheCall.OpenAt start path flags) = rises-mode flags.mode flags.create
rises (TheCall.Chdir path) = rises-one Rpath []
rises (TheCall.Stat path) = rises-one Rpath (Wpath ∷ [])
rises (TheCall.Lstat path) = rises-one Rpath (Wpath ∷ [])
rises (TheCall.Readlink path) = rises-one Rpath (Wpath ∷ [])
rises (TheCall.Mkdir path) = rises-one Cpath []
rises (TheCall.Symlink text path) = rises-one Cpath []
rises (TheCall.Link path new) = rises-one Cpath []
rises (TheCall.Unlink path) = rises-one Cpath []
rises (TheCall.Rmdir path) = rises-one Cpath []
rises (TheCall.Rename path new) = rises-one Cpath []
rises call = rises-one Stdio []

module _ (held : Option Promises) (call : Call) (a : Promise) where
  missing-first : missing_promise held (needs call) ≡ Some a → IsFirstMissing held call a
  missing-first is =
      let found = missing-found held (needs call) a (rises call) is in
      record {
        others = found.0;
        asked = in-contains Need (needs call) (a ∷ found.0) found.1;
        unmet = found.2;
        first = λ b more among unmet. found.3 b more (contains-in Need (needs call) (b ∷ more) among) unmet;
      }

  first-missing : IsFirstMissing held call a → missing_promise held (needs call) ≡ Some a
  first-missing is =
      let some = some-missing held (needs call) (rises call) a is.others (contains-in Need (needs call) (a ∷ is.others) is.asked) is.unmet in
      let found = missing-found held (needs call) some.0 (rises call) some.1 in
      let low : promise_bit some.0 ≤ promise_bit a = found.3 a is.others (contains-in Need (needs call) (a ∷ is.others) is.asked) is.unmet in
      let high : promise_bit a ≤ promise_bit some.0 = is.first some.0 found.0 (in-contains Need (needs call) (some.0 ∷ found.0) found.1) found.2 in
      some.1 ∙ ap Some (one-bit some.0 a (omega arith))

  pub first-missing-named : (missing_promise held (needs call) ≡ Some a) ↔ IsFirstMissing held call a
  first-missing-named = (missing-first, first-missing)
