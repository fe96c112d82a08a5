-- Breadth-first search: properties of all visited elements, their order, and the order of their moves.
use Rattle.std.proofs.Common.{◌≡◌, ◌∙◌, sym, ap, subst, ℕ, zero, suc, ◌+◌, ◌<◌, ◌≤◌, Bool, true, false, ◌||◌, if◌then◌else◌, nat_le, List, [], ◌∷◌, ◌++◌, length, length-append, append_assoc, append-nil, fold, flat_map, slice_get, Option, None, Some, ◌⊎◌, inl, inr, refl, arith}
use Rattle.std.specs.List.{AllByRecursion}
use Rattle.std.proofs.lemmas.Bool.Decides.{nat_tests}
use Rattle.pv_model.specs.Answers.Search.{with_element, elements_after, elements_from, search}
use Rattle.pv_laws_answers.specs.Witnesses.{EachToLater}
use Rattle.pv_laws_answers.proofs.Lists.{Among, among-left, among-right, each-among, each-from_among, each-append, each-weaker, get-past, get-seam}
use Rattle.pv_laws_answers.proofs.WitnessOrders.{to_later-append}

pub fold-append : {S X : Type 0} (f : S → X → S) (s : S) (xs ys : List X) → fold f s (xs ++ ys) ≡ fold f (fold f s xs) ys
fold-append f s [] ys = refl
fold-append f s (x ∷ xs) ys = fold-append f (f s x) xs ys

get-among : {X : Type 0} (xs : List X) (k : ℕ) (x : X) → slice_get xs k ≡ Some x → Among x xs
get-among [] k x is = cc
get-among (y ∷ ys) zero x is = let e : y ≡ x = cc in inl (sym e)
get-among (y ∷ ys) (suc k) x is = inr (get-among ys k x is)

module _ {F M : Type 0} (moves_of : F → List M) (found_by : M → F) (is_known : M → List F → Bool) (limit : ℕ) where
  abbrev with_one : List F → M → List F
  with_one found m = with_element moves_of found_by is_known limit found m

  -- a move of the search, by cases
  move-cases : (found : List F) (m : M) (P : List F → Type 0)
      → (is_known m found ≡ true → P found) → (limit ≤ length found → P found) → (length found < limit → P (found ++ found_by m ∷ []))
      → P (with_one found m)
  move-cases found m P old full new = by (is_known m found) refl
    where
      room : (c : Bool) → nat_le limit (length found) ≡ c → P (if c then found else found ++ found_by m ∷ [])
      room true is = full (grind (arith, nat_tests))
      room false is = new (grind (arith, nat_tests))

      by : (b : Bool) → is_known m found ≡ b → P (if b || nat_le limit (length found) then found else found ++ found_by m ∷ [])
      by true is = old is
      by false is = room (nat_le limit (length found)) refl

  -- ---- a property that moves preserve holds for all visited elements

  module _ (P : F → Type 0) (preserved : (f : F) → P f → (m : M) → Among m (moves_of f) → P (found_by m)) where
    each-fold : (found : List F) (ms : List M) → AllByRecursion P found → AllByRecursion (λ m. P (found_by m)) ms → AllByRecursion P (fold with_one found ms)
    each-fold found [] all own = all
    each-fold found (m ∷ ms) all own =
        each-fold (with_one found m) ms
        (move-cases found m (AllByRecursion P) (λ _. all) (λ _. all) (λ _. each-append P found (found_by m ∷ []) all (own.0, tt))) own.1

    each-from : (steps k : ℕ) (found : List F) → AllByRecursion P found → AllByRecursion P (elements_from moves_of found_by is_known limit steps k found)
    each-from zero k found all = all
    each-from (suc steps) k found all = by (each-from steps (suc k)) (slice_get found k) refl
      where
        by : ((fs : List F) → AllByRecursion P fs → AllByRecursion P (elements_from moves_of found_by is_known limit steps (suc k) fs)) → (o : Option F) → slice_get found k ≡ o
            → AllByRecursion P (elements_after moves_of found_by is_known limit (elements_from moves_of found_by is_known limit steps (suc k)) found o)
        by later None is = all
        by later (Some f) is =
            let here = each-among P found all f (get-among found k f is) in
            later (fold with_one found (moves_of f))
            (each-fold found (moves_of f) all (each-from_among (λ m. P (found_by m)) (moves_of f) (λ m own. preserved f here m own)))

    pub each-found : (start : F) → P start → AllByRecursion P (search moves_of found_by is_known limit start)
    each-found start is = each-from limit 0 (start ∷ []) (is, tt)

  -- ---- the order of the search

  module _
      (size : F → ℕ) (Same : F → F → Type 0)
      (grows : (f : F) (m : M) → Among m (moves_of f) → size (found_by m) ≡ suc (size f))
      (known : (m : M) (found : List F) → is_known m found ≡ true → (g : F) × Among g found × Same g (found_by m))
      (itself : (f : F) → Same f f) where
    abbrev pub Rising : List F → Type 0
    Rising fs = EachToLater (λ f g. size f ≤ size g) fs

    abbrev AllUpTo : ℕ → List F → Type 0
    AllUpTo n fs = AllByRecursion (λ g. size g ≤ n) fs

    -- a move leads to an element that is visited with no greater size, or the limit is reached and no size is greater
    abbrev pub LeadsOn : List F → M → Type 0
    LeadsOn found m =
        ((g : F) × Among g found × Same g (found_by m) × (size g ≤ size (found_by m)))
        ⊎ ((limit ≤ length found) × AllUpTo (size (found_by m)) found)

    rising-more : (fs : List F) (x : F) → Rising fs → AllUpTo (size x) fs → Rising (fs ++ x ∷ [])
    rising-more fs x r b = to_later-append (λ f g. size f ≤ size g) fs (x ∷ []) r (tt, tt) (λ f h y k. by f y (each-among (λ g. size g ≤ size x) fs b f h) k)
      where
        by : (f y : F) → size f ≤ size x → Among y (x ∷ []) → size f ≤ size y
        by f y le (inl e) = subst (λ (z : F). size f ≤ size z) (sym e) le
        by f y le (inr k) = absurd k

    rising-seam : (done : List F) (f : F) (rest : List F) → Rising (done ++ f ∷ rest) → AllByRecursion (λ g. size f ≤ size g) rest
    rising-seam [] f rest r = r.0
    rising-seam (x ∷ done) f rest r = rising-seam done f rest r.1

    record Preserved (n : ℕ) (found : List F) : Type 0 where
      pub rising : Rising found
      pub under : AllUpTo n found
      pub count : length found ≤ limit

    record Made (n : ℕ) (found : List F) (ms : List M) (after : List F) : Type 0 where
      pub preserved : Preserved n after
      pub new : List F
      pub more : after ≡ found ++ new
      pub full : limit ≤ length found → after ≡ found
      pub leads : AllByRecursion (LeadsOn after) ms

    leads-preserved : (m : M) (found new : List F) (after : List F) → after ≡ found ++ new → (limit ≤ length found → after ≡ found) → LeadsOn found m → LeadsOn after m
    leads-preserved m found new after more full (inl h) = inl (h.0, subst (Among h.0) (sym more) (among-left h.0 found new h.1), h.2, h.3)
    leads-preserved m found new after more full (inr h) =
        inr (subst (λ (fs : List F). (limit ≤ length fs) × AllUpTo (size (found_by m)) fs) (sym (full h.0)) h)

    -- the moves of an element of size n - 1
    make : (n : ℕ) (ms : List M) (found : List F) → AllByRecursion (λ m. size (found_by m) ≡ n) ms → Preserved n found → Made n found ms (fold with_one found ms)
    make n [] found sizes it = record { preserved = it; new = []; more = sym (append-nil found); full = λ _. refl; leads = tt }
    make n (m ∷ ms) found sizes it =
        move-cases found m (λ fs. Made n found (m ∷ ms) (fold with_one fs ms))
        (λ is. let there = known m found is in
        same (make n ms found sizes.1 it) (inl (there.0, there.1, there.2, subst (λ (k : ℕ). size there.0 ≤ k) (sym sizes.0) (each-among (λ g. size g ≤ n) found it.under there.0 there.1))))
        (λ full. same (make n ms found sizes.1 it) (inr (full, subst (λ (k : ℕ). AllUpTo k found) (sym sizes.0) it.under)))
        (λ room.
        let rest = make n ms (found ++ found_by m ∷ []) sizes.1 (pushed room) in
        record {
          preserved = rest.preserved;
          new = found_by m ∷ rest.new;
          more = rest.more ∙ append_assoc found (found_by m ∷ []) rest.new;
          full = λ le. absurd (omega arith);
          leads = (leads-preserved m (found ++ found_by m ∷ []) rest.new _ rest.more rest.full (inl (found_by m, among-right (found_by m) found (found_by m ∷ []) (inl refl), itself (found_by m), omega arith)), rest.leads);
        })
      where
        pushed : length found < limit → Preserved n (found ++ found_by m ∷ [])
        pushed room = record {
          rising = rising-more found (found_by m) it.rising (subst (λ (k : ℕ). AllUpTo k found) (sym sizes.0) it.under);
          under = each-append (λ g. size g ≤ n) found (found_by m ∷ []) it.under (omega (arith, sizes.0), tt);
          count = omega (arith, length-append found (found_by m ∷ []));
        }

        same : {after : List F} → Made n found ms after → LeadsOn found m → Made n found (m ∷ ms) after
        same {after} rest leads =
            record { preserved = rest.preserved; new = rest.new; more = rest.more; full = rest.full; leads = (leads-preserved m found rest.new after rest.more rest.full leads, rest.leads) }

    -- no visited element is greater than those that the next element's moves lead to
    abbrev UnderNext : List F → List F → Type 0
    UnderNext [] found = Unit {0}
    UnderNext (f ∷ fs) found = AllUpTo (suc (size f)) found

    -- the visited elements, whose moves are made for some and not yet for others
    record Searching (k : ℕ) (found done rest : List F) : Type 0 where
      pub parts : found ≡ done ++ rest
      pub at : k ≡ length done
      pub rising : Rising found
      pub count : length found ≤ limit
      pub under : UnderNext rest found
      pub leads : AllByRecursion (λ f. AllByRecursion (LeadsOn found) (moves_of f)) done

    -- the visited elements when all moves are made: the moves from the others, made again, lead to them
    pub record Finished (begin done found : List F) : Type 0 where
      pub rising : Rising found
      pub leads : AllByRecursion (λ f. AllByRecursion (LeadsOn found) (moves_of f)) found
      pub more : (new : List F) × (found ≡ begin ++ new)
      pub others : List F
      pub parts : found ≡ done ++ others
      pub again : fold with_one begin (flat_map moves_of others) ≡ found

    ended : (k : ℕ) (found done : List F) → Searching k found done [] → Finished found done found
    ended k found done it = record {
      rising = it.rising;
      leads = subst (λ (fs : List F). AllByRecursion (λ f. AllByRecursion (LeadsOn found) (moves_of f)) fs) (sym (it.parts ∙ append-nil done)) it.leads;
      more = ([], sym (append-nil found));
      others = [];
      parts = it.parts;
      again = refl;
    }

    next-made : (k : ℕ) (found done : List F) (f : F) (rest : List F) → Searching k found done (f ∷ rest)
        → (new : List F) × Searching (suc k) (fold with_one found (moves_of f)) (done ++ f ∷ []) (rest ++ new) × (fold with_one found (moves_of f) ≡ found ++ new)
    next-made k found done f rest it =
        let made = make (suc (size f)) (moves_of f) found (each-from_among (λ m. size (found_by m) ≡ suc (size f)) (moves_of f) (grows f)) (record { rising = it.rising; under = it.under; count = it.count }) in
        let after = fold with_one found (moves_of f) in
        let parts : after ≡ done ++ f ∷ (rest ++ made.new) = made.more ∙ ap (λ fs. fs ++ made.new) it.parts ∙ append_assoc done (f ∷ rest) made.new in (
          made.new,
          record {
            parts = parts ∙ sym (append_assoc done (f ∷ []) (rest ++ made.new));
            at = let e = it.at in omega (arith, length-append done (f ∷ []));
            rising = made.preserved.rising;
            count = made.preserved.count;
            under = under-next (rest ++ made.new) after (rising-seam done f (rest ++ made.new) (subst Rising parts made.preserved.rising)) made.preserved.under;
            leads = each-append (λ g. AllByRecursion (LeadsOn after) (moves_of g)) done (f ∷ [])
                (each-weaker (λ g. AllByRecursion (LeadsOn found) (moves_of g)) (λ g. AllByRecursion (LeadsOn after) (moves_of g))
                (λ g. each-weaker (LeadsOn found) (LeadsOn after) (λ m. leads-preserved m found made.new after made.more made.full) (moves_of g)) done it.leads)
                (made.leads, tt);
          },
          made.more,
        )
      where
        under-next : (rest after : List F) → AllByRecursion (λ g. size f ≤ size g) rest → AllUpTo (suc (size f)) after → UnderNext rest after
        under-next [] after rising under = tt
        under-next (g ∷ rest) after rising under = each-weaker (λ h. size h ≤ suc (size f)) (λ h. size h ≤ suc (size g)) (λ h le. omega (arith, rising.0)) after under

    then-more : (found done : List F) (f : F) (new last : List F) → fold with_one found (moves_of f) ≡ found ++ new
        → Finished (fold with_one found (moves_of f)) (done ++ f ∷ []) last → Finished found done last
    then-more found done f new last is it = record {
      rising = it.rising;
      leads = it.leads;
      more = (new ++ it.more.0, it.more.1 ∙ ap (λ fs. fs ++ it.more.0) is ∙ append_assoc found new it.more.0);
      others = f ∷ it.others;
      parts = it.parts ∙ append_assoc done (f ∷ []) it.others;
      again = fold-append with_one found (moves_of f) (flat_map moves_of it.others) ∙ it.again;
    }

    searched : (steps k : ℕ) (found done rest : List F) → Searching k found done rest → limit ≤ steps + k → Finished found done (elements_from moves_of found_by is_known limit steps k found)
    searched zero k found done [] it enough = ended k found done it
    searched zero k found done (f ∷ rest) it enough = absurd (let e = it.at in omega (arith, ap length it.parts, length-append done (f ∷ rest), it.count))
    searched (suc steps) k found done [] it enough =
        subst (λ (o : Option F). Finished found done (elements_after moves_of found_by is_known limit (elements_from moves_of found_by is_known limit steps (suc k)) found o)) (sym past) (ended k found done it)
      where
        past : slice_get found k ≡ None
        past = ap (λ fs. slice_get fs k) (it.parts ∙ append-nil done) ∙ ap (slice_get done) it.at ∙ get-past done
    searched (suc steps) k found done (f ∷ rest) it enough =
        let next = next-made k found done f rest it in
        let last = searched steps (suc k) (fold with_one found (moves_of f)) (done ++ f ∷ []) (rest ++ next.0) next.1 (omega arith) in
        subst (λ (o : Option F). Finished found done (elements_after moves_of found_by is_known limit (elements_from moves_of found_by is_known limit steps (suc k)) found o)) (sym here) (then-more found done f next.0 _ next.2 last)
      where
        here : slice_get found k ≡ Some f
        here = ap (λ fs. slice_get fs k) it.parts ∙ ap (slice_get (done ++ f ∷ rest)) it.at ∙ get-seam done f rest

    -- the whole search
    pub finished : (start : F) → 1 ≤ limit → Finished (start ∷ []) [] (search moves_of found_by is_known limit start)
    finished start room = searched limit 0 (start ∷ []) [] (start ∷ []) (record {
      parts = refl;
      at = refl;
      rising = (tt, tt);
      count = room;
      under = (omega arith, tt);
      leads = tt;
    }) (omega arith)

    -- the moves made again lead to the visited elements
    pub made-again : (start : F) → 1 ≤ limit
        → fold with_one (start ∷ []) (flat_map moves_of (search moves_of found_by is_known limit start)) ≡ search moves_of found_by is_known limit start
    made-again start room =
        let it = finished start room in
        ap (λ fs. fold with_one (start ∷ []) (flat_map moves_of fs)) it.parts ∙ it.again
