-- A breadth-first search, step by step, and its invariant, for any steps from a visited state, any function that gives the
-- class of a visited state, and a test whether two are of one class.
use Rattle.std.proofs.Common.{◌≡◌, ◌≢◌, ◌↔◌, ◌∙◌, sym, ap, subst, ℕ, zero, suc, ◌+◌, ◌<◌, ◌≤◌, Bool, true, false, ◌||◌, if◌then◌else◌, nat_le, List, [], ◌∷◌, ◌++◌, length, length-append, append_assoc, append-nil, fold, slice_get, Option, None, Some, ◌⊎◌, inl, inr, refl, arith}
use Rattle.std.specs.List.{AllByRecursion, list_any}
use Rattle.std.proofs.lemmas.Bool.Decides.{nat_tests}
use Rattle.pv_model.specs.Machine.{Found, Move, found_by, State}
use Rattle.pv_model.specs.Answers.Search
use Rattle.pv_laws_answers.specs.Witnesses.{IsEarlierWitness, IsNoLaterWitness, EachToLater}
use Rattle.pv_laws_answers.proofs.Lists.{Among, among-left, among-right, each-among, each-append, each-weaker, each-from_among, among-any, none-among, get-past, get-seam}
use Rattle.pv_laws_answers.proofs.Witnesses.{before-then, before-one_more, before-last}

module _ (same : Found → Found → Bool) where
  -- whether a step leads to the class of a visited state
  abbrev pub is_known : Move → List Found → Bool
  is_known m found = list_any (λ f. same f (found_by m)) found

  module _ (moves : Found → List Move) (limit : ℕ) where
    abbrev pub with_move : List Found → Move → List Found
    with_move found m = Search.with_element moves found_by is_known limit found m

    abbrev pub found_after : (List Found → List Found) → List Found → Option Found → List Found
    found_after rest found f = Search.elements_after moves found_by is_known limit rest found f

    abbrev pub found_from : ℕ → ℕ → List Found → List Found
    found_from states k found = Search.elements_from moves found_by is_known limit states k found

    -- one state of each class that steps reach from a state, in breadth-first order, up to the limit
    unfoldable pub visited : State → List Found
    visited s = found_from limit 0 (record { witness = []; state = s } ∷ [])

-- each witness comes before those after it
abbrev pub Rising : List Found → Type 0
Rising fs = EachToLater (λ f g. IsEarlierWitness f.witness g.witness) fs

-- the steps after a witness, by ascending process number, from a number on
abbrev pub Ascending : List ℕ → ℕ → List Move → Type 0
Ascending w low [] = Unit {0}
Ascending w low (m ∷ ms) = (m.witness ≡ w ++ m.pid ∷ []) × (low ≤ m.pid) × Ascending w (suc m.pid) ms

-- each witness comes before any witness extended by one step
abbrev pub Under : List ℕ → List Found → Type 0
Under w found = AllByRecursion (λ g. (p : ℕ) → IsEarlierWitness g.witness (w ++ p ∷ [])) found

-- or before those extended by a process number of at least this
abbrev UnderFrom : ℕ → List ℕ → List Found → Type 0
UnderFrom low w found = AllByRecursion (λ g. (p : ℕ) → low ≤ p → IsEarlierWitness g.witness (w ++ p ∷ [])) found

rising-more : (fs : List Found) (x : Found) → Rising fs → AllByRecursion (λ g. IsEarlierWitness g.witness x.witness) fs → Rising (fs ++ x ∷ [])
rising-more [] x r b = (tt, tt)
rising-more (f ∷ fs) x r b = (each-append (λ g. IsEarlierWitness f.witness g.witness) fs (x ∷ []) r.0 (b.0, tt), rising-more fs x r.1 b.1)

rising-seam : (done : List Found) (f : Found) (rest : List Found) → Rising (done ++ f ∷ rest) → AllByRecursion (λ g. IsEarlierWitness f.witness g.witness) rest
rising-seam [] f rest r = r.0
rising-seam (x ∷ done) f rest r = rising-seam done f rest r.1

module _ {C : Type 0} (class_of : Found → C) where
  -- no class occurs twice
  abbrev pub Different : List Found → Type 0
  Different fs = EachToLater (λ f g. class_of f ≢ class_of g) fs

  different-more : (fs : List Found) (x : Found) → Different fs → AllByRecursion (λ g. class_of g ≢ class_of x) fs → Different (fs ++ x ∷ [])
  different-more [] x r b = (tt, tt)
  different-more (f ∷ fs) x r b = (each-append (λ g. class_of f ≢ class_of g) fs (x ∷ []) r.0 (b.0, tt), different-more fs x r.1 b.1)

  -- the test decides whether two visited states are of one class
  abbrev pub Decides : (Found → Found → Bool) → Type 0
  Decides same = (f g : Found) → (same f g ≡ true) ↔ (class_of f ≡ class_of g)

  module _ {same : Found → Found → Bool} (decides : Decides same) where
    -- no visited state is of the class of this step
    pub not-found : (m : Move) (found : List Found) → is_known same m found ≡ false → AllByRecursion (λ g. class_of g ≢ class_of (found_by m)) found
    not-found m found none =
        each-from_among (λ g. class_of g ≢ class_of (found_by m)) found (λ g in' alike.
        let yes : same g (found_by m) ≡ true = (decides g (found_by m)).1 alike in
        let no : same g (found_by m) ≡ false = none-among (λ (f : Found). same f (found_by m)) found none g in' in
        absurd (cc))

    pub class-there : (m : Move) (found : List Found) → is_known same m found ≡ true → (g : Found) × Among g found × (class_of g ≡ class_of (found_by m))
    class-there m found is =
        let there = among-any (λ (f : Found). same f (found_by m)) found is in
        (there.0, there.1, (decides there.0 (found_by m)).0 there.2)

  -- a step leads to the class of a state visited with no later witness, or the limit is reached and all witnesses are no later
  abbrev pub LeadsOn : ℕ → List Found → Move → Type 0
  LeadsOn limit found m =
      ((g : Found) × Among g found × (class_of g ≡ class_of (found_by m)) × IsNoLaterWitness g.witness m.witness)
      ⊎ ((limit ≤ length found) × AllByRecursion (λ g. IsNoLaterWitness g.witness m.witness) found)

  module _ (same : Found → Found → Bool) (decides : Decides same) (moves : Found → List Move) (limit : ℕ) where
    -- a step of the search, by cases
    move-cases : (found : List Found) (m : Move) (P : List Found → Type 0)
        → (is_known same m found ≡ true → P found) → (limit ≤ length found → P found)
        → (is_known same m found ≡ false → length found < limit → P (found ++ found_by m ∷ []))
        → P (with_move same moves limit found m)
    move-cases found m P old full new = by (is_known same m found) refl
      where
        room : (c : Bool) → nat_le limit (length found) ≡ c → is_known same m found ≡ false → P (if c then found else found ++ found_by m ∷ [])
        room true is none = full (grind (arith, nat_tests))
        room false is none = new none (grind (arith, nat_tests))

        by : (b : Bool) → is_known same m found ≡ b → P (if b || nat_le limit (length found) then found else found ++ found_by m ∷ [])
        by true is = old is
        by false is = room (nat_le limit (length found)) refl is

    module _ (IsSound : Found → Type 0) where
      -- the visited states during the steps after a witness, from a process number on
      record Preserved (low : ℕ) (w : List ℕ) (found : List Found) : Type 0 where
        pub sound : AllByRecursion IsSound found
        pub rising : Rising found
        pub different : Different found
        pub under : UnderFrom low w found
        pub count : length found ≤ limit

      -- the visited states after the steps after a witness
      record Made (w : List ℕ) (found : List Found) (ms : List Move) (after : List Found) : Type 0 where
        pub sound : AllByRecursion IsSound after
        pub rising : Rising after
        pub different : Different after
        pub under : (v : List ℕ) → IsEarlierWitness w v → Under v after
        pub count : length after ≤ limit
        pub new : List Found
        pub more : after ≡ found ++ new
        pub full : limit ≤ length found → after ≡ found
        pub leads : AllByRecursion (LeadsOn limit after) ms

      later : (low next : ℕ) (w : List ℕ) (found : List Found) → low ≤ next → Preserved low w found → Preserved next w found
      later low next w found le preserved = record {
        sound = preserved.sound;
        rising = preserved.rising;
        different = preserved.different;
        under = each-weaker (λ g. (p : ℕ) → low ≤ p → IsEarlierWitness g.witness (w ++ p ∷ [])) (λ g. (p : ℕ) → next ≤ p → IsEarlierWitness g.witness (w ++ p ∷ [])) (λ g h p n. h p (omega arith)) found preserved.under;
        count = preserved.count;
      }

      -- the next state of a step is added
      pushed : (low : ℕ) (w : List ℕ) (found : List Found) (m : Move) → m.witness ≡ w ++ m.pid ∷ [] → low ≤ m.pid → IsSound (found_by m)
          → is_known same m found ≡ false → length found < limit → Preserved low w found → Preserved (suc m.pid) w (found ++ found_by m ∷ [])
      pushed low w found m witness le sound none room preserved = record {
        sound = each-append IsSound found (found_by m ∷ []) preserved.sound (sound, tt);
        rising = rising-more found (found_by m) preserved.rising (each-weaker (λ g. (p : ℕ) → low ≤ p → IsEarlierWitness g.witness (w ++ p ∷ [])) (λ g. IsEarlierWitness g.witness m.witness) (λ g h. subst (λ (v : List ℕ). IsEarlierWitness g.witness v) (sym witness) (h m.pid le)) found preserved.under);
        different = different-more found (found_by m) preserved.different (not-found decides m found none);
        under = each-append (λ g. (p : ℕ) → suc m.pid ≤ p → IsEarlierWitness g.witness (w ++ p ∷ [])) found (found_by m ∷ []) (later low (suc m.pid) w found (omega arith) preserved).under
            ((λ p n. subst (λ (v : List ℕ). IsEarlierWitness v (w ++ p ∷ [])) (sym witness) (before-last m.pid p (omega arith) w)), tt);
        count = omega (arith, length-append found (found_by m ∷ []));
      }

      leads-preserved : (m : Move) (found new : List Found) (after : List Found) → after ≡ found ++ new → (limit ≤ length found → after ≡ found) → LeadsOn limit found m → LeadsOn limit after m
      leads-preserved m found new after more full (inl h) = inl (h.0, subst (Among h.0) (sym more) (among-left h.0 found new h.1), h.2, h.3)
      leads-preserved m found new after more full (inr h) = inr (subst (λ (fs : List Found). (limit ≤ length fs) × AllByRecursion (λ g. IsNoLaterWitness g.witness m.witness) fs) (sym (full h.0)) h)

      make : (ms : List Move) (low : ℕ) (w : List ℕ) (found : List Found) → Ascending w low ms → AllByRecursion (λ m. IsSound (found_by m)) ms → Preserved low w found
          → Made w found ms (fold (with_move same moves limit) found ms)
      make [] low w found ascending sound preserved = record {
        sound = preserved.sound;
        rising = preserved.rising;
        different = preserved.different;
        under = λ v before. each-weaker (λ g. (p : ℕ) → low ≤ p → IsEarlierWitness g.witness (w ++ p ∷ [])) (λ g. (p : ℕ) → IsEarlierWitness g.witness (v ++ p ∷ []))
            (λ g h p. before-then g.witness (w ++ low ∷ []) (v ++ p ∷ []) (h low (omega arith)) (before-one_more low p w v before)) found preserved.under;
        count = preserved.count;
        new = [];
        more = sym (append-nil found);
        full = λ _. refl;
        leads = tt;
      }
      make (m ∷ ms) low w found ascending sound preserved =
          move-cases found m (λ fs. Made w found (m ∷ ms) (fold (with_move same moves limit) fs ms))
          (λ is.
          let rest = make ms (suc m.pid) w found ascending.2 sound.1 (later low (suc m.pid) w found (omega arith) preserved) in
          let there = class-there decides m found is in
          known rest (inl (there.0, there.1, there.2, each-among (λ g. IsNoLaterWitness g.witness m.witness) found no_later there.0 there.1)))
          (λ full.
          let rest = make ms (suc m.pid) w found ascending.2 sound.1 (later low (suc m.pid) w found (omega arith) preserved) in
          known rest (inr (full, no_later)))
          (λ none room.
          let rest = make ms (suc m.pid) w (found ++ found_by m ∷ []) ascending.2 sound.1 (pushed low w found m ascending.0 ascending.1 sound.0 none room preserved) in
          record {
            sound = rest.sound;
            rising = rest.rising;
            different = rest.different;
            under = rest.under;
            count = rest.count;
            new = found_by m ∷ rest.new;
            more = rest.more ∙ append_assoc found (found_by m ∷ []) rest.new;
            full = λ le. absurd (omega arith);
            leads = (leads-preserved m (found ++ found_by m ∷ []) rest.new _ rest.more rest.full (inl (found_by m, among-right (found_by m) found (found_by m ∷ []) (inl refl), refl, inl refl)), rest.leads);
          })
        where
          no_later : AllByRecursion (λ g. IsNoLaterWitness g.witness m.witness) found
          no_later =
              each-weaker (λ g. (p : ℕ) → low ≤ p → IsEarlierWitness g.witness (w ++ p ∷ [])) (λ g. IsNoLaterWitness g.witness m.witness)
              (λ g h. inr (subst (λ (v : List ℕ). IsEarlierWitness g.witness v) (sym ascending.0) (h m.pid ascending.1))) found preserved.under

          known : {after : List Found} → Made w found ms after → LeadsOn limit found m → Made w found (m ∷ ms) after
          known {after} rest leads = record {
            sound = rest.sound;
            rising = rest.rising;
            different = rest.different;
            under = rest.under;
            count = rest.count;
            new = rest.new;
            more = rest.more;
            full = rest.full;
            leads = (leads-preserved m found rest.new after rest.more rest.full leads, rest.leads);
          }

      -- ---- the complete run of the search

      -- no witness comes after the steps of the next state
      abbrev pub UnderNext : List Found → List Found → Type 0
      UnderNext [] found = Unit {0}
      UnderNext (f ∷ fs) found = Under f.witness found

      -- the visited states, whose steps are made for some and not yet for others
      pub record Searching (k : ℕ) (found done rest : List Found) : Type 0 where
        pub parts : found ≡ done ++ rest
        pub at : k ≡ length done
        pub sound : AllByRecursion IsSound found
        pub rising : Rising found
        pub different : Different found
        pub count : length found ≤ limit
        pub under : UnderNext rest found
        pub leads : AllByRecursion (λ f. AllByRecursion (LeadsOn limit found) (moves f)) done

      -- the visited states when all steps are made
      pub record Finished (begin found : List Found) : Type 0 where
        pub sound : AllByRecursion IsSound found
        pub rising : Rising found
        pub different : Different found
        pub count : length found ≤ limit
        pub leads : AllByRecursion (λ f. AllByRecursion (LeadsOn limit found) (moves f)) found
        pub more : (new : List Found) × (found ≡ begin ++ new)

      ended : (k : ℕ) (found done : List Found) → Searching k found done [] → Finished found found
      ended k found done it = record {
        sound = it.sound;
        rising = it.rising;
        different = it.different;
        count = it.count;
        leads = subst (λ (fs : List Found). AllByRecursion (λ f. AllByRecursion (LeadsOn limit found) (moves f)) fs) (sym (it.parts ∙ append-nil done)) it.leads;
        more = ([], sym (append-nil found));
      }

      -- a sound state has sound steps, by ascending process number
      abbrev pub StepsAreSound : Type 0
      StepsAreSound = (f : Found) → IsSound f → Ascending f.witness 0 (moves f) × AllByRecursion (λ m. IsSound (found_by m)) (moves f)

      module _ (steps : StepsAreSound) where
        under-next : (w : List ℕ) (rest found : List Found) → AllByRecursion (λ g. IsEarlierWitness w g.witness) rest → ((v : List ℕ) → IsEarlierWitness w v → Under v found) → UnderNext rest found
        under-next w [] found rising under = tt
        under-next w (f ∷ fs) found rising under = under f.witness rising.0

        -- the steps of the next state
        next-made : (k : ℕ) (found done : List Found) (f : Found) (rest : List Found) → Searching k found done (f ∷ rest)
            → (new : List Found) × Searching (suc k) (fold (with_move same moves limit) found (moves f)) (done ++ f ∷ []) (rest ++ new)
            × (fold (with_move same moves limit) found (moves f) ≡ found ++ new)
        next-made k found done f rest it =
            let here = each-among IsSound found it.sound f (subst (Among f) (sym it.parts) (among-right f done (f ∷ rest) (inl refl))) in
            let own = steps f here in
            let made = make (moves f) 0 f.witness found own.0 own.1 (record {
              sound = it.sound;
              rising = it.rising;
              different = it.different;
              under = each-weaker (λ g. (p : ℕ) → IsEarlierWitness g.witness (f.witness ++ p ∷ [])) (λ g. (p : ℕ) → 0 ≤ p → IsEarlierWitness g.witness (f.witness ++ p ∷ [])) (λ g h p _. h p) found it.under;
              count = it.count;
            }) in
            let after = fold (with_move same moves limit) found (moves f) in
            let parts : after ≡ done ++ f ∷ (rest ++ made.new) = made.more ∙ ap (λ fs. fs ++ made.new) it.parts ∙ append_assoc done (f ∷ rest) made.new in (
              made.new,
              record {
                parts = parts ∙ sym (append_assoc done (f ∷ []) (rest ++ made.new));
                at = let e = it.at in omega (arith, length-append done (f ∷ []));
                sound = made.sound;
                rising = made.rising;
                different = made.different;
                count = made.count;
                under = under-next f.witness (rest ++ made.new) after (rising-seam done f (rest ++ made.new) (subst Rising parts made.rising)) made.under;
                leads = each-append (λ g. AllByRecursion (LeadsOn limit after) (moves g)) done (f ∷ [])
                    (each-weaker (λ g. AllByRecursion (LeadsOn limit found) (moves g)) (λ g. AllByRecursion (LeadsOn limit after) (moves g))
                    (λ g. each-weaker (LeadsOn limit found) (LeadsOn limit after) (λ m. leads-preserved m found made.new after made.more made.full) (moves g)) done it.leads)
                    (made.leads, tt);
              },
              made.more,
            )

        then-more : {begin found : List Found} (new : List Found) (last : List Found) → found ≡ begin ++ new → Finished found last → Finished begin last
        then-more {begin} {found} new last is it = record {
          sound = it.sound;
          rising = it.rising;
          different = it.different;
          count = it.count;
          leads = it.leads;
          more = (new ++ it.more.0, it.more.1 ∙ ap (λ fs. fs ++ it.more.0) is ∙ append_assoc begin new it.more.0);
        }

        pub searched : (states k : ℕ) (found done rest : List Found) → Searching k found done rest → limit ≤ states + k → Finished found (found_from same moves limit states k found)
        searched zero k found done [] it enough = ended k found done it
        searched zero k found done (f ∷ rest) it enough = absurd (let e = it.at in omega (arith, ap length it.parts, length-append done (f ∷ rest), it.count))
        searched (suc states) k found done [] it enough =
            subst (λ (o : Option Found). Finished found (found_after same moves limit (found_from same moves limit states (suc k)) found o)) (sym past) (ended k found done it)
          where
            past : slice_get found k ≡ None
            past = ap (λ fs. slice_get fs k) (it.parts ∙ append-nil done) ∙ ap (slice_get done) it.at ∙ get-past done
        searched (suc states) k found done (f ∷ rest) it enough =
            let next = next-made k found done f rest it in
            let last = searched states (suc k) (fold (with_move same moves limit) found (moves f)) (done ++ f ∷ []) (rest ++ next.0) next.1 (omega arith) in
            subst (λ (o : Option Found). Finished found (found_after same moves limit (found_from same moves limit states (suc k)) found o)) (sym here) (then-more next.0 _ next.2 last)
          where
            here : slice_get found k ≡ Some f
            here = ap (λ fs. slice_get fs k) it.parts ∙ ap (slice_get (done ++ f ∷ rest)) it.at ∙ get-seam done f rest
