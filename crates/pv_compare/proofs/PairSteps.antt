-- Steps in both states of a pair, and the search, step by step.
use Rattle.std.proofs.Common.{◌≡◌, ◌∙◌, sym, ap, ap₂, ℕ, zero, suc, ◌+◌, ◌-◌, ◌<◌, ◌≤◌, Bool, true, false, not, ◌&&◌, ◌||◌, if◌then◌else◌, nat_le, bytes_eq, List, [], ◌∷◌, ◌++◌, length, map, option_map, slice_get, None, Some, add-one, append_assoc, append-nil, refl, arith}
use Rattle.std.specs.List.{list_any}
use Rattle.std.proofs.lemmas.List.{length-map, map-append}
use Rattle.std.proofs.lemmas.Option.{slice_get-map}
use Rattle.pv_compare.specs.Observing.{compared_texts, has_note, mark_if, texts_differ}
use Rattle.pv_compare.specs.Pairs.{Extends, PairsFound, found_in, is_visited, move_in, pair_in, visited}
use Rattle.pv_compare.specs.Plan.{compared_moves, compared_pairs}
use Rattle.pv_compare.specs.Stopping.{is_left_out, result_at}
use Rattle.pv_model.specs.Machine.{Comparison, FoundPair, PairMove, alike, different, differs, pair_moves, Bytes, program_of, State, process_at, Run, Stepped, step, run, trace_bytes}
use Rattle.pv_model.specs.Answers.Compare.{pair_found_by, is_pair_found, is_restraint, same_pair}
use Rattle.pv_model.specs.Answers.Search.{with_element}
use Rattle.pv_model.proofs.RunComposition.{run-append}

-- ---- texts

marked-is : (text : Bytes) (b : Bool) → has_note (text ∷ mark_if b) ≡ b
marked-is text true = refl
marked-is text false = refl

pub texts-differ : (s t : State) (pid : ℕ) (a b : Stepped)
    → texts_differ (compared_texts s pid a) (compared_texts t pid b)
    ≡ (not (is_restraint (process_at s pid) && is_restraint (process_at t pid)) && not (bytes_eq (trace_bytes a.lines) (trace_bytes b.lines)))
texts-differ s t pid a b =
    ap₂ (λ x y. not (x && y) && not (bytes_eq (trace_bytes a.lines) (trace_bytes b.lines)))
    (marked-is (trace_bytes a.lines) (is_restraint (process_at s pid))) (marked-is (trace_bytes b.lines) (is_restraint (process_at t pid)))

-- ---- a step

pub after-is : (s : State) (witness : List ℕ) (pid : ℕ) → (step program_of (run program_of witness s).final pid).after ≡ (run program_of (witness ++ pid ∷ []) s).final
after-is s witness pid = ap (λ (r : Run). r.final) (sym (run-append program_of witness (pid ∷ []) s))

module _ (p : PairsFound) (witness : List ℕ) (pid : ℕ) where
  abbrev later : List ℕ
  later = witness ++ pid ∷ []

  abbrev moved : PairMove
  moved = move_in p witness pid

  found-is : pair_found_by moved ≡ pair_in p later
  found-is = λ i. record { witness = later; states = record { first = after-is p.first witness pid i; second = after-is p.second witness pid i } }

  known-is : (found : List FoundPair) → is_pair_found moved found ≡ is_visited (pair_in p later) found
  known-is found = ap (λ (f : FoundPair). list_any (λ g. same_pair g.states f.states) found) found-is

  module _ (limit : ℕ) where
    abbrev full : Bool
    full = nat_le limit (length p.witnesses)

    full-is : nat_le limit (length (found_in p)) ≡ full
    full-is = ap (nat_le limit) (length-map p.witnesses (pair_in p))

    abbrev chosen : Bool → Bool → PairsFound
    chosen a b = if a then p else if b then record p { complete = false } else record p { witnesses = p.witnesses ++ later ∷ [] }

    found-visited : found_in (visited limit p later) ≡ with_element (pair_moves program_of) pair_found_by is_pair_found limit (found_in p) moved
    found-visited =
        by (is_visited (pair_in p later) (found_in p)) full
        ∙ sym (ap₂ (λ a b. if a || b then found_in p else found_in p ++ pair_found_by moved ∷ []) (known-is (found_in p)) full-is)
      where
        by : (a b : Bool) → found_in (chosen a b) ≡ (if a || b then found_in p else found_in p ++ pair_found_by moved ∷ [])
        by true b = refl
        by false true = refl
        by false false = map-append (pair_in p) p.witnesses (later ∷ []) ∙ ap (λ (f : FoundPair). found_in p ++ f ∷ []) (sym found-is)

    and-true : (c : Bool) → c ≡ (c && true)
    and-true true = refl
    and-true false = refl

    and-false : (c : Bool) → false ≡ (c && false)
    and-false true = refl
    and-false false = refl

    complete-visited : (visited limit p later).complete
        ≡ (p.complete && not (is_left_out (pair_moves program_of) pair_found_by is_pair_found limit differs different alike (found_in p) moved))
    complete-visited =
        by (is_visited (pair_in p later) (found_in p)) full
        ∙ sym (ap₂ (λ a b. p.complete && not (if a then false else b)) (known-is (found_in p)) full-is)
      where
        by : (a b : Bool) → (chosen a b).complete ≡ (p.complete && not (if a then false else b))
        by true b = and-true p.complete
        by false true = and-false p.complete
        by false false = and-true p.complete

    module _ (rest : List FoundPair → Bool → Comparison) (ms : List PairMove) where
      -- a step that does not differ
      pub moved-none : (new : PairsFound) → differs moved ≡ false → new ≡ visited limit p later
          → compared_moves program_of limit rest (found_in p) p.complete (moved ∷ ms) ≡ compared_moves program_of limit rest (found_in new) new.complete ms
      moved-none new is new_is =
          ap (λ b. if b then different moved (length (found_in p)) else compared_moves program_of limit rest (with_element (pair_moves program_of) pair_found_by is_pair_found limit (found_in p) moved)
          (p.complete && not (is_left_out (pair_moves program_of) pair_found_by is_pair_found limit differs different alike (found_in p) moved)) ms) is
          ∙ ap₂ (λ found complete. compared_moves program_of limit rest found complete ms) (sym found-visited) (sym complete-visited)
          ∙ ap (λ (q : PairsFound). compared_moves program_of limit rest (found_in q) q.complete ms) (sym new_is)

      -- a step that differs
      pub moved-some : differs moved ≡ true → compared_moves program_of limit rest (found_in p) p.complete (moved ∷ ms) ≡ different moved (length p.witnesses)
      moved-some is =
          ap (λ b. if b then different moved (length (found_in p)) else compared_moves program_of limit rest (with_element (pair_moves program_of) pair_found_by is_pair_found limit (found_in p) moved)
          (p.complete && not (is_left_out (pair_moves program_of) pair_found_by is_pair_found limit differs different alike (found_in p) moved)) ms) is
          ∙ ap (different moved) (length-map p.witnesses (pair_in p))

    -- more pairs
    pub visited-extends : Extends p (visited limit p later)
    visited-extends = by (is_visited (pair_in p later) (found_in p)) full
      where
        by : (a b : Bool) → Extends p (chosen a b)
        by true b = record { first = refl; second = refl; more = []; witnesses = sym (append-nil p.witnesses) }
        by false true = record { first = refl; second = refl; more = []; witnesses = sym (append-nil p.witnesses) }
        by false false = record { first = refl; second = refl; more = later ∷ []; witnesses = refl }

-- ---- more pairs

pub extends-none : (p : PairsFound) → Extends p p
extends-none p = record { first = refl; second = refl; more = []; witnesses = sym (append-nil p.witnesses) }

pub extends-then : (p q r : PairsFound) → Extends p q → Extends q r → Extends p r
extends-then p q r first second = record {
  first = second.first ∙ first.first;
  second = second.second ∙ first.second;
  more = first.more ++ second.more;
  witnesses = second.witnesses ∙ ap (λ ws. ws ++ second.more) first.witnesses ∙ append_assoc p.witnesses first.more second.more;
}

-- ---- the search, pair by pair

module _ (limit : ℕ) where
  abbrev pub compared_left : ℕ → List FoundPair → Bool → Comparison
  compared_left k found complete = compared_pairs program_of limit (limit - k) k found complete

  pub left-next : (k : ℕ) (found : List FoundPair) (complete : Bool) (f : FoundPair) → k < limit → slice_get found k ≡ Some f
      → compared_left k found complete ≡ compared_moves program_of limit (λ now all. compared_left (k + 1) now all) found complete (pair_moves program_of f)
  left-next k found complete f within at =
      let more : limit - k ≡ suc (limit - (k + 1)) = omega (arith, within) in
      ap (λ n. compared_pairs program_of limit n k found complete) more
      ∙ ap (λ o. result_at (pair_moves program_of) pair_found_by is_pair_found limit differs different alike (compared_pairs program_of limit (limit - (k + 1)) (suc k)) found complete o) at
      ∙ ap (λ n. compared_moves program_of limit (λ now all. compared_pairs program_of limit (limit - (k + 1)) n now all) found complete (pair_moves program_of f)) (sym (add-one k))

  pub left-none : (k : ℕ) (found : List FoundPair) (complete : Bool) → k < limit → slice_get found k ≡ None → compared_left k found complete ≡ alike complete (length found)
  left-none k found complete within at =
      let more : limit - k ≡ suc (limit - (k + 1)) = omega (arith, within) in
      ap (λ n. compared_pairs program_of limit n k found complete) more
      ∙ ap (λ o. result_at (pair_moves program_of) pair_found_by is_pair_found limit differs different alike (compared_pairs program_of limit (limit - (k + 1)) (suc k)) found complete o) at

  pub left-end : (k : ℕ) (found : List FoundPair) (complete : Bool) → limit ≤ k → compared_left k found complete ≡ alike complete (length found)
  left-end k found complete past =
      let none : limit - k ≡ 0 = omega (arith, past) in
      ap (λ n. compared_pairs program_of limit n k found complete) none

-- the pair of a witness
pub pair-at : (p : PairsFound) (k : ℕ) (witness : List ℕ) → slice_get p.witnesses k ≡ Some witness → slice_get (found_in p) k ≡ Some (pair_in p witness)
pair-at p k witness is = slice_get-map (pair_in p) p.witnesses k ∙ ap (option_map (pair_in p)) is
