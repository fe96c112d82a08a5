-- The search of pairs as it is made: the steps of both machines in each visited pair, up to the first that differs.
use Rattle.std.specs.Prelude.{ℕ, Bool, true, List, [], ◌∷◌, map, Option}
use Rattle.pv_model.specs.Machine.{Comparison, FoundPair, PairMove, alike, different, differs, pair_moves, Bytes, Program, State, run}
use Rattle.pv_model.specs.Answers.Compare.{pair_found_by, is_pair_found}
use Rattle.pv_compare.specs.Stopping.{result_from, result_of_moves}

module _ (program_of : Bytes → Option Program) (s t : State) where
  -- the pair at the end of a schedule
  abbrev pub pair_at : List ℕ → FoundPair
  pair_at witness = record { witness = witness; states = record { first = (run program_of witness s).final; second = (run program_of witness t).final } }

  abbrev pub pairs_at : List (List ℕ) → List FoundPair
  pairs_at witnesses = map pair_at witnesses

module _ (program_of : Bytes → Option Program) (limit : ℕ) where
  -- the comparison of the steps from at most `pairs` more pairs, beginning with number k
  abbrev pub compared_pairs : ℕ → ℕ → List FoundPair → Bool → Comparison
  compared_pairs pairs k found complete = result_from (pair_moves program_of) pair_found_by is_pair_found limit differs different alike pairs k found complete

  -- the comparison of steps in sequence, then of the rest
  abbrev pub compared_moves : (List FoundPair → Bool → Comparison) → List FoundPair → Bool → List PairMove → Comparison
  compared_moves rest found complete ms = result_of_moves (pair_moves program_of) pair_found_by is_pair_found limit differs different alike rest found complete ms

  abbrev pub planned : State → State → Comparison
  planned s t = compared_pairs limit 0 (pair_at program_of s t [] ∷ []) true
