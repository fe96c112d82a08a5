-- `explore` reports observations.
use Rattle.std.proofs.Common.{◌≡◌, ◌∙◌, sym, ap, ℕ, Bool, true, false, ◌||◌, if◌then◌else◌, bytes_eq, List, [], ◌∷◌, ◌++◌, map, flat_map, length, refl}
use Rattle.std.specs.List.{list_any}
use Rattle.std.proofs.lemmas.Grind.{flat_map-append}
use Rattle.pv_model.specs.Machine.{Move, moves_of, states_found, elements_with_new_keys, move_text, endings, endings_line, AnswerLine, of_trace, Numbers, Observation, observed, is_empty, Line, trace_bytes}
use Rattle.pv_model.specs.Answers.Explore.{moves, move_lines, done_line, explore_lines}
use Rattle.pv_model.specs.Answers.Observed.{observation_lines}
use Rattle.pv_laws_answers.specs.Observed.{ExploreReportsObservations}

flat-flat : {X Y Z : Type 0} (g : Y → List Z) (h : X → List Y) (xs : List X) → flat_map (λ x. flat_map g (h x)) xs ≡ flat_map g (flat_map h xs)
flat-flat g h [] = refl
flat-flat g h (x ∷ xs) = ap (λ zs. flat_map g (h x) ++ zs) (flat-flat g h xs) ∙ sym (flat_map-append g (h x) (flat_map h xs))

-- a text is among texts and the empty one if it is empty or among the texts
any-empty : (had : List Numbers) → list_any (bytes_eq []) (had ++ [] ∷ []) ≡ true
any-empty [] = refl
any-empty ([] ∷ had) = refl
any-empty ((n ∷ ns) ∷ had) = any-empty had

any-some : (k : ℕ) (ks : Numbers) (had : List Numbers) → list_any (bytes_eq (k ∷ ks)) (had ++ [] ∷ []) ≡ list_any (bytes_eq (k ∷ ks)) had
any-some k ks [] = refl
any-some k ks (h ∷ had) = ap (λ b. bytes_eq (k ∷ ks) h || b) (any-some k ks had)

abbrev key : Observation (List Line) → Numbers
key o = trace_bytes o.item

abbrev of_move : Move → List (Observation (List Line))
of_move m = map (observed m) (if is_empty (move_text m) then [] else m.stepped.lines ∷ [])

abbrev reported_lines : List (Observation (List Line)) → List AnswerLine
reported_lines os = flat_map (observation_lines (map of_trace)) os

abbrev IsReportedFrom : List Move → List Numbers → Type 0
IsReportedFrom ms had = flat_map move_lines (elements_with_new_keys move_text (had ++ [] ∷ []) ms) ≡ reported_lines (elements_with_new_keys key had (flat_map of_move ms))

module _ (m : Move) (ms : List Move) (had : List Numbers) where
  abbrev rest : List (Observation (List Line))
  rest = flat_map of_move ms

  -- the reported lines, given the text of the first move
  left : Numbers → List AnswerLine
  left k = flat_map move_lines (if list_any (bytes_eq k) (had ++ [] ∷ []) then elements_with_new_keys move_text (had ++ [] ∷ []) ms else m ∷ elements_with_new_keys move_text (k ∷ had ++ [] ∷ []) ms)

  some : Bool → Numbers → List AnswerLine
  some b k = reported_lines (if b then elements_with_new_keys key had rest else observed m m.stepped.lines ∷ elements_with_new_keys key (k ∷ had) rest)

  right : Numbers → List AnswerLine
  right [] = reported_lines (elements_with_new_keys key had rest)
  right (b ∷ bs) = some (list_any (bytes_eq (b ∷ bs)) had) (b ∷ bs)

  sides : ((before : List Numbers) → IsReportedFrom ms before) → (k : Numbers) → left k ≡ right k
  unfolding left right some
  sides later [] = ap (λ b. flat_map move_lines (if b then elements_with_new_keys move_text (had ++ [] ∷ []) ms else m ∷ elements_with_new_keys move_text ([] ∷ had ++ [] ∷ []) ms)) (any-empty had) ∙ later had
  sides later (b ∷ bs) =
      ap (λ is. flat_map move_lines (if is then elements_with_new_keys move_text (had ++ [] ∷ []) ms else m ∷ elements_with_new_keys move_text ((b ∷ bs) ∷ had ++ [] ∷ []) ms)) (any-some b bs had)
      ∙ by (list_any (bytes_eq (b ∷ bs)) had)
    where
      by : (is : Bool) → flat_map move_lines (if is then elements_with_new_keys move_text (had ++ [] ∷ []) ms else m ∷ elements_with_new_keys move_text ((b ∷ bs) ∷ had ++ [] ∷ []) ms) ≡ some is (b ∷ bs)
      by true = later had
      by false = ap (λ ls. move_lines m ++ ls) (later ((b ∷ bs) ∷ had))

  right-is : (k : Numbers) → move_text m ≡ k → right k ≡ reported_lines (elements_with_new_keys key had (map (observed m) (if is_empty k then [] else m.stepped.lines ∷ []) ++ rest))
  unfolding right some
  right-is [] is = refl
  right-is (b ∷ bs) is = ap (λ k. some (list_any (bytes_eq k) had) k) (sym is)

reported-from : (ms : List Move) (had : List Numbers) → IsReportedFrom ms had
unfolding left
reported-from [] had = refl
reported-from (m ∷ ms) had = sides m ms had (reported-from ms) (move_text m) ∙ right-is m ms had (move_text m) refl

pub explore-observed : ExploreReportsObservations
unfolding explore_lines
explore-observed program_of limit s =
    ap (λ ls. ls ++ done_line program_of limit s ∷ endings_line (length (endings (states_found program_of limit s))) ∷ [])
    (reported-from (moves program_of limit s) []
    ∙ sym (ap (λ os. reported_lines (elements_with_new_keys key [] os)) (flat-flat of_move (moves_of program_of) (states_found program_of limit s))))
