-- The lines of the records of a search are those of the definition.
use Rattle.std.proofs.Common.{◌≡◌, ◌∙◌, ap, ap₂, ℕ, ◌+◌, Bool, if◌then◌else◌, List, [], ◌∷◌, ◌++◌, map, flat_map, length, refl}
use Rattle.pv_model.specs.Machine.{Located, program_key, named_files, AnswerLine, answer_bytes, Bytes, counted_from, groups, program_of, State, Tree}
use Rattle.pv_model.specs.Answers.Exposure.{located, located_at}
use Rattle.pv_model.specs.Answers.ProgramNames.{program_line}
use Rattle.pv_model_questions.specs.declared.finding_kind.FindingKind.TheVariants.{Leak, Peer, Edit, Read}
use Rattle.pv_model_questions.specs.Exposure.{kinds}
use Rattle.pv_model_questions.specs.ExposureAbout.{exposed_lines_about, lines_of_kind_about, lines_of_program_about, safe_lines_about}
use Rattle.pv_reduced.specs.OfExplore.Visiting.{Visits}
use Rattle.pv_reduced.specs.declared.kind.SearchKind.{SearchKind}
use Rattle.pv_reduced.specs.Kinds.{count_line, states_by}
use Rattle.pv_exposure.specs.Answers.{exposed_lines_by, all_exposed_lines}
use Rattle.pv_exposure.specs.Collected.{Exposed, all_lines_recorded_of, exposed_after, lines_of_exposed}
use Rattle.pv_exposure.proofs.RecordedFindings.{findings-written}
use Rattle.pv_exposure.proofs.ProgramRecords.{records-are, summary_of}

counted-map : {X Y : Type 0} (f : X → Y) (k : ℕ) (xs : List X) → counted_from k (map f xs) ≡ map (λ p. (p.0, f p.1)) (counted_from k xs)
counted-map f k [] = refl
counted-map {Y = Y} f k (x ∷ xs) = ap (λ (ps : List (ℕ × Y)). (k, f x) ∷ ps) (counted-map f (k + 1) xs)

-- the lines of a program, given the first tree and whether no state was left out
module _ (files : List Bytes) (t : Tree) (complete : Bool) where
  abbrev summed : Located × List Located → Exposed
  summed g = summary_of files t (named_files t) g

  kinds-written : (g : Located × List Located) → all_lines_recorded_of (summed g) ≡ flat_map (lines_of_kind_about files program_of t complete g.1) kinds
  kinds-written (l, ls) = λ i.
      findings-written Leak files t ls i ++ (findings-written Peer files t ls i ++ (findings-written Edit files t ls i ++ (findings-written Read files t ls i ++ [])))

  one : (p : ℕ × (Located × List Located)) → lines_of_exposed files t complete (p.0, summed p.1) ≡ lines_of_program_about files program_of t complete p
  one (k, (l, ls)) =
      ap (λ (lines : List AnswerLine). program_line program_of t k l.process.program ∷ lines ++ safe_lines_about files program_of t complete ls) (kinds-written (l, ls))

  all : (ps : List (ℕ × (Located × List Located))) → flat_map (lines_of_exposed files t complete) (map (λ p. (p.0, summed p.1)) ps) ≡ flat_map (lines_of_program_about files program_of t complete) ps
  all [] = refl
  all (p ∷ ps) = ap₂ (λ (a b : List AnswerLine). a ++ b) (one p) (all ps)

  -- the records of processes have the lines of their programs
  programs-written : (ls : List Located)
      → flat_map (lines_of_exposed files t complete) (counted_from 1 (exposed_after files t (named_files t) [] ls)) ≡ flat_map (lines_of_program_about files program_of t complete) (counted_from 1 (groups program_key ls))
  programs-written ls =
      ap (λ (es : List Exposed). flat_map (lines_of_exposed files t complete) (counted_from 1 es)) (records-are files t (named_files t) ls)
      ∙ ap (flat_map (lines_of_exposed files t complete)) (counted-map summed 1 (groups program_key ls))
      ∙ all (counted_from 1 (groups program_key ls))

-- the lines of visited states
abbrev lines_of_visits : SearchKind → List Bytes → Tree → Visits → List AnswerLine
lines_of_visits kind files t visits = exposed_lines_about files program_of t visits.complete visits.found (count_line kind (length visits.found) visits.complete)

abbrev collected_of_visits : SearchKind → List Bytes → Tree → Visits → List AnswerLine
collected_of_visits kind files t visits =
    all_exposed_lines kind files t visits.complete (length visits.found) (exposed_after files t (named_files t) [] (flat_map located_at visits.found))

-- the records of all visited states have these lines
visits-written : (kind : SearchKind) (files : List Bytes) (t : Tree) (visits : Visits) → collected_of_visits kind files t visits ≡ lines_of_visits kind files t visits
unfolding exposed_lines_about
visits-written kind files t visits =
    ap (λ (lines : List AnswerLine). lines ++ count_line kind (length visits.found) visits.complete ∷ []) (programs-written files t visits.complete (located visits.found))

-- the bytes of a search
pub search-text : (kind : SearchKind) (files : List Bytes) (limit : ℕ) (s : State) (t : Tree) (visits : Visits) → t ≡ s.tree → visits ≡ states_by kind limit s
    → answer_bytes (collected_of_visits kind files t visits) ≡ answer_bytes (exposed_lines_by files kind limit s)
search-text kind files limit s t visits same is = ap answer_bytes (visits-written kind files t visits ∙ (λ i. lines_of_visits kind files (same i) (is i)))
