-- A manifest alone, a bundle with this manifest, and the image that is made of it.
use Rattle.std.proofs.Common.{◌≡◌, ◌≢◌, ◌∙◌, ap, sym, subst, refl, inl, inr, ℕ, ◌+◌, true, false, List, [], ◌∷◌, ◌++◌, length, append_assoc, append-nil, codes, Option, Result, Ok, Err}
use Rattle.std.proofs.lemmas.List.Concat.{flat_map-append}
use Rattle.std.specs.Global.{Vec}
use Rattle.std.specs.List.{AllByRecursion}
use Rattle.pv_model.specs.declared.fault.ManifestFault.{ManifestFault}
use Rattle.pv_model.specs.declared.fault.ManifestFault.TheVariants.{Form}
use Rattle.pv_model.specs.declared.run_fault.RunFault.{RunFault}
use Rattle.pv_model.specs.Answers.Turns.{schedule_text}
use Rattle.pv_model.specs.Machine.{Bytes, EncodesManifest, lines_of, Listed, Manifest, read_bundle, read_manifest, tree_of, with_line_end, ended, IsImageOf, and_then, booted, bundle_started, program_of, Started, started_on, State, Tree, turns}
use Rattle.pv_model.specs.Grammar.Entries.{HasNoForm, IsFirstWithoutForm, Lists, at_end, at_schedule, entry, further, no_schedule}
use Rattle.pv_model.specs.Grammar.Texts.{HasLines, IsLine}
use Rattle.pv_laws_trees.proofs.MountedImages.{image-mounted}
use Rattle.pv_laws_grammar.proofs.TextLines.{HasLines-lines_of, lines_from_relation}
use Rattle.pv_laws_grammar.proofs.ManifestParsing.{EncodesManifest-whole, whole-IsFirstWithoutForm, whole-EncodesManifest}
use Rattle.pv_run.specs.Making.{tree_made}
use Rattle.pv_questions.specs.Answers.{Answer, answer_by, fair_text_of, started_by, started_under, whole_started}
use Rattle.pv_questions.specs.Failures.{failure_of_boot, failure_of_run}
use Rattle.pv_questions.specs.Laws.{bundle_of}
use Rattle.pv_questions.specs.Schedules.{cut_after}
use Rattle.pv_questions.specs.Trees.{input_tree, machine_in, read_manifest_of}
use Rattle.pv_questions.specs.declared.failure.Failure.{Failure}
use Rattle.pv_questions.specs.declared.input.Format.{Format}
use Rattle.pv_questions.specs.declared.input.Format.TheVariants as format
use Rattle.pv_questions.specs.declared.input.Turns.{Turns}
use Rattle.pv_questions.specs.declared.input.Turns.TheVariants.{Own, Text, Fair}
use Rattle.pv_questions.specs.declared.question.Question.{Question}
use Rattle.pv_questions.specs.declared.question.Question.TheVariants as asked

-- ---- a manifest alone is not a bundle

no_line : (n : ℕ) (lines : List Bytes) (l : Listed) → Lists false n lines l → (k : ℕ) × HasNoForm true n lines k
no_line _ _ _ (at_end n is) = (n, no_schedule n refl)
no_line _ _ _ (at_schedule n rest is) = cc is
no_line _ _ _ (entry n line body rest e others encodes more) =
    let later = no_line (n + 1 + length body) rest others more in (later.0, further n later.0 line body rest e encodes later.1)

encoded : (bytes : Bytes) (m : Manifest) → read_manifest bytes ≡ Ok m → EncodesManifest false bytes m
unfolding read_manifest
encoded bytes m is = EncodesManifest-whole false bytes m is

no_bundle : (bytes : Bytes) (m : Manifest) → EncodesManifest false bytes m → (k : ℕ) × (read_bundle bytes ≡ Err (Form k))
unfolding read_bundle
no_bundle bytes m s =
    let form = s.0 in let later = no_line 2 form.1 m.listed form.4 in
    (later.0, whole-IsFirstWithoutForm true bytes later.0 (inr (form.0, form.1, m.blocks, m.inodes, form.2, form.3, later.1)))

pub appears_alone : (bytes : Bytes) (m : Manifest) → read_manifest bytes ≡ Ok m → read_manifest_of bytes ≡ Ok m
unfolding read_manifest_of
appears_alone bytes m is = let none = no_bundle bytes m (encoded bytes m is) in rw none.1 is

-- ---- the manifest of a tree

-- a manifest that makes a tree
record Makes (read : Result Manifest ManifestFault) (t : Tree) : Type 0 where
  manifest : Manifest
  is_read : read ≡ Ok manifest
  makes : tree_of manifest ≡ Ok t

manifest_made : (bytes : Bytes) (t : Tree) → tree_made bytes ≡ Ok t → Makes (read_manifest bytes) t
unfolding tree_made
manifest_made bytes t made = by (read_manifest bytes) refl made
  where
    by : (read : Result Manifest ManifestFault) → read_manifest bytes ≡ read → and_then (λ fault. fault) read (λ m. tree_of m) ≡ Ok t → Makes (read_manifest bytes) t
    by (Ok m) is makes = record { manifest = m; is_read = is; makes = makes }
    by (Err f) is makes = cc makes

-- ---- the lines of a bundle

pub all_both : {X : Type 0} (P : X → Type 0) (xs ys : List X) → AllByRecursion P xs → AllByRecursion P ys → AllByRecursion P (xs ++ ys)
all_both P [] ys h k = k
all_both P (x ∷ xs) ys h k = (h.0, all_both P xs ys h.1 k)

abbrev schedule : Bytes
schedule = codes "schedule"

is_line : IsLine schedule
is_line = ((λ e. cc), ((λ e. cc), ((λ e. cc), ((λ e. cc), ((λ e. cc), ((λ e. cc), ((λ e. cc), ((λ e. cc), tt))))))))

has_lines : (lines : List Bytes) (turns : Bytes) → AllByRecursion IsLine lines → HasLines (bundle_of lines turns) (lines ++ schedule ∷ lines_of turns)
has_lines lines turns are =
    let front = lines ++ schedule ∷ [] in
    let those = HasLines-lines_of turns in (
      all_both IsLine lines (schedule ∷ lines_of turns) are (is_line, those.0),
      elim those.1 [
        | inl whole ↦ inl (ap (λ bs. ended front ++ bs) whole ∙ sym (flat_map-append with_line_end front (lines_of turns)) ∙ ap ended (append_assoc lines (schedule ∷ []) (lines_of turns)))
        | inr lacks ↦ inr (
          lines ++ schedule ∷ lacks.0,
          lacks.1,
          lacks.2,
          ap (λ ls. lines ++ schedule ∷ ls) lacks.3 ∙ sym (append_assoc lines (schedule ∷ lacks.0) (lacks.1 ∷ [])),
          ap (λ bs. ended front ++ bs) lacks.4 ∙ sym (append_assoc (ended front) (ended lacks.0) lacks.1)
              ∙ ap (λ bs. bs ++ lacks.1) (sym (flat_map-append with_line_end front lacks.0) ∙ ap ended (append_assoc lines (schedule ∷ []) lacks.0)),
        )
      ],
    )

-- ---- the manifest of a bundle

abbrev before_lines : Manifest → List Bytes → Manifest
before_lines m following = record m { listed = record { entries = m.listed.entries; following = following } }

listed_before : (n : ℕ) (lines : List Bytes) (l : Listed) → Lists false n lines l → (following : List Bytes)
    → Lists true n (lines ++ schedule ∷ following) (record { entries = l.entries; following = following })
listed_before _ _ _ (at_end n is) following = at_schedule n following refl
listed_before _ _ _ (at_schedule n rest is) following = cc is
listed_before _ _ _ (entry n line body rest e others encodes more) following =
    subst (λ ls. Lists true n (line ∷ ls) (record { entries = (n, e) ∷ others.entries; following = following })) (sym (append_assoc body rest (schedule ∷ following)))
    (entry n line body (rest ++ schedule ∷ following) e (record { entries = others.entries; following = following }) encodes
    (listed_before (n + 1 + length body) rest others more following))

bundle_read : (lines : List Bytes) (turns : Bytes) (m : Manifest) → AllByRecursion IsLine lines → read_manifest (ended lines) ≡ Ok m
    → read_bundle (bundle_of lines turns) ≡ Ok (before_lines m (lines_of turns))
unfolding read_bundle
bundle_read lines turns m are is =
    let s = encoded (ended lines) m is in
    let form = s.0 in
    let same : lines ≡ form.0 ∷ form.1 = sym (lines_from_relation (ended lines) lines (are, inl refl)) ∙ lines_from_relation (ended lines) (form.0 ∷ form.1) form.2 in
    whole-EncodesManifest true (bundle_of lines turns) (before_lines m (lines_of turns)) (
      (
        form.0,
        form.1 ++ schedule ∷ lines_of turns,
        subst (λ ls. HasLines (bundle_of lines turns) (ls ++ schedule ∷ lines_of turns)) same (has_lines lines turns are),
        form.3,
        listed_before 2 form.1 m.listed form.4 (lines_of turns),
      ),
      s.1,
    )

-- ---- the trees

module _ (image : Bytes) (t : Tree) (holds : IsImageOf image t) where
  pub input_tree-image : input_tree format.Image image ≡ Ok t
  unfolding input_tree
  input_tree-image = rw (image-mounted image t holds) refl

pub input_tree-manifest : (bytes : Bytes) (t : Tree) → tree_made bytes ≡ Ok t → input_tree format.Text bytes ≡ Ok t
unfolding input_tree
input_tree-manifest bytes t made = let m = manifest_made bytes t made in rw (appears_alone bytes m.manifest m.is_read, m.makes) refl

pub input_tree-bundle : (lines : List Bytes) (turns : Bytes) (t : Tree) → AllByRecursion IsLine lines → tree_made (ended lines) ≡ Ok t
    → input_tree format.Text (bundle_of lines turns) ≡ Ok t
unfolding input_tree read_manifest_of
input_tree-bundle lines turns t are made =
    let m = manifest_made (ended lines) t made in rw (bundle_read lines turns m.manifest are m.is_read, m.makes) refl

bundle_started-made : (lines : List Bytes) (turns : Bytes) (t : Tree) → AllByRecursion IsLine lines → tree_made (ended lines) ≡ Ok t
    → bundle_started (bundle_of lines turns) ≡ started_on t (lines_of turns)
unfolding bundle_started
bundle_started-made lines turns t are made =
    let m = manifest_made (ended lines) t made in rw (bundle_read lines turns m.manifest are m.is_read, m.makes) refl

-- ---- the start of a run under a schedule that is given

pub whole-text : (format : Format) (bytes : Bytes) (text : Vec ℕ) → whole_started format bytes (Text text) ≡ started_under format bytes text.items
whole-text format.Image bytes text = refl
whole-text format.Text bytes text = refl

pub whole-fair : (format : Format) (bytes : Bytes) → whole_started format bytes Fair ≡ and_then (λ failure. failure) (fair_text_of format bytes) (started_under format bytes)
whole-fair format.Image bytes = refl
whole-fair format.Text bytes = refl

-- ---- answers about equal trees and equal runs

module _ (a b : Format) (bytes other : Bytes) (same : input_tree a bytes ≡ input_tree b other) where
  pub machines : machine_in a bytes ≡ machine_in b other
  machines = ap (λ (held : Result Tree Failure). and_then (λ failure. failure) held (λ t. and_then failure_of_boot (booted t) (λ s. Ok s))) same

  under : (text : Bytes) → started_under a bytes text ≡ started_under b other text
  under text =
      ap (λ (held : Result Tree Failure). and_then (λ failure. failure) held (λ t. and_then failure_of_run (started_on t (lines_of text)) (λ it. Ok it))) same

  fair : and_then (λ failure. failure) (fair_text_of a bytes) (started_under a bytes) ≡ and_then (λ failure. failure) (fair_text_of b other) (started_under b other)
  fair =
      ap (λ (held : Result Tree Failure).
      and_then (λ failure. failure) (and_then (λ failure. failure) (and_then (λ failure. failure) held (λ t. and_then failure_of_boot (booted t) (λ s. Ok s)))
      (λ s. Ok (schedule_text (turns program_of 1 65536 s))))
      (λ text. and_then (λ failure. failure) held (λ t. and_then failure_of_run (started_on t (lines_of text)) (λ it. Ok it)))) same

  whole : (turned : Turns) → turned ≢ Own → whole_started a bytes turned ≡ whole_started b other turned
  whole Own given = absurd (given refl)
  whole (Text text) given = whole-text a bytes text ∙ under text.items ∙ sym (whole-text b other text)
  whole Fair given = whole-fair a bytes ∙ fair ∙ sym (whole-fair b other)

  module _ (first second : Turns) (begun : whole_started a bytes first ≡ whole_started b other second) (steps : Option ℕ) where
    of_run : (answered : Started → Answer) → and_then (λ failure. failure) (started_by a bytes first steps) answered
        ≡ and_then (λ failure. failure) (started_by b other second steps) answered
    of_run answered =
        ap (λ (begin : Result Started Failure). and_then (λ failure. failure) (and_then (λ failure. failure) begin (λ it. Ok (cut_after steps it))) answered) begun

    of_tree : (answered : Tree → Answer) → and_then (λ failure. failure) (input_tree a bytes) answered ≡ and_then (λ failure. failure) (input_tree b other) answered
    of_tree answered = ap (λ (held : Result Tree Failure). and_then (λ failure. failure) held answered) same

    of_machine : (answered : State → Answer) → and_then (λ failure. failure) (machine_in a bytes) answered ≡ and_then (λ failure. failure) (machine_in b other) answered
    of_machine answered = ap (λ (held : Result State Failure). and_then (λ failure. failure) held answered) machines

    pub answers : (question : Question) → answer_by a bytes first steps question ≡ answer_by b other second steps question
    answers asked.Trace = of_run _
    answers asked.State = of_run _
    answers (asked.Reach pid) = of_run _
    answers (asked.Explain errors allowed) = of_run _
    answers (asked.Needs granted) = of_run _
    answers (asked.Audit path) = of_run _
    answers (asked.Reasons path) = of_run _
    answers asked.Listing = of_tree _
    answers (asked.File path) = of_tree _
    answers (asked.Turns slice limit) = of_machine _
    answers (asked.Explore kind states) = of_machine _
    answers (asked.Access kind files states) = of_machine _
    answers (asked.Exposure kind files states) = of_machine _
    answers (asked.Policy kind granted states) = of_machine _
    answers (asked.Graph tree states) = of_machine _

  pub answers_given : (question : Question) (turned : Turns) (steps : Option ℕ) → turned ≢ Own → answer_by a bytes turned steps question ≡ answer_by b other turned steps question
  answers_given question turned steps given = answers turned turned (whole turned given) steps question

pub bundle_answers : (question : Question) (steps : Option ℕ) (lines : List Bytes) (text : Vec ℕ) (t : Tree) → AllByRecursion IsLine lines → tree_made (ended lines) ≡ Ok t
    → answer_by format.Text (bundle_of lines text.items) Own steps question ≡ answer_by format.Text (ended lines) (Text text) steps question
bundle_answers question steps lines text t are made =
    let first = input_tree-bundle lines text.items t are made in
    let second = input_tree-manifest (ended lines) t made in
    let start = ap (λ (begin : Result Started RunFault). and_then failure_of_run begin (λ it. Ok it)) (bundle_started-made lines text.items t are made) in
    let under = ap (λ (held : Result Tree Failure). and_then (λ failure. failure) held (λ u. and_then failure_of_run (started_on u (lines_of text.items)) (λ it. Ok it))) second in
    answers format.Text format.Text (bundle_of lines text.items) (ended lines) (first ∙ sym second) Own (Text text) (start ∙ sym under) steps question
