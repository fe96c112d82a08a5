-- The texts of prepared accesses.
use Rattle.std.proofs.Common.{◌≡◌, ◌∙◌, sym, ap, ap₂, ℕ, Bool, true, false, if◌then◌else◌, List, [], ◌∷◌, ◌++◌, append_assoc, map, filter, flat_map, Option, None, Some, refl}
use Rattle.std.specs.Prelude.{filter_map, is_none, option_and_then, option_to_list}
use Rattle.std.specs.List.{cons_option}
use Rattle.std.proofs.lemmas.Grind.{flat_map-append}
use Rattle.std.proofs.lemmas.List.{append-nil, map-append}
use Rattle.pv_model.specs.declared.call.Call.{Call}
use Rattle.pv_model.specs.declared.call.Call.TheVariants.{Execve, Open, OpenAt, Read, Write, Lseek, Fstat, Ftruncate, Getdents, Fchdir, Chdir, Stat, Lstat, Readlink, Mkdir, Symlink, Link, Unlink, Rmdir, Rename}
use Rattle.pv_model.specs.declared.open_flags.OpenFlags.{OpenFlags}
use Rattle.pv_model.specs.declared.outcome.Outcome.{Outcome}
use Rattle.pv_model.specs.declared.place.Place.{Place}
use Rattle.pv_model.specs.Machine.{Answered, answer, Access, executes, changes_name, node_of_descriptor, of_next, of_process, Bytes, name_of, node_of, program_of, calls_for, inside, next, Process, State, process_at, Stepped, flags_of, places, Tree}
use Rattle.pv_model.specs.Answers.Access.{reads, writes, reports, opens, accesses_by_open, node_opened}
use Rattle.pv_access.specs.declared.condition.Condition.{Condition}
use Rattle.pv_access.specs.declared.condition.Condition.TheVariants.{NoProgram, AnyValue, SomeCount, SomeBytes, Success}
use Rattle.pv_access.specs.Candidates.{Candidate, accesses_with, candidates, candidates_at, candidates_by, is_satisfied, list_of_two, name_candidates, node_candidates, open_candidates, places_named}
use Rattle.pv_model_questions.specs.Accesses.{lines_of_access}
use Rattle.pv_access.specs.Texts.{access_texts, access_lines_in, texts_by, texts_of_call, texts_with, with_texts}
use Rattle.pv_reduced.proofs.OfAnswers.InstructionWords.{no-calls}
use Rattle.pv_reduced.specs.OfProcs.Turns.{NoCallNext}
use Rattle.pv_access.proofs.AccessCandidates.{accesses-are, with-append}
use Rattle.pv_access.proofs.BegunWalks.{begun-candidates}

-- about given files, with the first tree of a search
module _ (files : List Bytes) (start : Tree) where
  abbrev Prepared : Type 0
  Prepared = Condition × List Bytes

  -- ---- lists of candidates

  pub texts-append : (t : Tree) (pid : ℕ) (cs ds : List Candidate) → with_texts files start t pid (cs ++ ds) ≡ with_texts files start t pid cs ++ with_texts files start t pid ds
  texts-append t pid cs ds = map-append (λ (c : Candidate). (c.0, texts_by (access_lines_in files start t pid) c.1)) cs ds

  -- a list after two appends
  pub appended : (t : Tree) (pid : ℕ) (old mid new : List Prepared) (cs ds : List Candidate) → mid ≡ old ++ with_texts files start t pid cs → new ≡ mid ++ with_texts files start t pid ds → new ≡ old ++ with_texts files start t pid (cs ++ ds)
  appended t pid old mid new cs ds first second =
      second ∙ ap (λ xs. xs ++ with_texts files start t pid ds) first ∙ append_assoc old (with_texts files start t pid cs) (with_texts files start t pid ds)
      ∙ ap (λ xs. old ++ xs) (sym (texts-append t pid cs ds))

  pub two-nodes : (c : Condition) (access : ℕ → Access) (first second : Option Place)
      → candidates_by c access (option_to_list (option_and_then node_of first)) ++ candidates_by c access (option_to_list (option_and_then node_of second))
      ≡ node_candidates (list_of_two first second) c access
  two-nodes c access None None = refl
  two-nodes c access None (Some q) = one (node_of q)
    where
      one : (o : Option ℕ) → candidates_by c access (option_to_list o) ≡ candidates_by c access (cons_option o [])
      one None = refl
      one (Some n) = refl
  two-nodes c access (Some p) None = one (node_of p)
    where
      one : (o : Option ℕ) → candidates_by c access (option_to_list o) ++ [] ≡ candidates_by c access (cons_option o [])
      one None = refl
      one (Some n) = refl
  two-nodes c access (Some p) (Some q) = two (node_of p) (node_of q)
    where
      two : (o u : Option ℕ) → candidates_by c access (option_to_list o) ++ candidates_by c access (option_to_list u) ≡ candidates_by c access (cons_option o (cons_option u []))
      two None None = refl
      two None (Some n) = refl
      two (Some n) None = refl
      two (Some n) (Some m) = refl

  -- ---- the texts that an outcome allows

  pub texts-with : (t : Tree) (pid : ℕ) (o : Outcome) (cs : List Candidate) → texts_with o (with_texts files start t pid cs) ≡ flat_map (texts_by (access_lines_in files start t pid)) (accesses_with o cs)
  texts-with t pid o [] = refl
  texts-with t pid o (c ∷ cs) =
      elim (is_satisfied c.0 o) as (λ b. flat_map (λ (x : Prepared). x.1) (if b then (c.0, texts_by (access_lines_in files start t pid) c.1) ∷ filter (λ (x : Prepared). is_satisfied x.0 o) (with_texts files start t pid cs) else filter (λ (x : Prepared). is_satisfied x.0 o) (with_texts files start t pid cs))
      ≡ flat_map (texts_by (access_lines_in files start t pid)) (map (λ (x : Candidate). x.1) (if b then c ∷ filter (λ (x : Candidate). is_satisfied x.0 o) cs else filter (λ (x : Candidate). is_satisfied x.0 o) cs))) [
        | true ↦ ap (λ xs. texts_by (access_lines_in files start t pid) c.1 ++ xs) (texts-with t pid o cs)
        | false ↦ texts-with t pid o cs
      ]

  -- ---- the lines of candidates are known before the call

  module _ (s : State) (pid : ℕ) (p : Process) (now : Stepped) (call : Call) (o : Outcome) where
    abbrev texts : List Access → List Bytes
    texts xs = flat_map (texts_by (access_lines_in files start s.tree pid)) xs

    abbrev known_texts : List Access → List Bytes
    known_texts xs = flat_map (texts_by (lines_of_access files start s.tree now.after.tree pid)) xs

    abbrev IsKnown : List Candidate → Type 0
    IsKnown cs = known_texts (accesses_with o cs) ≡ texts (accesses_with o cs)

    known-by : {X : Type 0} (c : Condition) (access : X → Access) → ((x : X) → texts_by (lines_of_access files start s.tree now.after.tree pid) (access x) ≡ texts_by (access_lines_in files start s.tree pid) (access x)) → (xs : List X) → IsKnown (candidates_by c access xs)
    known-by c access same [] = refl
    known-by c access same (x ∷ xs) =
        elim (is_satisfied c o) as (λ b. known_texts (map (λ (y : Candidate). y.1) (if b then (c, access x) ∷ filter (λ (y : Candidate). is_satisfied y.0 o) (candidates_by c access xs) else filter (λ (y : Candidate). is_satisfied y.0 o) (candidates_by c access xs)))
        ≡ texts (map (λ (y : Candidate). y.1) (if b then (c, access x) ∷ filter (λ (y : Candidate). is_satisfied y.0 o) (candidates_by c access xs) else filter (λ (y : Candidate). is_satisfied y.0 o) (candidates_by c access xs)))) [
          | true ↦ ap₂ (λ (xs ys : List Bytes). xs ++ ys) (same x) (known-by c access same xs)
          | false ↦ known-by c access same xs
        ]

    with-more : (cs ds : List Candidate) → accesses_with o (cs ++ ds) ≡ accesses_with o cs ++ accesses_with o ds
    with-more cs ds = with-append o cs ds

    known-both : (cs ds : List Candidate) → IsKnown cs → IsKnown ds → IsKnown (cs ++ ds)
    known-both cs ds first second =
        ap known_texts (with-more cs ds) ∙ flat_map-append (texts_by (lines_of_access files start s.tree now.after.tree pid)) (accesses_with o cs) (accesses_with o ds)
        ∙ ap₂ (λ (xs ys : List Bytes). xs ++ ys) first second
        ∙ sym (ap texts (with-more cs ds) ∙ flat_map-append (texts_by (access_lines_in files start s.tree pid)) (accesses_with o cs) (accesses_with o ds))

    known-names : (found : List Place) (absent : Bool) → IsKnown (name_candidates found absent)
    known-names found absent = known-by Success (λ name. changes_name name.0 name.1) (λ name. refl) (filter_map name_of (places_named found absent))

    known-open : (found : List Place) (flags : OpenFlags) → IsKnown (open_candidates found flags)
    known-open found flags =
        known-both (if flags.truncate then node_candidates found AnyValue writes else []) (name_candidates found true)
        (elim flags.truncate as (λ b. IsKnown (if b then node_candidates found AnyValue writes else [])) [
          | true ↦ known-by AnyValue writes (λ n. refl) (filter_map node_of found)
          | false ↦ refl
        ])
        (known-names found true)

    known : (files : List ℕ) (found : List Place) (c : Call) → IsKnown (candidates_at files found c)
    known files found (Read d n) = known-by SomeBytes reads (λ f. refl) files
    known files found (Write d n) = known-by SomeCount writes (λ f. refl) files
    known files found (Ftruncate d n) = known-by AnyValue writes (λ f. refl) files
    known files found (Lseek d by whence) = known-by Success reports (λ f. refl) files
    known files found (Fstat d) = known-by Success reports (λ f. refl) files
    known files found (Fchdir d) = known-by Success reports (λ f. refl) files
    known files found (Getdents d) = known-by Success reports (λ f. refl) files
    known files found (Execve path) =
        known-both (node_candidates found NoProgram reads) (node_candidates found AnyValue executes)
        (known-by NoProgram reads (λ n. refl) (filter_map node_of found)) (known-by AnyValue executes (λ n. refl) (filter_map node_of found))
    known files found (Open path flags) = known-open found flags
    known files found (OpenAt start path flags) = known-open found flags
    known files found (Stat path) = known-by Success reports (λ n. refl) (filter_map node_of found)
    known files found (Lstat path) = known-by Success reports (λ n. refl) (filter_map node_of found)
    known files found (Readlink path) = known-by Success reports (λ n. refl) (filter_map node_of found)
    known files found (Chdir path) = known-by Success reports (λ n. refl) (filter_map node_of found)
    known files found (Mkdir path) = known-names found true
    known files found (Symlink text path) = known-names found true
    known files found (Link path new) = known-names found true
    known files found (Unlink path) = known-names found false
    known files found (Rmdir path) = known-names found false
    known files found (Rename path new) = known-names found false
    known files found _ = refl

    known-opened : (ns : List ℕ) (flags : OpenFlags) → known_texts (map (λ n. opens n flags.mode) ns) ≡ flat_map (texts_by (access_lines_in files start now.after.tree pid)) (map (λ n. opens n flags.mode) ns)
    known-opened [] flags = refl
    known-opened (n ∷ ns) flags = ap (λ xs. texts_by (access_lines_in files start now.after.tree pid) (opens n flags.mode) ++ xs) (known-opened ns flags)

    known-gained : (flags : Option OpenFlags) → known_texts (accesses_by_open now.after pid o flags) ≡ flat_map (texts_by (access_lines_in files start now.after.tree pid)) (accesses_by_open now.after pid o flags)
    known-gained None = refl
    known-gained (Some flags) = known-opened (node_opened now.after pid o) flags

  -- ---- the texts of a step

  module _ (s : State) (pid : ℕ) (p : Process) (call : Call) (at : process_at s pid ≡ Some p) (comes : next p ≡ calls_for call) where
    -- the texts of a call, by its candidates and the new descriptor
    pub call-texts : (a : Answered) → answer program_of s pid call ≡ a → (now : Stepped) → now.after ≡ a.after → now.outcome ≡ a.outcome
        → access_texts files start s pid now ≡ texts_with a.outcome (with_texts files start s.tree pid (candidates s pid p call)) ++ flat_map (texts_by (access_lines_in files start a.after.tree pid)) (accesses_by_open a.after pid a.outcome (flags_of call))
    call-texts a is now after outcome =
        ap (of_process (texts_of_call files start) s pid now) at ∙ ap (of_next (texts_of_call files start) s pid now p) comes
        ∙ ap (known_texts s pid p now call now.outcome) (accesses-are s pid p now call)
        ∙ flat_map-append (texts_by (lines_of_access files start s.tree now.after.tree pid)) (accesses_with now.outcome (candidates_at (node_of_descriptor s p call) (places s p call) call)) (accesses_by_open now.after pid now.outcome (flags_of call))
        ∙ ap₂ (λ (xs ys : List Bytes). xs ++ ys)
        (known s pid p now call now.outcome (node_of_descriptor s p call) (places s p call) call
        ∙ ap (λ u. flat_map (texts_by (access_lines_in files start s.tree pid)) (accesses_with u (candidates_at (node_of_descriptor s p call) (places s p call) call))) (outcome ∙ sym (ap (λ x. x.outcome) is))
        ∙ sym (ap (flat_map (texts_by (access_lines_in files start s.tree pid))) (begun-candidates program_of s pid p at call))
        ∙ ap (λ u. flat_map (texts_by (access_lines_in files start s.tree pid)) (accesses_with u (candidates s pid p call))) (ap (λ x. x.outcome) is)
        ∙ sym (texts-with s.tree pid a.outcome (candidates s pid p call)))
        (known-gained s pid p now call now.outcome (flags_of call)
        ∙ ap₂ (λ (u : State) v. flat_map (texts_by (access_lines_in files start u.tree pid)) (accesses_by_open u pid v (flags_of call))) after outcome)

  -- a step without a call
  pub no-texts : (s : State) (pid : ℕ) (now : Stepped) → NoCallNext (process_at s pid) → access_texts files start s pid now ≡ []
  no-texts s pid now none = no-calls (texts_of_call files start) s pid now none

  -- one candidate, and more
  pub allowed-cons : (o : Outcome) (c : Prepared) (cs : List Prepared) → texts_with o (c ∷ cs) ≡ texts_with o (c ∷ []) ++ texts_with o cs
  allowed-cons o c cs =
      elim (is_satisfied c.0 o) as (λ b. flat_map (λ (x : Prepared). x.1) (if b then c ∷ filter (λ (x : Prepared). is_satisfied x.0 o) cs else filter (λ (x : Prepared). is_satisfied x.0 o) cs)
      ≡ flat_map (λ (x : Prepared). x.1) (if b then c ∷ [] else []) ++ texts_with o cs) [
        | true ↦ ap (λ xs. xs ++ texts_with o cs) (sym (append-nil c.1))
        | false ↦ refl
      ]

  -- ---- the names of two places

  abbrev names_in : List Place → List Candidate
  names_in found = candidates_by Success (λ name. changes_name name.0 name.1) (filter_map name_of found)

  names-append : (ps qs : List Place) → names_in (ps ++ qs) ≡ names_in ps ++ names_in qs
  names-append [] qs = refl
  names-append (p ∷ ps) qs = by (name_of p) (names-append ps qs)
    where
      by : (o : Option (ℕ × Bytes)) → names_in (ps ++ qs) ≡ names_in ps ++ names_in qs
          → candidates_by Success (λ name. changes_name name.0 name.1) (cons_option o (filter_map name_of (ps ++ qs))) ≡ candidates_by Success (λ name. changes_name name.0 name.1) (cons_option o (filter_map name_of ps)) ++ names_in qs
      by None later = later
      by (Some name) later = ap (λ (cs : List Candidate). (Success, changes_name name.0 name.1) ∷ cs) later

  named-append : (absent : Bool) (ps qs : List Place) → places_named (ps ++ qs) absent ≡ places_named ps absent ++ places_named qs absent
  named-append false ps qs = refl
  named-append true [] qs = refl
  named-append true (p ∷ ps) qs =
      elim (is_none (node_of p)) as (λ b. (if b then p ∷ places_named (ps ++ qs) true else places_named (ps ++ qs) true) ≡ (if b then p ∷ places_named ps true else places_named ps true) ++ places_named qs true) [
        | true ↦ ap (λ xs. p ∷ xs) (named-append true ps qs)
        | false ↦ named-append true ps qs
      ]

  two-places : (first second : Option Place) → list_of_two first second ≡ option_to_list first ++ option_to_list second
  two-places None None = refl
  two-places None (Some q) = refl
  two-places (Some p) None = refl
  two-places (Some p) (Some q) = refl

  pub two-names : (absent : Bool) (first second : Option Place) → name_candidates (option_to_list first) absent ++ name_candidates (option_to_list second) absent ≡ name_candidates (list_of_two first second) absent
  two-names absent first second =
      sym (ap (λ ps. name_candidates ps absent) (two-places first second) ∙ ap names_in (named-append absent (option_to_list first) (option_to_list second))
      ∙ names-append (places_named (option_to_list first) absent) (places_named (option_to_list second) absent))

  -- two pushes of nodes
  pub nodes-pushed : (t : Tree) (pid : ℕ) (c : Condition) (access : ℕ → Access) (first second : Option Place) (m n : Option ℕ) (old mid new : List Prepared)
      → m ≡ option_and_then node_of first → n ≡ option_and_then node_of second
      → mid ≡ old ++ with_texts files start t pid (candidates_by c access (option_to_list m)) → new ≡ mid ++ with_texts files start t pid (candidates_by c access (option_to_list n))
      → new ≡ old ++ with_texts files start t pid (node_candidates (list_of_two first second) c access)
  nodes-pushed t pid c access first second m n old mid new m_is n_is one two =
      appended t pid old mid new (candidates_by c access (option_to_list m)) (candidates_by c access (option_to_list n)) one two
      ∙ ap (λ cs. old ++ with_texts files start t pid cs)
      (ap₂ (λ (o u : Option ℕ). candidates_by c access (option_to_list o) ++ candidates_by c access (option_to_list u)) m_is n_is ∙ two-nodes c access first second)

  -- two pushes of names
  pub names-pushed : (t : Tree) (pid : ℕ) (absent : Bool) (first second : Option Place) (old mid new : List Prepared)
      → mid ≡ old ++ with_texts files start t pid (name_candidates (option_to_list first) absent) → new ≡ mid ++ with_texts files start t pid (name_candidates (option_to_list second) absent)
      → new ≡ old ++ with_texts files start t pid (name_candidates (list_of_two first second) absent)
  names-pushed t pid absent first second old mid new one two =
      appended t pid old mid new (name_candidates (option_to_list first) absent) (name_candidates (option_to_list second) absent) one two
      ∙ ap (λ cs. old ++ with_texts files start t pid cs) (two-names absent first second)
