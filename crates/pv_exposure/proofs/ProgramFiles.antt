-- The record of a program, file by file.
use Rattle.std.proofs.Common.{◌≡◌, ◌∙◌, sym, ap, ℕ, Bool, List, [], ◌∷◌, ◌++◌, drop, flat_map, filter, map, refl}
use Rattle.std.proofs.lemmas.List.Elements.{filter_agree}
use Rattle.pv_model.specs.Machine.{Bytes, Located, Tree}
use Rattle.pv_model_questions.specs.declared.finding_kind.FindingKind.{FindingKind}
use Rattle.pv_model_questions.specs.declared.finding_kind.FindingKind.TheVariants.{Leak, Peer, Edit, Read}
use Rattle.pv_model_questions.specs.Exposure.{is_safe_in}
use Rattle.pv_model_questions.specs.ExposureAbout.{kept_files_of}
use Rattle.pv_exposure.specs.Collected.{Exposed, Recorded, exposed_more, recorded_at, with_all}
use Rattle.pv_exposure.specs.Stored.{recorded_by_file, exposed_with_file, exposed_with_files}
use Rattle.pv_exposure.proofs.FindingAddition.{all-files}
use Rattle.pv_exposure.proofs.ProgramRecords.{with-both}

module _ (files : List Bytes) (first : Tree) (l : Located) where
  -- each list of the record after files
  abbrev pub with_lists : Exposed → List ℕ → Exposed
  with_lists e fs = record {
    program = e.program;
    leaks = with_all e.leaks (flat_map (recorded_by_file first Leak l) fs);
    peers = with_all e.peers (flat_map (recorded_by_file first Peer l) fs);
    edits = with_all e.edits (flat_map (recorded_by_file first Edit l) fs);
    reads = with_all e.reads (flat_map (recorded_by_file first Read l) fs);
    safe = e.safe;
  }

  files-lists : (e : Exposed) (fs : List ℕ) → exposed_with_files first l e fs ≡ with_lists e fs
  files-lists e [] = refl
  files-lists e (f ∷ fs) =
      files-lists (exposed_with_file first l e f) fs
      ∙ sym (λ i. record {
        program = e.program;
        leaks = with-both e.leaks (recorded_by_file first Leak l f) (flat_map (recorded_by_file first Leak l) fs) i;
        peers = with-both e.peers (recorded_by_file first Peer l f) (flat_map (recorded_by_file first Peer l) fs) i;
        edits = with-both e.edits (recorded_by_file first Edit l f) (flat_map (recorded_by_file first Edit l) fs) i;
        reads = with-both e.reads (recorded_by_file first Read l f) (flat_map (recorded_by_file first Read l) fs) i;
        safe = e.safe;
      })

  -- the record after all files of the state, and the files that every process is closed to
  pub files-more : (e : Exposed) (safe : List ℕ) → safe ≡ filter (λ f. is_safe_in f l) e.safe
      → record (exposed_with_files first l e (kept_files_of files first l.found.state.tree)) { safe = safe } ≡ exposed_more files first e l
  files-more e safe is =
      ap (λ (x : Exposed). record x { safe = safe }) (files-lists e (kept_files_of files first l.found.state.tree))
      ∙ (λ i. record {
        program = e.program;
        leaks = with_all e.leaks (sym (all-files files first Leak l) i);
        peers = with_all e.peers (sym (all-files files first Peer l) i);
        edits = with_all e.edits (sym (all-files files first Edit l) i);
        reads = with_all e.reads (sym (all-files files first Read l) i);
        safe = is i;
      })

  -- the safe files stay those that they were
  pub files-safe : (e : Exposed) (fs : List ℕ) → (exposed_with_files first l e fs).safe ≡ e.safe
  files-safe e fs = ap (λ (x : Exposed). x.safe) (files-lists e fs)
