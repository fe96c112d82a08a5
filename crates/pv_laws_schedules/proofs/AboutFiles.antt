-- The answer of `exposure` about given files.
use Rattle.std.proofs.Common.{◌≡◌, ap, ℕ, true, if◌then◌else◌, List, [], ◌∷◌, ◌++◌, map, flat_map, filter, Contains, refl}
use Rattle.pv_model.specs.Answers.Exposure.{located, program_key}
use Rattle.pv_model.specs.Answers.ProgramNames.{program_line}
use Rattle.pv_model.specs.Machine.{Bytes, counted_from, files_of_tree, groups, Located, Tree}
use Rattle.pv_model_questions.specs.AboutFiles.{keeps_node}
use Rattle.pv_model_questions.specs.Exposure.{exposed_lines, Finding, finding_by, kinds, lines_of_findings, reason_by, safe_files_of_first, safe_line}
use Rattle.pv_model_questions.specs.ExposureAbout.{exposed_lines_about, findings_about, kept_files_of}
use Rattle.pv_laws_answers.proofs.CompleteSearches.{among-contains}
use Rattle.pv_laws_answers.proofs.Lists.{Among, among-filter, among-flat, filter-among, flat-among}
use Rattle.pv_laws_classes.proofs.ReducedProcesses.{themselves}
use Rattle.pv_laws_schedules.specs.AboutFiles.{FindingsAreAboutFiles, IsFindingAbout, NoFilesAskForAll}

-- without given files each node is kept
all-kept : (first t : Tree) (ns : List ℕ) → filter (keeps_node [] first t) ns ≡ ns
all-kept first t [] = refl
all-kept first t (n ∷ ns) = ap (λ (ms : List ℕ). n ∷ ms) (all-kept first t ns)

pub no-files : NoFilesAskForAll
unfolding exposed_lines exposed_lines_about
no-files program_of first complete found done = λ i.
    flat_map (λ (p : ℕ × (Located × List Located)).
    program_line program_of first p.0 p.1.0.process.program
    ∷ flat_map (λ kind. lines_of_findings kind
    (flat_map (λ l. flat_map (λ f. finding_by program_of first kind l f (reason_by program_of l f kind)) (all-kept first l.found.state.tree (files_of_tree l.found.state.tree) i)) p.1.1)) kinds
    ++ (if complete then map (safe_line first) (all-kept first first (safe_files_of_first first p.1.1) i) else []))
    (counted_from 1 (groups program_key (located found)))
    ++ done ∷ []

pub findings-about : FindingsAreAboutFiles
findings-about files program_of first kind l x = (there, back)
  where
    t : Tree
    t = l.found.state.tree

    made : ℕ → List Finding
    made f = finding_by program_of first kind l f (reason_by program_of l f kind)

    there : Contains (findings_about files program_of first kind l) x → IsFindingAbout files program_of first kind l x
    there has =
        let from = flat-among made x (kept_files_of files first t) (themselves (findings_about files program_of first kind l) x has) in
        let of = filter-among (keeps_node files first t) from.0 (files_of_tree t) from.1 in
        record {
          file = from.0;
          within = among-contains from.0 (files_of_tree t) of.0;
          kept = of.1;
          finding = among-contains x (made from.0) from.2;
        }

    back : IsFindingAbout files program_of first kind l x → Contains (findings_about files program_of first kind l) x
    back is =
        among-contains x (findings_about files program_of first kind l)
        (among-flat made is.file x (kept_files_of files first t)
        (among-filter (keeps_node files first t) is.file (files_of_tree t) (themselves (files_of_tree t) is.file is.within) is.kept)
        (themselves (made is.file) x is.finding))
