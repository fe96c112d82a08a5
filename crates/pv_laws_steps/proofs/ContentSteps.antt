-- Other bytes of similar length in a file, stored before and after a step of another process that does not depend on
-- them.
use Rattle.std.proofs.Common.{◌≡◌, ◌≢◌, ℕ, true, length, Option, Some, ap, sym, ◌∙◌}
use Rattle.pv_model.specs.Machine.{Bytes, bytes_of, collect, is_too_long, fits, is_file, Program, Process, State, process_at, step, file_bytes, with_bytes, Tree, node_at}
use Rattle.pv_laws_states.specs.States.{are_bytes, EncodesPrograms, IsValid}
use Rattle.pv_laws_states.proofs.ProcessInsides.{SameHolds}
use Rattle.pv_laws_runs.specs.OfLawsAccess.Justice.{HasEffectNext}
use Rattle.pv_laws_runs.proofs.OfLawsAccess.SimilarTrees.{GoesByLength, IsExact, IsFine}
use Rattle.pv_laws_steps.specs.Beside.{with_change, become}
use Rattle.pv_laws_steps.specs.Writes.{LeavesBytes}
use Rattle.pv_laws_steps.proofs.ChangedPairs.{SteppedPair}
use Rattle.pv_laws_steps.proofs.StepsOfOthers.{others-alter-nothing}
use Rattle.pv_laws_steps.proofs.InsideSteps.{alike-held}
use Rattle.pv_laws_steps.proofs.OtherBytes.{fits-bytes, long-bytes, settled-bytes, valid-bytes, goes-along}
use Rattle.pv_laws_steps.proofs.ExchangedSteps.{after_k}

module _ (size : ℕ → ℕ) (fine : IsFine size) where
  -- bytes for a file that exists in both states, and that process k does not use; nor does it use their number if that
  -- may differ
  pub record Content (s t : State) (k : ℕ) : Type 0 where
    pub node : ℕ
    pub bytes : Bytes
    pub file : is_file (node_at s.tree node) ≡ true
    pub following : is_file (node_at t.tree node) ≡ true
    pub long : size (length bytes) ≡ size (length (file_bytes s node))
    pub same : file_bytes t node ≡ file_bytes s node
    pub good : are_bytes bytes ≡ true
    pub leaves : LeavesBytes s k node
    pub exact : HasEffectNext GoesByLength s k node → IsExact size

  abbrev pub put_content : (s t : State) (k : ℕ) → Content s t k → State → State
  put_content s t k a x = with_bytes x a.node a.bytes

  module _ (s u : State) (k : ℕ) (a : Content s u k) where
    long-following : size (length a.bytes) ≡ size (length (file_bytes u a.node))
    long-following = a.long ∙ ap (λ b. size (length b)) (sym a.same)

    -- a collected state stays collected
    settled-on : (t z : State) → is_file (node_at t.tree a.node) ≡ true → size (length a.bytes) ≡ size (length (file_bytes t a.node)) → z.tree ≡ t.tree → collect z ≡ z
        → collect (with_bytes z a.node a.bytes) ≡ with_bytes z a.node a.bytes
    settled-on t z file long tree collected =
        settled-bytes size fine z a.node a.bytes (long ∙ ap (λ (t : Tree). size (length (bytes_of (node_at t a.node)))) (sym tree)) collected (ap (λ (t : Tree). is_file (node_at t a.node)) tree ∙ file)

    pub settled-content : (z : State) → z.tree ≡ s.tree → collect z ≡ z → collect (put_content s u k a z) ≡ put_content s u k a z
    settled-content z tree collected = settled-on s z a.file a.long tree collected

    pub settled-content_u : (z : State) → z.tree ≡ u.tree → collect z ≡ z → collect (put_content s u k a z) ≡ put_content s u k a z
    settled-content_u z tree collected = settled-on u z a.following long-following tree collected

    -- a state with room keeps room
    pub short-content : is_too_long (put_content s u k a s).tree ≡ is_too_long s.tree
    short-content = long-bytes size fine s a.node a.bytes a.long

    pub short-content_u : is_too_long (put_content s u k a u).tree ≡ is_too_long u.tree
    short-content_u = long-bytes size fine u a.node a.bytes long-following

    pub fit-content : fits (put_content s u k a s).tree ≡ fits s.tree
    fit-content = fits-bytes size fine s a.node a.bytes a.long

    pub fit-content_u : fits (put_content s u k a u).tree ≡ fits u.tree
    fit-content_u = fits-bytes size fine u a.node a.bytes long-following

  module _ (program_of : Bytes → Option Program) (encodes : EncodesPrograms program_of) (s : State) (j k : ℕ) (p : Process) (whole : IsValid s) (apart : j ≢ k) (at : process_at s j ≡ Some p) where
    abbrev t : State
    t = after_k program_of encodes s j k p whole apart at

    -- the step of k follows the change of these bytes and of the inside of the other process
    pub passes-content : (a : Content s t k) (q : Process) → SameHolds p q
        → SteppedPair (λ z. put_content s t k a (with_change z j (become q))) (step program_of s k) (step program_of (put_content s t k a (with_change s j (become q))) k)
    passes-content a q same =
        let s' : State = with_bytes s a.node a.bytes in
        let along = goes-along size fine program_of k a.node s a.bytes whole a.file a.long a.good a.leaves a.exact in
        let inside = others-alter-nothing program_of s' k j p q (valid-bytes size fine s a.node a.bytes a.long whole a.file a.good) apart at (alike-held p q same) in
        record {
          outcome = inside.outcome ∙ along.outcome;
          lines = inside.lines ∙ along.lines;
          after = inside.after ∙ ap (λ z. with_change z j (become q)) along.after;
        }
