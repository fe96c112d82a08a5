-- States with other bytes of similar length in a file.
use Rattle.std.proofs.Common.{◌≡◌, ⊎_elim, ℕ, ◌≤◌, Bool, true, false, length, Option, None, Some, refl, ap, sym, subst, ◌∙◌, zero-le}
use Rattle.std.specs.Prelude.{Contains, filter_map}
use Rattle.std.proofs.lemmas.Bool.{le-ltb}
use Rattle.pv_model.specs.declared.call.Call.{Call}
use Rattle.pv_model.specs.declared.perms.Perms.{Perms}
use Rattle.pv_model.specs.declared.place.Place.{Place}
use Rattle.pv_model.specs.Machine.{Bytes, is_past_greatest, with_content_of, with_content, bytes_of, start_directory, collect, Numbered, greatest_length, is_too_long, fits, is_file, Program, Process, State, with_tree, step, change_file, file_bytes, with_bytes, place_found, places, IsAllowed, Justifies, read_by_descriptor, read_by_execve, Node, directory_node, file_node, link_node, node_at, walks_of}
use Rattle.pv_model.specs.Touch.{Touch, change_by_descriptor, change_by_open, entry_by_place, report_by_descriptor, report_by_place, gain_by_open}
use Rattle.pv_laws_trees.proofs.TreeChanges.{node_at-same, cases_name}
use Rattle.pv_laws_trees.proofs.NumberedMaps.{at_number-below}
use Rattle.pv_laws_trees.proofs.NodeRoom.{length-within}
use Rattle.pv_laws_states.specs.States.{are_bytes, IsValid}
use Rattle.pv_laws_states.proofs.GrownTrees.{tree-content, carries-content, ready-tree}
use Rattle.pv_laws_states.proofs.ValidReplies.{valid-collect}
use Rattle.pv_laws_runs.specs.OfLawsAccess.Justice.{ChangesBytes, HasEffectNext}
use Rattle.pv_laws_runs.proofs.OfLawsAccess.ChangedTrees.{file-collect}
use Rattle.pv_laws_runs.proofs.OfLawsAccess.JustifiedChanges.{files-changed}
use Rattle.pv_laws_runs.proofs.OfLawsAccess.JustifiedReads.{near-or_read}
use Rattle.pv_laws_runs.proofs.OfLawsAccess.SimilarTrees.{GoesByLength, IsExact, IsFine, blocks, blocks-fine, past-alike, near-view, AreNear, near-at, near_state, IsNear, near-collect, fits-near, too_long-near, near-bytes, same-but_file, resolve-near, judgement-near}
use Rattle.pv_laws_steps.specs.Growing.{LeavesContent, ContentsDoNotMatter}
use Rattle.pv_laws_steps.specs.Writes.{LeavesBytes}

-- the bytes of the file are the new ones
pub bytes-there : (z : State) (f : ℕ) (b : Bytes) → is_file (node_at z.tree f) ≡ true → file_bytes (with_bytes z f b) f ≡ b
bytes-there z f b file = by (node_at z.tree f) refl file
  where
    by : (o : Option Node) → node_at z.tree f ≡ o → is_file o ≡ true → file_bytes (with_bytes z f b) f ≡ b
    by None at is = cc is
    by (Some (directory_node es)) at is = cc is
    by (Some (link_node text)) at is = cc is
    by (Some (file_node executable old)) at is =
        ap (λ o. bytes_of (node_at (with_content_of z.tree f o b) f)) at ∙ ap bytes_of (node_at-same z.tree f (file_node executable b) (at_number-below z.tree.nodes f (file_node executable old) at))

-- a node that is not a file is unchanged
no-file : (z : State) (f : ℕ) (b : Bytes) → is_file (node_at z.tree f) ≡ false → with_bytes z f b ≡ z
no-file z f b none = by (node_at z.tree f) none
  where
    by : (o : Option Node) → is_file o ≡ false → with_tree z (with_content_of z.tree f o b) ≡ z
    by None is = refl
    by (Some (directory_node es)) is = refl
    by (Some (link_node text)) is = refl
    by (Some (file_node executable old)) is = cc is

-- a file does not exceed the greatest length
file-within : (z : State) (f : ℕ) → IsValid z → length (file_bytes z f) ≤ greatest_length z.tree.version
file-within z f whole = by (node_at z.tree f) refl
  where
    by : (o : Option Node) → node_at z.tree f ≡ o → length (bytes_of o) ≤ greatest_length z.tree.version
    by None at = zero-le
    by (Some (directory_node es)) at = zero-le
    by (Some (link_node text)) at = zero-le
    by (Some (file_node executable bytes)) at = length-within z.tree f (file_node executable bytes) at whole.not_too_long

-- ---- a step that leaves the bytes of a file alone

module _ (program_of : Bytes → Option Program) (k f : ℕ) where
  pub bytes-left : (s : State) → IsValid s → is_file (node_at s.tree f) ≡ true → is_file (node_at (step program_of s k).after.tree f) ≡ true → ¬ HasEffectNext ChangesBytes s k f
      → file_bytes (step program_of s k).after f ≡ file_bytes s f
  bytes-left s whole file following not =
      ⊎_elim (λ same. same) (λ differs. absurd (not (files-changed program_of s k f whole (file, following, differs)))) (cases_name (file_bytes (step program_of s k).after f) (file_bytes s f))

-- a step that leaves the content of a file alone does not depend on its length
pub not_by-length : (s : State) (k f : ℕ) → LeavesContent s k f → ¬ HasEffectNext GoesByLength s k f
not_by-length s k f leaves by =
    ⊎_elim (λ asks. leaves.1 (by.0, by.1, by.2, by.3, by.4, asks)) (λ changes. leaves.0.1 (by.0, by.1, by.2, by.3, by.4, changes)) by.5

-- ---- bytes of similar length

module _ (size : ℕ → ℕ) (fine : IsFine size) where
  -- a file may have this length
  pub may-be_long : (z : State) (f n : ℕ) → IsValid z → size n ≡ size (length (file_bytes z f)) → is_past_greatest z.tree n ≡ false
  may-be_long z f n whole same =
      past-alike z.tree.version n (length (file_bytes z f)) (fine n (length (file_bytes z f)) same) ∙ le-ltb (greatest_length z.tree.version) (length (file_bytes z f)) (file-within z f whole)

  module _ (z : State) (f : ℕ) (b : Bytes) (long : size (length b) ≡ size (length (file_bytes z f))) where
    abbrev other : State
    other = with_bytes z f b

    near : IsNear size f z other
    near = near-bytes size z f b long

    pub still-file : is_file (node_at other.tree f) ≡ is_file (node_at z.tree f)
    still-file = near-view size is_file (node_at z.tree f) (node_at other.tree f) (λ executable old new same. refl) (near-at size f z.tree.nodes other.tree.nodes near.nodes f)

    pub fits-bytes : fits other.tree ≡ fits z.tree
    fits-bytes = ap (λ (y : State). fits y.tree) near.rest ∙ fits-near size fine f z.tree other.tree.nodes near.nodes

    pub long-bytes : is_too_long other.tree ≡ is_too_long z.tree
    long-bytes = ap (λ (y : State). is_too_long y.tree) near.rest ∙ too_long-near size fine f z.tree other.tree.nodes near.nodes

    -- a collected state stays collected
    pub settled-bytes : collect z ≡ z → is_file (node_at z.tree f) ≡ true → collect other ≡ other
    settled-bytes collected file =
        let both : IsNear size f (collect z) (collect other) = subst (λ y. IsNear size f (collect z) (collect y)) (sym near.rest) (near-collect size f z other.tree.nodes near.nodes) in
        let still : is_file (node_at (collect other).tree f) ≡ true =
        near-view size is_file (node_at (collect z).tree f) (node_at (collect other).tree f) (λ executable old new same. refl) (near-at size f (collect z).tree.nodes (collect other).tree.nodes both.nodes f)
        ∙ ap (λ (y : State). is_file (node_at y.tree f)) collected ∙ file in
        let same : file_bytes (collect other) f ≡ b = ap bytes_of (file-collect other f still) ∙ bytes-there z f b file in
        sym (same-but_file size f (collect z) (collect other) both) ∙ ap (λ (y : State). with_bytes y f (file_bytes (collect other) f)) collected ∙ ap (with_bytes z f) same

    pub valid-bytes : IsValid z → is_file (node_at z.tree f) ≡ true → are_bytes b ≡ true → IsValid other
    valid-bytes whole file good =
        let settled = settled-bytes whole.collected file in
        subst IsValid settled
        (valid-collect other
        (ready-tree z whole (with_content z.tree f b) (tree-content z.tree whole.tree f b good) (carries-content z.tree whole.tree f b good) (record {
          fits = ap (λ (y : State). fits y.tree) settled ∙ fits-bytes ∙ whole.fits;
          not_too_long = ap (λ (y : State). is_too_long y.tree) settled ∙ long-bytes ∙ whole.not_too_long;
        })))

  -- ---- a justification of a touch remains one with other bytes in a file

  module _ (f : ℕ) (s : State) (ys : Numbered Node) (near : AreNear size f s.tree.nodes ys) (p : Process) (call : Call) where
    abbrev u : State
    u = near_state s ys

    places-near : places u p call ≡ places s p call
    places-near = λ i. filter_map (λ w. place_found (resolve-near size f s.tree ys near w.follow (start_directory s p w.start w.path) w.path i)) (walks_of call)

    allowed-near : (needed : Perms) (place : Place) → IsAllowed u p call needed place → IsAllowed s p call needed place
    allowed-near needed place is = (subst (λ ps. Contains ps place) places-near is.0, sym (judgement-near size f s.tree ys near p.table place needed) ∙ is.1)

    change-near : (touch : Touch) → Justifies u p call touch → (g : ℕ) → touch ≡ change_file g → Justifies s p call (change_file g)
    change-near _ (read_by_descriptor n has) g is = cc is
    change-near _ (read_by_execve path place n executes allowed node) g is = cc is
    change-near _ (change_by_descriptor n has) g is = let same : n ≡ g = cc is in subst (λ m. Justifies s p call (change_file m)) same (change_by_descriptor n has)
    change-near _ (change_by_open flags place n flagged cut allowed node) g is =
        let same : n ≡ g = cc is in subst (λ m. Justifies s p call (change_file m)) same (change_by_open flags place n flagged cut (allowed-near _ place allowed) node)
    change-near _ (entry_by_place place d name allowed named) g is = cc is
    change-near _ (report_by_descriptor n has) g is = cc is
    change-near _ (report_by_place place n allowed node) g is = cc is
    change-near _ (gain_by_open flags place n mode flagged same allowed node) g is = cc is

  pub changes-near : (s : State) (k f : ℕ) (b : Bytes) → size (length b) ≡ size (length (file_bytes s f)) → HasEffectNext ChangesBytes (with_bytes s f b) k f → HasEffectNext ChangesBytes s k f
  changes-near s k f b long is =
      let near = near-bytes size s f b long in
      (is.0, is.1, is.2, is.3, is.4, (is.5.0, change-near f s (with_bytes s f b).tree.nodes near.nodes is.0 is.1 (change_file f) (subst (λ y. Justifies y is.0 is.1 (change_file f)) near.rest is.5.1) f refl))

  -- ---- the step follows the change of the bytes

  module _ (program_of : Bytes → Option Program) (k f : ℕ) where
    pub record GoesAlong (s : State) (b : Bytes) : Type 0 where
      pub outcome : (step program_of (with_bytes s f b) k).outcome ≡ (step program_of s k).outcome
      pub lines : (step program_of (with_bytes s f b) k).lines ≡ (step program_of s k).lines
      pub after : (step program_of (with_bytes s f b) k).after ≡ with_bytes (step program_of s k).after f b

    pub goes-along : (s : State) (b : Bytes) → IsValid s → is_file (node_at s.tree f) ≡ true → size (length b) ≡ size (length (file_bytes s f)) → are_bytes b ≡ true → LeavesBytes s k f
        → (HasEffectNext GoesByLength s k f → IsExact size) → GoesAlong s b
    goes-along s b whole file long good leaves exact =
        ⊎_elim (λ read. absurd (leaves.0 read)) (λ alike. record { outcome = alike.outcome; lines = alike.lines; after = sym (same-but_file size f t t' alike.after) ∙ following alike.after (is_file (node_at t.tree f)) refl })
        (near-or_read size fine program_of s k f b long exact)
      where
        t : State
        t = (step program_of s k).after

        s' : State
        s' = with_bytes s f b

        t' : State
        t' = (step program_of s' k).after

        following : IsNear size f t t' → (is : Bool) → is_file (node_at t.tree f) ≡ is → with_bytes t f (file_bytes t' f) ≡ with_bytes t f b
        following near false none = no-file t f (file_bytes t' f) none ∙ sym (no-file t f b none)
        following near true there =
            let file' : is_file (node_at s'.tree f) ≡ true = still-file s f b long ∙ file in
            let there' : is_file (node_at t'.tree f) ≡ true =
            near-view size is_file (node_at t.tree f) (node_at t'.tree f) (λ executable old new same. refl) (near-at size f t.tree.nodes t'.tree.nodes near.nodes f) ∙ there in
            ap (with_bytes t f) (bytes-left program_of k f s' (valid-bytes s f b long whole file good) file' there' (λ is. leaves.1 (changes-near s k f b long is)) ∙ bytes-there s f b file)

-- a step that leaves the content of a file alone follows a change of the bytes to any that need the same number of blocks
pub contents-alter-nothing : ContentsDoNotMatter
contents-alter-nothing program_of s pid f bytes whole file good long leaves =
    let along = goes-along blocks blocks-fine program_of pid f s bytes whole file long good leaves.0 (λ by. absurd (not_by-length s pid f leaves by)) in
    record { outcome = along.outcome; lines = along.lines; after = along.after }
