-- Trees that calls change, in a larger image.
use Rattle.std.proofs.Common.{◌≡◌, ℕ, suc, ◌-◌, ◌≤◌, length, Option, None, Some, refl, ap, ◌∙◌, arith}
use Rattle.std.specs.FinMap.Entries.{put, where_key}
use Rattle.pv_model.specs.declared.version.Version.TheVariants.{V2}
use Rattle.pv_model.specs.Machine.{Bytes, with_content_of, Numbered, Entries, Node, directory_node, file_node, link_node, Tree, entries_at, new_number, with_node, with_entry, without_entry, with_new_node}
use Rattle.pv_laws_trees.proofs.DirectoryEntries.{by_name, is_other}
use Rattle.pv_laws_steps.proofs.PaddedMaps.{with-padded, length-with_number_le}
use Rattle.pv_laws_steps.proofs.LargerTrees.{enlarged, entries-enlarged, new-enlarged}

-- a tree has exactly the numbers of its inodes
abbrev pub IsCounted : Tree → Type 0
IsCounted t = length t.nodes ≡ suc t.inodes

module _ (blocks inodes : ℕ) where
  abbrev E : Tree → Tree
  E = enlarged blocks inodes

  -- a node is replaced
  node-changed : (t : Tree) (n : ℕ) (node : Node) → IsCounted t → IsCounted (with_node t n node) → with_node (E t) n node ≡ E (with_node t n node)
  node-changed t n node counted after =
      ap (λ (ys : Numbered Node). record { nodes = ys; blocks = blocks; inodes = inodes; version = V2 })
      (with-padded (inodes - t.inodes) t.nodes n node (omega (arith, counted, after)))

  pub entry-changed : (t : Tree) (d : ℕ) (name : Bytes) (n : ℕ) → IsCounted t → IsCounted (with_entry t d name n) → with_entry (E t) d name n ≡ E (with_entry t d name n)
  entry-changed t d name n counted after =
      ap (λ (es : Entries). with_node (E t) d (directory_node (put by_name name n es))) (entries-enlarged blocks inodes t d)
      ∙ node-changed t d (directory_node (put by_name name n (entries_at t d))) counted after

  pub without-changed : (t : Tree) (d : ℕ) (name : Bytes) → IsCounted t → IsCounted (without_entry t d name) → without_entry (E t) d name ≡ E (without_entry t d name)
  without-changed t d name counted after =
      ap (λ (es : Entries). with_node (E t) d (directory_node (where_key by_name (is_other name) es))) (entries-enlarged blocks inodes t d)
      ∙ node-changed t d (directory_node (where_key by_name (is_other name) (entries_at t d))) counted after

  pub new-changed : (t : Tree) (d : ℕ) (name : Bytes) (node : Node) → IsCounted t → IsCounted (with_new_node t d name node) → with_new_node (E t) d name node ≡ E (with_new_node t d name node)
  new-changed t d name node counted after =
      let m : ℕ = new_number t in
      let between : Tree = with_node t m node in
      let less : length t.nodes ≤ length between.nodes = length-with_number_le t.nodes m node in
      let more : length between.nodes ≤ length (with_entry between d name m).nodes =
      length-with_number_le between.nodes d (directory_node (put by_name name m (entries_at between d))) in
      let first : IsCounted between = omega (arith, counted, after, less, more) in
      ap (λ (k : ℕ). with_entry (with_node (E t) k node) d name k) (new-enlarged blocks inodes t)
      ∙ ap (λ (x : Tree). with_entry x d name m) (node-changed t m node counted first)
      ∙ entry-changed between d name m first after

  pub moved-changed : (t : Tree) (d : ℕ) (name : Bytes) (e : ℕ) (new : Bytes) (n : ℕ) → IsCounted t → IsCounted (with_entry (without_entry t d name) e new n)
      → with_entry (without_entry (E t) d name) e new n ≡ E (with_entry (without_entry t d name) e new n)
  moved-changed t d name e new n counted after =
      let between : Tree = without_entry t d name in
      let less : length t.nodes ≤ length between.nodes = length-with_number_le t.nodes d (directory_node (where_key by_name (is_other name) (entries_at t d))) in
      let more : length between.nodes ≤ length (with_entry between e new n).nodes =
      length-with_number_le between.nodes e (directory_node (put by_name new n (entries_at between e))) in
      let first : IsCounted between = omega (arith, counted, after, less, more) in
      ap (λ (x : Tree). with_entry x e new n) (without-changed t d name counted first) ∙ entry-changed between e new n first after

  -- the bytes of a file are replaced
  pub content-changed : (t : Tree) (n : ℕ) (o : Option Node) (bytes : Bytes) → IsCounted t → IsCounted (with_content_of t n o bytes) → with_content_of (E t) n o bytes ≡ E (with_content_of t n o bytes)
  content-changed t n None bytes counted after = refl
  content-changed t n (Some (directory_node es)) bytes counted after = refl
  content-changed t n (Some (link_node text)) bytes counted after = refl
  content-changed t n (Some (file_node executable old)) bytes counted after = node-changed t n (file_node executable bytes) counted after

pub content-blocks : (t : Tree) (n : ℕ) (o : Option Node) (bytes : Bytes) → (with_content_of t n o bytes).blocks ≡ t.blocks
content-blocks t n None bytes = refl
content-blocks t n (Some (directory_node es)) bytes = refl
content-blocks t n (Some (link_node text)) bytes = refl
content-blocks t n (Some (file_node executable old)) bytes = refl

pub content-inodes : (t : Tree) (n : ℕ) (o : Option Node) (bytes : Bytes) → (with_content_of t n o bytes).inodes ≡ t.inodes
content-inodes t n None bytes = refl
content-inodes t n (Some (directory_node es)) bytes = refl
content-inodes t n (Some (link_node text)) bytes = refl
content-inodes t n (Some (file_node executable old)) bytes = refl
