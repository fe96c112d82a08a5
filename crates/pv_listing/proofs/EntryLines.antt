-- The lines of a node and of everything below it, entry by entry.
use Rattle.std.proofs.Common.{◌≡◌, ℕ, zero, suc, ◌-◌, ◌<◌, false, [], ◌∷◌, ◌++◌, ◌∙◌, flat_map, codes, Option, None, Some, refl, ap, sym, arith}
use Rattle.pv_model.specs.Machine.{Bytes, Entries, Node, directory_node, file_node, link_node, Tree, node_at, entries_of, entries_at, is_directory, is_directory_at}
use Rattle.pv_model.specs.Listing.{lines_within}
use Rattle.pv_streams.specs.Sinks.{and_all}
use Rattle.pv_listing.specs.Lines.{entries_after}
use Rattle.pv_streams.proofs.TextRemainders.{LeavesRest, rest_all, rest_after}

-- a node that is not a directory has no entries
pub no-entries : (t : Tree) (n : ℕ) → is_directory_at t n ≡ false → entries_at t n ≡ []
no-entries t n is = by (node_at t n) is
  where
    by : (o : Option Node) → is_directory o ≡ false → entries_of o ≡ []
    by None is = refl
    by (Some (directory_node es)) is = cc is
    by (Some (file_node executable bytes)) is = refl
    by (Some (link_node text)) is = refl

module _ (t : Tree) (line : Bytes → ℕ → Bytes) where
  -- the lines of everything under these names of a directory
  abbrev pub entry_lines : ℕ → Bytes → Entries → Bytes
  entry_lines depth path es = flat_map (λ e. lines_within t line depth (path ++ codes "/" ++ e.0) e.1) es

  pub lines-are : (depth : ℕ) (path : Bytes) (n : ℕ) → 0 < depth
      → lines_within t line depth path n ≡ line path n ++ entry_lines (depth - 1) path (entries_at t n)
  lines-are zero path n some = absurd (omega arith)
  lines-are (suc depth) path n some =
      let less : depth ≡ suc depth - 1 = omega arith in ap (λ k. line path n ++ entry_lines k path (entries_at t n)) less

  -- after the line of a node, the lines of its entries remain
  pub node_left : (depth : ℕ) (path : Bytes) (n : ℕ) (es : Entries) (before after : Option Bytes) → 0 < depth → entries_at t n ≡ es → after ≡ and_all before (line path n)
      → LeavesRest (entry_lines (depth - 1) path es) (lines_within t line depth path n) before after
  node_left depth path n es before after some are written =
      rest_after (lines_within t line depth path n) (line path n) _ _ before before after (rest_all _ before) (lines-are depth path n some ∙ ap (λ (xs : Entries). line path n ++ entry_lines (depth - 1) path xs) are) written

  -- the lines of the next entry, and those of the entries after it
  pub entry_first : (depth : ℕ) (directory path name : Bytes) (es : Entries) (last : Option Bytes) (child : ℕ)
      → entries_after last es ≡ (name, child) ∷ entries_after (Some name) es → path ≡ directory ++ codes "/" ++ name
      → entry_lines depth directory (entries_after last es) ≡ lines_within t line depth path child ++ entry_lines depth directory (entries_after (Some name) es)
  entry_first depth directory path name es last child first at =
      ap (entry_lines depth directory) first ∙ ap (λ (bs : Bytes). lines_within t line depth bs child ++ entry_lines depth directory (entries_after (Some name) es)) (sym at)
