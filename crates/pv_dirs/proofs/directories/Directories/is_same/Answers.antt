use Rattle.std.proofs.Common.{◌≡◌, sym, ap, ◌∙◌, rules}
use denote.Enum.Bare.{same_true}
use Rattle.std.specs.Prelude.{Option, option_map}
use Rattle.pv_model.specs.contracts.version.Version.{the_type}
use Rattle.pv_model.specs.declared.version.Version.{Version}
use Rattle.pv_model.specs.Machine.{Tree, node_at}
use Rattle.pv_inodes.specs.Files.{Contained, held}
use Rattle.pv_dirs.specs.Trees.{node_of_contained}
use Rattle.pv_dirs.proofs.FileTrees.{node_at-tree_of_files}
use Rattle.pv_dirs.proofs.TreeViews.{viewed_used, viewed_version}
use Rattle.pv_dirs.proofs.directories.Directories.is_same.Goals as goal

pub is_same-requires-clause-used : goal.is_same-requires-clause-used
is_same-requires-clause-used c = viewed_used c.self.inside.inodes c.args.self.now c.args.inode c.self.view_is c.requires.used

pub is_same-requires-clause-also_used : goal.is_same-requires-clause-also_used
is_same-requires-clause-also_used c = viewed_used c.other.inside.inodes c.args.other.now c.args.inode c.other.view_is c.requires.also_used

pub returns-then-same_version : goal.returns-then-same_version
returns-then-same_version c = λ same.
    let f = c.self.inside.inodes in
    let g = c.other.inside.inodes in
    let n = c.args.inode in
    let equal : c.version.result ≡ c.version-2.result = same_true the_type (search rules) _ _ (sym c.eq-same_version.ensures ∙ c.if-same_version.true) in
    let versions : f.version ≡ g.version =
    sym (viewed_version f c.args.self.now c.self.view_is) ∙ sym c.version.ensures ∙ equal ∙ c.version-2.ensures ∙ viewed_version g c.args.other.now c.other.view_is in
    ap (λ (t : Tree). node_at t n) (sym c.self.view_is)
    ∙ node_at-tree_of_files f n
    ∙ ap (λ (v : Version). option_map (node_of_contained v) (held f n)) versions
    ∙ ap (λ (o : Option Contained). option_map (node_of_contained g.version) o) (c.is_same.ensures same)
    ∙ sym (ap (λ (t : Tree). node_at t n) (sym c.other.view_is) ∙ node_at-tree_of_files g n)
