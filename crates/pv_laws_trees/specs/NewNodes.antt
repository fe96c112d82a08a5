-- The nodes that calls create.
use Rattle.std.specs.Prelude.{false, true, []}
use Rattle.pv_model.specs.declared.kind.NewNode.{NewNode}
use Rattle.pv_model.specs.declared.kind.NewNode.TheVariants.{Directory, File, Executable, Symlink}
use Rattle.pv_model.specs.declared.kind.Kind.{Kind}
use Rattle.pv_model.specs.declared.kind.Kind.TheVariants.{Directory as KindDirectory, File as KindFile, Executable as KindExecutable, Symlink as KindSymlink}
use Rattle.pv_model.specs.Machine.{Node, directory_node, file_node, link_node}

-- a new node
abbrev pub new_node : NewNode → Node
new_node Directory = directory_node []
new_node File = file_node false []
new_node Executable = file_node true []
new_node (Symlink text) = link_node text.now

-- the kind of a new node
abbrev pub kind_of_new : NewNode → Kind
kind_of_new Directory = KindDirectory
kind_of_new File = KindFile
kind_of_new Executable = KindExecutable
kind_of_new (Symlink text) = KindSymlink
