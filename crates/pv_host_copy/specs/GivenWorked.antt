-- Worked examples: the tree of a small host directory and of a source's entries.
use Rattle.std.specs.Prelude.{◌≡◌, ℕ, true, false, List, [], ◌∷◌, codes, refl, Result}
use Rattle.pv_model.specs.declared.fault.ManifestFault.{ManifestFault}
use Rattle.pv_model.specs.declared.version.Version.TheVariants.{V1}
use Rattle.pv_model.specs.Grammar.Manifests.{and_entries}
use Rattle.pv_model.specs.Machine.{add_entries, Entry, make, further_name, directory_node, file_node, link_node, Tree, empty_tree}
use Rattle.pv_laws_worked.specs.Bundles.{bundles_on_literals}
use Rattle.pv_laws_worked.specs.Stated.{Stated}
use Rattle.pv_host_copy.specs.declared.entry.Identity.{Identity}
use Rattle.pv_host_copy.specs.declared.fault.SkipReason.TheVariants.{Kind}
use Rattle.pv_host_copy.specs.Gathered.{host_entries_of}
use Rattle.pv_host_copy.specs.Given.{add_missing, merged_entries}
use Rattle.pv_host_copy.specs.Hosts.{HostEntries, no_more, with_directory, with_file_entry, with_link, with_other, with_replaced}

abbrev node : ℕ → Identity
node n = record { device = 1; inode = n }

-- a directory with a file that has two names, a directory with a file, a socket, and a link
abbrev host : HostEntries
host =
    with_directory (codes "etc") (with_file_entry (codes "key") (node 5) false (codes "old") (with_file_entry (codes "motd") (node 6) false (codes "hello") no_more))
    (with_file_entry (codes "key") (node 5) false (codes "old")
    (with_directory (codes "lib") (with_file_entry (codes "inside") (node 7) false (codes "so") no_more)
    (with_link (codes "link") (node 8) (codes "etc/key") (with_other (codes "socket") Kind no_more))))

-- a source with a file in that directory, and with files in place of the other directory and of the socket
abbrev given : List (ℕ × Entry)
given =
    (2, make (codes "/etc") (directory_node []))
    ∷ (3, make (codes "/etc/key") (file_node false (codes "new")))
    ∷ (4, make (codes "/lib") (file_node false []))
    ∷ (5, make (codes "/new") (directory_node []))
    ∷ (6, further_name (codes "/socket") (codes "/etc/key"))
    ∷ []

-- the first name of the file, the other directory and the socket are replaced; the directory of both is not
pub some_entries_are_replaced : merged_entries given [] host ≡
    with_directory (codes "etc") (with_replaced (codes "key") (with_file_entry (codes "motd") (node 6) false (codes "hello") no_more))
    (with_file_entry (codes "key") (node 5) false (codes "old") (with_replaced (codes "lib") (with_link (codes "link") (node 8) (codes "etc/key") (with_replaced (codes "socket") no_more))))
some_entries_are_replaced = refl

-- the manifest of both: the second name of the host's file is its first then
abbrev both : List (ℕ × Entry)
both =
    (1, make (codes "/etc") (directory_node []))
    ∷ (2, make (codes "/etc/motd") (file_node false (codes "hello")))
    ∷ (3, make (codes "/key") (file_node false (codes "old")))
    ∷ (4, make (codes "/link") (link_node (codes "etc/key")))
    ∷ (3, make (codes "/etc/key") (file_node false (codes "new")))
    ∷ (4, make (codes "/lib") (file_node false []))
    ∷ (5, make (codes "/new") (directory_node []))
    ∷ (6, further_name (codes "/socket") (codes "/etc/key"))
    ∷ []

abbrev small : Tree
small = empty_tree 20 9

-- the tree, in a small image, is that of this manifest
abbrev merged : Result Tree ManifestFault
merged = and_entries (add_entries (host_entries_of V1 (merged_entries given [] host)) small) (add_missing given)

pub both_are_in_the_tree : merged ≡ add_entries both small
unfolding bundles_on_literals
both_are_in_the_tree = refl

-- every worked example holds
pub record AllGivenWorked : Type 0 where
  pub some_entries_are_replaced : Stated some_entries_are_replaced
  pub both_are_in_the_tree : Stated both_are_in_the_tree
