-- The entries that remain of a synthetic directory, and those created in a directory in memory.
use Rattle.std.specs.Prelude.{ℕ, true, false, [], codes, refl, Option, None, Some, IsTrue}
use Rattle.pv_model.specs.Machine.{Bytes, Entry, make, further_name, directory_node, file_node, link_node}
use Rattle.pv_host_copy.specs.declared.entry.Identity.{Identity}
use Rattle.pv_host_copy.specs.Hosts.{HostEntries, no_more, with_directory, with_file_entry, with_link, is_ordered}
use Rattle.pv_tests_image.specs.declared.directory.MadeUp.{MadeUp}
use Rattle.pv_tests_image.specs.declared.directory.MadeUp.TheVariants.{Upper, AfterDirectory, AfterLink, AfterAll, Lower, AfterFirst, AfterBoth}
use Rattle.pv_tests_image.specs.declared.target.Made.{Made}
use Rattle.pv_tests_image.specs.declared.target.Made.TheVariants.{Directory, File, Link, Name}

abbrev pub node : ℕ → Identity
node n = record { device = 1; inode = n }

-- the entries that remain
abbrev pub rest_of : MadeUp → HostEntries
rest_of AfterAll = no_more
rest_of AfterLink = with_file_entry (codes "x") (node 6) true (codes "exit 0") no_more
rest_of AfterDirectory = with_link (codes "l") (node 7) (codes "a/one") (with_file_entry (codes "x") (node 6) true (codes "exit 0") no_more)
rest_of Upper =
    with_directory (codes "a") (with_file_entry (codes "one") (node 5) false (codes "abc") (with_file_entry (codes "two") (node 5) false (codes "abc") no_more))
    (with_link (codes "l") (node 7) (codes "a/one") (with_file_entry (codes "x") (node 6) true (codes "exit 0") no_more))
rest_of AfterBoth = no_more
rest_of AfterFirst = with_file_entry (codes "two") (node 5) false (codes "abc") no_more
rest_of Lower = with_file_entry (codes "one") (node 5) false (codes "abc") (with_file_entry (codes "two") (node 5) false (codes "abc") no_more)

-- the last name that was returned
abbrev pub last_name_returned : MadeUp → Option Bytes
last_name_returned Upper = None
last_name_returned AfterDirectory = Some (codes "a")
last_name_returned AfterLink = Some (codes "l")
last_name_returned AfterAll = Some (codes "x")
last_name_returned Lower = None
last_name_returned AfterFirst = Some (codes "one")
last_name_returned AfterBoth = Some (codes "two")

-- the names that remain ascend
pub ascends_from : (d : MadeUp) → IsTrue (is_ordered (last_name_returned d) (rest_of d))
ascends_from Upper = refl
ascends_from AfterDirectory = refl
ascends_from AfterLink = refl
ascends_from AfterAll = refl
ascends_from Lower = refl
ascends_from AfterFirst = refl
ascends_from AfterBoth = refl

-- the number of these names, with those in the directory among them
abbrev pub left_of : MadeUp → ℕ
left_of Upper = 5
left_of AfterDirectory = 2
left_of AfterLink = 1
left_of AfterAll = 0
left_of Lower = 2
left_of AfterFirst = 1
left_of AfterBoth = 0

-- the entry that was created
abbrev pub entry_made : Made → Entry
entry_made (Directory path) = make path.items (directory_node [])
entry_made (File path executable bytes) = make path.items (file_node executable bytes.items)
entry_made (Link path text) = make path.items (link_node text.items)
entry_made (Name path source) = further_name path.items source.items
