-- The names of a host directory merged with the entries of a source stay in order.
use Rattle.std.specs.Prelude.{◌&&◌, ℕ, Bool, true, false, List, Option, None, Some, option_map, if◌then◌else◌, IfSome, IsTrue}
use Rattle.std.proofs.lemmas.Bool.{and_parts, and_from}
use Rattle.pv_model.specs.Machine.{Bytes, Entry, is_past}
use Rattle.pv_host_copy.specs.Given.{merged_entries, is_taken}
use Rattle.pv_host_copy.specs.Hosts.{HostEntries, no_more, with_directory, with_file_entry, with_link, with_other, with_replaced, is_ordered}
use Rattle.pv_host_copy.specs.Paths.{path_under}

module _ (given : List (ℕ × Entry)) where
  abbrev IsOrdered : Option Bytes → HostEntries → Type 0
  IsOrdered last entries = IsTrue (is_ordered last entries)

  abbrev IsChosen : Bool → Option Bytes → HostEntries → HostEntries → Type 0
  IsChosen b last one other = IsOrdered last (if b then one else other)

  chosen : (b : Bool) (last : Option Bytes) (one other : HostEntries) → IsOrdered last one → IsOrdered last other → IsChosen b last one other
  chosen true last one other this that = this
  chosen false last one other this that = that

  ordered : (path : Bytes) (last : Option Bytes) (entries : HostEntries) → IsOrdered last entries → IsOrdered last (merged_entries given path entries)
  ordered path last no_more is = is
  ordered path last (with_directory name inside rest) is =
      let both = and_parts (is_past last name && is_ordered None inside) (is_ordered (Some name) rest) is in
      let parts = and_parts (is_past last name) (is_ordered None inside) both.0 in
      let others = ordered path (Some name) rest both.1 in
      chosen (is_taken given true (path_under path name)) last (with_replaced name (merged_entries given path rest)) (with_directory name (merged_entries given (path_under path name) inside) (merged_entries given path rest))
      (and_from (is_past last name) _ parts.0 others) (and_from _ _ (and_from (is_past last name) _ parts.0 (ordered (path_under path name) None inside parts.1)) others)
  ordered path last (with_file_entry name identity executable bytes rest) is =
      let parts = and_parts (is_past last name) (is_ordered (Some name) rest) is in
      let all = and_from (is_past last name) _ parts.0 (ordered path (Some name) rest parts.1) in
      chosen (is_taken given false (path_under path name)) last (with_replaced name (merged_entries given path rest)) (with_file_entry name identity executable bytes (merged_entries given path rest)) all all
  ordered path last (with_link name identity text rest) is =
      let parts = and_parts (is_past last name) (is_ordered (Some name) rest) is in
      let all = and_from (is_past last name) _ parts.0 (ordered path (Some name) rest parts.1) in
      chosen (is_taken given false (path_under path name)) last (with_replaced name (merged_entries given path rest)) (with_link name identity text (merged_entries given path rest)) all all
  ordered path last (with_other name why rest) is =
      let parts = and_parts (is_past last name) (is_ordered (Some name) rest) is in
      let all = and_from (is_past last name) _ parts.0 (ordered path (Some name) rest parts.1) in
      chosen (is_taken given false (path_under path name)) last (with_replaced name (merged_entries given path rest)) (with_other name why (merged_entries given path rest)) all all
  ordered path last (with_replaced name rest) is =
      let parts = and_parts (is_past last name) (is_ordered (Some name) rest) is in
      and_from (is_past last name) _ parts.0 (ordered path (Some name) rest parts.1)

  -- the names stay in order
  pub ordered-merged : (path : Bytes) (last : Option Bytes) (known : Option HostEntries) → IfSome known (λ entries. IsTrue (is_ordered last entries))
      → IfSome (option_map (merged_entries given path) known) (λ entries. IsTrue (is_ordered last entries))
  ordered-merged path last None is = is
  ordered-merged path last (Some entries) is = ordered path last entries is
