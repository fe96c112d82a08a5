-- The next entry of a host directory merged with the entries of a source.
use Rattle.std.proofs.Common.{◌≡◌, ◌∙◌, ap, ℕ, ◌+◌, ◌<◌, Bool, true, false, List, Option, None, Some, arith, refl, sym, subst}
use Rattle.std.specs.Prelude.{if◌then◌else◌, map, option_map, IfSome}
use Rattle.std.specs.Borrow.{Bor}
use Rattle.std.specs.Global.{Vec}
use Rattle.std.specs.List.{list_any}
use Rattle.pv_model.specs.Machine.{Bytes, Entry as ManifestEntry}
use Rattle.pv_image_manifest.specs.declared.entry.Entry.{Entry}
use Rattle.pv_image_manifest.specs.Entries.{entry_of_line}
use Rattle.pv_host_copy.specs.declared.beside.Beside.{Beside}
use Rattle.pv_host_copy.specs.declared.entry.HostEntry.{HostEntry}
use Rattle.pv_host_copy.specs.declared.entry.HostNode.{HostNode}
use Rattle.pv_host_copy.specs.declared.entry.HostNode.TheVariants.{Directory, File, Link, Other, Replaced}
use Rattle.pv_host_copy.specs.declared.entry.Identity.{Identity}
use Rattle.pv_host_copy.specs.declared.fault.SkipReason.{SkipReason}
use Rattle.pv_laws_trees.proofs.Ranges.{any_map}
use Rattle.pv_host_copy.specs.Beside.{is_taken_at, merged_node}
use Rattle.pv_host_copy.specs.Given.{merged_entries, is_taken, takes_place}
use Rattle.pv_host_copy.specs.Hosts.{HostEntries, no_more, with_directory, with_file_entry, with_link, with_other, with_replaced}
use Rattle.pv_host_copy.specs.Paths.{path_under}
use Rattle.pv_host_copy.specs.Reporting.{IsDirectory, IsFile, IsFewer, IsLink, IsOther, IsReplaced, ReportsEntry, left_below}

-- the answer to the question whether an entry replaces the host's node at a path
pub taken-at : (given : Bor (List Entry)) (path : Vec ℕ) (is_directory : Bool) (here : Bytes) (result answer : Bool) → here ≡ path.items
    → result ≡ list_any (λ e. takes_place is_directory here (entry_of_line e).1) given.now → result ≡ answer → is_taken_at given path is_directory ≡ answer
taken-at given path is_directory here result answer place is answered =
    ap (λ p. list_any (λ e. takes_place is_directory p (entry_of_line e).1) given.now) (sym place) ∙ sym is ∙ answered

-- the remaining entries of a directory, merged with those of the source
abbrev pub rest_merged : {D : Type 0} → (D → Option HostEntries) → Beside D → Option HostEntries
rest_merged rest s = option_map (merged_entries (map entry_of_line s.given.now) s.path.items) (rest s.directory)

module _ {D R : Type 0} (rest : D → Option HostEntries) (bytes : R → Option Bytes) (given : Bor (List Entry)) (path : Bytes) where
  abbrev entries : List (ℕ × ManifestEntry)
  entries = map entry_of_line given.now

  module _ (place : Vec ℕ) (name : Vec ℕ) (node : HostNode D R) (is_place : place.items ≡ path_under path name.items) where
    abbrev there : HostNode (Beside D) R
    there = merged_node given place node

    abbrev here : HostEntry (Beside D) R
    here = record { name = name; node = there }

    abbrev ReportsThere : HostEntries → Option HostEntries → Type 0
    ReportsThere all after = ReportsEntry (rest_merged rest) bytes all (Some here) after

    place-taken : (named : Bytes) → name.items ≡ named → (is_directory : Bool) → is_taken entries is_directory (path_under path named) ≡ is_taken_at given place is_directory
    place-taken named is is_directory =
        ap (is_taken entries is_directory) (ap (path_under path) (sym is) ∙ sym is_place) ∙ any_map entry_of_line (λ e. takes_place is_directory place.items e.1) given.now

    directory-merged : (named : Bytes) (inside others : HostEntries) (after : Option HostEntries) → name.items ≡ named → IsDirectory rest bytes inside node → after ≡ Some others
        → ReportsThere (merged_entries entries path (with_directory named inside others)) (option_map (merged_entries entries path) after)
    directory-merged named inside others after is = by node
      where
        by : (n : HostNode D R) → IsDirectory rest bytes inside n → after ≡ Some others
            → ReportsEntry (rest_merged rest) bytes (merged_entries entries path (with_directory named inside others)) (Some (record { name = name; node = merged_node given place n })) (option_map (merged_entries entries path) after)
        by (Directory d) known remains = rw (place-taken named is true) (at (is_taken_at given place true))
          where
            at : (b : Bool) → ReportsEntry (rest_merged rest) bytes (if b then with_replaced named (merged_entries entries path others) else with_directory named (merged_entries entries (path_under path named) inside) (merged_entries entries path others))
                (Some (record { name = name; node = if b then Replaced else Directory (record { directory = d; path = place; given = given }) })) (option_map (merged_entries entries path) after)
            at true = (is, tt, ap (option_map (merged_entries entries path)) remains)
            at false = (
              is,
              ap (λ p. option_map (merged_entries entries p) (rest d)) (is_place ∙ ap (path_under path) is) ∙ ap (option_map (merged_entries entries (path_under path named))) known,
              ap (option_map (merged_entries entries path)) remains,
            )
        by (File i x f) known remains = absurd known
        by (Link i t) known remains = absurd known
        by (Other w) known remains = absurd known
        by Replaced known remains = absurd known

    file-merged : (named : Bytes) (identity : Identity) (executable : Bool) (all : Bytes) (others : HostEntries) (after : Option HostEntries) → name.items ≡ named
        → (n : HostNode D R) → IsFile rest bytes identity executable all n → after ≡ Some others
        → ReportsEntry (rest_merged rest) bytes (merged_entries entries path (with_file_entry named identity executable all others)) (Some (record { name = name; node = merged_node given place n })) (option_map (merged_entries entries path) after)
    file-merged named identity executable all others after is (File i x f) known remains = rw (place-taken named is false) (at (is_taken_at given place false))
      where
        at : (b : Bool) → ReportsEntry (rest_merged rest) bytes (if b then with_replaced named (merged_entries entries path others) else with_file_entry named identity executable all (merged_entries entries path others))
            (Some (record { name = name; node = if b then Replaced else File i x f })) (option_map (merged_entries entries path) after)
        at true = (is, tt, ap (option_map (merged_entries entries path)) remains)
        at false = (is, known, ap (option_map (merged_entries entries path)) remains)
    file-merged named identity executable all others after is (Directory d) known remains = absurd known
    file-merged named identity executable all others after is (Link i t) known remains = absurd known
    file-merged named identity executable all others after is (Other w) known remains = absurd known
    file-merged named identity executable all others after is Replaced known remains = absurd known

    link-merged : (named : Bytes) (identity : Identity) (text : Bytes) (others : HostEntries) (after : Option HostEntries) → name.items ≡ named
        → (n : HostNode D R) → IsLink rest bytes identity text n → after ≡ Some others
        → ReportsEntry (rest_merged rest) bytes (merged_entries entries path (with_link named identity text others)) (Some (record { name = name; node = merged_node given place n })) (option_map (merged_entries entries path) after)
    link-merged named identity text others after is (Link i t) known remains = rw (place-taken named is false) (at (is_taken_at given place false))
      where
        at : (b : Bool) → ReportsEntry (rest_merged rest) bytes (if b then with_replaced named (merged_entries entries path others) else with_link named identity text (merged_entries entries path others))
            (Some (record { name = name; node = if b then Replaced else Link i t })) (option_map (merged_entries entries path) after)
        at true = (is, tt, ap (option_map (merged_entries entries path)) remains)
        at false = (is, known, ap (option_map (merged_entries entries path)) remains)
    link-merged named identity text others after is (Directory d) known remains = absurd known
    link-merged named identity text others after is (File i x f) known remains = absurd known
    link-merged named identity text others after is (Other w) known remains = absurd known
    link-merged named identity text others after is Replaced known remains = absurd known

    other-merged : (named : Bytes) (why : SkipReason) (others : HostEntries) (after : Option HostEntries) → name.items ≡ named
        → (n : HostNode D R) → IsOther rest bytes why n → after ≡ Some others
        → ReportsEntry (rest_merged rest) bytes (merged_entries entries path (with_other named why others)) (Some (record { name = name; node = merged_node given place n })) (option_map (merged_entries entries path) after)
    other-merged named why others after is (Other w) known remains = rw (place-taken named is false) (at (is_taken_at given place false))
      where
        at : (b : Bool) → ReportsEntry (rest_merged rest) bytes (if b then with_replaced named (merged_entries entries path others) else with_other named why (merged_entries entries path others))
            (Some (record { name = name; node = if b then Replaced else Other w })) (option_map (merged_entries entries path) after)
        at true = (is, tt, ap (option_map (merged_entries entries path)) remains)
        at false = (is, known, ap (option_map (merged_entries entries path)) remains)
    other-merged named why others after is (Directory d) known remains = absurd known
    other-merged named why others after is (File i x f) known remains = absurd known
    other-merged named why others after is (Link i t) known remains = absurd known
    other-merged named why others after is Replaced known remains = absurd known

    replaced-merged : (named : Bytes) (others : HostEntries) (after : Option HostEntries) → name.items ≡ named
        → (n : HostNode D R) → IsReplaced rest bytes n → after ≡ Some others
        → ReportsEntry (rest_merged rest) bytes (merged_entries entries path (with_replaced named others)) (Some (record { name = name; node = merged_node given place n })) (option_map (merged_entries entries path) after)
    replaced-merged named others after is Replaced known remains = (is, tt, ap (option_map (merged_entries entries path)) remains)
    replaced-merged named others after is (Directory d) known remains = absurd known
    replaced-merged named others after is (File i x f) known remains = absurd known
    replaced-merged named others after is (Link i t) known remains = absurd known
    replaced-merged named others after is (Other w) known remains = absurd known

    one-merged : (all : HostEntries) (after : Option HostEntries) → ReportsEntry rest bytes all (Some (record { name = name; node = node })) after
        → ReportsThere (merged_entries entries path all) (option_map (merged_entries entries path) after)
    one-merged no_more after reported = absurd reported
    one-merged (with_directory named inside others) after reported = directory-merged named inside others after reported.0 reported.1 reported.2
    one-merged (with_file_entry named identity executable all others) after reported = file-merged named identity executable all others after reported.0 node reported.1 reported.2
    one-merged (with_link named identity text others) after reported = link-merged named identity text others after reported.0 node reported.1 reported.2
    one-merged (with_other named why others) after reported = other-merged named why others after reported.0 node reported.1 reported.2
    one-merged (with_replaced named others) after reported = replaced-merged named others after reported.0 node reported.1 reported.2

    -- the next entry, whose node the source may replace
    pub next-merged : (known after : Option HostEntries) → IfSome known (λ all. ReportsEntry rest bytes all (Some (record { name = name; node = node })) after)
        → IfSome (option_map (merged_entries entries path) known) (λ all. ReportsThere all (option_map (merged_entries entries path) after))
    next-merged None after reported = tt
    next-merged (Some all) after reported = one-merged all after reported

    -- no more entries remain
    pub fewer-merged : (left : D → ℕ) (before after : ℕ) → IsFewer left before (Some (record { name = name; node = node })) after
        → IsFewer {R = R} (λ (s : Beside D). left s.directory) before (Some here) after
    fewer-merged left before after fewer = by node fewer
      where
        by : (n : HostNode D R) → after + left_below left n < before → after + left_below (λ (s : Beside D). left s.directory) (merged_node given place n) < before
        by (Directory d) less = at (is_taken_at given place true)
          where
            at : (b : Bool) → after + left_below {R = R} (λ (s : Beside D). left s.directory) (if b then Replaced else Directory (record { directory = d; path = place; given = given })) < before
            at true = omega (arith, less)
            at false = less
        by (File i x f) less = at (is_taken_at given place false)
          where
            at : (b : Bool) → after + left_below (λ (s : Beside D). left s.directory) (if b then Replaced else File i x f) < before
            at true = less
            at false = less
        by (Link i t) less = at (is_taken_at given place false)
          where
            at : (b : Bool) → after + left_below {R = R} (λ (s : Beside D). left s.directory) (if b then Replaced else Link i t) < before
            at true = less
            at false = less
        by (Other w) less = at (is_taken_at given place false)
          where
            at : (b : Bool) → after + left_below {R = R} (λ (s : Beside D). left s.directory) (if b then Replaced else Other w) < before
            at true = less
            at false = less
        by Replaced less = less

  -- the end
  pub end-merged : (known after : Option HostEntries) → IfSome known (λ all. ReportsEntry rest bytes all None after)
      → IfSome (option_map (merged_entries entries path) known) (λ all. ReportsEntry (rest_merged rest) bytes all None (option_map (merged_entries entries path) after))
  end-merged None after reported = tt
  end-merged (Some no_more) after reported = tt
  end-merged (Some (with_directory name inside others)) after reported = absurd reported
  end-merged (Some (with_file_entry name identity executable all others)) after reported = absurd reported
  end-merged (Some (with_link name identity text others)) after reported = absurd reported
  end-merged (Some (with_other name why others)) after reported = absurd reported
  end-merged (Some (with_replaced name others)) after reported = absurd reported
