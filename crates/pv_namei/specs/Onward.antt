-- The state of a walk.
use Rattle.std.specs.Prelude.{◌≡◌, ℕ, zero, suc, ◌<◌, ◌≤◌, ⊤, Bool, IsTrue, IsSome, List, length, if◌then◌else◌, nat_lt, Option, None, Some, Result, Ok, Err}
use Rattle.pv_model.specs.declared.limits.TheConstants.{LINKS, NAME_V2}
use Rattle.pv_model.specs.declared.errno.Errno.{Errno}
use Rattle.pv_model.specs.declared.errno.Errno.TheVariants.{ENOENT, ENAMETOOLONG}
use Rattle.pv_model.specs.declared.follow.Follow.{Follow}
use Rattle.pv_model.specs.declared.place.Place.{Place}
use Rattle.pv_model.specs.declared.place.Place.TheVariants.{At, Node}
use Rattle.pv_model.specs.Machine.{Bytes, link_text, Tree, root, node_at, greatest_name, is_directory_at, is_removed, find_entry, IsWellFormed, is_absolute, follows_last, end_mark, Walked}
use Rattle.pv_model.specs.Walk.{PastLink, at_entry, along, no_link_left, through_link, walk_with_links}
use Rattle.pv_namei.specs.declared.lead.Lead.{Lead}
use Rattle.pv_namei.specs.declared.lead.Lead.TheVariants.{Directory, Entry}
use Rattle.pv_namei.specs.declared.stop.End.{End as Ending}
use Rattle.pv_namei.specs.declared.stop.End.TheVariants.{Named, Unnamed}
use Rattle.pv_namei.specs.declared.stop.Stop.{Stop}
use Rattle.pv_namei.specs.declared.stop.Stop.TheVariants.{End, Link}
use Rattle.pv_namei.specs.declared.walk.WalkState.{WalkState}

-- the continuation of a walk at a link, with this number of links left
abbrev pub following : Tree → Bool → ℕ → PastLink
following t last zero = no_link_left t last
following t last (suc links) = through_link t last (walk_with_links t last links)

-- the start of a walk of a path from a directory
abbrev pub first_walk : ℕ → Bytes → Follow → WalkState
first_walk start path follow =
    record { last = follows_last follow; links = LINKS; at = if is_absolute path then root else start; mark = end_mark follow path }

-- a walk is at a directory of a well-formed tree
pub record IsAtDirectory (t : Tree) (n : ℕ) : Type 0 where
  pub well_formed : IsWellFormed t
  pub directory : IsTrue (is_directory_at t n)

-- the result of a walk in this state with these components left
abbrev pub remaining : Tree → WalkState → List Bytes → Walked
remaining t w rest = walk_with_links t w.last w.links rest w.mark w.at

-- its result after a link with this target
abbrev pub followed : Tree → WalkState → List Bytes → Option Bytes → Walked
followed t w rest (Some text) = following t w.last w.links text rest w.mark w.at
followed t w rest None = Err ENOENT

-- its result after its directory has this node under a name
abbrev pub entered : Tree → WalkState → List Bytes → Bytes → Option ℕ → Walked
entered t w rest name node = at_entry t w.last (following t w.last w.links) (along t w.last (following t w.last w.links) rest w.mark) w.at name rest w.mark node

-- the place at which it ends
abbrev pub place_of_ending : Ending → Place
place_of_ending (Named dir component node) = At dir component.now node
place_of_ending (Unnamed n) = Node n

-- its result after it has stopped
abbrev pub stopped : Tree → WalkState → List Bytes → Stop → Walked
stopped t w rest (End end) = Ok (place_of_ending end)
stopped t w rest (Link n) = followed t w rest (link_text (node_at t n))

-- its result after a step, which stops the walk or leaves the rest
abbrev pub result_after_step : Tree → WalkState → List Bytes → Result (Option Stop) Errno → Walked
result_after_step t w rest (Err e) = Err e
result_after_step t w rest (Ok (Some stop)) = stopped t w rest stop
result_after_step t w rest (Ok None) = remaining t w rest

-- its result after the components up to a stop
abbrev pub arrived : Tree → WalkState → List Bytes → Result Stop Errno → Walked
arrived t w rest (Err e) = Err e
arrived t w rest (Ok stop) = stopped t w rest stop

-- its result after a link, at the end or with the rest
abbrev pub passed : Result (Option Place) Errno → Walked → Walked
passed (Err e) onward = Err e
passed (Ok (Some place)) onward = Ok place
passed (Ok None) onward = onward

-- its result if the first component is a name
abbrev pub named : Tree → Bool → PastLink → List Bytes → Bool → ℕ → Bytes → Walked
named t last onward rest mark at component =
    if nat_lt (greatest_name t.version) (length component) then Err ENAMETOOLONG
    else if is_removed t at then Err ENOENT
    else at_entry t last onward (along t last onward rest mark) at component rest mark (find_entry t at component)

-- its result if the first component was resolved
abbrev pub led : Tree → Bool → PastLink → List Bytes → Bool → ℕ → Bytes → Result Lead Errno → Walked
led t last onward rest mark at component (Err e) = Err e
led t last onward rest mark at component (Ok (Directory d)) = along t last onward rest mark d
led t last onward rest mark at component (Ok (Entry node)) = at_entry t last onward (along t last onward rest mark) at component rest mark node

-- the component leads to a directory, or to the node that the directory has under this name
abbrev pub IsLeadIn : Tree → ℕ → Bytes → Lead → Type 0
IsLeadIn t at component (Directory d) = IsTrue (is_directory_at t d)
IsLeadIn t at component (Entry node) = (find_entry t at component ≡ node) × (length component ≤ NAME_V2)

-- the name does not exceed the maximum length of a name
abbrev pub HasShortName : Ending → Type 0
HasShortName (Named _ component _) = length component.now ≤ NAME_V2
HasShortName (Unnamed _) = ⊤

-- the stop is a place with a short name, or a symbolic link
abbrev pub IsStop : Tree → Stop → Type 0
IsStop t (End end) = HasShortName end
IsStop t (Link n) = IsSome (link_text (node_at t n))

-- a step removes a component, or is the last
abbrev pub IsNearer : List Bytes → List Bytes → Result (Option Stop) Errno → Type 0
IsNearer before after (Ok None) = length after < length before
IsNearer before after _ = ⊤
