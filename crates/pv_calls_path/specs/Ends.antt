-- The ends of a call's walks.
use Rattle.std.specs.Prelude.{ℕ, Option, None, Some}
use Rattle.pv_model.specs.declared.place.Place.{Place}
use Rattle.pv_model.specs.Machine.{Attempt, done, refused, check_start, end_of, Process, State, place_found, Walk}

-- a place, if nothing has refused the walk to it
abbrev pub if_given : Attempt (Unit {0}) → Option Place → Option Place
if_given (done walks given) place = place
if_given (refused walks e cause) place = None

module _ (s : State) (pid : ℕ) (me : Process) where
  -- the place at which a walk ends, if it is begun: a relative path needs a directory from its descriptor
  abbrev pub end_begun : Walk → Option Place
  end_begun w = if_given (check_start s pid me w.start w.path) (place_found (end_of s me w))

  abbrev pub end_of_some : Option Walk → Option Place
  end_of_some None = None
  end_of_some (Some w) = end_begun w
