-- Whether the last of some components is `.` or `..`, step by step.
use Rattle.std.proofs.Common.{◌≡◌, ◌∙◌, Bool, false, ◌||◌, List, [], ◌∷◌, refl, ap}
use Rattle.pv_model.specs.Machine.{Bytes}
use Rattle.pv_model.specs.Calls.Paths.{last_is_dot}
use Rattle.pv_model.specs.Walk.{is_dot, is_dot_dot}

-- the answer for the last component so far, if none remains
abbrev pub last_or : Bool → List Bytes → Bool
last_or dots [] = dots
last_or dots (component ∷ rest) = last_or (is_dot component || is_dot_dot component) rest

last_of : (component : Bytes) (rest : List Bytes) → last_is_dot (component ∷ rest) ≡ last_or (is_dot component || is_dot_dot component) rest
last_of component [] = refl
last_of component (next ∷ rest) = last_of next rest

pub last_first : (ps : List Bytes) → last_is_dot ps ≡ last_or false ps
last_first [] = refl
last_first (component ∷ rest) = last_of component rest

-- one component further
pub last_next : (all dots new : Bool) (ps : List Bytes) (component : Bytes) (rest : List Bytes) → all ≡ last_or dots ps → ps ≡ component ∷ rest
    → (is_dot component || is_dot_dot component) ≡ new → all ≡ last_or new rest
last_next all dots new ps component rest is cut reported = is ∙ ap (last_or dots) cut ∙ ap (λ b. last_or b rest) reported
