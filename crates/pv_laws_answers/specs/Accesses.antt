-- What `access` lists.
use Rattle.std.specs.Prelude.{Bool, List, bytes_eq}
use Rattle.std.specs.List.{list_any}
use Rattle.pv_model.specs.Machine.{AnswerLine, answer_line_bytes, Observation}

-- whether an access has its line among those listed
abbrev pub is_access_listed : AnswerLine → List (Observation AnswerLine) → Bool
is_access_listed access listed = list_any (λ o. bytes_eq (answer_line_bytes o.item) (answer_line_bytes access)) listed
