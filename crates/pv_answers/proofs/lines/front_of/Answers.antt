use Rattle.std.proofs.Common.{◌≡◌, ◌<◌, ◌+◌, ℕ, [], ◌∷◌, length, refl, arith, rules, slice_index_or}
use Rattle.std.proofs.lemmas.Fmt.{decimal_digit}
use Rattle.pv_model.specs.Machine.{Bytes}
use Rattle.pv_answers.specs.Texts.{line_front}
use Rattle.pv_answers.proofs.lines.front_of.Goals as goal

-- the front for a number of one digit and a word of four bytes
front-of-four : (pid : ℕ) (word : Bytes) → pid < 10 → length word ≡ 4
    → 32 ∷ 32 ∷ 32 ∷ 32 ∷ (48 + pid) ∷ 32 ∷ slice_index_or word 0 0 ∷ slice_index_or word 1 0 ∷ slice_index_or word 2 0 ∷ slice_index_or word 3 0 ∷ 32 ∷ 32 ∷ [] ≡ line_front pid word
front-of-four pid [] digit four = absurd (omega arith)
front-of-four pid (a ∷ []) digit four = absurd (omega arith)
front-of-four pid (a ∷ b ∷ []) digit four = absurd (omega arith)
front-of-four pid (a ∷ b ∷ c ∷ []) digit four = absurd (omega arith)
front-of-four pid (a ∷ b ∷ c ∷ d ∷ []) digit four = rw (decimal_digit pid digit) refl
front-of-four pid (a ∷ b ∷ c ∷ d ∷ e ∷ word) digit four = absurd (omega arith)

pub returns : goal.returns
returns c = front-of-four c.args.pid c.args.word c.requires (search rules)
