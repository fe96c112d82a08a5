-- The files of a search, as texts of the command line.
use Rattle.std.proofs.Common.{◌≡◌, ◌∙◌, ℕ, ◌≤◌, List, [], ◌∷◌, length, map, Option, option_map, slice_get, refl, arith}
use Rattle.std.specs.Borrow.{Bor}
use Rattle.std.specs.List.{cons_option}
use Rattle.clap.specs.Words.{Text}
use Rattle.pv_cli_line.specs.Line.{present_paths}

-- the path of a text of the list, if it has one with this number
abbrev path_in : List (Bor Text) → ℕ → Option Text
path_in texts k = option_map (λ text. text.now) (slice_get texts k)

abbrev now_in : Option (Bor (List ℕ)) → Option Text
now_in path = option_map (λ p. p.now) path

-- at most eight texts are the first eight
eight : (ts : List (Bor Text)) → length ts ≤ 8
    → cons_option (path_in ts 0) (cons_option (path_in ts 1) (cons_option (path_in ts 2) (cons_option (path_in ts 3)
    (cons_option (path_in ts 4) (cons_option (path_in ts 5) (cons_option (path_in ts 6) (cons_option (path_in ts 7) []))))))) ≡ map (λ text. text.now) ts
eight [] few = refl
eight (a ∷ []) few = refl
eight (a ∷ b ∷ []) few = refl
eight (a ∷ b ∷ c ∷ []) few = refl
eight (a ∷ b ∷ c ∷ d ∷ []) few = refl
eight (a ∷ b ∷ c ∷ d ∷ e ∷ []) few = refl
eight (a ∷ b ∷ c ∷ d ∷ e ∷ f ∷ []) few = refl
eight (a ∷ b ∷ c ∷ d ∷ e ∷ f ∷ g ∷ []) few = refl
eight (a ∷ b ∷ c ∷ d ∷ e ∷ f ∷ g ∷ h ∷ []) few = refl
eight (a ∷ b ∷ c ∷ d ∷ e ∷ f ∷ g ∷ h ∷ i ∷ ts) few = absurd (omega (arith, few))

pub are_paths : (ts : List (Bor Text)) (a b c d e f g h : Option (Bor (List ℕ))) → length ts ≤ 8
    → now_in a ≡ path_in ts 0 → now_in b ≡ path_in ts 1 → now_in c ≡ path_in ts 2 → now_in d ≡ path_in ts 3
    → now_in e ≡ path_in ts 4 → now_in f ≡ path_in ts 5 → now_in g ≡ path_in ts 6 → now_in h ≡ path_in ts 7
    → present_paths (a ∷ b ∷ c ∷ d ∷ e ∷ f ∷ g ∷ h ∷ []) ≡ map (λ text. text.now) ts
are_paths ts a b c d e f g h few a_is b_is c_is d_is e_is f_is g_is h_is =
    (λ i. cons_option (a_is i) (cons_option (b_is i) (cons_option (c_is i) (cons_option (d_is i)
    (cons_option (e_is i) (cons_option (f_is i) (cons_option (g_is i) (cons_option (h_is i) []))))))))
    ∙ eight ts few
