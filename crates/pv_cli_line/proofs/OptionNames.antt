-- Arguments of the parser.
use Rattle.std.proofs.Common.{◌≡◌, ◌∙◌, ap, false, ◌++◌, ◌∷◌, [], List, map}
use Rattle.std.specs.Borrow.{Bor}
use Rattle.std.specs.Prelude.{Result, Ok, Err, IfOk}
use Rattle.std.proofs.lemmas.List.{map-append}
use Rattle.clap.specs.Words.{AddsAliases, Rule, Text, rule_of}
use Rattle.clap.specs.declared.builder.arg.Arg.{Arg}
use Rattle.pv_cli_line.specs.Parser.{long_rule, renamed_rule}

-- an option to which its old name was added
pub renamed_option : {E : Type 0} (before : Arg) (name : Text) (old : Bor Text) → rule_of before ≡ long_rule name
    → (r : Result Arg E) → IfOk r (λ after. AddsAliases before after ((old, false) ∷ []))
    → IfOk r (λ after. rule_of after ≡ renamed_rule name old.now)
renamed_option before name old is (Err e) adds = tt
renamed_option before name old is (Ok after) adds =
    ap rule_of adds.0
    ∙ ap (λ items. record (rule_of before) { aliases = map (λ alias. alias.0.now) items }) adds.1
    ∙ ap (λ (names : List Text). record (rule_of before) { aliases = names }) (map-append (λ alias. alias.0.now) before.aliases.items ((old, false) ∷ []))
    ∙ ap (λ (rule : Rule). record rule { aliases = rule.aliases ++ old.now ∷ [] }) is
