use Rattle.std.proofs.Common.{sym, subst}
use Rattle.pv_model.specs.Grammar.Encoding.{Decimal}
use Rattle.pv_laws_grammar.proofs.Decimals.{Decimal-decimal_of, decimal_of-Decimal, Decimal-decimal, Decimal-encoded}
use Rattle.pv_laws_grammar.proofs.words.decimals_are_read_as_they_are_encoded.Goals as goal

pub returns : goal.returns
returns c = record {
  read = λ word n. (Decimal-decimal_of word n, decimal_of-Decimal n word);
  written = λ word n fits. ((λ h. Decimal-encoded n word h fits), (λ e. subst (Decimal n) (sym e) (Decimal-decimal n fits)));
}
