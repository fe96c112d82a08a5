use Rattle.std.proofs.Common.{◌≡◌, ◌∙◌, ap, sym, rules, if◌then◌else◌, []}
use Rattle.std.proofs.lemmas.Bool.{eq-eqb}
use Rattle.pv_answers.specs.Reaching.{descriptor_words, words_on}
use Rattle.pv_streams.proofs.EqualOutputs.{whole_as}
use Rattle.pv_answers.proofs.reach.reacher.write_where_on.Goals as goal

pub returns-in-Some : goal.returns-in-Some
returns-in-Some g c =
    let words = descriptor_words c.args.number c.in-Some.mode in
    let same : words ≡ words_on c.args.node c.args.number c.args.opened =
    sym (ap (words_on c.args.node c.args.number) c.in-Some.is ∙ ap (λ b. if b then words else []) (eq-eqb c.in-Some.on c.args.node c.if-on-node.true)) in
    record {
      whole = whole_as _ _ _ _ same c.write.result c.write.ensures.whole;
      prefix = search rules;
      failed = search rules;
      quiet = search rules;
    }
