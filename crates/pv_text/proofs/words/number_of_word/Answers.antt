use Rattle.std.proofs.Common.{◌≡◌, negsuc, ◌-◌, ◌-ℤ◌, to_z, of_z, w32, arith, rules, sym}
use Rattle.std.proofs.lemmas.Int.{ints}
use Rattle.pv_text.proofs.WordsAndTexts.{negative_is}
use Rattle.pv_text.proofs.words.number_of_word.Goals as goal

pub returns-else-size-gt2147483648 : goal.returns-else-size-gt2147483648
returns-else-size-gt2147483648 c =
    let n = c.in_ok-size-in-45.size in
    let e : to_z w32 (of_z w32 (negsuc 0 -ℤ to_z w32 (n - 1))) ≡ negsuc (n - 1) = omega (arith, ints) in
    rw e (sym (negative_is c.args.word.now n (search rules) c.in_ok-size-in-45.ensures c.if-size-eq0.false c.if-size-gt2147483648.false))
