use Rattle.std.proofs.Common.{◌≡◌, ◌∙◌, ◌<◌, ◌≤◌, ap, sym, subst, bytes_eq, List, ℕ}
use Rattle.std.specs.List.{list_any}
use Rattle.pv_compare.specs.Pairs.{pairs_of}
use Rattle.pv_compare.proofs.PairNumbers.{numbered-added, visit-added, visit-none, visit-past, visit-there}
use Rattle.pv_explore.specs.Witnesses.{longer}
use Rattle.pv_model.specs.Machine.{Bytes}
use Rattle.pv_compare.proofs.pairs.Pairs.visit.Goals as goal

pub returns-in_default-clause-visited : goal.returns-in_default-clause-visited
returns-in_default-clause-visited c =
    visit-none c.args.limit c.args.self.now.first.keys c.args.self.now.second.keys c.args.self.now.keys c.args.self.now.numbers.items (pairs_of c.args.self.now)
    (longer c.args.self.now.witnesses c.args.from c.args.pid) c.args.first c.args.second c.requires.numbered c.requires.first c.requires.second
    (c.both.ensures.none c.in_default.is)

pub returns-then-contains-clause-visited : goal.returns-then-contains-clause-visited
returns-then-contains-clause-visited c =
    visit-there c.args.limit c.args.self.now.first.keys c.args.self.now.second.keys c.args.self.now.keys c.args.self.now.numbers.items (pairs_of c.args.self.now)
    (longer c.args.self.now.witnesses c.args.from c.args.pid) c.args.first c.args.second c.requires.numbered c.requires.first c.requires.second
    c.in-Some.numbers c.in-Some.ensures.some c.in_ok-key.key.items c.in_ok-key.ensures
    (ap (λ (k : Bytes). list_any (bytes_eq k) c.args.self.now.keys) (sym c.deref.ensures.value) ∙ sym c.contains.ensures ∙ c.if-contains.true)

pub returns-then-len-limit-clause-visited : goal.returns-then-len-limit-clause-visited
returns-then-len-limit-clause-visited c =
    visit-past c.args.limit c.args.self.now.first.keys c.args.self.now.second.keys c.args.self.now.keys c.args.self.now.numbers.items (pairs_of c.args.self.now)
    (longer c.args.self.now.witnesses c.args.from c.args.pid) c.args.first c.args.second c.requires.numbered c.requires.first c.requires.second
    c.in-Some.numbers c.in-Some.ensures.some c.in_ok-key.key.items c.in_ok-key.ensures
    (ap (λ (k : Bytes). list_any (bytes_eq k) c.args.self.now.keys) (sym c.deref.ensures.value) ∙ sym c.contains.ensures ∙ c.if-contains.false)
    (subst (λ (n : ℕ). c.args.limit ≤ n) c.len.ensures c.if-len-limit.true)

pub returns-clause-visited : goal.returns-clause-visited
returns-clause-visited c =
    ap (λ (ws : List (List ℕ)). record (pairs_of c.args.self.now) { witnesses = ws }) c.in_ok-push.ensures.added
    ∙ visit-added c.args.limit c.args.self.now.first.keys c.args.self.now.second.keys c.args.self.now.keys c.args.self.now.numbers.items (pairs_of c.args.self.now)
    (longer c.args.self.now.witnesses c.args.from c.args.pid) c.args.first c.args.second c.requires.numbered c.requires.first c.requires.second
    c.in-Some.numbers c.in-Some.ensures.some c.in_ok-key.key.items c.in_ok-key.ensures
    (ap (λ (k : Bytes). list_any (bytes_eq k) c.args.self.now.keys) (sym c.deref.ensures.value) ∙ sym c.contains.ensures ∙ c.if-contains.false)
    (subst (λ (n : ℕ). n < c.args.limit) c.len.ensures c.if-len-limit.false)

pub returns-clause-numbered : goal.returns-clause-numbered
returns-clause-numbered c =
    numbered-added c.args.limit c.args.self.now.first.keys c.args.self.now.second.keys c.args.self.now.keys c.args.self.now.numbers.items (pairs_of c.args.self.now)
    (longer c.args.self.now.witnesses c.args.from c.args.pid) c.args.first c.args.second c.requires.numbered c.requires.first c.requires.second
    c.in-Some.numbers c.in-Some.ensures.some c.in_ok-key.key.items c.in_ok-key.ensures
    (ap (λ (k : Bytes). list_any (bytes_eq k) c.args.self.now.keys) (sym c.deref.ensures.value) ∙ sym c.contains.ensures ∙ c.if-contains.false)
    c.add.new.self c.push_numbers.new.all.items c.push.new.self c.in_ok-add.ensures.added c.in_ok-push_numbers.ensures c.in_ok-push.ensures.added
