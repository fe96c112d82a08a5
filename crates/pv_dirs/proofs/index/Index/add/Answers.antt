use Rattle.std.proofs.Common.{set, get_or, refl, sym, ap, ◌∙◌, inl, inr, arith, List}
use Rattle.pv_dirs.specs.declared.index.Bucket.{Bucket}
use Rattle.pv_dirs.specs.declared.index.Bucket.TheVariants.{Empty}
use Rattle.pv_dirs.proofs.IndexedEntries.{bucket_at-here, bucket_at-at, leads-empty, leads-others, known-same}
use Rattle.pv_dirs.proofs.index.Index.add.Goals as goal
use Rattle.pv_dirs.proofs.index.Index.add.Goals.{in-Empty, in_default}

pub returns-clause-this : goal.returns-clause-this
returns-clause-this c =
    let here = bucket_at-here c.know.new.self _ c.place_of-at.result c.match-self-at.self (omega (arith, c.place_of-at.ensures.within)) refl refl c.args.directory c.args.name.now (sym c.place_of-at.ensures.value) in
    elim c.match-self-at.branch [
      | in-Empty w ↦ inl (here ∙ w.self-is)
      | in_default w ↦ inr (here ∙ w.self-is)
    ]

pub returns-clause-others : goal.returns-clause-others
returns-clause-others c = λ d k other leads.
    let set_is = ap (λ (ps : List Bucket). set ps c.place_of-at.result c.match-self-at.self) c.know.ensures.places in
    leads-others c.args.self.now _ c.place_of-at.result c.match-self-at.self (omega (arith, c.place_of-at.ensures.within)) c.know.ensures.mask set_is d other k
    (λ same before. elim c.match-self-at.branch [
      | in-Empty w ↦ absurd (leads-empty c.args.self.now d other k (bucket_at-at c.args.self.now d other c.place_of-at.result Empty same (ap (λ (ps : List Bucket). get_or ps c.place_of-at.result Empty) (sym c.know.ensures.places) ∙ w.in-Empty.is)) before)
      | in_default w ↦ inr (bucket_at-here c.args.self.now _ c.place_of-at.result c.match-self-at.self (omega (arith, c.place_of-at.ensures.within)) c.know.ensures.mask set_is d other same ∙ w.self-is)
    ]) leads

pub returns-clause-ascends : goal.returns-clause-ascends
returns-clause-ascends c = λ is. c.know.ensures.this (sym (known-same c.know.new.self _ c.args.directory refl refl) ∙ is)

pub returns-clause-known : goal.returns-clause-known
returns-clause-known c = λ d other. known-same c.know.new.self _ d refl refl ∙ c.know.ensures.others d other
