use Rattle.std.proofs.Common.{◌≡◌, ◌==◌, ℕ, true, get_or, set, refl, sym, ap, ◌∙◌, inl, inr, arith, List}
use Rattle.std.proofs.lemmas.Bool.{cases_eq, eqb-true, false≢true}
use Rattle.pv_dirs.specs.Index.{bucket_of, known}
use Rattle.pv_dirs.specs.declared.index.Bucket.{Bucket}
use Rattle.pv_dirs.specs.declared.index.Bucket.TheVariants.{Empty, Slot}
use Rattle.pv_dirs.proofs.IndexedEntries.{bucket_at-is, bucket_at-at, bucket_at-here, leads-slot, leads-others, leads-same, known-same}
use Rattle.pv_dirs.proofs.index.Index.change.Goals as goal
use Rattle.pv_dirs.proofs.index.Index.change.Goals.{After-is_slot, then-from-to, else-from-to}

-- a bucket does not change
preserved : (c : After-is_slot) → get_or c.know.new.self.places c.place_of-at.result Empty ≡ get_or c.args.self.now.places c.place_of-at.result Empty
preserved c = ap (λ (ps : List Bucket). get_or ps c.place_of-at.result Empty) c.know.ensures.places

pub returns-then-is_slot-clause-this : goal.returns-then-is_slot-clause-this
returns-then-is_slot-clause-this c = λ before.
    inl (bucket_at-here c.know.new.self _ c.place_of-at.result (Slot c.args.directory c.args.to) (omega (arith, c.place_of-at.ensures.within)) refl refl c.args.directory c.args.name.now (sym c.place_of-at.ensures.value))

pub returns-then-is_slot-clause-others : goal.returns-then-is_slot-clause-others
returns-then-is_slot-clause-others c = λ d k other apart leads.
    leads-others c.args.self.now _ c.place_of-at.result (Slot c.args.directory c.args.to) (omega (arith, c.place_of-at.ensures.within)) c.know.ensures.mask
    (ap (λ (ps : List Bucket). set ps c.place_of-at.result (Slot c.args.directory c.args.to)) c.know.ensures.places) d other k
    (λ same before.
    let here = bucket_at-at c.args.self.now d other c.place_of-at.result (Slot c.args.directory c.args.from) same (sym (preserved (goal.at.returns-then-is_slot-clause-others c).After-is_slot) ∙ c.is_slot.ensures.0 c.if-is_slot.true) in
    let both = leads-slot c.args.self.now d other k c.args.directory c.args.from here before in absurd (apart both.0 both.1)) leads

pub returns-else-is_slot-clause-this : goal.returns-else-is_slot-clause-this
returns-else-is_slot-clause-this c = λ leads. elim leads [
  | inl slot ↦
      let here = preserved (goal.at.returns-else-is_slot-clause-this c).After-is_slot ∙ ap (λ i. get_or c.args.self.now.places i Empty) (c.place_of-at.ensures.value ∙ ap (λ m. bucket_of m c.args.directory c.args.name.now) c.know.ensures.mask) ∙ sym (bucket_at-is c.args.self.now c.args.directory c.args.name.now) ∙ slot in
      absurd (false≢true (sym c.if-is_slot.false ∙ c.is_slot.ensures.1 here))
  | inr shared ↦ leads-same c.args.self.now c.know.new.self c.args.directory c.args.name.now c.args.to c.know.ensures.mask c.know.ensures.places (inr shared)
]

pub returns-else-is_slot-clause-others : goal.returns-else-is_slot-clause-others
returns-else-is_slot-clause-others c = λ d k other apart leads. leads-same c.args.self.now c.know.new.self d other k c.know.ensures.mask c.know.ensures.places leads

-- if the names are known to ascend afterwards, they were before, and the entry stays in its slot
still : (c : After-is_slot) → known c.know.new.self c.args.directory ≡ true → (c.args.from ≡ c.args.to) × (known c.args.self.now c.args.directory ≡ true)
still c is = elim c.if-from-to.branch [
  | then-from-to w ↦ (w.if-from-to.true, sym w.ascends-ascends.ensures ∙ sym w.ascends-is ∙ c.know.ensures.this is)
  | else-from-to w ↦ let same : (c.args.from == c.args.to) ≡ true = sym w.ascends-is ∙ c.know.ensures.this is in absurd (w.if-from-to.false (eqb-true c.args.from c.args.to same))
]

known_before : (c : After-is_slot) (d : ℕ) → known c.know.new.self d ≡ true → known c.args.self.now d ≡ true
known_before c d is = elim (cases_eq d c.args.directory) [
  | inl same ↦ ap (known c.args.self.now) same ∙ (still c (sym (ap (known c.know.new.self) same) ∙ is)).1
  | inr other ↦ sym (c.know.ensures.others d other) ∙ is
]

pub returns-then-is_slot-clause-stays : goal.returns-then-is_slot-clause-stays
returns-then-is_slot-clause-stays c = λ is. (still (goal.at.returns-then-is_slot-clause-stays c).After-is_slot (sym (known-same c.know.new.self _ c.args.directory refl refl) ∙ is)).0

pub returns-then-is_slot-clause-known : goal.returns-then-is_slot-clause-known
returns-then-is_slot-clause-known c = λ d is. known_before (goal.at.returns-then-is_slot-clause-known c).After-is_slot d (sym (known-same c.know.new.self _ d refl refl) ∙ is)

pub returns-else-is_slot-clause-stays : goal.returns-else-is_slot-clause-stays
returns-else-is_slot-clause-stays c = λ is. (still (goal.at.returns-else-is_slot-clause-stays c).After-is_slot is).0

pub returns-else-is_slot-clause-known : goal.returns-else-is_slot-clause-known
returns-else-is_slot-clause-known c = λ d is. known_before (goal.at.returns-else-is_slot-clause-known c).After-is_slot d is
