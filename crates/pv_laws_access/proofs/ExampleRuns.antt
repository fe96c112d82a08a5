-- The touches of a worked run, by computation.
use Rattle.std.proofs.Common.{◌≡◌, ℕ, zero, suc, ◌<◌, lit<, pos, true, false, [], ◌∷◌, take, codes, slice_index, None, Some, is_none, refl, ap, sym, ◌∙◌, inl, inr, arith}
use Rattle.std.specs.List.{All, list_all}
use Rattle.std.proofs.lemmas.List.Elements.{All-cons, All-nil}
use Rattle.pv_model.specs.declared.call.Call.TheVariants.{Stat}
use Rattle.pv_model.specs.declared.open_flags.Mode.TheVariants.{ReadWrite}
use Rattle.pv_model.specs.declared.place.Place.TheVariants.{At}
use Rattle.pv_model.specs.Machine.{Bytes, Numbered, at_number, Process, State, process_at, step, read_file, change_file, report_node, gain_descriptor, Touches, root, find_entry, machine_on_literals}
use Rattle.pv_model.specs.Touch.{change_entry}
use Rattle.pv_laws_states.specs.ExampleStates.{no_programs}
use Rattle.pv_laws_states.proofs.ExampleStates.{or_first}
use Rattle.pv_laws_access.specs.Examples.{state_after_touches, EachKindExamples}
use Rattle.pv_laws_access.proofs.JustifiedGains.{has-opens}

abbrev first : State → Process
first s = or_first (process_at s 1)

all_none : {X : Type 0} (xs : Numbered X) (k : ℕ) → list_all is_none xs ≡ true → at_number xs k ≡ None
all_none [] k all = refl
all_none (None ∷ xs) zero all = refl
all_none (Some x ∷ xs) zero all = cc
all_none (None ∷ xs) (suc k) all = all_none xs k all
all_none (Some x ∷ xs) (suc k) all = cc

made : Touches no_programs (state_after_touches (1 ∷ [])) 1 (change_entry root (codes "d"))
unfolding machine_on_literals
made same =
    let was : find_entry (state_after_touches (1 ∷ [])).tree root (codes "d") ≡ None = refl in
    let is : find_entry (step no_programs (state_after_touches (1 ∷ [])) 1).after.tree root (codes "d") ≡ Some 3 = refl in
    let both : Some 3 ≡ None = sym is ∙ same ∙ was in cc both

opened : Touches no_programs (state_after_touches (1 ∷ 1 ∷ [])) 1 (gain_descriptor 2 ReadWrite)
unfolding machine_on_literals
opened = (
  (
    first (step no_programs (state_after_touches (1 ∷ 1 ∷ [])) 1).after,
    pos 0,
    0,
    record { node = 2; mode = ReadWrite; append = false; offset = 0; listed = None },
    refl,
    refl,
    refl,
    refl,
  ),
  λ has.
      let opens = has-opens (state_after_touches (1 ∷ 1 ∷ [])) 1 2 ReadWrite has (first (state_after_touches (1 ∷ 1 ∷ []))) refl in
      let none : at_number (state_after_touches (1 ∷ 1 ∷ [])).files opens.descriptor.file ≡ None = all_none (state_after_touches (1 ∷ 1 ∷ [])).files opens.descriptor.file refl in
      let both : Some opens.file ≡ None = sym opens.opened ∙ none in cc both,
)

abbrev first_byte : State → Bytes
first_byte s = take 1 (first s).buffer

pub other_byte : codes "h" ≡ codes "j" → ⊥
other_byte same = let number : ◌≡◌ {A = ℕ} 104 106 = ap (λ (bytes : Bytes). slice_index bytes 0) same in omega arith

small : (b : ℕ) (bs : Bytes) → b < 256 → All (λ c. c < 256) bs → All (λ c. c < 256) (b ∷ bs)
small = All-cons (λ c. c < 256)

was_read : Touches no_programs (state_after_touches (1 ∷ 1 ∷ 1 ∷ [])) 1 (read_file 2)
unfolding machine_on_literals
was_read = (
  codes "jello",
  small 106 (codes "ello") (lit< tt) (small 101 (codes "llo") (lit< tt) (small 108 (codes "lo") (lit< tt) (small 108 (codes "o") (lit< tt) (small 111 [] (lit< tt) (All-nil (λ b. b < 256)))))),
  refl,
  inr (λ same. other_byte (ap first_byte same)),
)

longer : codes "hellohello" ≡ codes "hello" → ⊥
longer same = cc

changed : Touches no_programs (state_after_touches (1 ∷ 1 ∷ 1 ∷ 1 ∷ [])) 1 (change_file 2)
unfolding machine_on_literals
changed = (refl, refl, λ same. longer same)

reported : Touches no_programs (state_after_touches []) 1 (report_node 2)
unfolding machine_on_literals
reported = (
  first (state_after_touches []),
  Stat (codes "/motd"),
  refl,
  refl,
  refl,
  inl (refl, (At root (codes "motd") (Some 2), (0, omega arith, refl), refl)),
)

pub each-happens : EachKindExamples
each-happens = record { report = reported; entry = made; gain = opened; read = was_read; change = changed }
