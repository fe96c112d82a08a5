-- The statement of a theorem, for records of worked runs.

abbrev pub Stated : {A : Type 0} → A → Type 0
Stated {A} theorem = A
