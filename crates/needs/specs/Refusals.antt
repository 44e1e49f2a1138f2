-- Why there is no closure.
use Rattle.std.specs.Prelude.{◌≡◌, ℕ, ◌<◌, ◌≤◌, List, length, None, Some}
use Rattle.base.specs.Names.{Name}
use Rattle.library.specs.Library.{Library}
use Rattle.libraries.specs.Looks.{number_of, part_at}
use Rattle.needs.specs.Numbered.{closure_numbers}
use Rattle.needs.specs.declared.faults.MissingLibrary.{MissingLibrary}
use Rattle.needs.specs.declared.faults.NotGathered.{NotGathered}
use Rattle.needs.specs.declared.faults.NotGathered.TheVariants.{NoSuchLibrary, Missing, TooFewWords}

-- the library's need is a name that no library of the text has
abbrev pub IsMissing : List Library → MissingLibrary → Type 0
IsMissing ls m = (x : Name) × (part_at ls m.library.0 (λ l. l.needs) m.need ≡ Some x) × (number_of ls x ≡ None)

-- what keeps library i from being gathered into n words
abbrev pub Refused : List Library → ℕ → ℕ → NotGathered → Type 0
Refused ls i n (Missing m) = (closure_numbers ls i ≡ None) × IsMissing ls m
Refused ls i n NoSuchLibrary = length ls ≤ i
Refused ls i n TooFewWords = n < length ls

-- what keeps the libraries from being ordered that library i begins with, where n can be held
abbrev pub Unordered : List Library → ℕ → ℕ → NotGathered → Type 0
Unordered ls i n NoSuchLibrary = length ls ≤ i
Unordered ls i n (Missing m) = IsMissing ls m
Unordered ls i n TooFewWords = n < length ls
