-- The numbers that came, oldest first.
use Rattle.std.specs.Prelude.{ℕ, List, length, take}
use Rattle.lent.specs.declared.once.Once.{Once}

-- all that came
abbrev pub numbers : Once → List ℕ
numbers o = take o.len o.words.now

-- numbers from here on are refused
abbrev pub limit : Once → ℕ
limit o = length o.marks.now
