-- The closure of a library under needs, by numbers of libraries.
use Rattle.std.specs.Prelude.{◌≡◌, ℕ, zero, suc, ◌+◌, List, [], ◌∷◌, map, length, Option, Some, slice_get}
use Rattle.std.specs.Option.{option_map}
use Rattle.base.specs.Choices.{opt, on_some}
use Rattle.base.specs.Names.{Name}
use Rattle.links.specs.Closure.{closure}
use Rattle.library.specs.Library.{Library}
use Rattle.libraries.specs.Looks.{number_of}
use Rattle.lent.specs.Once.{joined}

-- what library i needs, in the order of lines, each by its number; none for one that isn't in the text
abbrev pub needed : List Library → ℕ → List (Option ℕ)
needed ls i = opt (slice_get ls i) [] (λ l. map (number_of ls) l.needs)

-- f over the elements, one after the other, as long as there is a result
abbrev pub fold_some : {S A : Type 0} → (S → A → Option S) → List A → S → Option S
fold_some f [] s = Some s
fold_some f (x ∷ xs) s = on_some (f s x) (fold_some f xs)

-- one number more, unless it is there; none where there is none
abbrev pub joined_some : List ℕ → Option ℕ → Option (List ℕ)
joined_some seen o = on_some o (λ j. Some (joined j seen))

-- breadth first: those from the h-th on were not asked yet what they need. n bounds how many are asked
abbrev pub reach : ℕ → (ℕ → List (Option ℕ)) → ℕ → List ℕ → Option (List ℕ)
reach zero f h seen = Some seen
reach (suc n) f h seen = opt (slice_get seen h) (Some seen) (λ j. on_some (fold_some joined_some (f j) seen) (reach n f (h + 1)))

-- a library and all that it reaches by needs; none where that is not all in the text
abbrev pub closure_numbers : List Library → ℕ → Option (List ℕ)
closure_numbers ls i = reach (length ls) (needed ls) 0 (i ∷ [])

-- the name of library i
abbrev pub name_at : List Library → ℕ → Name
name_at ls i = opt (slice_get ls i) [] (λ l. l.name)

-- the closure by names is the closure by numbers
abbrev pub ClosureByNumber : Type 0
ClosureByNumber = (ls : List Library) (x : Name) → closure ls x ≡ on_some (number_of ls x) (λ i. option_map (map (name_at ls)) (closure_numbers ls i))
