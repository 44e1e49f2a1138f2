-- Choices by an option or by a result. The option stands first, as in code: definitions in steps read in their order,
-- which the library's `option_and_then` and `option_map_or` turn round.
use Rattle.std.specs.Prelude.{Bool, true, false, Some, None, Option, Ok, Err, Result}

-- what f makes of the value, or c where there is none
abbrev pub opt : {A C : Type 0} → Option A → C → (A → C) → C
opt None c f = c
opt (Some x) c f = f x

-- the next option, where this one has a value
abbrev pub on_some : {A C : Type 0} → Option A → (A → Option C) → Option C
on_some None f = None
on_some (Some x) f = f x

-- the option, where the test is true
abbrev pub guard : {A : Type 0} → Bool → Option A → Option A
guard true o = o
guard false o = None

-- the next result, where this one is good
abbrev pub on_ok : {A C E : Type 0} → Result A E → (A → Result C E) → Result C E
on_ok (Ok x) f = f x
on_ok (Err e) f = Err e
