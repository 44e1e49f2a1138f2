-- Texts that are worked through, written as data: names are quoted, cells stand in the order of lines, Open 1 5 false is "open 1 5 inner".
use Rattle.std.specs.Prelude.{ℕ, Bool, true, false, List, [], ◌∷◌, map, codes}
use Prim.Native.String.{String}
use Rattle.library.specs.Library.{Symbol, Definition, Instruction, Set, Get, Sto, Own, Add, Sub, If0, Call, Callr, Ret, Out, In, Open, Find, Close, End, Cell, number, ref, slot, named, instruction, Library}

-- the symbol x in version v
abbrev pub symbol_of : String → String → Symbol
symbol_of x v = record { name = codes x; version = codes v }

-- the cell k is defined as x in version v, for all
abbrev pub defines : String → String → ℕ → Definition
defines x v k = record { symbol = symbol_of x v; cell = k; inner = false }

-- a cell that holds an instruction
abbrev pub op : Instruction → Cell
op i = instruction i

-- a slot for any version of x
abbrev pub slot_of : String → Cell
slot_of x = slot (symbol_of x "-")

-- the place n behind any version of x; whether it must be there
abbrev pub ref_of : String → ℕ → Bool → Cell
ref_of x n must = ref (symbol_of x "-") n must

-- a cell that holds a name
abbrev pub name_of : String → Cell
name_of x = named (codes x)

-- a library: its name, what it needs, what it defines, inits, finis, cells
abbrev pub library_of : String → List String → List Definition → List ℕ → List ℕ → List Cell → Library
library_of x ns ds is fs cs = record { name = codes x; inward = false; needs = map codes ns; defs = ds; inits = is; finis = fs; cells = cs }

-- a library that looks in itself first, or not
abbrev pub looking_inward : Bool → Library → Library
looking_inward b l = record { name = l.name; inward = b; needs = l.needs; defs = l.defs; inits = l.inits; finis = l.finis; cells = l.cells }

-- a program: a library p whose main is its first cell
abbrev pub program_of : List String → List ℕ → List Cell → Library
program_of ns fs cs = library_of "p" ns (defines "main" "-" 0 ∷ []) [] fs cs

-- prog needs greet, greet needs low, which has deep in two versions
abbrev pub greeting : List Library
greeting =
    library_of "prog" ("greet" ∷ []) (defines "main" "-" 0 ∷ []) [] []
    (op (Call 6) ∷ op (Set 0 7) ∷ op (Out 0) ∷ op (Set 1 0) ∷ op (End 1) ∷ op Ret ∷ slot_of "hello" ∷ []) ∷
    library_of "greet" ("low" ∷ []) (defines "hello" "1" 0 ∷ []) (7 ∷ []) []
    (op (Own 2 5) ∷ op (Get 3 2 0) ∷ op (Out 3) ∷ op (Call 6) ∷ op Ret ∷ number 42 ∷ slot (symbol_of "deep" "2") ∷ op (Set 5 99) ∷ op (Out 5) ∷ op Ret ∷ []) ∷
    library_of "low" [] (defines "deep" "1" 0 ∷ defines "deep" "2" 3 ∷ []) [] (6 ∷ [])
    (op (Set 0 1) ∷ op (Out 0) ∷ op Ret ∷ op (Set 0 2) ∷ op (Out 0) ∷ op Ret ∷ op (Set 4 1000) ∷ op (Out 4) ∷ op Ret ∷ []) ∷ []

-- a and b both define f, and b calls it; b looks in itself first, or not
abbrev pub two_define : Bool → List Library
two_define b_inward =
    program_of ("a" ∷ "b" ∷ []) []
    (op (Call 2) ∷ op Ret ∷ slot_of "g" ∷ []) ∷
    library_of "a" [] (defines "f" "1" 0 ∷ []) [] []
    (op (Set 0 1) ∷ op (Out 0) ∷ op Ret ∷ []) ∷
    looking_inward b_inward (library_of "b" [] (defines "f" "1" 0 ∷ defines "g" "1" 3 ∷ []) [] []
    (op (Set 0 2) ∷ op (Out 0) ∷ op Ret ∷ op (Call 5) ∷ op Ret ∷ slot_of "f" ∷ [])) ∷ []

-- p opens a twice and closes both groups
abbrev pub open_twice : List Library
open_twice =
    program_of [] []
    (op (Open 1 7 false) ∷ op (Open 2 7 false) ∷ op (Close 1) ∷ op (Set 3 7) ∷ op (Out 3) ∷ op (Close 2) ∷ op Ret ∷ name_of "a" ∷ []) ∷
    library_of "a" [] [] (0 ∷ []) (3 ∷ [])
    (op (Set 0 1) ∷ op (Out 0) ∷ op Ret ∷ op (Set 0 2) ∷ op (Out 0) ∷ op Ret ∷ []) ∷ []

-- q, which stays, has a slot that was settled to a when a's group is closed
abbrev pub slot_keeps : List Library
slot_keeps =
    program_of ("q" ∷ []) []
    (op (Open 1 4 true) ∷ op (Call 5) ∷ op (Close 1) ∷ op Ret ∷ name_of "a" ∷ slot_of "g" ∷ []) ∷
    library_of "q" [] (defines "g" "1" 0 ∷ []) [] []
    (op (Call 2) ∷ op Ret ∷ slot_of "f" ∷ []) ∷
    library_of "a" [] (defines "f" "1" 0 ∷ []) [] (3 ∷ [])
    (op (Set 0 5) ∷ op (Out 0) ∷ op Ret ∷ op (Set 0 6) ∷ op (Out 0) ∷ op Ret ∷ []) ∷ []

-- a call of a name that is nowhere
abbrev pub nowhere_called : List Library
nowhere_called = program_of [] [] (op (Set 0 1) ∷ op (Out 0) ∷ op (Call 3) ∷ slot_of "f" ∷ []) ∷ []

-- a ref to a name that is nowhere, which must be there or may
abbrev pub nowhere_wanted : Bool → List Library
nowhere_wanted must = program_of [] [] (op (Own 0 4) ∷ op (Get 1 0 0) ∷ op (Out 1) ∷ op Ret ∷ ref_of "f" 3 must ∷ []) ∷ []

-- a's init opens a, which is being opened
abbrev pub init_opens_itself : List Library
init_opens_itself =
    program_of [] []
    (op (Open 2 5 false) ∷ op (Out 2) ∷ op (Close 2) ∷ op (Close 1) ∷ op Ret ∷ name_of "a" ∷ []) ∷
    library_of "a" [] [] (0 ∷ []) (4 ∷ [])
    (op (Open 1 3 false) ∷ op (Out 1) ∷ op Ret ∷ name_of "a" ∷ op (Set 3 9) ∷ op (Out 3) ∷ op Ret ∷ []) ∷ []

-- p's fini shows its word, and where that is 0 puts 5 there and ends with it
abbrev pub end_in_fini : List Library
end_in_fini =
    program_of [] (1 ∷ [])
    (op Ret ∷ op (Own 0 9) ∷ op (Get 1 0 0) ∷ op (Out 1) ∷ op (If0 1 6) ∷ op Ret ∷ op (Set 1 5) ∷ op (Sto 0 0 1) ∷ op (End 1) ∷ number 0 ∷ []) ∷ []

-- a's fini ends the program while a is being closed; p's fini then closes b, and a, still there, leaves with it
abbrev pub end_in_close : List Library
end_in_close =
    program_of [] (5 ∷ [])
    (op (Open 5 8 false) ∷ op (Open 6 9 false) ∷ op (Close 5) ∷ op (Out 5) ∷ op Ret ∷ op (Close 6) ∷ op (Out 6) ∷ op Ret ∷ name_of "a" ∷ name_of "b" ∷ []) ∷
    library_of "a" [] [] [] (0 ∷ [])
    (op (Own 0 8) ∷ op (Get 1 0 0) ∷ op (Out 1) ∷ op (If0 1 5) ∷ op Ret ∷ op (Set 1 3) ∷ op (Sto 0 0 1) ∷ op (End 1) ∷ number 0 ∷ []) ∷
    library_of "b" [] [] [] [] [] ∷ []

-- a's fini opens a, which is leaving; p calls into it afterwards
abbrev pub fini_opens_itself : List Library
fini_opens_itself =
    program_of [] []
    (op (Open 1 5 false) ∷ op (Close 1) ∷ op (Find 3 2 6) ∷ op (Callr 3) ∷ op Ret ∷ name_of "a" ∷ name_of "f" ∷ []) ∷
    library_of "a" [] (defines "f" "1" 4 ∷ []) [] (0 ∷ [])
    (op (Set 0 2) ∷ op (Out 0) ∷ op (Open 2 7 false) ∷ op Ret ∷ op (Set 0 4) ∷ op (Out 0) ∷ op Ret ∷ name_of "a" ∷ []) ∷ []

-- register 0 has the place one behind p, and register 5 that of a's first cell; p shows how far behind its own first that is, then does i and shows register 4
abbrev pub one_behind : Instruction → List Library
one_behind i =
    program_of ("a" ∷ []) []
    (op (Own 0 0) ∷ op (Set 1 12) ∷ op (Own 2 0) ∷ op (Add 0 0 1) ∷ op (Sub 3 0 2) ∷ op (Out 3) ∷ op (Own 5 11) ∷ op (Get 5 5 0) ∷ op i ∷ op (Out 4) ∷ op Ret ∷ ref_of "x" 0 true ∷ []) ∷
    library_of "a" [] (defines "x" "1" 0 ∷ []) [] [] (number 8 ∷ []) ∷ []

-- a ref a thousand cells behind a word, moved back by as much
abbrev pub far_behind : List Library
far_behind =
    program_of ("a" ∷ []) []
    (op (Own 0 7) ∷ op (Get 1 0 0) ∷ op (Set 2 1000) ∷ op (Sub 1 1 2) ∷ op (Get 3 1 0) ∷ op (Out 3) ∷ op Ret ∷ ref_of "x" 1000 true ∷ []) ∷
    library_of "a" [] (defines "x" "1" 0 ∷ []) [] [] (number 42 ∷ []) ∷ []

-- a is loaded while b defines g, goes, and is loaded again while c defines g
abbrev pub loaded_anew : List Library
loaded_anew =
    program_of [] []
    (op (Open 1 11 true) ∷ op (Open 2 12 false) ∷ op (Find 3 2 14) ∷ op (Callr 3) ∷ op (Close 2) ∷ op (Close 1) ∷ op (Open 1 13 true) ∷ op (Open 2 12 false) ∷ op (Find 3 2 14) ∷ op (Callr 3) ∷ op Ret ∷ name_of "b" ∷ name_of "a" ∷ name_of "c" ∷ name_of "f" ∷ []) ∷
    library_of "a" [] (defines "f" "1" 0 ∷ []) [] []
    (op (Call 2) ∷ op Ret ∷ slot_of "g" ∷ []) ∷
    library_of "b" [] (defines "g" "1" 0 ∷ []) [] []
    (op (Set 0 1) ∷ op (Out 0) ∷ op Ret ∷ []) ∷
    library_of "c" [] (defines "g" "1" 0 ∷ []) [] []
    (op (Set 0 2) ∷ op (Out 0) ∷ op Ret ∷ []) ∷ []

-- p reads twice and shows what it read
abbrev pub reads_twice : List Library
reads_twice = program_of [] [] (op (In 0) ∷ op (Out 0) ∷ op (In 0) ∷ op (Out 0) ∷ op Ret ∷ []) ∷ []

-- at the end b's fini closes a, whose own fini is pending still
abbrev pub fini_of_gone : List Library
fini_of_gone =
    program_of [] []
    (op (Open 1 3 false) ∷ op (Open 2 4 false) ∷ op Ret ∷ name_of "a" ∷ name_of "b" ∷ []) ∷
    library_of "a" [] [] [] (0 ∷ [])
    (op (Set 0 3) ∷ op (Out 0) ∷ op Ret ∷ []) ∷
    library_of "b" [] [] [] (0 ∷ [])
    (op (Close 1) ∷ op Ret ∷ []) ∷ []

-- a's fini closes b while a is being closed; p shows what both closes gave
abbrev pub close_in_close : List Library
close_in_close =
    program_of [] []
    (op (Open 1 6 false) ∷ op (Open 2 7 false) ∷ op (Close 1) ∷ op (Out 1) ∷ op (Out 2) ∷ op Ret ∷ name_of "a" ∷ name_of "b" ∷ []) ∷
    library_of "a" [] [] [] (0 ∷ [])
    (op (Close 2) ∷ op Ret ∷ []) ∷
    library_of "b" [] [] [] [] [] ∷ []

-- a name looked for in a number that is no group
abbrev pub find_in_none : List Library
find_in_none = program_of [] [] (op (Set 1 9) ∷ op (Find 2 1 4) ∷ op (Out 2) ∷ op Ret ∷ name_of "main" ∷ []) ∷ []

-- a place of a library that went: it moves and compares, and holds nothing
abbrev pub place_of_gone : List Library
place_of_gone =
    program_of [] []
    (op (Open 1 9 false) ∷ op (Find 2 1 10) ∷ op (Close 1) ∷ op (Set 4 1) ∷ op (Add 3 2 4) ∷ op (Sub 3 3 2) ∷ op (Out 3) ∷ op (Get 3 2 0) ∷ op Ret ∷ name_of "a" ∷ name_of "x" ∷ []) ∷
    library_of "a" [] (defines "x" "1" 0 ∷ []) [] [] (number 42 ∷ []) ∷ []

-- two lines for main, the first of them inner
abbrev pub inner_main : List Library
inner_main =
    library_of "p" [] (record { symbol = symbol_of "main" "2"; cell = 0; inner = true } ∷ defines "main" "1" 3 ∷ []) [] []
    (op (Set 0 1) ∷ op (Out 0) ∷ op Ret ∷ op Ret ∷ []) ∷ []
