-- A text of libraries, and the libraries that it has.
use Rattle.std.specs.Result.{result_ok}
use Rattle.std.specs.Prelude.{ℕ, suc, true, false, List, [], ◌∷◌, ◌++◌, map, length, Ok, Err, Result, ◌==◌, nat_le, nat_lt, None, Option, Some, cond, is_some}
use Rattle.base.specs.Choices.{opt, on_ok}
use Rattle.base.specs.Names.{Name, same}
use Rattle.text.specs.Words.{lines_of, words_of}
use Rattle.library.specs.Library.{Instruction, Set, Get, Sto, Own, Add, Sub, Mul, Less, Same, Move, Jump, If0, Call, Callr, Ret, Push, Pop, Out, In, Open, Find, Close, End, Cell, number, ref, at, slot, named, instruction, Library, find_library}
use Rattle.library.specs.Keywords.{k_lib}
use Rattle.library.specs.Lines.{Read, a_word, then, end_line, Item, inward, needs, define, init, fini, cell, item_line}
use Rattle.library.specs.declared.faults.LineFault.{LineFault}
use Rattle.library.specs.declared.faults.LineFault.TheVariants.{OutsideLibrary, DuplicateLibrary, TooManyCells, NoSuchCell}
use Rattle.library.specs.declared.faults.BadLine.{BadLine}

-- one more than the cell of its library that an instruction names; 0 where it names none
abbrev pub reach : Instruction → ℕ
reach (Set a b) = 0
reach (Get a b c) = 0
reach (Sto a b c) = 0
reach (Own a b) = suc b
reach (Add a b c) = 0
reach (Sub a b c) = 0
reach (Mul a b c) = 0
reach (Less a b c) = 0
reach (Same a b c) = 0
reach (Move a b) = 0
reach (Jump a) = suc a
reach (If0 a b) = suc b
reach (Call a) = suc a
reach (Callr a) = 0
reach Ret = 0
reach (Push a) = 0
reach (Pop a) = 0
reach (Out a) = 0
reach (In a) = 0
reach (Open a b c) = suc b
reach (Find a b c) = suc c
reach (Close a) = 0
reach (End a) = 0

-- the same of a cell
abbrev pub cell_reach : Cell → ℕ
cell_reach (number n) = 0
cell_reach (ref s n b) = 0
cell_reach (at k) = suc k
cell_reach (slot s) = 0
cell_reach (named x) = 0
cell_reach (instruction o) = reach o

-- the same of a line
abbrev pub item_reach : Item → ℕ
item_reach inward = 0
item_reach (needs x) = 0
item_reach (define d) = suc d.cell
item_reach (init k) = suc k
item_reach (fini k) = suc k
item_reach (cell c) = cell_reach c

-- a library with what a line says
abbrev pub apply : Library → Item → Library
apply l inward = record { name = l.name; inward = true; needs = l.needs; defs = l.defs; inits = l.inits; finis = l.finis; cells = l.cells }
apply l (needs x) = record { name = l.name; inward = l.inward; needs = l.needs ++ (x ∷ []); defs = l.defs; inits = l.inits; finis = l.finis; cells = l.cells }
apply l (define d) = record { name = l.name; inward = l.inward; needs = l.needs; defs = l.defs ++ (d ∷ []); inits = l.inits; finis = l.finis; cells = l.cells }
apply l (init k) = record { name = l.name; inward = l.inward; needs = l.needs; defs = l.defs; inits = l.inits ++ (k ∷ []); finis = l.finis; cells = l.cells }
apply l (fini k) = record { name = l.name; inward = l.inward; needs = l.needs; defs = l.defs; inits = l.inits; finis = l.finis ++ (k ∷ []); cells = l.cells }
apply l (cell c) = record { name = l.name; inward = l.inward; needs = l.needs; defs = l.defs; inits = l.inits; finis = l.finis; cells = l.cells ++ (c ∷ []) }

-- a library that is being read: the highest reach of its lines, and the first line that has it
pub record Draft : Type 0 where
  pub library : Library
  pub top : ℕ
  pub top_line : ℕ

-- the libraries that are done, and the one that is being read
pub record Progress : Type 0 where
  pub done : List Library
  pub draft : Option Draft

-- a line, and what is wrong with it
abbrev pub bad : ℕ → LineFault → BadLine
bad n e = record { line = n; fault = e }

-- what is read of line n
abbrev pub at_line_number : {A : Type 0} → ℕ → Read A → Result A BadLine
at_line_number n (Ok a) = Ok a
at_line_number n (Err e) = Err (bad n e)

-- a library without any lines
abbrev pub new_library : Name → Library
new_library x = record { name = x; inward = false; needs = []; defs = []; inits = []; finis = []; cells = [] }

-- a library of which nothing is read but its name
abbrev pub new_draft : Name → Draft
new_draft x = record { library = new_library x; top = 0; top_line = 0 }

-- a draft with a reach at line n
abbrev pub raised : ℕ → Draft → ℕ → Draft
raised n d r = cond (nat_lt d.top r) (record { library = d.library; top = r; top_line = n }) d

-- a draft with another library
abbrev pub with_library : Draft → Library → Draft
with_library d l = record { library = l; top = d.top; top_line = d.top_line }

-- a draft with what line n says
abbrev pub drafted : ℕ → Draft → Item → Draft
drafted n d i = raised n (with_library d (apply d.library i)) (item_reach i)

-- a library that is done, where it has the cells that its lines name
abbrev pub checked : Draft → Result Library BadLine
checked d = cond (nat_le d.top (length d.library.cells)) (Ok d.library) (Err (bad d.top_line NoSuchCell))

-- all libraries so far, the last one done
abbrev pub finished : Progress → Result (List Library) BadLine
finished p = opt p.draft (Ok p.done) (λ d. on_ok (checked d) (λ l. Ok (p.done ++ (l ∷ []))))

-- a draft where it has at most 65,535 cells
abbrev pub sized : ℕ → Draft → Result Draft BadLine
sized n d = cond (nat_le (length d.library.cells) 65535) (Ok d) (Err (bad n TooManyCells))

-- line n of a library, by its first word and the words behind it
abbrev pub library_item : ℕ → Progress → Draft → Name → List Name → Result Progress BadLine
library_item n p d w ws = on_ok (at_line_number n (item_line w ws)) (λ i. on_ok (sized n (drafted n d i)) (λ e. Ok (record { done = p.done; draft = Some e })))

-- the words behind `lib`: a name that none of the libraries has
abbrev pub lib_words : List Library → List Name → Read Name
lib_words ls ws = then a_word ws (λ x us. cond (is_some (find_library ls x)) (Err DuplicateLibrary) (end_line x us))

-- line n begins a library
abbrev pub lib_line : ℕ → Progress → List Name → Result Progress BadLine
lib_line n p ws = on_ok (finished p) (λ ls. on_ok (at_line_number n (lib_words ls ws)) (λ x. Ok (record { done = ls; draft = Some (new_draft x) })))

-- line n, by its words; a line without words, or whose first word begins with #, says nothing
abbrev pub line : ℕ → Progress → List Name → Result Progress BadLine
line n p [] = Ok p
line n p ([] ∷ ws) = Ok p
line n p ((c ∷ cs) ∷ ws) =
    cond (c == 35) (Ok p)
    (cond (same (c ∷ cs) k_lib) (lib_line n p ws)
    (opt p.draft (Err (bad n OutsideLibrary)) (λ d. library_item n p d (c ∷ cs) ws)))

-- the lines from number n on
abbrev pub lines : ℕ → Progress → List (List Name) → Result (List Library) BadLine
lines n p [] = finished p
lines n p (ws ∷ xs) = on_ok (line n p ws) (λ q. lines (suc n) q xs)

-- before anything is read
abbrev pub nothing_read : Progress
nothing_read = record { done = []; draft = None }

-- the libraries of a text, or the first line that is wrong
unfoldable pub read : List ℕ → Result (List Library) BadLine
read t = lines 1 nothing_read (map words_of (lines_of t))

-- the libraries of a text, where it is one
abbrev pub reads : List ℕ → Option (List Library)
reads t = result_ok (read t)
