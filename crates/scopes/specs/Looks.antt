-- What is looked through for a symbol.
use Rattle.std.specs.Prelude.{ℕ, List, [], ◌==◌, ◌&&◌, cond, Option, Some}
use Rattle.base.specs.Choices.{on_some}
use Rattle.library.specs.Library.{Library, Symbol}
use Rattle.library.specs.Views.{symbol_of}
use Rattle.links.specs.Symbols.{find_def}
use Rattle.links.specs.Links.{Place, place_at, Module, Group, Links}
use Rattle.links.specs.Scope.{live_at, lookup}
use Rattle.linkage.specs.Tables.{links_of}
use Rattle.scopes.specs.declared.search.Search.{Search}

-- what module j has for the symbol, to the eyes of me
abbrev pub seen_in : List Module → ℕ → Symbol → ℕ → Option Place
seen_in ms me s j = on_some (live_at ms j) (λ x. on_some (find_def (me == j) x.lib.defs s) (λ k. Some (place_at j k)))

-- the links that a search looks in
abbrev pub linked : {L : Type 0} → List Library → Search L → Links
linked ls q = links_of ls q.tables.now

-- the symbol that a search looks for
abbrev pub asked : {L : Type 0} → Search L → Symbol
asked q = symbol_of (λ x. x.now) q.symbol

-- what module j has for the symbol of a search
abbrev pub seen : {L : Type 0} → List Library → Search L → ℕ → Option Place
seen ls q j = seen_in (linked ls q).modules q.by (asked q) j

-- the first that the modules js have for it
abbrev pub looked : {L : Type 0} → List Library → Search L → List ℕ → Option Place
looked ls q js = lookup (linked ls q).modules q.by (asked q) js

-- the members of a group that is open and global
abbrev pub shared : Group → List ℕ
shared g = cond (g.opened && g.global) g.members []
