-- Which definition of a library a symbol means.
use Rattle.std.specs.Prelude.{ℕ, Bool, not, ◌&&◌, ◌||◌, List, [], ◌∷◌, None, Option, Some, cond}
use Rattle.base.specs.Names.{same}
use Rattle.library.specs.Library.{Symbol, Definition, any_version}

-- mine: asked by the library itself, which sees its inner definitions too
abbrev pub matches : Bool → Symbol → Definition → Bool
matches mine s d = same s.name d.symbol.name && ((same s.version any_version || same s.version d.symbol.version) && (mine || not d.inner))

-- the cell of the first definition that matches
abbrev pub find_def : Bool → List Definition → Symbol → Option ℕ
find_def mine [] s = None
find_def mine (d ∷ ds) s = cond (matches mine s d) (Some d.cell) (find_def mine ds s)
