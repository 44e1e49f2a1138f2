-- Libraries of one text have names of their own.
use Rattle.std.specs.Prelude.{◌≡◌, ℕ, List, map, Ok}
use Rattle.base.specs.Names.{Once}
use Rattle.library.specs.Library.{Library}
use Rattle.library.specs.Text.{read}

-- no two libraries of one name
abbrev pub NamedOnce : List Library → Type 0
NamedOnce ls = Once (map (λ (l : Library). l.name) ls)

-- no name comes twice in a text that is read
abbrev pub ReadsOnce : Type 0
ReadsOnce = (t : List ℕ) (ls : List Library) → read t ≡ Ok ls → NamedOnce ls
