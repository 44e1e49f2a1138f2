-- What a symbol means: the first definition that can be seen.
use Rattle.std.specs.List.{AllByRecursion}
use Rattle.std.specs.Prelude.{◌≡◌, ℕ, true, List, ◌∷◌, ◌++◌, length, ◌==◌, None, Option, Some}
use Rattle.base.specs.Choices.{on_some}
use Rattle.base.specs.Names.{Name}
use Rattle.library.specs.Library.{Symbol, any_version}
use Rattle.links.specs.Symbols.{find_def}
use Rattle.links.specs.Links.{Place, Module, Links}
use Rattle.links.specs.Scope.{live_at, members_of, scope, resolve}
use Rattle.links.specs.Close.{is_open, found_in}

-- the cell that the module j has for the symbol, to the eyes of me; none if it has none, or went
abbrev pub offers : List Module → ℕ → Symbol → ℕ → Option ℕ
offers ms me s j = on_some (live_at ms j) (λ x. find_def (me == j) x.lib.defs s)

-- p is what the first of js offers that offers anything
pub record FirstOf (ms : List Module) (me : ℕ) (s : Symbol) (js : List ℕ) (p : Place) : Type 0 where
  pub earlier : List ℕ
  pub later : List ℕ
  pub stands : js ≡ earlier ++ (p.host ∷ later)
  pub nothing : AllByRecursion (λ j. offers ms me s j ≡ None) earlier
  pub cell : offers ms me s p.host ≡ Some p.cell

-- a symbol means the first definition in the module's scope, which is live; it means nothing only where none of the scope offers any; find goes through an open group in the same way, with the eyes of none of its modules
pub record ResolveFirst : Type 0 where
  pub found : (k : Links) (me : ℕ) (s : Symbol) (p : Place) → resolve k me s ≡ Some p → FirstOf k.modules me s (scope k me) p
  pub nowhere : (k : Links) (me : ℕ) (s : Symbol) → resolve k me s ≡ None → AllByRecursion (λ j. offers k.modules me s j ≡ None) (scope k me)
  pub live : (k : Links) (me : ℕ) (s : Symbol) (p : Place) → resolve k me s ≡ Some p → (x : Module) × (live_at k.modules p.host ≡ Some x)
  pub in_group : (k : Links) (h : ℕ) (x : Name) (p : Place) → found_in k h x ≡ Some p → (is_open k h ≡ true) × FirstOf k.modules (length k.modules) (record { name = x; version = any_version }) (members_of k.groups h) p
