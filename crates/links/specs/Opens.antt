-- A load is all or nothing: what the group has that it opens.
use Rattle.std.specs.List.{list_all}
use Rattle.std.specs.Option.{option_map}
use Rattle.std.specs.Prelude.{◌≡◌, ℕ, Bool, true, List, [], ◌∷◌, ◌++◌, map, Option, Some}
use Rattle.base.specs.Lists.{has}
use Rattle.base.specs.Names.{Name}
use Rattle.library.specs.Library.{Library}
use Rattle.links.specs.Closure.{closure, init_order}
use Rattle.links.specs.Links.{Module, Links, Room}
use Rattle.links.specs.Scope.{live_at}
use Rattle.links.specs.Load.{ref_met, init_ids, calls_of, Loaded, load}

-- the name of a live module
abbrev pub live_name : List Module → ℕ → Option Name
live_name ms j = option_map (λ x. x.lib.name) (live_at ms j)

-- the new modules in the order of initialisation
abbrev pub turns : List Library → Name → Loaded → List ℕ
turns ls x l = init_ids l.links.modules l.new (init_order ls x)

-- one more group, open: the libraries of the closure in its order, each as a live module; what refs of new modules ask for that must be there is; the new modules come last in the order, and their inits are called in it
pub record Opens (ls : List Library) (x : Name) (global : Bool) (k : Links) (l : Loaded) : Type 0 where
  pub names : List Name
  pub members : List ℕ
  pub closure_is : closure ls x ≡ Some names
  pub group : l.links.groups ≡ k.groups ++ (record { members = members; opened = true; global = global } ∷ [])
  pub named : map (live_name l.links.modules) members ≡ map Some names
  pub met : (i : ℕ) (y : Module) → has i l.new ≡ true → live_at l.links.modules i ≡ Some y → list_all (ref_met l.links i) y.lib.cells ≡ true
  pub order : l.links.order ≡ k.order ++ turns ls x l
  pub calls : l.calls ≡ calls_of (λ z. z.inits) l.links.modules (turns ls x l)

-- every load does so
abbrev pub LoadOpens : Type 0
LoadOpens = (ls : List Library) (m : Room) (x : Name) (global : Bool) (k : Links) (l : Loaded) → load ls m x global k ≡ Some l → Opens ls x global k l
