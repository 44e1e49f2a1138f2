-- What holds of the links of every program, always.
use Rattle.std.specs.Prelude.{◌≡◌, ℕ, Bool, true, false, ◌⊎◌, List, [], ◌∷◌, length, Some, is_some}
use Rattle.base.specs.Lists.{has, Within}
use Rattle.base.specs.Names.{Name}
use Rattle.library.specs.Library.{Library}
use Rattle.links.specs.Links.{Place, Module, Links, Room}
use Rattle.links.specs.Scope.{live_at}
use Rattle.links.specs.Load.{Loaded, load}
use Rattle.links.specs.Close.{joins, open_members, hosts, bound_of, retained, close_group, unload, slot_bound}
use Rattle.links.specs.Laws.{Linked}

-- what needn't go: members of open groups, and what those that stay are bound to
abbrev pub staying : Links → List ℕ
staying k = retained (length k.modules) k.modules (joins (open_members k.groups) [])

-- what stays has the members of open groups, is closed under bound, and is the least such set
pub record StaysLeast : Type 0 where
  pub roots : (k : Links) → Within (open_members k.groups) (staying k)
  pub closed : (k : Links) → Linked k → Within (bound_of k.modules (staying k)) (staying k)
  pub least : (k : Links) (s : List ℕ) → Within (open_members k.groups) s → Within (bound_of k.modules s) s → Within (staying k) s

-- the module i is there
abbrev pub Live : List Module → ℕ → Type 0
Live ms i = is_some (live_at ms i) ≡ true

-- no two live modules have one name
abbrev pub OneEach : List Module → Type 0
OneEach ms = (i j : ℕ) (x y : Module) → live_at ms i ≡ Some x → live_at ms j ≡ Some y → x.lib.name ≡ y.lib.name → i ≡ j

-- no number twice
abbrev pub Distinct : List ℕ → Type 0
Distinct [] = Unit
Distinct (j ∷ js) = (has j js ≡ false) × Distinct js

-- links as a program can have them
pub record Whole (k : Links) : Type 0 where
  pub linked : Linked k
  -- what is live is bound only to what is live
  pub bound : (i j : ℕ) (x : Module) → live_at k.modules i ≡ Some x → has j (hosts x.bound) ≡ true → Live k.modules j
  -- members of open groups are live
  pub members : (j : ℕ) → has j (open_members k.groups) ≡ true → Live k.modules j
  pub one_each : OneEach k.modules
  -- what is live has its turn when finis are called, and only one
  pub ordered : (j : ℕ) → Live k.modules j → has j k.order ≡ true
  pub once : Distinct k.order

-- loads, binds, closes and unloads keep it so; of what is live, those that are to go and those that stay must be all
pub record KeepsWhole : Type 0 where
  pub at_first : (u : ℕ) → Whole (record { modules = []; groups = []; order = []; used = u })
  pub by_load : (ls : List Library) (m : Room) (x : Name) (global : Bool) (k : Links) (l : Loaded) → Whole k → load ls m x global k ≡ Some l → Whole l.links
  pub by_slot : (k : Links) (me j : ℕ) (p : Place) → Whole k → Live k.modules p.host → Whole (slot_bound k me j p)
  pub by_close : (k : Links) (h : ℕ) → Whole k → Whole (close_group k h)
  pub by_unload : (k : Links) (js : List ℕ) → Whole k → ((i : ℕ) → Live k.modules i → (has i js ≡ true) ⊎ (has i (staying k) ≡ true)) → Whole (unload js k)
