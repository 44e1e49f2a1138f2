-- What holds of closures, loads and closes.
use Rattle.std.specs.List.{AllByRecursion}
use Rattle.std.specs.Prelude.{◌≡◌, ℕ, zero, suc, ◌+◌, ◌<◌, ◌≤◌, Bool, true, not, ◌&&◌, List, [], ◌∷◌, ◌++◌, map, length, Some, filter, is_some}
use Rattle.base.specs.Lists.{has, Within}
use Rattle.base.specs.Names.{Name, Once}
use Rattle.library.specs.Library.{Symbol, Library, find_library}
use Rattle.links.specs.Closure.{closure}
use Rattle.links.specs.Links.{Place, Module, key, Links, Room, cells_in, with_modules}
use Rattle.links.specs.Scope.{live_at, resolve}
use Rattle.links.specs.Load.{ref_target, Loaded, load, calls_of}
use Rattle.links.specs.Close.{joins, open_members, hosts, bound_of, retained, leaving, slot_bound, close_group, unload}

-- each name is that of a library of the text
abbrev pub Found : List Library → List Name → Type 0
Found ls xs = AllByRecursion (λ x. (l : Library) × (find_library ls x ≡ Some l)) xs

-- a closure has each library once, and only such as the text has
abbrev pub ClosureOnce : Type 0
ClosureOnce = (ls : List Library) (x : Name) (ys : List Name) → closure ls x ≡ Some ys → Found ls ys × Once ys

-- resolve goes by the modules' libraries, lives and groups alone
abbrev pub ResolveStable : Type 0
ResolveStable = (k : Links) (ms : List Module) → map key ms ≡ map key k.modules → (me : ℕ) (s : Symbol) → resolve (with_modules k ms) me s ≡ resolve k me s

-- n numbers from a on
abbrev pub up_from : ℕ → ℕ → List ℕ
up_from a zero = []
up_from a (suc n) = a ∷ up_from (suc a) n

-- stretches of words from u up to e, each behind the one before, a word between
abbrev pub Rising : ℕ → List ℕ → List ℕ → ℕ → Type 0
Rising u [] [] e = u ≤ e
Rising u [] (z ∷ zs) e = ⊥
Rising u (a ∷ bs) [] e = ⊥
Rising u (a ∷ bs) (z ∷ zs) e = (u ≤ a) × Rising (suc (a + z)) bs zs e

-- a module as it comes in: of the text, live, of the group g
pub record Comes (ls : List Library) (g : ℕ) (y : Module) : Type 0 where
  pub name : Name
  pub found : find_library ls name ≡ Some y.lib
  pub live : y.live ≡ true
  pub group : y.group ≡ g

-- the cells of modules from the number i on are bound as their refs are settled
abbrev pub BoundFrom : Links → ℕ → List Module → Type 0
BoundFrom k i [] = Unit
BoundFrom k i (x ∷ xs) = (x.bound ≡ map (ref_target k i) x.lib.cells) × BoundFrom k (suc i) xs

-- what a load does: new modules behind the old ones, which stay as they are; words are taken in order
pub record Loads (ls : List Library) (m : Room) (k : Links) (l : Loaded) : Type 0 where
  pub fresh : List Module
  pub modules : l.links.modules ≡ k.modules ++ fresh
  pub new : l.new ≡ up_from (length k.modules) (length fresh)
  pub come : AllByRecursion (Comes ls (length k.groups)) fresh
  pub bound : BoundFrom l.links (length k.modules) fresh
  pub rising : Rising k.used l.starts (map cells_in fresh) l.links.used
  pub fits : l.links.used ≤ m.words
  pub any : 1 ≤ length l.links.modules
  pub taken : k.used < l.links.used
  pub groups : length l.links.groups ≡ length k.groups + 1
  pub calls : (js : List ℕ) × (l.calls ≡ calls_of (λ z. z.inits) l.links.modules js)

-- every load does so
abbrev pub LoadAppends : Type 0
LoadAppends = (ls : List Library) (m : Room) (x : Name) (global : Bool) (k : Links) (l : Loaded) → load ls m x global k ≡ Some l → Loads ls m k l

-- every module that one is bound to is there
abbrev pub Sound : ℕ → List Module → Type 0
Sound n ms = (js : List ℕ) (j : ℕ) → has j (bound_of ms js) ≡ true → j < n

-- what is retained is bound to nothing that isn't
abbrev pub RetainedClosed : Type 0
RetainedClosed = (ms : List Module) (js : List ℕ) → Sound (length ms) ms → Within (bound_of ms (retained (length ms) ms js)) (retained (length ms) ms js)

-- every number of a module that is kept is that of a module
abbrev pub Below : ℕ → List ℕ → Type 0
Below n js = AllByRecursion (λ j. j < n) js

-- one binding for each cell of a module, to modules that are there
pub record Bindings (n : ℕ) (x : Module) : Type 0 where
  pub sized : length x.bound ≡ cells_in x
  pub below : Below n (hosts x.bound)

-- what every state of links has: bindings, members and order name modules that are there
pub record Linked (k : Links) : Type 0 where
  pub bound : AllByRecursion (Bindings (length k.modules)) k.modules
  pub members : AllByRecursion (λ g. Below (length k.modules) g.members) k.groups
  pub order : Below (length k.modules) k.order

-- loads, binds, closes and unloads keep it so
pub record KeepsLinked : Type 0 where
  pub by_load : (ls : List Library) (m : Room) (x : Name) (global : Bool) (k : Links) (l : Loaded) → Linked k → load ls m x global k ≡ Some l → Linked l.links
  pub by_slot : (k : Links) (me j : ℕ) (p : Place) → Linked k → p.host < length k.modules → Linked (slot_bound k me j p)
  pub by_close : (k : Links) (h : ℕ) → Linked k → Linked (close_group k h)
  pub by_unload : (k : Links) (js : List ℕ) → Linked k → Linked (unload js k)
  pub sound : (k : Links) → Linked k → Sound (length k.modules) k.modules

-- a set that has the open groups' members, is closed under what they are bound to, and has nothing that isn't retained
pub record Retains (k : Links) (s : List ℕ) : Type 0 where
  pub roots : Within (open_members k.groups) s
  pub closed : Within (bound_of k.modules s) s
  pub only : Within s (retained (length k.modules) k.modules (joins (open_members k.groups) []))

-- tells what leaves
abbrev pub LeavingBySet : Type 0
LeavingBySet = (k : Links) (s : List ℕ) → Retains k s → leaving k ≡ filter (λ j. is_some (live_at k.modules j) && not (has j s)) k.order

-- and it may grow by what a member is bound to
abbrev pub RetainsMore : Type 0
RetainsMore = (k : Links) (s : List ℕ) (i : ℕ) (x : Module) → Linked k → Within s (retained (length k.modules) k.modules (joins (open_members k.groups) [])) → has i s ≡ true → live_at k.modules i ≡ Some x → Within (hosts x.bound) (retained (length k.modules) k.modules (joins (open_members k.groups) []))
