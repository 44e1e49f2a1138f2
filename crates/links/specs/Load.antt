-- Loading: a library and its closure become a group.
use Rattle.std.specs.List.{list_all}
use Rattle.std.specs.Prelude.{ℕ, suc, ◌+◌, Bool, true, not, ◌&&◌, ◌||◌, List, [], ◌∷◌, ◌++◌, map, length, nat_le, None, Option, Some, cond, is_some, slice_get, slice_set}
use Rattle.base.specs.Choices.{opt, on_some, guard}
use Rattle.base.specs.Lists.{has}
use Rattle.base.specs.Names.{Name, same}
use Rattle.library.specs.Library.{Cell, number, ref, at, slot, named, instruction, Library, find_library}
use Rattle.links.specs.Closure.{closure, init_order}
use Rattle.links.specs.Links.{Place, place_at, Module, Links, Room}
use Rattle.links.specs.Scope.{live_at, resolve}

-- the first live module of a name; n: the number of the first in the list
abbrev pub find_loaded : List Module → ℕ → Name → Option ℕ
find_loaded [] n x = None
find_loaded (i ∷ is) n x = cond (i.live && same i.lib.name x) (Some n) (find_loaded is (suc n) x)

-- a group while it is brought in: all modules, its members, which of them are new, where the new ones' first cells are, words taken
pub record Brought : Type 0 where
  pub modules : List Module
  pub members : List ℕ
  pub new : List ℕ
  pub starts : List ℕ
  pub used : ℕ

-- a module that is there already takes a word
abbrev pub joined : Brought → ℕ → Brought
joined b j = record { modules = b.modules; members = b.members ++ (j ∷ []); new = b.new; starts = b.starts; used = suc b.used }

-- a library as it comes in: no cell is bound yet
abbrev pub unbound : ℕ → Library → Module
unbound g l = record { lib = l; live = true; group = g; bound = map (λ c. None) l.cells }

-- a new one lies behind all taken words and the gap; it takes its cells and a word
abbrev pub added : Room → ℕ → Brought → Library → Brought
added m g b l = record { modules = b.modules ++ (unbound g l ∷ []); members = b.members ++ (length b.modules ∷ []); new = b.new ++ (length b.modules ∷ []); starts = b.starts ++ ((b.used + m.gap) ∷ []); used = b.used + (m.gap + (1 + length l.cells)) }

-- the group so far, if there are words for it
abbrev pub fits : Room → Brought → Option Brought
fits m b = guard (nat_le b.used m.words) (Some b)

-- a library joins the group: as the live module of its name, or else loaded anew
abbrev pub bring_one : List Library → Room → ℕ → Brought → Name → Option Brought
bring_one ls m g b x = opt (find_loaded b.modules 0 x) (on_some (find_library ls x) (λ l. fits m (added m g b l))) (λ j. fits m (joined b j))

-- libraries join the group one after the other; none if one of them does not fit
abbrev pub bring_all : List Library → Room → ℕ → List Name → Brought → Option Brought
bring_all ls m g [] b = Some b
bring_all ls m g (x ∷ xs) b = on_some (bring_one ls m g b x) (λ c. bring_all ls m g xs c)

-- every name that must be there is
abbrev pub ref_met : Links → ℕ → Cell → Bool
ref_met k me (number n) = true
ref_met k me (ref s n must) = not must || is_some (resolve k me s)
ref_met k me (at n) = true
ref_met k me (slot s) = true
ref_met k me (named x) = true
ref_met k me (instruction o) = true

-- what a cell of a new module is bound to: a ref to the definition that its symbol means, all else to nothing yet
abbrev pub ref_target : Links → ℕ → Cell → Option Place
ref_target k me (number n) = None
ref_target k me (ref s n must) = resolve k me s
ref_target k me (at n) = None
ref_target k me (slot s) = None
ref_target k me (named x) = None
ref_target k me (instruction o) = None

-- whether that is so of each of these modules
abbrev pub refs_met : Links → List ℕ → Bool
refs_met k [] = true
refs_met k (i ∷ is) = opt (slice_get k.modules i) true (λ x. list_all (ref_met k i) x.lib.cells) && refs_met k is

-- the module with other bindings
abbrev pub bound_to : List (Option Place) → Module → Module
bound_to bs x = record { lib = x.lib; live = x.live; group = x.group; bound = bs }

-- refs of the new modules are noted as bound, cell by cell; k: as it is while names are looked up
abbrev pub bind_refs : Links → List ℕ → List Module → List Module
bind_refs k [] ms = ms
bind_refs k (i ∷ is) ms = bind_refs k is (opt (slice_get ms i) ms (λ x. slice_set ms i (bound_to (map (ref_target k i) x.lib.cells) x)))

-- the new modules in the order of initialisation
abbrev pub init_ids : List Module → List ℕ → List Name → List ℕ
init_ids is new [] = []
init_ids is new (x ∷ xs) = opt (find_loaded is 0 x) (init_ids is new xs) (λ j. cond (has j new) (j ∷ init_ids is new xs) (init_ids is new xs))

-- cells of the module i as places
abbrev pub places : ℕ → List ℕ → List Place
places i [] = []
places i (k ∷ ks) = place_at i k ∷ places i ks

-- the inits or finis of the live ones among js
abbrev pub calls_of : (Library → List ℕ) → List Module → List ℕ → List Place
calls_of f is [] = []
calls_of f is (j ∷ js) = opt (live_at is j) [] (λ x. places j (f x.lib)) ++ calls_of f is js

-- what a load gives: the new state, the new modules and where they start, the inits to be called
pub record Loaded : Type 0 where
  pub links : Links
  pub new : List ℕ
  pub starts : List ℕ
  pub calls : List Place

-- the group is there and open, its refs not settled yet
abbrev pub with_group : Links → Brought → Bool → Links
with_group k b global = record { modules = b.modules; groups = k.groups ++ (record { members = b.members; opened = true; global = global } ∷ []); order = k.order; used = b.used }

-- refs are bound, and the new modules js stand last in the order of initialisation
abbrev pub ordered : Links → Brought → List ℕ → Loaded
ordered k b js = record { links = record { modules = bind_refs k b.new k.modules; groups = k.groups; order = k.order ++ js; used = k.used }; new = b.new; starts = b.starts; calls = calls_of (λ l. l.inits) k.modules js }

-- refs are settled once all that come together are there
abbrev pub settle : List Library → Name → Links → Brought → Option Loaded
settle ls x k b = guard (refs_met k b.new) (Some (ordered k b (init_ids k.modules b.new (init_order ls x))))

-- a group of which nothing was brought in yet
abbrev pub nothing_yet : Links → Brought
nothing_yet k = record { modules = k.modules; members = []; new = []; starts = []; used = k.used }

-- a library is opened with its closure; none: nothing is changed
abbrev pub load : List Library → Room → Name → Bool → Links → Option Loaded
load ls m x global k = on_some (closure ls x) (λ xs. on_some (bring_all ls m (length k.groups) xs (nothing_yet k)) (λ b. settle ls x (with_group k b global) b))
