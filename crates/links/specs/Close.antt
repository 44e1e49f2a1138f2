-- Closing a group: what is retained, what leaves; finding in a group; a slot bound.
use Rattle.std.specs.Prelude.{ℕ, zero, suc, Bool, false, not, ◌&&◌, List, [], ◌∷◌, ◌++◌, length, None, Option, Some, cond, filter, is_some, slice_get, slice_set}
use Rattle.base.specs.Choices.{opt, guard}
use Rattle.base.specs.Lists.{has, reverse}
use Rattle.base.specs.Names.{Name}
use Rattle.library.specs.Library.{any_version}
use Rattle.links.specs.Links.{Place, Module, Group, Links, with_modules}
use Rattle.links.specs.Scope.{live_at, members_of, lookup}
use Rattle.links.specs.Load.{calls_of, bound_to}

-- the numbers of the first list put before the second, each that is new once
abbrev pub joins : List ℕ → List ℕ → List ℕ
joins [] seen = seen
joins (j ∷ js) seen = joins js (cond (has j seen) seen (j ∷ seen))

-- members of the groups that are open
abbrev pub open_members : List Group → List ℕ
open_members [] = []
open_members (g ∷ gs) = cond g.opened g.members [] ++ open_members gs

-- the modules that bindings lead to
abbrev pub hosts : List (Option Place) → List ℕ
hosts [] = []
hosts (None ∷ bs) = hosts bs
hosts (Some p ∷ bs) = p.host ∷ hosts bs

-- the modules that the live ones among js are bound to
abbrev pub bound_of : List Module → List ℕ → List ℕ
bound_of is [] = []
bound_of is (j ∷ js) = opt (live_at is j) [] (λ x. hosts x.bound) ++ bound_of is js

-- js and all that they are bound to, n steps far
abbrev pub retained : ℕ → List Module → List ℕ → List ℕ
retained zero is js = js
retained (suc n) is js = retained n is (joins (bound_of is js) js)

-- the modules that no open group and no retained module keeps, in the order of initialisation
abbrev pub leaving : Links → List ℕ
leaving k = filter (λ j. is_some (live_at k.modules j) && not (has j (retained (length k.modules) k.modules (joins (open_members k.groups) [])))) k.order

-- the module, gone
abbrev pub unloaded : Module → Module
unloaded x = record { lib = x.lib; live = false; group = x.group; bound = x.bound }

-- the modules of these numbers, gone
abbrev pub unload_all : List ℕ → List Module → List Module
unload_all [] is = is
unload_all (j ∷ js) is = unload_all js (opt (slice_get is j) is (λ x. slice_set is j (unloaded x)))

-- those of js that still needn't stay go
abbrev pub unload : List ℕ → Links → Links
unload js k = with_modules k (unload_all (filter (λ j. has j (leaving k)) js) k.modules)

-- the group, closed
abbrev pub closed_group : Group → Group
closed_group g = record { members = g.members; opened = false; global = g.global }

-- the group h is closed; nothing goes yet
abbrev pub close_group : Links → ℕ → Links
close_group k h = record { modules = k.modules; groups = opt (slice_get k.groups h) k.groups (λ g. slice_set k.groups h (closed_group g)); order = k.order; used = k.used }

-- the last initialised first
abbrev pub fini_calls : Links → List ℕ → List Place
fini_calls k js = calls_of (λ l. l.finis) k.modules (reverse js [])

-- whether there is a group of this number that is open
abbrev pub is_open : Links → ℕ → Bool
is_open k h = opt (slice_get k.groups h) false (λ g. g.opened)

-- what find gives
abbrev pub found_in : Links → ℕ → Name → Option Place
found_in k h x = guard (is_open k h) (lookup k.modules (length k.modules) (record { name = x; version = any_version }) (members_of k.groups h))

-- the slot at the cell j of the module me was settled to p
abbrev pub slot_bound : Links → ℕ → ℕ → Place → Links
slot_bound k me j p = with_modules k (opt (slice_get k.modules me) k.modules (λ x. slice_set k.modules me (bound_to (slice_set x.bound j (Some p)) x)))
