-- Why a load is refused.
use Rattle.std.specs.Prelude.{◌≡◌, ℕ, ◌+◌, ◌<◌, Bool, true, List, [], ◌∷◌, length, None, Some, slice_get}
use Rattle.base.specs.Choices.{opt}
use Rattle.base.specs.Lists.{has}
use Rattle.base.specs.Names.{Name}
use Rattle.library.specs.Library.{Symbol, ref, Library, find_library}
use Rattle.links.specs.Closure.{closure}
use Rattle.links.specs.Links.{Module, Links, Room}
use Rattle.links.specs.Scope.{resolve}
use Rattle.links.specs.Load.{Brought, bring_all, with_group, nothing_yet, load}
use Rattle.links.specs.Reach.{Reaches}

-- the words that these libraries take if all are loaded anew
abbrev pub words_for : List Library → Room → List Name → ℕ
words_for ls m [] = 0
words_for ls m (x ∷ xs) = opt (find_library ls x) 1 (λ l. m.gap + (1 + length l.cells)) + words_for ls m xs

-- a library that is needed isn't in the text; or there are too few words; or, with all brought in, a ref that must be met means nothing
pub data Refusal (ls : List Library) (m : Room) (x : Name) (global : Bool) (k : Links) : Type 0 where
  not_there : (y : Name) → Reaches ls x y → find_library ls y ≡ None → Refusal ls m x global k
  too_few : (ys : List Name) → closure ls x ≡ Some ys → m.words < k.used + words_for ls m ys → Refusal ls m x global k
  not_met : (ys : List Name) (b : Brought) (i c : ℕ) (y : Module) (s : Symbol) (n : ℕ) → closure ls x ≡ Some ys → bring_all ls m (length k.groups) ys (nothing_yet k) ≡ Some b → has i b.new ≡ true → slice_get b.modules i ≡ Some y → slice_get y.lib.cells c ≡ Some (ref s n true) → resolve (with_group k b global) i s ≡ None → Refusal ls m x global k

-- a load is refused for no other reason
abbrev pub LoadRefused : Type 0
LoadRefused = (ls : List Library) (m : Room) (x : Name) (global : Bool) (k : Links) → load ls m x global k ≡ None → Refusal ls m x global k
