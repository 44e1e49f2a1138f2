-- The modules that go.
use Rattle.std.specs.Prelude.{◌≡◌, ℕ, Bool, true, not, ◌&&◌, List, filter, is_some, slice_get}
use Rattle.base.specs.Lists.{has}
use Rattle.links.specs.Links.{Module, Links, with_modules}
use Rattle.links.specs.Scope.{live_at}
use Rattle.links.specs.Close.{unload_all}
use Rattle.links.specs.Whole.{Live}
use Rattle.closes.specs.Staying.{none_or_one}

-- whether the module j goes, where those of xs stay
abbrev pub goes : List Module → List ℕ → ℕ → Bool
goes ms xs j = is_some (live_at ms j) && not (has j xs)

-- those that go, in the order of initialisation
abbrev pub leavers : Links → List ℕ → List ℕ
leavers k xs = filter (goes k.modules xs) k.order

-- the module in row i of the order, if it goes
abbrev pub leaver_at : Links → List ℕ → ℕ → List ℕ
leaver_at k xs i = filter (goes k.modules xs) (none_or_one (slice_get k.order i))

-- those of js that aren't in xs
abbrev pub needless : List ℕ → List ℕ → List ℕ
needless xs js = filter (λ j. not (has j xs)) js

-- the modules of js, gone
abbrev pub gone : List ℕ → Links → Links
gone js k = with_modules k (unload_all js k.modules)

-- what is live has its turn in the order of initialisation
abbrev pub IsOrdered : Links → Type 0
IsOrdered k = (j : ℕ) → Live k.modules j → has j k.order ≡ true
