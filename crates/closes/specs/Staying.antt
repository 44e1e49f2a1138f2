-- The modules that stay, as a set that grows.
use Rattle.std.specs.Prelude.{◌≡◌, ℕ, ◌<◌, true, List, [], ◌∷◌, Option, None, Some, length, cond, nat_lt, slice_get}
use Rattle.base.specs.Choices.{opt}
use Rattle.base.specs.Lists.{has}
use Rattle.lent.specs.Once.{joined}
use Rattle.lent.specs.Numbers.{numbers, limit}
use Rattle.lent.specs.declared.once.Once.{Once}
use Rattle.links.specs.Links.{Module, Group, Links}
use Rattle.links.specs.Scope.{live_at}
use Rattle.links.specs.Close.{hosts}
use Rattle.links.specs.Whole.{staying}

-- what the module i is bound to, unless it went
abbrev pub bound_of_one : List Module → ℕ → List ℕ
bound_of_one ms i = opt (live_at ms i) [] (λ x. hosts x.bound)

-- the members of the group i, if it is open
abbrev pub open_at : List Group → ℕ → List ℕ
open_at gs i = opt (slice_get gs i) [] (λ g. cond g.opened g.members [])

-- the number, where there is one
abbrev pub none_or_one : Option ℕ → List ℕ
none_or_one None = []
none_or_one (Some j) = j ∷ []

-- the numbers below n put behind the others, each that is new once
abbrev pub gathered : ℕ → List ℕ → List ℕ → List ℕ
gathered n [] seen = seen
gathered n (j ∷ js) seen = gathered n js (cond (nat_lt j n) (joined j seen) seen)

-- the numbers of js were put behind those that had come
pub record Added (before after : Once) (js : List ℕ) : Type 0 where
  pub numbers : numbers after ≡ gathered (limit before) js (numbers before)
  pub limit : limit after ≡ limit before
  pub taken : after.taken ≡ before.taken

-- every number of xs below n is in ys
abbrev pub WithinBelow : ℕ → List ℕ → List ℕ → Type 0
WithinBelow n xs ys = (j : ℕ) → j < n → has j xs ≡ true → has j ys ≡ true

-- of the modules that there are, xs has those that stay
abbrev pub Stays : Links → List ℕ → Type 0
Stays k xs = (j : ℕ) → j < length k.modules → has j xs ≡ has j (staying k)
