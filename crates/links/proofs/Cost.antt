-- How much the libraries of a closure weigh together: no more than the whole text, whatever is counted.
use Rattle.std.specs.Prelude.{None, Option, Some, cond}
use Rattle.std.proofs.Common.{◌≡◌, ℕ, ◌+◌, ◌≤◌, Bool, true, false, List, [], ◌∷◌, length, refl, arith}
use Rattle.base.specs.Names.{Name, same, among, Once}
use Rattle.base.proofs.Names.{same_is}
use Rattle.library.specs.Library.{Library, find_library}
use Rattle.links.specs.Links.{Room}
use Rattle.links.specs.Laws.{Found}
use Rattle.std.proofs.lemmas.Bool.{or_parts, or_from}

-- the weight of a library that was looked for
abbrev pub weight : (Library → ℕ) → Option Library → ℕ
weight f None = 1
weight f (Some l) = f l

-- the weight of these together
abbrev pub weigh : (Library → ℕ) → List Library → List Name → ℕ
weigh f ls [] = 0
weigh f ls (x ∷ xs) = weight f (find_library ls x) + weigh f ls xs

-- the weight of the whole text
abbrev pub weigh_all : (Library → ℕ) → List Library → ℕ
weigh_all f [] = 0
weigh_all f (l ∷ ls) = f l + weigh_all f ls

abbrev without : Name → List Name → List Name
without y [] = []
without y (x ∷ xs) = cond (same y x) xs (x ∷ without y xs)

not_among : (y x : Name) (xs : List Name) → same y x ≡ true → among x xs ≡ false → among y xs ≡ false
not_among y x xs p q = rw (same_is y x p) q

found_same : (l : Library) (ls : List Library) (xs : List Name) → among l.name xs ≡ false → Found (l ∷ ls) xs → Found ls xs
found_same l ls [] e f = tt
found_same l ls (x ∷ xs) e f = let p = or_parts (same l.name x) (among l.name xs) e in ((f.0.0, rw p.0 at f.0.1), found_same l ls xs p.1 f.1)

found_without : (l : Library) (ls : List Library) (xs : List Name) → Once xs → Found (l ∷ ls) xs → Found ls (without l.name xs)
found_without l ls [] o f = tt
found_without l ls (x ∷ xs) o f = go (same l.name x) refl f.0.1 (found_without l ls xs o.1 f.1)
  where
    go : (b : Bool) → same l.name x ≡ b → cond b (Some l) (find_library ls x) ≡ Some f.0.0 → Found ls (without l.name xs) → Found ls (cond b xs (x ∷ without l.name xs))
    go true e q r = found_same l ls xs (not_among l.name x xs e o.0) f.1
    go false e q r = ((f.0.0, q), r)

among_without : (x y : Name) (xs : List Name) → among x xs ≡ false → among x (without y xs) ≡ false
among_without x y [] e = refl
among_without x y (z ∷ xs) e = go (same y z) (or_parts _ _ e) (among_without x y xs (or_parts _ _ e).1)
  where
    go : (b : Bool) → (same x z ≡ false) × (among x xs ≡ false) → among x (without y xs) ≡ false → among x (cond b xs (z ∷ without y xs)) ≡ false
    go true p r = p.1
    go false p r = or_from _ _ p.0 r

once_without : (y : Name) (xs : List Name) → Once xs → Once (without y xs)
once_without y [] o = tt
once_without y (x ∷ xs) o = go (same y x) (once_without y xs o.1)
  where
    go : (b : Bool) → Once (without y xs) → Once (cond b xs (x ∷ without y xs))
    go true r = o.1
    go false r = (among_without x y xs o.0, r)

module _ (f : Library → ℕ) where
  weigh_same : (l : Library) (ls : List Library) (xs : List Name) → among l.name xs ≡ false → weigh f (l ∷ ls) xs ≡ weigh f ls xs
  weigh_same l ls [] e = refl
  weigh_same l ls (x ∷ xs) e = let p = or_parts (same l.name x) (among l.name xs) e in rw (p.0, weigh_same l ls xs p.1)

  weigh_without : (l : Library) (ls : List Library) (xs : List Name) → Once xs → weigh f (l ∷ ls) xs ≤ f l + weigh f ls (without l.name xs)
  weigh_without l ls [] o = omega arith
  weigh_without l ls (x ∷ xs) o = go (same l.name x) refl (weigh_without l ls xs o.1)
    where
      go : (b : Bool) → same l.name x ≡ b → weigh f (l ∷ ls) xs ≤ f l + weigh f ls (without l.name xs) → weight f (cond b (Some l) (find_library ls x)) + weigh f (l ∷ ls) xs ≤ f l + weigh f ls (cond b xs (x ∷ without l.name xs))
      go true e r = omega (arith, weigh_same l ls xs (not_among l.name x xs e o.0))
      go false e r = omega arith

  pub weigh_le : (ls : List Library) (xs : List Name) → Found ls xs → Once xs → weigh f ls xs ≤ weigh_all f ls
  weigh_le [] [] q o = omega arith
  weigh_le [] (x ∷ xs) q o = let e = q.0.1 in let z : ◌≡◌ {A = ℕ} 0 1 = cc in absurd (omega arith)
  weigh_le (l ∷ ls) xs q o = omega (arith, weigh_without l ls xs o, weigh_le ls (without l.name xs) (found_without l ls xs o q) (once_without l.name xs o))

-- counted one each: distinct libraries of a text are no more than it has
pub once_count : (ls : List Library) (xs : List Name) → Found ls xs → Once xs → length xs ≤ length ls
once_count ls xs q o = omega (arith, each_one xs q, all_one ls, weigh_le (λ l. 1) ls xs q o)
  where
    each_one : (xs : List Name) → Found ls xs → weigh (λ l. 1) ls xs ≡ length xs
    each_one [] q = refl
    each_one (x ∷ xs) q = rw q.0.1 (omega (arith, each_one xs q.1))

    all_one : (ls : List Library) → weigh_all (λ l. 1) ls ≡ length ls
    all_one [] = refl
    all_one (l ∷ ls) = omega (arith, all_one ls)

-- in words of memory
abbrev pub cost : Room → Library → ℕ
cost m l = m.gap + (1 + length l.cells)

abbrev pub need : List Library → Room → List Name → ℕ
need ls m xs = weigh (cost m) ls xs

abbrev pub total : Room → List Library → ℕ
total m ls = weigh_all (cost m) ls

pub need_le : (ls : List Library) (m : Room) (xs : List Name) → Found ls xs → Once xs → need ls m xs ≤ total m ls
need_le ls m xs q o = weigh_le (cost m) ls xs q o
