-- Why a load is refused.
use Rattle.std.proofs.lemmas.Option.{none-some, same_Some}
use Rattle.std.specs.List.{list_all}
use Rattle.std.specs.Prelude.{None, Option, Some, is_some, slice_get}
use Rattle.std.proofs.Common.{◌≡◌, ℕ, suc, ◌+◌, ◌<◌, ◌≤◌, Bool, true, false, not, ◌||◌, leb, List, [], ◌∷◌, length, sym, refl, ap, ⊎_elim, arith}
use Rattle.base.specs.Choices.{opt, on_some, guard}
use Rattle.base.specs.Lists.{has}
use Rattle.base.specs.Names.{Name}
use Rattle.base.proofs.Sets.{has_here, has_there}
use Rattle.library.specs.Library.{Symbol, Cell, number, ref, at, slot, named, instruction, Library, find_library}
use Rattle.links.specs.Links.{Place, Module, Links, Room}
use Rattle.links.specs.Scope.{resolve}
use Rattle.links.specs.Load.{Brought, joined, added, fits, find_loaded, bring_one, bring_all, ref_met, refs_met, with_group, nothing_yet}
use Rattle.links.specs.Closure.{closure}
use Rattle.links.specs.Laws.{Found}
use Rattle.links.specs.Refused.{words_for, not_there, too_few, not_met, LoadRefused}
use Rattle.links.proofs.Reach.{on_some_none, closure_reaches}
use Rattle.std.proofs.lemmas.Bool.{and_cases, or_parts, leb-false}

guard_none : {A : Type 0} (b : Bool) (x : A) → guard b (Some x) ≡ None → b ≡ false
guard_none true x e = absurd (none-some _ (sym e))
guard_none false x e = refl

-- what one more takes at most, where there are words for it
took : (m : Room) (d : Brought) (n : ℕ) → d.used ≤ n → (fits m d ≡ None → m.words < n) × ((c : Brought) → fits m d ≡ Some c → c.used ≤ n)
took m d n h = go (leb d.used m.words) refl
  where
    go : (b : Bool) → leb d.used m.words ≡ b → (guard b (Some d) ≡ None → m.words < n) × ((c : Brought) → guard b (Some d) ≡ Some c → c.used ≤ n)
    go true q = ((λ e. absurd (none-some _ (sym e))), λ c e. omega (arith, h, ap (λ z. z.used) (same_Some _ _ e)))
    go false q = ((λ e. omega (arith, h, leb-false d.used m.words q)), λ c e. absurd (none-some _ e))

module _ (ls : List Library) (m : Room) (g : ℕ) where
  one_takes : (b : Brought) (x : Name) (l : Library) → find_library ls x ≡ Some l → (bring_one ls m g b x ≡ None → m.words < b.used + (m.gap + (1 + length l.cells))) × ((c : Brought) → bring_one ls m g b x ≡ Some c → c.used ≤ b.used + (m.gap + (1 + length l.cells)))
  one_takes b x l f = go (find_loaded b.modules 0 x)
    where
      go : (o : Option ℕ) → (opt o (on_some (find_library ls x) (λ l. fits m (added m g b l))) (λ j. fits m (joined b j)) ≡ None → m.words < b.used + (m.gap + (1 + length l.cells))) × ((c : Brought) → opt o (on_some (find_library ls x) (λ l. fits m (added m g b l))) (λ j. fits m (joined b j)) ≡ Some c → c.used ≤ b.used + (m.gap + (1 + length l.cells)))
      go None = rw f (took m (added m g b l) (b.used + (m.gap + (1 + length l.cells))) (omega arith))
      go (Some j) = took m (joined b j) (b.used + (m.gap + (1 + length l.cells))) (omega arith)

  all_take : (xs : List Name) (b : Brought) → Found ls xs → bring_all ls m g xs b ≡ None → m.words < b.used + words_for ls m xs
  all_take [] b f e = absurd (none-some _ (sym e))
  all_take (x ∷ xs) b f e = let t = one_takes b x f.0.0 f.0.1 in ⊎_elim (λ (p : bring_one ls m g b x ≡ None). rw f.0.1 (omega (arith, t.0 p))) (λ p. let r = all_take xs p.0 f.1 p.2 in rw f.0.1 (omega (arith, r, t.1 p.0 p.1))) (on_some_none (bring_one ls m g b x) (λ c. bring_all ls m g xs c) e)

-- a ref that must be met and means nothing
abbrev OpenRef : Links → ℕ → List Cell → Type 0
OpenRef k i cs = (c : ℕ) × (s : Symbol) × (n : ℕ) × (slice_get cs c ≡ Some (ref s n true)) × (resolve k i s ≡ None)

one_more : (k : Links) (i : ℕ) (d : Cell) (cs : List Cell) → OpenRef k i cs → OpenRef k i (d ∷ cs)
one_more k i d cs t = (suc t.0, t.1, t.2, t.3, t.4)

cells_open : (k : Links) (i : ℕ) (cs : List Cell) → list_all (ref_met k i) cs ≡ false → OpenRef k i cs
cells_open k i [] e = let z : ◌≡◌ {A = ℕ} 0 1 = cc in absurd (omega arith)
cells_open k i (number n ∷ cs) e = one_more k i (number n) cs (cells_open k i cs e)
cells_open k i (ref s n must ∷ cs) e = ⊎_elim (λ p. here must (or_parts (not must) (is_some (resolve k i s)) p)) (λ p. one_more k i (ref s n must) cs (cells_open k i cs p)) (and_cases (not must || is_some (resolve k i s)) (list_all (ref_met k i) cs) e)
  where
    nothing : (o : Option Place) → is_some o ≡ false → o ≡ None
    nothing None q = refl
    nothing (Some p) q = let z : ◌≡◌ {A = ℕ} 0 1 = cc in absurd (omega arith)

    here : (b : Bool) → (not b ≡ false) × (is_some (resolve k i s) ≡ false) → OpenRef k i (ref s n b ∷ cs)
    here true q = (0, s, n, refl, nothing (resolve k i s) q.1)
    here false q = let z : ◌≡◌ {A = ℕ} 0 1 = cc in absurd (omega arith)
cells_open k i (at n ∷ cs) e = one_more k i (at n) cs (cells_open k i cs e)
cells_open k i (slot s ∷ cs) e = one_more k i (slot s) cs (cells_open k i cs e)
cells_open k i (named x ∷ cs) e = one_more k i (named x) cs (cells_open k i cs e)
cells_open k i (instruction o ∷ cs) e = one_more k i (instruction o) cs (cells_open k i cs e)

refs_open : (k : Links) (is : List ℕ) → refs_met k is ≡ false → (i : ℕ) × (y : Module) × (has i is ≡ true) × (slice_get k.modules i ≡ Some y) × OpenRef k i y.lib.cells
refs_open k [] e = let z : ◌≡◌ {A = ℕ} 0 1 = cc in absurd (omega arith)
refs_open k (i ∷ is) e = ⊎_elim (λ p. here (slice_get k.modules i) refl p) (λ p. let t = refs_open k is p in (t.0, t.1, has_there t.0 i is t.2, t.3, t.4)) (and_cases (opt (slice_get k.modules i) true (λ x. list_all (ref_met k i) x.lib.cells)) (refs_met k is) e)
  where
    here : (o : Option Module) → slice_get k.modules i ≡ o → opt o true (λ x. list_all (ref_met k i) x.lib.cells) ≡ false → (j : ℕ) × (y : Module) × (has j (i ∷ is) ≡ true) × (slice_get k.modules j ≡ Some y) × OpenRef k j y.lib.cells
    here None q p = let z : ◌≡◌ {A = ℕ} 0 1 = cc in absurd (omega arith)
    here (Some y) q p = (i, y, has_here i is, q, cells_open k i y.lib.cells p)

pub load_refused : LoadRefused
load_refused ls m x global k e = ⊎_elim (λ p. let t = closure_reaches.misses ls x p in not_there t.0 t.1 t.2) (λ p. let c = closure_reaches.has ls x p.0 p.1 in ⊎_elim (λ q. too_few p.0 p.1 (all_take ls m (length k.groups) p.0 (nothing_yet k) c.found q)) (λ q. let t = refs_open (with_group k q.0 global) q.0.new (guard_none (refs_met (with_group k q.0 global) q.0.new) _ q.2) in not_met p.0 q.0 t.0 t.4.0 t.1 t.4.1 t.4.2 p.1 q.1 t.2 t.3 t.4.3 t.4.4) (on_some_none (bring_all ls m (length k.groups) p.0 (nothing_yet k)) _ p.2)) (on_some_none (closure ls x) _ e)
