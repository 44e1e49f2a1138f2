-- The live module of a library is the first of its name.
use Rattle.std.specs.Prelude.{Option, None, Some, cond, slice_get, slice_index}
use Rattle.std.specs.Option.{option_map, option_eq}
use Rattle.std.proofs.Common.{◌≡◌, ℕ, zero, suc, ◌+◌, ◌-◌, ◌<◌, ◌≤◌, Bool, true, false, ◌&&◌, List, [], ◌∷◌, map, length, eqb, refl, sym, ap, ◌∙◌, ⊎_elim, arith}
use Rattle.std.proofs.lemmas.Bool.{cases_eq, eqb-true, eqb-false, eq-eqb, ne_eqb, or_right, or_left}
use Rattle.std.proofs.lemmas.Option.{same_Some, none-some}
use Rattle.base.specs.Choices.{opt, on_some, guard}
use Rattle.base.specs.Names.{Name, same, among}
use Rattle.base.proofs.Lists.{all_slice_get}
use Rattle.base.proofs.Names.{same_is, same_self}
use Rattle.library.specs.Library.{Library}
use Rattle.library.specs.Distinct.{NamedOnce}
use Rattle.libraries.specs.Looks.{number_of}
use Rattle.lent.specs.Tables.{rows_in}
use Rattle.links.specs.Links as links
use Rattle.links.specs.Load.{find_loaded}
use Rattle.linkage.specs.Tables.{library_at, links_of, module_at, module_of}
use Rattle.linkage.specs.Loaded.{Known, serves}
use Rattle.linkage.specs.declared.tables.Tables.{Tables}
use Rattle.linkage.proofs.Numbered.{module_is}

abbrev name_of : Library → Name
name_of l = l.name

abbrev loaded_as : Name → links.Module → Bool
loaded_as x m = m.live && same m.lib.name x

here : (a : ℕ) (o : Option ℕ) → option_eq eqb o (Some (a + 0)) ≡ true → o ≡ Some a
here a None e = cc
here a (Some i) e = ap Some (eqb-true i (a + 0) e ∙ omega arith)

beyond : (a i : ℕ) (o : Option ℕ) → (option_eq eqb o (Some i) ≡ true → a ≤ i) → option_eq eqb o (Some (a + 0)) ≡ false → option_eq eqb o (Some i) ≡ true → suc a ≤ i
beyond a i None f e p = cc
beyond a i (Some k) f e p = ⊎_elim
    (λ (q : k ≡ a). absurd (eqb-false k (a + 0) e (omega (arith, q))))
    (λ (n : k ≡ a → ⊥). ⊎_elim
    (λ (q : i ≡ a). absurd (n (eqb-true k i p ∙ q)))
    (λ (r : i ≡ a → ⊥). omega (arith, f p, r))
    (cases_eq i a))
    (cases_eq k a)

-- the one module that is live under the name is the first; a: the number of the first in the list
first_found : (x : Name) (o : Option ℕ) (a : ℕ) (ms : List links.Module) → ((i : ℕ) → option_eq eqb o (Some i) ≡ true → a ≤ i) → ((j : ℕ) → option_eq eqb o (Some (a + j)) ≡ opt (slice_get ms j) false (loaded_as x)) → o ≡ find_loaded ms a x
first_found x None a [] f h = refl
first_found x (Some i) a [] f h = let q = f i (eq-eqb i i refl) in absurd (eqb-false i (a + (i - a)) (h (i - a)) (omega (arith, q)))
first_found x o a (m ∷ ms) f h = go (loaded_as x m) refl (first_found x o (suc a) ms)
  where
    go : (b : Bool) → loaded_as x m ≡ b → (((i : ℕ) → option_eq eqb o (Some i) ≡ true → suc a ≤ i) → ((j : ℕ) → option_eq eqb o (Some (suc a + j)) ≡ opt (slice_get ms j) false (loaded_as x)) → o ≡ find_loaded ms (suc a) x) → o ≡ cond b (Some a) (find_loaded ms (suc a) x)
    go true e r = here a o (h 0 ∙ e)
    go false e r = r (λ i p. beyond a i o (f i) (h 0 ∙ e) p) (λ j. let q : suc a + j ≡ a + suc j = omega arith in ap (λ n. option_eq eqb o (Some n)) q ∙ h (suc j))

not_named : (x : Name) (ls : List Library) (n : ℕ) → among x (map name_of ls) ≡ false → n < length ls → same (library_at ls n).name x ≡ false
not_named x [] n e b = absurd (omega (arith, b))
not_named x (l ∷ ls) zero e b = go (same l.name x) refl
  where
    go : (c : Bool) → same l.name x ≡ c → c ≡ false
    go true q = sym (or_left (same x l.name) (among x (map name_of ls)) (ap (same x) (same_is l.name x q) ∙ same_self x)) ∙ e
    go false q = refl
not_named x (l ∷ ls) (suc n) e b = go (among x (map name_of ls)) refl (λ q. not_named x ls n q (omega (arith, b)))
  where
    go : (c : Bool) → among x (map name_of ls) ≡ c → (among x (map name_of ls) ≡ false → same (library_at ls n).name x ≡ false) → same (library_at ls n).name x ≡ false
    go true q r = let z : true ≡ false = sym (or_right (same x l.name) (among x (map name_of ls)) q) ∙ e in cc
    go false q r = r q

next : (n j k : ℕ) → suc j ≡ k → eqb n j ≡ eqb (suc n) k
next n j k z = ⊎_elim
    (λ (q : n ≡ j). eq-eqb n j q ∙ sym (eq-eqb (suc n) k (omega (arith, q, z))))
    (λ (d : n ≡ j → ⊥). ne_eqb n j d ∙ sym (ne_eqb (suc n) k (λ r. d (omega (arith, r, z)))))
    (cases_eq n j)

-- the library of a number has the name exactly where it is the first that has it
named_by : (ls : List Library) (x : Name) (k n : ℕ) → NamedOnce ls → number_of ls x ≡ Some k → n < length ls → same (library_at ls n).name x ≡ eqb n k
named_by [] x k n d e b = absurd (omega (arith, b))
named_by (l ∷ ls) x k n d e b = go (same l.name x) refl (number_of ls x) refl n e b (λ j m p c. named_by ls x j m d.1 p c)
  where
    go : (c : Bool) → same l.name x ≡ c → (o : Option ℕ) → number_of ls x ≡ o → (n : ℕ) → cond c (Some 0) (option_map suc o) ≡ Some k → n < suc (length ls) → ((j m : ℕ) → number_of ls x ≡ Some j → m < length ls → same (library_at ls m).name x ≡ eqb m j) → same (library_at (l ∷ ls) n).name x ≡ eqb n k
    go true q o p zero e b f = q ∙ sym (eq-eqb 0 k (same_Some _ _ e))
    go true q o p (suc n) e b f =
        let z = same_Some _ _ e in
        not_named x ls n (ap (λ y. among y (map name_of ls)) (sym (same_is l.name x q)) ∙ d.0) (omega (arith, b))
        ∙ sym (ne_eqb (suc n) k (λ r. omega (arith, r, z)))
    go false q None p n e b f = absurd (none-some _ e)
    go false q (Some j) p zero e b f = let z = same_Some _ _ e in q ∙ sym (ne_eqb 0 k (λ r. omega (arith, r, z)))
    go false q (Some j) p (suc n) e b f = f j n p (omega (arith, b)) ∙ next n j k (same_Some _ _ e)

-- a live module of the library is one that is live under its name
serves_is : (ls : List Library) (t : Tables) (k : ℕ) (x : Name) (j : ℕ) → NamedOnce ls → Known ls t → number_of ls x ≡ Some k → serves t k j ≡ opt (slice_get (links_of ls t).modules j) false (loaded_as x)
serves_is ls t k x j d h e = go (slice_get (rows_in 3 t.modules) j) refl ∙ ap (λ o. opt o false (loaded_as x)) (sym (module_is ls t j))
  where
    asked : (b : Bool) (r : List ℕ) → same (library_at ls (slice_index r 0)).name x ≡ eqb (slice_index r 0) k → opt (guard b (Some (module_at t j r))) false (λ m. eqb m.load.library.0 k) ≡ (b && same (library_at ls (slice_index r 0)).name x)
    asked true r q = sym q
    asked false r q = refl

    go : (o : Option (List ℕ)) → slice_get (rows_in 3 t.modules) j ≡ o → opt (on_some (option_map (module_at t j) o) (λ m. guard m.live (Some m))) false (λ m. eqb m.load.library.0 k) ≡ opt (option_map (module_of ls t j) o) false (loaded_as x)
    go None q = refl
    go (Some r) q = asked (module_at t j r).live r (named_by ls x k (slice_index r 0) d e (all_slice_get (λ r. slice_index r 0 < length ls) (rows_in 3 t.modules) j r h q))

-- what says of each module whether it is the library's live one is the first of its name
pub live_named : (ls : List Library) (t : Tables) (k : ℕ) (x : Name) (o : Option ℕ) → ((i : ℕ) → option_eq eqb o (Some i) ≡ serves t k i) → NamedOnce ls → Known ls t → number_of ls x ≡ Some k → o ≡ find_loaded (links_of ls t).modules 0 x
live_named ls t k x o f d h e = first_found x o 0 (links_of ls t).modules (λ i p. omega arith) (λ j. let q : 0 + j ≡ j = omega arith in ap (λ n. option_eq eqb o (Some n)) q ∙ f j ∙ serves_is ls t k x j d h e)
