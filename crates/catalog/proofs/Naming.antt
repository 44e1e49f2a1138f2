-- The library of a name, by its number.
use Rattle.std.specs.Prelude.{None, Option, Some, Ok, MatchOption, cond}
use Rattle.std.specs.Option.{option_map}
use Rattle.std.proofs.Common.{◌≡◌, ℕ, zero, suc, Bool, true, false, List, [], ◌∷◌, map, sym, refl, ap, ◌∙◌}
use Rattle.std.proofs.Math.Logic.{∥∥₁_elim}
use Rattle.std.specs.Coded.{Coded-set, coded_option, coded_ℕ}
use Rattle.std.proofs.lemmas.Bool.{or_left, or_right}
use Rattle.base.specs.Names.{Name, same, among}
use Rattle.base.proofs.Names.{same_is, same_self}
use Rattle.library.specs.Library.{Library, find_library}
use Rattle.library.specs.Text.{read}
use Rattle.library.proofs.Distinct.{reads_once}
use Rattle.library.specs.Distinct.{NamedOnce}
use Rattle.library.specs.declared.types.LibraryId.{LibraryId}
use Rattle.libraries.specs.Looks.{HasName, library_no, number_of}

among_here : (x : Name) (l : Library) (ls : List Library) → same l.name x ≡ true → among x (map (λ (l : Library). l.name) (l ∷ ls)) ≡ true
among_here x l ls e = or_left _ _ (ap (same x) (same_is l.name x e) ∙ same_self x)

among_has : (ls : List Library) (k : ℕ) (x : Name) → HasName ls k x → among x (map (λ (l : Library). l.name) ls) ≡ true
among_has [] k x h = cc
among_has (l ∷ ls) zero x h = among_here x l ls h
among_has (l ∷ ls) (suc k) x h = or_right (same x l.name) _ (among_has ls k x h)

-- where no name comes twice, the library that has it is the first
first : (ls : List Library) (k : ℕ) (x : Name) → NamedOnce ls → HasName ls k x → number_of ls x ≡ Some k
first [] k x o h = cc
first (l ∷ ls) zero x o h = ap (λ b. cond b (Some 0) (option_map suc (number_of ls x))) h
first (l ∷ ls) (suc k) x o h = go (same l.name x) refl (first ls k x o.1 h)
  where
    go : (b : Bool) → same l.name x ≡ b → number_of ls x ≡ Some k → cond b (Some 0) (option_map suc (number_of ls x)) ≡ Some (suc k)
    go true e f = let p = ap (λ y. among y (map (λ (l : Library). l.name) ls)) (same_is l.name x e) in let q = sym o.0 ∙ p ∙ among_has ls k x h in cc
    go false e f = ap (option_map suc) f

none : (ls : List Library) (x : Name) → find_library ls x ≡ None → number_of ls x ≡ None
none [] x e = refl
none (l ∷ ls) x e = go (same l.name x) e (none ls x)
  where
    go : (b : Bool) → cond b (Some l) (find_library ls x) ≡ None → (find_library ls x ≡ None → number_of ls x ≡ None) → cond b (Some 0) (option_map suc (number_of ls x)) ≡ None
    go true e f = let z : ◌≡◌ {A = ℕ} 0 1 = cc in cc
    go false e f = ap (option_map suc) (f e)

-- no name comes twice in a text that is read
pub distinct : (t : List ℕ) (ls : List Library) → read t ≡ Ok ls → ∥ NamedOnce ls ∥₁
distinct t ls e = ∣ reads_once t ls e ∣₁

-- nor in no libraries
pub distinct_none : (ls : List Library) → ls ≡ [] → ∥ NamedOnce ls ∥₁
distinct_none [] e = ∣ tt ∣₁
distinct_none (l ∷ ls) e = cc

-- a library that has the name is the first that has it
pub number_is : (ls : List Library) (x : Name) (o : Option LibraryId) → ∥ NamedOnce ls ∥₁ → MatchOption o (find_library ls x ≡ None) (λ k. HasName ls k.0 x) → option_map library_no o ≡ number_of ls x
number_is ls x None d h = sym (none ls x h)
number_is ls x (Some k) d h = ∥∥₁_elim d (Coded-set (coded_option coded_ℕ) (Some k.0) (number_of ls x)) (λ o. sym (first ls k.0 x o h))
