-- Choices: one combinator per way of choosing.
use Rattle.std.specs.Option.{IfSome}
use Rattle.std.specs.Result.{result_ok}
use Rattle.std.specs.Prelude.{None, Option, Some, cond}
use Rattle.std.proofs.Common.{◌≡◌, ℕ, Bool, true, false, Ok, Err, Result, refl, ap, arith}
use Rattle.base.specs.Choices.{opt, on_some, guard, on_ok}
use Rattle.std.specs.Result.{IfOk}

pub opt_none : {A C : Type 0} (o : Option A) (c : C) (f : A → C) → o ≡ None → opt o c f ≡ c
opt_none o c f e = rw e

pub opt_some : {A C : Type 0} (o : Option A) (c : C) (f : A → C) (x : A) → o ≡ Some x → opt o c f ≡ f x
opt_some o c f x e = rw e

-- what was chosen, taken apart
pub on_some_inv : {A C : Type 0} (o : Option A) (f : A → Option C) (c : C) → on_some o f ≡ Some c → (a : A) × (o ≡ Some a) × (f a ≡ Some c)
on_some_inv None f c e = let z : ◌≡◌ {A = ℕ} 0 1 = cc in absurd (omega arith)
on_some_inv (Some a) f c e = (a, refl, e)

pub guard_inv : {A : Type 0} (b : Bool) (x y : A) → guard b (Some x) ≡ Some y → (b ≡ true) × (x ≡ y)
guard_inv true x y e = (refl, cc)
guard_inv false x y e = let z : ◌≡◌ {A = ℕ} 0 1 = cc in absurd (omega arith)

-- a statement of a value, if there is one, one choice after the other
pub some_if : {A C : Type 0} (P : C → Type 0) (o : Option A) (f : A → Option C) → ((a : A) → o ≡ Some a → IfSome (f a) P) → IfSome (on_some o f) P
some_if P None f h = tt
some_if P (Some a) f h = h a refl

pub guard_if : {A : Type 0} (P : A → Type 0) (b : Bool) (o : Option A) → (b ≡ true → IfSome o P) → IfSome (guard b o) P
guard_if P true o h = h refl
guard_if P false o h = tt

-- the same for results
pub cond_ok : {A E : Type 0} (P : A → Type 0) (b : Bool) (r q : Result A E) → IfOk r P → IfOk q P → IfOk (cond b r q) P
cond_ok P true r q x y = x
cond_ok P false r q x y = y

pub on_ok_if : {A C E : Type 0} (P : C → Type 0) (r : Result A E) (f : A → Result C E) → ((a : A) → r ≡ Ok a → IfOk (f a) P) → IfOk (on_ok r f) P
on_ok_if P (Ok a) f h = h a refl
on_ok_if P (Err e) f h = tt

pub ok_part_inv : {A E : Type 0} (r : Result A E) (a : A) → result_ok r ≡ Some a → r ≡ Ok a
ok_part_inv (Ok x) a e = let p : x ≡ a = cc in ap Ok p
ok_part_inv (Err q) a e = let z : ◌≡◌ {A = ℕ} 0 1 = cc in absurd (omega arith)
